-- The last settle brings what was settled into force. With any other the reopening stays under way.
use Rattle.std.proofs.Common.{◌≡◌, ◌∙◌, Some, arith, rules, subst, sym}
use Rattle.smpland_reopening_lines.specs.declared.outcome.ReopeningOutcome.TheVariants as outcome
use Rattle.smpland_session.specs.Changes.{OpensFrom, OpensOf}
use Rattle.smpland_session.proofs.Reopenings.{comes_by_last, goes_on_by}
use Rattle.smpland_session.proofs.reopening.take_settle.Goals.{in-Complete+in_ok-put_in_force-in-Complete, in-Fenced+in-Some-1, in-Fenced+in-None-1}
use Rattle.smpland_session.proofs.reopening.take_settle.Goals as goal

pub returns : goal.returns
returns c =
    let was : Some c.in-Some.current ≡ c.args.under_way.now = (let v = c.in-Some.ensures.value in let i = c.in-Some.is in cc) in
    elim c.match-came.branch [
      | in-Complete+in_ok-put_in_force-in-Complete w ↦
          comes_by_last c.args.answer.server c.args.answer.base c.in-Some.current c.take_settled-came.new.reopening c.take_settled-came.result _ _ _ _
          w.in-Complete.is was c.take_settled-came.ensures (w.under_way-is ∙ c.take.ensures.after)
          (subst (OpensOf c.take_settled-came.new.reopening) (sym w.opened-is) w.in_ok-put_in_force-in-Complete.ensures.in_force)
          (subst (OpensFrom c.take_settled-came.new.reopening) (sym w.opened-is) w.in_ok-put_in_force-in-Complete.ensures.opened)
      | in-Fenced+in-Some-1 w ↦
          goes_on_by c.args.answer.server c.args.answer.base c.in-Some.current c.take_settled-came.new.reopening c.take_settled-came.result _ _ _ _
          (λ e. first_of (search (rules, e, w.in-Fenced.is), grind (arith, e, w.in-Fenced.is))) was c.take_settled-came.ensures w.under_way-is w.opened-is
      | in-Fenced+in-None-1 w ↦
          goes_on_by c.args.answer.server c.args.answer.base c.in-Some.current c.take_settled-came.new.reopening c.take_settled-came.result _ _ _ _
          (λ e. first_of (search (rules, e, w.in-Fenced.is), grind (arith, e, w.in-Fenced.is))) was c.take_settled-came.ensures w.under_way-is w.opened-is
    ]
