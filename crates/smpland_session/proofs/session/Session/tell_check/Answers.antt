use Rattle.std.proofs.Common.{◌≡◌, ◌∙◌, Option, OnOk, ap, subst, sym}
use Rattle.std.specs.Borrow.{Bor}
use Rattle.std.specs.Prelude.{option_map}
use Rattle.json_tree.specs.View.{view}
use Rattle.smpland_state.specs.declared.journal_state.JournalState.{JournalState}
use Rattle.smpland_session.specs.Checks.{TellsCheck}
use Rattle.smpland_session.specs.Questions.{TellsOf}
use Rattle.smpland_session.proofs.session.Session.tell_check.Goals as goal

-- The journal in force is told of.
pub returns-in-Some : goal.returns-in-Some
returns-in-Some c =
    let value = view c.args.plan.now in
    let found = sym (ap (λ (f : Option (Bor JournalState)). option_map (λ o. o.now) f) c.in-Some.is) ∙ c.in_force.ensures in
    subst (λ (f : Option JournalState). OnOk c.write_check.result (TellsOf f (λ o. TellsCheck o.driver value) c.args.writer.now.tokens c.write_check.new.writer.tokens))
    found c.write_check.ensures

pub returns-in-None : goal.returns-in-None
returns-in-None c =
    let value = view c.args.plan.now in
    let found = sym (ap (λ (f : Option (Bor JournalState)). option_map (λ o. o.now) f) c.in-None.is) ∙ c.in_force.ensures in
    subst (λ (f : Option JournalState). OnOk c.refuse_closed.result (TellsOf f (λ o. TellsCheck o.driver value) c.args.writer.now.tokens c.refuse_closed.new.writer.tokens))
    found c.refuse_closed.ensures
