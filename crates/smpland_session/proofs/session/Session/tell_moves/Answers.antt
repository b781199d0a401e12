use Rattle.std.proofs.Common.{◌≡◌, ◌∙◌, Option, OnOk, ap, subst, sym}
use Rattle.std.specs.Borrow.{Bor}
use Rattle.std.specs.Prelude.{option_map}
use Rattle.smpland_state.specs.declared.journal_state.JournalState.{JournalState}
use Rattle.smpland_session.specs.Planned.{TellsMoves}
use Rattle.smpland_session.specs.Questions.{TellsOf}
use Rattle.smpland_session.proofs.session.Session.tell_moves.Goals as goal

-- The journal in force is told of.
pub returns-in-Some : goal.returns-in-Some
returns-in-Some c =
    let found = sym (ap (λ (f : Option (Bor JournalState)). option_map (λ o. o.now) f) c.in-Some.is) ∙ c.in_force.ensures in
    subst (λ (f : Option JournalState). OnOk c.write_moves.result (TellsOf f (λ o. TellsMoves o.driver.machine) c.args.writer.now.tokens c.write_moves.new.writer.tokens))
    found c.write_moves.ensures

pub returns-in-None : goal.returns-in-None
returns-in-None c =
    let found = sym (ap (λ (f : Option (Bor JournalState)). option_map (λ o. o.now) f) c.in-None.is) ∙ c.in_force.ensures in
    subst (λ (f : Option JournalState). OnOk c.refuse_closed.result (TellsOf f (λ o. TellsMoves o.driver.machine) c.args.writer.now.tokens c.refuse_closed.new.writer.tokens))
    found c.refuse_closed.ensures
