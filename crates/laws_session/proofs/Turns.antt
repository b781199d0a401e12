-- Each change is a command, and each command a turn.
use Rattle.std.proofs.Common.{◌≡◌, refl, sym, ap, ◌∙◌, subst, List, [], ◌∷◌, ◌++◌}
use Rattle.laws_network.specs.Words.{Begin}
use Rattle.laws_network.specs.Controller.{Approve, Ended, Made, Opened, Restored}
use Rattle.sm_driver.specs.Driver.{record_of}
use Rattle.laws_driver.specs.Control.{ApproveRestart, BeginPlan, EndRestart, NoteCopies, OpenEpoch, RestoreServer, TakeAnswer, free_steps}
use Rattle.laws_driver.specs.ControlLaws.{AnswersHaveEntries}
use Rattle.laws_driver.specs.Driven.{AllTurnsFit, Driven, EachDriven, IsDrivenReached, Takes, Turn, TurnFits, after_turn, after_turns}
use Rattle.smpland_session.specs.Changes.{Approves, Begins, Ends, Notes, OpensEpoch, Restores, Takes as Answers}
use Rattle.laws_session.specs.Turns.{ChangesAreCommands, ChangesAreTurns}

-- each change is one of a command of the driver
pub changes_are_commands : AnswersHaveEntries → ChangesAreCommands
changes_are_commands answers old new (Begins b) = (BeginPlan b.0, free_steps b.3.advanced.streams ++ Made (Begin b.0) ∷ [], b.2, (b.1, b.3, refl))
changes_are_commands answers old new (Answers a) = let es = answers a.0 a.1 old new a.2 a.3 in (TakeAnswer a.0 a.1, es.0, tt, es.1)
changes_are_commands answers old new (Approves a) = (ApproveRestart a.0, Made (Approve a.0) ∷ [], a.2, (a.1, a.3, refl))
changes_are_commands answers old new (Ends permit base e) = (EndRestart permit base, Ended e.0 permit ∷ [], tt, (e.0, e.1, refl))
changes_are_commands answers old new (Restores r) = (RestoreServer r.0 r.1, Restored r.0 r.1 ∷ [], tt, (r.2, refl))
changes_are_commands answers old new (Notes n) = (NoteCopies n.0 n.1.copies, [], n.2.0, (n.2.2, refl))
changes_are_commands answers old new (OpensEpoch o) = (OpenEpoch, Opened (record_of old).room ∷ [], tt, (o.1, o.0, refl))

-- ---- turns

-- turns after turns
turns_append : (ts us : List Turn) (x : Driven) → after_turns (ts ++ us) x ≡ after_turns us (after_turns ts x)
turns_append [] us x = refl
turns_append (t ∷ ts) us x = turns_append ts us (after_turn x t)

-- what fits after what fits
fits_append : (ts us : List Turn) (x : Driven) → AllTurnsFit ts x → AllTurnsFit us (after_turns ts x) → AllTurnsFit (ts ++ us) x
fits_append [] us x a b = b
fits_append (t ∷ ts) us x a b = (a.0, fits_append ts us (after_turn x t) a.1 b)

-- one turn more
one_more : (x : Driven) (t : Turn) → IsDrivenReached x → TurnFits x t → IsDrivenReached (after_turn x t)
one_more x t r fit = record {
  first = r.first;
  opening = r.opening;
  turns = r.turns ++ t ∷ [];
  fit = fits_append r.turns (t ∷ []) r.first r.fit (subst (λ y. TurnFits y t) r.state fit, tt);
  state = ap (λ y. after_turn y t) r.state ∙ sym (turns_append r.turns (t ∷ []) r.first);
}

-- so it is a turn by any of its entries that tell the truth
pub changes_are_turns : ChangesAreCommands → EachDriven ChangesAreTurns
changes_are_turns commands x r new change =
    let c = commands x.driver new change in
    (c.0, c.2, (c.1, c.3), λ es writes truth. one_more x (Takes c.0 new es) r (c.2, writes, truth))
