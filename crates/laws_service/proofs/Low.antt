-- Versions at a driver's opening are low: so they are at the openings of its next epochs.
use Rattle.std.proofs.Common.{◌≡◌, ◌<◌, ◌∙◌, ℕ, Bool, true, false, Option, Some, None, List, map, refl, sym, ap, subst, arith, inl, inr}
use Rattle.std.specs.Prelude.{nat_le, slice_get, ◌==◌, if◌then◌else◌}
use Rattle.std.proofs.lemmas.Bool.{cases_lt, leb-false}
use Rattle.sm_placement.proofs.Searches.{first_from_none}
use Rattle.sm_plan_code.specs.declared.limits.TheConstants.{MOST_PLACES}
use Rattle.sm_protocol.specs.State.{State}
use Rattle.sm_protocol.specs.Steps.{Answered, Outcome}
use Rattle.sm_protocol.specs.declared.event.Played.{Played}
use Rattle.sm_protocol.specs.Happens.{Approve, Begin, Done, Happening, Step, happens}
use Rattle.sm_protocol.specs.Next.{unfinished_plans}
use Rattle.sm_protocol.proofs.Reached.{run_same, same_machine}
use Rattle.sm_driver.specs.Advance.{IsAdvanced}
use Rattle.sm_driver.specs.Driver.{DriverModel, record_of}
use Rattle.sm_driver.specs.Epochs.{fault_by, last_epoch, shard_spent}
use Rattle.laws_driver.specs.Control.{ApproveRestart, BeginPlan, Command, EndRestart, JournalEntry, NoteCopies, OpenEpoch, RestoreServer, TakeAnswer, Writes}
use Rattle.laws_service.specs.Controlled.{AreLow}
use Rattle.laws_service.proofs.Versions.{AreVersionsRaised}

-- an event leaves the placement of the opening
event_opening : (w new : State) (e : Happening) (answer : Played) → happens w e ≡ (Answered answer, new) → new.opening ≡ w.opening
event_opening w new e answer h = sym (ap (λ (o : Outcome × State). o.1.opening) h) ∙ (same_machine w e).opening

-- so do local steps
advance_opening : (w new : State) → IsAdvanced w new → new.opening ≡ w.opening
advance_opening w new a = ap (λ (s : State). s.opening) a.state ∙ (run_same (map Step a.streams) w).opening

-- an epoch that has no fault has no shard whose version is spent
no_fault : (plan : Option ℕ) (last : Bool) (spent : Option ℕ) → fault_by plan last spent ≡ None → spent ≡ None
no_fault None false None e = refl
no_fault (Some plan) last spent e = absurd (cc)
no_fault None true spent e = absurd (cc)
no_fault None false (Some shard) e = absurd (cc)

unspent : (w : State) (s : ℕ) → shard_spent w ≡ None → s < w.sizes.shards → w.place.version s < MOST_PLACES
unspent w s e l = go (nat_le MOST_PLACES (w.place.version s)) refl (first_from_none spent 0 w.sizes.shards e s (omega arith) (omega arith))
  where
    spent : ℕ → Option ℕ
    spent k = if nat_le MOST_PLACES (w.place.version k) then Some k else None

    go : (b : Bool) → nat_le MOST_PLACES (w.place.version s) ≡ b → (if b then Some s else None) ≡ None → w.place.version s < MOST_PLACES
    go true f g = absurd (cc)
    go false f g = let n = leb-false MOST_PLACES (w.place.version s) f in omega arith

-- the same opening has the same versions
low_same : (old new : State) → new.opening ≡ old.opening → AreLow old.opening.version → AreLow new.opening.version
low_same old new e low = subst (λ p. AreLow p.version) (sym e) low

-- so the versions at the opening are low once a command has come
pub low_stays : (command : Command) (old new : DriverModel) (es : List JournalEntry) → AreVersionsRaised (record_of old) → AreLow (record_of old).opening.version → Writes command old new es → AreLow (record_of new).opening.version
low_stays (BeginPlan plan) old new es raised low h =
    low_same (record_of old) (record_of new) (advance_opening h.1.between (record_of new) h.1.advanced ∙ event_opening (record_of old) h.1.between (Begin plan) _ h.1.begun) low
low_stays (TakeAnswer id number) old new es raised low h =
    low_same (record_of old) (record_of new) (advance_opening h.0.between (record_of new) h.0.advanced ∙ event_opening (record_of old) h.0.between (Step id) _ h.0.step) low
low_stays (ApproveRestart v) old new es raised low h = low_same (record_of old) (record_of new) (event_opening (record_of old) (record_of new) (Approve v) _ h.1.event) low
low_stays (EndRestart permit server_base) old new es raised low h = low_same (record_of old) (record_of new) (event_opening (record_of old) (record_of new) (Done h.0) _ h.1.event) low
low_stays (RestoreServer v nonce) old new es raised low h = low_same (record_of old) (record_of new) (ap (λ (d : DriverModel). (record_of d).opening) h.0.told) low
low_stays (NoteCopies s copies) old new es raised low h = low_same (record_of old) (record_of new) (ap (λ (d : DriverModel). (record_of d).opening) h.0) low
low_stays OpenEpoch old new es raised low h = subst (λ (w : State). AreLow w.opening.version) (sym h.0.state) before
  where
    w : State
    w = record_of old

    none : shard_spent w ≡ None
    none = no_fault (slice_get (unfinished_plans w) 0) (old.epoch == last_epoch) (shard_spent w) h.1

    before : AreLow w.place.version
    before s = elim (cases_lt s w.sizes.shards) [
      | inl known ↦ unspent w s none known
      | inr unknown ↦ let e = raised.unknown s unknown in let l = low s in omega arith
    ]
