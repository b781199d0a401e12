-- If no plan is unfinished and no version is too high, the next epoch can open on the placement as it is recorded.
use Rattle.std.proofs.Common.{◌≡◌, ◌∙◌, ◌+◌, ◌<◌, ◌≤◌, ℕ, zero, suc, Bool, true, false, Option, Some, None, ◌∷◌, length, refl, ap, arith, inl, inr}
use Rattle.std.specs.Prelude.{nat_le, slice_get, if◌then◌else◌}
use Rattle.std.specs.List.{filter, range_with_len}
use Rattle.std.proofs.lemmas.Bool.{cases_eq, leb-false}
use Rattle.sm_placement.specs.Setup.{Setup}
use Rattle.sm_placement.specs.Lead.{IsSettled}
use Rattle.sm_placement.specs.SafePlace.{IsSafePlace}
use Rattle.sm_placement.specs.declared.limits.TheConstants.{MOST_VERSION}
use Rattle.sm_placement.proofs.Searches.{first_from_none}
use Rattle.sm_plan_code.specs.declared.limits.TheConstants.{MOST_PLACES}
use Rattle.sm_protocol.specs.State.{State, is_unfinished}
use Rattle.sm_protocol.specs.Next.{unfinished_plans}
use Rattle.sm_protocol.specs.Laws.{AreDone, IsReached}
use Rattle.laws_network.proofs.Resting.{rests_settled}
use Rattle.sm_driver.specs.Epochs.{fault_by, shard_spent}

-- if no number passes, each fails
none_pass : (t : ℕ → Bool) (a n : ℕ) → slice_get (filter t (range_with_len a n)) 0 ≡ None → (k : ℕ) → a ≤ k → k < a + n → t k ≡ false
none_pass t a zero e k low high = absurd (omega arith)
none_pass t a (suc n) e k low high = go (none_pass t (a + 1) n) (t a) refl e
  where
    go : (slice_get (filter t (range_with_len (a + 1) n)) 0 ≡ None → (j : ℕ) → a + 1 ≤ j → j < a + 1 + n → t j ≡ false) → (b : Bool) → t a ≡ b →
        slice_get (if b then a ∷ filter t (range_with_len (a + 1) n) else filter t (range_with_len (a + 1) n)) 0 ≡ None → t k ≡ false
    go rest true here none = absurd (cc)
    go rest false here none = elim (cases_eq k a) [
      | inl same ↦ ap t same ∙ here
      | inr apart ↦ rest none k (omega arith) (omega arith)
    ]

-- a state without an unfinished plan is at rest
pub are_done : (w : State) → slice_get (unfinished_plans w) 0 ≡ None → AreDone w
are_done w e k l = none_pass (is_unfinished w) 0 (length w.plans) e k (omega arith) (omega arith)

-- so a placement at rest is settled
pub rest_is_settled : (setup : Setup) (w : State) → IsReached setup w → AreDone w → IsSafePlace w.sizes w.place → shard_spent w ≡ None → IsSettled w.sizes w.place
rest_is_settled setup w reached done safe none =
    rests_settled setup w reached done safe (λ s l. low s (nat_le MOST_PLACES (w.place.version s)) refl (first_from_none spent 0 w.sizes.shards none s (omega arith) (omega arith)))
  where
    spent : ℕ → Option ℕ
    spent s = if nat_le MOST_PLACES (w.place.version s) then Some s else None

    low : (s : ℕ) (b : Bool) → nat_le MOST_PLACES (w.place.version s) ≡ b → (if b then Some s else None) ≡ None → w.place.version s ≤ MOST_VERSION
    low s true e f = absurd (cc)
    low s false e f = let below = leb-false MOST_PLACES (w.place.version s) e in omega arith

-- without a fault no plan is unfinished, the epoch is not the last, and no version is too high
pub no_fault : (plan : Option ℕ) (last : Bool) (spent : Option ℕ) → fault_by plan last spent ≡ None → (plan ≡ None) × (last ≡ false) × (spent ≡ None)
no_fault None false None e = (refl, refl, refl)
no_fault (Some plan) last spent e = absurd (cc)
no_fault None true spent e = absurd (cc)
no_fault None false (Some shard) e = absurd (cc)
