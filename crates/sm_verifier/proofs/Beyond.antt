-- Beyond the counts of the configuration nothing is declared.
use Rattle.std.proofs.Common.{◌≡◌, ℕ, ◌<◌, ◌≤◌, List, [], ◌∷◌, refl, ap, inl, inr, arith}
use Rattle.std.specs.Prelude.{All, sum_by}
use Rattle.std.specs.List.{AllByRecursion}
use Rattle.std.proofs.lemmas.Bool.{cases_Bool}
use Rattle.std.proofs.lemmas.List.Elements.{recursion_from_All}
use Rattle.std.proofs.lemmas.List.Sums.{sum_by-cons}
use Rattle.sm_reservation.specs.declared.right.Room.{Room}
use Rattle.sm_reservation.specs.declared.right.Spare.{Spare}
use Rattle.sm_reservation.specs.Rows.{same, amount_at}
use Rattle.sm_reservation.specs.HoldOf.{hold_of}
use Rattle.sm_reservation.proofs.Places.{same_is}
use Rattle.sm_plan_code.specs.Plan.{StreamModel, IsKnownStream}
use Rattle.sm_verifier.specs.Admission.{declared_room, declared_spare}

-- no row stands at a number that all rows are below
none_beyond : {T : Type 0} (number amount : T → ℕ) (n v : ℕ) (xs : List T) → n ≤ v → AllByRecursion (λ x. number x < n) xs → amount_at (λ x. (number x, 0)) amount xs (v, 0) ≡ 0
none_beyond number amount n v [] past all = refl
none_beyond number amount n v (x ∷ xs) past all = elim (cases_Bool (same (number x, 0) (v, 0))) [
  | inl here ↦
      let is : ◌≡◌ {A = ℕ × ℕ} (number x, 0) (v, 0) = same_is (number x, 0) (v, 0) here in
      let at : number x ≡ v = ap (λ (q : ℕ × ℕ). q.0) is in
      let below : number x < n = all.0 in
      absurd (omega arith)
  | inr other ↦ rw other (none_beyond number amount n v xs past all.1)
]

room_beyond : (shards servers v : ℕ) (stream : StreamModel) → servers ≤ v → IsKnownStream shards servers stream → (hold_of stream.holds).room v ≡ 0
unfolding hold_of
room_beyond shards servers v stream past fits = none_beyond (λ (x : Room). x.server) (λ x. x.amount) servers v stream.holds.room past (recursion_from_All (λ x. x.server < servers) stream.holds.room fits.holds.room)

spare_beyond : (shards servers s : ℕ) (stream : StreamModel) → shards ≤ s → IsKnownStream shards servers stream → (hold_of stream.holds).spare s ≡ 0
unfolding hold_of
spare_beyond shards servers s stream past fits = none_beyond (λ (x : Spare). x.shard) (λ x. x.amount) shards s stream.holds.spare past (recursion_from_All (λ x. x.shard < shards) stream.holds.spare fits.holds.spare)

sum_none : (f : StreamModel → ℕ) (P : StreamModel → Type 0) → ((x : StreamModel) → P x → f x ≡ 0) → (xs : List StreamModel) → AllByRecursion P xs → sum_by f xs ≡ 0
sum_none f P zeroes [] all = refl
sum_none f P zeroes (x ∷ xs) all =
    let a = sum_by-cons f x xs in
    let b = zeroes x all.0 in
    let d = sum_none f P zeroes xs all.1 in
    omega arith

-- streams of known servers declare no room of any other
pub no_room_beyond : (shards servers v : ℕ) (xs : List StreamModel) → servers ≤ v → All (IsKnownStream shards servers) xs → declared_room xs v ≡ 0
no_room_beyond shards servers v xs past fits = sum_none (λ stream. (hold_of stream.holds).room v) (IsKnownStream shards servers) (λ x. room_beyond shards servers v x past) xs (recursion_from_All (IsKnownStream shards servers) xs fits)

-- streams of known shards declare no spare replicas of any other
pub no_spare_beyond : (shards servers s : ℕ) (xs : List StreamModel) → shards ≤ s → All (IsKnownStream shards servers) xs → declared_spare xs s ≡ 0
no_spare_beyond shards servers s xs past fits = sum_none (λ stream. (hold_of stream.holds).spare s) (IsKnownStream shards servers) (λ x. spare_beyond shards servers s x past) xs (recursion_from_All (IsKnownStream shards servers) xs fits)
