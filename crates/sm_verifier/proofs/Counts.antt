-- Counts stay small, and grow with each stream.
use Rattle.std.proofs.Common.{◌≡◌, ℕ, ◌+◌, ◌*◌, ◌<◌, ◌≤◌, ◌^◌, Bool, List, length, get_or, take, slice_index, arith, inl, inr}
use Rattle.std.specs.Prelude.{All}
use Rattle.std.specs.List.{sum_by, count_by}
use Rattle.std.proofs.lemmas.Bool.{cases_lt}
use Rattle.std.proofs.lemmas.List.Sums.{sum_by-le, sum_by-take-le, count_by-le-length}
use Rattle.std.proofs.lemmas.List.{get_or_past}
use Rattle.sm_plan_code.specs.declared.instruction.Instr.{Instr}
use Rattle.sm_plan_code.specs.Plan.{StreamModel, IsSmallStream}

-- counts of no more than 4096 in each of 64 streams, and 4096 more
pub few : {X : Type 0} (f : X → ℕ) (xs : List X) (old new : List ℕ) (i k n : ℕ) → length xs ≤ 64 → All (λ x. f x ≤ 4096) xs → n ≤ 4096 → slice_index old k ≡ 0 → length new ≡ length old → (k < length old → slice_index new k ≡ slice_index old k + sum_by f (take i xs)) → slice_index new k + n < 2 ^ 32
few f xs old new i k n count small short none same each =
    let all : sum_by f xs ≤ length xs * 4096 = sum_by-le f 4096 xs small in
    let part : sum_by f (take i xs) ≤ sum_by f xs = sum_by-take-le f xs i in
    elim (cases_lt k (length old)) [
      | inl within ↦ let e = each within in omega arith
      | inr past ↦ let e : slice_index new k ≡ 0 = get_or_past new k 0 (omega arith) in omega arith
    ]

-- what is counted in a small stream
pub small_counts : (p : Instr → Bool) (streams : List StreamModel) → All IsSmallStream streams → All (λ s. count_by p s.code ≤ 4096) streams
small_counts p streams small =
    λ j d l. let code = (small j d l).code in omega (arith, count_by-le-length p (get_or streams j d).code)
