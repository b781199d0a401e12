-- The permits of a driver at its opening: one of before, or a new one.
use Rattle.std.proofs.Common.{◌≡◌, ◌<◌, ◌∙◌, ◌⊎◌, ℕ, zero, suc, Bool, true, false, Option, Some, None, List, [], ◌∷◌, length, refl, sym, arith, inl, inr}
use Rattle.std.specs.Prelude.{if◌then◌else◌, map, slice_get}
use Rattle.std.specs.Option.{option_or}
use Rattle.std.proofs.lemmas.Bool.{cases_lt}
use Rattle.std.proofs.lemmas.List.{get_or_past}
use Rattle.std.proofs.lemmas.List.FromFn.{get_or-map-range_with_len, length-map-range_with_len}
use Rattle.sm_driver.specs.Permits.{new_permit, opening_permit, opening_permits, permit_of}

-- a permit that is there is of a number that has one
pub within_permits : (permits : List (Option ℕ)) (v permit : ℕ) → permit_of permits v ≡ Some permit → v < length permits
within_permits permits v permit e = elim (cases_lt v (length permits)) [
  | inl l ↦ l
  | inr past ↦ absurd (let none = get_or_past permits v None past in cc)
]

-- a permit in new numbers was that of the server by its old number
pub permit_was : (before : List (Option ℕ)) (numbers : List ℕ) (v permit : ℕ) → permit_of (map (permit_of before) numbers) v ≡ Some permit →
    (j : ℕ) × (slice_get numbers v ≡ Some j) × (permit_of before j ≡ Some permit)
permit_was before [] v permit e = absurd (cc)
permit_was before (j ∷ numbers) zero permit e = (j, refl, e)
permit_was before (j ∷ numbers) (suc v) permit e = permit_was before numbers v permit e

-- a permit at an opening was there before, or is the new one of its server
pub permits_kept : (base : ℕ) (before : List (Option ℕ)) (servers : ℕ) (down : ℕ → Bool) (v permit : ℕ) → permit_of (opening_permits base before servers down) v ≡ Some permit →
    (permit_of before v ≡ Some permit) ⊎ (permit ≡ new_permit base v)
permits_kept base before servers down v permit e = elim (cases_lt v servers) [
  | inl l ↦ by_down (down v) (sym (get_or-map-range_with_len (opening_permit base before down) 0 servers v v None l (omega arith)) ∙ e)
  | inr past ↦ absurd (let l = within_permits (opening_permits base before servers down) v permit e in let n = length-map-range_with_len (opening_permit base before down) 0 servers in omega arith)
]
  where
    by_before : (o : Option ℕ) → permit_of before v ≡ o → option_or o (Some (new_permit base v)) ≡ Some permit → (permit_of before v ≡ Some permit) ⊎ (permit ≡ new_permit base v)
    by_before None f g = inr (cc)
    by_before (Some old) f g = inl (f ∙ g)

    by_down : (b : Bool) → (if b then option_or (permit_of before v) (Some (new_permit base v)) else None) ≡ Some permit → (permit_of before v ≡ Some permit) ⊎ (permit ≡ new_permit base v)
    by_down true g = by_before (permit_of before v) refl g
    by_down false g = absurd (cc)
