-- In how many regions servers lie that pass one of two tests that agree.
use Rattle.std.proofs.Common.{◌≡◌, ◌<◌, ◌∙◌, inl, inr, ℕ, Bool, true, false, ◌&&◌, length, sym, refl, arith}
use Rattle.std.specs.Prelude.{not}
use Rattle.std.proofs.lemmas.Bool.{cases_Bool}
use Rattle.sm_placement.specs.Sums.{any_below, bit}
use Rattle.sm_placement.specs.Setup.{Setup}
use Rattle.sm_placement.proofs.Searches.{any_none, any_none_from}
use Rattle.sm_placement.proofs.Sums.{same_sum}
use Rattle.sm_planner.specs.Spread.{same_region, region_count}

-- tests that agree are passed by servers of as many regions
pub same_any : (n : ℕ) (t r : ℕ → Bool) → ((k : ℕ) → k < n → t k ≡ r k) → any_below n t ≡ any_below n r
same_any n t r h = elim (cases_Bool (any_below n t)) [
  | inl e ↦ e ∙ sym (elim (cases_Bool (any_below n r)) [
    | inl q ↦ q
    | inr q ↦ absurd (let z : any_below n t ≡ false = any_none_from n t (λ k l. h k l ∙ any_none n r q k l) in let y : true ≡ false = sym e ∙ z in cc)
  ])
  | inr e ↦ e ∙ sym (any_none_from n r (λ k l. sym (h k l) ∙ any_none n t e k l))
]

-- servers that pass either of two tests that agree lie in as many regions
pub same_regions : (setup : Setup) (f g : ℕ → Bool) → ((v : ℕ) → v < length setup.servers → f v ≡ g v) → region_count setup f ≡ region_count setup g
same_regions setup f g h =
    same_sum (length setup.servers) (λ v. bit (f v && not (any_below v (λ u. f u && same_region setup u v)))) (λ v. bit (g v && not (any_below v (λ u. g u && same_region setup u v))))
    (λ v l. rw (h v l, same_any v (λ u. f u && same_region setup u v) (λ u. g u && same_region setup u v) (λ u m. rw (h u (omega arith)) refl)) refl)

-- where the first of two holds, both do exactly where the second does
pub both_is : (x y : Bool) → x ≡ true → y ≡ (x && y)
both_is true y e = refl
both_is false y e = cc
