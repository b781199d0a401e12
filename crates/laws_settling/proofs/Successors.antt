-- The lowest server with the best claim to a shard inherits it.
use Rattle.std.proofs.Common.{◌≡◌, ◌≤◌, ◌<◌, ◌⊎◌, ℕ, zero, suc, ap, inl, inr, arith, not, true, Some}
use Rattle.std.specs.Prelude.{nat_lt}
use Rattle.std.proofs.lemmas.Bool.{and_from, and_parts, cases_eq, cases_lt, le-ltb, lt-ltb, ltb-false, ltb-true, not-true}
use Rattle.sm_placement.specs.Sums.{any_below}
use Rattle.sm_placement.proofs.Searches.{any_none, any_none_from, cases_Option, first_none, first_some}
use Rattle.laws_network.specs.Reopening.{Reopening}
use Rattle.laws_settling.specs.Inheriting.{claim_by, has_best, successor}

-- there is no value above 0 below n, or there is a greatest
greatest : (n : ℕ) (f : ℕ → ℕ) → ((v : ℕ) → v < n → f v ≤ 0) ⊎ ((u : ℕ) × (u < n) × (1 ≤ f u) × ((v : ℕ) → v < n → f v ≤ f u))
greatest zero f = inl (λ v l. absurd (omega arith))
greatest (suc n) f = elim (greatest n f) [
  | inl none ↦ elim (cases_lt 0 (f n)) [
    | inl above ↦ inr (n, omega arith, omega arith, λ v l. elim (cases_eq v n) [ inl e ↦ (let z = ap f e in omega arith) | inr e ↦ (let z = none v (omega arith) in omega arith) ])
    | inr low ↦ inl (λ v l. elim (cases_eq v n) [ inl e ↦ (let z = ap f e in omega arith) | inr e ↦ none v (omega arith) ])
  ]
  | inr best ↦ elim (cases_lt (f best.0) (f n)) [
    | inl above ↦ inr (n, omega arith, omega arith, λ v l. elim (cases_eq v n) [ inl e ↦ (let z = ap f e in omega arith) | inr e ↦ (let z = best.3 v (omega arith) in omega arith) ])
    | inr low ↦ inr (best.0, (let z = best.1 in omega arith), best.2, λ v l. elim (cases_eq v n) [ inl e ↦ (let z = ap f e in omega arith) | inr e ↦ best.3 v (omega arith) ])
  ]
]

module _ (r : Reopening) (n k : ℕ) where
  -- who inherits has a claim, and none has a better one
  pub successor_is : (u : ℕ) → successor r n k ≡ Some u → (u < n) × (1 ≤ claim_by r k u) × ((v : ℕ) → v < n → claim_by r k v ≤ claim_by r k u)
  successor_is u e =
      let found = first_some n (has_best r n k) u e in
      let parts = and_parts (nat_lt 0 (claim_by r k u)) (not (any_below n (λ v. nat_lt (claim_by r k u) (claim_by r k v)))) found.1 in
      let none = any_none n (λ v. nat_lt (claim_by r k u) (claim_by r k v)) (not-true (any_below n (λ v. nat_lt (claim_by r k u) (claim_by r k v))) parts.1) in
      (found.0, ltb-true 0 (claim_by r k u) parts.0, λ v l. ltb-false (claim_by r k u) (claim_by r k v) (none v l))

  best_passes : (u : ℕ) → 1 ≤ claim_by r k u → ((v : ℕ) → v < n → claim_by r k v ≤ claim_by r k u) → has_best r n k u ≡ true
  best_passes u some best = and_from (nat_lt 0 (claim_by r k u)) (not (any_below n (λ v. nat_lt (claim_by r k u) (claim_by r k v)))) (lt-ltb 0 (claim_by r k u) some)
      (ap not (any_none_from n (λ v. nat_lt (claim_by r k u) (claim_by r k v)) (λ v l. le-ltb (claim_by r k u) (claim_by r k v) (best v l))))

  -- where a server has a claim, one inherits
  pub one_inherits : (v : ℕ) → v < n → 1 ≤ claim_by r k v → (u : ℕ) × (successor r n k ≡ Some u)
  one_inherits v below some = elim (cases_Option (successor r n k)) [
    | inr found ↦ found
    | inl none ↦ elim (greatest n (claim_by r k)) [
      | inl low ↦ absurd (let z = low v below in omega arith)
      | inr best ↦ absurd (let a = first_none n (has_best r n k) none best.0 best.1 in let b = best_passes best.0 best.2 best.3 in cc)
    ]
  ]
