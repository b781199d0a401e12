-- Elements of a list by the first place where a test passes, and what is left when they are taken out or put back.
use Rattle.std.proofs.Common.{◌≡◌, ◌<◌, ◌∷◌, [], ℕ, zero, suc, Bool, true, false, List, Option, Some, None, length, refl, sym, ap, subst, arith}
use Rattle.std.specs.Prelude.{slice_index_or, slice_set, find}
use Rattle.std.specs.List.{list_any, remove}
use Rattle.sm_protocol.specs.Hand.{without_first}
use Rattle.sm_machine.specs.Hand.{IsFirstPlace}

module _ {T : Type 0} (test : T → Bool) where
  -- a list has the same first place as one that is equal to it
  pub first_in : (xs ys : List T) (o p : Option ℕ) → xs ≡ ys → o ≡ p → IsFirstPlace test xs o → IsFirstPlace test ys p
  first_in xs ys o p e f h = subst (λ zs. IsFirstPlace test zs p) e (subst (IsFirstPlace test xs) f h)

  -- where no place is the first that passes, nothing is found
  pub find_none : (xs : List T) → IsFirstPlace test xs None → find test xs ≡ None
  find_none [] h = refl
  find_none (x ∷ xs) h = rw (h 0 x (omega arith)) (find_none xs (λ k d l. h (suc k) d (omega arith)))

  -- what is found stands at the first place that passes
  pub find_some : (xs : List T) (i : ℕ) (d : T) → IsFirstPlace test xs (Some i) → find test xs ≡ Some (slice_index_or xs i d)
  find_some [] i d h = absurd (let l = h.0 in omega arith)
  find_some (x ∷ xs) zero d h = rw (h.1 x) refl
  find_some (x ∷ xs) (suc i) d h = rw (h.2 0 x (omega arith)) (find_some xs i d (later xs i h))
    where
      later : (xs : List T) (i : ℕ) → IsFirstPlace test (x ∷ xs) (Some (suc i)) → IsFirstPlace test xs (Some i)
      later xs i h = (let l = h.0 in omega arith, λ e. h.1 e, λ k e l. h.2 (suc k) e (omega arith))

  -- where no place is the first that passes, no element passes
  pub any_none : (xs : List T) → IsFirstPlace test xs None → list_any test xs ≡ false
  any_none [] h = refl
  any_none (x ∷ xs) h = rw (h 0 x (omega arith)) (any_none xs (λ k d l. h (suc k) d (omega arith)))

  -- where some place is the first that passes, some element passes
  pub any_some : (xs : List T) (i : ℕ) → IsFirstPlace test xs (Some i) → list_any test xs ≡ true
  any_some [] i h = absurd (let l = h.0 in omega arith)
  any_some (x ∷ xs) zero h = rw (h.1 x) refl
  any_some (x ∷ xs) (suc i) h = rw (h.2 0 x (omega arith)) (any_some xs i (let l = h.0 in omega arith, λ e. h.1 e, λ k e l. h.2 (suc k) e (omega arith)))

  -- the list without its first element that passes is the one without what stands at that place
  pub without_some : (xs : List T) (i : ℕ) → IsFirstPlace test xs (Some i) → without_first test xs ≡ remove xs i
  without_some [] i h = absurd (let l = h.0 in omega arith)
  without_some (x ∷ xs) zero h = rw (h.1 x) refl
  without_some (x ∷ xs) (suc i) h = rw (h.2 0 x (omega arith)) (ap (λ ys. x ∷ ys) (without_some xs i (let l = h.0 in omega arith, λ e. h.1 e, λ k e l. h.2 (suc k) e (omega arith))))

  -- where no place is the first that passes, it is the list
  pub without_none : (xs : List T) → IsFirstPlace test xs None → without_first test xs ≡ xs
  without_none [] h = refl
  without_none (x ∷ xs) h = rw (h 0 x (omega arith)) (ap (λ ys. x ∷ ys) (without_none xs (λ k d l. h (suc k) d (omega arith))))

module _ {T : Type 0} where
  -- what was taken out and left None in its place is put back
  pub set_back : (xs : List (Option T)) (i : ℕ) (x : T) → slice_index_or xs i None ≡ Some x → slice_set (slice_set xs i None) i (Some x) ≡ xs
  set_back [] i x e = refl
  set_back (y ∷ ys) zero x e = ap (λ z. z ∷ ys) (sym e)
  set_back (y ∷ ys) (suc i) x e = ap (λ zs. y ∷ zs) (set_back ys i x e)

  -- what is left at a place was there
  pub left_there : (xs : List (Option T)) (i k : ℕ) (x : T) → slice_index_or (slice_set xs i None) k None ≡ Some x → slice_index_or xs k None ≡ Some x
  left_there [] i k x e = e
  left_there (y ∷ ys) zero zero x e = absurd (cc)
  left_there (y ∷ ys) zero (suc k) x e = e
  left_there (y ∷ ys) (suc i) zero x e = e
  left_there (y ∷ ys) (suc i) (suc k) x e = left_there ys i k x e
