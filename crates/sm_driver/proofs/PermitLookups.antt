-- The server that a permit names is down.
use Rattle.std.proofs.Common.{◌≡◌, ◌∙◌, ◌+◌, ◌<◌, ℕ, zero, suc, Bool, true, false, Option, Some, None, List, length, refl, sym, ap, subst, arith}
use Rattle.std.specs.Prelude.{is_some, if◌then◌else◌}
use Rattle.sm_placement.specs.Sums.{first_from}
use Rattle.sm_protocol.specs.State.{State}
use Rattle.laws_network.specs.Controller.{is_permitted}
use Rattle.sm_driver.specs.Permits.{ArePermitsOfDown, permit_of, server_permitted}

-- what a search finds is at one of the numbers that it goes through
found_within : {A : Type 0} (f : ℕ → Option A) (a n : ℕ) (x : A) → first_from a n f ≡ Some x → (k : ℕ) × (k < a + n) × (f k ≡ Some x)
found_within f a zero x e = absurd (cc)
found_within {A = A} f a (suc n) x e = go (found_within f (a + 1) n x) (f a) refl
  where
    go : (first_from (a + 1) n f ≡ Some x → (k : ℕ) × (k < a + 1 + n) × (f k ≡ Some x)) → (o : Option A) → f a ≡ o → (k : ℕ) × (k < a + suc n) × (f k ≡ Some x)
    go rest (Some y) here = (a, omega arith, here ∙ (let first : first_from a (suc n) f ≡ Some y = rw here refl in sym first ∙ e))
    go rest None here =
        let later : first_from a (suc n) f ≡ first_from (a + 1) n f = rw here refl in
        let at = rest (sym later ∙ e) in
        let l = at.1 in
        (at.0, omega arith, at.2)

-- so the server that a permit names is known, and down
pub permitted_is_down : (w : State) (permits : List (Option ℕ)) (permit v : ℕ) → ArePermitsOfDown w permits → server_permitted permits permit ≡ Some v → (v < w.sizes.servers) × (w.place.down v ≡ true)
permitted_is_down w permits permit v are e =
    let at = found_within (λ u. if is_permitted (permit_of permits u) permit then Some u else None) 0 (length permits) v e in
    let here = by_test at.0 (is_permitted (permit_of permits at.0) permit) refl at.2 in
    let l : v < w.sizes.servers = subst (λ n. v < n) are.servers (subst (λ k. k < length permits) here.0 (let m = at.1 in omega arith)) in
    (l, sym (are.down v l) ∙ given (permit_of permits v) (ap (λ k. is_permitted (permit_of permits k) permit) (sym here.0) ∙ here.1))
  where
    by_test : (k : ℕ) (b : Bool) → is_permitted (permit_of permits k) permit ≡ b → (if b then Some k else None) ≡ Some v → (k ≡ v) × (is_permitted (permit_of permits k) permit ≡ true)
    by_test k true t f = (cc, t)
    by_test k false t f = absurd (cc)

    given : (o : Option ℕ) → is_permitted o permit ≡ true → is_some o ≡ true
    given None t = absurd (cc)
    given (Some n) t = refl
