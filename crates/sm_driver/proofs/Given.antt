-- No two permits are alike.
use Rattle.std.proofs.Common.{◌≡◌, ◌≤◌, ◌<◌, ◌⊎◌, ◌∙◌, ◌+◌, ◌*◌, ℕ, Bool, true, false, Option, Some, None, List, length, set, refl, sym, subst, inl, inr, arith}
use Rattle.std.specs.Prelude.{if◌then◌else◌}
use Rattle.std.specs.Option.{option_or}
use Rattle.std.proofs.lemmas.Bool.{cases_eq, cases_lt}
use Rattle.std.proofs.lemmas.List.{get_or_past, get_or-set_same, get_or-set_other}
use Rattle.std.proofs.lemmas.List.FromFn.{length-map-range_with_len, get_or-map-range_with_len}
use Rattle.sm_plan_code.specs.declared.limits.TheConstants.{MOST_PLACES}
use Rattle.sm_driver.specs.Permits.{AreEarlierPermits, AreGivenPermits, new_permit, opening_permit, opening_permits, permit_of}

-- where the log is longer
pub given_on : (base recorded more : ℕ) (permits : List (Option ℕ)) → recorded ≤ more → AreGivenPermits base recorded permits → AreGivenPermits base more permits
given_on base recorded more permits l x = record {
  given = λ v permit e. elim (x.given v permit e) [ inl low ↦ inl (omega arith) | inr high ↦ inr high ];
  apart = x.apart;
}

-- seen from the next epoch all are earlier ones
pub all_earlier : (base recorded : ℕ) (permits : List (Option ℕ)) → recorded ≤ MOST_PLACES → AreGivenPermits base recorded permits → AreEarlierPermits (base + 2 * MOST_PLACES) permits
all_earlier base recorded permits l x = record {
  earlier = λ v permit e. elim (x.given v permit e) [ inl low ↦ omega arith | inr high ↦ high.1 ];
  apart = x.apart;
}

-- earlier permits are given ones
pub earlier_given : (base : ℕ) (permits : List (Option ℕ)) → AreEarlierPermits base permits → AreGivenPermits base 0 permits
earlier_given base permits x = record { given = λ v permit e. inl (let l = x.earlier v permit e in omega arith); apart = x.apart }

-- where a permit is taken away
pub given_less : (base recorded : ℕ) (permits : List (Option ℕ)) (v : ℕ) → v < length permits → AreGivenPermits base recorded permits → AreGivenPermits base recorded (set permits v None)
given_less base recorded permits v l x = record {
  given = λ u permit e. x.given u permit (kept u permit e);
  apart = λ u u' permit e f. x.apart u u' permit (kept u permit e) (kept u' permit f);
}
  where
    kept : (u permit : ℕ) → permit_of (set permits v None) u ≡ Some permit → permit_of permits u ≡ Some permit
    kept u permit e = elim (cases_eq u v) [
      | inl here ↦ absurd (let f = sym (get_or-set_same permits v None None l) ∙ subst (λ k. permit_of (set permits v None) k ≡ Some permit) here e in cc)
      | inr apart ↦ sym (get_or-set_other permits v u None None apart) ∙ e
    ]

-- where an approval gives one
pub given_more : (base recorded : ℕ) (permits : List (Option ℕ)) (v : ℕ) → v < length permits → recorded + 1 ≤ MOST_PLACES → AreGivenPermits base recorded permits →
    AreGivenPermits base (recorded + 1) (set permits v (Some (base + recorded + 1)))
given_more base recorded permits v l room x = record {
  given = λ u permit e. elim (origin u permit e) [
    | inl new ↦ inl (let n = new.1 in omega arith)
    | inr old ↦ elim (x.given u permit old) [ inl low ↦ inl (omega arith) | inr high ↦ inr high ]
  ];
  apart = λ u u' permit e f. elim (origin u permit e) [
    | inl new ↦ elim (origin u' permit f) [ inl new' ↦ new.0 ∙ sym new'.0 | inr old' ↦ absurd (is_new u' permit new.1 old') ]
    | inr old ↦ elim (origin u' permit f) [ inl new' ↦ absurd (is_new u permit new'.1 old) | inr old' ↦ x.apart u u' permit old old' ]
  ];
}
  where
    after : List (Option ℕ)
    after = set permits v (Some (base + recorded + 1))

    origin : (u permit : ℕ) → permit_of after u ≡ Some permit → ((u ≡ v) × (permit ≡ base + recorded + 1)) ⊎ (permit_of permits u ≡ Some permit)
    origin u permit e = elim (cases_eq u v) [
      | inl here ↦ inl (here, (let f : Some permit ≡ Some (base + recorded + 1) = sym (subst (λ k. permit_of after k ≡ Some permit) here e) ∙ get_or-set_same permits v (Some (base + recorded + 1)) None l in cc))
      | inr apart ↦ inr (sym (get_or-set_other permits v u (Some (base + recorded + 1)) None apart) ∙ e)
    ]

    is_new : (u permit : ℕ) → permit ≡ base + recorded + 1 → permit_of permits u ≡ Some permit → ⊥
    is_new u permit e old = elim (x.given u permit old) [ inl low ↦ omega arith | inr high ↦ let h = high.0 in omega arith ]

-- at an opening
pub opening_given : (base servers : ℕ) (before : List (Option ℕ)) (down : ℕ → Bool) → servers < MOST_PLACES → AreEarlierPermits base before → AreGivenPermits base 0 (opening_permits base before servers down)
opening_given base servers before down few x = record {
  given = λ v permit e. elim (origin v permit e) [
    | inl old ↦ inl (let l = x.earlier v permit old in omega arith)
    | inr new ↦ inr (let l = new.0 in let n = new.1 in (omega arith, omega arith))
  ];
  apart = λ u v permit e f. elim (origin u permit e) [
    | inl old ↦ elim (origin v permit f) [ inl old' ↦ x.apart u v permit old old' | inr new' ↦ absurd (is_new u permit v new'.1 old) ]
    | inr new ↦ elim (origin v permit f) [ inl old' ↦ absurd (is_new v permit u new.1 old') | inr new' ↦ let n = new.1 in let m = new'.1 in omega arith ]
  ];
}
  where
    is_new : (v permit u : ℕ) → permit ≡ new_permit base u → permit_of before v ≡ Some permit → ⊥
    is_new v permit u n old = let l = x.earlier v permit old in omega arith

    by_before : (v permit : ℕ) → v < servers → (o : Option ℕ) → permit_of before v ≡ o → option_or o (Some (new_permit base v)) ≡ Some permit →
        (permit_of before v ≡ Some permit) ⊎ ((v < servers) × (permit ≡ new_permit base v))
    by_before v permit l None e f = inr (l, (cc))
    by_before v permit l (Some old) e f = inl (e ∙ f)

    by_down : (v permit : ℕ) → v < servers → (d : Bool) → (if d then option_or (permit_of before v) (Some (new_permit base v)) else None) ≡ Some permit →
        (permit_of before v ≡ Some permit) ⊎ ((v < servers) × (permit ≡ new_permit base v))
    by_down v permit l true f = by_before v permit l (permit_of before v) refl f
    by_down v permit l false f = absurd (cc)

    origin : (v permit : ℕ) → permit_of (opening_permits base before servers down) v ≡ Some permit → (permit_of before v ≡ Some permit) ⊎ ((v < servers) × (permit ≡ new_permit base v))
    origin v permit e = elim (cases_lt v servers) [
      | inl l ↦ by_down v permit l (down v) (sym (get_or-map-range_with_len (opening_permit base before down) 0 servers v v None l (omega arith)) ∙ e)
      | inr past ↦ absurd (
          let none = get_or_past (opening_permits base before servers down) v None (let n = length-map-range_with_len (opening_permit base before down) 0 servers in omega arith) in cc
          )
    ]
