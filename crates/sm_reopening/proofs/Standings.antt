-- The order of standings: they compare by one number, and if it is the same by what is deeper.
use Rattle.std.proofs.Common.{◌≡◌, ◌∙◌, ◌<◌, ◌≤◌, ◌⊎◌, ℕ, Bool, true, false, ltb, ap, arith, inl, inr, subst, sym}
use Rattle.std.specs.Prelude.{◌&&◌, ◌||◌, ◌==◌, if◌then◌else◌}
use Rattle.std.proofs.lemmas.Bool.{cases_Bool, cases_eq, cases_lt, eq-eqb, ne_eqb, lt-ltb, le-ltb, ltb-true, ltb-false}
use Rattle.sm_reopening.specs.declared.survivors.Standing.{Standing}
use Rattle.sm_reopening.specs.Survivors.{exceeds, has_more_in_view, rank_of, stands_above}

-- it is not greater, and if it is the same, it does not exceed deeper
not_exceeds : (a b : ℕ) (deeper : Bool) → a ≤ b → (a ≡ b → deeper ≡ false) → exceeds a b deeper ≡ false
not_exceeds a b deeper l f = elim (cases_eq a b) [
  | inl d ↦ ap (λ t. t || ((a == b) && deeper)) (le-ltb b a l) ∙ ap (λ t. t && deeper) (eq-eqb a b d) ∙ f d
  | inr d ↦ ap (λ t. t || ((a == b) && deeper)) (le-ltb b a l) ∙ ap (λ t. t && deeper) (ne_eqb a b d)
]

-- a greater number
exceeds_first : (a b : ℕ) (deeper : Bool) → b < a → exceeds a b deeper ≡ true
exceeds_first a b deeper l = ap (λ t. t || ((a == b) && deeper)) (lt-ltb b a l)

-- the same one, and it exceeds deeper
exceeds_deeper : (a b : ℕ) (deeper : Bool) → a ≡ b → deeper ≡ true → exceeds a b deeper ≡ true
exceeds_deeper a b deeper e d =
    ap (λ t. t || ((a == b) && deeper)) (le-ltb b a (omega arith)) ∙ ap (λ t. t && deeper) (eq-eqb a b e) ∙ d

-- what exceeds has a greater number, or the same one and exceeds deeper
exceeds_means : (a b : ℕ) (deeper : Bool) → exceeds a b deeper ≡ true → (b < a) ⊎ ((a ≡ b) × (deeper ≡ true))
exceeds_means a b deeper e = elim (cases_lt b a) [
  | inl l ↦ inl l
  | inr l ↦ elim (cases_eq a b) [
    | inl d ↦ elim (cases_Bool deeper) [
      | inl t ↦ inr (d, t)
      | inr f ↦ absurd (let z : exceeds a b deeper ≡ false = not_exceeds a b deeper l (λ q. f) in cc)
    ]
    | inr d ↦ absurd (let z : exceeds a b deeper ≡ false = not_exceeds a b deeper l (λ q. absurd (d q)) in cc)
  ]
]

-- what does not exceed has no greater number
below_first : (a b : ℕ) (deeper : Bool) → exceeds a b deeper ≡ false → a ≤ b
below_first a b deeper e = elim (cases_lt b a) [
  | inl l ↦ absurd (let z : exceeds a b deeper ≡ true = exceeds_first a b deeper l in cc)
  | inr l ↦ l
]

-- nor, with the same number, does it exceed deeper
below_deeper : (a b : ℕ) (deeper : Bool) → exceeds a b deeper ≡ false → a ≡ b → deeper ≡ false
below_deeper a b deeper e d = elim (cases_Bool deeper) [
  | inl t ↦ absurd (let z : exceeds a b deeper ≡ true = exceeds_deeper a b deeper d t in cc)
  | inr f ↦ f
]

-- who does not exceed one does not exceed who exceeds that one
still_under : (n b k : ℕ) (nb kb kn : Bool) → exceeds n b nb ≡ true → exceeds k b kb ≡ false → (n ≡ b → k ≡ b → nb ≡ true → kb ≡ false → kn ≡ false) → exceeds k n kn ≡ false
still_under n b k nb kb kn above below deeper = let c = below_first k b kb below in elim (exceeds_means n b nb above) [
  | inl l ↦ not_exceeds k n kn (omega arith) (λ q. absurd (omega arith))
  | inr m ↦ let same = m.0 in not_exceeds k n kn (omega arith) (λ q. deeper same (omega arith) m.1 (below_deeper k b kb below (omega arith)))
]

-- and who exceeds that one exceeds it
over_all : (n b k : ℕ) (nb kb nk : Bool) → exceeds n b nb ≡ true → exceeds k b kb ≡ false → (n ≡ b → k ≡ b → nb ≡ true → kb ≡ false → nk ≡ true) → exceeds n k nk ≡ true
over_all n b k nb kb nk above below deeper = let c = below_first k b kb below in elim (exceeds_means n b nb above) [
  | inl l ↦ exceeds_first n k nk (omega arith)
  | inr m ↦ let same = m.0 in elim (cases_lt k n) [
    | inl d ↦ exceeds_first n k nk d
    | inr d ↦ exceeds_deeper n k nk (omega arith) (deeper same (omega arith) m.1 (below_deeper k b kb below (omega arith)))
  ]
]

-- ---- standings

-- who has the copy of a later view, or more in the same one
abbrev more_by : Standing → Standing → Bool
more_by a b = exceeds a.copy.view b.copy.view (has_more_in_view a b)

-- ---- ranks

rank_high : (c : ℕ) → 3 < c → rank_of c ≡ 2
rank_high c high = ap (λ b. if b then 2 else if ltb 0 c then 1 else 0) (lt-ltb 3 c high)

rank_some : (c : ℕ) → c ≤ 3 → 0 < c → rank_of c ≡ 1
rank_some c low some = ap (λ b. if b then 2 else if ltb 0 c then 1 else 0) (le-ltb 3 c low) ∙ ap (λ b. if b then 1 else 0) (lt-ltb 0 c some)

rank_none : (c : ℕ) → c ≤ 0 → rank_of c ≡ 0
rank_none c none = ap (λ b. if b then 2 else if ltb 0 c then 1 else 0) (le-ltb 3 c (omega arith)) ∙ ap (λ b. if b then 1 else 0) (le-ltb 0 c none)

-- who has a claim has a rank
has_rank : (c : ℕ) → 0 < c → 1 ≤ rank_of c
has_rank c some = elim (cases_lt 3 c) [ inl high ↦ (let e = rank_high c high in omega arith) | inr low ↦ (let e = rank_some c low some in omega arith) ]

-- and who has a rank has a claim
has_claim : (c : ℕ) → 1 ≤ rank_of c → 0 < c
has_claim c ranked = elim (cases_lt 0 c) [ inl some ↦ some | inr none ↦ absurd (let e = rank_none c none in omega arith) ]

-- a better claim has no lesser rank
rank_rises : (c d : ℕ) → c ≤ d → rank_of c ≤ rank_of d
rank_rises c d l = elim (cases_lt 3 c) [
  | inl high ↦ (let a = rank_high c high in let b = rank_high d (omega arith) in omega arith)
  | inr low ↦ elim (cases_lt 0 c) [
    | inl some ↦ (let a = rank_some c low some in let b = has_rank d (omega arith) in omega arith)
    | inr none ↦ (let a = rank_none c none in omega arith)
  ]
]

-- ---- who stands above

-- no better claim, and no more of the writes, is no more in a view
no_more : (a b : Standing) → a.claim ≤ b.claim → a.copy.position ≤ b.copy.position → has_more_in_view a b ≡ false
no_more a b claim position = go (a.copy.view == 0)
  where
    go : (zero : Bool) →
        (if zero then exceeds a.claim b.claim (ltb b.copy.position a.copy.position) else exceeds a.copy.position b.copy.position (ltb b.claim a.claim)) ≡ false
    go true = not_exceeds a.claim b.claim (ltb b.copy.position a.copy.position) claim (λ same. le-ltb b.copy.position a.copy.position position)
    go false = not_exceeds a.copy.position b.copy.position (ltb b.claim a.claim) position (λ same. le-ltb b.claim a.claim claim)

-- no better claim, no later view, and no more of the writes
pub not_above : (a b : Standing) → a.claim ≤ b.claim → a.copy.view ≤ b.copy.view → a.copy.position ≤ b.copy.position → stands_above a b ≡ false
not_above a b claim view position =
    not_exceeds (rank_of a.claim) (rank_of b.claim) (more_by a b) (rank_rises a.claim b.claim claim)
    (λ same. not_exceeds a.copy.view b.copy.view (has_more_in_view a b) view (λ alike. no_more a b claim position))

-- who has no claim stands above nobody who has one
pub none_above : (a b : Standing) → a.claim ≤ 0 → 0 < b.claim → stands_above a b ≡ false
none_above a b none some =
    let low = rank_none a.claim none in
    let high = has_rank b.claim some in
    not_exceeds (rank_of a.claim) (rank_of b.claim) (more_by a b) (omega arith) (λ same. absurd (omega arith))

-- who stands above one with a claim has a claim
pub above_claims : (a b : Standing) → stands_above a b ≡ true → 0 < b.claim → 0 < a.claim
above_claims a b above some = let high = has_rank b.claim some in elim (exceeds_means (rank_of a.claim) (rank_of b.claim) (more_by a b) above) [
  | inl l ↦ has_claim a.claim (omega arith)
  | inr m ↦ let same = m.0 in has_claim a.claim (omega arith)
]

-- where who has a claim does not stand above, there is one, too
pub below_claims : (a b : Standing) → stands_above a b ≡ false → 0 < a.claim → 0 < b.claim
below_claims a b below some =
    let l = below_first (rank_of a.claim) (rank_of b.claim) (more_by a b) below in
    let high = has_rank a.claim some in
    has_claim b.claim (omega arith)

-- nobody stands above itself
pub not_above_itself : (a : Standing) → stands_above a a ≡ false
not_above_itself a = not_above a a (omega arith) (omega arith) (omega arith)

-- a lesser number, and one that is no less
less_than : (b n k : ℕ) → ltb b n ≡ true → ltb b k ≡ false → ltb n k ≡ false
less_than b n k more less =
    let m : b < n = ltb-true b n more in
    let l : k ≤ b = ltb-false b k less in
    le-ltb n k (omega arith)

more_than : (b n k : ℕ) → ltb b n ≡ true → ltb b k ≡ false → ltb k n ≡ true
more_than b n k more less =
    let m : b < n = ltb-true b n more in
    let l : k ≤ b = ltb-false b k less in
    lt-ltb k n (omega arith)

-- what is more in a view, by the one that all have
abbrev more_in : ℕ → Standing → Standing → Bool
more_in view a b =
    if view == 0 then exceeds a.claim b.claim (ltb b.copy.position a.copy.position)
    else exceeds a.copy.position b.copy.position (ltb b.claim a.claim)

-- who does not stand above one does not stand above who is above that one
pub still_below : (n b k : Standing) → stands_above n b ≡ true → stands_above k b ≡ false → stands_above k n ≡ false
still_below n b k above below =
    still_under (rank_of n.claim) (rank_of b.claim) (rank_of k.claim) (more_by n b) (more_by k b) (more_by k n) above below by_view
  where
    in_view : (zero : Bool) → (if zero then exceeds n.claim b.claim (ltb b.copy.position n.copy.position) else exceeds n.copy.position b.copy.position (ltb b.claim n.claim)) ≡ true →
        (if zero then exceeds k.claim b.claim (ltb b.copy.position k.copy.position) else exceeds k.copy.position b.copy.position (ltb b.claim k.claim)) ≡ false →
        (if zero then exceeds k.claim n.claim (ltb n.copy.position k.copy.position) else exceeds k.copy.position n.copy.position (ltb n.claim k.claim)) ≡ false
    in_view true more less =
        still_under n.claim b.claim k.claim (ltb b.copy.position n.copy.position) (ltb b.copy.position k.copy.position) (ltb n.copy.position k.copy.position) more less
        (λ _ _ m l. less_than b.copy.position n.copy.position k.copy.position m l)
    in_view false more less =
        still_under n.copy.position b.copy.position k.copy.position (ltb b.claim n.claim) (ltb b.claim k.claim) (ltb n.claim k.claim) more less
        (λ _ _ m l. less_than b.claim n.claim k.claim m l)

    by_more : n.copy.view ≡ b.copy.view → k.copy.view ≡ b.copy.view → has_more_in_view n b ≡ true → has_more_in_view k b ≡ false → has_more_in_view k n ≡ false
    by_more same alike more less =
        subst (λ v. more_in v k n ≡ false) (sym alike)
        (in_view (b.copy.view == 0) (subst (λ v. more_in v n b ≡ true) same more) (subst (λ v. more_in v k b ≡ false) alike less))

    by_view : rank_of n.claim ≡ rank_of b.claim → rank_of k.claim ≡ rank_of b.claim → more_by n b ≡ true → more_by k b ≡ false → more_by k n ≡ false
    by_view _ _ more less =
        still_under n.copy.view b.copy.view k.copy.view (has_more_in_view n b) (has_more_in_view k b) (has_more_in_view k n) more less by_more

-- and who is above that one stands above it
pub above_all : (n b k : Standing) → stands_above n b ≡ true → stands_above k b ≡ false → stands_above n k ≡ true
above_all n b k above below =
    over_all (rank_of n.claim) (rank_of b.claim) (rank_of k.claim) (more_by n b) (more_by k b) (more_by n k) above below by_view
  where
    in_view : (zero : Bool) → (if zero then exceeds n.claim b.claim (ltb b.copy.position n.copy.position) else exceeds n.copy.position b.copy.position (ltb b.claim n.claim)) ≡ true →
        (if zero then exceeds k.claim b.claim (ltb b.copy.position k.copy.position) else exceeds k.copy.position b.copy.position (ltb b.claim k.claim)) ≡ false →
        (if zero then exceeds n.claim k.claim (ltb k.copy.position n.copy.position) else exceeds n.copy.position k.copy.position (ltb k.claim n.claim)) ≡ true
    in_view true more less =
        over_all n.claim b.claim k.claim (ltb b.copy.position n.copy.position) (ltb b.copy.position k.copy.position) (ltb k.copy.position n.copy.position) more less
        (λ _ _ m l. more_than b.copy.position n.copy.position k.copy.position m l)
    in_view false more less =
        over_all n.copy.position b.copy.position k.copy.position (ltb b.claim n.claim) (ltb b.claim k.claim) (ltb k.claim n.claim) more less
        (λ _ _ m l. more_than b.claim n.claim k.claim m l)

    by_more : n.copy.view ≡ b.copy.view → k.copy.view ≡ b.copy.view → has_more_in_view n b ≡ true → has_more_in_view k b ≡ false → has_more_in_view n k ≡ true
    by_more same alike more less =
        subst (λ v. more_in v n k ≡ true) (sym same)
        (in_view (b.copy.view == 0) (subst (λ v. more_in v n b ≡ true) same more) (subst (λ v. more_in v k b ≡ false) alike less))

    by_view : rank_of n.claim ≡ rank_of b.claim → rank_of k.claim ≡ rank_of b.claim → more_by n b ≡ true → more_by k b ≡ false → more_by n k ≡ true
    by_view _ _ more less =
        over_all n.copy.view b.copy.view k.copy.view (has_more_in_view n b) (has_more_in_view k b) (has_more_in_view n k) more less by_more
