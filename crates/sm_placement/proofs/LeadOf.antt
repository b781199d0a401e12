-- The lead that is computed from a row is the one that describes it.
use Rattle.std.proofs.Common.{◌≡◌, ◌≢◌, ℕ, zero, suc, ◌+◌, ◌-◌, ◌<◌, ◌≤◌, Bool, true, false, ◌&&◌, eqb, refl, sym, ap, ◌∙◌, arith, inl, inr, subst, Some, None, List, [], ◌∷◌}
use Rattle.std.specs.Prelude.{is_some}
use Rattle.std.specs.List.{find, filter, range_with_len}
use Rattle.std.specs.Option.{option_or}
use Rattle.std.proofs.lemmas.Bool.{cases_lt, cases_Bool, eq-eqb, eqb-true, and_parts}
use Rattle.sm_server.specs.declared.call.Cell.{Cell}
use Rattle.sm_server.specs.declared.call.Cell.TheVariants.{Absent, Prepared, Secondary, Primary, Forwarding}
use Rattle.sm_placement.specs.declared.lead.Lead.{Lead}
use Rattle.sm_placement.specs.declared.lead.Lead.TheVariants.{Gone, At, Ready, Handing, Handed}
use Rattle.sm_placement.specs.Lead.{Describes, IsPlain, has_part, lead_alone, lead_of_pair, lead_among, lead_of, LeadWhereDescribed}
use Rattle.sm_placement.proofs.Searches.{cases_Option, none_listed, none_passes, first_listed, first_passes, one_listed}

-- a cell is plain exactly where it has no part in a lead
pub no_part : (x : Cell) → IsPlain x → has_part x ≡ false
no_part Absent h = refl
no_part Secondary h = refl
no_part Primary h = absurd h
no_part (Prepared a b) h = absurd h
no_part (Forwarding a b) h = absurd h

pub plain_cell : (x : Cell) → has_part x ≡ false → IsPlain x
plain_cell Absent h = tt
plain_cell Secondary h = tt
plain_cell Primary h = cc
plain_cell (Prepared a b) h = cc
plain_cell (Forwarding a b) h = cc

-- the servers that have a part in a row, where there is none, one, or two
abbrev parts : ℕ → (ℕ → Cell) → List ℕ
parts servers row = filter (λ v. has_part (row v)) (range_with_len 0 servers)

two_parts : (servers : ℕ) (row : ℕ → Cell) (u v : ℕ) → u < v → v < servers → has_part (row u) ≡ true → has_part (row v) ≡ true → ((x : ℕ) → x ≢ u → x ≢ v → IsPlain (row x)) → parts servers row ≡ u ∷ (v ∷ [])
two_parts servers row u v below l e f h =
    let t : ℕ → Bool = λ w. has_part (row w) in
    let past : u + 1 + (0 + servers - (u + 1)) ≡ servers = omega arith in
    first_listed t 0 servers u (omega arith) (omega arith) e (λ k x y. no_part (row k) (h k (λ d. absurd (omega arith)) (λ d. absurd (omega arith))))
    ∙ ap (λ xs. u ∷ xs) (first_listed t (u + 1) (0 + servers - (u + 1)) v (omega arith) (omega arith) f (λ k x y. no_part (row k) (h k (λ d. absurd (omega arith)) (λ d. absurd (omega arith))))
    ∙ ap (λ xs. v ∷ xs) (none_listed t (v + 1) (u + 1 + (0 + servers - (u + 1)) - (v + 1)) (λ k x y. no_part (row k) (h k (λ d. absurd (omega arith)) (λ d. absurd (omega arith))))))

-- the servers that pass, as one is found after another
found_all : (t : ℕ → Bool) (a n : ℕ) → find t (range_with_len a n) ≡ None → filter t (range_with_len a n) ≡ []
found_all t a zero e = refl
found_all t a (suc n) e = elim (cases_Bool (t a)) [
  | inl q ↦ absurd (let z = rw q at e in cc)
  | inr q ↦ rw q (found_all t (a + 1) n (rw q at e))
]

found_here : (t : ℕ → Bool) (a n u : ℕ) → find t (range_with_len a n) ≡ Some u → (u < a + n) × (filter t (range_with_len a n) ≡ u ∷ filter t (range_with_len (u + 1) (a + n - (u + 1))))
found_here t a zero u e = cc
found_here t a (suc n) u e = elim (cases_Bool (t a)) [
  | inl q ↦
      let d : a ≡ u = (let z = rw q at e in cc) in
      let more : n ≡ a + suc n - (a + 1) = omega arith in
      (omega arith, rw q (ap (λ k. a ∷ filter t (range_with_len (a + 1) k)) more ∙ ap (λ v. v ∷ filter t (range_with_len (v + 1) (a + suc n - (v + 1)))) d))
  | inr q ↦
      let r = found_here t (a + 1) n u (rw q at e) in
      let l : u < a + 1 + n = r.0 in
      let same : a + 1 + n - (u + 1) ≡ a + suc n - (u + 1) = omega arith in
      (omega arith, rw q (r.1 ∙ ap (λ k. u ∷ filter t (range_with_len (u + 1) k)) same))
]

-- the same from a number i on, of n numbers
next_none : (t : ℕ → Bool) (i n : ℕ) → find t (range_with_len i (n - i)) ≡ None → filter t (range_with_len i (n - i)) ≡ []
next_none t i n e = found_all t i (n - i) e

next_some : (t : ℕ → Bool) (i n u : ℕ) → find t (range_with_len i (n - i)) ≡ Some u → filter t (range_with_len i (n - i)) ≡ u ∷ filter t (range_with_len (u + 1) (n - (u + 1)))
next_some t i n u e =
    let r = found_here t i (n - i) u e in
    let l : u < i + (n - i) = r.0 in
    elim (cases_lt n i) [
      | inl m ↦ let none : n - i ≡ 0 = omega arith in absurd (let z : find t (range_with_len i 0) ≡ Some u = ap (λ k. find t (range_with_len i k)) (sym none) ∙ e in cc)
      | inr m ↦ let same : i + (n - i) - (u + 1) ≡ n - (u + 1) = omega arith in r.1 ∙ ap (λ k. u ∷ filter t (range_with_len (u + 1) k)) same
    ]

all_parts : (n : ℕ) (row : ℕ → Cell) → lead_of n row ≡ lead_among row (filter (λ v. has_part (row v)) (range_with_len 0 (n - 0)))
all_parts n row = let same : n ≡ n - 0 = omega arith in ap (λ k. lead_among row (filter (λ v. has_part (row v)) (range_with_len 0 k))) same

-- what the parts that are found one after another make of the lead
pub lead_of_none : (n : ℕ) (row : ℕ → Cell) → find (λ v. has_part (row v)) (range_with_len 0 (n - 0)) ≡ None → lead_of n row ≡ Some Gone
lead_of_none n row e = all_parts n row ∙ ap (lead_among row) (next_none (λ v. has_part (row v)) 0 n e)

-- where one server alone is found to have a part in the lead, its cell tells the lead
pub lead_of_one : (n : ℕ) (row : ℕ → Cell) (u i : ℕ) → i ≡ u → find (λ v. has_part (row v)) (range_with_len 0 (n - 0)) ≡ Some u → find (λ v. has_part (row v)) (range_with_len (i + 1) (n - (i + 1))) ≡ None →
    lead_of n row ≡ lead_alone u (row u)
lead_of_one n row u i d e f =
    let t : ℕ → Bool = λ v. has_part (row v) in
    let f' : find t (range_with_len (u + 1) (n - (u + 1))) ≡ None = rw (← d) f in
    all_parts n row ∙ ap (lead_among row) (next_some t 0 n u e ∙ ap (λ xs. u ∷ xs) (next_none t (u + 1) n f'))

-- the servers that have a part begin with these two
begin_with : (n : ℕ) (row : ℕ → Cell) (u i v j : ℕ) → i ≡ u → j ≡ v → find (λ v. has_part (row v)) (range_with_len 0 (n - 0)) ≡ Some u → find (λ v. has_part (row v)) (range_with_len (i + 1) (n - (i + 1))) ≡ Some v →
    filter (λ v. has_part (row v)) (range_with_len 0 (n - 0)) ≡ u ∷ (v ∷ filter (λ v. has_part (row v)) (range_with_len (j + 1) (n - (j + 1))))
begin_with n row u i v j d b e f =
    let t : ℕ → Bool = λ v. has_part (row v) in
    let f' : find t (range_with_len (u + 1) (n - (u + 1))) ≡ Some v = rw (← d) f in
    next_some t 0 n u e ∙ ap (λ xs. u ∷ xs) (next_some t (u + 1) n v f' ∙ ap (λ k. v ∷ filter t (range_with_len (k + 1) (n - (k + 1)))) (sym b))

-- where two servers are found to have a part in it and no third, their two cells tell the lead
pub lead_of_two : (n : ℕ) (row : ℕ → Cell) (u i v j : ℕ) → i ≡ u → j ≡ v → find (λ v. has_part (row v)) (range_with_len 0 (n - 0)) ≡ Some u → find (λ v. has_part (row v)) (range_with_len (i + 1) (n - (i + 1))) ≡ Some v →
    is_some (find (λ v. has_part (row v)) (range_with_len (j + 1) (n - (j + 1)))) ≡ false → lead_of n row ≡ option_or (lead_of_pair u (row u) v (row v)) (lead_of_pair v (row v) u (row u))
lead_of_two n row u i v j d b e f g =
    let t : ℕ → Bool = λ v. has_part (row v) in
    elim (cases_Option (find t (range_with_len (j + 1) (n - (j + 1))))) [
      | inl q ↦ all_parts n row ∙ ap (lead_among row) (begin_with n row u i v j d b e f ∙ ap (λ xs. u ∷ (v ∷ xs)) (next_none t (j + 1) n q))
      | inr q ↦ absurd (let z = rw q.1 at g in cc)
    ]

-- where a third server is found to have a part in it, there is no lead
pub lead_of_more : (n : ℕ) (row : ℕ → Cell) (u i v j : ℕ) → i ≡ u → j ≡ v → find (λ v. has_part (row v)) (range_with_len 0 (n - 0)) ≡ Some u → find (λ v. has_part (row v)) (range_with_len (i + 1) (n - (i + 1))) ≡ Some v →
    is_some (find (λ v. has_part (row v)) (range_with_len (j + 1) (n - (j + 1)))) ≡ true → lead_of n row ≡ None
lead_of_more n row u i v j d b e f g =
    let t : ℕ → Bool = λ v. has_part (row v) in
    elim (cases_Option (find t (range_with_len (j + 1) (n - (j + 1))))) [
      | inl q ↦ absurd (let z = rw q at g in cc)
      | inr q ↦ all_parts n row ∙ ap (lead_among row) (begin_with n row u i v j d b e f ∙ ap (λ xs. u ∷ (v ∷ xs)) (next_some t (j + 1) n q.0 q.1))
    ]

-- a pair of servers, which alone have parts, gives its lead in whichever order the two stand
pair_found : (servers : ℕ) (row : ℕ → Cell) (u v : ℕ) (lead : Lead) → u ≢ v → u < servers → v < servers → has_part (row u) ≡ true → has_part (row v) ≡ true → ((x : ℕ) → x ≢ u → x ≢ v → IsPlain (row x)) →
    lead_of_pair u (row u) v (row v) ≡ Some lead → lead_of_pair v (row v) u (row u) ≡ None → lead_of servers row ≡ Some lead
pair_found servers row u v lead d l m e f h here there = elim (cases_lt u v) [
  | inl below ↦ ap (lead_among row) (two_parts servers row u v below m e f h) ∙ rw here refl
  | inr above ↦ ap (lead_among row) (two_parts servers row v u (omega arith) l f e (λ x a b. h x b a)) ∙ rw (there, here) refl
]

-- the lead that describes a row is found in it
pub lead_of_is : (lead : Lead) (number : ℕ) (row : ℕ → Cell) (servers : ℕ) → Describes lead number row → ((v : ℕ) → servers ≤ v → row v ≡ Absent) → lead_of servers row ≡ Some lead
lead_of_is lead n row servers d out = go lead d
  where
    within : (v : ℕ) → row v ≢ Absent → v < servers
    within v e = elim (cases_lt v servers) [ inl l ↦ l | inr l ↦ absurd (e (out v l)) ]

    go : (lead : Lead) → Describes lead n row → lead_of servers row ≡ Some lead
    go Gone d = ap (lead_among row) (none_listed (λ v. has_part (row v)) 0 servers (λ k x y. no_part (row k) (d k)))
    go (At u) d = ap (lead_among row) (one_listed (λ v. has_part (row v)) servers u (within u (λ e. cc (d.0, e))) (rw d.0 refl) (λ k e. no_part (row k) (d.1 k e))) ∙ rw d.0 refl
    go (Ready u v) d = pair_found servers row u v (Ready u v) d.0 (within u (λ e. cc (d.1, e))) (within v (λ e. cc (d.2, e))) (rw d.1 refl) (rw d.2 refl) d.3 (rw (d.1, d.2, eq-eqb u u refl) refl) (rw d.2 refl)
    go (Handing u v) d = pair_found servers row u v (Handing u v) d.0 (within u (λ e. cc (d.1, e))) (within v (λ e. cc (d.2, e))) (rw d.1 refl) (rw d.2 refl) d.3 (rw (d.1, d.2, eq-eqb v v refl, eq-eqb u u refl, eq-eqb n n refl) refl) (rw d.2 refl)
    go (Handed u v) d = pair_found servers row u v (Handed u v) d.0 (within u (λ e. cc (d.1, e))) (within v (λ e. cc (d.2, e))) (rw d.1 refl) (rw d.2 refl) d.3 (rw (d.1, d.2, eq-eqb v v refl) refl) (rw (d.2, d.1) refl)

-- the lead by two cells describes the row, where the others are plain
pair_describes : (row : ℕ → Cell) (u v : ℕ) (lead : Lead) (x y : Cell) → u ≢ v → row u ≡ x → row v ≡ y → ((w : ℕ) → w ≢ u → w ≢ v → IsPlain (row w)) → lead_of_pair u x v y ≡ Some lead →
    (number : ℕ) × Describes lead number row
pair_describes row u v lead Primary (Prepared from n) d a b h e = elim (cases_Bool (eqb from u)) [
  | inl q ↦
      let same : Ready u v ≡ lead = (let z = rw q at e in cc) in
      subst (λ l. (number : ℕ) × Describes l number row) same (n, (d, a, b ∙ ap (λ w. Prepared w n) (eqb-true from u q), h))
  | inr q ↦ absurd (let z = rw q at e in cc)
]
pair_describes row u v lead (Forwarding to n) (Prepared from k) d a b h e = elim (cases_Bool (eqb to v && (eqb from u && eqb n k))) [
  | inl q ↦
      let p = and_parts (eqb to v) (eqb from u && eqb n k) q in
      let r = and_parts (eqb from u) (eqb n k) p.1 in
      let same : Handing u v ≡ lead = (let z = rw q at e in cc) in
      subst (λ l. (number : ℕ) × Describes l number row) same
      (n, (d, a ∙ ap (λ w. Forwarding w n) (eqb-true to v p.0), b ∙ ap (λ w. Prepared w k) (eqb-true from u r.0) ∙ ap (λ w. Prepared u w) (sym (eqb-true n k r.1)), h))
  | inr q ↦ absurd (let z = rw q at e in cc)
]
pair_describes row u v lead (Forwarding to n) Primary d a b h e = elim (cases_Bool (eqb to v)) [
  | inl q ↦
      let same : Handed u v ≡ lead = (let z = rw q at e in cc) in
      subst (λ l. (number : ℕ) × Describes l number row) same (n, (d, a ∙ ap (λ w. Forwarding w n) (eqb-true to v q), b, h))
  | inr q ↦ absurd (let z = rw q at e in cc)
]
pair_describes row u v lead Primary Absent d a b h e = cc
pair_describes row u v lead Primary Secondary d a b h e = cc
pair_describes row u v lead Primary Primary d a b h e = cc
pair_describes row u v lead Primary (Forwarding to n) d a b h e = cc
pair_describes row u v lead (Forwarding to n) Absent d a b h e = cc
pair_describes row u v lead (Forwarding to n) Secondary d a b h e = cc
pair_describes row u v lead (Forwarding to n) (Forwarding j k) d a b h e = cc
pair_describes row u v lead Absent y d a b h e = cc
pair_describes row u v lead Secondary y d a b h e = cc
pair_describes row u v lead (Prepared from n) y d a b h e = cc

alone_describes : (row : ℕ → Cell) (u : ℕ) (lead : Lead) (x : Cell) → row u ≡ x → ((w : ℕ) → w ≢ u → IsPlain (row w)) → lead_alone u x ≡ Some lead → (number : ℕ) × Describes lead number row
alone_describes row u lead Primary a h e = let same : At u ≡ lead = cc in subst (λ l. (number : ℕ) × Describes l number row) same (0, (a, h))
alone_describes row u lead Absent a h e = cc
alone_describes row u lead Secondary a h e = cc
alone_describes row u lead (Prepared from n) a h e = cc
alone_describes row u lead (Forwarding to n) a h e = cc

-- the lead that is found in a row describes it under some number
pub lead_describes : (servers : ℕ) (row : ℕ → Cell) (lead : Lead) → ((v : ℕ) → servers ≤ v → row v ≡ Absent) → lead_of servers row ≡ Some lead → (number : ℕ) × Describes lead number row
lead_describes servers row lead out found = go (parts servers row) refl found
  where
    t : ℕ → Bool
    t v = has_part (row v)

    -- who is beyond the servers is plain, and so is who has no part
    plain : (x : ℕ) → (x < servers → t x ≡ false) → IsPlain (row x)
    plain x h = elim (cases_lt x servers) [ inl l ↦ plain_cell (row x) (h l) | inr l ↦ rw (out x l) tt ]

    go : (xs : List ℕ) → parts servers row ≡ xs → lead_among row xs ≡ Some lead → (number : ℕ) × Describes lead number row
    go [] p e =
        let same : Gone ≡ lead = cc in
        subst (λ l. (number : ℕ) × Describes l number row) same (0, λ x. plain x (λ l. none_passes t 0 servers p x (omega arith) (omega arith)))
    go (u ∷ []) p e =
        let f = first_passes t 0 servers u [] p in
        alone_describes row u lead (row u) refl (λ x d. plain x (λ l. elim (cases_lt x u) [
          | inl b ↦ f.3 x (omega arith) b
          | inr b ↦ none_passes t (u + 1) (0 + servers - (u + 1)) f.4 x (omega arith) (omega arith)
        ])) e
    go (u ∷ (v ∷ [])) p e =
        let f = first_passes t 0 servers u (v ∷ []) p in
        let g = first_passes t (u + 1) (0 + servers - (u + 1)) v [] f.4 in
        let below : u + 1 ≤ v = g.0 in
        let apart : u ≢ v = λ d. absurd (omega arith) in
        let others : (x : ℕ) → x ≢ u → x ≢ v → IsPlain (row x) = λ x d b. plain x (λ l. elim (cases_lt x u) [
          | inl y ↦ f.3 x (omega arith) y
          | inr y ↦ elim (cases_lt x v) [
            | inl z ↦ g.3 x (omega arith) z
            | inr z ↦ none_passes t (v + 1) (u + 1 + (0 + servers - (u + 1)) - (v + 1)) g.4 x (omega arith) (omega arith)
          ]
        ]) in
        elim (cases_Option (lead_of_pair u (row u) v (row v))) [
          | inl q ↦ pair_describes row v u lead (row v) (row u) (λ d. apart (sym d)) refl refl (λ x a b. others x b a) (rw q at e)
          | inr q ↦
              let same : q.0 ≡ lead = (let z = rw q.1 at e in cc) in
              pair_describes row u v lead (row u) (row v) apart refl refl others (q.1 ∙ ap Some same)
        ]
    go (u ∷ (v ∷ (w ∷ xs))) p e = cc

-- both directions, and none exactly where no lead describes the row
pub lead_where_described : (servers : ℕ) (row : ℕ → Cell) → ((v : ℕ) → servers ≤ v → row v ≡ Absent) → LeadWhereDescribed servers row
lead_where_described servers row out = record {
  found = λ lead. (λ e. lead_describes servers row lead out e, λ d. lead_of_is lead d.0 row servers d.1 out);
  none = (
    λ e lead n d. let found : lead_of servers row ≡ Some lead = lead_of_is lead n row servers d out in cc,
    λ h. elim (cases_Option (lead_of servers row)) [ inl q ↦ q | inr q ↦ absurd (let d = lead_describes servers row q.0 out q.1 in h q.0 d.0 d.1) ],
  );
}
