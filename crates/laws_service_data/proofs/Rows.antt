-- Who serves a shard once one cell of its row has changed.
use Rattle.std.proofs.Common.{◌≡◌, ◌≢◌, ℕ, inl, inr, refl, sym, ap, ◌∙◌, subst, true}
use Rattle.std.specs.Prelude.{◌==◌}
use Rattle.std.proofs.lemmas.Bool.{and_parts, cases_eq, eq-eqb, eqb-true}
use Rattle.sm_server.specs.declared.call.Cell.{Cell}
use Rattle.sm_server.specs.declared.call.Cell.TheVariants.{Absent, Prepared, Secondary, Primary, Forwarding}
use Rattle.sm_placement.specs.Rows.{forwards, serves, serves_as}
use Rattle.sm_placement.specs.Lead.{Describes, IsPlain}
use Rattle.sm_placement.specs.declared.lead.Lead.{Lead}
use Rattle.sm_placement.specs.declared.lead.Lead.TheVariants.{Gone, At, Ready, Handing, Handed}
use Rattle.laws_network.proofs.Described.{IsDescribed}

-- a server that serves is the primary, or the new owner to which the old one forwards
pub data IsServingAs (row : ℕ → Cell) (v : ℕ) : Type 0 where
  AsPrimary : row v ≡ Primary → IsServingAs row v
  AsNewOwner : (from number : ℕ) → row v ≡ Prepared from number → row from ≡ Forwarding v number → IsServingAs row v

-- so is whoever serves
pub serving_as : (row : ℕ → Cell) (v : ℕ) → serves row v ≡ true → IsServingAs row v
serving_as row v e = go (row v) refl e
  where
    to_v : (c : Cell) (n : ℕ) → forwards c v n ≡ true → c ≡ Forwarding v n
    to_v (Forwarding a m) n q =
        let t = and_parts (a == v) (m == n) q in
        ap (λ z. Forwarding z m) (eqb-true a v t.0) ∙ ap (Forwarding v) (eqb-true m n t.1)
    to_v Absent n q = absurd (cc)
    to_v Secondary n q = absurd (cc)
    to_v Primary n q = absurd (cc)
    to_v (Prepared a m) n q = absurd (cc)

    go : (c : Cell) → row v ≡ c → serves_as row v c ≡ true → IsServingAs row v
    go Primary h q = AsPrimary h
    go (Prepared a n) h q = AsNewOwner a n h (to_v (row a) n q)
    go Absent h q = absurd (cc)
    go Secondary h q = absurd (cc)
    go (Forwarding a n) h q = absurd (cc)

-- a primary serves
pub primary_serves : (row : ℕ → Cell) (v : ℕ) → row v ≡ Primary → serves row v ≡ true
primary_serves row v e = ap (serves_as row v) e

-- a new owner serves to which the old one forwards
new_owner_serves : (row : ℕ → Cell) (v a n : ℕ) → row v ≡ Prepared a n → row a ≡ Forwarding v n → serves row v ≡ true
new_owner_serves row v a n e f = rw (e, f, eq-eqb v v refl, eq-eqb n n refl) refl

-- a row and another one, in which one server has another cell
pub record IsRowChange (row new : ℕ → Cell) (u : ℕ) (next : Cell) : Type 0 where
  pub here : new u ≡ next
  pub there : (v : ℕ) → v ≢ u → new v ≡ row v

module _ (row new : ℕ → Cell) (u : ℕ) (next : Cell) (c : IsRowChange row new u next) where
  primary_before : (v : ℕ) → v ≢ u → new v ≡ Primary → serves row v ≡ true
  primary_before v e h = primary_serves row v (sym (c.there v e) ∙ h)

  new_owner_before : (v a n : ℕ) → v ≢ u → a ≢ u → new v ≡ Prepared a n → new a ≡ Forwarding v n → serves row v ≡ true
  new_owner_before v a n e f h q = new_owner_serves row v a n (sym (c.there v e) ∙ h) (sym (c.there a f) ∙ q)

  -- Where the changed cell has no part in the lead, whoever serves is another server, and served before.
  pub served_before_plain : IsPlain next → (v : ℕ) → serves new v ≡ true → (v ≢ u) × (serves row v ≡ true)
  served_before_plain plain v s = (apart, by_serving (serving_as new v s))
    where
      not_here : (d : Cell) → new u ≡ d → IsPlain d
      not_here d e = subst IsPlain (sym c.here ∙ e) plain

      apart : v ≢ u
      apart e = go (serving_as new u (subst (λ w. serves new w ≡ true) e s))
        where
          go : IsServingAs new u → ⊥
          go (AsPrimary h) = not_here Primary h
          go (AsNewOwner a n h f) = not_here (Prepared a n) h

      by_serving : IsServingAs new v → serves row v ≡ true
      by_serving (AsPrimary h) = primary_before v apart h
      by_serving (AsNewOwner a n h f) = new_owner_before v a n apart
          (λ e. not_here (Forwarding v n) (ap new (sym e) ∙ f)) h f

-- nobody forwards to a server that has nothing
never_to_absent : (row : ℕ → Cell) (a u n : ℕ) → IsDescribed row → row u ≡ Absent → row a ≡ Forwarding u n → ⊥
never_to_absent row a u n d e f = go d.0 d.1 d.2
  where
    not_plain : IsPlain (row a) → ⊥
    not_plain h = absurd (subst IsPlain f h)

    go : (lead : Lead) (m : ℕ) → Describes lead m row → ⊥
    go Gone m d = not_plain (d a)
    go (At x) m d = elim (cases_eq a x) [
      | inl q ↦ absurd (let z : Forwarding u n ≡ Primary = sym f ∙ (ap row q ∙ d.0) in cc)
      | inr q ↦ not_plain (d.1 a q)
    ]
    go (Ready x y) m d = elim (cases_eq a x) [
      | inl q ↦ absurd (let z : Forwarding u n ≡ Primary = sym f ∙ (ap row q ∙ d.1) in cc)
      | inr q ↦ elim (cases_eq a y) [
        | inl r ↦ absurd (let z : Forwarding u n ≡ Prepared x m = sym f ∙ (ap row r ∙ d.2) in cc)
        | inr r ↦ not_plain (d.3 a q r)
      ]
    ]
    go (Handing x y) m d = elim (cases_eq a x) [
      | inl q ↦
          let z : Forwarding u n ≡ Forwarding y m = sym f ∙ (ap row q ∙ d.1) in
          let to : u ≡ y = cc in
          absurd (let t : Absent ≡ Prepared x m = sym e ∙ (ap row to ∙ d.2) in cc)
      | inr q ↦ elim (cases_eq a y) [
        | inl r ↦ absurd (let z : Forwarding u n ≡ Prepared x m = sym f ∙ (ap row r ∙ d.2) in cc)
        | inr r ↦ not_plain (d.3 a q r)
      ]
    ]
    go (Handed x y) m d = elim (cases_eq a x) [
      | inl q ↦
          let z : Forwarding u n ≡ Forwarding y m = sym f ∙ (ap row q ∙ d.1) in
          let to : u ≡ y = cc in
          absurd (let t : Absent ≡ Primary = sym e ∙ (ap row to ∙ d.2) in cc)
      | inr q ↦ elim (cases_eq a y) [
        | inl r ↦ absurd (let z : Forwarding u n ≡ Primary = sym f ∙ (ap row r ∙ d.2) in cc)
        | inr r ↦ not_plain (d.3 a q r)
      ]
    ]

-- A server is prepared that had nothing: whoever serves is another one, and served before.
pub served_before_prepared : (row new : ℕ → Cell) (u from number : ℕ) → IsRowChange row new u (Prepared from number) → IsDescribed row → row u ≡ Absent
    → (v : ℕ) → serves new v ≡ true → (v ≢ u) × (serves row v ≡ true)
served_before_prepared row new u from number c d absent v s = (apart, by_serving (serving_as new v s))
  where
    not_forwarding : (a w n : ℕ) → a ≡ u → new a ≡ Forwarding w n → ⊥
    not_forwarding a w n e f = absurd (let z : Prepared from number ≡ Forwarding w n = sym c.here ∙ (ap new (sym e) ∙ f) in cc)

    apart : v ≢ u
    apart e = go (serving_as new u (subst (λ w. serves new w ≡ true) e s))
      where
        go : IsServingAs new u → ⊥
        go (AsPrimary h) = absurd (let z : Prepared from number ≡ Primary = sym c.here ∙ h in cc)
        go (AsNewOwner a n h f) = never_to_absent row a u n d absent (sym (c.there a (λ q. not_forwarding a u n q f)) ∙ f)

    by_serving : IsServingAs new v → serves row v ≡ true
    by_serving (AsPrimary h) = primary_before row new u (Prepared from number) c v apart h
    by_serving (AsNewOwner a n h f) = new_owner_before row new u (Prepared from number) c v a n apart (λ q. not_forwarding a v n q f) h f

-- A primary forwards from now on: whoever serves is prepared for it.
pub prepared_for_it : (row new : ℕ → Cell) (u to number : ℕ) → IsRowChange row new u (Forwarding to number) → row u ≡ Primary
    → ((x y : ℕ) → serves row x ≡ true → serves row y ≡ true → x ≡ y) → (v : ℕ) → serves new v ≡ true → (n : ℕ) × (new v ≡ Prepared u n)
prepared_for_it row new u to number c primary one v s = by_serving (serving_as new v s)
  where
    here : serves row u ≡ true
    here = primary_serves row u primary

    apart : v ≢ u
    apart e = go (serving_as new u (subst (λ w. serves new w ≡ true) e s))
      where
        go : IsServingAs new u → ⊥
        go (AsPrimary h) = absurd (let z : Forwarding to number ≡ Primary = sym c.here ∙ h in cc)
        go (AsNewOwner a n h f) = absurd (let z : Forwarding to number ≡ Prepared a n = sym c.here ∙ h in cc)

    by_serving : IsServingAs new v → (n : ℕ) × (new v ≡ Prepared u n)
    by_serving (AsPrimary h) = absurd (apart (one v u (primary_before row new u (Forwarding to number) c v apart h) here))
    by_serving (AsNewOwner a n h f) = elim (cases_eq a u) [
      | inl e ↦ (n, h ∙ ap (λ z. Prepared z n) e)
      | inr e ↦ absurd (apart (one v u (new_owner_before row new u (Forwarding to number) c v a n apart e h f) here))
    ]
