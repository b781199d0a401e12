-- Live replicas at a server that a call does not name.
use Rattle.std.proofs.Common.{◌≡◌, ◌≢◌, ℕ, true, false, refl, sym, ap, ◌∙◌, inl, inr, Some}
use Rattle.std.proofs.lemmas.Bool.{cases_eq, eq-eqb}
use Rattle.sm_server.specs.declared.call.Cell.{Cell}
use Rattle.sm_server.specs.declared.call.Cell.TheVariants.{Absent, Prepared, Secondary, Primary, Forwarding}
use Rattle.sm_server.specs.declared.call.Call.{Call}
use Rattle.sm_server.specs.declared.call.Role.TheVariants as role
use Rattle.sm_server.specs.declared.call.Call.TheVariants as call
use Rattle.sm_server.specs.Call.{led_to}
use Rattle.sm_placement.specs.declared.lead.Lead.{Lead}
use Rattle.sm_placement.specs.declared.lead.Lead.TheVariants.{Gone, At, Ready, Handing, Handed}
use Rattle.sm_placement.specs.Lead.{Describes, IsPlain}
use Rattle.sm_placement.specs.Rows.{forwards, serves, serves_as}

-- a prepared server's old owner is primary, or forwards to it under its number
pub data IsHandedTo (row : ℕ → Cell) (v from number : ℕ) : Type 0 where
  ByPrimary : row from ≡ Primary → IsHandedTo row v from number
  ByForwarding : row from ≡ Forwarding v number → IsHandedTo row v from number

-- two prepared cells that are one are of one handover
same_handover : (u n from number : ℕ) → Prepared u n ≡ Prepared from number → (u ≡ from) × (n ≡ number)
same_handover u n from number e = (cc, cc)

not_plain : (c : Cell) (from number : ℕ) → c ≡ Prepared from number → IsPlain c → ⊥
not_plain Absent from number e p = cc
not_plain Secondary from number e p = cc
not_plain (Prepared u n) from number e p = p
not_plain Primary from number e p = p
not_plain (Forwarding u n) from number e p = p

-- so it is of a row that a lead describes
pub handed_to : (lead : Lead) (n : ℕ) (row : ℕ → Cell) (v from number : ℕ) → Describes lead n row → row v ≡ Prepared from number → IsHandedTo row v from number
handed_to Gone n row v from number d e = absurd (not_plain (row v) from number e (d v))
handed_to (At u) n row v from number d e = elim (cases_eq v u) [
  | inl q ↦ absurd (let p = d.0 in let r = ap row q in cc)
  | inr q ↦ absurd (not_plain (row v) from number e (d.1 v q))
]
handed_to (Ready u t) n row v from number d e = elim (cases_eq v t) [
  | inl q ↦
      let s : (u ≡ from) × (n ≡ number) = same_handover u n from number (sym d.2 ∙ sym (ap row q) ∙ e) in
      ByPrimary (ap row (sym s.0) ∙ d.1)
  | inr q ↦ elim (cases_eq v u) [
    | inl p ↦ absurd (let a = d.1 in let r = ap row p in cc)
    | inr p ↦ absurd (not_plain (row v) from number e (d.3 v p q))
  ]
]
handed_to (Handing u t) n row v from number d e = elim (cases_eq v t) [
  | inl q ↦
      let s : (u ≡ from) × (n ≡ number) = same_handover u n from number (sym d.2 ∙ sym (ap row q) ∙ e) in
      ByForwarding (ap row (sym s.0) ∙ d.1 ∙ ap (λ x. Forwarding x n) (sym q) ∙ ap (λ x. Forwarding v x) s.1)
  | inr q ↦ elim (cases_eq v u) [
    | inl p ↦ absurd (let a = d.1 in let r = ap row p in cc)
    | inr p ↦ absurd (not_plain (row v) from number e (d.3 v p q))
  ]
]
handed_to (Handed u t) n row v from number d e = elim (cases_eq v t) [
  | inl q ↦ absurd (let a = d.2 in let r = ap row q in cc)
  | inr q ↦ elim (cases_eq v u) [
    | inl p ↦ absurd (let a = d.1 in let r = ap row p in cc)
    | inr p ↦ absurd (not_plain (row v) from number e (d.3 v p q))
  ]
]

-- a call that leads a primary to forwarding names the new owner
pub begins_forwarding : (c : Call) (v number : ℕ) → led_to c Primary ≡ Some (Forwarding v number) → (m : ℕ) × (c ≡ call.PrepareDrop v m)
begins_forwarding (call.PrepareDrop t n) v number e = (n, cc)
begins_forwarding (call.Add role.Primary) v number e = absurd (cc)
begins_forwarding (call.Add role.Secondary) v number e = absurd (cc)
begins_forwarding call.Drop v number e = absurd (cc)
begins_forwarding (call.Change role.Primary role.Primary) v number e = absurd (cc)
begins_forwarding (call.Change role.Primary role.Secondary) v number e = absurd (cc)
begins_forwarding (call.Change role.Secondary role.Primary) v number e = absurd (cc)
begins_forwarding (call.Change role.Secondary role.Secondary) v number e = absurd (cc)
begins_forwarding (call.PrepareAdd t n) v number e = absurd (cc)

-- no call leads from forwarding to a primary
pub ends_forwarding : (c : Call) (to number : ℕ) → led_to c (Forwarding to number) ≡ Some Primary → ⊥
ends_forwarding call.Drop to number e = cc
ends_forwarding (call.Add role.Primary) to number e = cc
ends_forwarding (call.Add role.Secondary) to number e = cc
ends_forwarding (call.Change role.Primary role.Primary) to number e = cc
ends_forwarding (call.Change role.Primary role.Secondary) to number e = cc
ends_forwarding (call.Change role.Secondary role.Primary) to number e = cc
ends_forwarding (call.Change role.Secondary role.Secondary) to number e = cc
ends_forwarding (call.PrepareAdd t n) to number e = cc
ends_forwarding (call.PrepareDrop t n) to number e = cc

-- ---- who serves

-- the cells that two rows have of a server that no call was made at: the same, and the old owner's by a call that does not name it
pub record IsElsewhere (row next : ℕ → Cell) (x : ℕ) (c : Call) (v : ℕ) : Type 0 where
  pub apart : v ≢ x
  pub others : (u : ℕ) → u ≢ x → next u ≡ row u
  pub led : led_to c (row x) ≡ Some (next x)
  pub unnamed : (m : ℕ) → c ≢ call.PrepareDrop v m

by_forwarding : (row : ℕ → Cell) (v from number : ℕ) → row from ≡ Forwarding v number → forwards (row from) v number ≡ true
by_forwarding row v from number e = rw (e, eq-eqb v v refl, eq-eqb number number refl) refl

by_primary : (row : ℕ → Cell) (v from number : ℕ) → row from ≡ Primary → forwards (row from) v number ≡ false
by_primary row v from number e = rw e refl

-- a prepared server serves after the call if it did before
prepared_alike : (row next : ℕ → Cell) (x : ℕ) (c : Call) (v from number : ℕ) → IsElsewhere row next x c v → IsHandedTo row v from number → IsHandedTo next v from number →
    forwards (next from) v number ≡ forwards (row from) v number
prepared_alike row next x c v from number e (ByPrimary a) (ByPrimary b) = by_primary next v from number b ∙ sym (by_primary row v from number a)
prepared_alike row next x c v from number e (ByForwarding a) (ByForwarding b) = by_forwarding next v from number b ∙ sym (by_forwarding row v from number a)
prepared_alike row next x c v from number e (ByPrimary a) (ByForwarding b) = elim (cases_eq from x) [
  | inl q ↦
      let l : led_to c Primary ≡ Some (Forwarding v number) = ap (led_to c) (sym a ∙ ap row q) ∙ e.led ∙ ap Some (ap next (sym q) ∙ b) in
      let m = begins_forwarding c v number l in
      absurd (e.unnamed m.0 m.1)
  | inr q ↦ absurd (let z = sym a ∙ sym (e.others from q) ∙ b in cc)
]
prepared_alike row next x c v from number e (ByForwarding a) (ByPrimary b) = elim (cases_eq from x) [
  | inl q ↦ absurd (ends_forwarding c v number (ap (led_to c) (sym a ∙ ap row q) ∙ e.led ∙ ap Some (ap next (sym q) ∙ b)))
  | inr q ↦ absurd (let z = sym a ∙ sym (e.others from q) ∙ b in cc)
]

-- a server that the call does not name serves after it if it did before
pub serves_alike : (row next : ℕ → Cell) (lead after : Lead) (n m : ℕ) (x : ℕ) (c : Call) (v : ℕ) → Describes lead n row → Describes after m next → IsElsewhere row next x c v →
    serves next v ≡ serves row v
serves_alike row next lead after n m x c v d d' e = go (row v) refl
  where
    same : next v ≡ row v
    same = e.others v e.apart

    go : (cell : Cell) → row v ≡ cell → serves_as next v (next v) ≡ serves_as row v (row v)
    go (Prepared from number) p = ap (serves_as next v) (same ∙ p) ∙ prepared_alike row next x c v from number e (handed_to lead n row v from number d p) (handed_to after m next v from number d' (same ∙ p)) ∙ sym (ap (serves_as row v) p)
    go Absent p = ap (serves_as next v) (same ∙ p) ∙ sym (ap (serves_as row v) p)
    go Secondary p = ap (serves_as next v) (same ∙ p) ∙ sym (ap (serves_as row v) p)
    go Primary p = ap (serves_as next v) (same ∙ p) ∙ sym (ap (serves_as row v) p)
    go (Forwarding u k) p = ap (serves_as next v) (same ∙ p) ∙ sym (ap (serves_as row v) p)
