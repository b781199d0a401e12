-- The statement of a hold about a placement, if its rights are all true of it.
use Rattle.std.proofs.Common.{◌≡◌, ◌≢◌, ℕ, ◌+◌, ◌≤◌, Bool, true, false, eqb, ◌&&◌, refl, sym, ap, ◌∙◌, arith, inl, inr, Option, Some, None}
use Rattle.std.proofs.lemmas.Bool.{cases_eq, eqb-true, eq-eqb, and_parts}
use Rattle.sm_server.specs.declared.call.Cell.{Cell}
use Rattle.sm_server.specs.declared.call.Cell.TheVariants as cell
use Rattle.sm_placement.specs.declared.lead.Lead.{Lead}
use Rattle.sm_placement.specs.declared.lead.Lead.TheVariants.{Gone, At, Ready, Handing, Handed}
use Rattle.sm_placement.specs.Setup.{Sizes}
use Rattle.sm_placement.specs.Place.{Place}
use Rattle.sm_placement.specs.Lead.{Describes, IsPlain}
use Rattle.sm_placement.specs.Sums.{bit, put}
use Rattle.sm_placement.proofs.Sums.{put-here, put-apart, put-same}
use Rattle.sm_reservation.specs.declared.right.PlainCell.{PlainCell}
use Rattle.sm_reservation.specs.declared.right.PlainCell.TheVariants.{Absent, Secondary}
use Rattle.sm_reservation.specs.Hold.{Hold}
use Rattle.sm_reservation.specs.Amounts.{OfCell, OfCrown, is_cell, is_crown, same_lead, same_listed, plain_of}
use Rattle.sm_reservation.specs.Truth.{IsTrueOf}

-- ---- tests that pass

-- a right to a cell that passes the test of a state has that state
pub is_cell_true : (state : PlainCell) (o : Option PlainCell) → is_cell state o ≡ true → o ≡ Some state
is_cell_true Absent (Some Absent) e = refl
is_cell_true Secondary (Some Secondary) e = refl
is_cell_true Absent None e = cc
is_cell_true Absent (Some Secondary) e = cc
is_cell_true Secondary None e = cc
is_cell_true Secondary (Some Absent) e = cc

-- and it passes the test of its own state
pub is_cell_self : (state : PlainCell) → is_cell state (Some state) ≡ true
is_cell_self Absent = refl
is_cell_self Secondary = refl

pair_of : (x y u v : ℕ) → (eqb x u && eqb y v) ≡ true → (x ≡ u) × (y ≡ v)
pair_of x y u v e = let q = and_parts (eqb x u) (eqb y v) e in (eqb-true x u q.0, eqb-true y v q.1)

-- leads that test as the same are equal
pub same_lead_true : (a b : Lead) → same_lead a b ≡ true → a ≡ b
same_lead_true Gone Gone e = refl
same_lead_true (At x) (At u) e = ap At (eqb-true x u e)
same_lead_true (Ready x y) (Ready u v) e = let q = pair_of x y u v e in rw (q.0, q.1)
same_lead_true (Handing x y) (Handing u v) e = let q = pair_of x y u v e in rw (q.0, q.1)
same_lead_true (Handed x y) (Handed u v) e = let q = pair_of x y u v e in rw (q.0, q.1)
same_lead_true _ _ e = cc

-- listed servers that test as the same are equal
pub same_server_true : (a b : Option ℕ) → same_listed a b ≡ true → a ≡ b
same_server_true None None e = refl
same_server_true (Some x) (Some y) e = ap Some (eqb-true x y e)
same_server_true None (Some y) e = cc
same_server_true (Some x) None e = cc

itself : (x : ℕ) → eqb x x ≡ true
itself x = eq-eqb x x refl

-- a lead tests as the same as itself
pub same_lead_self : (a : Lead) → same_lead a a ≡ true
same_lead_self Gone = refl
same_lead_self (At x) = itself x
same_lead_self (Ready x y) = rw (itself x, itself y)
same_lead_self (Handing x y) = rw (itself x, itself y)
same_lead_self (Handed x y) = rw (itself x, itself y)

-- and so does a listed server, or none
pub same_server_self : (a : Option ℕ) → same_listed a a ≡ true
same_server_self None = refl
same_server_self (Some x) = itself x

-- a test that counts as 1 has passed
pub bit_true : (b : Bool) → 1 ≤ bit b → b ≡ true
bit_true true h = refl
bit_true false h = absurd (omega arith)

-- ---- rights that are true

-- a true right to a cell says what is there
pub true_cell : (c : Sizes) (p : Place) (leads : ℕ → Lead) (h : Hold) → IsTrueOf c p leads h → (s v : ℕ) (state : PlainCell) → h.cells s v ≡ Some state → plain_of (p.cells s v) ≡ Some state
true_cell c p leads h o s v state e =
    let a : bit (is_cell state (h.cells s v)) + 0 ≤ bit (is_cell state (plain_of (p.cells s v))) = o.rights (OfCell s v state) in
    let b : bit (is_cell state (h.cells s v)) ≡ 1 = rw (e, is_cell_self state) refl in
    is_cell_true state (plain_of (p.cells s v)) (bit_true _ (omega arith))

-- there is no true right to a cell that is neither absent nor a secondary
pub no_true_cell : (c : Sizes) (p : Place) (leads : ℕ → Lead) (h : Hold) → IsTrueOf c p leads h → (s v : ℕ) → plain_of (p.cells s v) ≡ None → h.cells s v ≡ None
no_true_cell c p leads h o s v e = go (h.cells s v) refl
  where
    go : (x : Option PlainCell) → h.cells s v ≡ x → x ≡ None
    go None q = refl
    go (Some state) q = let d = true_cell c p leads h o s v state q in cc

-- a true crown says the shard's lead and its listed server
pub true_crown : (c : Sizes) (p : Place) (leads : ℕ → Lead) (h : Hold) → IsTrueOf c p leads h → (s : ℕ) (lead : Lead) (listed : Option ℕ) → h.crowns s ≡ Some (lead, listed) → (leads s ≡ lead) × (p.listed s ≡ listed)
true_crown c p leads h o s lead listed e =
    let a : bit (is_crown lead listed (h.crowns s)) + 0 ≤ bit (same_lead lead (leads s) && same_listed listed (p.listed s)) = o.rights (OfCrown s lead listed) in
    let b : bit (is_crown lead listed (h.crowns s)) ≡ 1 = rw (e, same_lead_self lead, same_server_self listed) refl in
    let t : (same_lead lead (leads s) && same_listed listed (p.listed s)) ≡ true = bit_true _ (omega arith) in
    let q = and_parts (same_lead lead (leads s)) (same_listed listed (p.listed s)) t in
    (sym (same_lead_true lead (leads s) q.0), sym (same_server_true listed (p.listed s) q.1))

-- a cell is absent where the right to it would say so
pub absent_from : (x : Cell) → plain_of x ≡ Some Absent → x ≡ cell.Absent
absent_from cell.Absent e = refl
absent_from cell.Secondary e = cc
absent_from cell.Primary e = cc
absent_from (cell.Prepared a b) e = cc
absent_from (cell.Forwarding a b) e = cc

-- and a secondary where it would say that
pub secondary_from : (x : Cell) → plain_of x ≡ Some Secondary → x ≡ cell.Secondary
secondary_from cell.Absent e = cc
secondary_from cell.Secondary e = refl
secondary_from cell.Primary e = cc
secondary_from (cell.Prepared a b) e = cc
secondary_from (cell.Forwarding a b) e = cc

-- ---- leads and crowns that change together

-- a lead and the crowns that stay
pub crown_kept : (leads : ℕ → Lead) (listed : ℕ → Option ℕ) (crowns : ℕ → Option (Lead × Option ℕ)) (s : ℕ) (r : ℕ) (lead : Lead) (l : Option ℕ) →
    bit (is_crown lead l (Some (put leads s (leads s) r, listed r))) + bit (is_crown lead l (crowns r))
    ≡ bit (is_crown lead l (Some (leads r, listed r))) + bit (is_crown lead l (crowns r))
crown_kept leads listed crowns s r lead l =
    ap (λ (f : ℕ → Lead). bit (is_crown lead l (Some (f r, listed r))) + bit (is_crown lead l (crowns r))) (put-same leads s (leads s) refl)

-- a lead that changes as the crown does
pub crown_changed : (leads : ℕ → Lead) (listed : ℕ → Option ℕ) (crowns : ℕ → Option (Lead × Option ℕ)) (s : ℕ) (was is : Lead) (at : Option ℕ) →
    crowns s ≡ Some (was, at) → leads s ≡ was → listed s ≡ at → (r : ℕ) (lead : Lead) (l : Option ℕ) →
    bit (is_crown lead l (Some (put leads s is r, listed r))) + bit (is_crown lead l (crowns r))
    ≡ bit (is_crown lead l (Some (leads r, listed r))) + bit (is_crown lead l (put crowns s (Some (is, at)) r))
crown_changed leads listed crowns s was is at e f g r lead l = elim (cases_eq r s) [
  | inl q ↦ rw (put-here leads s is r q, put-here crowns s (Some (is, at)) r q) (rw q (rw (e, f, g) (omega arith)))
  | inr q ↦ rw (put-apart leads s is r q, put-apart crowns s (Some (is, at)) r q) refl
]

-- a plain cell that becomes another plain cell leaves the lead as it is
pub plain_change : (lead : Lead) (n : ℕ) (row row' : ℕ → Cell) (v : ℕ) → Describes lead n row → IsPlain (row v) → IsPlain (row' v) → ((q : ℕ) → q ≢ v → row' q ≡ row q) → Describes lead n row'
plain_change lead n row row' v d was is others = go lead d
  where
    still : (q : ℕ) → IsPlain (row q) → IsPlain (row' q)
    still q h = elim (cases_eq q v) [ inl e ↦ rw e is | inr e ↦ rw (others q e) h ]

    kept : (q : ℕ) (x : Cell) → row q ≡ x → (IsPlain x → ⊥) → row' q ≡ x
    kept q x e f = elim (cases_eq q v) [ inl g ↦ absurd (f (let same : row v ≡ x = ap row (sym g) ∙ e in rw same at was)) | inr g ↦ others q g ∙ e ]

    go : (lead : Lead) → Describes lead n row → Describes lead n row'
    go Gone d = λ x. still x (d x)
    go (At u) d = (kept u cell.Primary d.0 (λ b. b), λ x e. still x (d.1 x e))
    go (Ready u w) d = (d.0, kept u cell.Primary d.1 (λ b. b), kept w (cell.Prepared u n) d.2 (λ b. b), λ x e f. still x (d.3 x e f))
    go (Handing u w) d = (d.0, kept u (cell.Forwarding w n) d.1 (λ b. b), kept w (cell.Prepared u n) d.2 (λ b. b), λ x e f. still x (d.3 x e f))
    go (Handed u w) d = (d.0, kept u (cell.Forwarding w n) d.1 (λ b. b), kept w cell.Primary d.2 (λ b. b), λ x e f. still x (d.3 x e f))
