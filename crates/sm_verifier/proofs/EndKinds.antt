-- The parts that a hold at a stream's end sets: cells, and the servers that are listed.
use Rattle.std.proofs.Common.{◌≡◌, ◌≢◌, ◌⊎◌, ℕ, ◌+◌, ◌≤◌, true, refl, sym, ap, ◌∙◌, inl, inr, arith, subst, Option, Some, None}
use Rattle.std.proofs.lemmas.Bool.{cases_Bool, cases_eq, eq-eqb, ne_eqb, and_parts}
use Rattle.std.specs.Prelude.{◌&&◌, IfSome}
use Rattle.sm_placement.specs.Lead.{Describes, IsPlain, is_at_rest}
use Rattle.sm_placement.specs.Place.{Place}
use Rattle.sm_placement.specs.Setup.{Sizes}
use Rattle.sm_placement.specs.Sums.{bit}
use Rattle.sm_placement.specs.declared.lead.Lead.{Lead}
use Rattle.sm_placement.specs.declared.lead.Lead.TheVariants.{Gone, At, Ready, Handing, Handed}
use Rattle.sm_plan_code.proofs.Exclusive.{named_is_not_plain}
use Rattle.sm_plan_code.specs.Effects.{IsScene, touched, Effect}
use Rattle.sm_plan_code.specs.Reach.{LeadNames, HoldsLead, IsWithinReach}
use Rattle.sm_plan_code.specs.declared.instruction.Instr.{Instr}
use Rattle.sm_reservation.proofs.Truths.{true_cell, true_crown, no_true_cell, is_cell_self, is_cell_true, same_lead_self, same_lead_true, same_server_self, same_server_true, absent_from, secondary_from, bit_true}
use Rattle.sm_reservation.specs.Amounts.{Right, OfCell, OfCrown, is_cell, is_crown, same_lead, same_listed, plain_of, count, stock}
use Rattle.sm_reservation.specs.Hold.{Hold}
use Rattle.sm_reservation.specs.declared.right.PlainCell.{PlainCell}
use Rattle.sm_server.specs.declared.call.Cell.{Cell}
use Rattle.sm_verifier.specs.PlanEnd.{cell_by_crown, cell_by_right, listed_by, set_by}
use Rattle.sm_verifier.specs.Stream.{HasCrownsAtRest}
use Rattle.sm_server.specs.declared.call.Cell.TheVariants as cell
use Rattle.sm_reservation.specs.declared.right.PlainCell.TheVariants.{Absent, Secondary}
use Rattle.sm_reservation.proofs.ParcelSums.{crown_is}

-- The part of a placement that is looked at, what a hold at a stream's end sets it to, which holds reach it, and the one right that
-- it stands under.
pub record IsKind (A : Type 0) (now : Place → A) (set : Hold → A → A) (reaches : Hold → Type 0) (rule : (ℕ → Lead) → Place → Right) : Type 0 where
  pub unset : (h : Hold) (old : A) → (reaches h → ⊥) → set h old ≡ old
  pub sets : (c : Sizes) (p : Place) (leads : ℕ → Lead) (numbers : ℕ → ℕ) (h : Hold) → IsScene c p leads numbers h → HasCrownsAtRest h → reaches h → (old : A) → set h old ≡ now p
  pub counted : (c : Sizes) (p : Place) (leads : ℕ → Lead) (numbers : ℕ → ℕ) (h : Hold) → IsScene c p leads numbers h → reaches h → 1 ≤ count h (rule leads p)
  pub reached : (c : Sizes) (p : Place) (leads : ℕ → Lead) (numbers : ℕ → ℕ) (h : Hold) → IsScene c p leads numbers h → 1 ≤ count h (rule leads p) → reaches h
  pub one : (c : Sizes) (p : Place) (leads : ℕ → Lead) → stock c p leads (rule leads p) ≤ 1
  pub moves : (c : Sizes) (p : Place) (leads : ℕ → Lead) (numbers : ℕ → ℕ) (h h' : Hold) (i : Instr) → IsScene c p leads numbers h → (e : Effect c p leads numbers h h' i) →
      ((rule e.next_leads e.next_place ≡ rule leads p) × (now e.next_place ≡ now p) × (count h' (rule leads p) ≡ count h (rule leads p)))
      ⊎ ((1 ≤ count h (rule leads p)) × (1 ≤ count h' (rule e.next_leads e.next_place)))
  pub same : (leads : ℕ → Lead) (p q : Place) → q.cells ≡ p.cells → q.listed ≡ p.listed → (now q ≡ now p) × (rule leads q ≡ rule leads p)
  pub by_set : (h : Hold) (p : Place) → now (set_by h p) ≡ set h (now p)

-- ---- crowns

-- there is the crown of the shard
abbrev pub HoldsCrown : Hold → ℕ → Type 0
HoldsCrown h s = (lead : Lead) × (listed : Option ℕ) × (h.crowns s ≡ Some (lead, listed))

crown_counted : (c : Sizes) (p : Place) (leads : ℕ → Lead) (numbers : ℕ → ℕ) (h : Hold) → IsScene c p leads numbers h → (s : ℕ) → HoldsCrown h s → 1 ≤ count h (OfCrown s (leads s) (p.listed s))
crown_counted c p leads numbers h scene s k =
    let t = true_crown c p leads h scene.truth s k.0 k.1 k.2 in
    let e : bit (is_crown (leads s) (p.listed s) (h.crowns s)) ≡ 1 = rw (k.2, t.0, t.1, same_lead_self k.0, same_server_self k.1) refl in
    omega arith

-- the crown moves with what is true of it, or it is held before and after
crown_moves : (c : Sizes) (p : Place) (leads : ℕ → Lead) (numbers : ℕ → ℕ) (h h' : Hold) (i : Instr) → (e : Effect c p leads numbers h h' i) → (s : ℕ) →
    ((e.next_leads s ≡ leads s) × (e.next_place.listed s ≡ p.listed s) × (count h' (OfCrown s (leads s) (p.listed s)) ≡ count h (OfCrown s (leads s) (p.listed s))))
    ⊎ ((1 ≤ count h (OfCrown s (leads s) (p.listed s))) × (1 ≤ count h' (OfCrown s (e.next_leads s) (e.next_place.listed s))))
crown_moves c p leads numbers h h' i e s = elim (cases_Bool (same_lead (leads s) (e.next_leads s) && same_listed (p.listed s) (e.next_place.listed s))) [
  | inl it ↦
      let q = and_parts (same_lead (leads s) (e.next_leads s)) (same_listed (p.listed s) (e.next_place.listed s)) it in
      let x : bit (same_lead (leads s) (e.next_leads s) && same_listed (p.listed s) (e.next_place.listed s)) + 0 + count h (OfCrown s (leads s) (p.listed s))
      ≡ bit (same_lead (leads s) (leads s) && same_listed (p.listed s) (p.listed s)) + 0 + count h' (OfCrown s (leads s) (p.listed s)) = e.exchanged (OfCrown s (leads s) (p.listed s)) in
      let a : bit (same_lead (leads s) (e.next_leads s) && same_listed (p.listed s) (e.next_place.listed s)) ≡ 1 = ap bit it in
      let b : bit (same_lead (leads s) (leads s) && same_listed (p.listed s) (p.listed s)) ≡ 1 = rw (same_lead_self (leads s), same_server_self (p.listed s)) refl in
      inl (sym (same_lead_true (leads s) (e.next_leads s) q.0), sym (same_server_true (p.listed s) (e.next_place.listed s) q.1), omega arith)
  | inr other ↦
      let x : bit (same_lead (leads s) (e.next_leads s) && same_listed (p.listed s) (e.next_place.listed s)) + 0 + count h (OfCrown s (leads s) (p.listed s))
      ≡ bit (same_lead (leads s) (leads s) && same_listed (p.listed s) (p.listed s)) + 0 + count h' (OfCrown s (leads s) (p.listed s)) = e.exchanged (OfCrown s (leads s) (p.listed s)) in
      let a : bit (same_lead (leads s) (e.next_leads s) && same_listed (p.listed s) (e.next_place.listed s)) ≡ 0 = ap bit other in
      let b : bit (same_lead (leads s) (leads s) && same_listed (p.listed s) (p.listed s)) ≡ 1 = rw (same_lead_self (leads s), same_server_self (p.listed s)) refl in
      let y : bit (same_lead (e.next_leads s) (e.next_leads s) && same_listed (e.next_place.listed s) (e.next_place.listed s)) + 0 + count h (OfCrown s (e.next_leads s) (e.next_place.listed s))
      ≡ bit (same_lead (e.next_leads s) (leads s) && same_listed (e.next_place.listed s) (p.listed s)) + 0 + count h' (OfCrown s (e.next_leads s) (e.next_place.listed s)) = e.exchanged (OfCrown s (e.next_leads s) (e.next_place.listed s)) in
      let d : bit (same_lead (e.next_leads s) (e.next_leads s) && same_listed (e.next_place.listed s) (e.next_place.listed s)) ≡ 1 = rw (same_lead_self (e.next_leads s), same_server_self (e.next_place.listed s)) refl in
      elim (cases_Bool (same_lead (e.next_leads s) (leads s) && same_listed (e.next_place.listed s) (p.listed s))) [
        | inl back ↦
            let q = and_parts (same_lead (e.next_leads s) (leads s)) (same_listed (e.next_place.listed s) (p.listed s)) back in
            let l = same_lead_true (e.next_leads s) (leads s) q.0 in
            let m = same_server_true (e.next_place.listed s) (p.listed s) q.1 in
            let wrong : (same_lead (leads s) (e.next_leads s) && same_listed (p.listed s) (e.next_place.listed s)) ≡ true = rw (l, m, same_lead_self (leads s), same_server_self (p.listed s)) refl in
            absurd (cc)
        | inr apart ↦ let f : bit (same_lead (e.next_leads s) (leads s) && same_listed (e.next_place.listed s) (p.listed s)) ≡ 0 = ap bit apart in inr (omega arith, omega arith)
      ]
]

-- ---- who is listed

-- the server that a placement lists for the shard
abbrev pub listed_now : ℕ → Place → Option ℕ
listed_now s p = p.listed s

-- the one that a hold lists for it, or the old one where the hold has not its crown
abbrev pub listed_set : ℕ → Hold → Option ℕ → Option ℕ
listed_set s h old = listed_by (h.crowns s) old

-- a hold reaches it that has the shard's crown
abbrev pub listed_reaches : ℕ → Hold → Type 0
listed_reaches s h = HoldsCrown h s

-- it stands under the crown that is true of the placement
abbrev pub listed_rule : ℕ → (ℕ → Lead) → Place → Right
listed_rule s leads p = OfCrown s (leads s) (p.listed s)

crown_one : (lead : Lead) (listed : Option ℕ) → bit (same_lead lead lead && same_listed listed listed) ≤ 1
crown_one lead listed = rw (same_lead_self lead, same_server_self listed) (omega arith)

-- who is listed moves only with the shard's crown, and is at the end what the hold with the crown says
pub listed_kind : (s : ℕ) → IsKind (Option ℕ) (listed_now s) (listed_set s) (listed_reaches s) (listed_rule s)
listed_kind s = record {
  unset = λ h old n. go h old n (h.crowns s) refl;
  sets = λ c p leads numbers h scene rest r old. ap (λ o. listed_by o old) r.2 ∙ sym (true_crown c p leads h scene.truth s r.0 r.1 r.2).1;
  counted = λ c p leads numbers h scene r. crown_counted c p leads numbers h scene s r;
  reached = λ c p leads numbers h scene l. (leads s, p.listed s, crown_is (h.crowns s) (leads s) (p.listed s) (bit_true (is_crown (leads s) (p.listed s) (h.crowns s)) l));
  one = λ c p leads. crown_one (leads s) (p.listed s);
  moves = λ c p leads numbers h h' i scene e. elim (crown_moves c p leads numbers h h' i e s) [
    | inl m ↦ inl (ap (λ (l : Lead). OfCrown s l (e.next_place.listed s)) m.0 ∙ ap (λ (x : Option ℕ). OfCrown s (leads s) x) m.1, m.1, m.2)
    | inr m ↦ inr m
  ];
  same = λ leads p q a b. (ap (λ (f : ℕ → Option ℕ). f s) b, ap (λ (f : ℕ → Option ℕ). OfCrown s (leads s) (f s)) b);
  by_set = λ h p. refl;
}
  where
    go : (h : Hold) (old : Option ℕ) → (HoldsCrown h s → ⊥) → (o : Option (Lead × Option ℕ)) → h.crowns s ≡ o → listed_by (h.crowns s) old ≡ old
    go h old n None e = ap (λ o. listed_by o old) e
    go h old n (Some crown) e = absurd (n (crown.0, crown.1, e))

-- ---- cells

-- the cell of a placement
abbrev pub cell_now : ℕ → ℕ → Place → Cell
cell_now s v p = p.cells s v

-- the one that a hold's right to it or its shard's crown says, or the old one where neither does
abbrev pub cell_set : ℕ → ℕ → Hold → Cell → Cell
cell_set s v h old = cell_by_right (h.cells s v) (cell_by_crown (h.crowns s) v old)

-- a hold reaches it where it is within reach
abbrev pub cell_reaches : ℕ → ℕ → Hold → Type 0
cell_reaches s v h = IsWithinReach h s v

abbrev rule_by : Option PlainCell → ℕ → ℕ → Lead → Option ℕ → Right
rule_by (Some state) s v lead listed = OfCell s v state
rule_by None s v lead listed = OfCrown s lead listed

-- the right that a cell stands under: the one to it, or the crown that names it
abbrev pub cell_rule : ℕ → ℕ → (ℕ → Lead) → Place → Right
cell_rule s v leads p = rule_by (plain_of (p.cells s v)) s v (leads s) (p.listed s)

plain_some : (x : Cell) → IsPlain x → plain_of x ≡ None → ⊥
plain_some cell.Absent p e = cc
plain_some cell.Secondary p e = cc
plain_some cell.Primary p e = p
plain_some (cell.Prepared a b) p e = p
plain_some (cell.Forwarding a b) p e = p

-- a cell to which there is no right is named by the shard's lead
names_cell : (lead : Lead) (n : ℕ) (row : ℕ → Cell) (v : ℕ) → Describes lead n row → plain_of (row v) ≡ None → LeadNames lead v
names_cell Gone n row v d e = plain_some (row v) (d v) e
names_cell (At u) n row v d e = elim (cases_eq v u) [ inl q ↦ q | inr q ↦ absurd (plain_some (row v) (d.1 v q) e) ]
names_cell (Ready u x) n row v d e = elim (cases_eq v u) [ inl q ↦ inl q | inr q ↦ elim (cases_eq v x) [ inl r ↦ inr r | inr r ↦ absurd (plain_some (row v) (d.3 v q r) e) ] ]
names_cell (Handing u x) n row v d e = elim (cases_eq v u) [ inl q ↦ inl q | inr q ↦ elim (cases_eq v x) [ inl r ↦ inr r | inr r ↦ absurd (plain_some (row v) (d.3 v q r) e) ] ]
names_cell (Handed u x) n row v d e = elim (cases_eq v u) [ inl q ↦ inl q | inr q ↦ elim (cases_eq v x) [ inl r ↦ inr r | inr r ↦ absurd (plain_some (row v) (d.3 v q r) e) ] ]

module _ (s v : ℕ) where
  crown_unset : (h : Hold) (old : Cell) → (IsWithinReach h s v → ⊥) → (o : Option (Lead × Option ℕ)) → h.crowns s ≡ o → cell_by_crown o v old ≡ old
  crown_unset h old n None e = refl
  crown_unset h old n (Some (At u, listed)) e = elim (cases_eq u v) [
    | inl q ↦ absurd (n (inr (At u, listed, e, sym q)))
    | inr q ↦ rw (ne_eqb u v q) refl
  ]
  crown_unset h old n (Some (Gone, listed)) e = refl
  crown_unset h old n (Some (Ready a b, listed)) e = refl
  crown_unset h old n (Some (Handing a b, listed)) e = refl
  crown_unset h old n (Some (Handed a b, listed)) e = refl

  cell_unset : (h : Hold) (old : Cell) → (IsWithinReach h s v → ⊥) → cell_set s v h old ≡ old
  cell_unset h old n = go (h.cells s v) refl
    where
      go : (o : Option PlainCell) → h.cells s v ≡ o → cell_set s v h old ≡ old
      go None e = ap (λ o. cell_by_right o (cell_by_crown (h.crowns s) v old)) e ∙ crown_unset h old n (h.crowns s) refl
      go (Some state) e = absurd (n (inl (state, e)))

  module _ (c : Sizes) (p : Place) (leads : ℕ → Lead) (numbers : ℕ → ℕ) (h : Hold) (scene : IsScene c p leads numbers h) where
    -- a crown over the cell leaves no right to it
    led : HoldsLead h s v → (plain_of (p.cells s v) ≡ None) × (h.cells s v ≡ None)
    led k =
        let t = true_crown c p leads h scene.truth s k.0 k.1 k.2 in
        let n = named_is_not_plain (leads s) (numbers s) p s v (scene.described s) (subst (λ l. LeadNames l v) (sym t.0) k.3) in
        (n, no_true_cell c p leads h scene.truth s v n)

    cell_sets : HasCrownsAtRest h → IsWithinReach h s v → (old : Cell) → cell_set s v h old ≡ p.cells s v
    cell_sets rest (inl k) old = ap (λ o. cell_by_right o (cell_by_crown (h.crowns s) v old)) k.1 ∙ go k.0 (true_cell c p leads h scene.truth s v k.0 k.1)
      where
        go : (state : PlainCell) → plain_of (p.cells s v) ≡ Some state → cell_by_right (Some state) (cell_by_crown (h.crowns s) v old) ≡ p.cells s v
        go Absent e = sym (absent_from (p.cells s v) e)
        go Secondary e = sym (secondary_from (p.cells s v) e)
    cell_sets rest (inr k) old =
        ap (λ o. cell_by_right o (cell_by_crown (h.crowns s) v old)) (led (inr_is k)).1 ∙ ap (λ o. cell_by_crown o v old) k.2 ∙ go k.0 (true_crown c p leads h scene.truth s k.0 k.1 k.2).0 k.3 (subst (λ o. IfSome o (λ crown. is_at_rest crown.0 ≡ true)) k.2 (rest s))
      where
        inr_is : HoldsLead h s v → HoldsLead h s v
        inr_is x = x

        go : (lead : Lead) → leads s ≡ lead → LeadNames lead v → is_at_rest lead ≡ true → cell_by_crown (Some (lead, k.1)) v old ≡ p.cells s v
        go Gone e n r = absurd n
        go (At u) e n r =
            let d : Describes (At u) (numbers s) (p.cells s) = subst (λ l. Describes l (numbers s) (p.cells s)) e (scene.described s) in
            rw (eq-eqb u v (sym n)) (sym (ap (p.cells s) n ∙ d.0))
        go (Ready a b) e n r = cc
        go (Handing a b) e n r = cc
        go (Handed a b) e n r = cc

    cell_counted : IsWithinReach h s v → 1 ≤ count h (cell_rule s v leads p)
    cell_counted (inl k) =
        let t = true_cell c p leads h scene.truth s v k.0 k.1 in
        let e : count h (cell_rule s v leads p) ≡ count h (OfCell s v k.0) = ap (λ o. count h (rule_by o s v (leads s) (p.listed s))) t in
        let f : bit (is_cell k.0 (h.cells s v)) ≡ 1 = rw (k.1, is_cell_self k.0) refl in
        omega arith
    cell_counted (inr k) =
        let e : count h (cell_rule s v leads p) ≡ count h (OfCrown s (leads s) (p.listed s)) = ap (λ o. count h (rule_by o s v (leads s) (p.listed s))) (led k).0 in
        let f = crown_counted c p leads numbers h scene s (k.0, k.1, k.2) in
        omega arith

    cell_reached : 1 ≤ count h (cell_rule s v leads p) → IsWithinReach h s v
    cell_reached l = go (plain_of (p.cells s v)) refl
      where
        go : (o : Option PlainCell) → plain_of (p.cells s v) ≡ o → IsWithinReach h s v
        go (Some state) e =
            let f : count h (cell_rule s v leads p) ≡ count h (OfCell s v state) = ap (λ o. count h (rule_by o s v (leads s) (p.listed s))) e in
            inl (state, is_cell_true state (h.cells s v) (bit_true (is_cell state (h.cells s v)) (omega arith)))
        go None e =
            let f : count h (cell_rule s v leads p) ≡ count h (OfCrown s (leads s) (p.listed s)) = ap (λ o. count h (rule_by o s v (leads s) (p.listed s))) e in
            inr (leads s, p.listed s, crown_is (h.crowns s) (leads s) (p.listed s) (bit_true (is_crown (leads s) (p.listed s) (h.crowns s)) (omega arith)), names_cell (leads s) (numbers s) (p.cells s) v (scene.described s) e)

    module _ (h' : Hold) (i : Instr) (e : Effect c p leads numbers h h' i) where
      untouched : touched i ≢ Some (s, v) →
          ((cell_rule s v e.next_leads e.next_place ≡ cell_rule s v leads p) × (e.next_place.cells s v ≡ p.cells s v) × (count h' (cell_rule s v leads p) ≡ count h (cell_rule s v leads p)))
          ⊎ ((1 ≤ count h (cell_rule s v leads p)) × (1 ≤ count h' (cell_rule s v e.next_leads e.next_place)))
      untouched n = go (plain_of (p.cells s v)) refl
        where
          stays : e.next_place.cells s v ≡ p.cells s v
          stays = e.stays.cells s v n

          go : (o : Option PlainCell) → plain_of (p.cells s v) ≡ o →
              ((cell_rule s v e.next_leads e.next_place ≡ cell_rule s v leads p) × (e.next_place.cells s v ≡ p.cells s v) × (count h' (cell_rule s v leads p) ≡ count h (cell_rule s v leads p)))
              ⊎ ((1 ≤ count h (cell_rule s v leads p)) × (1 ≤ count h' (cell_rule s v e.next_leads e.next_place)))
          go (Some state) f =
              let now : cell_rule s v leads p ≡ OfCell s v state = ap (λ o. rule_by o s v (leads s) (p.listed s)) f in
              let later : cell_rule s v e.next_leads e.next_place ≡ OfCell s v state = ap (λ x. rule_by (plain_of x) s v (e.next_leads s) (e.next_place.listed s)) stays ∙ ap (λ o. rule_by o s v (e.next_leads s) (e.next_place.listed s)) f in
              let x : bit (is_cell state (plain_of (e.next_place.cells s v))) + 0 + count h (OfCell s v state) ≡ bit (is_cell state (plain_of (p.cells s v))) + 0 + count h' (OfCell s v state) = e.exchanged (OfCell s v state) in
              let y : bit (is_cell state (plain_of (e.next_place.cells s v))) ≡ bit (is_cell state (plain_of (p.cells s v))) = ap (λ x. bit (is_cell state (plain_of x))) stays in
              let z : count h' (OfCell s v state) ≡ count h (OfCell s v state) = omega arith in
              inl (later ∙ sym now, stays, ap (count h') now ∙ z ∙ ap (count h) (sym now))
          go None f =
              let now : cell_rule s v leads p ≡ OfCrown s (leads s) (p.listed s) = ap (λ o. rule_by o s v (leads s) (p.listed s)) f in
              let later : cell_rule s v e.next_leads e.next_place ≡ OfCrown s (e.next_leads s) (e.next_place.listed s) = ap (λ x. rule_by (plain_of x) s v (e.next_leads s) (e.next_place.listed s)) stays ∙ ap (λ o. rule_by o s v (e.next_leads s) (e.next_place.listed s)) f in
              elim (crown_moves c p leads numbers h h' i e s) [
                | inl m ↦ inl (later ∙ ap (λ (l : Lead). OfCrown s l (e.next_place.listed s)) m.0 ∙ ap (λ (x : Option ℕ). OfCrown s (leads s) x) m.1 ∙ sym now, stays, ap (count h') now ∙ m.2 ∙ ap (count h) (sym now))
                | inr m ↦ inr (subst (λ r. 1 ≤ count h r) (sym now) m.0, subst (λ r. 1 ≤ count h' r) (sym later) m.1)
              ]

  cell_moves : (c : Sizes) (p : Place) (leads : ℕ → Lead) (numbers : ℕ → ℕ) (h h' : Hold) (i : Instr) → IsScene c p leads numbers h → (e : Effect c p leads numbers h h' i) →
      ((cell_rule s v e.next_leads e.next_place ≡ cell_rule s v leads p) × (e.next_place.cells s v ≡ p.cells s v) × (count h' (cell_rule s v leads p) ≡ count h (cell_rule s v leads p)))
      ⊎ ((1 ≤ count h (cell_rule s v leads p)) × (1 ≤ count h' (cell_rule s v e.next_leads e.next_place)))
  cell_moves c p leads numbers h h' i scene e = go (touched i) refl
    where
      pair_first : (a b : ℕ) → ◌≡◌ {A = Option (ℕ × ℕ)} (Some (a, b)) (Some (s, v)) → a ≡ s
      pair_first a b g = let q : ◌≡◌ {A = ℕ × ℕ} (a, b) (s, v) = cc in ap (λ (z : ℕ × ℕ). z.0) q

      pair_second : (a b : ℕ) → ◌≡◌ {A = Option (ℕ × ℕ)} (Some (a, b)) (Some (s, v)) → b ≡ v
      pair_second a b g = let q : ◌≡◌ {A = ℕ × ℕ} (a, b) (s, v) = cc in ap (λ (z : ℕ × ℕ). z.1) q

      go : (o : Option (ℕ × ℕ)) → touched i ≡ o →
          ((cell_rule s v e.next_leads e.next_place ≡ cell_rule s v leads p) × (e.next_place.cells s v ≡ p.cells s v) × (count h' (cell_rule s v leads p) ≡ count h (cell_rule s v leads p)))
          ⊎ ((1 ≤ count h (cell_rule s v leads p)) × (1 ≤ count h' (cell_rule s v e.next_leads e.next_place)))
      go None f = untouched c p leads numbers h scene h' i e (λ g. let q = sym f ∙ g in cc)
      go (Some (a, b)) f = elim (cases_eq a s) [
        | inr n ↦ untouched c p leads numbers h scene h' i e (λ g. n (pair_first a b (sym f ∙ g)))
        | inl q ↦ elim (cases_eq b v) [
          | inr n ↦ untouched c p leads numbers h scene h' i e (λ g. n (pair_second a b (sym f ∙ g)))
          | inl r ↦
              let here : touched i ≡ Some (s, v) = f ∙ ap (λ z. Some (z, b)) q ∙ ap (λ z. Some (s, z)) r in
              let k = e.reached s v here in
              inr (cell_counted c p leads numbers h scene k.0, cell_counted c e.next_place e.next_leads e.next_numbers h' e.scene k.1)
        ]
      ]

cell_one : (c : Sizes) (p : Place) (leads : ℕ → Lead) (s v : ℕ) → stock c p leads (cell_rule s v leads p) ≤ 1
cell_one c p leads s v = go (plain_of (p.cells s v)) refl
  where
    go : (o : Option PlainCell) → plain_of (p.cells s v) ≡ o → stock c p leads (rule_by o s v (leads s) (p.listed s)) ≤ 1
    go None e = crown_one (leads s) (p.listed s)
    go (Some state) e = let f : bit (is_cell state (plain_of (p.cells s v))) ≡ 1 = rw (e, is_cell_self state) refl in omega arith

-- a cell moves only with the right that it stands under, and is at the end what the hold with that says
pub cell_kind : (s v : ℕ) → IsKind Cell (cell_now s v) (cell_set s v) (cell_reaches s v) (cell_rule s v)
cell_kind s v = record {
  unset = cell_unset s v;
  sets = cell_sets s v;
  counted = cell_counted s v;
  reached = cell_reached s v;
  one = λ c p leads. cell_one c p leads s v;
  moves = cell_moves s v;
  same = λ leads p q a b. (
    ap (λ (f : ℕ → ℕ → Cell). f s v) a,
    ap (λ (f : ℕ → ℕ → Cell). rule_by (plain_of (f s v)) s v (leads s) (q.listed s)) a ∙ ap (λ (f : ℕ → Option ℕ). rule_by (plain_of (p.cells s v)) s v (leads s) (f s)) b,
  );
  by_set = λ h p. refl;
}
