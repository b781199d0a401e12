-- No cell is within reach of two holds that are true of a placement beside each other.
use Rattle.std.proofs.Common.{◌≡◌, ℕ, ◌+◌, ◌≤◌, ◌&&◌, refl, sym, ap, ◌∙◌, arith, inl, inr, subst, Some, None}
use Rattle.sm_placement.specs.declared.lead.Lead.{Lead}
use Rattle.sm_placement.specs.declared.lead.Lead.TheVariants.{Gone, At, Ready, Handing, Handed}
use Rattle.sm_placement.specs.Sums.{bit}
use Rattle.sm_placement.specs.Setup.{Sizes}
use Rattle.sm_placement.specs.Place.{Place}
use Rattle.sm_placement.specs.Lead.{Describes}
use Rattle.sm_placement.proofs.Sums.{bit-le-one}
use Rattle.sm_reservation.specs.Hold.{Hold}
use Rattle.sm_reservation.specs.Amounts.{Right, OfCell, OfCrown, is_cell, same_lead, same_listed, plain_of, count, stock, bound}
use Rattle.sm_reservation.specs.Truth.{IsTrueOf}
use Rattle.sm_reservation.proofs.Truths.{true_cell, true_crown, is_cell_self, same_lead_self, same_server_self}
use Rattle.sm_plan_code.specs.Reach.{LeadNames, HoldsCell, HoldsLead, IsWithinReach}

-- there is no right to the cell of a server that the shard's lead names
pub named_is_not_plain : (lead : Lead) (n : ℕ) (p : Place) (s v : ℕ) → Describes lead n (p.cells s) → LeadNames lead v → plain_of (p.cells s v) ≡ None
named_is_not_plain Gone n p s v d m = absurd m
named_is_not_plain (At u) n p s v d m = rw (m, d.0) refl
named_is_not_plain (Ready u w) n p s v d (inl m) = rw (m, d.1) refl
named_is_not_plain (Ready u w) n p s v d (inr m) = rw (m, d.2) refl
named_is_not_plain (Handing u w) n p s v d (inl m) = rw (m, d.1) refl
named_is_not_plain (Handing u w) n p s v d (inr m) = rw (m, d.2) refl
named_is_not_plain (Handed u w) n p s v d (inl m) = rw (m, d.1) refl
named_is_not_plain (Handed u w) n p s v d (inr m) = rw (m, d.2) refl

module _ (c : Sizes) (p : Place) (leads : ℕ → Lead) (n : ℕ → ℕ) (h k : Hold) (d : (s : ℕ) → Describes (leads s) (n s) (p.cells s))
    (both : (r : Right) → count h r + count k r + bound c p r ≤ stock c p leads r) where
  first : IsTrueOf c p leads h
  first = record { rights = λ r. let a = both r in omega arith }

  second : IsTrueOf c p leads k
  second = record { rights = λ r. let a = both r in omega arith }

  mixed : (g : Hold) → IsTrueOf c p leads g → (j : Hold) → IsTrueOf c p leads j → (s v : ℕ) → HoldsCell g s v → HoldsLead j s v → ⊥
  mixed g ok j oj s v a b =
      let x = true_cell c p leads g ok s v a.0 a.1 in
      let y = true_crown c p leads j oj s b.0 b.1 b.2 in
      let z = named_is_not_plain (leads s) (n s) p s v (d s) (subst (λ l. LeadNames l v) (sym y.0) b.3) in
      absurd (cc)

  -- two holds that are true of a placement beside each other reach no cell together
  pub exclusive : (s v : ℕ) → IsWithinReach h s v → IsWithinReach k s v → ⊥
  exclusive s v (inl a) (inl b) =
      let x = true_cell c p leads h first s v a.0 a.1 in
      let y = true_cell c p leads k second s v b.0 b.1 in
      let same : a.0 ≡ b.0 = cc in
      let t : count h (OfCell s v a.0) + count k (OfCell s v a.0) + 0 ≤ bit (is_cell a.0 (plain_of (p.cells s v))) = both (OfCell s v a.0) in
      let u : count h (OfCell s v a.0) ≡ 1 = rw (a.1, is_cell_self a.0) refl in
      let w : count k (OfCell s v a.0) ≡ 1 = rw (b.1 ∙ ap Some (sym same), is_cell_self a.0) refl in
      let z = bit-le-one (is_cell a.0 (plain_of (p.cells s v))) in
      absurd (omega arith)
  exclusive s v (inl a) (inr b) = mixed h first k second s v a b
  exclusive s v (inr a) (inl b) = mixed k second h first s v b a
  exclusive s v (inr a) (inr b) =
      let x = true_crown c p leads h first s a.0 a.1 a.2 in
      let y = true_crown c p leads k second s b.0 b.1 b.2 in
      let e : a.0 ≡ b.0 = cc in
      let f : a.1 ≡ b.1 = cc in
      let t : count h (OfCrown s a.0 a.1) + count k (OfCrown s a.0 a.1) + 0 ≤ bit (same_lead a.0 (leads s) && same_listed a.1 (p.listed s)) = both (OfCrown s a.0 a.1) in
      let u : count h (OfCrown s a.0 a.1) ≡ 1 = rw (a.2, same_lead_self a.0, same_server_self a.1) refl in
      let w : count k (OfCrown s a.0 a.1) ≡ 1 = rw (b.2, e, f, same_lead_self b.0, same_server_self b.1) refl in
      let z = bit-le-one (same_lead a.0 (leads s) && same_listed a.1 (p.listed s)) in
      absurd (omega arith)
