-- The cell at which an instruction's call is made is within reach of the hold before it and of the hold after it.
use Rattle.std.proofs.Common.{◌≡◌, ◌⊎◌, ℕ, Bool, true, false, refl, subst, inl, inr, Option, Some, None, Ok}
use Rattle.std.specs.Prelude.{if◌then◌else◌}
use Rattle.sm_server.specs.declared.call.Role.TheVariants as role
use Rattle.sm_placement.specs.declared.lead.Lead.{Lead}
use Rattle.sm_placement.specs.declared.lead.Lead.TheVariants.{Gone, At, Ready, Handing, Handed}
use Rattle.sm_placement.specs.Setup.{Sizes}
use Rattle.sm_reservation.specs.declared.change.Portion.{Portion}
use Rattle.sm_reservation.specs.declared.right.PlainCell.{PlainCell}
use Rattle.sm_reservation.specs.declared.right.PlainCell.TheVariants.{Absent, Secondary}
use Rattle.sm_reservation.specs.Rights.{Rights}
use Rattle.sm_reservation.specs.Hold.{Hold, minus}
use Rattle.sm_reservation.specs.HoldOf.{hold_of}
use Rattle.sm_reservation.specs.Change.{portion_rights}
use Rattle.sm_reservation.proofs.ParcelSums.{plus_is, covers}
use Rattle.sm_reservation.proofs.Places.{same_here}
use Rattle.sm_plan_code.specs.declared.instruction.Instr.{Instr}
use Rattle.sm_plan_code.specs.declared.instruction.Instr.TheVariants.{PrepareAdd, PrepareDrop, Add, Drop, Change, Publish, Unlist, Signal, Wait}
use Rattle.sm_plan_code.specs.Instr.{IsOwn}
use Rattle.sm_plan_code.specs.After.{after, decided, has_right, listed_of, lead_held, add_primary_line, drop_held_line, drop_led_line}
use Rattle.sm_plan_code.specs.Table.{cell, crown, IsExchanged, needs_of, gives_of, add_primary_exchange, drop_held_exchange, drop_led_exchange}
use Rattle.sm_plan_code.specs.Reach.{LeadNames, IsWithinReach}
use Rattle.sm_plan_code.specs.Effects.{touched}
use Rattle.sm_plan_code.proofs.Conditions.{portion_ordered}
use Rattle.sm_plan_code.proofs.Exchanges.{lines_exchange}

-- a portion has the right to the cell, or the crown that it stands under
Reaches : Portion → ℕ → ℕ → Type 0
Reaches p s v = ((state : PlainCell) × (p.cell ≡ cell s v state)) ⊎ ((lead : Lead) × (listed : Option ℕ) × (p.crown ≡ crown s lead listed) × LeadNames lead v)

portion_cell : (p : Portion) (s v : ℕ) (state : PlainCell) → p.cell ≡ cell s v state → (hold_of (portion_rights p)).cells s v ≡ Some state
unfolding hold_of
portion_cell p s v state e = rw (e, same_here (s, v)) refl

portion_crown : (p : Portion) (s : ℕ) (lead : Lead) (listed : Option ℕ) → p.crown ≡ crown s lead listed → (hold_of (portion_rights p)).crowns s ≡ Some (lead, listed)
unfolding hold_of
portion_crown p s lead listed e = rw (e, same_here (s, 0)) refl

module _ (h h' : Hold) (out got : Portion) (x : IsExchanged h h' out got) (s v : ℕ) where
  before : Reaches out s v → IsWithinReach h s v
  unfolding Reaches
  before (inl a) = inl (a.0, (covers h (portion_rights out) x.held).cells s v a.0 (portion_cell out s v a.0 a.1))
  before (inr a) = inr (a.0, a.1, (covers h (portion_rights out) x.held).crowns s (a.0, a.1) (portion_crown out s a.0 a.1 a.2), a.3)

  behind : Reaches got s v → IsWithinReach h' s v
  unfolding Reaches
  behind (inl a) = inl (a.0, rw (x.left, plus_is (minus h (portion_rights out)) (portion_rights got) (portion_ordered got), portion_cell got s v a.0 a.1) refl)
  behind (inr a) = inr (a.0, a.1, rw (x.left, plus_is (minus h (portion_rights out)) (portion_rights got) (portion_ordered got), portion_crown got s a.0 a.1 a.2) refl, a.3)

-- ---- the lines by their leads

module _ (c : Sizes) (s v : ℕ) (h h' : Hold) (listed : Option ℕ) where
  add_primary : (o : Option Lead) → decided (add_primary_line c s v h o) ≡ Ok h' → let x = add_primary_exchange c s v listed o in Reaches x.out s v × Reaches x.got s v
  unfolding Reaches
  add_primary None e = cc
  add_primary (Some Gone) e = (inl (Absent, refl), inr (At v, listed, refl, refl))
  add_primary (Some (At u)) e = cc
  add_primary (Some (Ready u w)) e = cc
  add_primary (Some (Handing u w)) e = (inr (Handing u v, listed, refl, inr refl), inr (Handed u v, listed, refl, inr refl))
  add_primary (Some (Handed u w)) e = cc

  drop_led : (o : Option Lead) → decided (drop_led_line c s v h o) ≡ Ok h' → let x = drop_led_exchange c s v listed o in Reaches x.out s v × Reaches x.got s v
  unfolding Reaches
  drop_led None e = cc
  drop_led (Some Gone) e = cc
  drop_led (Some (At u)) e = (inr (At v, None, refl, refl), inl (Absent, refl))
  drop_led (Some (Ready u w)) e = (inr (Ready u v, listed, refl, inr refl), inl (Absent, refl))
  drop_led (Some (Handing u w)) e = cc
  drop_led (Some (Handed u w)) e = (inr (Handed v w, listed, refl, inl refl), inl (Absent, refl))

  drop : (b : Bool) (o : Option Lead) → decided (if b then drop_held_line c s v h else drop_led_line c s v h o) ≡ Ok h' →
      let x = if b then drop_held_exchange c s v else drop_led_exchange c s v listed o in Reaches x.out s v × Reaches x.got s v
  unfolding Reaches
  drop true o e = (inl (Secondary, refl), inl (Absent, refl))
  drop false o e = drop_led o e

-- the cell of an instruction's call, by what it needs and what it gives
record IsReached (c : Sizes) (h : Hold) (i : Instr) (s v : ℕ) : Type 0 where
  own : IsOwn i
  needs : Reaches (needs_of c i h) s v
  gives : Reaches (gives_of c i h) s v

-- what is said of one pair of numbers is said of another that is the same
same_pair : (P : ℕ → ℕ → Type 0) (a b s v : ℕ) → ◌≡◌ {A = Option (ℕ × ℕ)} (Some (a, b)) (Some (s, v)) → P a b → P s v
same_pair P a b s v e x =
    let pair : ◌≡◌ {A = ℕ × ℕ} (a, b) (s, v) = cc in
    subst (λ (q : ℕ × ℕ). P q.0 q.1) pair x

reach_of : (c : Sizes) (signals : ℕ → Rights) (h h' : Hold) (i : Instr) → after c signals i h ≡ Ok h' → (s v : ℕ) → touched i ≡ Some (s, v) → IsReached c h i s v
unfolding Reaches
reach_of c signals h h' (PrepareAdd a b u) e s v t =
    let l = listed_of (h.crowns a) in
    same_pair (IsReached c h (PrepareAdd a b u)) a b s v t (record { own = tt; needs = inl (Absent, refl); gives = inr (Ready u b, l, refl, inr refl) })
reach_of c signals h h' (PrepareDrop a b u) e s v t =
    let l = listed_of (h.crowns a) in
    same_pair (IsReached c h (PrepareDrop a b u)) a b s v t (record { own = tt; needs = inr (Ready b u, l, refl, inl refl); gives = inr (Handing b u, l, refl, inl refl) })
reach_of c signals h h' (Add a b role.Secondary) e s v t =
    same_pair (IsReached c h (Add a b role.Secondary)) a b s v t (record { own = tt; needs = inl (Absent, refl); gives = inl (Secondary, refl) })
reach_of c signals h h' (Add a b role.Primary) e s v t =
    let both = add_primary c a b h h' (listed_of (h.crowns a)) (lead_held (h.crowns a)) e in
    same_pair (IsReached c h (Add a b role.Primary)) a b s v t (record { own = tt; needs = both.0; gives = both.1 })
reach_of c signals h h' (Drop a b) e s v t =
    let both = drop c a b h h' (listed_of (h.crowns a)) (has_right h a b) (lead_held (h.crowns a)) e in
    same_pair (IsReached c h (Drop a b)) a b s v t (record { own = tt; needs = both.0; gives = both.1 })
reach_of c signals h h' (Change a b role.Primary) e s v t =
    let l = listed_of (h.crowns a) in
    same_pair (IsReached c h (Change a b role.Primary)) a b s v t (record { own = tt; needs = inl (Secondary, refl); gives = inr (At b, l, refl, refl) })
reach_of c signals h h' (Change a b role.Secondary) e s v t =
    same_pair (IsReached c h (Change a b role.Secondary)) a b s v t (record { own = tt; needs = inr (At b, None, refl, refl); gives = inl (Secondary, refl) })
reach_of c signals h h' (Publish a) e s v t = cc
reach_of c signals h h' (Unlist a) e s v t = cc
reach_of c signals h h' (Signal k) e s v t = cc
reach_of c signals h h' (Wait k) e s v t = cc

-- the cell of an instruction's call is within reach of the hold before it and of the one after it
pub within_reach : (c : Sizes) (signals : ℕ → Rights) (h h' : Hold) (i : Instr) → after c signals i h ≡ Ok h' → (s v : ℕ) → touched i ≡ Some (s, v) → IsWithinReach h s v × IsWithinReach h' s v
within_reach c signals h h' i e s v t =
    let r = reach_of c signals h h' i e s v t in
    let x = lines_exchange c signals h h' i r.own e in
    (before h h' (needs_of c i h) (gives_of c i h) x s v r.needs, behind h h' (needs_of c i h) (gives_of c i h) x s v r.gives)
