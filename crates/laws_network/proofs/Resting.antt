-- If all plans are done, the placement is settled, and a new epoch can open on it.
use Rattle.std.proofs.Common.{◌≡◌, ℕ, zero, suc, ◌≤◌, ◌<◌, refl, sym, ap, ◌∙◌, inl, inr, subst, Bool, true, false, Option, Some, None, List, [], ◌∷◌, length}
use Rattle.std.specs.Prelude.{◌==◌, if◌then◌else◌, map}
use Rattle.std.proofs.lemmas.Bool.{cases_eq, cases_lt}
use Rattle.sm_server.specs.declared.call.Cell.{Cell}
use Rattle.sm_server.specs.declared.call.Cell.TheVariants as cell
use Rattle.sm_placement.specs.Setup.{Setup, Sizes, sizes_of}
use Rattle.sm_placement.specs.Layout.{IsPlacement}
use Rattle.sm_placement.specs.Lead.{Describes, IsPlain, IsSettled, is_at_rest}
use Rattle.sm_placement.specs.declared.lead.Lead.{Lead}
use Rattle.sm_placement.specs.declared.lead.Lead.TheVariants.{Gone, At, Ready, Handing, Handed}
use Rattle.sm_placement.specs.Place.{Place, down_count}
use Rattle.sm_placement.specs.Rows.{serves_as}
use Rattle.sm_placement.specs.SafePlace.{IsSafePlace, IsServing}
use Rattle.sm_reservation.specs.declared.right.PlainCell.{PlainCell}
use Rattle.sm_reservation.specs.declared.right.PlainCell.TheVariants.{Absent, Secondary}
use Rattle.sm_reservation.specs.Hold.{Hold}
use Rattle.sm_plan_code.specs.Plan.{PlanModel}
use Rattle.sm_plan_code.specs.declared.limits.TheConstants.{MOST_PLACES}
use Rattle.sm_placement.specs.declared.limits.TheConstants.{MOST_VERSION}
use Rattle.sm_verifier.specs.Stream.{final_hold, stream_at}
use Rattle.sm_verifier.specs.PlanEnd.{cell_by_crown, cell_by_right, end_of, ends_of, set_by, set_by_streams}
use Rattle.sm_protocol.specs.State.{State, opened}
use Rattle.sm_protocol.specs.Laws.{AreDone, IsOpening, IsReached}
use Rattle.sm_protocol.proofs.EndsReached.{ends_are_reached}
use Rattle.sm_protocol.proofs.LogRoom.{has_room}
use Rattle.sm_protocol.proofs.Invariant.{IsKept}
use Rattle.sm_protocol.proofs.Reached.{run_same}
use Rattle.sm_protocol.proofs.Whole.{reached_keeps}

-- the cell is in no handover
abbrev pub IsOutside : Cell → Type 0
IsOutside (cell.Prepared a n) = ⊥
IsOutside (cell.Forwarding a n) = ⊥
IsOutside _ = Unit {0}

-- all cells of a placement are
abbrev pub AreOutside : Place → Type 0
AreOutside p = (s v : ℕ) → IsOutside (p.cells s v)

by_crown : (o : Option (Lead × Option ℕ)) (v : ℕ) (c : Cell) → IsOutside c → IsOutside (cell_by_crown o v c)
by_crown None v c h = h
by_crown (Some (Gone, listed)) v c h = h
by_crown (Some (At u, listed)) v c h = go (u == v)
  where
    go : (b : Bool) → IsOutside (if b then cell.Primary else c)
    go true = tt
    go false = h
by_crown (Some (Ready u w, listed)) v c h = h
by_crown (Some (Handing u w, listed)) v c h = h
by_crown (Some (Handed u w, listed)) v c h = h

by_right : (o : Option PlainCell) (c : Cell) → IsOutside c → IsOutside (cell_by_right o c)
by_right None c h = h
by_right (Some Absent) c h = tt
by_right (Some Secondary) c h = tt

set_outside : (h : Hold) (p : Place) → AreOutside p → AreOutside (set_by h p)
set_outside h p a s v = by_right (h.cells s v) (cell_by_crown (h.crowns s) v (p.cells s v)) (by_crown (h.crowns s) v (p.cells s v) (a s v))

streams_outside : (c : Sizes) (plan : PlanModel) (n : ℕ) (p : Place) → AreOutside p → AreOutside (set_by_streams c plan n p)
streams_outside c plan zero p a = a
streams_outside c plan (suc n) p a = set_outside (final_hold (stream_at c plan n)) (set_by_streams c plan n p) (streams_outside c plan n p a)

ends_outside : (c : Sizes) (plans : List PlanModel) (p : Place) → AreOutside p → AreOutside (ends_of c plans p)
ends_outside c [] p a = a
ends_outside c (plan ∷ plans) p a = ends_outside c plans (end_of c plan p) (streams_outside c plan (length plan.streams) p a)

plain_outside : (c : Cell) → IsPlain c → IsOutside c
plain_outside cell.Absent h = tt
plain_outside cell.Secondary h = tt
plain_outside cell.Primary h = absurd h
plain_outside (cell.Prepared a n) h = absurd h
plain_outside (cell.Forwarding a n) h = absurd h

-- the cells of an opening are in no handover
pub opening_outside : (setup : Setup) (p : Place) (room : ℕ) → IsOpening setup p room → AreOutside p
opening_outside setup p room o s v = elim (cases_lt s (sizes_of setup).shards) [
  | inl l ↦ let d = o.settled.leads s l in go d.0 d.1 d.2
  | inr l ↦ subst IsOutside (sym (o.placement.no_shard s v l)) tt
]
  where
    go : (lead : Lead) → is_at_rest lead ≡ true → Describes lead 0 (p.cells s) → IsOutside (p.cells s v)
    go Gone r d = plain_outside (p.cells s v) (d v)
    go (At u) r d = elim (cases_eq v u) [
      | inl e ↦ subst IsOutside (sym (ap (p.cells s) e ∙ d.0)) tt
      | inr e ↦ plain_outside (p.cells s v) (d.1 v e)
    ]
    go (Ready u w) r d = absurd (cc)
    go (Handing u w) r d = absurd (cc)
    go (Handed u w) r d = absurd (cc)

module _ (setup : Setup) (w : State) (r : IsReached setup w) (done : AreDone w) where
  sizes_is : w.sizes ≡ sizes_of setup
  sizes_is = ap (λ (u : State). u.sizes) r.state ∙ (run_same r.events (opened (sizes_of setup) r.place r.room)).sizes

  opening_is : w.opening ≡ (opened (sizes_of setup) r.place r.room).opening
  opening_is = ap (λ (u : State). u.opening) r.state ∙ (run_same r.events (opened (sizes_of setup) r.place r.room)).opening

  -- no cell is in a handover
  pub outside : AreOutside w.place
  outside s v = subst IsOutside (sym ((ends_are_reached setup w r done).1.cells s v))
      (ends_outside w.sizes (map (λ x. x.plan) w.plans) w.opening (subst AreOutside (sym opening_is) (opening_outside setup r.place r.room r.opening)) s v)

  -- so each lead is at rest
  rests : (s : ℕ) → (lead : Lead) × (is_at_rest lead ≡ true) × Describes lead 0 (w.place.cells s)
  rests s = go (keeps.leads s) (keeps.stage.described s)
    where
      keeps : IsKept w
      keeps = (reached_keeps setup w r).0

      never : (c d : Cell) → c ≡ d → IsOutside c → IsOutside d
      never c d e h = subst IsOutside e h

      go : (lead : Lead) → Describes lead (w.numbers s) (w.place.cells s) → (lead : Lead) × (is_at_rest lead ≡ true) × Describes lead 0 (w.place.cells s)
      go Gone d = (Gone, refl, d)
      go (At u) d = (At u, refl, d)
      go (Ready u v) d = absurd (never (w.place.cells s v) (cell.Prepared u (w.numbers s)) d.2 (outside s v))
      go (Handing u v) d = absurd (never (w.place.cells s v) (cell.Prepared u (w.numbers s)) d.2 (outside s v))
      go (Handed u v) d = absurd (never (w.place.cells s u) (cell.Forwarding v (w.numbers s)) d.1 (outside s u))

  -- who serves is a primary
  primary : (s u : ℕ) → IsServing w.place s u → w.place.cells s u ≡ cell.Primary
  primary s u e = go (w.place.cells s u) refl (outside s u) e
    where
      go : (c : Cell) → w.place.cells s u ≡ c → IsOutside c → serves_as (w.place.cells s) u c ≡ true → w.place.cells s u ≡ cell.Primary
      go cell.Primary q h t = q
      go cell.Absent q h t = absurd (cc)
      go cell.Secondary q h t = absurd (cc)
      go (cell.Prepared a n) q h t = absurd h
      go (cell.Forwarding a n) q h t = absurd (cc)

  -- the placement is settled, if no version is too high
  pub rests_settled : IsSafePlace w.sizes w.place → ((s : ℕ) → s < w.sizes.shards → w.place.version s ≤ MOST_VERSION) → IsSettled w.sizes w.place
  rests_settled safe low = record {
    leads = λ s l. rests s;
    listed = λ s u l e. elim (safe.listed s u e) [
      | inl h ↦ primary s u h
      | inr h ↦ absurd (subst IsOutside h.2 (outside s u))
    ];
    rooms = safe.rooms;
    floors = safe.floors;
    down = (has_room setup w r).cap;
    versions = low;
  }

  -- so a machine can open on it
  pub rests_opening : IsSafePlace w.sizes w.place → ((s : ℕ) → s < w.sizes.shards → w.place.version s ≤ MOST_VERSION) → (room : ℕ) → down_count w.sizes w.place ≤ room → room ≤ MOST_PLACES → IsOpening setup w.place room
  rests_opening safe low room least most = record {
    rows = r.opening.rows;
    placement = subst (λ c. IsPlacement c w.place) sizes_is (reached_keeps setup w r).0.stage.placement;
    settled = subst (λ c. IsSettled c w.place) sizes_is (rests_settled safe low);
    least = subst (λ c. down_count c w.place ≤ room) sizes_is least;
    most = most;
  }
