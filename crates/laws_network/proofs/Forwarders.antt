-- The wait of a new owner that is to take over: the old one forwards to it, and knows the cut.
use Rattle.std.proofs.Common.{◌≡◌, ◌≢◌, ℕ, zero, ◌<◌, ◌⊎◌, refl, sym, ap, ◌∙◌, inl, inr, subst, true, false, Option, Some, None, [], ◌∷◌, ◌++◌}
use Rattle.std.specs.Prelude.{IsSome, if◌then◌else◌}
use Rattle.std.proofs.lemmas.Bool.{cases_eq}
use Rattle.sm_server.specs.declared.call.Cell.{Cell}
use Rattle.sm_server.specs.declared.call.Cell.TheVariants as cell
use Rattle.sm_server.specs.declared.call.Call.{Call}
use Rattle.sm_server.specs.declared.call.Call.TheVariants as call
use Rattle.sm_server.specs.declared.call.Role.TheVariants as role
use Rattle.sm_server.specs.Call.{led_to}
use Rattle.sm_placement.specs.Setup.{Setup}
use Rattle.sm_placement.specs.Lead.{Describes, IsPlain}
use Rattle.sm_placement.specs.declared.lead.Lead.{Lead}
use Rattle.sm_placement.specs.declared.lead.Lead.TheVariants.{Gone, At, Ready, Handing, Handed}
use Rattle.sm_placement.specs.Rows.{serves_as}
use Rattle.sm_placement.specs.SafePlace.{IsSafePlace, IsServing}
use Rattle.sm_placement.specs.Sums.{put2}
use Rattle.sm_verifier.proofs.OnePlace.{put2_cases}
use Rattle.sm_agent.specs.declared.slot.Slot.{Slot}
use Rattle.sm_agent.specs.Order.{cell_load, cut_by, is_done}
use Rattle.laws_network.specs.Controller.{Letter, letter_of}
use Rattle.laws_network.specs.Fleet.{Fleet, controller, has_lost, held_cells, order_read, slot_for, with_slot}
use Rattle.laws_network.specs.FleetLaws.{CanBeDone, held_place}
use Rattle.laws_network.proofs.AtServer.{IsCommit}
use Rattle.laws_network.proofs.Deliveries.{committed_above, effect_shadow, held_put, shade_of}
use Rattle.laws_network.proofs.Described.{net_described}
use Rattle.laws_network.proofs.FleetSafety.{held_safe}
use Rattle.laws_network.proofs.OfFleet.{net_of, present_heard}
use Rattle.laws_network.proofs.ReadyOwners.{AreOwnersReady}
use Rattle.laws_network.proofs.Shadow.{IsShadow}

-- a prepared server that is to take over is the new owner of a handover, whose old owner forwards to it
module _ (setup : Setup) (low : ℕ → ℕ → ℕ) (f : Fleet) (k : IsShadow setup low f) (l : Letter) (present : letter_of (controller f) l.order.stream ≡ Some l) (known : has_lost f l.order.call.server ≡ false)
    (is_add : l.order.call.call ≡ call.Add role.Primary) (a n : ℕ) (prepared : (slot_for f l).cell ≡ cell.Prepared a n) (above : (slot_for f l).last < l.order.number) where
  abbrev s : ℕ
  s = l.order.call.shard

  abbrev v : ℕ
  v = l.order.call.server

  held_here : held_cells f s v ≡ cell.Prepared a n
  held_here = ap (λ b. if b then f.had s v else (slot_for f l).cell) known ∙ prepared

  -- the server as it would be
  abbrev taken_over : Slot
  taken_over = record { cell = cell.Primary; last = l.order.number; at_work = None; load = cell_load cell.Primary l.load; cut = cut_by l.order.call.call 0 }

  commits : IsCommit (f.servers v).base (slot_for f l) (order_read l) 0 taken_over
  commits = record {
    heard = (present_heard setup low f k l present known).0;
    above = above;
    led = ap (λ x. led_to x (slot_for f l).cell) is_add ∙ ap (led_to (call.Add role.Primary)) prepared;
    last = refl;
    load = refl;
    cut = refl;
  }

  -- so the old owner is no primary any more
  no_primary : (u : ℕ) → held_cells f s u ≡ cell.Primary → u ≢ v → ⊥
  no_primary u e other = other (safe.serving s u v there here)
    where
      after : IsShadow setup (put2 low l.order.call.shard l.order.call.server l.order.number) (record (with_slot f l.order.call.shard l.order.call.server taken_over) { answers = f.answers ++ l.order ∷ [] })
      after = effect_shadow setup low f k l 0 taken_over (k.letters zero l.order.stream l present) commits (committed_above setup low f k l 0 taken_over commits)

      safe : IsSafePlace (controller f).w.sizes (held_place (record (with_slot f l.order.call.shard l.order.call.server taken_over) { answers = f.answers ++ l.order ∷ [] }))
      safe = held_safe setup (put2 low l.order.call.shard l.order.call.server l.order.number) (record (with_slot f l.order.call.shard l.order.call.server taken_over) { answers = f.answers ++ l.order ∷ [] }) after

      primary_serves : (u : ℕ) → held_cells (with_slot f s v taken_over) s u ≡ cell.Primary → IsServing (held_place (with_slot f s v taken_over)) s u
      primary_serves u q = ap (serves_as (held_cells (with_slot f s v taken_over) s) u) q

      here : IsServing (held_place (with_slot f s v taken_over)) s v
      here = primary_serves v (held_put f s v taken_over known s v ∙ elim (put2_cases (held_cells f) s v cell.Primary s v) [ inl c ↦ c.2 | inr c ↦ absurd (c.0 (refl, refl)) ])

      there : IsServing (held_place (with_slot f s v taken_over)) s u
      there = primary_serves u (held_put f s v taken_over known s u ∙ elim (put2_cases (held_cells f) s v cell.Primary s u) [ inl c ↦ absurd (other c.1) | inr c ↦ c.1 ∙ e ])

  -- it forwards to the new one
  pub owner_forwards : held_cells f s a ≡ cell.Forwarding v n
  owner_forwards = let d = net_described setup (shade_of f k).net (net_of f k) s in go d.0 d.1 d.2
    where
      not_plain : (c : Cell) → c ≡ cell.Prepared a n → IsPlain c → ⊥
      not_plain c e h = absurd (subst IsPlain e h)

      go : (lead : Lead) (m : ℕ) → Describes lead m (held_cells f s) → held_cells f s a ≡ cell.Forwarding v n
      go Gone m d = absurd (not_plain (held_cells f s v) held_here (d v))
      go (At u) m d = elim (cases_eq v u) [
        | inl e ↦ absurd (let z : cell.Prepared a n ≡ cell.Primary = sym held_here ∙ (ap (held_cells f s) e ∙ d.0) in cc)
        | inr e ↦ absurd (not_plain (held_cells f s v) held_here (d.1 v e))
      ]
      go (Ready u w) m d = elim (cases_eq v u) [
        | inl e ↦ absurd (let z : cell.Prepared a n ≡ cell.Primary = sym held_here ∙ (ap (held_cells f s) e ∙ d.1) in cc)
        | inr e ↦ elim (cases_eq v w) [
          | inl q ↦ absurd (no_primary u d.1 (λ p. e (sym p)))
          | inr q ↦ absurd (not_plain (held_cells f s v) held_here (d.3 v e q))
        ]
      ]
      go (Handing u w) m d = elim (cases_eq v u) [
        | inl e ↦ absurd (let z : cell.Prepared a n ≡ cell.Forwarding w m = sym held_here ∙ (ap (held_cells f s) e ∙ d.1) in cc)
        | inr e ↦ elim (cases_eq v w) [
          | inl q ↦
              let z : cell.Prepared a n ≡ cell.Prepared u m = sym held_here ∙ (ap (held_cells f s) q ∙ d.2) in
              let p : a ≡ u = cc in
              let number : n ≡ m = cc in
              ap (held_cells f s) p ∙ (d.1 ∙ (ap (λ x. cell.Forwarding x m) (sym q) ∙ ap (cell.Forwarding v) (sym number)))
          | inr q ↦ absurd (not_plain (held_cells f s v) held_here (d.3 v e q))
        ]
      ]
      go (Handed u w) m d = elim (cases_eq v u) [
        | inl e ↦ absurd (let z : cell.Prepared a n ≡ cell.Forwarding w m = sym held_here ∙ (ap (held_cells f s) e ∙ d.1) in cc)
        | inr e ↦ elim (cases_eq v w) [
          | inl q ↦ absurd (let z : cell.Prepared a n ≡ cell.Primary = sym held_here ∙ (ap (held_cells f s) q ∙ d.2) in cc)
          | inr q ↦ absurd (not_plain (held_cells f s v) held_here (d.3 v e q))
        ]
      ]

-- work can be done at once, but for a new owner that takes over
pub done_or : (x : Call) (c : Cell) → ((a : ℕ) × (n : ℕ) × (x ≡ call.Add role.Primary) × (c ≡ cell.Prepared a n)) ⊎ ((cut : Option ℕ) (at : ℕ) → is_done x c cut at ≡ true)
done_or (call.Add role.Primary) (cell.Prepared a n) = inl (a, n, refl, refl)
done_or (call.Add role.Primary) cell.Absent = inr (λ cut at. refl)
done_or (call.Add role.Primary) cell.Secondary = inr (λ cut at. refl)
done_or (call.Add role.Primary) cell.Primary = inr (λ cut at. refl)
done_or (call.Add role.Primary) (cell.Forwarding a n) = inr (λ cut at. refl)
done_or (call.Add role.Secondary) c = inr (λ cut at. refl)
done_or call.Drop c = inr (λ cut at. refl)
done_or (call.Change a b) c = inr (λ cut at. refl)
done_or (call.PrepareAdd a n) c = inr (λ cut at. refl)
done_or (call.PrepareDrop a n) c = inr (λ cut at. refl)

-- ---- the cut

some_is : {A : Type 0} (o : Option A) → IsSome o → (x : A) × (o ≡ Some x)
some_is None h = absurd (cc)
some_is (Some x) h = (x, refl)

-- the work of a present order that has not had its effect can be done, at once or once the old owner's cut is reached
pub can_be_done : (setup : Setup) (low : ℕ → ℕ → ℕ) (f : Fleet) (k : IsShadow setup low f) (l : Letter) → letter_of (controller f) l.order.stream ≡ Some l → has_lost f l.order.call.server ≡ false → AreOwnersReady f →
    (slot_for f l).last < l.order.number → CanBeDone f l
can_be_done setup low f k l present known owners above = go (done_or l.order.call.call (slot_for f l).cell)
  where
    go : ((a : ℕ) × (n : ℕ) × (l.order.call.call ≡ call.Add role.Primary) × ((slot_for f l).cell ≡ cell.Prepared a n)) ⊎ ((cut : Option ℕ) (at : ℕ) → is_done l.order.call.call (slot_for f l).cell cut at ≡ true) → CanBeDone f l
    go (inr done) = inl (0, done (slot_for f l).cut 0)
    go (inl (a, n, is_add, prepared)) =
        let forwards = owner_forwards setup low f k l present known is_add a n prepared above in
        let ready = owners l.order.call.shard a l.order.call.server n forwards in
        let cut = some_is ((f.servers a).slots l.order.call.shard).cut ready.1 in
        inr (record {
          owner = a;
          number = n;
          cut = cut.0;
          prepared = prepared;
          known = ready.0;
          forwards = sym (ap (λ b. if b then f.had l.order.call.shard a else ((f.servers a).slots l.order.call.shard).cell) ready.0) ∙ forwards;
          told = cut.1;
        })
