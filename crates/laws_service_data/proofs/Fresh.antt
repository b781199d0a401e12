-- No request was passed on under the number of a handover whose old owner has not made its cut.
use Rattle.std.proofs.Common.{◌≡◌, ◌≤◌, ◌<◌, ◌+◌, ℕ, sym, ap, ◌∙◌, inl, inr, subst, arith, List, Some, refl}
use Rattle.std.specs.Prelude.{slice_get}
use Rattle.std.specs.List.{AllByRecursion}
use Rattle.std.proofs.lemmas.Bool.{cases_eq}
use Rattle.sm_server.specs.declared.call.Cell.{Cell}
use Rattle.sm_server.specs.declared.call.Cell.TheVariants.{Absent, Forwarding, Prepared, Primary, Secondary}
use Rattle.sm_placement.specs.Lead.{Describes, IsPlain}
use Rattle.sm_placement.specs.Setup.{Setup}
use Rattle.sm_placement.specs.declared.lead.Lead.{Lead}
use Rattle.sm_placement.specs.declared.lead.Lead.TheVariants.{Gone, At, Ready, Handing, Handed}
use Rattle.sm_protocol.specs.Ticket.{Ticket}
use Rattle.sm_protocol.proofs.Whole.{reached_keeps}
use Rattle.laws_network.specs.Net.{cell_above}
use Rattle.laws_network.specs.Laws.{EachNet}
use Rattle.laws_network.specs.Fleet.{Fleet, Handoff, held_cells}
use Rattle.laws_network.specs.FleetLaws.{IsFleetReached}
use Rattle.laws_network.proofs.CountedLaws as low
use Rattle.laws_network.proofs.Ahead.{real_described}
use Rattle.laws_network.proofs.Calm.{ready}
use Rattle.laws_network.proofs.Deliveries.{shade_of}
use Rattle.laws_network.proofs.Events.{net_sound}
use Rattle.laws_network.proofs.Lists.{all_at, all_map}
use Rattle.laws_network.proofs.OfFleet.{net_of}
use Rattle.laws_network.proofs.Raised.{IsPassOf, by_counts}
use Rattle.laws_network.proofs.Reaching.{fleet_shadow}
use Rattle.laws_network.proofs.Risen.{IsPositive}
use Rattle.laws_network.proofs.Shade.{IsAmong}
use Rattle.laws_network.proofs.Shadow.{ticket_of}
use Rattle.laws_network.proofs.Sound.{IsPassable, handed}
use Rattle.laws_network.proofs.Untraced.{by_traces}

-- ---- rows

-- a primary and a server that is prepared for it are in the handover of the lead
pub ready_number : (lead : Lead) (n : ℕ) (row : ℕ → Cell) → Describes lead n row → (u v m : ℕ) → row u ≡ Primary → row v ≡ Prepared u m → m ≡ n
ready_number Gone n row d u v m p q = absurd (subst IsPlain p (d u))
ready_number (At x) n row d u v m p q = elim (cases_eq v x) [
  | inl e ↦ absurd (let z : Prepared u m ≡ Primary = sym q ∙ (ap row e ∙ d.0) in cc)
  | inr e ↦ absurd (subst IsPlain q (d.1 v e))
]
ready_number (Ready x y) n row d u v m p q = elim (cases_eq v y) [
  | inl e ↦ (let z : Prepared u m ≡ Prepared x n = sym q ∙ (ap row e ∙ d.2) in cc)
  | inr e ↦ elim (cases_eq v x) [
    | inl f ↦ absurd (let z : Prepared u m ≡ Primary = sym q ∙ (ap row f ∙ d.1) in cc)
    | inr f ↦ absurd (subst IsPlain q (d.3 v f e))
  ]
]
ready_number (Handing x y) n row d u v m p q = elim (cases_eq u x) [
  | inl e ↦ absurd (let z : Primary ≡ Forwarding y n = sym p ∙ (ap row e ∙ d.1) in cc)
  | inr e ↦ elim (cases_eq u y) [
    | inl f ↦ absurd (let z : Primary ≡ Prepared x n = sym p ∙ (ap row f ∙ d.2) in cc)
    | inr f ↦ absurd (subst IsPlain p (d.3 u e f))
  ]
]
ready_number (Handed x y) n row d u v m p q = elim (cases_eq v x) [
  | inl e ↦ absurd (let z : Prepared u m ≡ Forwarding y n = sym q ∙ (ap row e ∙ d.1) in cc)
  | inr e ↦ elim (cases_eq v y) [
    | inl f ↦ absurd (let z : Prepared u m ≡ Primary = sym q ∙ (ap row f ∙ d.2) in cc)
    | inr f ↦ absurd (subst IsPlain q (d.3 v e f))
  ]
]

-- ---- numbers

-- passes of the shard have lower numbers than a handover that is prepared at its primary
abbrev AreLower : (ℕ → ℕ → Cell) → List Ticket → Type 0
AreLower cells passes = (s u v m : ℕ) → cells s u ≡ Primary → cells s v ≡ Prepared u m → AllByRecursion (λ t. t.shard ≡ s → t.number < m) passes

-- so it is of the network that counts from 0
low_lower : low.EachNet (λ setup n. AreLower n.cells n.passes)
low_lower = by_traces (λ setup n. AreLower n.cells n.passes) (λ setup n r h s u v m p q.
    let sound = net_sound setup n r in
    let k = (reached_keeps setup n.w sound.reached).0 in
    let d = real_described setup n.w n.had sound.reached sound.calm.halted (λ id h. let t = sound.at_calls id h in (t.0, t.1, ready k sound.calm t.2)) sound.once n.cells sound.cells n.last in
    let e : m ≡ handed n s = ready_number (d.0 s) (handed n s) (n.cells s) (d.1 s) u v m p q in
    all_map (IsPassable n) (λ t. t.shard ≡ s → t.number < m) n.passes (λ t c g.
    let b : t.number < handed n t.shard = c.before u v (ap (λ z. n.cells z u) g ∙ p) (ap (λ z. n.cells z v) g ∙ q ∙ ap (Prepared u) (e ∙ ap (handed n) (sym g))) in
    subst (λ z. t.number < z) (ap (handed n) g ∙ sym e) b) sound.passes)

above_primary : (base : ℕ) (c : Cell) → cell_above base c ≡ Primary → c ≡ Primary
above_primary base Absent e = absurd (cc)
above_primary base Secondary e = absurd (cc)
above_primary base Primary e = refl
above_primary base (Prepared a n) e = absurd (cc)
above_primary base (Forwarding a n) e = absurd (cc)

above_prepared : (base : ℕ) (c : Cell) (u m : ℕ) → cell_above base c ≡ Prepared u m → (k : ℕ) × (c ≡ Prepared u k) × (base + k ≡ m)
above_prepared base Absent u m e = absurd (cc)
above_prepared base Secondary u m e = absurd (cc)
above_prepared base Primary u m e = absurd (cc)
above_prepared base (Prepared a n) u m e = (n, ap (λ z. Prepared z n) (let z : a ≡ u = cc in z), (let z : base + n ≡ m = cc in z))
above_prepared base (Forwarding a n) u m e = absurd (cc)

-- so it is of each network
net_lower : EachNet (λ setup n. AreLower n.cells n.passes)
net_lower = by_counts (λ setup n. AreLower n.cells n.passes) (λ setup n S A Q r b s u v m p q.
    let c = above_prepared n.base (n.cells s v) u m q in
    let lower = low_lower setup n r s u v c.0 (above_primary n.base (n.cells s u) p) c.1 in
    let positive : 1 ≤ c.0 = subst IsPositive c.1 (b.cells s v) in
    all_map (IsPassOf n.base n.passes) (λ t. t.shard ≡ s → t.number < m) Q (λ t h g. elim h [
      | inl l ↦ (let z = c.2 in omega arith)
      | inr o ↦
          let l : o.1.number < c.0 = all_at (λ t. t.shard ≡ s → t.number < c.0) n.passes o.0 o.1 lower o.2 (sym (ap (λ (x : Ticket). x.shard) o.3) ∙ g) in
          let y : t.number ≡ n.base + o.1.number = ap (λ (x : Ticket). x.number) o.3 in
          (let z = c.2 in omega arith)
    ]) b.passes)

-- and of the fleet
pub passes_lower : (setup : Setup) (f : Fleet) → IsFleetReached setup f → (s u v m : ℕ) → held_cells f s u ≡ Primary → held_cells f s v ≡ Prepared u m → (j : ℕ) (h : Handoff) → slice_get f.passes j ≡ Some h
    → h.shard ≡ s → h.pass.handover < m
passes_lower setup f r s u v m p q j h e g =
    let k = fleet_shadow setup f r in
    let among = all_at (λ h. IsAmong k.shade.passes (ticket_of h)) f.passes j h k.passes e in
    all_at (λ t. t.shard ≡ s → t.number < m) k.shade.passes among.0 (ticket_of h) (net_lower setup (shade_of f k).net (net_of f k) s u v m p q) among.1 g
