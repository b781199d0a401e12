-- A lead describes what real servers have of a shard.
use Rattle.std.proofs.Common.{ℕ, ◌+◌, ap}
use Rattle.sm_server.specs.declared.call.Cell.{Cell}
use Rattle.sm_server.specs.declared.call.Cell.TheVariants as cell
use Rattle.sm_placement.specs.Lead.{Describes, IsPlain}
use Rattle.sm_placement.specs.declared.lead.Lead.{Lead}
use Rattle.sm_placement.specs.declared.lead.Lead.TheVariants.{Gone, At, Ready, Handing, Handed}
use Rattle.sm_protocol.proofs.Whole.{reached_keeps}
use Rattle.laws_network.specs.Net.{cell_above}
use Rattle.laws_network.specs.Laws.{EachNet}
use Rattle.laws_network.proofs.CountedLaws as low
use Rattle.laws_network.proofs.Ahead.{real_described}
use Rattle.laws_network.proofs.Calm.{ready}
use Rattle.laws_network.proofs.Events.{net_sound}
use Rattle.laws_network.proofs.Raised.{by_counts}
use Rattle.laws_network.proofs.Sound.{handed}
use Rattle.laws_network.proofs.Untraced.{by_traces}

-- a lead describes the cells of a shard
abbrev pub IsDescribed : (ℕ → Cell) → Type 0
IsDescribed row = (lead : Lead) × (number : ℕ) × Describes lead number row

-- so it is of the network that counts from 0
low_described : low.EachNet (λ setup n. (s : ℕ) → IsDescribed (n.cells s))
low_described = by_traces (λ setup n. (s : ℕ) → IsDescribed (n.cells s)) (λ setup n r h s.
    let sound = net_sound setup n r in
    let v = (reached_keeps setup n.w sound.reached).0 in
    let d = real_described setup n.w n.had sound.reached sound.calm.halted (λ id h. let t = sound.at_calls id h in (t.0, t.1, ready v sound.calm t.2)) sound.once n.cells sound.cells n.last in
    (d.0 s, handed n s, d.1 s))

plain_above : (base : ℕ) (c : Cell) → IsPlain c → IsPlain (cell_above base c)
plain_above base cell.Absent h = h
plain_above base cell.Secondary h = h
plain_above base cell.Primary h = absurd h
plain_above base (cell.Prepared a n) h = absurd h
plain_above base (cell.Forwarding a n) h = absurd h

-- the same lead describes the cells with the base added
described_above : (base : ℕ) (lead : Lead) (n : ℕ) (row : ℕ → Cell) → Describes lead n row → Describes lead (base + n) (λ v. cell_above base (row v))
described_above base Gone n row d = λ x. plain_above base (row x) (d x)
described_above base (At u) n row d = (ap (cell_above base) d.0, λ x e. plain_above base (row x) (d.1 x e))
described_above base (Ready u v) n row d = (d.0, ap (cell_above base) d.1, ap (cell_above base) d.2, λ x e f. plain_above base (row x) (d.3 x e f))
described_above base (Handing u v) n row d = (d.0, ap (cell_above base) d.1, ap (cell_above base) d.2, λ x e f. plain_above base (row x) (d.3 x e f))
described_above base (Handed u v) n row d = (d.0, ap (cell_above base) d.1, ap (cell_above base) d.2, λ x e f. plain_above base (row x) (d.3 x e f))

-- what servers have is described by a lead
pub net_described : EachNet (λ setup n. (s : ℕ) → IsDescribed (n.cells s))
net_described = by_counts (λ setup n. (s : ℕ) → IsDescribed (n.cells s)) (λ setup n S A Q r b s.
    let d = low_described setup n r s in
    (d.0, n.base + d.1, described_above n.base d.0 d.1 (n.cells s) d.2))
