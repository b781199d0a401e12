-- The end of a plan: what its streams hold at their ends sets a placement.
use Rattle.std.specs.Prelude.{ℕ, zero, suc, ◌+◌, ◌==◌, Bool, false, Option, Some, None, List, [], ◌∷◌, length, count_by}
use Rattle.std.specs.Prelude.{sum_by, if◌then◌else◌}
use Rattle.sm_server.specs.declared.call.Cell.{Cell}
use Rattle.sm_server.specs.declared.call.Cell.TheVariants as cell
use Rattle.sm_placement.specs.declared.lead.Lead.{Lead}
use Rattle.sm_placement.specs.declared.lead.Lead.TheVariants.{At}
use Rattle.sm_placement.specs.Setup.{Sizes}
use Rattle.sm_placement.specs.Place.{Place}
use Rattle.sm_reservation.specs.declared.right.PlainCell.{PlainCell}
use Rattle.sm_reservation.specs.declared.right.PlainCell.TheVariants.{Absent, Secondary}
use Rattle.sm_reservation.specs.Hold.{Hold}
use Rattle.sm_plan_code.specs.declared.instruction.Instr.{Instr}
use Rattle.sm_plan_code.specs.declared.instruction.Instr.TheVariants.{Publish, Unlist}
use Rattle.sm_plan_code.specs.Plan.{PlanModel}
use Rattle.sm_verifier.specs.Stream.{stream_at, final_hold}

-- a crown with the lead At(u) sets its shard's cell at u
abbrev pub cell_by_crown : Option (Lead × Option ℕ) → ℕ → Cell → Cell
cell_by_crown (Some (At u, listed)) v old = if u == v then cell.Primary else old
cell_by_crown _ v old = old

-- a right to a cell sets the cell
abbrev pub cell_by_right : Option PlainCell → Cell → Cell
cell_by_right (Some Absent) old = cell.Absent
cell_by_right (Some Secondary) old = cell.Secondary
cell_by_right None old = old

-- a crown sets its shard's listed server
abbrev pub listed_by : Option (Lead × Option ℕ) → Option ℕ → Option ℕ
listed_by None old = old
listed_by (Some crown) old = crown.1

-- the placement with what a hold sets, and the rest as it was
abbrev pub set_by : Hold → Place → Place
set_by h p = record p {
  cells = λ s v. cell_by_right (h.cells s v) (cell_by_crown (h.crowns s) v (p.cells s v));
  listed = λ s. listed_by (h.crowns s) (p.listed s);
}

-- the placement with what the first n streams of a plan hold at their ends
abbrev pub set_by_streams : Sizes → PlanModel → ℕ → Place → Place
set_by_streams c plan zero p = p
set_by_streams c plan (suc n) p = set_by (final_hold (stream_at c plan n)) (set_by_streams c plan n p)

-- the instruction changes the shard's entry in the published map
abbrev pub is_publication : ℕ → Instr → Bool
is_publication s (Publish t) = t == s
is_publication s (Unlist t) = t == s
is_publication s _ = false

-- how often a plan changes the shard's entry
abbrev pub publications : PlanModel → ℕ → ℕ
publications plan s = sum_by (λ stream. count_by (is_publication s) stream.code) plan.streams

-- The end of a plan: the cells, leads and listed servers are those of what its streams hold at their ends, and each
-- version has risen by one with each change of its entry.
abbrev pub end_of : Sizes → PlanModel → Place → Place
end_of c plan p = record (set_by_streams c plan (length plan.streams) p) { version = λ s. p.version s + publications plan s }

-- the ends of plans, one after another
abbrev pub ends_of : Sizes → List PlanModel → Place → Place
ends_of c [] p = p
ends_of c (plan ∷ plans) p = ends_of c plans (end_of c plan p)
