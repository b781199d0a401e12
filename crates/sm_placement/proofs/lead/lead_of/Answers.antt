-- The servers that have a part are found one after another.
use Rattle.std.proofs.Common.{◌≡◌, ℕ, length, refl, sym, ap, ◌∙◌}
use Rattle.std.specs.Prelude.{is_some}
use Rattle.std.specs.Option.{option_or}
use Rattle.sm_server.specs.declared.call.Cell.{Cell}
use Rattle.sm_placement.specs.Grid.{cells_of}
use Rattle.sm_placement.specs.Lead.{lead_of_pair}
use Rattle.sm_placement.proofs.LeadOf.{lead_of_none, lead_of_one, lead_of_two, lead_of_more}
use Rattle.sm_placement.proofs.lead.lead_of.Goals as goal

pub returns-in_default : goal.returns-in_default
returns-in_default c = sym (lead_of_none (length c.args.table.now.setup.servers) (cells_of c.args.table.now c.args.shard) (sym c.next_part.ensures.next ∙ c.in_default.is))

pub returns-in_default-next_part : goal.returns-in_default-next_part
returns-in_default-next_part c =
    c.lead_alone.ensures ∙ sym (rw c.cell-own.ensures (lead_of_one (length c.args.table.now.setup.servers) (cells_of c.args.table.now c.args.shard) c.in-Some.first c.number.result c.number.ensures (sym c.next_part.ensures.next ∙ c.in-Some.is) (sym c.next_part-2.ensures.next ∙ c.in_default-next_part.is)))

pub returns-then-is_some : goal.returns-then-is_some
returns-then-is_some c =
    sym (lead_of_more (length c.args.table.now.setup.servers) (cells_of c.args.table.now c.args.shard) c.in-Some.first c.number.result c.in-Some-next_part.second c.number-2.result c.number.ensures c.number-2.ensures
    (sym c.next_part.ensures.next ∙ c.in-Some.is) (sym c.next_part-2.ensures.next ∙ c.in-Some-next_part.is) (ap is_some (sym c.next_part-3.ensures.next) ∙ sym c.is_some.ensures ∙ c.if-is_some.true))

pub returns : goal.returns
returns c =
    let row : ℕ → Cell = cells_of c.args.table.now c.args.shard in
    let pair : option_or c.lead_of_pair.result c.lead_of_pair-2.result ≡ option_or (lead_of_pair c.in-Some.first (row c.in-Some.first) c.in-Some-next_part.second (row c.in-Some-next_part.second)) (lead_of_pair c.in-Some-next_part.second (row c.in-Some-next_part.second) c.in-Some.first (row c.in-Some.first)) =
    rw (c.lead_of_pair.ensures, c.lead_of_pair-2.ensures, c.cell-own.ensures, c.cell-other.ensures) refl in
    c.or.ensures ∙ pair ∙ sym (lead_of_two (length c.args.table.now.setup.servers) row c.in-Some.first c.number.result c.in-Some-next_part.second c.number-2.result c.number.ensures c.number-2.ensures
    (sym c.next_part.ensures.next ∙ c.in-Some.is) (sym c.next_part-2.ensures.next ∙ c.in-Some-next_part.is) (ap is_some (sym c.next_part-3.ensures.next) ∙ sym c.is_some.ensures ∙ c.if-is_some.false))
