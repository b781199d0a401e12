-- A cell that has a part in a handover makes the lead bad.
use Rattle.std.proofs.Common.{◌≡◌, ◌∙◌, true, ltb, length, sym, ap, refl, arith, inl, inr}
use Rattle.std.proofs.lemmas.Bool.{or_right}
use Rattle.sm_server.specs.Cell.{is_primary}
use Rattle.sm_placement.specs.Setup.{Setup}
use Rattle.sm_placement.specs.Sums.{count_below}
use Rattle.sm_placement.specs.Grid.{cells_of}
use Rattle.sm_placement.specs.Opening.{is_handing}
use Rattle.sm_placement.proofs.Searches.{any_some}
use Rattle.sm_placement.proofs.faults.has_bad_lead.Goals as goal

pub returns-in-Prepared : goal.returns-in-Prepared
returns-in-Prepared c =
    let n : c.server_count-number-end.result ≡ length c.args.table.now.setup.servers = c.server_count-number-end.ensures.count ∙ ap (λ (s : Setup). length s.servers) c.config.ensures.setup in
    let read : c.cell.result ≡ cells_of c.args.table.now c.args.shard c.loop-number.number = c.cell.ensures ∙ ap (cells_of c.args.table.now c.args.shard) c.new.ensures in
    let handing : is_handing (cells_of c.args.table.now c.args.shard c.loop-number.number) ≡ true = rw (← read) (elim c.in-Prepared.is [ inl w ↦ rw w.2 refl | inr w ↦ rw w.2 refl ]) in
    sym (or_right (ltb 1 (count_below (length c.args.table.now.setup.servers) (λ v. is_primary (cells_of c.args.table.now c.args.shard v)))) _ (any_some (length c.args.table.now.setup.servers) (λ v. is_handing (cells_of c.args.table.now c.args.shard v)) c.loop-number.number (omega arith) handing))
