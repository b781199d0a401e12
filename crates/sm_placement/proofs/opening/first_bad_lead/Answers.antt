-- The first shard whose counts are bad.
use Rattle.std.proofs.Common.{◌≡◌, ◌<◌, ◌∙◌, true, false, length, sym, arith}
use Rattle.sm_placement.specs.Opening.{cell_named, has_bad_lead}
use Rattle.sm_placement.proofs.Searches.{find_here, find_next}
use Rattle.sm_placement.proofs.Tallies.{bad_by_counts}
use Rattle.sm_placement.proofs.opening.first_bad_lead.Goals as goal

pub returns-then-is_bad : goal.returns-then-is_bad
returns-then-is_bad c =
    let l : c.loop-number.number < length c.args.config.now.shards = omega (arith, c.shard_count-number-end.ensures.count) in
    let bad : has_bad_lead (length c.args.config.now.servers) (cell_named c.args.cells.now c.loop-number.number) ≡ true =
    sym (bad_by_counts (length c.args.config.now.shards) (length c.args.config.now.servers) c.args.cells.now c.in_ok-counts.counts.items c.loop-number.number c.index.result.now c.requires.known c.requires.once c.in_ok-counts.ensures.len c.in_ok-counts.ensures.counts l c.index.ensures) ∙ sym c.is_bad.ensures ∙ c.if-is_bad.true in
    rw c.new.ensures (sym (find_here (λ s. has_bad_lead (length c.args.config.now.servers) (cell_named c.args.cells.now s)) c.loop-number.number (length c.args.config.now.shards) l bad) ∙ c.loop-number.invariant)

pub loop-number-preserved : goal.loop-number-preserved
loop-number-preserved c =
    let l : c.loop-number.number < length c.args.config.now.shards = omega (arith, c.shard_count-number-end.ensures.count) in
    let good : has_bad_lead (length c.args.config.now.servers) (cell_named c.args.cells.now c.loop-number.number) ≡ false =
    sym (bad_by_counts (length c.args.config.now.shards) (length c.args.config.now.servers) c.args.cells.now c.in_ok-counts.counts.items c.loop-number.number c.index.result.now c.requires.known c.requires.once c.in_ok-counts.ensures.len c.in_ok-counts.ensures.counts l c.index.ensures) ∙ sym c.is_bad.ensures ∙ c.if-is_bad.false in
    sym (find_next (λ s. has_bad_lead (length c.args.config.now.servers) (cell_named c.args.cells.now s)) c.loop-number.number (length c.args.config.now.shards) l good) ∙ c.loop-number.invariant
