-- The first shard with a double, as the counts have it.
use Rattle.std.proofs.Common.{◌≡◌, ◌<◌, ◌∙◌, length, Some, None, sym, arith}
use Rattle.sm_placement.specs.declared.opening.OpenFault.TheVariants.{DoubleCell}
use Rattle.sm_placement.specs.Opening.{double_of}
use Rattle.sm_placement.proofs.Searches.{first_from_more, first_from_pass}
use Rattle.sm_placement.proofs.Tallies.{double_found, no_double}
use Rattle.sm_placement.proofs.opening.first_double.Goals as goal

pub returns-in-Some : goal.returns-in-Some
returns-in-Some c =
    let at : double_of (length c.args.config.now.servers) c.args.cells.now c.loop-number.number ≡ Some (DoubleCell c.loop-number.number c.in-Some.server) =
    double_found (length c.args.config.now.servers) c.server_count-servers.result c.args.cells.now c.in_ok-counts.counts.items c.deref.result.now c.loop-number.number c.new-shard.result (Some c.in-Some.server)
    c.in_ok-counts.ensures.counts c.server_count-servers.ensures.count c.deref.ensures.value c.new-shard.ensures (sym c.in-Some.is ∙ c.first_double_of.ensures) in
    let l : c.loop-number.number < length c.args.config.now.shards = omega (arith, c.shard_count-shards.ensures.count) in
    rw c.new-shard.ensures (sym (first_from_more (double_of (length c.args.config.now.servers) c.args.cells.now) c.loop-number.number (length c.args.config.now.shards) _ l at) ∙ c.loop-number.invariant)

pub loop-number-preserved : goal.loop-number-preserved
loop-number-preserved c =
    let at : double_of (length c.args.config.now.servers) c.args.cells.now c.loop-number.number ≡ None =
    double_found (length c.args.config.now.servers) c.server_count-servers.result c.args.cells.now c.in_ok-counts.counts.items c.deref.result.now c.loop-number.number c.new-shard.result None
    c.in_ok-counts.ensures.counts c.server_count-servers.ensures.count c.deref.ensures.value c.new-shard.ensures (sym c.in_default.is ∙ c.first_double_of.ensures) in
    let l : c.loop-number.number < length c.args.config.now.shards = omega (arith, c.shard_count-shards.ensures.count) in
    sym (first_from_pass (double_of (length c.args.config.now.servers) c.args.cells.now) c.loop-number.number (length c.args.config.now.shards) l at) ∙ c.loop-number.invariant

pub returns-then-branch : goal.returns-then-branch
returns-then-branch c =
    let once = c.in_ok-is_named_once.ensures.0 c.if-branch.true in
    sym (no_double (length c.args.config.now.shards) (length c.args.config.now.servers) c.args.cells.now once)
