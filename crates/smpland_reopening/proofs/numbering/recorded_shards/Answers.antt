-- One row after the other is as the document has it.
use Rattle.std.proofs.Common.{◌∙◌, ◌∷◌, ◌<◌, [], ap, arith, get_or, length, map}
use Rattle.std.proofs.lemmas.List.{map-append}
use Rattle.sm_placement.specs.Config.{shard_row}
use Rattle.sm_placement.specs.Setup.{ShardRow, no_shard}
use Rattle.smpland_reopening.specs.Numbers.{shard_as_documented}
use Rattle.smpland_reopening.proofs.Numbers.{mapped_all, mapped_next, shard_name_kept, shard_names_next}
use Rattle.smpland_reopening.proofs.numbering.recorded_shards.Goals as goal

pub loop-number-preserved : goal.loop-number-preserved
loop-number-preserved c =
    let i = c.loop-number.number in
    let setup = c.args.recorded.now in
    let row = c.in_ok-documented_shard.field-0 in
    let within : i < length setup.shards = omega (arith, c.loop-number-test.true, c.shard_count-number-end.ensures.count) in
    let at = c.shard-shard.ensures.row ∙ ap (λ k. get_or setup.shards k no_shard) c.new.ensures in
    let is = c.in_ok-documented_shard.ensures ∙ ap (shard_as_documented c.args.document.now) at in
    record {
      names = shard_names_next setup c.loop-number.rows.items c.push.new.self.items row i c.loop-number.invariant.names within c.in_ok-push.ensures.items
          (ap (λ (r : ShardRow). r.name) is ∙ shard_name_kept c.args.document.now (get_or setup.shards i no_shard));
      rows = mapped_next (shard_as_documented c.args.document.now) setup.shards no_shard (map shard_row c.loop-number.rows.items) (map shard_row c.push.new.self.items) (shard_row row) i within
          c.loop-number.invariant.rows (ap (map shard_row) c.in_ok-push.ensures.items ∙ map-append shard_row c.loop-number.rows.items (row ∷ [])) is;
    }

pub returns-clause-rows : goal.returns-clause-rows
returns-clause-rows c =
    c.loop-number.invariant.rows ∙ mapped_all (shard_as_documented c.args.document.now) c.args.recorded.now.shards c.loop-number.number (omega (arith, c.loop-number-test.false, c.shard_count-number-end.ensures.count))
