-- No two shards of a configuration have one name.
use Rattle.std.proofs.Common.{rules, arith, ◌≡◌, get_or}
use Rattle.std.proofs.lemmas.Grind.{common_steps}
use Rattle.sm_placement.specs.Config.{shard_row}
use Rattle.sm_placement.specs.Setup.{IsSetup, no_shard}
use Rattle.sm_placement.proofs.ConfigLemmas.{shard_at, length_map}
use Rattle.sm_placement.proofs.NamedLemmas.{shard_named_at}
use Rattle.sm_placement.proofs.config.Config.shard.Goals as goal

pub returns-clause-named : goal.returns-clause-named
returns-clause-named c =
    let setup : IsSetup c.args.self.now = search rules in
    let row : shard_row c.index.result.now ≡ get_or c.args.self.now.shards c.args.shard no_shard = grind (arith, common_steps, shard_at, length_map) in
    shard_named_at c.args.self.now c.args.shard (shard_row c.index.result.now) setup c.requires row
