-- Only the shards are others.
use Rattle.std.proofs.Common.{◌∙◌, ap, map}
use Rattle.sm_placement.specs.Config.{shard_row}
use Rattle.smpland_reopening.proofs.Settled.{met_config}
use Rattle.smpland_reopening.proofs.opening.floored_config.Goals as goal

pub returns-in-Ok-clause-met : goal.returns-in-Ok-clause-met
returns-in-Ok-clause-met c =
    met_config c.args.config.now c.in-Ok.config c.servers.result.now c.deref.result.now _ c.in-Ok.ensures.ok c.servers.ensures
    (ap (map shard_row) c.deref.ensures.value ∙ c.in_ok-shards.ensures.met)
