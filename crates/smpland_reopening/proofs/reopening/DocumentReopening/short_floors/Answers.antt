-- One shard after the other, if its floor is not met.
use Rattle.std.proofs.Common.{◌++◌, ◌∙◌, ◌∷◌, [], ap, map, take}
use Rattle.std.specs.List.{filter}
use Rattle.smpland_reopening.specs.Proposed.{is_unmet, live_and_floor}
use Rattle.smpland_reopening.specs.RoleGrids.{role_at}
use Rattle.smpland_reopening.proofs.Proposed.{made_more}
use Rattle.smpland_reopening.proofs.reopening.DocumentReopening.short_floors.Goals as goal

pub loop-shard-preserved : goal.loop-shard-preserved
loop-shard-preserved c =
    let f = live_and_floor c.args.self.now (role_at c.args.roles.now) in
    c.in_ok-push_short.ensures
    ∙ ap (λ xs. xs ++ filter is_unmet (c.live_and_floor.result ∷ [])) c.loop-shard.invariant
    ∙ ap (λ x. filter is_unmet (map f (take c.loop-shard.shard-index c.args.shards.now)) ++ filter is_unmet (x ∷ [])) c.live_and_floor.ensures
    ∙ made_more is_unmet f c.args.shards.now c.loop-shard.shard-index c.shard-item.result c.loop-shard-test.true c.shard-item.is
