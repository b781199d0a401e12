-- The slot that is read is the pair's.
use Rattle.std.proofs.Common.{◌≡◌, ◌<◌, ◌+◌, ◌*◌, false, length, subst}
use Rattle.sm_placement.specs.Replicas.{ReplicasModel, replicas_by}
use Rattle.sm_placement.proofs.GridLemmas.{grid_of-at}
use Rattle.sm_placement.proofs.replicas.Replicas.get.Goals as goal

pub returns : goal.returns
returns c =
    subst (λ (r : ReplicasModel). c.args.shard < r.shards → c.args.server * r.shards + c.args.shard < length r.held → c.index.result.now ≡ replicas_by r c.args.server c.args.shard) c.self.view_is
    (λ l m. grid_of-at c.self.inside.shards false c.self.inside.held.items c.args.server c.args.shard c.index.result.now l m c.index.ensures) c.requires.shard c.requires.within
