-- The slot that is written is the pair's.
use Rattle.std.proofs.Common.{◌≡◌, ◌<◌, ◌+◌, ◌*◌, false, length, set, subst}
use Rattle.sm_placement.specs.Replicas.{ReplicasModel, replicas_by}
use Rattle.sm_placement.specs.Sums.{put2}
use Rattle.sm_placement.specs.Layout.{grid_of}
use Rattle.sm_placement.proofs.GridLemmas.{grid_of-set}
use Rattle.sm_placement.proofs.replicas.Replicas.set.Goals as goal

pub returns-clause-held : goal.returns-clause-held
returns-clause-held c =
    subst (λ (r : ReplicasModel). c.args.shard < r.shards → c.args.server * r.shards + c.args.shard < length r.held →
    grid_of c.self.inside.shards false (set c.self.inside.held.items (c.args.server * c.self.inside.shards + c.args.shard) c.args.has_replica) ≡ put2 (replicas_by r) c.args.server c.args.shard c.args.has_replica) c.self.view_is
    (λ l m. grid_of-set c.self.inside.shards false c.self.inside.held.items c.args.server c.args.shard c.args.has_replica l m) c.requires.shard c.requires.within
