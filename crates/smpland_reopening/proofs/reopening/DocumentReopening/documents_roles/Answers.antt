-- The roles are those of the document's order.
use Rattle.std.proofs.Common.{◌≡◌, ◌∙◌, ap, arith, get_or, length}
use Rattle.smpland_reopening.specs.Reopening.{ReopeningModel}
use Rattle.smpland_reopening.specs.RoleGrids.{role_at}
use Rattle.smpland_reopening.proofs.Settled.{roles_kept}
use Rattle.smpland_reopening.proofs.reopening.DocumentReopening.documents_roles.Goals as goal

pub returns-clause-order : goal.returns-clause-order
returns-clause-order c =
    let r = c.args.self.now in
    let rows : c.loop-shard.list.shards ≡ length r.document.config.shards =
    c.loop-shard.invariant.shards ∙ c.shard_count-shards.ensures.count ∙ ap (λ (m : ReopeningModel). length m.document.config.shards) c.self.view_is in
    let width : c.loop-shard.list.servers ≡ length r.document.config.servers =
    c.loop-shard.invariant.servers ∙ c.server_count-servers.ensures.count ∙ ap (λ (m : ReopeningModel). length m.document.config.servers) c.self.view_is in
    roles_kept c.loop-shard.list (length r.document.config.shards) (length r.document.config.servers)
    (λ k v. role_at c.args.roles.now (get_or r.shards k 4294967295) (get_or r.servers v 4294967295)) rows width
    (λ k v l m. c.loop-shard.invariant.rows k v (omega (arith, l, rows, c.loop-shard.invariant.shards, c.loop-shard-test.false)) (omega (arith, m, width, c.loop-shard.invariant.servers)))
