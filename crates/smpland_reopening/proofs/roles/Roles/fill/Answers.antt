-- One replica after the other is given.
use Rattle.std.proofs.Common.{◌∙◌, arith}
use Rattle.smpland_reopening.specs.RoleGrids.{role_at}
use Rattle.smpland_reopening.proofs.Chosen.{given_step}
use Rattle.smpland_reopening.proofs.roles.Roles.fill.Goals as goal

pub loop-server-preserved : goal.loop-server-preserved
loop-server-preserved c = record {
  shards = c.give.ensures.shards ∙ c.loop-server.invariant.shards;
  servers = c.give.ensures.servers ∙ c.loop-server.invariant.servers;
  roles = λ s v k l.
      given_step (role_at c.args.self.now) (role_at c.loop-server.self) (role_at c.give.new.self) c.args.shard c.args.servers.now c.args.replicas.now
      c.loop-server.server-index c.loop-server-item.result s v c.loop-server-test.true c.loop-server-item.is (c.loop-server.invariant.roles s v k l)
      (c.give.ensures.roles s v (omega (arith, k, c.loop-server.invariant.shards)) (omega (arith, l, c.loop-server.invariant.servers)));
}
