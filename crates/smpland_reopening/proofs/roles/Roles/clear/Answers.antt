-- One server after the other has no role of the shard.
use Rattle.std.proofs.Common.{◌∙◌, None, arith, refl}
use Rattle.smpland_reopening.specs.RoleGrids.{role_at}
use Rattle.smpland_reopening.proofs.Chosen.{filled_all, filled_more, filled_none}
use Rattle.smpland_reopening.proofs.roles.Roles.clear.Goals as goal

pub loop-number-init : goal.loop-number-init
loop-number-init c = record { shards = refl; servers = refl; roles = λ s v k l. filled_none (role_at c.args.self.now) c.args.shard (λ u. None) s v }

pub loop-number-preserved : goal.loop-number-preserved
loop-number-preserved c = record {
  shards = c.assign.ensures.shards ∙ c.loop-number.invariant.shards;
  servers = c.assign.ensures.servers ∙ c.loop-number.invariant.servers;
  roles = λ s v k l.
      filled_more (role_at c.args.self.now) (role_at c.loop-number.self) (role_at c.assign.new.self) c.args.shard c.loop-number.number (λ u. None) None s v
      (c.loop-number.invariant.roles s v k l)
      ((rw c.new.ensures at c.assign.ensures.roles) s v (omega (arith, k, c.loop-number.invariant.shards)) (omega (arith, l, c.loop-number.invariant.servers)))
      refl;
}

pub returns-clause-roles : goal.returns-clause-roles
returns-clause-roles c s v k l =
    c.loop-number.invariant.roles s v k l
    ∙ filled_all (role_at c.args.self.now) c.args.shard c.loop-number.number (λ u. None) s v
    (omega (arith, l, c.loop-number-test.false, c.loop-number.invariant.servers))
