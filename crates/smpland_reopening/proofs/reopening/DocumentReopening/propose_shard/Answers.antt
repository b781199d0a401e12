-- One server after the other has the role that is proposed.
use Rattle.std.proofs.Common.{◌≡◌, ◌∙◌, ap, arith, refl}
use Rattle.sm_reopening.specs.Ongoing.{net_reopening}
use Rattle.smpland_reopening.specs.Chosen.{role_by_proposal}
use Rattle.smpland_reopening.specs.Reopening.{ReopeningModel}
use Rattle.smpland_reopening.specs.RoleGrids.{role_at}
use Rattle.smpland_reopening.proofs.Chosen.{filled_all, filled_more, filled_none}
use Rattle.smpland_reopening.proofs.reopening.DocumentReopening.propose_shard.Goals as goal

pub loop-number-init : goal.loop-number-init
loop-number-init c = record {
  shards = refl;
  servers = refl;
  roles = λ s v k l. filled_none (role_at c.args.roles.now) c.args.shard (role_by_proposal c.args.self.now c.args.shard) s v;
}

pub loop-number-preserved : goal.loop-number-preserved
loop-number-preserved c = record {
  shards = c.assign.ensures.shards ∙ c.loop-number.invariant.shards;
  servers = c.assign.ensures.servers ∙ c.loop-number.invariant.servers;
  roles = λ s v k l.
      filled_more (role_at c.args.roles.now) (role_at c.loop-number.roles) (role_at c.assign.new.self) c.args.shard c.loop-number.number
      (role_by_proposal c.args.self.now c.args.shard) _ s v (c.loop-number.invariant.roles s v k l)
      ((rw c.new-server.ensures at c.assign.ensures.roles) s v (omega (arith, k, c.loop-number.invariant.shards)) (omega (arith, l, c.loop-number.invariant.servers)))
      (rw (c.new-server.ensures, c.proposed_primary-primary.ensures) at c.proposed_role.ensures);
}

pub returns-clause-roles : goal.returns-clause-roles
returns-clause-roles c s v k l =
    let count : (net_reopening c.self.inside.ongoing).servers ≡ (net_reopening c.args.self.now.ongoing).servers =
    ap (λ (r : ReopeningModel). (net_reopening r.ongoing).servers) c.self.view_is in
    let end : c.server_count-number-end.result ≡ (net_reopening c.self.inside.ongoing).servers = c.server_count-number-end.ensures in
    c.loop-number.invariant.roles s v k l
    ∙ filled_all (role_at c.args.roles.now) c.args.shard c.loop-number.number (role_by_proposal c.args.self.now c.args.shard) s v
    (omega (arith, l, c.loop-number-test.false, c.requires, count, end))
