-- One shard after the other has what is proposed.
use Rattle.std.proofs.Common.{◌≡◌, ◌∙◌, None, ap, arith, length, sym, take, take_all}
use Rattle.std.specs.Prelude.{◌==◌, if◌then◌else◌}
use Rattle.std.specs.List.{list_any}
use Rattle.smpland_reopening.specs.Chosen.{proposed_role, role_by_proposal}
use Rattle.smpland_reopening.specs.Reopening.{ReopeningModel}
use Rattle.smpland_reopening.specs.RoleGrids.{role_at}
use Rattle.smpland_reopening.proofs.Chosen.{proposed_step}
use Rattle.smpland_reopening.proofs.Settled.{roles_kept}
use Rattle.smpland_reopening.proofs.reopening.DocumentReopening.proposed_roles.Goals as goal

pub loop-shard-preserved : goal.loop-shard-preserved
loop-shard-preserved c = record {
  shards = c.propose_shard.ensures.shards ∙ c.loop-shard.invariant.shards;
  servers = c.propose_shard.ensures.servers ∙ c.loop-shard.invariant.servers;
  roles = λ s v k l.
      proposed_step c.args.self.now c.deref-shard-items.result.now (role_at c.loop-shard.roles) (role_at c.propose_shard.new.roles) c.loop-shard.shard-index
      c.shard-item.result s v (c.deref-shard-items.ensures.value ∙ ap (λ (r : ReopeningModel). r.shards) c.self.view_is) c.loop-shard-test.true c.shard-item.is
      (c.loop-shard.invariant.roles s v k l)
      (c.propose_shard.ensures.roles s v (omega (arith, k, c.loop-shard.invariant.shards)) (omega (arith, l, c.loop-shard.invariant.servers)));
}

pub returns-clause-all : goal.returns-clause-all
returns-clause-all c =
    let r = c.args.self.now in
    let i = c.loop-shard.shard-index in
    let shards : c.in_ok-roles.roles.shards ≡ length r.numbering.shards =
    c.in_ok-roles.ensures.shards ∙ c.shard_count-shards.ensures.count ∙ ap (λ (x : ReopeningModel). length x.numbering.shards) c.self.view_is in
    let servers : c.in_ok-roles.roles.servers ≡ length r.numbering.servers =
    c.in_ok-roles.ensures.servers ∙ c.server_count-servers.ensures.count ∙ ap (λ (x : ReopeningModel). length x.numbering.servers) c.self.view_is in
    let items : c.deref-shard-items.result.now ≡ r.shards = c.deref-shard-items.ensures.value ∙ ap (λ (x : ReopeningModel). x.shards) c.self.view_is in
    let all : take i r.shards ≡ r.shards = ap (take i) (sym items) ∙ take_all i c.deref-shard-items.result.now c.loop-shard-test.false ∙ items in
    roles_kept c.loop-shard.roles (length r.numbering.shards) (length r.numbering.servers) (proposed_role r)
    (c.loop-shard.invariant.shards ∙ shards) (c.loop-shard.invariant.servers ∙ servers)
    (λ s v k l.
    c.loop-shard.invariant.roles s v (omega (arith, k, shards)) (omega (arith, l, servers))
    ∙ ap (λ xs. if list_any (λ t. t == s) xs then role_by_proposal r s v else None) all)
