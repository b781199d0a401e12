-- One choice after the other counts.
use Rattle.std.proofs.Common.{◌∙◌, ap, arith, length, take_all}
use Rattle.smpland_reopening.specs.Reopening.{ReopeningModel}
use Rattle.smpland_reopening.specs.RoleGrids.{role_at}
use Rattle.smpland_reopening.specs.Chosen.{chosen_role}
use Rattle.smpland_reopening.proofs.Chosen.{chosen_step}
use Rattle.smpland_reopening.proofs.Settled.{roles_kept}
use Rattle.smpland_reopening.proofs.reopening.DocumentReopening.chosen_roles.Goals as goal

pub loop-choice-preserved : goal.loop-choice-preserved
loop-choice-preserved c = record {
  shards = c.choose.ensures.shards ∙ c.loop-choice.invariant.shards;
  servers = c.choose.ensures.servers ∙ c.loop-choice.invariant.servers;
  roles = λ s v k l.
      chosen_step c.args.self.now c.args.chosen.now c.loop-choice.choice-index c.choice-item.result c.deref.result.now c.deref-in-loop-choice.result.now
      (role_at c.loop-choice.roles) (role_at c.choose.new.self) s v c.loop-choice-test.true c.choice-item.is
      (c.deref.ensures.value ∙ ap (λ (r : ReopeningModel). r.shards) c.self.view_is)
      (c.deref-in-loop-choice.ensures.value ∙ ap (λ (r : ReopeningModel). r.servers) c.self.view_is)
      (c.loop-choice.invariant.roles s v k l)
      (c.choose.ensures.roles s v (omega (arith, k, c.loop-choice.invariant.shards)) (omega (arith, l, c.loop-choice.invariant.servers)));
}

pub returns-clause-all : goal.returns-clause-all
returns-clause-all c =
    let r = c.args.self.now in
    roles_kept c.loop-choice.roles (length r.numbering.shards) (length r.numbering.servers) (chosen_role r c.args.chosen.now)
    c.loop-choice.invariant.shards c.loop-choice.invariant.servers
    (λ s v k l. c.loop-choice.invariant.roles s v k l ∙ ap (λ xs. chosen_role r xs s v) (take_all c.loop-choice.choice-index c.args.chosen.now c.loop-choice-test.false))
