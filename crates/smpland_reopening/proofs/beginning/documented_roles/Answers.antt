-- One cell after the other gives its role.
use Rattle.std.proofs.Common.{◌∙◌, ap, arith, get_or, sym, take_all}
use Rattle.smpland_reopening.specs.Begun.{role_written}
use Rattle.smpland_reopening.specs.RoleGrids.{role_at}
use Rattle.smpland_reopening.proofs.Written.{roles_all, written_step}
use Rattle.smpland_reopening.proofs.beginning.documented_roles.Goals as goal

pub loop-named-preserved : goal.loop-named-preserved
loop-named-preserved c =
    let i = c.loop-named.named-index in
    let cells = c.args.document.now.cells.items in
    record {
      shards = c.write_role.ensures.shards ∙ c.loop-named.invariant.shards;
      servers = c.write_role.ensures.servers ∙ c.loop-named.invariant.servers;
      roles = λ s v k l.
          written_step c.args.shards.now c.args.servers.now cells i c.named-item.result (role_at c.loop-named.roles) (role_at c.write_role.new.roles) s v
          (omega (arith, c.loop-named-test.true, c.deref-named-items.ensures.len))
          (c.named-item.is ∙ ap (λ xs. get_or xs i c.named-item.result) c.deref-named-items.ensures.value)
          (c.loop-named.invariant.roles s v k l)
          (c.write_role.ensures.roles s v (omega (arith, k, c.loop-named.invariant.shards)) (omega (arith, l, c.loop-named.invariant.servers)));
    }

pub returns-clause-roles : goal.returns-clause-roles
returns-clause-roles c =
    let cells = c.args.document.now.cells.items in
    roles_all c.loop-named.roles c.args.numbering.now c.args.shards.now c.args.servers.now cells c.loop-named.invariant.shards c.loop-named.invariant.servers
    (λ s v k l.
    c.loop-named.invariant.roles s v k l
    ∙ ap (λ xs. role_written c.args.shards.now c.args.servers.now xs s v) (take_all c.loop-named.named-index cells (omega (arith, c.loop-named-test.false, c.deref-named-items.ensures.len))))
