-- The contract of a change that is handed out, and of a refusal, by the law of the two columns.
use Rattle.std.proofs.Common.{◌<◌, ◌≤◌, arith, length}
use Rattle.sm_placement.specs.Setup.{sizes_of}
use Rattle.sm_placement.proofs.SizesLemmas.{load_small}
use Rattle.sm_reservation.specs.HoldOf.{hold_of}
use Rattle.sm_plan_code.specs.declared.limits.TheConstants.{MOST_AMOUNT}
use Rattle.sm_plan_code.specs.Instr.{shard_of}
use Rattle.sm_plan_code.proofs.ChangeLemmas.{each_ok, each_err, is_change, is_refusal, small_got, at_shard}
use Rattle.sm_plan_code.proofs.change.change_of.Goals as goal

pub returns : goal.returns
returns c =
    let sizes = sizes_of c.args.config.now in
    let hold = hold_of c.args.hold.now.rights in
    let instr = c.args.instr.now in
    let answer = c.exchange.result in
    let made = is_change sizes instr hold answer c.exchange.ensures.own c.exchange.ensures.other in
    let small = at_shard (λ s. s < length c.args.config.now.shards) (λ s. sizes.load s ≤ MOST_AMOUNT) (shard_of instr) (λ s l. let below = load_small c.args.config.now s c.server_count-servers.ensures.setup in omega arith) c.requires in
    record {
      change = each_ok _ answer (λ x e. (made x e).change);
      held = each_ok _ answer (λ x e. (made x e).held);
      apart = each_ok _ answer (λ x e. (made x e).apart);
      left = each_ok _ answer (λ x e. (made x e).left);
      small = each_ok _ answer (λ x e. rw (made x e).change (small_got sizes hold instr small));
      refused = each_err _ answer (is_refusal sizes instr hold answer c.exchange.ensures.own c.exchange.ensures.other);
    }
