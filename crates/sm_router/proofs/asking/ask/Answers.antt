-- An ask.
use Rattle.std.proofs.Common.{◌≡◌, ◌≤◌, ◌<◌, ◌+◌, refl, sym, subst, arith, inl}
use Rattle.sm_router.specs.declared.asking.Next.TheVariants.{Look, PassOn}
use Rattle.sm_router.specs.Asking.{IsEnd, IsHop, asked_after, HasAsked}
use Rattle.sm_router.proofs.Hops.{HasCome, IsProper, one_made, all_made, at_end, end_proper, end_listed, after_listed}
use Rattle.sm_router.proofs.asking.ask.Goals as goal
use Rattle.sm_router.proofs.asking.ask.Goals.{in-Look+in-Some, in-PassOn}

pub returns-in-None : goal.returns-in-None
returns-in-None g c =
    let test = c.loop-test.true in
    let below : c.loop.counter < 8 = omega arith in
    all_made (g.D.Desk.looked c.args.desk.now) (g.D.Desk.arrived c.args.desk.now) (g.D.Desk.passed_on c.args.desk.now) c.args.shard c.args.caller.now
    c.loop.counter c.loop.next c.loop.caller _ c.look.new.caller c.loop.invariant.1 c.loop.invariant.0 (λ e. cc) (λ e. below)
    (subst (λ x. IsEnd (g.D.Desk.looked c.args.desk.now) c.args.shard x c.loop.caller _ c.look.new.caller) (sym c.in-Look.is)
    (inl (refl, record { entry = c.look.result; look = c.look.ensures.entry; listed = c.in-None.is })))

pub returns-in-End : goal.returns-in-End
returns-in-End g c =
    all_made (g.D.Desk.looked c.args.desk.now) (g.D.Desk.arrived c.args.desk.now) (g.D.Desk.passed_on c.args.desk.now) c.args.shard c.args.caller.now
    c.loop.counter c.loop.next c.loop.caller c.in-End.asked c.loop.caller c.loop.invariant.1 c.loop.invariant.0
    (λ e. end_proper c.in-End.asked (subst IsProper c.in-End.is c.loop.invariant.1.proper) e c.loop.counter)
    (λ e. end_listed c.in-End.asked (subst IsProper c.in-End.is c.loop.invariant.1.proper) e c.loop.counter)
    (subst (λ x. IsEnd (g.D.Desk.looked c.args.desk.now) c.args.shard x c.loop.caller c.in-End.asked c.loop.caller) (sym c.in-End.is) (refl, refl))

pub loop-preserved : goal.loop-preserved
loop-preserved g c =
    let L = g.D.Desk.looked c.args.desk.now in
    let A = g.D.Desk.arrived c.args.desk.now in
    let P = g.D.Desk.passed_on c.args.desk.now in
    let hop : IsHop L A P c.args.shard c.loop.next c.loop.caller (record { said = c.match-next.answer; caller = c.match-next.caller }) = elim c.match-next.branch [
      | in-Look+in-Some w ↦
          subst (λ x. IsHop L A P c.args.shard x c.loop.caller (record { said = c.match-next.answer; caller = c.match-next.caller })) (sym w.in-Look.is)
          (subst (λ x. IsHop L A P c.args.shard Look c.loop.caller (record { said = x; caller = c.match-next.caller })) (sym w.answer-is)
          (subst (λ x. IsHop L A P c.args.shard Look c.loop.caller (record { said = w.arrive.result; caller = x })) (sym w.caller-is)
          (record { server = w.in-Some.server; seen = w.look.new.caller; look = record { entry = w.look.result; look = w.look.ensures.entry; listed = w.in-Some.is }; arrive = w.arrive.ensures })))
      | in-PassOn w ↦
          subst (λ x. IsHop L A P c.args.shard x c.loop.caller (record { said = c.match-next.answer; caller = c.match-next.caller })) (sym w.in-PassOn.is)
          (subst (λ x. IsHop L A P c.args.shard (PassOn w.in-PassOn.ticket) c.loop.caller (record { said = x; caller = c.match-next.caller })) (sym w.answer-is)
          (subst (λ x. IsHop L A P c.args.shard (PassOn w.in-PassOn.ticket) c.loop.caller (record { said = w.pass_on-answer.result; caller = x })) (sym w.caller-is)
          w.pass_on-answer.ensures))
    ] in
    let test = c.loop-test.true in
    let below : c.loop.counter + 1 ≤ 8 = omega arith in (
      below,
      subst (λ x. HasCome L A P c.args.shard c.args.caller.now (c.loop.counter + 1) x c.match-next.caller) (sym c.after_answer-next.ensures)
          (one_made L A P c.args.shard c.args.caller.now c.loop.counter c.loop.next c.loop.caller c.match-next.answer c.match-next.caller c.loop.invariant.1 hop),
    )

pub returns : goal.returns
returns g c =
    let looked = g.D.Desk.looked c.args.desk.now in
    let most = c.loop.invariant.0 in
    let test = c.loop-test.false in
    let eight : c.loop.counter ≡ 8 = omega arith in
    subst (λ x. HasAsked looked (g.D.Desk.arrived c.args.desk.now) (g.D.Desk.passed_on c.args.desk.now) c.args.shard c.args.caller.now x c.loop.caller) (sym c.asked_after.ensures)
    (all_made looked (g.D.Desk.arrived c.args.desk.now) (g.D.Desk.passed_on c.args.desk.now) c.args.shard c.args.caller.now
    c.loop.counter c.loop.next c.loop.caller (asked_after c.loop.next) c.loop.caller c.loop.invariant.1 c.loop.invariant.0 (λ e. eight) (λ e. after_listed c.loop.next c.loop.invariant.1.proper e c.loop.counter)
    (at_end looked (g.D.Desk.arrived c.args.desk.now) (g.D.Desk.passed_on c.args.desk.now) c.args.shard c.args.caller.now c.loop.next c.loop.caller))
