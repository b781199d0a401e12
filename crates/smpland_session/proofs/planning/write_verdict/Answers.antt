use Rattle.std.proofs.Common.{◌≡◌, ◌∙◌, ◌++◌, OnOk, ap, subst}
use Rattle.sm_placement.specs.Setup.{Setup}
use Rattle.sm_protocol.specs.Steps.{Answered}
use Rattle.sm_machine.specs.Started.{begin_answer}
use Rattle.sm_machine.specs.State.{state_of}
use Rattle.sm_refusals.specs.Plans.{begin_refusal}
use Rattle.smpland_lines.specs.Refusals.{refused_member, shared_refusal}
use Rattle.smpland_session.proofs.Verdicts.{would_begin, would_not}
use Rattle.smpland_session.proofs.planning.write_verdict.Goals as goal

pub returns-in-Some : goal.returns-in-Some
returns-in-Some c =
    let m = c.args.machine.now in
    would_not c.refuse_begin.result m c.args.checked.now.plan c.in-Some.fault _ _
    (c.begin_fault.ensures ∙ ap (λ f. Answered (begin_answer (state_of m) f)) c.in-Some.is)
    (subst (λ (s : Setup). OnOk c.refuse_begin.result (c.refuse_begin.new.writer.tokens
    ≡ c.args.writer.now.tokens ++ refused_member (shared_refusal (begin_refusal s c.in-Some.fault)))) c.config.ensures.setup c.refuse_begin.ensures.told)

pub returns-in-None : goal.returns-in-None
returns-in-None c =
    let m = c.args.machine.now in
    would_begin c.write_accepted.result m c.args.checked.now.plan c.plan.result.now _ _
    (c.begin_fault.ensures ∙ ap (λ f. Answered (begin_answer (state_of m) f)) c.in-None.is) c.plan.ensures.value c.write_accepted.ensures
