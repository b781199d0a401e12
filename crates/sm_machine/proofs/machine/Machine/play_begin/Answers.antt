-- A plan of the hand starts, or it does not.
use Rattle.std.proofs.Common.{◌≡◌, ◌<◌, ◌∙◌, Some, None, length, refl, ap, arith}
use Rattle.std.specs.Prelude.{slice_index_or, slice_set}
use Rattle.std.proofs.lemmas.List.{get_or_default}
use Rattle.sm_verifier.specs.Checked.{CheckedModel}
use Rattle.sm_machine.proofs.FirstPlaces.{set_back}
use Rattle.sm_machine.proofs.HandStarts.{has_started, not_started}
use Rattle.sm_machine.proofs.machine.Machine.play_begin.Goals as goal

pub start-requires : goal.start-requires
start-requires c =
    let within : c.args.place < length c.args.hand.now.plans.items = omega arith in
    let default = get_or_default c.args.hand.now.plans.items c.args.place None c.index_mut.result.now within in
    let there : slice_index_or c.args.hand.now.plans.items c.args.place None ≡ Some c.in-Some.ready = cc in
    c.requires.plans c.args.place c.in-Some.ready there

pub returns-in-Ok : goal.returns-in-Ok
returns-in-Ok c =
    let within : c.args.place < length c.args.hand.now.plans.items = omega arith in
    let default = get_or_default c.args.hand.now.plans.items c.args.place None c.index_mut.result.now within in
    let there : slice_index_or c.args.hand.now.plans.items c.args.place None ≡ Some c.in-Some.ready = cc in
    has_started c.args.self.now c.start.new.self c.args.hand.now _ c.args.place c.in-Some.ready there c.plan_count-number.result c.in-Ok.tokens.items c.plan_count-number.ensures
    c.in-Ok.ensures.answer c.in-Ok.ensures.state c.start.ensures.setup c.in-Ok.ensures.tokens within (ap (slice_set c.args.hand.now.plans.items c.args.place) c.take.ensures.after)
    c.add_tokens.ensures.items c.add_tokens.ensures.capacity refl refl

pub returns-in-Err : goal.returns-in-Err
returns-in-Err c =
    let within : c.args.place < length c.args.hand.now.plans.items = omega arith in
    let default = get_or_default c.args.hand.now.plans.items c.args.place None c.index_mut.result.now within in
    let there : slice_index_or c.args.hand.now.plans.items c.args.place None ≡ Some c.in-Some.ready = cc in
    not_started c.args.self.now c.start.new.self c.args.hand.now _ c.args.place c.in-Some.ready there c.in-Err.why c.in-Err.ensures.fault c.in-Err.ensures.unchanged
    (record {
      tokens = refl;
      permits = refl;
      tickets = refl;
      plans =
          c.put_plan.ensures.items ∙ ap (λ (r : CheckedModel). slice_set (slice_set c.args.hand.now.plans.items c.args.place c.take.new.self) c.args.place (Some r)) c.in-Err.ensures.back
          ∙ ap (λ o. slice_set (slice_set c.args.hand.now.plans.items c.args.place o) c.args.place (Some c.in-Some.ready)) c.take.ensures.after ∙ set_back c.args.hand.now.plans.items c.args.place c.in-Some.ready there;
    })
