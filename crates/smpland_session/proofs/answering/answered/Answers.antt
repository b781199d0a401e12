use Rattle.std.proofs.Common.{◌≡◌, ◌∙◌, ap, sym}
use Rattle.sm_driver.specs.Driver.{DriverModel, record_of}
use Rattle.sm_driver.specs.declared.driver.AnswerEffect.TheVariants as effect
use Rattle.smpland_state.specs.Replies.{sinces_of}
use Rattle.smpland_session.proofs.Outcomes.{broken_off, has_moved, has_not_moved, is_old, is_unknown}
use Rattle.smpland_session.proofs.answering.answered.Goals as goal

pub returns-then-at : goal.returns-then-at
returns-then-at c = broken_off c.args.id c.args.number c.args.at.is_reopening c.args.opened.now c.if-at.true

-- The streams have stood so since the driver was as it came.
pub returns-in-Moved : goal.returns-in-Moved
returns-in-Moved c =
    let id = c.args.id in
    let stood = c.as_slice.ensures.value ∙ c.in_ok-sinces.ensures ∙ ap (λ (d : DriverModel). sinces_of (record_of d) id.plan) c.messages.ensures in
    has_moved id c.args.number c.args.at.is_reopening c.args.opened.now c.moved.result c.answered.new.self c.moved.new.opened _
    c.if-at.false (sym c.answered.ensures.effect ∙ c.in-Moved.is) (c.answered.ensures.moved c.in-Moved.is) c.moved.ensures.driver stood c.moved.ensures.outcome

pub returns-in-Old : goal.returns-in-Old
returns-in-Old c =
    is_old c.args.id c.args.number c.args.at.is_reopening c.args.opened.now _ c.if-at.false (sym c.answered.ensures.effect ∙ c.in-Old.is)
    (has_not_moved c.args.opened.now c.answered.new.self _ effect.Old c.in-Old.is (λ (e : effect.Old ≡ effect.Moved). absurd (let z = e in cc)) c.answered.ensures.unchanged)

pub returns : goal.returns
returns c =
    is_unknown c.args.id c.args.number c.args.at.is_reopening c.args.opened.now _ c.if-at.false (sym c.answered.ensures.effect ∙ c.in-Unknown.is)
    (has_not_moved c.args.opened.now c.answered.new.self _ effect.Unknown c.in-Unknown.is (λ (e : effect.Unknown ≡ effect.Moved). absurd (let z = e in cc)) c.answered.ensures.unchanged)
