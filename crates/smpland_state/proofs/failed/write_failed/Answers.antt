use Rattle.std.proofs.Common.{◌≡◌, ◌∙◌, ◌++◌, ℕ, Option, OnOk, ap, subst, sym}
use Rattle.sm_driver.specs.Driver.{answer_effect}
use Rattle.sm_driver.specs.declared.driver.AnswerEffect.{AnswerEffect}
use Rattle.smpland_state.specs.Failed.{failed_reply, nonce_for}
use Rattle.smpland_state.proofs.failed.write_failed.Goals as goal

-- The order is the one that the stream stands before.
pub returns-in-Moved : goal.returns-in-Moved
returns-in-Moved c =
    let d = c.args.opened.now.driver in
    let o = c.args.writer.now.tokens in
    let ts = c.write_failure.new.writer.tokens in
    let nonce = c.nonce_for-nonce.ensures ∙ ap (nonce_for d) c.message.ensures.message in
    subst (λ (k : Option ℕ). OnOk c.write_failure.result (ts ≡ o ++ failed_reply (answer_effect d c.args.failed.stream c.args.failed.number) c.args.failed.answer k)) nonce
    (subst (λ (x : AnswerEffect). OnOk c.write_failure.result (ts ≡ o ++ failed_reply x c.args.failed.answer c.nonce_for-nonce.result)) (sym c.in-Moved.is ∙ c.due.ensures)
    c.write_failure.ensures)
