use Rattle.std.proofs.Common.{◌∙◌, ℕ, Some, ap, sym}
use Rattle.smpland_session.proofs.reopen_line.begun_by.Goals as goal

-- Over nothing, the reopening is of the journal and the epoch that the line names.
pub returns-in-Ok-clause-named : goal.returns-in-Ok-clause-named
returns-in-Ok-clause-named c = λ none nothing.
    let next = c.in_ok-next.ensures.named (c.last_epoch-last.ensures.nothing none nothing) in
    let is = c.in-Ok.ensures.named none nothing in
    (next.0 ∙ ap (λ (n : ℕ). Some n) (sym is.0), next.1 ∙ ap (λ (n : ℕ). Some n) (sym is.1))
