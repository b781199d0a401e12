-- One number after the other, if its server has not answered.
use Rattle.std.proofs.Common.{◌++◌, ◌∙◌, ◌∷◌, [], ap}
use Rattle.std.specs.List.{filter}
use Rattle.smpland_reopening.specs.Proposed.{is_silent}
use Rattle.smpland_reopening.proofs.Marking.{kept_more}
use Rattle.smpland_reopening.proofs.reopening.DocumentReopening.silent_servers.Goals as goal

pub loop-number-preserved : goal.loop-number-preserved
loop-number-preserved c =
    let p = is_silent c.args.self.now in
    (rw c.new.ensures at c.in_ok-push_silent.ensures)
    ∙ ap (λ xs. xs ++ filter p (c.loop-number.number ∷ [])) c.loop-number.invariant
    ∙ kept_more p c.loop-number.number
