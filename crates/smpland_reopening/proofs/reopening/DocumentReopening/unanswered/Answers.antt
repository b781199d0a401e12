use Rattle.std.proofs.Common.{◌++◌, ◌∙◌, ◌∷◌, [], ap}
use Rattle.std.specs.List.{filter}
use Rattle.sm_reopening.specs.Ongoing.{net_reopening}
use Rattle.sm_reopening.specs.Settles.{net_party}
use Rattle.smpland_reopening.specs.Waiting.{is_unanswered}
use Rattle.sm_reopening.specs.declared.party.Party.{Party}
use Rattle.sm_reopening.specs.declared.party.Party.TheVariants.{Server}
use Rattle.smpland_reopening.proofs.Awaited.{awaited_more}
use Rattle.smpland_reopening.proofs.reopening.DocumentReopening.unanswered.Goals as goal

-- The servers so far, and the next.
pub loop-number-preserved : goal.loop-number-preserved
loop-number-preserved c =
    let p = λ (p : Party). is_unanswered (net_reopening c.args.self.now.ongoing) (net_party p) in
    (rw c.new.ensures at c.in_ok-push_unanswered-2.ensures)
    ∙ ap (λ xs. xs ++ filter p (Server c.loop-number.number ∷ [])) c.loop-number.invariant
    ∙ awaited_more p c.loop-number.number
