-- A reopening stays one when a party has taken its settle.
use Rattle.std.proofs.Common.{◌≡◌, ◌∙◌, ap, inl, inr}
use Rattle.laws_network.specs.Reopening.{Took, entered}
use Rattle.sm_reopening.specs.Ongoing.{net_reopening}
use Rattle.sm_reopening.specs.Settles.{net_party}
use Rattle.sm_reopening.specs.declared.settling.SettledEffect.TheVariants.{Old}
use Rattle.smpland_reopening.proofs.Frames.{still_took}
use Rattle.smpland_reopening.proofs.reopening.DocumentReopening.settled.Goals as goal

pub invariant_of-self : goal.invariant_of-self
invariant_of-self c =
    still_took (c.settled.result ≡ Old) _ c.settled.new.self (net_party c.args.party) c.args.base c.self.invariant c.settled.ensures.unchanged c.settled.ensures.reopening c.settled.ensures.same

pub returns-clause-reopening : goal.returns-clause-reopening
returns-clause-reopening c = elim c.settled.ensures.reopening [
  | inl old ↦ inl old
  | inr took ↦ inr (took ∙ ap (λ r. entered (Took (net_party c.args.party) c.args.base) (net_reopening r.ongoing)) c.self.view_is)
]
