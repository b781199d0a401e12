-- An answer that is due is entered.
use Rattle.std.proofs.Common.{inr, ◌≡◌, ◌∙◌, true, sym, ap}
use Rattle.std.specs.Prelude.{is_some}
use Rattle.laws_network.specs.Reopening.{Reopening}
use Rattle.sm_reopening.specs.Ongoing.{net_reopening}
use Rattle.sm_reopening.specs.Settles.{is_due_settle, net_party}
use Rattle.sm_reopening.proofs.Taking.{due_is_entered, due_parts}
use Rattle.sm_reopening.proofs.ongoing.OngoingReopening.settled.Goals as goal

pub mark-requires : goal.mark-requires
mark-requires c =
    let e : is_due_settle (net_reopening c.args.self.now) (net_party c.args.party) c.args.base ≡ true = cc in
    record { known = (due_parts (net_reopening c.args.self.now) (net_party c.args.party) c.args.base e).1 }

pub settled_effect-requires : goal.settled_effect-requires
settled_effect-requires c =
    let e : is_due_settle (net_reopening c.args.self.now) (net_party c.args.party) c.args.base ≡ true = cc in
    ap (λ (r : Reopening). is_some r.settlement) c.mark.ensures.reopening ∙ (due_parts (net_reopening c.args.self.now) (net_party c.args.party) c.args.base e).0

pub returns-clause-reopening : goal.returns-clause-reopening
returns-clause-reopening c =
    let e : is_due_settle (net_reopening c.args.self.now) (net_party c.args.party) c.args.base ≡ true = cc in
    inr (c.mark.ensures.reopening ∙ sym (due_is_entered (net_reopening c.args.self.now) (net_party c.args.party) c.args.base e))
