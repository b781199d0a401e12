-- All have taken it if no party has not.
use Rattle.std.proofs.Common.{◌≡◌, ◌∙◌, ℕ, Bool, true, false, Option, Some, None, refl, sym, ap}
use Rattle.std.specs.Prelude.{is_none, is_some, not, option_map}
use Rattle.std.proofs.lemmas.Bool.{not-false}
use Rattle.laws_network.specs.Reopening.{MapOwner}
use Rattle.sm_reopening.specs.States.{settlement_by}
use Rattle.sm_reopening.specs.Ongoing.{net_reopening}
use Rattle.sm_reopening.specs.Settles.{first_unsettled, is_unsettled}
use Rattle.sm_reopening.proofs.Taking.{all_took, none_unsettled, took_settled}
use Rattle.sm_reopening.proofs.ongoing.OngoingReopening.is_settled.Goals as goal

mapped : {A B : Type 0} (f : A → B) (o : Option A) → is_some (option_map f o) ≡ is_some o
mapped f None = refl
mapped f (Some x) = refl

none_found : (o : Option ℕ) → is_some o ≡ false → o ≡ None
none_found None e = refl
none_found (Some x) e = absurd (cc)

pub returns-then-is_none : goal.returns-then-is_none
returns-then-is_none c = (
  (λ e. absurd (cc)),
  (λ all. absurd (let m = mapped settlement_by c.args.self.now.confirmed in let n = c.is_none.ensures ∙ ap not c.if-is_none.true in let z = sym all.0 ∙ m ∙ n in cc)),
)

pub returns-then-is_unsettled : goal.returns-then-is_unsettled
returns-then-is_unsettled c = (
  (λ e. absurd (cc)),
  (λ all. absurd (let z = took_settled (net_reopening c.args.self.now) MapOwner all.1 in let y = sym z ∙ sym c.is_unsettled.ensures ∙ c.if-is_unsettled.true in cc)),
)

pub returns : goal.returns
returns c = (
  (λ e. (
    mapped settlement_by c.args.self.now.confirmed ∙ c.is_none.ensures ∙ ap not c.if-is_none.false,
    all_took c.args.self.now (sym c.is_unsettled.ensures ∙ c.if-is_unsettled.false) (sym c.first_unsettled.ensures ∙ none_found c.first_unsettled.result (c.is_none-2.ensures ∙ ap not e)),
  )),
  (λ all. not-false c.is_none-2.result (sym c.is_none-2.ensures ∙ ap is_some (c.first_unsettled.ensures ∙ none_unsettled c.args.self.now all.1))),
)
