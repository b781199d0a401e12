-- Begins under a name under which a plan has begun before, and their replies.
use Rattle.std.proofs.Common.{◌≡◌, ◌∙◌, ◌++◌, Bool, List, ℕ, Option, Some, None, Ok, Err, Result, ap, string_bytes, sym}
use Rattle.std.specs.Prelude.{IfSome, IsSome, is_some}
use Rattle.std.specs.Option.{IsSomeAnd}
use Rattle.json.specs.Token.{Token}
use Rattle.serde_json.specs.Data.{Data}
use Rattle.sm_placement.specs.Setup.{Setup}
use Rattle.sm_plan_code.specs.Plan.{PlanModel}
use Rattle.sm_plan_text.specs.declared.fault.TextFault.{TextFault}
use Rattle.sm_driver.specs.Driver.{DriverModel}
use Rattle.smpland_lines.specs.BadLines.{told_bad}
use Rattle.smpland_lines.specs.Refusals.{refused_member}
use Rattle.smpland_lines.specs.declared.bad_line.BadLine.TheVariants as bad
use Rattle.smpland_lines.specs.declared.command_member.CommandMember.TheVariants.{Plan as PlanMember}
use Rattle.smpland_state.specs.declared.begun_plan.BegunPlan.{BegunPlan}
use Rattle.smpland_state.specs.Begun.{begun_again_members}
use Rattle.smpland_session.specs.Asked.{SaysPlan}
use Rattle.smpland_session.specs.Begins.{IsNotSaid, SaysOther, TellsUnder, kept_plan, other_plan}
use Rattle.smpland_session.specs.Checks.{SaysNoPlan}
use Rattle.smpland_session.specs.Outcomes.{IsNotBegunUnder, TellsDecline}
use Rattle.smpland_session.specs.declared.decline.Decline.{Decline}
use Rattle.smpland_session.specs.declared.decline.Decline.TheVariants as decline

-- what is impossible of what there is, there is not
none_for : {A : Type 0} (found : Option A) → IsSomeAnd found (λ _. ⊥) → ⊥
none_for None is = is
none_for (Some _) is = is

module _ (setup : Setup) (value : Data) where
  -- a value that says a plan says no other one
  says_once : (found : Option PlanModel) → IfSome found (SaysPlan setup value) → IsSomeAnd found (SaysOther setup value) → ⊥
  says_once None says other = other
  says_once (Some kept) says other =
      other.2 (let same = sym other.1 ∙ says in cc)

  -- nor has it a fault
  says_one : (found : Option PlanModel) (fault : TextFault) → IfSome found (SaysPlan setup value) → IsSome found → SaysNoPlan setup value fault → ⊥
  says_one None fault says some isnt = absurd (let z = some in cc)
  says_one (Some kept) fault says some isnt = absurd (let z = sym says ∙ isnt in cc)

  -- one with a fault says no plan
  says_none : (found : Option PlanModel) (fault : TextFault) → IfSome found (SaysPlan setup value) → IsSomeAnd found (λ _. SaysNoPlan setup value fault) → ⊥
  says_none None fault says isnt = isnt
  says_none (Some kept) fault says isnt = absurd (let z = sym says ∙ isnt in cc)

  -- so it says no other plan
  says_no_other : (found : Option PlanModel) (fault : TextFault) → IsSomeAnd found (SaysOther setup value) → IsSomeAnd found (λ _. SaysNoPlan setup value fault) → ⊥
  says_no_other None fault other isnt = isnt
  says_no_other (Some kept) fault other isnt = absurd (let z = sym other.1 ∙ isnt in cc)

  -- it has one fault
  one_fault : (found : Option PlanModel) (fault other : TextFault) → IsSomeAnd found (λ _. SaysNoPlan setup value fault) → SaysNoPlan setup value other → fault ≡ other
  one_fault None fault other is isnt = absurd is
  one_fault (Some kept) fault other is isnt = let z = sym is ∙ isnt in cc

  -- and one that says another plan has none
  other_has_none : (found : Option PlanModel) (fault : TextFault) → IsSomeAnd found (SaysOther setup value) → SaysNoPlan setup value fault → ⊥
  other_has_none None fault other isnt = other
  other_has_none (Some kept) fault other isnt = absurd (let z = sym other.1 ∙ isnt in cc)

-- the parts of what holds of what there is
named_so : {A : Type 0} (X : Type 0) (P : A → Type 0) (found : Option A) → IsSomeAnd found (λ a. X × P a) → X × IsSomeAnd found P
named_so X P None is = absurd is
named_so X P (Some a) is = is

module _ (d : DriverModel) (goes_on : Bool) (value : Data) (name : List ℕ) where
  -- the plan that has begun is said, and told again
  pub told_same : (begun : BegunPlan) (before after : List Token) → IfSome (kept_plan d begun) (SaysPlan d.machine.placement.setup value) →
      after ≡ before ++ begun_again_members d begun goes_on → TellsUnder d goes_on value name begun before after
  told_same begun before after says told =
      let setup = d.machine.placement.setup in
      let found = kept_plan d begun in record {
        same = λ _. told;
        other = λ other. absurd (says_once setup value found says other);
        no_plan = λ fault some isnt. absurd (says_one setup value found fault says some isnt);
      }

  -- it is not said, and that is told
  not_said : (setup : Setup) (begun : BegunPlan) (why : Decline) (before after : List Token) →
      IsSomeAnd (kept_plan d begun) (λ kept. IsNotSaid d.machine.placement.setup value name kept why) → TellsDecline setup why before after →
      TellsUnder d goes_on value name begun before after
  not_said _ begun (decline.NoPlan fault) before after is told =
      let setup = d.machine.placement.setup in
      let found = kept_plan d begun in record {
        same = λ says. absurd (says_none setup value found fault says is);
        other = λ other. absurd (says_no_other setup value found fault other is);
        no_plan = λ next some isnt. told ∙ ap (λ f. before ++ told_bad (bad.Within PlanMember f)) (one_fault setup value found fault next is isnt);
      }
  not_said _ begun (decline.OtherPlan other) before after is told =
      let setup = d.machine.placement.setup in
      let found = kept_plan d begun in
      let parts = named_so (string_bytes other ≡ name) (SaysOther setup value) found is in record {
        same = λ says. absurd (says_once setup value found says parts.1);
        other = λ _. told ∙ ap (λ n. before ++ refused_member (other_plan n)) parts.0;
        no_plan = λ fault some isnt. absurd (other_has_none setup value found fault parts.1 isnt);
      }
  not_said setup begun _ before after is told = absurd (none_for (kept_plan d begun) is)

  -- so it is with the plan that has begun under the name, if one has
  pub told_not_said : (is_reopening : Bool) (setup : Setup) (why : Decline) (before after : List Token) (found : Option BegunPlan) →
      IsNotBegunUnder found name value is_reopening d why → TellsDecline setup why before after →
      IfSome found (λ begun. TellsUnder d goes_on value name begun before after)
  told_not_said is_reopening setup why before after None is told = tt
  told_not_said is_reopening setup why before after (Some begun) is told = not_said setup begun why before after is told
