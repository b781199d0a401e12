-- An outcome of a command, and the reply that tells it, say what was asked, what has changed and what is told: of one and the same thing.
use Rattle.std.proofs.Common.{◌≡◌, ◌<◌, ◌∙◌, ◌++◌, ◌∷◌, ◌⊎◌, [], Bool, true, false, ℕ, List, Option, Some, None, Result, Ok, Err, IfOk, ap, inl, inr, not, refl, string_bytes, subst, sym}
use Rattle.std.specs.Prelude.{IfSome, bytes_eq, codes, if◌then◌else◌, is_some}
use Rattle.std.proofs.lemmas.Bool.{and_parts}
use Rattle.std.proofs.lemmas.Slice.Eq.{bytes_eq-Decides}
use Rattle.json.specs.Token.{Token, key}
use Rattle.serde_json.specs.Data.{Data}
use Rattle.json_tree.specs.View.{view}
use Rattle.sm_placement.specs.Setup.{Setup, server_named, shard_named, sizes_of}
use Rattle.sm_machine.specs.Machine.{MachineModel}
use Rattle.sm_machine.specs.State.{whole_of}
use Rattle.sm_reservation.specs.declared.stream_id.StreamId.{StreamId}
use Rattle.sm_plan_code.specs.Plan.{PlanModel}
use Rattle.sm_verifier.specs.Plan.{IsCheckedPlan}
use Rattle.smpland_state.specs.Names.{value_of}
use Rattle.sm_driver.specs.Driver.{DriverModel, HasBegunPlan, HasTakenStep, answer_effect, is_due, is_past, record_of}
use Rattle.sm_driver.specs.Restores.{RestoreModel, restore_at}
use Rattle.sm_driver.specs.declared.copies.CopiesEffect.{CopiesEffect}
use Rattle.sm_driver.specs.declared.copies.CopiesEffect.TheVariants as copied
use Rattle.sm_driver.specs.declared.copies.ToldCopies.{ToldCopies}
use Rattle.sm_driver.specs.declared.driver.AnswerEffect.{AnswerEffect}
use Rattle.sm_driver.specs.declared.driver.AnswerEffect.TheVariants as effect
use Rattle.sm_driver.proofs.Effects.{moved_is_due}
use Rattle.smpland_lines.specs.Members.{server_text, text_member}
use Rattle.sm_refusals.specs.Plans.{check_refusal}
use Rattle.smpland_lines.specs.Refusals.{TellsRefused, shared_refusal}
use Rattle.smpland_lines.specs.declared.bad_line.BadLine.TheVariants as bad
use Rattle.smpland_lines.specs.declared.command_member.CommandMember.TheVariants.{Plan as PlanMember}
use Rattle.smpland_lines.specs.declared.command.DriverCommand.{DriverCommand}
use Rattle.smpland_lines.specs.declared.command.DriverCommand.TheVariants as driver
use Rattle.smpland_state.specs.declared.begun_plan.BegunPlan.{BegunPlan}
use Rattle.smpland_state.specs.declared.given_permits.GivenPermit.{GivenPermit}
use Rattle.smpland_state.specs.declared.journal_state.JournalState.{JournalState}
use Rattle.smpland_state.specs.Begun.{begun_again_members, begun_members, begun_plan}
use Rattle.smpland_state.specs.Copied.{copied_member}
use Rattle.smpland_state.specs.Given.{given_at}
use Rattle.smpland_state.specs.Permits.{approved_member, given_member, opened_member}
use Rattle.smpland_state.specs.Replies.{gone_on, moved_members, sinces_of}
use Rattle.smpland_state.specs.Restores.{TellsAgain, TellsKept, is_told, restore_object, told_again}
use Rattle.smpland_state.specs.Known.{unknown_called}
use Rattle.smpland_session.specs.declared.decline.Decline.{Decline}
use Rattle.smpland_session.specs.declared.decline.Decline.TheVariants as decline
use Rattle.smpland_session.specs.declared.decline.Ignored.TheVariants as ignored
use Rattle.smpland_session.specs.declared.driver_outcome.DriverOutcome.{DriverOutcome}
use Rattle.smpland_session.specs.declared.driver_outcome.DriverOutcome.TheVariants as outcome
use Rattle.smpland_session.specs.ToldAgain.{AnswersAgain, TellsGiven, TellsNotNoted}
use Rattle.smpland_session.specs.Asked.{DoesToDriver, SaysPlan}
use Rattle.smpland_session.specs.Begins.{other_plan}
use Rattle.smpland_session.specs.Checks.{IsUnready, unknown_refusal}
use Rattle.smpland_session.specs.Changes.{Approves, Begins, Changes, Ends, Notes, OpensEpoch, Restores, Takes}
use Rattle.smpland_session.specs.Declines.{Bad, Declines, DriverDeclines, Ignored, Refused}
use Rattle.smpland_session.specs.Outcomes.{AnsweredOutcome, BeginOutcome, HasMovedWith, HasOutcome, IsNotBegun, IsNotBegunUnder, IsNotNoted, IsKeptFromStarting, KnowsServers, StartOutcome, TellsDecline, TellsOutcome, above_want, copies_effect_now, has_changed, ignored_word}
use Rattle.smpland_session.specs.Replies.{TellsChange}
use Rattle.smpland_session.proofs.Begins.{told_not_said, told_same}

-- ---- the outcomes of answers

by_old : (due past : Bool) → (if due then effect.Moved else if past then effect.Old else effect.Unknown) ≡ effect.Old → (due ≡ false) × (past ≡ true)
by_old true past e = absurd (let z = e in cc)
by_old false true e = (refl, refl)
by_old false false e = absurd (let z = e in cc)

by_unknown : (due past : Bool) → (if due then effect.Moved else if past then effect.Old else effect.Unknown) ≡ effect.Unknown → (due ≡ false) × (past ≡ false)
by_unknown true past e = absurd (let z = e in cc)
by_unknown false true e = absurd (let z = e in cc)
by_unknown false false e = (refl, refl)

not_true : (b : Bool) → not b ≡ true → b ≡ false
not_true true is = absurd (let z = is in cc)
not_true false is = refl

-- a journal whose driver is as it was is as it was
pub stays : (o : JournalState) (d : DriverModel) → d ≡ o.driver → record o { driver = d } ≡ o
stays o d e = ap (λ (x : DriverModel). record o { driver = x }) e

-- so is one whose stream has not moved
pub has_not_moved : (o : JournalState) (d : DriverModel) (e f : AnswerEffect) → e ≡ f → (f ≡ effect.Moved → ⊥) → (e ≡ effect.Moved) ⊎ (d ≡ o.driver) → record o { driver = d } ≡ o
has_not_moved o d e f is other (inl moved) = absurd (other (sym is ∙ moved))
has_not_moved o d e f is other (inr same) = stays o d same

module _ (id : StreamId) (number : ℕ) (is_reopening : Bool) (old : JournalState) where
  -- a reopening is under way
  pub broken_off : is_reopening ≡ true → AnsweredOutcome id number is_reopening old (outcome.Declined (decline.Ignored ignored.Old)) old
  broken_off is = (rw is refl, rw is refl, refl)

  -- the stream has gone on
  pub is_old : (new : JournalState) → is_reopening ≡ false → answer_effect old.driver id number ≡ effect.Old
      → new ≡ old →
      AnsweredOutcome id number is_reopening old (outcome.Declined (decline.Ignored ignored.Old)) new
  is_old new free e same =
      let is = by_old (is_due old.driver id number) (is_past old.driver id number) e in (rw (free, is.0) refl, rw (free, is.1) refl, same)

  -- nobody waits for it
  pub is_unknown : (new : JournalState) → is_reopening ≡ false → answer_effect old.driver id number ≡ effect.Unknown → new ≡ old →
      AnsweredOutcome id number is_reopening old (outcome.Declined (decline.Ignored ignored.Unknown)) new
  is_unknown new free e same =
      let is = by_unknown (is_due old.driver id number) (is_past old.driver id number) e in (rw (free, is.0) refl, rw (free, is.1) refl, same)

  -- the stream has made its step
  pub has_moved : {E : Type 0} (r : Result DriverOutcome E) (mid : DriverModel) (new : JournalState) (sinces : List ℕ) → is_reopening ≡ false →
      answer_effect old.driver id number ≡ effect.Moved → HasTakenStep id old.driver mid → new.driver ≡ mid →
      sinces ≡ sinces_of (record_of old.driver) id.plan → IfOk r (HasMovedWith id (gone_on (record_of mid) id.plan sinces)) →
      IfOk r (λ o. AnsweredOutcome id number is_reopening old o new)
  has_moved (Ok (outcome.Moved stream gone)) mid new sinces free e taken same stood h = (
    rw (free, moved_is_due old.driver id number e) refl,
    subst (HasTakenStep id old.driver) (sym same) taken,
    h.0,
    h.1 ∙ ap (λ ks. gone_on (record_of mid) id.plan ks) stood
        ∙ ap (λ (d : DriverModel). gone_on (record_of d) id.plan (sinces_of (record_of old.driver) id.plan)) (sym same),
  )
  has_moved (Ok _) mid new sinces free e taken same stood h = absurd h
  has_moved (Err x) mid new sinces free e taken same stood h = tt

-- ---- what they say

-- what a command that changed something did, and what is told of it
abbrev pub Did : (DriverModel → DriverModel → Type 0) → (DriverModel → DriverModel → List Token → List Token → Type 0) → Bool → JournalState → DriverOutcome → JournalState → Type 0
Did Asked Tells is_reopening old o new =
    (is_reopening ≡ false) × Asked old.driver new.driver × Changes old.driver new.driver
    × ((before after : List Token) → TellsOutcome new o before after → Tells old.driver new.driver before after)

-- a reply that tells why nothing has come of a command declines it
declines_by : (setup : Setup) (why : Decline) (before after : List Token) → TellsDecline setup why before after → Declines before after
declines_by setup (decline.Ignored why) before after told = Ignored (ignored_word why, told)
declines_by setup (decline.NoPlan fault) before after told = Bad (bad.Within PlanMember fault, told)
declines_by setup (decline.Unchecked fault) before after told = Refused (shared_refusal (check_refusal fault), told)
declines_by setup (decline.Unknown server) before after told = Refused (unknown_refusal setup server, told)
declines_by setup (decline.OtherPlan name) before after told = Refused (other_plan (string_bytes name), told)
declines_by setup (decline.OtherServer at) before after told = Refused told
declines_by setup (decline.AboveWant shard) before after told = Refused (above_want setup shard, told)
declines_by setup _ before after told = told

-- one is told what it was told before
given_again : (d : DriverModel) (server : List ℕ) (found : Option GivenPermit) (before after : List Token) →
    IfSome found (λ given. bytes_eq (string_bytes given.server) server ≡ true) →
    IfSome found (λ given. after ≡ before ++ given_member d (string_bytes given.server) given.permit) → IfSome found (λ given. TellsGiven d server given before after)
given_again d server None before after is told = tt
given_again d server (Some given) before after is told = record {
  same = λ (yes : bytes_eq (string_bytes given.server) server ≡ true).
      told ∙ ap (λ name. before ++ given_member d name given.permit) ((bytes_eq-Decides (string_bytes given.server) server).0 is);
  other = λ (no : bytes_eq (string_bytes given.server) server ≡ false). absurd (let z : true ≡ false = sym is ∙ no in cc);
}

-- another server has the permit
given_to_other : (d : DriverModel) (server : List ℕ) (found : Option GivenPermit) (before after : List Token) →
    IfSome found (λ given. bytes_eq (string_bytes given.server) server ≡ false) → TellsRefused before after →
    IfSome found (λ given. TellsGiven d server given before after)
given_to_other d server None before after is told = tt
given_to_other d server (Some given) before after is told = record {
  same = λ (yes : bytes_eq (string_bytes given.server) server ≡ true). absurd (let z : true ≡ false = sym yes ∙ is in cc);
  other = λ (no : bytes_eq (string_bytes given.server) server ≡ false). told;
}

-- a server that was told nothing is told nothing again
nothing_told : (found : Option (List Token)) (before after : List Token) → is_some found ≡ false →
    IfSome found (λ restore. after ≡ before ++ key (codes "restore") ∷ restore)
nothing_told None before after is = tt
nothing_told (Some restore) before after is = absurd (let z : true ≡ false = is in cc)

-- so it is with the server of a name, if there is one
untold : (o : JournalState) (nonce : ℕ) (found : Option ℕ) (before after : List Token) → IfSome found (λ v. is_told o v nonce ≡ false) →
    IfSome found (λ v. TellsAgain o v nonce before after)
untold o nonce None before after is = tt
untold o nonce (Some v) before after is = nothing_told (told_again o v nonce) before after is

-- copies that were not noted are told as what they are
told_not_noted : (setup : Setup) (came : CopiesEffect) (shard : ℕ) (why : Decline) (before after : List Token) → IsNotNoted came shard why →
    TellsDecline setup why before after → TellsNotNoted came setup shard before after
told_not_noted setup copied.Noted shard why before after is told = absurd is
told_not_noted setup copied.Old shard why before after is told = subst (λ (w : Decline). TellsDecline setup w before after) is told
told_not_noted setup copied.AboveWant shard why before after is told = subst (λ (w : Decline). TellsDecline setup w before after) is told

-- so it is with those of the shard of a name, if there is one
not_copied : (d : DriverModel) (r : Bool) (line : ToldCopies) (why : Decline) (before after : List Token) (found : Option ℕ) →
    IfSome found (λ shard. IsNotNoted (copies_effect_now r d shard line) shard why) → TellsDecline d.machine.placement.setup why before after →
    IfSome found (λ shard. TellsNotNoted (copies_effect_now r d shard line) d.machine.placement.setup shard before after)
not_copied d r line why before after None is told = tt
not_copied d r line why before after (Some shard) is told =
    told_not_noted d.machine.placement.setup (copies_effect_now r d shard line) shard why before after is told

-- a command that changed something
pub did : (command : DriverCommand) (r : Bool) (old new : JournalState) (o : DriverOutcome) → HasOutcome command r old o new → has_changed o ≡ true →
    Did (DoesToDriver command) (TellsChange command) r old o new
did command r old new (outcome.BegunBefore begun goes_on) h is = absurd (let z = is in cc)
did command r old new (outcome.ApprovedBefore at) h is = absurd (let z = is in cc)
did command r old new (outcome.RestoredBefore server nonce) h is = absurd (let z = is in cc)
did command r old new (outcome.Declined why) h is = absurd (let z = is in cc)
did (driver.Begin plan name) r old new (outcome.Begun begun) h is = let it = h.2 in (
  h.0,
  (it.0, begun.number, it.1, it.2, it.3, it.4),
  Begins (it.0, begun.number, it.2, it.4),
  λ before after told. (it.0, it.1, (begun.number, it.4, told ∙ ap (λ k. before ++ begun_members new.driver k) it.5)),
)
did (driver.Answered plan stream number) r old new (outcome.Moved id gone) h is =
    let asked : StreamId = record { plan = plan; stream = stream } in
    let due = and_parts (not r) (is_due old.driver asked number) h.0 in (
      not_true r due.0,
      (due.1, h.1),
      Takes (asked, number, due.1, h.1),
      λ before after told. ((due.1, h.1), told ∙ ap (λ s. before ++ moved_members new.driver s gone.items) h.2 ∙ ap (λ ids. before ++ moved_members new.driver asked ids) h.3),
    )
did (driver.Approve name by) r old new (outcome.Approved server permit) h is = (
  h.0,
  (server, permit, h.2, h.3, h.4),
  Approves (server, permit, h.3, h.4),
  λ before after told. (server, h.2, (permit, h.4, told)),
)
did (driver.Restarted permit base) r old new (outcome.Up server) h is =
    (h.0, (server, h.1), Ends permit base (server, h.1), λ before after told. (server, h.1, told))
did (driver.Restore name nonce) r old new (outcome.Restored server under) h is = (
  h.0,
  (server, h.1, h.3),
  Restores (server, nonce, h.3),
  λ before after told. (server, h.1, h.3, told),
)
did driver.NewEpoch r old new outcome.NextEpoch h is = (h.0, h.1, OpensEpoch h.1, λ before after told. (h.1, told))
did (driver.Copied name journal fence copies) r old new (outcome.Copied shard) h is =
    let line : ToldCopies = record { journal = journal; fence = fence; copies = copies } in (
      h.0,
      (shard, h.1, h.2),
      Notes (shard, line, h.2),
      λ before after told. (shard, h.1, h.2.2, told),
    )
did _ r old new _ h is = absurd h

-- one that changed nothing
pub kept : (command : DriverCommand) (r : Bool) (old new : JournalState) (o : DriverOutcome) → HasOutcome command r old o new → has_changed o ≡ false → new ≡ old
kept command r old new (outcome.Begun begun) h is = absurd (let z = is in cc)
kept command r old new (outcome.Moved id gone) h is = absurd (let z = is in cc)
kept command r old new (outcome.Approved server permit) h is = absurd (let z = is in cc)
kept command r old new (outcome.Up server) h is = absurd (let z = is in cc)
kept command r old new (outcome.Restored server nonce) h is = absurd (let z = is in cc)
kept command r old new outcome.NextEpoch h is = absurd (let z = is in cc)
kept command r old new (outcome.Copied shard) h is = absurd (let z = is in cc)
kept (driver.Begin plan name) r old new (outcome.BegunBefore begun goes_on) h is = h.2
kept (driver.Begin plan name) r old new (outcome.Declined why) h is = h.0
kept (driver.Answered plan stream number) r old new (outcome.Declined why) h is = h.2
kept (driver.Approve name by) r old new (outcome.ApprovedBefore at) h is = h.2
kept (driver.Approve name by) r old new (outcome.Declined (decline.OtherServer at)) h is = h.2
kept (driver.Approve name by) r old new (outcome.Declined why) h is = h.1
kept (driver.Restarted permit base) r old new (outcome.Declined why) h is = h
kept (driver.Restore name nonce) r old new (outcome.RestoredBefore server under) h is = h.4
kept (driver.Restore name nonce) r old new (outcome.Declined why) h is = h.1
kept driver.NewEpoch r old new (outcome.Declined why) h is = h
kept (driver.Copied name journal fence copies) r old new (outcome.Declined why) h is = h.0
kept _ r old new _ h is = absurd h

-- a server that is told its cells is known, and a shard whose copies are told
pub names_known : (command : DriverCommand) (r : Bool) (old new : JournalState) (o : DriverOutcome) → HasOutcome command r old o new → KnowsServers new.driver o
names_known (driver.Restore name nonce) r old new (outcome.Restored server under) h = h.5
names_known (driver.Restore name nonce) r old new (outcome.RestoredBefore server under) h = h.3
names_known (driver.Copied name journal fence copies) r old new (outcome.Copied shard) h =
    subst (λ (d : DriverModel). shard < (record_of d).sizes.shards) (sym h.2.2) h.2.0
names_known _ r old new (outcome.Restored server under) h = absurd h
names_known _ r old new (outcome.RestoredBefore server under) h = absurd h
names_known _ r old new (outcome.Copied shard) h = absurd h
names_known _ r old new _ h = tt

module _ (before after : List Token) where
  -- a command that comes again is told what it was told, and an answer that nobody waits for is ignored
  pub again : (command : DriverCommand) (r : Bool) (old new : JournalState) (o : DriverOutcome) → HasOutcome command r old o new →
      TellsOutcome new o before after → AnswersAgain command old r before after
  again (driver.Begin plan name) r old new (outcome.Begun begun) h told = rw h.1 tt
  again (driver.Begin plan name) r old new (outcome.BegunBefore begun goes_on) h told =
      rw h.0 (told_same old.driver (not r) (view plan.now) name.now begun before after h.3
      (told ∙ ap (λ g. before ++ begun_again_members new.driver begun g) h.1
      ∙ ap (λ (o : JournalState). before ++ begun_again_members o.driver begun (not r)) h.2))
  again (driver.Begin plan name) r old new (outcome.Declined why) h told =
      told_not_said old.driver (not r) (view plan.now) name.now r new.driver.machine.placement.setup why before after (value_of old.plans name.now) h.1 told
  again (driver.Answered plan stream number) r old new (outcome.Moved id gone) h told = λ none. absurd (let a = h.0 in let b = none in cc)
  again (driver.Answered plan stream number) r old new (outcome.Declined why) h told =
      λ none. subst (λ (w : Decline). TellsDecline new.driver.machine.placement.setup w before after) h.1 told
  again (driver.Approve name by) r old new (outcome.Approved server permit) h told = rw h.1 tt
  again (driver.Approve name by) r old new (outcome.ApprovedBefore at) h told =
      rw h.0 (given_again old.driver name.now (given_at old.permits at) before after h.1.1
      (subst (λ (o : JournalState). TellsOutcome o (outcome.ApprovedBefore at) before after) h.2 told))
  again (driver.Approve name by) r old new (outcome.Declined (decline.OtherServer at)) h told =
      rw h.0 (given_to_other old.driver name.now (given_at old.permits at) before after h.1.1 told)
  again (driver.Approve name by) r old new (outcome.Declined why) h told = rw h.0 tt
  again (driver.Restarted permit base) r old new o h told = tt
  again (driver.Restore name nonce) r old new (outcome.Restored server under) h told =
      rw h.1 (nothing_told (told_again old server nonce) before after h.2)
  again (driver.Restore name nonce) r old new (outcome.RestoredBefore server under) h told =
      rw h.0 (subst (λ (o : JournalState). TellsAgain o server nonce before after) h.4 (subst (λ (n : ℕ). TellsAgain new server n before after) h.2 told))
  again (driver.Restore name nonce) r old new (outcome.Declined why) h told =
      untold old nonce (server_named old.driver.machine.placement.setup name.now) before after h.0
  again driver.NewEpoch r old new o h told = tt
  again (driver.Copied name journal fence copies) r old new (outcome.Copied shard) h told = rw (h.1, h.0, h.2.1) tt
  again (driver.Copied name journal fence copies) r old new (outcome.Declined why) h told =
      let line : ToldCopies = record { journal = journal; fence = fence; copies = copies } in
      not_copied old.driver r line why before after (shard_named old.driver.machine.placement.setup name.now) h.1
      (subst (λ (o : JournalState). TellsDecline o.driver.machine.placement.setup why before after) h.0 told)
  again _ r old new _ h told = absurd h

  -- a command is declined that changes nothing, but for one under a name that was used before
  pub declines : (command : DriverCommand) (r : Bool) (old new : JournalState) (o : DriverOutcome) → HasOutcome command r old o new →
      TellsOutcome new o before after → has_changed o ≡ false → DriverDeclines command (Some old) before after
  declines command r old new (outcome.Begun begun) h told is = absurd (let z = is in cc)
  declines command r old new (outcome.Moved id gone) h told is = absurd (let z = is in cc)
  declines command r old new (outcome.Approved server permit) h told is = absurd (let z = is in cc)
  declines command r old new (outcome.Up server) h told is = absurd (let z = is in cc)
  declines command r old new (outcome.Restored server nonce) h told is = absurd (let z = is in cc)
  declines command r old new outcome.NextEpoch h told is = absurd (let z = is in cc)
  declines command r old new (outcome.Copied shard) h told is = absurd (let z = is in cc)
  declines (driver.Begin plan name) r old new (outcome.BegunBefore begun goes_on) h told is = λ none. absurd (let z : Some begun ≡ None = sym h.0 ∙ none in cc)
  declines (driver.Begin plan name) r old new (outcome.Declined why) h told is = λ none. declines_by new.driver.machine.placement.setup why before after told
  declines (driver.Answered plan stream number) r old new (outcome.Declined why) h told is = declines_by new.driver.machine.placement.setup why before after told
  declines (driver.Approve name by) r old new (outcome.ApprovedBefore at) h told is = λ none. absurd (let z : Some at ≡ None = sym h.0 ∙ none in cc)
  declines (driver.Approve name by) r old new (outcome.Declined why) h told is = λ none. declines_by new.driver.machine.placement.setup why before after told
  declines (driver.Restarted permit base) r old new (outcome.Declined why) h told is = declines_by new.driver.machine.placement.setup why before after told
  declines (driver.Restore name nonce) r old new (outcome.RestoredBefore server under) h told is = λ none. absurd (let z : Some server ≡ None = sym h.0 ∙ none in cc)
  declines (driver.Restore name nonce) r old new (outcome.Declined why) h told is = λ none. declines_by new.driver.machine.placement.setup why before after told
  declines driver.NewEpoch r old new (outcome.Declined why) h told is = declines_by new.driver.machine.placement.setup why before after told
  declines (driver.Copied name journal fence copies) r old new (outcome.Declined why) h told is = declines_by new.driver.machine.placement.setup why before after told
  declines _ r old new _ h told is = absurd h

module _ (front : List Token) where
  -- what a server is told is told by some members
  kept_told : (d : DriverModel) (v : ℕ) → (members : List Token) × TellsKept d v front members
  kept_told d v = of_found (restore_at d.restores v)
    where
      of_found : (found : Option RestoreModel) →
          (members : List Token) × IfSome found (λ restore. members ≡ front ++ key (codes "restore") ∷ restore_object d v restore)
      of_found None = (front, tt)
      of_found (Some restore) = (front ++ key (codes "restore") ∷ restore_object d v restore, refl)

  -- so is a change
  pub told_by : (new : JournalState) (o : DriverOutcome) → has_changed o ≡ true → (members : List Token) × TellsOutcome new o front members
  told_by new (outcome.Begun begun) is = (front ++ begun_members new.driver begun, refl)
  told_by new (outcome.BegunBefore begun goes_on) is = absurd (let z = is in cc)
  told_by new (outcome.Moved id gone) is = (front ++ moved_members new.driver id gone.items, refl)
  told_by new (outcome.Approved server permit) is = (front ++ approved_member new.driver server permit, refl)
  told_by new (outcome.ApprovedBefore at) is = absurd (let z = is in cc)
  told_by new (outcome.Up server) is = (front ++ text_member (codes "up") (server_text new.driver.machine.placement.setup server), refl)
  told_by new (outcome.Restored server nonce) is = kept_told new.driver server
  told_by new (outcome.RestoredBefore server nonce) is = absurd (let z = is in cc)
  told_by new outcome.NextEpoch is = (front ++ opened_member new.driver, refl)
  told_by new (outcome.Copied shard) is = (front ++ copied_member new.driver shard, refl)
  told_by new (outcome.Declined why) is = absurd (let z = is in cc)

-- ---- begins

-- the sizes of a machine's state are those of its configuration
sizes_are : (m : MachineModel) → (whole_of m).state.sizes ≡ sizes_of m.placement.setup
unfolding whole_of
sizes_are m = refl

-- a plan was checked for the driver's configuration
pub checked_for : (d : DriverModel) (setup : Setup) (plan : PlanModel) → setup ≡ d.machine.placement.setup → IsCheckedPlan (sizes_of setup) plan →
    IsCheckedPlan (record_of d).sizes plan
checked_for d setup plan same checked =
    subst (λ sizes. IsCheckedPlan sizes plan) (sym (sizes_are d.machine)) (subst (λ rows. IsCheckedPlan (sizes_of rows) plan) same checked)

-- a plan has begun under the number that it is told with
pub starts_as : (plan : PlanModel) (number : ℕ) (begun : BegunPlan) (old new : JournalState) (mid : DriverModel) → HasBegunPlan plan number old.driver mid →
    new.driver ≡ mid → begun ≡ begun_plan new.driver number → StartOutcome plan old (outcome.Begun begun) new
starts_as plan number begun old new mid has same is =
    let under : number ≡ begun.number = sym (ap (λ (b : BegunPlan). b.number) is) in (
      subst (λ k. HasBegunPlan plan k old.driver new.driver) under (subst (HasBegunPlan plan number old.driver) (sym same) has),
      is ∙ ap (λ k. begun_plan new.driver k) under,
    )

-- a plan that is ready is not begun only by what is in its way
not_started : (d : DriverModel) (plan : PlanModel) (value : Data) (why : Decline) → SaysPlan d.machine.placement.setup value plan → unknown_called d plan ≡ None →
    IsKeptFromStarting d plan why → IsNotBegun d value why
not_started d plan value (decline.NotBegun fault) says known is = (plan, says, known, is)
not_started d plan value _ says known is = absurd is

-- one that is not ready is not begun
not_ready : (d : DriverModel) (value : Data) (why : Decline) → IsUnready d value why → IsNotBegun d value why
not_ready d value (decline.NotBegun fault) is = absurd is
not_ready d value _ is = is

-- so it is under a new name, as long as no reopening is under way
pub not_ready_under : (found : Option BegunPlan) (name : List ℕ) (value : Data) (is_reopening : Bool) (d : DriverModel) (why : Decline) → found ≡ None →
    is_reopening ≡ false → IsUnready d value why → IsNotBegunUnder found name value is_reopening d why
not_ready_under found name value is_reopening d why none free is = rw (none, free) (not_ready d value why is)

-- the plan that a value says was ready
pub begins_as_said : {E : Type 0} (r : Result DriverOutcome E) (plan : PlanModel) (value : Data) (name : List ℕ) (is_reopening : Bool) (old new : JournalState) →
    is_reopening ≡ false → value_of old.plans name ≡ None → SaysPlan old.driver.machine.placement.setup value plan → IsCheckedPlan (record_of old.driver).sizes plan →
    unknown_called old.driver plan ≡ None → IfOk r (λ o. StartOutcome plan old o new) → IfOk r (λ o. BeginOutcome value name is_reopening old o new)
begins_as_said (Ok (outcome.Begun begun)) plan value name is_reopening old new free none says checked known h =
    (free, none, (plan, says, checked, known, h.0, h.1))
begins_as_said (Ok (outcome.Declined why)) plan value name is_reopening old new free none says checked known h =
    (h.0, rw (none, free) (not_started old.driver plan value why says known h.1))
begins_as_said (Ok _) plan value name is_reopening old new free none says checked known h = absurd h
begins_as_said (Err _) plan value name is_reopening old new free none says checked known h = tt
