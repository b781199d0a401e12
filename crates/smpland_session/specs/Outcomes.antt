-- The outcomes of commands on an open journal, and the replies that tell them.
-- `TellsDecline`, `TellsOutcome`, `KnowsServers`, `StartOutcome`, `IsKeptFromStarting`, `HasMovedWith`, `is_down_under`
-- and `why_not_ended` are internal: you need not read them for the public contracts.
use Rattle.std.specs.Prelude.{◌≡◌, ◌<◌, ℕ, ◌&&◌, ◌||◌, Bool, true, false, List, ◌++◌, Option, Some, None, IfSome}
use Rattle.std.specs.Prelude.{bytes_eq, codes, decimal, if◌then◌else◌, not, string_bytes}
use Rattle.std.specs.List.{list_any}
use Rattle.std.specs.Option.{IsSomeAnd}
use Rattle.json.specs.Token.{Token}
use Rattle.serde_json.specs.Data.{Data}
use Rattle.json_tree.specs.View.{view}
use Rattle.sm_placement.specs.Setup.{Setup, server_named, shard_named}
use Rattle.sm_reservation.specs.declared.stream_id.StreamId.{StreamId}
use Rattle.sm_plan_code.specs.Plan.{PlanModel}
use Rattle.sm_verifier.specs.Plan.{IsCheckedPlan}
use Rattle.smpland_state.specs.Names.{value_of}
use Rattle.sm_protocol.specs.declared.event.BeginFault.{BeginFault}
use Rattle.sm_protocol.specs.declared.event.Played.TheVariants as played
use Rattle.sm_protocol.specs.Happens.{Begin, happens}
use Rattle.sm_protocol.specs.Steps.{Answered}
use Rattle.laws_network.specs.Controller.{is_permitted}
use Rattle.sm_driver.specs.Copies.{copies_effect, shard_want}
use Rattle.sm_driver.specs.Driver.{DriverModel, HasApproved, HasBegunPlan, HasEndedRestart, HasRestored, HasTakenStep}
use Rattle.sm_driver.specs.Driver.{is_due, is_past, record_of}
use Rattle.sm_driver.specs.declared.copies.CopiesEffect.{CopiesEffect}
use Rattle.sm_driver.specs.declared.copies.CopiesEffect.TheVariants as effect
use Rattle.sm_driver.specs.declared.copies.ToldCopies.{ToldCopies}
use Rattle.sm_refusals.specs.Plans.{check_refusal}
use Rattle.smpland_lines.specs.BadLines.{told_bad}
use Rattle.smpland_lines.specs.Members.{number_member, server_text, shard_text, text_member}
use Rattle.smpland_lines.specs.Refusals.{RefusedLine, TellsRefused, refused_member, shared_refusal}
use Rattle.smpland_lines.specs.declared.bad_line.BadLine.TheVariants as bad
use Rattle.smpland_lines.specs.declared.command_member.CommandMember.TheVariants.{Plan as PlanMember}
use Rattle.smpland_lines.specs.declared.command.DriverCommand.{DriverCommand}
use Rattle.smpland_lines.specs.declared.command.DriverCommand.TheVariants as driver
use Rattle.smpland_state.specs.declared.begun_plan.BegunPlan.{BegunPlan}
use Rattle.smpland_state.specs.declared.given_permits.GivenAt.{GivenAt}
use Rattle.smpland_state.specs.declared.given_permits.GivenPermit.{GivenPermit}
use Rattle.smpland_state.specs.declared.journal_state.JournalState.{JournalState}
use Rattle.smpland_state.specs.Begun.{begun_again_members, begun_members, begun_plan}
use Rattle.smpland_state.specs.Copied.{copied_member}
use Rattle.smpland_state.specs.Given.{given_at}
use Rattle.smpland_state.specs.Permits.{approved_member, given_member, opened_member}
use Rattle.smpland_state.specs.Replies.{gone_on, moved_members, sinces_of}
use Rattle.smpland_state.specs.Restores.{TellsAgain, TellsKept, is_told}
use Rattle.smpland_state.specs.Known.{unknown_called}
use Rattle.smpland_session.specs.Asked.{SaysPlan}
use Rattle.smpland_session.specs.Begins.{IsNotSaid, kept_plan, other_plan}
use Rattle.smpland_session.specs.Changes.{NotesTold, OpensNext}
use Rattle.smpland_session.specs.Checks.{IsUnready, unknown_refusal}
use Rattle.smpland_session.specs.Declines.{Declines}
use Rattle.smpland_session.specs.declared.decline.Decline.{Decline}
use Rattle.smpland_session.specs.declared.decline.Decline.TheVariants as decline
use Rattle.smpland_session.specs.declared.decline.Ignored.{Ignored}
use Rattle.smpland_session.specs.declared.decline.Ignored.TheVariants as ignored
use Rattle.smpland_session.specs.declared.driver_outcome.DriverOutcome.{DriverOutcome}
use Rattle.smpland_session.specs.declared.driver_outcome.DriverOutcome.TheVariants as outcome

-- ---- replies

-- the word for why a command tells nothing new
abbrev pub ignored_word : Ignored → List ℕ
ignored_word ignored.Old = codes "old"
ignored_word ignored.Unknown = codes "unknown"

-- more copies are told than the shard wants
abbrev pub above_want : Setup → ℕ → RefusedLine
above_want setup s = record {
  kind = codes "AboveWant";
  number = None;
  fields = text_member (codes "shard") (shard_text setup s) ++ number_member (codes "want") (shard_want setup s);
  text = codes "refused: AboveWant shard " ++ shard_text setup s ++ codes " want " ++ decimal (shard_want setup s);
}

-- behind what was written is told, over these servers and shards, why nothing has come of a command
abbrev pub TellsDecline : Setup → Decline → List Token → List Token → Type 0
TellsDecline setup (decline.Ignored why) before after = after
    ≡ before ++ text_member (codes "ignored") (ignored_word why)
TellsDecline setup (decline.NoPlan fault) before after = after ≡ before ++ told_bad (bad.Within PlanMember fault)
TellsDecline setup (decline.Unchecked fault) before after = after
    ≡ before ++ refused_member (shared_refusal (check_refusal fault))
TellsDecline setup (decline.OtherPlan name) before after = after
    ≡ before ++ refused_member (other_plan (string_bytes name))
TellsDecline setup (decline.Unknown server) before after = after
    ≡ before ++ refused_member (unknown_refusal setup server)
TellsDecline setup (decline.OtherServer at) before after = TellsRefused before after
TellsDecline setup (decline.AboveWant shard) before after = after ≡ before ++ refused_member (above_want setup shard)
TellsDecline setup _ before after = Declines before after

-- behind it is told, by the journal after the change, the outcome of a command
abbrev pub TellsOutcome : JournalState → DriverOutcome → List Token → List Token → Type 0
TellsOutcome o (outcome.Begun plan) before after = after ≡ before ++ begun_members o.driver plan
TellsOutcome o (outcome.BegunBefore plan goes_on) before after = after
    ≡ before ++ begun_again_members o.driver plan goes_on
TellsOutcome o (outcome.Moved id gone) before after = after ≡ before ++ moved_members o.driver id gone.items
TellsOutcome o (outcome.Approved server permit) before after =
    after ≡ before ++ approved_member o.driver server permit
TellsOutcome o (outcome.ApprovedBefore at) before after =
    IfSome (given_at o.permits at) (λ given. after ≡ before ++ given_member o.driver (string_bytes given.server) given.permit)
TellsOutcome o (outcome.Up server) before after = after
    ≡ before ++ text_member (codes "up") (server_text o.driver.machine.placement.setup server)
TellsOutcome o (outcome.Restored server nonce) before after = TellsKept o.driver server before after
TellsOutcome o (outcome.RestoredBefore server nonce) before after = TellsAgain o server nonce before after
TellsOutcome o outcome.NextEpoch before after = after ≡ before ++ opened_member o.driver
TellsOutcome o (outcome.Copied shard) before after = after ≡ before ++ copied_member o.driver shard
TellsOutcome o (outcome.Declined why) before after = TellsDecline o.driver.machine.placement.setup why before after

-- the server that is told its cells is known, and the shard whose copies are told
abbrev pub KnowsServers : DriverModel → DriverOutcome → Type 0
KnowsServers d (outcome.Restored server nonce) = server < (record_of d).sizes.servers
KnowsServers d (outcome.RestoredBefore server nonce) = server < (record_of d).sizes.servers
KnowsServers d (outcome.Copied shard) = shard < (record_of d).sizes.shards
KnowsServers d _ = Unit {0}

-- something has changed
abbrev pub has_changed : DriverOutcome → Bool
has_changed (outcome.Begun _) = true
has_changed (outcome.BegunBefore _ _) = false
has_changed (outcome.Moved _ _) = true
has_changed (outcome.Approved _ _) = true
has_changed (outcome.ApprovedBefore _) = false
has_changed (outcome.Up _) = true
has_changed (outcome.Restored _ _) = true
has_changed (outcome.RestoredBefore _ _) = false
has_changed outcome.NextEpoch = true
has_changed (outcome.Copied _) = true
has_changed (outcome.Declined _) = false

-- ---- begins

-- this is in the way of a plan now
abbrev pub IsInTheWay : DriverModel → PlanModel → BeginFault → Type 0
IsInTheWay d plan fault = (happens (record_of d) (Begin plan)).0 ≡ Answered (played.NotBegun fault)

-- why a plan that is ready does not begin: what is in its way
abbrev pub IsKeptFromStarting : DriverModel → PlanModel → Decline → Type 0
IsKeptFromStarting d plan (decline.NotBegun fault) = IsInTheWay d plan fault
IsKeptFromStarting d plan why = ⊥

-- the plan has begun, or all is as it was
abbrev pub StartOutcome : PlanModel → JournalState → DriverOutcome → JournalState → Type 0
StartOutcome plan old (outcome.Begun begun) new =
    HasBegunPlan plan begun.number old.driver new.driver × (begun ≡ begun_plan new.driver begun.number)
StartOutcome plan old (outcome.Declined why) new = (new ≡ old) × IsKeptFromStarting old.driver plan why
StartOutcome plan old _ new = ⊥

-- the plan that a value says has begun, and is this one: it calls no server that is not known
abbrev pub BeginsPlanAs : Data → BegunPlan → JournalState → JournalState → Type 0
BeginsPlanAs value begun old new =
    (plan : PlanModel) × SaysPlan old.driver.machine.placement.setup value plan
    × IsCheckedPlan (record_of old.driver).sizes plan
    × (unknown_called old.driver plan ≡ None) × HasBegunPlan plan begun.number old.driver new.driver
    × (begun ≡ begun_plan new.driver begun.number)

-- the plan that a value says calls no server that is not known, and this is in its way
abbrev pub SaysHindered : DriverModel → Data → BeginFault → Type 0
SaysHindered d value fault =
    (plan : PlanModel) × SaysPlan d.machine.placement.setup value plan × (unknown_called d plan ≡ None)
    × IsInTheWay d plan fault

-- why the plan that a value says is not begun: it is not ready, or something is in its way
abbrev pub IsNotBegun : DriverModel → Data → Decline → Type 0
IsNotBegun d value (decline.NotBegun fault) = SaysHindered d value fault
IsNotBegun d value why = IsUnready d value why

-- the same, or a reopening is under way
abbrev pub IsNotBegunNow : Bool → DriverModel → Data → Decline → Type 0
IsNotBegunNow true d value why = why ≡ decline.Reopening
IsNotBegunNow false d value why = IsNotBegun d value why

-- why nothing comes of a begin, by the plan that has begun under its name, if one has
abbrev pub IsNotBegunUnder : Option BegunPlan → List ℕ → Data → Bool → DriverModel → Decline → Type 0
IsNotBegunUnder (Some begun) name value is_reopening d why =
    IsSomeAnd (kept_plan d begun) (λ kept. IsNotSaid d.machine.placement.setup value name kept why)
IsNotBegunUnder None name value is_reopening d why = IsNotBegunNow is_reopening d value why

-- the plan that a value says has begun; it had begun under this name before, if it is kept; or neither
abbrev pub BeginOutcome : Data → List ℕ → Bool → JournalState → DriverOutcome → JournalState → Type 0
BeginOutcome value name is_reopening old (outcome.Begun begun) new =
    (is_reopening ≡ false) × (value_of old.plans name ≡ None) × BeginsPlanAs value begun old new
BeginOutcome value name is_reopening old (outcome.BegunBefore plan goes_on) new =
    (value_of old.plans name ≡ Some plan) × (goes_on ≡ not is_reopening) × (new ≡ old)
    × IfSome (kept_plan old.driver plan) (SaysPlan old.driver.machine.placement.setup value)
BeginOutcome value name is_reopening old (outcome.Declined why) new =
    (new ≡ old) × IsNotBegunUnder (value_of old.plans name) name value is_reopening old.driver why
BeginOutcome value name is_reopening old _ new = ⊥

-- ---- answers to orders and publications

-- a stream waits for this answer, and no reopening is under way
abbrev pub is_expected : Bool → DriverModel → StreamId → ℕ → Bool
is_expected is_reopening d id number = not is_reopening && is_due d id number

-- why an answer is ignored: its stream has gone on, or a reopening is under way; otherwise it is not known
abbrev pub why_ignored : Bool → DriverModel → StreamId → ℕ → Ignored
why_ignored is_reopening d id number = if is_reopening || is_past d id number then ignored.Old else ignored.Unknown

-- a stream has made its step, and these streams have gone on
abbrev pub HasMovedWith : StreamId → List StreamId → DriverOutcome → Type 0
HasMovedWith id ids (outcome.Moved stream gone) = (stream ≡ id) × (gone.items ≡ ids)
HasMovedWith id ids _ = ⊥

-- the stream has made its step, and is told with the streams of its plan that have gone on since; or no stream waits
-- for the answer
abbrev pub AnsweredOutcome : StreamId → ℕ → Bool → JournalState → DriverOutcome → JournalState → Type 0
AnsweredOutcome id number is_reopening old (outcome.Moved stream gone) new =
    (is_expected is_reopening old.driver id number ≡ true) × HasTakenStep id old.driver new.driver × (stream ≡ id)
    × (gone.items ≡ gone_on (record_of new.driver) id.plan (sinces_of (record_of old.driver) id.plan))
AnsweredOutcome id number is_reopening old (outcome.Declined why) new =
    (is_expected is_reopening old.driver id number ≡ false)
    × (why ≡ decline.Ignored (why_ignored is_reopening old.driver id number)) × (new ≡ old)
AnsweredOutcome id number is_reopening old _ new = ⊥

-- ---- restarts

-- what comes of an approval under a name that stands for a permit: it is told, or another server has it
abbrev pub AgainOutcome : List ℕ → JournalState → GivenAt → DriverOutcome → Type 0
AgainOutcome server o at (outcome.ApprovedBefore given) =
    (given ≡ at) × IfSome (given_at o.permits at) (λ (permit : GivenPermit). bytes_eq (string_bytes permit.server) server ≡ true)
AgainOutcome server o at (outcome.Declined (decline.OtherServer given)) =
    (given ≡ at) × IfSome (given_at o.permits at) (λ (permit : GivenPermit). bytes_eq (string_bytes permit.server) server ≡ false)
AgainOutcome server o at _ = ⊥

-- the restart of the server with this name is approved; one was approved under this name before; or none was, and none
-- is
abbrev pub ApproveOutcome : List ℕ → List ℕ → Bool → JournalState → DriverOutcome → JournalState → Type 0
ApproveOutcome name by is_reopening old (outcome.Approved server permit) new =
    (is_reopening ≡ false) × (value_of old.approvals by ≡ None)
    × (server_named old.driver.machine.placement.setup name ≡ Some server)
    × (server < (record_of old.driver).sizes.servers) × HasApproved server permit old.driver new.driver
ApproveOutcome name by is_reopening old (outcome.ApprovedBefore at) new =
    (value_of old.approvals by ≡ Some at) × AgainOutcome name old at (outcome.ApprovedBefore at) × (new ≡ old)
ApproveOutcome name by is_reopening old (outcome.Declined (decline.OtherServer at)) new =
    (value_of old.approvals by ≡ Some at) × AgainOutcome name old at (outcome.Declined (decline.OtherServer at))
    × (new ≡ old)
ApproveOutcome name by is_reopening old (outcome.Declined why) new = (value_of old.approvals by ≡ None) × (new ≡ old)
ApproveOutcome name by is_reopening old _ new = ⊥

-- a server is down under this permit, of these by the servers' numbers
abbrev pub is_down_under : List (Option ℕ) → ℕ → Bool
is_down_under permits permit = list_any (λ given. is_permitted given permit) permits

-- why no restart ends by this permit while a reopening is under way: it has to wait, if a server is down under it;
-- otherwise it has ended before
abbrev pub why_not_ended : List (Option ℕ) → ℕ → Decline
why_not_ended permits permit = if is_down_under permits permit then decline.Reopening else decline.Ignored ignored.Old

-- the restart that has this permit has ended, of a server with this base; or none has
abbrev pub RestartedOutcome : ℕ → Option ℕ → Bool → JournalState → DriverOutcome → JournalState → Type 0
RestartedOutcome permit base is_reopening old (outcome.Up server) new =
    (is_reopening ≡ false) × HasEndedRestart server permit base old.driver new.driver
RestartedOutcome permit base is_reopening old (outcome.Declined why) new = new ≡ old
RestartedOutcome permit base is_reopening old _ new = ⊥

-- ---- restores

-- the server with this name is restored; it was told under this nonce last; or it was not, and is not
abbrev pub RestoreOutcome : List ℕ → ℕ → Bool → JournalState → DriverOutcome → JournalState → Type 0
RestoreOutcome name nonce is_reopening old (outcome.Restored server under) new =
    (is_reopening ≡ false) × (server_named old.driver.machine.placement.setup name ≡ Some server)
    × (is_told old server nonce ≡ false)
    × HasRestored server nonce old.driver new.driver × (under ≡ nonce) × (server < (record_of new.driver).sizes.servers)
RestoreOutcome name nonce is_reopening old (outcome.RestoredBefore server under) new =
    (server_named old.driver.machine.placement.setup name ≡ Some server) × (is_told old server nonce ≡ true)
    × (under ≡ nonce)
    × (server < (record_of new.driver).sizes.servers) × (new ≡ old)
RestoreOutcome name nonce is_reopening old (outcome.Declined why) new =
    IfSome (server_named old.driver.machine.placement.setup name) (λ server. is_told old server nonce ≡ false)
    × (new ≡ old)
RestoreOutcome name nonce is_reopening old _ new = ⊥

-- ---- copies

-- the effect of copies that a line tells of a shard: while a reopening is under way they are old
abbrev pub copies_effect_now : Bool → DriverModel → ℕ → ToldCopies → CopiesEffect
copies_effect_now is_reopening d shard told = if is_reopening then effect.Old else copies_effect d shard told

-- why copies of a shard are not noted
abbrev pub IsNotNoted : CopiesEffect → ℕ → Decline → Type 0
IsNotNoted effect.Noted shard why = ⊥
IsNotNoted effect.Old shard why = why ≡ decline.Ignored ignored.Old
IsNotNoted effect.AboveWant shard why = why ≡ decline.AboveWant shard

-- these copies of the shard with this name are noted; or they are not: they are old, or more than the shard wants
abbrev pub CopiedOutcome : List ℕ → ToldCopies → Bool → JournalState → DriverOutcome → JournalState → Type 0
CopiedOutcome name told is_reopening old (outcome.Copied shard) new =
    (is_reopening ≡ false) × (shard_named old.driver.machine.placement.setup name ≡ Some shard)
    × NotesTold shard told old.driver new.driver
CopiedOutcome name told is_reopening old (outcome.Declined why) new =
    (new ≡ old) × IfSome (shard_named old.driver.machine.placement.setup name)
    (λ shard. IsNotNoted (copies_effect_now is_reopening old.driver shard told) shard why)
CopiedOutcome name told is_reopening old _ new = ⊥

-- ---- epochs

-- the next epoch has opened, or it has not
abbrev pub EpochOutcome : Bool → JournalState → DriverOutcome → JournalState → Type 0
EpochOutcome is_reopening old outcome.NextEpoch new = (is_reopening ≡ false) × OpensNext old.driver new.driver
EpochOutcome is_reopening old (outcome.Declined why) new = new ≡ old
EpochOutcome is_reopening old _ new = ⊥

-- ---- commands

-- A command on an open journal has an outcome. Only as long as no reopening is under way does it change the journal.
abbrev pub HasOutcome : DriverCommand → Bool → JournalState → DriverOutcome → JournalState → Type 0
HasOutcome (driver.Begin plan name) is_reopening old o new = BeginOutcome (view plan.now) name.now is_reopening old o new
HasOutcome (driver.Answered plan stream number) is_reopening old o new = AnsweredOutcome (record { plan = plan; stream = stream }) number is_reopening old o new
HasOutcome (driver.Approve server by) is_reopening old o new = ApproveOutcome server.now by.now is_reopening old o new
HasOutcome (driver.Restarted permit base) is_reopening old o new = RestartedOutcome permit base is_reopening old o new
HasOutcome (driver.Restore name nonce) is_reopening old o new = RestoreOutcome name.now nonce is_reopening old o new
HasOutcome driver.NewEpoch is_reopening old o new = EpochOutcome is_reopening old o new
HasOutcome (driver.Copied shard journal fence copies) is_reopening old o new =
    CopiedOutcome shard.now (record { journal = journal; fence = fence; copies = copies }) is_reopening old o new
