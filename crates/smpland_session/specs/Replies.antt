-- Replies to lines. If a line changed something, its reply tells the change.
use Rattle.std.specs.Prelude.{◌≡◌, ℕ, List, [], ◌++◌, Option, Some, None, codes}
use Rattle.json.specs.Token.{Token}
use Rattle.json.specs.Print.{print}
use Rattle.serde_json.specs.Data.{Data}
use Rattle.sm_reservation.specs.declared.stream_id.StreamId.{StreamId}
use Rattle.sm_plan_code.specs.Plan.{PlanModel}
use Rattle.sm_plan_text.specs.Reading.{data_of}
use Rattle.json_tree.specs.View.{view}
use Rattle.sm_placement.specs.Setup.{server_named, shard_named}
use Rattle.sm_driver.specs.Copies.{HasNotedCopies}
use Rattle.sm_driver.specs.Driver.{DriverModel, HasApproved, HasBegunPlan, HasEndedRestart, HasRestored, record_of}
use Rattle.sm_driver.specs.declared.copies.ToldCopies.{ToldCopies}
use Rattle.smpland_lines.specs.Lines.{Says}
use Rattle.smpland_lines.specs.declared.command.DriverCommand.{DriverCommand}
use Rattle.smpland_lines.specs.declared.command.DriverCommand.TheVariants as driver
use Rattle.smpland_lines.specs.declared.command.LineCommand.{LineCommand}
use Rattle.smpland_lines.specs.declared.command.LineCommand.TheVariants as line
use Rattle.smpland_lines.specs.Ids.{line_id}
use Rattle.smpland_lines.specs.Members.{object, server_text, text_member}
use Rattle.smpland_lines.specs.Writer.{HasNoLineFeed}
use Rattle.smpland_state.specs.declared.journal_state.JournalState.{JournalState}
use Rattle.smpland_state.specs.Begun.{begun_members, begun_plan}
use Rattle.smpland_state.specs.Bits.{hexadecimal}
use Rattle.smpland_state.specs.Copied.{copied_member}
use Rattle.smpland_state.specs.Permits.{approved_member, opened_member}
use Rattle.smpland_state.specs.Replies.{sinces_of, taken_members}
use Rattle.smpland_state.specs.Restores.{TellsKept}
use Rattle.sm_reopening.specs.Ongoing.{net_reopening}
use Rattle.smpland_reopening.specs.Reopening.{ReopeningModel}
use Rattle.smpland_reopening.specs.Waiting.{unsettled_parties}
use Rattle.smpland_reopening_lines.specs.Parties.{fences_member, waiting_member}
use Rattle.smpland_reopening_lines.specs.Proposals.{TellsAwaited}
use Rattle.smpland_reopening_lines.specs.Settles.{settles_member}
use Rattle.smpland_reopening_lines.specs.Taken.{TakesConfirm, TakesSettled, TakesTold}
use Rattle.smpland_session.specs.ToldAgain.{AnswersLine}
use Rattle.smpland_session.specs.Asked.{DoesToSession, IsKnownOver, SaysPlan, TakesAnswerOf, setup_in_force}
use Rattle.smpland_session.specs.Changes.{ComesInForce, HasReopened, OpensNext}
use Rattle.smpland_session.specs.declared.under_way.UnderWay.{UnderWay}
use Rattle.smpland_session.specs.declared.session.LineEffect.{LineEffect}
use Rattle.smpland_session.specs.declared.session.LineEffect.TheVariants.{Changed}
use Rattle.smpland_session.specs.declared.session.Session.{Session}

-- a plan has begun, and behind what was written is told that it has, with the messages of its streams
abbrev pub TellsPlan : PlanModel → DriverModel → DriverModel → List Token → List Token → Type 0
TellsPlan plan old new before after =
    (number : ℕ) × HasBegunPlan plan number old new × (after ≡ before ++ begun_members new (begun_plan new number))

-- the same of the plan of a value
abbrev pub TellsBegun : Data → DriverModel → DriverModel → List Token → List Token → Type 0
TellsBegun value old new before after =
    (plan : PlanModel) × SaysPlan old.machine.placement.setup value plan × TellsPlan plan old new before after

-- the stream whose answer came under this number has made its step, and it is told where it stands, with the messages
-- that came up in its plan
abbrev pub TellsMoved : StreamId → ℕ → DriverModel → DriverModel → List Token → List Token → Type 0
TellsMoved id number old new before after =
    TakesAnswerOf id number old new × (after ≡ before ++ taken_members new id (sinces_of (record_of old) id.plan))

-- the restart of a server was approved, and its permit is told, with the shards that nobody serves meanwhile
abbrev pub TellsPermit : ℕ → DriverModel → DriverModel → List Token → List Token → Type 0
TellsPermit server old new before after =
    (permit : ℕ) × HasApproved server permit old new
    × (after ≡ before ++ approved_member new server permit)

-- the same of the server with this name
abbrev pub TellsApproved : List ℕ → DriverModel → DriverModel → List Token → List Token → Type 0
TellsApproved name old new before after =
    (server : ℕ) × (server_named old.machine.placement.setup name ≡ Some server)
    × TellsPermit server old new before after

-- the restart that has this permit has ended, of a server with this base, and it is told which is up
abbrev pub TellsUp : ℕ → Option ℕ → DriverModel → DriverModel → List Token → List Token → Type 0
TellsUp permit base old new before after =
    (server : ℕ) × HasEndedRestart server permit base old new
    × (after ≡ before ++ text_member (codes "up") (server_text new.machine.placement.setup server))

-- the server with this name was restored under this nonce, and is told what the driver keeps for it
abbrev pub TellsRestored : List ℕ → ℕ → DriverModel → DriverModel → List Token → List Token → Type 0
TellsRestored name nonce old new before after =
    (server : ℕ) × (server_named old.machine.placement.setup name ≡ Some server) × HasRestored server nonce old new
    × TellsKept new server before after

-- these copies of the shard with this name were noted, and it is told what is noted of it now
abbrev pub TellsCopied : List ℕ → ToldCopies → DriverModel → DriverModel → List Token → List Token → Type 0
TellsCopied name told old new before after =
    (shard : ℕ) × (shard_named old.machine.placement.setup name ≡ Some shard) × HasNotedCopies shard told.copies old new
    × (after ≡ before ++ copied_member new shard)

-- the next epoch has opened, and that is told
abbrev pub TellsNext : DriverModel → DriverModel → List Token → List Token → Type 0
TellsNext old new before after = OpensNext old new × (after ≡ before ++ opened_member new)

-- a command has changed the driver of an open journal as it asks, and its reply tells that very change
abbrev pub TellsChange : DriverCommand → DriverModel → DriverModel → List Token → List Token → Type 0
TellsChange (driver.Begin plan _) old new before after = TellsBegun (view plan.now) old new before after
TellsChange (driver.Answered plan stream number) old new before after = TellsMoved (record { plan = plan; stream = stream }) number old new before after
TellsChange (driver.Approve server _) old new before after = TellsApproved server.now old new before after
TellsChange (driver.Restarted permit base) old new before after = TellsUp permit base old new before after
TellsChange (driver.Restore server nonce) old new before after = TellsRestored server.now nonce old new before after
TellsChange driver.NewEpoch old new before after = TellsNext old new before after
TellsChange (driver.Copied shard journal fence copies) old new before after =
    TellsCopied shard.now (record { journal = journal; fence = fence; copies = copies }) old new before after

-- the reply tells the journal that is open
abbrev pub TellsOpened : Option JournalState → List Token → List Token → Type 0
TellsOpened (Some o) before after = after ≡ before ++ opened_member o.driver
TellsOpened None before after = ⊥

-- the journal that is open stays so, and its driver's change is told
abbrev pub TellsDriven : DriverCommand → Option JournalState → Option JournalState → List Token → List Token → Type 0
TellsDriven command (Some old) (Some new) before after = TellsChange command old.driver new.driver before after
TellsDriven command old new before after = ⊥

-- the reply tells the fences to the parties that have not answered: those of the reopening that has begun
abbrev pub TellsFences : Option UnderWay → List Token → List Token → Type 0
TellsFences (Some u) before after = after ≡ before ++ fences_member (hexadecimal u.reopening.journal) u.reopening
TellsFences None before after = ⊥

-- The reply to a line on a reopening. An answer to a fence tells who has to answer, or otherwise what may be confirmed,
-- a confirmation the settles, and an answer to a settle who has not taken its own.
pub data TellsOn (old new : ReopeningModel) (before after : List Token) : Type 0 where
  Fenced : TakesTold old new → TellsAwaited new before after → TellsOn old new before after
  Confirmed : TakesConfirm old new → after ≡ before ++ settles_member (hexadecimal new.journal) new
      → TellsOn old new before after
  Settled : TakesSettled old new → after
      ≡ before ++ waiting_member new.numbering (unsettled_parties (net_reopening new.ongoing))
      → TellsOn old new before after

-- the reopening under way has gone on, and that is told
abbrev pub TellsGoneOn : Option UnderWay → Option UnderWay → List Token → List Token → Type 0
TellsGoneOn (Some old) (Some new) before after = TellsOn old.reopening new.reopening before after
TellsGoneOn old new before after = ⊥

-- The reply to a line on a reopening that changed something.
pub data TellsReopening (opened : Option JournalState) (under : Option UnderWay) (new : Option JournalState) (after_it : Option UnderWay) (before after : List Token) : Type 0 where
  Reopens : HasReopened opened under after_it → TellsFences after_it before after
      → TellsReopening opened under new after_it before after
  Follows : TellsGoneOn under after_it before after → TellsReopening opened under new after_it before after
  Opens : ComesInForce under after_it new → TellsOpened new before after
      → TellsReopening opened under new after_it before after

-- The reply to a command that changed something.
abbrev pub TellsChanges : LineCommand → Option JournalState → Option UnderWay → Option JournalState → Option UnderWay
    → List Token → List Token → Type 0
TellsChanges (line.Open _ _ _) opened under new after_it before after = (under ≡ None) × (after_it ≡ None)
    × TellsOpened new before after
TellsChanges (line.Driver command) opened under new after_it before after =
    (under ≡ None) × (after_it ≡ None) × TellsDriven command opened new before after
TellsChanges (line.Reopening _) opened under new after_it before after = TellsReopening opened under new after_it before after
TellsChanges (line.Question _) opened under new after_it before after = ⊥

-- what a command that changed something made of a session, and told of it
abbrev pub SessionTells : LineCommand → Session → Session → List Token → List Token → Type 0
SessionTells command old new before after = TellsChanges command old.opened old.under_way new.opened new.under_way before after

-- a value says a command that is known, the session has done it, and behind the value's id the reply tells that it has
abbrev pub TellsValue : Data → Session → Session → List Token → List Token → Type 0
TellsValue value old new before after =
    (command : LineCommand) × Says value command × IsKnownOver (setup_in_force old) command
    × DoesToSession command old new
    × SessionTells command old new (before ++ line_id value) after

-- so does the JSON value of a line
abbrev pub TellsLine : List ℕ → Session → Session → List Token → List Token → Type 0
TellsLine text old new before after = (value : Data) × (data_of text ≡ Some value)
    × TellsValue value old new before after

-- A text replies to a line: that of some tokens in braces, which need not make an object. They answer the line, and if
-- it has changed something, they tell that.
pub record RepliesTo (line : List ℕ) (old new : Session) (effect : LineEffect) (text : List ℕ) : Type 0 where
  pub members : List Token
  pub is : text ≡ print (object members)
  pub answered : AnswersLine line old [] members
  pub changed : effect ≡ Changed → TellsLine line old new [] members

-- the reply to a line is one line
abbrev pub IsLineReply : List ℕ → Session → Session → LineEffect → List ℕ → Type 0
IsLineReply line old new effect text = RepliesTo line old new effect text × HasNoLineFeed text
