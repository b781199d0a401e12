-- What a line tells of servers and of the map's owner, and whether it is so when the line comes.
use Rattle.std.specs.Prelude.{◌≡◌, ℕ, false, List, Option, Some, None}
use Rattle.serde_json.specs.Data.{Data}
use Rattle.json_tree.specs.View.{view}
use Rattle.sm_placement.specs.Setup.{Setup, server_named, shard_named}
use Rattle.sm_plan_text.specs.Reading.{data_of}
use Rattle.sm_protocol.specs.Laws.{ServerCall}
use Rattle.sm_protocol.specs.Next.{next_call_of}
use Rattle.laws_network.specs.Controller.{Order, Publication, StreamId, publication_of}
use Rattle.laws_network.specs.Fleet.{Fleet, has_lost}
use Rattle.laws_network.specs.FleetLaws.{HasAskedUnder}
use Rattle.laws_network.specs.FleetReopening.{IsOneOf}
use Rattle.sm_driver.specs.Driver.{base, record_of}
use Rattle.sm_driver.specs.Permits.{server_permitted}
use Rattle.laws_driver.specs.Control.{ApproveRestart, BeginPlan, Command, EndRestart, NoteCopies, OpenEpoch}
use Rattle.laws_driver.specs.Control.{RestoreServer, TakeAnswer}
use Rattle.laws_driver.specs.Driven.{Driven, driver_setup}
use Rattle.smpland_lines.specs.Lines.{Says}
use Rattle.smpland_lines.specs.declared.command.DriverCommand.{DriverCommand}
use Rattle.smpland_lines.specs.declared.command.DriverCommand.TheVariants as driver
use Rattle.smpland_lines.specs.declared.command.LineCommand.TheVariants as line
use Rattle.smpland_session.specs.Asked.{SaysPlan}

-- ---- what a line says

-- a command over names is this command of the driver, over numbers
abbrev pub IsCommand : Setup → DriverCommand → Command → Type 0
IsCommand setup (driver.Begin value name) (BeginPlan plan) = SaysPlan setup (view value.now) plan
IsCommand setup (driver.Answered plan stream told) (TakeAnswer id number) = (id ≡ record { plan = plan; stream = stream }) × (number ≡ told)
IsCommand setup (driver.Approve name by) (ApproveRestart v) = server_named setup name.now ≡ Some v
IsCommand setup (driver.Restarted told told_base) (EndRestart permit server_base) = (permit ≡ told)
    × (server_base ≡ told_base)
IsCommand setup (driver.Restore name told) (RestoreServer v nonce) = (server_named setup name.now ≡ Some v)
    × (nonce ≡ told)
IsCommand setup driver.NewEpoch OpenEpoch = Unit {0}
IsCommand setup (driver.Copied name journal fence told) (NoteCopies s copies) = (shard_named setup name.now ≡ Some s)
    × (copies ≡ told)
IsCommand setup _ _ = ⊥

-- the JSON value of a line says this command
abbrev pub SaysCommand : Setup → List ℕ → Command → Type 0
SaysCommand setup text command =
    (value : Data) × (said : DriverCommand) × (data_of text ≡ Some value) × Says value (line.Driver said)
    × IsCommand setup said command

-- ---- what is so

-- a server has answered an order of this stream with this number
abbrev pub ServerHasAnswered : Fleet → StreamId → ℕ → Type 0
ServerHasAnswered f id number = (o : Order) × IsOneOf f.answers o × (o.stream ≡ id) × (o.number ≡ number)

-- the map's owner has stored what this stream publishes
abbrev pub OwnerHasStored : Driven → StreamId → Type 0
OwnerHasStored x id = (p : Publication) × IsOneOf x.fleet.stored p
    × (publication_of (base x.driver) (record_of x.driver) id ≡ Some p)

-- before a call the stream's answer is one of a server, and otherwise the map's owner's
abbrev pub AnswerIsGiven : Driven → StreamId → ℕ → Option ServerCall → Type 0
AnswerIsGiven x id number (Some call) = ServerHasAnswered x.fleet id number
AnswerIsGiven x id number None = OwnerHasStored x id

-- a server has its slots, and this base
abbrev pub HasBase : Fleet → ℕ → ℕ → Type 0
HasBase f v number = (has_lost f v ≡ false) × ((f.servers v).base.number ≡ number)

-- What a command tells is so: the answer was given; the server with the permit has its slots and the base; the server
-- has asked under the nonce. A plan that begins, an approval and an epoch tell nothing of servers: of these smpland
-- itself decides. Of copies nothing is asked here: whether writes are on them the servers know, and no law of cells
-- rests on it.
abbrev pub CommandIsTrue : Driven → Command → Type 0
CommandIsTrue x (TakeAnswer id number) = AnswerIsGiven x id number (next_call_of (record_of x.driver) id)
CommandIsTrue x (EndRestart permit (Some number)) = (v : ℕ) → server_permitted x.driver.permits permit ≡ Some v
    → HasBase x.fleet v number
CommandIsTrue x (RestoreServer v nonce) = HasAskedUnder x.fleet.asks v nonce
CommandIsTrue x _ = Unit {0}

-- so is what a line tells
abbrev pub LineIsTrue : Driven → List ℕ → Type 0
LineIsTrue x text = (command : Command) → SaysCommand (driver_setup x) text command → CommandIsTrue x command
