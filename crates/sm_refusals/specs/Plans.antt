-- Why a plan does not pass the check, or does not begin.
use Rattle.std.specs.Prelude.{ℕ, List, [], ◌∷◌, codes}
use Rattle.sm_placement.specs.Setup.{Setup}
use Rattle.sm_reservation.specs.declared.right.Key.{Key}
use Rattle.sm_reservation.specs.declared.right.Key.TheVariants as key
use Rattle.sm_plan_code.specs.declared.instruction.Why.{Why}
use Rattle.sm_plan_code.specs.declared.instruction.Why.TheVariants as why
use Rattle.sm_verifier.specs.declared.checking.Fault.{Fault}
use Rattle.sm_verifier.specs.declared.checking.Fault.TheVariants as fault
use Rattle.sm_verifier.specs.declared.admission.Holding.{Holding}
use Rattle.sm_verifier.specs.declared.admission.Holding.TheVariants as holding
use Rattle.sm_protocol.specs.declared.event.BeginFault.{BeginFault}
use Rattle.sm_protocol.specs.declared.event.BeginFault.TheVariants as begin_fault
use Rattle.sm_refusals.specs.Names.{server_name, shard_name}
use Rattle.sm_refusals.specs.Refusals.{FieldModel, Number, Numbers, Word, RefusalModel, server_field, shard_field}

-- ---- a plan that does not pass the check

-- the name of a reason why a stream breaks off
abbrev pub why_name : Why → List ℕ
why_name why.NoRight = codes "NoRight"
why_name why.WrongState = codes "WrongState"
why_name why.NoCrown = codes "NoCrown"
why_name why.WrongLead = codes "WrongLead"
why_name why.StillListed = codes "StillListed"
why_name why.NoRoom = codes "NoRoom"
why_name why.NoSpare = codes "NoSpare"
why_name why.NotCarried = codes "NotCarried"
why_name why.Twice = codes "Twice"
why_name why.Unsettled = codes "Unsettled"
why_name why.OverBudget = codes "OverBudget"

-- a plan is refused, under this number and kind
abbrev pub checked_refusal : ℕ → List ℕ → List FieldModel → RefusalModel
checked_refusal n kind fields = record { front = codes "refused: "; number = n; kind = kind; fields = fields }

-- the streams' budgets and retries add up to more than the plan's budget: both sums
abbrev pub budget_refusal : ℕ → ℕ → RefusalModel
budget_refusal streams plan = checked_refusal 2 (codes "Budget") (Number (codes "streams") streams ∷ Number (codes "plan") plan ∷ [])

-- a signal is not posted once and waited for once: how often it is
abbrev pub misused_refusal : ℕ → ℕ → ℕ → RefusalModel
misused_refusal signal posts waits = checked_refusal 3 (codes "SignalNotOnce")
    (Number (codes "signal") signal ∷ Number (codes "posts") posts ∷ Number (codes "waits") waits ∷ [])

-- a stream is not good: the position where it breaks off, and why
abbrev pub stream_refusal : ℕ → ℕ → Why → RefusalModel
stream_refusal stream at w = checked_refusal 4 (codes "Stream")
    (Number (codes "stream") stream ∷ Number (codes "at") at ∷ Word (codes "why") (why_name w) ∷ [])

-- the streams wait for each other: for each stream the position to which it gets
abbrev pub stuck_refusal : List ℕ → RefusalModel
stuck_refusal positions = checked_refusal 5 (codes "Stuck") (Numbers (codes "positions") positions ∷ [])

-- why a plan does not pass the check
abbrev pub check_refusal : Fault → RefusalModel
check_refusal fault.NoMemory = checked_refusal 1 (codes "NoMemory") []
check_refusal (fault.Budget streams plan) = budget_refusal streams plan
check_refusal (fault.SignalNotOnce signal posts waits) = misused_refusal signal posts waits
check_refusal (fault.Stream stream at w) = stream_refusal stream at w
check_refusal (fault.Stuck positions) = stuck_refusal positions.items

-- ---- a plan that is held

-- a plan is held, under this number and kind
abbrev pub held_refusal : ℕ → List ℕ → List FieldModel → RefusalModel
held_refusal n kind fields = record { front = codes "held: "; number = n; kind = kind; fields = fields }

-- a right by its kind and its key, with the names of its shard and server
abbrev pub key_fields : Setup → Key → List FieldModel
key_fields setup (key.CellRight s v) =
    Word (codes "right") (codes "cell") ∷ Word (codes "shard") (shard_name setup s) ∷ Word (codes "server") (server_name setup v) ∷ []
key_fields setup (key.Crown s) = Word (codes "right") (codes "crown") ∷ Word (codes "shard") (shard_name setup s) ∷ []
key_fields setup (key.Room v) = Word (codes "right") (codes "room") ∷ Word (codes "server") (server_name setup v) ∷ []
key_fields setup (key.Spare s) = Word (codes "right") (codes "spare") ∷ Word (codes "shard") (shard_name setup s) ∷ []

-- a right that is declared is untrue or taken
abbrev pub key_refusal : Setup → ℕ → List ℕ → Key → RefusalModel
key_refusal setup n kind k = held_refusal n kind (key_fields setup k)

-- less of something is free than all streams declare together
abbrev pub short_refusal : ℕ → List ℕ → FieldModel → ℕ → ℕ → RefusalModel
short_refusal n kind of free declared =
    held_refusal n kind (of ∷ Number (codes "free") free ∷ Number (codes "declared") declared ∷ [])

-- why a plan may not start now
abbrev pub holding_refusal : Setup → Holding → RefusalModel
holding_refusal setup (holding.Untrue k) = key_refusal setup 1 (codes "Untrue") k
holding_refusal setup (holding.Taken k) = key_refusal setup 2 (codes "Taken") k
holding_refusal setup (holding.ShortRoom v free declared) = short_refusal 3 (codes "ShortRoom") (server_field setup v) free declared
holding_refusal setup (holding.ShortSpare s free declared) = short_refusal 4 (codes "ShortSpare") (shard_field setup s) free declared
holding_refusal setup (holding.ServerDown v) = held_refusal 5 (codes "ServerDown") (server_field setup v ∷ [])

-- ---- a plan that does not begin

-- a plan is not begun, under this number and kind
abbrev pub not_begun_refusal : ℕ → List ℕ → RefusalModel
not_begun_refusal n kind = record { front = codes "not begun: "; number = n; kind = kind; fields = [] }

-- why a plan that passed the check does not begin
abbrev pub begin_refusal : Setup → BeginFault → RefusalModel
begin_refusal setup begin_fault.NoMemory = not_begun_refusal 1 (codes "NoMemory")
begin_refusal setup (begin_fault.Holding h) = holding_refusal setup h
begin_refusal setup begin_fault.LogFull = not_begun_refusal 4 (codes "LogFull")
begin_refusal setup begin_fault.TooManyPlans = not_begun_refusal 5 (codes "TooManyPlans")
