-- The outcomes of an ask at a board.
use Rattle.std.specs.Prelude.{◌≡◌, ◌+◌, ◌∷◌, [], ℕ, List, Option, Some, None, if◌then◌else◌}
use Rattle.sm_placement.specs.Setup.{Setup}
use Rattle.sm_placement.specs.declared.entry.Entry.{Entry}
use Rattle.sm_map.specs.History.{AllSameOrOlder}
use Rattle.sm_protocol.specs.Ticket.{Ticket}
use Rattle.sm_protocol.specs.State.{State}
use Rattle.sm_protocol.specs.Happens.{Arrive, PassOn}
use Rattle.sm_protocol.specs.Hand.{tickets_of, spends}
use Rattle.sm_machine.specs.Requested.{played_by, tickets_in}
use Rattle.sm_machine.specs.declared.answer.Answer.{Answer}
use Rattle.sm_router.specs.Asking.{HasAsked}
use Rattle.sm_router.specs.declared.asking.Asked.{Asked}
use Rattle.sm_executor.specs.Answering.{HasAnswered}
use Rattle.sm_executor.specs.Counting.{executes, refuses}
use Rattle.sm_executor.specs.Looking.{KnowsSameOrOlder}
use Rattle.sm_executor.specs.Views.{CallerModel, calling, IsNewCaller}

-- a look adds the entry to what the caller has seen, and is no older than that and than what the caller knows
abbrev pub looked : CallerModel → ℕ → Entry → CallerModel → Type 0
looked old shard entry new = (new ≡ calling old.known ((shard, entry) ∷ old.seen) old.executed old.refused)
    × AllSameOrOlder old.seen shard entry × KnowsSameOrOlder old shard entry

-- an answer is counted by the caller whose request it answers
abbrev pub answer_counted : CallerModel → Answer → CallerModel → Type 0
answer_counted old answer new = new
    ≡ calling old.known old.seen (old.executed + executes answer) (old.refused + refuses answer)

-- A request for the shard came to the server: at a state of the board it is answered so, a pass gives its ticket, and
-- the caller counts the answer.
pub record HasArrived (setup : Setup) (opened : State) (old : CallerModel) (shard server : ℕ) (answer : Answer) (new : CallerModel) : Type 0 where
  pub at : HasAnswered setup opened (Arrive shard server) (played_by answer)
  pub tickets : tickets_in answer ≡ tickets_of shard server (played_by answer)
  pub counted : answer_counted old answer new

-- A request that was passed on came to the server that it was passed to: at a state of the board it is answered so, a
-- pass gives its ticket, the ticket that was handed in comes back if the answer does not spend it, and the caller
-- counts the answer.
pub record HasPassedOn (setup : Setup) (opened : State) (old : CallerModel) (ticket : Ticket) (answer : Answer) (new : CallerModel) : Type 0 where
  pub at : HasAnswered setup opened (PassOn ticket) (played_by answer)
  pub tickets : tickets_in answer
      ≡ (if spends (played_by answer) then tickets_of ticket.shard ticket.target (played_by answer) else ticket ∷ [])
  pub counted : answer_counted old answer new

-- a client: what it asks for, what it was answered, if it has asked, and its caller
pub record ClientModel : Type 0 where
  pub shard : ℕ
  pub asked : Option Asked
  pub caller : CallerModel

-- a client that asks for this shard, with what it was answered and its caller
abbrev pub asking : ℕ → Option Asked → CallerModel → ClientModel
asking shard asked caller = record { shard = shard; asked = asked; caller = caller }

-- what an ask for the shard may come to at a board with this configuration that was opened at this state, with the
-- caller before and after it
abbrev pub IsAsk : Setup → State → ℕ → CallerModel → Asked → CallerModel → Type 0
IsAsk setup opened shard = HasAsked looked (HasArrived setup opened) (HasPassedOn setup opened) shard

-- Before its ask at such a board a client's caller has seen and counted nothing, and then what this ask has seen and
-- counted, whatever it knew of the map.
abbrev pub IsClient : Setup → State → ClientModel → Type 0
IsClient setup opened client = stands client.asked
  where
    stands : Option Asked → Type 0
    stands None = IsNewCaller client.caller
    stands (Some said) = (known : List Entry)
        × IsAsk setup opened client.shard (calling known [] 0 0) said client.caller

-- A client that had not asked has asked once at such a board, for its shard. One that had is as it was.
abbrev pub AsksOnce : Setup → State → ClientModel → ClientModel → Type 0
AsksOnce setup opened old new = once old.asked
  where
    once : Option Asked → Type 0
    once None = (said : Asked) × (new ≡ asking old.shard (Some said) new.caller)
        × IsAsk setup opened old.shard old.caller said new.caller
    once (Some said) = new ≡ old
