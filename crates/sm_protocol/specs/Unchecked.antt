-- A worked play of a plan that was not checked: its only call is refused. So the outcome that no checked plan has does
-- come.
use Rattle.std.specs.Prelude.{◌≡◌, false, None, [], ◌∷◌}
use Rattle.sm_server.specs.declared.call.Cell.TheVariants as cell
use Rattle.sm_plan_code.specs.declared.instruction.Instr.TheVariants as instr
use Rattle.sm_protocol.specs.declared.event.Played.TheVariants as played
use Rattle.sm_protocol.specs.Words.{Place, PlanModel, Sizes}
use Rattle.sm_reservation.specs.Rights.{no_rights}
use Rattle.sm_protocol.specs.State.{opened, stream_id}
use Rattle.sm_protocol.specs.Steps.{Answered, Refused}
use Rattle.sm_protocol.specs.Happens.{Begin, Step, outcomes}

-- one server with no replica of one shard
abbrev pub one_server : Sizes
one_server = record { servers = 1; shards = 1; room = λ v. 4; load = λ s. 4; floor = λ s. 0 }

-- a placement of it, with the server up
abbrev pub empty_place : Place
empty_place = record { cells = λ s v. cell.Absent; last = λ s v. 0; down = λ v. false; listed = λ s. None; version = λ s. 0; limit = 1 }

-- a plan that drops a replica without a right to it
abbrev pub drops_nothing : PlanModel
drops_nothing = record {
  budget = 1;
  streams = record { budget = 1; retries = 0; holds = no_rights; code = instr.Drop 0 0 ∷ [] } ∷ [];
  signals = [];
}

-- its start is answered, and its step is refused by the server
abbrev pub RefusalsCome : Type 0
RefusalsCome = outcomes (Begin drops_nothing ∷ Step (stream_id 0 0) ∷ []) (opened one_server empty_place 8)
    ≡ Answered (played.Begun 0) ∷ Refused ∷ []
