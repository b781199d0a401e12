-- Events at a machine under one who has all rights that it gives away.
-- `HasHappenedAs` and `HasHappenedIf` are internal: you need not read them for the public contracts.
use Rattle.std.specs.Prelude.{◌≡◌, ◌≢◌, Option, Some, None}
use Rattle.sm_protocol.specs.declared.event.Played.{Played}
use Rattle.sm_protocol.specs.declared.event.Played.TheVariants as played
use Rattle.sm_protocol.specs.Steps.{Answered}
use Rattle.sm_protocol.specs.Happens.{Happening, happens}
use Rattle.sm_protocol.specs.Laws.{NamesKnown}
use Rattle.sm_protocol.specs.declared.event.Event.{Event}
use Rattle.sm_protocol.specs.declared.event.Event.TheVariants as event
use Rattle.sm_placement.specs.Setup.{Sizes}
use Rattle.sm_machine.specs.Machine.{MachineModel}
use Rattle.sm_machine.specs.State.{state_of}

-- The event has happened, with this answer. The configuration is as it was.
pub record HasHappenedAs (m : MachineModel) (e : Happening) (answer : Played) (n : MachineModel) : Type 0 where
  pub event : happens (state_of m) e ≡ (Answered answer, state_of n)
  pub setup : n.placement.setup ≡ m.placement.setup

-- the same of an event, if there is one; if there is none, it is unknown, and nothing has changed
abbrev pub HasHappenedIf : MachineModel → Option Happening → Played → MachineModel → Type 0
HasHappenedIf m None answer n = (answer ≡ played.Unknown) × (n ≡ m)
HasHappenedIf m (Some e) answer n = HasHappenedAs m e answer n

-- The event has happened, with this answer, which is not that the machine is halted. The configuration is as it was.
pub record IsDirected (m : MachineModel) (e : Happening) (answer : Played) (n : MachineModel) : Type 0 where
  pub event : happens (state_of m) e ≡ (Answered answer, state_of n)
  pub running : answer ≢ played.Halted
  pub setup : n.placement.setup ≡ m.placement.setup

-- the same of an event, if there is one; if there is none, it is unknown, and nothing has changed
abbrev pub IsDirectedIf : MachineModel → Option Happening → Played → MachineModel → Type 0
IsDirectedIf m None answer n = (answer ≡ played.Unknown) × (n ≡ m)
IsDirectedIf m (Some e) answer n = IsDirected m e answer n

-- The event names known shards and servers, and a refill is within its limit. The end of a restart may name any server:
-- nothing has ended if the server is unknown.
abbrev pub CanDirect : Sizes → Event → Type 0
CanDirect c (event.Done v) = Unit {0}
CanDirect c e = NamesKnown c e
