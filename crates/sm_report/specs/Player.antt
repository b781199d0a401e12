-- The player of events: a machine with all its rights, and the plans of a document.
-- Internal definitions: you need not read them for the public contracts.
use Rattle.std.specs.Prelude.{◌≡◌, ◌≢◌, ◌<◌, ◌≤◌, ◌^◌, ℕ, length, map}
use Rattle.sm_protocol.specs.declared.event.Event.{Event}
use Rattle.sm_protocol.specs.declared.event.Event.TheVariants as event
use Rattle.sm_protocol.specs.declared.event.Played.{Played}
use Rattle.sm_protocol.specs.declared.event.Played.TheVariants as played
use Rattle.sm_protocol.specs.Steps.{Answered}
use Rattle.sm_machine.specs.Hand.{AreFor, hand_plan}
use Rattle.sm_machine.specs.State.{state_of}
use Rattle.sm_report.specs.declared.player.Player.{Player}
use Rattle.sm_report.specs.Playing.{Scene, event_turn}

-- the scene that a player is at
abbrev pub scene_of : Player → Scene
scene_of p = record { state = state_of p.director; waiting = map hand_plan p.waiting.items; places = p.places.items }

-- Each plan that has begun has its place, and each that waits was checked for the machine's configuration.
pub record IsSetUp (p : Player) : Type 0 where
  pub places : length p.places.items ≡ length (state_of p.director).plans
  pub few : length p.places.items ≤ 2 ^ 32
  pub checked : AreFor p.director.placement.setup p.waiting.items

-- the event starts no plan
abbrev pub IsNoBegin : Event → Type 0
IsNoBegin (event.Begin place) = ⊥
IsNoBegin _ = Unit {0}

-- a plan whose start is answered is there
abbrev pub IsBegunThere : Scene → Played → Type 0
IsBegunThere x answer = (number : ℕ) → answer ≡ played.Begun number → number < length x.state.plans

-- The event was played, with this answer, which is not that the machine is halted. The configuration is as it was.
pub record IsEventPlayed (p : Player) (e : Event) (answer : Played) (q : Player) : Type 0 where
  pub turn : event_turn (scene_of p) e ≡ (Answered answer, scene_of q)
  pub running : answer ≢ played.Halted
  pub begun : IsBegunThere (scene_of q) answer
  pub ready : IsSetUp q
  pub setup : q.director.placement.setup ≡ p.director.placement.setup
