-- Plans end: rounds in which what is outstanding comes, and how many of them a plan takes.
use Rattle.std.specs.Prelude.{◌≡◌, ◌≤◌, ◌<◌, ◌⊎◌, ℕ, ◌+◌, ◌-◌, true, false, Some, List, [], ◌∷◌, length, slice_get}
use Rattle.std.specs.Prelude.{if◌then◌else◌}
use Rattle.std.specs.List.{AllByRecursion}
use Rattle.sm_placement.specs.Setup.{Setup}
use Rattle.sm_placement.specs.Sums.{sum_below}
use Rattle.sm_agent.specs.declared.order.Verdict.{Verdict}
use Rattle.sm_agent.specs.declared.order.Verdict.TheVariants as verdict
use Rattle.sm_protocol.specs.State.{is_running, is_unfinished, progress_of, stream_count, stream_id, stream_parts}
use Rattle.laws_network.specs.Words.{State, Step, StreamId}
use Rattle.laws_network.specs.Net.{Order}
use Rattle.laws_network.specs.World.{Publication}
use Rattle.laws_network.specs.Controller.{Letter, Notice, letter_of, is_local, notice_of}
use Rattle.laws_network.specs.Fleet.{Committed, Fleet, FleetEvent, HearOwner, HearServer, Judge, Make, Open, Publish}
use Rattle.laws_network.specs.Fleet.{controller, fleet_comes, fleet_run, owner_verdict, verdict_of}
use Rattle.laws_network.specs.FleetLaws.{AllFleetFit, AreNamedKnown}

-- ---- along a list of events

-- This is so at some event of a list: of the fleet then, of the event, and of the events behind it.
abbrev pub Sometime : (Fleet → FleetEvent → List FleetEvent → Type 0) → List FleetEvent → Fleet → Type 0
Sometime P [] f = ⊥
Sometime P (e ∷ es) f = P f e es ⊎ Sometime P es (fleet_comes f e).1

-- this is so of the fleet before, between and behind the events of a list
abbrev pub Always : (Fleet → Type 0) → List FleetEvent → Fleet → Type 0
Always P [] f = P f
Always P (e ∷ es) f = P f × Always P es (fleet_comes f e).1

-- ---- what comes in a round

-- an answer to the order comes to the controller
abbrev pub AnswerComes : Order → List FleetEvent → Fleet → Type 0
AnswerComes o = Sometime (λ f e es. (k : ℕ) × (e ≡ HearServer k) × (slice_get f.answers k ≡ Some o))

-- the work of the order ends, and then its answer comes
abbrev pub WorkEnds : Order → List FleetEvent → Fleet → Type 0
WorkEnds o = Sometime (λ f e es. ((fleet_comes f e).0 ≡ Committed o) × AnswerComes o es (fleet_comes f e).1)

-- What a server owes by its verdict: the end of a work that it begins or is at, and the answer to an order that has had
-- its effect. It owes nothing to an order that it turns away.
abbrev pub ServerKeeps : Verdict → Order → List FleetEvent → Fleet → Type 0
ServerKeeps verdict.Begin o es f = WorkEnds o es f
ServerKeeps verdict.Working o es f = WorkEnds o es f
ServerKeeps verdict.Again o es f = AnswerComes o es f
ServerKeeps _ o es f = Unit {0}

-- the order comes to its server, which keeps what it owes then
abbrev pub OrderComes : Letter → List FleetEvent → Fleet → Type 0
OrderComes l = Sometime (λ f e es. (k : ℕ) × (e ≡ Judge k) × (slice_get f.sent k ≡ Some l)
    × ServerKeeps (verdict_of f l) l.order es (fleet_comes f e).1)

-- the map owner's answer to the publication comes to the controller
abbrev pub ConfirmationComes : Publication → List FleetEvent → Fleet → Type 0
ConfirmationComes p = Sometime (λ f e es. (k : ℕ) × (e ≡ HearOwner k) × (slice_get f.stored k ≡ Some p))

-- The map's owner owes its answer to a publication that it takes or has taken, and nothing to one that it turns away.
abbrev pub OwnerKeeps : Verdict → Publication → List FleetEvent → Fleet → Type 0
OwnerKeeps verdict.Begin p es f = ConfirmationComes p es f
OwnerKeeps verdict.Again p es f = ConfirmationComes p es f
OwnerKeeps _ p es f = Unit {0}

-- the publication comes to the map's owner, which keeps what it owes then
abbrev pub PublicationComes : Notice → List FleetEvent → Fleet → Type 0
PublicationComes n = Sometime (λ f e es. (k : ℕ) × (e ≡ Publish k) × (slice_get f.published k ≡ Some n)
    × OwnerKeeps (owner_verdict f n) n.publication es (fleet_comes f e).1)

-- Of a present order something comes: the order itself, the end of its work, or an answer to it.
abbrev pub OrderGoesOn : Letter → List FleetEvent → Fleet → Type 0
OrderGoesOn l es f = OrderComes l es f ⊎ (WorkEnds l.order es f ⊎ AnswerComes l.order es f)

-- so it is of a present publication
abbrev pub PublicationGoesOn : Notice → List FleetEvent → Fleet → Type 0
PublicationGoesOn n es f = PublicationComes n es f ⊎ ConfirmationComes n.publication es f

-- the event opens no epoch; none opens before all plans are done
abbrev pub StaysInEpoch : FleetEvent → Type 0
StaysInEpoch (Open room) = ⊥
StaysInEpoch _ = Unit {0}

-- A round is a list of events, among which whatever is outstanding at its beginning comes: each local step is made; and
-- of each present order and publication the message comes, or the end of the work, or the answer, and what follows from
-- it. Anything else may come between: plans may start, and messages may be late, lost or sent again. No server that an
-- unfinished plan names loses its slots.
pub record IsRound (setup : Setup) (f : Fleet) (es : List FleetEvent) : Type 0 where
  pub fit : AllFleetFit setup f es
  pub epoch : AllByRecursion StaysInEpoch es
  pub known : Always AreNamedKnown es f
  pub steps : (id : StreamId) → is_running (controller f).w id ≡ true → is_local (controller f).w (Step id) ≡ true
      → Sometime (λ g e rest. e ≡ Make (Step id)) es f
  pub orders : (id : StreamId) (l : Letter) → letter_of (controller f) id ≡ Some l → OrderGoesOn l es f
  pub publications : (id : StreamId) (n : Notice) → notice_of (controller f) id ≡ Some n → PublicationGoesOn n es f

-- ---- how many rounds

-- the instructions that a stream has left, and its end
abbrev pub stream_left : State → StreamId → ℕ
stream_left w id = if (progress_of w id).done then 0 else length (stream_parts w id).code + 1 - (progress_of w id).at

-- what all streams of a plan have left
abbrev pub steps_left : State → ℕ → ℕ
steps_left w k = sum_below (stream_count w k) (λ i. stream_left w (stream_id k i))

-- the lists are rounds, one after the other
abbrev pub AreRounds : Setup → Fleet → List (List FleetEvent) → Type 0
AreRounds setup f [] = Unit {0}
AreRounds setup f (es ∷ rounds) = IsRound setup f es × AreRounds setup (fleet_run es f) rounds

-- the fleet after these rounds
abbrev pub after_rounds : List (List FleetEvent) → Fleet → Fleet
after_rounds [] f = f
after_rounds (es ∷ rounds) f = after_rounds rounds (fleet_run es f)

-- A plan that has started is done after at most as many rounds as its streams have steps left.
abbrev pub RoundsEndPlans : Setup → Fleet → Type 0
RoundsEndPlans setup f = (rounds : List (List FleetEvent)) (k : ℕ) → AreRounds setup f rounds
    → k < length (controller f).w.plans →
    steps_left (controller f).w k ≤ length rounds → is_unfinished (controller (after_rounds rounds f)).w k ≡ false

-- While each server that an unfinished plan names has its slots, a round can come.
abbrev pub RoundCanCome : Setup → Fleet → Type 0
RoundCanCome setup f = AreNamedKnown f → (es : List FleetEvent) × IsRound setup f es
