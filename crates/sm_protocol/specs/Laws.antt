-- The laws of the protocol, behind their premises: what holds of every state that events lead to.
use Rattle.std.specs.Prelude.{◌≡◌, ◌≢◌, ◌≤◌, ◌<◌, ◌↔◌, ◌⊎◌, ℕ, suc, ◌+◌, ◌==◌, ◌&&◌, ◌++◌, Bool, true, false, Option}
use Rattle.std.specs.Prelude.{Some, None, List, [], ◌∷◌, length, count_by, Contains, nat_lt, slice_index_or, take}
use Rattle.std.specs.Prelude.{if◌then◌else◌}
pub use Rattle.sm_protocol.specs.Words.{AllByRecursion, Cell, Entry, Event, Instr, IsAllowed, IsCheckedPlan}
pub use Rattle.sm_protocol.specs.Words.{IsPlacement, IsServing, IsSettled, IsSetup, MOST_CALLS, MOST_PLACES, OfRoom}
pub use Rattle.sm_protocol.specs.Words.{OfSpare, Passage, Place, PlanModel, Played, ServerCall, Setup, Sizes, StreamId}
pub use Rattle.sm_protocol.specs.Words.{VERSIONS_END, bit, down_count, entry_at, is_call, live_at, load_at, places_of}
pub use Rattle.sm_protocol.specs.Words.{sizes_of}
use Rattle.sm_protocol.specs.State.{State, opened, stream_parts, progress_of, is_begun, is_running, is_unfinished}
use Rattle.sm_protocol.specs.State.{next_instruction, reach, held, pool, free_places, numbers_end}
use Rattle.sm_protocol.specs.Steps.{Outcome, Refused, Answered, call_number, call_to_make, step}
use Rattle.sm_protocol.specs.Happens.{Happening, Step, Lose, Refill, Arrive, PassOn, Approve, Done, Begin}
use Rattle.sm_protocol.specs.Happens.{has_all_plans, happens, run, outcomes}
use Rattle.sm_protocol.specs.Hand.{Hand, Game, spends, play, plays, all_given, played_events, or_unknown}
use Rattle.sm_protocol.specs.Safe.{HasSpent, IsAccepted, IsApproved, IsSafe, SomeCanStep, SomeCanStepOrSpent, unhalted}
use Rattle.sm_protocol.specs.Log.{IsAtEnds, IsInLog}

-- A machine opens on a settled placement of a configuration, with a log of at most 1,048,576 places, one at least for
-- each server that is down.
pub record IsOpening (setup : Setup) (p : Place) (room : ℕ) : Type 0 where
  pub rows : IsSetup setup
  pub placement : IsPlacement (sizes_of setup) p
  pub settled : IsSettled (sizes_of setup) p
  pub least : down_count (sizes_of setup) p ≤ room
  pub most : room ≤ MOST_PLACES

-- the event names known shards and servers, a plan that is to start was checked, and a refill is within its limit
abbrev pub FitsConfig : Sizes → Happening → Type 0
FitsConfig c (Begin plan) = IsCheckedPlan c plan
FitsConfig c (Arrive s v) = (s < c.shards) × (v < c.servers)
FitsConfig c (Approve v) = v < c.servers
FitsConfig c (Done v) = v < c.servers
FitsConfig c (Refill id more) = more ≤ MOST_CALLS
FitsConfig c _ = Unit {0}

-- each of these events is so
abbrev pub AllFit : Sizes → List Happening → Type 0
AllFit c es = AllByRecursion (FitsConfig c) es

-- none of these outcomes is that of a call that was refused
abbrev pub AreServed : List Outcome → Type 0
AreServed os = AllByRecursion (λ o. o ≢ Refused) os

-- No event that comes next has its call refused, the halt flag aside: so none of a halted machine has it either, once
-- it is resumed. A call that is lost before it comes to its server is one that this would have served: as a step, the
-- same try goes through.
abbrev pub NextIsServed : State → Type 0
NextIsServed w = (e : Happening) → FitsConfig w.sizes e → (happens (unhalted w) e).0 ≢ Refused

-- A state that events have led to from an opening, the halt flag aside: it may have been set and cleared among them,
-- since a step under it changes nothing.
pub record IsReached (setup : Setup) (w : State) : Type 0 where
  pub place : Place
  pub room : ℕ
  pub events : List Happening
  pub opening : IsOpening setup place room
  pub fit : AllFit (sizes_of setup) events
  pub state : unhalted w ≡ run events (opened (sizes_of setup) place room)

-- each state that events lead to is so
abbrev pub EachReached : (State → Type 0) → Type 0
EachReached P = (setup : Setup) (w : State) → IsReached setup w → P w

-- the event is none by which a call may be lost
abbrev pub LosesNothing : Happening → Type 0
LosesNothing (Lose id after) = ⊥
LosesNothing _ = Unit {0}

-- the log has a lost call of the stream
abbrev pub HasLost : State → StreamId → Type 0
HasLost w id = (after : Bool) × Contains w.log (record { event = Event.Lose id after; answer = Played.Lost })

-- no stream that has not finished has a lost call in the log
abbrev pub HasNoLost : State → Type 0
HasNoLost w = (id : StreamId) → is_begun w id ≡ true → (progress_of w id).done ≡ false → ¬ HasLost w id

-- a checked plan is begun exactly if it is accepted, the log has its places and another plan may run
abbrev pub BegunWhereAccepted : Type 0
BegunWhereAccepted = (setup : Setup) (w : State) (plan : PlanModel) → IsReached setup w → IsCheckedPlan w.sizes plan →
    ((happens w (Begin plan)).0 ≡ Answered (Played.Begun (length w.plans))) ↔ (IsAccepted w plan
    × (places_of plan ≤ free_places w) × (has_all_plans w ≡ false))

-- a restart is approved exactly if the server is up, no unfinished stream's code mentions it, the caps allow it and the
-- log has its places
abbrev pub ApprovedWhereReserved : Type 0
ApprovedWhereReserved = (setup : Setup) (w : State) (v : ℕ) → IsReached setup w → v < w.sizes.servers →
    ((happens w (Approve v)).0 ≡ Answered Played.Approved) ↔ IsApproved w v

-- From a state in whose log no unfinished stream has a lost call, whatever list of starts of checked plans, stream
-- steps, refills, requests and restart events follows: no call of it was refused, no event that comes next has its call
-- refused, the state is safe, and of each plan that isn't done some stream can step. Each front of the list is such a
-- list too: so this holds after each of its events.
abbrev pub Headline : Type 0
Headline = (setup : Setup) (w : State) (es : List Happening) → IsReached setup w → HasNoLost w
    → AllFit (sizes_of setup) es → AllByRecursion LosesNothing es →
    AreServed (outcomes es w) × NextIsServed (run es w) × IsSafe (run es w) × SomeCanStep (run es w)

-- In every state that events lead to, lost calls among them: no event that comes next has its call refused, the state
-- is safe, and of each plan that isn't done some stream can step, or one that hasn't finished has spent its allowance.
abbrev pub WithLosses : Type 0
WithLosses = (setup : Setup) (w : State) → IsReached setup w → NextIsServed w × IsSafe w × SomeCanStepOrSpent w

-- A server's cell of a call's shard and its number let it serve the call: it is up, and the call repeats the one that
-- had its effect on the cell last, or it is allowed.
pub record IsServable (w : State) (x : ServerCall) (number : ℕ) : Type 0 where
  pub up : w.place.down x.server ≡ false
  pub serves : (number ≡ w.place.last x.shard x.server)
      ⊎ ((to : Cell) × IsAllowed w.sizes w.place x.shard x.server x.call to)

-- The call of each try that a running stream may make next, be it lost or not, is one that its server has to serve.
-- This is told by what the server has, and not by what it answers.
abbrev pub TriesAreAllowed : State → Type 0
TriesAreAllowed w = (id : StreamId) (i : Instr) (x : ServerCall) → is_running w id ≡ true
    → next_instruction w id ≡ Some i →
    call_to_make w (progress_of w id) i ≡ Some x → IsServable w x (call_number w (progress_of w id))

-- From a state in whose log no unfinished stream has a lost call, along whatever events that lose none: no stream has
-- spent its allowance, and each that has not finished has made no more tries than its budget.
abbrev pub UnlostIsUnspent : Type 0
UnlostIsUnspent = (setup : Setup) (w : State) (es : List Happening) → IsReached setup w → HasNoLost w
    → AllFit (sizes_of setup) es → AllByRecursion LosesNothing es →
    ((id : StreamId) → ¬ HasSpent (run es w) id)
    × ((id : StreamId) → is_running (run es w) id ≡ true
    → (progress_of (run es w) id).tries ≤ (stream_parts (run es w) id).budget)

-- no step of a stream that was begun is Unknown
abbrev pub BegunIsKnown : Type 0
BegunIsKnown = (w : State) (id : StreamId) (passage : Passage) → is_begun w id ≡ true
    → (step w id passage).0 ≢ Answered Played.Unknown

-- if an event of the stream leads from one state to the other: the number of its try, if the call had its effect just
-- then
abbrev pub effect_of_stream : State → StreamId → State → List ℕ
effect_of_stream w id new = if nat_lt (progress_of w id).effects (progress_of new id).effects then call_number w (progress_of w id) ∷ [] else []

-- the number of the call that has its effect by the event, if there is one
abbrev pub effect_numbers_at : State → Happening → List ℕ
effect_numbers_at w (Step id) = effect_of_stream w id (happens w (Step id)).1
effect_numbers_at w (Lose id after) = effect_of_stream w id (happens w (Lose id after)).1
effect_numbers_at w _ = []

-- the numbers of the calls that have their effect along a list of events
abbrev pub effect_numbers : List Happening → State → List ℕ
effect_numbers [] w = []
effect_numbers (e ∷ es) w = effect_numbers_at w e ++ effect_numbers es (happens w e).1

-- no call can have its first effect under the number any more: it was given, and a call under way under it has had its
-- effect
pub record IsSpent (w : State) (n : ℕ) : Type 0 where
  pub used : n < w.next_number
  pub had : (id : StreamId) → (progress_of w id).pending ≡ n → n ≢ 0 → (progress_of w id).ahead ≡ true

-- Along a list of events that leads from one state to the other the number has its effect once at most, and never if it
-- is spent before. It is spent afterwards if it was before, or if it has its effect along the list: so along no later
-- list it has its effect again.
pub record HasEffectOnce (w : State) (es : List Happening) (new : State) (n : ℕ) : Type 0 where
  pub once : count_by (λ m. m == n) (effect_numbers es w) ≤ 1
  pub unspent : IsSpent w n → count_by (λ m. m == n) (effect_numbers es w) ≡ 0
  pub still : IsSpent w n → IsSpent new n
  pub spent : Contains (effect_numbers es w) n → IsSpent new n

-- no number of a call has its effect twice, neither along one list of events nor along lists one after the other
abbrev pub EffectsOnce : Type 0
EffectsOnce = (setup : Setup) (w : State) (es : List Happening) (n : ℕ) → IsReached setup w
    → AllFit (sizes_of setup) es → HasEffectOnce w es (run es w) n

-- A stream has had as many effects as there are calls among the instructions that it has made, with the one that has
-- had its effect and was not answered.
abbrev pub CountsEffects : State → Type 0
CountsEffects w = (id : StreamId) → is_begun w id ≡ true →
    (progress_of w id).effects ≡ count_by is_call (take (reach (progress_of w id).at (progress_of w id).ahead) (stream_parts w id).code)

-- the answer spends a ticket of this place of the log
abbrev pub spends_at : ℕ → Happening → Outcome → Bool
spends_at place (PassOn t) (Answered answer) = (t.place == place) && spends answer
spends_at place _ _ = false

-- how many answers along a list of events spend a ticket of this place
abbrev pub times_spent : ℕ → List Happening → State → ℕ
times_spent place [] w = 0
times_spent place (e ∷ es) w = bit (spends_at place e (happens w e).0) + times_spent place es (happens w e).1

-- Each ticket is spent by one answer at most, and so are all tickets of one place of the log together.
abbrev pub TicketsOnce : Type 0
TicketsOnce = (w : State) (es : List Happening) (place : ℕ) → times_spent place es w ≤ 1

-- the shard that a request is for
abbrev pub asked : Happening → Option ℕ
asked (Arrive s v) = Some s
asked (PassOn t) = Some t.shard
asked _ = None

-- who executes a request that comes next is the one server that serves its shard
abbrev pub ExecutedServes : State → Type 0
ExecutedServes w = (e : Happening) (s v : ℕ) → asked e ≡ Some s → (happens w e).0 ≡ Answered (Played.Executed v) →
    IsServing w.place s v × ((u : ℕ) → IsServing w.place s u → u ≡ v)

-- the entry of a shard in the map of a placement, once these were added to it, the newest first
abbrev pub entry_after : List (ℕ × Entry) → Place → ℕ → Entry
entry_after [] p s = entry_at p s
entry_after (x ∷ xs) p s = if x.0 == s then x.1 else entry_after xs p s

-- the version of each that was added is one more than that of its shard's entry before it
abbrev pub RiseByOne : List (ℕ × Entry) → Place → Type 0
RiseByOne [] p = Unit {0}
RiseByOne (x ∷ xs) p = (x.1.version ≡ suc (entry_after xs p x.0).version) × RiseByOne xs p

-- the published map is that of the opening, once the entries were added that the state has of publications
pub record FollowsEntries (w : State) : Type 0 where
  pub map : (s : ℕ) → entry_at w.place s ≡ entry_after w.entries w.opening s
  pub versions : RiseByOne w.entries w.opening

-- an event that is not recorded and starts no plan changes nothing
abbrev pub UnrecordedChangesNothing : Type 0
UnrecordedChangesNothing = (w : State) (e : Happening) → (happens w e).1.log ≡ w.log → (happens w e).1.plans ≡ w.plans
    → (happens w e).1 ≡ w

-- every plan is done
abbrev pub AreDone : State → Type 0
AreDone w = (k : ℕ) → k < length w.plans → is_unfinished w k ≡ false

-- if all plans are done, each stream's instructions stand in the log in their order, each once, then its end, and the
-- placement is the end of the plans in the order of their starts, whatever the schedule was
abbrev pub EndsAreReached : Type 0
EndsAreReached = (setup : Setup) (w : State) → IsReached setup w → AreDone w →
    ((id : StreamId) → is_begun w id ≡ true → IsInLog w id) × IsAtEnds w

-- A list of events that is played with a hand makes the run of those for which the hand has something, with what it
-- gives: they lead to the same state and have the same outcomes, and all others are Unknown.
abbrev pub PlaysAreRuns : Type 0
PlaysAreRuns = (es : List Event) (g : Game) →
    ((play es g).state ≡ run (played_events es g) g.state)
    × (plays es g ≡ or_unknown (all_given es g) (outcomes (played_events es g) g.state))

-- The facts that hold of a list of events that happen from a state.
pub record IsSafeRun (setup : Setup) (es : List Happening) (w : State) : Type 0 where
  -- events lead to the state after the list
  pub reached : IsReached setup (run es w)
  -- no call is refused, and no event that comes next has its call refused
  pub served : AreServed (outcomes es w)
  pub next : NextIsServed (run es w)
  -- who executes a request that comes next is the one server that serves its shard
  pub executed : ExecutedServes (run es w)
  -- each number of a call has its effect once at most, along this list or along lists one after the other
  pub effects : (n : ℕ) → HasEffectOnce w es (run es w) n
  -- all tickets of one place of the log together are spent by one answer at most
  pub tickets : (place : ℕ) → times_spent place es w ≤ 1
  -- the state after the list is safe
  pub safe : IsSafe (run es w)
  -- there, of each plan that isn't done some stream can step, or one that isn't done has spent its allowance
  pub onward : SomeCanStepOrSpent (run es w)
  -- and some stream can step if no unfinished stream had a lost call in the log, and the list loses none
  pub unlost : HasNoLost w → AllByRecursion LosesNothing es → SomeCanStep (run es w)

-- The headline, and the laws on lost calls, on the effects of calls, on requests and on tickets, of every list of
-- events that fit, from a state that events have led to. Each front of the list is such a list too.
abbrev pub RunsAreSafe : Type 0
RunsAreSafe = (setup : Setup) (w : State) (es : List Happening) → IsReached setup w → AllFit (sizes_of setup) es
    → IsSafeRun setup es w

-- the event names known shards and servers, and a refill is within its limit
abbrev pub NamesKnown : Sizes → Event → Type 0
NamesKnown c (Event.Arrive s v) = (s < c.shards) × (v < c.servers)
NamesKnown c (Event.Approve v) = v < c.servers
NamesKnown c (Event.Done v) = v < c.servers
NamesKnown c (Event.Refill id more) = more ≤ MOST_CALLS
NamesKnown c _ = Unit {0}

-- the event asks for no lost call
abbrev pub AsksNoLoss : Event → Type 0
AsksNoLoss (Event.Lose id after) = ⊥
AsksNoLoss _ = Unit {0}

-- each plan in the hand was checked for a configuration of these numbers
abbrev pub AreChecked : Sizes → Hand → Type 0
AreChecked c h = (place : ℕ) (plan : PlanModel) → slice_index_or h.plans place None ≡ Some plan → IsCheckedPlan c plan

-- The facts that hold of a list of events that is played from a game.
pub record IsPlayed (setup : Setup) (es : List Event) (g : Game) : Type 0 where
  -- what the hand gives for the events fits the configuration
  pub fit : AllFit (sizes_of setup) (played_events es g)
  -- events lead to the state after the list
  pub reached : IsReached setup (play es g).state
  -- each plan that is left in the hand was checked
  pub checked : AreChecked (sizes_of setup) (play es g).hand
  -- no call is refused, and no event that comes next has its call refused
  pub served : AreServed (plays es g)
  pub next : NextIsServed (play es g).state
  -- who executes a request that comes next is the one server that serves its shard
  pub executed : ExecutedServes (play es g).state
  -- each number of a call has its effect once at most, along this list or along lists one after the other
  pub effects : (n : ℕ) → HasEffectOnce g.state (played_events es g) (play es g).state n
  -- all tickets of one place of the log together are spent by one answer at most
  pub tickets : (place : ℕ) → times_spent place (played_events es g) g.state ≤ 1
  -- the state after the list is safe
  pub safe : IsSafe (play es g).state
  -- there, of each plan that isn't done some stream can step, or one that isn't done has spent its allowance
  pub onward : SomeCanStepOrSpent (play es g).state
  -- and some stream can step if no unfinished stream had a lost call in the log, and the list asks for none
  pub unlost : HasNoLost g.state → AllByRecursion AsksNoLoss es → SomeCanStep (play es g).state

-- The headline, and the laws on lost calls, on the effects of calls and on tickets, of every list of events that is
-- played with a hand of checked plans: the events name known shards and servers, and the game begins at a state that
-- events have led to.
abbrev pub PlaysAreSafe : Type 0
PlaysAreSafe = (setup : Setup) (es : List Event) (g : Game) → IsReached setup g.state
    → AreChecked (sizes_of setup) g.hand → AllByRecursion (NamesKnown (sizes_of setup)) es →
    IsPlayed setup es g

-- each server's room is what is free of it in the pool, what is held or under way, and its load; each shard's live
-- replicas are those that are free in the pool, those that are held or under way, and its floor
pub record IsConserved (w : State) : Type 0 where
  pub room : (v : ℕ) → v < w.sizes.servers
      → (pool w).room v + held w (OfRoom v) + load_at w.sizes w.place v ≡ w.sizes.room v
  pub spare : (s : ℕ) → s < w.sizes.shards
      → (pool w).spare s + held w (OfSpare s) + w.sizes.floor s ≡ live_at w.sizes w.place s

-- Versions and numbers stay far below what a word has room for, and the log within its room: each shard's version and
-- highest handover number, the number of the next call, those of calls under way, and the last one of each cell.
pub record IsSmall (w : State) : Type 0 where
  pub versions : (s : ℕ) → s < w.sizes.shards → w.place.version s < VERSIONS_END
  pub numbers : (s : ℕ) → w.numbers s < numbers_end
  pub next_number : w.next_number < numbers_end
  pub pendings : (id : StreamId) → (progress_of w id).pending < numbers_end
  pub lasts : (s v : ℕ) → w.place.last s v < numbers_end
  pub log : length w.log ≤ w.room
