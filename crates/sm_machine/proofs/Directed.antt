-- Events at a machine that nobody halts: the answers to steps, and the events that begin a plan.
use Rattle.std.proofs.Common.{◌≡◌, ◌≢◌, ◌<◌, ◌+◌, ◌∙◌, inl, inr, ◌∷◌, [], ℕ, Bool, true, false, Option, Some, None, length, Result, Ok, Err, refl, ap, sym, subst, arith, length-append}
use Rattle.std.specs.Prelude.{◌==◌, ◌&&◌, nat_lt, if◌then◌else◌}
use Rattle.std.proofs.lemmas.Bool.{cases_Bool}
use Rattle.sm_server.specs.declared.call.Cell.{Cell}
use Rattle.sm_server.specs.declared.call.Cell.TheVariants.{Absent, Prepared, Secondary, Primary, Forwarding}
use Rattle.sm_server.specs.declared.call.Refusal.{Refusal}
use Rattle.sm_placement.specs.Place.{CallEffect, called_numbered}
use Rattle.sm_reservation.specs.declared.stream_id.StreamId.{StreamId}
use Rattle.sm_plan_code.specs.declared.instruction.Instr.{Instr}
use Rattle.sm_plan_code.specs.declared.instruction.Instr.TheVariants.{PrepareAdd, PrepareDrop, Add, Drop, Change, Publish, Unlist, Signal, Wait}
use Rattle.sm_plan_code.specs.Plan.{PlanModel}
use Rattle.sm_plan_code.specs.declared.call.ServerCall.{ServerCall}
use Rattle.sm_protocol.specs.declared.event.Passage.{Passage}
use Rattle.sm_protocol.specs.declared.event.Passage.TheVariants.{Through, LostBefore, LostAfter}
use Rattle.sm_protocol.specs.declared.event.Played.{Played}
use Rattle.sm_protocol.specs.declared.event.Played.TheVariants as played
use Rattle.sm_protocol.specs.State.{State, progress_of, is_begun, allowance, next_instruction, free_places, recorded, logged, pool, places_of}
use Rattle.sm_protocol.specs.Steps.{Outcome, Answered, unchanged, call_number, call_to_make, tried, call_tried, made, step}
use Rattle.sm_protocol.specs.Ticket.{Ticket, is_open_ticket}
use Rattle.sm_protocol.specs.declared.event.Event.{Event}
use Rattle.sm_protocol.specs.declared.event.Event.TheVariants as event
use Rattle.sm_protocol.specs.declared.event.RefillFault.{RefillFault}
use Rattle.sm_protocol.specs.declared.event.BeginFault.TheVariants as fault
use Rattle.sm_task_controller.specs.declared.decision.Denied.{Denied}
use Rattle.sm_task_controller.specs.Decision.{denial}
use Rattle.sm_verifier.specs.declared.admission.Holding.{Holding}
use Rattle.sm_verifier.specs.FirstHolding.{first_holding}
use Rattle.sm_placement.specs.Place.{set_down}
use Rattle.sm_protocol.specs.Happens.{Happening, Step, Lose, Refill, Arrive, PassOn, Approve, Done, Begin, answer_by, reply_of, happens, requested, refill_fault, refilled, approved, engaged, begun, started, has_all_plans}
use Rattle.sm_protocol.proofs.Cases.{OfSteps, IsQuiet, parcel_taken, of_any, of_happens}
use Rattle.sm_protocol.proofs.Reached.{same_machine}
use Rattle.sm_machine.specs.Machine.{MachineModel}
use Rattle.sm_machine.specs.State.{state_of}
use Rattle.sm_machine.specs.Director.{HasHappenedIf, IsDirectedIf}

-- ---- what steps are answered

-- it is answered neither that the machine is halted nor that a plan has begun
abbrev pub IsOfStep : Outcome → Type 0
IsOfStep (Answered played.Halted) = ⊥
IsOfStep (Answered (played.Begun number)) = ⊥
IsOfStep _ = Unit {0}

abbrev pub Goes : Outcome × State → Type 0
Goes o = IsOfStep o.0

tried_goes : (w : State) (id : StreamId) (i : Instr) (passage : Passage) (answer : Result CallEffect Refusal) → Goes (tried w id i passage answer)
tried_goes w id i LostBefore answer = tt
tried_goes w id i Through (Ok effect) = tt
tried_goes w id i Through (Err why) = tt
tried_goes w id i LostAfter (Ok effect) = tt
tried_goes w id i LostAfter (Err why) = tt

call_goes : (w : State) (id : StreamId) (passage : Passage) (i : Instr) (call : Option ServerCall) → Goes (call_tried w id passage i call)
call_goes w id passage i None = tt
call_goes w id passage i (Some x) = by_tries ((progress_of w id).tries == allowance w id)
  where
    by_tries : (spent : Bool) → Goes (if spent then unchanged w played.Spent else tried w id i passage (called_numbered w.sizes w.place x.shard x.server x.call (call_number w (progress_of w id))))
    by_tries true = tt
    by_tries false = tried_goes w id i passage (called_numbered w.sizes w.place x.shard x.server x.call (call_number w (progress_of w id)))

made_goes : (w : State) (id : StreamId) (passage : Passage) (next : Option Instr) → Goes (made w id passage next)
made_goes w id passage None = tt
made_goes w id passage (Some (Publish s)) = tt
made_goes w id passage (Some (Unlist s)) = tt
made_goes w id passage (Some (Signal q)) = tt
made_goes w id passage (Some (Wait q)) = by_mark (w.marks id.plan q).posted
  where
    by_mark : (posted : Bool) → Goes (if posted then (Answered played.Moved, parcel_taken w id q) else unchanged w (played.Blocked q))
    by_mark true = tt
    by_mark false = tt
made_goes w id passage (Some (PrepareAdd s v u)) = call_goes w id passage (PrepareAdd s v u) (call_to_make w (progress_of w id) (PrepareAdd s v u))
made_goes w id passage (Some (PrepareDrop s u v)) = call_goes w id passage (PrepareDrop s u v) (call_to_make w (progress_of w id) (PrepareDrop s u v))
made_goes w id passage (Some (Add s v role)) = call_goes w id passage (Add s v role) (call_to_make w (progress_of w id) (Add s v role))
made_goes w id passage (Some (Drop s v)) = call_goes w id passage (Drop s v) (call_to_make w (progress_of w id) (Drop s v))
made_goes w id passage (Some (Change s v role)) = call_goes w id passage (Change s v role) (call_to_make w (progress_of w id) (Change s v role))

pub step_goes : (w : State) (id : StreamId) (passage : Passage) → w.halted ≡ false → Goes (step w id passage)
step_goes w id passage runs =
    subst
    (λ (halted : Bool). Goes (if halted then unchanged w played.Halted
    else if is_begun w id then (if (progress_of w id).done then unchanged w played.Done else made w id passage (next_instruction w id))
    else unchanged w played.Unknown))
    (sym runs)
    (by_begun (is_begun w id))
  where
    by_done : (ended : Bool) → Goes (if ended then unchanged w played.Done else made w id passage (next_instruction w id))
    by_done true = tt
    by_done false = made_goes w id passage (next_instruction w id)

    by_begun : (begun : Bool) → Goes (if begun then (if (progress_of w id).done then unchanged w played.Done else made w id passage (next_instruction w id)) else unchanged w played.Unknown)
    by_begun true = by_done (progress_of w id).done
    by_begun false = tt

-- ---- events

-- it is not answered that the machine is halted
abbrev IsNotHalted : Played → Type 0
IsNotHalted played.Halted = ⊥
IsNotHalted _ = Unit {0}

cell_runs : (cell : Cell) (server : ℕ) (sent : Option Ticket) (place : ℕ) → IsNotHalted (answer_by cell server sent place)
cell_runs Absent server sent place = tt
cell_runs Secondary server sent place = tt
cell_runs Primary server sent place = tt
cell_runs (Forwarding to n) server sent place = tt
cell_runs (Prepared from n) server None place = tt
cell_runs (Prepared from n) server (Some t) place = by_same ((from == t.sender) && (n == t.number))
  where
    by_same : (same : Bool) → IsNotHalted (if same then played.Executed server else played.NotOwner)
    by_same true = tt
    by_same false = tt

reply_runs : (w : State) (s v : ℕ) (sent : Option Ticket) → IsNotHalted (reply_of w s v sent)
reply_runs w s v sent = by_down (w.place.down v)
  where
    by_down : (down : Bool) → IsNotHalted (if down then played.Unavailable else answer_by (w.place.cells s v) v sent (length w.log))
    by_down true = tt
    by_down false = cell_runs (w.place.cells s v) v sent (length w.log)

requested_runs : (w : State) (s v : ℕ) (sent : Option Ticket) (e : Event) (a : Played) → (requested w s v sent e).0 ≡ Answered a → a ≢ played.Halted
requested_runs w s v sent e a is = by_room (free_places w == 0) is
  where
    by_room : (full : Bool) → (if full then unchanged w played.LogFull else (let answer = reply_of w s v sent in (Answered answer, recorded w e answer))).0 ≡ Answered a → a ≢ played.Halted
    by_room true is h = cc
    by_room false is h = subst IsNotHalted (let same : reply_of w s v sent ≡ a = cc in same ∙ h) (reply_runs w s v sent)

-- a machine that is not halted answers no event so
pub goes : (w : State) (e : Happening) (a : Played) → w.halted ≡ false → (happens w e).0 ≡ Answered a → a ≢ played.Halted
goes w (Step id) a runs is h = subst IsOfStep (is ∙ ap Answered h) (step_goes w id Through runs)
goes w (Lose id after) a runs is h = subst IsOfStep (is ∙ ap Answered h) (step_goes w id (if after then LostAfter else LostBefore) runs)
goes w (Refill id more) a runs is h = by_fault (refill_fault w id more) is
  where
    by_fault : (o : Option RefillFault) → (refilled w id more o).0 ≡ Answered a → ⊥
    by_fault None is = cc
    by_fault (Some why) is = cc
goes w (Arrive s v) a runs is h = requested_runs w s v None (event.Arrive s v) a is h
goes w (PassOn t) a runs is h = by_ticket (is_open_ticket w.log t) is h
  where
    by_ticket : (is_open : Bool) → (if is_open then requested w t.shard t.target (Some t) (event.PassOn t.place) else unchanged w played.Unknown).0 ≡ Answered a → a ≢ played.Halted
    by_ticket true is h = requested_runs w t.shard t.target (Some t) (event.PassOn t.place) a is h
    by_ticket false is h = cc
goes w (Approve v) a runs is h = by_denial (denial w.sizes w.place (pool w) (engaged w v) (free_places w) v) is
  where
    by_denial : (o : Option Denied) → (approved w v o).0 ≡ Answered a → ⊥
    by_denial None is = cc
    by_denial (Some why) is = cc
goes w (Done v) a runs is h = by_down (w.place.down v) is
  where
    by_down : (down : Bool) → (if down then (Answered played.Up, record w { place = set_down w.place v false; log = logged w (event.Done v) played.Up }) else unchanged w played.Unknown).0 ≡ Answered a → ⊥
    by_down true is = cc
    by_down false is = cc
goes w (Begin plan) a runs is h = by_holding (first_holding w.sizes w.place (pool w) plan) is
  where
    by_plans : (all : Bool) → (if all then unchanged w (played.NotBegun fault.TooManyPlans) else (Answered (played.Begun (length w.plans)), started w plan)).0 ≡ Answered a → ⊥
    by_plans true is = cc
    by_plans false is = cc

    by_log : (full : Bool) → (if full then unchanged w (played.NotBegun fault.LogFull)
        else if has_all_plans w then unchanged w (played.NotBegun fault.TooManyPlans)
        else (Answered (played.Begun (length w.plans)), started w plan)).0 ≡ Answered a → ⊥
    by_log true is = cc
    by_log false is = by_plans (has_all_plans w) is

    by_holding : (o : Option Holding) → (begun w plan o).0 ≡ Answered a → ⊥
    by_holding (Some why) is = cc
    by_holding None is = by_log (nat_lt (free_places w) (places_of plan)) is

-- nobody halts the machine by an event
pub still_runs : (m n : MachineModel) (e : Happening) → (state_of m).halted ≡ false → state_of n ≡ (happens (state_of m) e).1 → (state_of n).halted ≡ false
still_runs m n e runs state = ap (λ s. s.halted) state ∙ (same_machine (state_of m) e).halted ∙ runs

-- what has happened to a machine that is not halted was not answered that it is
pub directed_if : (m n : MachineModel) (e : Option Happening) (a : Played) → (state_of m).halted ≡ false → HasHappenedIf m e a n → IsDirectedIf m e a n
directed_if m n None a runs h = h
directed_if m n (Some e) a runs h = record { event = h.event; running = goes (state_of m) e a runs (ap (λ o. o.0) h.event); setup = h.setup }

-- and it is not halted then
pub runs_on : (m n : MachineModel) (e : Option Happening) (a : Played) → (state_of m).halted ≡ false → HasHappenedIf m e a n → (state_of n).halted ≡ false
runs_on m n None a runs h = ap (λ (x : MachineModel). (state_of x).halted) h.1 ∙ runs
runs_on m n (Some e) a runs h = still_runs m n e runs (sym (ap (λ o. o.1) h.event))

-- ---- starts

-- the event starts no plan
abbrev pub IsNoStart : Happening → Type 0
IsNoStart (Begin plan) = ⊥
IsNoStart _ = Unit {0}

-- so the plans are those from before
pub same_plans : (w : State) (e : Happening) → IsNoStart e → (happens w e).1.plans ≡ w.plans
same_plans w e = of_happens w (λ e o. IsNoStart e → o.1.plans ≡ w.plans) (record {
  idle = λ e answer quiet n. refl;
  steps = λ id. same_by_steps id Through (Step id);
  loses = λ id after. same_by_steps id (if after then LostAfter else LostBefore) (Lose id after);
  refills = λ id more f n. refl;
  arrives = λ s v f n. refl;
  passes_on = λ t o f n. refl;
  approves = λ v f n. refl;
  restarts = λ v f n. refl;
  starts = λ plan h f g n. absurd n;
}) e
  where
    same_by_steps : (id : StreamId) (passage : Passage) (e : Happening) → OfSteps w id passage (λ o. IsNoStart e → o.1.plans ≡ w.plans)
    same_by_steps id passage e = record {
      idle = λ answer n. refl;
      refused = λ i x why t a n. refl;
      at_end = λ b n. refl;
      publishes = λ i s server b c n. refl;
      posts = λ q b n. refl;
      awaits = λ q b c n. refl;
      lost = λ i x t f n. refl;
      through = λ i x effect t a f n. refl;
      unanswered = λ i x effect t a f n. refl;
    }

-- the event is no step
abbrev IsNoStep : Happening → Type 0
IsNoStep (Step id) = ⊥
IsNoStep (Lose id after) = ⊥
IsNoStep _ = Unit {0}

-- where it is answered that a plan has begun, it is among the plans
abbrev pub HasBegun : Outcome × State → Type 0
HasBegun o = (number : ℕ) → o.0 ≡ Answered (played.Begun number) → number < length o.1.plans

quiet_begins : (w : State) (answer : Played) → IsQuiet answer → HasBegun (unchanged w answer)
quiet_begins w answer quiet number e = absurd (subst IsQuiet (let same : answer ≡ played.Begun number = cc in same) quiet)

reply_begins : (w : State) (s server : ℕ) (sent : Option Ticket) (count number : ℕ) → Answered (reply_of w s server sent) ≡ Answered (played.Begun number) → number < count
reply_begins w s server sent count number = by_down (w.place.down server)
  where
    by_cell : (cell : Cell) → Answered (answer_by cell server sent (length w.log)) ≡ Answered (played.Begun number) → number < count
    by_cell Absent e = absurd (cc)
    by_cell Secondary e = absurd (cc)
    by_cell Primary e = absurd (cc)
    by_cell (Forwarding to n) e = absurd (cc)
    by_cell (Prepared from n) e = by_sent sent e
      where
        by_same : (same : Bool) → Answered (if same then played.Executed server else played.NotOwner) ≡ Answered (played.Begun number) → number < count
        by_same true e = absurd (cc)
        by_same false e = absurd (cc)

        by_sent : (o : Option Ticket) → Answered (answer_by (Prepared from n) server o (length w.log)) ≡ Answered (played.Begun number) → number < count
        by_sent None e = absurd (cc)
        by_sent (Some t) e = by_same ((from == t.sender) && (n == t.number)) e

    by_down : (down : Bool) → Answered (if down then played.Unavailable else answer_by (w.place.cells s server) server sent (length w.log)) ≡ Answered (played.Begun number) → number < count
    by_down true e = absurd (cc)
    by_down false e = by_cell (w.place.cells s server) e

others_begin : (w : State) (e : Happening) → IsNoStep e → HasBegun (happens w e)
others_begin w e = of_happens w (λ e o. IsNoStep e → HasBegun o) (record {
  idle = λ e answer quiet n. quiet_begins w answer quiet;
  steps = λ id. of_any _ (λ o n. absurd n);
  loses = λ id after. of_any _ (λ o n. absurd n);
  refills = λ id more f n number e. absurd (cc);
  arrives = λ s v f n. reply_begins w s v None (length w.plans);
  passes_on = λ t o f n. reply_begins w t.shard t.target (Some t) (length w.plans);
  approves = λ v f n number e. absurd (cc);
  restarts = λ v f n number e. absurd (cc);
  starts = λ plan h f g n number e.
      let latest : number ≡ length w.plans = cc in
      let more = length-append w.plans (record { plan = plan; since = length w.log } ∷ []) in
      omega arith;
}) e

steps_begin : (w : State) (id : StreamId) (passage : Passage) → HasBegun (step w id passage)
steps_begin w id passage number e = elim (cases_Bool w.halted) [
  | inl halted ↦ absurd (let said = rw halted at e in cc)
  | inr runs ↦ absurd (subst IsOfStep e (step_goes w id passage runs))
]

-- where an event is answered that a plan has begun, it is one of the plans that there are then
pub begun_is_there : (w : State) (e : Happening) → HasBegun (happens w e)
begun_is_there w (Step id) = steps_begin w id Through
begun_is_there w (Lose id after) = steps_begin w id (if after then LostAfter else LostBefore)
begun_is_there w (Refill id more) = others_begin w (Refill id more) tt
begun_is_there w (Arrive s v) = others_begin w (Arrive s v) tt
begun_is_there w (PassOn t) = others_begin w (PassOn t) tt
begun_is_there w (Approve v) = others_begin w (Approve v) tt
begun_is_there w (Done v) = others_begin w (Done v) tt
begun_is_there w (Begin plan) = others_begin w (Begin plan) tt

-- the event starts a plan
abbrev IsStart : Happening → Type 0
IsStart (Begin plan) = Unit {0}
IsStart _ = ⊥

begins_one : (w : State) (e : Happening) → IsStart e → (number : ℕ) → (happens w e).0 ≡ Answered (played.Begun number) → length (happens w e).1.plans ≡ length w.plans + 1
begins_one w e = of_happens w (λ e o. IsStart e → (number : ℕ) → o.0 ≡ Answered (played.Begun number) → length o.1.plans ≡ length w.plans + 1) (record {
  idle = λ e answer quiet start number is. absurd (subst IsQuiet (let same : answer ≡ played.Begun number = cc in same) quiet);
  steps = λ id. of_any _ (λ o start. absurd start);
  loses = λ id after. of_any _ (λ o start. absurd start);
  refills = λ id more f start. absurd start;
  arrives = λ s v f start. absurd start;
  passes_on = λ t o f start. absurd start;
  approves = λ v f start. absurd start;
  restarts = λ v f start. absurd start;
  starts = λ plan h f g start number is.
      let more = length-append w.plans (record { plan = plan; since = length w.log } ∷ []) in
      omega arith;
}) e

-- a plan more has begun
pub one_more : (w : State) (plan : PlanModel) (number : ℕ) → (happens w (Begin plan)).0 ≡ Answered (played.Begun number) → length (happens w (Begin plan)).1.plans ≡ length w.plans + 1
one_more w plan = begins_one w (Begin plan) tt
