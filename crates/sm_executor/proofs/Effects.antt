-- The entries that each event records and publishes.
use Rattle.std.proofs.Common.{◌≡◌, ◌⊎◌, ◌<◌, ℕ, suc, ◌+◌, Bool, true, false, refl, sym, ap, subst, arith, inl, inr, Option, Some, None, Result, Ok, Err, [], ◌∷◌, ◌++◌}
use Rattle.std.specs.Prelude.{◌==◌, if◌then◌else◌}
use Rattle.sm_server.specs.declared.call.Refusal.{Refusal}
use Rattle.sm_server.specs.declared.call.Served.{Served}
use Rattle.sm_server.specs.declared.call.Call.{Call}
use Rattle.sm_placement.specs.Sums.{put, bit}
use Rattle.sm_placement.specs.Setup.{Sizes}
use Rattle.sm_placement.specs.Place.{Place, CallEffect, called_numbered, numbered_answer_at, set_down}
use Rattle.sm_placement.proofs.Sums.{put-here}
use Rattle.sm_reservation.specs.Pool.{leads_of}
use Rattle.sm_reservation.specs.declared.stream_id.StreamId.{StreamId}
use Rattle.sm_plan_code.specs.declared.call.ServerCall.{ServerCall}
use Rattle.sm_plan_code.specs.declared.instruction.Instr.{Instr}
use Rattle.sm_plan_code.specs.declared.instruction.Instr.TheVariants.{PrepareAdd, PrepareDrop, Add, Drop, Change, Publish, Unlist, Signal, Wait}
use Rattle.sm_plan_code.specs.Instr.{shard_of}
use Rattle.sm_plan_code.specs.After.{to_list}
use Rattle.sm_protocol.specs.declared.event.Event.{Event}
use Rattle.sm_protocol.specs.declared.event.Event.TheVariants as event
use Rattle.sm_protocol.specs.declared.event.Passage.{Passage}
use Rattle.sm_protocol.specs.declared.event.Passage.TheVariants.{Through, LostBefore, LostAfter}
use Rattle.sm_protocol.specs.declared.event.Played.{Played}
use Rattle.sm_protocol.specs.declared.event.Played.TheVariants as played
use Rattle.sm_protocol.specs.declared.event.Logged.{Logged}
use Rattle.sm_protocol.specs.State.{State, progress_of, is_begun, next_instruction, allowance, logged, recorded, free_places, pool}
use Rattle.sm_protocol.specs.Steps.{Outcome, Refused, Answered, unchanged, call_number, tried, call_tried, entry_added, posted, made, step}
use Rattle.sm_protocol.specs.Ticket.{Ticket, is_open_ticket}
use Rattle.sm_protocol.specs.Happens.{Arrive, PassOn, Approve, Done, Refill, happens, requested, reply_of, approved, engaged, refilled, refill_fault}
use Rattle.sm_task_controller.specs.declared.decision.Denied.{Denied}
use Rattle.sm_task_controller.specs.Decision.{denial}
use Rattle.sm_protocol.specs.declared.event.RefillFault.{RefillFault}
use Rattle.sm_machine.specs.declared.answer.Answer.{Answer}
use Rattle.sm_machine.specs.declared.answer.Answer.TheVariants as said
use Rattle.sm_machine.specs.Requested.{played_by}
use Rattle.sm_machine.specs.Played.{played_of}
use Rattle.sm_machine.specs.declared.step.Step.{Step}
use Rattle.sm_machine.specs.declared.step.Step.TheVariants as taken
use Rattle.sm_machine.specs.Losses.{event_over}
use Rattle.sm_protocol.proofs.Cases.{IsBefore, answer_to, parcel_taken}
use Rattle.sm_protocol.proofs.LogRoom.{ok_is}
use Rattle.sm_executor.specs.Counting.{is_step, is_executed, is_refused, executes, refuses, Counts}
use Rattle.sm_executor.specs.Stepping.{is_waiting}
use Rattle.sm_executor.specs.Tied.{IsQuiet, Publishes}

-- nothing was recorded, and nothing has changed
pub record IsIdle (ended : Bool) (old new : State) (answer : Played) : Type 0 where
  pub same : new ≡ old
  pub counts : (n : ℕ) → Counts ended answer n n

-- a step was recorded
pub record IsRecorded (ended : Bool) (old new : State) (answer : Played) : Type 0 where
  pub line : Logged
  pub log : new.log ≡ old.log ++ line ∷ []
  pub step : is_step line.event ≡ true
  pub executed : is_executed line.answer ≡ false
  pub refused : is_refused line.answer ≡ false
  pub plans : new.plans ≡ old.plans
  pub counts : (n : ℕ) → Counts ended answer n (n + 1)
  pub map : IsQuiet old new ⊎ ((s : ℕ) × Publishes old new s)

-- what a step comes to, of a stream that had made its end before or had not
abbrev pub Made : Bool → State → Outcome → State → Type 0
Made ended old Refused new = new ≡ old
Made ended old (Answered answer) new = IsIdle ended old new answer ⊎ IsRecorded ended old new answer

-- a call changes nothing of the map
pub record IsOffMap (p : Place) (effect : CallEffect) : Type 0 where
  pub listed : effect.place.listed ≡ p.listed
  pub version : effect.place.version ≡ p.version

off_map : (c : Sizes) (p : Place) (s v : ℕ) (call : Call) (number : ℕ) (effect : CallEffect) → called_numbered c p s v call number ≡ Ok effect → IsOffMap p effect
off_map c p s v call number effect e = go (numbered_answer_at c p s v call number) refl
  where
    go : (r : Result Served Refusal) → numbered_answer_at c p s v call number ≡ r → IsOffMap p effect
    go (Err why) f = absurd (let g = rw f at e in cc)
    go (Ok x) f =
        let g = ok_is _ effect (rw f at e) in
        record { listed = sym (ap (λ (y : CallEffect). y.place.listed) g); version = sym (ap (λ (y : CallEffect). y.place.version) g) }

module _ (w : State) (id : StreamId) (passage : Passage) (known : (i : Instr) (s : ℕ) → IsBefore w id (Some i) → shard_of i ≡ Some s → s < w.sizes.shards) where
  abbrev P : Outcome × State → Type 0
  P o = Made (progress_of w id).done w o.0 o.1

  of_tried : (i : Instr) (x : ServerCall) (p : Passage) (a : Result CallEffect Refusal) → answer_to w id x ≡ a → P (tried w id i p a)
  of_tried i x LostBefore a e = inr (record { line = record { event = event.Lose id false; answer = played.Lost }; log = refl; step = refl; executed = refl; refused = refl; plans = refl; counts = λ n. refl; map = inl (record { sizes = refl; entries = refl; listed = refl; version = refl }) })
  of_tried i x Through (Err why) e = refl
  of_tried i x LostAfter (Err why) e = refl
  of_tried i x Through (Ok effect) e =
      let off = off_map w.sizes w.place x.shard x.server x.call (call_number w (progress_of w id)) effect e in
      inr (record { line = record { event = event.Step id; answer = played.Moved }; log = refl; step = refl; executed = refl; refused = refl; plans = refl; counts = λ n. refl; map = inl (record { sizes = refl; entries = refl; listed = off.listed; version = off.version }) })
  of_tried i x LostAfter (Ok effect) e =
      let off = off_map w.sizes w.place x.shard x.server x.call (call_number w (progress_of w id)) effect e in
      inr (record { line = record { event = event.Lose id true; answer = played.Lost }; log = refl; step = refl; executed = refl; refused = refl; plans = refl; counts = λ n. refl; map = inl (record { sizes = refl; entries = refl; listed = off.listed; version = off.version }) })

  of_call : (i : Instr) (o : Option ServerCall) → P (call_tried w id passage i o)
  of_call i None = inl (record { same = refl; counts = λ n. refl })
  of_call i (Some x) = go ((progress_of w id).tries == allowance w id)
    where
      go : (t : Bool) → P (if t then unchanged w played.Spent else tried w id i passage (answer_to w id x))
      go true = inl (record { same = refl; counts = λ n. refl })
      go false = of_tried i x passage (answer_to w id x) refl

  -- an entry of a known shard is added
  of_entry : (s : ℕ) (server : Option ℕ) → s < w.sizes.shards → P (entry_added w id s server)
  of_entry s server k = inr (record {
    line = record { event = event.Step id; answer = played.Moved };
    log = refl;
    step = refl;
    executed = refl;
    refused = refl;
    plans = refl;
    counts = λ n. refl;
    map =
        let l : put w.place.listed s server s ≡ server = put-here w.place.listed s server s refl in
        let v : put w.place.version s (suc (w.place.version s)) s ≡ suc (w.place.version s) = put-here w.place.version s (suc (w.place.version s)) s refl in
        inr (
          s,
          record {
            sizes = refl;
            known = k;
            entries = (λ j. (s, record { server = sym l j; version = sym v j }) ∷ w.entries);
            listed = ap (put w.place.listed s) (sym l);
            version = refl;
          },
        );
  })

  quiet_moved : (new : State) → new.plans ≡ w.plans → new.sizes ≡ w.sizes → new.entries ≡ w.entries → new.place ≡ w.place → new.log ≡ logged w (event.Step id) played.Moved → IsRecorded (progress_of w id).done w new played.Moved
  quiet_moved new k c e p l = record { line = record { event = event.Step id; answer = played.Moved }; log = l; step = refl; executed = refl; refused = refl; plans = k; counts = λ n. refl; map = inl (record { sizes = c; entries = e; listed = ap (λ (x : Place). x.listed) p; version = ap (λ (x : Place). x.version) p }) }

  of_made : (o : Option Instr) → IsBefore w id o → P (made w id passage o)
  of_made None b = inr (record { line = record { event = event.Step id; answer = played.Done }; log = refl; step = refl; executed = refl; refused = refl; plans = refl; counts = λ n. subst (λ e. Counts e played.Done n (n + 1)) (sym b.running) refl; map = inl (record { sizes = refl; entries = refl; listed = refl; version = refl }) })
  of_made (Some (Publish s)) b = of_entry s (to_list (leads_of w.sizes w.place s)) (known (Publish s) s b refl)
  of_made (Some (Unlist s)) b = of_entry s None (known (Unlist s) s b refl)
  of_made (Some (Signal q)) b = inr (quiet_moved (posted w id q).1 refl refl refl refl refl)
  of_made (Some (Wait q)) b = go (w.marks id.plan q).posted
    where
      go : (t : Bool) → P (if t then (Answered played.Moved, parcel_taken w id q) else unchanged w (played.Blocked q))
      go true = inr (quiet_moved (parcel_taken w id q) refl refl refl refl refl)
      go false = inl (record { same = refl; counts = λ n. refl })
  of_made (Some (PrepareAdd s v u)) b = of_call (PrepareAdd s v u) _
  of_made (Some (PrepareDrop s u v)) b = of_call (PrepareDrop s u v) _
  of_made (Some (Add s v role)) b = of_call (Add s v role) _
  of_made (Some (Drop s v)) b = of_call (Drop s v) _
  of_made (Some (Change s v role)) b = of_call (Change s v role) _

  -- what a step comes to
  pub step_made : Made (progress_of w id).done w (step w id passage).0 (step w id passage).1
  step_made = on_flag w.halted
    where
      on_done : (d : Bool) → is_begun w id ≡ true → (progress_of w id).done ≡ d → P (if d then unchanged w played.Done else made w id passage (next_instruction w id))
      on_done true b e = inl (record { same = refl; counts = λ n. subst (λ x. Counts x played.Done n n) (sym e) (let z : n ≡ n + 0 = omega arith in z) })
      on_done false b e = of_made (next_instruction w id) (record { begun = b; running = e; next_is = refl })

      on_begun : (b : Bool) → is_begun w id ≡ b →
          P (if b then (if (progress_of w id).done then unchanged w played.Done else made w id passage (next_instruction w id)) else unchanged w played.Unknown)
      on_begun true e = on_done (progress_of w id).done e refl
      on_begun false e = inl (record { same = refl; counts = λ n. refl })

      on_flag : (h : Bool) →
          P (if h then unchanged w played.Halted
          else if is_begun w id then (if (progress_of w id).done then unchanged w played.Done else made w id passage (next_instruction w id))
          else unchanged w played.Unknown)
      on_flag true = inl (record { same = refl; counts = λ n. refl })
      on_flag false = on_begun (is_begun w id) refl

-- ---- requests

-- a request was recorded with its answer
pub record IsNoted (old new : State) (answer : Played) : Type 0 where
  pub line : Logged
  pub log : new.log ≡ old.log ++ line ∷ []
  pub step : is_step line.event ≡ false
  pub answer_is : line.answer ≡ answer
  pub plans : new.plans ≡ old.plans
  pub quiet : IsQuiet old new

-- a request was not recorded, and nothing has changed
pub record IsUnnoted (old new : State) (answer : Played) : Type 0 where
  pub same : new ≡ old
  pub executed : is_executed answer ≡ false
  pub refused : is_refused answer ≡ false

-- what a request comes to
abbrev pub Asked : State → Outcome → State → Type 0
Asked old Refused new = ⊥
Asked old (Answered answer) new = IsUnnoted old new answer ⊎ IsNoted old new answer

requested_made : (w : State) (s v : ℕ) (sent : Option Ticket) (x : Event) → is_step x ≡ false → Asked w (requested w s v sent x).0 (requested w s v sent x).1
requested_made w s v sent x e = go (free_places w == 0)
  where
    answer : Played
    answer = reply_of w s v sent

    go : (b : Bool) → Asked w (if b then unchanged w played.LogFull else (Answered answer, recorded w x answer)).0 (if b then unchanged w played.LogFull else (Answered answer, recorded w x answer)).1
    go true = inl (record { same = refl; executed = refl; refused = refl })
    go false = inr (record { line = record { event = x; answer = answer }; log = refl; step = e; answer_is = refl; plans = refl; quiet = record { sizes = refl; entries = refl; listed = refl; version = refl } })

-- a request that comes directly is recorded with its answer, or changes nothing; it publishes nothing
pub arrived_made : (w : State) (s v : ℕ) → Asked w (happens w (Arrive s v)).0 (happens w (Arrive s v)).1
arrived_made w s v = requested_made w s v None (event.Arrive s v) refl

-- the same of a request that is passed on with a ticket
pub passed_made : (w : State) (t : Ticket) → Asked w (happens w (PassOn t)).0 (happens w (PassOn t)).1
passed_made w t = go (is_open_ticket w.log t)
  where
    go : (b : Bool) → Asked w (if b then requested w t.shard t.target (Some t) (event.PassOn t.place) else unchanged w played.Unknown).0 (if b then requested w t.shard t.target (Some t) (event.PassOn t.place) else unchanged w played.Unknown).1
    go true = requested_made w t.shard t.target (Some t) (event.PassOn t.place) refl
    go false = inl (record { same = refl; executed = refl; refused = refl })

-- what an answer adds to the counts of its caller is what it adds to the books
pub executes_is : (a : Answer) → executes a ≡ bit (is_executed (played_by a))
executes_is (said.Executed server) = refl
executes_is (said.Passed ticket) = refl
executes_is said.NotOwner = refl
executes_is said.Unavailable = refl
executes_is (said.LogFull back) = refl
executes_is (said.Unknown back) = refl

-- the same of refused requests: what an answer adds to its caller's count it adds to the books
pub refuses_is : (a : Answer) → refuses a ≡ bit (is_refused (played_by a))
refuses_is (said.Executed server) = refl
refuses_is (said.Passed ticket) = refl
refuses_is said.NotOwner = refl
refuses_is said.Unavailable = refl
refuses_is (said.LogFull back) = refl
refuses_is (said.Unknown back) = refl

-- ---- restarts and refills

-- what was recorded is neither a step nor a request
pub record IsPlain (old new : State) : Type 0 where
  pub line : Logged
  pub log : new.log ≡ old.log ++ line ∷ []
  pub step : is_step line.event ≡ false
  pub executed : is_executed line.answer ≡ false
  pub refused : is_refused line.answer ≡ false
  pub plans : new.plans ≡ old.plans
  pub quiet : IsQuiet old new

-- nothing has changed, or what was recorded is not counted
abbrev pub Uncounted : State → State → Type 0
Uncounted old new = (new ≡ old) ⊎ IsPlain old new

-- whether a restart is approved or denied, the books count nothing of it, and nothing is published
pub approved_made : (w : State) (v : ℕ) → Uncounted w (happens w (Approve v)).1
approved_made w v = go (denial w.sizes w.place (pool w) (engaged w v) (free_places w) v)
  where
    go : (o : Option Denied) → Uncounted w (approved w v o).1
    go (Some why) = inl refl
    go None = inr (record { line = record { event = event.Approve v; answer = played.Approved }; log = refl; step = refl; executed = refl; refused = refl; plans = refl; quiet = record { sizes = refl; entries = refl; listed = refl; version = refl } })

-- the same of the end of a restart, whether it brings the server up or not
pub restarted_made : (w : State) (v : ℕ) → Uncounted w (happens w (Done v)).1
restarted_made w v = go (w.place.down v)
  where
    go : (b : Bool) → Uncounted w (if b then (Answered played.Up, record w { place = set_down w.place v false; log = logged w (event.Done v) played.Up }) else unchanged w played.Unknown).1
    go false = inl refl
    go true = inr (record { line = record { event = event.Done v; answer = played.Up }; log = refl; step = refl; executed = refl; refused = refl; plans = refl; quiet = record { sizes = refl; entries = refl; listed = refl; version = refl } })

-- the same of a refill, whether it is made or refused
pub refilled_made : (w : State) (id : StreamId) (more : ℕ) → Uncounted w (happens w (Refill id more)).1
refilled_made w id more = go (refill_fault w id more)
  where
    go : (o : Option RefillFault) → Uncounted w (refilled w id more o).1
    go (Some why) = inl refl
    go None = inr (record { line = record { event = event.Refill id more; answer = played.Refilled }; log = refl; step = refl; executed = refl; refused = refl; plans = refl; quiet = record { sizes = refl; entries = refl; listed = refl; version = refl } })

-- ---- plans

-- none of these starts a plan
pub plans_made : (ended : Bool) (old new : State) (answer : Played) → Made ended old (Answered answer) new → new.plans ≡ old.plans
plans_made ended old new answer (inl u) = ap (λ (w : State). w.plans) u.same
plans_made ended old new answer (inr x) = x.plans

-- a request starts no plan
pub plans_asked : (old new : State) (answer : Played) → Asked old (Answered answer) new → new.plans ≡ old.plans
plans_asked old new answer (inl u) = ap (λ (w : State). w.plans) u.same
plans_asked old new answer (inr x) = x.plans

-- what the books do not count starts no plan
pub plans_uncounted : (old new : State) → Uncounted old new → new.plans ≡ old.plans
plans_uncounted old new (inl e) = ap (λ (w : State). w.plans) e
plans_uncounted old new (inr x) = x.plans

-- ---- steps over links

-- what a step over a link comes to
pub made_over : (w v : State) (id : StreamId) (passage : Passage) (answer : Played) → ((i : Instr) (s : ℕ) → IsBefore w id (Some i) → shard_of i ≡ Some s → s < w.sizes.shards) →
    happens w (event_over id passage) ≡ (Answered answer, v) → Made (progress_of w id).done w (Answered answer) v
made_over w v id passage answer known e = subst (λ (o : Outcome × State). Made (progress_of w id).done w o.0 o.1) e (by_passage passage)
  where
    by_passage : (p : Passage) → Made (progress_of w id).done w (happens w (event_over id p)).0 (happens w (event_over id p)).1
    by_passage Through = step_made w id Through known
    by_passage LostBefore = step_made w id LostBefore known
    by_passage LostAfter = step_made w id LostAfter known

-- a step that waits for a signal is not counted
pub waiting_uncounted : (step : Step) (ended : Bool) (old new : ℕ) → is_waiting step ≡ true → Counts ended (played_of step) old new → new ≡ old
waiting_uncounted (taken.Blocked signal) ended old new e counts = counts
waiting_uncounted taken.Moved ended old new e counts = absurd (cc)
waiting_uncounted taken.Done ended old new e counts = absurd (cc)
waiting_uncounted taken.Halted ended old new e counts = absurd (cc)
waiting_uncounted taken.Unknown ended old new e counts = absurd (cc)
waiting_uncounted taken.Lost ended old new e counts = absurd (cc)
waiting_uncounted taken.Spent ended old new e counts = absurd (cc)
