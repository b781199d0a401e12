-- The effects of an event on a state, case by case.
use Rattle.sm_protocol.proofs.Below.{◌≡◌, ℕ, ◌+◌, Bool, true, false, refl, sym, ap, ◌∙◌, Option, Some, None, Result, Ok, Err, ◌==◌, not, if◌then◌else◌, nat_lt, length, Refusal, CallEffect, called_numbered, set_down, put2, leads_of, StreamId, ServerCall, Instr, PrepareAdd, PrepareDrop, Add, Drop, Change, Publish, Unlist, Signal, Wait, to_list, is_call, PlanModel, Holding, first_holding, Denied, denial}
use Rattle.sm_protocol.proofs.Words.{RefillFault, Ticket, is_open_ticket, spends, Happening, Step, Lose, Refill, Arrive, PassOn, Approve, Done, Begin, refill_fault, refilled, reply_of, requested, engaged, approved, started, begun, has_all_plans, happens, Passage, Through, LostBefore, LostAfter, Played, State, progress_of, is_begun, is_running, next_instruction, allowance, recorded, logged, pool, free_places, places_of, Outcome, Refused, Answered, unchanged, call_number, call_to_make, behind_call, ahead_of_call, served_try, call_lost, tried, call_tried, entry_added, posted, ended, made, behind, step}
use Rattle.sm_protocol.specs.declared.event.BeginFault.TheVariants as fault
use Rattle.sm_protocol.specs.declared.event.RefillFault.TheVariants as refill
use Rattle.sm_protocol.specs.declared.event.Event.TheVariants as event
use Rattle.sm_protocol.specs.declared.event.Played.TheVariants as played

-- the stream was begun, has not made its end, and this is its next instruction
pub record IsBefore (w : State) (id : StreamId) (next : Option Instr) : Type 0 where
  pub begun : is_begun w id ≡ true
  pub running : (progress_of w id).done ≡ false
  pub next_is : next_instruction w id ≡ next

-- the stream tries a call
pub record IsTry (w : State) (id : StreamId) (i : Instr) (x : ServerCall) : Type 0 where
  pub before : IsBefore w id (Some i)
  pub call : is_call i ≡ true
  pub unspent : ((progress_of w id).tries == allowance w id) ≡ false
  pub call_is : call_to_make w (progress_of w id) i ≡ Some x

-- what the server answers to the try
abbrev pub answer_to : State → StreamId → ServerCall → Result CallEffect Refusal
answer_to w id x = called_numbered w.sizes w.place x.shard x.server x.call (call_number w (progress_of w id))

-- the stream has taken the parcel of a signal
abbrev pub parcel_taken : State → StreamId → ℕ → State
parcel_taken w id q = record w {
  marks = put2 w.marks id.plan q (record (w.marks id.plan q) { awaited = true });
  progress = behind w id;
  log = logged w (event.Step id) played.Moved;
}

-- The proof obligations for each kind of step.
pub record OfSteps (w : State) (id : StreamId) (passage : Passage) (P : Outcome × State → Type 0) : Type 0 where
  pub idle : (answer : Played) → P (unchanged w answer)
  pub refused : (i : Instr) (x : ServerCall) (why : Refusal) → IsTry w id i x → answer_to w id x ≡ Err why → P (Refused, w)
  pub at_end : IsBefore w id None → P (ended w id)
  pub publishes : (i : Instr) (s : ℕ) (server : Option ℕ) → IsBefore w id (Some i) → is_call i ≡ false → P (entry_added w id s server)
  pub posts : (q : ℕ) → IsBefore w id (Some (Signal q)) → P (posted w id q)
  pub awaits : (q : ℕ) → IsBefore w id (Some (Wait q)) → (w.marks id.plan q).posted ≡ true → P (Answered played.Moved, parcel_taken w id q)
  pub lost : (i : Instr) (x : ServerCall) → IsTry w id i x → passage ≡ LostBefore → P (Answered played.Lost, call_lost w id)
  pub through : (i : Instr) (x : ServerCall) (effect : CallEffect) → IsTry w id i x → answer_to w id x ≡ Ok effect → passage ≡ Through →
      P (Answered played.Moved, served_try w id i effect (behind_call (progress_of w id) effect.fresh) (event.Step id) played.Moved)
  pub unanswered : (i : Instr) (x : ServerCall) (effect : CallEffect) → IsTry w id i x → answer_to w id x ≡ Ok effect → passage ≡ LostAfter →
      P (Answered played.Lost, served_try w id i effect (ahead_of_call w (progress_of w id) effect.fresh) (event.Lose id true) played.Lost)

-- The proof obligations for each kind of step, with the instruction of each publication.
pub record OfKnownSteps (w : State) (id : StreamId) (passage : Passage) (P : Outcome × State → Type 0) : Type 0 where
  pub idle : (answer : Played) → P (unchanged w answer)
  pub refused : (i : Instr) (x : ServerCall) (why : Refusal) → IsTry w id i x → answer_to w id x ≡ Err why → P (Refused, w)
  pub at_end : IsBefore w id None → P (ended w id)
  pub publishes : (s : ℕ) → IsBefore w id (Some (Publish s)) → P (entry_added w id s (to_list (leads_of w.sizes w.place s)))
  pub unlists : (s : ℕ) → IsBefore w id (Some (Unlist s)) → P (entry_added w id s None)
  pub posts : (q : ℕ) → IsBefore w id (Some (Signal q)) → P (posted w id q)
  pub awaits : (q : ℕ) → IsBefore w id (Some (Wait q)) → (w.marks id.plan q).posted ≡ true → P (Answered played.Moved, parcel_taken w id q)
  pub lost : (i : Instr) (x : ServerCall) → IsTry w id i x → passage ≡ LostBefore → P (Answered played.Lost, call_lost w id)
  pub through : (i : Instr) (x : ServerCall) (effect : CallEffect) → IsTry w id i x → answer_to w id x ≡ Ok effect → passage ≡ Through →
      P (Answered played.Moved, served_try w id i effect (behind_call (progress_of w id) effect.fresh) (event.Step id) played.Moved)
  pub unanswered : (i : Instr) (x : ServerCall) (effect : CallEffect) → IsTry w id i x → answer_to w id x ≡ Ok effect → passage ≡ LostAfter →
      P (Answered played.Lost, served_try w id i effect (ahead_of_call w (progress_of w id) effect.fresh) (event.Lose id true) played.Lost)

of_tried : (w : State) (id : StreamId) (passage : Passage) (P : Outcome × State → Type 0) → OfKnownSteps w id passage P → (i : Instr) (x : ServerCall) → IsTry w id i x →
    (p : Passage) (a : Result CallEffect Refusal) → passage ≡ p → answer_to w id x ≡ a → P (tried w id i p a)
of_tried w id passage P all i x t LostBefore a e f = all.lost i x t e
of_tried w id passage P all i x t Through (Ok effect) e f = all.through i x effect t f e
of_tried w id passage P all i x t Through (Err why) e f = all.refused i x why t f
of_tried w id passage P all i x t LostAfter (Ok effect) e f = all.unanswered i x effect t f e
of_tried w id passage P all i x t LostAfter (Err why) e f = all.refused i x why t f

of_call : (w : State) (id : StreamId) (passage : Passage) (P : Outcome × State → Type 0) → OfKnownSteps w id passage P → (i : Instr) → IsBefore w id (Some i) → is_call i ≡ true →
    (o : Option ServerCall) → call_to_make w (progress_of w id) i ≡ o → P (call_tried w id passage i o)
of_call w id passage P all i b c None e = all.idle played.Unknown
of_call w id passage P all i b c (Some x) e = go ((progress_of w id).tries == allowance w id) refl
  where
    go : (t : Bool) → ((progress_of w id).tries == allowance w id) ≡ t → P (if t then unchanged w played.Spent else tried w id i passage (answer_to w id x))
    go true f = all.idle played.Spent
    go false f = of_tried w id passage P all i x (record { before = b; call = c; unspent = f; call_is = e }) passage (answer_to w id x) refl refl

of_made : (w : State) (id : StreamId) (passage : Passage) (P : Outcome × State → Type 0) → OfKnownSteps w id passage P → (o : Option Instr) → IsBefore w id o → P (made w id passage o)
of_made w id passage P all None b = all.at_end b
of_made w id passage P all (Some (Publish s)) b = all.publishes s b
of_made w id passage P all (Some (Unlist s)) b = all.unlists s b
of_made w id passage P all (Some (Signal q)) b = all.posts q b
of_made w id passage P all (Some (Wait q)) b = go (w.marks id.plan q).posted refl
  where
    go : (t : Bool) → (w.marks id.plan q).posted ≡ t → P (if t then (Answered played.Moved, parcel_taken w id q) else unchanged w (played.Blocked q))
    go true e = all.awaits q b e
    go false e = all.idle (played.Blocked q)
of_made w id passage P all (Some (PrepareAdd s v u)) b = of_call w id passage P all (PrepareAdd s v u) b refl _ refl
of_made w id passage P all (Some (PrepareDrop s u v)) b = of_call w id passage P all (PrepareDrop s u v) b refl _ refl
of_made w id passage P all (Some (Add s v role)) b = of_call w id passage P all (Add s v role) b refl _ refl
of_made w id passage P all (Some (Drop s v)) b = of_call w id passage P all (Drop s v) b refl _ refl
of_made w id passage P all (Some (Change s v role)) b = of_call w id passage P all (Change s v role) b refl _ refl

-- what holds of what each kind of step makes holds of every step, where the instruction of each publication is known
pub of_known_step : (w : State) (id : StreamId) (passage : Passage) (P : Outcome × State → Type 0) → OfKnownSteps w id passage P → P (step w id passage)
of_known_step w id passage P all = on_flag w.halted
  where
    on_done : (d : Bool) → is_begun w id ≡ true → (progress_of w id).done ≡ d → P (if d then unchanged w played.Done else made w id passage (next_instruction w id))
    on_done true b e = all.idle played.Done
    on_done false b e = of_made w id passage P all (next_instruction w id) (record { begun = b; running = e; next_is = refl })

    on_begun : (b : Bool) → is_begun w id ≡ b →
        P (if b then (if (progress_of w id).done then unchanged w played.Done else made w id passage (next_instruction w id)) else unchanged w played.Unknown)
    on_begun true e = on_done (progress_of w id).done e refl
    on_begun false e = all.idle played.Unknown

    on_flag : (h : Bool) →
        P (if h then unchanged w played.Halted
        else if is_begun w id then (if (progress_of w id).done then unchanged w played.Done else made w id passage (next_instruction w id))
        else unchanged w played.Unknown)
    on_flag true = all.idle played.Halted
    on_flag false = on_begun (is_begun w id) refl

-- the same without the instructions of publications
known : {w : State} {id : StreamId} {passage : Passage} {P : Outcome × State → Type 0} → OfSteps w id passage P → OfKnownSteps w id passage P
known {w} all = record {
  idle = all.idle;
  refused = all.refused;
  at_end = all.at_end;
  publishes = λ s b. all.publishes (Publish s) s (to_list (leads_of w.sizes w.place s)) b refl;
  unlists = λ s b. all.publishes (Unlist s) s None b refl;
  posts = all.posts;
  awaits = all.awaits;
  lost = all.lost;
  through = all.through;
  unanswered = all.unanswered;
}

-- where the next instruction is no call, a step makes the same whatever becomes of calls
same_made : (w : State) (id : StreamId) (p q : Passage) (i : Instr) → is_call i ≡ false → made w id p (Some i) ≡ made w id q (Some i)
same_made w id p q (Publish s) e = refl
same_made w id p q (Unlist s) e = refl
same_made w id p q (Signal k) e = refl
same_made w id p q (Wait k) e = refl
same_made w id p q _ e = cc

same_step_by : (w : State) (id : StreamId) (p q : Passage) → made w id p (next_instruction w id) ≡ made w id q (next_instruction w id) → step w id p ≡ step w id q
same_step_by w id p q e =
    ap (λ m. if w.halted then unchanged w played.Halted else if is_begun w id then (if (progress_of w id).done then unchanged w played.Done else m) else unchanged w played.Unknown) e

-- where the next instruction is no call, a step is the same whatever becomes of calls
pub same_step : (w : State) (id : StreamId) (p q : Passage) (i : Instr) → next_instruction w id ≡ Some i → is_call i ≡ false → step w id p ≡ step w id q
same_step w id p q i n e =
    same_step_by w id p q (ap (made w id p) n ∙ same_made w id p q i e ∙ sym (ap (made w id q) n))

-- and so it is at the end of the code
pub same_end : (w : State) (id : StreamId) (p q : Passage) → next_instruction w id ≡ None → step w id p ≡ step w id q
same_end w id p q n = same_step_by w id p q (ap (made w id p) n ∙ sym (ap (made w id q) n))

-- what holds whatever is made holds of steps
pub of_any : {w : State} {id : StreamId} {passage : Passage} (P : Outcome × State → Type 0) → ((o : Outcome × State) → P o) → OfSteps w id passage P
of_any P all = record {
  idle = λ answer. all _;
  refused = λ i x why t e. all _;
  at_end = λ b. all _;
  publishes = λ i s server b c. all _;
  posts = λ q b. all _;
  awaits = λ q b e. all _;
  lost = λ i x t p. all _;
  through = λ i x effect t a p. all _;
  unanswered = λ i x effect t a p. all _;
}

-- a premise more changes nothing
pub all_fit : {w : State} {id : StreamId} {passage : Passage} {F : Type 0} (P : Outcome × State → Type 0) → OfSteps w id passage P → OfSteps w id passage (λ o. F → P o)
all_fit P all = record {
  idle = λ answer f. all.idle answer;
  refused = λ i x why t e f. all.refused i x why t e;
  at_end = λ b f. all.at_end b;
  publishes = λ i s server b c f. all.publishes i s server b c;
  posts = λ q b f. all.posts q b;
  awaits = λ q b e f. all.awaits q b e;
  lost = λ i x t p f. all.lost i x t p;
  through = λ i x effect t a p f. all.through i x effect t a p;
  unanswered = λ i x effect t a p f. all.unanswered i x effect t a p;
}

-- ---- all events

-- what is refilled is unfinished, and the log has its places
pub refill_granted : (w : State) (id : StreamId) (more : ℕ) → refill_fault w id more ≡ None → (is_running w id ≡ true) × (nat_lt (free_places w) (more + 1) ≡ false)
refill_granted w id more = go (is_running w id) (nat_lt 524288 (allowance w id + more)) (nat_lt (free_places w) (more + 1))
  where
    go : (runs much full : Bool) → (if not runs then Some refill.Ended else if much then Some refill.TooMany else if full then Some refill.LogFull else None) ≡ None → (runs ≡ true) × (full ≡ false)
    go true false false e = (refl, refl)
    go _ _ _ e = absurd (cc)

-- why a server may not be restarted, None where it may be
abbrev pub denied_of : State → ℕ → Option Denied
denied_of w v = denial w.sizes w.place (pool w) (engaged w v) (free_places w) v

-- the answer is neither one of a server to a request, nor that a plan has started
abbrev pub IsQuiet : Played → Type 0
IsQuiet (played.Begun number) = ⊥
IsQuiet answer = spends answer ≡ false

-- The proof obligations for each kind of event, and for steps by their kinds.
pub record OfEvents (w : State) (S : StreamId → Passage → (Outcome × State → Type 0) → Type 0) (P : Happening → Outcome × State → Type 0) : Type 0 where
  pub idle : (e : Happening) (answer : Played) → IsQuiet answer → P e (unchanged w answer)
  pub steps : (id : StreamId) → S id Through (P (Step id))
  pub loses : (id : StreamId) (after : Bool) → S id (if after then LostAfter else LostBefore) (P (Lose id after))
  pub refills : (id : StreamId) (more : ℕ) → refill_fault w id more ≡ None → P (Refill id more) (refilled w id more None)
  pub arrives : (s v : ℕ) → (free_places w == 0) ≡ false → P (Arrive s v) (Answered (reply_of w s v None), recorded w (event.Arrive s v) (reply_of w s v None))
  pub passes_on : (t : Ticket) → is_open_ticket w.log t ≡ true → (free_places w == 0) ≡ false →
      P (PassOn t) (Answered (reply_of w t.shard t.target (Some t)), recorded w (event.PassOn t.place) (reply_of w t.shard t.target (Some t)))
  pub approves : (v : ℕ) → denied_of w v ≡ None → P (Approve v) (approved w v None)
  pub restarts : (v : ℕ) → w.place.down v ≡ true →
      P (Done v) (Answered played.Up, record w { place = set_down w.place v false; log = logged w (event.Done v) played.Up })
  pub starts : (plan : PlanModel) → first_holding w.sizes w.place (pool w) plan ≡ None → nat_lt (free_places w) (places_of plan) ≡ false → has_all_plans w ≡ false →
      P (Begin plan) (Answered (played.Begun (length w.plans)), started w plan)

-- what holds of what each kind of event makes holds of every event
of_events : (w : State) (S : StreamId → Passage → (Outcome × State → Type 0) → Type 0) → ((id : StreamId) (passage : Passage) (Q : Outcome × State → Type 0) → S id passage Q → Q (step w id passage)) →
    (P : Happening → Outcome × State → Type 0) → OfEvents w S P → (e : Happening) → P e (happens w e)
of_events w S by_step P all = by_event
  where
    by_fault : (id : StreamId) (more : ℕ) (o : Option RefillFault) → refill_fault w id more ≡ o → P (Refill id more) (refilled w id more o)
    by_fault id more None f = all.refills id more f
    by_fault id more (Some why) f = all.idle (Refill id more) (played.RefillRefused why) refl

    by_room : (s v : ℕ) (b : Bool) → (free_places w == 0) ≡ b →
        P (Arrive s v) (if b then unchanged w played.LogFull else (Answered (reply_of w s v None), recorded w (event.Arrive s v) (reply_of w s v None)))
    by_room s v true f = all.idle (Arrive s v) played.LogFull refl
    by_room s v false f = all.arrives s v f

    by_places : (t : Ticket) → is_open_ticket w.log t ≡ true → (b : Bool) → (free_places w == 0) ≡ b →
        P (PassOn t) (if b then unchanged w played.LogFull else (Answered (reply_of w t.shard t.target (Some t)), recorded w (event.PassOn t.place) (reply_of w t.shard t.target (Some t))))
    by_places t o true f = all.idle (PassOn t) played.LogFull refl
    by_places t o false f = all.passes_on t o f

    by_ticket : (t : Ticket) (b : Bool) → is_open_ticket w.log t ≡ b →
        P (PassOn t) (if b then requested w t.shard t.target (Some t) (event.PassOn t.place) else unchanged w played.Unknown)
    by_ticket t false f = all.idle (PassOn t) played.Unknown refl
    by_ticket t true f = by_places t f (free_places w == 0) refl

    by_denial : (v : ℕ) (o : Option Denied) → denied_of w v ≡ o → P (Approve v) (approved w v o)
    by_denial v None f = all.approves v f
    by_denial v (Some why) f = all.idle (Approve v) (played.Denied why) refl

    by_down : (v : ℕ) (b : Bool) → w.place.down v ≡ b →
        P (Done v) (if b then (Answered played.Up, record w { place = set_down w.place v false; log = logged w (event.Done v) played.Up }) else unchanged w played.Unknown)
    by_down v true f = all.restarts v f
    by_down v false f = all.idle (Done v) played.Unknown refl

    by_count : (plan : PlanModel) → first_holding w.sizes w.place (pool w) plan ≡ None → nat_lt (free_places w) (places_of plan) ≡ false → (b : Bool) → has_all_plans w ≡ b →
        P (Begin plan) (if b then unchanged w (played.NotBegun fault.TooManyPlans) else (Answered (played.Begun (length w.plans)), started w plan))
    by_count plan h f true g = all.idle (Begin plan) (played.NotBegun fault.TooManyPlans) refl
    by_count plan h f false g = all.starts plan h f g

    by_log : (plan : PlanModel) → first_holding w.sizes w.place (pool w) plan ≡ None → (b : Bool) → nat_lt (free_places w) (places_of plan) ≡ b →
        P (Begin plan) (if b then unchanged w (played.NotBegun fault.LogFull)
        else if has_all_plans w then unchanged w (played.NotBegun fault.TooManyPlans)
        else (Answered (played.Begun (length w.plans)), started w plan))
    by_log plan h true f = all.idle (Begin plan) (played.NotBegun fault.LogFull) refl
    by_log plan h false f = by_count plan h f (has_all_plans w) refl

    by_holding : (plan : PlanModel) (o : Option Holding) → first_holding w.sizes w.place (pool w) plan ≡ o → P (Begin plan) (begun w plan o)
    by_holding plan (Some why) f = all.idle (Begin plan) (played.NotBegun (fault.Holding why)) refl
    by_holding plan None f = by_log plan f (nat_lt (free_places w) (places_of plan)) refl

    by_event : (e : Happening) → P e (happens w e)
    by_event (Step id) = by_step id Through (P (Step id)) (all.steps id)
    by_event (Lose id after) = by_step id (if after then LostAfter else LostBefore) (P (Lose id after)) (all.loses id after)
    by_event (Refill id more) = by_fault id more (refill_fault w id more) refl
    by_event (Arrive s v) = by_room s v (free_places w == 0) refl
    by_event (PassOn t) = by_ticket t (is_open_ticket w.log t) refl
    by_event (Approve v) = by_denial v (denied_of w v) refl
    by_event (Done v) = by_down v (w.place.down v) refl
    by_event (Begin plan) = by_holding plan (first_holding w.sizes w.place (pool w) plan) refl

-- what holds of all that each kind of event makes holds of what every event makes
pub of_happens : (w : State) (P : Happening → Outcome × State → Type 0) → OfEvents w (OfSteps w) P → (e : Happening) → P e (happens w e)
of_happens w P all = of_events w (OfSteps w) (λ id passage Q steps. of_known_step w id passage Q (known steps)) P all

-- the same with the instruction of each publication
pub of_known_happens : (w : State) (P : Happening → Outcome × State → Type 0) → OfEvents w (OfKnownSteps w) P → (e : Happening) → P e (happens w e)
of_known_happens w P all = of_events w (OfKnownSteps w) (of_known_step w) P all
