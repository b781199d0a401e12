-- The log grows with each event of a driver, and none of them loses a call. So the step whose answer has come is made.
use Rattle.std.proofs.Common.{◌≡◌, ◌≢◌, ◌≤◌, ◌⊎◌, ◌∙◌, ◌∷◌, [], ℕ, Bool, true, false, not, Option, Some, None, List, Result, Ok, Err, length, map, refl, sym, ap, subst, inl, inr, arith}
use Rattle.std.specs.Prelude.{◌||◌, ◌==◌, is_some, nat_lt, if◌then◌else◌}
use Rattle.std.proofs.lemmas.Bool.{and_parts, not-true}
use Rattle.std.proofs.lemmas.List.Elements.{Contains-push_cases}
use Rattle.std.specs.List.{Contains}
use Rattle.sm_reservation.specs.declared.stream_id.StreamId.{StreamId}
use Rattle.sm_placement.specs.Setup.{Setup, Sizes}
use Rattle.sm_placement.specs.Place.{Place}
use Rattle.sm_plan_code.specs.declared.call.ServerCall.{ServerCall}
use Rattle.sm_plan_code.specs.declared.instruction.Instr.{Instr}
use Rattle.sm_plan_code.specs.declared.instruction.Instr.TheVariants as instr
use Rattle.sm_plan_code.specs.Plan.{PlanModel, places_of}
use Rattle.sm_verifier.specs.declared.admission.Holding.{Holding}
use Rattle.sm_verifier.specs.FirstHolding.{first_holding}
use Rattle.sm_protocol.specs.declared.event.BeginFault.TheVariants as fault
use Rattle.sm_protocol.specs.declared.event.Event.{Event}
use Rattle.sm_protocol.specs.declared.event.Event.TheVariants as event
use Rattle.sm_protocol.specs.declared.event.Logged.{Logged}
use Rattle.sm_protocol.specs.declared.event.Passage.TheVariants as passage
use Rattle.sm_protocol.specs.declared.event.Played.{Played}
use Rattle.sm_protocol.specs.declared.event.Played.TheVariants as played
use Rattle.sm_protocol.specs.State.{State, allowance, free_places, is_begun, is_running, logged, next_instruction, opened, pool, progress_of}
use Rattle.sm_protocol.specs.Steps.{Answered, CallEffect, Outcome, Refusal, Refused, call_number, call_tried, called_numbered, made, tried, unchanged}
use Rattle.sm_protocol.specs.Next.{call_under, entry_by}
use Rattle.sm_protocol.specs.Happens.{Begin, Step, begun, happens, has_all_plans, run, started}
use Rattle.sm_protocol.specs.Laws.{IsReached}
use Rattle.sm_protocol.specs.Safe.{unhalted}
use Rattle.sm_protocol.proofs.Cases.{of_known_step}
use Rattle.sm_protocol.proofs.Starts.{length_push}
use Rattle.sm_protocol.proofs.Unspent.{begun_is_known, unlost_is_unspent}
use Rattle.sm_driver.specs.Advance.{IsAdvanced}
use Rattle.sm_driver.specs.Driver.{HasLostNone}
use Rattle.sm_driver.specs.Orders.{awaits}
use Rattle.sm_driver.proofs.FreeSteps.{not_halted, told}

-- the log is as long at least, and if it had no lost call, it has none
pub record IsLonger (w new : State) : Type 0 where
  pub log : length w.log ≤ length new.log
  pub unlost : HasLostNone w → HasLostNone new

same : (w : State) → IsLonger w w
same w = record { log = omega arith; unlost = λ none. none }

longer_then : (u w new : State) → IsLonger u w → IsLonger w new → IsLonger u new
longer_then u w new a b = record { log = let l = a.log in let m = b.log in omega arith; unlost = λ none. b.unlost (a.unlost none) }

-- one more event that is no lost call
pub one_more : (w new : State) (x : Event) (answer : Played) → new.log ≡ logged w x answer → ((id : StreamId) (after : Bool) → x ≢ event.Lose id after) → IsLonger w new
one_more w new x answer e other =
    let line : Logged = record { event = x; answer = answer } in
    record {
      log = let n = ap length e in let m = length_push w.log line in omega arith;
      unlost = λ none id lost. elim (Contains-push_cases w.log line _ (subst (λ (log : List Logged). Contains log (record { event = event.Lose id lost.0; answer = played.Lost })) e lost.1)) [
        | inl before ↦ none id (lost.0, before)
        | inr last ↦ other id lost.0 (ap (λ (l : Logged). l.event) last)
      ];
    }

step_more : (w new : State) (id : StreamId) (answer : Played) → new.log ≡ logged w (event.Step id) answer → IsLonger w new
step_more w new id answer e = one_more w new (event.Step id) answer e (λ other after same. absurd (cc))

-- over a step of a stream
pub step_longer : (w : State) (id : StreamId) → IsLonger w (happens w (Step id)).1
step_longer w id = of_known_step w id passage.Through (λ o. IsLonger w o.1) (record {
  idle = λ answer. same w;
  refused = λ i x why t e. same w;
  at_end = λ b. step_more w _ id _ refl;
  publishes = λ s b. step_more w _ id _ refl;
  unlists = λ s b. step_more w _ id _ refl;
  posts = λ q b. step_more w _ id _ refl;
  awaits = λ q b e. step_more w _ id _ refl;
  lost = λ i x t p. absurd (cc);
  through = λ i x effect t a p. step_more w _ id _ refl;
  unanswered = λ i x effect t a p. absurd (cc);
})

steps_longer : (streams : List StreamId) (w : State) → IsLonger w (run (map Step streams) w)
steps_longer [] w = same w
steps_longer (id ∷ ids) w = longer_then w (happens w (Step id)).1 (run (map Step ids) (happens w (Step id)).1) (step_longer w id) (steps_longer ids (happens w (Step id)).1)

-- over a change and the local steps after it
pub advance_longer : (u w new : State) → IsLonger u w → IsAdvanced w new → IsLonger u new
advance_longer u w new first x = longer_then u w new first (subst (IsLonger w) (sym x.state) (steps_longer x.streams w))

-- over a start of a plan
pub begin_longer : (w : State) (plan : PlanModel) → IsLonger w (happens w (Begin plan)).1
begin_longer w plan = go (first_holding w.sizes w.place (pool w) plan)
  where
    go : (o : Option Holding) → IsLonger w (begun w plan o).1
    go (Some why) = same w
    go None = by_room (nat_lt (free_places w) (places_of plan)) (has_all_plans w)
      where
        by_room : (full many : Bool) →
            IsLonger w (if full then unchanged w (played.NotBegun fault.LogFull) else if many then unchanged w (played.NotBegun fault.TooManyPlans)
            else (Answered (played.Begun (length w.plans)), started w plan)).1
        by_room true many = same w
        by_room false true = same w
        by_room false false = record { log = omega arith; unlost = λ none. none }

-- an empty log has no lost call
pub opening_unlost : (c : Sizes) (p : Place) (room : ℕ) → HasLostNone (opened c p room)
opening_unlost c p room id lost = let within = lost.1.1 in absurd (omega arith)

-- ---- the step whose answer has come

-- what a try that is not lost may be answered
abbrev IsTryAnswer : Outcome → Type 0
IsTryAnswer o = (o ≡ Answered played.Moved) ⊎ ((o ≡ Answered played.Spent) ⊎ ((o ≡ Answered played.Unknown) ⊎ (o ≡ Refused)))

tried_answer : (w : State) (id : StreamId) (i : Instr) (answer : Result CallEffect Refusal) → IsTryAnswer (tried w id i passage.Through answer).0
tried_answer w id i (Ok effect) = inl refl
tried_answer w id i (Err why) = inr (inr (inr refl))

try_answer : (w : State) (id : StreamId) (i : Instr) (o : Option ServerCall) → IsTryAnswer (call_tried w id passage.Through i o).0
try_answer w id i None = inr (inr (inl refl))
try_answer w id i (Some x) = by_tries ((progress_of w id).tries == allowance w id)
  where
    by_tries : (spent : Bool) →
        IsTryAnswer (if spent then unchanged w played.Spent else tried w id i passage.Through (called_numbered w.sizes w.place x.shard x.server x.call (call_number w (progress_of w id)))).0
    by_tries true = inr (inl refl)
    by_tries false = tried_answer w id i _

-- what the step of an instruction is answered that is a call or changes an entry of the published map
made_answer : (w : State) (id : StreamId) (o : Option Instr) → (is_some (call_under w.numbers o) || is_some (entry_by w o)) ≡ true → IsTryAnswer (made w id passage.Through o).0
made_answer w id None e = absurd (cc)
made_answer w id (Some (instr.Publish s)) e = inl refl
made_answer w id (Some (instr.Unlist s)) e = inl refl
made_answer w id (Some (instr.Signal q)) e = absurd (cc)
made_answer w id (Some (instr.Wait q)) e = absurd (cc)
made_answer w id (Some (instr.PrepareAdd s v u)) e = try_answer w id (instr.PrepareAdd s v u) _
made_answer w id (Some (instr.PrepareDrop s u v)) e = try_answer w id (instr.PrepareDrop s u v) _
made_answer w id (Some (instr.Add s v role)) e = try_answer w id (instr.Add s v role) _
made_answer w id (Some (instr.Drop s v)) e = try_answer w id (instr.Drop s v) _
made_answer w id (Some (instr.Change s v role)) e = try_answer w id (instr.Change s v role) _

-- a stream that stands before a call or an entry runs, and its step is that of the instruction
step_answer : (w : State) (id : StreamId) → w.halted ≡ false → awaits w id ≡ true → (is_begun w id ≡ true) × IsTryAnswer (happens w (Step id)).0
step_answer w id running waits = go (is_running w id) refl waits
  where
    go : (r : Bool) → is_running w id ≡ r → (is_some (call_under w.numbers (if r then next_instruction w id else None)) || is_some (entry_by w (if r then next_instruction w id else None))) ≡ true →
        (is_begun w id ≡ true) × IsTryAnswer (happens w (Step id)).0
    go false e f = absurd (cc)
    go true e f =
        let b = and_parts (is_begun w id) (not (progress_of w id).done) e in
        let next : Outcome × State = made w id passage.Through (next_instruction w id) in
        let ready : happens w (Step id) ≡ next =
        ap (λ t. if t then unchanged w played.Halted else if is_begun w id then (if (progress_of w id).done then unchanged w played.Done else next) else unchanged w played.Unknown) running
        ∙ ap (λ t. if t then (if (progress_of w id).done then unchanged w played.Done else next) else unchanged w played.Unknown) b.0
        ∙ ap (λ t. if t then unchanged w played.Done else next) (not-true (progress_of w id).done b.1) in
        (b.0, subst (λ (o : Outcome × State). IsTryAnswer o.0) (sym ready) (made_answer w id (next_instruction w id) f))

-- without a lost call such a step is made
pub due_is_moved : (setup : Setup) (w new : State) (id : StreamId) (answer : Played) → IsReached setup w → HasLostNone w → awaits w id ≡ true → happens w (Step id) ≡ (Answered answer, new) → answer ≢ played.Halted →
    answer ≡ played.Moved
due_is_moved setup w new id answer reached none waits event runs =
    let running : w.halted ≡ false = not_halted w new id answer event runs in
    let made = step_answer w id running waits in
    let is : (happens w (Step id)).0 ≡ Answered answer = ap (λ (o : Outcome × State). o.0) event in
    let unhalted_is : unhalted w ≡ w = ap (λ b. record w { halted = b }) (sym running) in
    elim made.1 [
      | inl moved ↦ ap told (sym is ∙ moved)
      | inr (inl spent) ↦ absurd ((unlost_is_unspent setup w [] reached (λ x b d. none x) tt tt).0 id (ap (λ u. (happens u (Step id)).0) unhalted_is ∙ spent))
      | inr (inr (inl unknown)) ↦ absurd (begun_is_known w id passage.Through made.0 unknown)
      | inr (inr (inr refused)) ↦ absurd (let e : Refused ≡ Answered answer = sym refused ∙ is in cc)
    ]
