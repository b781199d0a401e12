-- An event changes nothing, or is recorded, or starts a plan.
use Rattle.sm_protocol.proofs.Below.{◌≡◌, ℕ, Bool, true, false, refl, sym, ap, ◌∙◌, inl, inr, ◌⊎◌, arith, Option, Some, None, List, [], ◌∷◌, length-append, length, if◌then◌else◌, StreamId, Signal, Wait, PlanModel, first_holding}
use Rattle.sm_protocol.proofs.Words.{Event, Passage, Through, LostBefore, LostAfter, Played, Ticket, is_open_ticket, State, logged, pool, Outcome, Answered, step, Happening, Step, Lose, Refill, Arrive, PassOn, Approve, Done, Begin, reply_of, started, happens, happening_of, IsAcceptedStart, UnrecordedChangesNothing}
use Rattle.sm_protocol.specs.declared.event.Event.TheVariants as event
use Rattle.sm_protocol.specs.declared.event.Played.TheVariants as played
use Rattle.sm_protocol.proofs.Cases.{OfSteps, of_happens, same_step, same_end}
use Rattle.sm_protocol.proofs.Requests.{reply_forwards}

-- the recorded event is what happened: either by itself, or as the pass of an open ticket
abbrev pub IsRecordOf : State → Happening → Event → Type 0
IsRecordOf w e x =
    ((tickets : List (Option Ticket)) → happening_of tickets x ≡ Some e)
    ⊎ ((t : Ticket) × (e ≡ PassOn t) × (x ≡ event.PassOn t.place) × (is_open_ticket w.log t ≡ true))

-- a pass is recorded at the next place of the log
abbrev pub IsPassHere : State → Played → Type 0
IsPassHere w a = (to number place : ℕ) → a ≡ played.Passed to number place → place ≡ length w.log

-- an event was recorded, which leads to the same state
pub record IsNewLine (w : State) (o : Outcome × State) : Type 0 where
  pub happening : Happening
  pub event : Event
  pub answer : Played
  pub made : happens w happening ≡ (Answered answer, o.1)
  pub log : o.1.log ≡ logged w event answer
  pub plans : o.1.plans ≡ w.plans
  pub is_record : IsRecordOf w happening event
  pub no_start : IsAcceptedStart w happening
  pub pass_here : IsPassHere w answer

-- a plan was started
pub record IsNewStart (w : State) (e : Happening) (o : Outcome × State) : Type 0 where
  pub plan : PlanModel
  pub event : e ≡ Begin plan
  pub made : happens w (Begin plan) ≡ (Answered (played.Begun (length w.plans)), o.1)
  pub state : o.1 ≡ started w plan
  pub free : first_holding w.sizes w.place (pool w) plan ≡ None

abbrev pub IsTurn : State → Happening → Outcome × State → Type 0
IsTurn w e o = (o.1 ≡ w) ⊎ (IsNewLine w o ⊎ IsNewStart w e o)

-- an event that is recorded by itself
by_itself : {w : State} {o : Outcome × State} (e : Happening) (x : Event) (a : Played) → happens w e ≡ (Answered a, o.1) → o.1.log ≡ logged w x a → o.1.plans ≡ w.plans →
    ((tickets : List (Option Ticket)) → happening_of tickets x ≡ Some e) → IsAcceptedStart w e → IsPassHere w a → IsNewLine w o
by_itself e x a made log plans is_record no_start here = record {
  happening = e;
  event = x;
  answer = a;
  made = made;
  log = log;
  plans = plans;
  is_record = inl is_record;
  no_start = no_start;
  pass_here = here;
}

-- a step that is recorded as it is
stepped : {w : State} {o : Outcome × State} (id : StreamId) (a : Played) → step w id Through ≡ (Answered a, o.1) → o.1.log ≡ logged w (event.Step id) a → o.1.plans ≡ w.plans → IsPassHere w a → IsNewLine w o
stepped id a made log plans here = by_itself (Step id) (event.Step id) a made log plans (λ tickets. refl) tt here

-- a call that is lost
lost_so : {w : State} {o : Outcome × State} (id : StreamId) (after : Bool) → step w id (if after then LostAfter else LostBefore) ≡ (Answered played.Lost, o.1) →
    o.1.log ≡ logged w (event.Lose id after) played.Lost → o.1.plans ≡ w.plans → IsNewLine w o
lost_so id after made log plans = by_itself (Lose id after) (event.Lose id after) played.Lost made log plans (λ tickets. refl) tt (λ to m n h. absurd (cc))

step_turns : (w : State) (e : Happening) (id : StreamId) (passage : Passage) → OfSteps w id passage (λ o. step w id passage ≡ o → IsTurn w e o)
step_turns w e id passage = record {
  idle = λ answer q. inl refl;
  refused = λ i x why t f q. inl refl;
  at_end = λ b q. inr (inl (stepped id played.Done (same_end w id Through passage b.next_is ∙ q) refl refl (λ to m n h. absurd (cc))));
  publishes = λ i s server b c q. inr (inl (stepped id played.Moved (same_step w id Through passage i b.next_is c ∙ q) refl refl moves));
  posts = λ s b q. inr (inl (stepped id played.Moved (same_step w id Through passage (Signal s) b.next_is refl ∙ q) refl refl moves));
  awaits = λ s b p q. inr (inl (stepped id played.Moved (same_step w id Through passage (Wait s) b.next_is refl ∙ q) refl refl moves));
  lost = λ i x t p q. inr (inl (lost_so id false (sym (ap (step w id) p) ∙ q) refl refl));
  through = λ i x effect t a p q. inr (inl (stepped id played.Moved (sym (ap (step w id) p) ∙ q) refl refl moves));
  unanswered = λ i x effect t a p q. inr (inl (lost_so id true (sym (ap (step w id) p) ∙ q) refl refl));
}
  where
    moves : IsPassHere w played.Moved
    moves to m n h = absurd (cc)

-- what an event does
pub turns : (w : State) (e : Happening) → IsTurn w e (happens w e)
turns w e = of_happens w (λ e o. happens w e ≡ o → IsTurn w e o) (record {
  idle = λ e answer n q. inl refl;
  steps = λ id. step_turns w (Step id) id Through;
  loses = λ id after. step_turns w (Lose id after) id (if after then LostAfter else LostBefore);
  refills = λ id more f q. inr (inl (by_itself (Refill id more) (event.Refill id more) played.Refilled q refl refl (λ tickets. refl) tt (λ to m n h. absurd (cc))));
  arrives = λ s v f q. inr (inl (by_itself (Arrive s v) (event.Arrive s v) (reply_of w s v None) q refl refl (λ tickets. refl) tt (λ to m n h. (reply_forwards w s v None to m n h).1)));
  passes_on = λ t o f q. inr (inl (record {
    happening = PassOn t;
    event = event.PassOn t.place;
    answer = reply_of w t.shard t.target (Some t);
    made = q;
    log = refl;
    plans = refl;
    is_record = inr (t, refl, refl, o);
    no_start = tt;
    pass_here = λ to m n h. (reply_forwards w t.shard t.target (Some t) to m n h).1;
  }));
  approves = λ v f q. inr (inl (by_itself (Approve v) (event.Approve v) played.Approved q refl refl (λ tickets. refl) tt (λ to m n h. absurd (cc))));
  restarts = λ v f q. inr (inl (by_itself (Done v) (event.Done v) played.Up q refl refl (λ tickets. refl) tt (λ to m n h. absurd (cc))));
  starts = λ plan h f g q. inr (inr (record { plan = plan; event = refl; made = q; state = refl; free = h }));
}) e refl

-- what is recorded makes the log longer, and what is started the list of plans
pub unrecorded_changes_nothing : UnrecordedChangesNothing
unrecorded_changes_nothing w e log plans = elim (turns w e) [
  | inl same ↦ same
  | inr (inl line) ↦
      let l = length-append w.log (record { event = line.event; answer = line.answer } ∷ []) in
      let n = ap length (sym log ∙ line.log) in
      absurd (omega arith)
  | inr (inr start) ↦
      let l = length-append w.plans (record { plan = start.plan; since = length w.log } ∷ []) in
      let n = ap length (sym plans ∙ ap (λ (x : State). x.plans) start.state) in
      absurd (omega arith)
]
