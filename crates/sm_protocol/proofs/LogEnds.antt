-- The entries of the log about each stream's steps and of restarts.
use Rattle.sm_protocol.proofs.Below.{◌≡◌, ◌≢◌, ℕ, ◌+◌, Bool, true, false, refl, sym, ap, ◌∙◌, inl, inr, List, [], ◌∷◌, ◌++◌, length, map, filter, replicate, cases_eq, eq-eqb, ne_eqb, map-append, append-nil, filter-append, replicate_next, Setup, Place, StreamId}
use Rattle.sm_protocol.proofs.Words.{Event, Logged, Passage, Played, State, Progress, stream_parts, progress_of, set_progress, is_begun, call_number, tried_more, behind_call, ahead_of_call, Happening, happens, down_by, down_after, is_step_of, steps_in, IsInLog, IsReached}
use Rattle.sm_protocol.specs.declared.event.Event.TheVariants as event
use Rattle.sm_protocol.specs.declared.event.Played.TheVariants as played
use Rattle.sm_protocol.proofs.Invariant.{IsKept}
use Rattle.sm_protocol.proofs.Numbers.{each_stream, same_stream, goes_on}
use Rattle.sm_protocol.proofs.Keeping.{begun}
use Rattle.sm_protocol.proofs.Cases.{OfSteps, of_happens}
use Rattle.sm_protocol.proofs.LogRoom.{of_call}
use Rattle.sm_protocol.proofs.Reached.{by_events}

-- the answers to the steps that a stream has made
abbrev pub end_made : Bool → List Played
end_made true = played.Done ∷ []
end_made false = []

abbrev pub steps_made : Progress → List Played
steps_made x = replicate x.at played.Moved ++ end_made x.done

-- the log has the steps that each stream has made; who is down is as the logged restarts leave it
pub record IsLogged (w : State) : Type 0 where
  pub steps : (id : StreamId) → steps_in id w.log ≡ steps_made (progress_of w id)
  pub down : w.place.down ≡ down_after w.opening.down w.log
  pub limit : w.place.limit ≡ w.opening.limit

-- ---- one line more

steps_push : (id : StreamId) (log : List Logged) (x : Logged) → steps_in id (log ++ x ∷ []) ≡ steps_in id log ++ steps_in id (x ∷ [])
steps_push id log x =
    ap (map (λ (y : Logged). y.answer)) (filter-append (λ (y : Logged). is_step_of id y.event) log (x ∷ []))
    ∙ map-append (λ (y : Logged). y.answer) (filter (λ (y : Logged). is_step_of id y.event) log) (filter (λ (y : Logged). is_step_of id y.event) (x ∷ []))

down_push : (down : ℕ → Bool) (log : List Logged) (x : Logged) → down_after down (log ++ x ∷ []) ≡ down_by (down_after down log) x.event
down_push down [] x = refl
down_push down (y ∷ ys) x = down_push (down_by down y.event) ys x

abbrev line : Event → Played → Logged
line event answer = record { event = event; answer = answer }

own_step : (id : StreamId) (answer : Played) → steps_in id (line (event.Step id) answer ∷ []) ≡ answer ∷ []
own_step id answer = rw (eq-eqb id.plan id.plan refl, eq-eqb id.stream id.stream refl) refl

other_step : (id other : StreamId) (answer : Played) → other ≢ id → steps_in other (line (event.Step id) answer ∷ []) ≡ []
other_step id other answer n = elim (cases_eq id.plan other.plan) [
  | inr e ↦ rw (ne_eqb id.plan other.plan e) refl
  | inl e ↦ elim (cases_eq id.stream other.stream) [
    | inr d ↦ rw (eq-eqb id.plan other.plan e, ne_eqb id.stream other.stream d) refl
    | inl d ↦ absurd (n (sym (same_stream id other e d)))
  ]
]

more_moved : (n : ℕ) → replicate n played.Moved ++ played.Moved ∷ [] ≡ replicate (n + 1) played.Moved ++ []
more_moved n = sym (append-nil (replicate (n + 1) played.Moved) ∙ replicate_next n played.Moved)

module _ (w : State) (h : IsLogged w) where
  -- a line that is no step of a stream
  aside : (id : StreamId) (x : Logged) (y : Progress) → steps_in id (x ∷ []) ≡ [] → steps_made y ≡ steps_made (progress_of w id) → steps_in id (w.log ++ x ∷ []) ≡ steps_made y
  aside id x y e same = steps_push id w.log x ∙ ap (λ l. steps_in id w.log ++ l) e ∙ append-nil (steps_in id w.log) ∙ h.steps id ∙ sym same

  -- one stream goes on
  module _ (id : StreamId) (y : Progress) (x : Logged) (own : steps_made (progress_of w id) ++ steps_in id (x ∷ []) ≡ steps_made y) (apart : (a : StreamId) → a ≢ id → steps_in a (x ∷ []) ≡ []) where
    steps_after : (a : StreamId) → steps_in a (w.log ++ x ∷ []) ≡ steps_made (set_progress w id y a.plan a.stream)
    steps_after = each_stream (goes_on w id y) (λ a z. steps_in a (w.log ++ x ∷ []) ≡ steps_made z)
        (steps_push id w.log x ∙ ap (λ l. l ++ steps_in id (x ∷ [])) (h.steps id) ∙ own)
        (λ a e. aside a x (progress_of w a) (apart a e) refl)

    went : (new : State) → progress_of new ≡ (λ a. set_progress w id y a.plan a.stream) → new.log ≡ w.log ++ x ∷ [] → new.opening ≡ w.opening → new.place.down ≡ w.place.down → new.place.limit ≡ w.place.limit →
        ((d : ℕ → Bool) → down_by d x.event ≡ d) → IsLogged new
    went new g log o d l quiet = record {
      steps = λ a. ap (steps_in a) log ∙ steps_after a ∙ ap (λ (f : StreamId → Progress). steps_made (f a)) (sym g);
      down = d ∙ h.down ∙ sym (ap (down_after new.opening.down) log ∙ ap (λ (q : Place). down_after q.down (w.log ++ x ∷ [])) o ∙ down_push w.opening.down w.log x ∙ quiet (down_after w.opening.down w.log));
      limit = l ∙ h.limit ∙ ap (λ (q : Place). q.limit) (sym o);
    }

  moved : (id : StreamId) (y : Progress) → (progress_of w id).done ≡ false → y.at ≡ (progress_of w id).at + 1 → y.done ≡ false →
      steps_made (progress_of w id) ++ steps_in id (line (event.Step id) played.Moved ∷ []) ≡ steps_made y
  moved id y d at e =
      ap (λ l. steps_made (progress_of w id) ++ l) (own_step id played.Moved)
      ∙ ap (λ b. (replicate (progress_of w id).at played.Moved ++ end_made b) ++ played.Moved ∷ []) d
      ∙ ap (λ l. l ++ played.Moved ∷ []) (append-nil (replicate (progress_of w id).at played.Moved))
      ∙ more_moved (progress_of w id).at
      ∙ ap (λ n. replicate n played.Moved ++ []) (sym at)
      ∙ ap (λ b. replicate y.at played.Moved ++ end_made b) (sym e)

  at_its_end : (id : StreamId) → (progress_of w id).done ≡ false →
      steps_made (progress_of w id) ++ steps_in id (line (event.Step id) played.Done ∷ []) ≡ steps_made (record (progress_of w id) { done = true })
  at_its_end id d =
      ap (λ l. steps_made (progress_of w id) ++ l) (own_step id played.Done)
      ∙ ap (λ b. (replicate (progress_of w id).at played.Moved ++ end_made b) ++ played.Done ∷ []) d
      ∙ ap (λ l. l ++ played.Done ∷ []) (append-nil (replicate (progress_of w id).at played.Moved))

  by_steps : (id : StreamId) (passage : Passage) → OfSteps w id passage (λ o. IsLogged o.1)
  by_steps id passage = record {
    idle = λ answer. h;
    refused = λ i x why t e. h;
    at_end = λ b. went id (record now { done = true }) (line (event.Step id) played.Done) (at_its_end id b.running) (λ a n. other_step id a played.Done n) _ refl refl refl refl refl (λ d. refl);
    publishes = λ i s server b c. went id (record now { at = now.at + 1 }) (line (event.Step id) played.Moved) (moved id (record now { at = now.at + 1 }) b.running refl b.running) (λ a n. other_step id a played.Moved n) _ refl refl refl refl refl (λ d. refl);
    posts = λ q b. went id (record now { at = now.at + 1 }) (line (event.Step id) played.Moved) (moved id (record now { at = now.at + 1 }) b.running refl b.running) (λ a n. other_step id a played.Moved n) _ refl refl refl refl refl (λ d. refl);
    awaits = λ q b e. went id (record now { at = now.at + 1 }) (line (event.Step id) played.Moved) (moved id (record now { at = now.at + 1 }) b.running refl b.running) (λ a n. other_step id a played.Moved n) _ refl refl refl refl refl (λ d. refl);
    lost = λ i x t p. went id (record (tried_more now false) { pending = call_number w now }) (line (event.Lose id false) played.Lost) (append-nil (steps_made now)) (λ a n. refl) _ refl refl refl refl refl (λ d. refl);
    through = λ i x effect t a p. went id (behind_call now effect.fresh) (line (event.Step id) played.Moved) (moved id (behind_call now effect.fresh) t.before.running refl t.before.running) (λ b n. other_step id b played.Moved n) _ refl refl refl
        (of_call w.sizes w.place x.shard x.server x.call (call_number w now) effect a).down (of_call w.sizes w.place x.shard x.server x.call (call_number w now) effect a).limit (λ d. refl);
    unanswered = λ i x effect t a p. went id (ahead_of_call w now effect.fresh) (line (event.Lose id true) played.Lost) (append-nil (steps_made now)) (λ b n. refl) _ refl refl refl
        (of_call w.sizes w.place x.shard x.server x.call (call_number w now) effect a).down (of_call w.sizes w.place x.shard x.server x.call (call_number w now) effect a).limit (λ d. refl);
  }
    where
      now : Progress
      now = progress_of w id

  -- a line that is no step
  no_step : (x : Logged) → ((id : StreamId) → steps_in id (x ∷ []) ≡ []) → (id : StreamId) → steps_in id (w.log ++ x ∷ []) ≡ steps_made (progress_of w id)
  no_step x e id = aside id x (progress_of w id) (e id) refl

  -- who is down after it
  down_then : (x : Logged) → down_after w.opening.down (w.log ++ x ∷ []) ≡ down_by w.place.down x.event
  down_then x = down_push w.opening.down w.log x ∙ ap (λ f. down_by f x.event) (sym h.down)

  pub logged_kept : (e : Happening) → IsLogged (happens w e).1
  logged_kept e = of_happens w (λ e o. IsLogged o.1) (record {
    idle = λ e answer n. h;
    steps = λ id. by_steps id _;
    loses = λ id after. by_steps id _;
    refills = λ id n f. went id (record (progress_of w id) { refills = (progress_of w id).refills + n }) (line (event.Refill id n) played.Refilled) (append-nil (steps_made (progress_of w id))) (λ b m. refl) _ refl refl refl refl refl (λ d. refl);
    arrives = λ s v f. record { steps = no_step _ (λ id. refl); down = sym (down_then _); limit = h.limit };
    passes_on = λ t o f. record { steps = no_step _ (λ id. refl); down = sym (down_then _); limit = h.limit };
    approves = λ v f. record { steps = no_step _ (λ id. refl); down = sym (down_then (line (event.Approve v) played.Approved)); limit = h.limit };
    restarts = λ v f. record { steps = no_step _ (λ id. refl); down = sym (down_then (line (event.Done v) played.Up)); limit = h.limit };
    starts = λ plan a b c. record { steps = h.steps; down = h.down; limit = h.limit };
  }) e

-- it holds of every state that events lead to
pub is_logged : (setup : Setup) (w : State) → IsReached setup w → IsLogged w
is_logged setup w r =
    let u = by_events setup IsLogged (λ p room o. record { steps = λ id. refl; down = refl; limit = refl }) (λ x e at f h. logged_kept x h e) w r in
    record { steps = u.steps; down = u.down; limit = u.limit }

-- where a stream has made its end, the log has its instructions and then its end
pub in_log : (w : State) → IsKept w → IsLogged w → (id : StreamId) → is_begun w id ≡ true → (progress_of w id).done ≡ true → IsInLog w id
in_log w v h id b d =
    let k = begun w id b in
    let at = ((v.plans id.plan k.plan).streams id.stream k.stream).at_end d in
    h.steps id ∙ ap (λ n. replicate n played.Moved ++ end_made (progress_of w id).done) at ∙ ap (λ t. replicate (length (stream_parts w id).code) played.Moved ++ end_made t) d
