-- The lines of a plan's streams where the log has steps and requests alone: each stream has made its instructions once each, was allowed the
-- tries of its budget and its retries, and the servers that are down are those of the opening.
use Rattle.std.proofs.Common.{◌≡◌, ◌<◌, ◌+◌, ◌++◌, ◌∷◌, [], ◌∙◌, ℕ, zero, suc, Bool, true, false, List, length, cond, refl, sym, ap, subst, arith}
use Rattle.std.specs.Prelude.{count_by, filter, not, replicate, slice_index_or}
use Rattle.std.specs.List.{flat_map, range_with_len}
use Rattle.std.proofs.lemmas.Bool.{and_parts}
use Rattle.std.proofs.lemmas.List.{length-append, length-map, length-replicate}
use Rattle.std.proofs.lemmas.List.Folds.{list_all-append}
use Rattle.std.proofs.lemmas.List.Filters.{length-filter_both}
use Rattle.std.proofs.lemmas.List.Sums.{length-filter}
use Rattle.sm_placement.specs.Setup.{Setup}
use Rattle.sm_placement.proofs.Searches.{any_none}
use Rattle.sm_reservation.specs.declared.stream_id.StreamId.{StreamId}
use Rattle.sm_plan_code.specs.declared.instruction.Instr.{Instr}
use Rattle.sm_plan_code.specs.Instr.{is_call, is_no_call}
use Rattle.sm_verifier.specs.Stream.{no_stream}
use Rattle.sm_protocol.specs.declared.event.Event.{Event}
use Rattle.sm_protocol.specs.declared.event.Event.TheVariants as event
use Rattle.sm_protocol.specs.declared.event.Logged.{Logged}
use Rattle.sm_protocol.specs.declared.event.Passage.{Passage}
use Rattle.sm_protocol.specs.declared.event.Played.{Played}
use Rattle.sm_protocol.specs.declared.event.Played.TheVariants as played
use Rattle.sm_protocol.specs.State.{State, Progress, allowance, is_begun, plan_at, progress_of, set_progress, stream_count, stream_id, stream_parts}
use Rattle.sm_protocol.specs.Steps.{behind_call, ahead_of_call, tried_more, call_number}
use Rattle.sm_protocol.specs.Happens.{Happening, happens}
use Rattle.sm_protocol.specs.Laws.{AreDone, IsReached}
use Rattle.sm_protocol.specs.Log.{down_by, down_after, is_step_of, steps_in, IsAtEnds, IsInLog}
use Rattle.sm_protocol.proofs.Cases.{OfSteps, of_happens}
use Rattle.sm_protocol.proofs.Keeping.{begun, is_begun_true}
use Rattle.sm_protocol.proofs.Numbers.{each_stream, goes_on}
use Rattle.sm_protocol.proofs.Reached.{by_events}
use Rattle.sm_machine.specs.Retired.{is_made_by, made_in, steps_at_end}
use Rattle.sm_machine.proofs.Told.{recorded_is}
use Rattle.sm_report.specs.RunLines.{stream_end_line, end_line, end_lines, run_line, run_lines}
use Rattle.sm_report.specs.Running.{is_step_or_request, are_steps_and_requests}

-- ---- who is down

-- after steps and requests the same servers are down
still_down : (down : ℕ → Bool) (log : List Logged) → are_steps_and_requests log ≡ true → down_after down log ≡ down
still_down down [] own = refl
still_down down (x ∷ xs) own =
    let parts = and_parts (is_step_or_request x.event) (are_steps_and_requests xs) own in
    ap (λ d. down_after d xs) (same x.event parts.0) ∙ still_down down xs parts.1
  where
    same : (e : Event) → is_step_or_request e ≡ true → down_by down e ≡ down
    same (event.Step id) is = refl
    same (event.Lose id after) is = refl
    same (event.Refill id more) is = refl
    same (event.Arrive s v) is = refl
    same (event.PassOn place) is = refl
    same (event.Approve v) is = absurd (cc)
    same (event.Done v) is = absurd (cc)
    same (event.Begin place) is = refl

-- so where all plans have come to their ends with such a log, those are down that were so at the opening
pub down_as_opened : (w : State) → IsAtEnds w → are_steps_and_requests w.log ≡ true → (v : ℕ) → w.place.down v ≡ w.opening.down v
down_as_opened w at_ends own v = at_ends.down v ∙ ap (λ (d : ℕ → Bool). d v) (still_down w.opening.down w.log own)

-- ---- how many tries a stream was allowed

-- where the log has steps and requests alone, no stream was allowed more tries than by its plan
record IsUnrefilled (w : State) : Type 0 where
  each : are_steps_and_requests w.log ≡ true → (id : StreamId) → (progress_of w id).refills ≡ 0

module _ (w : State) (h : IsUnrefilled w) where
  -- the log before its last line
  before : (x : Logged) → are_steps_and_requests (w.log ++ x ∷ []) ≡ true → are_steps_and_requests w.log ≡ true
  before x own =
      (and_parts (are_steps_and_requests w.log) (are_steps_and_requests (x ∷ []))
      (sym (list_all-append (λ (line : Logged). is_step_or_request line.event) w.log (x ∷ [])) ∙ own)).0

  -- its last line
  last : (x : Logged) → are_steps_and_requests (w.log ++ x ∷ []) ≡ true → is_step_or_request x.event ≡ true
  last x own =
      (and_parts (is_step_or_request x.event) true
      (and_parts (are_steps_and_requests w.log) (are_steps_and_requests (x ∷ []))
      (sym (list_all-append (λ (line : Logged). is_step_or_request line.event) w.log (x ∷ [])) ∙ own)).1).0

  -- one stream goes on by a line, without a refill
  went : (id : StreamId) (y : Progress) (x : Logged) → y.refills ≡ (progress_of w id).refills → are_steps_and_requests (w.log ++ x ∷ []) ≡ true
      → (a : StreamId) → (set_progress w id y a.plan a.stream).refills ≡ 0
  went id y x same own = each_stream (goes_on w id y) (λ a z. z.refills ≡ 0) (same ∙ h.each (before x own) id) (λ a n. h.each (before x own) a)

  unrefilled_by_steps : (id : StreamId) (passage : Passage) → OfSteps w id passage (λ o. IsUnrefilled o.1)
  unrefilled_by_steps id passage =
      let now = progress_of w id in
      record {
        idle = λ answer. h;
        refused = λ i x why t e. h;
        at_end = λ b. record { each = went id (record now { done = true }) _ refl };
        publishes = λ i s server b other. record { each = went id (record now { at = now.at + 1 }) _ refl };
        posts = λ q b. record { each = went id (record now { at = now.at + 1 }) _ refl };
        awaits = λ q b e. record { each = went id (record now { at = now.at + 1 }) _ refl };
        lost = λ i x t p. record { each = went id (record (tried_more now false) { pending = call_number w now }) _ refl };
        through = λ i x effect t a p. record { each = went id (behind_call now effect.fresh) _ refl };
        unanswered = λ i x effect t a p. record { each = went id (ahead_of_call w now effect.fresh) _ refl };
      }

  unrefilled_kept : (e : Happening) → IsUnrefilled (happens w e).1
  unrefilled_kept e = of_happens w (λ e o. IsUnrefilled o.1) (record {
    idle = λ e answer n. h;
    steps = λ id. unrefilled_by_steps id _;
    loses = λ id after. unrefilled_by_steps id _;
    refills = λ id n f. record { each = λ own. absurd (let no = last (record { event = event.Refill id n; answer = played.Refilled }) own in cc) };
    arrives = λ s v f. record { each = λ own. h.each (before _ own) };
    passes_on = λ t o f. record { each = λ own. h.each (before _ own) };
    approves = λ v f. record { each = λ own. h.each (before _ own) };
    restarts = λ v f. record { each = λ own. h.each (before _ own) };
    starts = λ plan a b c. record { each = λ own. h.each own };
  }) e

-- it holds of every state that events lead to
unrefilled : (setup : Setup) (w : State) → IsReached setup w → IsUnrefilled w
unrefilled setup w r =
    let u = by_events setup IsUnrefilled (λ p room o. record { each = λ own id. refl }) (λ x e at f h. unrefilled_kept x h e) w r in
    record { each = u.each }

-- ---- how many steps a stream has made

-- where no call was lost, the lines of a stream are its steps
made_is : (id : StreamId) (log : List Logged) → are_steps_and_requests log ≡ true → filter (λ x. is_made_by id x.event) log ≡ filter (λ x. is_step_of id x.event) log
made_is id [] own = refl
made_is id (x ∷ xs) own =
    let parts = and_parts (is_step_or_request x.event) (are_steps_and_requests xs) own in
    ap (λ b. cond b (x ∷ filter (λ y. is_made_by id y.event) xs) (filter (λ y. is_made_by id y.event) xs)) (same x.event parts.0)
    ∙ ap (λ ys. cond (is_step_of id x.event) (x ∷ ys) ys) (made_is id xs parts.1)
  where
    same : (e : Event) → is_step_or_request e ≡ true → is_made_by id e ≡ is_step_of id e
    same (event.Step token) is = refl
    same (event.Lose token after) is = absurd (cc)
    same (event.Refill token more) is = refl
    same (event.Arrive s v) is = refl
    same (event.PassOn place) is = refl
    same (event.Approve v) is = refl
    same (event.Done v) is = refl
    same (event.Begin place) is = refl

-- so a stream that stands in the log has made a step for each instruction, and one for its end
steps_made : (w : State) (id : StreamId) → are_steps_and_requests w.log ≡ true → IsInLog w id → made_in id w.log ≡ length (stream_parts w id).code + 1
steps_made w id own in_log =
    let n = length (stream_parts w id).code in
    let counted : length (filter (λ x. is_made_by id x.event) w.log) ≡ made_in id w.log = length-filter (λ (x : Logged). is_made_by id x.event) w.log in
    let same : length (filter (λ x. is_made_by id x.event) w.log) ≡ length (filter (λ x. is_step_of id x.event) w.log) = ap length (made_is id w.log own) in
    let answers : length (steps_in id w.log) ≡ length (filter (λ x. is_step_of id x.event) w.log) = length-map (filter (λ x. is_step_of id x.event) w.log) (λ (x : Logged). x.answer) in
    let told : length (steps_in id w.log) ≡ length (replicate n played.Moved ++ played.Done ∷ []) = ap length in_log in
    let parts : length (replicate n played.Moved ++ played.Done ∷ []) ≡ length (replicate n played.Moved) + 1 = length-append (replicate n played.Moved) (played.Done ∷ []) in
    let moved : length (replicate n played.Moved) ≡ n = length-replicate {A = Played} n played.Moved in
    omega arith

-- an instruction is a call or none
calls_and_others : (code : List Instr) → count_by is_call code + count_by is_no_call code ≡ length code
calls_and_others code =
    let calls = length-filter is_call code in
    let others = length-filter is_no_call code in
    let both = length-filter_both is_call is_no_call (λ i. refl) code in
    omega arith

-- ---- the lines

-- lines that are the same at each number of a range are the same text
same_lines : (f g : ℕ → List ℕ) (a n : ℕ) → ((i : ℕ) → i < n → f (a + i) ≡ g (a + i)) → flat_map f (range_with_len a n) ≡ flat_map g (range_with_len a n)
same_lines f g a zero each = refl
same_lines f g a (suc n) each =
    let first : f a ≡ g a = (let e : a + 0 ≡ a = omega arith in subst (λ k. f k ≡ g k) e (each 0 (omega arith))) in
    let others : flat_map f (range_with_len (a + 1) n) ≡ flat_map g (range_with_len (a + 1) n) =
    same_lines f g (a + 1) n (λ i below. let e : a + suc i ≡ a + 1 + i = omega arith in subst (λ k. f k ≡ g k) e (each (suc i) (omega arith))) in
    ap (λ t. t ++ flat_map f (range_with_len (a + 1) n)) first ∙ ap (λ t. g a ++ t) others

-- a stream of plans that are done has made its end
stream_done : (w : State) → AreDone w → (id : StreamId) → is_begun w id ≡ true → (progress_of w id).done ≡ true
stream_done w done id b =
    let k = begun w id b in
    let none : not (progress_of w id).done ≡ false = any_none (stream_count w id.plan) (λ i. not (w.progress id.plan i).done) (done id.plan k.plan) id.stream k.stream in
    yes (progress_of w id).done none
  where
    yes : (d : Bool) → not d ≡ false → d ≡ true
    yes true e = refl
    yes false e = absurd (cc)

module _ (setup : Setup) (w : State) (reached : IsReached setup w) (done : AreDone w) (in_log : (id : StreamId) → is_begun w id ≡ true → IsInLog w id) (own : are_steps_and_requests w.log ≡ true) where
  -- the line of a stream that has made its end is that of its plan
  line_is : (id : StreamId) → is_begun w id ≡ true → end_line w id ≡ run_line id.stream (stream_parts w id)
  line_is id b =
      let code = (stream_parts w id).code in
      let made : steps_at_end w id ≡ length code + 1 =
      recorded_is setup w reached id b (stream_done w done id b) ∙ steps_made w id own (in_log id b) in
      let all = calls_and_others code in
      let tries : (progress_of w id).tries ≡ count_by is_call code = omega (arith, made, all) in
      let none = (unrefilled setup w reached).each own id in
      let allowed : allowance w id ≡ (stream_parts w id).budget + (stream_parts w id).retries = omega (arith, none) in
      ap (λ n. stream_end_line id.stream n (progress_of w id).tries (allowance w id)) made
      ∙ ap (λ n. stream_end_line id.stream (length code + 1) n (allowance w id)) tries
      ∙ ap (λ n. stream_end_line id.stream (length code + 1) (count_by is_call code) n) allowed

  -- so the lines of the streams of the plan that began first are those of this plan
  pub lines_are : length w.plans ≡ 1 → end_lines w 0 ≡ run_lines (plan_at w 0)
  lines_are one =
      same_lines (λ i. end_line w (stream_id 0 i)) (λ i. run_line i (slice_index_or (plan_at w 0).streams i no_stream)) 0 (stream_count w 0)
      (λ i below. line_is (stream_id 0 (0 + i)) (is_begun_true w (stream_id 0 (0 + i)) (record { plan = omega (arith, one); stream = omega (arith, below) })))
