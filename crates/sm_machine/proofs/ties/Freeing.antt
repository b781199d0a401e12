-- The number of free places of the log after each event: a machine counts what the state says.
use Rattle.std.proofs.Common.{◌≡◌, ◌≤◌, ◌<◌, ◌+◌, ◌-◌, ℕ, true, false, not, refl, sym, ap, ◌∙◌, arith, inl, inr, ◌⊎◌, Option, Some, None, Ok, List, length}
use Rattle.std.specs.Prelude.{count_by}
use Rattle.std.proofs.lemmas.Bool.{and_parts, eqb-false, not-true}
use Rattle.std.proofs.lemmas.List.{drop_all}
use Rattle.std.proofs.lemmas.Option.{slice_get_cases}
use Rattle.sm_placement.specs.declared.entry.Entry.{Entry}
use Rattle.sm_placement.specs.Sums.{put, bit, sum_below, count_below}
use Rattle.sm_placement.specs.Setup.{Setup}
use Rattle.sm_placement.specs.Place.{Place, CallEffect, publish, set_down, down_count}
use Rattle.sm_placement.proofs.Sums.{put-here, put-apart, sum_apart, part_of_sum}
use Rattle.sm_reservation.specs.declared.stream_id.StreamId.{StreamId}
use Rattle.sm_plan_code.specs.declared.call.ServerCall.{ServerCall}
use Rattle.sm_plan_code.specs.declared.instruction.Instr.{Instr}
use Rattle.sm_plan_code.specs.declared.instruction.Instr.TheVariants.{Signal, Wait}
use Rattle.sm_plan_code.specs.Instr.{is_call}
use Rattle.sm_plan_code.specs.Plan.{StreamModel, PlanModel}
use Rattle.sm_protocol.specs.declared.event.Event.{Event}
use Rattle.sm_protocol.specs.declared.event.Event.TheVariants as event
use Rattle.sm_protocol.specs.declared.event.Played.{Played}
use Rattle.sm_protocol.specs.declared.event.Played.TheVariants as played
use Rattle.sm_protocol.specs.State.{State, Mark, Progress, stream_count, stream_parts, progress_of, stream_id, is_begun, is_running, allowance, set_progress, logged, places_left, places_of, set_aside, free_places, is_no_call}
use Rattle.sm_protocol.specs.Steps.{behind_call, ahead_of_call, tried_more, call_number, number_after_try, served_try, call_lost, entry_added, posted, ended}
use Rattle.sm_protocol.specs.Happens.{started}
use Rattle.sm_protocol.specs.Laws.{IsReached}
use Rattle.sm_protocol.proofs.LogRoom.{HasRoom, has_room, begun_parts, left_started, length_logged, of_call}
use Rattle.sm_protocol.proofs.Places.{streams_left, left_after, no_calls_from, tries_left, left_unless_done, past_no_call, past_call}
use Rattle.sm_protocol.proofs.Steps.{one_on}
use Rattle.sm_protocol.proofs.Cases.{IsBefore, IsTry, answer_to, parcel_taken}

module _ (setup : Setup) (w : State) (reached : IsReached setup w) where
  h : HasRoom w
  h = has_room setup w reached

  -- the log, what is set aside and what is free are together its room
  pub whole_log : free_places w + (length w.log + set_aside w) ≡ w.room
  whole_log = let r = h.room in omega arith

  module _ (id : StreamId) where
    abbrev now : Progress
    now = progress_of w id

    abbrev parts : StreamModel
    parts = stream_parts w id

    -- a step that is recorded finds a place of the log
    pub room_to_step : is_running w id ≡ true → length w.log < w.room
    room_to_step runs =
        let p = and_parts (is_begun w id) (not now.done) runs in
        let b = begun_parts w id p.0 in
        let d : now.done ≡ false = not-true now.done p.1 in
        let one = left_unless_done parts now d in
        let mine = part_of_sum (stream_count w id.plan) (λ i. places_left (stream_parts w (stream_id id.plan i)) (w.progress id.plan i)) id.stream b.1 in
        let plan = part_of_sum (length w.plans) (λ k. sum_below (stream_count w k) (λ i. places_left (stream_parts w (stream_id k i)) (w.progress k i))) id.plan b.0 in
        let r = h.room in
        omega arith

    -- a stream takes a place less, and an event is recorded
    free_same : (y : Progress) (p : Place) (entries : List (ℕ × Entry)) (numbers : ℕ → ℕ) (n : ℕ) (marks : ℕ → ℕ → Mark) (e : Event) (answer : Played) →
        is_begun w id ≡ true → p.down ≡ w.place.down → places_left parts y + 1 ≡ places_left parts now →
        free_places (record w { place = p; entries = entries; numbers = numbers; next_number = n; marks = marks; progress = set_progress w id y; log = logged w e answer }) ≡ free_places w
    free_same y p entries numbers n marks e answer begun down less =
        let b = begun_parts w id begun in
        let sum : streams_left w (set_progress w id y) + 1 ≡ streams_left w w.progress + 0 = left_after w id y 1 0 b.0 b.1 (omega arith) in
        let log = length_logged w e answer in
        let downs : down_count w.sizes p ≡ down_count w.sizes w.place = ap (count_below w.sizes.servers) down in
        let r = h.room in
        omega arith

    -- ---- instructions that are no calls

    no_call_less : (i : Instr) → IsBefore w id (Some i) → is_call i ≡ false → places_left parts (one_on now) + 1 ≡ places_left parts now
    no_call_less i b n =
        let a = left_unless_done parts now b.running in
        let c = left_unless_done parts (one_on now) b.running in
        let d = past_no_call parts now.at i b.next_is (ap not n) in
        omega arith

    -- another entry of the published map leaves as many places free
    pub free_published : (i : Instr) (s : ℕ) (server : Option ℕ) → IsBefore w id (Some i) → is_call i ≡ false → free_places (entry_added w id s server).1 ≡ free_places w
    free_published i s server b n = free_same (one_on now) (publish w.place s server) w.entries w.numbers w.next_number w.marks (event.Step id) played.Moved b.begun refl (no_call_less i b n)

    -- so does the post of a signal
    pub free_posted : (q : ℕ) → IsBefore w id (Some (Signal q)) → free_places (posted w id q).1 ≡ free_places w
    free_posted q b = free_same (one_on now) w.place w.entries w.numbers w.next_number w.marks (event.Step id) played.Moved b.begun refl (no_call_less (Signal q) b refl)

    -- so does a wait for a posted signal
    pub free_taken : (q : ℕ) → IsBefore w id (Some (Wait q)) → free_places (parcel_taken w id q) ≡ free_places w
    free_taken q b = free_same (one_on now) w.place w.entries w.numbers w.next_number w.marks (event.Step id) played.Moved b.begun refl (no_call_less (Wait q) b refl)

    -- ---- calls

    module _ (i : Instr) (x : ServerCall) (t : IsTry w id i x) where
      call_less : (y : Progress) → y.done ≡ false → (y.at ≡ now.at) ⊎ (y.at ≡ now.at + 1) → y.refills ≡ now.refills → y.tries ≡ now.tries + 1 → places_left parts y + 1 ≡ places_left parts now
      call_less y d at refills tries =
          let a = left_unless_done parts now t.before.running in
          let b = left_unless_done parts y d in
          let c = past_call parts now.at i t.before.next_is (ap not t.call) in
          let e : no_calls_from parts y.at ≡ no_calls_from parts now.at = elim at [ inl q ↦ ap (no_calls_from parts) q | inr q ↦ ap (no_calls_from parts) q ∙ sym c ] in
          let within : now.tries ≤ allowance w id = h.tries id.plan id.stream in
          let spare = eqb-false now.tries (allowance w id) t.unspent in
          omega arith

      downs : (effect : CallEffect) → answer_to w id x ≡ Ok effect → effect.place.down ≡ w.place.down
      downs effect e = (of_call w.sizes w.place x.shard x.server x.call (call_number w now) effect e).down

      -- a try that is served and answered leaves as many places free
      pub free_through : (effect : CallEffect) → answer_to w id x ≡ Ok effect → free_places (served_try w id i effect (behind_call now effect.fresh) (event.Step id) played.Moved) ≡ free_places w
      free_through effect e = free_same (behind_call now effect.fresh) effect.place w.entries w.numbers (number_after_try w now) w.marks (event.Step id) played.Moved t.before.begun (downs effect e)
          (call_less (behind_call now effect.fresh) t.before.running (inr refl) refl refl)

      -- so does one that is served, and whose answer is lost
      pub free_unanswered : (effect : CallEffect) → answer_to w id x ≡ Ok effect → free_places (served_try w id i effect (ahead_of_call w now effect.fresh) (event.Lose id true) played.Lost) ≡ free_places w
      free_unanswered effect e = free_same (ahead_of_call w now effect.fresh) effect.place w.entries w.numbers (number_after_try w now) w.marks (event.Lose id true) played.Lost t.before.begun (downs effect e)
          (call_less (ahead_of_call w now effect.fresh) t.before.running (inl refl) refl refl)

      -- so does one that is lost before it comes to its server
      pub free_lost : free_places (call_lost w id) ≡ free_places w
      free_lost =
          let y : Progress = record (tried_more now false) { pending = call_number w now } in
          free_same y w.place w.entries w.numbers (number_after_try w now) w.marks (event.Lose id false) played.Lost t.before.begun refl (call_less y t.before.running (inl refl) refl refl)

    -- ---- ends and refills

    -- the tries that a stream has left at its end are free then
    pub free_ended : IsBefore w id None → free_places (ended w id).1 ≡ free_places w + (allowance w id - now.tries)
    free_ended b =
        let y : Progress = record now { done = true } in
        let n = begun_parts w id b.begun in
        let a = left_unless_done parts now b.running in
        let past : length parts.code ≤ now.at = past_end in
        let none : no_calls_from parts now.at ≡ 0 = ap (count_by is_no_call) (drop_all now.at parts.code past) in
        let sum : streams_left w (set_progress w id y) + (tries_left parts now + 1) ≡ streams_left w w.progress + 0 = left_after w id y (tries_left parts now + 1) 0 n.0 n.1 (omega arith) in
        let log = length_logged w (event.Step id) played.Done in
        let r = h.room in
        omega arith
      where
        past_end : length parts.code ≤ now.at
        past_end = elim (slice_get_cases parts.code now.at).1 [
          | inl z ↦ absurd (let e = z.2 in let f = b.next_is in cc)
          | inr z ↦ z.0
        ]

    -- each try more takes a place, and so does what is recorded
    pub free_refilled : is_running w id ≡ true → (more : ℕ) → more + 1 ≤ free_places w → (e : Event) (answer : Played) →
        free_places (record w { progress = set_progress w id (record now { refills = now.refills + more }); log = logged w e answer }) + (more + 1) ≡ free_places w
    free_refilled runs more enough e answer =
        let p = and_parts (is_begun w id) (not now.done) runs in
        let n = begun_parts w id p.0 in
        let d : now.done ≡ false = not-true now.done p.1 in
        let y : Progress = record now { refills = now.refills + more } in
        let a = left_unless_done parts now d in
        let b = left_unless_done parts y d in
        let within : now.tries ≤ allowance w id = h.tries id.plan id.stream in
        let sum : streams_left w (set_progress w id y) + 0 ≡ streams_left w w.progress + more = left_after w id y 0 more n.0 n.1 (omega arith) in
        let log = length_logged w e answer in
        let r = h.room in
        omega arith

  -- ---- what is recorded of requests and restarts

  -- an event that is recorded and changes nothing else takes one free place
  pub free_recorded : 1 ≤ free_places w → (e : Event) (answer : Played) → free_places (record w { log = logged w e answer }) + 1 ≡ free_places w
  free_recorded enough e answer = let log = length_logged w e answer in let r = h.room in omega arith

  -- an approval takes two places: its own, and one for the end of the restart
  pub free_approved : (u : ℕ) → u < w.sizes.servers → w.place.down u ≡ false → 2 ≤ free_places w → (e : Event) (answer : Played) →
      free_places (record w { place = set_down w.place u true; log = logged w e answer }) + 2 ≡ free_places w
  free_approved u known up enough e answer =
      let log = length_logged w e answer in
      let a : bit (put w.place.down u true u) ≡ 1 = ap bit (put-here w.place.down u true u refl) in
      let b : bit (w.place.down u) ≡ 0 = ap bit up in
      let c : count_below w.sizes.servers (put w.place.down u true) + 0 ≡ count_below w.sizes.servers w.place.down + 1 =
      sum_apart w.sizes.servers (λ k. bit (put w.place.down u true k)) (λ k. bit (w.place.down k)) u 0 1 known (λ k q. ap bit (put-apart w.place.down u true k q)) (omega arith) in
      let r = h.room in
      omega arith

  -- the end of a restart takes the place that was set aside for it
  pub free_restarted : (u : ℕ) → u < w.sizes.servers → w.place.down u ≡ true → (e : Event) (answer : Played) →
      free_places (record w { place = set_down w.place u false; log = logged w e answer }) ≡ free_places w
  free_restarted u known down e answer =
      let log = length_logged w e answer in
      let a : bit (put w.place.down u false u) ≡ 0 = ap bit (put-here w.place.down u false u refl) in
      let b : bit (w.place.down u) ≡ 1 = ap bit down in
      let c : count_below w.sizes.servers (put w.place.down u false) + 1 ≡ count_below w.sizes.servers w.place.down + 0 =
      sum_apart w.sizes.servers (λ k. bit (put w.place.down u false k)) (λ k. bit (w.place.down k)) u 1 0 known (λ k q. ap bit (put-apart w.place.down u false k q)) (omega arith) in
      let r = h.room in
      omega arith

  -- ---- starts

  -- a start takes as many free places as its plan may take
  pub free_started : (plan : PlanModel) → places_of plan ≤ free_places w → free_places (started w plan) + places_of plan ≡ free_places w
  free_started plan enough = let a = left_started w plan h in let r = h.room in omega arith
