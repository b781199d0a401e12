-- A machine counts what the state says, event by event.
use Rattle.std.proofs.Common.{◌≡◌, ◌≤◌, ◌<◌, ◌+◌, ◌-◌, ℕ, Bool, true, false, refl, sym, ap, ◌∙◌, arith, inl, inr, Option, Some, None, Ok, length}
use Rattle.std.specs.Prelude.{◌==◌, nat_lt, not, if◌then◌else◌}
use Rattle.std.proofs.lemmas.Bool.{cases_eq, cases_lt, and_parts}
use Rattle.sm_placement.specs.Sums.{put, bit}
use Rattle.sm_placement.specs.Setup.{Setup, Sizes}
use Rattle.sm_placement.specs.Place.{Place, CallEffect, set_down, down_count}
use Rattle.sm_placement.proofs.Sums.{put-here, put-apart}
use Rattle.sm_reservation.specs.declared.stream_id.StreamId.{StreamId}
use Rattle.sm_plan_code.specs.declared.call.ServerCall.{ServerCall}
use Rattle.sm_plan_code.specs.declared.instruction.Instr.{Instr}
use Rattle.sm_plan_code.specs.declared.instruction.Instr.TheVariants.{Signal, Wait}
use Rattle.sm_plan_code.specs.Instr.{is_call}
use Rattle.sm_plan_code.specs.Plan.{PlanModel}
use Rattle.sm_protocol.specs.declared.event.Event.{Event}
use Rattle.sm_protocol.specs.declared.event.Event.TheVariants as event
use Rattle.sm_protocol.specs.declared.event.Played.{Played}
use Rattle.sm_protocol.specs.declared.event.Played.TheVariants as played
use Rattle.sm_protocol.specs.State.{State, Progress, opened, progress_of, is_begun, is_running, allowance, set_progress, logged, places_of}
use Rattle.sm_protocol.specs.Steps.{behind_call, ahead_of_call, tried_more, call_number, served_try, call_lost, entry_added, posted, ended}
use Rattle.sm_protocol.specs.Happens.{running_plans, started}
use Rattle.sm_protocol.specs.Laws.{IsReached}
use Rattle.sm_protocol.proofs.Steps.{one_on}
use Rattle.sm_protocol.proofs.Keeping.{begun}
use Rattle.sm_protocol.proofs.LogRoom.{count_started}
use Rattle.sm_protocol.proofs.Cases.{IsBefore, IsTry, answer_to, parcel_taken}
use Rattle.sm_machine.specs.Tied.{unfinished_count, HasCounters}
use Rattle.sm_machine.proofs.ties.Before.{kept}
use Rattle.sm_machine.proofs.ties.Freeing.{free_through, free_unanswered, free_lost, free_published, free_posted, free_taken, free_ended, free_refilled, free_recorded, free_approved, free_restarted, free_started}
use Rattle.sm_machine.proofs.ties.Finishing.{unfinished_same, running_same, unfinished_others, unfinished_end, running_end, unfinished_before, unfinished_start, running_start}

-- an opening: nothing runs, and a place is set aside for each server that is down
pub counted_opened : (c : Sizes) (p : Place) (room : ℕ) (u : ℕ → ℕ) → HasCounters (opened c p room) u 0 (room - down_count c p)
counted_opened c p room u = record { streams = λ k l. absurd (omega arith); plans = refl; places = omega arith }

module _ (setup : Setup) (w : State) (reached : IsReached setup w) (u : ℕ → ℕ) (n f : ℕ) (c : HasCounters w u n f) where
  -- the halt flag leaves the counts as they are
  pub counted_halted : (flag : Bool) → HasCounters (record w { halted = flag }) u n f
  counted_halted flag = record { streams = c.streams; plans = c.plans; places = c.places }

  -- ---- steps

  module _ (id : StreamId) where
    abbrev now : Progress
    now = progress_of w id

    streams_still : is_begun w id ≡ true → (y : Progress) → y.done ≡ now.done → (k : ℕ) → k < length w.plans → u k ≡ unfinished_count (record w { progress = set_progress w id y }) k
    streams_still b y d k l = c.streams k l ∙ sym (unfinished_same w id (begun w id b) y d k)

    plans_still : is_begun w id ≡ true → (y : Progress) → y.done ≡ now.done → n ≡ running_plans (record w { progress = set_progress w id y })
    plans_still b y d = c.plans ∙ sym (running_same w id (begun w id b) y d)

    module _ (i : Instr) (x : ServerCall) (t : IsTry w id i x) where
      -- a try that is served and answered leaves the counts as they are
      pub counted_through : (effect : CallEffect) → answer_to w id x ≡ Ok effect → HasCounters (served_try w id i effect (behind_call now effect.fresh) (event.Step id) played.Moved) u n f
      counted_through effect e = record {
        streams = streams_still t.before.begun (behind_call now effect.fresh) refl;
        plans = plans_still t.before.begun (behind_call now effect.fresh) refl;
        places = c.places ∙ sym (free_through setup w reached id i x t effect e);
      }

      -- so does one that is served, and whose answer is lost
      pub counted_unanswered : (effect : CallEffect) → answer_to w id x ≡ Ok effect → HasCounters (served_try w id i effect (ahead_of_call w now effect.fresh) (event.Lose id true) played.Lost) u n f
      counted_unanswered effect e = record {
        streams = streams_still t.before.begun (ahead_of_call w now effect.fresh) refl;
        plans = plans_still t.before.begun (ahead_of_call w now effect.fresh) refl;
        places = c.places ∙ sym (free_unanswered setup w reached id i x t effect e);
      }

      -- so does one that is lost before it comes to its server
      pub counted_lost : HasCounters (call_lost w id) u n f
      counted_lost =
          let y : Progress = record (tried_more now false) { pending = call_number w now } in
          record { streams = streams_still t.before.begun y refl; plans = plans_still t.before.begun y refl; places = c.places ∙ sym (free_lost setup w reached id i x t) }

    -- another entry of the published map leaves the counts as they are
    pub counted_published : (i : Instr) (s : ℕ) (server : Option ℕ) → IsBefore w id (Some i) → is_call i ≡ false → HasCounters (entry_added w id s server).1 u n f
    counted_published i s server b other = record {
      streams = streams_still b.begun (one_on now) refl;
      plans = plans_still b.begun (one_on now) refl;
      places = c.places ∙ sym (free_published setup w reached id i s server b other);
    }

    -- so does the post of a signal
    pub counted_posted : (q : ℕ) → IsBefore w id (Some (Signal q)) → HasCounters (posted w id q).1 u n f
    counted_posted q b = record { streams = streams_still b.begun (one_on now) refl; plans = plans_still b.begun (one_on now) refl; places = c.places ∙ sym (free_posted setup w reached id q b) }

    -- so does a wait for a posted signal
    pub counted_taken : (q : ℕ) → IsBefore w id (Some (Wait q)) → HasCounters (parcel_taken w id q) u n f
    counted_taken q b = record { streams = streams_still b.begun (one_on now) refl; plans = plans_still b.begun (one_on now) refl; places = c.places ∙ sym (free_taken setup w reached id q b) }

    -- an end: the stream's plan and the stream were counted
    pub counted_ended : IsBefore w id None → (0 < u id.plan) × (0 < n) × HasCounters (ended w id).1 (put u id.plan (u id.plan - 1)) (if u id.plan == 1 then n - 1 else n) (f + (allowance w id - now.tries))
    counted_ended b =
        let l = begun w id b.begun in
        let y : Progress = record now { done = true } in
        let count = unfinished_end w id l y b.running refl in
        let was : u id.plan ≡ unfinished_count w id.plan = c.streams id.plan l.plan in
        let runs = running_end w id l y b.running refl in
        let some : 0 < running_plans w = runs.0 in
        let is = c.plans in (
          (omega arith),
          (omega arith),
          record {
            streams = λ k m. elim (cases_eq k id.plan) [
              | inl e ↦
                  let here : put u id.plan (u id.plan - 1) k ≡ u id.plan - 1 = put-here u id.plan (u id.plan - 1) k e in
                  let same : unfinished_count (ended w id).1 k ≡ unfinished_count (ended w id).1 id.plan = ap (unfinished_count (ended w id).1) e in
                  omega arith
              | inr e ↦ put-apart u id.plan (u id.plan - 1) k e ∙ c.streams k m ∙ sym (unfinished_others w id l y k e)
            ];
            plans = ap (λ m. if m == 1 then n - 1 else n) was ∙ ap (λ m. if unfinished_count w id.plan == 1 then m - 1 else m) c.plans ∙ sym runs.1;
            places = ap (λ m. m + (allowance w id - now.tries)) c.places ∙ sym (free_ended setup w reached id b);
          },
        )

    -- a refill takes a free place for each try more, and one for itself
    pub counted_refilled : is_running w id ≡ true → (more : ℕ) → more + 1 ≤ f → (e : Event) (answer : Played) →
        HasCounters (record w { progress = set_progress w id (record now { refills = now.refills + more }); log = logged w e answer }) u n (f - (more + 1))
    counted_refilled runs more enough e answer =
        let b = (and_parts (is_begun w id) (not now.done) runs).0 in
        let y : Progress = record now { refills = now.refills + more } in
        let is = c.places in
        let free = free_refilled setup w reached id runs more (omega arith) e answer in
        record { streams = streams_still b y refl; plans = plans_still b y refl; places = omega arith }

  -- ---- other events

  -- an event that is recorded and changes nothing else takes one free place
  pub counted_recorded : 1 ≤ f → (e : Event) (answer : Played) → HasCounters (record w { log = logged w e answer }) u n (f - 1)
  counted_recorded enough e answer =
      let is = c.places in
      let free = free_recorded setup w reached (omega arith) e answer in
      record { streams = c.streams; plans = c.plans; places = omega arith }

  -- the approval of a restart takes two free places
  pub counted_approved : (v : ℕ) → v < w.sizes.servers → w.place.down v ≡ false → 2 ≤ f → (e : Event) (answer : Played) → HasCounters (record w { place = set_down w.place v true; log = logged w e answer }) u n (f - 2)
  counted_approved v known up enough e answer =
      let is = c.places in
      let free = free_approved setup w reached v known up (omega arith) e answer in
      record { streams = c.streams; plans = c.plans; places = omega arith }

  -- the end of a restart takes none
  pub counted_restarted : (v : ℕ) → v < w.sizes.servers → w.place.down v ≡ true → (e : Event) (answer : Played) → HasCounters (record w { place = set_down w.place v false; log = logged w e answer }) u n f
  counted_restarted v known down e answer = record { streams = c.streams; plans = c.plans; places = c.places ∙ sym (free_restarted setup w reached v known down e answer) }

  -- a start: all streams of the plan are unfinished, and the plan is where it has any
  pub counted_started : (plan : PlanModel) → places_of plan ≤ f → (new_u : ℕ → ℕ) → ((k : ℕ) → k < length w.plans → new_u k ≡ u k) → new_u (length w.plans) ≡ length plan.streams →
      HasCounters (started w plan) new_u (n + bit (nat_lt 0 (length plan.streams))) (f - places_of plan)
  counted_started plan enough new_u old own =
      let v = kept setup w reached in
      let is = c.places in
      let free = free_started setup w reached plan (omega arith) in
      record {
        streams = λ k l. elim (cases_lt k (length w.plans)) [
          | inl before ↦ old k before ∙ c.streams k before ∙ sym (unfinished_before w v plan k before)
          | inr after ↦
              let count = count_started w plan in
              let e : k ≡ length w.plans = omega arith in
              ap new_u e ∙ own ∙ sym (ap (unfinished_count (started w plan)) e ∙ unfinished_start w v plan)
        ];
        plans = ap (λ m. m + bit (nat_lt 0 (length plan.streams))) c.plans ∙ sym (running_start w v plan);
        places = omega arith;
      }
