-- The facts that every machine keeps are kept by requests, refills and restarts, and by the halt flag.
use Rattle.std.proofs.Common.{◌≡◌, ◌<◌, ◌≤◌, ◌+◌, ◌-◌, ℕ, Bool, true, false, arith, subst, None}
use Rattle.std.specs.Prelude.{if◌then◌else◌}
use Rattle.sm_placement.specs.Place.{set_down, is_live_at}
use Rattle.sm_reservation.specs.Hold.{Hold}
use Rattle.sm_reservation.specs.declared.stream_id.StreamId.{StreamId}
use Rattle.sm_plan_code.specs.declared.limits.TheConstants.{MOST_CALLS}
use Rattle.sm_task_controller.specs.Decision.{denial}
use Rattle.sm_task_controller.proofs.Denials.{granted}
use Rattle.sm_protocol.specs.declared.event.Event.{Event}
use Rattle.sm_protocol.specs.declared.event.Played.{Played}
use Rattle.sm_protocol.specs.declared.event.Event.TheVariants as event
use Rattle.sm_protocol.specs.declared.event.Played.TheVariants as played
use Rattle.sm_protocol.specs.State.{State, is_running, logged, recorded, pool, free_places}
use Rattle.sm_protocol.specs.Steps.{Outcome, Answered, unchanged}
use Rattle.sm_protocol.specs.Happens.{Happening, Refill, Approve, Done, refill_fault, refilled, approved, engaged, happens}
use Rattle.sm_protocol.specs.Laws.{IsReached, FitsConfig}
use Rattle.sm_protocol.proofs.Reached.{reached_next}
use Rattle.sm_machine.specs.Course.{hold_in}
use Rattle.sm_machine.specs.State.{Whole}
use Rattle.sm_machine.specs.Tied.{pay_live, get_live}
use Rattle.sm_machine.specs.Working.{IsWorking}
use Rattle.sm_machine.proofs.ties.Counters.{counted_recorded, counted_refilled, counted_approved, counted_restarted}
use Rattle.sm_machine.proofs.ties.Restarting.{tied_approved, tied_restarted}
use Rattle.sm_machine.proofs.ties.Tying.{tied_recorded, tied_refilled}

-- ---- what is recorded, and refills

module _ (x : Whole) (g : IsWorking x) where
  abbrev w : State
  w = x.state

  abbrev holds : ℕ → ℕ → Hold
  holds k i = hold_in (x.grants k i)

  abbrev sent_holds : ℕ → ℕ → Hold
  sent_holds k q = hold_in (x.parcels k q)

  -- a request that is recorded
  pub working_recorded : (e : Happening) → FitsConfig w.sizes e → (event : Event) (answer : Played) → (happens w e).1 ≡ recorded w event answer → 1 ≤ x.free →
      IsWorking (record x { state = recorded w event answer; free = x.free - 1 })
  working_recorded e fits event answer is enough = record {
    reached = subst (IsReached x.setup) is (reached_next x.setup w e g.reached fits);
    tied = tied_recorded x.setup w g.reached x.pool holds sent_holds g.tied (logged w event answer);
    capacities = g.capacities;
    unsent = g.unsent;
    counted = counted_recorded x.setup w g.reached x.unfinished x.running x.free g.counted enough event answer;
  }

  -- a refill
  pub working_refilled : (id : StreamId) (more : ℕ) → more ≤ MOST_CALLS → refill_fault w id more ≡ None → is_running w id ≡ true → more + 1 ≤ x.free →
      IsWorking (record x { state = (refilled w id more None).1; free = x.free - (more + 1) })
  working_refilled id more few none runs enough = record {
    reached = subst (λ o. IsReached x.setup (refilled w id more o).1) none (reached_next x.setup w (Refill id more) g.reached few);
    tied = tied_refilled x.setup w g.reached x.pool holds sent_holds g.tied id runs more (logged w (event.Refill id more) played.Refilled);
    capacities = g.capacities;
    unsent = g.unsent;
    counted = counted_refilled x.setup w g.reached x.unfinished x.running x.free g.counted id runs more enough (event.Refill id more) played.Refilled;
  }

  -- ---- restarts

  -- an approval, by which the server is down and a spare replica of each shard live there is out of the pool
  pub working_approved : (u : ℕ) → u < w.sizes.servers → denial w.sizes w.place (pool w) (engaged w u) (free_places w) u ≡ None →
      IsWorking (record x { state = record w { place = set_down w.place u true; log = logged w (event.Approve u) played.Approved }; pool = pay_live x.pool (λ s. is_live_at w.place s u) w.sizes.shards; free = x.free - 2 })
  working_approved u known e = record {
    reached = subst (λ o. IsReached x.setup (approved w u o).1) e (reached_next x.setup w (Approve u) g.reached known);
    tied = tied_approved x.setup w g.reached u known e (logged w (event.Approve u) played.Approved) x.pool holds sent_holds g.tied;
    capacities = g.capacities;
    unsent = g.unsent;
    counted = let is = g.counted.places in let t = granted w.sizes w.place (pool w) (engaged w u) (free_places w) u e in let most = t.places in
        counted_approved x.setup w g.reached x.unfinished x.running x.free g.counted u known t.up (omega arith) (event.Approve u) played.Approved;
  }

  -- the end of a restart, by which it is up and one of each shard that is live there then is in the pool
  pub working_restarted : (u : ℕ) → u < w.sizes.servers → w.place.down u ≡ true →
      IsWorking (record x { state = record w { place = set_down w.place u false; log = logged w (event.Done u) played.Up }; pool = get_live x.pool (λ s. is_live_at (set_down w.place u false) s u) w.sizes.shards })
  working_restarted u known e = record {
    reached = subst (λ t. IsReached x.setup (chosen t).1) e (reached_next x.setup w (Done u) g.reached known);
    tied = tied_restarted x.setup w g.reached u known e (logged w (event.Done u) played.Up) x.pool holds sent_holds g.tied;
    capacities = g.capacities;
    unsent = g.unsent;
    counted = counted_restarted x.setup w g.reached x.unfinished x.running x.free g.counted u known e (event.Done u) played.Up;
  }
    where
      chosen : Bool → Outcome × State
      chosen t = if t then (Answered played.Up, record w { place = set_down w.place u false; log = logged w (event.Done u) played.Up }) else unchanged w played.Unknown
