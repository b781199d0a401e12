-- A machine approves and ends restarts as the protocol says, and keeps what every machine keeps.
use Rattle.std.proofs.Common.{◌≡◌, ◌≤◌, ◌<◌, ◌+◌, ◌^◌, ℕ, true, false, sym, ap, ◌∙◌, subst, arith, [], ◌∷◌, Option, None, length, length-append}
use Rattle.sm_placement.specs.Place.{set_down}
use Rattle.sm_plan_code.specs.declared.limits.TheConstants.{MOST_PLACES}
use Rattle.sm_task_controller.specs.declared.decision.Denied.{Denied}
use Rattle.sm_task_controller.specs.Decision.{denial}
use Rattle.sm_task_controller.proofs.Denials.{granted}
use Rattle.sm_protocol.specs.declared.event.Event.TheVariants as event
use Rattle.sm_protocol.specs.declared.event.Played.TheVariants as played
use Rattle.sm_protocol.specs.State.{State, logged, pool, free_places}
use Rattle.sm_protocol.specs.Steps.{Answered}
use Rattle.sm_protocol.specs.Happens.{Approve, approved, engaged, happens}
use Rattle.sm_protocol.proofs.Reached.{of_opening}
use Rattle.sm_machine.specs.State.{Whole}
use Rattle.sm_machine.specs.Working.{IsWorking}
use Rattle.sm_machine.specs.SpareReplicas.{live_there, CanPayLive, CanGetLive}
use Rattle.sm_machine.specs.Restarted.{approved_whole, restarted_whole}
use Rattle.sm_machine.proofs.ties.Events.{working_approved, working_restarted}
use Rattle.sm_machine.proofs.ties.Freeing.{whole_log}
use Rattle.sm_machine.proofs.ties.Restarting.{can_pay, can_get}

module _ (x : Whole) (g : IsWorking x) (u : ℕ) where
  abbrev w : State
  w = x.state

  -- few places are free
  pub few_free : x.free < 2 ^ 32
  few_free =
      let is : x.free ≡ free_places w = g.counted.places in
      let most : w.room ≤ MOST_PLACES = (of_opening x.setup w g.reached).is_opening.most in
      let few : free_places w ≤ w.room = omega arith in
      omega arith

  module _ (known : u < w.sizes.servers) where
    -- ---- the end of a restart

    module _ (down : w.place.down u ≡ true) where
      -- at the end of a restart, all that every machine keeps is kept
      pub restarted_working : IsWorking (restarted_whole x u)
      restarted_working = working_restarted x g u known down

      -- the pool can take a spare replica more of each shard that is live at the server once it is up
      pub can_get_live : CanGetLive x.pool (live_there (set_down w.place u false) u) w.sizes.shards
      can_get_live = subst (λ h. CanGetLive h (live_there (set_down w.place u false) u) w.sizes.shards) (sym g.tied.pool) (can_get x.setup w g.reached u known down)

      -- a place of the log was set aside for it
      pub room_to_restart : length w.log < w.room
      room_to_restart =
          let y = restarted_whole x u in
          let v = restarted_working in
          let whole = whole_log y.setup y.state v.reached in
          let one : length (logged w (event.Done u) played.Up) ≡ length w.log + 1 = length-append w.log (record { event = event.Done u; answer = played.Up } ∷ []) in
          omega arith

    -- ---- an approval

    abbrev denied : Option Denied
    denied = denial w.sizes w.place x.pool (engaged w u) x.free u

    -- the code and the protocol look at the same pool, and at as many free places
    pub same_denial : denied ≡ denial w.sizes w.place (pool w) (engaged w u) (free_places w) u
    same_denial = ap (λ h. denial w.sizes w.place h (engaged w u) x.free u) g.tied.pool ∙ ap (λ n. denial w.sizes w.place (pool w) (engaged w u) n u) g.counted.places

    module _ (none : denied ≡ None) where
      no_denial : denial w.sizes w.place (pool w) (engaged w u) (free_places w) u ≡ None
      no_denial = sym same_denial ∙ none

      -- where nothing is against the restart, the pool has a spare replica of each shard that is live there
      pub can_pay_live : CanPayLive x.pool (live_there w.place u) w.sizes.shards
      can_pay_live = subst (λ h. CanPayLive h (live_there w.place u) w.sizes.shards) (sym g.tied.pool) (can_pay x.setup w g.reached u known no_denial)

      -- and the log has a place for the approval
      pub room_to_approve : length w.log < w.room
      room_to_approve =
          let t = granted w.sizes w.place (pool w) (engaged w u) (free_places w) u no_denial in
          let enough = t.places in
          omega arith

      -- the restart is approved as the protocol says, and all that every machine keeps is kept
      pub approved_so : (y : Whole) → y ≡ approved_whole x u → (happens w (Approve u) ≡ (Answered played.Approved, y.state)) × IsWorking y
      approved_so y e = subst (λ z. (happens w (Approve u) ≡ (Answered played.Approved, z.state)) × IsWorking z) (sym e) (ap (approved w u) no_denial, working_approved x g u known no_denial)
