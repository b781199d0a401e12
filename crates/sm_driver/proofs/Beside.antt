-- Facts that steps, starts and restarts leave as they are: who is down, and whether a stream is free.
use Rattle.std.proofs.Common.{◌≡◌, ◌∙◌, ◌<◌, ◌∷◌, [], ℕ, Bool, true, false, Option, Some, None, List, length, map, refl, sym, ap, subst}
use Rattle.std.proofs.Math.Path.{fun_ext}
use Rattle.std.specs.Prelude.{◌&&◌, is_none, nat_lt, if◌then◌else◌}
use Rattle.sm_reservation.specs.declared.stream_id.StreamId.{StreamId}
use Rattle.sm_placement.specs.Place.{Place, set_down}
use Rattle.sm_placement.specs.Sums.{first_from}
use Rattle.sm_plan_code.specs.declared.instruction.Instr.{Instr}
use Rattle.sm_plan_code.specs.declared.instruction.Instr.TheVariants as instr
use Rattle.sm_plan_code.specs.Plan.{PlanModel, places_of}
use Rattle.sm_verifier.specs.declared.admission.Holding.{Holding}
use Rattle.sm_verifier.specs.FirstHolding.{first_holding}
use Rattle.sm_task_controller.specs.declared.decision.Denied.{Denied}
use Rattle.sm_protocol.specs.declared.event.BeginFault.TheVariants as fault
use Rattle.sm_protocol.specs.declared.event.Event.TheVariants as event
use Rattle.sm_protocol.specs.declared.event.Logged.{Logged}
use Rattle.sm_protocol.specs.declared.event.Passage.TheVariants as passage
use Rattle.sm_protocol.specs.declared.event.Played.{Played}
use Rattle.sm_protocol.specs.declared.event.Played.TheVariants as played
use Rattle.sm_protocol.specs.State.{State, free_places, logged, is_running, pool, progress_of, stream_count, stream_id}
use Rattle.sm_protocol.specs.Steps.{Answered, Outcome, call_number, unchanged}
use Rattle.sm_protocol.specs.Next.{blocked_on, entry_by, instruction_before, next_call_of}
use Rattle.sm_protocol.specs.Happens.{Approve, Begin, Done, Step, approved, begun, denial, engaged, happens, has_all_plans, run, started}
use Rattle.sm_protocol.proofs.Cases.{of_known_step}
use Rattle.sm_protocol.proofs.LogRoom.{of_call}
use Rattle.sm_driver.specs.Advance.{IsAdvanced, next_free}
use Rattle.sm_driver.specs.Carried.{AreCarriedDown}
use Rattle.sm_driver.specs.Permits.{ArePermitsOfDown}
use Rattle.sm_driver.proofs.FreeSteps.{told}

-- the configuration's numbers, who is down, and the log's room
pub record IsBeside (w new : State) : Type 0 where
  pub sizes : new.sizes ≡ w.sizes
  pub down : new.place.down ≡ w.place.down
  pub room : new.room ≡ w.room

still : (w : State) → IsBeside w w
still w = record { sizes = refl; down = refl; room = refl }

-- what two changes in turn leave as it is
pub beside_then : (u w new : State) → IsBeside u w → IsBeside w new → IsBeside u new
beside_then u w new a b = record { sizes = b.sizes ∙ a.sizes; down = b.down ∙ a.down; room = b.room ∙ a.room }

-- a step of a stream takes no server down or up
pub step_beside : (w : State) (id : StreamId) → IsBeside w (happens w (Step id)).1
step_beside w id = of_known_step w id passage.Through (λ o. IsBeside w o.1) (record {
  idle = λ answer. still w;
  refused = λ i x why t e. still w;
  at_end = λ b. record { sizes = refl; down = refl; room = refl };
  publishes = λ s b. record { sizes = refl; down = refl; room = refl };
  unlists = λ s b. record { sizes = refl; down = refl; room = refl };
  posts = λ q b. record { sizes = refl; down = refl; room = refl };
  awaits = λ q b e. record { sizes = refl; down = refl; room = refl };
  lost = λ i x t p. record { sizes = refl; down = refl; room = refl };
  through = λ i x effect t a p. record { sizes = refl; down = (of_call w.sizes w.place x.shard x.server x.call (call_number w (progress_of w id)) effect a).down; room = refl };
  unanswered = λ i x effect t a p. record { sizes = refl; down = (of_call w.sizes w.place x.shard x.server x.call (call_number w (progress_of w id)) effect a).down; room = refl };
})

-- nor do several
steps_beside : (streams : List StreamId) (w : State) → IsBeside w (run (map Step streams) w)
steps_beside [] w = still w
steps_beside (id ∷ ids) w = beside_then w (happens w (Step id)).1 (run (map Step ids) (happens w (Step id)).1) (step_beside w id) (steps_beside ids (happens w (Step id)).1)

-- nor do those that are local
pub advance_beside : (w new : State) → IsAdvanced w new → IsBeside w new
advance_beside w new x = subst (IsBeside w) (sym x.state) (steps_beside x.streams w)

-- a start of a plan takes no server down or up
pub begin_beside : (w : State) (plan : PlanModel) → IsBeside w (happens w (Begin plan)).1
begin_beside w plan = go (first_holding w.sizes w.place (pool w) plan)
  where
    go : (o : Option Holding) → IsBeside w (begun w plan o).1
    go (Some why) = still w
    go None = by_room (nat_lt (free_places w) (places_of plan)) (has_all_plans w)
      where
        by_room : (full many : Bool) →
            IsBeside w (if full then unchanged w (played.NotBegun fault.LogFull) else if many then unchanged w (played.NotBegun fault.TooManyPlans)
            else (Answered (played.Begun (length w.plans)), started w plan)).1
        by_room true many = still w
        by_room false true = still w
        by_room false false = record { sizes = refl; down = refl; room = refl }

-- permits are those of the servers that are down, as long as these stay so
pub permits_stay : (w new : State) (permits : List (Option ℕ)) → IsBeside w new → ArePermitsOfDown w permits → ArePermitsOfDown new permits
permits_stay w new permits same p = record {
  servers = p.servers ∙ ap (λ c. c.servers) (sym same.sizes);
  down = λ v l. p.down v (subst (λ c. v < c.servers) same.sizes l) ∙ ap (λ f. f v) (sym same.down);
}

-- carried servers are down, as long as those that are down stay so
pub carried_stay : (w new : State) (carried : List Bool) → IsBeside w new → AreCarriedDown w carried → AreCarriedDown new carried
carried_stay w new carried same x = record {
  servers = x.servers ∙ ap (λ c. c.servers) (sym same.sizes);
  down = λ v l marked. ap (λ f. f v) same.down ∙ x.down v (subst (λ c. v < c.servers) same.sizes l) marked;
}

-- ---- restarts

none_of_entry : (w : State) (place : Place) (log : List Logged) (o : Option Instr) → is_none (entry_by (record w { place = place; log = log }) o) ≡ is_none (entry_by w o)
none_of_entry w place log None = refl
none_of_entry w place log (Some (instr.Publish s)) = refl
none_of_entry w place log (Some (instr.Unlist s)) = refl
none_of_entry w place log (Some (instr.Signal q)) = refl
none_of_entry w place log (Some (instr.Wait q)) = refl
none_of_entry w place log (Some (instr.PrepareAdd s v u)) = refl
none_of_entry w place log (Some (instr.PrepareDrop s u v)) = refl
none_of_entry w place log (Some (instr.Add s v role)) = refl
none_of_entry w place log (Some (instr.Drop s v)) = refl
none_of_entry w place log (Some (instr.Change s v role)) = refl

-- which stream is free depends neither on the placement nor on the log
pub same_free : (w : State) (place : Place) (log : List Logged) → next_free (record w { place = place; log = log }) ≡ next_free w
same_free w place log =
    ap (λ (free : StreamId → Bool). first_from 0 (length w.plans) (λ k. first_from 0 (stream_count w k) (λ i. if free (stream_id k i) then Some (stream_id k i) else None)))
    (fun_ext (λ id. ap (λ b. ((is_running w id && is_none (next_call_of w id)) && b) && is_none (blocked_on w id)) (none_of_entry w place log (instruction_before w id))))

-- an approval takes the server down
pub approval_is : (w new : State) (v : ℕ) → happens w (Approve v) ≡ (Answered played.Approved, new) → new ≡ record w { place = set_down w.place v true; log = logged w (event.Approve v) played.Approved }
approval_is w new v = go (denial w.sizes w.place (pool w) (engaged w v) (free_places w) v)
  where
    go : (o : Option Denied) → approved w v o ≡ (Answered played.Approved, new) → new ≡ record w { place = set_down w.place v true; log = logged w (event.Approve v) played.Approved }
    go None e = sym (ap (λ o. o.1) e)
    go (Some why) e = absurd (let f = ap (λ (o : Outcome × State). o.0) e in cc)

-- a server that is down comes up
pub restart_is : (w new : State) (v : ℕ) (answer : Played) → happens w (Done v) ≡ (Answered answer, new) → w.place.down v ≡ true →
    (answer ≡ played.Up) × (new ≡ record w { place = set_down w.place v false; log = logged w (event.Done v) played.Up })
restart_is w new v answer e d =
    let f : ◌≡◌ {A = Outcome × State} (Answered played.Up, record w { place = set_down w.place v false; log = logged w (event.Done v) played.Up }) (Answered answer, new) =
    sym (ap (λ b. if b then (Answered played.Up, record w { place = set_down w.place v false; log = logged w (event.Done v) played.Up }) else unchanged w played.Unknown) d) ∙ e in
    (sym (ap (λ (o : Outcome × State). told o.0) f), sym (ap (λ (o : Outcome × State). o.1) f))
