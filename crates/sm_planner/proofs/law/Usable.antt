-- The rule's plan of moves of the configuration is sound and admitted.
use Rattle.std.proofs.Common.{◌≡◌, ℕ, ◌<◌, ◌≤◌, None, inl, inr, ap, List, length, get_or, sym, arith, subst, ◌∙◌}
use Rattle.std.specs.Prelude.{All}
use Rattle.std.proofs.lemmas.List.Elements.{All-get_or}
use Rattle.sm_placement.specs.declared.lead.Lead.{Lead}
use Rattle.sm_placement.specs.Place.{Place}
use Rattle.sm_placement.specs.Setup.{Setup, ServerRow, IsSetup, sizes_of, no_server}
use Rattle.sm_plan_code.specs.Plan.{PlanModel, IsPlan}
use Rattle.sm_plan_code.specs.Effects.{IsScene}
use Rattle.sm_plan_code.specs.declared.moves.Move.{Move}
use Rattle.sm_verifier.specs.Plan.{IsSound}
use Rattle.sm_verifier.proofs.WithinPool.{within_admitted}
use Rattle.sm_planner.specs.Basis.{Basis, basis, basis_at, IsMoveOf, move_at, no_move}
use Rattle.sm_planner.specs.Placing.{IsPlacing}
use Rattle.sm_planner.specs.Plan.{move_code, planned}
use Rattle.sm_planner.specs.Refusal.{in_placed_order, refusal, IsPlanOf}
use Rattle.sm_planner.specs.Draft.{IsDraftOf}
use Rattle.sm_planner.specs.declared.writing.Draft.{Draft}
use Rattle.sm_planner.specs.Laws.{IsUsable, HasScene}
use Rattle.sm_planner.proofs.law.Orders.{has_order}
use Rattle.sm_planner.proofs.law.Signals.{is_of_parts}
use Rattle.sm_planner.proofs.law.Uses.{used_once, keeps_budget, knows_signals}
use Rattle.sm_planner.proofs.law.Existing.{placed_few}
use Rattle.sm_planner.proofs.law.Small.{is_small}
use Rattle.sm_protocol.specs.State.{State, pool}
use Rattle.sm_protocol.specs.Laws.{IsReached}
use Rattle.sm_protocol.proofs.Pools.{pool_within}
use Rattle.sm_protocol.proofs.Whole.{reached_keeps}
use Rattle.sm_planner.specs.Payment.{signals_of, stream_of}
use Rattle.sm_placement.specs.declared.limits.TheConstants.{MOST_LOAD}
use Rattle.sm_plan_code.specs.declared.limits.TheConstants.{MOST_AMOUNT}
use Rattle.sm_reservation.specs.Hold.{Hold}
use Rattle.sm_reservation.specs.Truth.{IsTrueOf}
use Rattle.sm_reservation.specs.Amounts.{OfRoom}
use Rattle.std.proofs.lemmas.Bool.{cases_lt}
use Rattle.std.proofs.lemmas.List.{get_or_past}
use Rattle.sm_planner.proofs.law.Placings.{count_is, move_is, place_known, affordable}
use Rattle.sm_planner.proofs.law.Opened.{few, order_opened, order_apart}
use Rattle.sm_planner.proofs.law.Good.{are_good}
use Rattle.sm_planner.proofs.law.Knowns.{fits_plan}
use Rattle.sm_planner.proofs.law.Admitted.{are_within}
use Rattle.sm_planner.proofs.law.Accepted.{are_up, parcels_ordered}

-- placed moves are of the configuration where all are
pub order_known : (b : Basis) (moves : List Move) (placed : List ℕ) → IsPlacing b moves placed → All (IsMoveOf b.setup) moves → (k : ℕ) → k < length (in_placed_order moves placed) → IsMoveOf b.setup (move_at (in_placed_order moves placed) k)
order_known b moves placed is all k l =
    let count = count_is b moves placed is.greedy in
    subst (λ m. IsMoveOf b.setup m) (sym (move_is b moves placed is.greedy k (omega arith))) (All-get_or (IsMoveOf b.setup) moves (get_or placed k 0) no_move (place_known b moves placed is.greedy k (omega arith)) all)

-- no server of the pool has more room than a server has at most
pub rooms_small : (b : Basis) (leads : ℕ → Lead) → IsSetup b.setup → IsTrueOf (sizes_of b.setup) b.place leads b.pool → (v : ℕ) → b.pool.room v ≤ MOST_AMOUNT
rooms_small b leads setup true_one v =
    let within = true_one.rights (OfRoom v) in
    elim (cases_lt v (length b.setup.servers)) [
      | inl less ↦ (let most : (get_or b.setup.servers v no_server).room ≤ MOST_LOAD = All-get_or (λ r. r.room ≤ MOST_LOAD) b.setup.servers v no_server less setup.good_servers in omega arith)
      | inr past ↦ (let none : (get_or b.setup.servers v no_server).room ≡ 0 = ap (λ (r : ServerRow). r.room) (get_or_past b.setup.servers v no_server past) in omega arith)
    ]

module _ (b : Basis) (leads : ℕ → Lead) (numbers : ℕ → ℕ) (moves : List Move) (placed : List ℕ) (setup : IsSetup b.setup) (scene : IsScene (sizes_of b.setup) b.place leads numbers b.pool) (all : All (IsMoveOf b.setup) moves) (is : IsPlacing b moves placed) (none : refusal b moves placed ≡ None) where
  abbrev order : List Move
  order = in_placed_order moves placed

  known : (k : ℕ) → k < length order → IsMoveOf b.setup (move_at order k)
  known = order_known b moves placed is all

  is_sound : IsSound (sizes_of b.setup) (planned b order)
  is_sound = record {
    budget = keeps_budget b order;
    signals = used_once b order;
    streams = are_good b order (order_apart b moves placed is none) (order_opened b moves placed is none) (λ k l. (known k l).to) (affordable b moves placed is.greedy);
    order = has_order (planned b order) stream_of (move_code b order) (length order) (is_of_parts b order);
  }

  not_many : length order ≤ 4096
  not_many =
      let count = count_is b moves placed is.greedy in
      let placed_once = placed_few b moves placed is.greedy in
      let most = (few b moves placed is none).0 in
      omega arith

  not_many_signals : length (signals_of b order) ≤ 256
  not_many_signals = let most = (few b moves placed is none).1 in omega arith

  is_plan : IsPlan (planned b order)
  is_plan = record {
    small = is_small b order not_many not_many_signals setup known (affordable b moves placed is.greedy) (rooms_small b leads setup scene.truth);
    signals = knows_signals b order;
    parcels = parcels_ordered b order (order_apart b moves placed is none) (order_opened b moves placed is none);
  }

  pub is_usable : IsUsable b (planned b order)
  is_usable =
      let apart = order_apart b moves placed is none in
      let opened = order_opened b moves placed is none in
      let fits = fits_plan b order known scene.placement.listed in
      record {
        checked = record { parts = is_plan; fits = fits; sound = is_sound };
        admitted = within_admitted (sizes_of b.setup) b.place leads numbers b.pool (planned b order) scene fits (are_within b order apart opened) (are_up b order apart opened);
      }

-- at a pool that is true of the placement the rule's plan passes the check and is admitted
pub plan_is_usable : (b : Basis) (leads : ℕ → Lead) (numbers : ℕ → ℕ) (moves : List Move) (plan : PlanModel) → IsSetup b.setup → IsScene (sizes_of b.setup) b.place leads numbers b.pool → All (IsMoveOf b.setup) moves → IsPlanOf b moves plan → IsUsable b plan
plan_is_usable b leads numbers moves plan setup scene all by = subst (λ p. IsUsable b p) (sym by.3) (is_usable b leads numbers moves by.0 setup scene all by.1 by.2)

-- ---- at a state that events lead to

pool_scene : (setup : Setup) (w : State) → IsReached setup w → (leads : ℕ → Lead) × IsScene (sizes_of setup) w.place leads w.numbers (pool w)
pool_scene setup w reached =
    let keeps = reached_keeps setup w reached in
    let v = keeps.0 in (
      v.leads,
      subst (λ c. IsScene c w.place v.leads w.numbers (pool w)) keeps.1 (record {
        placement = v.stage.placement;
        described = v.stage.described;
        truth = record { rights = λ r. let p = pool_within w v r in omega arith };
      }),
    )

-- so it is at the placement and the pool of each state that events lead to
pub plan_is_usable_at : (setup : Setup) (w : State) (moves : List Move) (plan : PlanModel) → IsReached setup w → All (IsMoveOf setup) moves → IsPlanOf (basis_at setup w) moves plan → IsUsable (basis_at setup w) plan
plan_is_usable_at setup w moves plan reached all by =
    let scene = pool_scene setup w reached in
    plan_is_usable (basis_at setup w) scene.0 w.numbers moves plan reached.opening.rows scene.1 all by

-- so it is where a configuration has the state's sizes
pub scene_at : (setup own : Setup) (w : State) (place : Place) (free : Hold) → IsReached setup w → sizes_of own ≡ w.sizes → place ≡ w.place → free ≡ pool w → HasScene (basis own place free)
scene_at setup own w place free reached sizes there is =
    let scene = pool_scene setup w reached in
    let same = sizes ∙ (reached_keeps setup w reached).1 in
    let sized = subst (λ c. IsScene c w.place scene.0 w.numbers (pool w)) (sym same) scene.1 in
    let placed = subst (λ p. IsScene (sizes_of own) p scene.0 w.numbers (pool w)) (sym there) sized in
    (scene.0, w.numbers, subst (λ h. IsScene (sizes_of own) place scene.0 w.numbers h) (sym is) placed)

-- ---- plans that are drafted

-- so it is of the plan that is drafted
pub draft_is_usable : (b : Basis) (moves : List Move) (draft : Draft) → HasScene b → All (IsMoveOf b.setup) moves → IsDraftOf b moves draft → IsUsable b (planned b draft.moves.items)
draft_is_usable b moves draft scene all by =
    subst (λ order. IsUsable b (planned b order)) (sym by.3) (is_usable b scene.0 scene.1 moves by.0 by.4.setup scene.2 all by.1 by.2)
