-- Placed moves as they are drafted for a plan: in their order, with their stretches, and the room that they hand on.
-- Internal definitions: you need not read them for the public contracts.
use Rattle.std.specs.Prelude.{◌≡◌, ◌≤◌, ◌<◌, ◌*◌, ℕ, None, List, All, length, map, slice_index}
use Rattle.std.specs.List.{range_with_len}
use Rattle.sm_placement.specs.Setup.{IsSetup}
use Rattle.sm_reservation.specs.Key.{IsOnce}
use Rattle.sm_plan_code.specs.declared.limits.TheConstants.{MOST_MOVES, MOST_SIGNALS}
use Rattle.sm_plan_code.specs.declared.moves.Move.{Move}
use Rattle.sm_planner.specs.declared.writing.Draft.{Draft}
use Rattle.sm_planner.specs.Basis.{Basis, IsMoveOf}
use Rattle.sm_planner.specs.Placing.{IsPlacing}
use Rattle.sm_planner.specs.Refusal.{in_placed_order, refusal}
use Rattle.sm_planner.specs.Payment.{signals_of}
use Rattle.sm_planner.specs.Stretches.{stretch, IsGiven}
use Rattle.sm_planner.specs.Plan.{moves_of, paid_by, needs_by}
use Rattle.sm_placement.specs.declared.limits.TheConstants.{MOST_LOAD}

-- the amounts are those that the placed moves pay, and each is small
pub record ArePayments (b : Basis) (order : List Move) (numbers amounts : List ℕ) : Type 0 where
  pub wide : length amounts ≡ length b.setup.servers
  pub paid : (v : ℕ) → v < length b.setup.servers → slice_index amounts v ≡ paid_by b order numbers v
  pub small : (v : ℕ) → v < length b.setup.servers → slice_index amounts v ≤ length numbers * MOST_LOAD

-- what is drafted is that of the moves, and a key stands once in what each stream of them declares
pub record IsDraft (b : Basis) (draft : Draft) : Type 0 where
  pub setup : IsSetup b.setup
  pub known : All (IsMoveOf b.setup) draft.moves.items
  pub few : length draft.moves.items ≤ MOST_MOVES
  pub placed : draft.placed.items ≡ map (stretch b draft.moves.items) (range_with_len 0 (length draft.moves.items))
  pub signals : draft.signals.items ≡ signals_of b draft.moves.items
  pub signal_count : length draft.signals.items ≤ MOST_SIGNALS
  pub given : All (IsGiven b draft.moves.items) draft.signals.items
  pub once : (i : ℕ) → IsOnce (needs_by b draft.moves.items (moves_of draft.moves.items i))

-- the draft is of the moves in the order in which they are placed, and the rule doesn't refuse them
abbrev pub IsDraftOf : Basis → List Move → Draft → Type 0
IsDraftOf b moves draft =
    (placed : List ℕ) × IsPlacing b moves placed × (refusal b moves placed ≡ None)
    × (draft.moves.items ≡ in_placed_order moves placed) × IsDraft b draft
