-- Which moves are refused, and why: the refusals go by their numbers, and of one number by the move's place in the
-- list.
use Rattle.std.specs.Prelude.{◌≡◌, ◌⊎◌, ℕ, ◌&&◌, ◌||◌, not, nat_lt, Bool, Option, Some, None, option_map, find, List}
use Rattle.std.specs.Prelude.{length, take, map, if◌then◌else◌}
use Rattle.std.specs.Option.{option_or}
use Rattle.sm_server.specs.Cell.{is_absent}
use Rattle.sm_placement.specs.Opening.{first_below}
use Rattle.sm_placement.specs.Place.{Place}
use Rattle.sm_plan_code.specs.Plan.{PlanModel}
use Rattle.sm_plan_code.specs.declared.limits.TheConstants.{MOST_MOVES, MOST_SIGNALS}
use Rattle.sm_plan_code.specs.declared.moves.Move.{Move}
use Rattle.sm_planner.specs.declared.refusal.NoPlan.{NoPlan}
use Rattle.sm_planner.specs.declared.refusal.NoPlan.TheVariants.{NoMemory, NotThere, Held, ServerDown, NoRoom, Spread}
use Rattle.sm_planner.specs.declared.refusal.NoPlan.TheVariants.{TooMany}
use Rattle.sm_planner.specs.Basis.{Basis, move_at, left_cell, is_replica}
use Rattle.sm_planner.specs.Rights.{has_rights, is_forestalled}
use Rattle.sm_planner.specs.Placing.{IsPlacing, first_left}
use Rattle.sm_planner.specs.Spread.{first_too_close}
use Rattle.sm_planner.specs.Payment.{signals_of}
use Rattle.sm_planner.specs.Plan.{planned}

-- ---- moves that are refused one by one

-- the first move whose server has no replica of the shard
abbrev pub first_not_there : Place → List Move → Option NoPlan
first_not_there p moves =
    option_map (λ m. NotThere m.shard m.from) (find (λ m. not (is_replica (left_cell p m))) moves)

-- the new cell is absent, and the rights that the move needs are in the pool and needed by no earlier move
abbrev pub is_open : Basis → List Move → Move → Bool
is_open b earlier m =
    (is_absent (b.place.cells m.shard m.to) && has_rights b m) && not (is_forestalled b.place earlier m)

-- the move at this place of the list is not open
abbrev pub is_closed : Basis → List Move → ℕ → Bool
is_closed b moves i = not (is_open b (take i moves) (move_at moves i))

-- the first such move
abbrev pub first_held : Basis → List Move → Option NoPlan
first_held b moves =
    option_map (λ i. Held (move_at moves i).shard (move_at moves i).to) (first_below (length moves) (is_closed b moves))

-- of a move with a server that is down: the server that it leaves, if that is down, or otherwise the one to which it
-- goes
abbrev pub end_down : Place → Move → ℕ
end_down p m = if p.down m.from then m.from else m.to

-- the first move with a server that is down
abbrev pub first_down : Place → List Move → Option NoPlan
first_down p moves = option_map (λ m. ServerDown (end_down p m)) (find (λ m. p.down m.from || p.down m.to) moves)

-- why a move alone is refused: the first reason that any of the moves gives, and the first move that gives it
abbrev pub first_refused : Basis → List Move → Option NoPlan
first_refused b moves = option_or (first_not_there b.place moves) (option_or (first_held b moves) (first_down b.place moves))

-- ---- moves that are refused together

-- the server to which the first move goes that is not placed
abbrev pub no_room : List Move → List ℕ → Option NoPlan
no_room moves placed = option_map (λ i. NoRoom (move_at moves i).to) (first_left moves placed)

-- the lowest shard that is moved and whose replicas would then lie in too few regions
abbrev pub no_spread : Basis → List Move → Option NoPlan
no_spread b moves = option_map Spread (first_too_close b moves)

-- the moves in the order in which they are placed
abbrev pub in_placed_order : List Move → List ℕ → List Move
in_placed_order moves placed = map (move_at moves) placed

-- more moves or signals than a plan may have
abbrev pub too_many : Basis → List Move → List ℕ → Option NoPlan
too_many b moves placed =
    if nat_lt MOST_MOVES (length moves) || nat_lt MOST_SIGNALS (length (signals_of b (in_placed_order moves placed))) then Some TooMany else None

-- why moves that are placed so get no plan, None if they get one
abbrev pub refusal : Basis → List Move → List ℕ → Option NoPlan
refusal b moves placed =
    option_or (first_refused b moves)
    (option_or (no_room moves placed)
    (option_or (no_spread b moves)
    (too_many b moves placed)))

-- the rule refuses the moves for this reason
abbrev pub IsRefused : Basis → List Move → NoPlan → Type 0
IsRefused b moves why = (placed : List ℕ) × IsPlacing b moves placed × (refusal b moves placed ≡ Some why)

-- memory was short, or the rule refuses the moves for this reason
abbrev pub IsNoPlanFor : Basis → List Move → NoPlan → Type 0
IsNoPlanFor b moves why = (why ≡ NoMemory) ⊎ IsRefused b moves why

-- the plan is the rule's
abbrev pub IsPlanOf : Basis → List Move → PlanModel → Type 0
IsPlanOf b moves plan =
    (placed : List ℕ) × IsPlacing b moves placed × (refusal b moves placed ≡ None)
    × (plan ≡ planned b (in_placed_order moves placed))
