-- Keys that stand once, and plans without a fault.
use Rattle.std.proofs.Common.{◌≡◌, ◌<◌, ℕ, List, [], ◌∷◌, length, arith}
use Rattle.sm_reservation.specs.declared.right.CellRight.{CellRight}
use Rattle.sm_reservation.specs.declared.right.Crown.{Crown}
use Rattle.sm_reservation.specs.declared.right.Room.{Room}
use Rattle.sm_reservation.specs.declared.right.Spare.{Spare}
use Rattle.sm_reservation.specs.declared.right.Key.{Key}
use Rattle.sm_reservation.specs.declared.right.Key.TheVariants as key
use Rattle.sm_reservation.specs.Rights.{Rights}
use Rattle.sm_reservation.specs.Key.{key_of_room, IsOnce, IsLowestDouble}
use Rattle.sm_plan_code.specs.declared.plan.PlanFault.{PlanFault}
use Rattle.sm_plan_code.specs.declared.plan.PlanFault.TheVariants.{TooMany, UnknownSignal}
use Rattle.sm_plan_code.specs.Plan.{PlanModel, IsPlan, IsPlanFault}
use Rattle.sm_plan_code.specs.declared.moves.Move.{Move}
use Rattle.sm_planner.specs.Basis.{Basis, move_at}
use Rattle.sm_planner.specs.Plan.{moves_of, needs_by}
use Rattle.sm_planner.proofs.law.Sorting.{once_single}
use Rattle.sm_planner.proofs.law.Streams.{AreAllApart}
use Rattle.sm_planner.proofs.law.Opened.{IsOpened}
use Rattle.sm_planner.proofs.law.Declared.{lists_once}

-- where each key stands once, none stands twice
pub no_double : (r : Rights) (k : Key) → IsOnce r → IsLowestDouble r k → ⊥
no_double r k once double = let most = once k in let least = double.twice in omega arith

-- a plan has no fault
pub no_fault : (p q : PlanModel) (f : PlanFault) → p ≡ q → IsPlan q → IsPlanFault p f → ⊥
no_fault p q TooMany e is fault = (rw e at fault) is.small
no_fault p q UnknownSignal e is fault = (rw e at fault).1 is.signals

room_once : (server amount : ℕ) → IsOnce (record { cells = []; crowns = []; room = record { server = server; amount = amount } ∷ []; spare = [] })
room_once server amount (key.CellRight s v) = omega arith
room_once server amount (key.Crown s) = omega arith
room_once server amount (key.Room v) = once_single key_of_room (record { server = server; amount = amount }) (v, 0)
room_once server amount (key.Spare s) = omega arith

-- so it is in what a signal carries
pub carried_once : (server amount : ℕ) (cells : List CellRight) (crowns : List Crown) (room : List Room) (spare : List Spare) →
    cells ≡ [] → crowns ≡ [] → room ≡ record { server = server; amount = amount } ∷ [] → spare ≡ [] → IsOnce (record { cells = cells; crowns = crowns; room = room; spare = spare })
carried_once server amount cells crowns room spare c k r p = rw (c, k, r, p) (room_once server amount)

-- and in lists that are those of a stream
pub listed_once : (b : Basis) (order : List Move) (numbers : List ℕ) (cells : List CellRight) (crowns : List Crown) (room : List Room) (spare : List Spare) →
    cells ≡ (needs_by b order numbers).cells → crowns ≡ (needs_by b order numbers).crowns → room ≡ (needs_by b order numbers).room → spare ≡ [] →
    IsOnce (needs_by b order numbers) → IsOnce (record { cells = cells; crowns = crowns; room = room; spare = spare })
listed_once b order numbers cells crowns room spare c k r p once = rw (c, k, r, p) once

-- so it is in what a stream declares
pub declared_once : (b : Basis) (order : List Move) → AreAllApart b order → ((k : ℕ) → k < length order → IsOpened b (move_at order k)) → (i : ℕ) → IsOnce (needs_by b order (moves_of order i))
declared_once b order apart opened i = lists_once b order apart opened i
