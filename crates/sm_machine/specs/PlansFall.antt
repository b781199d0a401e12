-- Each tree below a plan has fewer plans than all have.
-- An internal definition, by which the recursion of a private tree ends: you need not read it for the public contracts.
use Rattle.std.specs.Prelude.{◌≡◌, ◌≤◌, ◌+◌, max, List, [], ◌∷◌, length}
use Rattle.std.proofs.Common.{arith}
use Rattle.sm_machine.specs.declared.plan_tree.Node.{Node}
use Rattle.sm_machine.specs.declared.plan_tree.Node.TheVariants.{Empty, Fork}
use Rattle.sm_machine.specs.declared.plan_tree.PlanTree.TheDeep.{deep-Node}
use Rattle.sm_machine.specs.Plans.{in_turn, plans_in}

-- two lists in turn have as many items as both together
pub length-in_turn : {X : Type 0} → (xs ys : List X) → length (in_turn xs ys) ≡ length xs + length ys
length-in_turn [] ys = omega arith
length-in_turn (x ∷ xs) [] = omega arith
length-in_turn (x ∷ xs) (y ∷ ys) = omega (arith, length-in_turn xs ys)

-- a tree of plans is no deeper than it has plans
pub depth_le-length-plans : (n : Node) → max (deep-Node n) 0 ≤ length (plans_in n)
depth_le-length-plans Empty = omega arith
depth_le-length-plans (Fork plan odd even) = omega (arith, length-in_turn odd.value even.value)
