-- Plans in a tree, by their numbers.
-- Internal definitions, as a private tree keeps its plans: you need not read them for the public contracts.
use Rattle.std.specs.Prelude.{◌+◌, ◌≤◌, List, [], ◌∷◌, length}
use Rattle.sm_machine.specs.Begun.{BegunModel}
use Rattle.sm_machine.specs.declared.plan_tree.Node.{Node}
use Rattle.sm_machine.specs.declared.plan_tree.Node.TheVariants.{Empty, Fork}

-- the items of two lists in turn, and then those that one has left
abbrev pub in_turn : {X : Type 0} → List X → List X → List X
in_turn [] ys = ys
in_turn (x ∷ xs) [] = x ∷ xs
in_turn (x ∷ xs) (y ∷ ys) = x ∷ y ∷ in_turn xs ys

-- the plans by their numbers
abbrev pub plans_in : Node → List BegunModel
plans_in Empty = []
plans_in (Fork plan odd even) = plan ∷ in_turn odd.value even.value

-- at the odd places there are as many plans as at the other even ones, or one more
abbrev pub IsEven : Node → Type 0
IsEven Empty = Unit {0}
IsEven (Fork plan odd even) = (length even.value ≤ length odd.value) × (length odd.value ≤ length even.value + 1)
