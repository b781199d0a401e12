-- How copies compare: by view and position, and by nothing else.
-- `is_greater` is internal: you need not read it for the public contracts.
use Rattle.std.specs.Prelude.{◌≡◌, ◌<◌, ◌⊎◌, ◌&&◌, ◌||◌, ◌==◌, Bool, nat_lt}
use Rattle.sm_copies.specs.declared.order.ToldCopy.{ToldCopy}

-- A copy is less than another one: its view is earlier, or it is shorter in the same view.
abbrev pub IsLesser : ToldCopy → ToldCopy → Type 0
IsLesser small great = (small.view < great.view) ⊎ ((small.view ≡ great.view) × (small.position < great.position))

-- whether the first copy is greater: its view is later, or it is longer in the same view
abbrev pub is_greater : ToldCopy → ToldCopy → Bool
is_greater great small = nat_lt small.view great.view || ((great.view == small.view) && nat_lt small.position great.position)

-- A copy is at least as great as another one: the same, or greater.
abbrev pub IsAtLeast : ToldCopy → ToldCopy → Type 0
IsAtLeast great small = (small ≡ great) ⊎ IsLesser small great
