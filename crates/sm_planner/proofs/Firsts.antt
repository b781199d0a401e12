-- The first place of a list at which a test passes.
use Rattle.std.proofs.Common.{◌≡◌, ◌<◌, ◌-◌, ◌+◌, ◌∙◌, ℕ, Bool, Some, true, false, List, sym, ap}
use Rattle.std.specs.Prelude.{find, not, take}
use Rattle.std.specs.List.{range_with_len}
use Rattle.sm_placement.specs.Opening.{first_below}
use Rattle.sm_plan_code.specs.declared.moves.Move.{Move}
use Rattle.sm_planner.specs.Basis.{Basis, move_at}
use Rattle.sm_planner.specs.Refusal.{is_open, is_closed}
use Rattle.sm_placement.proofs.Searches.{find_here, find_next}

-- the numbers below i don't pass
abbrev pub IsLeft : (ℕ → Bool) → ℕ → ℕ → Type 0
IsLeft t i n = find t (range_with_len i (n - i)) ≡ first_below n t

-- a number that passes, where those below it don't, is the first
pub found : (t : ℕ → Bool) (i n : ℕ) → IsLeft t i n → i < n → t i ≡ true → first_below n t ≡ Some i
found t i n left l e = sym left ∙ find_here t i n l e

-- a number that doesn't pass is one more that doesn't
pub passed : (t : ℕ → Bool) (i n : ℕ) → IsLeft t i n → i < n → t i ≡ false → IsLeft t (i + 1) n
passed t i n left l e = sym (find_next t i n l e) ∙ left

-- the move m stands at i, and r says whether it is open
pub closed_by : (b : Basis) (moves : List Move) (i : ℕ) (m : Move) (r : Bool) → m ≡ move_at moves i → r ≡ is_open b (take i moves) m → is_closed b moves i ≡ not r
closed_by b moves i m r e a = sym (ap not a ∙ ap (λ (x : Move). not (is_open b (take i moves) x)) e)
