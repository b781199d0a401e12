-- Copies of C, and how they compare.
use Rattle.std.specs.Prelude.{ℕ}
use Rattle.std.specs.declared.cmp.Ordering.{Ordering}
use Rattle.std.specs.declared.cmp.Ordering.TheVariants.{Less, Equal, Greater}
use Rattle.sm_agent_c.specs.declared.code.TheConstants.{LESS, EQUAL, GREATER}

-- the number of an answer to a comparison
abbrev pub order_code : Ordering → ℕ
order_code Less = LESS
order_code Equal = EQUAL
order_code Greater = GREATER
