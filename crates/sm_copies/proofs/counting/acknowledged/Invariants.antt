use Rattle.std.proofs.Common.{ℕ, ◌<◌, ◌≤◌, get_or}
use Rattle.sm_copies.specs.declared.order.ToldCopy.{ToldCopy}
use Rattle.sm_copies.specs.Counting.{HaveEnough}
use Rattle.sm_copies.proofs.counting.acknowledged.Given as goal

-- enough have the greatest position, and the primary's own and those so far are no greater
abbrev pub invariant-loop-copy : goal.invariant-loop-copy
invariant-loop-copy l = record {
  have : 0 < l.greatest → HaveEnough l.copies l.own l.told l.greatest;
  own : HaveEnough l.copies l.own l.told l.own.position → l.own.position ≤ l.greatest;
  seen : (k : ℕ) (d : ToldCopy) → k < l.copy-index → HaveEnough l.copies l.own l.told (get_or l.told k d).position → (get_or l.told k d).position ≤ l.greatest;
}
