use Rattle.std.proofs.Common.{length}
use Rattle.laws_network.specs.Net.{order_of}
use Rattle.sm_driver.specs.Copies.{is_order_for}
use Rattle.sm_driver.specs.Driver.{base, record_of}
use Rattle.sm_driver.proofs.Marks.{HasMarks}
use Rattle.sm_driver.proofs.driver.Driver.ordered.Given as goal

-- the marks by the streams so far
abbrev pub invariant-loop-id : goal.invariant-loop-id
invariant-loop-id l = HasMarks (λ s id. is_order_for s (order_of (base l.self) (record_of l.self) id)) l.id-items l.id-index (record_of l.self).sizes.shards l.marks.items
