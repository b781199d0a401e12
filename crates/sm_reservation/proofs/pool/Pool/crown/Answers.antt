-- The entry that is read is the shard's.
use Rattle.std.proofs.Common.{◌∙◌, ap, Option}
use Rattle.std.specs.Option.{option_flatten}
use Rattle.std.proofs.Common.{ℕ}
use Rattle.sm_placement.specs.declared.lead.Lead.{Lead}
use Rattle.sm_reservation.proofs.PoolLemmas.{crown_got}
use Rattle.sm_reservation.proofs.pool.Pool.crown.Goals as goal

pub returns : goal.returns
returns c =
    c.flatten.ensures ∙ ap (λ (o : Option (Option (Lead × Option ℕ))). option_flatten o) c.copied.ensures
    ∙ crown_got c.args.shard c.get.result c.self.view_is (rw (← c.number-slot.ensures, ← c.deref.ensures.value) c.get.ensures.lookup)
