-- The entry that is read is the server's.
use Rattle.std.proofs.Common.{◌∙◌, ap, Option}
use Rattle.std.specs.Option.{unwrap_or}
use Rattle.std.proofs.Common.{ℕ}
use Rattle.sm_reservation.proofs.PoolLemmas.{room_got}
use Rattle.sm_reservation.proofs.pool.Pool.room.Goals as goal

pub returns : goal.returns
returns c =
    c.unwrap_or.ensures ∙ ap (λ (o : Option ℕ). unwrap_or o 0) c.copied.ensures
    ∙ room_got c.args.server c.get.result c.self.view_is (rw (← c.number-slot.ensures, ← c.deref.ensures.value) c.get.ensures.lookup)
