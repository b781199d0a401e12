-- A machine with no plan.
use Rattle.std.proofs.Common.{refl}
use Rattle.sm_placement.specs.Layout.{place_of}
use Rattle.sm_machine.proofs.Writes.{opened_is}
use Rattle.sm_machine.proofs.engine.Engine.of.Goals as goal

pub returns : goal.returns
returns c =
    opened_is _ _ _ _ _ _ _ _ c.args.placement.setup (place_of c.args.placement) c.args.room _ c.requires.opening c.forget_numbers.ensures.setup c.forget_numbers.ensures.place c.requires.pool
    c.requires.entries c.requires.numbers c.new.ensures c.requires.journal
    (rw (c.saturating_sub.ensures, c.from.ensures, c.from-down.ensures, c.down_count.ensures) refl)
