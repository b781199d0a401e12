-- All that streams hold and signals carry goes back, and then nothing is left on the desk.
use Rattle.std.proofs.Common.{sym, subst}
use Rattle.sm_machine.specs.State.{whole_of}
use Rattle.sm_machine.specs.Working.{IsWorking}
use Rattle.sm_machine.specs.contracts.engine.Engine.{the_view}
use Rattle.sm_machine.proofs.Returns.{blank_fits}
use Rattle.sm_machine.proofs.ties.Ending.{can_end}
use Rattle.sm_machine.proofs.engine.Engine.into_placement.Goals as goal

pub close-requires : goal.close-requires
close-requires c = can_end (the_view c.self.inside) (subst (λ m. IsWorking (whole_of m)) (sym c.self.view_is) c.requires) c.self.invariant.4 c.self.invariant.5

pub close-requires-2 : goal.close-requires-2
close-requires-2 c =
    blank_fits c.self.inside.plans c.self.inside.desk _ _ c.self.invariant.9
    (can_end (the_view c.self.inside) (subst (λ m. IsWorking (whole_of m)) (sym c.self.view_is) c.requires) c.self.invariant.4 c.self.invariant.5)
    c.close.ensures
