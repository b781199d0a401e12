-- A stream's allowance is raised.
use Rattle.std.proofs.Common.{◌∙◌, sym}
use Rattle.sm_machine.specs.State.{whole_of}
use Rattle.sm_machine.proofs.Losses.{refill_leaves}
use Rattle.sm_machine.proofs.engine.Engine.refill.Goals as goal

pub returns : goal.returns
returns c =
    refill_leaves (whole_of c.args.self.now) c.requires.working c.args.id c.args.more c.requires.more (sym c.refill_fault.ensures ∙ c.in_default.is) _ c.raise_allowance.ensures
