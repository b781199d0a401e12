-- The instruction may be made.
use Rattle.std.proofs.Common.{◌≡◌, Some, IsOk, subst, sym, ap, ◌∙◌}
use Rattle.sm_placement.specs.Setup.{sizes_of}
use Rattle.sm_plan_code.specs.After.{after}
use Rattle.sm_machine.specs.Course.{hold_in}
use Rattle.sm_machine.proofs.stream.Course.change_of.Goals as goal

pub unreachable-requires : goal.unreachable-requires
unreachable-requires c =
    let e : c.args.self.now.grant ≡ Some c.hold.result.now = ap (λ x. x.grant) (sym c.self.view_is) ∙ c.in-Some.is ∙ ap Some (sym c.hold.ensures) in
    let f = ap (λ g. after (sizes_of c.args.config.now) c.requires.can.signals c.args.instr.now (hold_in g)) e ∙ c.in-Err.ensures.refused c.requires.can.signals in
    let g = subst IsOk f c.requires.can.made in cc
