use Rattle.std.proofs.Common.{ap₂, refl, ◌∙◌}
use Rattle.clap.specs.Words.{takes}
use Rattle.clap.specs.Walk.{texts}
use Rattle.sm_command_line.proofs.CommandLine.{takes_asked, tells_no_memory, tells_kinds}
use Rattle.sm_command_line.proofs.words.command_of.Goals as goal

pub returns-in-Err-clause-known : goal.returns-in-Err-clause-known
returns-in-Err-clause-known c = λ asked.
    tells_no_memory _ _ (c.in-Err.ensures.passes (ap₂ takes c.in-Ok.ensures refl ∙ takes_asked (texts c.args.words.now) asked)) c.fault_in.ensures

pub returns-in-Err-clause-faults : goal.returns-in-Err-clause-faults
returns-in-Err-clause-faults c = tells_kinds _ (texts c.args.words.now) _ _ c.in-Ok.ensures c.in-Err.ensures.kinds c.fault_in.ensures
