use Rattle.std.proofs.Common.{◌∙◌, ap, ap₂, refl, subst}
use Rattle.clap.specs.Words.{takes}
use Rattle.clap.specs.Walk.{texts}
use Rattle.smpland.specs.CommandLine.{Names, journal_in}
use Rattle.smpland.proofs.CommandLine.{found_is, one_is_taken, one_names, tells_kinds, tells_no_memory}
use Rattle.smpland.proofs.command_line.asked_for.Goals as goal

pub returns-in-Ok-try_get_matches_from_mut-clause-named : goal.returns-in-Ok-try_get_matches_from_mut-clause-named
returns-in-Ok-try_get_matches_from_mut-clause-named c =
    subst (Names c.asked_by.result) (c.get_str.ensures ∙ found_is _ (texts c.args.words.now) _ c.in-Ok.ensures c.in-Ok-try_get_matches_from_mut.ensures.ok.2) c.asked_by.ensures

pub returns-in-Ok-try_get_matches_from_mut-clause-one : goal.returns-in-Ok-try_get_matches_from_mut-clause-one
returns-in-Ok-try_get_matches_from_mut-clause-one c = λ name is words.
    subst (Names c.asked_by.result) (c.get_str.ensures
    ∙ (found_is _ (texts c.args.words.now) _ c.in-Ok.ensures c.in-Ok-try_get_matches_from_mut.ensures.ok.2
    ∙ (ap journal_in words ∙ one_names name is))) c.asked_by.ensures

pub returns-clause-taken : goal.returns-clause-taken
returns-clause-taken c = λ is.
    tells_no_memory _ _ (c.in-Err.ensures.passes (ap₂ takes c.in-Ok.ensures refl ∙ is)) c.fault_in.ensures

pub returns-clause-one : goal.returns-clause-one
returns-clause-one c = λ name is words.
    tells_no_memory _ _ (c.in-Err.ensures.passes (ap₂ takes c.in-Ok.ensures words ∙ one_is_taken name is)) c.fault_in.ensures

pub returns-clause-faults : goal.returns-clause-faults
returns-clause-faults c = tells_kinds _ (texts c.args.words.now) _ _ c.in-Ok.ensures c.in-Err.ensures.kinds c.fault_in.ensures
