use Rattle.std.proofs.Common.{rules}
use Rattle.std.specs.Prelude.{not}
use Rattle.std.proofs.lemmas.Fn.{filter_same}
use Rattle.smpland_state.specs.Restores.{was_told}
use Rattle.smpland_state.specs.Told.{ToldModel}
use Rattle.smpland_state.proofs.restored.keep_earlier.Goals as goal

pub returns : goal.returns
returns c =
    filter_same _ (λ (t : ToldModel). not (was_told c.args.later.now t.server)) _ (λ x b f' k. search rules) _ _ c.retain.ensures.filtered
