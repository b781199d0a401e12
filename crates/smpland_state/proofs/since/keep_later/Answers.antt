use Rattle.std.proofs.Common.{rules}
use Rattle.std.specs.Prelude.{nat_lt}
use Rattle.std.proofs.lemmas.Fn.{filter_same}
use Rattle.smpland_state.specs.History.{ordered_at}
use Rattle.smpland_state.proofs.since.keep_later.Goals as goal

pub returns : goal.returns
returns c =
    filter_same _ (λ id. nat_lt c.args.place (ordered_at c.args.history.now id)) _ (λ x b f' k. search rules) _ _ c.retain.ensures.filtered
