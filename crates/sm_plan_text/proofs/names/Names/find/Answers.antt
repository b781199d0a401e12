use Rattle.std.proofs.Common.{◌∙◌, sym, ap}
use Rattle.sm_plan_text.proofs.NameLemmas.{position_bytes}
use Rattle.sm_plan_text.specs.Values.{number_named}
use Rattle.sm_plan_text.proofs.names.Names.find.Goals as goal

pub returns : goal.returns
returns c =
    c.get_index_of.ensures.index ∙ sym (position_bytes c.args.name.now c.self.inside.set.keys) ∙ ap (λ names. number_named names c.args.name.now) c.self.view_is
