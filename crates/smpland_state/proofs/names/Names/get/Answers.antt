-- The value that a name stands for.
use Rattle.std.proofs.Common.{sym, ap, ◌∙◌}
use Rattle.std.specs.Prelude.{bytes_eq}
use Rattle.std.specs.Option.{option_or}
use Rattle.smpland_state.specs.Names.{value_of}
use Rattle.smpland_state.proofs.Lookups.{lookup_named}
use Rattle.smpland_state.proofs.names.Names.get.Goals as goal

pub returns : goal.returns
returns g c =
    c.or.ensures
    ∙ (λ i. option_or
    ((c.copied-present.ensures ∙ c.get.ensures.value ∙ sym (lookup_named (bytes_eq c.args.name.now) c.self.inside.present.entries)) i)
    ((c.copied-before.ensures ∙ c.get-2.ensures.value ∙ sym (lookup_named (bytes_eq c.args.name.now) c.self.inside.before.entries)) i))
    ∙ ap (λ m. value_of m c.args.name.now) c.self.view_is
