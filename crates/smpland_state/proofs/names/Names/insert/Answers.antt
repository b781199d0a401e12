-- A name that comes stands behind the others.
use Rattle.std.proofs.Common.{◌≡◌, ◌++◌, ◌∷◌, [], None, sym, ap, ◌∙◌, string_bytes}
use Rattle.std.specs.Prelude.{bytes_eq, string_eq}
use Rattle.std.specs.Map.{lookup}
use Rattle.indexmap.specs.IndexMap.{get}
use Rattle.indexmap.proofs.CallerLemmas.{insert_entry-new}
use Rattle.smpland_state.specs.Entries.{by_bytes}
use Rattle.smpland_state.specs.Names.{value_of, with_name}
use Rattle.smpland_state.proofs.Lookups.{first_none, lookup_named, named_more}
use Rattle.smpland_state.proofs.names.Names.insert.Goals as goal

pub returns-clause-named : goal.returns-clause-named
returns-clause-named g c =
    let map = c.self.inside.present in
    let unknown = first_none _ _ (ap (λ m. value_of m c.args.name.now) c.self.view_is ∙ c.requires) in
    let none : get string_eq map c.in_ok-key.key ≡ None =
    sym (lookup_named (bytes_eq (string_bytes c.in_ok-key.key)) map.entries) ∙ ap (λ bytes. lookup (bytes_eq bytes) (by_bytes map.entries)) c.in_ok-key.ensures.ok ∙ unknown in
    let more =
    ap by_bytes (c.in_ok-insert.ensures.entries ∙ insert_entry-new string_eq map c.in_ok-key.key c.args.value none)
    ∙ named_more map.entries c.in_ok-key.key c.args.value
    ∙ ap (λ bytes. by_bytes map.entries ++ (bytes, c.args.value) ∷ []) c.in_ok-key.ensures.ok in
    (λ i. record { present = more i; before = by_bytes c.self.inside.before.entries }) ∙ ap (λ m. with_name m c.args.name.now c.args.value) c.self.view_is
