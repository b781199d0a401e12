use Rattle.std.proofs.Common.{[], ℕ, List, ◌∙◌, sym, subst}
use Rattle.atomic_table.specs.Table.{opening}
use Rattle.sm_placement.specs.declared.entry.Entry.{Entry}
use Rattle.sm_map.specs.Rule.{publisher_view, Kept}
use Rattle.sm_map.proofs.Keeps as keep
use Rattle.sm_map.proofs.map.Words.open.Goals as goal

pub of_words-requires : goal.of_words-requires
of_words-requires c =
    let words = c.as_slice.ensures.value ∙ c.in_ok-words.ensures in
    let entries = c.in_ok-from_slice.ensures.items in
    subst (λ (x : List ℕ × List Entry). Kept {S = Unit {0}} c.args.servers x.1 (opening x.0 [] (publisher_view c.args.servers x.1 []))) (λ k. (sym words k, sym entries k)) (keep.begins (Unit {0}) c.args.servers c.args.entries.now c.requires.entries)
