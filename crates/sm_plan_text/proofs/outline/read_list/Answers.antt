use Rattle.std.proofs.Common.{◌≡◌, ◌∙◌, ◌≤◌, ◌-◌, List, [], ◌∷◌, ◌++◌, length, map, Some, None, refl, ap, sym, arith}
use Rattle.json.specs.Token.{Token}
use Rattle.json.specs.Json.{items, value, parse_map, after_end_array}
use Rattle.json.proofs.Grammar.{after_end_array-shorter, value-begin_array}
use Rattle.serde_json.specs.Data.{Data, Items, no_items, array}
use Rattle.serde_json.specs.Read.{of_json, of_items, converted}
use Rattle.json_tree.specs.View.{view}
use Rattle.json_tree.proofs.Turns.{converted-array, items_over}
use Rattle.sm_plan_text.specs.declared.fault.TextFault.{TextFault}
use Rattle.sm_plan_text.specs.declared.limits.TheConstants.{MOST_EVENTS, MOST_DEPTH}
use Rattle.sm_plan_text.specs.Faults.{answered}
use Rattle.sm_plan_text.specs.Values.{entries}
use Rattle.sm_plan_text.specs.Tables.{walked}
use Rattle.sm_plan_text.specs.Rules.{HasIds}
use Rattle.sm_plan_text.proofs.OutlineLemmas.{before, none_before, entries_before}
use Rattle.sm_plan_text.proofs.EntriesRead.{one_more_read}
use Rattle.sm_plan_text.proofs.outline.read_list.Goals as goal

pub entries-init : goal.entries-init
entries-init g c = ([], length c.next.new.self, omega arith, none_before _, omega arith, refl, ap length c.new-values.ensures.items, λ _ _. c.new-values.ensures.items)

pub entries-preserved : goal.entries-preserved
entries-preserved g c =
    let l = c.entries in
    let going : (after_end_array l.reader ≡ None) × (c.take_end_array.new.self ≡ l.reader) = grind arith in
    let pushed : c.push.new.self.items ≡ l.values.items ++ c.in_ok-entry.entry ∷ [] = grind arith in
    one_more_read (g.T.Entry.faults_of c.args.scope c.args.member) (g.T.Entry.value c.args.scope) (HasIds c.args.scope) (value (MOST_DEPTH - 1)) c.next.new.self l.reader c.read_value.new.reader
    l.faults.lowest c.read.new.faults.lowest l.values.items c.push.new.self.items (view c.in_ok-tree.tree) c.in_ok-entry.entry
    l.invariant going.0 (rw (← going.1) c.in_ok-tree.ensures.ok) (rw (← going.1) c.in_ok-tree.ensures.shorter) c.in_ok-entry.ensures.faults c.in_ok-entry.ensures.value pushed

pub returns-clause-ok : goal.returns-clause-ok
returns-clause-ok g c =
    let p = value (MOST_DEPTH - 1) in
    let l = c.entries in
    let done = l.invariant.0 in
    let behind = c.next.new.self in
    let r = c.take_end_array.new.self in
    let first : c.args.reader.now ≡ Token.begin_array ∷ behind = grind arith in
    let over : after_end_array l.reader ≡ Some r = grind arith in
    let ds : Items = before done no_items in
    let read : converted of_items (items p (length behind) behind) ≡ Some (ds, r) = l.invariant.3 ∙ ap (parse_map (before done)) (items_over p l.invariant.1 l.reader r l.invariant.2 over) in
    let count : length l.values.items ≡ length (entries ds) = l.invariant.6 ∙ ap length (sym (entries_before done)) in
    let few : length l.values.items ≤ MOST_EVENTS = omega arith in
    let faults : List Data → Data → List TextFault = λ _ entry. g.T.Entry.faults_of c.args.scope c.args.member entry in (
      ds,
      ap (converted of_json) (ap (value MOST_DEPTH) first ∙ value-begin_array MOST_DEPTH behind (omega arith)) ∙ converted-array (items p (length behind) behind) ∙ ap (parse_map array) read,
      l.invariant.5 ∙ ap (λ xs. answered (walked faults [] xs)) (sym (entries_before done)),
      rw (← count) few,
      λ ids none. l.invariant.7 ids none ∙ ap (map (g.T.Entry.value c.args.scope)) (sym (entries_before done)),
    )

pub returns-clause-shorter : goal.returns-clause-shorter
returns-clause-shorter g c =
    let l = c.entries in
    let r = c.take_end_array.new.self in
    let behind = c.next.new.self in
    let first : c.args.reader.now ≡ Token.begin_array ∷ behind = grind arith in
    let over : after_end_array l.reader ≡ Some r = grind arith in
    omega (arith, ap length first, after_end_array-shorter l.reader r over, l.invariant.4)
