use Rattle.std.proofs.Common.{◌∙◌, sym, ap, map, take, List}
use Rattle.std.specs.Str.{bytes_eq}
use Rattle.indexmap.specs.IndexSet.{insert_key}
use Rattle.serde_json.specs.Data.{Data}
use Rattle.json_tree.specs.View.{view}
use Rattle.sm_plan_text.specs.declared.member.Member.TheVariants as members
use Rattle.sm_plan_text.specs.declared.cursor.Cursor.{Cursor}
use Rattle.sm_plan_text.specs.Values.{text_in, names_in}
use Rattle.sm_plan_text.proofs.WalkLemmas.{step_on}
use Rattle.sm_plan_text.proofs.ServerLemmas.{names_in_push}
use Rattle.sm_plan_text.proofs.outline.names_of.Goals as goal

pub loop-item-preserved : goal.loop-item-preserved
loop-item-preserved c =
    let items = c.args.items.now in
    let i = c.loop-item.item-index in
    let item = c.item-item.result in
    let front : List Data = take i (map view items) in
    step_on names_in items i item _ c.loop-item-test.true c.item-item.is
    (c.in_ok-insert.ensures ∙ ap (insert_key bytes_eq c.loop-item.names) (c.in_ok-name.ensures ∙ ap (λ (p : Cursor). text_in members.Name (view p.tree.now)) c.new-cursor.ensures)
    ∙ ap (λ names. insert_key bytes_eq names (text_in members.Name (view item))) c.loop-item.invariant ∙ sym (names_in_push front (view item)))
