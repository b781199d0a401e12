use Rattle.std.proofs.Common.{◌≡◌, ◌++◌, ◌∷◌, [], cond, ◌∙◌, sym, ap, length, map, take, List}
use Rattle.std.specs.Str.{bytes_eq}
use Rattle.std.proofs.lemmas.List.{length-map}
use Rattle.indexmap.specs.IndexSet.{insert_key}
use Rattle.serde_json.specs.Data.{Data}
use Rattle.json_tree.specs.View.{view}
use Rattle.sm_placement.specs.Config.{server_row}
use Rattle.sm_plan_text.specs.declared.member.Member.TheVariants as members
use Rattle.sm_plan_text.specs.Faults.{noted}
use Rattle.sm_plan_text.specs.Tables.{own_faults}
use Rattle.sm_plan_text.specs.Values.{text_in, flag_in, id_of, names_in}
use Rattle.sm_plan_text.specs.Servers.{server_table, server_faults, server_in, down_in}
use Rattle.sm_plan_text.proofs.WalkLemmas.{step_on, mapped_step, walked_step}
use Rattle.sm_plan_text.proofs.ServerLemmas.{names_in_push, down_in_push}
use Rattle.sm_plan_text.proofs.rows.read_servers.Goals as goal

pub loop-item-preserved : goal.loop-item-preserved
loop-item-preserved c =
    let items = c.args.items.now in
    let i = c.loop-item.item-index in
    let item = c.item-item.result in
    let front : List Data = take i (map view items) in
    let count : length c.loop-item.servers.rows.items ≡ length front =
    sym (length-map c.loop-item.servers.rows.items server_row) ∙ ap length c.loop-item.invariant.rows ∙ length-map front server_in in
    record {
      rows = mapped_step server_in items i item [] _ _ c.loop-item-test.true c.item-item.is c.in_ok-add_server.ensures.rows c.loop-item.invariant.rows;
      names = step_on names_in items i item _ c.loop-item-test.true c.item-item.is
          (c.in_ok-add_server.ensures.names ∙ ap (λ names. insert_key bytes_eq names (text_in members.Name (view item))) c.loop-item.invariant.names ∙ sym (names_in_push front (view item)));
      down = step_on down_in items i item _ c.loop-item-test.true c.item-item.is
          (c.in_ok-add_server.ensures.down
          ∙ ap (λ n. cond (flag_in members.Down (view item)) (c.loop-item.servers.down.items ++ id_of n ∷ []) c.loop-item.servers.down.items) count
          ∙ ap (λ ids. cond (flag_in members.Down (view item)) (ids ++ id_of (length front) ∷ []) ids) c.loop-item.invariant.down
          ∙ sym (down_in_push front (view item)));
      faults = walked_step server_faults items i item _ _ c.loop-item-test.true c.item-item.is
          (c.in_ok-add_server.ensures.faults ∙ ap (λ names. noted c.loop-item.faults.lowest (own_faults members.Servers (server_table names) (view item))) c.loop-item.invariant.names)
          ∙ c.loop-item.invariant.faults;
    }
