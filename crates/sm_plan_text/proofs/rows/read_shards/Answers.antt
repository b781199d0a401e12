use Rattle.std.proofs.Common.{◌≡◌, ◌++◌, [], ℕ, ◌∙◌, sym, ap, length, map, take, List}
use Rattle.std.specs.Str.{bytes_eq}
use Rattle.std.proofs.lemmas.List.{length-map}
use Rattle.indexmap.specs.IndexSet.{insert_key}
use Rattle.serde_json.specs.Data.{Data}
use Rattle.json_tree.specs.View.{view}
use Rattle.sm_placement.specs.Config.{shard_row}
use Rattle.sm_plan_text.specs.declared.member.Member.TheVariants as members
use Rattle.sm_plan_text.specs.Faults.{noted}
use Rattle.sm_plan_text.specs.Values.{text_in, names_in}
use Rattle.sm_plan_text.specs.Shards.{faults_of_shard, shard_faults, shard_in, listed_in, cells_of_shard, cells_in}
use Rattle.sm_plan_text.proofs.WalkLemmas.{step_on, mapped_step, walked_step}
use Rattle.sm_plan_text.proofs.ServerLemmas.{names_in_push}
use Rattle.sm_plan_text.proofs.ShardLemmas.{cells_in_push, cell_count_is}
use Rattle.sm_plan_text.proofs.rows.read_shards.Goals as goal

pub loop-item-preserved : goal.loop-item-preserved
loop-item-preserved c =
    let items = c.args.items.now in
    let i = c.loop-item.item-index in
    let item = c.item-item.result in
    let servers : List (List ℕ) = c.args.servers.now in
    let front : List Data = take i (map view items) in
    let count : length c.loop-item.shards.rows.items ≡ length front =
    sym (length-map c.loop-item.shards.rows.items shard_row) ∙ ap length c.loop-item.invariant.rows ∙ length-map front shard_in in
    record {
      rows = mapped_step shard_in items i item [] _ _ c.loop-item-test.true c.item-item.is c.in_ok-add_shard.ensures.rows c.loop-item.invariant.rows;
      names = step_on names_in items i item _ c.loop-item-test.true c.item-item.is
          (c.in_ok-add_shard.ensures.names ∙ ap (λ names. insert_key bytes_eq names (text_in members.Name (view item))) c.loop-item.invariant.names ∙ sym (names_in_push front (view item)));
      listed = mapped_step (listed_in servers) items i item [] _ _ c.loop-item-test.true c.item-item.is c.in_ok-add_shard.ensures.listed c.loop-item.invariant.listed;
      cells = step_on (cells_in servers) items i item _ c.loop-item-test.true c.item-item.is
          (c.in_ok-add_shard.ensures.cells
          ∙ ap (λ n. c.loop-item.shards.cells.items ++ cells_of_shard servers (n, view item)) count
          ∙ ap (λ cells. cells ++ cells_of_shard servers (length front, view item)) c.loop-item.invariant.cells
          ∙ sym (cells_in_push servers front (view item)));
      faults = walked_step (shard_faults servers) items i item _ _ c.loop-item-test.true c.item-item.is
          (c.in_ok-add_shard.ensures.faults
          ∙ ap (λ names. noted c.loop-item.faults.lowest (faults_of_shard servers names (length c.loop-item.shards.cells.items) (view item))) c.loop-item.invariant.names
          ∙ ap (λ n. noted c.loop-item.faults.lowest (faults_of_shard servers (names_in front) n (view item))) (ap length c.loop-item.invariant.cells ∙ cell_count_is servers front))
          ∙ c.loop-item.invariant.faults;
    }
