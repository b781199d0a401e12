use Rattle.std.proofs.Common.{◌∙◌, ◌++◌, List, ℕ, Some, append-nil, arith, get_or, ap, map, slice_get, subst, sym, rules, take_all}
use Rattle.std.specs.List.{filter}
use Rattle.sm_placement.specs.Config.{shard_names, shard_row}
use Rattle.sm_placement.specs.Setup.{names_of_shards, no_shard}
use Rattle.smpland_reopening.specs.Numbers.{AreNumberedBelow, is_new_shard, shard_as_documented}
use Rattle.smpland_reopening.proofs.Numbers.{filtered_next, none_numbered, shard_name_at, numbered_next}
use Rattle.smpland_reopening.proofs.numbering.number_shards.Goals as goal

-- the next one has the number that it was given
pub loop-place-preserved : goal.loop-place-preserved
loop-place-preserved c = record {
  kept = λ k name e. c.in_ok-number.ensures.kept k name (c.loop-place.invariant.kept k name e);
  numbered = numbered_next _ _ _ _ _ c.loop-place.place c.in_ok-number.number (shard_row c.shard.result.now).name c.loop-place.invariant.numbered c.in_ok-number.ensures.kept
      c.in_ok-note_shard.ensures c.in_ok-number.ensures.number (shard_name_at c.args.document.now c.loop-place.place (search rules) ∙ ap (λ k. Some (get_or c.args.document.now.shards k no_shard).name) (sym c.new.ensures) ∙ ap (λ r. Some r.name) (sym c.shard.ensures.row));
  rows = filtered_next (is_new_shard c.args.recorded.now) _ c.args.document.now.shards no_shard _ _ (shard_row c.shard.result.now) c.loop-place.place (search rules) c.loop-place.invariant.rows
      c.in_ok-number.ensures.rows (c.shard.ensures.row ∙ ap (λ k. get_or c.args.document.now.shards k no_shard) c.new.ensures);
}

-- nothing of the document is numbered yet
pub loop-place-init : goal.loop-place-init
loop-place-init c = record {
  kept = λ k name e. ap (λ xs. slice_get xs k) c.in_ok-rows.ensures.names ∙ e;
  numbered = subst (λ (ns : List ℕ). AreNumberedBelow 0 (shard_names c.in_ok-rows.rows.items) ns (names_of_shards c.args.document.now)) (sym c.new-numbers.ensures.items) (none_numbered _ _);
  rows = c.in_ok-rows.ensures.rows ∙ sym (append-nil _);
}

-- all of it is
pub returns-clause-rows : goal.returns-clause-rows
returns-clause-rows c =
    c.loop-place.invariant.rows
    ∙ ap (λ xs. map (shard_as_documented c.args.document.now) c.args.recorded.now.shards ++ filter (is_new_shard c.args.recorded.now) xs)
    (take_all c.loop-place.place c.args.document.now.shards (omega (arith, c.loop-place-test.false, c.shard_count-place-end.ensures.count)))
