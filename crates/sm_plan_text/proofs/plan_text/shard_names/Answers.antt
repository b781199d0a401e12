use Rattle.std.proofs.Common.{◌≡◌, ◌∙◌, ◌<◌, List, ℕ, length, get_or, ap, sym, subst, string_bytes}
use Rattle.std.proofs.lemmas.List.{length-map, get_or-map}
use Rattle.sm_placement.specs.Setup.{ShardRow, no_shard, names_of_shards}
use Rattle.sm_plan_text.proofs.DistinctNames.{taken_more, single_shards}
use Rattle.sm_plan_text.proofs.plan_text.shard_names.Goals as goal

pub loop-number-preserved : goal.loop-number-preserved
loop-number-preserved c =
    let rows : List ShardRow = c.args.config.now.shards in
    let i : ℕ = c.loop-number.number in
    let name : List ℕ = string_bytes c.in_ok-clone.field-0 in
    let here : i < length rows = subst (λ n. i < n) c.shard_count-number-end.ensures.count c.loop-number-test.true in
    let at : name ≡ get_or (names_of_shards c.args.config.now) i name =
    c.in_ok-clone.ensures.cases ∙ ap (λ (row : ShardRow). row.name) c.shard.ensures.row ∙ ap (λ n. (get_or rows n no_shard).name) c.new.ensures ∙ sym (get_or-map (λ (row : ShardRow). row.name) rows i no_shard name here) in
    taken_more (names_of_shards c.args.config.now) i name c.loop-number.names c.insert.new.self
    (subst (λ n. i < n) (sym (length-map rows (λ (row : ShardRow). row.name))) here)
    at (single_shards c.args.config.now c.shard_count-number-end.ensures.setup) c.loop-number.invariant c.in_ok-insert.ensures
