-- One shard more.
use Rattle.std.proofs.Common.{◌≡◌, ◌++◌, ◌+◌, ℕ, List, [], ◌∷◌, length, refl, ap, sym, ◌∙◌, zero-add, length-append}
use Rattle.std.specs.List.{enumerate_from, flat_map}
use Rattle.std.proofs.lemmas.List.{flat_map_more, length-map}
use Rattle.serde_json.specs.Data.{Data}
use Rattle.sm_plan_text.specs.declared.member.Member.TheVariants as members
use Rattle.sm_plan_text.specs.Values.{entries_in, id_of}
use Rattle.sm_plan_text.specs.Shards.{named_cell, cells_of_shard, cells_in, cell_count}
use Rattle.sm_plan_text.proofs.WalkLemmas.{enumerate_push}

-- with one shard more its cells come behind those of the others
pub cells_in_push : (servers : List (List ℕ)) (ds : List Data) (d : Data) → cells_in servers (ds ++ d ∷ []) ≡ cells_in servers ds ++ cells_of_shard servers (length ds, d)
cells_in_push servers ds d =
    ap (flat_map (cells_of_shard servers)) (enumerate_push 0 ds d ∙ ap (λ n. enumerate_from 0 ds ++ (n, d) ∷ []) (zero-add (length ds))) ∙
    sym (flat_map_more (cells_of_shard servers) [] (enumerate_from 0 ds) (length ds, d))

cell_count_from : (servers : List (List ℕ)) (n : ℕ) (ds : List Data) → length (flat_map (cells_of_shard servers) (enumerate_from n ds)) ≡ length (flat_map (entries_in members.Cells) ds)
cell_count_from servers n [] = refl
cell_count_from servers n (d ∷ ds) =
    length-append (cells_of_shard servers (n, d)) (flat_map (cells_of_shard servers) (enumerate_from (n + 1) ds)) ∙
    ap (λ k. k + length (flat_map (cells_of_shard servers) (enumerate_from (n + 1) ds))) (length-map (entries_in members.Cells d) (named_cell servers (id_of n))) ∙
    ap (λ k. length (entries_in members.Cells d) + k) (cell_count_from servers (n + 1) ds) ∙
    sym (length-append (entries_in members.Cells d) (flat_map (entries_in members.Cells) ds))

-- the cells that have been read are those that count against the limit
pub cell_count_is : (servers : List (List ℕ)) (ds : List Data) → length (cells_in servers ds) ≡ cell_count ds
cell_count_is servers ds = cell_count_from servers 0 ds
