-- Shards whose floors are lowered.
use Rattle.std.proofs.Common.{◌≡◌, ◌∙◌, ◌+◌, ◌≤◌, ◌<◌, ℕ, List, [], ◌∷◌, ◌++◌, length, map, get_or, sym, ap, refl, subst, arith, inl, inr, length-append}
use Rattle.std.proofs.lemmas.Bool.{cases_lt}
use Rattle.std.proofs.lemmas.List.{get_or_append_left, map-append}
use Rattle.std.proofs.Math.Seq.{get_or-append_seam}
use Rattle.sm_placement.specs.declared.config.Server.{Server}
use Rattle.sm_placement.specs.declared.config.Shard.{Shard}
use Rattle.sm_placement.specs.Config.{server_row, setup_of, shard_row}
use Rattle.sm_placement.specs.Setup.{Setup, ShardRow, no_shard}
use Rattle.smpland_reopening.specs.Eased.{AreEasedBelow, IsEased, IsEasedShard}

-- one more row
row_next : (old xs : List ShardRow) (x : ShardRow) (i : ℕ) → AreEasedBelow i old xs → IsEasedShard (get_or old i no_shard) x → AreEasedBelow (i + 1) old (xs ++ x ∷ [])
row_next old xs x i so_far this = record {
  count = length-append xs (x ∷ []) ∙ ap (λ n. n + 1) so_far.count;
  each = λ k h. elim (cases_lt k i) [
    | inl before ↦
        subst (IsEasedShard (get_or old k no_shard)) (sym (get_or_append_left xs (x ∷ []) no_shard k (omega (arith, before, so_far.count)))) (so_far.each k before)
    | inr past ↦
        let last : k ≡ i = omega (arith, past, h) in
        let place : k ≡ length xs = last ∙ sym so_far.count in
        subst (IsEasedShard (get_or old k no_shard)) (sym (ap (λ n. get_or (xs ++ x ∷ []) n no_shard) place ∙ get_or-append_seam xs x [] no_shard))
        (subst (λ n. IsEasedShard (get_or old n no_shard) x) (sym last) this)
  ];
}

-- one more shard
pub eased_next : (old : List ShardRow) (xs ys : List Shard) (x : Shard) (row : ShardRow) (i : ℕ) → AreEasedBelow i old (map shard_row xs) → ys ≡ xs ++ x ∷ [] →
    row ≡ get_or old i no_shard → IsEasedShard row (shard_row x) → AreEasedBelow (i + 1) old (map shard_row ys)
eased_next old xs ys x row i so_far d is this =
    subst (AreEasedBelow (i + 1) old) (sym (ap (map shard_row) d ∙ map-append shard_row xs (x ∷ [])))
    (row_next old (map shard_row xs) (shard_row x) i so_far (subst (λ (r : ShardRow). IsEasedShard r (shard_row x)) is this))

-- a configuration of the same servers, and of these shards
pub eased_config : (old new : Setup) (servers : List Server) (shards : List Shard) → new ≡ setup_of servers shards → map server_row servers ≡ old.servers →
    AreEasedBelow (length old.shards) old.shards (map shard_row shards) → IsEased old new
eased_config old new servers shards is same eased = subst (IsEased old) (sym is) (record { servers = same; shards = eased })

-- the shard has the same name and numbers, but more of it may be away
pub eased_shard : (old : ShardRow) (name : List ℕ) (cap : ℕ) → name ≡ old.name → old.cap ≤ cap →
    IsEasedShard old (record { name = name; load = old.load; want = old.want; cap = cap; spread = old.spread })
eased_shard old name cap same more = record { same = ap (λ (n : List ℕ). record old { name = n; cap = cap }) same; more = more }
