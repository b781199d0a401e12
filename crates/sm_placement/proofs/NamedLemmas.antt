-- If no name is doubled, a name leads to its number.
use Rattle.std.proofs.Common.{◌≡◌, ◌+◌, ◌<◌, ◌||◌, ℕ, zero, suc, Bool, true, false, cond, not, List, [], ◌∷◌, length, get_or, Some, None, nat_lt, lt-ltb, refl, sym, ap, ◌∙◌, true≢false, arith}
use Rattle.std.specs.List.{list_any, position, position_or_len}
use Rattle.std.specs.Str.{bytes_eq}
use Rattle.std.proofs.lemmas.Bool.{or_parts}
use Rattle.std.proofs.lemmas.Cmp.{nat_list_eq_equiv}
use Rattle.std.proofs.lemmas.List.{get_or-map}
use Rattle.std.proofs.lemmas.List.Folds.{list_any_at}
use Rattle.sm_placement.proofs.ConfigLemmas.{length_map}
use Rattle.sm_placement.specs.Names.{has_double}
use Rattle.sm_placement.specs.Setup.{Setup, ServerRow, ShardRow, IsSetup, names_of_servers, names_of_shards, no_server, no_shard, server_named, shard_named}

-- where neither holds the first one doesn't
pub or_first : (a b : Bool) → (a || b) ≡ false → a ≡ false
or_first a b h = (or_parts a b h).0

-- where neither holds the second one doesn't
pub or_second : (a b : Bool) → (a || b) ≡ false → b ≡ false
or_second a b h = (or_parts a b h).1

-- a name at a place stands at no earlier place
first_place : (names : List (List ℕ)) (i : ℕ) (d : List ℕ) → has_double names ≡ false → i < length names → position_or_len (bytes_eq (get_or names i d)) names ≡ i
first_place [] i d single h = absurd (omega arith)
first_place (n ∷ names) zero d single h = ap (λ b. cond (not b) (1 + position_or_len (bytes_eq n) names) 0) (nat_list_eq_equiv.refl n)
first_place (n ∷ names) (suc i) d single h =
    let within : i < length names = omega arith in
    ap (λ b. cond (not b) (1 + position_or_len (bytes_eq (get_or names i d)) names) 0) (other (bytes_eq (get_or names i d) n) refl) ∙
    ap (λ k. 1 + k) (first_place names i d (or_second (list_any (bytes_eq n) names) (has_double names) single) within) ∙ (omega arith)
  where
    other : (b : Bool) → bytes_eq (get_or names i d) n ≡ b → b ≡ false
    other false e = refl
    other true e = absurd (true≢false (sym (list_any_at (bytes_eq n) names i d (omega arith) (nat_list_eq_equiv.symm n (get_or names i d) ∙ e)) ∙ or_first (list_any (bytes_eq n) names) (has_double names) single))

position_of_name : (names : List (List ℕ)) (i : ℕ) (d : List ℕ) → has_double names ≡ false → i < length names → position (λ n. bytes_eq (get_or names i d) n) names ≡ Some i
position_of_name names i d single h =
    ap (λ k. cond (nat_lt k (length names)) (Some k) None) (first_place names i d single h) ∙
    ap (λ b. cond b (Some i) None) (lt-ltb i (length names) h)

-- the name of the server with a number leads to that number
pub server_named_at : (setup : Setup) (i : ℕ) (row : ServerRow) → IsSetup setup → i < length setup.servers → row ≡ get_or setup.servers i no_server → server_named setup row.name ≡ Some i
server_named_at setup i row is h at =
    let same : row.name ≡ get_or (names_of_servers setup) i [] =
    ap (λ r. r.name) at ∙ sym (get_or-map (λ r. r.name) setup.servers i no_server [] h) in
    ap (λ name. position (λ n. bytes_eq name n) (names_of_servers setup)) same ∙
    position_of_name (names_of_servers setup) i [] (or_first (has_double (names_of_servers setup)) _ is.distinct_names) (rw (length_map (λ r. r.name) setup.servers) h)

-- the name of the shard with a number leads to that number
pub shard_named_at : (setup : Setup) (i : ℕ) (row : ShardRow) → IsSetup setup → i < length setup.shards → row ≡ get_or setup.shards i no_shard → shard_named setup row.name ≡ Some i
shard_named_at setup i row is h at =
    let same : row.name ≡ get_or (names_of_shards setup) i [] =
    ap (λ r. r.name) at ∙ sym (get_or-map (λ r. r.name) setup.shards i no_shard [] h) in
    ap (λ name. position (λ n. bytes_eq name n) (names_of_shards setup)) same ∙
    position_of_name (names_of_shards setup) i [] (or_second (has_double (names_of_servers setup)) _ is.distinct_names) (rw (length_map (λ r. r.name) setup.shards) h)
