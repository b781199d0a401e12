-- A configuration whose floors are lowered is one.
use Rattle.std.proofs.Common.{◌≡◌, ◌∙◌, ◌≤◌, ◌&&◌, ◌||◌, ℕ, true, false, List, [], ◌∷◌, ◌++◌, length, map, None, nat_lt, sym, ap, refl, arith, le-leb}
use Rattle.std.specs.List.{list_all}
use Rattle.std.proofs.lemmas.List.Sums.{list_all-from_AllPass}
use Rattle.std.proofs.lemmas.List.Folds.{list_all-append, list_all-map}
use Rattle.std.proofs.lemmas.List.{map-append}
use Rattle.std.proofs.lemmas.Bool.Decides.{nat_tests}
use Rattle.sm_placement.proofs.ConfigLemmas.{length_map}
use Rattle.sm_placement.specs.declared.config.Server.{Server}
use Rattle.sm_placement.specs.declared.config.Shard.{Shard}
use Rattle.sm_placement.specs.declared.limits.TheConstants.{MOST_SERVERS, MOST_SHARDS}
use Rattle.sm_placement.specs.Config.{config_fault, server_row, setup_of, shard_names, shard_row}
use Rattle.sm_placement.specs.Names.{is_name, has_double}
use Rattle.sm_placement.specs.Setup.{IsSetup, ServerRow, Setup, ShardRow, is_good_server, is_good_shard, is_too_large, has_doubled_name, has_good_names, has_good_numbers, is_well_named_server, is_well_named_shard, names_of_servers, names_of_shards}

-- servers are good
good_servers : (setup : Setup) → IsSetup setup → list_all is_good_server setup.servers ≡ true
good_servers setup is = list_all-from_AllPass is_good_server setup.servers (λ k d h. le-leb _ _ (is.good_servers k d h))

-- shards are well named by their names alone
well_named : (xs ys : List ShardRow) → map (λ (r : ShardRow). r.name) xs ≡ map (λ (r : ShardRow). r.name) ys → list_all is_well_named_shard xs ≡ list_all is_well_named_shard ys
well_named xs ys e = sym (list_all-map is_name (λ (r : ShardRow). r.name) xs) ∙ ap (list_all is_name) e ∙ list_all-map is_name (λ (r : ShardRow). r.name) ys

-- not too large
not_large : (a b : ℕ) → a ≤ MOST_SERVERS → b ≤ MOST_SHARDS → (nat_lt MOST_SERVERS a || nat_lt MOST_SHARDS b) ≡ false
not_large a b ha hb = grind (arith, nat_tests)

-- as many as before
as_many : (xs ys : List ShardRow) → map (λ (r : ShardRow). r.name) xs ≡ map (λ (r : ShardRow). r.name) ys → length xs ≡ length ys
as_many xs ys e = sym (length_map (λ (r : ShardRow). r.name) xs) ∙ ap length e ∙ length_map (λ (r : ShardRow). r.name) ys

-- no fault where none of the tests finds one
faultless : (setup : Setup) → is_too_large setup ≡ false → has_good_names setup ≡ true → has_doubled_name setup ≡ false → has_good_numbers setup ≡ true → config_fault setup ≡ None
faultless setup large names doubled numbers = simp (large, names, doubled, numbers) refl

-- the same servers, and shards of the same names with good numbers
pub floored_fine : (setup : Setup) (servers : List Server) (shards : List Shard) → IsSetup setup → map server_row servers ≡ setup.servers → shard_names shards ≡ names_of_shards setup →
    list_all is_good_shard (map shard_row shards) ≡ true → config_fault (setup_of servers shards) ≡ None
floored_fine setup servers shards is same names good =
    faultless (setup_of servers shards)
    (not_large (length (map server_row servers)) (length (map shard_row shards)) (rw same is.servers) (rw (as_many (map shard_row shards) setup.shards names) is.shards))
    (ap (λ rows. list_all is_well_named_server rows && list_all is_well_named_shard (map shard_row shards)) same
    ∙ ap (λ b. list_all is_well_named_server setup.servers && b) (well_named (map shard_row shards) setup.shards names) ∙ is.good_names)
    (ap (λ rows. has_double (map (λ (r : ServerRow). r.name) rows) || has_double (shard_names shards)) same
    ∙ ap (λ xs. has_double (names_of_servers setup) || has_double xs) names ∙ is.distinct_names)
    (ap (λ rows. list_all is_good_server rows && list_all is_good_shard (map shard_row shards)) same
    ∙ ap (λ b. b && list_all is_good_shard (map shard_row shards)) (good_servers setup is) ∙ good)

-- one more good shard
pub good_more : (rows more : List Shard) (row : Shard) → list_all is_good_shard (map shard_row rows) ≡ true → more ≡ rows ++ row ∷ [] → is_good_shard (shard_row row) ≡ true →
    list_all is_good_shard (map shard_row more) ≡ true
good_more rows more row good e this =
    ap (λ xs. list_all is_good_shard (map shard_row xs)) e ∙ ap (list_all is_good_shard) (map-append shard_row rows (row ∷ [])) ∙
    list_all-append is_good_shard (map shard_row rows) (shard_row row ∷ []) ∙ ap (λ b. b && list_all is_good_shard (shard_row row ∷ [])) good ∙ ap (λ b. b && true) this
