-- Doubled names, found one name after another.
use Rattle.std.proofs.Common.{◌≡◌, ◌+◌, ◌<◌, ◌||◌, ◌++◌, ℕ, Bool, true, false, List, [], ◌∷◌, length, map, get_or, take, drop, string_bytes, refl, sym, ap, ◌∙◌, true≢false}
use Rattle.std.specs.List.{list_any}
use Rattle.std.specs.Str.{bytes_eq}
use Rattle.std.proofs.lemmas.Cmp.{nat_list_eq_equiv}
use Rattle.std.proofs.lemmas.List.{map_push, map-append, take_more, take-append-drop}
use Rattle.std.proofs.lemmas.List.Folds.{list_any-append}
use Rattle.sm_placement.specs.declared.config.Server.{Server}
use Rattle.sm_placement.specs.declared.config.Shard.{Shard}
use Rattle.sm_placement.specs.Names.{has_double}
use Rattle.sm_placement.specs.Config.{server_row, shard_row, server_names, shard_names}

-- whether one of four tests holds is the same in either order
pub or_swap : (a b c d : Bool) → ((a || (b || false)) || (c || d)) ≡ ((a || c) || (b || d))
or_swap true b c d = refl
or_swap false true true d = refl
or_swap false true false d = refl
or_swap false false true d = refl
or_swap false false false d = refl

-- with a name more, a name is doubled where one was, or where the new one stood before
pub has_double_push : (names : List (List ℕ)) (name : List ℕ) → has_double (names ++ name ∷ []) ≡ (has_double names || list_any (bytes_eq name) names)
has_double_push [] name = refl
has_double_push (n ∷ names) name =
    ap (λ b. b || has_double (names ++ name ∷ [])) (list_any-append (bytes_eq n) names (name ∷ [])) ∙
    ap (λ b. (list_any (bytes_eq n) names || (bytes_eq n name || false)) || b) (has_double_push names name) ∙
    or_swap (list_any (bytes_eq n) names) (bytes_eq n name) (has_double names) (list_any (bytes_eq name) names) ∙
    ap (λ b. (list_any (bytes_eq n) names || has_double names) || (b || list_any (bytes_eq name) names)) (nat_list_eq_equiv.symm n name)

-- where one of two tests holds, so does one of the first, of another one and of what the second implies
pub or_more : (a b c d : Bool) → (a || b) ≡ true → (b ≡ true → d ≡ true) → ((a || c) || d) ≡ true
or_more true b c d h k = refl
or_more false b true d h k = refl
or_more false b false d h k = k h

-- a doubled name stays doubled when names follow
pub has_double_append : (names more : List (List ℕ)) → has_double names ≡ true → has_double (names ++ more) ≡ true
has_double_append [] more h = absurd (true≢false (sym h))
has_double_append (n ∷ names) more h =
    ap (λ b. b || has_double (names ++ more)) (list_any-append (bytes_eq n) names more) ∙
    or_more (list_any (bytes_eq n) names) (has_double names) (list_any (bytes_eq n) more) (has_double (names ++ more)) h (has_double_append names more)

-- the names of the first rows with the next one's
names_more : {T R : Type 0} (row : T → R) (name : R → List ℕ) (xs : List T) (i : ℕ) (d : T) → i < length xs → map name (map row (take (i + 1) xs)) ≡ map name (map row (take i xs)) ++ name (row (get_or xs i d)) ∷ []
names_more row name xs i d h =
    ap (λ ys. map name (map row ys)) (take_more xs i d h) ∙
    ap (map name) (map_push row (take i xs) (get_or xs i d)) ∙
    map_push name (map row (take i xs)) (row (get_or xs i d))

-- the names of all rows are those of the first ones, and then those of the others
names_split : {T R : Type 0} (row : T → R) (name : R → List ℕ) (xs : List T) (n : ℕ) → map name (map row xs) ≡ map name (map row (take n xs)) ++ map name (map row (drop n xs))
names_split row name xs n =
    ap (λ ys. map name (map row ys)) (sym (take-append-drop n xs)) ∙
    ap (map name) (map-append row (take n xs) (drop n xs)) ∙
    map-append name (map row (take n xs)) (map row (drop n xs))

module _ (name : List ℕ) {names more seen : List (List ℕ)} (m : more ≡ names ++ name ∷ []) (e : seen ≡ names) where
  double_more : has_double more ≡ (has_double names || list_any (bytes_eq name) seen)
  double_more = ap has_double m ∙ has_double_push names name ∙ ap (λ ns. has_double names || list_any (bytes_eq name) ns) (sym e)

  -- a new name leaves none doubled
  single_more : has_double names ≡ false → list_any (bytes_eq name) seen ≡ false → has_double more ≡ false
  single_more single new = double_more ∙ ap (λ b. b || list_any (bytes_eq name) seen) single ∙ new

  -- a name that was seen is doubled, whatever names follow
  double_here : (all rest : List (List ℕ)) → all ≡ more ++ rest → has_double names ≡ false → list_any (bytes_eq name) seen ≡ true → has_double all ≡ true
  double_here all rest a single old = ap has_double a ∙ has_double_append more rest (double_more ∙ ap (λ b. b || list_any (bytes_eq name) seen) single ∙ old)

module _ (servers : List Server) (i : ℕ) (d : Server) (h : i < length servers) where
  -- the names of the first servers with the next one's
  pub server_names_more : server_names (take (i + 1) servers) ≡ server_names (take i servers) ++ string_bytes (get_or servers i d).name ∷ []
  server_names_more = names_more server_row (λ r. r.name) servers i d h

  module _ (seen : List (List ℕ)) (e : seen ≡ server_names (take i servers)) where
    -- a new name leaves none doubled
    pub server_single_more : has_double (server_names (take i servers)) ≡ false → list_any (bytes_eq (string_bytes (get_or servers i d).name)) seen ≡ false → has_double (server_names (take (i + 1) servers)) ≡ false
    server_single_more single new = single_more (string_bytes (get_or servers i d).name) server_names_more e single new

    -- a name that was seen is doubled
    pub server_double_here : has_double (server_names (take i servers)) ≡ false → list_any (bytes_eq (string_bytes (get_or servers i d).name)) seen ≡ true → has_double (server_names servers) ≡ true
    server_double_here single old = double_here (string_bytes (get_or servers i d).name) server_names_more e (server_names servers) (server_names (drop (i + 1) servers)) (names_split server_row (λ r. r.name) servers (i + 1)) single old

module _ (shards : List Shard) (i : ℕ) (d : Shard) (h : i < length shards) where
  -- the names of the first shards with the next one's
  pub shard_names_more : shard_names (take (i + 1) shards) ≡ shard_names (take i shards) ++ string_bytes (get_or shards i d).name ∷ []
  shard_names_more = names_more shard_row (λ r. r.name) shards i d h

  module _ (seen : List (List ℕ)) (e : seen ≡ shard_names (take i shards)) where
    -- a new name leaves none doubled
    pub shard_single_more : has_double (shard_names (take i shards)) ≡ false → list_any (bytes_eq (string_bytes (get_or shards i d).name)) seen ≡ false → has_double (shard_names (take (i + 1) shards)) ≡ false
    shard_single_more single new = single_more (string_bytes (get_or shards i d).name) shard_names_more e single new

    -- a name that was seen is doubled
    pub shard_double_here : has_double (shard_names (take i shards)) ≡ false → list_any (bytes_eq (string_bytes (get_or shards i d).name)) seen ≡ true → has_double (shard_names shards) ≡ true
    shard_double_here single old = double_here (string_bytes (get_or shards i d).name) shard_names_more e (shard_names shards) (shard_names (drop (i + 1) shards)) (names_split shard_row (λ r. r.name) shards (i + 1)) single old
