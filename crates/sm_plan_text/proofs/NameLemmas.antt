-- Names as texts and as bytes.
use Rattle.std.proofs.Common.{arith, tests, ◌≡◌, ◌∙◌, ◌++◌, ◌+◌, ℕ, suc, nat_lt, Bool, true, false, cond, ◌||◌, not, List, [], ◌∷◌, length, map, Some, None, is_some, refl, ap, String, string_bytes}
use Rattle.std.specs.List.{list_any, position, position_or_len}
use Rattle.std.specs.Str.{bytes_eq}
use Rattle.std.specs.String.{string_eq}
use Rattle.std.specs.declared.alloc.Global.{Global}
use Rattle.std.proofs.lemmas.List.{map_push}
use Rattle.indexmap.specs.IndexSet.{insert_key}
use Rattle.sm_plan_text.specs.Values.{number_named}
use Rattle.sm_plan_text.specs.Tables.{is_among}
use Rattle.sm_placement.proofs.ConfigLemmas.{position_map as position-map}

-- a name stands among the bytes of keys where it stands among the keys
pub position_bytes : (name : List ℕ) (keys : List (String Global)) → position (bytes_eq name) (map string_bytes keys) ≡ position (λ key. bytes_eq name (string_bytes key)) keys
position_bytes name keys = position-map string_bytes (bytes_eq name) keys

below_length : {X : Type 0} (p : X → Bool) (xs : List X) → nat_lt (position_or_len p xs) (length xs) ≡ list_any p xs
below_length p [] = refl
below_length p (x ∷ xs) = elim (p x) as (λ b. nat_lt (cond (not b) (1 + position_or_len p xs) 0) (suc (length xs)) ≡ (b || list_any p xs)) [
  | true ↦ grind (arith, tests)
  | false ↦ grind (arith, tests, below_length p xs)
]

some_if : {X : Type 0} (b : Bool) (x : X) → is_some (cond b (Some x) None) ≡ b
some_if true x = refl
some_if false x = refl

-- a name has a number where it is among the names
pub found_among : (names : List (List ℕ)) (name : List ℕ) → is_some (number_named names name) ≡ is_among names name
found_among names name = some_if (nat_lt (position_or_len (bytes_eq name) names) (length names)) (position_or_len (bytes_eq name) names) ∙ below_length (bytes_eq name) names

any_bytes : (keys : List (String Global)) (name : String Global) → list_any (string_eq name) keys ≡ list_any (bytes_eq (string_bytes name)) (map string_bytes keys)
any_bytes [] name = refl
any_bytes (key ∷ keys) name = ap (λ b. string_eq name key || b) (any_bytes keys name)

-- the bytes of a set with one name more are the set's bytes with that name's
pub insert_bytes : (keys : List (String Global)) (name : String Global) → map string_bytes (insert_key string_eq keys name) ≡ insert_key bytes_eq (map string_bytes keys) (string_bytes name)
insert_bytes keys name =
    rw (← any_bytes keys name)
    (elim (list_any (string_eq name) keys) as (λ b. map string_bytes (cond b keys (keys ++ name ∷ [])) ≡ cond b (map string_bytes keys) (map string_bytes keys ++ string_bytes name ∷ [])) [
      | true ↦ refl
      | false ↦ map_push string_bytes keys name
    ])
