-- The value that a name stands for, by the entries of the map.
use Rattle.std.proofs.Common.{◌≡◌, ℕ, Bool, cond, Option, Some, None, List, [], ◌∷◌, ◌++◌, string_bytes, String, refl, ap}
use Rattle.std.specs.Map.{lookup}
use Rattle.std.specs.Option.{option_or}
use Rattle.smpland_state.specs.Entries.{by_bytes}

-- a name is looked up by its bytes
pub lookup_named : {V A : Type 0} (test : List ℕ → Bool) (entries : List (String A × V)) → lookup test (by_bytes entries) ≡ lookup (λ k. test (string_bytes k)) entries
lookup_named test [] = refl
lookup_named test (e ∷ es) = ap (λ o. cond (test (string_bytes e.0)) (Some e.1) o) (lookup_named test es)

-- a name that comes stands behind the others
pub named_more : {V A : Type 0} (entries : List (String A × V)) (key : String A) (value : V) → by_bytes (entries ++ (key, value) ∷ []) ≡ by_bytes entries ++ (string_bytes key, value) ∷ []
named_more [] key value = refl
named_more (e ∷ es) key value = ap (λ rest. (string_bytes e.0, e.1) ∷ rest) (named_more es key value)

-- of two options, of which the first that is there counts, none is there
pub first_none : {V : Type 0} (a b : Option V) → option_or a b ≡ None → a ≡ None
first_none None b e = refl
first_none (Some x) b e = e
