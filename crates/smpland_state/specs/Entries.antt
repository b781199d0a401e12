-- Entries of a map, by the bytes of their keys.
use Rattle.std.specs.Prelude.{ℕ, List, map, string_bytes, String}

-- each name by its bytes
abbrev pub by_bytes : {V A : Type 0} → List (String A × V) → List (List ℕ × V)
by_bytes entries = map (λ e. (string_bytes e.0, e.1)) entries
