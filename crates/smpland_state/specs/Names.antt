-- Names with what each stands for, of the present epoch and of the one before.
use Rattle.std.specs.Prelude.{ℕ, Option, List, [], ◌∷◌, ◌++◌, bytes_eq}
use Rattle.std.specs.Map.{lookup}
use Rattle.std.specs.Option.{option_or}

-- The values of the names of two epochs: each by its bytes, in the order in which they came.
pub record NamesModel (V : Type 0) : Type 0 where
  pub present : List (List ℕ × V)
  pub before : List (List ℕ × V)

-- what a name stands for: in the present epoch, or otherwise in the one before
abbrev pub value_of : {V : Type 0} → NamesModel V → List ℕ → Option V
value_of names name = option_or (lookup (bytes_eq name) names.present) (lookup (bytes_eq name) names.before)

-- the names with one more of the present epoch
abbrev pub with_name : {V : Type 0} → NamesModel V → List ℕ → V → NamesModel V
with_name names name value = record names { present = names.present ++ (name, value) ∷ [] }

-- no names
abbrev pub no_names : {V : Type 0} → NamesModel V
no_names = record { present = []; before = [] }

-- the names in the next epoch, which has none yet
abbrev pub in_next_epoch : {V : Type 0} → NamesModel V → NamesModel V
in_next_epoch names = record { present = []; before = names.present }
