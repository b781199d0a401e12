-- Refusals: a kind under a number, what is refused, and the same in words.
use Rattle.std.specs.Prelude.{ℕ, List, [], ◌∷◌, ◌++◌, codes, decimal}
use Rattle.std.specs.List.{flat_map}
use Rattle.sm_placement.specs.Setup.{Setup}
use Rattle.sm_refusals.specs.declared.field.Field.{Field}
use Rattle.sm_refusals.specs.declared.field.Field.TheVariants as field
use Rattle.sm_refusals.specs.declared.field.Fields.{Fields}
use Rattle.sm_refusals.specs.declared.field.Fields.TheVariants as fields
use Rattle.sm_refusals.specs.declared.refusal.RefusalText.{RefusalText}
use Rattle.sm_refusals.specs.Names.{server_name, shard_name}

-- what a refusal names beside its kind, each behind a label: the map's owner, a name, a number, numbers, or a word
pub data FieldModel : Type 0 where
  MapOwner : List ℕ → FieldModel
  Name : List ℕ → List ℕ → FieldModel
  Number : List ℕ → ℕ → FieldModel
  Numbers : List ℕ → List ℕ → FieldModel
  Word : List ℕ → List ℕ → FieldModel

-- a server by its name
abbrev pub server_field : Setup → ℕ → FieldModel
server_field setup v = Name (codes "server") (server_name setup v)

-- a shard by its name
abbrev pub shard_field : Setup → ℕ → FieldModel
shard_field setup s = Name (codes "shard") (shard_name setup s)

-- a refusal: its number and kind, the words in front of them, and what is refused
pub record RefusalModel : Type 0 where
  pub front : List ℕ
  pub number : ℕ
  pub kind : List ℕ
  pub fields : List FieldModel

-- ---- in words

-- a number behind a space
abbrev pub spaced_number : ℕ → List ℕ
spaced_number n = codes " " ++ decimal n

-- what is refused, in words
abbrev pub field_words : FieldModel → List ℕ
field_words (MapOwner _) = codes " map"
field_words (Name label name) = codes " " ++ label ++ codes " " ++ name
field_words (Number label n) = codes " " ++ label ++ spaced_number n
field_words (Numbers label ns) = codes " " ++ label ++ flat_map spaced_number ns
field_words (Word label word) = codes " " ++ word

-- the front, the number and the kind
abbrev pub refusal_front : RefusalModel → List ℕ
refusal_front r = r.front ++ decimal r.number ++ codes " " ++ r.kind

-- all of it in words
abbrev pub refusal_words : RefusalModel → List ℕ
refusal_words r = refusal_front r ++ flat_map field_words r.fields

-- ---- as the code has them

-- a field
abbrev pub field_of : Field → FieldModel
field_of (field.MapOwner label) = MapOwner label.now
field_of (field.Name label name) = Name label.now name.now
field_of (field.Number label n) = Number label.now n
field_of (field.Numbers label ns) = Numbers label.now ns.now
field_of (field.Word label word) = Word label.now word.now

-- the fields, in their order
abbrev pub fields_of : Fields → List FieldModel
fields_of fields.None = []
fields_of (fields.One a) = field_of a ∷ []
fields_of (fields.Two a b) = field_of a ∷ field_of b ∷ []
fields_of (fields.Three a b c) = field_of a ∷ field_of b ∷ field_of c ∷ []

-- a refusal
abbrev pub refusal_model : RefusalText → RefusalModel
refusal_model r = record { front = r.front.now; number = r.number; kind = r.kind.now; fields = fields_of r.fields }
