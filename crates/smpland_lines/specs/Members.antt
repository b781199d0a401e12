-- The members of replies, as the tokens of their JSON.
use Rattle.std.specs.Prelude.{ℕ, List, [], ◌∷◌, ◌++◌, Option, Some, None, codes, decimal, slice_index_or}
use Rattle.json.specs.Token.{Token, begin_object, end_object, begin_array, end_array, key, string, number, null}
use Rattle.sm_placement.specs.Setup.{Setup, no_server, no_shard}
use Rattle.smpland_lines.specs.declared.command.Id.{Id}
use Rattle.smpland_lines.specs.declared.command.Id.TheVariants.{Number, Text}

-- a member that is a text
abbrev pub text_member : List ℕ → List ℕ → List Token
text_member name text = key name ∷ string text ∷ []

-- a member that is a whole number
abbrev pub number_member : List ℕ → ℕ → List Token
number_member name n = key name ∷ number (decimal n) ∷ []

-- a member that is a name, or null for none
abbrev pub name_member : List ℕ → Option (List ℕ) → List Token
name_member name (Some text) = key name ∷ string text ∷ []
name_member name None = key name ∷ null ∷ []

-- a member that is a list of these items
abbrev pub list_member : List ℕ → List Token → List Token
list_member name items = key name ∷ begin_array ∷ (items ++ end_array ∷ [])

-- an object of these members
abbrev pub object : List Token → List Token
object members = begin_object ∷ (members ++ end_object ∷ [])

-- an object of these members, as a member
abbrev pub object_member : List ℕ → List Token → List Token
object_member name members = key name ∷ object members

-- the name of a server, empty if there is none
abbrev pub server_text : Setup → ℕ → List ℕ
server_text setup v = (slice_index_or setup.servers v no_server).name

-- the name of a shard, empty if there is none
abbrev pub shard_text : Setup → ℕ → List ℕ
shard_text setup s = (slice_index_or setup.shards s no_shard).name

-- the id of a line, if it has one
abbrev pub id_members : Option Id → List Token
id_members (Some (Text text)) = text_member (codes "id") text.now
id_members (Some (Number n)) = number_member (codes "id") n
id_members None = []
