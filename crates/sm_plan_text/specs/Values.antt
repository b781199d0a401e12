-- The values of a JSON object's members. A member that is missing or not in its form says nothing, and stands for 0,
-- false, or what is empty, or if it is missing for a default. A document is refused in which one is not in its form, or
-- one is missing that may not be.
use Rattle.std.specs.Prelude.{ℕ, Bool, true, false, List, [], ◌∷◌, codes, fold, map, Option, Some, None, nat_le, nat_lt}
use Rattle.std.specs.Prelude.{option_and_then, option_map, unwrap_or, position, if◌then◌else◌}
use Rattle.std.specs.Str.{bytes_eq}
use Rattle.indexmap.specs.IndexSet.{insert_key}
use Rattle.serde_json.specs.Data.{Data, Items, no_items, item}
use Rattle.serde_json.specs.Find.{get, as_bool, as_str, as_array, as_number, as_u64}
use Rattle.sm_server.specs.declared.call.Role.{Role}
use Rattle.sm_server.specs.declared.call.Role.TheVariants.{Primary, Secondary}
use Rattle.sm_plan_text.specs.declared.member.Member.{Member}
use Rattle.sm_plan_text.specs.declared.member.Member.TheVariants as members
use Rattle.sm_plan_text.specs.Members.{text_of}
use Rattle.sm_plan_code.specs.declared.limits.TheConstants.{MOST_NUMBER}

-- the value of a member
abbrev pub found : Member → Data → Option Data
found member d = get (text_of member) d

-- the text of a member, if it has one
abbrev pub text_found : Member → Data → Option (List ℕ)
text_found member d = option_and_then as_str (found member d)

-- what a member says that is to be a text
abbrev pub text_in : Member → Data → List ℕ
text_in member d = unwrap_or (text_found member d) []

-- what a member says that is to be true or false
abbrev pub flag_in : Member → Data → Bool
flag_in member d = unwrap_or (option_and_then as_bool (found member d)) false

-- a number that is within its limit, and 0 for another one
abbrev pub up_to : ℕ → ℕ → ℕ
up_to limit n = if nat_le n limit then n else 0

-- a number that is below a count, and 0 for another one
abbrev pub under : ℕ → ℕ → ℕ
under count n = if nat_lt n count then n else 0

-- the whole number that a value is
abbrev pub whole_number_of : Data → Option ℕ
whole_number_of d = option_and_then as_u64 (as_number d)

-- what a value says that is to be a whole number within its limit
abbrev pub limited : ℕ → Data → ℕ
limited limit d = up_to limit (unwrap_or (whole_number_of d) 0)

-- what a member says that is to be a whole number within its limit
abbrev pub number_in : Member → ℕ → Data → ℕ
number_in member limit d = unwrap_or (option_map (limited limit) (found member d)) 0

-- the same of a member that may be missing: it then says the default
abbrev pub number_or : ℕ → Member → ℕ → Data → ℕ
number_or default member limit d = unwrap_or (option_map (limited limit) (found member d)) default

-- the entries of a list, front to back
abbrev pub entries : Items → List Data
entries no_items = []
entries (item d ds) = d ∷ entries ds

-- the entries of a value that is a list, and none of another one
abbrev pub items_of : Data → List Data
items_of d = unwrap_or (option_map entries (as_array d)) []

-- the entries of a list that may be missing
abbrev pub list_in : Member → Data → Option (List Data)
list_in member d = option_map items_of (found member d)

-- the entries of what was found, if that is a list
abbrev pub entries_found : Option Data → List Data
entries_found found = unwrap_or (option_map items_of found) []

-- the entries of the list in a member
abbrev pub entries_in : Member → Data → List Data
entries_in member d = entries_found (found member d)

-- the names of these objects, each once
abbrev pub names_in : List Data → List (List ℕ)
names_in ds = fold (insert_key bytes_eq) [] (map (text_in members.Name) ds)

-- the number of the object that a text names
abbrev pub number_named : List (List ℕ) → List ℕ → Option ℕ
number_named names text = position (λ name. bytes_eq text name) names

-- the number of an object as an id, which has 32 bits
abbrev pub id_of : ℕ → ℕ
id_of n = up_to MOST_NUMBER n

-- the whole number that is below a count, as an id
abbrev pub number_below : ℕ → Member → Data → ℕ
number_below count member d = id_of (under count (unwrap_or (option_and_then whole_number_of (found member d)) 0))

-- the id of the object that a value names
abbrev pub id_named : List (List ℕ) → Data → Option ℕ
id_named names d = option_map id_of (option_and_then (number_named names) (as_str d))

-- the id of the object that a member names
abbrev pub id_in : List (List ℕ) → Member → Data → ℕ
id_in names member d = unwrap_or (option_and_then (id_named names) (found member d)) 0

-- the ids of the objects that the entries of a list name
abbrev pub ids_in : List (List ℕ) → Member → Data → List ℕ
ids_in names member d = map (λ entry. unwrap_or (id_named names entry) 0) (entries_in member d)

-- the role that a word says
abbrev pub role_named : List ℕ → Option Role
role_named word = if bytes_eq word (codes "primary") then Some Primary else if bytes_eq word (codes "secondary") then Some Secondary else None

-- the role that a member says; Secondary if it says none
abbrev pub role_in : Member → Data → Role
role_in member d = unwrap_or (option_and_then role_named (text_found member d)) Secondary

-- whether a word says that a call is lost after it was made, or before
abbrev pub after_named : List ℕ → Option Bool
after_named word = if bytes_eq word (codes "before") then Some false else if bytes_eq word (codes "after") then Some true else None

-- whether a member says that a call is lost after it was made
abbrev pub after_in : Member → Data → Bool
after_in member d = unwrap_or (option_and_then after_named (text_found member d)) false
