-- Tables of members: what each member of an object is to be. The faults of an object against its table are found in the
-- order of the table.
use Rattle.std.specs.Prelude.{ℕ, Bool, true, false, ◌&&◌, ◌||◌, ◌==◌, not, List, [], ◌∷◌, ◌++◌, length, map, Option}
use Rattle.std.specs.Prelude.{Some, None, is_some, nat_le, nat_lt, option_and_then, option_map, if◌then◌else◌}
use Rattle.std.specs.List.{list_any, flat_map}
use Rattle.std.specs.Str.{bytes_eq}
use Rattle.serde_json.specs.Data.{Data, Num, Items, Members, no_members, member}
use Rattle.serde_json.specs.Find.{as_bool, as_str, as_array, as_object, as_number, as_u64, as_null}
use Rattle.sm_placement.specs.Names.{is_name}
use Rattle.sm_plan_text.specs.declared.fault.TextFault.{TextFault}
use Rattle.sm_plan_text.specs.declared.fault.TextFault.TheVariants.{Shape, UnknownName, TooMany, Number}
use Rattle.sm_plan_text.specs.declared.member.Member.{Member}
use Rattle.sm_plan_text.specs.Members.{text_of}
use Rattle.sm_plan_text.specs.Values.{found, text_found, entries, items_of, number_named, role_named, after_named}

-- what a member's value is to be
pub data Want : Type 0 where
  -- a whole number from 0 to a limit
  whole : ℕ → Want
  -- true or false
  flag : Want
  -- a text that passes a test
  text : (List ℕ → Bool) → Want
  -- a text that names one of these
  known : List (List ℕ) → Want
  -- such a text, or null
  known_or_null : List (List ℕ) → Want
  -- a list of at most this many entries
  list : ℕ → Want
  -- a list of at most this many texts, each of which names one of these
  known_list : ℕ → List (List ℕ) → Want
  -- a list of at most this many objects, no two of which have the same texts in these members
  keyed : ℕ → List Member → Want
  -- a whole number below a count
  below : ℕ → Want
  -- the format of a plan: 1 or 2
  format : Want
  -- an object
  object : Want

-- the text is one of these names
abbrev pub is_among : List (List ℕ) → List ℕ → Bool
is_among names s = list_any (bytes_eq s) names

-- a name of a server, shard or region
abbrev pub name : Want
name = text is_name

-- a name that isn't taken yet
abbrev pub new_name : List (List ℕ) → Want
new_name taken = text (λ s. is_name s && not (is_among taken s))

-- a replica's role
abbrev pub role : Want
role = text (λ s. is_some (role_named s))

-- when a call is lost
abbrev pub when : Want
when = text (λ s. is_some (after_named s))

-- a row of a table: a member, whether it may be missing, and what it is to be
pub record Row : Type 0 where
  pub member : Member
  pub optional : Bool
  pub want : Want

-- a member that may not be missing
abbrev pub one : Member → Want → Row
one m want = record { member = m; optional = false; want = want }

-- a member that may be missing
abbrev pub maybe : Member → Want → Row
maybe m want = record { member = m; optional = true; want = want }

-- the fault of a number that is not a whole one from 0 to a limit
abbrev pub limit_fault : Member → ℕ → Option ℕ → List TextFault
limit_fault m limit None = Number m ∷ []
limit_fault m limit (Some n) = if nat_le n limit then [] else Number m ∷ []

-- the fault of a value that is to be a whole number from 0 to a limit
abbrev pub number_fault : Member → ℕ → Option Num → List TextFault
number_fault m limit None = Shape m ∷ []
number_fault m limit (Some n) = limit_fault m limit (as_u64 n)

-- the fault of a value that is to be true or false
abbrev pub flag_fault : Member → Option Bool → List TextFault
flag_fault m None = Shape m ∷ []
flag_fault m (Some b) = []

-- the fault of a value that is to be a text that passes a test
abbrev pub text_fault : Member → (List ℕ → Bool) → Option (List ℕ) → List TextFault
text_fault m passes None = Shape m ∷ []
text_fault m passes (Some s) = if passes s then [] else Shape m ∷ []

-- the fault of a value that is to be a text that names one of these
abbrev pub name_fault : Member → List (List ℕ) → Option (List ℕ) → List TextFault
name_fault m names None = Shape m ∷ []
name_fault m names (Some s) = if is_some (number_named names s) then [] else UnknownName m ∷ []

-- the fault of a list of more entries than it may have
abbrev pub count_faults : Member → ℕ → ℕ → List TextFault
count_faults m limit count = if nat_le count limit then [] else TooMany m ∷ []

-- the fault of a value that is to be a list of at most this many entries
abbrev pub list_fault : Member → ℕ → Option Items → List TextFault
list_fault m limit None = Shape m ∷ []
list_fault m limit (Some ds) = count_faults m limit (length (entries ds))

-- the faults of an entry of a list of names: they are those of the member that has the list
abbrev pub entry_faults : Member → List (List ℕ) → Data → List TextFault
entry_faults m names d = name_fault m names (as_str d)

-- the texts of these members, where each of them is a text
abbrev pub texts_found : List Member → Data → Option (List (List ℕ))
texts_found [] d = Some []
texts_found (m ∷ ms) d = option_and_then (λ text. option_map (λ texts. text ∷ texts) (texts_found ms d)) (text_found m d)

-- the texts are the same, and as many
abbrev pub texts_eq : List (List ℕ) → List (List ℕ) → Bool
texts_eq [] [] = true
texts_eq (s ∷ ss) (t ∷ ts) = bytes_eq s t && texts_eq ss ts
texts_eq _ _ = false

-- both keys are there, and they are the same
abbrev pub is_same_key : Option (List (List ℕ)) → Option (List (List ℕ)) → Bool
is_same_key (Some s) (Some t) = texts_eq s t
is_same_key _ _ = false

-- two of these have the same key; one that lacks a part of its key has none
abbrev pub has_double_key : List (Option (List (List ℕ))) → Bool
has_double_key [] = false
has_double_key (key ∷ keys) = list_any (is_same_key key) keys || has_double_key keys

-- the fault of a list of objects of which two have the same key
abbrev pub double_faults : Member → List Member → List Data → List TextFault
double_faults m key ds = if has_double_key (map (texts_found key) ds) then Shape m ∷ [] else []

-- the fault of a number that is not a whole one from 0 on, or that is not below a count and so names nothing
abbrev pub below_fault : Member → ℕ → Option ℕ → List TextFault
below_fault m count None = Number m ∷ []
below_fault m count (Some n) = if nat_lt n count then [] else UnknownName m ∷ []

-- the fault of a value that is to be a whole number below a count
abbrev pub index_fault : Member → ℕ → Option Num → List TextFault
index_fault m count None = Shape m ∷ []
index_fault m count (Some n) = below_fault m count (as_u64 n)

-- the number is there, and is this one
abbrev pub is_number : ℕ → Option ℕ → Bool
is_number n None = false
is_number n (Some k) = k == n

-- the fault of a value that is to be the format of a plan
abbrev pub format_fault : Member → Option Num → List TextFault
format_fault m None = Shape m ∷ []
format_fault m (Some n) = if is_number 1 (as_u64 n) || is_number 2 (as_u64 n) then [] else Number m ∷ []

-- the faults of a member's value
abbrev pub value_faults : Member → Want → Data → List TextFault
value_faults m (whole limit) d = number_fault m limit (as_number d)
value_faults m flag d = flag_fault m (as_bool d)
value_faults m (text passes) d = text_fault m passes (as_str d)
value_faults m (known names) d = name_fault m names (as_str d)
value_faults m (known_or_null names) d = if is_some (as_null d) then [] else name_fault m names (as_str d)
value_faults m (list limit) d = list_fault m limit (as_array d)
value_faults m (known_list limit names) d = list_fault m limit (as_array d)
    ++ flat_map (entry_faults m names) (items_of d)
value_faults m (keyed limit key) d = list_fault m limit (as_array d) ++ double_faults m key (items_of d)
value_faults m (below count) d = index_fault m count (as_number d)
value_faults m format d = format_fault m (as_number d)
value_faults m object d = if is_some (as_object d) then [] else Shape m ∷ []

-- the faults of a member's value, or of a member that is missing and may not be
abbrev pub found_faults : Row → Option Data → List TextFault
found_faults row None = if row.optional then [] else Shape row.member ∷ []
found_faults row (Some d) = value_faults row.member row.want d

-- the faults of one member of an object
abbrev pub row_faults : Data → Row → List TextFault
row_faults d row = found_faults row (found row.member d)

-- the keys of an object
abbrev pub keys_of : Members → List (List ℕ)
keys_of no_members = []
keys_of (member key d rest) = key ∷ keys_of rest

-- an object has a member that is none of these
abbrev pub has_unknown_member : List (List ℕ) → Members → Bool
has_unknown_member names members = list_any (λ key. not (is_among names key)) (keys_of members)

-- the fault of what stands in this member, which is to be an object without unknown members
abbrev unknown_fault : Member → List (List ℕ) → Option Members → List TextFault
unknown_fault parent names None = Shape parent ∷ []
unknown_fault parent names (Some members) = if has_unknown_member names members then Shape parent ∷ [] else []

-- the fault of what stands in this member if it is no object, or has a member that is none of these
abbrev pub object_faults : Member → List (List ℕ) → Data → List TextFault
object_faults parent names d = unknown_fault parent names (as_object d)

-- the faults of the object itself that stands in this member, where this is its table
abbrev pub own_faults : Member → List Row → Data → List TextFault
own_faults parent table d = object_faults parent (map (λ row. text_of row.member) table) d
    ++ flat_map (row_faults d) table

-- the faults of what stands in this member if its word says none of the tables: it may be no object, and the word has a
-- fault
abbrev pub wordless_faults : Member → Member → Data → List TextFault
wordless_faults parent word d = (if is_some (as_object d) then [] else Shape parent ∷ []) ++ Shape word ∷ []

-- the faults of the object itself by its word, or of one whose word says none of the tables
abbrev pub by_word : {W : Type 0} → Member → Member → (W → List Row) → Data → Option W → List TextFault
by_word parent word table d None = wordless_faults parent word d
by_word parent word table d (Some w) = object_faults parent (text_of word ∷ map (λ row. text_of row.member) (table w)) d ++ flat_map (row_faults d) (table w)

-- the faults of the object itself, if a word of it says which table it has
abbrev pub worded_faults : {W : Type 0} → Member → Member → (List ℕ → Option W) → (W → List Row) → Data → List TextFault
worded_faults parent word named table d = by_word parent word table d (option_and_then named (text_found word d))

-- The faults of the entries of a list, front to back. Those of an entry may depend on the entries before it.
abbrev pub walked : (List Data → Data → List TextFault) → List Data → List Data → List TextFault
walked faults before [] = []
walked faults before (d ∷ ds) = faults before d ++ walked faults (before ++ d ∷ []) ds
