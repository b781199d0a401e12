-- The text of a JSON object, as far as a journal has to know it: its braces close, and braces within strings do not count.
-- `quoting_after`, `depth_after` and `is_last` are steps of `closed_length`, to which public contracts come.
use Rattle.std.specs.Prelude.{◌≡◌, ◌≢◌, ℕ, ◌+◌, ◌-◌, ◌==◌, ◌&&◌, Bool, false, if◌then◌else◌, List, [], ◌∷◌, length}
use Rattle.std.specs.Prelude.{drop, Option, Some, None, option_map, All}
use Rattle.std.specs.List.{flat_map}
use Rattle.journal_lines.specs.declared.objects.Quoting.{Quoting}
use Rattle.journal_lines.specs.declared.objects.Quoting.TheVariants.{Outside, Inside, Escaped}

-- where the byte behind b stands: `"` begins and ends a string, and `\` takes its meaning from the byte behind it
abbrev pub quoting_after : Quoting → ℕ → Quoting
quoting_after Outside b = if b == 34 then Inside else Outside
quoting_after Inside b = if b == 92 then Escaped else if b == 34 then Outside else Inside
quoting_after Escaped b = Inside

-- how many braces are open behind b
abbrev pub depth_after : Quoting → ℕ → ℕ → ℕ
depth_after Outside depth b = if b == 123 then depth + 1 else if b == 125 then depth - 1 else depth
depth_after Inside depth b = depth
depth_after Escaped depth b = depth

-- b closes the only brace that is open
abbrev pub is_last : Quoting → ℕ → ℕ → Bool
is_last Outside depth b = b == 125 && depth == 1
is_last Inside depth b = false
is_last Escaped depth b = false

-- how many bytes there are up to the one that closes the last open brace; none if they end before it, or a line does
abbrev pub closed_length : Quoting → ℕ → List ℕ → Option ℕ
closed_length quoting depth [] = None
closed_length quoting depth (b ∷ rest) =
    if b == 10 then None
    else if is_last quoting depth b then Some 1
    else option_map (λ n. n + 1) (closed_length (quoting_after quoting b) (depth_after quoting depth b) rest)

-- the length of the object at the front of the bytes
abbrev pub object_length : List ℕ → Option ℕ
object_length [] = None
object_length (b ∷ rest) = if b == 123 then option_map (λ n. n + 1) (closed_length Outside 1 rest) else None

-- the text is one object, on one line
abbrev pub IsObject : List ℕ → Type 0
IsObject text = object_length text ≡ Some (length text)

-- these texts, each behind a comma
abbrev pub behind_commas : List (List ℕ) → List ℕ
behind_commas texts = flat_map (λ text. 44 ∷ text) texts

-- these texts with a comma between each two, as in a JSON array
abbrev pub listed : List (List ℕ) → List ℕ
listed texts = drop 1 (behind_commas texts)

-- one command or more, each the text of an object: what one append brings
pub record IsBatch (commands : List (List ℕ)) : Type 0 where
  pub some : commands ≢ []
  pub objects : All IsObject commands
