-- The command line: which words name a journal, and what is said of other words.
use Rattle.std.specs.Prelude.{◌≡◌, ◌≢◌, ◌⊎◌, true, List, [], ◌∷◌, Option, Some, IfSome, codes}
use Rattle.clap.specs.Words.{App, Kinds, IsAmong, Rule, Text, first_of, matches_of, new_app, new_rule, with_rule}
use Rattle.clap.specs.Simple.{on_top}
use Rattle.clap.specs.declared.builder.action.ArgAction.TheVariants.{Set}
use Rattle.clap.specs.declared.error.kind.ErrorKind.{ErrorKind}
use Rattle.clap.specs.declared.error.kind.ErrorKind.TheVariants as kind
use Rattle.smpland.specs.declared.command_line.Asked.{Asked}
use Rattle.smpland.specs.declared.command_line.Asked.TheVariants.{Input, Journal}
use Rattle.smpland.specs.declared.command_line.LineFault.{LineFault}
use Rattle.smpland.specs.declared.command_line.LineFault.TheVariants.{NoMemory, Told, Bad}

-- the program with no word yet, as clap reads it
abbrev pub bare_command : App
bare_command = on_top (λ s. record s { no_binary_name = true; has_version = true }) (new_app (codes "smpland"))

-- the word that names the journal, as clap reads it
abbrev pub journal_word : Rule
journal_word = record (new_rule (codes "JOURNAL")) { required = true; action = Some Set }

-- the program's command line, as clap reads it
abbrev pub own_command : App
own_command = with_rule bare_command journal_word

-- the journal that words name, as clap finds it
abbrev pub journal_in : List Text → Option Text
journal_in words = first_of (codes "JOURNAL") (matches_of own_command words)

-- what is asked for by this name: by a dash, or by none, the input
abbrev pub Names : Asked → Option Text → Type 0
Names Input name = IfSome name (λ text. text ≡ codes "-")
Names (Journal path) name = (name ≡ Some path.now) × (path.now ≢ codes "-")

-- a word is a dash, or begins with none
abbrev pub IsName : Text → Type 0
IsName [] = ⊥
IsName (b ∷ rest) = (b ≢ 45) ⊎ (rest ≡ [])

-- what is said of an error of this kind: help or the version if it was asked for, unless memory ran out
abbrev pub TellsErrorKind : LineFault → ErrorKind → Type 0
TellsErrorKind NoMemory k = Unit {0}
TellsErrorKind (Told text) k = (k ≡ kind.DisplayHelp) ⊎ (k ≡ kind.DisplayVersion)
TellsErrorKind (Bad text) k = (k ≢ kind.DisplayHelp) × (k ≢ kind.DisplayVersion) × (k ≢ kind.OutOfMemory)

-- what is said of words at which these kinds of error may come
abbrev pub TellsWords : LineFault → Kinds → Type 0
TellsWords NoMemory kinds = Unit {0}
TellsWords (Told text) kinds = IsAmong kind.DisplayHelp kinds ⊎ IsAmong kind.DisplayVersion kinds
TellsWords (Bad text) kinds = (k : ErrorKind) × TellsErrorKind (Bad text) k × IsAmong k kinds
