-- The command line: which words name a command, and what is said of other words.
-- `TellsKind` is internal: you need not read it for the public contracts.
use Rattle.std.specs.Prelude.{◌≡◌, ◌≢◌, ◌⊎◌, ℕ, true, List, [], ◌∷◌, Option, Some, None, if◌then◌else◌, codes}
use Rattle.std.specs.Prelude.{option_map}
use Rattle.std.specs.Str.{bytes_eq}
use Rattle.clap.specs.Words.{App, new_app, with_subcommand}
use Rattle.clap.specs.Simple.{on_top}
use Rattle.clap.specs.Kinds.{Kinds, IsAmong}
use Rattle.clap.specs.declared.error.kind.ErrorKind.{ErrorKind}
use Rattle.clap.specs.declared.error.kind.ErrorKind.TheVariants as kind
use Rattle.sm_report.specs.declared.command.Command.{Command}
use Rattle.sm_report.specs.declared.command.Command.TheVariants.{Calls, Check, Play, Plan}
use Rattle.sm_command_line.specs.declared.words.Word.{Word}
use Rattle.sm_command_line.specs.declared.words.Word.TheVariants.{Report, Run}
use Rattle.sm_command_line.specs.declared.words.LineFault.{LineFault}
use Rattle.sm_command_line.specs.declared.words.LineFault.TheVariants.{NoMemory, Help, Bad}

-- the command with this name
abbrev pub command_named : List ℕ → Option Command
command_named name =
    if bytes_eq name (codes "calls") then Some Calls
    else if bytes_eq name (codes "check") then Some Check
    else if bytes_eq name (codes "play") then Some Play
    else if bytes_eq name (codes "plan") then Some Plan
    else None

-- what a word asks for: a run, or a report
abbrev pub word_named : List ℕ → Option Word
word_named word = if bytes_eq word (codes "run") then Some Run else option_map (λ c. Report c) (command_named word)

-- what the words ask for: one word alone names a command
abbrev pub asked_for : List (List ℕ) → Option Word
asked_for (word ∷ []) = word_named word
asked_for _ = None

-- the program with no word yet, as clap reads it
abbrev pub wordless : App
wordless = on_top (λ s. record s { no_binary_name = true; subcommand_required = true }) (new_app (codes "smplan"))

-- the words for calls and for checks, as clap reads them
abbrev pub first_words : App
first_words = with_subcommand (with_subcommand wordless (new_app (codes "calls")).top) (new_app (codes "check")).top

-- the program's command line, as clap reads it
abbrev pub program : App
program = with_subcommand (with_subcommand (with_subcommand first_words (new_app (codes "play")).top) (new_app (codes "plan")).top) (new_app (codes "run")).top

-- what is said of an error of this kind: help if it was asked for, unless memory ran out
abbrev pub TellsKind : LineFault → ErrorKind → Type 0
TellsKind NoMemory k = Unit {0}
TellsKind (Help text) k = k ≡ kind.DisplayHelp
TellsKind (Bad text) k = (k ≢ kind.DisplayHelp) × (k ≢ kind.OutOfMemory)

-- what is said of words at which these kinds of error may come, if there may be none at words that name no command
abbrev pub Tells : LineFault → Kinds → Type 0
Tells NoMemory kinds = Unit {0}
Tells (Help text) kinds = IsAmong kind.DisplayHelp kinds
Tells (Bad text) kinds = (kinds ≡ []) ⊎ ((k : ErrorKind) × (k ≢ kind.DisplayHelp) × IsAmong k kinds)
