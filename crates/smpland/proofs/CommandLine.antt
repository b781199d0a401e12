-- What clap makes of the program's words.
use Rattle.std.proofs.Common.{◌≡◌, ◌≢◌, ◌⊎◌, ◌∙◌, ◌==◌, ◌&&◌, ◌||◌, ℕ, true, false, Bool, cond, List, [], ◌∷◌, Option, Some, None, is_some, codes, refl, ap, ap₂, subst, sym, inl, inr}
use Rattle.std.specs.List.{list_all}
use Rattle.std.specs.Option.{option_map_or}
use Rattle.std.specs.Prelude.{option_and_then}
use Rattle.std.specs.Str.{bytes_eq}
use Rattle.std.proofs.lemmas.Bool.{eqb-true}
use Rattle.clap.specs.Words.{App, HasMatchesOf, IsAmong, Kinds, Text, fault_of, first_of, first_value, found_of, is_simple, is_simple_and_free, matches_of, takes}
use Rattle.clap.specs.Lexer.{long_of, long_of_rest, short_of_rest, strip_byte}
use Rattle.clap.specs.Simple.{built, entered, names_of}
use Rattle.clap.specs.Takes.{bundle_passes, default_passes, entered_passes, flag_word_passes, is_valid, settle_passes, step_passes, word_passes}
use Rattle.clap.specs.Walk.{Held, Step, Walk, after_step, finished, idle, long_or_other, nothing_held, short_or_plain, trailing, value, walk_from, word_met}
use Rattle.clap.specs.declared.error.kind.ErrorKind.{ErrorKind}
use Rattle.clap.specs.declared.error.kind.ErrorKind.TheVariants as kind
use Rattle.clap.specs.declared.parser.matches.ArgMatches.{ArgMatches}
use Rattle.clap.proofs.OnLiterals.{clap_on_literals}
use Rattle.clap.proofs.WalkLemmas.{first_value-rows}
use Rattle.smpland.specs.CommandLine.{IsName, TellsWords, TellsErrorKind, journal_in, own_command}
use Rattle.smpland.specs.declared.command_line.LineFault.{LineFault}
use Rattle.smpland.specs.declared.command_line.LineFault.TheVariants.{NoMemory, Told, Bad}

is_simple_program : is_simple own_command ≡ true
unfolding clap_on_literals
is_simple_program = refl

is_free_program : is_simple_and_free own_command ≡ true
unfolding clap_on_literals
is_free_program = refl

-- a dash alone is taken, and names the journal
takes_dash : takes own_command (codes "-" ∷ []) ≡ true
unfolding clap_on_literals
takes_dash = refl

dash_names : journal_in (codes "-" ∷ []) ≡ Some (codes "-")
unfolding clap_on_literals
dash_names = refl

-- the program as clap builds it, before its first word
abbrev ready : App
ready = built own_command

abbrev begun : Walk
begun = walk_from nothing_held

-- a word that begins with no dash goes to the journal
goes_on : (word : Text) → strip_byte 45 word ≡ None → bytes_eq word (45 ∷ 45 ∷ []) ≡ false
    → word_met ready.top.rules (names_of ready) false idle 1 word nothing_held ≡ (nothing_held, value)
unfolding clap_on_literals
goes_on word bare other =
    ap (λ (t : Bool). cond t (nothing_held, trailing 1) (long_or_other ready.top.rules idle word (long_of word) nothing_held)) other
    ∙ (ap (λ (o : Option Text). long_or_other ready.top.rules idle word (option_and_then long_of_rest (option_and_then (strip_byte 45) o)) nothing_held) bare
    ∙ ap (λ (o : Option Text). short_or_plain ready.top.rules idle word (option_and_then short_of_rest o) nothing_held) bare)

-- and none of it is a flag
is_plain : (word : Text) → strip_byte 45 word ≡ None → bytes_eq word (45 ∷ 45 ∷ []) ≡ false
    → word_passes ready.top (names_of ready) false idle word nothing_held ≡ true
unfolding clap_on_literals
is_plain word bare other =
    ap (λ (t : Bool). t || flag_word_passes ready.top.rules ready.top.args_override_self (long_of word) word nothing_held) other
    ∙ (ap (λ (o : Option Text). flag_word_passes ready.top.rules ready.top.args_override_self (option_and_then long_of_rest (option_and_then (strip_byte 45) o)) word nothing_held) bare
    ∙ ap (λ (o : Option Text). option_map_or (λ flags. bundle_passes ready.top.rules ready.top.args_override_self flags nothing_held) (option_and_then short_of_rest o) true) bare)

-- the walk behind a word that was met so
abbrev walk_by : Text → Held × Step → Walk
walk_by word met = after_step ready.top.rules word begun met.0 met.1

-- whether the program takes it
abbrev takes_by : Text → Held × Step → Bool → Bool
takes_by word met passes =
    entered_passes ready (walk_by word met).stopped
    && (((passes && step_passes ready.top 1 met.0 met.1) && true)
    && (settle_passes ready.top.rules ready.top.args_override_self (walk_by word met).held
    && (list_all default_passes ready.top.rules
    && is_valid ready.top (finished ready.top.rules (walk_by word met).held) (is_some (entered ready (walk_by word met).stopped)))))

takes_plain : (word : Text) → strip_byte 45 word ≡ None → bytes_eq word (45 ∷ 45 ∷ []) ≡ false → takes own_command (word ∷ []) ≡ true
unfolding clap_on_literals
takes_plain word bare other = ap₂ (takes_by word) (goes_on word bare other) (is_plain word bare other)

plain_names : (word : Text) → strip_byte 45 word ≡ None → bytes_eq word (45 ∷ 45 ∷ []) ≡ false → journal_in (word ∷ []) ≡ Some word
unfolding clap_on_literals
plain_names word bare other =
    ap (λ (met : Held × Step). first_of (codes "JOURNAL") (finished ready.top.rules (walk_by word met).held)) (goes_on word bare other)

-- a word that begins with no dash
no_dash : (b : ℕ) (rest : Text) → (b == 45) ≡ false → strip_byte 45 (b ∷ rest) ≡ None
no_dash b rest not = rw not refl

no_dashes : (b : ℕ) (rest : Text) → (b == 45) ≡ false → bytes_eq (b ∷ rest) (45 ∷ 45 ∷ []) ≡ false
no_dashes b rest not = rw not refl

-- one name is taken
pub one_is_taken : (name : Text) → IsName name → takes own_command (name ∷ []) ≡ true
one_is_taken [] is = absurd is
one_is_taken (b ∷ rest) is = go (b == 45) refl is
  where
    go : (t : Bool) → (b == 45) ≡ t → (b ≢ 45) ⊎ (rest ≡ []) → takes own_command ((b ∷ rest) ∷ []) ≡ true
    go false not any = takes_plain (b ∷ rest) (no_dash b rest not) (no_dashes b rest not)
    go true same (inl other) = absurd (other (eqb-true b 45 same))
    go true same (inr none) = subst (λ (x : Text). takes own_command (x ∷ []) ≡ true) (sym (ap (λ (x : ℕ). x ∷ rest) (eqb-true b 45 same) ∙ ap (λ (xs : Text). 45 ∷ xs) none)) takes_dash

-- and names the journal
pub one_names : (name : Text) → IsName name → journal_in (name ∷ []) ≡ Some name
one_names [] is = absurd is
one_names (b ∷ rest) is = go (b == 45) refl is
  where
    go : (t : Bool) → (b == 45) ≡ t → (b ≢ 45) ⊎ (rest ≡ []) → journal_in ((b ∷ rest) ∷ []) ≡ Some (b ∷ rest)
    go false not any = plain_names (b ∷ rest) (no_dash b rest not) (no_dashes b rest not)
    go true same (inl other) = absurd (other (eqb-true b 45 same))
    go true same (inr none) = subst (λ (x : Text). journal_in (x ∷ []) ≡ Some x) (sym (ap (λ (x : ℕ). x ∷ rest) (eqb-true b 45 same) ∙ ap (λ (xs : Text). 45 ∷ xs) none)) dash_names

-- what clap has found is the journal that the words name
pub found_is : (a : App) (words : List Text) (m : ArgMatches) → a ≡ own_command → HasMatchesOf a words m
    → first_value (found_of m) (codes "JOURNAL") ≡ journal_in words
found_is a words m is has =
    first_value-rows (found_of m) (codes "JOURNAL")
    ∙ ap (first_of (codes "JOURNAL")) ((has (ap is_simple is ∙ is_simple_program)).0 ∙ ap (λ (x : App). matches_of x words) is)

-- memory ran out, so nothing else is said
pub tells_no_memory : (fault : LineFault) (k : ErrorKind) → k ≡ kind.OutOfMemory → TellsErrorKind fault k → fault ≡ NoMemory
tells_no_memory NoMemory k is tells = refl
tells_no_memory (Told text) k is (inl help) = let bad : kind.OutOfMemory ≡ kind.DisplayHelp = cc in cc
tells_no_memory (Told text) k is (inr version) = let bad : kind.OutOfMemory ≡ kind.DisplayVersion = cc in cc
tells_no_memory (Bad text) k is tells = absurd (tells.2 is)

tells_among : (fault : LineFault) (k : ErrorKind) (kinds : Kinds) → (k ≡ kind.OutOfMemory) ⊎ IsAmong k kinds → TellsErrorKind fault k → TellsWords fault kinds
tells_among NoMemory k kinds among tells = tt
tells_among (Told text) k kinds (inl is) (inl help) = let bad : kind.OutOfMemory ≡ kind.DisplayHelp = cc in cc
tells_among (Told text) k kinds (inl is) (inr version) = let bad : kind.OutOfMemory ≡ kind.DisplayVersion = cc in cc
tells_among (Told text) k kinds (inr among) (inl help) = inl (subst (λ (x : ErrorKind). IsAmong x kinds) help among)
tells_among (Told text) k kinds (inr among) (inr version) = inr (subst (λ (x : ErrorKind). IsAmong x kinds) version among)
tells_among (Bad text) k kinds (inl is) tells = absurd (tells.2 is)
tells_among (Bad text) k kinds (inr among) tells = (k, tells, among)

-- what is said of an error that clap gives, for the program's command line
pub tells_kinds : (a : App) (words : List Text) (fault : LineFault) (k : ErrorKind) → a ≡ own_command
    → (is_simple_and_free a ≡ true → (k ≡ kind.OutOfMemory) ⊎ IsAmong k (fault_of a words))
    → TellsErrorKind fault k → TellsWords fault (fault_of own_command words)
tells_kinds a words fault k is fails tells =
    subst (λ (x : App). TellsWords fault (fault_of x words)) is (tells_among fault k (fault_of a words) (fails (ap is_simple_and_free is ∙ is_free_program)) tells)
