-- The outcome of clap for words that name a command.
use Rattle.std.proofs.Common.{◌≡◌, ◌≢◌, true, false, Bool, List, [], ◌∷◌, None, codes, refl, ap, subst, inl, inr, ◌∙◌, ◌⊎◌}
use Rattle.std.specs.Str.{bytes_eq}
use Rattle.std.proofs.lemmas.Slice.Eq.{bytes_eq-Decides}
use Rattle.clap.specs.Words.{App, Text, takes, fault_of, is_simple_and_free}
use Rattle.clap.specs.Kinds.{Kinds, IsAmong}
use Rattle.clap.specs.declared.error.kind.ErrorKind.{ErrorKind}
use Rattle.clap.specs.declared.error.kind.ErrorKind.TheVariants as kind
use Rattle.clap.proofs.OnLiterals.{clap_on_literals}
use Rattle.sm_command_line.specs.CommandLine.{asked_for, program, Tells, TellsKind}
use Rattle.sm_command_line.specs.declared.words.LineFault.{LineFault}
use Rattle.sm_command_line.specs.declared.words.LineFault.TheVariants.{NoMemory, Help, Bad}

takes_calls : takes program (codes "calls" ∷ []) ≡ true
unfolding clap_on_literals
takes_calls = refl

takes_check : takes program (codes "check" ∷ []) ≡ true
unfolding clap_on_literals
takes_check = refl

takes_play : takes program (codes "play" ∷ []) ≡ true
unfolding clap_on_literals
takes_play = refl

takes_plan : takes program (codes "plan" ∷ []) ≡ true
unfolding clap_on_literals
takes_plan = refl

takes_run : takes program (codes "run" ∷ []) ≡ true
unfolding clap_on_literals
takes_run = refl

takes_named : (word : Text) (run calls check play plan : Bool) → bytes_eq word (codes "run") ≡ run → bytes_eq word (codes "calls") ≡ calls → bytes_eq word (codes "check") ≡ check → bytes_eq word (codes "play") ≡ play → bytes_eq word (codes "plan") ≡ plan
    → asked_for (word ∷ []) ≢ None → takes program (word ∷ []) ≡ true
takes_named word true calls check play plan is_run is_calls is_check is_play is_plan asked = rw ((bytes_eq-Decides word (codes "run")).0 is_run) takes_run
takes_named word false true check play plan is_run is_calls is_check is_play is_plan asked = rw ((bytes_eq-Decides word (codes "calls")).0 is_calls) takes_calls
takes_named word false false true play plan is_run is_calls is_check is_play is_plan asked = rw ((bytes_eq-Decides word (codes "check")).0 is_check) takes_check
takes_named word false false false true plan is_run is_calls is_check is_play is_plan asked = rw ((bytes_eq-Decides word (codes "play")).0 is_play) takes_play
takes_named word false false false false true is_run is_calls is_check is_play is_plan asked = rw ((bytes_eq-Decides word (codes "plan")).0 is_plan) takes_plan
takes_named word false false false false false is_run is_calls is_check is_play is_plan asked = absurd (asked (rw is_run (rw is_calls (rw is_check (rw is_play (rw is_plan refl))))))

-- clap takes the words that name a command
pub takes_asked : (words : List Text) → asked_for words ≢ None → takes program words ≡ true
takes_asked [] asked = absurd (asked refl)
takes_asked (word ∷ []) asked = takes_named word (bytes_eq word (codes "run")) (bytes_eq word (codes "calls")) (bytes_eq word (codes "check")) (bytes_eq word (codes "play")) (bytes_eq word (codes "plan")) refl refl refl refl refl asked
takes_asked (word ∷ next ∷ rest) asked = absurd (asked refl)

-- memory ran out, so nothing else is said
pub tells_no_memory : (fault : LineFault) (k : ErrorKind) → k ≡ kind.OutOfMemory → TellsKind fault k → fault ≡ NoMemory
tells_no_memory NoMemory k is tells = refl
tells_no_memory (Help text) k is tells = let bad : kind.OutOfMemory ≡ kind.DisplayHelp = cc in cc
tells_no_memory (Bad text) k is tells = absurd (tells.1 is)

pub tells_among : (fault : LineFault) (k : ErrorKind) (kinds : Kinds) → (k ≡ kind.OutOfMemory) ⊎ IsAmong k kinds → TellsKind fault k → Tells fault kinds
tells_among NoMemory k kinds among tells = tt
tells_among (Help text) k kinds (inl is) tells = let bad : kind.OutOfMemory ≡ kind.DisplayHelp = cc in cc
tells_among (Help text) k kinds (inr among) tells = subst (λ (x : ErrorKind). IsAmong x kinds) tells among
tells_among (Bad text) k kinds (inl is) tells = absurd (tells.1 is)
tells_among (Bad text) k kinds (inr among) tells = inr (k, tells.0, among)

is_free_program : is_simple_and_free program ≡ true
unfolding clap_on_literals
is_free_program = refl

-- what is said of an error that clap gives, for the program's command line
pub tells_kinds : (a : App) (words : List Text) (fault : LineFault) (k : ErrorKind) → a ≡ program
    → (is_simple_and_free a ≡ true → (k ≡ kind.OutOfMemory) ⊎ IsAmong k (fault_of a words))
    → TellsKind fault k → Tells fault (fault_of program words)
tells_kinds a words fault k is fails tells =
    subst (λ (x : App). Tells fault (fault_of x words)) is (tells_among fault k (fault_of a words) (fails (ap is_simple_and_free is ∙ is_free_program)) tells)
