-- The effects of lines on a state, one behind the other: each line with its effect and its reply is an exchange.
use Rattle.std.specs.Prelude.{◌≡◌, ℕ, List, [], ◌∷◌, ◌++◌, map, All}
use Rattle.journal_serve.specs.declared.applies.Applied.{Applied}
use Rattle.journal_serve.specs.declared.applies.Applied.TheVariants.{Changed, Unchanged}

-- a line, what it did, and the reply to it
pub record Exchange : Type 0 where
  pub line : List ℕ
  pub effect : Applied
  pub reply : List ℕ

-- the line did this, and this is the reply
abbrev pub exchange : List ℕ → Applied → List ℕ → Exchange
exchange line effect reply = record { line = line; effect = effect; reply = reply }

-- the lines of exchanges
abbrev pub lines_in : List Exchange → List (List ℕ)
lines_in = map (λ x. x.line)

-- the line before these, if it changed something
abbrev pub changed_first : Applied → List ℕ → List (List ℕ) → List (List ℕ)
changed_first Changed line lines = line ∷ lines
changed_first Unchanged line lines = lines

-- those of the lines that changed something
abbrev pub changes_in : List Exchange → List (List ℕ)
changes_in [] = []
changes_in (x ∷ trace) = changed_first x.effect x.line (changes_in trace)

-- each reply with a line feed, in turn
abbrev pub replies_in : List Exchange → List ℕ
replies_in [] = []
replies_in (x ∷ trace) = x.reply ++ 10 ∷ replies_in trace

-- Step by step, these exchanges lead from one state to another.
abbrev pub LeadsThrough : {A : Type 0} → (A → Exchange → A → Type 0) → A → List Exchange → A → Type 0
LeadsThrough {A} takes old [] new = new ≡ old
LeadsThrough {A} takes old (x ∷ trace) new = (next : A) × takes old x next × LeadsThrough takes next trace new

-- Commands were applied again, and each of them changed something.
pub record ReplaysCommands {A : Type 0} (takes : A → Exchange → A → Type 0) (commands : List (List ℕ))
    (old new : A) : Type 0 where
  pub trace : List Exchange
  pub leads : LeadsThrough takes old trace new
  pub are : lines_in trace ≡ commands
  pub each : All (λ x. x.effect ≡ Changed) trace

-- a state and a line determine what the line does, the reply to it and the next state
abbrev pub IsDetermined : {A : Type 0} → (A → Exchange → A → Type 0) → Type 0
IsDetermined {A} takes = (old next other : A) (x y : Exchange) → takes old x next → takes old y other
    → y.line ≡ x.line → (y ≡ x) × (other ≡ next)
