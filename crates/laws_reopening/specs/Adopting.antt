-- A reopening over nothing recorded: a controller with a new journal adopts a service that runs.
use Rattle.std.specs.Prelude.{◌≡◌, ℕ, true, is_some}
use Rattle.laws_network.specs.Words.{State}
use Rattle.laws_network.specs.Reopening.{Reopening, Server, Settlement, is_asked}
use Rattle.laws_network.specs.ReopeningLaws.{MaySettle}

-- If each server that is asked has told, it makes no difference what was recorded: a controller that has recorded
-- nothing may confirm just what the one may confirm whose journal was lost.
abbrev pub SettlesWithoutRecord : Type 0
SettlesWithoutRecord = (r : Reopening) (w other : State) (s : Settlement) →
    ((v : ℕ) → is_asked r (Server v) ≡ true → is_some (r.told (Server v)) ≡ true) → MaySettle r w s
    → MaySettle r other s
