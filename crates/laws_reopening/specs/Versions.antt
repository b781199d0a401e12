-- The published map over all epochs and reopenings.
use Rattle.std.specs.Prelude.{◌≡◌, ◌≤◌, ℕ, Some, List, [], ◌∷◌, slice_get}
use Rattle.laws_network.specs.Words.{Entry}
use Rattle.laws_reopening.specs.Service.{AllServiceFit, Opens, Reopens, Runs, Service, ServiceEvent, service_comes}
use Rattle.laws_reopening.specs.Service.{service_run}

-- what the map shows of each shard
abbrev pub shown_by : Service → ℕ → Entry
shown_by (Runs setup f) = f.shown
shown_by (Reopens setup f x) = x.world.shown

-- the number that a shard has after an event: only a controller that opens may give it another one
abbrev pub IsNumberAfter : Service → ServiceEvent → ℕ → ℕ → Type 0
IsNumberAfter (Reopens setup f x) (Opens n new fleet) s after = slice_get n.shards after ≡ Some s
IsNumberAfter _ _ s after = after ≡ s

-- after a list of events
abbrev pub IsNumberAfterAll : Service → List ServiceEvent → ℕ → ℕ → Type 0
IsNumberAfterAll p [] s after = after ≡ s
IsNumberAfterAll p (e ∷ es) s after = (between : ℕ) × IsNumberAfter p e s between
    × IsNumberAfterAll (service_comes p e) es between after

-- No version that the map shows goes back, whatever comes, as long as its shard has a number.
abbrev pub VersionsNeverGoBack : Service → Type 0
VersionsNeverGoBack p = (es : List ServiceEvent) → AllServiceFit es p → (s after : ℕ) → IsNumberAfterAll p es s after →
    (shown_by p s).version ≤ (shown_by (service_run es p) after).version
