-- The laws of the service over all its epochs.
use Rattle.std.specs.Prelude.{◌≡◌, Some}
use Rattle.laws_network.specs.FleetLaws.{ExecutesAtOneServer, FleetIsSafe, IsFleetReached, MapIsRight}
use Rattle.laws_network.specs.FleetLaws.{NoLetterIsRefused, SomeFleetCanGoOn}
use Rattle.laws_network.specs.ReopeningLaws.{ExecutesSafely, IsSettlingReached, LoadsFit, RefusesNone, ShownExecutes}
use Rattle.laws_reopening.specs.Floors.{FloorsStay}
use Rattle.laws_reopening.specs.FloorsBegun.{FloorsRemain}
use Rattle.laws_reopening.specs.Service.{AllTook, Fleet, IsRenumberedAs, MayOpen, Renumbering, Reopens, Runs, Service}
use Rattle.laws_reopening.specs.Service.{Settlement, Settling, Setup}

-- The laws of one epoch hold wherever events of the fleet lead from an opening, and those of a reopening wherever
-- events lead from its beginning. The service is always at one of these: so all of them hold of it.
abbrev pub IsWithinLaws : Service → Type 0
IsWithinLaws (Runs setup f) = IsFleetReached setup f
IsWithinLaws (Reopens setup f x) = IsFleetReached setup f × IsSettlingReached setup x

-- a fleet is safe, refuses no order and executes requests where their shard is served, and its map is right
pub record IsSafeFleet (setup : Setup) (f : Fleet) : Type 0 where
  pub safe : FleetIsSafe setup f
  pub executes : ExecutesAtOneServer setup f
  pub refuses : NoLetterIsRefused setup f
  pub shown : MapIsRight setup f
  pub goes_on : SomeFleetCanGoOn setup f

-- So it is while a reopening is under way. Floors are those of the record until a settlement is confirmed, and from
-- then on those of the opening that comes of it.
pub record IsSafeSettling (x : Settling) : Type 0 where
  pub loads : LoadsFit x
  pub floors_before : FloorsRemain x
  pub floors : FloorsStay x
  pub executes : ExecutesSafely x
  pub refuses : RefusesNone x
  pub shown : ShownExecutes x

-- the service is safe, whatever is under way
abbrev pub ServiceIsSafe : Service → Type 0
ServiceIsSafe (Runs setup f) = IsSafeFleet setup f
ServiceIsSafe (Reopens setup f x) = IsSafeSettling x

-- once all have taken a settlement, there is a fleet on which a controller can open, in whatever numbers
abbrev pub CanOpen : Service → Type 0
CanOpen (Runs setup f) = Unit {0}
CanOpen (Reopens setup f x) = (s new : Settlement) (n : Renumbering) → x.reopening.settlement ≡ Some s
    → AllTook x.reopening → IsRenumberedAs n s new →
    (g : Fleet) × MayOpen setup f x n new g
