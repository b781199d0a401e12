-- A reopening can end: once all have told, some settlement may be confirmed, and all can take it.
use Rattle.std.specs.Prelude.{◌≡◌, ◌≤◌, ℕ, Bool, true, Option, Some, None, List}
use Rattle.sm_plan_code.specs.declared.limits.TheConstants.{MOST_PLACES}
use Rattle.laws_network.specs.Reopening.{Confirm, Inventory, Party, Reopen, Settlement, Settling, Setup, Unknown}
use Rattle.laws_network.specs.Reopening.{is_asked, records, settling_run, takes_settle}
use Rattle.laws_network.specs.ReopeningLaws.{AllTook, MayReopen, MaySettle}
use Rattle.laws_network.specs.ReopeningPlays.{arrive}
use Rattle.laws_reopening.specs.Service.{AllServiceFit, Fleet, Reopens, Runs, Service, ServiceEvent, service_run}
use Rattle.laws_settling.specs.Inheriting.{HasPlace, settlement_told}

-- the nonce that a party has told, and none if it has its slots
abbrev pub nonce_told : Inventory → Option ℕ
nonce_told (Unknown nonce) = Some nonce
nonce_told _ = None

-- A party has told, and stands as it told: at this fence, with its slots or under the nonce that it told. It has not
-- forgotten since.
pub record StandsAsTold (x : Settling) (p : Party) : Type 0 where
  pub inventory : Inventory
  pub told : x.reopening.told p ≡ Some inventory
  pub stands : takes_settle x.reopening.base (nonce_told inventory) (x.bases p) ≡ true

-- each party that is asked does
abbrev pub AllStandAsTold : Settling → Type 0
AllStandAsTold x = (p : Party) → is_asked x.reopening p ≡ true → StandsAsTold x p

-- Whatever is under way, another reopening may begin; and then messages that were sent can come, one after the other,
-- until all have told.
abbrev pub CanTell : Settling → Type 0
CanTell x = (base servers : ℕ) (lost : ℕ → Bool) → MayReopen x base lost →
    (places : List ℕ) × ((settling_run (arrive places) (records x (Reopen base servers lost))).reopening.settlement ≡ None)
    × AllStandAsTold (settling_run (arrive places) (records x (Reopen base servers lost)))

-- Once a settlement is confirmed, messages that were sent can come, one after the other, until each party has taken its
-- part.
abbrev pub AllCanTake : Settling → Settlement → Type 0
AllCanTake x s = (places : List ℕ)
    × ((settling_run (arrive places) (records x (Confirm s))).reopening.settlement ≡ Some s)
    × AllTook (settling_run (arrive places) (records x (Confirm s))).reopening

-- Once all have told, the settlement by what they told may be confirmed under each configuration that has place for it,
-- and all can take it.
abbrev pub CanSettle : Settling → Type 0
CanSettle x = x.reopening.settlement ≡ None → AllStandAsTold x → (setup : Setup) (limit room : ℕ)
    → HasPlace x.reopening setup → room ≤ MOST_PLACES →
    MaySettle x.reopening x.world.net.w (settlement_told x.reopening setup limit room)
    × AllCanTake x (settlement_told x.reopening setup limit room)

-- So events lead on to a controller that runs plans over a fleet of such a configuration.
abbrev pub CanEnd : Service → Type 0
CanEnd (Runs setup f) = Unit {0}
CanEnd (Reopens setup f x) = x.reopening.settlement ≡ None → AllStandAsTold x → (new : Setup)
    → HasPlace x.reopening new →
    (es : List ServiceEvent) × (g : Fleet) × AllServiceFit es (Reopens setup f x)
    × (service_run es (Reopens setup f x) ≡ Runs new g)
