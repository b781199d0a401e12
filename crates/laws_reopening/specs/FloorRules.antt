-- Floors by two rules for those who run the servers, with no premise on what servers have meanwhile.
use Rattle.std.specs.Prelude.{◌≡◌, ◌≤◌, ◌<◌, ℕ, true, false, List, [], ◌∷◌}
use Rattle.laws_network.specs.Words.{Setup}
use Rattle.laws_network.specs.Controller.{is_permitted}
use Rattle.laws_network.specs.Fleet.{End, Fleet, FleetEvent, Forget, controller, fleet_comes, fleet_run, has_lost}
use Rattle.laws_network.specs.FleetLaws.{AllFleetFit, live_and_known}

-- A server loses its slots only while it is recorded as down, and its permit ends its restart only once it has slots
-- again.
abbrev pub FollowsRules : Fleet → FleetEvent → Type 0
FollowsRules f (Forget v) = (controller f).w.place.down v ≡ true
FollowsRules f (End v permit) = is_permitted ((controller f).permits v) permit ≡ true → has_lost f v ≡ false
FollowsRules f _ = Unit {0}

-- each of these events does so when it comes
abbrev pub AllFollowRules : Fleet → List FleetEvent → Type 0
AllFollowRules f [] = Unit {0}
AllFollowRules f (e ∷ es) = FollowsRules f e × AllFollowRules (fleet_comes f e).1 es

-- only servers that are recorded as down have lost their slots
abbrev pub AreLostDown : Fleet → Type 0
AreLostDown f = (v : ℕ) → has_lost f v ≡ true → (controller f).w.place.down v ≡ true

-- Each shard has as many live replicas as its floor, at servers that are up and have their slots.
abbrev pub HasFloors : Fleet → Type 0
HasFloors f = (s : ℕ) → s < (controller f).w.sizes.shards → (controller f).w.sizes.floor s ≤ live_and_known f s

-- If only servers that are down have lost their slots, and all that happens follows the rules, floors are kept, and so
-- it stays.
abbrev pub RulesKeepFloors : Setup → Fleet → Type 0
RulesKeepFloors setup f = AreLostDown f → (es : List FleetEvent) → AllFleetFit setup f es → AllFollowRules f es →
    AreLostDown (fleet_run es f) × HasFloors (fleet_run es f)
