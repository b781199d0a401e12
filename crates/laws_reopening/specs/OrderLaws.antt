-- Orders over all epochs and reopenings: each has its effect at most once.
use Rattle.std.specs.Prelude.{◌≡◌, ◌≤◌, ℕ, ◌+◌, List, [], ◌∷◌, count_by}
use Rattle.laws_network.specs.Net.{Order}
use Rattle.laws_network.specs.Laws.{is_for, order_served}
use Rattle.laws_network.specs.Controller.{Letter}
use Rattle.laws_network.specs.FleetLaws.{order_committed}
use Rattle.laws_network.specs.FleetReopening.{IsOneOf}
use Rattle.laws_reopening.specs.Service.{AllServiceFit, Fleet, Goes, MayOpen, Meets, Opens, Renumbering, Reopens, Runs}
use Rattle.laws_reopening.specs.Service.{Service, ServiceEvent, Settlement, fleet_comes, service_comes, settling_comes}

-- the order that has its effect by an event, if there is one: it is committed by its server, also by one that a fence
-- has not come to yet
abbrev pub effects_by : Service → ServiceEvent → List Order
effects_by (Runs setup f) (Goes e) = order_committed (fleet_comes f e).0
effects_by (Reopens setup f x) (Meets e) = order_served (settling_comes x e).0
effects_by _ _ = []

-- how many orders of this number have their effect on a cell along a list of events
abbrev pub effects_of : ℕ → ℕ → ℕ → List ServiceEvent → Service → ℕ
effects_of s v number [] p = 0
effects_of s v number (e ∷ es) p = count_by (is_for s v number) (effects_by p e) + effects_of s v number es (service_comes p e)

-- No number has its effect twice on a cell, over all epochs, crashes, restores and reopenings. (A cell is named by the
-- numbers of the epoch in which the order has its effect.)
abbrev pub OrderActsOnce : Service → Type 0
OrderActsOnce p = (es : List ServiceEvent) (s v number : ℕ) → AllServiceFit es p → effects_of s v number es p ≤ 1

-- Once a controller opens on what a reopening has settled, no order that was sent before has an effect any more, on
-- whatever cell.
abbrev pub OldOrdersRest : Service → Type 0
OldOrdersRest (Runs setup f) = Unit {0}
OldOrdersRest (Reopens setup f x) = (n : Renumbering) (new : Settlement) (g : Fleet) (l : Letter) (es : List ServiceEvent) (s v : ℕ) → MayOpen setup f x n new g →
    IsOneOf f.sent l → AllServiceFit es (service_comes (Reopens setup f x) (Opens n new g)) →
    effects_of s v l.order.number es (service_comes (Reopens setup f x) (Opens n new g)) ≡ 0
