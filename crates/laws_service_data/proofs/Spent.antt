-- An order that is committed never is again: its number is spent at its cell.
use Rattle.std.proofs.Common.{◌≡◌, ◌+◌, ℕ, refl, ap, ◌∙◌, inl, inr, arith, Bool, true, List, [], ◌∷◌, ◌++◌}
use Rattle.std.specs.Prelude.{count_by}
use Rattle.std.proofs.lemmas.Bool.{cases_Bool, eq-eqb}
use Rattle.sm_placement.specs.Setup.{Setup}
use Rattle.laws_network.specs.Net.{Order}
use Rattle.laws_network.specs.Laws.{is_for}
use Rattle.laws_network.specs.Fleet.{Committed, Fleet, FleetEvent, FleetOutcome, fleet_comes}
use Rattle.laws_network.specs.FleetLaws.{AllFleetFit, FleetFits, IsFleetReached, order_committed, orders_committed}
use Rattle.laws_network.proofs.FleetOnce.{commits_once_per_number}
use Rattle.laws_network.proofs.Once.{count_hit, count_miss}

-- nothing commits under this number at this cell any more
abbrev pub IsSpent : Setup → Fleet → ℕ → ℕ → ℕ → Type 0
IsSpent setup f s v number = (es : List FleetEvent) → AllFleetFit setup f es → count_by (is_for s v number) (orders_committed es f) ≡ 0

-- a count of nothing counts nothing further on
counts_on : (test : Order → Bool) (o : FleetOutcome) (os : List Order) → count_by test (order_committed o ++ os) ≡ 0 → count_by test os ≡ 0
counts_on test o os e = go (order_committed o) e
  where
    go : (ps : List Order) → count_by test (ps ++ os) ≡ 0 → count_by test os ≡ 0
    go [] q = q
    go (p ∷ ps) q = elim (cases_Bool (test p)) [
      | inl t ↦ absurd (let m = count_hit test p (ps ++ os) t in omega arith)
      | inr t ↦ go ps (let m = count_miss test p (ps ++ os) t in omega arith)
    ]

-- what is spent stays so
pub spent_on : (setup : Setup) (f : Fleet) (e : FleetEvent) → FleetFits setup f e → (s v number : ℕ) → IsSpent setup f s v number → IsSpent setup (fleet_comes f e).1 s v number
spent_on setup f e fit s v number spent es fits =
    counts_on (is_for s v number) (fleet_comes f e).0 (orders_committed es (fleet_comes f e).1) (spent (e ∷ es) (fit, fits))

module _ (setup : Setup) (f : Fleet) (r : IsFleetReached setup f) (e : FleetEvent) (fit : FleetFits setup f e) (o : Order) (q : (fleet_comes f e).0 ≡ Committed o) where
  own : is_for o.call.shard o.call.server o.number o ≡ true
  own = rw (eq-eqb o.call.shard o.call.shard refl, eq-eqb o.call.server o.call.server refl, eq-eqb o.number o.number refl) refl

  abbrev more : List FleetEvent → List Order
  more es = orders_committed es (fleet_comes f e).1

  listed : (es : List FleetEvent) → orders_committed (e ∷ es) f ≡ o ∷ more es
  listed es = ap (λ (z : FleetOutcome). order_committed z ++ more es) q

  hit : (es : List FleetEvent) → count_by (is_for o.call.shard o.call.server o.number) (orders_committed (e ∷ es) f) ≡ 1 + count_by (is_for o.call.shard o.call.server o.number) (more es)
  hit es = ap (count_by (is_for o.call.shard o.call.server o.number)) (listed es) ∙ count_hit (is_for o.call.shard o.call.server o.number) o (more es) own

  -- an order that is committed now is spent from now on
  pub spent_now : IsSpent setup (fleet_comes f e).1 o.call.shard o.call.server o.number
  spent_now es fits =
      let once = commits_once_per_number setup f r (e ∷ es) o.call.shard o.call.server o.number (fit, fits) in
      let h = hit es in
      omega arith

  -- and was not before
  pub not_spent : IsSpent setup f o.call.shard o.call.server o.number → ⊥
  not_spent spent = let z = spent (e ∷ []) (fit, tt) in let h = hit [] in absurd (omega arith)
