-- A shard that is moved lies in one region at least.
use Rattle.std.proofs.Common.{◌≡◌, ◌<◌, ◌≤◌, ◌∙◌, inl, inr, ℕ, zero, suc, Bool, true, false, ◌&&◌, ◌||◌, ◌==◌, List, [], ◌∷◌, length, sym, ap, refl, arith}
use Rattle.std.specs.Prelude.{All, not, nat_lt}
use Rattle.std.specs.List.{list_any}
use Rattle.std.proofs.lemmas.Bool.{cases_Bool, cases_eq, eq-eqb, le-ltb, or_left, or_right}
use Rattle.std.proofs.lemmas.List.Elements.{All-head, All-tail}
use Rattle.sm_placement.specs.Sums.{any_below}
use Rattle.sm_placement.specs.Setup.{Setup}
use Rattle.sm_placement.specs.Place.{Place}
use Rattle.sm_placement.proofs.Searches.{any_none_from, count_none_at}
use Rattle.sm_plan_code.specs.declared.moves.Move.{Move}
use Rattle.sm_planner.specs.Basis.{IsMoveOf, is_replica}
use Rattle.sm_planner.specs.Spread.{same_region, region_count, spread_of, has_after, is_too_close}

-- a server to which a shard goes that is moved
goes_somewhere : (setup : Setup) (moves : List Move) (s : ℕ) → All (IsMoveOf setup) moves → list_any (λ m. m.shard == s) moves ≡ true →
    (v : ℕ) × (v < length setup.servers) × (list_any (λ m. (m.shard == s) && (m.to == v)) moves ≡ true)
goes_somewhere setup [] s known e = absurd (let x : false ≡ true = e in cc)
goes_somewhere setup (m ∷ ms) s known e = elim (cases_Bool (m.shard == s)) [
  | inl h ↦
      let here : ((m.shard == s) && (m.to == m.to)) ≡ true = rw (h, eq-eqb m.to m.to refl) refl in
      (m.to, (All-head (IsMoveOf setup) m ms known).to, or_left ((m.shard == s) && (m.to == m.to)) (list_any (λ n. (n.shard == s) && (n.to == m.to)) ms) here)
  | inr h ↦
      let rest : list_any (λ n. n.shard == s) ms ≡ true = sym (ap (λ x. x || list_any (λ n. n.shard == s) ms) h) ∙ e in
      let later = goes_somewhere setup ms s (All-tail (IsMoveOf setup) m ms known) rest in
      (later.0, later.1, or_right ((m.shard == s) && (m.to == later.0)) (list_any (λ n. (n.shard == s) && (n.to == later.0)) ms) later.2)
]

-- if servers lie in no region, none of them passes
none_pass : (setup : Setup) (has : ℕ → Bool) → region_count setup has ≡ 0 → (n : ℕ) → n ≤ length setup.servers → (k : ℕ) → k < n → has k ≡ false
none_pass setup has e zero l k m = absurd (omega arith)
none_pass setup has e (suc n) l k m =
    let below : (u : ℕ) → u < k → has u ≡ false = λ u q. none_pass setup has e n (omega arith) u (omega arith) in
    let none : any_below k (λ u. has u && same_region setup u k) ≡ false = any_none_from k (λ u. has u && same_region setup u k) (λ u q. ap (λ x. x && same_region setup u k) (below u q)) in
    let at : (has k && not (any_below k (λ u. has u && same_region setup u k))) ≡ false =
    count_none_at (length setup.servers) (λ v. has v && not (any_below v (λ u. has u && same_region setup u v))) e k (omega arith) in
    alone (has k) (any_below k (λ u. has u && same_region setup u k)) none at
  where
    alone : (x y : Bool) → y ≡ false → (x && not y) ≡ false → x ≡ false
    alone false y d q = refl
    alone true y d q = absurd (let z : not y ≡ true = ap not d in cc)

-- a server that passes lies in a region
pub some_region : (setup : Setup) (has : ℕ → Bool) (v : ℕ) → v < length setup.servers → has v ≡ true → 1 ≤ region_count setup has
some_region setup has v l e = elim (cases_eq (region_count setup has) 0) [
  | inl zero_count ↦ absurd (let away : has v ≡ false = none_pass setup has zero_count (length setup.servers) (omega arith) v l in let z : true ≡ false = sym e ∙ away in cc)
  | inr some ↦ omega arith
]

-- a shard that is to lie in one region is not too close
pub never_close : (setup : Setup) (p : Place) (moves : List Move) (s : ℕ) → All (IsMoveOf setup) moves → spread_of setup s ≤ 1 → is_too_close setup p moves s ≡ false
never_close setup p moves s known low = elim (cases_Bool (list_any (λ m. m.shard == s) moves)) [
  | inr none ↦ ap (λ x. x && nat_lt (region_count setup (has_after p moves s)) (spread_of setup s)) none
  | inl some ↦
      let goes = goes_somewhere setup moves s known some in
      let there : has_after p moves s goes.0 ≡ true =
      or_left (list_any (λ m. (m.shard == s) && (m.to == goes.0)) moves) (is_replica (p.cells s goes.0) && not (list_any (λ m. (m.shard == s) && (m.from == goes.0)) moves)) goes.2 in
      let one = some_region setup (has_after p moves s) goes.0 goes.1 there in
      ap (λ x. list_any (λ m. m.shard == s) moves && x) (le-ltb (region_count setup (has_after p moves s)) (spread_of setup s) (omega arith))
      ∙ ap (λ x. x && false) some
]
