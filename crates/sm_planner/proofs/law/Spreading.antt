-- The end of the rule's plan: the replicas of each moved shard lie in as many regions as it is to be in, or in more.
use Rattle.std.proofs.Common.{◌≡◌, ℕ, ◌<◌, ◌≤◌, Bool, true, false, List, length, refl, sym, ap, ◌∙◌, arith, inl, inr}
use Rattle.std.specs.Prelude.{All, ◌==◌, ◌&&◌, ◌||◌, not, nat_lt}
use Rattle.std.specs.Option.{option_or}
use Rattle.std.specs.List.{list_any}
use Rattle.std.proofs.lemmas.Bool.{cases_Bool, eq-eqb, eqb-true, and_parts, and_from, ltb-false, both_ways}
use Rattle.std.proofs.lemmas.List.Elements.{All-get_or}
use Rattle.std.proofs.lemmas.List.Folds.{list_any_at}
use Rattle.sm_placement.specs.Setup.{sizes_of}
use Rattle.sm_placement.specs.Place.{Place}
use Rattle.sm_placement.proofs.Searches.{first_none, none_mapped}
use Rattle.sm_reservation.proofs.ShortLemmas.{no_answer}
use Rattle.sm_plan_code.specs.Plan.{PlanModel}
use Rattle.sm_plan_code.specs.declared.moves.Move.{Move}
use Rattle.sm_verifier.specs.PlanEnd.{end_of}
use Rattle.sm_planner.specs.declared.refusal.NoPlan.TheVariants.{Spread}
use Rattle.sm_planner.specs.Basis.{Basis, IsMoveOf, move_at, no_move, left_cell, is_replica}
use Rattle.sm_planner.specs.Spread.{region_count, spread_of, has_after, is_too_close, first_too_close}
use Rattle.sm_planner.specs.Refusal.{first_refused, no_room, no_spread, too_many, IsPlanOf}
use Rattle.sm_planner.specs.Laws.{HasMoved, IsSpread}
use Rattle.sm_planner.proofs.Regions.{same_regions}
use Rattle.sm_planner.proofs.law.Ended.{has_moved}
use Rattle.sm_planner.proofs.law.Opened.{is_opened}
use Rattle.sm_planner.proofs.law.Unrefused.{any_at}

module _ (p : Place) (moves : List Move) (replicas : (i : ℕ) → i < length moves → is_replica (left_cell p (move_at moves i)) ≡ true) (new : Place) (moved : HasMoved p new moves) (s v : ℕ) where
  abbrev goes : Move → Bool
  goes m = (m.shard == s) && (m.to == v)

  abbrev leaves : Move → Bool
  leaves m = (m.shard == s) && (m.from == v)

  comes_there : list_any goes moves ≡ true → is_replica (new.cells s v) ≡ true
  comes_there e =
      let at = any_at goes moves no_move e in
      let m : Move = move_at moves at.0 in
      let both = and_parts (m.shard == s) (m.to == v) at.2 in
      let cell : new.cells s v ≡ left_cell p m = ap (λ t. new.cells t v) (sym (eqb-true m.shard s both.0)) ∙ ap (new.cells m.shard) (sym (eqb-true m.to v both.1)) ∙ moved.come at.0 at.1 in
      ap is_replica cell ∙ replicas at.0 at.1

  leaves_it : list_any leaves moves ≡ true → is_replica (new.cells s v) ≡ false
  leaves_it e =
      let at = any_at leaves moves no_move e in
      let m : Move = move_at moves at.0 in
      let both = and_parts (m.shard == s) (m.from == v) at.2 in
      ap (λ t. is_replica (new.cells t v)) (sym (eqb-true m.shard s both.0)) ∙ ap (λ w. is_replica (new.cells m.shard w)) (sym (eqb-true m.from v both.1)) ∙ ap is_replica (moved.left at.0 at.1)

  stays_there : list_any goes moves ≡ false → list_any leaves moves ≡ false → new.cells s v ≡ p.cells s v
  stays_there none nor = moved.others s v (λ i l same. (
    λ e. both_ways (list_any goes moves) none (list_any_at goes moves i no_move l (and_from ((move_at moves i).shard == s) ((move_at moves i).to == v) (eq-eqb (move_at moves i).shard s same) (eq-eqb (move_at moves i).to v e))),
    λ e. both_ways (list_any leaves moves) nor (list_any_at leaves moves i no_move l (and_from ((move_at moves i).shard == s) ((move_at moves i).from == v) (eq-eqb (move_at moves i).shard s same) (eq-eqb (move_at moves i).from v e))),
  ))

  -- a server has a replica of a shard at the end where the rule counts one
  pub has_it_after : is_replica (new.cells s v) ≡ has_after p moves s v
  has_it_after = elim (cases_Bool (list_any goes moves)) [
    | inl comes ↦ comes_there comes ∙ sym (ap (λ t. t || (is_replica (p.cells s v) && not (list_any leaves moves))) comes)
    | inr none ↦ elim (cases_Bool (list_any leaves moves)) [
      | inl gone ↦ leaves_it gone ∙ sym (ap (λ t. t || (is_replica (p.cells s v) && not (list_any leaves moves))) none ∙ ap (λ t. is_replica (p.cells s v) && not t) gone ∙ never (is_replica (p.cells s v)))
      | inr nor ↦ ap is_replica (stays_there none nor) ∙ sym (ap (λ t. t || (is_replica (p.cells s v) && not (list_any leaves moves))) none ∙ ap (λ t. is_replica (p.cells s v) && not t) nor ∙ always (is_replica (p.cells s v)))
    ]
  ]
    where
      never : (x : Bool) → (x && false) ≡ false
      never true = refl
      never false = refl

      always : (x : Bool) → (x && true) ≡ x
      always true = refl
      always false = refl

-- a test that is not passed by two parts, the first of which is passed
second_fails : (x y : Bool) → (x && y) ≡ false → x ≡ true → y ≡ false
second_fails true y e x = e
second_fails false y e x = absurd cc

-- each moved shard is spread at the end of the rule's plan
pub is_spread : (b : Basis) (moves : List Move) (plan : PlanModel) (i : ℕ) → All (IsMoveOf b.setup) moves → IsPlanOf b moves plan → i < length moves → IsSpread b.setup (end_of (sizes_of b.setup) plan b.place) (move_at moves i).shard
is_spread b moves plan i all by l =
    let s : ℕ = (move_at moves i).shard in
    let new : Place = end_of (sizes_of b.setup) plan b.place in
    let one = no_answer (first_refused b moves) (option_or (no_room moves by.0) (option_or (no_spread b moves) (too_many b moves by.0))) by.2 in
    let two = no_answer (no_room moves by.0) (option_or (no_spread b moves) (too_many b moves by.0)) one.1 in
    let three = no_answer (no_spread b moves) (too_many b moves by.0) two.1 in
    let moved : HasMoved b.place new moves = has_moved b moves plan all by in
    let replicas : (k : ℕ) → k < length moves → is_replica (left_cell b.place (move_at moves k)) ≡ true = λ k m. (is_opened b moves one.0 k m).replica in
    let known : s < (sizes_of b.setup).shards = (All-get_or (IsMoveOf b.setup) moves i no_move l all).shard in
    let apart : is_too_close b.setup b.place moves s ≡ false = first_none (sizes_of b.setup).shards (is_too_close b.setup b.place moves) (none_mapped Spread (first_too_close b moves) three.0) s known in
    let is : list_any (λ m. m.shard == s) moves ≡ true = list_any_at (λ m. m.shard == s) moves i no_move l (eq-eqb s s refl) in
    let wide : spread_of b.setup s ≤ region_count b.setup (has_after b.place moves s) = ltb-false (region_count b.setup (has_after b.place moves s)) (spread_of b.setup s) (second_fails (list_any (λ m. m.shard == s) moves) (nat_lt (region_count b.setup (has_after b.place moves s)) (spread_of b.setup s)) apart is) in
    let same : region_count b.setup (λ v. is_replica (new.cells s v)) ≡ region_count b.setup (has_after b.place moves s) = same_regions b.setup (λ v. is_replica (new.cells s v)) (has_after b.place moves s) (λ v m. has_it_after b.place moves replicas new moved s v) in
    omega arith
