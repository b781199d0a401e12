-- Any moves are placed: the first that fits is placed for as long as one fits, and each move once.
use Rattle.std.proofs.Common.{◌≡◌, ℕ, zero, suc, ◌+◌, ◌<◌, ◌≤◌, Bool, true, false, cond, Option, Some, List, [], ◌∷◌, ◌++◌, length, get_or, take, refl, sym, ap, ◌∙◌, arith, inl, inr, length-append}
use Rattle.std.specs.Prelude.{◌==◌}
use Rattle.std.specs.Option.{option_or}
use Rattle.std.proofs.lemmas.Bool.{cases_lt, eqb-true}
use Rattle.std.proofs.lemmas.List.{take_more, take-append-le, take_at, get_or_append_left, get_or_at}
use Rattle.sm_placement.specs.Sums.{sum_below}
use Rattle.sm_placement.proofs.Sums.{sum-le}
use Rattle.sm_placement.proofs.Searches.{cases_Option}
use Rattle.sm_plan_code.specs.declared.moves.Move.{Move}
use Rattle.sm_verifier.proofs.SumLemmas.{sum_once}
use Rattle.sm_planner.specs.declared.refusal.NoPlan.{NoPlan}
use Rattle.sm_planner.specs.Basis.{Basis}
use Rattle.sm_planner.specs.Placing.{first_fit, IsPlacing}
use Rattle.sm_planner.specs.Plan.{planned}
use Rattle.sm_planner.specs.Refusal.{first_refused, no_room, no_spread, too_many, in_placed_order, refusal, IsRefused}
use Rattle.sm_planner.specs.Laws.{AnswersOnce}
use Rattle.std.proofs.Math.Seq.{take-length}
use Rattle.std.proofs.lemmas.Option.{same_Some}
use Rattle.sm_planner.proofs.law.Placings.{place_known, placed_once}
use Rattle.sm_planner.proofs.law.Admitted.{sum_of_classes, ones}
use Rattle.sm_planner.proofs.Accounting.{IsGreedy}
use Rattle.sm_planner.proofs.law.Owing.{part_of}

-- different numbers below a bound are no more than the bound
few_distinct : (n : ℕ) (xs : List ℕ) → ((k : ℕ) → k < length xs → get_or xs k 0 < n) → ((j k : ℕ) → j < length xs → k < length xs → get_or xs j 0 ≡ get_or xs k 0 → j ≡ k) → length xs ≤ n
few_distinct n xs low once =
    let all = sum_of_classes (λ k. get_or xs k 0) (λ k. 1) n (length xs) low in
    let all_ones = ones (length xs) in
    let most = sum-le n 1 (λ i. sum_below (length xs) (λ k. cond (get_or xs k 0 == i) 1 0)) (λ i l. one i) in
    omega arith
  where
    passes : (t : Bool) → 0 < cond t 1 0 → t ≡ true
    passes true l = refl
    passes false l = absurd (omega arith)

    one : (i : ℕ) → sum_below (length xs) (λ k. cond (get_or xs k 0 == i) 1 0) ≤ 1
    one i = sum_once (length xs) 1 (λ k. cond (get_or xs k 0 == i) 1 0) (λ k l. part_of (get_or xs k 0 == i) 1) (λ j k l m at there. once j k l m (eqb-true (get_or xs j 0) i (passes (get_or xs j 0 == i) at) ∙ sym (eqb-true (get_or xs k 0) i (passes (get_or xs k 0 == i) there))))

-- no more are placed than there are
pub placed_few : (b : Basis) (moves : List Move) (placed : List ℕ) → IsGreedy b moves placed → length placed ≤ length moves
placed_few b moves placed greedy = few_distinct (length moves) placed (place_known b moves placed greedy) (placed_once b moves placed greedy)

one_more : (b : Basis) (moves : List Move) (placed : List ℕ) (i : ℕ) → IsGreedy b moves placed → first_fit b moves placed ≡ Some i → IsGreedy b moves (placed ++ i ∷ [])
one_more b moves placed i greedy fits k l =
    let long = length-append placed (i ∷ []) in
    elim (cases_lt k (length placed)) [
      | inl less ↦ ap (first_fit b moves) (take-append-le k placed (i ∷ []) (omega arith)) ∙ greedy k less ∙ ap Some (sym (get_or_append_left placed (i ∷ []) 0 k less))
      | inr more ↦
          let here : k ≡ length placed = omega arith in
          ap (first_fit b moves) (take_at placed (i ∷ []) k (sym here)) ∙ fits ∙ ap Some (sym (get_or_at placed i [] 0 k (sym here)))
    ]

place_rest : (b : Basis) (moves : List Move) (fuel : ℕ) (placed : List ℕ) → length moves < fuel + length placed → IsGreedy b moves placed → (all : List ℕ) × IsPlacing b moves all
place_rest b moves zero placed l greedy = absurd (let few = placed_few b moves placed greedy in omega arith)
place_rest b moves (suc fuel) placed l greedy = elim (cases_Option (first_fit b moves placed)) [
  | inl none ↦ (placed, record { greedy = greedy; complete = none })
  | inr some ↦
      let long = length-append placed (some.0 ∷ []) in
      place_rest b moves fuel (placed ++ some.0 ∷ []) (omega arith) (one_more b moves placed some.0 greedy some.1)
]

-- any moves can be placed as the rule says
pub are_placed : (b : Basis) (moves : List Move) → (placed : List ℕ) × IsPlacing b moves placed
are_placed b moves = place_rest b moves (suc (length moves)) [] (omega arith) (λ k l. absurd (omega arith))

-- ---- one order alone

same_front : (b : Basis) (moves : List Move) (xs ys : List ℕ) → IsGreedy b moves xs → IsGreedy b moves ys → (k : ℕ) → k ≤ length xs → k ≤ length ys → take k xs ≡ take k ys
same_front b moves xs ys one two zero l m = refl
same_front b moves xs ys one two (suc k) l m =
    let low = same_front b moves xs ys one two k (omega arith) (omega arith) in
    let same : get_or xs k 0 ≡ get_or ys k 0 = same_Some (get_or xs k 0) (get_or ys k 0) (sym (one k (omega arith)) ∙ ap (first_fit b moves) low ∙ two k (omega arith)) in
    let next : suc k ≡ k + 1 = omega arith in
    ap (λ n. take n xs) next ∙ take_more xs k 0 (omega arith) ∙ ap (λ (zs : List ℕ). zs ++ get_or xs k 0 ∷ []) low ∙ ap (λ n. take k ys ++ n ∷ []) same ∙ sym (ap (λ n. take n ys) next ∙ take_more ys k 0 (omega arith))

-- where nothing more fits, nothing more is placed
not_longer : (b : Basis) (moves : List Move) (xs ys : List ℕ) → IsPlacing b moves xs → IsPlacing b moves ys → length ys ≤ length xs
not_longer b moves xs ys one two = elim (cases_lt (length xs) (length ys)) [
  | inl less ↦
      let front : take (length xs) ys ≡ xs = sym (same_front b moves xs ys one.greedy two.greedy (length xs) (omega arith) (omega arith)) ∙ take-length xs in
      absurd (let wrong = sym one.complete ∙ ap (first_fit b moves) (sym front) ∙ two.greedy (length xs) less in cc)
  | inr most ↦ most
]

one_placing : (b : Basis) (moves : List Move) (xs ys : List ℕ) → IsPlacing b moves xs → IsPlacing b moves ys → xs ≡ ys
one_placing b moves xs ys one two =
    let most = not_longer b moves xs ys one two in
    let least = not_longer b moves ys xs two one in
    let same : length xs ≡ length ys = omega arith in
    sym (take-length xs) ∙ same_front b moves xs ys one.greedy two.greedy (length xs) (omega arith) (omega arith) ∙ ap (λ n. take n ys) same ∙ take-length ys

-- what one of the moves gives alone is the rule's reason, whatever order they are placed in
pub refused_alone : (b : Basis) (moves : List Move) (why : NoPlan) → first_refused b moves ≡ Some why → IsRefused b moves why
refused_alone b moves why alone =
    let all = are_placed b moves in
    (all.0, all.1, ap (λ (x : Option NoPlan). option_or x (option_or (no_room moves all.0) (option_or (no_spread b moves) (too_many b moves all.0)))) alone)

-- the rule has a plan for the moves or a reason why not, never both, and never two of either
pub rule_answers : (b : Basis) (moves : List Move) → AnswersOnce b moves
rule_answers b moves = record {
  some =
      let all = are_placed b moves in
      elim (cases_Option (refusal b moves all.0)) [
        | inl none ↦ inl (planned b (in_placed_order moves all.0), (all.0, all.1, none, refl))
        | inr why ↦ inr (why.0, (all.0, all.1, why.1))
      ];
  one_plan = λ p q one two. one.3 ∙ ap (λ placed. planned b (in_placed_order moves placed)) (one_placing b moves one.0 two.0 one.1 two.1) ∙ sym two.3;
  one_reason = λ why other one two. same_Some why other (sym one.2 ∙ ap (refusal b moves) (one_placing b moves one.0 two.0 one.1 two.1) ∙ two.2);
  not_both = λ plan why one two. absurd (let wrong = sym one.2 ∙ ap (refusal b moves) (one_placing b moves one.0 two.0 one.1 two.1) ∙ two.2 in cc);
}
