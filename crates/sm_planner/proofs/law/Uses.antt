-- Each signal of a plan is posted once and awaited once.
use Rattle.std.proofs.Common.{◌≡◌, ◌≢◌, ℕ, zero, suc, ◌+◌, ◌<◌, ◌≤◌, Bool, true, false, Option, Some, None, List, [], ◌∷◌, ◌++◌, length, get_or, refl, sym, ap, ◌∙◌, arith, inl, inr}
use Rattle.std.specs.Prelude.{◌==◌, All, filter, map, count_by, sum_by}
use Rattle.std.specs.List.{range_with_len, AllByRecursion}
use Rattle.std.proofs.lemmas.Bool.{cases_Bool, cases_eq, eq-eqb, ne_eqb}
use Rattle.std.proofs.lemmas.List.{length-map}
use Rattle.sm_placement.specs.Place.{Place}
use Rattle.std.proofs.lemmas.List.Sums.{sum_by-cons, sum_by-append}
use Rattle.std.proofs.lemmas.List.Elements.{All-from_recursion, All-map}
use Rattle.sm_server.specs.Cell.{is_primary}
use Rattle.sm_placement.specs.Sums.{sum_below}
use Rattle.sm_placement.proofs.Sums.{same_sum, sum_apart, sum_one}
use Rattle.sm_plan_code.specs.declared.instruction.Instr.{Instr}
use Rattle.sm_plan_code.specs.declared.instruction.Instr.TheVariants.{Signal, Wait}
use Rattle.sm_plan_code.specs.Plan.{StreamModel, KnowsSignal, KnowsSignals}
use Rattle.sm_plan_code.specs.declared.moves.Move.{Move}
use Rattle.sm_verifier.specs.Stream.{no_stream}
use Rattle.sm_verifier.specs.Order.{code_at}
use Rattle.sm_verifier.specs.Plan.{is_post, is_wait, posts, waits, KeepsBudget, AreUsedOnce}
use Rattle.sm_verifier.proofs.SumLemmas.{sum_by-below}
use Rattle.sm_planner.specs.Basis.{Basis, move_at, left_cell}
use Rattle.sm_planner.specs.Payment.{HandedRoom, stream_of, signals_of}
use Rattle.sm_planner.specs.Plan.{signal_at, handed_parcel, handing_over, instructions, waits_of, posts_of, move_code, moves_of, stream, planned}
use Rattle.sm_planner.proofs.Ranges.{range_suc}
use Rattle.sm_planner.proofs.law.Gathered.{hit, gathered, gathered_own, gathered_other, stands_below, all_both, all_picked, all_of_parts}
use Rattle.sm_planner.proofs.law.Codes.{width, code_is, stream_count, stream_known}
use Rattle.sm_planner.proofs.law.Signals.{is_handed_on}

count-append : (t : Instr → Bool) (xs ys : List Instr) → count_by t (xs ++ ys) ≡ count_by t xs + count_by t ys
count-append t xs ys = sum_by-append (λ x. hit (t x)) xs ys

-- what is counted in the lists that are gathered is what is counted in the parts
pub count_gathered : (class : ℕ → ℕ) (part : ℕ → List Instr) (t : Instr → Bool) (wide n : ℕ) → ((k : ℕ) → k < n → class k < wide) →
    sum_below wide (λ i. count_by t (gathered class part n i)) ≡ sum_below n (λ k. count_by t (part k))
count_gathered class part t wide zero known = same_sum wide (λ i. 0) (λ i. 0) (λ i l. refl) ∙ none wide
  where
    none : (n : ℕ) → sum_below n (λ i. 0) ≡ 0
    none zero = refl
    none (suc n) = let e = none n in omega arith
count_gathered class part t wide (suc n) known =
    let low = count_gathered class part t wide n (λ k l. known k (omega arith)) in
    let more = sum_apart wide (λ i. count_by t (gathered class part (suc n) i)) (λ i. count_by t (gathered class part n i)) (class n) 0 (count_by t (part n)) (known n (omega arith))
    (λ j apart. ap (count_by t) (gathered_other class part n j (λ e. apart (sym e))))
    (let one = ap (count_by t) (gathered_own class part n (class n) refl) ∙ count-append t (gathered class part n (class n)) (part n) in omega arith) in
    omega arith

-- what is counted in the codes of a plan is what is counted in the codes of its moves
counted : (b : Basis) (order : List Move) (t : Instr → Bool) → sum_by (λ (s : StreamModel). count_by t s.code) (planned b order).streams ≡ sum_below (length order) (λ k. count_by t (move_code b order k))
counted b order t =
    let count = stream_count b order in
    sum_by-below (λ (s : StreamModel). count_by t s.code) (planned b order).streams no_stream
    ∙ ap (λ n. sum_below n (λ i. count_by t (code_at (planned b order) i))) count
    ∙ same_sum (width order) (λ i. count_by t (code_at (planned b order) i)) (λ i. count_by t (gathered stream_of (move_code b order) (length order) i)) (λ i l. ap (count_by t) (code_is b order i l))
    ∙ count_gathered stream_of (move_code b order) t (width order) (length order) (λ k l. stream_known order k l)

-- ---- counts in picked lists

none_picked : (t : Instr → Bool) (f : ℕ → Instr) (test : ℕ → Bool) (xs : List ℕ) → ((x : ℕ) → t (f x) ≡ false) → count_by t (map f (filter test xs)) ≡ 0
none_picked t f test [] never = refl
none_picked t f test (x ∷ xs) never = elim (cases_Bool (test x)) [
  | inl passes ↦ rw passes (let a = sum_by-cons (λ x. hit (t x)) (f x) (map f (filter test xs)) in let e : hit (t (f x)) ≡ 0 = rw (never x) refl in let low = none_picked t f test xs never in omega arith)
  | inr fails ↦ rw fails (none_picked t f test xs never)
]

not_picked : (t : Instr → Bool) (f : ℕ → Instr) (test : ℕ → Bool) (q : ℕ) (xs : List ℕ) → ((x : ℕ) → t (f x) ≡ (x == q)) → test q ≡ false → count_by t (map f (filter test xs)) ≡ 0
not_picked t f test q [] is not_q = refl
not_picked t f test q (x ∷ xs) is not_q = elim (cases_Bool (test x)) [
  | inl passes ↦ rw passes (
      let a = sum_by-cons (λ x. hit (t x)) (f x) (map f (filter test xs)) in
      let apart : x ≢ q = λ e. (let wrong = sym passes ∙ ap test e ∙ not_q in absurd cc) in
      let e : hit (t (f x)) ≡ 0 = ap hit (is x ∙ ne_eqb x q apart) in
      let low = not_picked t f test q xs is not_q in
      omega arith)
  | inr fails ↦ rw fails (not_picked t f test q xs is not_q)
]

is_picked : (t : Instr → Bool) (f : ℕ → Instr) (test : ℕ → Bool) (q : ℕ) (xs : List ℕ) → ((x : ℕ) → t (f x) ≡ (x == q)) → test q ≡ true → count_by t (map f (filter test xs)) ≡ count_by (λ x. x == q) xs
is_picked t f test q [] is yes_q = refl
is_picked t f test q (x ∷ xs) is yes_q =
    let low = is_picked t f test q xs is yes_q in
    let b = sum_by-cons (λ x. hit (x == q)) x xs in
    elim (cases_Bool (test x)) [
      | inl passes ↦ rw passes (let a = sum_by-cons (λ x. hit (t x)) (f x) (map f (filter test xs)) in let e : hit (t (f x)) ≡ hit (x == q) = ap hit (is x) in omega arith)
      | inr fails ↦ rw fails (
          let apart : x ≢ q = λ e. (let wrong = sym fails ∙ ap test e ∙ yes_q in absurd cc) in
          let e : hit (x == q) ≡ 0 = ap hit (ne_eqb x q apart) in
          omega arith)
    ]

once_in_range : (q n : ℕ) → (q < n → count_by (λ x. x == q) (range_with_len 0 n) ≡ 1) × (n ≤ q → count_by (λ x. x == q) (range_with_len 0 n) ≡ 0)
once_in_range q zero = (λ l. absurd (omega arith), λ l. refl)
once_in_range q (suc n) =
    let low = once_in_range q n in
    let more = ap (count_by (λ x. x == q)) (range_suc n) ∙ sum_by-append (λ x. hit (x == q)) (range_with_len 0 n) (n ∷ []) in (
      λ l. elim (cases_eq n q) [
        | inl here ↦ (let e : hit (n == q) ≡ 1 = ap hit (eq-eqb n q here) in let z = low.1 (omega arith) in more ∙ (omega arith))
        | inr apart ↦ (let e : hit (n == q) ≡ 0 = ap hit (ne_eqb n q apart) in let z = low.0 (omega arith) in more ∙ (omega arith))
      ],
      λ l. (let e : hit (n == q) ≡ 0 = ap hit (ne_eqb n q (λ s. absurd (omega arith))) in let z = low.1 (omega arith) in more ∙ (omega arith)),
    )

-- ---- counts in the code of a move

module _ (b : Basis) (order : List Move) (t : Instr → Bool) where
  count_move : (k : ℕ) → count_by t (move_code b order k) ≡ count_by t (waits_of (signals_of b order) k) + (count_by t (instructions b.place (move_at order k)) + count_by t (posts_of (signals_of b order) k))
  count_move k =
      let signals : List HandedRoom = signals_of b order in
      let is : List Instr = instructions b.place (move_at order k) in
      count-append t (waits_of signals k) (is ++ posts_of signals k) ∙ ap (λ n. count_by t (waits_of signals k) + n) (count-append t is (posts_of signals k))

handing_posts : (q : ℕ) (listed : Option ℕ) (m : Move) → count_by (is_post q) (handing_over listed m) ≡ 0
handing_posts q None m = refl
handing_posts q (Some v) m = refl

handing_waits : (q : ℕ) (listed : Option ℕ) (m : Move) → count_by (is_wait q) (handing_over listed m) ≡ 0
handing_waits q None m = refl
handing_waits q (Some v) m = refl

posts_nothing : (p : Place) (m : Move) (q : ℕ) → count_by (is_post q) (instructions p m) ≡ 0
posts_nothing p m q = elim (cases_Bool (is_primary (left_cell p m))) [
  | inl primary ↦ rw primary (handing_posts q (p.listed m.shard) m)
  | inr other ↦ rw other refl
]

waits_nothing : (p : Place) (m : Move) (q : ℕ) → count_by (is_wait q) (instructions p m) ≡ 0
waits_nothing p m q = elim (cases_Bool (is_primary (left_cell p m))) [
  | inl primary ↦ rw primary (handing_waits q (p.listed m.shard) m)
  | inr other ↦ rw other refl
]

module _ (b : Basis) (order : List Move) (q : ℕ) (known : q < length (signals_of b order)) where
  abbrev signals : List HandedRoom
  signals = signals_of b order

  abbrev source : ℕ
  source = (signal_at signals q).source

  abbrev payer : ℕ
  payer = (signal_at signals q).payer

  posts_own : (k : ℕ) → source ≡ k → count_by (is_post q) (move_code b order k) ≡ 1
  posts_own k own =
      let all = count_move b order (is_post q) k in
      let front = none_picked (is_post q) Wait (λ r. (signal_at signals r).payer == k) (range_with_len 0 (length signals)) (λ x. refl) in
      let middle = posts_nothing b.place (move_at order k) q in
      let back = is_picked (is_post q) Signal (λ r. (signal_at signals r).source == k) q (range_with_len 0 (length signals)) (λ x. refl) (eq-eqb source k own) in
      let one = (once_in_range q (length signals)).0 known in
      omega arith

  posts_other : (k : ℕ) → source ≢ k → count_by (is_post q) (move_code b order k) ≡ 0
  posts_other k other =
      let all = count_move b order (is_post q) k in
      let front = none_picked (is_post q) Wait (λ r. (signal_at signals r).payer == k) (range_with_len 0 (length signals)) (λ x. refl) in
      let middle = posts_nothing b.place (move_at order k) q in
      let back = not_picked (is_post q) Signal (λ r. (signal_at signals r).source == k) q (range_with_len 0 (length signals)) (λ x. refl) (ne_eqb source k other) in
      omega arith

  waits_own : (k : ℕ) → payer ≡ k → count_by (is_wait q) (move_code b order k) ≡ 1
  waits_own k own =
      let all = count_move b order (is_wait q) k in
      let front = is_picked (is_wait q) Wait (λ r. (signal_at signals r).payer == k) q (range_with_len 0 (length signals)) (λ x. refl) (eq-eqb payer k own) in
      let middle = waits_nothing b.place (move_at order k) q in
      let back = none_picked (is_wait q) Signal (λ r. (signal_at signals r).source == k) (range_with_len 0 (length signals)) (λ x. refl) in
      let one = (once_in_range q (length signals)).0 known in
      omega arith

  waits_other : (k : ℕ) → payer ≢ k → count_by (is_wait q) (move_code b order k) ≡ 0
  waits_other k other =
      let all = count_move b order (is_wait q) k in
      let front = not_picked (is_wait q) Wait (λ r. (signal_at signals r).payer == k) q (range_with_len 0 (length signals)) (λ x. refl) (ne_eqb payer k other) in
      let middle = waits_nothing b.place (move_at order k) q in
      let back = none_picked (is_wait q) Signal (λ r. (signal_at signals r).source == k) (range_with_len 0 (length signals)) (λ x. refl) in
      omega arith

  posted_once : posts (planned b order) q ≡ 1
  posted_once =
      let on = is_handed_on b order q known in
      let payer_known = on.payer in
      let low = on.source in
      counted b order (is_post q)
      ∙ sum_one (length order) (λ k. count_by (is_post q) (move_code b order k)) source (omega arith) (λ j apart. posts_other j (λ e. apart (sym e)))
      ∙ posts_own source refl

  awaited_once : waits (planned b order) q ≡ 1
  awaited_once =
      let on = is_handed_on b order q known in
      counted b order (is_wait q)
      ∙ sum_one (length order) (λ k. count_by (is_wait q) (move_code b order k)) payer on.payer (λ j apart. waits_other j (λ e. apart (sym e)))
      ∙ waits_own payer refl

-- each signal of the plan is posted once and awaited once
pub used_once : (b : Basis) (order : List Move) → AreUsedOnce (planned b order) (length (planned b order).signals)
used_once b order q l =
    let known : q < length (signals_of b order) = (let e = length-map (signals_of b order) (handed_parcel b order) in omega arith) in
    (posted_once b order q known, awaited_once b order q known)

-- ---- budgets

-- the budgets of the plan's streams add up to no more than the plan's
pub keeps_budget : (b : Basis) (order : List Move) → KeepsBudget (planned b order)
keeps_budget b order = (let e = same (range_with_len 0 (width order)) in omega arith)
  where
    same : (xs : List ℕ) → sum_by (λ (s : StreamModel). s.budget + s.retries) (map (stream b order) xs) ≡ sum_by (λ (s : StreamModel). s.budget) (map (stream b order) xs)
    same [] = refl
    same (x ∷ xs) =
        let one = sum_by-cons (λ (s : StreamModel). s.budget + s.retries) (stream b order x) (map (stream b order) xs) in
        let two = sum_by-cons (λ (s : StreamModel). s.budget) (stream b order x) (map (stream b order) xs) in
        let low = same xs in
        omega arith

-- ---- signals that are known

module _ (b : Basis) (order : List Move) where
  abbrev Knows : Instr → Type 0
  Knows i = KnowsSignal (length (planned b order).signals) i

  knows_handing : (listed : Option ℕ) (m : Move) → AllByRecursion Knows (handing_over listed m)
  knows_handing None m = (tt, (tt, (tt, (tt, tt))))
  knows_handing (Some v) m = (tt, (tt, (tt, (tt, (tt, tt)))))

  knows_instructions : (m : Move) → AllByRecursion Knows (instructions b.place m)
  knows_instructions m = elim (cases_Bool (is_primary (left_cell b.place m))) [
    | inl primary ↦ rw primary (knows_handing (b.place.listed m.shard) m)
    | inr other ↦ rw other (tt, (tt, tt))
  ]

  knows_move : (k : ℕ) → AllByRecursion Knows (move_code b order k)
  knows_move k =
      let signals : List HandedRoom = signals_of b order in
      let e = length-map (signals_of b order) (handed_parcel b order) in
      all_both Knows (waits_of signals k) (instructions b.place (move_at order k) ++ posts_of signals k)
      (all_picked Knows Wait (λ q. (signal_at signals q).payer == k) (range_with_len 0 (length signals)) (λ q s own. (let l = stands_below (length signals) q s in omega arith)))
      (all_both Knows (instructions b.place (move_at order k)) (posts_of signals k) (knows_instructions (move_at order k))
      (all_picked Knows Signal (λ q. (signal_at signals q).source == k) (range_with_len 0 (length signals)) (λ q s own. (let l = stands_below (length signals) q s in omega arith))))

  -- each signal that the plan's codes name is one of the plan's
  pub knows_signals : KnowsSignals (planned b order)
  knows_signals = All-map (λ (s : StreamModel). All Knows s.code) (stream b order) (range_with_len 0 (width order))
      (λ i d l. All-from_recursion Knows (stream b order (get_or (range_with_len 0 (width order)) i d)).code (all_of_parts Knows (move_code b order) (moves_of order (get_or (range_with_len 0 (width order)) i d)) (λ k s. knows_move k)))
