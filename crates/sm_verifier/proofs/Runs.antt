-- Runs of a plan: one step more, and why none goes further than one after which no stream can go.
use Rattle.std.proofs.Common.{◌≡◌, ◌≢◌, ℕ, ◌+◌, ◌<◌, ◌≤◌, suc, zero, List, [], ◌∷◌, ◌++◌, length, get_or, Some, refl, sym, ap, ◌∙◌, arith, inl, inr, length-append, append_assoc, append-nil, zero-add, ◌⊎◌, ◌↔◌}
use Rattle.std.specs.Prelude.{All, Contains, slice_get}
use Rattle.std.specs.List.{range_with_len}
use Rattle.std.proofs.lemmas.Bool.{cases_eq, cases_lt, eq-eqb, ne_eqb}
use Rattle.std.proofs.lemmas.List.{map-append, get_or_append_left, get_or_at}
use Rattle.std.proofs.lemmas.List.Elements.{All-push, All-nil, All-contains, Contains-push, Contains-append_left, Contains-append_right, Contains-append_cases, Contains-push_cases, filter-append}
use Rattle.std.proofs.lemmas.List.FromFn.{length-range_with_len, get_or-range_with_len}
use Rattle.sm_plan_code.specs.declared.instruction.Instr.TheVariants.{Signal, Wait}
use Rattle.sm_plan_code.specs.Plan.{PlanModel}
use Rattle.sm_verifier.specs.Order.{code_at, PlanStep, positions_of, IsPosted, ArePostsFirst, IsRun}
use Rattle.sm_verifier.specs.Walk.{CanGoOn}

-- ---- the positions of a stream

-- a step of the stream is one position more in front of its others
pub own_step : (i p : ℕ) (steps : List PlanStep) → positions_of i ((i, p) ∷ steps) ≡ p ∷ positions_of i steps
own_step i p steps = rw (eq-eqb i i refl) refl

other_step : (i j p : ℕ) (steps : List PlanStep) → (j ≡ i → ⊥) → positions_of i ((j, p) ∷ steps) ≡ positions_of i steps
other_step i j p steps other = rw (ne_eqb j i other) refl

-- a stream's positions in two lists of steps are those in the one, then those in the other
pub positions_append : (i : ℕ) (xs ys : List PlanStep) → positions_of i (xs ++ ys) ≡ positions_of i xs ++ positions_of i ys
positions_append i xs ys = rw filter-append (map-append _ _ _)

-- each position of a stream is that of one of its steps
pub from_positions : (i q : ℕ) (steps : List PlanStep) → Contains (positions_of i steps) q → Contains steps (i, q)
from_positions i q [] (k, l, e) = absurd (omega arith)
from_positions i q ((j, p) ∷ steps) h = elim (cases_eq j i) [
  | inl same ↦
      let h' : Contains ((p ∷ []) ++ positions_of i steps) q = rw (same, own_step i p steps) at h in
      elim (Contains-append_cases (p ∷ []) (positions_of i steps) q h') [
        | inl one ↦ elim (Contains-push_cases [] p q one) [
          | inl none ↦ absurd (let l = none.1 in omega arith)
          | inr here ↦ rw (same, here) (Contains-append_left ((i, q) ∷ []) steps (i, q) (Contains-push [] (i, q)))
        ]
        | inr more ↦ Contains-append_right ((j, p) ∷ []) steps (i, q) (from_positions i q steps more)
      ]
  | inr other ↦ Contains-append_right ((j, p) ∷ []) steps (i, q) (from_positions i q steps (rw (other_step i j p steps other) at h))
]

-- ---- numbers in a row

range_push : (from n : ℕ) → range_with_len from (suc n) ≡ range_with_len from n ++ (from + n) ∷ []
range_push from zero = let e : from + 0 ≡ from = omega arith in rw e refl
range_push from (suc n) = let e : from + 1 + n ≡ from + suc n = omega arith in ap (λ l. from ∷ l) (range_push (from + 1) n ∙ rw e refl)

in_range : (n q : ℕ) → q < n → Contains (range_with_len 0 n) q
in_range n q l = (q, rw length-range_with_len l, get_or-range_with_len 0 n q q l ∙ zero-add q)

-- what stands before a number in a row
pub record IsSplit (n : ℕ) (xs : List ℕ) (p : ℕ) : Type 0 where
  pub below : p < n
  pub front : (q : ℕ) → q < p → Contains xs q

-- of the numbers below n in a row, one stands behind all that are lower
pub split_range : (n p : ℕ) (xs ys : List ℕ) → xs ++ p ∷ ys ≡ range_with_len 0 n → IsSplit n xs p
split_range n p xs ys e =
    let long : length xs + suc (length ys) ≡ n = sym (length-append xs (p ∷ ys)) ∙ ap length e ∙ length-range_with_len 0 n in
    let here : p ≡ length xs = sym (get_or_at xs p ys 0 (length xs) refl) ∙ ap (λ l. get_or l (length xs) 0) e ∙ get_or-range_with_len 0 n (length xs) 0 (omega arith) ∙ zero-add (length xs) in
    record {
      below = omega arith;
      front = λ q l. (q, omega arith, sym (get_or_append_left xs (p ∷ ys) q q (omega arith)) ∙ ap (λ l. get_or l q q) e ∙ get_or-range_with_len 0 n q q (omega arith) ∙ zero-add q);
    }

-- ---- what a run has made

-- a run has each step of a stream below the number that it takes the stream to
pub in_run : (plan : PlanModel) (steps : List PlanStep) (to : ℕ → ℕ) (i q : ℕ) → IsRun plan steps to → i < length plan.streams → q < to i → Contains steps (i, q)
in_run plan steps to i q run known l = from_positions i q steps (rw (run.own i known) (in_range (to i) q l))

posted_in : (plan : PlanModel) (k : ℕ) (steps more : List PlanStep) → ((step : PlanStep) → Contains steps step → Contains more step) → IsPosted plan k steps → IsPosted plan k more
posted_in plan k steps more within p = (p.0, within p.0 p.1, p.2)

-- one step more posts what its instruction posts
pub posted_more : (plan : PlanModel) (k i p : ℕ) (steps : List PlanStep) → IsPosted plan k (steps ++ (i, p) ∷ []) ↔ (IsPosted plan k steps ⊎ (slice_get (code_at plan i) p ≡ Some (Signal k)))
posted_more plan k i p steps = (
  λ h. elim (Contains-push_cases steps (i, p) h.0 h.1) [ inl old ↦ inl (h.0, old, h.2) | inr new ↦ inr (rw (← new) at h.2) ],
  λ h. elim h [ inl old ↦ posted_in plan k steps (steps ++ (i, p) ∷ []) (λ step c. Contains-append_left steps ((i, p) ∷ []) step c) old | inr new ↦ ((i, p), Contains-push steps (i, p), new) ],
)

-- ---- one step more

last_split : {A : Type 0} (xs : List A) (x : A) (before after : List A) (s : A) → xs ++ x ∷ [] ≡ before ++ s ∷ after → ((before ≡ xs) × (s ≡ x)) ⊎ ((rest : List A) × (xs ≡ before ++ s ∷ rest))
last_split [] x [] after s e = inl (refl, cc)
last_split [] x (b ∷ before) after s e = absurd (let l = simp length-append at (ap length e) in omega arith)
last_split (y ∷ xs) x [] after s e = let same : y ≡ s = cc in inr (xs, rw same refl)
last_split (y ∷ xs) x (b ∷ before) after s e =
    let head : y ≡ b = cc in
    let tail : xs ++ x ∷ [] ≡ before ++ s ∷ after = cc in
    elim (last_split xs x before after s tail) [
      | inl last ↦ inl (rw (head, last.0) refl, last.1)
      | inr more ↦ inr (more.0, rw (head, more.1) refl)
    ]

posts_first : (plan : PlanModel) (steps : List PlanStep) (i p : ℕ) → ArePostsFirst plan steps → ((k : ℕ) → slice_get (code_at plan i) p ≡ Some (Wait k) → IsPosted plan k steps) → ArePostsFirst plan (steps ++ (i, p) ∷ [])
posts_first plan steps i p first here before after step k e wait = elim (last_split steps (i, p) before after step e) [
  | inl last ↦ rw last.0 (here k (rw last.1 at wait))
  | inr more ↦ first before more.0 step k more.1 wait
]

-- a run with the next step of a stream that can go on is a run that takes this stream one step further
pub one_more : (plan : PlanModel) (steps : List PlanStep) (to by : ℕ → ℕ) (i : ℕ) → IsRun plan steps to → CanGoOn plan steps to i → i < length plan.streams → by i ≡ suc (to i) → ((j : ℕ) → j ≢ i → by j ≡ to j) → IsRun plan (steps ++ (i, to i) ∷ []) by
one_more plan steps to by i run go known next others = record {
  known = All-push (λ step. step.0 < length plan.streams) steps (i, to i) run.known known;
  within = λ j l. elim (cases_eq j i) [
    | inl same ↦ rw (same, next) (let w = go.within in omega arith)
    | inr other ↦ rw (others j other) (run.within j l)
  ];
  own = λ j l. elim (cases_eq j i) [
    | inl same ↦ rw (same, next) (positions_append i steps ((i, to i) ∷ []) ∙ ap (λ (xs : List ℕ). xs ++ positions_of i ((i, to i) ∷ [])) (run.own i known) ∙ rw (own_step i (to i) []) (sym (rw (zero-add (to i)) at (range_push 0 (to i)))))
    | inr other ↦ rw (others j other) (positions_append j steps ((i, to i) ∷ []) ∙ rw (other_step j i (to i) [] (λ e. other (sym e))) (append-nil (positions_of j steps) ∙ run.own j l))
  ];
  posted = posts_first plan steps i (to i) run.posted go.posted;
}

-- a step between two parts of a list stands in it
pub stands_in : (steps before : List PlanStep) (step : PlanStep) (after : List PlanStep) → steps ≡ before ++ step ∷ after → Contains steps step
stands_in steps before step after e = rw e (Contains-append_right before (step ∷ after) step (Contains-append_left (step ∷ []) after step (Contains-push [] step)))

-- ---- no run goes further

module _ (plan : PlanModel) (steps : List PlanStep) (to : ℕ → ℕ) (run : IsRun plan steps to) (stuck : (i : ℕ) → i < length plan.streams → ¬ CanGoOn plan steps to i) (others : List PlanStep) (by : ℕ → ℕ) (other : IsRun plan others by) where
  abbrev IsMade : PlanStep → Type 0
  IsMade step = step.1 < to step.0

  -- where all steps before one of the other run are made, what they post is posted
  posted_here : (before : List PlanStep) (step : PlanStep) (after : List PlanStep) (k : ℕ) → others ≡ before ++ step ∷ after → All IsMade before → IsPosted plan k before → IsPosted plan k steps
  posted_here before step after k e all p = posted_in plan k before steps (λ s c. in_run plan steps to s.0 s.1 run (All-contains (λ s. s.0 < length plan.streams) others s other.known (rw e (Contains-append_left before (step ∷ after) s c))) (All-contains IsMade before s all c)) p

  next_made : (before after : List PlanStep) (i p : ℕ) → others ≡ before ++ (i, p) ∷ after → All IsMade before → p < to i
  next_made before after i p e all =
      let known : i < length plan.streams = All-contains (λ s. s.0 < length plan.streams) others (i, p) other.known (stands_in others before (i, p) after e) in
      let apart : positions_of i others ≡ positions_of i before ++ p ∷ positions_of i after = ap (positions_of i) e ∙ positions_append i before ((i, p) ∷ after) ∙ rw (own_step i p after) refl in
      let split : IsSplit (by i) (positions_of i before) p = split_range (by i) p (positions_of i before) (positions_of i after) (sym apart ∙ other.own i known) in
      elim (cases_lt p (to i)) [
        | inl less ↦ less
        | inr most ↦ elim (cases_eq p (to i)) [
          | inl same ↦ absurd (stuck i known (record {
            within = let w = other.within i known in let l = split.below in omega arith;
            posted = λ k wait. posted_here before (i, p) after k e all (other.posted before after (i, p) k e (rw same wait));
          }))
          | inr apart ↦ absurd (let l = All-contains IsMade before (i, to i) all (from_positions i (to i) before (split.front (to i) (omega arith))) in omega arith)
        ]
      ]

  all_made : (before after : List PlanStep) → others ≡ before ++ after → All IsMade before → All IsMade others
  all_made before [] e all = rw (e ∙ append-nil before) all
  all_made before ((i, p) ∷ after) e all = all_made (before ++ (i, p) ∷ []) after (e ∙ sym (append_assoc before ((i, p) ∷ []) after)) (All-push IsMade before (i, p) all (next_made before after i p e all))

  -- no other run takes a stream further than one after which no stream can go on
  pub no_further : (i : ℕ) → i < length plan.streams → by i ≤ to i
  no_further i known = elim (cases_lt (to i) (by i)) [
    | inl less ↦ absurd (let l = All-contains IsMade others (i, to i) (all_made [] others refl (All-nil IsMade)) (in_run plan others by i (to i) other known less) in omega arith)
    | inr most ↦ most
  ]
