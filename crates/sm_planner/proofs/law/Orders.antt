-- A plan whose codes are gathered from numbered parts has an order, where each wait stands in a later part than its post.
use Rattle.std.proofs.Common.{◌≡◌, ℕ, zero, suc, ◌+◌, ◌-◌, ◌<◌, ◌≤◌, Some, List, [], ◌∷◌, ◌++◌, length, refl, sym, ap, ◌∙◌, arith, inl, inr, ◌⊎◌, subst, append_assoc, append-nil, length-append}
use Rattle.std.specs.Prelude.{slice_get, nat_lt}
use Rattle.std.specs.List.{AllByRecursion}
use Rattle.std.proofs.lemmas.Bool.{cases_eq, cases_lt, lt-ltb, le-ltb}
use Rattle.std.proofs.lemmas.List.{get_or_at}
use Rattle.std.proofs.lemmas.List.Elements.{All-nil}
use Rattle.std.proofs.lemmas.Option.{slice_get-get_or, slice_get_past, same_Some}
use Rattle.sm_placement.specs.Sums.{put, bit}
use Rattle.sm_placement.proofs.Sums.{put-here, put-apart}
use Rattle.sm_plan_code.specs.declared.instruction.Instr.{Instr}
use Rattle.sm_plan_code.specs.declared.instruction.Instr.TheVariants.{PrepareAdd, PrepareDrop, Add, Drop, Change, Publish, Unlist, Signal, Wait}
use Rattle.sm_plan_code.specs.Plan.{PlanModel}
use Rattle.sm_verifier.specs.Order.{code_at, PlanStep, IsPosted, IsRun, HasOrder}
use Rattle.sm_verifier.specs.Walk.{CanGoOn}
use Rattle.sm_verifier.proofs.Runs.{posted_more, one_more}
use Rattle.sm_verifier.proofs.Walks.{same_run}
use Rattle.sm_planner.proofs.law.Gathered.{gathered, gathered_own, gathered_other, gathered_begins, StandsIn}

slice_get_at : (front : List Instr) (i : Instr) (back : List Instr) → slice_get (front ++ i ∷ back) (length front) ≡ Some i
slice_get_at front i back =
    let long = length-append front (i ∷ back) in
    slice_get-get_or (front ++ i ∷ back) (length front) i (omega arith) ∙ ap Some (get_or_at front i back i (length front) refl)

stands_push : (x y : Instr) (xs : List Instr) → StandsIn x (xs ++ y ∷ []) → StandsIn x xs ⊎ (y ≡ x)
stands_push x y [] s = elim s [ inl here ↦ inr here | inr there ↦ absurd there ]
stands_push x y (z ∷ xs) s = elim s [
  | inl here ↦ inl (inl here)
  | inr there ↦ elim (stands_push x y xs there) [ inl low ↦ inl (inr low) | inr last ↦ inr last ]
]

module _ (plan : PlanModel) (class : ℕ → ℕ) (part : ℕ → List Instr) (count : ℕ) where
  -- what a wait of the n-th part waits for is posted in an earlier part
  abbrev pub IsServed : ℕ → Instr → Type 0
  IsServed n (PrepareAdd s v u) = Unit {0}
  IsServed n (PrepareDrop s u v) = Unit {0}
  IsServed n (Add s v role) = Unit {0}
  IsServed n (Drop s v) = Unit {0}
  IsServed n (Change s v to) = Unit {0}
  IsServed n (Publish s) = Unit {0}
  IsServed n (Unlist s) = Unit {0}
  IsServed n (Signal q) = Unit {0}
  IsServed n (Wait q) = (m : ℕ) × (m < n) × StandsIn (Signal q) (part m)

  -- the plan's codes are those of the parts, and each wait is served
  pub record IsOfParts : Type 0 where
    pub known : (n : ℕ) → n < count → class n < length plan.streams
    pub code : (i : ℕ) → i < length plan.streams → code_at plan i ≡ gathered class part count i
    pub served : (n : ℕ) → n < count → AllByRecursion (IsServed n) (part n)

module _ (plan : PlanModel) (class : ℕ → ℕ) (part : ℕ → List Instr) (count : ℕ) (is : IsOfParts plan class part count) where
  -- how far each stream is once n parts are made
  abbrev lengths : ℕ → ℕ → ℕ
  lengths n i = length (gathered class part n i)

  -- and once a piece of the next part is made
  abbrev lengths_by : ℕ → ℕ → ℕ → ℕ
  lengths_by n more = put (lengths n) (class n) (lengths n (class n) + more)

  -- a piece of the n-th part is made
  record IsPartWay (n : ℕ) (front : List Instr) (steps : List PlanStep) : Type 0 where
    run : IsRun plan steps (lengths_by n (length front))
    before : (m q : ℕ) → m < n → StandsIn (Signal q) (part m) → IsPosted plan q steps
    here : (q : ℕ) → StandsIn (Signal q) front → IsPosted plan q steps

  record IsMade (n : ℕ) (steps : List PlanStep) : Type 0 where
    run : IsRun plan steps (lengths n)
    before : (m q : ℕ) → m < n → StandsIn (Signal q) (part m) → IsPosted plan q steps

  code_around : (n : ℕ) → n < count → (rest : List Instr) × (code_at plan (class n) ≡ gathered class part n (class n) ++ (part n ++ rest))
  code_around n l =
      let more : (d : ℕ) × (d + suc n ≡ count) = (count - suc n, omega arith) in
      let after = gathered_begins class part (suc n) more.0 (class n) in (
        after.0,
        is.code (class n) (is.known n l)
            ∙ ap (λ k. gathered class part k (class n)) (sym more.1)
            ∙ after.1
            ∙ ap (λ (xs : List Instr). xs ++ after.0) (gathered_own class part n (class n) refl)
            ∙ append_assoc (gathered class part n (class n)) (part n) after.0,
      )

  -- the instruction that comes next
  next_is : (n : ℕ) → n < count → (front back : List Instr) (i : Instr) → part n ≡ front ++ i ∷ back →
      (slice_get (code_at plan (class n)) (lengths n (class n) + length front) ≡ Some i) × (lengths n (class n) + length front ≤ length (code_at plan (class n)))
  next_is n l front back i e =
      let around = code_around n l in
      let base = gathered class part n (class n) in
      let split : code_at plan (class n) ≡ (base ++ front) ++ i ∷ (back ++ around.0) =
      around.1
      ∙ ap (λ (xs : List Instr). base ++ (xs ++ around.0)) e
      ∙ ap (λ (xs : List Instr). base ++ xs) (append_assoc front (i ∷ back) around.0)
      ∙ sym (append_assoc base front (i ∷ (back ++ around.0))) in
      let long : length (base ++ front) ≡ lengths n (class n) + length front = length-append base front in (
        ap (λ (xs : List Instr). slice_get xs (lengths n (class n) + length front)) split
            ∙ ap (λ k. slice_get ((base ++ front) ++ i ∷ (back ++ around.0)) k) (sym long)
            ∙ slice_get_at (base ++ front) i (back ++ around.0),
        (let all = ap length split ∙ length-append (base ++ front) (i ∷ (back ++ around.0)) in omega arith),
      )

  served_here : (n : ℕ) (i : Instr) (steps : List PlanStep) → IsServed plan class part count n i → ((m q : ℕ) → m < n → StandsIn (Signal q) (part m) → IsPosted plan q steps) → (k : ℕ) → i ≡ Wait k → IsPosted plan k steps
  served_here n i steps s before k e =
      let t : IsServed plan class part count n (Wait k) = rw e at s in
      before t.0 k t.1 t.2

  one_step : (n : ℕ) → n < count → (front back : List Instr) (i : Instr) (steps : List PlanStep) → part n ≡ front ++ i ∷ back → IsServed plan class part count n i → IsPartWay n front steps → (more : List PlanStep) × IsPartWay n (front ++ i ∷ []) more
  one_step n l front back i steps e served way =
      let at : ℕ = lengths_by n (length front) (class n) in
      let at_is : at ≡ lengths n (class n) + length front = put-here (lengths n) (class n) (lengths n (class n) + length front) (class n) refl in
      let next = next_is n l front back i e in
      let get : slice_get (code_at plan (class n)) at ≡ Some i = ap (λ k. slice_get (code_at plan (class n)) k) at_is ∙ next.0 in
      let long = length-append front (i ∷ []) in
      let go : CanGoOn plan steps (lengths_by n (length front)) (class n) = record {
        within = (let w = next.1 in omega arith);
        posted = λ k wait. served_here n i steps served way.before k (same_Some i (Wait k) (sym get ∙ wait));
      } in
      let more : List PlanStep = steps ++ (class n, at) ∷ [] in (
        more,
        record {
          run = one_more plan steps (lengths_by n (length front)) (lengths_by n (length (front ++ i ∷ []))) (class n) way.run go (is.known n l)
              (let a = put-here (lengths n) (class n) (lengths n (class n) + length (front ++ i ∷ [])) (class n) refl in omega arith)
              (λ j apart. put-apart (lengths n) (class n) (lengths n (class n) + length (front ++ i ∷ [])) j apart ∙ sym (put-apart (lengths n) (class n) (lengths n (class n) + length front) j apart));
          before = λ m q less s. (posted_more plan q (class n) at steps).1 (inl (way.before m q less s));
          here = λ q s. elim (stands_push (Signal q) i front s) [
            | inl old ↦ (posted_more plan q (class n) at steps).1 (inl (way.here q old))
            | inr new ↦ (posted_more plan q (class n) at steps).1 (inr (get ∙ ap Some new))
          ];
        },
      )

  go_on : (n : ℕ) → n < count → (back front : List Instr) (steps : List PlanStep) → part n ≡ front ++ back → AllByRecursion (IsServed plan class part count n) back → IsPartWay n front steps → (more : List PlanStep) × IsPartWay n (part n) more
  go_on n l [] front steps e served way = (steps, subst (λ (xs : List Instr). IsPartWay n xs steps) (sym (append-nil front) ∙ sym e) way)
  go_on n l (i ∷ back) front steps e served way =
      let next = one_step n l front back i steps e served.0 way in
      go_on n l back (front ++ i ∷ []) next.0 (e ∙ sym (append_assoc front (i ∷ []) back)) served.1 next.1

  one_part : (n : ℕ) → n < count → (steps : List PlanStep) → IsMade n steps → (more : List PlanStep) × IsMade (suc n) more
  one_part n l steps made =
      let start : IsPartWay n [] steps = record {
        run = same_run plan steps (lengths n) (lengths_by n 0) made.run (λ i k. elim (cases_eq i (class n)) [
          | inl same ↦ put-here (lengths n) (class n) (lengths n (class n) + 0) i same ∙ (let e : lengths n i ≡ lengths n (class n) = ap (lengths n) same in omega arith)
          | inr other ↦ put-apart (lengths n) (class n) (lengths n (class n) + 0) i other
        ]);
        before = made.before;
        here = λ q s. absurd s;
      } in
      let whole = go_on n l (part n) [] steps refl (is.served n l) start in (
        whole.0,
        record {
          run = same_run plan whole.0 (lengths_by n (length (part n))) (lengths (suc n)) whole.1.run (λ i k. elim (cases_eq (class n) i) [
            | inl same ↦
                let long = ap length (gathered_own class part n i same) ∙ length-append (gathered class part n i) (part n) in
                let e : lengths n i ≡ lengths n (class n) = ap (lengths n) (sym same) in
                let h = put-here (lengths n) (class n) (lengths n (class n) + length (part n)) i (sym same) in
                omega arith
            | inr other ↦ ap length (gathered_other class part n i other) ∙ sym (put-apart (lengths n) (class n) (lengths n (class n) + length (part n)) i (λ f. other (sym f)))
          ]);
          before = λ m q less s. elim (cases_eq m n) [
            | inl same ↦ whole.1.here q (subst (λ k. StandsIn (Signal q) (part k)) same s)
            | inr low ↦ whole.1.before m q (omega arith) s
          ];
        },
      )

  parts : (n : ℕ) → n ≤ count → (steps : List PlanStep) × IsMade n steps
  parts zero l = (
    [],
    record {
      run = record {
        known = All-nil (λ step. step.0 < length plan.streams);
        within = λ i k. omega arith;
        own = λ i k. refl;
        posted = λ before after step k e w. nowhere before after step e;
      };
      before = λ m q less s. absurd (omega arith);
    },
  )
    where
      nowhere : {T : Type 0} {P : Type 0} (before after : List T) (x : T) → [] ≡ before ++ x ∷ after → P
      nowhere before after x e = absurd (let long = length-append before (x ∷ after) in let none = ap length e in omega arith)
  parts (suc n) l =
      let low = parts n (omega arith) in
      one_part n (omega arith) low.0 low.1

  -- ---- the ends of the streams

  abbrev ended : ℕ → ℕ → ℕ
  ended j i = length (code_at plan i) + bit (nat_lt i j)

  ends : (j : ℕ) → j ≤ length plan.streams → (steps : List PlanStep) × IsRun plan steps (ended j)
  ends zero l =
      let all = parts count (omega arith) in
      (all.0, same_run plan all.0 (lengths count) (ended 0) all.1.run (λ i k. rw (le-ltb i 0 (omega arith)) (let e = ap length (is.code i k) in omega arith)))
  ends (suc j) l =
      let low = ends j (omega arith) in
      let at : ended j j ≡ length (code_at plan j) = rw (le-ltb j j (omega arith)) (omega arith) in
      let go : CanGoOn plan low.0 (ended j) j = record {
        within = omega arith;
        posted = λ k wait. absurd (let past = slice_get_past (code_at plan j) (ended j j) (omega arith) in let wrong = sym past ∙ wait in cc);
      } in (
        low.0 ++ (j, ended j j) ∷ [],
        one_more plan low.0 (ended j) (ended (suc j)) j low.1 go (omega arith)
            (let now : ended (suc j) j ≡ length (code_at plan j) + 1 = rw (lt-ltb j (suc j) (omega arith)) refl in omega arith)
            (λ i apart. elim (cases_lt i j) [
              | inl less ↦ rw (lt-ltb i j less, lt-ltb i (suc j) (omega arith)) refl
              | inr more ↦ rw (le-ltb i j more, le-ltb i (suc j) (omega arith)) refl
            ]),
      )

  -- a plan of such parts has an order
  pub has_order : HasOrder plan
  has_order =
      let all = ends (length plan.streams) (omega arith) in
      (all.0, same_run plan all.0 (ended (length plan.streams)) (λ i. suc (length (code_at plan i))) all.1 (λ i k. sym (rw (lt-ltb i (length plan.streams) k) (omega arith))))
