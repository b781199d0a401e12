-- The list of unfinished plans: what it is after a change of one plan, and searches over it.
use Rattle.std.proofs.Common.{◌≡◌, ◌≢◌, ◌<◌, ◌≤◌, ◌+◌, ◌-◌, ◌++◌, ◌∷◌, [], ℕ, zero, suc, Bool, true, false, not, refl, sym, ap, ◌∙◌, subst, arith, inl, inr, Option, Some, None, List, length, get_or, set, drop}
use Rattle.std.specs.Prelude.{◌==◌, nat_lt, is_some, if◌then◌else◌}
use Rattle.std.specs.List.{filter}
use Rattle.std.proofs.lemmas.Bool.{cases_eq, cases_lt, eq-eqb, ne_eqb, eqb-true, eqb-false, lt-ltb, le-ltb}
use Rattle.std.proofs.lemmas.List.{append-nil, length-set, get_or-set_same, get_or-set_other, drop_more, drop_all}
use Rattle.std.proofs.lemmas.List.Elements.{filter-append}
use Rattle.sm_placement.specs.Sums.{bit, first_from}
use Rattle.sm_plan_code.specs.declared.limits.TheConstants.{MOST_PLANS}
use Rattle.sm_protocol.proofs.Starts.{length_push, get_push_old, get_push_new}
use Rattle.sm_machine.specs.Begun.{BegunModel, no_begun}
use Rattle.sm_machine.specs.Unfinished.{unfinished_below, unfinished_of, AreUnfinished}
use Rattle.std.specs.Prelude.{◌&&◌}
use Rattle.std.specs.List.{list_any}
use Rattle.sm_placement.proofs.Searches.{any_none, any_by_count}
use Rattle.sm_placement.proofs.Sums.{same_sum}
use Rattle.sm_protocol.specs.State.{State, stream_id, stream_count, stream_parts}
use Rattle.sm_protocol.specs.Happens.{engaged, is_mentioned}
use Rattle.sm_machine.specs.Engaged.{engaged_by}
use Rattle.sm_machine.specs.State.{Whole}
use Rattle.sm_machine.specs.Tied.{unfinished_count}
use Rattle.sm_machine.specs.Working.{IsWorking}
use Rattle.sm_machine.proofs.Writes.{laid_back}
use Rattle.sm_machine.proofs.ties.Finishing.{running_by, running_is}

-- ---- changes of one plan

pub same_below : (a b : ℕ → ℕ) (n : ℕ) → ((k : ℕ) → k < n → (a k == 0) ≡ (b k == 0)) → unfinished_below a n ≡ unfinished_below b n
same_below a b zero e = refl
same_below a b (suc n) e =
    let before = same_below a b n (λ k l. e k (omega arith)) in
    ap (λ t. if t then unfinished_below a n else unfinished_below a n ++ n ∷ []) (e n (omega arith)) ∙ ap (λ xs. if b n == 0 then xs else xs ++ n ∷ []) before

pub unfinished_kept : (plans : List BegunModel) (k : ℕ) (x : BegunModel) (numbers : List ℕ) → k < length plans → (x.unfinished == 0) ≡ (unfinished_of plans k == 0) → AreUnfinished plans numbers → AreUnfinished (set plans k x) numbers
unfinished_kept plans k x numbers l e are =
    are ∙ sym (ap (unfinished_below (unfinished_of (set plans k x))) (length-set plans k x)
    ∙ same_below (unfinished_of (set plans k x)) (unfinished_of plans) (length plans) (λ j m. elim (cases_eq j k) [
      | inl here ↦ ap (λ i. (get_or (set plans k x) i no_begun).unfinished == 0) here ∙ ap (λ (y : BegunModel). y.unfinished == 0) (get_or-set_same plans k x no_begun l) ∙ e ∙ ap (λ i. unfinished_of plans i == 0) (sym here)
      | inr apart ↦ ap (λ (y : BegunModel). y.unfinished == 0) (get_or-set_other plans k j x no_begun apart)
    ]))

pub unfinished_more : (plans : List BegunModel) (x : BegunModel) (numbers : List ℕ) → AreUnfinished plans numbers →
    AreUnfinished (plans ++ x ∷ []) (if x.unfinished == 0 then numbers else numbers ++ length plans ∷ [])
unfinished_more plans x numbers are =
    let old : unfinished_below (unfinished_of (plans ++ x ∷ [])) (length plans) ≡ unfinished_below (unfinished_of plans) (length plans) =
    same_below (unfinished_of (plans ++ x ∷ [])) (unfinished_of plans) (length plans) (λ k l. ap (λ (y : BegunModel). y.unfinished == 0) (get_push_old plans x k no_begun l)) in
    ap (λ xs. if x.unfinished == 0 then xs else xs ++ length plans ∷ []) (are ∙ sym old)
    ∙ ap (λ (y : BegunModel). if y.unfinished == 0 then unfinished_below (unfinished_of (plans ++ x ∷ [])) (length plans) else unfinished_below (unfinished_of (plans ++ x ∷ [])) (length plans) ++ length plans ∷ [])
    (sym (get_push_new plans x no_begun))
    ∙ sym (ap (unfinished_below (unfinished_of (plans ++ x ∷ []))) (length_push plans x))

-- without a plan that has no unfinished stream now
without : (a b : ℕ → ℕ) (k n : ℕ) → ((j : ℕ) → j ≢ k → (a j == 0) ≡ (b j == 0)) → (b k == 0) ≡ true →
    filter (λ j. not (j == k)) (unfinished_below a n) ≡ unfinished_below b n
without a b k zero e none = refl
without a b k (suc n) e none = elim (cases_eq n k) [
  | inl here ↦
      let gone : (b n == 0) ≡ true = ap (λ j. b j == 0) here ∙ none in
      by_test (a n == 0) here ∙ without a b k n e none ∙ sym (ap (λ t. if t then unfinished_below b n else unfinished_below b n ++ n ∷ []) gone)
  | inr apart ↦
      by_other (without a b k n e none) (a n == 0) apart ∙ ap (λ t. if t then unfinished_below b n else unfinished_below b n ++ n ∷ []) (e n apart)
]
  where
    test : ℕ → Bool
    test j = not (j == k)

    by_test : (t : Bool) → n ≡ k → filter test (if t then unfinished_below a n else unfinished_below a n ++ n ∷ []) ≡ filter test (unfinished_below a n)
    by_test true here = refl
    by_test false here =
        let no : (n == k) ≡ true = eq-eqb n k here in
        let out : filter test (n ∷ []) ≡ [] = rw no refl in
        filter-append test (unfinished_below a n) (n ∷ []) ∙ ap (λ xs. filter test (unfinished_below a n) ++ xs) out ∙ append-nil (filter test (unfinished_below a n))

    by_other : filter test (unfinished_below a n) ≡ unfinished_below b n → (t : Bool) → n ≢ k → filter test (if t then unfinished_below a n else unfinished_below a n ++ n ∷ []) ≡ (if t then unfinished_below b n else unfinished_below b n ++ n ∷ [])
    by_other before true apart = before
    by_other before false apart =
        let yes : (n == k) ≡ false = ne_eqb n k apart in
        let stays : filter test (n ∷ []) ≡ n ∷ [] = rw yes refl in
        filter-append test (unfinished_below a n) (n ∷ []) ∙ ap (λ xs. filter test (unfinished_below a n) ++ xs) stays ∙ ap (λ xs. xs ++ n ∷ []) before

pub unfinished_less : (plans : List BegunModel) (k : ℕ) (x : BegunModel) (numbers : List ℕ) → k < length plans → (x.unfinished == 0) ≡ true → AreUnfinished plans numbers →
    AreUnfinished (set plans k x) (filter (λ j. not (j == k)) numbers)
unfinished_less plans k x numbers l e are =
    ap (filter (λ j. not (j == k))) are
    ∙ without (unfinished_of plans) (unfinished_of (set plans k x)) k (length plans)
    (λ j apart. sym (ap (λ (y : BegunModel). y.unfinished == 0) (get_or-set_other plans k j x no_begun apart)))
    (ap (λ (y : BegunModel). y.unfinished == 0) (get_or-set_same plans k x no_begun l) ∙ e)
    ∙ sym (ap (unfinished_below (unfinished_of (set plans k x))) (length-set plans k x))

-- a plan that was swapped out, changed and swapped back
pub swapped : (plans mid new : List BegunModel) (k : ℕ) (d n x : BegunModel) (numbers : List ℕ) → k < length plans → new ≡ set mid k x → mid ≡ set plans k d → n ≡ get_or plans k no_begun →
    (x.unfinished == 0) ≡ (n.unfinished == 0) → AreUnfinished plans numbers → AreUnfinished new numbers
swapped plans mid new k d n x numbers l back out here e are =
    subst (λ ps. AreUnfinished ps numbers) (sym (laid_back plans mid new k d x back out))
    (unfinished_kept plans k x numbers l (e ∙ ap (λ (y : BegunModel). y.unfinished == 0) here) are)

-- with one unfinished stream less
one_less : (m : ℕ) → (m == 1) ≡ false → (m - 1 == 0) ≡ (m == 0)
one_less m e = elim (cases_eq m 0) [
  | inl none ↦ eq-eqb (m - 1) 0 (omega arith) ∙ sym (eq-eqb m 0 none)
  | inr some ↦ ne_eqb (m - 1) 0 (λ z. eqb-false m 1 e (omega arith)) ∙ sym (ne_eqb m 0 some)
]

-- a plan with one unfinished stream less is unfinished as before, if that was not its last one
pub one_less_of : (n x : BegunModel) (t : Bool) → x ≡ record n { unfinished = n.unfinished - 1 } → t ≡ (n.unfinished == 1) → t ≡ false → (x.unfinished == 0) ≡ (n.unfinished == 0)
one_less_of n x t e last more = ap (λ (y : BegunModel). y.unfinished == 0) e ∙ one_less n.unfinished (sym last ∙ more)

-- a plan that was swapped out, left by its last unfinished stream and swapped back is off the list
pub swapped_last : (plans mid new : List BegunModel) (k : ℕ) (d n x : BegunModel) (t : Bool) (numbers left : List ℕ) → k < length plans → new ≡ set mid k x → mid ≡ set plans k d → n ≡ get_or plans k no_begun →
    x ≡ record n { unfinished = n.unfinished - 1 } → t ≡ (n.unfinished == 1) → t ≡ true → left ≡ filter (λ j. not (j == k)) numbers → AreUnfinished plans numbers → AreUnfinished new left
swapped_last plans mid new k d n x t numbers left l back out here e last so is are =
    let one : n.unfinished ≡ 1 = eqb-true n.unfinished 1 (sym last ∙ so) in
    let none : x.unfinished ≡ n.unfinished - 1 = ap (λ (y : BegunModel). y.unfinished) e in
    is ∙ subst (λ ps. AreUnfinished ps (filter (λ j. not (j == k)) numbers)) (sym (laid_back plans mid new k d x back out))
    (unfinished_less plans k x numbers l (eq-eqb x.unfinished 0 (omega arith)) are)

-- a plan more, of so many streams
pub one_more : (plans new : List BegunModel) (old x : BegunModel) (t : Bool) (number m : ℕ) (numbers list : List ℕ) → new ≡ plans ++ x ∷ [] → x ≡ record old { courses = x.courses } → old.unfinished ≡ m →
    number ≡ length plans → t ≡ nat_lt 0 m → list ≡ (if t then numbers ++ number ∷ [] else numbers) → AreUnfinished plans numbers → AreUnfinished new list
one_more plans new old x t number m numbers list e kept count at some is are =
    let same : x.unfinished ≡ m = ap (λ (y : BegunModel). y.unfinished) kept ∙ count in
    let turned : (if t then numbers ++ number ∷ [] else numbers) ≡ (if x.unfinished == 0 then numbers else numbers ++ length plans ∷ []) =
    ap (λ b. if b then numbers ++ number ∷ [] else numbers) some ∙ ap (λ k. if nat_lt 0 m then numbers ++ k ∷ [] else numbers) at ∙ by_count m ∙ ap (λ k. if k == 0 then numbers else numbers ++ length plans ∷ []) (sym same) in
    subst (λ ps. AreUnfinished ps list) (sym e) (is ∙ turned ∙ unfinished_more plans x numbers are)
  where
    by_count : (k : ℕ) → (if nat_lt 0 k then numbers ++ length plans ∷ [] else numbers) ≡ (if k == 0 then numbers else numbers ++ length plans ∷ [])
    by_count k = elim (cases_eq k 0) [
      | inl z ↦ rw (le-ltb 0 k (omega arith), eq-eqb k 0 z) refl
      | inr z ↦ rw (lt-ltb 0 k (omega arith), ne_eqb k 0 z) refl
    ]

-- ---- how many they are

pub count_unfinished : (counts : ℕ → ℕ) (n : ℕ) → length (unfinished_below counts n) ≡ running_by n counts
count_unfinished counts zero = refl
count_unfinished counts (suc n) =
    let same = count_unfinished counts n in
    elim (cases_eq (counts n) 0) [
      | inl none ↦
          let t : (counts n == 0) ≡ true = eq-eqb (counts n) 0 none in
          let z : bit (nat_lt 0 (counts n)) ≡ 0 = ap bit (le-ltb 0 (counts n) (omega arith)) in
          ap (λ b. length (if b then unfinished_below counts n else unfinished_below counts n ++ n ∷ [])) t ∙ (omega arith)
      | inr some ↦
          let t : (counts n == 0) ≡ false = ne_eqb (counts n) 0 some in
          let z : bit (nat_lt 0 (counts n)) ≡ 1 = ap bit (lt-ltb 0 (counts n) (omega arith)) in
          let more : length (unfinished_below counts n ++ n ∷ []) ≡ suc (length (unfinished_below counts n)) = length_push (unfinished_below counts n) n in
          ap (λ b. length (if b then unfinished_below counts n else unfinished_below counts n ++ n ∷ [])) t ∙ (omega arith)
    ]

-- ---- searches

abbrev pub or_else : {A : Type 0} → Option A → Option A → Option A
or_else None o = o
or_else (Some x) o = Some x

or_none : {A : Type 0} (o : Option A) → or_else o None ≡ o
or_none None = refl
or_none (Some x) = refl

or_joined : {A : Type 0} (o p q : Option A) → or_else o (or_else p q) ≡ or_else (or_else o p) q
or_joined None p q = refl
or_joined (Some x) p q = refl

-- the first answer at the numbers of a list, in turn
abbrev pub first_in : {A : Type 0} → (ℕ → Option A) → List ℕ → Option A
first_in f [] = None
first_in f (k ∷ ks) = or_else (f k) (first_in f ks)

first_in_end : {A : Type 0} (f : ℕ → Option A) (ks : List ℕ) (k : ℕ) → first_in f (ks ++ k ∷ []) ≡ or_else (first_in f ks) (f k)
first_in_end f [] k = or_none (f k)
first_in_end f (j ∷ ks) k = ap (or_else (f j)) (first_in_end f ks k) ∙ or_joined (f j) (first_in f ks) (f k)

first_at : {A : Type 0} (f : ℕ → Option A) (a n : ℕ) (o : Option A) → f a ≡ o → first_from a (suc n) f ≡ or_else o (first_from (a + 1) n f)
first_at f a n None e = rw e refl
first_at f a n (Some x) e = rw e refl

first_from_end : {A : Type 0} (f : ℕ → Option A) (a n : ℕ) → first_from a (suc n) f ≡ or_else (first_from a n f) (f (a + n))
first_from_end f a zero =
    let here : a ≡ a + 0 = omega arith in
    first_at f a zero (f a) refl ∙ or_none (f a) ∙ ap f here
first_from_end f a (suc n) =
    let here : a + 1 + n ≡ a + suc n = omega arith in
    first_at f a (suc n) (f a) refl
    ∙ ap (or_else (f a)) (first_from_end f (a + 1) n ∙ ap (λ k. or_else (first_from (a + 1) n f) (f k)) here)
    ∙ or_joined (f a) (first_from (a + 1) n f) (f (a + suc n))
    ∙ ap (λ o. or_else o (f (a + suc n))) (sym (first_at f a n (f a) refl))

-- a search over all plans finds what one over the unfinished ones does, where nothing is found at the others
pub first_unfinished : {A : Type 0} (f : ℕ → Option A) (counts : ℕ → ℕ) (n : ℕ) → ((k : ℕ) → k < n → counts k ≡ 0 → f k ≡ None) → first_in f (unfinished_below counts n) ≡ first_from 0 n f
first_unfinished f counts zero none = refl
first_unfinished f counts (suc n) none =
    let before = first_unfinished f counts n (λ k l e. none k (omega arith) e) in
    let here : 0 + n ≡ n = omega arith in
    let last : first_from 0 (suc n) f ≡ or_else (first_from 0 n f) (f n) = first_from_end f 0 n ∙ ap (λ k. or_else (first_from 0 n f) (f k)) here in
    elim (cases_eq (counts n) 0) [
      | inl e ↦
          let t : (counts n == 0) ≡ true = eq-eqb (counts n) 0 e in
          ap (λ b. first_in f (if b then unfinished_below counts n else unfinished_below counts n ++ n ∷ [])) t ∙ before
          ∙ sym (last ∙ ap (or_else (first_from 0 n f)) (none n (omega arith) e) ∙ or_none (first_from 0 n f))
      | inr e ↦
          let t : (counts n == 0) ≡ false = ne_eqb (counts n) 0 e in
          ap (λ b. first_in f (if b then unfinished_below counts n else unfinished_below counts n ++ n ∷ [])) t
          ∙ first_in_end f (unfinished_below counts n) n ∙ ap (λ o. or_else o (f n)) before ∙ sym last
    ]

none_from : {A : Type 0} (f : ℕ → Option A) (a n : ℕ) → ((k : ℕ) → k < a + n → f k ≡ None) → first_from a n f ≡ None
none_from f a zero none = refl
none_from f a (suc n) none = first_at f a n None (none a (omega arith)) ∙ none_from f (a + 1) n (λ k l. none k (omega arith))

-- no stream of a plan without unfinished ones engages a server
none_engages : (w : State) (v k : ℕ) → unfinished_count w k ≡ 0 → engaged_by w v k ≡ None
none_engages w v k e =
    let none = any_by_count (stream_count w k) (λ j. not (w.progress k j).done) ∙ le-ltb 0 (unfinished_count w k) (omega arith) in
    none_from _ 0 (stream_count w k) (λ i l.
    ap (λ b. if b && list_any (is_mentioned v) (stream_parts w (stream_id k i)).code then Some (stream_id k i) else None) (any_none (stream_count w k) (λ j. not (w.progress k j).done) none i (omega arith)))

-- the lowest stream that engages a server is found in the unfinished plans
pub all_engaged : (x : Whole) → IsWorking x → (v : ℕ) → first_in (engaged_by x.state v) (unfinished_below x.unfinished (length x.state.plans)) ≡ engaged x.state v
all_engaged x g v = first_unfinished (engaged_by x.state v) x.unfinished (length x.state.plans) (λ k l e. none_engages x.state v k (sym (g.counted.streams k l) ∙ e))

-- where a plan more may run, the list has a place for it
pub place_left : (x : Whole) → IsWorking x → x.running < MOST_PLANS → length (unfinished_below x.unfinished (length x.state.plans)) < MOST_PLANS
place_left x g few =
    let n : ℕ = length x.state.plans in
    let a = count_unfinished x.unfinished n in
    let b : running_by n x.unfinished ≡ running_by n (unfinished_count x.state) = same_sum n _ _ (λ k l. ap (λ m. bit (nat_lt 0 m)) (g.counted.streams k l)) in
    let c = running_is x.state in
    let d = g.counted.plans in
    omega arith

-- each number of the list is one of a plan
pub unfinished_known : (counts : ℕ → ℕ) (n i d : ℕ) → i < length (unfinished_below counts n) → get_or (unfinished_below counts n) i d < n
unfinished_known counts zero i d l = absurd (omega arith)
unfinished_known counts (suc n) i d l = go (unfinished_known counts n i d) (counts n == 0) l
  where
    go : (i < length (unfinished_below counts n) → get_or (unfinished_below counts n) i d < n) → (b : Bool) → i < length (if b then unfinished_below counts n else unfinished_below counts n ++ n ∷ []) → get_or (if b then unfinished_below counts n else unfinished_below counts n ++ n ∷ []) i d < suc n
    go before true m = let r = before m in omega arith
    go before false m = elim (cases_lt i (length (unfinished_below counts n))) [
      | inl old ↦
          let r = before old in
          let same = get_push_old (unfinished_below counts n) n i d old in
          omega arith
      | inr new ↦
          let more : length (unfinished_below counts n ++ n ∷ []) ≡ suc (length (unfinished_below counts n)) = length_push (unfinished_below counts n) n in
          let here : i ≡ length (unfinished_below counts n) = omega arith in
          let same : get_or (unfinished_below counts n ++ n ∷ []) i d ≡ n = ap (λ j. get_or (unfinished_below counts n ++ n ∷ []) j d) here ∙ get_push_new (unfinished_below counts n) n d in
          omega arith
    ]

-- one number of the list in turn
first_next : {A : Type 0} (f : ℕ → Option A) (ks : List ℕ) (i d : ℕ) (o : Option A) → i < length ks → f (get_or ks i d) ≡ o → first_in f (drop i ks) ≡ or_else o (first_in f (drop (i + 1) ks))
first_next f ks i d o l e = ap (first_in f) (drop_more ks i d l) ∙ ap (λ p. or_else p (first_in f (drop (i + 1) ks))) e

-- where the number at place i has an answer, that is the first answer from there on
pub first_found : {A : Type 0} (f : ℕ → Option A) (ks : List ℕ) (i d : ℕ) (o : Option A) → i < length ks → f (get_or ks i d) ≡ o → is_some o ≡ true → first_in f (drop i ks) ≡ o
first_found f ks i d (Some x) l e t = first_next f ks i d (Some x) l e
first_found f ks i d None l e t = absurd (cc)

-- where it has none, the first answer from there on is that from the next place on
pub first_passed : {A : Type 0} (f : ℕ → Option A) (ks : List ℕ) (i d : ℕ) (o : Option A) → i < length ks → f (get_or ks i d) ≡ o → is_some o ≡ false → first_in f (drop i ks) ≡ first_in f (drop (i + 1) ks)
first_passed f ks i d None l e t = first_next f ks i d None l e
first_passed f ks i d (Some x) l e t = absurd (cc)

-- past the end of the list there is no answer
pub first_past : {A : Type 0} (f : ℕ → Option A) (ks : List ℕ) (i : ℕ) → length ks ≤ i → first_in f (drop i ks) ≡ None
first_past f ks i l = ap (first_in f) (drop_all i ks l)
