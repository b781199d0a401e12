-- A plan whose stream goes on: its streams stay on their courses, and its signals are those that the steps made post and
-- await.
use Rattle.sm_protocol.proofs.Below.{◌≡◌, ◌≢◌, ℕ, suc, ◌+◌, ◌<◌, ◌≤◌, true, false, Some, Ok, sym, ap, ◌∙◌, arith, inl, inr, subst, length, slice_get, nat_lt, cases_eq, cases_lt, cases_Bool, lt-ltb, le-ltb, slice_get_within, IsReachable, put, bit, Sizes, Place, Instr, Signal, Wait, is_call, IsOwn, PlanModel, after, parcels_of, stream_at, hold_before, calls_before, IsGood, code_at, post_of, wait_of, put-here, put-apart, in_turn, stand_once, are_of_plan, put_each}
use Rattle.sm_protocol.proofs.Words.{Progress, Mark}
use Rattle.sm_protocol.proofs.Invariant.{IsOnCourse, IsRunning}

-- two values are the same where `Some` of each is
pub some_same : {T : Type 0} (x y : T) → Some x ≡ Some y → x ≡ y
some_same x y e = cc

-- ---- an instruction in its turn

-- the hold and the calls after an instruction in its turn
pub record IsNextTurn (c : Sizes) (plan : PlanModel) (i at : ℕ) (x : Instr) : Type 0 where
  pub leaves : after c (parcels_of plan.signals) x (hold_before (stream_at c plan i) at) ≡ Ok (hold_before (stream_at c plan i) (at + 1))
  pub calls : calls_before (stream_at c plan i) (at + 1) ≡ calls_before (stream_at c plan i) at + bit (is_call x)
  pub budget : calls_before (stream_at c plan i) (at + 1) ≤ (stream_at c plan i).budget

-- each instruction of a good stream is in its turn
pub next_turn : (c : Sizes) (plan : PlanModel) (i at : ℕ) (x : Instr) → IsGood (stream_at c plan i) → slice_get (code_at plan i) at ≡ Some x → IsNextTurn c plan i at x
next_turn c plan i at x good here =
    let t = in_turn (stream_at c plan i) at x good here in
    let one : suc at ≡ at + 1 = omega arith in
    record {
      leaves = subst (λ n. after c (parcels_of plan.signals) x (hold_before (stream_at c plan i) at) ≡ Ok (hold_before (stream_at c plan i) n)) one t.leaves;
      calls = subst (λ n. calls_before (stream_at c plan i) n ≡ calls_before (stream_at c plan i) at + bit (is_call x)) one t.calls;
      budget = subst (λ n. calls_before (stream_at c plan i) n ≤ (stream_at c plan i).budget) one t.within;
    }

-- ---- what was made stays made, and nothing else is but the step that is made now

at_stays : (f : ℕ → Progress) (i : ℕ) (y : Progress) → y.at ≡ (f i).at → (j : ℕ) → (put f i y j).at ≡ (f j).at
at_stays f i y e j = elim (cases_eq j i) [
  | inl q ↦ ap (λ x. x.at) (put-here f i y j q) ∙ e ∙ ap (λ z. (f z).at) (sym q)
  | inr q ↦ ap (λ x. x.at) (put-apart f i y j q)
]

one_further : (q a : ℕ) → q ≢ a → nat_lt q (a + 1) ≡ nat_lt q a
one_further q a n = elim (cases_lt q a) [
  | inl l ↦ lt-ltb q (a + 1) (omega arith) ∙ sym (lt-ltb q a l)
  | inr l ↦ le-ltb q (a + 1) (elim (cases_eq q a) [ inl m ↦ absurd (n m) | inr m ↦ omega arith ]) ∙ sym (le-ltb q a l)
]

made_apart : (f : ℕ → Progress) (i : ℕ) (y : Progress) → y.at ≡ (f i).at + 1 → (j q : ℕ) → (j ≡ i → q ≢ (f i).at) → nat_lt q (put f i y j).at ≡ nat_lt q (f j).at
made_apart f i y e j q apart = elim (cases_eq j i) [
  | inl h ↦ ap (λ x. nat_lt q x.at) (put-here f i y j h) ∙ ap (λ n. nat_lt q n) e ∙ one_further q (f i).at (apart h) ∙ ap (λ z. nat_lt q (f z).at) (sym h)
  | inr h ↦ ap (λ x. nat_lt q x.at) (put-apart f i y j h)
]

made_now : (f : ℕ → Progress) (i : ℕ) (y : Progress) → y.at ≡ (f i).at + 1 → (j q : ℕ) → j ≡ i → q ≡ (f i).at → nat_lt q (put f i y j).at ≡ true
made_now f i y e j q h m = ap (λ x. nat_lt q x.at) (put-here f i y j h) ∙ lt-ltb q y.at (omega arith)

not_made : (f : ℕ → Progress) (i j q : ℕ) → j ≡ i → q ≡ (f i).at → nat_lt q (f j).at ≡ false
not_made f i j q h m = ap (λ z. nat_lt q (f z).at) h ∙ le-ltb q (f i).at (omega arith)

module _ (c : Sizes) (p : Place) (plan : PlanModel) (f : ℕ → Progress) (marks : ℕ → Mark) (v : IsRunning c p plan f marks) (i : ℕ) (l : i < length plan.streams) where
  -- the streams of a plan that runs are good
  pub good : IsGood (stream_at c plan i)
  good = v.checked.sound.streams i l

  pub own_course : IsOnCourse c p plan i (f i)
  own_course = v.streams i l

  streams_after : (y : Progress) → IsOnCourse c p plan i y → (j : ℕ) → j < length plan.streams → IsOnCourse c p plan j (put f i y j)
  streams_after y ok = put_each f i y (λ j x. j < length plan.streams → IsOnCourse c p plan j x) (λ m. ok) (λ j e m. v.streams j m)

  -- the stream stands where it stood
  pub stands : (y : Progress) → y.at ≡ (f i).at → IsOnCourse c p plan i y → IsRunning c p plan (put f i y) marks
  stands y e ok = record {
    checked = v.checked;
    streams = streams_after y ok;
    posted = λ q m. v.posted q m ∙ ap (λ n. nat_lt (post_of plan q).1 n) (sym (at_stays f i y e (post_of plan q).0));
    awaited = λ q m. v.awaited q m ∙ ap (λ n. nat_lt (wait_of plan q).1 n) (sym (at_stays f i y e (wait_of plan q).0));
    in_turn = v.in_turn;
  }

  -- ---- courses of the stream itself

  -- its position, its lead over the answers, its end and its effects are as before
  pub same_course : (y : Progress) → y.at ≡ (f i).at → y.ahead ≡ (f i).ahead → y.done ≡ (f i).done → y.effects ≡ (f i).effects → IsOnCourse c p plan i y
  same_course y a b d e =
      let o = own_course in
      record {
        within = rw a o.within;
        at_end = λ t. a ∙ o.at_end (sym d ∙ t);
        before_call = λ t. rw a (o.before_call (sym b ∙ t));
        effects = rw (a, b) (e ∙ o.effects);
        reachable = λ t. o.reachable (sym d ∙ t);
      }

  -- the stream makes its end
  pub ended_course : (y : Progress) → y.at ≡ (f i).at → y.ahead ≡ (f i).ahead → y.done ≡ true → y.effects ≡ (f i).effects → (f i).at ≡ length (code_at plan i) → IsOnCourse c p plan i y
  ended_course y a b d e end =
      let o = own_course in
      record {
        within = rw a o.within;
        at_end = λ t. a ∙ end;
        before_call = λ t. rw a (o.before_call (sym b ∙ t));
        effects = rw (a, b) (e ∙ o.effects);
        reachable = λ t. absurd (cc);
      }

  module _ (x : Instr) (here : slice_get (code_at plan i) (f i).at ≡ Some x) where
    pub inside : (f i).at < length (code_at plan i)
    inside = slice_get_within (code_at plan i) (f i).at x here

    -- a stream with an instruction to make hasn't made its end
    pub not_done : (f i).done ≡ false
    not_done = elim (cases_Bool (f i).done) [
      | inl e ↦ absurd (let a = own_course.at_end e in let b = inside in omega arith)
      | inr e ↦ e
    ]

    -- where no call stands, nothing was lost
    pub not_ahead : is_call x ≡ false → (f i).ahead ≡ false
    not_ahead other = elim (cases_Bool (f i).ahead) [
      | inl e ↦ absurd (let a = own_course.before_call e in let same : a.0 ≡ x = some_same a.0 x (sym a.1 ∙ here) in let b = ap is_call same in let d = a.2 in cc)
      | inr e ↦ e
    ]

    -- the stream stands behind the instruction
    pub behind_course : (y : Progress) → y.at ≡ (f i).at + 1 → y.ahead ≡ false → y.done ≡ (f i).done →
        y.effects ≡ calls_before (stream_at c plan i) ((f i).at + 1) → IsOnCourse c p plan i y
    behind_course y a b d e =
        let n = not_done in
        let w = inside in
        record {
          within = omega arith;
          at_end = λ t. absurd (cc);
          before_call = λ t. absurd (cc);
          effects = rw (a, b) e;
          reachable = λ t. own_course.reachable n;
        }

    -- the call has had its effect, and its answer was lost
    pub ahead_course : (y : Progress) → y.at ≡ (f i).at → y.ahead ≡ true → y.done ≡ (f i).done → is_call x ≡ true →
        y.effects ≡ calls_before (stream_at c plan i) ((f i).at + 1) → IsOnCourse c p plan i y
    ahead_course y a b d call e =
        let n = not_done in
        record {
          within = rw a own_course.within;
          at_end = λ t. absurd (cc);
          before_call = λ t. (x, rw a here, call);
          effects = rw (a, b) e;
          reachable = λ t. own_course.reachable n;
        }

    posted_apart : (y : Progress) → y.at ≡ (f i).at + 1 → (q : ℕ) → q < length plan.signals → x ≢ Signal q → (marks q).posted ≡ nat_lt (post_of plan q).1 (put f i y (post_of plan q).0).at
    posted_apart y e q m other =
        let once = stand_once plan q (v.checked.sound.signals q m) in
        v.posted q m ∙ sym (made_apart f i y e (post_of plan q).0 (post_of plan q).1 (λ h n. other (some_same x (Signal q) (sym here ∙
        subst (λ a. slice_get (code_at plan i) a ≡ Some (Signal q)) n (subst (λ j. slice_get (code_at plan j) (post_of plan q).1 ≡ Some (Signal q)) h once.post.here)))))

    awaited_apart : (y : Progress) → y.at ≡ (f i).at + 1 → (q : ℕ) → q < length plan.signals → x ≢ Wait q → (marks q).awaited ≡ nat_lt (wait_of plan q).1 (put f i y (wait_of plan q).0).at
    awaited_apart y e q m other =
        let once = stand_once plan q (v.checked.sound.signals q m) in
        v.awaited q m ∙ sym (made_apart f i y e (wait_of plan q).0 (wait_of plan q).1 (λ h n. other (some_same x (Wait q) (sym here ∙
        subst (λ a. slice_get (code_at plan i) a ≡ Some (Wait q)) n (subst (λ j. slice_get (code_at plan j) (wait_of plan q).1 ≡ Some (Wait q)) h once.wait.here)))))

    -- an instruction that is neither a signal nor a wait is made
    pub goes_on : (y : Progress) → y.at ≡ (f i).at + 1 → IsOwn x → IsOnCourse c p plan i y → IsRunning c p plan (put f i y) marks
    goes_on y e own ok = record {
      checked = v.checked;
      streams = streams_after y ok;
      posted = λ q m. posted_apart y e q m (λ h. subst IsOwn h own);
      awaited = λ q m. awaited_apart y e q m (λ h. subst IsOwn h own);
      in_turn = v.in_turn;
    }

  -- a signal is posted once
  pub not_posted : (q : ℕ) → slice_get (code_at plan i) (f i).at ≡ Some (Signal q) → (q < length plan.signals) × ((marks q).posted ≡ false) × ((marks q).awaited ≡ false)
  not_posted q here =
      let known = (are_of_plan plan i (f i).at q v.checked.parts.signals).post here in
      let only = (stand_once plan q (v.checked.sound.signals q known)).post.only i (f i).at here in
      let b : (marks q).posted ≡ false = v.posted q known ∙ not_made f i (post_of plan q).0 (post_of plan q).1 (sym only.0) (sym only.1) in
      (known, b, elim (cases_Bool (marks q).awaited) [ inl e ↦ absurd (let t = v.in_turn q known e in cc) | inr e ↦ e ])

  -- and awaited once
  pub not_awaited : (q : ℕ) → slice_get (code_at plan i) (f i).at ≡ Some (Wait q) → (q < length plan.signals) × ((marks q).awaited ≡ false)
  not_awaited q here =
      let known = (are_of_plan plan i (f i).at q v.checked.parts.signals).wait here in
      let only = (stand_once plan q (v.checked.sound.signals q known)).wait.only i (f i).at here in
      (known, v.awaited q known ∙ not_made f i (wait_of plan q).0 (wait_of plan q).1 (sym only.0) (sym only.1))

  -- the stream goes past a signal, which is marked as posted, and the plan runs
  pub posts : (q : ℕ) (y : Progress) (z : Mark) → slice_get (code_at plan i) (f i).at ≡ Some (Signal q) → y.at ≡ (f i).at + 1 → IsOnCourse c p plan i y →
      z.posted ≡ true → z.awaited ≡ (marks q).awaited → IsRunning c p plan (put f i y) (put marks q z)
  posts q y z here e ok a b =
      let n = not_posted q here in
      let only = (stand_once plan q (v.checked.sound.signals q n.0)).post.only i (f i).at here in
      record {
        checked = v.checked;
        streams = streams_after y ok;
        posted = put_each marks q z (λ k t. k < length plan.signals → t.posted ≡ nat_lt (post_of plan k).1 (put f i y (post_of plan k).0).at)
            (λ m. a ∙ sym (made_now f i y e (post_of plan q).0 (post_of plan q).1 (sym only.0) (sym only.1)))
            (λ k h m. posted_apart (Signal q) here y e k m (λ g. h (same_signal k q (sym g))));
        awaited = put_each marks q z (λ k t. k < length plan.signals → t.awaited ≡ nat_lt (wait_of plan k).1 (put f i y (wait_of plan k).0).at)
            (λ m. b ∙ awaited_apart (Signal q) here y e q m (λ g. cc))
            (λ k h m. awaited_apart (Signal q) here y e k m (λ g. cc));
        in_turn = put_each marks q z (λ k t. k < length plan.signals → t.awaited ≡ true → t.posted ≡ true) (λ m t. a) (λ k h. v.in_turn k);
      }
    where
      same_signal : (k q : ℕ) → Signal k ≡ Signal q → k ≡ q
      same_signal k q e = cc

  -- the stream goes past a wait for a posted signal, which is marked as awaited, and the plan runs
  pub awaits : (q : ℕ) (y : Progress) (z : Mark) → slice_get (code_at plan i) (f i).at ≡ Some (Wait q) → y.at ≡ (f i).at + 1 → IsOnCourse c p plan i y →
      (marks q).posted ≡ true → z.posted ≡ (marks q).posted → z.awaited ≡ true → IsRunning c p plan (put f i y) (put marks q z)
  awaits q y z here e ok is a b =
      let n = not_awaited q here in
      let only = (stand_once plan q (v.checked.sound.signals q n.0)).wait.only i (f i).at here in
      record {
        checked = v.checked;
        streams = streams_after y ok;
        posted = put_each marks q z (λ k t. k < length plan.signals → t.posted ≡ nat_lt (post_of plan k).1 (put f i y (post_of plan k).0).at)
            (λ m. a ∙ posted_apart (Wait q) here y e q m (λ g. cc))
            (λ k h m. posted_apart (Wait q) here y e k m (λ g. cc));
        awaited = put_each marks q z (λ k t. k < length plan.signals → t.awaited ≡ nat_lt (wait_of plan k).1 (put f i y (wait_of plan k).0).at)
            (λ m. b ∙ sym (made_now f i y e (wait_of plan q).0 (wait_of plan q).1 (sym only.0) (sym only.1)))
            (λ k h m. awaited_apart (Wait q) here y e k m (λ g. h (same_wait k q (sym g))));
        in_turn = put_each marks q z (λ k t. k < length plan.signals → t.awaited ≡ true → t.posted ≡ true) (λ m t. a ∙ is) (λ k h. v.in_turn k);
      }
    where
      same_wait : (k q : ℕ) → Wait k ≡ Wait q → k ≡ q
      same_wait k q e = cc

-- a plan runs at another placement too, where the instructions of its unfinished streams can be reached
pub elsewhere_by : (c : Sizes) (p p' : Place) (plan : PlanModel) (f : ℕ → Progress) (marks : ℕ → Mark) →
    ((i : ℕ) → i < length plan.streams → (f i).done ≡ false → (at : ℕ) (x : Instr) → slice_get (code_at plan i) at ≡ Some x → IsReachable c p' x) → IsRunning c p plan f marks → IsRunning c p' plan f marks
elsewhere_by c p p' plan f marks reach v = record {
  checked = v.checked;
  streams = λ i l. let o = v.streams i l in record { within = o.within; at_end = o.at_end; before_call = o.before_call; effects = o.effects; reachable = reach i l };
  posted = v.posted;
  awaited = v.awaited;
  in_turn = v.in_turn;
}

-- it doesn't look further at a placement than at who is down
pub elsewhere : (c : Sizes) (p p' : Place) (plan : PlanModel) (f : ℕ → Progress) (marks : ℕ → Mark) → p'.down ≡ p.down → IsRunning c p plan f marks → IsRunning c p' plan f marks
elsewhere c p p' plan f marks e v = elsewhere_by c p p' plan f marks (λ i l d at x h.
    let r = (v.streams i l).reachable d at x h in record { shard = r.shard; known = r.known; up = λ v m. ap (λ g. g v) e ∙ r.up v m }) v
