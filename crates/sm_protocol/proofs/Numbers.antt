-- The numbers of calls, as calls are tried.
use Rattle.sm_protocol.proofs.Below.{◌≡◌, ◌≢◌, ◌⊎◌, ℕ, ◌+◌, ◌<◌, ◌≤◌, true, false, Option, Some, refl, sym, ap, ◌∙◌, arith, inl, inr, subst, List, slice_get, ◌==◌, if◌then◌else◌, cases_eq, eq-eqb, ne_eqb, put2, StreamId, Instr, touched, put2-here, put2_cases}
use Rattle.sm_protocol.proofs.Words.{State, Progress, progress_of, set_progress}
use Rattle.sm_protocol.proofs.Invariant.{AreNumbered}
use Rattle.sm_protocol.proofs.Courses.{some_same}

-- streams of one plan with one number are the same
pub same_stream : (a b : StreamId) → a.plan ≡ b.plan → a.stream ≡ b.stream → a ≡ b
same_stream a b e d = λ i. record { plan = e i; stream = d i }

-- two streams are one or two
pub one_stream : (a b : StreamId) → (a ≡ b) ⊎ (a ≢ b)
one_stream a b = elim (cases_eq a.plan b.plan) [
  | inr e ↦ inr (λ h. e (ap (λ t. t.plan) h))
  | inl e ↦ elim (cases_eq a.stream b.stream) [
    | inr d ↦ inr (λ h. d (ap (λ t. t.stream) h))
    | inl d ↦ inl (same_stream a b e d)
  ]
]

-- the progress of all streams, where one goes on
pub record GoesOn (id : StreamId) (y : Progress) (x x' : StreamId → Progress) : Type 0 where
  pub here : x' id ≡ y
  pub others : (a : StreamId) → a ≢ id → x' a ≡ x a

-- one stream goes on where its progress is put in, and the others stay
pub goes_on_in : (f : ℕ → ℕ → Progress) (id : StreamId) (y : Progress) → GoesOn id y (λ a. f a.plan a.stream) (λ a. put2 f id.plan id.stream y a.plan a.stream)
goes_on_in f id y = record {
  here = put2-here f id.plan id.stream y;
  others = λ a e. elim (put2_cases f id.plan id.stream y a.plan a.stream) [
    | inl h ↦ absurd (e (same_stream a id h.0 h.1))
    | inr h ↦ h.1
  ];
}

-- the same of the progress at a state
pub goes_on : (w : State) (id : StreamId) (y : Progress) → GoesOn id y (progress_of w) (λ a. set_progress w id y a.plan a.stream)
goes_on w id y = goes_on_in w.progress id y

-- what holds of the stream as it goes on, and of each other one as it was, holds of every stream
pub each_stream : {id : StreamId} {y : Progress} {x x' : StreamId → Progress} → GoesOn id y x x' → (P : StreamId → Progress → Type 0) → P id y → ((i : StreamId) → i ≢ id → P i (x i)) → (i : StreamId) → P i (x' i)
each_stream {id} {y} {x} {x'} g P own other i = elim (one_stream i id) [
  | inl e ↦ subst (λ j. P j (x' j)) (sym e) (subst (P id) (sym g.here) own)
  | inr e ↦ subst (P i) (sym (g.others i e)) (other i e)
]

-- ---- tries

module _ (last : ℕ → ℕ → ℕ) (next : ℕ) (code : StreamId → List Instr) (x : StreamId → Progress) (v : AreNumbered last next code x) (id : StreamId) where
  -- the number of a try, and the next new one after it
  abbrev pub try_number : ℕ
  try_number = if (x id).pending == 0 then next else (x id).pending

  abbrev pub next_after : ℕ
  next_after = if (x id).pending == 0 then next + 1 else next

  pub record IsTryNumber : Type 0 where
    pub below : try_number < next_after
    pub grows : next ≤ next_after
    pub positive : try_number ≢ 0
    pub others : (a : StreamId) → a ≢ id → (x a).pending ≢ try_number
    pub unused : (x id).ahead ≡ false → (s u : ℕ) → last s u ≢ try_number
    pub kept : (x id).ahead ≡ true → (try_number ≡ (x id).pending) × (next_after ≡ next)

  -- no other stream tries under the number of a try, and before its effect no cell has it as its last
  pub is_try_number : IsTryNumber
  is_try_number = elim (cases_eq (x id).pending 0) [
    | inl e ↦
        let n : try_number ≡ next = rw (eq-eqb (x id).pending 0 e) refl in
        let m : next_after ≡ next + 1 = rw (eq-eqb (x id).pending 0 e) refl in
        let p = v.positive in
        record {
          below = omega arith;
          grows = omega arith;
          positive = λ h. absurd (omega arith);
          others = λ a d h. absurd (let b = v.pendings a in omega arith);
          unused = λ a s u h. absurd (let b = v.lasts s u in omega arith);
          kept = λ a. absurd (v.under_way id a e);
        }
    | inr e ↦
        let n : try_number ≡ (x id).pending = rw (ne_eqb (x id).pending 0 e) refl in
        let m : next_after ≡ next = rw (ne_eqb (x id).pending 0 e) refl in
        let b = v.pendings id in
        record {
          below = omega arith;
          grows = omega arith;
          positive = λ h. e (sym n ∙ h);
          others = λ a d h. d (sym (v.distinct id a e (sym n ∙ sym h)));
          unused = λ a s u h. v.not_had id s u a e (h ∙ n);
          kept = λ a. (n, m);
        }
  ]

  -- ---- the stream goes on

  module _ (y : Progress) (x' : StreamId → Progress) (g : GoesOn id y x x') where
    -- what has to be shown of the stream, and of the last numbers of cells and the next new number, which may be others
    record IsNumberedOn (last' : ℕ → ℕ → ℕ) (next' : ℕ) : Type 0 where
      pub grows : next ≤ next'
      pub lasts : (s u : ℕ) → last' s u < next'
      pub others_had : (i : StreamId) (instr : Instr) (s u : ℕ) → i ≢ id → (x i).ahead ≡ true → slice_get (code i) (x i).at ≡ Some instr → touched instr ≡ Some (s, u) →
          last' s u ≡ (x i).pending
      pub others_not_had : (i : StreamId) (s u : ℕ) → i ≢ id → (x i).ahead ≡ false → (x i).pending ≢ 0 → last' s u ≢ (x i).pending
      pub pending : y.pending < next'
      pub under_way : y.ahead ≡ true → y.pending ≢ 0
      pub had : (instr : Instr) (s u : ℕ) → y.ahead ≡ true → slice_get (code id) y.at ≡ Some instr → touched instr ≡ Some (s, u) → last' s u ≡ y.pending
      pub not_had : (s u : ℕ) → y.ahead ≡ false → y.pending ≢ 0 → last' s u ≢ y.pending
      pub apart : (i : StreamId) → i ≢ id → y.pending ≢ 0 → (x i).pending ≢ y.pending

    numbered_on : (last' : ℕ → ℕ → ℕ) (next' : ℕ) → IsNumberedOn last' next' → AreNumbered last' next' code x'
    numbered_on last' next' h = record {
      positive = let a = v.positive in let b = h.grows in omega arith;
      lasts = h.lasts;
      pendings = each_stream g (λ i z. z.pending < next') h.pending (λ i e. let a = v.pendings i in let b = h.grows in omega arith);
      under_way = each_stream g (λ i z. z.ahead ≡ true → z.pending ≢ 0) h.under_way (λ i e. v.under_way i);
      had = each_stream g (λ i z. (instr : Instr) (s u : ℕ) → z.ahead ≡ true → slice_get (code i) z.at ≡ Some instr → touched instr ≡ Some (s, u) → last' s u ≡ z.pending) h.had (λ i e instr s u. h.others_had i instr s u e);
      not_had = each_stream g (λ i z. (s u : ℕ) → z.ahead ≡ false → z.pending ≢ 0 → last' s u ≢ z.pending) h.not_had (λ i e s u. h.others_not_had i s u e);
      distinct = λ i j. each_stream g (λ a z. z.pending ≢ 0 → z.pending ≡ (x' j).pending → a ≡ j)
          (each_stream g (λ b z. y.pending ≢ 0 → y.pending ≡ z.pending → id ≡ b) (λ n q. refl) (λ b e n q. absurd (h.apart b e n (sym q))) j)
          (λ a e. each_stream g (λ b z. (x a).pending ≢ 0 → (x a).pending ≡ z.pending → a ≡ b) (λ n q. absurd (h.apart a e (λ z. n (q ∙ z)) q)) (λ b d. v.distinct a b) j) i;
    }

    -- its try is as before
    pub same_try : y.pending ≡ (x id).pending → y.ahead ≡ (x id).ahead → ((x id).ahead ≡ true → y.at ≡ (x id).at) → AreNumbered last next code x'
    same_try p a at = numbered_on last next (record {
      grows = omega arith;
      lasts = v.lasts;
      others_had = λ i instr s u e. v.had i instr s u;
      others_not_had = λ i s u e. v.not_had i s u;
      pending = subst (λ n. n < next) (sym p) (v.pendings id);
      under_way = λ h n. v.under_way id (sym a ∙ h) (sym p ∙ n);
      had = λ instr s u h c t. v.had id instr s u (sym a ∙ h) (subst (λ n. slice_get (code id) n ≡ Some instr) (at (sym a ∙ h)) c) t ∙ sym p;
      not_had = λ s u h n q. v.not_had id s u (sym a ∙ h) (λ z. n (p ∙ z)) (q ∙ p);
      apart = λ i e n q. e (v.distinct i id (λ z. n (sym q ∙ z)) (q ∙ p));
    })

    -- it has no call under way
    behind : (last' : ℕ → ℕ → ℕ) (next' : ℕ) → next ≤ next' → ((s u : ℕ) → last' s u < next') →
        ((i : StreamId) (instr : Instr) (s u : ℕ) → i ≢ id → (x i).ahead ≡ true → slice_get (code i) (x i).at ≡ Some instr → touched instr ≡ Some (s, u) → last' s u ≡ (x i).pending) →
        ((i : StreamId) (s u : ℕ) → i ≢ id → (x i).ahead ≡ false → (x i).pending ≢ 0 → last' s u ≢ (x i).pending) →
        y.pending ≡ 0 → y.ahead ≡ false → AreNumbered last' next' code x'
    behind last' next' grows lasts had not_had p a = numbered_on last' next' (record {
      grows = grows;
      lasts = lasts;
      others_had = had;
      others_not_had = not_had;
      pending = let b = v.positive in let l = grows in omega arith;
      under_way = λ h. absurd (cc);
      had = λ instr s u h. absurd (cc);
      not_had = λ s u h n. absurd (n p);
      apart = λ i e n. absurd (n p);
    })

    -- its call was answered, which has had its effect before
    pub answered_again : y.pending ≡ 0 → y.ahead ≡ false → AreNumbered last next code x'
    answered_again = behind last next (omega arith) v.lasts (λ i instr s u e. v.had i instr s u) (λ i s u e. v.not_had i s u)

    -- its call is under way under the number of the try, and has had no effect
    pub lost_before : (x id).ahead ≡ false → y.pending ≡ try_number → y.ahead ≡ false → AreNumbered last next_after code x'
    lost_before b p a =
        let n = is_try_number in
        numbered_on last next_after (record {
          grows = n.grows;
          lasts = λ s u. let q = n.grows in let r = v.lasts s u in omega arith;
          others_had = λ i instr s u e. v.had i instr s u;
          others_not_had = λ i s u e. v.not_had i s u;
          pending = let q = n.below in omega arith;
          under_way = λ h. absurd (cc);
          had = λ instr s u h. absurd (cc);
          not_had = λ s u h m q. n.unused b s u (q ∙ p);
          apart = λ i e m q. n.others i e (q ∙ p);
        })

    -- ---- its call has its effect at a cell that no other call under way has reached

    module _ (s v' : ℕ) (b : (x id).ahead ≡ false)
        (apart : (i : StreamId) (instr : Instr) → i ≢ id → (x i).ahead ≡ true → slice_get (code i) (x i).at ≡ Some instr → touched instr ≡ Some (s, v') → ⊥) where
      abbrev pub last' : ℕ → ℕ → ℕ
      last' = put2 last s v' try_number

      lasts' : (r u : ℕ) → last' r u < next_after
      lasts' r u = let n = is_try_number in elim (put2_cases last s v' try_number r u) [
        | inl h ↦ let q = n.below in let e = h.2 in omega arith
        | inr h ↦ let q = n.grows in let l = v.lasts r u in let e = h.1 in omega arith
      ]

      had' : (i : StreamId) (instr : Instr) (r u : ℕ) → i ≢ id → (x i).ahead ≡ true → slice_get (code i) (x i).at ≡ Some instr → touched instr ≡ Some (r, u) → last' r u ≡ (x i).pending
      had' i instr r u e h c t = elim (put2_cases last s v' try_number r u) [
        | inl q ↦ absurd (apart i instr e h c (t ∙ ap (λ z. Some (z, u)) q.0 ∙ ap (λ z. Some (s, z)) q.1))
        | inr q ↦ q.1 ∙ v.had i instr r u h c t
      ]

      not_had' : (i : StreamId) (r u : ℕ) → i ≢ id → (x i).ahead ≡ false → (x i).pending ≢ 0 → last' r u ≢ (x i).pending
      not_had' i r u e h m q = elim (put2_cases last s v' try_number r u) [
        | inl d ↦ (is_try_number).others i e (sym q ∙ d.2)
        | inr d ↦ v.not_had i r u h m (sym d.1 ∙ q)
      ]

      -- and it was answered
      pub had_answered : y.pending ≡ 0 → y.ahead ≡ false → AreNumbered last' next_after code x'
      had_answered = behind last' next_after is_try_number.grows lasts' had' not_had'

      -- and its answer was lost
      pub had_lost : (instr : Instr) → slice_get (code id) (x id).at ≡ Some instr → touched instr ≡ Some (s, v') → y.at ≡ (x id).at → y.pending ≡ try_number → y.ahead ≡ true →
          AreNumbered last' next_after code x'
      had_lost instr here t at p a =
          let n = is_try_number in
          numbered_on last' next_after (record {
            grows = n.grows;
            lasts = lasts';
            others_had = had';
            others_not_had = not_had';
            pending = let q = n.below in omega arith;
            under_way = λ h q. n.positive (sym p ∙ q);
            had = λ other r u h c d.
                let c' : slice_get (code id) (x id).at ≡ Some other = subst (λ k. slice_get (code id) k ≡ Some other) at c in
                let same : instr ≡ other = cc in
                let parts = pair_parts s v' r u (sym t ∙ ap touched same ∙ d) in
                subst (λ q. last' q u ≡ y.pending) parts.0 (subst (λ q. last' s q ≡ y.pending) parts.1 (put2-here last s v' try_number ∙ sym p));
            not_had = λ r u h. absurd (cc);
            apart = λ i e m q. n.others i e (q ∙ p);
          })
        where
          pair_parts : (s v r u : ℕ) → ◌≡◌ {A = Option (ℕ × ℕ)} (Some (s, v)) (Some (r, u)) → (s ≡ r) × (v ≡ u)
          pair_parts s v r u e =
              let q : ◌≡◌ {A = ℕ × ℕ} (s, v) (r, u) = some_same {T = ℕ × ℕ} (s, v) (r, u) e in
              (ap (λ (z : ℕ × ℕ). z.0) q, ap (λ (z : ℕ × ℕ). z.1) q)
