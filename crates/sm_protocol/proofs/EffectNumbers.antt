-- The numbers of calls that have their effect along a list of events: none is there twice.
use Rattle.sm_protocol.proofs.Below.{◌≡◌, ◌≢◌, ◌⊎◌, ℕ, ◌+◌, ◌≤◌, Bool, true, false, Ok, refl, sym, ap, ◌∙◌, inl, inr, arith, subst, List, [], ◌∷◌, ◌++◌, ◌==◌, nat_lt, if◌then◌else◌, count_by, Contains, Contains-append_cases, Contains-push_cases, cases_Bool, cases_eq, eq-eqb, ne_eqb, eqb-true, lt-ltb, le-ltb, sum_by-cons, bit, CallEffect, StreamId, ServerCall, Instr}
use Rattle.sm_protocol.proofs.Words.{Passage, State, Progress, progress_of, set_progress, call_number, number_after_try, tried_more, behind_call, ahead_of_call, Happening, Step, Lose, happens, run, AllFit, EffectsOnce, HasEffectOnce, IsSpent, effect_numbers, effect_numbers_at, effect_of_stream}
use Rattle.sm_protocol.proofs.Invariant.{IsKept, code_of}
use Rattle.sm_protocol.proofs.Numbers.{one_stream, goes_on, IsTryNumber, is_try_number}
use Rattle.sm_protocol.proofs.Tries.{by_answer}
use Rattle.sm_protocol.proofs.Cases.{OfSteps, IsTry, answer_to, of_happens}
use Rattle.sm_protocol.proofs.Reached.{same_machine}
use Rattle.sm_protocol.proofs.Whole.{happens_keeps, reached_keeps}

-- The effect of an event on spent numbers: they are spent still, and one that has its effect now wasn't spent and is now.
pub record SpendsOnce (w new : State) (numbers : List ℕ) : Type 0 where
  pub still : (n : ℕ) → IsSpent w n → IsSpent new n
  pub now : (numbers ≡ []) ⊎ ((n : ℕ) × (numbers ≡ n ∷ []) × (IsSpent w n → ⊥) × IsSpent new n)

none_between : (w : State) (id : StreamId) (new : State) → (progress_of new id).effects ≡ (progress_of w id).effects → effect_of_stream w id new ≡ []
none_between w id new e =
    let t : nat_lt (progress_of w id).effects (progress_of new id).effects ≡ false = le-ltb (progress_of w id).effects (progress_of new id).effects (omega arith) in
    rw t refl

one_between : (w : State) (id : StreamId) (new : State) → (progress_of new id).effects ≡ (progress_of w id).effects + 1 → effect_of_stream w id new ≡ call_number w (progress_of w id) ∷ []
one_between w id new e =
    let t : nat_lt (progress_of w id).effects (progress_of new id).effects ≡ true = lt-ltb (progress_of w id).effects (progress_of new id).effects (omega arith) in
    rw t refl

module _ (w : State) (v : IsKept w) where
  -- a call that has had its effect has none again
  not_again : (id : StreamId) (i : Instr) (x : ServerCall) (effect : CallEffect) → IsTry w id i x → answer_to w id x ≡ Ok effect → (progress_of w id).ahead ≡ true → effect.fresh ≡ false
  not_again id i x effect t e a = by_answer w v id i x t effect e (λ f. f.fresh ≡ false) (λ b. absurd (cc)) (λ b. refl)

  -- a stream goes on under the same number
  module _ (id : StreamId) (y : Progress) (new : State) (g : progress_of new ≡ (λ a. set_progress w id y a.plan a.stream)) where
    here : progress_of new id ≡ y
    here = ap (λ (f : StreamId → Progress). f id) g ∙ (goes_on w id y).here

    others : (a : StreamId) → a ≢ id → progress_of new a ≡ progress_of w a
    others a e = ap (λ (f : StreamId → Progress). f a) g ∙ (goes_on w id y).others a e

    still_by : w.next_number ≤ new.next_number → ((n : ℕ) → IsSpent w n → y.pending ≡ n → n ≢ 0 → y.ahead ≡ true) → (n : ℕ) → IsSpent w n → IsSpent new n
    still_by next own n s = record {
      used = let a = s.used in omega arith;
      had = λ a e z. elim (one_stream a id) [
        | inl q ↦ ap (λ b. (progress_of new b).ahead) q ∙ ap (λ b. b.ahead) here ∙ own n s (ap (λ b. b.pending) (sym here) ∙ ap (λ b. (progress_of new b).pending) (sym q) ∙ e) z
        | inr q ↦ ap (λ b. b.ahead) (others a q) ∙ s.had a (ap (λ b. b.pending) (sym (others a q)) ∙ e) z
      ];
    }

    -- without an effect
    quiet : w.next_number ≤ new.next_number → y.effects ≡ (progress_of w id).effects → ((n : ℕ) → IsSpent w n → y.pending ≡ n → n ≢ 0 → y.ahead ≡ true) → SpendsOnce w new (effect_of_stream w id new)
    quiet next e own = record { still = still_by next own; now = inl (none_between w id new (ap (λ b. b.effects) here ∙ e)) }

    number : IsTryNumber w.place.last w.next_number (code_of w) (progress_of w) v.numbered id
    number = is_try_number w.place.last w.next_number (code_of w) (progress_of w) v.numbered id

    -- with an effect
    first : new.next_number ≡ number_after_try w (progress_of w id) → y.effects ≡ (progress_of w id).effects + 1 → (progress_of w id).ahead ≡ false → ((y.pending ≡ 0) ⊎ (y.ahead ≡ true)) →
        SpendsOnce w new (effect_of_stream w id new)
    first next e a own =
        let n = number in
        record {
          still = still_by (let g = n.grows in omega arith) (λ m s p z. elim own [ inl q ↦ absurd (z (sym p ∙ q)) | inr q ↦ q ]);
          now = inr (
            call_number w (progress_of w id),
            one_between w id new (ap (λ b. b.effects) here ∙ e),
            unspent,
            record {
              used = let b = n.below in omega arith;
              had = λ b p z. elim (one_stream b id) [
                | inl q ↦ elim own [
                  | inl h ↦ absurd (z (sym p ∙ ap (λ c. (progress_of new c).pending) q ∙ ap (λ c. c.pending) here ∙ h))
                  | inr h ↦ ap (λ c. (progress_of new c).ahead) q ∙ ap (λ c. c.ahead) here ∙ h
                ]
                | inr q ↦ absurd (n.others b q (ap (λ c. c.pending) (sym (others b q)) ∙ p))
              ];
            },
          );
        }
      where
        unspent : IsSpent w (call_number w (progress_of w id)) → ⊥
        unspent s = elim (cases_eq (progress_of w id).pending 0) [
          | inl z ↦ let m : call_number w (progress_of w id) ≡ w.next_number = rw (eq-eqb (progress_of w id).pending 0 z) refl in let u = s.used in absurd (omega arith)
          | inr z ↦
              let m : call_number w (progress_of w id) ≡ (progress_of w id).pending = rw (ne_eqb (progress_of w id).pending 0 z) refl in
              absurd (let h = s.had id (sym m) (λ k. z (sym m ∙ k)) in cc)
        ]

  -- ---- steps

  spent_still : (n : ℕ) (id : StreamId) (y : Progress) → y.pending ≡ (progress_of w id).pending → y.ahead ≡ (progress_of w id).ahead → IsSpent w n → y.pending ≡ n → n ≢ 0 → y.ahead ≡ true
  spent_still n id y p a s e z = a ∙ s.had id (sym p ∙ e) z

  -- nothing happens
  idle_spends : (numbers : List ℕ) → numbers ≡ [] → SpendsOnce w w numbers
  idle_spends numbers e = record { still = λ n s. s; now = inl e }

  same_step_spends : (id : StreamId) (y : Progress) (new : State) → progress_of new ≡ (λ a. set_progress w id y a.plan a.stream) → new.next_number ≡ w.next_number →
      y.pending ≡ (progress_of w id).pending → y.ahead ≡ (progress_of w id).ahead → y.effects ≡ (progress_of w id).effects → SpendsOnce w new (effect_of_stream w id new)
  same_step_spends id y new g next p a e = quiet id y new g (omega arith) e (λ n s. spent_still n id y p a s)

  lost_spends : (id : StreamId) (y : Progress) (new : State) → progress_of new ≡ (λ a. set_progress w id y a.plan a.stream) → new.next_number ≡ number_after_try w (progress_of w id) →
      y.pending ≡ call_number w (progress_of w id) → y.ahead ≡ (progress_of w id).ahead → y.effects ≡ (progress_of w id).effects → SpendsOnce w new (effect_of_stream w id new)
  lost_spends id y new g next p a e =
      quiet id y new g (let n = (number id y new g).grows in omega arith) e (λ n s q z. elim (cases_eq (progress_of w id).pending 0) [
        | inl h ↦ let m : call_number w (progress_of w id) ≡ w.next_number = rw (eq-eqb (progress_of w id).pending 0 h) refl in let u = s.used in absurd (omega arith)
        | inr h ↦
            let m : call_number w (progress_of w id) ≡ (progress_of w id).pending = rw (ne_eqb (progress_of w id).pending 0 h) refl in
            a ∙ s.had id (sym m ∙ sym p ∙ q) z
      ])

  -- a call was served: it has its effect now, or had it before
  served_spends : (id : StreamId) (i : Instr) (x : ServerCall) (effect : CallEffect) → IsTry w id i x → answer_to w id x ≡ Ok effect → (y : Progress) (new : State) →
      progress_of new ≡ (λ a. set_progress w id y a.plan a.stream) → new.next_number ≡ number_after_try w (progress_of w id) →
      ((y.pending ≡ 0) ⊎ (y.ahead ≡ true)) → y.effects ≡ (progress_of w id).effects + bit effect.fresh → SpendsOnce w new (effect_of_stream w id new)
  served_spends id i x effect t f y new g next own e = elim (cases_Bool effect.fresh) [
    | inl fresh ↦
        let one : y.effects ≡ (progress_of w id).effects + 1 = e ∙ ap (λ b. (progress_of w id).effects + bit b) fresh in
        elim (cases_Bool (progress_of w id).ahead) [
          | inl a ↦ absurd (let h = not_again id i x effect t f a in cc)
          | inr a ↦ first id y new g next one a own
        ]
    | inr stale ↦
        let none : y.effects ≡ (progress_of w id).effects = (let h = e ∙ ap (λ b. (progress_of w id).effects + bit b) stale in omega arith) in
        quiet id y new g (let n = (number id y new g).grows in omega arith) none (λ n s p z. elim own [ inl q ↦ absurd (z (sym p ∙ q)) | inr q ↦ q ])
  ]

  by_steps : (id : StreamId) (passage : Passage) → OfSteps w id passage (λ o. SpendsOnce w o.1 (effect_of_stream w id o.1))
  by_steps id passage = record {
    idle = λ answer. idle_spends _ (none_between w id w refl);
    refused = λ i x why t e. idle_spends _ (none_between w id w refl);
    at_end = λ b. same_step_spends id (record (progress_of w id) { done = true }) _ refl refl refl refl refl;
    publishes = λ i s server b c. same_step_spends id (record (progress_of w id) { at = (progress_of w id).at + 1 }) _ refl refl refl refl refl;
    posts = λ q b. same_step_spends id (record (progress_of w id) { at = (progress_of w id).at + 1 }) _ refl refl refl refl refl;
    awaits = λ q b e. same_step_spends id (record (progress_of w id) { at = (progress_of w id).at + 1 }) _ refl refl refl refl refl;
    lost = λ i x t p. lost_spends id (record (tried_more (progress_of w id) false) { pending = call_number w (progress_of w id) }) _ refl refl refl refl (omega arith);
    through = λ i x effect t a p. served_spends id i x effect t a (behind_call (progress_of w id) effect.fresh) _ refl refl (inl refl) refl;
    unanswered = λ i x effect t a p. served_spends id i x effect t a (ahead_of_call w (progress_of w id) effect.fresh) _ refl refl (inr refl) refl;
  }

  -- ---- all events

  -- the numbers that have their effect by an event that leads to a state
  abbrev numbers_by : Happening → State → List ℕ
  numbers_by (Step id) new = effect_of_stream w id new
  numbers_by (Lose id after) new = effect_of_stream w id new
  numbers_by _ new = []

  numbers_are : (e : Happening) → numbers_by e (happens w e).1 ≡ effect_numbers_at w e
  numbers_are (Step id) = refl
  numbers_are _ = refl

  numbers_idle : (e : Happening) → numbers_by e w ≡ []
  numbers_idle (Step id) = none_between w id w refl
  numbers_idle (Lose id after) = none_between w id w refl
  numbers_idle _ = refl

  by_refill : (id : StreamId) (y : Progress) (new : State) → progress_of new ≡ (λ a. set_progress w id y a.plan a.stream) → new.next_number ≡ w.next_number →
      y.pending ≡ (progress_of w id).pending → y.ahead ≡ (progress_of w id).ahead → SpendsOnce w new []
  by_refill id y new g next p a = record { still = still_by id y new g (omega arith) (λ n s. spent_still n id y p a s); now = inl refl }

  pub spends_once : (e : Happening) → SpendsOnce w (happens w e).1 (effect_numbers_at w e)
  spends_once e = subst (SpendsOnce w (happens w e).1) (numbers_are e) (of_happens w (λ e o. SpendsOnce w o.1 (numbers_by e o.1)) (record {
    idle = λ e answer n. idle_spends _ (numbers_idle e);
    steps = λ id. by_steps id _;
    loses = λ id after. by_steps id _;
    refills = λ id n f. by_refill id (record (progress_of w id) { refills = (progress_of w id).refills + n }) _ refl refl refl refl;
    arrives = λ s u f. record { still = λ n s. record { used = s.used; had = s.had }; now = inl refl };
    passes_on = λ t o f. record { still = λ n s. record { used = s.used; had = s.had }; now = inl refl };
    approves = λ u f. record { still = λ n s. record { used = s.used; had = s.had }; now = inl refl };
    restarts = λ u f. record { still = λ n s. record { used = s.used; had = s.had }; now = inl refl };
    starts = λ plan h f g. record { still = λ n s. record { used = s.used; had = s.had }; now = inl refl };
  }) e)

-- ---- lists of events

-- how often a number is in a list
abbrev times : ℕ → List ℕ → ℕ
times n xs = count_by (λ m. m == n) xs

times_cons : (n x : ℕ) (xs : List ℕ) → times n (x ∷ xs) ≡ bit (x == n) + times n xs
times_cons n x xs = sum_by-cons (λ m. if m == n then 1 else 0) x xs ∙ ap (λ k. k + times n xs) (one_by (x == n))
  where
    one_by : (b : Bool) → ◌≡◌ {A = ℕ} (if b then 1 else 0) (bit b)
    one_by true = refl
    one_by false = refl

-- a spent number has its effect no more
none_more : (w : State) (v : IsKept w) (es : List Happening) (n : ℕ) → AllFit w.sizes es → IsSpent w n → times n (effect_numbers es w) ≡ 0
none_more w v [] n all s = refl
none_more w v (e ∷ es) n all s =
    let k = happens_keeps w v e all.0 in
    let x = spends_once w v e in
    let rest = none_more (happens w e).1 k.1 es n (subst (λ c. AllFit c es) (sym (same_machine w e).sizes) all.1) (x.still n s) in
    elim x.now [
      | inl none ↦ ap (λ l. times n (l ++ effect_numbers es (happens w e).1)) none ∙ rest
      | inr one ↦
          let other : bit (one.0 == n) ≡ 0 = ap bit (ne_eqb one.0 n (λ q. one.2 (subst (IsSpent w) (sym q) s))) in
          let all : times n (effect_numbers_at w e ++ effect_numbers es (happens w e).1) ≡ times n (one.0 ∷ effect_numbers es (happens w e).1) = ap (λ l. times n (l ++ effect_numbers es (happens w e).1)) one.1 in
          let parts = times_cons n one.0 (effect_numbers es (happens w e).1) in
          omega arith
    ]

-- and it is spent still
still_spent : (w : State) (v : IsKept w) (es : List Happening) (n : ℕ) → AllFit w.sizes es → IsSpent w n → IsSpent (run es w) n
still_spent w v [] n all s = s
still_spent w v (e ∷ es) n all s = still_spent (happens w e).1 (happens_keeps w v e all.0).1 es n (subst (λ c. AllFit c es) (sym (same_machine w e).sizes) all.1) ((spends_once w v e).still n s)

-- no number has its effect twice along a list of events
one_at_most : (w : State) (v : IsKept w) (es : List Happening) (n : ℕ) → AllFit w.sizes es → times n (effect_numbers es w) ≤ 1
one_at_most w v [] n all = omega arith
one_at_most w v (e ∷ es) n all =
    let k = happens_keeps w v e all.0 in
    let x = spends_once w v e in
    let fits = subst (λ c. AllFit c es) (sym (same_machine w e).sizes) all.1 in
    let rest = one_at_most (happens w e).1 k.1 es n fits in
    elim x.now [
      | inl none ↦ let q : times n (effect_numbers_at w e ++ effect_numbers es (happens w e).1) ≡ times n (effect_numbers es (happens w e).1) = ap (λ l. times n (l ++ effect_numbers es (happens w e).1)) none in omega arith
      | inr one ↦
          let q : times n (effect_numbers_at w e ++ effect_numbers es (happens w e).1) ≡ times n (one.0 ∷ effect_numbers es (happens w e).1) = ap (λ l. times n (l ++ effect_numbers es (happens w e).1)) one.1 in
          let parts = times_cons n one.0 (effect_numbers es (happens w e).1) in
          elim (cases_Bool (one.0 == n)) [
            | inl same ↦
                let last = none_more (happens w e).1 k.1 es n fits (subst (IsSpent (happens w e).1) (eqb-true one.0 n same) one.3) in
                let one_is : bit (one.0 == n) ≡ 1 = ap bit same in
                omega arith
            | inr other ↦ let none_is : bit (one.0 == n) ≡ 0 = ap bit other in omega arith
          ]
    ]

-- what is in no list, and what is alone in one
in_none : (n : ℕ) → Contains {X = ℕ} [] n → ⊥
in_none n c = let l = c.1 in absurd (omega arith)

in_one : (x n : ℕ) → Contains (x ∷ []) n → x ≡ n
in_one x n c = elim (Contains-push_cases [] x n c) [ inl none ↦ absurd (in_none n none) | inr same ↦ same ]

-- a number that has its effect along the list is spent afterwards
then_spent : (w : State) (v : IsKept w) (es : List Happening) (n : ℕ) → AllFit w.sizes es → Contains (effect_numbers es w) n → IsSpent (run es w) n
then_spent w v [] n all c = absurd (in_none n c)
then_spent w v (e ∷ es) n all c =
    let k = happens_keeps w v e all.0 in
    let fits = subst (λ c. AllFit c es) (sym (same_machine w e).sizes) all.1 in
    elim (Contains-append_cases (effect_numbers_at w e) (effect_numbers es (happens w e).1) n c) [
      | inl here ↦ still_spent (happens w e).1 k.1 es n fits (elim (spends_once w v e).now [
        | inl none ↦ absurd (in_none n (subst (λ l. Contains l n) none here))
        | inr one ↦ subst (IsSpent (happens w e).1) (in_one one.0 n (subst (λ l. Contains l n) one.1 here)) one.3
      ])
      | inr later ↦ then_spent (happens w e).1 k.1 es n fits later
    ]

-- from each state that keeps the invariant, a number has its effect once at most, and is spent then
pub effect_once : (w : State) (v : IsKept w) (es : List Happening) (n : ℕ) → AllFit w.sizes es → HasEffectOnce w es (run es w) n
effect_once w v es n all = record { once = one_at_most w v es n all; unspent = none_more w v es n all; still = still_spent w v es n all; spent = then_spent w v es n all }

-- and so from each state that events lead to
pub effects_once : EffectsOnce
effects_once setup w es n reached all = let kept = reached_keeps setup w reached in effect_once w kept.0 es n (subst (λ c. AllFit c es) (sym kept.1) all)
