-- The cells and entries that the final holds of finished streams set, stream after stream and plan after plan.
use Rattle.std.proofs.Common.{◌≡◌, ◌≢◌, ◌⊎◌, ℕ, zero, suc, ◌+◌, ◌<◌, ◌≤◌, Bool, true, false, refl, sym, ap, ◌∙◌, inl, inr, arith, subst, length}
use Rattle.std.proofs.lemmas.Bool.{cases_eq, cases_Bool}
use Rattle.sm_placement.specs.Place.{Place}
use Rattle.sm_placement.specs.Setup.{Sizes}
use Rattle.sm_plan_code.specs.Plan.{PlanModel}
use Rattle.sm_reservation.specs.Hold.{Hold}
use Rattle.sm_verifier.specs.PlanEnd.{set_by, set_by_streams, publications, end_of}
use Rattle.sm_verifier.specs.Stream.{stream_at, final_hold}

module _ (A : Type 0) (set : Hold → A → A) (reaches : Hold → Type 0) (unset : (h : Hold) (old : A) → (reaches h → ⊥) → set h old ≡ old) where
  -- the stream has made its end, or nothing is set
  abbrev pub set_if : Bool → Hold → A → A
  set_if true h old = set h old
  set_if false h old = old

  -- what the first n streams of a plan set
  abbrev pub set_streams : (ℕ → Bool) → (ℕ → Hold) → ℕ → A → A
  set_streams done final zero old = old
  set_streams done final (suc n) old = set_if (done n) (final n) (set_streams done final n old)

  -- what the first n plans set, which have so many streams
  abbrev pub set_plans : (ℕ → ℕ → Bool) → (ℕ → ℕ → Hold) → (ℕ → ℕ) → ℕ → A → A
  set_plans done final count zero old = old
  set_plans done final count (suc n) old = set_streams (done n) (final n) (count n) (set_plans done final count n old)

  not_set : (b : Bool) (h : Hold) (old : A) → (reaches h → ⊥) → set_if b h old ≡ old
  not_set true h old n = unset h old n
  not_set false h old n = refl

  streams_same : (f g : ℕ → Bool) (final : ℕ → Hold) (n : ℕ) (old : A) → ((i : ℕ) → i < n → (g i ≡ f i) ⊎ (reaches (final i) → ⊥)) → set_streams g final n old ≡ set_streams f final n old
  streams_same f g final zero old each = refl
  streams_same f g final (suc n) old each =
      let rest = streams_same f g final n old (λ i l. each i (omega arith)) in
      elim (each n (omega arith)) [
        | inl e ↦ ap (λ b. set_if b (final n) (set_streams g final n old)) e ∙ ap (set_if (f n) (final n)) rest
        | inr e ↦ not_set (g n) (final n) (set_streams g final n old) e ∙ rest ∙ sym (not_set (f n) (final n) (set_streams f final n old) e)
      ]

  -- a stream that sets nothing, or has made its end neither before nor after, changes nothing
  pub plans_same : (f g : ℕ → ℕ → Bool) (final : ℕ → ℕ → Hold) (count : ℕ → ℕ) (n : ℕ) (old : A) → ((k i : ℕ) → k < n → i < count k → (g k i ≡ f k i) ⊎ (reaches (final k i) → ⊥)) →
      set_plans g final count n old ≡ set_plans f final count n old
  plans_same f g final count zero old each = refl
  plans_same f g final count (suc n) old each =
      streams_same (f n) (g n) (final n) (count n) (set_plans g final count n old) (λ i l. each n i (omega arith) l)
      ∙ ap (set_streams (f n) (final n) (count n)) (plans_same f g final count n old (λ k i l. each k i (omega arith)))

  -- where none of the streams that have made their ends reaches it, nothing is set
  pub streams_past : (f : ℕ → Bool) (final : ℕ → Hold) (n : ℕ) (z : A) → ((i : ℕ) → f i ≡ true → reaches (final i) → ⊥) → set_streams f final n z ≡ z
  streams_past f final zero z none = refl
  streams_past f final (suc n) z none = elim (cases_Bool (f n)) [
    | inl e ↦ not_set (f n) (final n) (set_streams f final n z) (none n e) ∙ streams_past f final n z none
    | inr e ↦ ap (λ b. set_if b (final n) (set_streams f final n z)) e ∙ streams_past f final n z none
  ]

  streams_here : (f : ℕ → Bool) (final : ℕ → Hold) (here : ℕ) (z : A) (n : ℕ) (old : A) → here < n → f here ≡ true → ((o : A) → set (final here) o ≡ z) →
      ((i : ℕ) → i ≢ here → f i ≡ true → reaches (final i) → ⊥) → set_streams f final n old ≡ z
  streams_here f final here z zero old l e sets none = absurd (omega arith)
  streams_here f final here z (suc n) old l e sets none = elim (cases_eq n here) [
    | inl q ↦
        subst (λ m. set_if (f m) (final m) (set_streams f final n old) ≡ z) (sym q) (ap (λ b. set_if b (final here) (set_streams f final n old)) e ∙ sets (set_streams f final n old))
    | inr q ↦
        let rest = streams_here f final here z n old (omega arith) e sets none in
        elim (cases_Bool (f n)) [
          | inl d ↦ not_set (f n) (final n) (set_streams f final n old) (none n q d) ∙ rest
          | inr d ↦ ap (λ b. set_if b (final n) (set_streams f final n old)) d ∙ rest
        ]
  ]

  -- what the last stream that reaches it sets
  pub plans_here : (f : ℕ → ℕ → Bool) (final : ℕ → ℕ → Hold) (count : ℕ → ℕ) (k i : ℕ) (z : A) (n : ℕ) (old : A) → k < n → i < count k → f k i ≡ true → ((o : A) → set (final k i) o ≡ z) →
      ((j m : ℕ) → k ≤ j → ((j ≡ k) × (m ≡ i) → ⊥) → f j m ≡ true → reaches (final j m) → ⊥) → set_plans f final count n old ≡ z
  plans_here f final count k i z zero old l b e sets none = absurd (omega arith)
  plans_here f final count k i z (suc n) old l b e sets none = elim (cases_eq n k) [
    | inl q ↦
        subst (λ m. set_streams (f m) (final m) (count m) (set_plans f final count n old) ≡ z) (sym q)
        (streams_here (f k) (final k) i z (count k) (set_plans f final count n old) b e sets (λ m d. none k m (omega arith) (λ h. d h.1)))
    | inr q ↦
        ap (set_streams (f n) (final n) (count n)) (plans_here f final count k i z n old (omega arith) b e sets none)
        ∙ streams_past (f n) (final n) (count n) z (λ m. none n m (omega arith) (λ h. q h.0))
  ]

  -- ---- where all have made their ends

  module _ (now : Place → A) (by_set : (h : Hold) (p : Place) → now (set_by h p) ≡ set h (now p)) (no_version : (p : Place) (f : ℕ → ℕ) → now (record p { version = f }) ≡ now p) (c : Sizes) where
    abbrev finals : PlanModel → ℕ → Hold
    finals plan i = final_hold (stream_at c plan i)

    plan_sets : (plan : PlanModel) (n : ℕ) (p : Place) → now (set_by_streams c plan n p) ≡ set_streams (λ i. true) (finals plan) n (now p)
    plan_sets plan zero p = refl
    plan_sets plan (suc n) p = by_set (finals plan n) (set_by_streams c plan n p) ∙ ap (set (finals plan n)) (plan_sets plan n p)

    -- the end of a plan is as the final holds of all its streams set it, one after another
    pub end_sets : (plan : PlanModel) (p : Place) → now (end_of c plan p) ≡ set_streams (λ i. true) (finals plan) (length plan.streams) (now p)
    end_sets plan p = no_version (set_by_streams c plan (length plan.streams) p) (λ s. p.version s + publications plan s) ∙ plan_sets plan (length plan.streams) p
