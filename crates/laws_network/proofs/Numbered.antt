-- Handover numbers are no higher than the log is long.
use Rattle.std.proofs.Common.{◌≡◌, ℕ, ◌+◌, ◌≤◌, inl, inr, sym, ap, arith, Bool, true, false, length}
use Rattle.std.specs.Prelude.{if◌then◌else◌}
use Rattle.std.proofs.lemmas.Bool.{cases_eq}
use Rattle.sm_placement.specs.Setup.{Setup}
use Rattle.sm_placement.specs.Place.{Place}
use Rattle.sm_placement.proofs.Sums.{put-apart, put-here}
use Rattle.sm_reservation.specs.declared.stream_id.StreamId.{StreamId}
use Rattle.sm_plan_code.specs.Acts.{numbers_after}
use Rattle.sm_plan_code.specs.declared.instruction.Instr.{Instr}
use Rattle.sm_plan_code.specs.declared.instruction.Instr.TheVariants.{PrepareAdd}
use Rattle.sm_protocol.specs.declared.event.Event.{Event}
use Rattle.sm_protocol.specs.declared.event.Played.{Played}
use Rattle.sm_protocol.specs.declared.event.Passage.{Passage}
use Rattle.sm_protocol.specs.State.{State, logged}
use Rattle.sm_protocol.specs.Steps.{Outcome}
use Rattle.sm_protocol.specs.Happens.{Happening, happens}
use Rattle.sm_protocol.specs.Laws.{IsReached}
use Rattle.sm_protocol.proofs.Cases.{OfSteps, of_happens}
use Rattle.sm_protocol.proofs.LogRoom.{length_logged}
use Rattle.sm_protocol.proofs.Reached.{by_events, same_machine}
use Rattle.sm_protocol.proofs.LogRoom.{of_call}
use Rattle.sm_placement.specs.Sums.{put}
use Rattle.std.proofs.Common.{suc, subst}

one_more : (f : ℕ → ℕ) (i : Instr) (s : ℕ) → numbers_after f i s ≤ f s + 1
one_more f (PrepareAdd r v u) s = elim (cases_eq s r) [
  | inl e ↦ (let a = put-here f r (f r + 1) s e in let b = ap f e in omega arith)
  | inr n ↦ (let a = put-apart f r (f r + 1) s n in omega arith)
]
one_more f _ s = omega arith

module _ (w : State) (u : (s : ℕ) → w.numbers s ≤ length w.log) where
  longer : (x : Event) (a : Played) (s : ℕ) → w.numbers s ≤ length (logged w x a)
  longer x a s = let l = length_logged w x a in let b = u s in omega arith

  tried : (b : Bool) (i : Instr) (x : Event) (a : Played) (s : ℕ) → (if b then numbers_after w.numbers i else w.numbers) s ≤ length (logged w x a)
  tried true i x a s = let l = length_logged w x a in let b = u s in let c = one_more w.numbers i s in omega arith
  tried false i x a s = longer x a s

  abbrev AreLow : Outcome × State → Type 0
  AreLow o = (s : ℕ) → o.1.numbers s ≤ length o.1.log

  by_steps : (id : StreamId) (passage : Passage) → OfSteps w id passage AreLow
  by_steps id passage = record {
    idle = λ answer. u;
    refused = λ i x why t e. u;
    at_end = λ b. longer _ _;
    publishes = λ i s server b c. longer _ _;
    posts = λ q b. longer _ _;
    awaits = λ q b e. longer _ _;
    lost = λ i x t p. longer _ _;
    through = λ i x effect t a p. tried effect.fresh i _ _;
    unanswered = λ i x effect t a p. tried effect.fresh i _ _;
  }

  stay_low : (e : Happening) → AreLow (happens w e)
  stay_low e = of_happens w (λ e o. AreLow o) (record {
    idle = λ e answer n. u;
    steps = λ id. by_steps id _;
    loses = λ id after. by_steps id _;
    refills = λ id more f. longer _ _;
    arrives = λ s v f. longer _ _;
    passes_on = λ t o f. longer _ _;
    approves = λ v f. longer _ _;
    restarts = λ v f. longer _ _;
    starts = λ plan h f g. u;
  }) e

-- no handover number is above the log's length
pub numbers_logged : (setup : Setup) (w : State) → IsReached setup w → (s : ℕ) → w.numbers s ≤ length w.log
numbers_logged setup w r = by_events setup (λ u. (s : ℕ) → u.numbers s ≤ length u.log) (λ p room o s. omega arith) (λ u e at fits low. stay_low u low e) w r

-- ---- versions

one_version : (f : ℕ → ℕ) (r s : ℕ) → (f s ≤ put f r (suc (f r)) s) × (put f r (suc (f r)) s ≤ f s + 1)
one_version f r s = elim (cases_eq s r) [
  | inl e ↦ (let a = put-here f r (suc (f r)) s e in let b = ap f e in ((omega arith), (omega arith)))
  | inr n ↦ (let a = put-apart f r (suc (f r)) s n in ((omega arith), (omega arith)))
]

-- no version is below the first one, nor has it risen by more than the log is long
abbrev AreRising : (ℕ → ℕ) → State → Type 0
AreRising first w = (s : ℕ) → (first s ≤ w.place.version s) × (w.place.version s ≤ first s + length w.log)

module _ (w : State) (first : ℕ → ℕ) (u : AreRising first w) where
  later : (x : Event) (a : Played) (s : ℕ) → (first s ≤ w.place.version s) × (w.place.version s ≤ first s + length (logged w x a))
  later x a s = let l = length_logged w x a in let b = (u s).1 in ((u s).0, omega arith)

  called_later : (f : ℕ → ℕ) → f ≡ w.place.version → (x : Event) (a : Played) (s : ℕ) → (first s ≤ f s) × (f s ≤ first s + length (logged w x a))
  called_later f e x a s = subst (λ (g : ℕ → ℕ). (first s ≤ g s) × (g s ≤ first s + length (logged w x a))) (sym e) (later x a s)

  published_later : (r : ℕ) (x : Event) (a : Played) (s : ℕ) →
      (first s ≤ put w.place.version r (suc (w.place.version r)) s) × (put w.place.version r (suc (w.place.version r)) s ≤ first s + length (logged w x a))
  published_later r x a s =
      let l = length_logged w x a in
      let low = (u s).0 in
      let high = (u s).1 in
      let least = (one_version w.place.version r s).0 in
      let most = (one_version w.place.version r s).1 in
      ((omega arith), (omega arith))

  rising_by_steps : (id : StreamId) (passage : Passage) → OfSteps w id passage (λ o. AreRising first o.1)
  rising_by_steps id passage = record {
    idle = λ answer. u;
    refused = λ i x why t e. u;
    at_end = λ b. later _ _;
    publishes = λ i s server b c. published_later s _ _;
    posts = λ q b. later _ _;
    awaits = λ q b e. later _ _;
    lost = λ i x t p. later _ _;
    through = λ i x effect t a p. called_later effect.place.version (of_call w.sizes w.place x.shard x.server x.call _ effect a).version _ _;
    unanswered = λ i x effect t a p. called_later effect.place.version (of_call w.sizes w.place x.shard x.server x.call _ effect a).version _ _;
  }

  stay_rising : (e : Happening) → AreRising first (happens w e).1
  stay_rising e = of_happens w (λ e o. AreRising first o.1) (record {
    idle = λ e answer n. u;
    steps = λ id. rising_by_steps id _;
    loses = λ id after. rising_by_steps id _;
    refills = λ id more f. later _ _;
    arrives = λ s v f. later _ _;
    passes_on = λ t o f. later _ _;
    approves = λ v f. later _ _;
    restarts = λ v f. later _ _;
    starts = λ plan h f g. u;
  }) e

are_rising : (setup : Setup) (w : State) → IsReached setup w → AreRising w.opening.version w
are_rising setup w r = by_events setup (λ u. AreRising u.opening.version u) (λ p room o s. ((omega arith), (omega arith)))
    (λ u e at fits low. subst (λ (m : ℕ → ℕ). AreRising m (happens u e).1) (ap (λ (p : Place). p.version) (sym (same_machine u e).opening)) (stay_rising u u.opening.version low e)) w r

-- no version is below that of the opening
pub versions_rise : (setup : Setup) (w : State) → IsReached setup w → (s : ℕ) → w.opening.version s ≤ w.place.version s
versions_rise setup w r s = (are_rising setup w r s).0

-- a shard's version has risen by no more than the log is long
pub versions_logged : (setup : Setup) (w : State) → IsReached setup w → (s : ℕ) → w.place.version s ≤ w.opening.version s + length w.log
versions_logged setup w r s = (are_rising setup w r s).1
