-- Versions of the published map rise with recorded events alone, and only those of known shards do.
use Rattle.std.proofs.Common.{◌≡◌, ◌≤◌, ◌<◌, ◌+◌, ◌∙◌, ℕ, suc, Some, length, refl, ap, arith, inl, inr, true, false}
use Rattle.std.specs.Prelude.{IfSome, if◌then◌else◌}
use Rattle.std.proofs.lemmas.Bool.{cases_eq}
use Rattle.sm_placement.specs.Setup.{Setup}
use Rattle.sm_placement.specs.Sums.{put}
use Rattle.sm_placement.proofs.Sums.{put-apart, put-here}
use Rattle.sm_plan_code.specs.declared.limits.TheConstants.{MOST_PLACES}
use Rattle.sm_plan_code.specs.declared.instruction.Instr.{Instr}
use Rattle.sm_plan_code.specs.declared.instruction.Instr.TheVariants.{Publish, Unlist}
use Rattle.sm_plan_code.specs.Instr.{shard_of}
use Rattle.sm_reservation.specs.declared.stream_id.StreamId.{StreamId}
use Rattle.sm_protocol.specs.declared.event.Event.{Event}
use Rattle.sm_protocol.specs.declared.event.Event.TheVariants as event
use Rattle.sm_protocol.specs.declared.event.Played.{Played}
use Rattle.sm_protocol.specs.declared.event.Played.TheVariants as played
use Rattle.sm_protocol.specs.declared.event.Passage.{Passage}
use Rattle.sm_protocol.specs.declared.event.Passage.TheVariants.{LostAfter, LostBefore, Through}
use Rattle.sm_protocol.specs.State.{State, logged, progress_of}
use Rattle.sm_protocol.specs.Steps.{call_number}
use Rattle.sm_protocol.specs.Happens.{Happening, happens}
use Rattle.sm_protocol.specs.Laws.{IsReached}
use Rattle.sm_protocol.proofs.Invariant.{IsKept}
use Rattle.sm_protocol.proofs.Cases.{IsBefore, OfKnownSteps, of_known_happens}
use Rattle.sm_protocol.proofs.LogRoom.{begun_parts, has_room, length_logged, of_call}
use Rattle.sm_protocol.proofs.Reached.{by_events, of_opening}
use Rattle.sm_protocol.proofs.Whole.{reached_keeps}

-- this many events raise the versions of this many shards by no more than their number
record AreRaised (shards recorded : ℕ) (first version : ℕ → ℕ) : Type 0 where
  pub raised : (s : ℕ) → version s ≤ first s + recorded
  pub unknown : (s : ℕ) → shards ≤ s → version s ≡ first s

-- so it is in a state
abbrev IsRaised : State → Type 0
IsRaised w = AreRaised w.sizes.shards (length w.log) w.opening.version w.place.version

module _ (w : State) (h : IsRaised w) where
  -- an event more that leaves versions
  more : (x : Event) (a : Played) (version : ℕ → ℕ) → ((s : ℕ) → version s ≡ w.place.version s) → AreRaised w.sizes.shards (length (logged w x a)) w.opening.version version
  more x a version same = let l = length_logged w x a in record {
    raised = λ s. let b = h.raised s in let e = same s in omega arith;
    unknown = λ s k. same s ∙ h.unknown s k;
  }

  -- and one that raises one of a known shard
  entry_more : (x : Event) (a : Played) (t : ℕ) → t < w.sizes.shards → AreRaised w.sizes.shards (length (logged w x a)) w.opening.version (put w.place.version t (suc (w.place.version t)))
  entry_more x a t known = let l = length_logged w x a in record {
    raised = λ s. elim (cases_eq s t) [
      | inl e ↦ let p = put-here w.place.version t (suc (w.place.version t)) s e in let b = h.raised s in let v = ap w.place.version e in omega arith
      | inr n ↦ let p = put-apart w.place.version t (suc (w.place.version t)) s n in let b = h.raised s in omega arith
    ];
    unknown = λ s k. elim (cases_eq s t) [
      | inl e ↦ absurd (omega arith)
      | inr n ↦ put-apart w.place.version t (suc (w.place.version t)) s n ∙ h.unknown s k
    ];
  }

  module _ (kept : IsKept w) where
    -- a stream names known shards alone
    known : (id : StreamId) (i : Instr) → IsBefore w id (Some i) → IfSome (shard_of i) (λ s. s < w.sizes.shards)
    known id i b = let p = begun_parts w id b.begun in (((kept.plans id.plan p.0).streams id.stream p.1).reachable b.running (progress_of w id).at i b.next_is).shard

    by_steps : (id : StreamId) (passage : Passage) → OfKnownSteps w id passage (λ o. IsRaised o.1)
    by_steps id passage = record {
      idle = λ answer. h;
      refused = λ i x why t e. h;
      at_end = λ b. more (event.Step id) played.Done w.place.version (λ s. refl);
      publishes = λ s b. entry_more (event.Step id) played.Moved s (known id (Publish s) b);
      unlists = λ s b. entry_more (event.Step id) played.Moved s (known id (Unlist s) b);
      posts = λ q b. more (event.Step id) played.Moved w.place.version (λ s. refl);
      awaits = λ q b e. more (event.Step id) played.Moved w.place.version (λ s. refl);
      lost = λ i x t p. more (event.Lose id false) played.Lost w.place.version (λ s. refl);
      through = λ i x effect t a p. more (event.Step id) played.Moved effect.place.version
          (λ s. ap (λ f. f s) (of_call w.sizes w.place x.shard x.server x.call (call_number w (progress_of w id)) effect a).version);
      unanswered = λ i x effect t a p. more (event.Lose id true) played.Lost effect.place.version
          (λ s. ap (λ f. f s) (of_call w.sizes w.place x.shard x.server x.call (call_number w (progress_of w id)) effect a).version);
    }

    raised_kept : (e : Happening) → IsRaised (happens w e).1
    raised_kept e = of_known_happens w (λ e o. IsRaised o.1) (record {
      idle = λ e answer n. h;
      steps = λ id. by_steps id Through;
      loses = λ id after. by_steps id (if after then LostAfter else LostBefore);
      refills = λ id n f. more (event.Refill id n) played.Refilled w.place.version (λ s. refl);
      arrives = λ s v f. more (event.Arrive s v) _ w.place.version (λ s. refl);
      passes_on = λ t o f. more (event.PassOn t.place) _ w.place.version (λ s. refl);
      approves = λ v f. more (event.Approve v) played.Approved w.place.version (λ s. refl);
      restarts = λ v f. more (event.Done v) played.Up w.place.version (λ s. refl);
      starts = λ plan n l m. h;
    }) e

-- No version is further above that of the opening than the log has places, and those of unknown shards stay.
pub record AreVersionsRaised (w : State) : Type 0 where
  pub raised : (s : ℕ) → w.place.version s ≤ w.opening.version s + MOST_PLACES
  pub unknown : (s : ℕ) → w.sizes.shards ≤ s → w.place.version s ≡ w.opening.version s

-- so it is of every state that events lead to
pub versions_are_raised : (setup : Setup) (w : State) → IsReached setup w → AreVersionsRaised w
versions_are_raised setup w reached =
    let h = by_events setup IsRaised (λ p room o. record { raised = λ s. omega arith; unknown = λ s k. refl }) (λ u e at f v. raised_kept u v (reached_keeps setup u at).0 e) w reached in
    let room = (has_room setup w reached).room in
    let most = (of_opening setup w reached).is_opening.most in
    record { raised = λ s. let a = h.raised s in omega arith; unknown = h.unknown }
