-- A stream that stands before a prepare_add or a prepare_drop has the crown of its shard, be the call made or not. So no other stream raises the
-- shard's highest handover number meanwhile.
use Rattle.std.proofs.Common.{◌≡◌, ◌≢◌, ℕ, ◌+◌, refl, sym, ◌∙◌, inl, inr, subst, Some, Ok}
use Rattle.std.proofs.lemmas.Bool.{cases_Bool, cases_eq}
use Rattle.sm_placement.specs.declared.lead.Lead.TheVariants.{At, Ready, Handing}
use Rattle.sm_placement.specs.Setup.{Sizes}
use Rattle.sm_placement.proofs.Sums.{put-here, put-apart}
use Rattle.sm_reservation.specs.declared.stream_id.StreamId.{StreamId}
use Rattle.sm_reservation.specs.Rights.{Rights}
use Rattle.sm_reservation.specs.Hold.{Hold}
use Rattle.sm_reservation.proofs.Truths.{true_crown}
use Rattle.sm_plan_code.specs.declared.instruction.Instr.{Instr}
use Rattle.sm_plan_code.specs.declared.instruction.Instr.TheVariants.{PrepareAdd, PrepareDrop}
use Rattle.sm_plan_code.specs.Acts.{numbers_after}
use Rattle.sm_plan_code.specs.After.{after, listed_of, prepare_add_line, prepare_drop_line}
use Rattle.sm_plan_code.specs.Reach.{HoldsLead, LeadNames}
use Rattle.sm_plan_code.proofs.Lines.{crown_tested, passes}
use Rattle.sm_verifier.specs.Stream.{hold_before, stream_at}
use Rattle.sm_protocol.specs.State.{State, hold_of_stream, plan_at, progress_of, reach}
use Rattle.sm_protocol.proofs.Invariant.{IsKept}
use Rattle.sm_protocol.proofs.Cases.{IsBefore}
use Rattle.sm_protocol.proofs.Trials.{apart, scene}
use Rattle.sm_protocol.proofs.Tries.{here, turn}

-- the call of the instruction carries the handover number of the shard, and u is the owner that gives it up
abbrev pub IsHandover : Instr → ℕ → ℕ → Type 0
IsHandover (PrepareAdd s v u) r o = (s ≡ r) × (u ≡ o)
IsHandover (PrepareDrop s u v) r o = (s ≡ r) × (u ≡ o)
IsHandover _ r o = ⊥

-- the crown of the shard is held before the instruction and behind it, under a lead that names the owner
abbrev IsCrownOf : Hold → Hold → ℕ → ℕ → Type 0
IsCrownOf h h' s u = HoldsLead h s u × HoldsLead h' s u

crown_of : (c : Sizes) (signals : ℕ → Rights) (h h' : Hold) (i : Instr) → after c signals i h ≡ Ok h' → (s u : ℕ) → IsHandover i s u → IsCrownOf h h' s u
crown_of c signals h h' (PrepareAdd a v o) e s u is =
    let ok = passes (prepare_add_line c a v o h) h' e in
    let tests = ok.0 in
    let led = tests.1 in
    let listed = listed_of (h.crowns a) in
    let behind : h'.crowns a ≡ Some (Ready o v, listed) = subst (λ (k : Hold). k.crowns a ≡ Some (Ready o v, listed)) ok.1 (put-here h.crowns a (Some (Ready o v, listed)) a refl) in
    subst (λ r. IsCrownOf h h' r u) is.0 (subst (λ n. IsCrownOf h h' a n) is.1
    ((At o, listed, crown_tested (At o) (h.crowns a) led.0, refl), (Ready o v, listed, behind, inl refl)))
crown_of c signals h h' (PrepareDrop a o v) e s u is =
    let ok = passes (prepare_drop_line a o v h) h' e in
    let tests = ok.0 in
    let led = tests.1 in
    let listed = listed_of (h.crowns a) in
    let behind : h'.crowns a ≡ Some (Handing o v, listed) = subst (λ (k : Hold). k.crowns a ≡ Some (Handing o v, listed)) ok.1 (put-here h.crowns a (Some (Handing o v, listed)) a refl) in
    subst (λ r. IsCrownOf h h' r u) is.0 (subst (λ n. IsCrownOf h h' a n) is.1
    ((Ready o v, listed, crown_tested (Ready o v) (h.crowns a) led.0, inl refl), (Handing o v, listed, behind, inl refl)))
crown_of c signals h h' _ e s u is = absurd is

module _ (w : State) (v : IsKept w) where
  -- a stream that stands before a handover has the crown
  has_crown : (id : StreamId) (i : Instr) → IsBefore w id (Some i) → (s u : ℕ) → IsHandover i s u → HoldsLead (hold_of_stream w id.plan id.stream) s u
  has_crown id i b s u is =
      let crown = crown_of w.sizes _ _ _ i (turn w v id i b).leaves s u is in
      elim (cases_Bool (progress_of w id).ahead) [
        | inl a ↦ subst (λ q. HoldsLead (hold_before (stream_at w.sizes (plan_at w id.plan) id.stream) (reach (progress_of w id).at q)) s u) (sym a) crown.1
        | inr a ↦ subst (λ q. HoldsLead (hold_before (stream_at w.sizes (plan_at w id.plan) id.stream) (reach (progress_of w id).at q)) s u) (sym a) crown.0
      ]

  -- two streams do not both stand before handovers of one shard
  pub one_handover : (a b : StreamId) (i j : Instr) → a ≢ b → IsBefore w a (Some i) → IsBefore w b (Some j) → (s u n : ℕ) → IsHandover i s u → IsHandover j s n → ⊥
  one_handover a b i j apart_is x y s u n is js =
      let first = has_crown a i x s u is in
      let second = has_crown b j y s n js in
      let one = true_crown w.sizes w.place v.leads (hold_of_stream w a.plan a.stream) (scene w v a (here w v a i x) x.running).truth s first.0 first.1 first.2 in
      let two = true_crown w.sizes w.place v.leads (hold_of_stream w b.plan b.stream) (scene w v b (here w v b j y) y.running).truth s second.0 second.1 second.2 in
      let same : LeadNames second.0 u = subst (λ l. LeadNames l u) (sym one.0 ∙ two.0) first.3 in
      apart w v a b (here w v a i x) (here w v b j y) x.running y.running apart_is s u (inr first) (inr (second.0, second.1, second.2, same))

  -- while a stream stands before a handover of a shard, the instructions of others leave the shard's highest handover number
  pub number_stays : (id other : StreamId) (i j : Instr) → other ≢ id → IsBefore w id (Some i) → IsBefore w other (Some j) → (s u : ℕ) → IsHandover i s u →
      numbers_after w.numbers j s ≡ w.numbers s
  number_stays id other i (PrepareAdd r t o) n x y s u is = elim (cases_eq s r) [
    | inl e ↦ absurd (one_handover other id (PrepareAdd r t o) i n y x s o u (sym e, refl) is)
    | inr e ↦ put-apart w.numbers r (w.numbers r + 1) s e
  ]
  number_stays id other i _ n x y s u is = refl
