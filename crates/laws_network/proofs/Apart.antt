-- Streams that stand before calls: their cells are different, and the call of one is the same once the other's is made.
use Rattle.std.proofs.Common.{◌≡◌, ◌≢◌, ℕ, ◌+◌, refl, sym, ap, ◌∙◌, inl, inr, subst, Bool, true, false, Option, Some, None, Ok, List, [], ◌∷◌}
use Rattle.sm_placement.specs.declared.lead.Lead.{Lead}
use Rattle.sm_placement.specs.declared.lead.Lead.TheVariants.{At, Ready}
use Rattle.sm_placement.specs.Setup.{Sizes}
use Rattle.sm_placement.specs.Sums.{put}
use Rattle.sm_placement.proofs.Sums.{put-apart, put-here}
use Rattle.sm_reservation.specs.Rights.{Rights}
use Rattle.sm_reservation.specs.Hold.{Hold}
use Rattle.sm_reservation.proofs.Truths.{same_lead_true, true_crown}
use Rattle.sm_plan_code.specs.declared.instruction.Instr.{Instr}
use Rattle.sm_plan_code.specs.declared.instruction.Instr.TheVariants.{PrepareAdd, PrepareDrop}
use Rattle.sm_plan_code.specs.declared.instruction.Why.{Why}
use Rattle.sm_plan_code.specs.declared.instruction.Why.TheVariants.{NoCrown, WrongLead}
use Rattle.sm_plan_code.specs.declared.call.ServerCall.{ServerCall}
use Rattle.sm_plan_code.specs.Instr.{is_call, names_of}
use Rattle.sm_plan_code.specs.Acts.{call_of, next_call, numbers_after}
use Rattle.sm_plan_code.specs.After.{after, comes_to, decided, has_crown, has_lead, leads_as, prepare_add_line, prepare_drop_line}
use Rattle.sm_plan_code.specs.Effects.{touched}
use Rattle.sm_plan_code.specs.Reach.{LeadNames, IsWithinReach}
use Rattle.sm_plan_code.proofs.Reaches.{within_reach}
use Rattle.sm_verifier.specs.Step.{parcels_of}
use Rattle.sm_verifier.specs.Stream.{hold_before, stream_at}
use Rattle.sm_reservation.specs.declared.stream_id.StreamId.{StreamId}
use Rattle.sm_protocol.specs.State.{State, plan_at, progress_of, reach, hold_of_stream}
use Rattle.sm_protocol.proofs.Invariant.{IsKept}
use Rattle.sm_protocol.proofs.Cases.{IsBefore}
use Rattle.sm_protocol.proofs.Courses.{some_same}
use Rattle.sm_protocol.proofs.Keeping.{begun}
use Rattle.sm_protocol.proofs.Trials.{call_at, scene, apart}
use Rattle.sm_protocol.proofs.Tries.{turn}
use Rattle.std.proofs.Math.Path.{fun_ext}
use Rattle.std.proofs.lemmas.Bool.{cases_eq}
use Rattle.laws_network.proofs.Overlay.{CanSwap, IsApart}

-- the stream stands before this instruction, which is this call
pub record IsAtCall (w : State) (id : StreamId) (i : Instr) (x : ServerCall) : Type 0 where
  pub before : IsBefore w id (Some i)
  pub call : is_call i ≡ true
  pub next : next_call w.numbers i ≡ Some x

-- it is one instruction, and one call
pub same_call : {w : State} {id : StreamId} {i j : Instr} {x y : ServerCall} → IsAtCall w id i x → IsAtCall w id j y → (i ≡ j) × (x ≡ y)
same_call {w} {id} {i} {j} {x} {y} t u =
    let e = some_same i j (sym t.before.next_is ∙ u.before.next_is) in
    (e, some_same x y (sym t.next ∙ ap (next_call w.numbers) e ∙ u.next))

-- the call is for the cell that the instruction touches
pub touches : (numbers : ℕ → ℕ) (i : Instr) (x : ServerCall) → is_call i ≡ true → next_call numbers i ≡ Some x → touched i ≡ Some (x.shard, x.server)
touches numbers i x is next = let c = call_at numbers i is in subst (λ y. touched i ≡ Some (y.shard, y.server)) (some_same c.call x (sym c.next ∙ next)) c.touches

-- the instruction mentions the server of its call
pub mentions : (numbers : ℕ → ℕ) (i : Instr) (x : ServerCall) → is_call i ≡ true → next_call numbers i ≡ Some x → (names_of i).first ≡ Some x.server
mentions numbers i x is next = let c = call_at numbers i is in subst (λ y. (names_of i).first ≡ Some y.server) (some_same c.call x (sym c.next ∙ next)) c.mentions

module _ (w : State) (v : IsKept w) where
  abbrev holds : StreamId → ℕ → Hold
  holds id n = hold_before (stream_at w.sizes (plan_at w id.plan) id.stream) n

  -- it reaches the cell of its call
  reaches : (id : StreamId) (i : Instr) (x : ServerCall) → IsAtCall w id i x → (progress_of w id).ahead ≡ false → IsWithinReach (hold_of_stream w id.plan id.stream) x.shard x.server
  reaches id i x t a =
      let at = (progress_of w id).at in
      let own = within_reach w.sizes (parcels_of (plan_at w id.plan).signals) (holds id at) (holds id (at + 1)) i (turn w v id i t.before).leaves x.shard x.server (touches w.numbers i x t.call t.next) in
      subst (λ q. IsWithinReach (holds id (reach at q)) x.shard x.server) (sym a) own.0

  -- two streams reach no cell together
  streams_apart : (a b : StreamId) (i j : Instr) → a ≢ b → IsBefore w a (Some i) → IsBefore w b (Some j) → (s u : ℕ) →
      IsWithinReach (hold_of_stream w a.plan a.stream) s u → IsWithinReach (hold_of_stream w b.plan b.stream) s u → ⊥
  streams_apart a b i j n p q = apart w v a b (begun w a p.begun) (begun w b q.begun) p.running q.running n

  -- the calls of two streams are for different cells
  pub calls_apart : (a b : StreamId) (i j : Instr) (x y : ServerCall) → a ≢ b → IsAtCall w a i x → IsAtCall w b j y → (progress_of w a).ahead ≡ false → (progress_of w b).ahead ≡ false → IsApart x y
  calls_apart a b i j x y n t u d e h =
      streams_apart a b i j n t.before u.before x.shard x.server (reaches a i x t d)
      (subst (λ s. IsWithinReach (hold_of_stream w b.plan b.stream) s x.server) (sym h.0) (subst (λ s. IsWithinReach (hold_of_stream w b.plan b.stream) y.shard s) (sym h.1) (reaches b j y u e)))

-- ---- crowns

-- the first test of a line that passes holds, and the others pass
passes : (t : Bool) (why : Why) (ts : List (Bool × Why)) (h h' : Hold) → decided (record { tests = (t, why) ∷ ts; change = h }) ≡ Ok h' → (t ≡ true) × (decided (record { tests = ts; change = h }) ≡ Ok h')
passes true why ts h h' e = (refl, e)
passes false why ts h h' e = absurd (cc)

led : (lead : Lead) (o : Option (Lead × Option ℕ)) → leads_as lead o ≡ true → (listed : Option ℕ) × (o ≡ Some (lead, listed))
led lead None e = absurd (cc)
led lead (Some crown) e = (crown.1, ap (λ l. Some (l, crown.1)) (sym (same_lead_true lead crown.0 e)))

-- a handover is prepared by who has the crown, where nobody else has a part
prepares : (c : Sizes) (signals : ℕ → Rights) (s v u : ℕ) (h h' : Hold) → after c signals (PrepareAdd s v u) h ≡ Ok h' → (listed : Option ℕ) × (h.crowns s ≡ Some (At u, listed))
prepares c signals s v u h h' e =
    let made = (prepare_add_line c s v u h).change in
    let a = passes (has_crown h s) NoCrown ((has_lead h s (At u), WrongLead) ∷ comes_to c s v h) made h' e in
    let b = passes (has_lead h s (At u)) WrongLead (comes_to c s v h) made h' a.1 in
    led (At u) (h.crowns s) b.0

-- and gone on with by who has the crown of a handover that was prepared
hands : (c : Sizes) (signals : ℕ → Rights) (s u v : ℕ) (h h' : Hold) → after c signals (PrepareDrop s u v) h ≡ Ok h' → (listed : Option ℕ) × (h.crowns s ≡ Some (Ready u v, listed))
hands c signals s u v h h' e =
    let made = (prepare_drop_line s u v h).change in
    let a = passes (has_crown h s) NoCrown ((has_lead h s (Ready u v), WrongLead) ∷ []) made h' e in
    let b = passes (has_lead h s (Ready u v)) WrongLead [] made h' a.1 in
    led (Ready u v) (h.crowns s) b.0

module _ (w : State) (v : IsKept w) where
  abbrev own : StreamId → Hold
  own id = hold_of_stream w id.plan id.stream

  -- the hold before the next instruction
  now_is : (id : StreamId) → (progress_of w id).ahead ≡ false → holds w v id (progress_of w id).at ≡ own id
  now_is id a = ap (λ q. holds w v id (reach (progress_of w id).at q)) (sym a)

  -- the crown of a prepare_add, and of a prepare_drop
  add_crown : (id : StreamId) (s x u : ℕ) → IsBefore w id (Some (PrepareAdd s x u)) → (progress_of w id).ahead ≡ false → (listed : Option ℕ) × ((own id).crowns s ≡ Some (At u, listed))
  add_crown id s x u p a = subst (λ h. (listed : Option ℕ) × (h.crowns s ≡ Some (At u, listed))) (now_is id a) (prepares w.sizes (parcels_of (plan_at w id.plan).signals) s x u (holds w v id (progress_of w id).at) (holds w v id ((progress_of w id).at + 1)) (turn w v id (PrepareAdd s x u) p).leaves)

  drop_crown : (id : StreamId) (s u x : ℕ) → IsBefore w id (Some (PrepareDrop s u x)) → (progress_of w id).ahead ≡ false → (listed : Option ℕ) × ((own id).crowns s ≡ Some (Ready u x, listed))
  drop_crown id s u x p a = subst (λ h. (listed : Option ℕ) × (h.crowns s ≡ Some (Ready u x, listed))) (now_is id a) (hands w.sizes (parcels_of (plan_at w id.plan).signals) s u x (holds w v id (progress_of w id).at) (holds w v id ((progress_of w id).at + 1)) (turn w v id (PrepareDrop s u x) p).leaves)

  -- a crown that is held says what the lead is
  lead_is : (id : StreamId) (i : Instr) → IsBefore w id (Some i) → (s : ℕ) (lead : Lead) (listed : Option ℕ) → (own id).crowns s ≡ Some (lead, listed) → v.leads s ≡ lead
  lead_is id i p s lead listed e = (true_crown w.sizes w.place v.leads (own id) (scene w v id (begun w id p.begun) p.running).truth s lead listed e).0

  -- no two streams hold one crown, under a lead that names somebody
  one_crown : (a b : StreamId) (i j : Instr) → a ≢ b → IsBefore w a (Some i) → IsBefore w b (Some j) → (s u : ℕ) (l m : Lead) (x y : Option ℕ) →
      (own a).crowns s ≡ Some (l, x) → (own b).crowns s ≡ Some (m, y) → LeadNames l u → ⊥
  one_crown a b i j n p q s u l m x y d e names =
      let same : l ≡ m = sym (lead_is a i p s l x d) ∙ lead_is b j q s m y e in
      streams_apart w v a b i j n p q s u (inr (l, x, d, names)) (inr (m, y, e, subst (λ (z : Lead). LeadNames z u) same names))

  -- the call of a stream is the same once the other's is made
  pub next_stays : (a b : StreamId) → a ≢ b → (progress_of w a).ahead ≡ false → (progress_of w b).ahead ≡ false → (i j : Instr) → IsBefore w a (Some i) → IsBefore w b (Some j) →
      next_call (numbers_after w.numbers i) j ≡ next_call w.numbers j
  next_stays a b n d e (PrepareAdd s x u) (PrepareAdd r y z) p q = ap (λ k. call_of (PrepareAdd r y z) (k + 1)) (put-apart w.numbers s (w.numbers s + 1) r (λ h.
      let f = add_crown a s x u p d in
      let g = add_crown b r y z q e in
      one_crown a b (PrepareAdd s x u) (PrepareAdd r y z) n p q s u (At u) (At z) f.0 g.0 f.1 (subst (λ k. (own b).crowns k ≡ Some (At z, g.0)) h g.1) refl))
  next_stays a b n d e (PrepareAdd s x u) (PrepareDrop r y z) p q = ap (λ k. call_of (PrepareDrop r y z) k) (put-apart w.numbers s (w.numbers s + 1) r (λ h.
      let f = add_crown a s x u p d in
      let g = drop_crown b r y z q e in
      one_crown a b (PrepareAdd s x u) (PrepareDrop r y z) n p q s u (At u) (Ready y z) f.0 g.0 f.1 (subst (λ k. (own b).crowns k ≡ Some (Ready y z, g.0)) h g.1) refl))
  next_stays a b n d e (PrepareAdd s x u) j p q = refl
  next_stays a b n d e i j p q = refl

  -- the handover numbers are the same, whichever of the two is made first
  pub numbers_swap : (a b : StreamId) → a ≢ b → (progress_of w a).ahead ≡ false → (progress_of w b).ahead ≡ false → (i j : Instr) → IsBefore w a (Some i) → IsBefore w b (Some j) → CanSwap i (Some j)
  numbers_swap a b n d e (PrepareAdd s x u) (PrepareAdd r y z) p q f = fun_ext (λ k. at k)
    where
      apart_shards : s ≡ r → ⊥
      apart_shards h =
          let c = add_crown a s x u p d in
          let g = add_crown b r y z q e in
          one_crown a b (PrepareAdd s x u) (PrepareAdd r y z) n p q s u (At u) (At z) c.0 g.0 c.1 (subst (λ k. (own b).crowns k ≡ Some (At z, g.0)) (sym h) g.1) refl

      first : ℕ → ℕ
      first = put f s (f s + 1)

      at : (k : ℕ) → put (put f s (f s + 1)) r (put f s (f s + 1) r + 1) k ≡ put (put f r (f r + 1)) s (put f r (f r + 1) s + 1) k
      at k = elim (cases_eq k r) [
        | inl h ↦
            put-here (put f s (f s + 1)) r (put f s (f s + 1) r + 1) k h
            ∙ ap (λ m. m + 1) (put-apart f s (f s + 1) r (λ g. apart_shards (sym g)))
            ∙ sym (put-apart (put f r (f r + 1)) s (put f r (f r + 1) s + 1) k (λ g. apart_shards (sym g ∙ h)) ∙ put-here f r (f r + 1) k h)
        | inr h ↦ put-apart (put f s (f s + 1)) r (put f s (f s + 1) r + 1) k h ∙ elim (cases_eq k s) [
          | inl g ↦
              put-here f s (f s + 1) k g
              ∙ sym (put-here (put f r (f r + 1)) s (put f r (f r + 1) s + 1) k g ∙ ap (λ m. m + 1) (put-apart f r (f r + 1) s apart_shards))
          | inr g ↦ put-apart f s (f s + 1) k g ∙ sym (put-apart (put f r (f r + 1)) s (put f r (f r + 1) s + 1) k g ∙ put-apart f r (f r + 1) k h)
        ]
      ]
  numbers_swap a b n d e (PrepareAdd s x u) j p q f = refl
  numbers_swap a b n d e i j p q f = refl
