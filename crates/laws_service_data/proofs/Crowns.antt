-- The crown of a shard: one running stream has it at most, and who stands before a call for the shard's lead has it.
use Rattle.std.proofs.Common.{◌≡◌, ◌≤◌, ◌⊎◌, ◌+◌, ℕ, refl, sym, ap, ◌∙◌, inl, inr, subst, arith, not, Bool, true, false, Option, Some, None, Ok, List, [], ◌∷◌, is_some}
use Rattle.std.specs.Prelude.{if◌then◌else◌}
use Rattle.std.proofs.lemmas.Bool.{and_from, and_parts, not-true}
use Rattle.sm_server.specs.declared.call.Role.{Role}
use Rattle.sm_server.specs.declared.call.Role.TheVariants as role
use Rattle.sm_server.specs.declared.call.Call.{Call}
use Rattle.sm_server.specs.declared.call.Call.TheVariants as call
use Rattle.sm_server.specs.declared.call.Cell.TheVariants as cell
use Rattle.sm_placement.specs.declared.lead.Lead.{Lead}
use Rattle.sm_placement.specs.declared.lead.Lead.TheVariants.{At, Gone}
use Rattle.sm_placement.specs.Setup.{Sizes}
use Rattle.sm_placement.specs.Sums.{bit}
use Rattle.sm_placement.proofs.Sums.{bit-le-one}
use Rattle.sm_reservation.specs.declared.right.PlainCell.TheVariants.{Secondary}
use Rattle.sm_reservation.specs.declared.stream_id.StreamId.{StreamId}
use Rattle.sm_reservation.specs.Rights.{Rights}
use Rattle.sm_reservation.specs.Hold.{Hold}
use Rattle.sm_reservation.specs.Amounts.{OfCrown, Right, is_crown}
use Rattle.sm_reservation.proofs.Truths.{is_cell_true, same_lead_self, same_server_self, secondary_from, true_cell, true_crown}
use Rattle.sm_plan_code.specs.declared.instruction.Instr.{Instr}
use Rattle.sm_plan_code.specs.declared.instruction.Instr.TheVariants.{Add, Change, Drop, PrepareAdd, PrepareDrop, Publish, Signal, Unlist, Wait}
use Rattle.sm_plan_code.specs.declared.instruction.Why.{Why}
use Rattle.sm_plan_code.specs.declared.instruction.Why.TheVariants.{NoCrown, NoRight, NoSpare, StillListed, Twice, WrongLead, WrongState}
use Rattle.sm_plan_code.specs.declared.call.ServerCall.{ServerCall}
use Rattle.sm_plan_code.specs.Acts.{next_call}
use Rattle.sm_plan_code.specs.After.{after, decided, drop_held_line, drop_led_line, has_cell, has_crown, has_lead, has_right, has_spare, is_unlisted, lead_held, to_primary_line, to_secondary_line}
use Rattle.sm_plan_code.specs.Plan.{PlanModel}
use Rattle.sm_verifier.specs.Step.{parcels_of}
use Rattle.sm_verifier.specs.Stream.{hold_before, stream_at}
use Rattle.sm_protocol.specs.State.{State, held, hold_of_stream, is_begun, is_running, plan_at, progress_of, reach}
use Rattle.sm_protocol.proofs.Cases.{IsBefore}
use Rattle.sm_protocol.proofs.Courses.{some_same}
use Rattle.sm_protocol.proofs.Holds.{share}
use Rattle.sm_protocol.proofs.Invariant.{IsKept}
use Rattle.sm_protocol.proofs.Keeping.{begun}
use Rattle.sm_protocol.proofs.Numbers.{one_stream}
use Rattle.sm_protocol.proofs.Trials.{scene, share_is, two_shares}
use Rattle.sm_protocol.proofs.Tries.{turn}
use Rattle.laws_network.proofs.Apart.{IsAtCall}

-- whether a stream that stands there in its code has the crown of a shard
abbrev pub crown_at : Sizes → PlanModel → ℕ → ℕ → ℕ → Bool
crown_at c plan i at s = has_crown (hold_before (stream_at c plan i) at) s

-- A stream runs, and has the crown of a shard.
pub record HasCrown (w : State) (s : ℕ) (id : StreamId) : Type 0 where
  pub runs : is_running w id ≡ true
  pub crown : crown_at w.sizes (plan_at w id.plan) id.stream (progress_of w id).at s ≡ true

crown_is : (o : Option (Lead × Option ℕ)) → is_some o ≡ true → (lead : Lead) × (listed : Option ℕ) × (o ≡ Some (lead, listed))
crown_is (Some c) e = (c.0, c.1, refl)
crown_is None e = absurd (cc)

-- ---- one crown

module _ (w : State) (v : IsKept w) (unmade : (id : StreamId) → (progress_of w id).ahead ≡ false) where
  -- what a stream has before its next instruction
  abbrev before_next : StreamId → Hold
  before_next id = hold_before (stream_at w.sizes (plan_at w id.plan) id.stream) (progress_of w id).at

  abbrev own : StreamId → Hold
  own id = hold_of_stream w id.plan id.stream

  now_is : (id : StreamId) → before_next id ≡ own id
  now_is id = ap (λ q. hold_before (stream_at w.sizes (plan_at w id.plan) id.stream) (reach (progress_of w id).at q)) (sym (unmade id))

  -- the right to the crown as it is
  abbrev right : ℕ → Right
  right s = OfCrown s (v.leads s) (w.place.listed s)

  -- the crown that a stream has is as it is
  true_one : (s : ℕ) (id : StreamId) → HasCrown w s id → (own id).crowns s ≡ Some (v.leads s, w.place.listed s)
  true_one s id h =
      let b = and_parts (is_begun w id) (not (progress_of w id).done) h.runs in
      let c = crown_is ((own id).crowns s) (subst (λ (x : Hold). has_crown x s ≡ true) (now_is id) h.crown) in
      let t = true_crown w.sizes w.place v.leads (own id) (scene w v id (begun w id b.0) (not-true (progress_of w id).done b.1)).truth s c.0 c.1 c.2 in
      c.2
      ∙ (ap (λ l. let z : Option (Lead × Option ℕ) = Some (l, c.1) in z) (sym t.0)
      ∙ ap (λ x. let z : Option (Lead × Option ℕ) = Some (v.leads s, x) in z) (sym t.1))

  -- it counts one
  counted_one : (s : ℕ) (id : StreamId) → HasCrown w s id → share w id (right s) (progress_of w id) ≡ 1
  counted_one s id h =
      let b = and_parts (is_begun w id) (not (progress_of w id).done) h.runs in
      share_is w v id (right s) (not-true (progress_of w id).done b.1)
      ∙ (ap (λ o. bit (is_crown (v.leads s) (w.place.listed s) o)) (true_one s id h) ∙ itself)
    where
      itself : bit (is_crown (v.leads s) (w.place.listed s) (Some (v.leads s, w.place.listed s))) ≡ 1
      itself = rw (same_lead_self (v.leads s), same_server_self (w.place.listed s)) refl

  -- there is one of it
  within_one : (s : ℕ) → held w (right s) ≤ 1
  within_one s =
      let one = bit-le-one (is_crown (v.leads s) (w.place.listed s) (Some (v.leads s, w.place.listed s))) in
      let f : held w (right s) + 0 ≤ bit (is_crown (v.leads s) (w.place.listed s) (Some (v.leads s, w.place.listed s))) = v.fits (right s) in
      omega arith

  -- one stream has it at most
  pub one_crown : (s : ℕ) (a b : StreamId) → HasCrown w s a → HasCrown w s b → a ≡ b
  one_crown s a b h k = elim (one_stream a b) [
    | inl e ↦ e
    | inr n ↦ absurd (
        let x = begun w a (and_parts (is_begun w a) (not (progress_of w a).done) h.runs).0 in
        let y = begun w b (and_parts (is_begun w b) (not (progress_of w b).done) k.runs).0 in
        let both = two_shares w a b (right s) x.plan x.stream y.plan y.stream n in
        let p = counted_one s a h in
        let q = counted_one s b k in
        let most = within_one s in
        omega arith
        )
  ]

-- ---- calls for a lead

-- the first test of a line that passes holds
first_test : (t : Bool) (why : Why) (ts : List (Bool × Why)) (h h' : Hold) → decided (record { tests = (t, why) ∷ ts; change = h }) ≡ Ok h' → t ≡ true
first_test true why ts h h' e = refl
first_test false why ts h h' e = absurd (cc)

-- a replica becomes primary, or secondary, by who has the crown
changed : (c : Sizes) (signals : ℕ → Rights) (s u : ℕ) (to : Role) (h h' : Hold) → after c signals (Change s u to) h ≡ Ok h' → has_crown h s ≡ true
changed c signals s u role.Primary h h' e = first_test (has_crown h s) NoCrown ((has_lead h s Gone, WrongLead) ∷ (has_right h s u, NoRight) ∷ (has_cell h s u Secondary, WrongState) ∷ []) (to_primary_line s u h).change h' e
changed c signals s u role.Secondary h h' e = first_test (has_crown h s) NoCrown ((has_lead h s (At u), WrongLead) ∷ (is_unlisted h s, StillListed) ∷ (not (has_right h s u), Twice) ∷ []) (to_secondary_line s u h).change h' e

-- one is dropped by who has the crown, or the right to a secondary
dropped : (c : Sizes) (signals : ℕ → Rights) (s u : ℕ) (h h' : Hold) → after c signals (Drop s u) h ≡ Ok h' → (has_crown h s ≡ true) ⊎ (h.cells s u ≡ Some Secondary)
dropped c signals s u h h' e = go (has_right h s u) e
  where
    led : (o : Option (Lead × Option ℕ)) → h.crowns s ≡ o → decided (drop_led_line c s u h (lead_held o)) ≡ Ok h' → has_crown h s ≡ true
    led None q f = absurd (cc)
    led (Some x) q f = ap is_some q

    go : (b : Bool) → decided (if b then drop_held_line c s u h else drop_led_line c s u h (lead_held (h.crowns s))) ≡ Ok h' → (has_crown h s ≡ true) ⊎ (h.cells s u ≡ Some Secondary)
    go true f = inr (is_cell_true Secondary (h.cells s u) (first_test (has_cell h s u Secondary) WrongState ((has_spare h s, NoSpare) ∷ []) (drop_held_line c s u h).change h' f))
    go false f = inl (led (h.crowns s) refl f)

module _ (w : State) (v : IsKept w) (unmade : (id : StreamId) → (progress_of w id).ahead ≡ false) (id : StreamId) (x : ServerCall) where
  abbrev now : Hold
  now = before_next w v unmade id

  has_now : (i : Instr) → IsBefore w id (Some i) → (s : ℕ) → has_crown now s ≡ true → HasCrown w s id
  has_now i p s e = record { runs = and_from (is_begun w id) (not (progress_of w id).done) p.begun (ap not p.running); crown = e }

  other : (i : Instr) (y : ServerCall) → next_call w.numbers i ≡ Some y → next_call w.numbers i ≡ Some x → (c d : Call) → y.call ≡ c → x.call ≡ d → c ≡ d
  other i y e f c d p q = sym p ∙ (ap (λ (z : ServerCall). z.call) (some_same y x (sym e ∙ f)) ∙ q)

  -- so does who changes a replica
  pub changing_crown : (i : Instr) → IsAtCall w id i x → (from to : Role) → x.call ≡ call.Change from to → HasCrown w x.shard id
  changing_crown i t from to e = go i t.before t.next
    where
      go : (i : Instr) → IsBefore w id (Some i) → next_call w.numbers i ≡ Some x → HasCrown w x.shard id
      go (Change s u r) p f = subst (λ k. HasCrown w k id) (ap (λ (z : ServerCall). z.shard) (some_same _ x f))
          (has_now (Change s u r) p s (changed w.sizes (parcels_of (plan_at w id.plan).signals) s u r now _ (turn w v id (Change s u r) p).leaves))
      go (PrepareAdd s u y) p f = absurd (let z = other (PrepareAdd s u y) _ refl f _ _ refl e in cc)
      go (PrepareDrop s u y) p f = absurd (let z = other (PrepareDrop s u y) _ refl f _ _ refl e in cc)
      go (Add s u r) p f = absurd (let z = other (Add s u r) _ refl f _ _ refl e in cc)
      go (Drop s u) p f = absurd (let z = other (Drop s u) _ refl f _ _ refl e in cc)
      go (Publish s) p f = absurd (cc)
      go (Unlist s) p f = absurd (cc)
      go (Signal k) p f = absurd (cc)
      go (Wait k) p f = absurd (cc)

  -- and who drops one, if it is no secondary
  pub dropping_crown : (i : Instr) → IsAtCall w id i x → x.call ≡ call.Drop → HasCrown w x.shard id ⊎ (w.place.cells x.shard x.server ≡ cell.Secondary)
  dropping_crown i t e = go i t.before t.next
    where
      go : (i : Instr) → IsBefore w id (Some i) → next_call w.numbers i ≡ Some x → HasCrown w x.shard id ⊎ (w.place.cells x.shard x.server ≡ cell.Secondary)
      go (Drop s u) p f = subst (λ (z : ServerCall). HasCrown w z.shard id ⊎ (w.place.cells z.shard z.server ≡ cell.Secondary)) (some_same _ x f)
          (elim (dropped w.sizes (parcels_of (plan_at w id.plan).signals) s u now _ (turn w v id (Drop s u) p).leaves) [
            | inl h ↦ inl (has_now (Drop s u) p s h)
            | inr h ↦ inr (secondary_from (w.place.cells s u)
                (true_cell w.sizes w.place v.leads (own w v unmade id) (scene w v id (begun w id p.begun) p.running).truth s u Secondary (ap (λ (z : Hold). z.cells s u) (sym (now_is w v unmade id)) ∙ h)))
          ])
      go (PrepareAdd s u y) p f = absurd (let z = other (PrepareAdd s u y) _ refl f _ _ refl e in cc)
      go (PrepareDrop s u y) p f = absurd (let z = other (PrepareDrop s u y) _ refl f _ _ refl e in cc)
      go (Add s u r) p f = absurd (let z = other (Add s u r) _ refl f _ _ refl e in cc)
      go (Change s u r) p f = absurd (let z = other (Change s u r) _ refl f _ _ refl e in cc)
      go (Publish s) p f = absurd (cc)
      go (Unlist s) p f = absurd (cc)
      go (Signal k) p f = absurd (cc)
      go (Wait k) p f = absurd (cc)
