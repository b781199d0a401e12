-- The needs of a grant's exchange, if a stream makes an instruction that is neither a signal nor a wait.
use Rattle.std.proofs.Common.{◌≡◌, ◌≤◌, ◌<◌, ◌+◌, ℕ, false, sym, ap, ◌∙◌, arith, subst, Some, None, Ok}
use Rattle.std.specs.Prelude.{IfSome}
use Rattle.sm_placement.specs.Setup.{Setup, Sizes}
use Rattle.sm_reservation.specs.declared.stream_id.StreamId.{StreamId}
use Rattle.sm_reservation.specs.declared.change.Change.{Change as Exchange}
use Rattle.sm_reservation.specs.Rights.{Rights}
use Rattle.sm_reservation.specs.Hold.{Hold, minus, plus}
use Rattle.sm_reservation.specs.HoldOf.{hold_of}
use Rattle.sm_reservation.specs.Amounts.{count}
use Rattle.sm_reservation.specs.CanJoin.{CanJoin}
use Rattle.sm_reservation.specs.Change.{portion_rights}
use Rattle.sm_reservation.specs.Key.{IsOrdered, IsPositive}
use Rattle.sm_reservation.specs.Capacity.{HoldModel, HasCapacityAfter}
use Rattle.sm_reservation.specs.Short.{first_short}
use Rattle.sm_reservation.proofs.Joins.{joins_in_placement}
use Rattle.sm_reservation.proofs.ParcelSums.{plus_count}
use Rattle.sm_reservation.proofs.HoldSizes.{capacity_to_trade}
use Rattle.sm_plan_code.specs.declared.instruction.Instr.{Instr}
use Rattle.sm_plan_code.specs.Instr.{shard_of, IsOwn}
use Rattle.sm_plan_code.specs.After.{after}
use Rattle.sm_plan_code.specs.Table.{IsExchanged, exchange_of}
use Rattle.sm_plan_code.specs.Effects.{Effect}
use Rattle.sm_plan_code.proofs.Conditions.{portion_ordered}
use Rattle.sm_plan_code.proofs.Effects.{effect}
use Rattle.sm_plan_code.proofs.Exchanges.{lines_exchange}
use Rattle.sm_verifier.specs.Peak.{IsPeak}
use Rattle.sm_verifier.specs.Step.{parcels_of}
use Rattle.sm_protocol.specs.State.{State, plan_at, progress_of, hold_of_stream}
use Rattle.sm_protocol.specs.Laws.{IsReached}
use Rattle.sm_protocol.proofs.Invariant.{IsKept}
use Rattle.sm_protocol.proofs.Tries.{scene_before}
use Rattle.sm_protocol.proofs.Cases.{IsBefore}
use Rattle.sm_machine.proofs.ties.Before.{course_at, hold_here, hold_behind, kept, is_setup, same_sizes, known, holds_here, turn, can_reach}

-- The grant g is that of a stream before the instruction i, which leads to the hold h: the table of rights has its line, the
-- grant has what the line needs, and capacity for what the line gives, which leads to that hold.
pub record CanExchange (c : Sizes) (signals : ℕ → Rights) (i : Instr) (g : HoldModel) (h : Hold) : Type 0 where
  pub shard : IfSome (shard_of i) (λ s. s < c.shards)
  pub leaves : after c signals i (hold_of g.rights) ≡ Ok h
  pub held : first_short (hold_of g.rights) (portion_rights (exchange_of c i (hold_of g.rights)).out) ≡ None
  pub fits : CanJoin (minus (hold_of g.rights) (portion_rights (exchange_of c i (hold_of g.rights)).out)) (hold_of (portion_rights (exchange_of c i (hold_of g.rights)).got))
  pub capacity : HasCapacityAfter g (portion_rights (exchange_of c i (hold_of g.rights)).out) (portion_rights (exchange_of c i (hold_of g.rights)).got)
  pub left : plus (minus (hold_of g.rights) (portion_rights (exchange_of c i (hold_of g.rights)).out)) (portion_rights (exchange_of c i (hold_of g.rights)).got) ≡ h

module _ (w : State) (v : IsKept w) (id : StreamId) (i : Instr) (b : IsBefore w id (Some i)) (a : (progress_of w id).ahead ≡ false) where
  -- the table of rights leads from what the stream holds to what it holds behind its instruction
  pub leaves_behind : after w.sizes (parcels_of (plan_at w id.plan).signals) i (hold_of_stream w id.plan id.stream) ≡ Ok (hold_behind w id)
  leaves_behind = ap (λ h. after w.sizes (parcels_of (plan_at w id.plan).signals) i h) (holds_here w v id a) ∙ (turn w v id i b).leaves

  -- the effect of the instruction
  pub effect_here : IsOwn i → Effect w.sizes w.place v.leads w.numbers (hold_here w id) (hold_behind w id) i
  effect_here own = effect w.sizes w.place v.leads w.numbers (parcels_of (plan_at w id.plan).signals) (hold_here w id)
      (scene_before w v id (known w v id (Some i) b) i b.next_is a) i (hold_behind w id) (can_reach w v id i b) own (turn w v id i b).leaves

module _ (setup : Setup) (w : State) (reached : IsReached setup w) (id : StreamId) (i : Instr) (b : IsBefore w id (Some i)) where
  exchange_fits : (own : IsOwn i) (a : (progress_of w id).ahead ≡ false) → let x = exchange_of w.sizes i (hold_here w id) in
      IsExchanged (hold_here w id) (hold_behind w id) x.out x.got → CanJoin (minus (hold_here w id) (portion_rights x.out)) (hold_of (portion_rights x.got))
  exchange_fits own a is =
      let x : Exchange = exchange_of w.sizes i (hold_here w id) in
      let less : Hold = minus (hold_here w id) (portion_rights x.out) in
      let e = effect_here w (kept setup w reached) id i b a own in
      joins_in_placement setup e.next_place e.next_leads less (hold_of (portion_rights x.got)) (is_setup setup w reached)
      (λ r.
      let sum = plus_count less (portion_rights x.got) (portion_ordered x.got) is.apart r in
      let same : count (hold_behind w id) r ≡ count (plus less (portion_rights x.got)) r = ap (λ h. count h r) is.left in
      let true_then = subst (λ c. count (hold_behind w id) r + Rattle.sm_reservation.specs.Amounts.bound c e.next_place r ≤ Rattle.sm_reservation.specs.Amounts.stock c e.next_place e.next_leads r) (same_sizes setup w reached) (e.scene.truth.rights r) in
      omega arith)

  -- what the stream's grant exchanges with its next instruction, whose call has not had its effect
  pub can_exchange : IsOwn i → (progress_of w id).ahead ≡ false → (g : HoldModel) → hold_of g.rights ≡ hold_of_stream w id.plan id.stream → IsOrdered g.rights → IsPositive g.rights →
      (n : ℕ) → IsPeak (course_at w id) n → n ≤ g.capacity → CanExchange w.sizes (parcels_of (plan_at w id.plan).signals) i g (hold_behind w id)
  can_exchange own a g is ordered positive n peak enough =
      let v = kept setup w reached in
      let here : hold_here w id ≡ hold_of g.rights = sym (is ∙ holds_here w v id a) in
      let leaves = leaves_behind w v id i b a in
      let x = lines_exchange w.sizes (parcels_of (plan_at w id.plan).signals) (hold_here w id) (hold_behind w id) i own (turn w v id i b).leaves in
      let fits = exchange_fits own a x in
      let listed = peak.bound ((progress_of w id).at + 1) (within (known w v id (Some i) b)) in
      let all : IsExchanged (hold_of g.rights) (hold_behind w id) (exchange_of w.sizes i (hold_of g.rights)).out (exchange_of w.sizes i (hold_of g.rights)).got =
      subst (λ h. IsExchanged h (hold_behind w id) (exchange_of w.sizes i h).out (exchange_of w.sizes i h).got) here x in
      record {
        shard = (can_reach w v id i b).shard;
        leaves = subst (λ h. after w.sizes (parcels_of (plan_at w id.plan).signals) i h ≡ Ok (hold_behind w id)) (sym is) leaves;
        held = all.held;
        fits = subst (λ h. CanJoin (minus h (portion_rights (exchange_of w.sizes i h).out)) (hold_of (portion_rights (exchange_of w.sizes i h).got))) here fits;
        capacity = capacity_to_trade g (portion_rights (exchange_of w.sizes i (hold_of g.rights)).out) (portion_rights (exchange_of w.sizes i (hold_of g.rights)).got) listed.0 ordered positive
            (portion_ordered _) (portion_ordered _) all.held listed.1.ordered listed.1.positive (listed.1.hold ∙ all.left) (let m = listed.2 in omega arith);
        left = sym all.left;
      }
    where
      within : Rattle.sm_protocol.proofs.Trials.IsBegun w id → (progress_of w id).at + 1 ≤ Rattle.std.specs.Prelude.length (course_at w id).code
      within k = let l = Rattle.std.proofs.lemmas.Option.slice_get_within (course_at w id).code (progress_of w id).at i b.next_is in omega arith
