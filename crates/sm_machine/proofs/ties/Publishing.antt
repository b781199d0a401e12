-- The needs of a publication, and the server that it lists.
use Rattle.std.proofs.Common.{◌≡◌, ◌<◌, ℕ, false, refl, sym, ap, ◌∙◌, inl, inr, subst, Option, Some, None, Ok}
use Rattle.std.specs.Option.{ForSome}
use Rattle.std.proofs.lemmas.Bool.{cases_lt}
use Rattle.sm_placement.specs.declared.lead.Lead.{Lead}
use Rattle.sm_placement.specs.declared.limits.TheConstants.{VERSIONS_END}
use Rattle.sm_placement.specs.declared.lead.Lead.TheVariants.{Gone, At, Ready, Handing, Handed}
use Rattle.sm_placement.specs.Setup.{Setup, Sizes}
use Rattle.sm_reservation.specs.declared.stream_id.StreamId.{StreamId}
use Rattle.sm_reservation.specs.Rights.{Rights}
use Rattle.sm_reservation.specs.Hold.{Hold}
use Rattle.sm_reservation.specs.HoldOf.{hold_of}
use Rattle.sm_reservation.specs.Amounts.{plain_of}
use Rattle.sm_reservation.specs.Capacity.{HoldModel}
use Rattle.sm_reservation.specs.Pool.{leads_of}
use Rattle.sm_reservation.proofs.Truths.{true_crown}
use Rattle.sm_plan_code.specs.declared.instruction.Instr.TheVariants.{Publish, Unlist}
use Rattle.sm_plan_code.specs.After.{decided, publish_line, lead_held, listed_of, to_list}
use Rattle.sm_plan_code.specs.Table.{crown, exchange_of, publish_exchange}
use Rattle.sm_plan_code.specs.Reach.{LeadNames}
use Rattle.sm_plan_code.proofs.Lines.{crown_led}
use Rattle.sm_plan_code.proofs.Exclusive.{named_is_not_plain}
use Rattle.sm_verifier.specs.Step.{parcels_of}
use Rattle.sm_protocol.specs.State.{State, plan_at, progress_of, hold_of_stream}
use Rattle.sm_protocol.specs.Laws.{IsReached}
use Rattle.sm_protocol.proofs.Steps.{leads_are}
use Rattle.sm_protocol.proofs.Courses.{not_ahead, some_same}
use Rattle.sm_protocol.proofs.Trials.{running}
use Rattle.sm_protocol.proofs.Cases.{IsBefore}
use Rattle.sm_protocol.proofs.SmallNumbers.{numbers_stay_small}
use Rattle.sm_machine.proofs.ties.Before.{hold_behind, kept, known, own_scene, can_reach}
use Rattle.sm_machine.proofs.ties.Exchanging.{leaves_behind}

-- The needs of a publication of a server, or of none.
pub record CanPublish (w : State) (s : ℕ) (server : Option ℕ) : Type 0 where
  pub shard : s < w.sizes.shards
  pub known : ForSome server (λ u. u < w.sizes.servers)
  pub version : w.place.version s < VERSIONS_END

-- whom a publication lists under a lead, the lead names
listed_named : (lead : Lead) (u : ℕ) → to_list lead ≡ Some u → LeadNames lead u
listed_named Gone u e = cc
listed_named (At x) u e = sym (some_same x u e)
listed_named (Ready x y) u e = inl (sym (some_same x u e))
listed_named (Handing x y) u e = inl (sym (some_same x u e))
listed_named (Handed x y) u e = inr (sym (some_same y u e))

-- a publish is of a shard whose crown is held
crown_there : (c : Sizes) (signals : ℕ → Rights) (s : ℕ) (h h' : Hold) (o : Option Lead) → lead_held (h.crowns s) ≡ o → decided (publish_line s h o) ≡ Ok h' → (lead : Lead) × (o ≡ Some lead)
crown_there c signals s h h' None e d = cc
crown_there c signals s h h' (Some lead) e d = (lead, refl)

module _ (setup : Setup) (w : State) (reached : IsReached setup w) where
  -- whom a publication lists under the lead of a shard is known
  pub listed_known : (s : ℕ) → ForSome (to_list (leads_of w.sizes w.place s)) (λ u. u < w.sizes.servers)
  listed_known s u e =
      let v = kept setup w reached in
      elim (cases_lt u w.sizes.servers) [
        | inl l ↦ l
        | inr l ↦ absurd (
            let n = listed_named (v.leads s) u (ap to_list (sym (leads_are w v s)) ∙ e) in
            let plain = named_is_not_plain (v.leads s) (w.numbers s) w.place s u (v.stage.described s) n in
            let absent = ap plain_of (v.stage.placement.no_server s u l) in
            cc)
      ]

  module _ (id : StreamId) where
    -- all that a publication asks for is there where a stream stands before a publish
    pub can_publish : (s : ℕ) → IsBefore w id (Some (Publish s)) → CanPublish w s (to_list (leads_of w.sizes w.place s))
    can_publish s b =
        let v = kept setup w reached in
        let shard : s < w.sizes.shards = (can_reach w v id (Publish s) b).shard in
        record { shard = shard; known = listed_known s; version = (numbers_stay_small setup w reached).versions s shard }

    -- and where it stands before an unlist
    pub can_unlist : (s : ℕ) → IsBefore w id (Some (Unlist s)) → CanPublish w s None
    can_unlist s b =
        let v = kept setup w reached in
        let shard : s < w.sizes.shards = (can_reach w v id (Unlist s) b).shard in
        record { shard = shard; known = λ u e. cc; version = (numbers_stay_small setup w reached).versions s shard }

    -- where no call stands, none is ahead
    pub publish_not_ahead : (s : ℕ) → IsBefore w id (Some (Publish s)) → (progress_of w id).ahead ≡ false
    publish_not_ahead s b =
        let v = kept setup w reached in let k = known w v id _ b in
        not_ahead w.sizes w.place (plan_at w id.plan) (w.progress id.plan) (w.marks id.plan) (running w v id k) id.stream k.stream (Publish s) b.next_is refl

    -- the crown that a publish gives has the lead of the shard, and lists whom it publishes
    pub publish_gives : (s : ℕ) → IsBefore w id (Some (Publish s)) → (g : HoldModel) → hold_of g.rights ≡ hold_of_stream w id.plan id.stream →
        (exchange_of w.sizes (Publish s) (hold_of g.rights)).got.crown ≡ crown s (leads_of w.sizes w.place s) (to_list (leads_of w.sizes w.place s))
    publish_gives s b g is =
        let v = kept setup w reached in
        let h = hold_of_stream w id.plan id.stream in
        let leaves = leaves_behind w v id (Publish s) b (publish_not_ahead s b) in
        let there = crown_there w.sizes (parcels_of (plan_at w id.plan).signals) s h (hold_behind w id) (lead_held (h.crowns s)) refl leaves in
        let led = crown_led there.0 (h.crowns s) there.1 in
        let true_lead : v.leads s ≡ there.0 = (true_crown w.sizes w.place v.leads h (own_scene w v id _ b).truth s there.0 (listed_of (h.crowns s)) led).0 in
        let lead : there.0 ≡ leads_of w.sizes w.place s = sym true_lead ∙ sym (leads_are w v s) in
        subst (λ k. (exchange_of w.sizes (Publish s) k).got.crown ≡ crown s (leads_of w.sizes w.place s) (to_list (leads_of w.sizes w.place s))) (sym is)
        (ap (λ o. (publish_exchange s (listed_of (h.crowns s)) o).got.crown) there.1 ∙ ap (λ l. crown s l (to_list l)) lead)
