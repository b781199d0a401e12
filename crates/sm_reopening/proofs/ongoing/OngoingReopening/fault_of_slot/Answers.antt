-- The slot that was told is kept if none of its faults is there.
use Rattle.std.proofs.Common.{◌≡◌, ◌∙◌, ℕ, Bool, true, false, Option, Some, None, refl, sym, ap, subst}
use Rattle.std.specs.Prelude.{◌&&◌, not}
use Rattle.sm_server.specs.declared.call.Cell.{Cell}
use Rattle.sm_server.specs.declared.call.Cell.TheVariants.{Absent}
use Rattle.sm_server.specs.Cell.{is_absent}
use Rattle.sm_placement.specs.Layout.{place_of}
use Rattle.sm_placement.specs.Opening.{is_handing}
use Rattle.sm_reopening.specs.declared.party.FoundSlot.{FoundSlot}
use Rattle.sm_reopening.specs.Ongoing.{told_slot}
use Rattle.sm_reopening.specs.Faults.{KeepsSlot, is_barred}
use Rattle.sm_reopening.proofs.Taking.{unsettled_parts}
use Rattle.sm_reopening.proofs.ongoing.OngoingReopening.fault_of_slot.Goals as goal

absent_is : (c : Cell) → is_absent c ≡ true → c ≡ Absent
absent_is Absent e = refl
absent_is _ e = absurd (cc)

pub returns-clause-none : goal.returns-clause-none
returns-clause-none c =
    let told : told_slot c.args.self.now c.args.shard c.args.server ≡ Some c.in-Some.slot = sym c.slot.ensures ∙ c.in-Some.is in
    let same : (slot : FoundSlot) → told_slot c.args.self.now c.args.shard c.args.server ≡ Some slot → slot.cell ≡ c.in-Some.slot.cell = λ slot t. cc in
    let left : (is_barred c.args.self.now c.args.server && not (is_absent c.in-Some.slot.cell)) ≡ false = sym c.is_still_there.ensures ∙ c.if-is_still_there.false in
    let kept : KeepsSlot c.args.self.now c.args.shard c.in-Some.slot.cell c.settled_cell.result = c.keeps_slot.ensures.0 c.if-not-keeps_slot.false in (
      (λ e. record {
        left = λ slot l t. same slot t ∙ absent_is c.in-Some.slot.cell (unsettled_parts (is_barred c.args.self.now c.args.server) (is_absent c.in-Some.slot.cell) left l);
        kept = λ slot t. subst (λ (d : Cell). KeepsSlot c.args.self.now c.args.shard d ((place_of c.args.settlement.now).cells c.args.shard c.args.server)) (sym (same slot t))
            (subst (λ (n : Cell). KeepsSlot c.args.self.now c.args.shard c.in-Some.slot.cell n) c.settled_cell.ensures kept);
        handed = λ slot t h. c.needs_primary.ensures.there c.if-needs_primary.false (sym (ap is_handing (same slot t)) ∙ h);
      }),
      (λ f. refl),
    )
