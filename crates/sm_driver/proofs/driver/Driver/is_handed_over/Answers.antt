-- A recorded handover of a shard.
use Rattle.std.proofs.Common.{◌≡◌, ◌∙◌, ◌<◌, ◌≤◌, ℕ, Bool, true, false, sym, ap, subst, arith}
use Rattle.sm_placement.specs.Opening.{is_handing}
use Rattle.sm_placement.specs.Setup.{Sizes}
use Rattle.sm_placement.proofs.Searches.{any_none_from, any_some}
use Rattle.sm_protocol.specs.State.{State}
use Rattle.sm_machine.specs.Machine.{MachineModel}
use Rattle.sm_machine.specs.State.{state_of}
use Rattle.sm_driver.specs.Driver.{record_of}
use Rattle.sm_driver.proofs.Marks.{below_more}
use Rattle.sm_driver.proofs.driver.Driver.is_handed_over.Goals as goal

pub returns-then-is_handing : goal.returns-then-is_handing
returns-then-is_handing c =
    let w : State = record_of c.args.self.now in
    let n : ℕ = c.loop-number.number in
    let same : c.server_count-number-end.result ≡ w.sizes.servers =
    c.server_count-number-end.ensures.count ∙ ap (λ (s : Sizes). s.servers) c.config.ensures.sizes ∙ ap (λ (m : MachineModel). (state_of m).sizes.servers) c.machine.ensures in
    sym (any_some w.sizes.servers (λ v. is_handing (w.place.cells c.args.shard v)) n (subst (λ k. n < k) same c.loop-number-test.true)
    (ap (λ v. is_handing (w.place.cells c.args.shard v)) (sym c.new.ensures) ∙ sym c.is_handing.ensures ∙ c.if-is_handing.true))

pub loop-number-preserved : goal.loop-number-preserved
loop-number-preserved c =
    let w : State = record_of c.args.self.now in
    let here : is_handing (w.place.cells c.args.shard c.loop-number.number) ≡ false =
    ap (λ v. is_handing (w.place.cells c.args.shard v)) (sym c.new.ensures) ∙ sym c.is_handing.ensures ∙ c.if-is_handing.false in
    below_more (λ v. is_handing (w.place.cells c.args.shard v)) c.loop-number.number c.loop-number.invariant here

pub returns : goal.returns
returns c =
    let w : State = record_of c.args.self.now in
    let same : c.server_count-number-end.result ≡ w.sizes.servers =
    c.server_count-number-end.ensures.count ∙ ap (λ (s : Sizes). s.servers) c.config.ensures.sizes ∙ ap (λ (m : MachineModel). (state_of m).sizes.servers) c.machine.ensures in
    sym (any_none_from w.sizes.servers (λ v. is_handing (w.place.cells c.args.shard v)) (λ v l. c.loop-number.invariant v (omega (arith, same, l, c.loop-number-test.false))))
