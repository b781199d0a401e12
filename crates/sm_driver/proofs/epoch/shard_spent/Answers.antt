-- The lowest shard whose version is too high.
use Rattle.std.proofs.Common.{◌≡◌, ◌∙◌, ◌<◌, ℕ, Option, Some, None, sym, ap, subst}
use Rattle.std.specs.Prelude.{nat_le, if◌then◌else◌}
use Rattle.sm_placement.specs.Setup.{Sizes}
use Rattle.sm_plan_code.specs.declared.limits.TheConstants.{MOST_PLACES}
use Rattle.sm_protocol.specs.State.{State}
use Rattle.sm_machine.specs.State.{state_of}
use Rattle.sm_machine.proofs.Engaged.{found, passed}
use Rattle.sm_driver.proofs.epoch.shard_spent.Goals as goal

pub returns-then-is_spent : goal.returns-then-is_spent
returns-then-is_spent c =
    let w : State = state_of c.args.machine.now in
    let f : ℕ → Option ℕ = λ s. if nat_le MOST_PLACES (w.place.version s) then Some s else None in
    let n : ℕ = c.loop-number.number in
    let same : c.shard_count-number-end.result ≡ w.sizes.shards = c.shard_count-number-end.ensures.count ∙ ap (λ (s : Sizes). s.shards) c.config.ensures.sizes in
    ap Some c.new.ensures
    ∙ found f w.sizes.shards n n c.loop-number.invariant (subst (λ k. n < k) same c.loop-number-test.true)
    (ap (λ b. if b then Some n else None) (sym c.is_spent.ensures ∙ c.if-is_spent.true))

pub loop-number-preserved : goal.loop-number-preserved
loop-number-preserved c =
    let w : State = state_of c.args.machine.now in
    let f : ℕ → Option ℕ = λ s. if nat_le MOST_PLACES (w.place.version s) then Some s else None in
    let n : ℕ = c.loop-number.number in
    let same : c.shard_count-number-end.result ≡ w.sizes.shards = c.shard_count-number-end.ensures.count ∙ ap (λ (s : Sizes). s.shards) c.config.ensures.sizes in
    passed f w.sizes.shards n c.loop-number.invariant (subst (λ k. n < k) same c.loop-number-test.true)
    (ap (λ b. if b then Some n else None) (sym c.is_spent.ensures ∙ c.if-is_spent.false))
