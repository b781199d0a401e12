-- What a reopening keeps of the copies.
use Rattle.std.proofs.Common.{◌≡◌, ◌∙◌, ◌<◌, ℕ, List, Bool, ap, arith, get_or, length, subst, sym}
use Rattle.std.specs.Prelude.{if◌then◌else◌}
use Rattle.std.proofs.lemmas.List.FromFn.{length-map-range_with_len, get_or-map-range_with_len}
use Rattle.sm_placement.specs.Setup.{Sizes}
use Rattle.sm_machine.specs.Machine.{MachineModel}
use Rattle.sm_machine.specs.State.{state_of}
use Rattle.sm_driver.specs.Copies.{copies_of, is_moving, is_ordered}
use Rattle.sm_driver.specs.Driver.{record_of}
use Rattle.sm_driver.proofs.Lists.{pushed_more}
use Rattle.sm_driver.proofs.driver.Driver.kept_copies.Goals as goal

pub index-requires : goal.index-requires
index-requires c =
    let d = c.args.self.now in
    let count : c.shard_count-number-end.result ≡ (record_of d).sizes.shards =
    c.shard_count-number-end.ensures.count ∙ ap (λ (s : Sizes). s.shards) c.config.ensures.sizes ∙ ap (λ (m : MachineModel). (state_of m).sizes.shards) c.machine.ensures in
    let marks : length c.in_ok-ordered.ordered.items ≡ (record_of d).sizes.shards =
    ap length c.in_ok-ordered.ensures ∙ length-map-range_with_len (is_ordered d) 0 (record_of d).sizes.shards in
    let within = c.in_ok-ordered.ordered.ok in
    omega (arith, count, marks, c.loop-number-test.true, within.0)

pub kept_of-requires-clause-ordered : goal.kept_of-requires-clause-ordered
kept_of-requires-clause-ordered c =
    let d = c.args.self.now in
    let n : ℕ = c.loop-number.number in
    let count : c.shard_count-number-end.result ≡ (record_of d).sizes.shards =
    c.shard_count-number-end.ensures.count ∙ ap (λ (s : Sizes). s.shards) c.config.ensures.sizes ∙ ap (λ (m : MachineModel). (state_of m).sizes.shards) c.machine.ensures in
    let known : n < (record_of d).sizes.shards = subst (λ k. n < k) count c.loop-number-test.true in
    c.index.ensures
    ∙ ap (λ (marks : List Bool). get_or marks n c.index.result.now) c.in_ok-ordered.ensures
    ∙ get_or-map-range_with_len (is_ordered d) 0 (record_of d).sizes.shards n n c.index.result.now known (omega arith)
    ∙ ap (is_ordered d) (sym c.new-shard.ensures)

pub loop-number-preserved : goal.loop-number-preserved
loop-number-preserved c =
    let d = c.args.self.now in
    let f : ℕ → ℕ = λ s. if is_moving d s then 1 else copies_of d s in
    pushed_more f c.loop-number.kept.items c.push.new.self.items c.loop-number.number c.kept_of.result c.in_ok-push.ensures.items
    (c.kept_of.ensures ∙ ap f c.new-shard.ensures) c.loop-number.invariant
