-- The version is small.
use Rattle.std.proofs.Common.{◌<◌, ◌∙◌, ℕ, ap, arith, length, subst, sym}
use Rattle.sm_placement.specs.Place.{Place}
use Rattle.sm_placement.specs.Setup.{Setup, Sizes}
use Rattle.sm_placement.specs.declared.limits.TheConstants.{VERSIONS_END}
use Rattle.sm_machine.specs.Machine.{MachineModel}
use Rattle.sm_machine.specs.State.{state_of}
use Rattle.sm_protocol.proofs.SmallNumbers.{numbers_stay_small}
use Rattle.smpland_state.proofs.published.version_of.Goals as goal

pub overflow_add-result : goal.overflow_add-result
overflow_add-result c =
    let s = c.args.shard in
    let setup = c.placement.ensures.setup ∙ ap (λ (m : MachineModel). m.placement.setup) c.machine-machine.ensures in
    let known = subst (λ (x : Setup). s < length x.shards) (sym setup) c.requires in
    let small =
    (numbers_stay_small _ (state_of c.machine-machine.result.now) c.is_reached.ensures).versions s (subst (λ (z : Sizes). s < z.shards) c.placement.ensures.sizes known) in
    let version = c.version.ensures ∙ ap (λ (p : Place). p.version s) c.placement.ensures.place in
    let below = subst (λ (n : ℕ). n < VERSIONS_END) (sym version) small in
    let base = c.base.ensures.small in
    omega arith
