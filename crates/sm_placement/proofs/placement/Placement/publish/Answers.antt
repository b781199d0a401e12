-- The shard's entry and version are written.
use Rattle.std.proofs.Common.{◌≡◌, ◌+◌, ◌∙◌, length-set, arith}
use Rattle.sm_placement.specs.Layout.{place_of}
use Rattle.sm_placement.proofs.Layouts.{version_read, published_here, published_keeps}
use Rattle.sm_placement.proofs.placement.Placement.publish.Goals as goal

pub overflow_add-index_mut : goal.overflow_add-index_mut
overflow_add-index_mut c =
    let read : c.index_mut-2.result.now ≡ (place_of c.args.self.now).version c.args.shard = version_read c.args.shard c.index_mut-2.result.now c.self.invariant.versions_length c.self.view_is c.requires.shard (rw (← c.number-slot.ensures) c.index_mut-2.ensures.value) in
    omega (arith, c.requires.version)

pub invariant_of-self : goal.invariant_of-self
invariant_of-self c = record {
  listed_length = length-set c.self.inside.listed.items c.number-slot.result c.args.listed ∙ c.self.invariant.listed_length;
  versions_length = length-set c.self.inside.versions.items c.number-slot.result (c.index_mut-2.result.now + 1) ∙ c.self.invariant.versions_length;
  placement = published_keeps c.args.shard c.number-slot.result c.index_mut-2.result.now c.args.listed c.self.invariant.listed_length c.self.invariant.versions_length c.self.invariant.placement c.self.view_is c.number-slot.ensures c.requires.shard c.requires.known c.index_mut-2.ensures.value;
}

pub returns-clause-place : goal.returns-clause-place
returns-clause-place c = published_here c.args.shard c.number-slot.result c.index_mut-2.result.now c.args.listed c.self.invariant.listed_length c.self.invariant.versions_length c.self.view_is c.number-slot.ensures c.requires.shard c.index_mut-2.ensures.value
