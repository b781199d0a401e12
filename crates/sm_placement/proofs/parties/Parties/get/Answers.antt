-- The party stands in the block of its slot.
use Rattle.std.proofs.Common.{◌≡◌, ◌/◌, ◌<◌, ◌∙◌, length, Some, None, arith}
use Rattle.sm_placement.specs.Layout.{entries_of}
use Rattle.sm_placement.proofs.Blocks.{start_read, party_read, no_party_read, within_block}
use Rattle.sm_placement.proofs.parties.Parties.get.Goals as goal

pub overflow_add-start : goal.overflow_add-start
overflow_add-start c =
    let l : c.args.slot / 256 < length c.args.self.now.starts = omega (arith, c.requires) in
    let is : entries_of None c.self.inside.starts.items (c.args.slot / 256) ≡ Some c.in-Some.start = start_read (c.args.slot / 256) c.index.result.now c.self.view_is l c.index.ensures ∙ c.in-Some.is in
    let w = within_block c.self.inside.starts.items c.self.inside.parties.items c.args.slot c.in-Some.start c.self.invariant.blocks is in
    omega arith

pub index-requires-in-Some : goal.index-requires-in-Some
index-requires-in-Some c =
    let l : c.args.slot / 256 < length c.args.self.now.starts = omega (arith, c.requires) in
    let is : entries_of None c.self.inside.starts.items (c.args.slot / 256) ≡ Some c.in-Some.start = start_read (c.args.slot / 256) c.index.result.now c.self.view_is l c.index.ensures ∙ c.in-Some.is in
    let w = within_block c.self.inside.starts.items c.self.inside.parties.items c.args.slot c.in-Some.start c.self.invariant.blocks is in
    omega arith

pub returns-in-Some : goal.returns-in-Some
returns-in-Some c =
    let l : c.args.slot / 256 < length c.args.self.now.starts = omega (arith, c.requires) in
    let is : entries_of None c.self.inside.starts.items (c.args.slot / 256) ≡ Some c.in-Some.start = start_read (c.args.slot / 256) c.index.result.now c.self.view_is l c.index.ensures ∙ c.in-Some.is in
    let w = within_block c.self.inside.starts.items c.self.inside.parties.items c.args.slot c.in-Some.start c.self.invariant.blocks is in
    party_read c.args.slot c.in-Some.start c.index-in-Some.result.now c.self.view_is is w c.index-in-Some.ensures

pub returns-in-None : goal.returns-in-None
returns-in-None c =
    let l : c.args.slot / 256 < length c.args.self.now.starts = omega (arith, c.requires) in
    no_party_read c.args.slot c.no_party.result c.self.view_is (start_read (c.args.slot / 256) c.index.result.now c.self.view_is l c.index.ensures ∙ c.in-None.is) c.no_party.ensures
