-- The block begins at the list's end, where there is room for it.
use Rattle.std.proofs.Common.{◌≡◌, ◌<◌, ◌++◌, ◌∙◌, length, replicate, Some, None, ap, arith}
use Rattle.std.proofs.lemmas.List.{length-set}
use Rattle.sm_placement.specs.Layout.{entries_of}
use Rattle.sm_placement.specs.Parties.{PartiesModel, no_party, party_at}
use Rattle.sm_placement.proofs.Blocks.{grown, block_fits, IsBlocks-more, party_at-more, block_here}
use Rattle.sm_placement.proofs.parties.Parties.write_block.Goals as goal

pub unreachable-requires : goal.unreachable-requires
unreachable-requires c =
    let l : c.args.block < length c.self.inside.starts.items = omega (arith, ap (λ (m : PartiesModel). length m.starts) c.self.view_is, c.requires.block) in
    let f = block_fits c.self.inside.starts.items c.self.inside.parties.items c.args.block c.self.invariant.blocks l (ap (λ (m : PartiesModel). entries_of None m.starts c.args.block) c.self.view_is ∙ c.requires.unwritten) in
    omega (arith, f, c.self.invariant.room, c.in-Err.ensures.full)

longer : (c : goal.After-self-1) → c.resize.new.self.items ≡ c.self.inside.parties.items ++ replicate 256 no_party
longer c = grown c.self.inside.parties.items c.resize.new.self.items c.len-start.result c.self.inside.parties.len c.no_party.result (omega (arith, c.len-start.ensures)) (omega arith) c.no_party.ensures (c.in-Ok.ensures.items)

fresh : (c : goal.After-self-1) → entries_of None c.self.inside.starts.items c.args.block ≡ None
fresh c = ap (λ (m : PartiesModel). entries_of None m.starts c.args.block) c.self.view_is ∙ c.requires.unwritten

known : (c : goal.After-self-1) → c.args.block < length c.self.inside.starts.items
known c = omega (arith, ap (λ (m : PartiesModel). length m.starts) c.self.view_is, c.requires.block)

at_end : (c : goal.After-self-1) → c.len-start.result ≡ length c.self.inside.parties.items
at_end c = omega (arith, c.len-start.ensures)

pub invariant_of-self : goal.invariant_of-self
invariant_of-self c = record {
  blocks = rw (at_end c, longer c) (IsBlocks-more c.self.inside.starts.items c.self.inside.parties.items c.args.block c.self.invariant.blocks (known c) (fresh c));
  room = omega (arith, c.self.invariant.room, c.resize.ensures.capacity, length-set c.self.inside.starts.items c.args.block (Some c.len-start.result));
}

pub returns-clause-start : goal.returns-clause-start
returns-clause-start c = rw (at_end c) (block_here c.self.inside.starts.items c.self.inside.parties.items c.args.block c.self.invariant.blocks (known c) (fresh c))

pub returns-clause-parties : goal.returns-clause-parties
returns-clause-parties c =
    rw (at_end c, longer c) (party_at-more c.self.inside.starts.items c.self.inside.parties.items c.args.block c.self.invariant.blocks (known c) (fresh c))
    ∙ ap (λ (m : PartiesModel). party_at m.starts m.parties) c.self.view_is
