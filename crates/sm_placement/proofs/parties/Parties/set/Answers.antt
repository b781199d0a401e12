-- The party of the slot is written in its block.
use Rattle.std.proofs.Common.{◌≡◌, ◌/◌, ◌∙◌, ℕ, None, Some, ap, arith}
use Rattle.sm_placement.specs.Sums.{put}
use Rattle.sm_placement.specs.Layout.{entries_of}
use Rattle.sm_placement.specs.declared.parties.Party.{Party}
use Rattle.sm_placement.specs.Parties.{PartiesModel, party_at}
use Rattle.sm_placement.proofs.Blocks.{IsBlocks-set, party_at-set}
use Rattle.sm_placement.proofs.parties.Parties.set.Goals as goal

pub invariant_of-self : goal.invariant_of-self
invariant_of-self c =
    let is : entries_of None c.self.inside.starts.items (c.args.slot / 256) ≡ Some c.start_of-start.result = ap (λ (m : PartiesModel). entries_of None m.starts (c.args.slot / 256)) c.self.view_is ∙ c.start_of-start.ensures.start in
    record {
      blocks = IsBlocks-set c.self.inside.starts.items c.self.inside.parties.items c.args.slot c.start_of-start.result c.args.party c.self.invariant.blocks is;
      room = omega (arith, c.self.invariant.room);
    }

pub returns-clause-parties : goal.returns-clause-parties
returns-clause-parties c =
    let is : entries_of None c.self.inside.starts.items (c.args.slot / 256) ≡ Some c.start_of-start.result = ap (λ (m : PartiesModel). entries_of None m.starts (c.args.slot / 256)) c.self.view_is ∙ c.start_of-start.ensures.start in
    party_at-set c.self.inside.starts.items c.self.inside.parties.items c.args.slot c.start_of-start.result c.args.party c.self.invariant.blocks is
    ∙ ap (λ (f : ℕ → Party). put f c.args.slot c.args.party) (ap (λ (m : PartiesModel). party_at m.starts m.parties) c.self.view_is ∙ c.start_of-start.ensures.parties)
