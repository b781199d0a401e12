-- A block that was written starts where it did.
use Rattle.std.proofs.Common.{◌∙◌, None, sym, ap}
use Rattle.sm_placement.specs.Layout.{entries_of}
use Rattle.sm_placement.specs.Parties.{PartiesModel}
use Rattle.sm_placement.proofs.Blocks.{start_read}
use Rattle.sm_placement.proofs.parties.Parties.start_of.Goals as goal

pub returns-in-Some-clause-start : goal.returns-in-Some-clause-start
returns-in-Some-clause-start c =
    ap (λ (m : PartiesModel). entries_of None m.starts c.args.block) (sym c.self.view_is) ∙ start_read c.args.block c.index.result.now c.self.view_is c.requires c.index.ensures ∙ c.in-Some.is

pub write_block-requires-clause-unwritten : goal.write_block-requires-clause-unwritten
write_block-requires-clause-unwritten c =
    ap (λ (m : PartiesModel). entries_of None m.starts c.args.block) (sym c.self.view_is) ∙ start_read c.args.block c.index.result.now c.self.view_is c.requires c.index.ensures ∙ c.in-None.is
