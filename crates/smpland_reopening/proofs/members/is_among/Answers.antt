-- Names are texts.
use Rattle.std.proofs.Common.{◌∙◌}
use Rattle.smpland_reopening.proofs.Lists.{among_texts}
use Rattle.smpland_reopening.proofs.members.is_among.Goals as goal

pub returns : goal.returns
returns c = c.is_one_of.ensures ∙ among_texts c.args.name.now c.args.names.now
