use Rattle.std.proofs.Common.{subst}
use Rattle.json.specs.Print.{print}
use Rattle.smpland_lines.specs.Members.{object}
use Rattle.smpland_lines.specs.Writer.{HasNoLineFeed, Written}
use Rattle.smpland_lines.proofs.Printed.{object_line}
use Rattle.smpland_lines.proofs.writer.Writer.into_text.Goals as goal

-- The members are read back from their text.
pub returns-clause-one_line : goal.returns-clause-one_line
returns-clause-one_line c =
    subst (λ (w : Written). HasNoLineFeed (print (object w.tokens))) c.self.view_is
    (object_line c.self.inside.members.tokens c.into_inner.ensures.reads_back)
