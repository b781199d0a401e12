use Rattle.smpland_lines.specs.declared.bad_line.BadLine.TheVariants as bad
use Rattle.smpland_lines.specs.declared.line_part.LinePart.TheVariants as line
use Rattle.smpland_session.proofs.Found.{bad_declines}
use Rattle.smpland_session.proofs.decline.tell_unknown.Goals as goal

pub returns : goal.returns
returns c =
    bad_declines c.write_bad.result (bad.UnknownName line.Line c.args.member) c.args.writer.now.tokens c.write_bad.new.writer.tokens c.write_bad.ensures
