use Rattle.std.proofs.Common.{string_bytes}
use Rattle.smpland_lines.proofs.Written.{next}
use Rattle.smpland_lines.proofs.bad_line.push_command_choices.Goals as goal

pub returns : goal.returns
returns c =
    let o = string_bytes c.args.out.now in
    next o _ _ (next o _ _ c.in_ok-write.ensures.bytes c.in_ok-write-2.ensures.bytes) c.in_ok-write-3.ensures.bytes
