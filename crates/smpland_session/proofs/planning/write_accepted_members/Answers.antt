use Rattle.smpland_lines.proofs.Written.{next}
use Rattle.smpland_session.proofs.planning.write_accepted_members.Goals as goal

pub returns : goal.returns
returns c =
    let calls = rw c.call_count.ensures at c.in_ok-write_number.ensures in
    let streams = rw c.stream_count.ensures at c.in_ok-write_number-2.ensures in
    next c.args.writer.now.tokens _ _ calls streams
