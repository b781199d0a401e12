use Rattle.smpland_lines.proofs.Written.{next}
use Rattle.smpland_state.proofs.messages.Messages.write_step.Goals as goal

pub returns : goal.returns
returns c =
    let o = c.args.writer.now.tokens in
    let plan = rw c.from.ensures at c.in_ok-write_number.ensures in
    let stream = rw c.from-2.ensures at c.in_ok-write_number-2.ensures in
    let at = rw c.position-at.ensures at c.in_ok-write_number-3.ensures in
    next o _ _ (next o _ _ plan stream) at
