use Rattle.smpland_lines.proofs.Written.{next}
use Rattle.smpland_state.proofs.messages.Messages.write_head.Goals as goal

pub returns : goal.returns
returns c =
    let o = c.args.writer.now.tokens in
    let journal = rw c.journal.ensures at c.in_ok-write_bits.ensures in
    let epoch = rw c.epoch-epoch.ensures at (rw c.from.ensures at c.in_ok-write_number.ensures) in
    let fence = rw c.fence-fence.ensures at c.in_ok-write_number-2.ensures in
    let plan = rw c.from-2.ensures at c.in_ok-write_number-3.ensures in
    let stream = rw c.from-3.ensures at c.in_ok-write_number-4.ensures in
    let told = next o _ _ (next o _ _ (next o _ _ journal epoch) fence) plan in
    next o _ _ (next o _ _ told stream) c.in_ok-write_number-5.ensures
