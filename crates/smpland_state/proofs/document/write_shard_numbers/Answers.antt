use Rattle.smpland_lines.proofs.Written.{next}
use Rattle.smpland_state.proofs.document.write_shard_numbers.Goals as goal

pub returns : goal.returns
returns c =
    let o = c.args.writer.now.tokens in
    let name = rw c.as_str.ensures.value at c.in_ok-write_text.ensures in
    let load = next o _ _ name c.in_ok-write_number.ensures in
    let want = rw c.from.ensures at c.in_ok-write_number-2.ensures in
    let cap = rw c.from-2.ensures at c.in_ok-write_number-3.ensures in
    let spread = rw c.from-3.ensures at c.in_ok-write_number-4.ensures in
    next o _ _ (next o _ _ (next o _ _ load want) cap) spread
