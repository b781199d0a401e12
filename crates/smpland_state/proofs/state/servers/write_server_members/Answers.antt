use Rattle.smpland_lines.proofs.Written.{next}
use Rattle.smpland_state.proofs.state.servers.write_server_members.Goals as goal

pub returns : goal.returns
returns c =
    let o = c.args.writer.now.tokens in
    let name = rw c.as_str.ensures.value at c.in_ok-write_text.ensures in
    let region = rw c.as_str-2.ensures.value at c.in_ok-write_text-2.ensures in
    let numbers = next o _ _ (next o _ _ (next o _ _ (next o _ _ name region) c.in_ok-write_number.ensures) c.in_ok-write_number-2.ensures) c.in_ok-write_number-3.ensures in
    next o _ _ (next o _ _ numbers c.in_ok-write_optional.ensures) c.in_ok-write_flag.ensures
