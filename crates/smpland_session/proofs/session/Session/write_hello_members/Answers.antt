use Rattle.smpland_lines.proofs.Written.{next}
use Rattle.smpland_session.proofs.session.Session.write_hello_members.Goals as goal

pub returns : goal.returns
returns c =
    let o = c.args.writer.now.tokens in
    next o _ _ (next o _ _ c.in_ok-write_text.ensures c.in_ok-write_number.ensures) c.in_ok-write_place.ensures
