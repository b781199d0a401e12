use Rattle.smpland_lines.proofs.Written.{next}
use Rattle.smpland_reopening_lines.proofs.progress.write_progress.Goals as goal

pub returns : goal.returns
returns c =
    let o = c.args.writer.now.tokens in
    let begun = next o _ _ c.in_ok-key.ensures.ok c.in_ok-begin_object.ensures.ok in
    let members = rw c.in_ok-stage.ensures at c.in_ok-write_progress_members.ensures in
    next o _ _ begun (next c.begin_object.new.self.tokens _ _ members c.in_ok-end_object.ensures.ok)
