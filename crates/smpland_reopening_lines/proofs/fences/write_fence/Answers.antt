use Rattle.smpland_lines.proofs.Written.{next}
use Rattle.smpland_reopening_lines.proofs.fences.write_fence.Goals as goal

pub returns : goal.returns
returns c =
    let o = c.begin_object.new.self.tokens in
    next c.args.writer.now.tokens _ _ c.in_ok-begin_object.ensures.ok (next o _ _ c.in_ok-write_head.ensures c.in_ok-end_object.ensures.ok)
