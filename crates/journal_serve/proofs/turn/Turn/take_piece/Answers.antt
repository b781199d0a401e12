use Rattle.std.proofs.Common.{◌++◌, [], ◌∷◌, refl, ◌∙◌}
use Rattle.journal_serve.proofs.Lines.{text_goes}
use Rattle.journal_serve.proofs.Turns.{text_begins, text_line, text_open, text_same}
use Rattle.journal_serve.proofs.turn.Turn.take_piece.Goals as goal

pub loop-used-init : goal.loop-used-init
loop-used-init g c raw one_line is =
    (raw, [], raw, [], refl, text_begins g.A.Applies.takes raw c.args.pending.now c.args.state.now c.args.self.now one_line is)

pub loop-used-preserved : goal.loop-used-preserved
loop-used-preserved g c raw one_line is =
    let so_far = c.loop-used.invariant raw one_line is in
    let found = rw c.in-Some.is at c.in_ok-used.ensures.ended in
    let ends = found.1 in
    let one = c.in_ok-take_line.ensures in (
      so_far.0 ++ found.0 ++ 10 ∷ [],
      so_far.1 ++ (so_far.2 ++ found.0) ∷ [],
      [],
      so_far.3 ++ one.0 ∷ [],
      text_goes raw _ so_far.0 c.loop-used.rest.now found.0 c.in-Some.used so_far.4 ends,
      text_line g.A.Applies.takes so_far.0 c.loop-used.rest.now found.0 c.deref.result.now c.in-Some.used so_far.1 so_far.2 so_far.3 _ _ _ _ _ _ _ _
          so_far.5 ends (c.deref.ensures.value ∙ found.2 so_far.2 so_far.5.held) one.0 one.1 one.2 one.3 c.clear.ensures,
    )

pub returns : goal.returns
returns g c raw one_line is =
    let so_far = c.loop-used.invariant raw one_line is in
    let found = rw c.in_default.is at c.in_ok-used.ensures.unended in (
      so_far.1,
      so_far.2 ++ c.loop-used.rest.now,
      so_far.3,
      text_same g.A.Applies.takes (so_far.0 ++ c.loop-used.rest.now) _ so_far.1 (so_far.2 ++ c.loop-used.rest.now) so_far.3 _ _ _ _ _ so_far.4
          (text_open g.A.Applies.takes so_far.0 c.loop-used.rest.now so_far.1 so_far.2 so_far.3 _ _ _ _ _ _ so_far.5 found.0 (found.1 so_far.2 so_far.5.held)),
    )
