use Rattle.std.proofs.Common.{◌++◌, [], refl, ◌∙◌}
use Rattle.std.proofs.lemmas.List.{nil_from_length}
use Rattle.std.proofs.lemmas.Result.{on_ok_weaker, err_from_is_err_and}
use Rattle.journal_serve.proofs.KnownBytes.{consumes_none, consumes_more, consumes_bytes, consumes_kept, input_all, grows_same, appends_same}
use Rattle.journal_serve.proofs.Between.{between_begins, between_goes}
use Rattle.journal_serve.proofs.Exits.{no_ok, other_fault, rest_served, piece_served, end_served, end_all}
use Rattle.journal_serve.proofs.session.serve_unkept.Goals as goal

pub loop-init : goal.loop-init
loop-init g c =
    ([], [], [], [], consumes_none (g.R.Read.remaining c.args.reader.now), between_begins g.A.Applies.takes c.args.state.now (g.W.Write.contents c.args.writer.now) c.new-pending.result c.new-turn.result c.new-pending.ensures c.new-turn.ensures.changed c.new-turn.ensures.replies)

pub returns-in_err-count : goal.returns-in_err-count
returns-in_err-count g c =
    let inv = c.loop.invariant in
    let p = err_from_is_err_and c.from_residual.result c.from_residual.ensures.1 in
    let ends = rest_served g.A.Applies.takes inv.0 inv.1 inv.2 inv.3 _ _ _ _ _ _ inv.5 _ _ inv.4 in
    (ends.0, ends.1, inv.3, _, ends.2, no_ok c.from_residual.result p.0 _ p.1, λ other. refl)

pub returns-in_err-take_last : goal.returns-in_err-take_last
returns-in_err-take_last g c =
    let inv = c.loop.invariant in
    let p = err_from_is_err_and c.from_residual-in_err-take_last.result c.from_residual-in_err-take_last.ensures.1 in
    let ends = rest_served g.A.Applies.takes inv.0 inv.1 inv.2 inv.3 _ _ _ _ _ _ inv.5 _ _ inv.4 in
    (ends.0, ends.1, inv.3, _, ends.2, no_ok c.from_residual-in_err-take_last.result p.0 _ p.1, other_fault c.from_residual-in_err-take_last.result p.0 _ _ p.1 p.2)

pub returns-in_err-take_piece : goal.returns-in_err-take_piece
returns-in_err-take_piece g c =
    let inv = c.loop.invariant in
    let p = err_from_is_err_and c.from_residual-in_err-take_piece.result c.from_residual-in_err-take_piece.ensures.1 in
    let ends = rest_served g.A.Applies.takes inv.0 inv.1 inv.2 inv.3 _ _ _ _ _ _ inv.5 _ _ inv.4 in
    (ends.0, ends.1, inv.3, _, ends.2, no_ok c.from_residual-in_err-take_piece.result p.0 _ p.1, other_fault c.from_residual-in_err-take_piece.result p.0 _ _ p.1 p.2)

pub returns : goal.returns
returns g c =
    let inv = c.loop.invariant in
    let ends = rest_served g.A.Applies.takes inv.0 inv.1 inv.2 inv.3 _ _ _ _ _ _ inv.5 _ _ inv.4 in
    (ends.0, ends.1, inv.3, _, ends.2, tt, λ other. refl)

pub loop-preserved-in_default : goal.loop-preserved-in_default
loop-preserved-in_default g c =
    let inv = c.loop.invariant in
    let still = rw c.in_default.is at c.in_ok-count.ensures.interrupted in
    (inv.0, inv.1, inv.2, inv.3, consumes_kept _ _ _ inv.0 inv.4 still, inv.5)

pub returns-then-count-eq0 : goal.returns-then-count-eq0
returns-then-count-eq0 g c =
    let inv = c.loop.invariant in
    let read = rw c.in-Some.is at c.in_ok-count.ensures.read in
    let count = rw c.in-Some.is at c.in_ok-count.ensures.count in
    let at_end = rw c.in-Some.is at c.in_ok-count.ensures.end in
    let now = inv.5 in
    let all = input_all _ _ inv.0 c.read_piece.new.piece.items (consumes_more _ _ _ inv.0 c.read_piece.new.piece.items inv.4 read) (nil_from_length c.read_piece.new.piece.items (count ∙ c.if-count-eq0.true)) (at_end c.if-count-eq0.true) in
    let took = c.in_ok-take_last.ensures inv.2 now.splits.one_line now.held in (
      inv.0,
      all,
      inv.3 ++ took.0,
      _,
      end_served g.A.Applies.takes inv.0 inv.1 inv.2 inv.3 _ _ _ _ _ _ now took.0 _ _ _ took.1 took.2 took.3 (grows_same _ _ _ _ c.as_slice-told.ensures.value c.write_out.ensures.part),
      on_ok_weaker c.write_out.result (λ whole. end_all g.A.Applies.takes inv.0 inv.1 inv.2 inv.3 _ _ _ _ _ _ now took.0 _ _ _ took.1 took.2 took.3 (appends_same _ _ _ _ c.as_slice-told.ensures.value whole)) c.write_out.ensures.whole,
      λ other. refl,
    )

pub returns-in_err-write_out : goal.returns-in_err-write_out
returns-in_err-write_out g c =
    let inv = c.loop.invariant in
    let read = rw c.in-Some.is at c.in_ok-count.ensures.read in
    let now = inv.5 in
    let took = c.in_ok-take_piece.ensures inv.2 now.splits.one_line now.held in
    let p = err_from_is_err_and c.from_residual-in_err-write_out.result c.from_residual-in_err-write_out.ensures.1 in
    let ends = piece_served g.A.Applies.takes inv.0 inv.1 inv.2 inv.3 _ _ _ _ _ _ now c.as_slice-bytes.result.now took.1 took.0 took.2 _ _ _ _ took.3 (grows_same _ _ _ _ c.as_slice-told-in-loop.ensures.value c.write_out-in-loop.ensures.part)
    _ _ (consumes_bytes _ _ _ inv.0 c.read_piece.new.piece.items c.as_slice-bytes.result.now inv.4 read c.as_slice-bytes.ensures.value) in
    (ends.0, ends.1, inv.3 ++ took.2, _, ends.2, no_ok c.from_residual-in_err-write_out.result p.0 _ p.1, λ other. refl)

pub loop-preserved : goal.loop-preserved
loop-preserved g c =
    let inv = c.loop.invariant in
    let read = rw c.in-Some.is at c.in_ok-count.ensures.read in
    let now = inv.5 in
    let took = c.in_ok-take_piece.ensures inv.2 now.splits.one_line now.held in (
      inv.0 ++ c.as_slice-bytes.result.now,
      inv.1 ++ took.0,
      took.1,
      inv.3 ++ took.2,
      consumes_bytes _ _ _ inv.0 c.read_piece.new.piece.items c.as_slice-bytes.result.now inv.4 read c.as_slice-bytes.ensures.value,
      between_goes g.A.Applies.takes inv.0 c.as_slice-bytes.result.now inv.1 took.0 inv.2 took.1 inv.3 took.2 _ _ _ _ _ _ _ _ _ _ _ now took.3
          (appends_same _ _ _ _ c.as_slice-told-in-loop.ensures.value c.in_ok-write_out.ensures.whole) c.clear.ensures.changed c.clear.ensures.replies,
    )
