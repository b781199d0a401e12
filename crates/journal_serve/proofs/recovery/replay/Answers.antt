use Rattle.std.proofs.Common.{◌++◌, [], List, ℕ, length, drop, refl, sym, ◌∙◌, ap, subst, arith}
use Rattle.std.proofs.lemmas.Bool.{eqb-true}
use Rattle.std.proofs.lemmas.Result.{err_from_is_err_and}
use Rattle.journal_lines.specs.Journal.{IsDamaged}
use Rattle.journal_serve.specs.Session.{commands_of}
use Rattle.journal_serve.specs.Recovery.{IsUnfit}
use Rattle.journal_serve.proofs.Turns.{replays_none, replays_on, replays_same}
use Rattle.journal_serve.proofs.StoreSteps.{read_none, read_more_reads}
use Rattle.journal_serve.proofs.Fronts.{next_same, replay_begins, replay_goes, replay_ends, text_with_bytes, never_damaged, never_unfit, never_foreign}
use Rattle.journal_serve.proofs.recovery.replay.Goals as goal

pub loop-init : goal.loop-init
loop-init g c = (
  omega (arith, c.requires, ap length c.new-pending.ensures),
  λ word. (word, read_none g.S.Store.moment g.S.Store.written_at g.S.Store.left_at c.args.store.now),
  [],
  replays_none g.A.Applies.takes _,
  λ word front reads. ([], replay_begins (g.S.Store.written_at c.args.store.now (g.S.Store.moment c.args.store.now)) c.args.reading.now (length c.journal_head.result.now) c.new-pending.result.text.items front (ap length c.journal_head.ensures) c.new-pending.ensures reads, refl),
)

pub loop-preserved : goal.loop-preserved
loop-preserved g c = (
  omega (arith, c.loop.invariant.0, c.in_ok-replay_piece.ensures.within),
  λ word. (c.in_ok-piece.ensures.word (c.loop.invariant.1 word).0, read_more_reads g.S.Store.moment g.S.Store.written_at g.S.Store.left_at c.args.store.now c.loop.store c.read_at.new.store (c.loop.invariant.1 word).1 (c.read_at.ensures.read (c.loop.invariant.1 word).0)),
  c.loop.invariant.2 ++ c.in_ok-replay_piece.ensures.reads.0,
  replays_on g.A.Applies.takes _ _ _ c.loop.invariant.2 c.in_ok-replay_piece.ensures.reads.0 c.loop.invariant.3 c.in_ok-replay_piece.ensures.reads.1,
  λ word front reads.
      let so_far = c.loop.invariant.4 word front reads in
      let next = c.in_ok-replay_piece.ensures.reads.2 so_far.1.lines so_far.0 so_far.1.reads in (
        next.1,
        replay_goes (g.S.Store.written_at c.args.store.now (g.S.Store.moment c.args.store.now)) c.loop.at (length c.as_slice-bytes.result.now) c.loop.reading c.replay_piece.new.reading so_far.0 next.1 c.loop.pending.text.items c.as_slice-bytes.result.now
            c.replay_piece.new.pending.text.items next.0 so_far.1 (next_same (g.S.Store.written_at c.loop.store (g.S.Store.moment c.loop.store)) (g.S.Store.written_at c.args.store.now (g.S.Store.moment c.args.store.now)) c.loop.at c.loop.at c.as_slice-bytes.result.now c.in_ok-piece.piece.items (c.loop.invariant.1 word).1.same refl (c.in_ok-piece.ensures.next (c.loop.invariant.1 word).0) c.as_slice-bytes.ensures.value) refl next.2 next.3,
        next.4 ∙ ap (λ (l : List (List ℕ)). l ++ c.in_ok-replay_piece.ensures.reads.0) so_far.2,
      ),
)

pub returns-then-at-ge-LONGEST_JOURNAL-clause-read : goal.returns-then-at-ge-LONGEST_JOURNAL-clause-read
returns-then-at-ge-LONGEST_JOURNAL-clause-read g c word =
    (c.loop.invariant.1 word).1

pub returns-in_err-piece-clause-read : goal.returns-in_err-piece-clause-read
returns-in_err-piece-clause-read g c word =
    read_more_reads g.S.Store.moment g.S.Store.written_at g.S.Store.left_at c.args.store.now c.loop.store c.read_at.new.store (c.loop.invariant.1 word).1 (c.read_at.ensures.read (c.loop.invariant.1 word).0)

pub returns-in_err-piece-clause-damaged : goal.returns-in_err-piece-clause-damaged
returns-in_err-piece-clause-damaged g c word front reads number is =
    let p = err_from_is_err_and c.from_residual.result c.from_residual.ensures.1 in
    absurd (never_damaged c.from_residual.result p.0 c.in_err-piece.field-0.0 p.1 p.2 number is)

pub returns-in_err-piece-clause-unfit : goal.returns-in_err-piece-clause-unfit
returns-in_err-piece-clause-unfit g c word front reads number is =
    let p = err_from_is_err_and c.from_residual.result c.from_residual.ensures.1 in
    absurd (never_unfit c.from_residual.result p.0 c.in_err-piece.field-0.0 p.1 p.2 number is)

pub returns-in_err-piece-clause-no_other : goal.returns-in_err-piece-clause-no_other
returns-in_err-piece-clause-no_other g c is =
    let p = err_from_is_err_and c.from_residual.result c.from_residual.ensures.1 in
    absurd (never_foreign c.from_residual.result p.0 c.in_err-piece.field-0.0 p.1 p.2 is)

pub returns-then-is_empty-clause-read : goal.returns-then-is_empty-clause-read
returns-then-is_empty-clause-read g c word =
    read_more_reads g.S.Store.moment g.S.Store.written_at g.S.Store.left_at c.args.store.now c.loop.store c.read_at.new.store (c.loop.invariant.1 word).1 (c.read_at.ensures.read (c.loop.invariant.1 word).0)

pub returns-then-is_empty-clause-word : goal.returns-then-is_empty-clause-word
returns-then-is_empty-clause-word g c word =
    c.in_ok-piece.ensures.word (c.loop.invariant.1 word).0

pub returns-then-is_empty-clause-replayed : goal.returns-then-is_empty-clause-replayed
returns-then-is_empty-clause-replayed g c = (
  c.loop.invariant.2,
  c.loop.invariant.3,
  λ word front reads.
      let so_far = c.loop.invariant.4 word front reads in (
        replay_ends (g.S.Store.written_at c.args.store.now (g.S.Store.moment c.args.store.now)) c.loop.at c.loop.reading so_far.0 c.loop.pending.text.items c.as_slice-bytes.result.now so_far.1 (next_same (g.S.Store.written_at c.loop.store (g.S.Store.moment c.loop.store)) (g.S.Store.written_at c.args.store.now (g.S.Store.moment c.args.store.now)) c.loop.at c.loop.at c.as_slice-bytes.result.now c.in_ok-piece.piece.items (c.loop.invariant.1 word).1.same refl (c.in_ok-piece.ensures.next (c.loop.invariant.1 word).0) c.as_slice-bytes.ensures.value) (eqb-true (length c.as_slice-bytes.result.now) 0 (sym c.is_empty.ensures ∙ c.if-is_empty.true)),
        so_far.0,
        c.loop.pending.text.items,
        c.loop.pending.one_line,
        so_far.1,
        so_far.2,
      ),
)

pub returns-in_err-replay_piece-clause-read : goal.returns-in_err-replay_piece-clause-read
returns-in_err-replay_piece-clause-read g c word =
    read_more_reads g.S.Store.moment g.S.Store.written_at g.S.Store.left_at c.args.store.now c.loop.store c.read_at.new.store (c.loop.invariant.1 word).1 (c.read_at.ensures.read (c.loop.invariant.1 word).0)

pub returns-in_err-replay_piece-clause-damaged : goal.returns-in_err-replay_piece-clause-damaged
returns-in_err-replay_piece-clause-damaged g c word front reads number is =
    let so_far = c.loop.invariant.4 word front reads in
    let p = err_from_is_err_and c.from_residual-in_err-replay_piece.result c.from_residual-in_err-replay_piece.ensures.1 in
    let why = p.1 in
    let same = p.2 in
    subst (λ (l : List ℕ). IsDamaged l number) (text_with_bytes (g.S.Store.written_at c.args.store.now (g.S.Store.moment c.args.store.now)) c.loop.at c.loop.reading so_far.0 c.loop.pending.text.items c.as_slice-bytes.result.now so_far.1 (next_same (g.S.Store.written_at c.loop.store (g.S.Store.moment c.loop.store)) (g.S.Store.written_at c.args.store.now (g.S.Store.moment c.args.store.now)) c.loop.at c.loop.at c.as_slice-bytes.result.now c.in_ok-piece.piece.items (c.loop.invariant.1 word).1.same refl (c.in_ok-piece.ensures.next (c.loop.invariant.1 word).0) c.as_slice-bytes.ensures.value)) (c.in_err-replay_piece.ensures.damaged number (cc) so_far.1.lines (drop (length c.as_slice-bytes.result.now) (drop c.loop.at (g.S.Store.written_at c.args.store.now (g.S.Store.moment c.args.store.now)))) so_far.0 so_far.1.reads)

pub returns-in_err-replay_piece-clause-unfit : goal.returns-in_err-replay_piece-clause-unfit
returns-in_err-replay_piece-clause-unfit g c word front reads number is =
    let so_far = c.loop.invariant.4 word front reads in
    let p = err_from_is_err_and c.from_residual-in_err-replay_piece.result c.from_residual-in_err-replay_piece.ensures.1 in
    let why = p.1 in
    let same = p.2 in
    subst (λ (l : List ℕ). IsUnfit g.A.Applies.takes c.args.state.now l number) (text_with_bytes (g.S.Store.written_at c.args.store.now (g.S.Store.moment c.args.store.now)) c.loop.at c.loop.reading so_far.0 c.loop.pending.text.items c.as_slice-bytes.result.now so_far.1 (next_same (g.S.Store.written_at c.loop.store (g.S.Store.moment c.loop.store)) (g.S.Store.written_at c.args.store.now (g.S.Store.moment c.args.store.now)) c.loop.at c.loop.at c.as_slice-bytes.result.now c.in_ok-piece.piece.items (c.loop.invariant.1 word).1.same refl (c.in_ok-piece.ensures.next (c.loop.invariant.1 word).0) c.as_slice-bytes.ensures.value)) (c.in_err-replay_piece.ensures.unfit number (cc) so_far.1.lines (drop (length c.as_slice-bytes.result.now) (drop c.loop.at (g.S.Store.written_at c.args.store.now (g.S.Store.moment c.args.store.now)))) so_far.0 so_far.1.reads
    c.args.state.now (replays_same g.A.Applies.takes _ _ c.loop.invariant.2 (commands_of so_far.0) (sym so_far.2) c.loop.invariant.3))

pub returns-in_err-replay_piece-clause-no_other : goal.returns-in_err-replay_piece-clause-no_other
returns-in_err-replay_piece-clause-no_other g c is =
    let p = err_from_is_err_and c.from_residual-in_err-replay_piece.result c.from_residual-in_err-replay_piece.ensures.1 in
    let why = p.1 in
    let same = p.2 in
    c.in_err-replay_piece.ensures.no_other (cc)

pub returns-clause-read : goal.returns-clause-read
returns-clause-read g c word =
    (c.loop.invariant.1 word).1
