use Rattle.std.proofs.Common.{length, sym, ◌∙◌, arith}
use Rattle.std.proofs.lemmas.Bool.{eqb-true}
use Rattle.journal_serve.proofs.StoreSteps.{read_none, read_more_reads}
use Rattle.journal_serve.proofs.Fronts.{next_same, front_more, front_all, front_long, front_begins}
use Rattle.journal_serve.proofs.recovery.read_front.Goals as goal

pub loop-init : goal.loop-init
loop-init g c word =
    (word, read_none g.S.Store.moment g.S.Store.written_at g.S.Store.left_at c.args.store.now, front_begins (g.S.Store.written_at c.args.store.now (g.S.Store.moment c.args.store.now)) c.new-text.result.items c.new-text.ensures.items)

pub loop-preserved : goal.loop-preserved
loop-preserved g c word =
    (c.in_ok-piece.ensures.word (c.loop.invariant word).0, read_more_reads g.S.Store.moment g.S.Store.written_at g.S.Store.left_at c.args.store.now c.loop.store c.read_at.new.store (c.loop.invariant word).1 (c.read_at.ensures.read (c.loop.invariant word).0), (front_more (g.S.Store.written_at c.args.store.now (g.S.Store.moment c.args.store.now)) c.loop.text.items c.as_slice-bytes.result.now c.extend_from_slice.new.self.items (c.loop.invariant word).2 (next_same (g.S.Store.written_at c.loop.store (g.S.Store.moment c.loop.store)) (g.S.Store.written_at c.args.store.now (g.S.Store.moment c.args.store.now)) c.len.result (length c.loop.text.items) c.as_slice-bytes.result.now c.in_ok-piece.piece.items (c.loop.invariant word).1.same (omega arith) (c.in_ok-piece.ensures.next (c.loop.invariant word).0) c.as_slice-bytes.ensures.value) c.in_ok-extend_from_slice.ensures.items))

pub returns-in_err-piece-clause-read : goal.returns-in_err-piece-clause-read
returns-in_err-piece-clause-read g c word =
    read_more_reads g.S.Store.moment g.S.Store.written_at g.S.Store.left_at c.args.store.now c.loop.store c.read_at.new.store (c.loop.invariant word).1 (c.read_at.ensures.read (c.loop.invariant word).0)

pub returns-then-is_empty-clause-front : goal.returns-then-is_empty-clause-front
returns-then-is_empty-clause-front g c word =
    front_all (g.S.Store.written_at c.args.store.now (g.S.Store.moment c.args.store.now)) c.loop.text.items c.as_slice-bytes.result.now c.args.most (c.loop.invariant word).2 (next_same (g.S.Store.written_at c.loop.store (g.S.Store.moment c.loop.store)) (g.S.Store.written_at c.args.store.now (g.S.Store.moment c.args.store.now)) c.len.result (length c.loop.text.items) c.as_slice-bytes.result.now c.in_ok-piece.piece.items (c.loop.invariant word).1.same (omega arith) (c.in_ok-piece.ensures.next (c.loop.invariant word).0) c.as_slice-bytes.ensures.value) (eqb-true (length c.as_slice-bytes.result.now) 0 (sym c.is_empty.ensures ∙ c.if-is_empty.true))

pub returns-then-is_empty-clause-read : goal.returns-then-is_empty-clause-read
returns-then-is_empty-clause-read g c word =
    read_more_reads g.S.Store.moment g.S.Store.written_at g.S.Store.left_at c.args.store.now c.loop.store c.read_at.new.store (c.loop.invariant word).1 (c.read_at.ensures.read (c.loop.invariant word).0)

pub returns-then-is_empty-clause-word : goal.returns-then-is_empty-clause-word
returns-then-is_empty-clause-word g c word =
    c.in_ok-piece.ensures.word (c.loop.invariant word).0

pub returns-in_err-extend_from_slice-clause-read : goal.returns-in_err-extend_from_slice-clause-read
returns-in_err-extend_from_slice-clause-read g c word =
    read_more_reads g.S.Store.moment g.S.Store.written_at g.S.Store.left_at c.args.store.now c.loop.store c.read_at.new.store (c.loop.invariant word).1 (c.read_at.ensures.read (c.loop.invariant word).0)

pub returns-then-len-most-clause-front : goal.returns-then-len-most-clause-front
returns-then-len-most-clause-front g c word =
    front_long (g.S.Store.written_at c.args.store.now (g.S.Store.moment c.args.store.now)) c.extend_from_slice.new.self.items c.args.most (front_more (g.S.Store.written_at c.args.store.now (g.S.Store.moment c.args.store.now)) c.loop.text.items c.as_slice-bytes.result.now c.extend_from_slice.new.self.items (c.loop.invariant word).2 (next_same (g.S.Store.written_at c.loop.store (g.S.Store.moment c.loop.store)) (g.S.Store.written_at c.args.store.now (g.S.Store.moment c.args.store.now)) c.len.result (length c.loop.text.items) c.as_slice-bytes.result.now c.in_ok-piece.piece.items (c.loop.invariant word).1.same (omega arith) (c.in_ok-piece.ensures.next (c.loop.invariant word).0) c.as_slice-bytes.ensures.value) c.in_ok-extend_from_slice.ensures.items) (omega arith)

pub returns-then-len-most-clause-read : goal.returns-then-len-most-clause-read
returns-then-len-most-clause-read g c word =
    read_more_reads g.S.Store.moment g.S.Store.written_at g.S.Store.left_at c.args.store.now c.loop.store c.read_at.new.store (c.loop.invariant word).1 (c.read_at.ensures.read (c.loop.invariant word).0)

pub returns-then-len-most-clause-word : goal.returns-then-len-most-clause-word
returns-then-len-most-clause-word g c word =
    c.in_ok-piece.ensures.word (c.loop.invariant word).0

pub returns-clause-read : goal.returns-clause-read
returns-clause-read g c word =
    (c.loop.invariant word).1
