use Rattle.std.proofs.Common.{arith}
use Rattle.journal_serve.proofs.StoreSteps.{read_none, read_more}
use Rattle.journal_serve.proofs.Fronts.{piece_next}
use Rattle.journal_serve.proofs.recovery.read_at.Goals as goal

pub returns-in_err-piece-clause-read : goal.returns-in_err-piece-clause-read
returns-in_err-piece-clause-read g c word =
    read_none g.S.Store.moment g.S.Store.written_at g.S.Store.left_at c.args.store.now

pub returns-in_err-count-clause-read : goal.returns-in_err-count-clause-read
returns-in_err-count-clause-read g c word =
    read_more g.S.Store.moment g.S.Store.written_at g.S.Store.left_at c.args.store.now c.args.store.now c.read.new.self (read_none g.S.Store.moment g.S.Store.written_at g.S.Store.left_at c.args.store.now) (c.read.ensures.same word) (c.read.ensures.time word)

pub returns-clause-read : goal.returns-clause-read
returns-clause-read g c word =
    read_more g.S.Store.moment g.S.Store.written_at g.S.Store.left_at c.args.store.now c.args.store.now c.read.new.self (read_none g.S.Store.moment g.S.Store.written_at g.S.Store.left_at c.args.store.now) (c.read.ensures.same word) (c.read.ensures.time word)

pub returns-clause-next : goal.returns-clause-next
returns-clause-next g c word =
    piece_next (g.S.Store.written_at c.args.store.now (g.S.Store.moment c.args.store.now)) c.args.at c.in_ok-count.count c.in_ok-piece.piece.len c.read.new.piece c.in_ok-piece.piece.items c.truncate.new.self.items
    (c.in_ok-count.ensures.bytes word) (omega (arith, c.in_ok-count.ensures.room)) (omega (arith, c.in_ok-count.ensures.room)) (omega (arith, c.in_ok-piece.ensures.len)) c.truncate.ensures.items
