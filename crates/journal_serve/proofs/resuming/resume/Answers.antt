use Rattle.std.proofs.Common.{◌++◌, inl, inr, [], refl, ◌∙◌, ap}
use Rattle.std.specs.Prelude.{Err}
use Rattle.std.proofs.lemmas.Result.{err_from_is_err_and}
use Rattle.journal_lines.proofs.Chains.{recovers_once, damaged_recovers_not}
use Rattle.journal_serve.specs.declared.fault.ServeFault.{ServeFault}
use Rattle.journal_serve.specs.declared.resuming.ResumeFault.TheVariants.{Unserved}
use Rattle.journal_serve.specs.Session.{commands_of}
use Rattle.journal_serve.proofs.KnownBytes.{keeps_same, consumes_none, input_of}
use Rattle.journal_serve.proofs.Exits.{no_ok}
use Rattle.journal_serve.proofs.Resumes.{resumed_not, resumed, resumed_keeps}
use Rattle.journal_serve.proofs.resuming.resume.Goals as goal

pub returns-in_err-recover-clause-resumed : goal.returns-in_err-recover-clause-resumed
returns-in_err-recover-clause-resumed g c =
    let p = err_from_is_err_and c.from_residual.result c.from_residual.ensures.1 in
    let input = input_of (g.R.Read.remaining c.args.reader.now) (g.R.Read.remaining c.args.reader.now) [] (consumes_none (g.R.Read.remaining c.args.reader.now)) in (
      input.0,
      input.1,
      [],
      inl (_, p.1 ∙ ap (λ why. Err why) p.2, refl, keeps_same (g.W.Write.contents c.args.writer.now)),
      λ word found is. resumed_not g.S.Store.moment g.S.Store.written_at g.S.Store.left_at found [] c.args.journal.now.store is c.recover.new.journal.store (g.W.Write.contents c.args.writer.now) (g.W.Write.contents c.args.writer.now) (c.recover.ensures.keeps word) (keeps_same (g.W.Write.contents c.args.writer.now)),
    )

pub returns-in_err-recover-clause-never_lost : goal.returns-in_err-recover-clause-never_lost
returns-in_err-recover-clause-never_lost g c word told has each n content from until left honest =
    resumed_keeps g.S.Store.moment g.S.Store.written_at g.S.Store.left_at told has.0 [] (g.W.Write.contents c.args.writer.now) (g.W.Write.contents c.args.writer.now) c.args.journal.now.store c.recover.new.journal.store
    (resumed_not g.S.Store.moment g.S.Store.written_at g.S.Store.left_at (told ++ has.0) [] c.args.journal.now.store has.1 c.recover.new.journal.store (g.W.Write.contents c.args.writer.now) (g.W.Write.contents c.args.writer.now) (c.recover.ensures.keeps word) (keeps_same (g.W.Write.contents c.args.writer.now)))
    each n content from until left honest

pub returns-in_err-recover-clause-damaged : goal.returns-in_err-recover-clause-damaged
returns-in_err-recover-clause-damaged g c word number is =
    keeps_same _

pub returns-in_err-serve-clause-resumed : goal.returns-in_err-serve-clause-resumed
returns-in_err-serve-clause-resumed g c =
    let found_now = c.in_ok-recover.ensures.recovered in
    let lines = c.in_err-serve.ensures in
    let p = err_from_is_err_and c.from_residual-in_err-serve.result c.from_residual-in_err-serve.ensures.1 in (
      lines.0,
      lines.1,
      lines.2,
      inr (found_now.0, _, lines.3, found_now.1, λ word. (found_now.2 word).0, lines.4, no_ok c.from_residual-in_err-serve.result p.0 _ p.1, λ other. lines.6 (λ is. other (p.1 ∙ ap (λ why. Err why) p.2 ∙ ap (λ (f : ServeFault). Err (Unserved f)) (cc)))),
      λ word found is.
          let at = found_now.2 word in
          resumed g.S.Store.moment g.S.Store.written_at g.S.Store.left_at found lines.2 c.args.journal.now.store is (commands_of at.1) c.recover.new.journal.store c.serve.new.journal.store (g.W.Write.contents c.args.writer.now) (g.W.Write.contents c.serve.new.writer)
          (at.3 ∙ recovers_once (g.S.Store.written_at c.args.journal.now.store (g.S.Store.moment c.args.journal.now.store)) found_now.0 found at.0 is) (c.recover.ensures.keeps word) (lines.7 at.1 (c.in_ok-recover.ensures.word word) at.2),
    )

pub returns-in_err-serve-clause-never_lost : goal.returns-in_err-serve-clause-never_lost
returns-in_err-serve-clause-never_lost g c word told has each n content from until left honest =
    let found_now = c.in_ok-recover.ensures.recovered in
    let at = found_now.2 word in
    let lines = c.in_err-serve.ensures in
    resumed_keeps g.S.Store.moment g.S.Store.written_at g.S.Store.left_at told has.0 lines.2 (g.W.Write.contents c.args.writer.now) (g.W.Write.contents c.serve.new.writer) c.args.journal.now.store c.serve.new.journal.store
    (resumed g.S.Store.moment g.S.Store.written_at g.S.Store.left_at (told ++ has.0) lines.2 c.args.journal.now.store has.1 (commands_of at.1) c.recover.new.journal.store c.serve.new.journal.store (g.W.Write.contents c.args.writer.now) (g.W.Write.contents c.serve.new.writer)
    (at.3 ∙ recovers_once (g.S.Store.written_at c.args.journal.now.store (g.S.Store.moment c.args.journal.now.store)) found_now.0 (told ++ has.0) at.0 has.1) (c.recover.ensures.keeps word) (lines.7 at.1 (c.in_ok-recover.ensures.word word) at.2))
    each n content from until left honest

pub returns-in_err-serve-clause-damaged : goal.returns-in_err-serve-clause-damaged
returns-in_err-serve-clause-damaged g c word number is =
    let found_now = c.in_ok-recover.ensures.recovered in
    absurd (damaged_recovers_not (g.S.Store.written_at c.args.journal.now.store (g.S.Store.moment c.args.journal.now.store)) number found_now.0 is (found_now.2 word).0)

pub returns-clause-resumed : goal.returns-clause-resumed
returns-clause-resumed g c =
    let found_now = c.in_ok-recover.ensures.recovered in
    let lines = c.in_ok-serve.ensures in (
      lines.0,
      lines.1,
      lines.2,
      inr (found_now.0, _, lines.3, found_now.1, λ word. (found_now.2 word).0, lines.4, lines.5, λ other. lines.6 (λ is. absurd (cc))),
      λ word found is.
          let at = found_now.2 word in
          resumed g.S.Store.moment g.S.Store.written_at g.S.Store.left_at found lines.2 c.args.journal.now.store is (commands_of at.1) c.recover.new.journal.store c.serve.new.journal.store (g.W.Write.contents c.args.writer.now) (g.W.Write.contents c.serve.new.writer)
          (at.3 ∙ recovers_once (g.S.Store.written_at c.args.journal.now.store (g.S.Store.moment c.args.journal.now.store)) found_now.0 found at.0 is) (c.recover.ensures.keeps word) (lines.7 at.1 (c.in_ok-recover.ensures.word word) at.2),
    )

pub returns-clause-never_lost : goal.returns-clause-never_lost
returns-clause-never_lost g c word told has each n content from until left honest =
    let found_now = c.in_ok-recover.ensures.recovered in
    let at = found_now.2 word in
    let lines = c.in_ok-serve.ensures in
    resumed_keeps g.S.Store.moment g.S.Store.written_at g.S.Store.left_at told has.0 lines.2 (g.W.Write.contents c.args.writer.now) (g.W.Write.contents c.serve.new.writer) c.args.journal.now.store c.serve.new.journal.store
    (resumed g.S.Store.moment g.S.Store.written_at g.S.Store.left_at (told ++ has.0) lines.2 c.args.journal.now.store has.1 (commands_of at.1) c.recover.new.journal.store c.serve.new.journal.store (g.W.Write.contents c.args.writer.now) (g.W.Write.contents c.serve.new.writer)
    (at.3 ∙ recovers_once (g.S.Store.written_at c.args.journal.now.store (g.S.Store.moment c.args.journal.now.store)) found_now.0 (told ++ has.0) at.0 has.1) (c.recover.ensures.keeps word) (lines.7 at.1 (c.in_ok-recover.ensures.word word) at.2))
    each n content from until left honest

pub returns-clause-damaged : goal.returns-clause-damaged
returns-clause-damaged g c word number is =
    let found_now = c.in_ok-recover.ensures.recovered in
    absurd (damaged_recovers_not (g.S.Store.written_at c.args.journal.now.store (g.S.Store.moment c.args.journal.now.store)) number found_now.0 is (found_now.2 word).0)
