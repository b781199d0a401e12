use Rattle.std.proofs.Common.{◌≡◌, ◌+◌, ◌≤◌, List, ℕ, length, take, refl, sym, ◌∙◌, ap, subst, arith}
use Rattle.journal_lines.specs.Journal.{journal_of, HasBatches}
use Rattle.journal_serve.proofs.StoreSteps.{keeps_none, keeps_read, keeps_join, synced_read}
use Rattle.journal_serve.proofs.Fronts.{replayed_has_batches, journal_size, whole_is_journal, cut_is_journal}
use Rattle.journal_serve.proofs.recovery.recover_lines.Goals as goal

pub returns-in_err-end-clause-keeps : goal.returns-in_err-end-clause-keeps
returns-in_err-end-clause-keeps g c word synced front =
    keeps_read g.S.Store.moment g.S.Store.written_at g.S.Store.left_at c.args.journal.now.store c.args.journal.now.store c.replay.new.store (keeps_none g.S.Store.moment g.S.Store.written_at g.S.Store.left_at c.args.journal.now.store) (c.replay.ensures.read word) refl synced

pub returns-then-end-whole-clause-recovered : goal.returns-then-end-whole-clause-recovered
returns-then-end-whole-clause-recovered g c = (
  c.in_ok-end.ensures.replayed.0,
  c.in_ok-end.ensures.replayed.1,
  λ word synced front.
      let found = c.in_ok-end.ensures.replayed.2 word front c.begin-reading.ensures in
      let one = replayed_has_batches (g.S.Store.written_at c.args.journal.now.store (g.S.Store.moment c.args.journal.now.store)) c.in_ok-end.end c.replay.new.reading found.1 found.2 found.4 found.0 found.3 in
      let size : (length c.journal_head.result.now + c.replay.new.reading.end) ≡ length (journal_of found.1) = ap (λ (l : List ℕ). length l + c.replay.new.reading.end) c.journal_head.ensures ∙ journal_size c.replay.new.reading found.4.lines found.1 found.4.reads in
      let long : length (g.S.Store.written_at c.args.journal.now.store (g.S.Store.moment c.args.journal.now.store)) ≤ (length c.journal_head.result.now + c.replay.new.reading.end) = omega (arith, found.0) in (
        found.1,
        one,
        record { each = one.each; written = (c.replay.ensures.read word).same ∙ whole_is_journal (g.S.Store.written_at c.args.journal.now.store (g.S.Store.moment c.args.journal.now.store)) found.1 (length c.journal_head.result.now + c.replay.new.reading.end) one size long; synced = (synced_read g.S.Store.moment g.S.Store.written_at g.S.Store.left_at c.args.journal.now.store c.replay.new.store (c.replay.ensures.read word) synced); sum = found.4.reads.sum },
        found.5,
      ),
)

pub returns-then-end-whole-clause-keeps : goal.returns-then-end-whole-clause-keeps
returns-then-end-whole-clause-keeps g c word synced front =
    keeps_read g.S.Store.moment g.S.Store.written_at g.S.Store.left_at c.args.journal.now.store c.args.journal.now.store c.replay.new.store (keeps_none g.S.Store.moment g.S.Store.written_at g.S.Store.left_at c.args.journal.now.store) (c.replay.ensures.read word) refl synced

pub returns-in_err-cut_end-clause-keeps : goal.returns-in_err-cut_end-clause-keeps
returns-in_err-cut_end-clause-keeps g c word synced front =
    let found = c.in_ok-end.ensures.replayed.2 word front c.begin-reading.ensures in
    let one = replayed_has_batches (g.S.Store.written_at c.args.journal.now.store (g.S.Store.moment c.args.journal.now.store)) c.in_ok-end.end c.replay.new.reading found.1 found.2 found.4 found.0 found.3 in
    let size : (length c.journal_head.result.now + c.replay.new.reading.end) ≡ length (journal_of found.1) = ap (λ (l : List ℕ). length l + c.replay.new.reading.end) c.journal_head.ensures ∙ journal_size c.replay.new.reading found.4.lines found.1 found.4.reads in
    keeps_join g.S.Store.moment g.S.Store.written_at g.S.Store.left_at c.args.journal.now.store c.replay.new.store c.cut_end.new.store (keeps_read g.S.Store.moment g.S.Store.written_at g.S.Store.left_at c.args.journal.now.store c.args.journal.now.store c.replay.new.store (keeps_none g.S.Store.moment g.S.Store.written_at g.S.Store.left_at c.args.journal.now.store) (c.replay.ensures.read word) refl synced) (c.cut_end.ensures.keeps (c.in_ok-end.ensures.word word) (synced_read g.S.Store.moment g.S.Store.written_at g.S.Store.left_at c.args.journal.now.store c.replay.new.store (c.replay.ensures.read word) synced) found.1 (subst (λ (l : List ℕ). HasBatches l found.1) (sym (c.replay.ensures.read word).same) one) size) (c.replay.ensures.read word).same (synced_read g.S.Store.moment g.S.Store.written_at g.S.Store.left_at c.args.journal.now.store c.replay.new.store (c.replay.ensures.read word) synced)

pub returns-clause-keeps : goal.returns-clause-keeps
returns-clause-keeps g c word synced front =
    let found = c.in_ok-end.ensures.replayed.2 word front c.begin-reading.ensures in
    let one = replayed_has_batches (g.S.Store.written_at c.args.journal.now.store (g.S.Store.moment c.args.journal.now.store)) c.in_ok-end.end c.replay.new.reading found.1 found.2 found.4 found.0 found.3 in
    let size : (length c.journal_head.result.now + c.replay.new.reading.end) ≡ length (journal_of found.1) = ap (λ (l : List ℕ). length l + c.replay.new.reading.end) c.journal_head.ensures ∙ journal_size c.replay.new.reading found.4.lines found.1 found.4.reads in
    keeps_join g.S.Store.moment g.S.Store.written_at g.S.Store.left_at c.args.journal.now.store c.replay.new.store c.cut_end.new.store (keeps_read g.S.Store.moment g.S.Store.written_at g.S.Store.left_at c.args.journal.now.store c.args.journal.now.store c.replay.new.store (keeps_none g.S.Store.moment g.S.Store.written_at g.S.Store.left_at c.args.journal.now.store) (c.replay.ensures.read word) refl synced) (c.cut_end.ensures.keeps (c.in_ok-end.ensures.word word) (synced_read g.S.Store.moment g.S.Store.written_at g.S.Store.left_at c.args.journal.now.store c.replay.new.store (c.replay.ensures.read word) synced) found.1 (subst (λ (l : List ℕ). HasBatches l found.1) (sym (c.replay.ensures.read word).same) one) size) (c.replay.ensures.read word).same (synced_read g.S.Store.moment g.S.Store.written_at g.S.Store.left_at c.args.journal.now.store c.replay.new.store (c.replay.ensures.read word) synced)

pub returns-clause-recovered : goal.returns-clause-recovered
returns-clause-recovered g c = (
  c.in_ok-end.ensures.replayed.0,
  c.in_ok-end.ensures.replayed.1,
  λ word synced front.
      let found = c.in_ok-end.ensures.replayed.2 word front c.begin-reading.ensures in
      let one = replayed_has_batches (g.S.Store.written_at c.args.journal.now.store (g.S.Store.moment c.args.journal.now.store)) c.in_ok-end.end c.replay.new.reading found.1 found.2 found.4 found.0 found.3 in
      let size : (length c.journal_head.result.now + c.replay.new.reading.end) ≡ length (journal_of found.1) = ap (λ (l : List ℕ). length l + c.replay.new.reading.end) c.journal_head.ensures ∙ journal_size c.replay.new.reading found.4.lines found.1 found.4.reads in
      let cut = c.in_ok-cut_end.ensures.cut (c.in_ok-end.ensures.word word) in (
        found.1,
        one,
        record {
          each = one.each;
          written = cut.0 ∙ ap (take (length c.journal_head.result.now + c.replay.new.reading.end)) (c.replay.ensures.read word).same ∙ cut_is_journal (g.S.Store.written_at c.args.journal.now.store (g.S.Store.moment c.args.journal.now.store)) found.1 (length c.journal_head.result.now + c.replay.new.reading.end) one size;
          synced = cut.1;
          sum = found.4.reads.sum;
        },
        found.5,
      ),
)
