use Rattle.std.proofs.Common.{◌≤◌, inl, inr, [], List, ℕ, length, take, refl, sym, ◌∙◌, ap, subst, arith}
use Rattle.std.proofs.lemmas.List.{append-nil}
use Rattle.std.proofs.lemmas.List.Elements.{All-nil}
use Rattle.journal_lines.specs.Objects.{IsBatch}
use Rattle.journal_lines.specs.Lines.{head}
use Rattle.journal_lines.specs.Journal.{HasBatches}
use Rattle.journal_serve.specs.declared.recovery.Beginning.{Beginning}
use Rattle.journal_serve.specs.Recovery.{StartsAs}
use Rattle.std.proofs.lemmas.Result.{on_ok_weaker}
use Rattle.journal_serve.proofs.Turns.{replays_none}
use Rattle.journal_serve.proofs.StoreSteps.{keeps_front, keeps_join, synced_read}
use Rattle.journal_serve.proofs.recovery.recover.Goals as goal

pub returns-in_err-begin-in-NotBegun-clause-keeps : goal.returns-in_err-begin-in-NotBegun-clause-keeps
returns-in_err-begin-in-NotBegun-clause-keeps g c word =
    let short : length (g.S.Store.written_at c.read_head.new.store (g.S.Store.moment c.read_head.new.store)) ≤ length head = (omega (arith, ap length (c.read_head.ensures.read (c.in_ok-sync.ensures.word word)).same, (subst (λ (b : Beginning). StartsAs (g.S.Store.written_at c.sync.new.self (g.S.Store.moment c.sync.new.self)) b) c.in-NotBegun.is (c.in_ok-read_head.ensures.begins (c.in_ok-sync.ensures.word word))))) in
    keeps_join g.S.Store.moment g.S.Store.written_at g.S.Store.left_at c.args.journal.now.store c.read_head.new.store c.begin.new.store (keeps_front g.S.Store.moment g.S.Store.written_at g.S.Store.left_at c.args.journal.now.store c.sync.new.self c.read_head.new.store (c.sync.ensures.time word) (c.sync.ensures.written word) (c.in_ok-sync.ensures.synced word) (c.read_head.ensures.read (c.in_ok-sync.ensures.word word))) (c.begin.ensures.keeps (c.in_ok-read_head.ensures.word (c.in_ok-sync.ensures.word word)) (synced_read g.S.Store.moment g.S.Store.written_at g.S.Store.left_at c.sync.new.self c.read_head.new.store (c.read_head.ensures.read (c.in_ok-sync.ensures.word word)) (c.in_ok-sync.ensures.synced word)) short) ((c.read_head.ensures.read (c.in_ok-sync.ensures.word word)).same ∙ c.sync.ensures.written word) (synced_read g.S.Store.moment g.S.Store.written_at g.S.Store.left_at c.sync.new.self c.read_head.new.store (c.read_head.ensures.read (c.in_ok-sync.ensures.word word)) (c.in_ok-sync.ensures.synced word))

pub returns-in-Head-clause-keeps : goal.returns-in-Head-clause-keeps
returns-in-Head-clause-keeps g c word =
    let front = ap (take (length head)) (c.read_head.ensures.read (c.in_ok-sync.ensures.word word)).same ∙ (subst (λ (b : Beginning). StartsAs (g.S.Store.written_at c.sync.new.self (g.S.Store.moment c.sync.new.self)) b) c.in-Head.is (c.in_ok-read_head.ensures.begins (c.in_ok-sync.ensures.word word))) in
    keeps_join g.S.Store.moment g.S.Store.written_at g.S.Store.left_at c.args.journal.now.store c.read_head.new.store c.recover_lines.new.journal.store (keeps_front g.S.Store.moment g.S.Store.written_at g.S.Store.left_at c.args.journal.now.store c.sync.new.self c.read_head.new.store (c.sync.ensures.time word) (c.sync.ensures.written word) (c.in_ok-sync.ensures.synced word) (c.read_head.ensures.read (c.in_ok-sync.ensures.word word))) (c.recover_lines.ensures.keeps (c.in_ok-read_head.ensures.word (c.in_ok-sync.ensures.word word)) (synced_read g.S.Store.moment g.S.Store.written_at g.S.Store.left_at c.sync.new.self c.read_head.new.store (c.read_head.ensures.read (c.in_ok-sync.ensures.word word)) (c.in_ok-sync.ensures.synced word)) front) ((c.read_head.ensures.read (c.in_ok-sync.ensures.word word)).same ∙ c.sync.ensures.written word) (synced_read g.S.Store.moment g.S.Store.written_at g.S.Store.left_at c.sync.new.self c.read_head.new.store (c.read_head.ensures.read (c.in_ok-sync.ensures.word word)) (c.in_ok-sync.ensures.synced word))

pub returns-in-Head-clause-recovered : goal.returns-in-Head-clause-recovered
returns-in-Head-clause-recovered g c = on_ok_weaker c.recover_lines.result (λ lines. (
  lines.0,
  lines.1,
  λ word.
      let sync_word = c.in_ok-sync.ensures.word word in
      let read = c.read_head.ensures.read sync_word in
      let front = ap (take (length head)) read.same ∙ (subst (λ (b : Beginning). StartsAs (g.S.Store.written_at c.sync.new.self (g.S.Store.moment c.sync.new.self)) b) c.in-Head.is (c.in_ok-read_head.ensures.begins sync_word)) in
      let found = lines.2 (c.in_ok-read_head.ensures.word sync_word) (synced_read g.S.Store.moment g.S.Store.written_at g.S.Store.left_at c.sync.new.self c.read_head.new.store read (c.in_ok-sync.ensures.synced word)) front in (
        inr (found.0, subst (λ (l : List ℕ). HasBatches l found.0) (read.same ∙ c.sync.ensures.written word) found.1, sym found.3),
        found.0,
        found.2,
        found.3,
      ),
)) c.recover_lines.ensures.recovered

pub returns-in_ok-begin-in-NotBegun-clause-recovered : goal.returns-in_ok-begin-in-NotBegun-clause-recovered
returns-in_ok-begin-in-NotBegun-clause-recovered g c = (
  [],
  replays_none g.A.Applies.takes _,
  λ word.
      let short : length (g.S.Store.written_at c.read_head.new.store (g.S.Store.moment c.read_head.new.store)) ≤ length head = (omega (arith, ap length (c.read_head.ensures.read (c.in_ok-sync.ensures.word word)).same, (subst (λ (b : Beginning). StartsAs (g.S.Store.written_at c.sync.new.self (g.S.Store.moment c.sync.new.self)) b) c.in-NotBegun.is (c.in_ok-read_head.ensures.begins (c.in_ok-sync.ensures.word word))))) in
      let begun = c.in_ok-begin-in-NotBegun.ensures.begun (c.in_ok-read_head.ensures.word (c.in_ok-sync.ensures.word word)) in (
        inl (omega (arith, short, ap length ((c.read_head.ensures.read (c.in_ok-sync.ensures.word word)).same ∙ c.sync.ensures.written word)), refl),
        [],
        record { each = All-nil IsBatch; written = begun.0 ∙ sym (append-nil head); synced = begun.1; sum = c.none-journal.ensures },
        refl,
      ),
)

pub returns-in_ok-begin-in-NotBegun-clause-keeps : goal.returns-in_ok-begin-in-NotBegun-clause-keeps
returns-in_ok-begin-in-NotBegun-clause-keeps g c word =
    let short : length (g.S.Store.written_at c.read_head.new.store (g.S.Store.moment c.read_head.new.store)) ≤ length head = (omega (arith, ap length (c.read_head.ensures.read (c.in_ok-sync.ensures.word word)).same, (subst (λ (b : Beginning). StartsAs (g.S.Store.written_at c.sync.new.self (g.S.Store.moment c.sync.new.self)) b) c.in-NotBegun.is (c.in_ok-read_head.ensures.begins (c.in_ok-sync.ensures.word word))))) in
    keeps_join g.S.Store.moment g.S.Store.written_at g.S.Store.left_at c.args.journal.now.store c.read_head.new.store c.begin.new.store (keeps_front g.S.Store.moment g.S.Store.written_at g.S.Store.left_at c.args.journal.now.store c.sync.new.self c.read_head.new.store (c.sync.ensures.time word) (c.sync.ensures.written word) (c.in_ok-sync.ensures.synced word) (c.read_head.ensures.read (c.in_ok-sync.ensures.word word))) (c.begin.ensures.keeps (c.in_ok-read_head.ensures.word (c.in_ok-sync.ensures.word word)) (synced_read g.S.Store.moment g.S.Store.written_at g.S.Store.left_at c.sync.new.self c.read_head.new.store (c.read_head.ensures.read (c.in_ok-sync.ensures.word word)) (c.in_ok-sync.ensures.synced word)) short) ((c.read_head.ensures.read (c.in_ok-sync.ensures.word word)).same ∙ c.sync.ensures.written word) (synced_read g.S.Store.moment g.S.Store.written_at g.S.Store.left_at c.sync.new.self c.read_head.new.store (c.read_head.ensures.read (c.in_ok-sync.ensures.word word)) (c.in_ok-sync.ensures.synced word))
