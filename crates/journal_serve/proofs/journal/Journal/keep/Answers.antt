use Rattle.std.proofs.Common.{◌⊎◌, List, ℕ, length, OnOk, sym, ◌∙◌, subst}
use Rattle.std.proofs.lemmas.Bool.{eqb-true, eqb-false}
use Rattle.std.proofs.lemmas.List.{nil_from_length}
use Rattle.journal_lines.specs.Journal.{HasBatches, HasNoForged, journal_of}
use Rattle.journal_serve.specs.Journal.{IsOnDisk}
use Rattle.journal_store.specs.Store.{Passes}
use Rattle.journal_serve.proofs.Appends.{passes_not, at_rest_without, left_without, some_commands, changed_batch, behind_first, grown_is}
use Rattle.journal_serve.proofs.journal.Journal.keep.Goals as goal

pub returns-then-is_empty-clause-kept : goal.returns-then-is_empty-clause-kept
returns-then-is_empty-clause-kept g c word batches changed rest each is =
    at_rest_without g.S.Store.moment g.S.Store.written_at g.S.Store.left_at c.args.self.now batches changed rest
    (sym is ∙ nil_from_length c.args.commands.now (eqb-true (length c.args.commands.now) 0 (sym c.is_empty.ensures ∙ c.if-is_empty.true)))

pub returns-then-is_empty-clause-any_moment : goal.returns-then-is_empty-clause-any_moment
returns-then-is_empty-clause-any_moment g c word batches changed rest each is =
    left_without g.S.Store.moment g.S.Store.written_at g.S.Store.left_at c.args.self.now batches changed rest
    (sym is ∙ nil_from_length c.args.commands.now (eqb-true (length c.args.commands.now) 0 (sym c.is_empty.ensures ∙ c.if-is_empty.true)))

pub returns-clause-kept : goal.returns-clause-kept
returns-clause-kept g c word batches changed rest each is =
    let some = some_commands changed c.args.commands.now is (eqb-false (length c.args.commands.now) 0 (sym c.is_empty.ensures ∙ c.if-is_empty.false)) in
    subst (λ (bs : List (List (List ℕ))). OnOk c.append.result (IsOnDisk g.S.Store.moment g.S.Store.written_at g.S.Store.left_at c.append.new.self bs)) (sym (grown_is batches changed some))
    (c.append.ensures.appended word batches changed rest (changed_batch changed each some) (behind_first changed c.args.commands.now is))

pub returns-clause-any_moment : goal.returns-clause-any_moment
returns-clause-any_moment g c word batches changed rest each is =
    let some = some_commands changed c.args.commands.now is (eqb-false (length c.args.commands.now) 0 (sym c.is_empty.ensures ∙ c.if-is_empty.false)) in
    let same = grown_is batches changed some in
    λ n content from until left.
    subst (λ (bs : List (List (List ℕ))). HasNoForged (journal_of bs) content → HasBatches content batches ⊎ HasBatches content bs) (sym same)
    (c.append.ensures.any_moment word batches changed rest (changed_batch changed each some) (behind_first changed c.args.commands.now is) n content from until left)

pub returns-then-is_empty-clause-time : goal.returns-then-is_empty-clause-time
returns-then-is_empty-clause-time g c word batches changed rest each is = passes_not g.S.Store.moment g.S.Store.written_at g.S.Store.left_at c.args.self.now.store _ _

pub returns-clause-time : goal.returns-clause-time
returns-clause-time g c word batches changed rest each is =
    let some = some_commands changed c.args.commands.now is (eqb-false (length c.args.commands.now) 0 (sym c.is_empty.ensures ∙ c.if-is_empty.false)) in
    let same = grown_is batches changed some in
    subst (λ (bs : List (List (List ℕ))). Passes g.S.Store.moment g.S.Store.written_at g.S.Store.left_at c.args.self.now.store c.append.new.self.store (journal_of bs)
    (λ content. HasNoForged (journal_of bs) content → HasBatches content batches ⊎ HasBatches content bs)) (sym same)
    (c.append.ensures.time word batches changed rest (changed_batch changed each some) (behind_first changed c.args.commands.now is))
