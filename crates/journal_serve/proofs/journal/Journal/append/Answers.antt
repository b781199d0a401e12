use Rattle.std.proofs.Common.{◌++◌, [], ◌∷◌, List, ℕ, ◌∙◌, ap}
use Rattle.journal_lines.specs.Lines.{journal_line, sum_of}
use Rattle.journal_serve.proofs.Appends.{left_at_first, left_by_append, left_by_sync, at_rest_again, grows_by, written_by_append, passes_not, passes_once, passes_twice}
use Rattle.journal_serve.proofs.journal.Journal.append.Goals as goal

pub returns-in_err-line-clause-any_moment : goal.returns-in_err-line-clause-any_moment
returns-in_err-line-clause-any_moment g c word batches commands rest batch is =
    left_at_first g.S.Store.moment g.S.Store.written_at g.S.Store.left_at c.args.self.now batches commands rest batch

pub returns-in_err-push-clause-any_moment : goal.returns-in_err-push-clause-any_moment
returns-in_err-push-clause-any_moment g c word batches commands rest batch is =
    left_at_first g.S.Store.moment g.S.Store.written_at g.S.Store.left_at c.args.self.now batches commands rest batch

pub returns-in_err-append-clause-any_moment : goal.returns-in_err-append-clause-any_moment
returns-in_err-append-clause-any_moment g c word batches commands rest batch is =
    let text_is = c.as_slice.ensures.value ∙ c.in_ok-push.ensures.items ∙ ap (λ (l : List ℕ). l ++ 10 ∷ []) (c.in_ok-line.ensures.text ∙ ap (journal_line c.args.self.now.sum.text) is) in
    left_by_append g.S.Store.moment g.S.Store.written_at g.S.Store.left_at c.args.self.now batches commands rest batch c.append.new.self c.as_slice.result.now text_is (c.append.ensures.time word)

pub returns-in_err-sync-clause-any_moment : goal.returns-in_err-sync-clause-any_moment
returns-in_err-sync-clause-any_moment g c word batches commands rest batch is =
    let text_is = c.as_slice.ensures.value ∙ c.in_ok-push.ensures.items ∙ ap (λ (l : List ℕ). l ++ 10 ∷ []) (c.in_ok-line.ensures.text ∙ ap (journal_line c.args.self.now.sum.text) is) in
    left_by_sync g.S.Store.moment g.S.Store.written_at g.S.Store.left_at c.args.self.now batches commands rest batch c.append.new.self c.sync.new.self c.as_slice.result.now text_is
    (c.append.ensures.time word) (c.in_ok-append.ensures.written word) (c.sync.ensures.time (c.in_ok-append.ensures.word word))

pub returns-clause-any_moment : goal.returns-clause-any_moment
returns-clause-any_moment g c word batches commands rest batch is =
    let text_is = c.as_slice.ensures.value ∙ c.in_ok-push.ensures.items ∙ ap (λ (l : List ℕ). l ++ 10 ∷ []) (c.in_ok-line.ensures.text ∙ ap (journal_line c.args.self.now.sum.text) is) in
    left_by_sync g.S.Store.moment g.S.Store.written_at g.S.Store.left_at c.args.self.now batches commands rest batch c.append.new.self c.sync.new.self c.as_slice.result.now text_is
    (c.append.ensures.time word) (c.in_ok-append.ensures.written word) (c.sync.ensures.time (c.in_ok-append.ensures.word word))

pub returns-in_err-line-clause-time : goal.returns-in_err-line-clause-time
returns-in_err-line-clause-time g c word batches commands rest batch is = passes_not g.S.Store.moment g.S.Store.written_at g.S.Store.left_at c.args.self.now.store _ _

pub returns-in_err-push-clause-time : goal.returns-in_err-push-clause-time
returns-in_err-push-clause-time g c word batches commands rest batch is = passes_not g.S.Store.moment g.S.Store.written_at g.S.Store.left_at c.args.self.now.store _ _

pub returns-in_err-append-clause-time : goal.returns-in_err-append-clause-time
returns-in_err-append-clause-time g c word batches commands rest batch is =
    let text_is = c.as_slice.ensures.value ∙ c.in_ok-push.ensures.items ∙ ap (λ (l : List ℕ). l ++ 10 ∷ []) (c.in_ok-line.ensures.text ∙ ap (journal_line c.args.self.now.sum.text) is) in
    passes_once g.S.Store.moment g.S.Store.written_at g.S.Store.left_at c.args.self.now.store c.append.new.self _ _ _ _ (c.append.ensures.time word)
    (grows_by g.S.Store.moment g.S.Store.written_at g.S.Store.left_at c.args.self.now batches commands rest batch c.as_slice.result.now text_is)
    (left_by_append g.S.Store.moment g.S.Store.written_at g.S.Store.left_at c.args.self.now batches commands rest batch c.append.new.self c.as_slice.result.now text_is (c.append.ensures.time word))

pub returns-in_err-sync-clause-time : goal.returns-in_err-sync-clause-time
returns-in_err-sync-clause-time g c word batches commands rest batch is =
    let text_is = c.as_slice.ensures.value ∙ c.in_ok-push.ensures.items ∙ ap (λ (l : List ℕ). l ++ 10 ∷ []) (c.in_ok-line.ensures.text ∙ ap (journal_line c.args.self.now.sum.text) is) in
    passes_twice g.S.Store.moment g.S.Store.written_at g.S.Store.left_at c.args.self.now.store c.append.new.self c.sync.new.self _ _ _ _ _ _
    (c.append.ensures.time word) (c.sync.ensures.time (c.in_ok-append.ensures.word word))
    (grows_by g.S.Store.moment g.S.Store.written_at g.S.Store.left_at c.args.self.now batches commands rest batch c.as_slice.result.now text_is)
    (written_by_append g.S.Store.moment g.S.Store.written_at g.S.Store.left_at c.args.self.now batches commands rest batch c.append.new.self c.as_slice.result.now text_is (c.in_ok-append.ensures.written word))
    (left_by_sync g.S.Store.moment g.S.Store.written_at g.S.Store.left_at c.args.self.now batches commands rest batch c.append.new.self c.sync.new.self c.as_slice.result.now text_is
    (c.append.ensures.time word) (c.in_ok-append.ensures.written word) (c.sync.ensures.time (c.in_ok-append.ensures.word word)))

pub returns-clause-time : goal.returns-clause-time
returns-clause-time g c word batches commands rest batch is =
    let text_is = c.as_slice.ensures.value ∙ c.in_ok-push.ensures.items ∙ ap (λ (l : List ℕ). l ++ 10 ∷ []) (c.in_ok-line.ensures.text ∙ ap (journal_line c.args.self.now.sum.text) is) in
    passes_twice g.S.Store.moment g.S.Store.written_at g.S.Store.left_at c.args.self.now.store c.append.new.self c.sync.new.self _ _ _ _ _ _
    (c.append.ensures.time word) (c.sync.ensures.time (c.in_ok-append.ensures.word word))
    (grows_by g.S.Store.moment g.S.Store.written_at g.S.Store.left_at c.args.self.now batches commands rest batch c.as_slice.result.now text_is)
    (written_by_append g.S.Store.moment g.S.Store.written_at g.S.Store.left_at c.args.self.now batches commands rest batch c.append.new.self c.as_slice.result.now text_is (c.in_ok-append.ensures.written word))
    (left_by_sync g.S.Store.moment g.S.Store.written_at g.S.Store.left_at c.args.self.now batches commands rest batch c.append.new.self c.sync.new.self c.as_slice.result.now text_is
    (c.append.ensures.time word) (c.in_ok-append.ensures.written word) (c.sync.ensures.time (c.in_ok-append.ensures.word word)))

pub returns-clause-appended : goal.returns-clause-appended
returns-clause-appended g c word batches commands rest batch is =
    let text_is = c.as_slice.ensures.value ∙ c.in_ok-push.ensures.items ∙ ap (λ (l : List ℕ). l ++ 10 ∷ []) (c.in_ok-line.ensures.text ∙ ap (journal_line c.args.self.now.sum.text) is) in
    let word_after = c.in_ok-append.ensures.word word in
    at_rest_again g.S.Store.moment g.S.Store.written_at g.S.Store.left_at c.args.self.now batches commands rest batch c.append.new.self _ c.as_slice.result.now text_is
    (c.in_ok-append.ensures.written word) (c.sync.ensures.written word_after) (c.in_ok-sync.ensures.synced word_after) (c.in_ok-line.ensures.sum ∙ ap (sum_of c.args.self.now.sum.text) is)

pub returns-clause-word : goal.returns-clause-word
returns-clause-word g c word = c.in_ok-sync.ensures.word (c.in_ok-append.ensures.word word)
