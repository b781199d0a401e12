use Rattle.std.proofs.Common.{◌++◌, [], ◌∷◌, List, ℕ, sym, ◌∙◌, ap}
use Rattle.journal_serve.specs.Session.{commands_of}
use Rattle.std.proofs.lemmas.List.{append-nil}
use Rattle.std.proofs.lemmas.Result.{err_from_is_err_and}
use Rattle.journal_serve.proofs.Turns.{replays_none}
use Rattle.journal_serve.proofs.Replays.{commands_push, unfit_line, unchanged_behind}
use Rattle.journal_serve.proofs.replay.replay_line.Goals as goal

pub returns-in_ok-apply_batch-in-Ok-Some-clause-reads : goal.returns-in_ok-apply_batch-in-Ok-Some-clause-reads
returns-in_ok-apply_batch-in-Ok-Some-clause-reads g c =
    let found = rw c.in-Ok-Some.field-0-is at c.in-Ok-Some.ensures.batch in
    let applied = c.in_ok-apply_batch-in-Ok-Some.ensures.applied in (
      applied.0,
      applied.1,
      λ text batches reads. (
        batches ++ found.0 ∷ [],
        found.3 text batches reads,
        commands_push batches found.0 ∙ ap (λ (l : List (List ℕ)). commands_of batches ++ l) (sym (applied.2 found.0 found.1 found.2)),
      ),
    )

pub returns-in-Ok-None-clause-reads : goal.returns-in-Ok-None-clause-reads
returns-in-Ok-None-clause-reads g c =
    let none = rw c.in-Ok-None.field-0-is at c.in-Ok-None.ensures.none in
    ([], replays_none g.A.Applies.takes _, λ text batches reads. (batches, none text batches reads, sym (append-nil (commands_of batches))))

pub returns-in-Err-Damaged-clause-damaged : goal.returns-in-Err-Damaged-clause-damaged
returns-in-Err-Damaged-clause-damaged g c number is text more batches reads =
    let field = c.in-Err-Damaged.field-0-is in
    let told = c.in-Err-Damaged.number-is in
    c.in-Err-Damaged.ensures.damaged number (cc) text more batches reads

pub returns-in_err-apply_batch-in-Ok-Some-clause-unfit : goal.returns-in_err-apply_batch-in-Ok-Some-clause-unfit
returns-in_err-apply_batch-in-Ok-Some-clause-unfit g c number told text more batches reads first so_far =
    let found = rw c.in-Ok-Some.field-0-is at c.in-Ok-Some.ensures.batch in
    let p = err_from_is_err_and c.from_residual.result c.from_residual.ensures.1 in
    let why = p.1 in
    let same = p.2 in
    let unfit = c.in_err-apply_batch-in-Ok-Some.ensures.unfit found.0 found.1 found.2 number (cc) in
    unfit_line g.A.Applies.takes first c.args.reading.now c.take.new.self text c.args.line.now more batches found.0 number reads (found.3 text batches reads) found.1 unfit.0
    (unchanged_behind g.A.Applies.takes first _ (commands_of batches) found.0 so_far unfit.1)
