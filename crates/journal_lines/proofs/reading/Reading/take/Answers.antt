use Rattle.std.proofs.Common.{◌≡◌, ◌+◌, refl, ◌∙◌, ap, arith, rules}
use Rattle.journal_lines.specs.Lines.{journal_line, sum_of}
use Rattle.journal_lines.proofs.ReadLines.{reads_batch, reads_torn, reads_damaged}
use Rattle.journal_lines.proofs.reading.Reading.take.Goals as goal
use Rattle.journal_lines.proofs.reading.Reading.take.Goals.{then-not-self+in_ok-entries+in_default, else-not-self}

pub returns-in-Some-clause-batch : goal.returns-in-Some-clause-batch
returns-in-Some-clause-batch c =
    let found = rw c.in-Some.is at c.in_ok-entries.ensures.found in
    let sum = rw c.in-Some.is at c.in_ok-entries.ensures.sum in (
      found.0.0,
      found.0.1,
      found.0.2,
      λ text batches reads. reads_batch c.args.self.now _ text c.args.line.now batches found.0.0 reads (search rules) found.0.1
          (found.1 ∙ ap (journal_line c.args.self.now.sum.text) found.0.2) (sum ∙ ap (sum_of c.args.self.now.sum.text) found.0.2) (omega arith) refl (search rules),
    )

pub returns-then-branch-clause-damaged : goal.returns-then-branch-clause-damaged
returns-then-branch-clause-damaged c number is text more batches reads =
    let at : number ≡ c.args.self.now.batches + 2 = cc in
    reads_damaged c.args.self.now text c.args.line.now more batches number reads (c.in_ok-is_right.ensures.0 c.if-branch.true) c.requires.one_line
    (elim c.if-not-self.branch [
      | then-not-self+in_ok-entries+in_default w ↦ λ still. rw w.in_default.is at w.in_ok-entries.ensures.none
      | else-not-self w ↦ λ still body batch same. cc
    ])
    at

pub returns-clause-none : goal.returns-clause-none
returns-clause-none c text batches reads =
    reads_torn c.args.self.now _ text c.args.line.now batches reads (λ right. let told = c.in_ok-is_right.ensures.1 right in cc) c.requires.one_line refl refl refl refl
