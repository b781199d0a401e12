use Rattle.std.proofs.Common.{◌≡◌, length, sym, ◌∙◌, ap, subst, arith}
use Rattle.std.proofs.lemmas.Slice.Eq.{bytes_eq-Decides}
use Rattle.journal_lines.specs.Lines.{journal_line, IsBody}
use Rattle.journal_lines.proofs.LineTexts.{length-journal_line, body_at}
use Rattle.journal_lines.proofs.lines.read_line.Goals as goal

pub returns-then-line-clause-none : goal.returns-then-line-clause-none
returns-then-line-clause-none c body batch is =
    let size : length c.args.after.now.text ≡ 64 = omega arith in
    let long = length-journal_line c.args.after.now.text body size in
    let same = ap length is in
    omega (arith, long, same)

pub returns-then-not-is_body-clause-none : goal.returns-then-not-is_body-clause-none
returns-then-not-is_body-clause-none c body batch is =
    let size : length c.args.after.now.text ≡ 64 = omega arith in
    let told = c.is_body.ensures.1 (subst IsBody (sym (body_at c.args.after.now.text body c.args.line.now size is)) batch) in
    cc

pub returns-then-ne-clause-none : goal.returns-then-ne-clause-none
returns-then-ne-clause-none c body batch is =
    let size : length c.args.after.now.text ≡ 64 = omega arith in
    let same : c.as_slice.result.now ≡ c.args.line.now =
    c.as_slice.ensures.value ∙ c.in_ok-made.ensures.text ∙ ap (journal_line c.args.after.now.text) (body_at c.args.after.now.text body c.args.line.now size is) ∙ sym is in
    let equal = (bytes_eq-Decides c.as_slice.result.now c.args.line.now).1 same in
    cc
