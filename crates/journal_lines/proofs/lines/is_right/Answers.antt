use Rattle.std.proofs.Common.{◌≡◌, List, ℕ, Bool, Option, Some, None, is_some, IfSome, IfNone, IsTrue, length, sym, ◌∙◌, ap, arith}
use Rattle.journal_lines.specs.Lines.{journal_line, IsRight}
use Rattle.journal_lines.proofs.LineTexts.{length-journal_line, after_at}
use Rattle.journal_lines.proofs.lines.is_right.Goals as goal

pub returns-then-line : goal.returns-then-line
returns-then-line c = (λ t. absurd (cc), λ right. absurd (let same = ap length right.is in let long = length-journal_line right.after right.body right.size in omega (arith, same, long)))

-- what is found decides
told : {X : Type 0} (o : Option X) (P : X → Type 0) (Q R : Type 0) (b : Bool) → b ≡ is_some o → IfSome o P → IfNone o Q → ((x : X) → P x → R) → (Q → R → ⊥) → (IsTrue b → R) × (R → IsTrue b)
told None P Q R b is some none right wrong = (λ t. absurd (cc), λ r. absurd (wrong none r))
told (Some x) P Q R b is some none right wrong = (λ t. right x some, λ r. is)

pub returns : goal.returns
returns c =
    let size : length c.copy_from_slice.new.self ≡ 64 = omega arith in
    told c.in_ok-read_line.field-0 _ _ (IsRight c.args.line.now) c.is_some.result c.is_some.ensures c.in_ok-read_line.ensures.found c.in_ok-read_line.ensures.none
    (λ entries found. record { after = c.copy_from_slice.new.self; body = entries.body.now; size = size; batch = found.0; is = found.1 })
    (λ none right. none right.body right.batch (right.is ∙ ap (λ (l : List ℕ). journal_line l right.body) (sym (c.copy_from_slice.ensures.after ∙ after_at right.after right.body c.args.line.now right.size right.is))))
