use Rattle.std.proofs.Common.{◌≡◌, [], ◌∷◌, List, ℕ, length, map, refl, sym, ◌∙◌, ap}
use Rattle.std.proofs.lemmas.Bool.{eqb-true, eqb-false}
use Rattle.journal_serve.specs.Pieces.{IsOneLine}
use Rattle.journal_serve.specs.Turn.{bare_line, kept_line, lines_taken, taken_line}
use Rattle.journal_serve.proofs.Lines.{kept_none, lines_open}
use Rattle.journal_serve.proofs.Turns.{took_none, leads_one}
use Rattle.journal_serve.proofs.turn.Turn.take_last.Goals as goal

taken_none : (raw text : List ℕ) → text ≡ kept_line raw → length text ≡ 0 → lines_taken raw ≡ []
taken_none raw text is none = ap lines_taken (kept_none raw (ap length (sym is) ∙ none))

taken_open : (raw text : List ℕ) → IsOneLine raw → text ≡ kept_line raw → (length text ≡ 0 → ⊥) → lines_taken raw ≡ bare_line text ∷ []
taken_open raw text one_line is some =
    ap (map taken_line) (lines_open raw one_line (λ none. some (ap length (is ∙ ap kept_line none)))) ∙ ap (λ (l : List ℕ). bare_line l ∷ []) (sym is)

pub returns-then-is_empty : goal.returns-then-is_empty
returns-then-is_empty g c raw one_line is =
    let none = taken_none raw c.as_slice-text.result.now (c.as_slice-text.ensures.value ∙ is) (eqb-true (length c.as_slice-text.result.now) 0 (sym c.is_empty.ensures ∙ c.if-is_empty.true)) in
    ([], sym none, refl, took_none c.args.self.now)

pub returns : goal.returns
returns g c raw one_line is =
    let only = taken_open raw c.as_slice-text.result.now one_line (c.as_slice-text.ensures.value ∙ is) (eqb-false (length c.as_slice-text.result.now) 0 (sym c.is_empty.ensures ∙ c.if-is_empty.false)) in
    let one = c.in_ok-take_line.ensures in
    (one.0 ∷ [], ap (λ (l : List ℕ). l ∷ []) one.1 ∙ sym only, leads_one g.A.Applies.takes _ _ one.0 one.2, one.3)
