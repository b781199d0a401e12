-- One line more of a journal that is read.
use Rattle.std.proofs.Common.{◌≡◌, ◌⊎◌, inl, inr, ⊎_elim, ℕ, ◌+◌, Bool, true, false, List, [], ◌∷◌, ◌++◌, length, map, refl, sym, ◌∙◌, ap, subst, arith, length-append, append_assoc}
use Rattle.std.specs.List.{All, Any}
use Rattle.std.proofs.lemmas.List.{append-nil, map-append, length_push, get_or_at}
use Rattle.std.proofs.lemmas.List.Elements.{All-nil, All-head, All-push}
use Rattle.journal_lines.specs.declared.reading.Reading.{Reading}
use Rattle.journal_lines.specs.Objects.{listed, IsBatch}
use Rattle.journal_lines.specs.Lines.{head, sum_of, journal_line, no_sum, IsBody, IsRight, whole_lines}
use Rattle.journal_lines.specs.Journal.{chain, last_sum, HasBatches, IsDamaged}
use Rattle.journal_lines.specs.Reading.{Reads}
use Rattle.journal_lines.proofs.LineTexts.{HasNoFeed}
use Rattle.journal_lines.proofs.WholeLines.{whole_lines_line, whole_lines_open, whole_lines_ended, ended_has_line, lines_once}
use Rattle.journal_lines.proofs.Chains.{IsSum, no_sum_is_sum, last_is_sum, chain-push, last_sum-push, chained_is_right, chained_has_no_feed}

abbrev IsWrong : List ℕ → Type 0
IsWrong line = IsRight line → ⊥

-- the lines of one batch more
map_push : (batches : List (List (List ℕ))) (commands : List (List ℕ)) → map listed (batches ++ commands ∷ []) ≡ map listed batches ++ listed commands ∷ []
map_push batches commands = map-append listed batches (commands ∷ [])

-- a line that goes on
pub reads_batch : (old new : Reading) (text line : List ℕ) (batches : List (List (List ℕ))) (commands : List (List ℕ)) → Reads old text batches → old.torn ≡ false → IsBatch commands
    → line ≡ journal_line old.sum.text (listed commands) → new.sum.text ≡ sum_of old.sum.text (listed commands) → new.end ≡ old.end + length line + 1 → new.batches ≡ old.batches + 1 → new.torn ≡ false
    → Reads new (text ++ line ++ 10 ∷ []) (batches ++ commands ∷ [])
reads_batch old new text line batches commands reads whole batch is sum end count still =
    let bodies = map listed batches in
    let longer : chain no_sum (map listed (batches ++ commands ∷ [])) ≡ chain no_sum bodies ++ line ++ 10 ∷ [] =
    ap (chain no_sum) (map_push batches commands) ∙ chain-push no_sum bodies (listed commands)
    ∙ ap (λ (l : List ℕ). chain no_sum bodies ++ l ++ 10 ∷ []) (ap (λ (a : List ℕ). journal_line a (listed commands)) (sym reads.sum) ∙ sym is) in
    let text_is : text ≡ chain no_sum bodies = reads.is ∙ ap (λ (l : List ℕ). chain no_sum bodies ++ l) (reads.whole whole) ∙ append-nil (chain no_sum bodies) in
    record {
      bad = [];
      each = All-push IsBatch batches commands reads.each batch;
      is = ap (λ (l : List ℕ). l ++ line ++ 10 ∷ []) text_is ∙ sym longer ∙ sym (append-nil (chain no_sum (map listed (batches ++ commands ∷ []))));
      ended = inl refl;
      torn = All-nil IsWrong;
      whole = λ same. refl;
      parted = λ parted none. cc;
      sum = sum ∙ ap (λ (a : List ℕ). sum_of a (listed commands)) reads.sum ∙ sym (last_sum-push no_sum bodies (listed commands)) ∙ ap (last_sum no_sum) (sym (map_push batches commands));
      end = omega (arith, end, reads.end, ap length longer, length-append (chain no_sum bodies) line, length-append (chain no_sum bodies ++ line) (10 ∷ []));
      count = omega (arith, count, reads.count, length_push batches commands);
    }

-- the lines of a text that a line feed ends, and one more
pub lines_push : (bad line : List ℕ) → (bad ≡ []) ⊎ ((front : List ℕ) × (bad ≡ front ++ 10 ∷ [])) → HasNoFeed line → whole_lines (bad ++ line ++ 10 ∷ []) ≡ whole_lines bad ++ line ∷ []
lines_push bad line (inl none) one_line =
    ap (λ (l : List ℕ). whole_lines (l ++ line ++ 10 ∷ [])) none ∙ whole_lines_line line [] one_line ∙ ap (λ (l : List ℕ). whole_lines l ++ line ∷ []) (sym none)
lines_push bad line (inr (front, is)) one_line =
    ap (λ (l : List ℕ). whole_lines (l ++ line ++ 10 ∷ [])) is ∙ ap whole_lines (regroup front line (10 ∷ [])) ∙ whole_lines_ended front (line ++ 10 ∷ [])
    ∙ ap (λ (ls : List (List ℕ)). whole_lines (front ++ 10 ∷ []) ++ ls) (whole_lines_line line [] one_line) ∙ ap (λ (l : List ℕ). whole_lines l ++ line ∷ []) (sym is)
  where
    regroup : (a b c : List ℕ) → a ++ 10 ∷ [] ++ b ++ c ≡ a ++ 10 ∷ (b ++ c)
    regroup a b c = simp append_assoc

-- a line that does not go on, and is not right by itself
pub reads_torn : (old new : Reading) (text line : List ℕ) (batches : List (List (List ℕ))) → Reads old text batches → IsWrong line → HasNoFeed line
    → new.sum.text ≡ old.sum.text → new.end ≡ old.end → new.batches ≡ old.batches → new.torn ≡ true → Reads new (text ++ line ++ 10 ∷ []) batches
reads_torn old new text line batches reads wrong one_line sum end count torn =
    let bodies = map listed batches in
    record {
      bad = reads.bad ++ line ++ 10 ∷ [];
      each = reads.each;
      is = ap (λ (l : List ℕ). l ++ line ++ 10 ∷ []) reads.is ∙ regroup (chain no_sum bodies) reads.bad line (10 ∷ []);
      ended = inr (reads.bad ++ line, refl);
      torn = subst (All IsWrong) (sym (lines_push reads.bad line reads.ended one_line)) (All-push IsWrong (whole_lines reads.bad) line reads.torn wrong);
      whole = λ whole. absurd (cc);
      parted = λ parted none. absurd (omega (arith, ap length none, length-append (reads.bad ++ line) (10 ∷ [])));
      sum = sum ∙ reads.sum;
      end = end ∙ reads.end;
      count = count ∙ reads.count;
    }
  where
    regroup : (a b c d : List ℕ) → a ++ b ++ c ++ d ≡ a ++ (b ++ c ++ d)
    regroup a b c d = simp append_assoc

-- the lines of a text that a line feed ends, one more, and what stands behind it
lines_more : (bad line more : List ℕ) → (bad ≡ []) ⊎ ((front : List ℕ) × (bad ≡ front ++ 10 ∷ [])) → HasNoFeed line → whole_lines (bad ++ (line ++ 10 ∷ more)) ≡ whole_lines bad ++ line ∷ whole_lines more
lines_more bad line more (inl none) one_line =
    ap (λ (l : List ℕ). whole_lines (l ++ (line ++ 10 ∷ more))) none ∙ whole_lines_line line more one_line ∙ ap (λ (l : List ℕ). whole_lines l ++ line ∷ whole_lines more) (sym none)
lines_more bad line more (inr (front, is)) one_line =
    ap (λ (l : List ℕ). whole_lines (l ++ (line ++ 10 ∷ more))) is ∙ ap whole_lines (append_assoc front (10 ∷ []) (line ++ 10 ∷ more)) ∙ whole_lines_ended front (line ++ 10 ∷ more)
    ∙ ap (λ (ls : List (List ℕ)). whole_lines (front ++ 10 ∷ []) ++ ls) (whole_lines_line line more one_line) ∙ ap (λ (l : List ℕ). whole_lines l ++ line ∷ whole_lines more) (sym is)

some_right : (lines others : List (List ℕ)) (line : List ℕ) → IsRight line → Any IsRight (lines ++ line ∷ others)
some_right lines others line right =
    (length lines, line, omega (arith, length-append lines (line ∷ others)), get_or_at lines line others line (length lines) refl, right)

-- A line that is right by itself, and does not go on or stands behind one that does not, is damage.
pub reads_damaged : (old : Reading) (text line more : List ℕ) (batches : List (List (List ℕ))) (number : ℕ) → Reads old text batches → IsRight line → HasNoFeed line
    → (old.torn ≡ false → (body : List ℕ) → IsBody body → line ≡ journal_line old.sum.text body → ⊥) → number ≡ old.batches + 2
    → IsDamaged (head ++ (text ++ line ++ 10 ∷ more)) number
reads_damaged old text line more batches number reads right one_line parted at =
    let bodies = map listed batches in
    let lines = lines_more reads.bad line more reads.ended one_line in
    record {
      batches = batches;
      rest = reads.bad ++ (line ++ 10 ∷ more);
      each = reads.each;
      is = ap (λ (l : List ℕ). head ++ (l ++ line ++ 10 ∷ more)) reads.is ∙ regroup head (chain no_sum bodies) reads.bad line (10 ∷ more);
      at = omega (arith, at, reads.count);
      parted = λ body others batch is. by_torn old.torn refl body others batch is;
      behind = subst (Any IsRight) (sym lines) (some_right (whole_lines reads.bad) (whole_lines more) line right);
    }
  where
    regroup : (h a b c d : List ℕ) → h ++ (a ++ b ++ c ++ d) ≡ h ++ a ++ (b ++ (c ++ d))
    regroup h a b c d = simp append_assoc

    first : (x y : List ℕ) (xs ys : List (List ℕ)) → x ∷ xs ≡ y ∷ ys → x ≡ y
    first x y xs ys is = cc

    sum : IsSum (last_sum no_sum (map listed batches))
    sum = last_is_sum no_sum (map listed batches) no_sum_is_sum

    by_torn : (torn : Bool) → torn ≡ old.torn → (body others : List ℕ) → IsBody body → reads.bad ++ (line ++ 10 ∷ more) ≡ journal_line (last_sum no_sum (map listed batches)) body ++ 10 ∷ others → ⊥
    by_torn false still body others batch is =
        let lines = lines_once line (journal_line (last_sum no_sum (map listed batches)) body) more others one_line (chained_has_no_feed (last_sum no_sum (map listed batches)) body sum batch)
        (ap (λ (l : List ℕ). l ++ (line ++ 10 ∷ more)) (sym (reads.whole (sym still))) ∙ is) in
        parted (sym still) body batch (lines.0 ∙ ap (λ (a : List ℕ). journal_line a body) (sym reads.sum))
    by_torn true still body others batch is = ⊎_elim
        (λ none. reads.parted (sym still) none)
        (λ ended.
        let some = ended_has_line ended.0 in
        let bad_lines : whole_lines reads.bad ≡ some.0 ∷ some.1 = ap whole_lines ended.1 ∙ some.2 in
        let next = journal_line (last_sum no_sum (map listed batches)) body in
        let same : some.0 ∷ (some.1 ++ line ∷ whole_lines more) ≡ next ∷ whole_lines others =
        ap (λ (ls : List (List ℕ)). ls ++ line ∷ whole_lines more) (sym bad_lines) ∙ sym (lines_more reads.bad line more reads.ended one_line) ∙ ap whole_lines is
        ∙ whole_lines_line next others (chained_has_no_feed (last_sum no_sum (map listed batches)) body sum batch) in
        All-head IsWrong some.0 some.1 (subst (All IsWrong) bad_lines reads.torn)
        (subst IsRight (sym (first some.0 next (some.1 ++ line ∷ whole_lines more) (whole_lines others) same)) (chained_is_right (last_sum no_sum (map listed batches)) body sum batch)))
        reads.ended

-- The lines that were read, followed by an end without a line feed, recover to their batches.
pub reads_recover : (reading : Reading) (text end : List ℕ) (batches : List (List (List ℕ))) → Reads reading text batches → HasNoFeed end → HasBatches (head ++ (text ++ end)) batches
reads_recover reading text end batches reads one_line = record {
  end = reads.bad ++ end;
  each = reads.each;
  is = ap (λ (l : List ℕ). head ++ (l ++ end)) reads.is ∙ regroup head (chain no_sum (map listed batches)) reads.bad end;
  torn = subst (All IsWrong) (sym (lines_open reads.bad end reads.ended one_line)) reads.torn;
}
  where
    regroup : (a b c d : List ℕ) → a ++ (b ++ c ++ d) ≡ a ++ b ++ (c ++ d)
    regroup a b c d = simp append_assoc

    lines_open : (bad end : List ℕ) → (bad ≡ []) ⊎ ((front : List ℕ) × (bad ≡ front ++ 10 ∷ [])) → HasNoFeed end → whole_lines (bad ++ end) ≡ whole_lines bad
    lines_open bad end (inl none) one_line = ap (λ (l : List ℕ). whole_lines (l ++ end)) none ∙ whole_lines_open end one_line ∙ ap whole_lines (sym none)
    lines_open bad end (inr (front, is)) one_line =
        ap (λ (l : List ℕ). whole_lines (l ++ end)) is ∙ ap whole_lines (append_assoc front (10 ∷ []) end) ∙ whole_lines_ended front end
        ∙ ap (λ (ls : List (List ℕ)). whole_lines (front ++ 10 ∷ []) ++ ls) (whole_lines_open end one_line) ∙ append-nil (whole_lines (front ++ 10 ∷ [])) ∙ ap whole_lines (sym is)
