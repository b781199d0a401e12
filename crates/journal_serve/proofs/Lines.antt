-- Lines, of which pieces come.
use Rattle.std.proofs.Common.{◌≡◌, ℕ, suc, ◌+◌, ◌-◌, ◌<◌, min, Bool, false, if◌then◌else◌, ◌==◌, List, [], ◌∷◌, ◌++◌, length, take, drop, refl, sym, ◌∙◌, ap, arith, append_assoc, take-append-drop, get_or-take, zero}
use Rattle.std.specs.List.{All, flat_map}
use Rattle.std.specs.Prelude.{slice_index}
use Rattle.std.proofs.lemmas.Bool.{ne_eqb}
use Rattle.std.proofs.lemmas.List.{append-nil, nil_from_length, take_min, get_or_default, drop_more, length-take, take_rest}
use Rattle.std.proofs.lemmas.List.Concat.{flat_map-append}
use Rattle.std.proofs.lemmas.List.Elements.{All-nil, All-head, All-tail, All-append, All-push}
use Rattle.journal_serve.specs.Pieces.{IsOneLine, EndsLine, with_feed, Splits, lines_of}

abbrev NoFeed : ℕ → Type 0
NoFeed b = b ≡ 10 → ⊥

-- a beginning of two texts, one behind the other
pub take-append : (n : ℕ) (xs ys : List ℕ) → take n (xs ++ ys) ≡ take n xs ++ take (n - length xs) ys
take-append zero [] ys = refl
take-append zero (x ∷ xs) ys = let none : 0 ≡ 0 - length (x ∷ xs) = omega arith in ap (λ (m : ℕ). take m ys) none
take-append (suc n) [] ys = let same : suc n ≡ suc n - 0 = omega arith in ap (λ (m : ℕ). take m ys) same
take-append (suc n) (x ∷ xs) ys =
    let less : n - length xs ≡ suc n - length (x ∷ xs) = omega arith in
    ap (λ (l : List ℕ). x ∷ l) (take-append n xs ys) ∙ ap (λ (m : ℕ). x ∷ (take n xs ++ take m ys)) less

-- more of a line: at most `most` bytes of it are kept
pub kept_more : (most room : ℕ) (raw part old new : List ℕ) → old ≡ take most raw → room ≡ min (most - length old) (length part) → new ≡ old ++ take room part → new ≡ take most (raw ++ part)
kept_more most room raw part old new is at grown =
    let less : most - length old ≡ most - length raw = omega (arith, ap length is, length-take most raw) in
    grown ∙ ap (λ (n : ℕ). old ++ take n part) at ∙ ap (λ (l : List ℕ). old ++ l) (take_min (most - length old) part)
    ∙ ap (λ (n : ℕ). old ++ take n part) less ∙ ap (λ (l : List ℕ). l ++ take (most - length raw) part) is ∙ sym (take-append most raw part)

-- where a line feed is the first in a piece, it ends a line
pub ends_line : (piece : List ℕ) (end : ℕ) → end < length piece → ((k : ℕ) → k < end → slice_index piece k ≡ 10 → ⊥) → slice_index piece end ≡ 10 → EndsLine piece (take end piece) (end + 1)
ends_line piece end within before at = record {
  one_line = λ k d inside is. before k (omega (arith, inside, length-take end piece)) (sym (get_or-take end piece k 0 (omega (arith, inside, length-take end piece))) ∙ get_or_default (take end piece) k 0 d inside ∙ is);
  is = sym (take-append-drop end piece) ∙ ap (λ (l : List ℕ). take end piece ++ l) (drop_more piece end 0 within ∙ ap (λ (x : ℕ). x ∷ drop (end + 1) piece) at);
  all = omega (arith, length-take end piece, within);
  within = omega (arith, within);
}

-- a line that nothing ends
pub splits_begin : (raw : List ℕ) → IsOneLine raw → Splits raw [] raw
splits_begin raw one_line = record { each = All-nil IsOneLine; is = refl; one_line = one_line }

flat_map-push : (lines : List (List ℕ)) (line : List ℕ) → flat_map with_feed (lines ++ line ∷ []) ≡ flat_map with_feed lines ++ with_feed line
flat_map-push [] line = append-nil (with_feed line)
flat_map-push (l ∷ lines) line = ap (λ (t : List ℕ). with_feed l ++ t) (flat_map-push lines line) ∙ sym (append_assoc (with_feed l) (flat_map with_feed lines) (with_feed line))

-- the end of the line that was open
pub splits_line : (text : List ℕ) (lines : List (List ℕ)) (open_line part : List ℕ) → Splits text lines open_line → IsOneLine part → Splits (text ++ part ++ 10 ∷ []) (lines ++ (open_line ++ part) ∷ []) []
splits_line text lines open_line part splits one_line = record {
  each = All-push IsOneLine lines (open_line ++ part) splits.each (All-append NoFeed open_line part splits.one_line one_line);
  is = ap (λ (t : List ℕ). t ++ part ++ 10 ∷ []) splits.is ∙ regroup (flat_map with_feed lines) open_line part (10 ∷ []) ∙ sym (flat_map-push lines (open_line ++ part))
      ∙ sym (append-nil (flat_map with_feed (lines ++ (open_line ++ part) ∷ [])));
  one_line = All-nil NoFeed;
}
  where
    regroup : (a b c d : List ℕ) → a ++ b ++ c ++ d ≡ a ++ (b ++ c ++ d)
    regroup a b c d = simp append_assoc

-- more of it
pub splits_open : (text : List ℕ) (lines : List (List ℕ)) (open_line part : List ℕ) → Splits text lines open_line → IsOneLine part → Splits (text ++ part) lines (open_line ++ part)
splits_open text lines open_line part splits one_line = record {
  each = splits.each;
  is = ap (λ (t : List ℕ). t ++ part) splits.is ∙ append_assoc (flat_map with_feed lines) open_line part;
  one_line = All-append NoFeed open_line part splits.one_line one_line;
}

-- one byte more before the first line
abbrev onto : ℕ → List (List ℕ) → List (List ℕ)
onto b [] = (b ∷ []) ∷ []
onto b (line ∷ lines) = (b ∷ line) ∷ lines

onto_is : (feed : Bool) (b : ℕ) (lines : List (List ℕ)) → feed ≡ false → (if feed then [] ∷ lines else onto b lines) ≡ onto b lines
onto_is feed b lines is = rw is refl

-- the first line of a text
lines_first : (line more : List ℕ) → IsOneLine line → lines_of (line ++ 10 ∷ more) ≡ line ∷ lines_of more
lines_first [] more one_line = refl
lines_first (b ∷ line) more one_line =
    onto_is (b == 10) b (lines_of (line ++ 10 ∷ more)) (ne_eqb b 10 (All-head NoFeed b line one_line)) ∙ ap (onto b) (lines_first line more (All-tail NoFeed b line one_line))

-- the lines of a text that begins with lines
pub lines_front : (lines : List (List ℕ)) (rest : List ℕ) → All IsOneLine lines → lines_of (flat_map with_feed lines ++ rest) ≡ lines ++ lines_of rest
lines_front [] rest each = refl
lines_front (line ∷ lines) rest each =
    ap lines_of (regroup line (10 ∷ []) (flat_map with_feed lines) rest) ∙ lines_first line (flat_map with_feed lines ++ rest) (All-head IsOneLine line lines each)
    ∙ ap (λ (ls : List (List ℕ)). line ∷ ls) (lines_front lines rest (All-tail IsOneLine line lines each))
  where
    regroup : (a b c d : List ℕ) → a ++ b ++ c ++ d ≡ a ++ (b ++ (c ++ d))
    regroup a b c d = simp append_assoc

-- the lines of a text of which a beginning was read
pub lines_read : (text left : List ℕ) (lines : List (List ℕ)) (open_line : List ℕ) → Splits text lines open_line → lines_of (text ++ left) ≡ lines ++ lines_of (open_line ++ left)
lines_read text left lines open_line splits =
    ap (λ (t : List ℕ). lines_of (t ++ left)) splits.is ∙ ap lines_of (append_assoc (flat_map with_feed lines) open_line left) ∙ lines_front lines (open_line ++ left) splits.each

-- an open line is a line, if there is any of it
pub lines_open : (line : List ℕ) → IsOneLine line → (line ≡ [] → ⊥) → lines_of line ≡ line ∷ []
lines_open [] one_line some = absurd (some refl)
lines_open (b ∷ []) one_line some = onto_is (b == 10) b [] (ne_eqb b 10 (All-head NoFeed b [] one_line))
lines_open (b ∷ c ∷ line) one_line some =
    onto_is (b == 10) b (lines_of (c ∷ line)) (ne_eqb b 10 (All-head NoFeed b (c ∷ line) one_line)) ∙ ap (onto b) (lines_open (c ∷ line) (All-tail NoFeed b (c ∷ line) one_line) (λ none. cc))

-- what was read further
pub splits_join : (text piece : List ℕ) (lines more : List (List ℕ)) (open_line next : List ℕ) → Splits text lines open_line → Splits (open_line ++ piece) more next → Splits (text ++ piece) (lines ++ more) next
splits_join text piece lines more open_line next one two = record {
  each = All-append IsOneLine lines more one.each two.each;
  is = ap (λ (t : List ℕ). t ++ piece) one.is ∙ append_assoc (flat_map with_feed lines) open_line piece ∙ ap (λ (t : List ℕ). flat_map with_feed lines ++ t) two.is
      ∙ sym (append_assoc (flat_map with_feed lines) (flat_map with_feed more) next) ∙ ap (λ (t : List ℕ). t ++ next) (sym (flat_map-append with_feed lines more));
  one_line = two.one_line;
}

-- what is left of a piece behind the end of a line
pub text_goes : (raw piece text rest part : List ℕ) (used : ℕ) → raw ++ piece ≡ text ++ rest → EndsLine rest part used → raw ++ piece ≡ (text ++ part ++ 10 ∷ []) ++ take (length rest - used) (drop used rest)
text_goes raw piece text rest part used is ends =
    is ∙ ap (λ (l : List ℕ). text ++ l) ends.is ∙ regroup text part (10 ∷ []) (drop used rest) ∙ ap (λ (l : List ℕ). (text ++ part ++ 10 ∷ []) ++ l) (sym (take_rest rest used))
  where
    regroup : (a b c d : List ℕ) → a ++ (b ++ (c ++ d)) ≡ (a ++ b ++ c) ++ d
    regroup a b c d = simp append_assoc

-- what is kept of a line is nothing only where the line is
pub kept_none : (line : List ℕ) → length (take 67108865 line) ≡ 0 → line ≡ []
kept_none line none = nil_from_length line (omega (arith, none, length-take 67108865 line))
