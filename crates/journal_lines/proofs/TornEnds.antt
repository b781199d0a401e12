-- A crash in an append or in a cut, and what it leaves.
use Rattle.std.proofs.Common.{◌≡◌, ◌⊎◌, inl, inr, ⊎_elim, ℕ, suc, ◌+◌, ◌-◌, ◌≤◌, Bool, true, false, if◌then◌else◌, ◌==◌, List, [], ◌∷◌, ◌++◌, length, get_or, take, drop, map, Some, refl, sym, ◌∙◌, ap, subst, arith, length-append, append_assoc, take-append-drop}
use Rattle.std.specs.Prelude.{slice_get, codes}
use Rattle.std.specs.List.{All}
use Rattle.std.proofs.lemmas.Bool.{cases_Bool, eqb-true, both_ways}
use Rattle.std.proofs.lemmas.List.{append-nil, map-append, nil_from_length, get_or_append_left}
use Rattle.std.proofs.lemmas.List.Elements.{All-nil, All-push}
use Rattle.std.proofs.lemmas.Option.{slice_get-get_or, slice_get_within, same_Some}
use Rattle.std.proofs.lemmas.Slice.Eq.{bytes_eq-Decides}
use Rattle.std.specs.Str.{bytes_eq}
use Rattle.journal_lines.specs.Objects.{listed, IsBatch}
use Rattle.journal_lines.specs.Lines.{head, journal_line, no_sum, sum_of, IsRight, whole_lines}
use Rattle.journal_lines.specs.Journal.{chain, last_sum, journal_of, HasNoRight, HasBatches, HasNoForged}
use Rattle.journal_lines.proofs.LineTexts.{HasNoFeed}
use Rattle.journal_lines.proofs.WholeLines.{whole_lines_line, whole_lines_front, whole_lines_ended, onto}
use Rattle.journal_lines.proofs.Chains.{no_sum_is_sum, last_is_sum, chain-push, chained_has_no_feed}

abbrev IsWrong : List ℕ → Type 0
IsWrong line = IsRight line → ⊥

-- a front of a text in which no whole line is right has none either
pub front_has_no_right : (front rest : List ℕ) → HasNoRight (front ++ rest) → HasNoRight front
front_has_no_right front rest none =
    let more = whole_lines_front front rest in
    fronts (whole_lines front) more.0 (subst (All IsWrong) more.1 none)
  where
    fronts : (lines others : List (List ℕ)) → All IsWrong (lines ++ others) → All IsWrong lines
    fronts lines others each = λ k d within. subst IsWrong (get_or_append_left lines others d k within) (each k d (omega (arith, within, length-append lines others)))

-- a cut of a torn end, of whatever length between
pub cut_recovers : (content : List ℕ) (batches : List (List (List ℕ))) (most : ℕ) → HasBatches content batches → length (journal_of batches) ≤ most → HasBatches (take most content) batches
cut_recovers content batches most one long =
    let journal = journal_of batches in
    let left = most - length journal in
    let whole : take most content ≡ journal ++ take left one.end =
    ap (λ (l : List ℕ). take most l) one.is ∙ ap (λ n. take n (journal ++ one.end)) (omega (arith, long)) ∙ take_behind journal one.end left in
    record {
      end = take left one.end;
      each = one.each;
      is = whole;
      torn = front_has_no_right (take left one.end) (drop left one.end) (subst HasNoRight (sym (take-append-drop left one.end)) one.torn);
    }
  where
    take_behind : (a b : List ℕ) (n : ℕ) → take (length a + n) (a ++ b) ≡ a ++ take n b
    take_behind [] b n = ap (λ m. take m b) (omega arith)
    take_behind (x ∷ a) b n = ap (λ m. take m (x ∷ (a ++ b))) more ∙ ap (λ (l : List ℕ). x ∷ l) (take_behind a b n)
      where
        more : length (x ∷ a) + n ≡ suc (length a + n)
        more = omega arith

-- A journal ends with a line.
ends_with_line : (batches : List (List (List ℕ))) → (front : List ℕ) × (journal_of batches ≡ front ++ 10 ∷ [])
unfolding head
ends_with_line batches = ended no_sum (map listed batches) head (codes "{\"journal\":\"smpland\",\"format\":2}") refl
  where
    regroup : (a b c d : List ℕ) → a ++ (b ++ (c ++ d)) ≡ a ++ b ++ c ++ d
    regroup a b c d = simp append_assoc

    ended : (after : List ℕ) (bodies : List (List ℕ)) (text front : List ℕ) → text ≡ front ++ 10 ∷ [] → (front : List ℕ) × (text ++ chain after bodies ≡ front ++ 10 ∷ [])
    ended after [] text front is = (front, append-nil text ∙ is)
    ended after (body ∷ bodies) text front is =
        let rest = ended (sum_of after body) bodies (text ++ journal_line after body ++ 10 ∷ []) (text ++ journal_line after body) refl in
        (rest.0, regroup text (journal_line after body) (10 ∷ []) (chain (sum_of after body) bodies) ∙ rest.1)

-- the journal of one batch more
pub journal_push : (batches : List (List (List ℕ))) (commands : List (List ℕ)) → journal_of (batches ++ commands ∷ []) ≡ journal_of batches ++ (journal_line (last_sum no_sum (map listed batches)) (listed commands) ++ 10 ∷ [])
journal_push batches commands =
    ap (λ (bodies : List (List ℕ)). head ++ chain no_sum bodies) (map-append listed batches (commands ∷ []))
    ∙ ap (λ (l : List ℕ). head ++ l) (chain-push no_sum (map listed batches) (listed commands))
    ∙ regroup head (chain no_sum (map listed batches)) (journal_line (last_sum no_sum (map listed batches)) (listed commands)) (10 ∷ [])
  where
    regroup : (a b c d : List ℕ) → a ++ (b ++ c ++ d) ≡ a ++ b ++ (c ++ d)
    regroup a b c d = simp append_assoc

-- Suppose that lines are right only if the text has them, and the text has this one there and none behind it. Then lines with another first line are all wrong.
all_wrong : (before : List (List ℕ)) (line first : List ℕ) (others : List (List ℕ)) → (first ≡ line → ⊥)
    → ((k : ℕ) (l : List ℕ) → slice_get (before ++ first ∷ others) k ≡ Some l → IsRight l → slice_get (before ++ line ∷ []) k ≡ Some l) → All IsWrong (first ∷ others)
all_wrong before line first others other honest k d within right =
    let l = get_or (first ∷ others) k d in
    let at : slice_get (before ++ first ∷ others) (length before + k) ≡ Some l = slice_get_behind before (first ∷ others) k ∙ slice_get-get_or (first ∷ others) k d within in
    let told = honest (length before + k) l at right in
    let still : slice_get (line ∷ []) k ≡ Some l = sym (slice_get_behind before (line ∷ []) k) ∙ told in
    let here : k ≡ 0 = omega (arith, slice_get_within (line ∷ []) k l still) in
    other (sym (same_Some line first (sym (ap (slice_get (line ∷ [])) here) ∙ still ∙ ap (λ n. Some (get_or (first ∷ others) n d)) here)))
  where
    slice_get_behind : (xs ys : List (List ℕ)) (k : ℕ) → slice_get (xs ++ ys) (length xs + k) ≡ slice_get ys k
    slice_get_behind [] ys k = ap (slice_get ys) (omega arith)
    slice_get_behind (x ∷ xs) ys k = ap (slice_get (x ∷ (xs ++ ys))) more ∙ slice_get_behind xs ys k
      where
        more : length (x ∷ xs) + k ≡ suc (length xs + k)
        more = omega arith

-- the first whole line of a text, with what stands behind it
first_whole : (text line : List ℕ) (others : List (List ℕ)) → whole_lines text ≡ line ∷ others → (rest : List ℕ) × (text ≡ line ++ 10 ∷ rest)
first_whole [] line others is = absurd (cc)
first_whole (b ∷ text) line others is = byte (b == 10) refl (whole_lines text) (λ l ls h. first_whole text l ls h) is
  where
    first : (x y : List ℕ) (xs ys : List (List ℕ)) → x ∷ xs ≡ y ∷ ys → x ≡ y
    first x y xs ys is = cc

    byte : (feed : Bool) → (b == 10) ≡ feed → (all : List (List ℕ)) → ((l : List ℕ) (ls : List (List ℕ)) → all ≡ l ∷ ls → (rest : List ℕ) × (text ≡ l ++ 10 ∷ rest))
        → (if feed then [] ∷ all else onto b all) ≡ line ∷ others → (rest : List ℕ) × (b ∷ text ≡ line ++ 10 ∷ rest)
    byte true feed all again is = (text, ap (λ (x : ℕ). x ∷ text) (eqb-true b 10 feed) ∙ ap (λ (l : List ℕ). l ++ 10 ∷ text) (first [] line all others is))
    byte false feed [] again is = absurd (cc)
    byte false feed (l ∷ ls) again is =
        let found = again l ls refl in
        (found.0, ap (λ (t : List ℕ). b ∷ t) found.1 ∙ ap (λ (m : List ℕ). m ++ 10 ∷ found.0) (first (b ∷ l) line ls others is))

-- what a crash leaves of an append
pub append_recovers : (batches : List (List (List ℕ))) (commands : List (List ℕ)) (torn : List ℕ) → All IsBatch batches → IsBatch commands
    → length (journal_of batches ++ torn) ≤ length (journal_of (batches ++ commands ∷ []))
    → HasNoForged (journal_of (batches ++ commands ∷ [])) (journal_of batches ++ torn)
    → HasBatches (journal_of batches ++ torn) batches ⊎ HasBatches (journal_of batches ++ torn) (batches ++ commands ∷ [])
append_recovers batches commands torn each batch long honest = by_lines (whole_lines torn) refl
  where
    one_line : HasNoFeed (journal_line (last_sum no_sum (map listed batches)) (listed commands))
    one_line = chained_has_no_feed (last_sum no_sum (map listed batches)) (listed commands) (last_is_sum no_sum (map listed batches) no_sum_is_sum) (commands, batch, refl)

    short : length torn ≤ length (journal_line (last_sum no_sum (map listed batches)) (listed commands)) + 1
    short = omega (
      arith,
      long,
      length-append (journal_of batches) torn,
      ap length (journal_push batches commands),
      length-append (journal_of batches) (journal_line (last_sum no_sum (map listed batches)) (listed commands) ++ 10 ∷ []),
      length-append (journal_line (last_sum no_sum (map listed batches)) (listed commands)) (10 ∷ []),
    )

    lines_behind : (rest : List ℕ) → whole_lines (journal_of batches ++ rest) ≡ whole_lines (journal_of batches) ++ whole_lines rest
    lines_behind rest =
        let ended = ends_with_line batches in
        ap (λ (l : List ℕ). whole_lines (l ++ rest)) ended.1 ∙ ap whole_lines (append_assoc ended.0 (10 ∷ []) rest) ∙ whole_lines_ended ended.0 rest
        ∙ ap (λ (l : List ℕ). whole_lines l ++ whole_lines rest) (sym ended.1)

    lines_new : whole_lines (journal_of (batches ++ commands ∷ [])) ≡ whole_lines (journal_of batches) ++ journal_line (last_sum no_sum (map listed batches)) (listed commands) ∷ []
    lines_new = ap whole_lines (journal_push batches commands) ∙ lines_behind_of (ends_with_line batches)
      where
        lines_behind_of : (front : List ℕ) × (journal_of batches ≡ front ++ 10 ∷ []) → whole_lines (journal_of batches ++ (journal_line (last_sum no_sum (map listed batches)) (listed commands) ++ 10 ∷ []))
            ≡ whole_lines (journal_of batches) ++ journal_line (last_sum no_sum (map listed batches)) (listed commands) ∷ []
        lines_behind_of ended =
            let l = journal_line (last_sum no_sum (map listed batches)) (listed commands) in
            ap (λ (t : List ℕ). whole_lines (t ++ (l ++ 10 ∷ []))) ended.1 ∙ ap whole_lines (append_assoc ended.0 (10 ∷ []) (l ++ 10 ∷ [])) ∙ whole_lines_ended ended.0 (l ++ 10 ∷ [])
            ∙ ap (λ (ls : List (List ℕ)). whole_lines (ended.0 ++ 10 ∷ []) ++ ls) (whole_lines_line l [] (chained_has_no_feed (last_sum no_sum (map listed batches)) (listed commands) (last_is_sum no_sum (map listed batches) no_sum_is_sum) (commands, batch, refl)))
            ∙ ap (λ (t : List ℕ). whole_lines t ++ l ∷ []) (sym ended.1)

    without : HasNoRight torn → HasBatches (journal_of batches ++ torn) batches
    without none = record { end = torn; each = each; is = refl; torn = none }

    with_one : torn ≡ journal_line (last_sum no_sum (map listed batches)) (listed commands) ++ 10 ∷ [] → HasBatches (journal_of batches ++ torn) (batches ++ commands ∷ [])
    with_one is = record {
      end = [];
      each = All-push IsBatch batches commands each batch;
      is = ap (λ (l : List ℕ). journal_of batches ++ l) is ∙ sym (journal_push batches commands) ∙ sym (append-nil (journal_of (batches ++ commands ∷ [])));
      torn = All-nil IsWrong;
    }

    by_lines : (lines : List (List ℕ)) → whole_lines torn ≡ lines → HasBatches (journal_of batches ++ torn) batches ⊎ HasBatches (journal_of batches ++ torn) (batches ++ commands ∷ [])
    by_lines [] is = inl (without (subst (All IsWrong) (sym is) (All-nil IsWrong)))
    by_lines (first ∷ others) is = ⊎_elim
        (λ same.
        let found = first_whole torn first others is in
        let l = journal_line (last_sum no_sum (map listed batches)) (listed commands) in
        let equal : first ≡ l = (bytes_eq-Decides first l).0 same in
        let none : found.0 ≡ [] = nil_from_length found.0 (omega (arith, short, ap length found.1, ap length equal, length-append first (10 ∷ found.0))) in
        inr (with_one (found.1 ∙ ap (λ (t : List ℕ). t ++ 10 ∷ found.0) equal ∙ ap (λ (t : List ℕ). l ++ 10 ∷ t) none)))
        (λ differs.
        let l = journal_line (last_sum no_sum (map listed batches)) (listed commands) in
        let other : first ≡ l → ⊥ = λ same. both_ways (bytes_eq first l) differs ((bytes_eq-Decides first l).1 same) in
        inl (without (subst (All IsWrong) (sym is) (all_wrong (whole_lines (journal_of batches)) l first others other
        (λ k at within right. subst (λ (ls : List (List ℕ)). slice_get ls k ≡ Some at) lines_new
        (honest k at (ap (λ (ls : List (List ℕ)). slice_get ls k) (lines_behind torn ∙ ap (λ (ls : List (List ℕ)). whole_lines (journal_of batches) ++ ls) is) ∙ within) right))))))
        (cases_Bool (bytes_eq first (journal_line (last_sum no_sum (map listed batches)) (listed commands))))
