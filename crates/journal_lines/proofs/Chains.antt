-- A content has its lines in one way only, and recovers to one list of batches.
use Rattle.std.proofs.Common.{◌≡◌, inl, inr, ℕ, ◌≤◌, List, [], ◌∷◌, ◌++◌, length, take, map, refl, sym, ◌∙◌, ap, subst, arith, length-append, append_assoc}
use Rattle.std.specs.List.{All, Any, flat_map}
use Rattle.std.proofs.lemmas.List.{append_cancel_left, nil_from_length, take_at}
use Rattle.std.proofs.lemmas.List.Elements.{All-nil, All-head, All-tail, All-map, All-weaker}
use Rattle.journal_lines.specs.Objects.{listed, IsBatch}
use Rattle.journal_lines.specs.Lines.{head, sum_of, journal_line, no_sum, IsBody, IsRight, whole_lines}
use Rattle.journal_lines.specs.Journal.{chain, last_sum, journal_of, HasNoRight, HasRight, HasBatches, RecoversTo, IsForeign, IsDamaged}
use Rattle.journal_lines.proofs.BodyTexts.{body_has_no_feed, listed_once}
use Rattle.journal_lines.proofs.LineTexts.{HasNoFeed, length-sum_of, sum_has_no_feed, no_feeds_tells, line_has_no_feed, length-no_sum, line_once}
use Rattle.journal_lines.proofs.WholeLines.{whole_lines_line, lines_once}

-- the sum of a line, as the line behind it has it
pub record IsSum (after : List ℕ) : Type 0 where
  pub size : length after ≡ 64
  pub one_line : HasNoFeed after

-- what the first line has is such a sum
pub no_sum_is_sum : IsSum no_sum
no_sum_is_sum = record { size = length-no_sum; one_line = no_feeds_tells no_sum refl }

pub sum_is_sum : (after body : List ℕ) → IsSum (sum_of after body)
sum_is_sum after body = record { size = length-sum_of after body; one_line = sum_has_no_feed after body }

-- and so is the sum of the last line
pub last_is_sum : (after : List ℕ) (bodies : List (List ℕ)) → IsSum after → IsSum (last_sum after bodies)
last_is_sum after [] is = is
last_is_sum after (body ∷ bodies) is = last_is_sum (sum_of after body) bodies (sum_is_sum after body)

-- one line more
pub chain-push : (after : List ℕ) (bodies : List (List ℕ)) (body : List ℕ) → chain after (bodies ++ body ∷ []) ≡ chain after bodies ++ journal_line (last_sum after bodies) body ++ 10 ∷ []
chain-push after [] body = refl
chain-push after (first ∷ bodies) body =
    ap (λ (l : List ℕ). journal_line after first ++ 10 ∷ l) (chain-push (sum_of after first) bodies body)
    ∙ regroup (journal_line after first) (chain (sum_of after first) bodies) (journal_line (last_sum (sum_of after first) bodies) body) (10 ∷ [])
  where
    regroup : (a b c d : List ℕ) → a ++ 10 ∷ (b ++ c ++ d) ≡ a ++ 10 ∷ b ++ c ++ d
    regroup a b c d = simp append_assoc

-- the sum of the last line, with one line more
pub last_sum-push : (after : List ℕ) (bodies : List (List ℕ)) (body : List ℕ) → last_sum after (bodies ++ body ∷ []) ≡ sum_of (last_sum after bodies) body
last_sum-push after [] body = refl
last_sum-push after (first ∷ bodies) body = last_sum-push (sum_of after first) bodies body

-- a line in its chain is right by itself
pub chained_is_right : (after body : List ℕ) → IsSum after → IsBody body → IsRight (journal_line after body)
chained_is_right after body sum batch = record { after = after; body = body; size = sum.size; batch = batch; is = refl }

-- a line that goes on stands on one line
pub chained_has_no_feed : (after body : List ℕ) → IsSum after → IsBody body → HasNoFeed (journal_line after body)
chained_has_no_feed after body sum batch = line_has_no_feed after body sum.one_line (body_has_no_feed body batch)

behind : (after body : List ℕ) (bodies : List (List ℕ)) (rest : List ℕ) → chain after (body ∷ bodies) ++ rest ≡ journal_line after body ++ 10 ∷ (chain (sum_of after body) bodies ++ rest)
behind after body bodies rest = append_assoc (journal_line after body) (10 ∷ chain (sum_of after body) bodies) rest

-- where no whole line is right, none goes on from what is before it
pub torn_is_parted : (after body rest more : List ℕ) → IsSum after → IsBody body → HasNoRight rest → rest ≡ journal_line after body ++ 10 ∷ more → ⊥
torn_is_parted after body rest more sum batch torn is =
    All-head (λ line. IsRight line → ⊥) (journal_line after body) (whole_lines more)
    (subst (All (λ line. IsRight line → ⊥)) (ap whole_lines is ∙ whole_lines_line (journal_line after body) more (chained_has_no_feed after body sum batch)) torn) (chained_is_right after body sum batch)

-- Two ways to cut a text into lines of entries, and a rest that does not go on, have the same lines and the same rest.
pub chains_once : (after : List ℕ) (bodies others : List (List ℕ)) (rest end : List ℕ) → IsSum after → All IsBody bodies → All IsBody others
    → ((body more : List ℕ) → IsBody body → rest ≡ journal_line (last_sum after bodies) body ++ 10 ∷ more → ⊥) → HasNoRight end
    → chain after bodies ++ rest ≡ chain after others ++ end → (bodies ≡ others) × (rest ≡ end)
chains_once after [] [] rest end sum each other parted torn is = (refl, is)
chains_once after [] (c ∷ others) rest end sum each other parted torn is =
    absurd (parted c (chain (sum_of after c) others ++ end) (All-head IsBody c others other) (is ∙ behind after c others end))
chains_once after (b ∷ bodies) [] rest end sum each other parted torn is =
    absurd (torn_is_parted after b end (chain (sum_of after b) bodies ++ rest) sum (All-head IsBody b bodies each) torn (sym is ∙ behind after b bodies rest))
chains_once after (b ∷ bodies) (c ∷ others) rest end sum each other parted torn is =
    let lines = lines_once (journal_line after b) (journal_line after c) (chain (sum_of after b) bodies ++ rest) (chain (sum_of after c) others ++ end)
    (chained_has_no_feed after b sum (All-head IsBody b bodies each)) (chained_has_no_feed after c sum (All-head IsBody c others other))
    (sym (behind after b bodies rest) ∙ is ∙ behind after c others end) in
    let same = (line_once after b after c sum.size sum.size lines.0).1 in
    let parts = chains_once (sum_of after b) bodies others rest end (sum_is_sum after b) (All-tail IsBody b bodies each) (All-tail IsBody c others other) parted torn
    (lines.1 ∙ ap (λ (l : List ℕ). chain (sum_of after l) others ++ end) (sym same)) in
    (joined b c bodies others same parts.0, parts.1)
  where
    joined : (x y : List ℕ) (xs ys : List (List ℕ)) → x ≡ y → xs ≡ ys → x ∷ xs ≡ y ∷ ys
    joined x y xs ys one rest = cc

-- each batch is the entries of a line
pub bodies_of : (batches : List (List (List ℕ))) → All IsBatch batches → All IsBody (map listed batches)
bodies_of batches each = All-map IsBody listed batches (All-weaker IsBatch (λ batch. IsBody (listed batch)) (λ batch is. (batch, is, refl)) batches each)

batches_once : (cs ds : List (List (List ℕ))) → All IsBatch cs → All IsBatch ds → map listed cs ≡ map listed ds → cs ≡ ds
batches_once [] [] each other is = refl
batches_once [] (d ∷ ds) each other is = absurd (cc)
batches_once (c ∷ cs) [] each other is = absurd (cc)
batches_once (c ∷ cs) (d ∷ ds) each other is =
    joined (listed_once c d (All-head IsBatch c cs each) (All-head IsBatch d ds other) (first (listed c) (listed d) (map listed cs) (map listed ds) is))
    (batches_once cs ds (All-tail IsBatch c cs each) (All-tail IsBatch d ds other) (rest (listed c) (listed d) (map listed cs) (map listed ds) is))
  where
    first : (x y : List ℕ) (xs ys : List (List ℕ)) → x ∷ xs ≡ y ∷ ys → x ≡ y
    first x y xs ys is = cc

    rest : (x y : List ℕ) (xs ys : List (List ℕ)) → x ∷ xs ≡ y ∷ ys → xs ≡ ys
    rest x y xs ys is = cc

    joined : c ≡ d → cs ≡ ds → c ∷ cs ≡ d ∷ ds
    joined one others = cc

behind_head : (batches : List (List (List ℕ))) (rest : List ℕ) → journal_of batches ++ rest ≡ head ++ (chain no_sum (map listed batches) ++ rest)
behind_head batches rest = append_assoc head (chain no_sum (map listed batches)) rest

-- a content has its batches once
pub one_journal : (content : List ℕ) (batches others : List (List (List ℕ))) → HasBatches content batches → HasBatches content others → batches ≡ others
one_journal content batches others one other =
    let same = append_cancel_left head (chain no_sum (map listed batches) ++ one.end) (chain no_sum (map listed others) ++ other.end)
    (sym (behind_head batches one.end) ∙ sym one.is ∙ other.is ∙ behind_head others other.end) in
    let sum = last_is_sum no_sum (map listed batches) no_sum_is_sum in
    batches_once batches others one.each other.each
    (chains_once no_sum (map listed batches) (map listed others) one.end other.end no_sum_is_sum (bodies_of batches one.each) (bodies_of others other.each)
    (λ body more batch is. torn_is_parted (last_sum no_sum (map listed batches)) body one.end more sum batch one.torn is) other.torn same).0

-- a content that is no longer than the head has no batch
pub short_has_none : (content : List ℕ) (batches : List (List (List ℕ))) → HasBatches content batches → length content ≤ length head → batches ≡ []
short_has_none content [] one short = refl
short_has_none content (b ∷ batches) one short =
    let long = ap length one.is in
    absurd (omega (
      arith,
      short,
      long,
      length-append (journal_of (b ∷ batches)) one.end,
      length-append head (chain no_sum (map listed (b ∷ batches))),
      length-append (journal_line no_sum (listed b)) (10 ∷ chain (sum_of no_sum (listed b)) (map listed batches)),
    ))

-- a content recovers to one list of entries
pub recovers_once : (content : List ℕ) (entries others : List (List ℕ)) → RecoversTo content entries → RecoversTo content others → entries ≡ others
recovers_once content entries others (inl (short, none)) (inl (short', none')) = none ∙ sym none'
recovers_once content entries others (inl (short, none)) (inr (batches, one, are)) =
    none ∙ sym (are ∙ ap (flat_map (λ batch. batch)) (short_has_none content batches one short))
recovers_once content entries others (inr (batches, one, are)) (inl (short, none)) =
    are ∙ ap (flat_map (λ batch. batch)) (short_has_none content batches one short) ∙ sym none
recovers_once content entries others (inr (batches, one, are)) (inr (batches', other, are')) =
    are ∙ ap (flat_map (λ batch. batch)) (one_journal content batches batches' one other) ∙ sym are'

none_and_some : (lines : List (List ℕ)) → All (λ line. IsRight line → ⊥) lines → Any IsRight lines → ⊥
none_and_some lines none (k, line, within, at, right) = none k line within (subst IsRight (sym at) right)

-- a damaged content recovers to nothing
pub damaged_recovers_not : (content : List ℕ) (number : ℕ) (entries : List (List ℕ)) → IsDamaged content number → RecoversTo content entries → ⊥
damaged_recovers_not content number entries damaged (inl (short, none)) =
    let empty : damaged.rest ≡ [] = nil_from_length damaged.rest (omega (
      arith,
      short,
      ap length damaged.is,
      length-append (journal_of damaged.batches) damaged.rest,
      length-append head (chain no_sum (map listed damaged.batches)),
    )) in
    none_and_some [] (All-nil (λ line. IsRight line → ⊥)) (subst HasRight empty damaged.behind)
damaged_recovers_not content number entries damaged (inr (batches, one, are)) =
    let same = append_cancel_left head (chain no_sum (map listed damaged.batches) ++ damaged.rest) (chain no_sum (map listed batches) ++ one.end)
    (sym (behind_head damaged.batches damaged.rest) ∙ sym damaged.is ∙ one.is ∙ behind_head batches one.end) in
    let parts = chains_once no_sum (map listed damaged.batches) (map listed batches) damaged.rest one.end no_sum_is_sum
    (bodies_of damaged.batches damaged.each) (bodies_of batches one.each) damaged.parted one.torn same in
    none_and_some (whole_lines one.end) one.torn (subst HasRight parts.1 damaged.behind)

-- what is no journal recovers to nothing
pub foreign_recovers_not : (content : List ℕ) (entries : List (List ℕ)) → IsForeign content → RecoversTo content entries → ⊥
foreign_recovers_not content entries foreign (inl (short, none)) = absurd (omega (arith, foreign.longer, short))
foreign_recovers_not content entries foreign (inr (batches, one, are)) =
    foreign.other (ap (take (length head)) (one.is ∙ behind_head batches one.end) ∙ take_at head (chain no_sum (map listed batches) ++ one.end) (length head) refl)
