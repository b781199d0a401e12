-- The parts of a line, where they stand in it, and that a text has them once.
use Rattle.std.proofs.Common.{◌≡◌, ⊎_elim, ℕ, ◌+◌, ◌-◌, ◌*◌, ◌/◌, ◌%◌, Bool, true, not, ◌&&◌, ◌==◌, List, [], ◌∷◌, ◌++◌, length, take, drop, get_or, refl, sym, ◌∙◌, ap, arith, length-append}
use Rattle.std.specs.Prelude.{codes}
use Rattle.std.specs.List.{All}
use Rattle.std.proofs.lemmas.Bool.{and_parts, not-true, eqb-false, cases_lt}
use Rattle.std.proofs.lemmas.List.{append_assoc, take_at, drop_at, get_or_past}
use Rattle.std.proofs.lemmas.List.Elements.{All-nil, All-cons, All-append, All-get_or}
use Rattle.hex.specs.Hex.{encode_with, lower_digits}
use Rattle.hex.proofs.HexLemmas.{length-encode_with}
use Rattle.sha2.specs.Sha256.{sha256}
use Rattle.sha2.proofs.Facts256.{length-sha256}
use Rattle.journal_lines.specs.Lines.{summed, sum_of, journal_line, no_sum}

-- no byte of the text is a line feed
abbrev pub HasNoFeed : List ℕ → Type 0
HasNoFeed text = All (λ b. b ≡ 10 → ⊥) text

abbrev NoFeed : ℕ → Type 0
NoFeed b = b ≡ 10 → ⊥

abbrev no_feeds : List ℕ → Bool
no_feeds [] = true
no_feeds (b ∷ rest) = not (b == 10) && no_feeds rest

-- a text that is written out has none
pub no_feeds_tells : (text : List ℕ) → no_feeds text ≡ true → HasNoFeed text
no_feeds_tells [] is = All-nil NoFeed
no_feeds_tells (b ∷ rest) is =
    let parts = and_parts (not (b == 10)) (no_feeds rest) is in
    All-cons NoFeed b rest (eqb-false b 10 (not-true (b == 10) parts.0)) (no_feeds_tells rest parts.1)

no_feed_digit : (k : ℕ) → get_or lower_digits k 0 ≡ 10 → ⊥
no_feed_digit k is = ⊎_elim
    (λ within. All-get_or NoFeed lower_digits k 0 within (no_feeds_tells lower_digits refl) is)
    (λ past. absurd (omega (arith, sym (get_or_past lower_digits k 0 past) ∙ is)))
    (cases_lt k (length lower_digits))

hex_has_no_feed : (bytes : List ℕ) → HasNoFeed (encode_with lower_digits bytes)
unfolding encode_with
hex_has_no_feed [] = All-nil NoFeed
hex_has_no_feed (b ∷ rest) =
    All-cons NoFeed (get_or lower_digits (b / 16) 0) (get_or lower_digits (b % 16) 0 ∷ encode_with lower_digits rest) (no_feed_digit (b / 16))
    (All-cons NoFeed (get_or lower_digits (b % 16) 0) (encode_with lower_digits rest) (no_feed_digit (b % 16)) (hex_has_no_feed rest))

-- a sum has 64 digits
pub length-sum_of : (after body : List ℕ) → length (sum_of after body) ≡ 64
unfolding sum_of
length-sum_of after body = length-encode_with lower_digits (sha256 (summed after body)) ∙ ap (λ n. 2 * n) (length-sha256 (summed after body))

-- what the first line has has 64 digits
pub length-no_sum : length no_sum ≡ 64
length-no_sum = refl

-- none of them is a line feed
pub sum_has_no_feed : (after body : List ℕ) → HasNoFeed (sum_of after body)
unfolding sum_of
sum_has_no_feed after body = hex_has_no_feed (sha256 (summed after body))

-- eight texts without a line feed, one behind the other
joined_has_no_feed : (o b m a q s h e : List ℕ) → HasNoFeed o → HasNoFeed b → HasNoFeed m → HasNoFeed a → HasNoFeed q → HasNoFeed s → HasNoFeed h → HasNoFeed e
    → HasNoFeed (o ++ b ++ m ++ a ++ q ++ s ++ h ++ e)
joined_has_no_feed o b m a q s h e has_o has_b has_m has_a has_q has_s has_h has_e =
    let two = All-append NoFeed o b has_o has_b in
    let three = All-append NoFeed (o ++ b) m two has_m in
    let four = All-append NoFeed (o ++ b ++ m) a three has_a in
    let five = All-append NoFeed (o ++ b ++ m ++ a) q four has_q in
    let six = All-append NoFeed (o ++ b ++ m ++ a ++ q) s five has_s in
    let seven = All-append NoFeed (o ++ b ++ m ++ a ++ q ++ s) h six has_h in
    All-append NoFeed (o ++ b ++ m ++ a ++ q ++ s ++ h) e seven has_e

-- a line stands on one line
pub line_has_no_feed : (after body : List ℕ) → HasNoFeed after → HasNoFeed body → HasNoFeed (journal_line after body)
unfolding journal_line summed
line_has_no_feed after body after_has body_has =
    joined_has_no_feed (codes "{\"entries\":[") body (codes "],\"after\":\"") after (codes "\"") (codes ",\"sum\":\"") (sum_of after body) (codes "\"}")
    (no_feeds_tells (codes "{\"entries\":[") refl) body_has (no_feeds_tells (codes "],\"after\":\"") refl) after_has (no_feeds_tells (codes "\"") refl)
    (no_feeds_tells (codes ",\"sum\":\"") refl) (sum_has_no_feed after body) (no_feeds_tells (codes "\"}") refl)

regroup : (o b m a q s h e : List ℕ) → o ++ b ++ m ++ a ++ q ++ s ++ h ++ e ≡ o ++ (b ++ (m ++ (a ++ (q ++ (s ++ (h ++ e))))))
regroup o b m a q s h e = simp append_assoc

regroup_front : (o b m a q s h e : List ℕ) → o ++ b ++ m ++ a ++ q ++ s ++ h ++ e ≡ (o ++ (b ++ m)) ++ (a ++ (q ++ (s ++ (h ++ e))))
regroup_front o b m a q s h e = simp append_assoc

-- what stands in a line behind its entries
abbrev behind_body : List ℕ → List ℕ → List ℕ
behind_body after body = codes "],\"after\":\"" ++ (after ++ (codes "\"" ++ (codes ",\"sum\":\"" ++ (sum_of after body ++ codes "\"}"))))

line_parts : (after body : List ℕ) → journal_line after body ≡ codes "{\"entries\":[" ++ (body ++ behind_body after body)
unfolding journal_line summed
line_parts after body = regroup (codes "{\"entries\":[") body (codes "],\"after\":\"") after (codes "\"") (codes ",\"sum\":\"") (sum_of after body) (codes "\"}")

length-behind_body : (after body : List ℕ) → length after ≡ 64 → length (behind_body after body) ≡ 150
length-behind_body after body size =
    omega (
      arith,
      size,
      length-sum_of after body,
      length-append (codes "],\"after\":\"") (after ++ (codes "\"" ++ (codes ",\"sum\":\"" ++ (sum_of after body ++ codes "\"}")))),
      length-append after (codes "\"" ++ (codes ",\"sum\":\"" ++ (sum_of after body ++ codes "\"}"))),
      length-append (codes "\"") (codes ",\"sum\":\"" ++ (sum_of after body ++ codes "\"}")),
      length-append (codes ",\"sum\":\"") (sum_of after body ++ codes "\"}"),
      length-append (sum_of after body) (codes "\"}"),
    )

-- how long a line is
pub length-journal_line : (after body : List ℕ) → length after ≡ 64 → length (journal_line after body) ≡ length body + 162
length-journal_line after body size =
    omega (arith, ap length (line_parts after body), length-append (codes "{\"entries\":[") (body ++ behind_body after body), length-append body (behind_body after body), length-behind_body after body size)

-- the entries of a line
pub body_in_line : (after body : List ℕ) → take (length body) (drop 12 (journal_line after body)) ≡ body
body_in_line after body =
    ap (λ (l : List ℕ). take (length body) (drop 12 l)) (line_parts after body)
    ∙ ap (take (length body)) (drop_at (codes "{\"entries\":[") (body ++ behind_body after body) 12 refl)
    ∙ take_at body (behind_body after body) (length body) refl

-- the sum of the line before, as a line has it
pub after_in_line : (after body : List ℕ) → length after ≡ 64 → take 64 (drop (length body + 23) (journal_line after body)) ≡ after
unfolding journal_line summed
after_in_line after body size =
    let front = codes "{\"entries\":[" ++ (body ++ codes "],\"after\":\"") in
    let rest = codes "\"" ++ (codes ",\"sum\":\"" ++ (sum_of after body ++ codes "\"}")) in
    let whole : journal_line after body ≡ front ++ (after ++ rest) =
    regroup_front (codes "{\"entries\":[") body (codes "],\"after\":\"") after (codes "\"") (codes ",\"sum\":\"") (sum_of after body) (codes "\"}") in
    let long : length front ≡ length body + 23 = omega (arith, length-append (codes "{\"entries\":[") (body ++ codes "],\"after\":\""), length-append body (codes "],\"after\":\"")) in
    ap (λ (l : List ℕ). take 64 (drop (length body + 23) l)) whole ∙ ap (take 64) (drop_at front (after ++ rest) (length body + 23) long) ∙ take_at after rest 64 size

-- the same two parts of a line, by its length
pub body_at : (after body line : List ℕ) → length after ≡ 64 → line ≡ journal_line after body → take (length line - 150 - 12) (drop 12 line) ≡ body
body_at after body line size is =
    let long : length line - 150 - 12 ≡ length body = omega (arith, ap length is, length-journal_line after body size) in
    ap (λ n. take n (drop 12 line)) long ∙ ap (λ (l : List ℕ). take (length body) (drop 12 l)) is ∙ body_in_line after body

-- the sum of the line before, by the length of a line
pub after_at : (after body line : List ℕ) → length after ≡ 64 → line ≡ journal_line after body → take (length line - 75 - (length line - 139)) (drop (length line - 139) line) ≡ after
after_at after body line size is =
    let at : length line - 139 ≡ length body + 23 = omega (arith, ap length is, length-journal_line after body size) in
    let long : length line - 75 - (length line - 139) ≡ 64 = omega (arith, ap length is, length-journal_line after body size) in
    ap (λ n. take n (drop (length line - 139) line)) long ∙ ap (λ n. take 64 (drop n line)) at ∙ ap (λ (l : List ℕ). take 64 (drop (length body + 23) l)) is ∙ after_in_line after body size

-- a line has its entries, and the sum before it, once
pub line_once : (a b c d : List ℕ) → length a ≡ 64 → length c ≡ 64 → journal_line a b ≡ journal_line c d → (a ≡ c) × (b ≡ d)
line_once a b c d size other is =
    let same : length b ≡ length d = omega (arith, ap length is, length-journal_line a b size, length-journal_line c d other) in (
      sym (after_in_line a b size) ∙ ap (λ (l : List ℕ). take 64 (drop (length b + 23) l)) is ∙ ap (λ n. take 64 (drop (n + 23) (journal_line c d))) same ∙ after_in_line c d other,
      sym (body_in_line a b) ∙ ap (λ (l : List ℕ). take (length b) (drop 12 l)) is ∙ ap (λ n. take n (drop 12 (journal_line c d))) same ∙ body_in_line c d,
    )
