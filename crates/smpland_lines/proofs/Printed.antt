-- The text of an object of members, which has no line feed.
use Rattle.std.proofs.Common.{◌≡◌, ◌<◌, ◌+◌, ℕ, zero, suc, List, [], ◌∷◌, ◌++◌, drop, Bool, true, false, cond, not, ◌&&◌, ◌||◌, ◌==◌, Option, Some, None, option_and_then, inl, inr, refl, sym, ap, subst, ◌∙◌, arith}
use Rattle.std.proofs.lemmas.Bool.{and_parts, cases_eq, cases_lt, eqb-true, leb-true, or_cases}
use Rattle.std.proofs.lemmas.List.Elements.{All-append, All-cons, All-nil}
use Rattle.std.specs.List.{prefix_len}
use Rattle.std.specs.Char.{is_ascii_digit}
use Rattle.json.specs.Token.{Token, begin_object, end_object, begin_array, end_array, key, string, number, boolean, null, bad}
use Rattle.json.specs.Lex.{tokens}
use Rattle.json.specs.Word.{head, after_digits, after_minus, after_sign, after_whole, after_fraction, after_exponent, after_number}
use Rattle.json.specs.Print.{ArePrintableOrBad, IsNumber, IsPrintableOrBad, begins, ends, ends_value, escape, escape_byte, print, print_from, quoted, separator, token_text}
use Rattle.json.proofs.Printed.Strings.{escape_byte_plain}
use Rattle.json.proofs.Printed.Tokens.{print_from_push}
use Rattle.json.proofs.Numbered.{ArePrintableOrBad-tokens}
use Rattle.smpland_lines.specs.Members.{object}
use Rattle.smpland_lines.specs.Writer.{HasNoLineFeed}

-- the byte is no line feed
abbrev IsInLine : ℕ → Type 0
IsInLine b = b ≡ 10 → ⊥

joined : (xs ys : List ℕ) → HasNoLineFeed xs → HasNoLineFeed ys → HasNoLineFeed (xs ++ ys)
joined xs ys h k = All-append IsInLine xs ys h k

-- ---- by a test

abbrev in_line : List ℕ → Bool
in_line [] = true
in_line (x ∷ xs) = not (x == 10) && in_line xs

tested : (xs : List ℕ) → in_line xs ≡ true → HasNoLineFeed xs
tested [] e = All-nil IsInLine
tested (x ∷ xs) e =
    let p = and_parts _ _ e in
    All-cons IsInLine x xs (λ same. let never : not (x == 10) ≡ true = p.0 in let z = rw same at never in absurd (first_of (cc, grind arith))) (tested xs p.1)

-- ---- strings

abbrev escapes_below : ℕ → Bool
escapes_below zero = true
escapes_below (suc n) = in_line (escape_byte n) && escapes_below n

escape_below : (n : ℕ) → escapes_below n ≡ true → (x : ℕ) → x < n → in_line (escape_byte x) ≡ true
escape_below zero e x h = absurd (omega arith)
escape_below (suc n) e x h =
    let p = and_parts _ _ e in
    elim (cases_eq x n) [ inl same ↦ rw same p.0 | inr other ↦ escape_below n p.1 x (omega arith) ]

all_escapes : escapes_below 93 ≡ true
unfolding escape_byte
all_escapes = refl

escaped_byte : (x : ℕ) → HasNoLineFeed (escape_byte x)
escaped_byte x = elim (cases_lt x 93) [
  | inl low ↦ tested (escape_byte x) (escape_below 93 all_escapes x low)
  | inr high ↦
      subst HasNoLineFeed (sym (escape_byte_plain x (λ e. omega arith) (λ e. omega arith) (omega arith)))
      (All-cons IsInLine x [] (λ e. omega arith) (All-nil IsInLine))
]

escaped : (s : List ℕ) → HasNoLineFeed (escape s)
escaped [] = All-nil IsInLine
escaped (x ∷ xs) = joined (escape_byte x) (escape xs) (escaped_byte x) (escaped xs)

quoted_line : (s : List ℕ) → HasNoLineFeed (quoted s)
quoted_line s = joined (34 ∷ []) (escape s ++ 34 ∷ []) (tested (34 ∷ []) refl) (joined (escape s) (34 ∷ []) (escaped s) (tested (34 ∷ []) refl))

-- ---- numbers

-- if what is left behind a part is one line, so is all
abbrev Leaves : List ℕ → Option (List ℕ) → Type 0
Leaves t None = Unit {0}
Leaves t (Some rest) = HasNoLineFeed rest → HasNoLineFeed t

one : (t : List ℕ) → IsInLine (head t) → HasNoLineFeed (drop 1 t) → HasNoLineFeed t
one [] h k = k
one (x ∷ xs) h k = All-cons IsInLine x xs h k

skip : (b : Bool) (t : List ℕ) → (b ≡ true → IsInLine (head t)) → HasNoLineFeed (cond b (drop 1 t) t) → HasNoLineFeed t
skip true t h k = one t (h refl) k
skip false t h k = k

choose : (b : Bool) (t : List ℕ) (x y : Option (List ℕ)) → (b ≡ true → Leaves t x) → Leaves t y → Leaves t (cond b x y)
choose true t x y f g = f refl
choose false t x y f g = g

behind : (t u : List ℕ) → (HasNoLineFeed u → HasNoLineFeed t) → (o : Option (List ℕ)) → Leaves u o → Leaves t o
behind t u h None f = tt
behind t u h (Some r) f = λ k. h (f k)

then : (t : List ℕ) (f : List ℕ → Option (List ℕ)) → ((u : List ℕ) → Leaves u (f u)) → (o : Option (List ℕ)) → Leaves t o → Leaves t (option_and_then f o)
then t f g None h = tt
then t f g (Some r) h = behind t r h (f r) (g r)

digit : (x : ℕ) → is_ascii_digit x ≡ true → IsInLine x
digit x h e = let low = leb-true 48 x (and_parts _ _ h).0 in absurd (omega arith)

digits_at : (b : Bool) (x : ℕ) (xs : List ℕ) (n : ℕ) → (b ≡ true → IsInLine x) → (HasNoLineFeed (drop n xs) → HasNoLineFeed xs) → HasNoLineFeed (drop (cond b (1 + n) 0) (x ∷ xs)) → HasNoLineFeed (x ∷ xs)
digits_at false x xs n h rest k = k
digits_at true x xs n h rest k =
    let e : 1 + n ≡ suc n = omega arith in
    All-cons IsInLine x xs (h refl) (rest (subst (λ j. HasNoLineFeed (drop j (x ∷ xs))) e k))

digit_run : (t : List ℕ) → HasNoLineFeed (drop (prefix_len is_ascii_digit t) t) → HasNoLineFeed t
digit_run [] k = k
digit_run (x ∷ xs) k = digits_at (is_ascii_digit x) x xs (prefix_len is_ascii_digit xs) (digit x) (digit_run xs) k

digits : (t : List ℕ) → Leaves t (after_digits t)
digits t = choose (prefix_len is_ascii_digit t == 0) t None (Some (drop (prefix_len is_ascii_digit t) t)) (λ e. tt) (digit_run t)

-- the byte at the front is this one
is_byte : (c : ℕ) (t : List ℕ) → IsInLine c → (head t == c) ≡ true → IsInLine (head t)
is_byte c t h e = λ feed. h (sym (eqb-true (head t) c e) ∙ feed)

either : (a b : ℕ) (t : List ℕ) → IsInLine a → IsInLine b → ((head t == a) || (head t == b)) ≡ true → IsInLine (head t)
either a b t h k e = elim (or_cases _ _ e) [ inl is ↦ is_byte a t h is | inr is ↦ is_byte b t k is ]

whole : (t : List ℕ) → Leaves t (after_whole t)
whole t = choose (head t == 48) t (Some (drop 1 t)) (after_digits t) (λ e. one t (is_byte 48 t (λ x. omega arith) e)) (digits t)

fraction : (t : List ℕ) → Leaves t (after_fraction t)
fraction t =
    choose (head t == 46) t (after_digits (drop 1 t)) (Some t)
    (λ e. behind t (drop 1 t) (one t (is_byte 46 t (λ x. omega arith) e)) (after_digits (drop 1 t)) (digits (drop 1 t))) (λ k. k)

signed : (t : List ℕ) → Leaves t (after_digits (after_sign t))
signed t = behind t (after_sign t) (skip ((head t == 45) || (head t == 43)) t (either 45 43 t (λ x. omega arith) (λ x. omega arith))) (after_digits (after_sign t)) (digits (after_sign t))

exponent : (t : List ℕ) → Leaves t (after_exponent t)
exponent t =
    choose ((head t == 101) || (head t == 69)) t (after_digits (after_sign (drop 1 t))) (Some t)
    (λ e. behind t (drop 1 t) (one t (either 101 69 t (λ x. omega arith) (λ x. omega arith) e)) (after_digits (after_sign (drop 1 t))) (signed (drop 1 t))) (λ k. k)

number_rest : (t : List ℕ) → Leaves t (after_number t)
unfolding after_number
number_rest t =
    then t after_exponent exponent _ (then t after_fraction fraction _
    (behind t (after_minus t) (skip (head t == 45) t (is_byte 45 t (λ x. omega arith))) (after_whole (after_minus t)) (whole (after_minus t))))

number_line : (s : List ℕ) → IsNumber s → HasNoLineFeed s
number_line s h = (subst (Leaves s) h (number_rest s)) (All-nil IsInLine)

-- ---- tokens

token_line : (t : Token) → IsPrintableOrBad t → HasNoLineFeed (token_text t)
token_line begin_object h = tested (123 ∷ []) refl
token_line end_object h = tested (125 ∷ []) refl
token_line begin_array h = tested (91 ∷ []) refl
token_line end_array h = tested (93 ∷ []) refl
token_line (key s) h = joined (quoted s) (58 ∷ []) (quoted_line s) (tested (58 ∷ []) refl)
token_line (string s) h = quoted_line s
token_line (number s) h = number_line s h
token_line (boolean true) h = tested (token_text (boolean true)) refl
token_line (boolean false) h = tested (token_text (boolean false)) refl
token_line null h = tested (token_text null) refl
token_line bad h = All-nil IsInLine

separator_line : (b : Bool) → HasNoLineFeed (cond b (44 ∷ []) [])
separator_line true = tested (44 ∷ []) refl
separator_line false = All-nil IsInLine

printed_line : (b : Bool) (ts : List Token) → ArePrintableOrBad ts → HasNoLineFeed (print_from b ts)
unfolding print_from
printed_line b [] h = All-nil IsInLine
printed_line b (t ∷ ts) h =
    joined (separator b t) _ (separator_line (b && begins t)) (joined (token_text t) _ (token_line t h.0) (printed_line (ends t) ts h.1))

-- ---- an object

no_comma : (b : Bool) → separator b end_object ≡ []
no_comma true = refl
no_comma false = refl

-- the text of an object is that of its members in braces
pub in_braces : (members : List Token) → print (object members) ≡ 123 ∷ (print members ++ 125 ∷ [])
unfolding print_from
in_braces members =
    ap (λ (text : List ℕ). 123 ∷ text) (print_from_push false members end_object ∙ ap (λ (comma : List ℕ). print members ++ (comma ++ 125 ∷ [])) (no_comma (ends_value members)))

-- an object of members that are read back has no line feed
pub object_line : (members : List Token) → tokens (print members) ≡ members → HasNoLineFeed (print (object members))
object_line members e =
    let inside = printed_line false members (subst ArePrintableOrBad e (ArePrintableOrBad-tokens (print members))) in
    subst HasNoLineFeed (sym (in_braces members)) (joined (123 ∷ []) _ (tested (123 ∷ []) refl) (joined (print members) (125 ∷ []) inside (tested (125 ∷ []) refl)))
