-- The commands of a line's entries, one by one.
use Rattle.std.proofs.Common.{◌≡◌, ◌≢◌, ℕ, ◌+◌, ◌-◌, ◌≤◌, ◌<◌, List, [], ◌∷◌, ◌++◌, length, get_or, take, drop, Some, None, refl, sym, ◌∙◌, ap, subst, arith, take-append-drop}
use Rattle.std.specs.List.{All}
use Rattle.std.proofs.lemmas.List.{append-nil, take_at, drop_at, length-take-le, drop_more, take_rest}
use Rattle.std.proofs.lemmas.List.Elements.{All-nil, All-cons, All-head, All-tail, All-append}
use Rattle.std.proofs.lemmas.Option.{none-some, same_Some}
use Rattle.journal_lines.specs.Objects.{object_length, IsObject, behind_commas, listed, IsBatch}
use Rattle.journal_lines.specs.Lines.{IsBody}
use Rattle.journal_lines.proofs.ObjectTexts.{object_length-append, object_length-take, object_has_no_feed}

no_batch : IsBatch [] → ⊥
no_batch batch = batch.some refl

front : (c : List ℕ) (cs : List (List ℕ)) → IsBatch (c ∷ cs) → object_length (listed (c ∷ cs)) ≡ Some (length c)
front c cs batch = object_length-append c (behind_commas cs) (length c) (All-head IsObject c cs batch.objects)

-- entries begin with an object
pub body_has_object : (xs : List ℕ) → object_length xs ≡ None → IsBody xs → ⊥
body_has_object xs none ([], batch, is) = no_batch batch
body_has_object xs none (c ∷ cs, batch, is) = none-some (length c) (sym none ∙ ap object_length is ∙ front c cs batch)

-- an object alone is entries
pub body_of_one : (xs : List ℕ) (n : ℕ) → object_length xs ≡ Some n → n ≡ length xs → IsBody xs
body_of_one xs n found whole =
    (xs ∷ [], record { some = (λ none. cc); objects = All-cons IsObject xs [] (found ∙ ap Some whole) (All-nil IsObject) }, sym (append-nil xs))

-- the first object, where entries begin with c and something stands behind its length
first_is : (xs : List ℕ) (n : ℕ) (c : List ℕ) (cs : List (List ℕ)) → object_length xs ≡ Some n → IsBatch (c ∷ cs) → xs ≡ listed (c ∷ cs) → (drop n xs ≡ behind_commas cs) × (n ≡ length c)
first_is xs n c cs found batch is =
    let same : n ≡ length c = same_Some n (length c) (sym found ∙ ap object_length is ∙ front c cs batch) in
    (ap (drop n) is ∙ drop_at c (behind_commas cs) n (sym same), same)

-- behind an object stands a comma or nothing
pub body_has_comma : (xs : List ℕ) (n b : ℕ) (rest : List ℕ) → object_length xs ≡ Some n → drop n xs ≡ b ∷ rest → b ≢ 44 → IsBody xs → ⊥
body_has_comma xs n b rest found behind other ([], batch, is) = no_batch batch
body_has_comma xs n b rest found behind other (c ∷ [], batch, is) = let none = (first_is xs n c [] found batch is).0 in cc
body_has_comma xs n b rest found behind other (c ∷ d ∷ cs, batch, is) = let more = (first_is xs n c (d ∷ cs) found batch is).0 in other (same_first b 44 rest (d ++ behind_commas cs) (sym behind ∙ more))
  where
    same_first : (a b : ℕ) (xs ys : List ℕ) → a ∷ xs ≡ b ∷ ys → a ≡ b
    same_first a b xs ys is = cc

-- The length of what is found does not depend on what stands behind it.
taken_object : (xs : List ℕ) (n : ℕ) → object_length xs ≡ Some n → n ≤ length xs → IsObject (take n xs)
taken_object xs n found within = object_length-take xs n found ∙ ap Some (sym (length-take-le n xs within))

-- behind an object and a comma stand entries
pub body_of_rest : (xs : List ℕ) (n : ℕ) (rest : List ℕ) → object_length xs ≡ Some n → drop n xs ≡ 44 ∷ rest → IsBody xs → IsBody rest
body_of_rest xs n rest found behind ([], batch, is) = absurd (no_batch batch)
body_of_rest xs n rest found behind (c ∷ [], batch, is) = let none = (first_is xs n c [] found batch is).0 in absurd (cc)
body_of_rest xs n rest found behind (c ∷ d ∷ cs, batch, is) =
    let more = (first_is xs n c (d ∷ cs) found batch is).0 in
    (d ∷ cs, record { some = (λ none. cc); objects = All-tail IsObject c (d ∷ cs) batch.objects }, same_rest rest (d ++ behind_commas cs) (sym behind ∙ more))
  where
    same_rest : (xs ys : List ℕ) → 44 ∷ xs ≡ 44 ∷ ys → xs ≡ ys
    same_rest xs ys is = cc

-- an object, a comma and entries are entries
pub body_of_more : (xs : List ℕ) (n : ℕ) (rest : List ℕ) → object_length xs ≡ Some n → n ≤ length xs → drop n xs ≡ 44 ∷ rest → IsBody rest → IsBody xs
body_of_more xs n rest found within behind ([], batch, is) = absurd (no_batch batch)
body_of_more xs n rest found within behind (d ∷ cs, batch, is) = (take n xs ∷ d ∷ cs, record { some = (λ none. cc); objects = All-cons IsObject (take n xs) (d ∷ cs) object batch.objects }, whole)
  where
    whole : xs ≡ listed (take n xs ∷ d ∷ cs)
    whole = sym (take-append-drop n xs) ∙ ap (λ (l : List ℕ). take n xs ++ l) (behind ∙ ap (λ (l : List ℕ). 44 ∷ l) is)

    object : IsObject (take n xs)
    object = taken_object xs n found within

-- what stands behind a byte that is inside the text
at_comma : (xs : List ℕ) (n : ℕ) → n < length xs → drop n xs ≡ get_or xs n 0 ∷ take (length xs - (n + 1)) (drop (n + 1) xs)
at_comma xs n within = drop_more xs n 0 within ∙ ap (λ (l : List ℕ). get_or xs n 0 ∷ l) (sym (take_rest xs (n + 1)))

-- behind an object and a comma stand entries, where the text is entries, and the other way round
pub body_behind : (xs : List ℕ) (n : ℕ) → object_length xs ≡ Some n → n < length xs → get_or xs n 0 ≡ 44
    → (IsBody (take (length xs - (n + 1)) (drop (n + 1) xs)) → IsBody xs) × (IsBody xs → IsBody (take (length xs - (n + 1)) (drop (n + 1) xs)))
body_behind xs n found within comma =
    let rest = take (length xs - (n + 1)) (drop (n + 1) xs) in
    let is : drop n xs ≡ 44 ∷ rest = at_comma xs n within ∙ ap (λ (b : ℕ). b ∷ rest) comma in
    (body_of_more xs n rest found (omega (arith, within)) is, body_of_rest xs n rest found is)

-- behind an object stands no other byte
pub body_parted : (xs : List ℕ) (n : ℕ) → object_length xs ≡ Some n → n < length xs → get_or xs n 0 ≢ 44 → IsBody xs → ⊥
body_parted xs n found within other = body_has_comma xs n (get_or xs n 0) (take (length xs - (n + 1)) (drop (n + 1) xs)) found (at_comma xs n within) other

abbrev NoFeed : ℕ → Type 0
NoFeed b = b ≡ 10 → ⊥

commas_have_no_feed : (cs : List (List ℕ)) → All IsObject cs → All NoFeed (behind_commas cs)
commas_have_no_feed [] each = All-nil NoFeed
commas_have_no_feed (c ∷ cs) each =
    All-append NoFeed (44 ∷ c) (behind_commas cs) (All-cons NoFeed 44 c (λ is. absurd (omega (arith, is))) (object_has_no_feed c (All-head IsObject c cs each))) (commas_have_no_feed cs (All-tail IsObject c cs each))

-- entries stand on one line
pub body_has_no_feed : (body : List ℕ) → IsBody body → All (λ b. b ≡ 10 → ⊥) body
body_has_no_feed body ([], batch, is) = absurd (no_batch batch)
body_has_no_feed body (c ∷ cs, batch, is) =
    subst (All NoFeed) (sym is) (All-append NoFeed c (behind_commas cs) (object_has_no_feed c (All-head IsObject c cs batch.objects)) (commas_have_no_feed cs (All-tail IsObject c cs batch.objects)))

-- where two texts begin with objects, these are one, and so is what stands behind them
objects_once : (c d xs ys : List ℕ) → IsObject c → IsObject d → c ++ xs ≡ d ++ ys → (c ≡ d) × (xs ≡ ys)
objects_once c d xs ys first other is =
    let same : length c ≡ length d = same_Some (length c) (length d) (sym (object_length-append c xs (length c) first) ∙ ap object_length is ∙ object_length-append d ys (length d) other) in
    (sym (take_at c xs (length d) same) ∙ ap (take (length d)) is ∙ take_at d ys (length d) refl, sym (drop_at c xs (length d) same) ∙ ap (drop (length d)) is ∙ drop_at d ys (length d) refl)

commas_once : (cs ds : List (List ℕ)) → All IsObject cs → All IsObject ds → behind_commas cs ≡ behind_commas ds → cs ≡ ds
commas_once [] [] each other is = refl
commas_once [] (d ∷ ds) each other is = absurd (cc)
commas_once (c ∷ cs) [] each other is = absurd (cc)
commas_once (c ∷ cs) (d ∷ ds) each other is =
    let parts = objects_once c d (behind_commas cs) (behind_commas ds) (All-head IsObject c cs each) (All-head IsObject d ds other) (same_rest (c ++ behind_commas cs) (d ++ behind_commas ds) is) in
    let rest = commas_once cs ds (All-tail IsObject c cs each) (All-tail IsObject d ds other) parts.1 in
    cc
  where
    same_rest : (xs ys : List ℕ) → 44 ∷ xs ≡ 44 ∷ ys → xs ≡ ys
    same_rest xs ys is = cc

-- a text is the entries of one batch
pub listed_once : (cs ds : List (List ℕ)) → IsBatch cs → IsBatch ds → listed cs ≡ listed ds → cs ≡ ds
listed_once [] ds batch other is = absurd (no_batch batch)
listed_once (c ∷ cs) [] batch other is = absurd (no_batch other)
listed_once (c ∷ cs) (d ∷ ds) batch other is =
    commas_once (c ∷ cs) (d ∷ ds) batch.objects other.objects (ap (λ (l : List ℕ). 44 ∷ l) is)
