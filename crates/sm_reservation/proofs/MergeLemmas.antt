-- Rows of a list worked into rows in order in one pass: what each turn of the pass leaves.
use Rattle.std.proofs.Common.{◌≡◌, ℕ, zero, suc, ◌+◌, ◌≤◌, ◌<◌, true, ◌&&◌, Option, Some, None, is_some, is_none, IsSome, List, [], ◌∷◌, ◌++◌, length, get_or, set, take, drop, refl, sym, ◌∙◌, ap, arith, inl, inr, append_assoc, zero-add, drop-cons, length-drop}
use Rattle.std.proofs.Math.Seq.{take-suc, take-suc-set}
use Rattle.std.proofs.lemmas.List.{drop-set-lt}
use Rattle.std.proofs.lemmas.Bool.{cases_Bool}
use Rattle.sm_placement.specs.Sums.{bit}
use Rattle.sm_reservation.specs.Rows.{same, before, row_at, AllAfter, Rises, count_before}
use Rattle.sm_reservation.specs.Edits.{in_front, edited, edited_all, StaysAt, head_at, new_rows}
use Rattle.sm_placement.proofs.Sums.{bit-le-one}
use Rattle.sm_reservation.proofs.Places.{same_here, same_is, before_not_same, before_from_not}
use Rattle.sm_reservation.proofs.RowLemmas.{none_after, AllAfter-trans}

some_bit : {A : Type 0} (o : Option A) → IsSome o → bit (is_some o) ≡ 1
some_bit (Some x) s = refl
some_bit None s = cc

drop_none : {T : Type 0} (n : ℕ) → drop n (let l : List T = [] in l) ≡ []
drop_none zero = refl
drop_none (suc n) = refl

-- ---- rows that come before all that is worked in stay in front

edited_past : {T : Type 0} (key_of : T → ℕ × ℕ) (edit : Option T → T → Option T) (x : T) (xs ys : List T) → AllAfter key_of (key_of x) ys → edited_all key_of edit (x ∷ xs) ys ≡ x ∷ edited_all key_of edit xs ys
edited_past key_of edit x xs [] a = refl
edited_past key_of edit x xs (y ∷ ys) a = rw a.0 (edited_past key_of edit x (edited key_of edit xs y) ys a.1)

front_past : {T : Type 0} (key_of : T → ℕ × ℕ) (edit : Option T → T → Option T) (k : ℕ × ℕ) (o : Option T) (xs ys : List T) → ((z : T) → o ≡ Some z → key_of z ≡ k) → AllAfter key_of k ys → edited_all key_of edit (in_front o xs) ys ≡ in_front o (edited_all key_of edit xs ys)
front_past key_of edit k None xs ys stays a = refl
front_past key_of edit k (Some z) xs ys stays a = edited_past key_of edit z xs ys (rw (stays z refl) a)

before_then_after : {T : Type 0} (key_of : T → ℕ × ℕ) (x y : T) (ys : List T) → before (key_of x) (key_of y) ≡ true → Rises key_of (y ∷ ys) → AllAfter key_of (key_of x) (y ∷ ys)
before_then_after key_of x y ys b r = (b, AllAfter-trans key_of (key_of x) (key_of y) ys b r.0)

-- the rows that do not come before a key
abbrev pub from : {T : Type 0} → (T → ℕ × ℕ) → List T → ℕ × ℕ → List T
from key_of xs k = drop (count_before key_of k xs) xs

-- those of them that stand behind the key
abbrev pub behind : {T : Type 0} → (T → ℕ × ℕ) → List T → ℕ × ℕ → List T
behind key_of xs k = drop (bit (is_some (head_at key_of (from key_of xs k) k))) (from key_of xs k)

front_append : {T : Type 0} (o : Option T) (xs : List T) → in_front o [] ++ xs ≡ in_front o xs
front_append None xs = refl
front_append (Some z) xs = refl

-- one row worked in: what comes before it stays, then what it leaves, then the rest with the rest of the list
pub edited_turn : {T : Type 0} (key_of : T → ℕ × ℕ) (edit : Option T → T → Option T) (y : T) (xs ys : List T) → StaysAt key_of edit → Rises key_of (y ∷ ys) →
    edited_all key_of edit xs (y ∷ ys) ≡ (take (count_before key_of (key_of y) xs) xs ++ in_front (edit (head_at key_of (from key_of xs (key_of y)) (key_of y)) y) []) ++ edited_all key_of edit (behind key_of xs (key_of y)) ys
edited_turn key_of edit y [] ys stays r = front_past key_of edit (key_of y) (edit None y) [] ys (stays None y) r.0 ∙ sym (front_append (edit None y) (edited_all key_of edit [] ys))
edited_turn {T} key_of edit y (x ∷ xs) ys stays r = elim (cases_Bool (before (key_of x) (key_of y))) [
  | inl b ↦ edited_past key_of edit x xs (y ∷ ys) (before_then_after key_of x y ys b r) ∙ ap (λ (l : List T). x ∷ l) (edited_turn key_of edit y xs ys stays r) ∙ rw b refl
  | inr b ↦ elim (cases_Bool (same (key_of x) (key_of y))) [
    | inl s ↦ rw (b, s) (front_past key_of edit (key_of y) (edit (Some x) y) xs ys (stays (Some x) y) r.0 ∙ sym (front_append (edit (Some x) y) (edited_all key_of edit xs ys)))
    | inr s ↦ rw (b, s) (front_past key_of edit (key_of y) (edit None y) (x ∷ xs) ys (stays None y) r.0 ∙ sym (front_append (edit None y) (edited_all key_of edit (x ∷ xs) ys)))
  ]
]

-- ---- rows that come in

new_past : {T : Type 0} (key_of : T → ℕ × ℕ) (edit : Option T → T → Option T) (x : T) (xs ys : List T) → AllAfter key_of (key_of x) ys → new_rows key_of edit (x ∷ xs) ys ≡ new_rows key_of edit xs ys
new_past key_of edit x xs [] a = refl
new_past key_of edit x xs (y ∷ ys) a = rw (before_not_same (key_of x) (key_of y) a.0, new_past key_of edit x xs ys a.1) refl

-- a row comes in where none stands at its key, and then as many as come in behind it
pub new_turn : {T : Type 0} (key_of : T → ℕ × ℕ) (edit : Option T → T → Option T) (y : T) (xs ys : List T) → Rises key_of xs → Rises key_of (y ∷ ys) →
    new_rows key_of edit xs (y ∷ ys) ≡ bit (is_none (head_at key_of (from key_of xs (key_of y)) (key_of y)) && is_some (edit None y)) + new_rows key_of edit (behind key_of xs (key_of y)) ys
new_turn key_of edit y [] ys o r = refl
new_turn key_of edit y (x ∷ xs) ys o r = elim (cases_Bool (before (key_of x) (key_of y))) [
  | inl b ↦ new_past key_of edit x xs (y ∷ ys) (before_then_after key_of x y ys b r) ∙ new_turn key_of edit y xs ys o.1 r ∙ rw b refl
  | inr b ↦ elim (cases_Bool (same (key_of x) (key_of y))) [
    | inl s ↦ rw (b, s, new_past key_of edit x xs ys (rw (same_is (key_of x) (key_of y) s) r.0)) refl
    | inr s ↦
        let up : before (key_of y) (key_of x) ≡ true = before_from_not (key_of x) (key_of y) b s in
        let here = none_after key_of (key_of y) (key_of y) xs (AllAfter-trans key_of (key_of y) (key_of x) xs up o.0) (same_here (key_of y)) in
        rw (b, s, here) refl
  ]
]

-- no more rows come in than the list has
pub new_rows-le : {T : Type 0} (key_of : T → ℕ × ℕ) (edit : Option T → T → Option T) (xs ys : List T) → new_rows key_of edit xs ys ≤ length ys
new_rows-le key_of edit xs [] = omega arith
new_rows-le key_of edit xs (y ∷ ys) = omega (arith, new_rows-le key_of edit xs ys, bit-le-one (is_none (row_at key_of xs (key_of y)) && is_some (edit None y)))

-- ---- parts of lists

pub drop_more : {T : Type 0} (i n : ℕ) (xs : List T) → drop (i + n) xs ≡ drop n (drop i xs)
drop_more zero n xs = rw (zero-add n) refl
drop_more (suc i) n [] = drop_none (suc i + n) ∙ sym (drop_none n)
drop_more (suc i) n (x ∷ xs) = ap (λ k. drop k (x ∷ xs)) (let e : suc i + n ≡ suc (i + n) = omega arith in e) ∙ drop_more i n xs

pub Rises-drop : {T : Type 0} (key_of : T → ℕ × ℕ) (n : ℕ) (xs : List T) → Rises key_of xs → Rises key_of (drop n xs)
Rises-drop key_of zero xs r = r
Rises-drop key_of (suc n) [] r = r
Rises-drop key_of (suc n) (x ∷ xs) r = Rises-drop key_of n xs r.1

-- ---- one turn of the pass, by the lists that its steps leave

regrouped : {T : Type 0} (a b c d : List T) → ((a ++ b) ++ c) ++ d ≡ a ++ ((b ++ c) ++ d)
regrouped a b c d = simp append_assoc

-- a turn leaves the rows behind the key to be gone through, and all comes to the same list in the end
pub turn_total : {T : Type 0} (key_of : T → ℕ × ℕ) (edit : Option T → T → Option T) (y : T) (ys cur cur1 cur2 : List T) (write read n h b : ℕ) (held : Option T) → StaysAt key_of edit → Rises key_of (y ∷ ys) →
    n ≡ count_before key_of (key_of y) (drop read cur) → drop (read + n) cur1 ≡ drop n (drop read cur) → held ≡ head_at key_of (drop (read + n) cur1) (key_of y) → h ≡ bit (is_some held) →
    take (write + n) cur1 ≡ take write cur ++ take n (drop read cur) → take ((write + n) + b) cur2 ≡ take (write + n) cur1 ++ in_front (edit held y) [] → drop (read + (n + h)) cur2 ≡ drop (read + (n + h)) cur1 →
    (drop (read + (n + h)) cur2 ≡ behind key_of (drop read cur) (key_of y)) × (take ((write + n) + b) cur2 ++ edited_all key_of edit (drop (read + (n + h)) cur2) ys ≡ take write cur ++ edited_all key_of edit (drop read cur) (y ∷ ys))
turn_total {T} key_of edit y ys cur cur1 cur2 write read n h b held stays r en rest1 eh ec done1 done2 rest2 =
    let xs = drop read cur in
    let at : drop (read + n) cur1 ≡ from key_of xs (key_of y) = rest1 ∙ ap (λ (k : ℕ). drop k xs) en in
    let is : held ≡ head_at key_of (from key_of xs (key_of y)) (key_of y) = eh ∙ ap (λ (l : List T). head_at key_of l (key_of y)) at in
    let rest : drop (read + (n + h)) cur2 ≡ behind key_of xs (key_of y) =
    rest2 ∙ ap (λ (k : ℕ). drop k cur1) (let e : read + (n + h) ≡ (read + n) + h = omega arith in e) ∙ drop_more (read + n) h cur1 ∙ ap (λ (l : List T). drop h l) at ∙ ap (λ (k : ℕ). drop k (from key_of xs (key_of y))) (ec ∙ ap (λ (o : Option T). bit (is_some o)) is) in
    let front : take ((write + n) + b) cur2 ≡ (take write cur ++ take (count_before key_of (key_of y) xs) xs) ++ in_front (edit (head_at key_of (from key_of xs (key_of y)) (key_of y)) y) [] =
    done2 ∙ ap (λ (l : List T). l ++ in_front (edit held y) []) (done1 ∙ ap (λ (k : ℕ). take write cur ++ take k xs) en) ∙ ap (λ (o : Option T). (take write cur ++ take (count_before key_of (key_of y) xs) xs) ++ in_front (edit o y) []) is in
    let joined : take ((write + n) + b) cur2 ++ edited_all key_of edit (drop (read + (n + h)) cur2) ys ≡ ((take write cur ++ take (count_before key_of (key_of y) xs) xs) ++ in_front (edit (head_at key_of (from key_of xs (key_of y)) (key_of y)) y) []) ++ edited_all key_of edit (behind key_of xs (key_of y)) ys =
    ap (λ (l : List T). l ++ edited_all key_of edit (drop (read + (n + h)) cur2) ys) front ∙ ap (λ (l : List T). ((take write cur ++ take (count_before key_of (key_of y) xs) xs) ++ in_front (edit (head_at key_of (from key_of xs (key_of y)) (key_of y)) y) []) ++ edited_all key_of edit l ys) rest in
    (rest, joined ∙ regrouped (take write cur) (take (count_before key_of (key_of y) xs) xs) (in_front (edit (head_at key_of (from key_of xs (key_of y)) (key_of y)) y) []) (edited_all key_of edit (behind key_of xs (key_of y)) ys) ∙ sym (ap (λ (l : List T). take write cur ++ l) (edited_turn key_of edit y xs ys stays r)))

-- the room that is left for rows that come in
pub turn_room : {T : Type 0} (key_of : T → ℕ × ℕ) (edit : Option T → T → Option T) (y : T) (ys xs : List T) (write read n : ℕ) (held : Option T) → Rises key_of xs → Rises key_of (y ∷ ys) → held ≡ head_at key_of (from key_of xs (key_of y)) (key_of y) → write + new_rows key_of edit xs (y ∷ ys) ≤ read →
    (IsSome (edit held y) → write + n < read + n + bit (is_some held)) × (((write + n) + bit (is_some (edit held y))) + new_rows key_of edit (behind key_of xs (key_of y)) ys ≤ read + (n + bit (is_some held)))
turn_room {T} key_of edit y ys xs write read n None o r e room =
    let turn = new_turn key_of edit y xs ys o r in
    let same_bit = ap (λ (held : Option T). bit (is_none held && is_some (edit None y))) e in
    (λ s. omega (arith, turn, same_bit, some_bit (edit None y) s), omega (arith, turn, same_bit))
turn_room {T} key_of edit y ys xs write read n (Some x) o r e room =
    let turn = new_turn key_of edit y xs ys o r in
    let same_bit = ap (λ (held : Option T). bit (is_none held && is_some (edit None y))) e in
    let one = bit-le-one (is_some (edit (Some x) y)) in
    (λ s. omega (arith, turn, same_bit), omega (arith, turn, same_bit, one))

-- ---- one turn of a loop that moves rows down

-- the row that is moved is the next one, it stands behind those moved before, and the rest stays to be moved
pub shift_turn : {T : Type 0} (cur front xs : List T) (write read n : ℕ) (row : T) → write ≤ read → read + n < length cur → take (write + n) cur ≡ front ++ take n xs → drop (read + n) cur ≡ drop n xs → row ≡ get_or cur (read + n) row →
    (drop n xs ≡ row ∷ drop (n + 1) xs) × (take (write + (n + 1)) (set cur (write + n) row) ≡ front ++ take (n + 1) xs) × (drop (read + (n + 1)) (set cur (write + n) row) ≡ drop (n + 1) xs)
shift_turn {T} cur front xs write read n row le lt done rest is =
    let here : drop (read + n) cur ≡ get_or cur (read + n) row ∷ drop (suc (read + n)) cur = drop-cons cur (read + n) row lt in
    let within : n < length xs = (let a = ap length rest in omega (arith, length-drop (read + n) cur, length-drop n xs)) in
    let there : drop n xs ≡ get_or xs n row ∷ drop (suc n) xs = drop-cons xs n row within in
    let both : row ∷ drop (suc (read + n)) cur ≡ get_or xs n row ∷ drop (suc n) xs = ap (λ (x : T). x ∷ drop (suc (read + n)) cur) is ∙ sym here ∙ rest ∙ there in
    let head : row ≡ get_or xs n row = cc in
    let tail : drop (suc (read + n)) cur ≡ drop (suc n) xs = cc in
    let one : n + 1 ≡ suc n = omega arith in (
      there ∙ ap (λ (x : T). x ∷ drop (suc n) xs) (sym head) ∙ ap (λ (k : ℕ). row ∷ drop k xs) (sym one),
      ap (λ (k : ℕ). take k (set cur (write + n) row)) (let e : write + (n + 1) ≡ suc (write + n) = omega arith in e) ∙ take-suc-set cur (write + n) row (omega arith) ∙ ap (λ (l : List T). l ++ row ∷ []) done ∙ append_assoc front (take n xs) (row ∷ []) ∙ ap (λ (x : T). front ++ (take n xs ++ x ∷ [])) head ∙ ap (λ (l : List T). front ++ l) (sym (take-suc xs n row within) ∙ ap (λ (k : ℕ). take k xs) (sym one)),
      ap (λ (k : ℕ). drop k (set cur (write + n) row)) (let e : read + (n + 1) ≡ suc (read + n) = omega arith in e) ∙ drop-set-lt (suc (read + n)) cur (write + n) row (omega arith) ∙ tail ∙ ap (λ (k : ℕ). drop k xs) (sym one),
    )

-- the number behind a row that is there, or that no row is at, is within the rows
pub here_within : {T : Type 0} (held : Option T) (number count : ℕ) → number ≤ count → (IsSome held → number < count) → number + bit (is_some held) ≤ count
here_within None number count le lt = omega arith
here_within (Some x) number count le lt = let l = lt refl in omega arith

-- the rows behind a key rise, as all do
pub Rises-behind : {T : Type 0} (key_of : T → ℕ × ℕ) (xs : List T) (k : ℕ × ℕ) → Rises key_of xs → Rises key_of (behind key_of xs k)
Rises-behind key_of xs k r = Rises-drop key_of (bit (is_some (head_at key_of (from key_of xs k) k))) (from key_of xs k) (Rises-drop key_of (count_before key_of k xs) xs r)
