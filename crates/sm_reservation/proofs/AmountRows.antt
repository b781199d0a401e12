-- Rows of amounts, whether of room or of spare replicas: what an edit leaves of an amount, and how many rows there are then.
use Rattle.std.specs.Prelude.{if◌then◌else◌}
use Rattle.std.proofs.Common.{◌≡◌, ℕ, ◌+◌, ◌-◌, ◌%◌, ◌^◌, ◌≤◌, ◌<◌, ◌&&◌, nat_lt, ◌==◌, true, false, cond, Bool, eqb, Option, Some, None, is_some, is_none, List, length, refl, sym, ◌∙◌, ap, arith, inl, inr}
use Rattle.std.proofs.lemmas.Bool.{cases_Bool}
use Rattle.std.proofs.lemmas.Bool.Decides.{nat_tests}
use Rattle.sm_placement.specs.Sums.{bit}
use Rattle.sm_reservation.specs.declared.right.Room.{Room}
use Rattle.sm_reservation.specs.declared.right.Spare.{Spare}
use Rattle.sm_reservation.specs.Rows.{same, row_at, amount_of, amount_at, Rises, HasPositive}
use Rattle.sm_reservation.specs.Key.{key_of_room, key_of_spare}
use Rattle.sm_reservation.specs.Edits.{StaysAt, edited}
use Rattle.sm_placement.proofs.Sums.{bit-le-one}
use Rattle.sm_reservation.proofs.AmountLemmas.{positive_at}
use Rattle.sm_reservation.proofs.EditLemmas.{row_at-edited, length-edited, edited_same}

-- a kind of rows with an amount: a row's key and its amount, and the row with another amount
pub record AmountRows (T : Type 0) : Type 0 where
  pub key_of : T → ℕ × ℕ
  pub amount : T → ℕ
  pub with_amount : T → ℕ → T
  pub key_stays : (y : T) (n : ℕ) → key_of (with_amount y n) ≡ key_of y
  pub amount_is : (y : T) (n : ℕ) → amount (with_amount y n) ≡ n

-- rows of room
abbrev pub of_room : AmountRows Room
of_room = record { key_of = key_of_room; amount = λ x. x.amount; with_amount = λ y n. record y { amount = n }; key_stays = λ y n. refl; amount_is = λ y n. refl }

-- rows of spare replicas
abbrev pub of_spare : AmountRows Spare
of_spare = record { key_of = key_of_spare; amount = λ x. x.amount; with_amount = λ y n. record y { amount = n }; key_stays = λ y n. refl; amount_is = λ y n. refl }

-- the row of an amount, where there is any
abbrev pub row_of : {T : Type 0} → AmountRows T → T → ℕ → Option T
row_of a y n = if n == 0 then None else Some (a.with_amount y n)

-- what an edit leaves: the row of what a function makes of the amount that stood there and of the one that is worked in
abbrev pub row_by : {T : Type 0} → AmountRows T → (ℕ → ℕ → ℕ) → Option T → T → Option T
row_by a make held y = row_of a y (make (amount_of a.amount held) (a.amount y))

-- an amount is taken out
abbrev pub out_of : ℕ → ℕ → ℕ
out_of had n = had - n

-- an amount is put in
abbrev pub into : ℕ → ℕ → ℕ
into had n = had + n

-- an amount is put in, as a machine word holds the sum
abbrev pub into_word : ℕ → ℕ → ℕ
into_word had n = (had + n) % 2 ^ 64

amount_cond : {T : Type 0} (amount : T → ℕ) (b : Bool) (o p : Option T) → amount_of amount (cond b o p) ≡ cond b (amount_of amount o) (amount_of amount p)
amount_cond amount true o p = refl
amount_cond amount false o p = refl

left_over : (had n : ℕ) → n ≤ had → bit (nat_lt 0 had) ≡ bit (nat_lt 0 n && (had == n)) + bit (nat_lt 0 (had - n))
left_over had n l = elim (cases_Bool (nat_lt 0 n)) [
  | inl a ↦ elim (cases_Bool (eqb had n)) [
    | inl b ↦ rw (a, b, (let z : nat_lt 0 had ≡ true = grind (arith, nat_tests) in z), (let z : nat_lt 0 (had - n) ≡ false = grind (arith, nat_tests) in z)) refl
    | inr b ↦ rw (a, b, (let z : nat_lt 0 had ≡ true = grind (arith, nat_tests) in z), (let z : nat_lt 0 (had - n) ≡ true = grind (arith, nat_tests) in z)) refl
  ]
  | inr a ↦ rw a (let z : had - n ≡ had = grind (arith, nat_tests) in rw z (omega arith))
]

more_then : (had n : ℕ) → bit (nat_lt 0 (had + n)) ≡ bit (nat_lt 0 had) + bit (nat_lt 0 n && (had == 0))
more_then had n = elim (cases_Bool (nat_lt 0 n)) [
  | inl a ↦ elim (cases_Bool (eqb had 0)) [
    | inl b ↦ rw (a, b, (let z : nat_lt 0 had ≡ false = grind (arith, nat_tests) in z), (let z : nat_lt 0 (had + n) ≡ true = grind (arith, nat_tests) in z)) refl
    | inr b ↦ rw (a, b, (let z : nat_lt 0 had ≡ true = grind (arith, nat_tests) in z), (let z : nat_lt 0 (had + n) ≡ true = grind (arith, nat_tests) in z)) refl
  ]
  | inr a ↦ rw a (let z : had + n ≡ had = grind (arith, nat_tests) in rw z (omega arith))
]

some_held : {T : Type 0} (key_of : T → ℕ × ℕ) (amount : T → ℕ) (k : ℕ × ℕ) (xs : List T) (o : Option T) → HasPositive amount xs → row_at key_of xs k ≡ o → bit (is_some o) ≡ bit (nat_lt 0 (amount_of amount o))
some_held key_of amount k xs None p e = refl
some_held key_of amount k xs (Some x) p e = let l = positive_at key_of amount k xs x p e in let z : nat_lt 0 (amount x) ≡ true = grind (arith, nat_tests) in rw z refl

module _ {T : Type 0} (a : AmountRows T) where
  -- ---- one row

  -- a row made of an amount has the key of the row that it was made for, and the amount, which is not 0
  made_row : (y z : T) (n : ℕ) → row_of a y n ≡ Some z → (a.key_of z ≡ a.key_of y) × (a.amount z ≡ n) × (0 < n)
  made_row y z n e = elim (cases_Bool (eqb n 0)) [
    | inl b ↦ let f = rw b at e in absurd cc
    | inr b ↦
        let f = rw b at e in
        let d : a.with_amount y n ≡ z = cc in
        (ap a.key_of (sym d) ∙ a.key_stays y n, ap a.amount (sym d) ∙ a.amount_is y n, (let some : 0 < n = grind (arith, nat_tests) in some))
  ]

  amount_of_row : (y : T) (n : ℕ) → amount_of a.amount (row_of a y n) ≡ n
  amount_of_row y n = elim (cases_Bool (eqb n 0)) [
    | inl b ↦ rw b (let z : n ≡ 0 = grind (arith, nat_tests) in sym z)
    | inr b ↦ rw b (a.amount_is y n)
  ]

  some_row : (y : T) (n : ℕ) → bit (is_some (row_of a y n)) ≡ bit (nat_lt 0 n)
  some_row y n = elim (cases_Bool (eqb n 0)) [
    | inl b ↦ rw (b, (let z : nat_lt 0 n ≡ false = grind (arith, nat_tests) in z)) refl
    | inr b ↦ rw (b, (let z : nat_lt 0 n ≡ true = grind (arith, nat_tests) in z)) refl
  ]

  -- what an edit leaves stands at the key of the row worked in
  pub stays_by : (make : ℕ → ℕ → ℕ) → StaysAt a.key_of (row_by a make)
  stays_by make held y z e = (made_row y z (make (amount_of a.amount held) (a.amount y)) e).0

  -- and is not of 0
  pub some_by : (make : ℕ → ℕ → ℕ) (held : Option T) (y z : T) → row_by a make held y ≡ Some z → 0 < a.amount z
  some_by make held y z e = let made = made_row y z (make (amount_of a.amount held) (a.amount y)) e in omega (arith, made.1, made.2)

  -- what is left of a u64 is one
  pub out_small : (held : Option T) (y z : T) → ((x : T) → held ≡ Some x → a.amount x < 2 ^ 64) → row_by a out_of held y ≡ Some z → a.amount z < 2 ^ 64
  out_small None y z h e = let made = made_row y z (0 - a.amount y) e in omega (arith, made.1)
  out_small (Some x) y z h e = let made = made_row y z (a.amount x - a.amount y) e in let l : a.amount x < 2 ^ 64 = h x refl in omega (arith, made.1)

  -- and so is a sum that a machine word holds
  pub word_small : (held : Option T) (y z : T) → ((x : T) → held ≡ Some x → a.amount x < 2 ^ 64) → row_by a into_word held y ≡ Some z → a.amount z < 2 ^ 64
  word_small held y z h e = let made = made_row y z ((amount_of a.amount held + a.amount y) % 2 ^ 64) e in omega (arith, made.1)

  -- where no row stands, one comes in only for an amount that there is
  pub comes_new : (y : T) (o : Option T) → bit (is_none o && is_some (row_by a into_word None y)) ≤ bit (nat_lt 0 (a.amount y) && (amount_of a.amount o == 0))
  comes_new y (Some x) = omega arith
  comes_new y None = elim (cases_Bool (nat_lt 0 (a.amount y))) [
    | inl b ↦ rw b (bit-le-one (is_some (row_by a into_word None y)))
    | inr b ↦ rw (b, (let z : (0 + a.amount y) % 2 ^ 64 ≡ 0 = (let n : a.amount y ≡ 0 = grind (arith, nat_tests) in rw n refl) in z)) (omega arith)
  ]

  -- ---- one row worked in

  -- the amounts once a row is worked in: at its key what the edit makes of the two, at each other key what there was
  pub amount_edited : (make : ℕ → ℕ → ℕ) (y : T) (q : ℕ × ℕ) (xs : List T) → Rises a.key_of xs →
      amount_at a.key_of a.amount (edited a.key_of (row_by a make) xs y) q ≡ cond (same (a.key_of y) q) (make (amount_at a.key_of a.amount xs (a.key_of y)) (a.amount y)) (amount_at a.key_of a.amount xs q)
  amount_edited make y q xs o =
      ap (amount_of a.amount) (row_at-edited a.key_of (row_by a make) y q xs (stays_by make) o)
      ∙ amount_cond a.amount (same (a.key_of y) q) (row_by a make (row_at a.key_of xs (a.key_of y)) y) (row_at a.key_of xs q)
      ∙ ap (λ (n : ℕ). cond (same (a.key_of y) q) n (amount_at a.key_of a.amount xs q)) (amount_of_row y (make (amount_at a.key_of a.amount xs (a.key_of y)) (a.amount y)))

  -- there is one row fewer where all of an amount is taken out
  pub length_out : (y : T) (xs : List T) → Rises a.key_of xs → HasPositive a.amount xs → a.amount y ≤ amount_at a.key_of a.amount xs (a.key_of y) →
      length (edited a.key_of (row_by a out_of) xs y) + bit (nat_lt 0 (a.amount y) && (amount_at a.key_of a.amount xs (a.key_of y) == a.amount y)) ≡ length xs
  length_out y xs o p has =
      let had = amount_at a.key_of a.amount xs (a.key_of y) in
      omega (arith, length-edited a.key_of (row_by a out_of) y xs o, some_held a.key_of a.amount (a.key_of y) xs (row_at a.key_of xs (a.key_of y)) p refl, some_row y (had - a.amount y), left_over had (a.amount y) has)

  -- there is one more where an amount is put in and there was none
  pub length_in : (y : T) (xs : List T) → Rises a.key_of xs → HasPositive a.amount xs →
      length (edited a.key_of (row_by a into) xs y) ≡ length xs + bit (nat_lt 0 (a.amount y) && (amount_at a.key_of a.amount xs (a.key_of y) == 0))
  length_in y xs o p =
      let had = amount_at a.key_of a.amount xs (a.key_of y) in
      omega (arith, length-edited a.key_of (row_by a into) y xs o, some_held a.key_of a.amount (a.key_of y) xs (row_at a.key_of xs (a.key_of y)) p refl, some_row y (had + a.amount y), more_then had (a.amount y))

  -- where the sum fits, a machine word holds it
  pub edited_in_word : (y : T) (xs : List T) → Rises a.key_of xs → amount_at a.key_of a.amount xs (a.key_of y) + a.amount y < 2 ^ 64 → edited a.key_of (row_by a into_word) xs y ≡ edited a.key_of (row_by a into) xs y
  edited_in_word y xs o fits =
      let had = amount_at a.key_of a.amount xs (a.key_of y) in
      let small : (had + a.amount y) % 2 ^ 64 ≡ had + a.amount y = omega arith in
      edited_same a.key_of (row_by a into_word) (row_by a into) y xs o (ap (row_of a y) small)
