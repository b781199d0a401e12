-- Counts of copies.
use Rattle.std.proofs.Common.{◌≡◌, ℕ, suc, ◌+◌, ◌<◌, ◌≤◌, ◌⊎◌, ◌==◌, inl, inr, Bool, true, false, cond, List, [], ◌∷◌, length, get_or, count_by, refl, sym, leb-true, le-leb, arith}
use Rattle.std.specs.Prelude.{nat_le}
use Rattle.std.proofs.lemmas.Bool.{and_from, and_parts, cases_Bool, cases_lt, false≢true}
use Rattle.std.proofs.lemmas.List.Sums.{sum_by-cons, sum_by-le-sum_by}
use Rattle.sm_copies.specs.declared.order.ToldCopy.{ToldCopy}
use Rattle.sm_copies.specs.Counting.{HaveEnough, counts}

bit-more : (a b : Bool) → (a ≡ true → b ≡ true) → cond a 1 0 ≤ cond b 1 0
bit-more false b h = omega arith
bit-more true b h = rw (h refl) (omega arith)

-- if each that passes one test passes another one, as many pass that
pub count-more : {X : Type 0} (p q : X → Bool) (xs : List X) → ((x : X) → p x ≡ true → q x ≡ true) → count_by p xs ≤ count_by q xs
count-more p q xs h = sum_by-le-sum_by (λ x. cond (p x) 1 0) (λ x. cond (q x) 1 0) xs (λ x. bit-more (p x) (q x) (h x))

-- a count of one more
pub count-step : {X : Type 0} (p : X → Bool) (x : X) (xs : List X) → count_by p (x ∷ xs) ≡ cond (p x) 1 0 + count_by p xs
count-step p x xs = sum_by-cons (λ y. cond (p y) 1 0) x xs

-- what a test adds to a count
pub adds-one : (b : Bool) → b ≡ true → ◌≡◌ {A = ℕ} (cond b 1 0) 1
adds-one true e = refl
adds-one false e = absurd (false≢true e)

pub adds-none : (b : Bool) → b ≡ false → ◌≡◌ {A = ℕ} (cond b 1 0) 0
adds-none false e = refl
adds-none true e = absurd (false≢true (sym e))

-- a copy that counts for a position counts for each one before it
pub counts-before : (view before position : ℕ) (c : ToldCopy) → before ≤ position → counts view position c ≡ true → counts view before c ≡ true
counts-before view before position c l h =
    let a = and_parts (c.view == view) (nat_le position c.position) h in
    let b : position ≤ c.position = leb-true position c.position a.1 in
    and_from (c.view == view) (nat_le before c.position) a.0 (le-leb before c.position (omega arith))

-- as many have what stands before a position
pub count-before : (view before position : ℕ) (told : List ToldCopy) → before ≤ position → count_by (counts view position) told ≤ count_by (counts view before) told
count-before view before position told l = count-more (counts view position) (counts view before) told (λ c h. counts-before view before position c l h)

-- if enough have a position, enough have each one before it
pub enough-before : (copies : ℕ) (own : ToldCopy) (told : List ToldCopy) (before position : ℕ) → before ≤ position → HaveEnough copies own told position → HaveEnough copies own told before
enough-before copies own told before position l h =
    let few : copies ≤ suc (count_by (counts own.view position) told) = h.1 in
    let all : position ≤ own.position = h.0 in
    let m : count_by (counts own.view position) told ≤ count_by (counts own.view before) told = count-before own.view before position told l in
    (omega arith, omega arith)

-- The position of one of the copies, which as many have as have what stands before it.
pub record IsTold (view position : ℕ) (told : List ToldCopy) : Type 0 where
  pub index : ℕ
  pub inside : index < length told
  pub at : ℕ
  pub is : (d : ToldCopy) → (get_or told index d).position ≡ at
  pub behind : position ≤ at
  pub many : count_by (counts view position) told ≤ count_by (counts view at) told

-- one that counts, before some that do not
first-alone : (view position : ℕ) (c : ToldCopy) (cs : List ToldCopy) → counts view position c ≡ true → count_by (counts view position) cs ≡ 0 → IsTold view position (c ∷ cs)
first-alone view position c cs e z =
    let a = and_parts (c.view == view) (nat_le position c.position) e in
    let l : position ≤ c.position = leb-true position c.position a.1 in
    let own : counts view c.position c ≡ true = and_from (c.view == view) (nat_le c.position c.position) a.0 (le-leb c.position c.position (omega arith)) in
    let now : count_by (counts view position) (c ∷ cs) ≡ cond (counts view position c) 1 0 + count_by (counts view position) cs = count-step (counts view position) c cs in
    let there : count_by (counts view c.position) (c ∷ cs) ≡ cond (counts view c.position c) 1 0 + count_by (counts view c.position) cs = count-step (counts view c.position) c cs in
    let x = adds-one (counts view position c) e in
    let y = adds-one (counts view c.position c) own in
    record { index = 0; inside = omega arith; at = c.position; is = λ d. refl; behind = l; many = omega arith }

-- one that counts, before some that do
first-of-more : (view position : ℕ) (c : ToldCopy) (cs : List ToldCopy) → counts view position c ≡ true → IsTold view position cs → IsTold view position (c ∷ cs)
first-of-more view position c cs e t =
    let a = and_parts (c.view == view) (nat_le position c.position) e in
    let l : position ≤ c.position = leb-true position c.position a.1 in
    let own = λ (k : ℕ) (m : k ≤ c.position). and_from (c.view == view) (nat_le k c.position) a.0 (le-leb k c.position m) in
    let now : count_by (counts view position) (c ∷ cs) ≡ cond (counts view position c) 1 0 + count_by (counts view position) cs = count-step (counts view position) c cs in
    let x = adds-one (counts view position c) e in
    let m : count_by (counts view position) cs ≤ count_by (counts view t.at) cs = t.many in
    elim (cases_lt c.position t.at) [
      | inl less ↦
          let n : count_by (counts view t.at) cs ≤ count_by (counts view c.position) cs = count-before view c.position t.at cs (omega arith) in
          let there : count_by (counts view c.position) (c ∷ cs) ≡ cond (counts view c.position c) 1 0 + count_by (counts view c.position) cs =
          count-step (counts view c.position) c cs in
          let y = adds-one (counts view c.position c) (own c.position (omega arith)) in
          record { index = 0; inside = omega arith; at = c.position; is = λ d. refl; behind = l; many = omega arith }
      | inr more ↦
          let far : count_by (counts view t.at) (c ∷ cs) ≡ cond (counts view t.at c) 1 0 + count_by (counts view t.at) cs = count-step (counts view t.at) c cs in
          let z = adds-one (counts view t.at c) (own t.at more) in
          record { index = suc t.index; inside = (let i : t.index < length cs = t.inside in omega arith); at = t.at; is = t.is; behind = t.behind; many = omega arith }
    ]

-- one that does not count, before some that do
behind-other : (view position : ℕ) (c : ToldCopy) (cs : List ToldCopy) → counts view position c ≡ false → IsTold view position cs → IsTold view position (c ∷ cs)
behind-other view position c cs e t =
    let now : count_by (counts view position) (c ∷ cs) ≡ cond (counts view position c) 1 0 + count_by (counts view position) cs = count-step (counts view position) c cs in
    let far : count_by (counts view t.at) (c ∷ cs) ≡ cond (counts view t.at c) 1 0 + count_by (counts view t.at) cs = count-step (counts view t.at) c cs in
    let x = adds-none (counts view position c) e in
    let m : count_by (counts view position) cs ≤ count_by (counts view t.at) cs = t.many in
    record { index = suc t.index; inside = (let i : t.index < length cs = t.inside in omega arith); at = t.at; is = t.is; behind = t.behind; many = omega arith }

none-more : (view position : ℕ) (c : ToldCopy) (cs : List ToldCopy) → counts view position c ≡ false → count_by (counts view position) cs ≡ 0 → count_by (counts view position) (c ∷ cs) ≡ 0
none-more view position c cs e z =
    let now : count_by (counts view position) (c ∷ cs) ≡ cond (counts view position c) 1 0 + count_by (counts view position) cs = count-step (counts view position) c cs in
    let x = adds-none (counts view position c) e in
    omega arith

-- no copy counts for a position, or just as many count for that of one of them
pub told-or-none : (view position : ℕ) (told : List ToldCopy) → (count_by (counts view position) told ≡ 0) ⊎ IsTold view position told
told-or-none view position [] = inl refl
told-or-none view position (c ∷ cs) = elim (cases_Bool (counts view position c)) [
  | inl e ↦ elim (told-or-none view position cs) [ inl z ↦ inr (first-alone view position c cs e z) | inr t ↦ inr (first-of-more view position c cs e t) ]
  | inr e ↦ elim (told-or-none view position cs) [ inl z ↦ inl (none-more view position c cs e z) | inr t ↦ inr (behind-other view position c cs e t) ]
]

-- If enough have a position, they have the primary's own, or one that was told and is not before it.
pub own-or-told : (copies : ℕ) (own : ToldCopy) (told : List ToldCopy) (position : ℕ) → HaveEnough copies own told position →
    HaveEnough copies own told own.position ⊎ ((t : IsTold own.view position told) × HaveEnough copies own told t.at)
own-or-told copies own told position h =
    let few : copies ≤ suc (count_by (counts own.view position) told) = h.1 in
    elim (told-or-none own.view position told) [
      | inl z ↦ inl (omega arith, omega arith)
      | inr t ↦
          let m : count_by (counts own.view position) told ≤ count_by (counts own.view t.at) told = t.many in
          elim (cases_lt own.position t.at) [
            | inl less ↦
                let n : count_by (counts own.view t.at) told ≤ count_by (counts own.view own.position) told = count-before own.view own.position t.at told (omega arith) in
                inl (omega arith, omega arith)
            | inr l ↦ inr (t, (l, omega arith))
          ]
    ]
