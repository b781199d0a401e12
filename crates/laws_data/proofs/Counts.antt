-- Counts of servers.
use Rattle.std.proofs.Common.{◌≡◌, ℕ, zero, suc, ◌+◌, ◌<◌, ◌≤◌, ◌⊎◌, inl, inr, Bool, true, false, not, ◌&&◌, refl, sym, ap, ◌∙◌, arith}
use Rattle.std.proofs.lemmas.Bool.{and_from, and_parts, cases_Bool, cases_eq}
use Rattle.sm_placement.specs.Sums.{bit, count_below}

bit-more : (a b : Bool) → (a ≡ true → b ≡ true) → bit a ≤ bit b
bit-more false b h = omega arith
bit-more true b h = rw (h refl) (omega arith)

-- if each that passes one test passes another one, as many pass that
pub count-more : (n : ℕ) (p q : ℕ → Bool) → ((k : ℕ) → p k ≡ true → q k ≡ true) → count_below n p ≤ count_below n q
count-more zero p q h = omega arith
count-more (suc n) p q h =
    let i : count_below n p ≤ count_below n q = count-more n p q h in
    let l : bit (p n) ≤ bit (q n) = bit-more (p n) (q n) (h n) in
    omega arith

bit-either : (a b c : Bool) → (a ≡ true → (b ≡ true) ⊎ (c ≡ true)) → bit a ≤ bit b + bit c
bit-either false b c h = omega arith
bit-either true b c h = elim (h refl) [
  | inl e ↦ rw e (omega arith)
  | inr e ↦ rw e (omega arith)
]

-- if each that passes one test passes one of two others
pub count-either : (n : ℕ) (p q r : ℕ → Bool) → ((k : ℕ) → p k ≡ true → (q k ≡ true) ⊎ (r k ≡ true)) → count_below n p ≤ count_below n q + count_below n r
count-either zero p q r h = omega arith
count-either (suc n) p q r h =
    let i : count_below n p ≤ count_below n q + count_below n r = count-either n p q r h in
    let l : bit (p n) ≤ bit (q n) + bit (r n) = bit-either (p n) (q n) (r n) (h n) in
    omega arith

-- if more pass one test than another one, somebody passes the first alone
pub count-apart : (n : ℕ) (p q : ℕ → Bool) → count_below n q < count_below n p → (k : ℕ) × (k < n) × (p k ≡ true) × (q k ≡ false)
count-apart zero p q l = absurd (omega arith)
count-apart (suc n) p q l = elim (cases_Bool (p n)) [
  | inl a ↦ elim (cases_Bool (q n)) [
    | inl b ↦
        let x : bit (p n) ≡ 1 = ap bit a in
        let y : bit (q n) ≡ 1 = ap bit b in
        let f = count-apart n p q (omega arith) in
        (f.0, omega arith, f.2, f.3)
    | inr b ↦ (n, omega arith, a, b)
  ]
  | inr a ↦
      let x : bit (p n) ≡ 0 = ap bit a in
      let f = count-apart n p q (omega arith) in
      (f.0, omega arith, f.2, f.3)
]

-- if each that passes one test passes another one, and somebody passes that alone
pub count-one-more : (n : ℕ) (p q : ℕ → Bool) (m : ℕ) → m < n → ((k : ℕ) → p k ≡ true → q k ≡ true) → p m ≡ false → q m ≡ true → suc (count_below n p) ≤ count_below n q
count-one-more zero p q m l h a b = absurd (omega arith)
count-one-more (suc n) p q m l h a b = elim (cases_eq m n) [
  | inl e ↦
      let i : count_below n p ≤ count_below n q = count-more n p q h in
      let x : bit (p n) ≡ 0 = ap (λ (k : ℕ). bit (p k)) (sym e) ∙ ap bit a in
      let y : bit (q n) ≡ 1 = ap (λ (k : ℕ). bit (q k)) (sym e) ∙ ap bit b in
      omega arith
  | inr d ↦
      let i : suc (count_below n p) ≤ count_below n q = count-one-more n p q m (omega arith) h a b in
      let l : bit (p n) ≤ bit (q n) = bit-more (p n) (q n) (h n) in
      omega arith
]

-- if each replica that stays and passes does so afterwards, enough of them do
pub enough-more : (n needed : ℕ) (r l t r' l' t' : ℕ → Bool) → needed ≤ count_below n (λ s. r s && (not (l s) && t s)) →
    ((s : ℕ) → r s ≡ true → not (l s) ≡ true → t s ≡ true → (r' s ≡ true) × (not (l' s) ≡ true) × (t' s ≡ true)) →
    needed ≤ count_below n (λ s. r' s && (not (l' s) && t' s))
enough-more n needed r l t r' l' t' e h =
    let m : count_below n (λ s. r s && (not (l s) && t s)) ≤ count_below n (λ s. r' s && (not (l' s) && t' s)) =
    count-more n (λ s. r s && (not (l s) && t s)) (λ s. r' s && (not (l' s) && t' s)) (λ s a.
    let p = and_parts (r s) (not (l s) && t s) a in
    let q = and_parts (not (l s)) (t s) p.1 in
    let g = h s p.0 q.0 q.1 in
    and_from (r' s) (not (l' s) && t' s) g.0 (and_from (not (l' s)) (t' s) g.1 g.2)) in
    omega arith
