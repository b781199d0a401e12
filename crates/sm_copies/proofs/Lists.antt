-- Beginnings of lists.
use Rattle.std.proofs.Common.{◌≡◌, ℕ, ◌<◌, ◌≤◌, ◌==◌, ◌⊎◌, inl, inr, true, false, List, [], ◌∷◌, ◌++◌, length, refl, sym, ap, ◌∙◌, subst, arith}
use Rattle.std.proofs.lemmas.Bool.{and_from, and_parts, eq-eqb, eqb-true, false≢true}
use Rattle.sm_copies.specs.Lists.{ListEntry, begins, is_same, last_view, view_of}

-- an entry is the same as itself
pub same-refl : (a : ListEntry) → is_same a a ≡ true
same-refl a = and_from (a.view == a.view) (a.write == a.write) (eq-eqb a.view a.view refl) (eq-eqb a.write a.write refl)

-- entries that are the same are equal
pub same-is : (a b : ListEntry) → is_same a b ≡ true → a ≡ b
same-is a b h =
    let p = and_parts (a.view == b.view) (a.write == b.write) h in
    let v : a.view ≡ b.view = eqb-true a.view b.view p.0 in
    let n : a.write ≡ b.write = eqb-true a.write b.write p.1 in
    ap (λ (k : ℕ). record { view = k; write = a.write }) v ∙ ap (λ (k : ℕ). record { view = b.view; write = k }) n

-- a list begins itself
pub begins-self : (xs : List ListEntry) → begins xs xs ≡ true
begins-self [] = refl
begins-self (x ∷ xs) = and_from (is_same x x) (begins xs xs) (same-refl x) (begins-self xs)

-- a beginning of a beginning is one
pub begins-through : (xs ys zs : List ListEntry) → begins xs ys ≡ true → begins ys zs ≡ true → begins xs zs ≡ true
begins-through [] ys zs a b = refl
begins-through (x ∷ xs) [] zs a b = absurd (false≢true a)
begins-through (x ∷ xs) (y ∷ ys) [] a b = absurd (false≢true b)
begins-through (x ∷ xs) (y ∷ ys) (z ∷ zs) a b =
    let p = and_parts (is_same x y) (begins xs ys) a in
    let q = and_parts (is_same y z) (begins ys zs) b in
    and_from (is_same x z) (begins xs zs) (subst (λ (k : ListEntry). is_same x k ≡ true) (same-is y z q.0) p.0) (begins-through xs ys zs p.1 q.1)

-- a beginning of a list begins the list with more behind it
pub begins-more : (xs ys zs : List ListEntry) → begins xs ys ≡ true → begins xs (ys ++ zs) ≡ true
begins-more [] ys zs a = refl
begins-more (x ∷ xs) [] zs a = absurd (false≢true a)
begins-more (x ∷ xs) (y ∷ ys) zs a =
    let p = and_parts (is_same x y) (begins xs ys) a in
    and_from (is_same x y) (begins xs (ys ++ zs)) p.0 (begins-more xs ys zs p.1)

-- a beginning is no longer than its list
pub begins-length : (xs ys : List ListEntry) → begins xs ys ≡ true → length xs ≤ length ys
begins-length [] ys a = omega arith
begins-length (x ∷ xs) [] a = absurd (false≢true a)
begins-length (x ∷ xs) (y ∷ ys) a = let h : length xs ≤ length ys = begins-length xs ys ((and_parts (is_same x y) (begins xs ys) a).1) in omega arith

-- of two beginnings of one list the shorter one begins the longer one
pub begins-shorter : (xs ys zs : List ListEntry) → begins xs zs ≡ true → begins ys zs ≡ true → length xs ≤ length ys → begins xs ys ≡ true
begins-shorter [] ys zs a b l = refl
begins-shorter (x ∷ xs) [] zs a b l = absurd (omega arith)
begins-shorter (x ∷ xs) (y ∷ ys) [] a b l = absurd (false≢true a)
begins-shorter (x ∷ xs) (y ∷ ys) (z ∷ zs) a b l =
    let p = and_parts (is_same x z) (begins xs zs) a in
    let q = and_parts (is_same y z) (begins ys zs) b in
    let m : length xs ≤ length ys = omega arith in
    and_from (is_same x y) (begins xs ys) (subst (λ (k : ListEntry). is_same x k ≡ true) (sym (same-is y z q.0)) p.0) (begins-shorter xs ys zs p.1 q.1 m)

-- a beginning that is as long as its list is the list
pub begins-whole : (xs ys : List ListEntry) → begins xs ys ≡ true → length xs ≡ length ys → xs ≡ ys
begins-whole [] [] a e = refl
begins-whole [] (y ∷ ys) a e = absurd (omega arith)
begins-whole (x ∷ xs) [] a e = absurd (false≢true a)
begins-whole (x ∷ xs) (y ∷ ys) a e =
    let p = and_parts (is_same x y) (begins xs ys) a in
    let m : length xs ≡ length ys = omega arith in
    ap (λ (k : ListEntry). k ∷ xs) (same-is x y p.0) ∙ ap (λ (ks : List ListEntry). y ∷ ks) (begins-whole xs ys p.1 m)

-- a beginning of a list with one entry more is a beginning of the list, or all of it
pub begins-last : (xs ys : List ListEntry) (e : ListEntry) → begins xs (ys ++ e ∷ []) ≡ true → (begins xs ys ≡ true) ⊎ (xs ≡ ys ++ e ∷ [])
begins-last [] ys e a = inl refl
begins-last (x ∷ []) [] e a = inr (ap (λ (k : ListEntry). k ∷ []) (same-is x e ((and_parts (is_same x e) true a).0)))
begins-last (x ∷ y ∷ xs) [] e a = absurd (false≢true ((and_parts (is_same x e) false a).1))
begins-last (x ∷ xs) (y ∷ ys) e a =
    let p = and_parts (is_same x y) (begins xs (ys ++ e ∷ [])) a in
    elim (begins-last xs ys e p.1) [
      | inl b ↦ inl (and_from (is_same x y) (begins xs ys) p.0 b)
      | inr q ↦ inr (ap (λ (k : ListEntry). k ∷ xs) (same-is x y p.0) ∙ ap (λ (ks : List ListEntry). y ∷ ks) q)
    ]

last-behind : (v : ℕ) (ys : List ListEntry) (e : ListEntry) → last_view v (ys ++ e ∷ []) ≡ e.view
last-behind v [] e = refl
last-behind v (y ∷ ys) e = last-behind y.view ys e

-- the view of a list is that of its last entry
pub view-behind : (ys : List ListEntry) (e : ListEntry) → view_of (ys ++ e ∷ []) ≡ e.view
view-behind ys e = last-behind 0 ys e

-- a list is empty or not
pub empty-or-not : (xs : List ListEntry) → (xs ≡ []) ⊎ (0 < length xs)
empty-or-not [] = inl refl
empty-or-not (x ∷ xs) = inr (omega arith)
