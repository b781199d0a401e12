-- What servers have and lack of a list.
use Rattle.std.proofs.Common.{◌≡◌, ◌≢◌, ℕ, ◌==◌, ◌⊎◌, inl, inr, Bool, true, not, List, Option, Some, None, length, refl, sym, ap, ◌∙◌, subst}
use Rattle.std.proofs.lemmas.Bool.{and_parts, cases_Bool, cases_eq, eqb-true, false≢true}
use Rattle.sm_placement.specs.Sums.{put}
use Rattle.sm_placement.proofs.Sums.{put-apart, put-here}
use Rattle.sm_copies.specs.Lists.{ListEntry, begins}
use Rattle.sm_copies.proofs.Lists.{begins-whole}
use Rattle.laws_data.specs.Shard.{is_copy, lacks}

-- who lacks nothing: without a copy, or with all
pub lacks-nothing : (list : List ListEntry) (o : Option (List ListEntry)) → ((copy : List ListEntry) → o ≡ Some copy → begins list copy ≡ true) → not (lacks list o) ≡ true
lacks-nothing list None h = refl
lacks-nothing list (Some copy) h = rw (h copy refl) refl

-- whose copy lacks nothing has all
pub has-all : (list : List ListEntry) (o : Option (List ListEntry)) (copy : List ListEntry) → not (lacks list o) ≡ true → o ≡ Some copy → begins list copy ≡ true
has-all list None copy h e = cc
has-all list (Some other) copy h e = elim (cases_Bool (begins list other)) [
  | inl b ↦ let same : other ≡ copy = cc in subst (λ (k : List ListEntry). begins list k ≡ true) same b
  | inr b ↦ absurd (false≢true (subst (λ (k : Bool). not (not k) ≡ true) b h))
]

-- a copy that is a list is it
pub copy-is : (list : List ListEntry) (o : Option (List ListEntry)) → is_copy list o ≡ true → o ≡ Some list
copy-is list None h = absurd (false≢true h)
copy-is list (Some copy) h =
    let p = and_parts (length list == length copy) (begins list copy) h in
    ap (λ (k : List ListEntry). Some k) (sym (begins-whole list copy p.1 (eqb-true (length list) (length copy) p.0)))

-- what a function has at a place after it was changed at one
pub put-cases : {A : Type 0} (f : ℕ → A) (k : ℕ) (x : A) (s : ℕ) (y : A) → put f k x s ≡ y → ((s ≡ k) × (x ≡ y)) ⊎ ((s ≢ k) × (f s ≡ y))
put-cases f k x s y h = elim (cases_eq s k) [
  | inl e ↦ inl (e, sym (put-here f k x s e) ∙ h)
  | inr d ↦ inr (d, sym (put-apart f k x s d) ∙ h)
]
