-- Known bytes, and what is written behind them.
use Rattle.std.proofs.Common.{◌≡◌, ℕ, zero, suc, ◌+◌, ◌-◌, List, [], ◌∷◌, ◌++◌, length, take, drop, Option, Some, None, refl, sym, ◌∙◌, ap, subst, arith, append_assoc}
use Rattle.std.proofs.lemmas.List.{append-nil, take_rest, drop-drop, take_all}
use Rattle.std.specs.Prelude.{IfSome}
use Rattle.std.specs.Io.KnownBytes.{Appends, Keeps, Consumes, IsAtEnd}
use Rattle.journal_serve.specs.Session.{GrowsWithin}
use Rattle.journal_serve.proofs.Lines.{take-append}

-- nothing is written
pub appends_none : (old : Option (List ℕ)) → Appends old old []
appends_none None = tt
appends_none (Some xs) = sym (append-nil xs)

-- one text behind another
pub appends_more : (old mid new : Option (List ℕ)) (xs ys : List ℕ) → Appends old mid xs → Appends mid new ys → Appends old new (xs ++ ys)
appends_more None mid new xs ys one two = tt
appends_more (Some xs') None new xs ys one two = absurd one
appends_more (Some xs') (Some ys') None xs ys one two = absurd two
appends_more (Some xs') (Some ys') (Some zs') xs ys one two = two ∙ ap (λ (l : List ℕ). l ++ ys) one ∙ append_assoc xs' xs ys

-- what keeps its bytes
pub appends_kept : (old mid new : Option (List ℕ)) (xs : List ℕ) → Appends old mid xs → Keeps mid new → Appends old new xs
appends_kept None mid new xs one two = tt
appends_kept (Some xs') None new xs one two = absurd one
appends_kept (Some xs') (Some ys') None xs one two = absurd two
appends_kept (Some xs') (Some ys') (Some zs') xs one two = two ∙ one

-- what keeps its bytes, seen as an append
pub keeps_appends : (old new : Option (List ℕ)) → Keeps old new → Appends old new []
keeps_appends None new keeps = tt
keeps_appends (Some xs) None keeps = absurd keeps
keeps_appends (Some xs) (Some ys) keeps = keeps ∙ sym (append-nil xs)

-- a whole text is a beginning of it
pub grows_all : (old new : Option (List ℕ)) (text : List ℕ) → Appends old new text → GrowsWithin old new text
grows_all old new text all = (length text, subst (Appends old new) (sym (take_all (length text) text (omega arith))) all)

-- a beginning of a text behind another text
pub grows_behind : (old mid new : Option (List ℕ)) (text more : List ℕ) → Appends old mid text → GrowsWithin mid new more → GrowsWithin old new (text ++ more)
grows_behind old mid new text more one (n, two) =
    let same : length text + n - length text ≡ n = omega arith in (
      length text + n,
      subst (Appends old new) (sym (take-append (length text + n) text more ∙ ap (λ (l : List ℕ). l ++ take (length text + n - length text) more) (take_all (length text + n) text (omega arith))
          ∙ ap (λ (m : ℕ). text ++ take m more) same)) (appends_more old mid new text (take n more) one two),
    )

take_nil : (k : ℕ) → take {A = ℕ} k [] ≡ []
take_nil k = take_all k [] (omega arith)

-- what is written of a rest
pub appends_rest : (old mid new : Option (List ℕ)) (text : List ℕ) (m n : ℕ) → Appends old mid (take m text) → Appends mid new (take n (drop m text)) → Appends old new (take (m + n) text)
appends_rest old mid new text m n one two = subst (Appends old new) (parts m text) (appends_more old mid new (take m text) (take n (drop m text)) one two)
  where
    parts : (m : ℕ) (text : List ℕ) → take m text ++ take n (drop m text) ≡ take (m + n) text
    parts zero text = let same : n ≡ 0 + n = omega arith in ap (λ (k : ℕ). take k text) same
    parts (suc m) [] = take_nil n ∙ sym (take_nil (suc m + n))
    parts (suc m) (x ∷ text) = let same : suc (m + n) ≡ suc m + n = omega arith in ap (λ (l : List ℕ). x ∷ l) (parts m text) ∙ ap (λ (k : ℕ). take k (x ∷ text)) same

-- what is written of a rest that is named
pub appends_left : (old mid new : Option (List ℕ)) (text rest : List ℕ) (m n : ℕ) → rest ≡ drop m text → Appends old mid (take m text) → Appends mid new (take n rest) → Appends old new (take (m + n) text)
appends_left old mid new text rest m n is one two = appends_rest old mid new text m n one (subst (λ (l : List ℕ). Appends mid new (take n l)) is two)

-- what was read further
pub consumes_more : (old mid new : Option (List ℕ)) (xs ys : List ℕ) → Consumes old mid xs → Consumes mid new ys → Consumes old new (xs ++ ys)
consumes_more None mid new xs ys one two = tt
consumes_more (Some xs') None new xs ys one two = absurd one
consumes_more (Some xs') (Some ys') None xs ys one two = absurd two
consumes_more (Some xs') (Some ys') (Some zs') xs ys one two = one ∙ ap (λ (l : List ℕ). xs ++ l) two ∙ sym (append_assoc xs ys zs')

-- bytes that were read
pub consumes_bytes : (old mid new : Option (List ℕ)) (text items bytes : List ℕ) → Consumes old mid text → Consumes mid new items → bytes ≡ items → Consumes old new (text ++ bytes)
consumes_bytes old mid new text items bytes one two is = subst (λ (l : List ℕ). Consumes old new (text ++ l)) (sym is) (consumes_more old mid new text items one two)

-- nothing was read yet
pub consumes_none : (old : Option (List ℕ)) → Consumes old old []
consumes_none None = tt
consumes_none (Some xs) = refl

-- nothing was read further
pub consumes_kept : (old mid new : Option (List ℕ)) (xs : List ℕ) → Consumes old mid xs → Keeps mid new → Consumes old new xs
consumes_kept None mid new xs one two = tt
consumes_kept (Some xs') None new xs one two = absurd one
consumes_kept (Some xs') (Some ys') None xs one two = absurd two
consumes_kept (Some xs') (Some ys') (Some zs') xs one two = one ∙ ap (λ (l : List ℕ). xs ++ l) (sym two)

-- what is left behind what was read
pub input_of : (old new : Option (List ℕ)) (text : List ℕ) → Consumes old new text → (left : List ℕ) × IfSome old (λ bytes. text ++ left ≡ bytes)
input_of None new text read = ([], tt)
input_of (Some xs) None text read = absurd read
input_of (Some xs) (Some ys) text read = (ys, sym read)

-- nothing is, at the end
pub input_all : (old new : Option (List ℕ)) (text bytes : List ℕ) → Consumes old new (text ++ bytes) → bytes ≡ [] → IsAtEnd new → IfSome old (λ known. text ≡ known)
input_all None new text bytes read none end = tt
input_all (Some xs) None text bytes read none end = absurd read
input_all (Some xs) (Some ys) text bytes read none end =
    sym (read ∙ ap (λ (l : List ℕ). text ++ bytes ++ l) end ∙ append-nil (text ++ bytes) ∙ ap (λ (l : List ℕ). text ++ l) none ∙ append-nil text)

-- what is left behind what was written
pub rest_goes : (bytes rest : List ℕ) (m n : ℕ) → rest ≡ drop m bytes → take (length rest - n) (drop n rest) ≡ drop (m + n) bytes
rest_goes bytes rest m n is = take_rest rest n ∙ ap (drop n) is ∙ drop-drop n m bytes

-- nothing is written
pub grows_none : (old : Option (List ℕ)) (text : List ℕ) → GrowsWithin old old text
grows_none old text = (0, appends_none old)

-- nothing is changed
pub keeps_same : (old : Option (List ℕ)) → Keeps old old
keeps_same None = tt
keeps_same (Some xs) = refl

-- the same text
pub grows_same : (old new : Option (List ℕ)) (text other : List ℕ) → text ≡ other → GrowsWithin old new text → GrowsWithin old new other
grows_same old new text other is grows = subst (GrowsWithin old new) is grows

-- the same text, whole
pub appends_same : (old new : Option (List ℕ)) (text other : List ℕ) → text ≡ other → Appends old new text → Appends old new other
appends_same old new text other is appends = subst (Appends old new) is appends
