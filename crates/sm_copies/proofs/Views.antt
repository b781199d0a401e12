-- The views of a list, and the beginnings that they name.
use Rattle.std.proofs.Common.{◌≡◌, ℕ, zero, suc, ◌+◌, ◌<◌, ◌≤◌, ◌==◌, ◌⊎◌, inl, inr, Bool, true, false, List, [], ◌∷◌, Some, None, length, refl, sym, ap, ◌∙◌, subst, arith, if◌then◌else◌}
use Rattle.std.specs.Prelude.{slice_get}
use Rattle.std.proofs.lemmas.Bool.{and_from, and_parts, eqb-true, false≢true}
use Rattle.sm_copies.specs.declared.order.ToldCopy.{ToldCopy}
use Rattle.sm_copies.specs.declared.resuming.ViewStart.{ViewStart}
use Rattle.sm_copies.specs.Views.{Resumes, view_end}
use Rattle.sm_copies.specs.Lists.{ListEntry, begins, is_same, last_view, view_of, views_behind, views_of}
use Rattle.sm_copies.proofs.Lists.{same-is, same-refl}

-- A beginning of a list that stands at a position behind an entry of a view: its last view, and where it ends at the earliest.
pub record IsFront (view at : ℕ) (xs : List ListEntry) (last position : ℕ) : Type 0 where
  pub front : List ListEntry
  pub is : begins front xs ≡ true
  pub of : last_view view front ≡ last
  pub behind : position ≤ at + length front

-- a beginning with one entry more before it
more-front : (view at : ℕ) (x : ListEntry) (xs : List ListEntry) (last position : ℕ) → IsFront x.view (suc at) xs last position → IsFront view at (x ∷ xs) last position
more-front view at x xs last position f = record {
  front = x ∷ f.front;
  is = and_from (is_same x x) (begins f.front xs) (same-refl x) f.is;
  of = f.of;
  behind = (let l : position ≤ suc at + length f.front = f.behind in omega arith);
}

-- the views that begin in a list whose first entry is of the view before it, or of another one
abbrev views_from : Bool → ℕ → ℕ → ListEntry → List ListEntry → List ViewStart
views_from same view at x xs = if same then views_behind view (suc at) xs else record { view = x.view; position = at } ∷ views_behind x.view (suc at) xs

-- the first of the views behind an entry begins at a position or behind it
abbrev IsNotEnded : ℕ → ℕ → ℕ → List ListEntry → ℕ → Type 0
IsNotEnded view at end xs position = position ≤ view_end (slice_get (views_behind view at xs) 0) end

in-view-by : (same : Bool) (view at end position : ℕ) (x : ListEntry) (xs : List ListEntry) → (x.view == view) ≡ same →
    (IsNotEnded view (suc at) end xs position → IsFront view (suc at) xs view position) →
    position ≤ view_end (slice_get (views_from same view at x xs) 0) end → IsFront view at (x ∷ xs) view position
in-view-by true view at end position x xs e rest l =
    let q : x.view ≡ view = eqb-true x.view view e in
    more-front view at x xs view position (subst (λ (v : ℕ). IsFront v (suc at) xs view position) (sym q) (rest l))
in-view-by false view at end position x xs e rest l =
    record { front = []; is = refl; of = refl; behind = (let m : position ≤ at = l in omega arith) }

-- a position at which a view has not ended is within a beginning of the view
in-view : (view at end position : ℕ) (xs : List ListEntry) → end ≡ at + length xs → IsNotEnded view at end xs position → IsFront view at xs view position
in-view view at end position [] n l = record { front = []; is = refl; of = refl; behind = (let m : position ≤ end = l in omega arith) }
in-view view at end position (x ∷ xs) n l =
    in-view-by (x.view == view) view at end position x xs refl (in-view view (suc at) end position xs (omega arith)) l

-- a copy that goes on in a view that begins here, or in one behind it
in-start : (view at end : ℕ) (copy : ToldCopy) (x : ListEntry) (xs : List ListEntry) → end ≡ suc at + length xs →
    (Resumes copy (views_behind x.view (suc at) xs) end → IsFront x.view (suc at) xs copy.view copy.position) →
    Resumes copy (record { view = x.view; position = at } ∷ views_behind x.view (suc at) xs) end → IsFront view at (x ∷ xs) copy.view copy.position
in-start view at end copy x xs n rest (zero, start, is, of, l) =
    let here : Some (record { view = x.view; position = at }) ≡ Some start = is in
    let q : record { view = x.view; position = at } ≡ start = cc in
    let v : x.view ≡ copy.view = ap (λ (s : ViewStart). s.view) q ∙ of in
    subst (λ (k : ℕ). IsFront view at (x ∷ xs) k copy.position) v (more-front view at x xs x.view copy.position (in-view x.view (suc at) end copy.position xs n l))
in-start view at end copy x xs n rest (suc index, start, is, of, l) = more-front view at x xs copy.view copy.position (rest (index, start, is, of, l))

in-views-by : (same : Bool) (view at end : ℕ) (copy : ToldCopy) (x : ListEntry) (xs : List ListEntry) → (x.view == view) ≡ same → end ≡ suc at + length xs →
    ((v : ℕ) → Resumes copy (views_behind v (suc at) xs) end → IsFront v (suc at) xs copy.view copy.position) →
    Resumes copy (views_from same view at x xs) end → IsFront view at (x ∷ xs) copy.view copy.position
in-views-by true view at end copy x xs e n rest r =
    let q : x.view ≡ view = eqb-true x.view view e in
    more-front view at x xs copy.view copy.position (subst (λ (v : ℕ). IsFront v (suc at) xs copy.view copy.position) (sym q) (rest view r))
in-views-by false view at end copy x xs e n rest r = in-start view at end copy x xs n (rest x.view) r

-- nothing goes on where there is no view
none-goes-on : (copy : ToldCopy) (end : ℕ) → Resumes copy [] end → ⊥
none-goes-on copy end (zero, start, is, of, l) = (let e : None ≡ Some start = is in cc)
none-goes-on copy end (suc index, start, is, of, l) = (let e : None ≡ Some start = is in cc)

-- a copy that goes on in one of the views behind an entry has a beginning of its view
in-views : (end : ℕ) (copy : ToldCopy) (xs : List ListEntry) (at : ℕ) → end ≡ at + length xs → (view : ℕ) → Resumes copy (views_behind view at xs) end →
    IsFront view at xs copy.view copy.position
in-views end copy [] at n view r = absurd (none-goes-on copy end r)
in-views end copy (x ∷ xs) at n view r =
    in-views-by (x.view == view) view at end copy x xs refl (omega arith) (in-views end copy xs (suc at) (omega arith)) r

-- A copy that goes on behind a list: the list has a beginning of the copy's view that is no shorter.
pub resumes-front : (copy : ToldCopy) (source : List ListEntry) → Resumes copy (views_of source) (length source) →
    (front : List ListEntry) × (begins front source ≡ true) × (view_of front ≡ copy.view) × (copy.position ≤ length front)
resumes-front copy [] r = absurd (none-goes-on copy 0 r)
resumes-front copy (x ∷ xs) r =
    let end = length (x ∷ xs) in
    let f = in-start 0 0 (length (x ∷ xs)) copy x xs (omega arith) (in-views (length (x ∷ xs)) copy xs 1 (omega arith) x.view) r in
    (f.front, f.is, f.of, (let l : copy.position ≤ 0 + length f.front = f.behind in omega arith))

starts-by : (same : Bool) (view at end : ℕ) (x : ListEntry) (xs : List ListEntry) → IsNotEnded view (suc at) end xs (suc at) →
    at ≤ view_end (slice_get (views_from same view at x xs) 0) end
starts-by true view at end x xs l = (let m : suc at ≤ view_end (slice_get (views_behind view (suc at) xs) 0) end = l in omega arith)
starts-by false view at end x xs l = omega arith

-- no view behind an entry begins before the list that stands there
starts-behind : (view at end : ℕ) (xs : List ListEntry) → end ≡ at + length xs → IsNotEnded view at end xs at
starts-behind view at end [] n = omega arith
starts-behind view at end (x ∷ xs) n = starts-by (x.view == view) view at end x xs (starts-behind view (suc at) end xs (omega arith))

-- A beginning ends in the view that stands before it, or goes on in one that begins behind.
abbrev GoesOn : ℕ → ℕ → ℕ → List ListEntry → List ViewStart → ℕ → Type 0
GoesOn view at end front views position =
    ((last_view view front ≡ view) × (position ≤ view_end (slice_get views 0) end)) ⊎ Resumes (record { view = last_view view front; position = position }) views end

-- with an entry before it that begins a view
goes-on-start : (at end position : ℕ) (x : ListEntry) (front xs : List ListEntry) → GoesOn x.view (suc at) end front (views_behind x.view (suc at) xs) position →
    Resumes (record { view = last_view x.view front; position = position }) (record { view = x.view; position = at } ∷ views_behind x.view (suc at) xs) end
goes-on-start at end position x front xs (inl here) = (0, record { view = x.view; position = at }, refl, sym here.0, here.1)
goes-on-start at end position x front xs (inr (index, start, is, of, l)) = (suc index, start, is, of, l)

goes-on-by : (same : Bool) (view at end position : ℕ) (x : ListEntry) (front xs : List ListEntry) → (x.view == view) ≡ same →
    ((v : ℕ) → GoesOn v (suc at) end front (views_behind v (suc at) xs) position) → GoesOn view at end (x ∷ front) (views_from same view at x xs) position
goes-on-by true view at end position x front xs e rest =
    let q : x.view ≡ view = eqb-true x.view view e in
    subst (λ (v : ℕ). ((last_view v front ≡ view) × (position ≤ view_end (slice_get (views_behind view (suc at) xs) 0) end))
    ⊎ Resumes (record { view = last_view v front; position = position }) (views_behind view (suc at) xs) end) (sym q) (rest view)
goes-on-by false view at end position x front xs e rest = inr (goes-on-start at end position x front xs (rest x.view))

goes-on : (end position : ℕ) (front xs : List ListEntry) (at : ℕ) → end ≡ at + length xs → position ≡ at + length front → begins front xs ≡ true →
    (view : ℕ) → GoesOn view at end front (views_behind view at xs) position
goes-on end position [] xs at n p b view =
    let s : at ≤ view_end (slice_get (views_behind view at xs) 0) end = starts-behind view at end xs n in
    let q : position ≡ at = omega arith in
    inl (refl, omega arith)
goes-on end position (y ∷ front) [] at n p b view = absurd (false≢true b)
goes-on end position (y ∷ front) (x ∷ xs) at n p b view =
    let parts = and_parts (is_same y x) (begins front xs) b in
    subst (λ (z : ListEntry). GoesOn view at end (z ∷ front) (views_behind view at (x ∷ xs)) position) (sym (same-is y x parts.0))
    (goes-on-by (x.view == view) view at end position x front xs refl (goes-on end position front xs (suc at) (omega arith) (omega arith) parts.1))

-- A beginning of a list goes on behind it.
pub front-resumes : (copy source : List ListEntry) → 0 < length copy → begins copy source ≡ true →
    Resumes (record { view = view_of copy; position = length copy }) (views_of source) (length source)
front-resumes [] source l b = absurd (omega arith)
front-resumes (y ∷ front) [] l b = absurd (false≢true b)
front-resumes (y ∷ front) (x ∷ xs) l b =
    let p = and_parts (is_same y x) (begins front xs) b in
    let last : last_view x.view front ≡ view_of (y ∷ front) = ap (λ (z : ListEntry). last_view z.view front) (sym (same-is y x p.0)) in
    subst (λ (k : ℕ). Resumes (record { view = k; position = length (y ∷ front) }) (views_of (x ∷ xs)) (length (x ∷ xs))) last
    (goes-on-start 0 (length (x ∷ xs)) (length (y ∷ front)) x front xs
    (goes-on (length (x ∷ xs)) (length (y ∷ front)) front xs 1 (omega arith) (omega arith) p.1 x.view))
