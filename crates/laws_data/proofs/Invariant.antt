-- The invariant of a shard's data.
use Rattle.std.proofs.Common.{subst, suc, zero, ◌∷◌, ◌≡◌, ℕ, ◌<◌, ◌≤◌, ◌⊎◌, inl, inr, Bool, true, false, not, ◌&&◌, List, [], Option, Some, None, is_some, length, slice_get, refl, sym, ap, arith}
use Rattle.std.specs.List.{AllByRecursion}
use Rattle.std.proofs.lemmas.Bool.{and_parts, cases_lt, false≢true}
use Rattle.sm_placement.specs.Sums.{count_below}
use Rattle.sm_copies.specs.declared.order.ToldCopy.{ToldCopy}
use Rattle.sm_copies.specs.Order.{IsAtLeast}
use Rattle.sm_copies.specs.Lists.{ListEntry, begins, told_of, view_of}
use Rattle.sm_copies.proofs.Lists.{begins-length, begins-shorter, begins-through, empty-or-not}
use Rattle.laws_data.specs.Shard.{HasNoPrimary, HasPrimary, IsGreatest, Shard, Word, counted, gone, lacks}
use Rattle.laws_data.proofs.Lists.{has-all}
use Rattle.laws_data.proofs.Counts.{count-apart}

-- The list of each view: a beginning of one is a beginning of the list of its own view, which is no later.
pub record AreLists (lists : ℕ → List ListEntry) : Type 0 where
  pub matched : (u : ℕ) (xs : List ListEntry) → begins xs (lists u) ≡ true → begins xs (lists (view_of xs)) ≡ true
  pub views : (u : ℕ) (xs : List ListEntry) → begins xs (lists u) ≡ true → view_of xs ≤ u

-- A copy is a beginning of the list of its view.
abbrev pub AreCopies : (ℕ → List ListEntry) → (ℕ → Option (List ListEntry)) → Type 0
AreCopies lists copies = (s : ℕ) (xs : List ListEntry) → copies s ≡ Some xs → begins xs (lists (view_of xs)) ≡ true

-- Each list of the acknowledged view or a later one begins with all that is acknowledged.
abbrev pub IsWhole : (ℕ → List ListEntry) → List ListEntry → Type 0
IsWhole lists acknowledged = (u : ℕ) → 0 < length (lists u) → view_of acknowledged ≤ u → begins acknowledged (lists u) ≡ true

-- A list has a beginning of a view within a position.
abbrev pub HasBegun : ℕ → List ListEntry → ℕ → Type 0
HasBegun view list position = (ys : List ListEntry) × (begins ys list ≡ true) × (length ys ≤ position) × (view_of ys ≡ view)

-- A server has the list up to a position, if it has a whole copy.
abbrev pub HasPart : List ListEntry → Option (List ListEntry) → ℕ → Type 0
HasPart list copy position = (xs ys : List ListEntry) → copy ≡ Some xs → begins ys list ≡ true → length ys ≤ position → begins ys xs ≡ true

-- So it has, where the view has begun, and it has no leave that the primary does not know of.
pub record HasUpTo (view : ℕ) (list : List ListEntry) (away : ℕ → Bool) (copies : ℕ → Option (List ListEntry)) (s position : ℕ) : Type 0 where
  pub bound : position ≤ length list
  pub begun : HasBegun view list position
  pub part : HasPart list (copies s) position
  pub there : away s ≡ false

-- A told copy of the view of a primary is still there, up to its position; nobody has told a later view.
pub record IsTrueOf (ended view : ℕ) (list : List ListEntry) (away : ℕ → Bool) (copies : ℕ → Option (List ListEntry)) (s : ℕ) (told : ToldCopy) : Type 0 where
  pub below : told.view ≤ view
  pub has : ended ≤ view → told.view ≡ view → HasUpTo view list away copies s told.position

-- A word is true of the server that has told it.
abbrev pub IsTrueWord : ℕ → ℕ → List ListEntry → (ℕ → Bool) → (ℕ → Option (List ListEntry)) → Word → Type 0
IsTrueWord ended view list away copies word = IsTrueOf ended view list away copies word.server word.copy

-- whether a server has leave that the primary does not know of
abbrev pub is_away : (ℕ → Bool) → (ℕ → Bool) → ℕ → Bool
is_away known leaving s = known s && leaving s

-- The server with the list of the view: the primary; if the shard has none, the last one, which has kept its copy.
abbrev pub IsLeader : Shard → ℕ → Type 0
IsLeader w s = ((s ≡ w.primary) × HasPrimary w) ⊎ ((w.former s ≡ w.ended) × HasNoPrimary w)

pub record IsKept (w : Shard) : Type 0 where
  pub lists : AreLists w.lists
  pub copies : AreCopies w.lists w.copies
  pub front : (s : ℕ) (xs : List ListEntry) → IsLeader w s → w.copies s ≡ Some xs → xs ≡ w.lists w.view
  pub earlier : (s : ℕ) → w.former s ≤ w.ended
  pub lost : (s : ℕ) → w.copies s ≡ None → w.former s ≡ 0
  pub unbegun : (u : ℕ) → w.view < u → w.lists u ≡ []
  pub present : 0 < length (w.lists w.view)
  pub own : view_of (w.lists w.view) ≡ w.view
  pub below : view_of w.acknowledged ≤ w.view
  pub whole : IsWhole w.lists w.acknowledged
  pub enough : w.needed ≤ counted w (λ s. not (lacks w.acknowledged (w.copies s)))
  pub heard : (s : ℕ) → IsTrueOf w.ended w.view (w.lists w.view) (is_away w.known w.leaving) w.copies s (w.heard s)
  pub words : AllByRecursion (IsTrueWord w.ended w.view (w.lists w.view) (is_away w.known w.leaving) w.copies) w.words
  pub member : (s : ℕ) → w.known s ≡ true → w.leaving s ≡ false → w.replicas s ≡ true
  pub first : w.ended ≡ 0 → (s : ℕ) → is_away w.known w.leaving s ≡ false

-- the primary has all that is acknowledged
pub primary-has-all : (w : Shard) → IsKept w → begins w.acknowledged (w.lists w.view) ≡ true
primary-has-all w k = k.whole w.view k.present k.below

-- the primary's copy is the list of its view
pub primary-front : (w : Shard) → IsKept w → HasPrimary w → (xs : List ListEntry) → w.copies w.primary ≡ Some xs → xs ≡ w.lists w.view
primary-front w k there xs e = k.front w.primary xs (inl (refl, there)) e

-- a view that has begun is no later than the primary's
pub begun-below : (w : Shard) → IsKept w → (u : ℕ) → 0 < length (w.lists u) → u ≤ w.view
begun-below w k u h = elim (cases_lt w.view u) [
  | inl l ↦ absurd (let e : length (w.lists u) ≡ 0 = ap length (k.unbegun u l) in omega arith)
  | inr l ↦ l
]

-- what it is for a list to be at least as great as another one
pub at-least-lists : (xs ys : List ListEntry) → IsAtLeast (told_of ys) (told_of xs) →
    (view_of xs < view_of ys) ⊎ ((view_of xs ≡ view_of ys) × (length xs ≤ length ys))
at-least-lists xs ys (inl same) =
    inr (ap (λ (c : ToldCopy). c.view) same, (let n : length xs ≡ length ys = ap (λ (c : ToldCopy). c.position) same in omega arith))
at-least-lists xs ys (inr (inl l)) = inl l
at-least-lists xs ys (inr (inr q)) = inr (q.0, (let l : length xs < length ys = q.1 in omega arith))

module _ (w : Shard) (k : IsKept w) (s h : ℕ) (xs ys : List ListEntry) (ex : w.copies s ≡ Some xs) (ey : w.copies h ≡ Some ys)
    (b : begins w.acknowledged xs ≡ true) (g : IsAtLeast (told_of ys) (told_of xs)) where
  x-in : begins xs (w.lists (view_of xs)) ≡ true
  x-in = k.copies s xs ex

  y-in : begins ys (w.lists (view_of ys)) ≡ true
  y-in = k.copies h ys ey

  here : begins w.acknowledged (w.lists (view_of xs)) ≡ true
  here = begins-through w.acknowledged xs (w.lists (view_of xs)) b x-in

  -- a shorter copy would be of an earlier view
  short : length ys < length w.acknowledged → begins ys w.acknowledged ≡ true → ⊥
  short l c = elim (at-least-lists xs ys g) [
    | inl later ↦
        let v : view_of ys ≤ view_of xs = k.lists.views (view_of xs) ys (begins-through ys w.acknowledged (w.lists (view_of xs)) c here) in
        absurd (omega arith)
    | inr same ↦
        let m : length w.acknowledged ≤ length xs = begins-length w.acknowledged xs b in
        let n : length xs ≤ length ys = same.1 in
        absurd (omega arith)
  ]

  later : view_of w.acknowledged ≤ view_of ys
  later =
      let low : view_of w.acknowledged ≤ view_of xs = k.lists.views (view_of xs) w.acknowledged here in
      elim (at-least-lists xs ys g) [
        | inl l ↦ omega arith
        | inr q ↦ (let e : view_of xs ≡ view_of ys = q.0 in omega arith)
      ]

  compared : begins w.acknowledged (w.lists (view_of ys)) ≡ true → begins w.acknowledged ys ≡ true
  compared all = elim (cases_lt (length ys) (length w.acknowledged)) [
    | inl l ↦ absurd (short l (begins-shorter ys w.acknowledged (w.lists (view_of ys)) y-in all (omega arith)))
    | inr l ↦ begins-shorter w.acknowledged ys (w.lists (view_of ys)) all y-in l
  ]

  -- the greater copy has all that is acknowledged, too
  pub greater-has-all : begins w.acknowledged ys ≡ true
  greater-has-all = elim (empty-or-not w.acknowledged) [
    | inl e ↦ rw e refl
    | inr some ↦ elim (empty-or-not ys) [
      | inl e ↦ absurd (short (let z : length ys ≡ 0 = ap length e in omega arith) (rw e refl))
      | inr there ↦
          let m : length ys ≤ length (w.lists (view_of ys)) = begins-length ys (w.lists (view_of ys)) y-in in
          compared (k.whole (view_of ys) (omega arith) later)
    ]
  ]

-- If fewer replicas than are asked for are gone, the greatest copy that is told has all that is acknowledged.
pub greatest-has-all : (w : Shard) → IsKept w → (answered : ℕ → Bool) (successor : ℕ) (copy : List ListEntry) →
    w.copies successor ≡ Some copy → IsGreatest w answered copy → gone w answered < w.needed → begins w.acknowledged copy ≡ true
greatest-has-all w k answered successor copy e greatest few =
    let p = λ (s : ℕ). w.replicas s && (not (w.leaving s) && not (lacks w.acknowledged (w.copies s))) in
    let q = λ (s : ℕ). w.replicas s && not (answered s && is_some (w.copies s)) in
    let enough : w.needed ≤ count_below w.servers p = k.enough in
    let f = count-apart w.servers p q (omega arith) in
    let a = and_parts (w.replicas f.0) (not (w.leaving f.0) && not (lacks w.acknowledged (w.copies f.0))) f.2 in
    let b = and_parts (not (w.leaving f.0)) (not (lacks w.acknowledged (w.copies f.0))) a.1 in
    let there = told-one (w.replicas f.0) (answered f.0) (w.copies f.0) a.0 f.3 in
    greater-has-all w k f.0 successor there.1 copy there.2 e (has-all w.acknowledged (w.copies f.0) there.1 b.1 there.2) (greatest f.0 there.1 f.1 there.0 there.2)
  where
    told-one : (r a : Bool) (o : Option (List ListEntry)) → r ≡ true → (r && not (a && is_some o)) ≡ false → (a ≡ true) × (xs : List ListEntry) × (o ≡ Some xs)
    told-one true true (Some xs) e h = (refl, xs, refl)
    told-one true true None e h = absurd (false≢true (sym h))
    told-one true false o e h = absurd (false≢true (sym h))
    told-one false a o e h = absurd (false≢true e)

-- what is told stays true if whoever has the list up to a position does so afterwards
pub true-stays : (ended view : ℕ) (list list' : List ListEntry) (away away' : ℕ → Bool) (copies copies' : ℕ → Option (List ListEntry)) →
    ((s position : ℕ) → HasUpTo view list away copies s position → HasUpTo view list' away' copies' s position) → (s : ℕ) (told : ToldCopy) →
    IsTrueOf ended view list away copies s told → IsTrueOf ended view list' away' copies' s told
true-stays ended view list list' away away' copies copies' h s told t = record { below = t.below; has = λ p e. h s told.position (t.has p e) }

-- what follows of each of a list's words
pub words-more : (P Q : Word → Type 0) → ((word : Word) → P word → Q word) → (words : List Word) → AllByRecursion P words → AllByRecursion Q words
words-more P Q h [] a = tt
words-more P Q h (word ∷ words) a = (h word a.0, words-more P Q h words a.1)

-- so do all words
pub words-stay : (ended view : ℕ) (list list' : List ListEntry) (away away' : ℕ → Bool) (copies copies' : ℕ → Option (List ListEntry)) →
    ((s position : ℕ) → HasUpTo view list away copies s position → HasUpTo view list' away' copies' s position) → (words : List Word) →
    AllByRecursion (IsTrueWord ended view list away copies) words → AllByRecursion (IsTrueWord ended view list' away' copies') words
words-stay ended view list list' away away' copies copies' h words a =
    words-more (IsTrueWord ended view list away copies) (IsTrueWord ended view list' away' copies')
    (λ word t. true-stays ended view list list' away away' copies copies' h word.server word.copy t) words a

-- in a later view no word counts
pub words-end : (ended view later : ℕ) (list list' : List ListEntry) (away away' : ℕ → Bool) (copies copies' : ℕ → Option (List ListEntry)) →
    view < later → (words : List Word) →
    AllByRecursion (IsTrueWord ended view list away copies) words → AllByRecursion (IsTrueWord ended later list' away' copies') words
words-end ended view later list list' away away' copies copies' l words a =
    words-more (IsTrueWord ended view list away copies) (IsTrueWord ended later list' away' copies')
    (λ word t. (let b : word.copy.view ≤ view = t.below in record { below = omega arith; has = λ p e. absurd (omega arith) })) words a

-- a word that was told is true
pub word-is-true : (P : Word → Type 0) (words : List Word) (which : ℕ) (word : Word) → AllByRecursion P words → slice_get words which ≡ Some word → P word
word-is-true P [] which word a e = absurd (let n : None ≡ Some word = e in cc)
word-is-true P (first ∷ words) zero word a e = (let n : Some first ≡ Some word = e in let same : first ≡ word = cc in subst P same a.0)
word-is-true P (first ∷ words) (suc which) word a e = word-is-true P words which word a.1 e
