-- Lists read by shard and server, or by place: after a write, and where nothing was written.
use Rattle.std.proofs.Common.{◌≡◌, ◌≢◌, ℕ, ◌+◌, ◌-◌, ◌*◌, ◌<◌, ◌≤◌, cond, ltb, List, length, set, get_or, replicate, refl, sym, ap, ◌∙◌, arith, inl, inr}
use Rattle.std.proofs.Math.Path.{fun_ext}
use Rattle.std.proofs.lemmas.Bool.{cases_eq, cases_lt, lt-ltb, le-ltb}
use Rattle.std.proofs.lemmas.List.{get_or-set_same, get_or-set_other, get_or-replicate, get_or_past, get_or_read, length-replicate, length-set, get_or_append_left, get_or-append_right}
use Rattle.std.proofs.lemmas.Nat.{same_from_place, mul-add-lt, mul-le}
use Rattle.sm_placement.specs.Sums.{put, put2}
use Rattle.sm_placement.specs.Layout.{grid_of, entries_of}
use Rattle.sm_placement.specs.Lasts.{padded}
use Rattle.sm_placement.proofs.Sums.{put-here, put-apart, put2-here, put2-row, put2-apart}

pub grid_of-is : {A : Type 0} (width : ℕ) (none : A) (xs : List A) (s v : ℕ) → grid_of width none xs s v ≡ cond (ltb v width) (get_or xs (s * width + v) none) none
unfolding grid_of
grid_of-is width none xs s v = refl

-- a list read by place has at each place what stands there, and nothing past its end
pub entries_of-is : {A : Type 0} (none : A) (xs : List A) (k : ℕ) → entries_of none xs k ≡ get_or xs k none
unfolding entries_of
entries_of-is none xs k = refl

-- within the width, the place in the list is read
pub grid_of-within : {A : Type 0} (width : ℕ) (none : A) (xs : List A) (s v : ℕ) → v < width → grid_of width none xs s v ≡ get_or xs (s * width + v) none
grid_of-within width none xs s v l = grid_of-is width none xs s v ∙ rw (lt-ltb v width l) refl

-- past the width of the rows there is nothing
pub grid_of-beside : {A : Type 0} (width : ℕ) (none : A) (xs : List A) (s v : ℕ) → width ≤ v → grid_of width none xs s v ≡ none
grid_of-beside width none xs s v l = grid_of-is width none xs s v ∙ rw (le-ltb v width l) refl

-- past the last row there is nothing
pub grid_of-below : {A : Type 0} (width height : ℕ) (none : A) (xs : List A) (s v : ℕ) → length xs ≡ height * width → height ≤ s → grid_of width none xs s v ≡ none
grid_of-below width height none xs s v e h = elim (cases_lt v width) [
  | inl l ↦ grid_of-within width none xs s v l ∙ get_or_past xs (s * width + v) none (let m : height * width ≤ s * width = mul-le height width s width h (omega arith) in omega arith)
  | inr l ↦ grid_of-beside width none xs s v l
]

-- past the end of a list there is nothing
pub entries_of-past : {A : Type 0} (none : A) (xs : List A) (k : ℕ) → length xs ≤ k → entries_of none xs k ≡ none
entries_of-past none xs k l = entries_of-is none xs k ∙ get_or_past xs k none l

-- the slot of a pair is within the list
pub place_within : {A : Type 0} (xs : List A) (width height s v : ℕ) → length xs ≡ height * width → s < height → v < width → s * width + v < length xs
place_within xs width height s v e l m = let p : s * width + v < width * height = mul-add-lt s width v height l m in grind arith

-- a write at a pair's slot changes what stands at that pair alone
pub grid_of-set : {A : Type 0} (width : ℕ) (none : A) (xs : List A) (s v : ℕ) (x : A) → v < width → s * width + v < length xs →
    grid_of width none (set xs (s * width + v) x) ≡ put2 (grid_of width none xs) s v x
grid_of-set {A} width none xs s v x l m = fun_ext (λ r. fun_ext (λ q. at r q))
  where
    place : ℕ → ℕ → ℕ
    place r q = r * width + q

    after : ℕ → ℕ → A
    after = grid_of width none (set xs (s * width + v) x)

    inside : (r q : ℕ) → q < width → (r ≡ s → q ≢ v) → r * width + q ≢ s * width + v
    inside r q b e f = let a = same_from_place r q s v width b l f in e a.0 a.1

    other : (r q : ℕ) → (r ≡ s → q ≢ v) → grid_of width none (set xs (s * width + v) x) r q ≡ grid_of width none xs r q
    other r q e = elim (cases_lt q width) [
      | inl b ↦ grid_of-within width none (set xs (s * width + v) x) r q b ∙ get_or-set_other xs (s * width + v) (r * width + q) x none (inside r q b e) ∙ sym (grid_of-within width none xs r q b)
      | inr b ↦ grid_of-beside width none (set xs (s * width + v) x) r q b ∙ sym (grid_of-beside width none xs r q b)
    ]

    at : (r q : ℕ) → grid_of width none (set xs (s * width + v) x) r q ≡ put2 (grid_of width none xs) s v x r q
    at r q = elim (cases_eq r s) [
      | inl d ↦ elim (cases_eq q v) [
        | inl e ↦ rw (d, e) (grid_of-within width none (set xs (s * width + v) x) s v l ∙ get_or-set_same xs (s * width + v) x none m ∙ sym (put2-here (grid_of width none xs) s v x))
        | inr e ↦ other r q (λ a. e) ∙ rw d (sym (put2-row (grid_of width none xs) s v x q e))
      ]
      | inr d ↦ other r q (λ a. absurd (d a)) ∙ sym (put2-apart (grid_of width none xs) s v x r q d)
    ]

-- a row is written at a place of it
pub row-set : {A : Type 0} (width : ℕ) (none : A) (xs : List A) (s v : ℕ) (x : A) → s * width + width ≤ length xs → v < width →
    grid_of width none (set xs (s * width + v) x) s ≡ put (grid_of width none xs s) v x
row-set {A} width none xs s v x l m =
    ap (λ (f : ℕ → ℕ → A). f s) (grid_of-set width none xs s v x m (omega arith)) ∙ put-here (grid_of width none xs) s (put (grid_of width none xs s) v x) s refl

-- the same row, as a step of the code names it
pub same_row : {A : Type 0} {width count : ℕ} {xs ys : List A} {s r : ℕ} (none : A) → width ≡ count → xs ≡ ys → s ≡ r → grid_of width none xs s ≡ grid_of count none ys r
same_row none w e k = rw (w, e, k) refl

-- a write at a place changes what stands at that place alone
pub entries_of-set : {A : Type 0} (none : A) (xs : List A) (k : ℕ) (x : A) → k < length xs → entries_of none (set xs k x) ≡ put (entries_of none xs) k x
entries_of-set none xs k x l = fun_ext (λ q. at q)
  where
    at : (q : ℕ) → entries_of none (set xs k x) q ≡ put (entries_of none xs) k x q
    at q = elim (cases_eq q k) [
      | inl e ↦ entries_of-is none (set xs k x) q ∙ rw e (get_or-set_same xs k x none l ∙ sym (put-here (entries_of none xs) k x k refl))
      | inr e ↦ entries_of-is none (set xs k x) q ∙ get_or-set_other xs k q x none e ∙ sym (entries_of-is none xs q) ∙ sym (put-apart (entries_of none xs) k x q e)
    ]

get_or-empty : {A : Type 0} (none : A) (n k : ℕ) → get_or (replicate n none) k none ≡ none
get_or-empty none n k = elim (cases_lt k n) [
  | inl l ↦ get_or-replicate n k none none l
  | inr l ↦ get_or_past (replicate n none) k none (rw (length-replicate n none) l)
]

-- where every place has the entry that stands for none
pub entries_of-empty : {A : Type 0} (none : A) (n : ℕ) → entries_of none (replicate n none) ≡ (λ k. none)
entries_of-empty none n = fun_ext (λ k. entries_of-is none (replicate n none) k ∙ get_or-empty none n k)

-- a list in which nothing was written has nothing at any pair
pub grid_of-empty : {A : Type 0} (width : ℕ) (none : A) (n : ℕ) → grid_of width none (replicate n none) ≡ (λ s v. none)
grid_of-empty width none n = fun_ext (λ s. fun_ext (λ v. at s v))
  where
    at : (s v : ℕ) → grid_of width none (replicate n none) s v ≡ none
    at s v = elim (cases_lt v width) [
      | inl l ↦ grid_of-within width none (replicate n none) s v l ∙ get_or-empty none n (s * width + v)
      | inr l ↦ grid_of-beside width none (replicate n none) s v l
    ]

-- what is read at a pair's slot, or at a server
pub grid_of-read : {A : Type 0} (width height : ℕ) (none : A) (xs : List A) (s v : ℕ) (x : A) → length xs ≡ height * width → s < height → v < width →
    x ≡ get_or xs (s * width + v) x → x ≡ grid_of width none xs s v
grid_of-read width height none xs s v x e l m r = get_or_read xs (s * width + v) x (place_within xs width height s v e l m) r none ∙ sym (grid_of-within width none xs s v m)

-- the same, where the slot is known to be within the list
pub grid_of-at : {A : Type 0} (width : ℕ) (none : A) (xs : List A) (s v : ℕ) (x : A) → v < width → s * width + v < length xs → x ≡ get_or xs (s * width + v) x → x ≡ grid_of width none xs s v
grid_of-at width none xs s v x m l r = get_or_read xs (s * width + v) x l r none ∙ sym (grid_of-within width none xs s v m)

-- what is read at a place within a list is what stands there
pub entries_of-read : {A : Type 0} (none : A) (xs : List A) (k n : ℕ) (x : A) → length xs ≡ n → k < n → x ≡ get_or xs k x → x ≡ entries_of none xs k
entries_of-read none xs k n x e l r = get_or_read xs k x (omega arith) r none ∙ sym (entries_of-is none xs k)

-- a loop over a list of numbers, which writes one of them
pub entries_of-done : (xs : List ℕ) (s x : ℕ) (f : ℕ → ℕ) → s < length xs → ((r : ℕ) → r < s → entries_of 0 xs r ≡ f r) → x ≡ f s → (r : ℕ) → r < s + 1 → entries_of 0 (set xs s x) r ≡ f r
entries_of-done xs s x f l done here r m = ap (λ (q : ℕ → ℕ). q r) (entries_of-set 0 xs s x l) ∙ elim (cases_eq r s) [
  | inl e ↦ put-here (entries_of 0 xs) s x r e ∙ here ∙ ap f (sym e)
  | inr e ↦ let k : r < s = omega arith in put-apart (entries_of 0 xs) s x r e ∙ done r k
]

-- what is known of the places from s on is known of those behind s after a write at s
pub entries_of-rest : (xs : List ℕ) (s x : ℕ) (g : ℕ → ℕ) → s < length xs → ((r : ℕ) → s ≤ r → r < length xs → entries_of 0 xs r ≡ g r) → (r : ℕ) → s + 1 ≤ r → r < length (set xs s x) → entries_of 0 (set xs s x) r ≡ g r
entries_of-rest xs s x g l rest r m k =
    ap (λ (q : ℕ → ℕ). q r) (entries_of-set 0 xs s x l) ∙ put-apart (entries_of 0 xs) s x r (λ e. absurd (omega arith)) ∙ rest r (omega arith) (omega (arith, length-set xs s x))

-- behind the numbers that are written there is 0
pub entries_of-padded : (n : ℕ) (xs : List ℕ) (k : ℕ) → entries_of 0 (padded n xs) k ≡ entries_of 0 xs k
entries_of-padded n xs k = elim (cases_lt k (length xs)) [
  | inl l ↦ entries_of-is 0 (padded n xs) k ∙ get_or_append_left xs (replicate (n - length xs) 0) 0 k l ∙ sym (entries_of-is 0 xs k)
  | inr l ↦ entries_of-is 0 (padded n xs) k ∙ get_or-append_right xs (replicate (n - length xs) 0) (length xs) k 0 refl l ∙ get_or-empty 0 (n - length xs) (k - length xs) ∙ sym (entries_of-past 0 xs k l)
]
