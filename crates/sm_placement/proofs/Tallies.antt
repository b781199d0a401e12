-- Counts over named cells, as far as a loop has come.
use Rattle.std.proofs.Common.{◌≡◌, ◌≢◌, ℕ, ◌+◌, ◌*◌, ◌<◌, ◌≤◌, Bool, true, false, eqb, ltb, ◌&&◌, ◌||◌, cond, None, refl, sym, ap, ◌∙◌, arith, inl, inr, subst, List, length, get_or, set, take, replicate}
use Rattle.std.specs.Prelude.{Option, option_map}
use Rattle.std.specs.List.{count_by}
use Rattle.std.proofs.Math.Path.{fun_ext}
use Rattle.std.proofs.lemmas.Bool.{cases_eq, cases_Bool, eq-eqb, ne_eqb, lt-ltb, le-ltb, ltb-true, ltb-false}
use Rattle.std.proofs.lemmas.List.{length-take-le, get_or_default}
use Rattle.std.proofs.lemmas.List.Sums.{count_by_more_yes, count_by_more_no, count_by-le-length, sum_by-take-le}
use Rattle.sm_server.specs.declared.call.Cell.{Cell}
use Rattle.sm_server.specs.Cell.{is_primary}
use Rattle.sm_placement.specs.declared.opening.LeadCells.{LeadCells}
use Rattle.sm_placement.specs.Sums.{put, put2, bit, count_below, first_from}
use Rattle.sm_placement.specs.Layout.{grid_of, entries_of}
use Rattle.sm_placement.specs.Opening.{NamedCell, is_of, is_double, AreKnown, IsNamedOnce, cell_named, has_bad_lead, first_below, double_of, is_handing, tally, lead_cells}
use Rattle.sm_placement.specs.declared.opening.OpenFault.TheVariants.{DoubleCell}
use Rattle.sm_placement.proofs.Sums.{put-here, put-apart, put2-here, put2-row, put2-apart}
use Rattle.sm_placement.proofs.GridLemmas.{grid_of-within, grid_of-set, grid_of-read, grid_of-empty, place_within, entries_of-set, entries_of-read, entries_of-empty}
use Rattle.sm_placement.proofs.Openings.{known_shard, known_server, is_of-true, is_of-here, tally-is}
use Rattle.sm_placement.proofs.Searches.{any_by_count, first_none_from, first_from_none_from}

-- the list of counts by pair has each pair counted as far as i
abbrev pub ArePairsCounted : ℕ → List NamedCell → ℕ → List ℕ → Type 0
ArePairsCounted n cells i counts = grid_of n 0 counts ≡ (λ s v. count_by (is_of s v) (take i cells))

-- counts of 0 are those of the pairs before the first cell
pub pairs_none : (n k : ℕ) (cells : List NamedCell) (counts : List ℕ) → counts ≡ replicate k 0 → ArePairsCounted n cells 0 counts
pairs_none n k cells counts e = rw e (grid_of-empty n 0 k)

-- the slot of the i-th cell's pair
pub pair_slot : {A : Type 0} (m n : ℕ) (cells : List NamedCell) (i : ℕ) (x : NamedCell) (entries : List A) → AreKnown m n cells → i < length cells → x ≡ get_or cells i x → length entries ≡ m * n →
    x.0 * n + x.1 < length entries
pair_slot m n cells i x entries k l e len =
    place_within entries n m x.0 x.1 len (subst (λ y. y.0 < m) (sym e) (known_shard m n cells i x k l)) (subst (λ y. y.1 < n) (sym e) (known_server m n cells i x k l))

-- what has been counted of the i-th cell's pair
pub pair_count : (m n : ℕ) (cells : List NamedCell) (i : ℕ) (x : NamedCell) (counts : List ℕ) (b : ℕ) → AreKnown m n cells → i < length cells → x ≡ get_or cells i x → length counts ≡ m * n →
    ArePairsCounted n cells i counts → b ≡ get_or counts (x.0 * n + x.1) b → b ≡ count_by (is_of x.0 x.1) (take i cells)
pair_count m n cells i x counts b k l e len at r =
    grid_of-read n m 0 counts x.0 x.1 b len (subst (λ y. y.0 < m) (sym e) (known_shard m n cells i x k l)) (subst (λ y. y.1 < n) (sym e) (known_server m n cells i x k l)) r ∙ ap (λ f. f x.0 x.1) at

-- before the i-th cell its pair is counted at most i times
pub pair_count_small : (m n : ℕ) (cells : List NamedCell) (i : ℕ) (x : NamedCell) (counts : List ℕ) (b : ℕ) → AreKnown m n cells → i < length cells → x ≡ get_or cells i x → length counts ≡ m * n →
    ArePairsCounted n cells i counts → b ≡ get_or counts (x.0 * n + x.1) b → b ≤ i
pair_count_small m n cells i x counts b k l e len at r =
    let same : b ≡ count_by (is_of x.0 x.1) (take i cells) = pair_count m n cells i x counts b k l e len at r in
    let most : count_by (is_of x.0 x.1) (take i cells) ≤ length (take i cells) = count_by-le-length (is_of x.0 x.1) (take i cells) in
    let long : length (take i cells) ≡ i = length-take-le i cells (omega arith) in
    omega arith

-- with one more for the pair of the i-th cell, the pairs are counted one cell further
pub pairs_more : (m n : ℕ) (cells : List NamedCell) (i : ℕ) (x : NamedCell) (counts : List ℕ) (b : ℕ) → AreKnown m n cells → i < length cells → x ≡ get_or cells i x → length counts ≡ m * n →
    ArePairsCounted n cells i counts → b ≡ get_or counts (x.0 * n + x.1) b → ArePairsCounted n cells (i + 1) (set counts (x.0 * n + x.1) (b + 1))
pairs_more m n cells i x counts b k l e len at r =
    grid_of-set n 0 counts x.0 x.1 (b + 1) (subst (λ y. y.1 < n) (sym e) (known_server m n cells i x k l)) (pair_slot m n cells i x counts k l e len)
    ∙ ap (λ f. put2 f x.0 x.1 (b + 1)) at ∙ fun_ext (λ s. fun_ext (λ v. each s v))
  where
    before : ℕ → ℕ → ℕ
    before s v = count_by (is_of s v) (take i cells)

    read : b ≡ count_by (is_of x.0 x.1) (take i cells)
    read = pair_count m n cells i x counts b k l e len at r

    yes : (s v : ℕ) → is_of s v x ≡ true → count_by (is_of s v) (take (i + 1) cells) ≡ count_by (is_of s v) (take i cells) + 1
    yes s v q = count_by_more_yes (is_of s v) cells i x l (subst (λ y. is_of s v y ≡ true) e q)

    no : (s v : ℕ) → is_of s v x ≡ false → count_by (is_of s v) (take (i + 1) cells) ≡ count_by (is_of s v) (take i cells)
    no s v q = count_by_more_no (is_of s v) cells i x l (subst (λ y. is_of s v y ≡ false) e q)

    apart : (s v : ℕ) → is_of s v x ≡ false → put2 before x.0 x.1 (b + 1) s v ≡ before s v
    apart s v q = elim (cases_eq s x.0) [
      | inl d ↦ rw d (put2-row before x.0 x.1 (b + 1) v (λ g. absurd (let z : is_of s v x ≡ true = rw (d, g) (is_of-here x) in cc)))
      | inr d ↦ put2-apart before x.0 x.1 (b + 1) s v d
    ]

    each : (s v : ℕ) → put2 before x.0 x.1 (b + 1) s v ≡ count_by (is_of s v) (take (i + 1) cells)
    each s v = elim (cases_Bool (is_of s v x)) [
      | inl q ↦ let p = is_of-true s v x q in rw (← p.0, ← p.1) (put2-here before x.0 x.1 (b + 1) ∙ ap (λ a. a + 1) read ∙ sym (yes x.0 x.1 (is_of-here x)))
      | inr q ↦ apart s v q ∙ sym (no s v q)
    ]

-- the entries of pairs tell which were named as far as i
abbrev pub ArePairsNamed : ℕ → List NamedCell → ℕ → List Bool → Type 0
ArePairsNamed n cells i named = grid_of n false named ≡ (λ s v. ltb 0 (count_by (is_of s v) (take i cells)))

-- before the first cell no pair was named
pub no_pairs_named : (n k : ℕ) (cells : List NamedCell) (named : List Bool) → named ≡ replicate k false → ArePairsNamed n cells 0 named
no_pairs_named n k cells named e = rw e (grid_of-empty n false k)

-- whether the pair of the i-th cell was named before
pub pair_named : (m n : ℕ) (cells : List NamedCell) (i : ℕ) (x : NamedCell) (named : List Bool) (b : Bool) → AreKnown m n cells → i < length cells → x ≡ get_or cells i x → length named ≡ m * n →
    ArePairsNamed n cells i named → b ≡ get_or named (x.0 * n + x.1) b → b ≡ ltb 0 (count_by (is_of x.0 x.1) (take i cells))
pair_named m n cells i x named b k l e len at r =
    grid_of-read n m false named x.0 x.1 b len (subst (λ y. y.0 < m) (sym e) (known_shard m n cells i x k l)) (subst (λ y. y.1 < n) (sym e) (known_server m n cells i x k l)) r ∙ ap (λ f. f x.0 x.1) at

-- with the entry of the i-th cell's pair set, the pairs are named one cell further
pub pairs_named_more : (m n : ℕ) (cells : List NamedCell) (i : ℕ) (x : NamedCell) (named : List Bool) → AreKnown m n cells → i < length cells → x ≡ get_or cells i x → length named ≡ m * n →
    ArePairsNamed n cells i named → ArePairsNamed n cells (i + 1) (set named (x.0 * n + x.1) true)
pairs_named_more m n cells i x named k l e len at =
    grid_of-set n false named x.0 x.1 true server (place_within named n m x.0 x.1 len (subst (λ y. y.0 < m) (sym e) (known_shard m n cells i x k l)) server)
    ∙ ap (λ f. put2 f x.0 x.1 true) at ∙ fun_ext (λ s. fun_ext (λ v. each s v))
  where
    server : x.1 < n
    server = subst (λ y. y.1 < n) (sym e) (known_server m n cells i x k l)

    before : ℕ → ℕ → Bool
    before s v = ltb 0 (count_by (is_of s v) (take i cells))

    apart : (s v : ℕ) → is_of s v x ≡ false → put2 before x.0 x.1 true s v ≡ before s v
    apart s v q = elim (cases_eq s x.0) [
      | inl d ↦ rw d (put2-row before x.0 x.1 true v (λ g. absurd (let z : is_of s v x ≡ true = rw (d, g) (is_of-here x) in cc)))
      | inr d ↦ put2-apart before x.0 x.1 true s v d
    ]

    each : (s v : ℕ) → put2 before x.0 x.1 true s v ≡ ltb 0 (count_by (is_of s v) (take (i + 1) cells))
    each s v = elim (cases_Bool (is_of s v x)) [
      | inl q ↦
          let p = is_of-true s v x q in
          let more : count_by (is_of s v) (take (i + 1) cells) ≡ count_by (is_of s v) (take i cells) + 1 = count_by_more_yes (is_of s v) cells i x l (subst (λ y. is_of s v y ≡ true) e q) in
          rw (← p.0, ← p.1) (put2-here before x.0 x.1 true) ∙ sym (lt-ltb 0 (count_by (is_of s v) (take (i + 1) cells)) (omega arith))
      | inr q ↦ apart s v q ∙ ap (ltb 0) (sym (count_by_more_no (is_of s v) cells i x l (subst (λ y. is_of s v y ≡ false) e q)))
    ]

-- if the pair of the i-th cell was not named before, each pair is still named once
pub once_more : (cells : List NamedCell) (i : ℕ) (x : NamedCell) → i < length cells → x ≡ get_or cells i x → IsNamedOnce (take i cells) → ltb 0 (count_by (is_of x.0 x.1) (take i cells)) ≡ false →
    IsNamedOnce (take (i + 1) cells)
once_more cells i x l e once new s v = elim (cases_Bool (is_of s v x)) [
  | inl q ↦
      let p = is_of-true s v x q in
      let none : count_by (is_of x.0 x.1) (take i cells) ≤ 0 = ltb-false 0 (count_by (is_of x.0 x.1) (take i cells)) new in
      let here : count_by (is_of s v) (take i cells) ≤ 0 = rw (← p.0, ← p.1) none in
      let more : count_by (is_of s v) (take (i + 1) cells) ≡ count_by (is_of s v) (take i cells) + 1 = count_by_more_yes (is_of s v) cells i x l (subst (λ y. is_of s v y ≡ true) e q) in
      omega arith
  | inr q ↦
      let same : count_by (is_of s v) (take (i + 1) cells) ≡ count_by (is_of s v) (take i cells) = count_by_more_no (is_of s v) cells i x l (subst (λ y. is_of s v y ≡ false) e q) in
      let most : count_by (is_of s v) (take i cells) ≤ 1 = once s v in
      omega arith
]

-- if the pair of the i-th cell was named before, not each pair is named once
pub not_once : (cells : List NamedCell) (i : ℕ) (x : NamedCell) → i < length cells → x ≡ get_or cells i x → ltb 0 (count_by (is_of x.0 x.1) (take i cells)) ≡ true → IsNamedOnce cells → ⊥
not_once cells i x l e old once =
    let some : 0 < count_by (is_of x.0 x.1) (take i cells) = ltb-true 0 (count_by (is_of x.0 x.1) (take i cells)) old in
    let more : count_by (is_of x.0 x.1) (take (i + 1) cells) ≡ count_by (is_of x.0 x.1) (take i cells) + 1 = count_by_more_yes (is_of x.0 x.1) cells i x l (subst (λ y. is_of x.0 x.1 y ≡ true) e (is_of-here x)) in
    let all : count_by (is_of x.0 x.1) (take (i + 1) cells) ≤ count_by (is_of x.0 x.1) cells = sum_by-take-le (λ y. cond (is_of x.0 x.1 y) 1 0) cells (i + 1) in
    let most : count_by (is_of x.0 x.1) cells ≤ 1 = once x.0 x.1 in
    absurd (omega arith)

-- if each pair is named once, there is no double
pub no_double : (m n : ℕ) (cells : List NamedCell) → IsNamedOnce cells → first_from 0 m (double_of n cells) ≡ None
no_double m n cells once = first_from_none_from (double_of n cells) 0 m (λ s l h. ap (option_map (λ v. DoubleCell s v)) (first_none_from n (is_double cells s) (λ v b. le-ltb 1 (count_by (is_of s v) cells) (once s v))))

-- what is read at a pair's slot
pub count_read : (m n : ℕ) (counts : List ℕ) (s v d : ℕ) → length counts ≡ m * n → s < m → v < n → grid_of n 0 counts s v ≡ get_or counts (s * n + v) d
count_read m n counts s v d len l h = grid_of-within n 0 counts s v h ∙ get_or_default counts (s * n + v) 0 d (place_within counts n m s v len l h)

-- the lowest double of a shard is found in the counts
pub double_found : (n m : ℕ) (cells : List NamedCell) (counts read : List ℕ) (s r : ℕ) (o : Option ℕ) → grid_of n 0 counts ≡ (λ r v. count_by (is_of r v) cells) → m ≡ n → read ≡ counts → r ≡ s →
    o ≡ first_below m (λ v. ltb 1 (grid_of m 0 read r v)) → double_of n cells s ≡ option_map (λ v. DoubleCell s v) o
double_found n m cells counts read s r o e a b d f =
    let g : o ≡ first_below n (λ v. ltb 1 (grid_of n 0 counts s v)) = rw (← a, ← b, ← d) f in
    sym (ap (option_map (λ v. DoubleCell s v)) (g ∙ ap (λ (g : ℕ → ℕ → ℕ). first_below n (λ v. ltb 1 (g s v))) e))

-- what is counted where there is no cell
abbrev pub no_cells : LeadCells
no_cells = record { primaries = 0; handing = 0 }

-- the list of counts by shard has each lead counted as far as i
abbrev pub AreLeadsCounted : List NamedCell → ℕ → List LeadCells → Type 0
AreLeadsCounted cells i counts = entries_of no_cells counts ≡ lead_cells (take i cells)

-- counts of no cells are those of the leads before the first cell
pub leads_none : (k : ℕ) (cells : List NamedCell) (counts : List LeadCells) → counts ≡ replicate k no_cells → AreLeadsCounted cells 0 counts
leads_none k cells counts e = rw e (entries_of-empty no_cells k)

-- what has been counted of the i-th cell's shard
pub lead_count : (m n : ℕ) (cells : List NamedCell) (i : ℕ) (x : NamedCell) (counts : List LeadCells) (b : LeadCells) → AreKnown m n cells → i < length cells → x ≡ get_or cells i x → length counts ≡ m →
    AreLeadsCounted cells i counts → b ≡ get_or counts x.0 b → b ≡ lead_cells (take i cells) x.0
lead_count m n cells i x counts b k l e len at r =
    entries_of-read no_cells counts x.0 m b len (subst (λ y. y.0 < m) (sym e) (known_shard m n cells i x k l)) r ∙ ap (λ f. f x.0) at

-- of the first i cells at most i are counted
pub tally_small : (t : Cell → Bool) (s i : ℕ) (cells : List NamedCell) → i < length cells → tally t s (take i cells) ≤ i
tally_small t s i cells l =
    let most : tally t s (take i cells) ≤ length (take i cells) = count_by-le-length (λ y. eqb y.0 s && t y.2) (take i cells) in
    let long : length (take i cells) ≡ i = length-take-le i cells (omega arith) in
    omega arith

pub tally_more : (t : Cell → Bool) (s i : ℕ) (cells : List NamedCell) (x : NamedCell) → i < length cells → x ≡ get_or cells i x → x.0 ≡ s →
    tally t s (take (i + 1) cells) ≡ tally t s (take i cells) + bit (t x.2)
tally_more t s i cells x l e d = elim (cases_Bool (t x.2)) [
  | inl q ↦ count_by_more_yes (λ y. eqb y.0 s && t y.2) cells i x l (subst (λ y. (eqb y.0 s && t y.2) ≡ true) e (rw (eq-eqb x.0 s d, q) refl)) ∙ rw q refl
  | inr q ↦ count_by_more_no (λ y. eqb y.0 s && t y.2) cells i x l (subst (λ y. (eqb y.0 s && t y.2) ≡ false) e (rw (eq-eqb x.0 s d, q) refl)) ∙ rw q (omega arith)
]

pub tally_same : (t : Cell → Bool) (s i : ℕ) (cells : List NamedCell) (x : NamedCell) → i < length cells → x ≡ get_or cells i x → s ≢ x.0 →
    tally t s (take (i + 1) cells) ≡ tally t s (take i cells)
tally_same t s i cells x l e d = count_by_more_no (λ y. eqb y.0 s && t y.2) cells i x l (subst (λ y. (eqb y.0 s && t y.2) ≡ false) e (rw (ne_eqb x.0 s (λ g. d (sym g))) refl))

-- with the i-th cell added to its shard's counts, the leads are counted one cell further
pub leads_more : (m n : ℕ) (cells : List NamedCell) (i : ℕ) (x : NamedCell) (counts : List LeadCells) (b a : LeadCells) → AreKnown m n cells → i < length cells → x ≡ get_or cells i x → length counts ≡ m →
    AreLeadsCounted cells i counts → b ≡ get_or counts x.0 b → a.primaries ≡ b.primaries + bit (is_primary x.2) → a.handing ≡ b.handing + bit (is_handing x.2) →
    AreLeadsCounted cells (i + 1) (set counts x.0 a)
leads_more m n cells i x counts b a k l e len at r p h =
    entries_of-set no_cells counts x.0 a (rw len (subst (λ y. y.0 < m) (sym e) (known_shard m n cells i x k l))) ∙ ap (λ f. put f x.0 a) at ∙ fun_ext (λ s. each s)
  where
    read : b ≡ lead_cells (take i cells) x.0
    read = lead_count m n cells i x counts b k l e len at r

    same : (a b : LeadCells) → a.primaries ≡ b.primaries → a.handing ≡ b.handing → a ≡ b
    same a b p h = ap (λ (x : ℕ). with x a.handing) p ∙ ap (λ (x : ℕ). with b.primaries x) h
      where
        with : ℕ → ℕ → LeadCells
        with p h = record { primaries = p; handing = h }

    each : (s : ℕ) → put (lead_cells (take i cells)) x.0 a s ≡ lead_cells (take (i + 1) cells) s
    each s = elim (cases_eq s x.0) [
      | inl d ↦ put-here (lead_cells (take i cells)) x.0 a s d ∙ same a (lead_cells (take (i + 1) cells) s)
          (p ∙ ap (λ c. c.primaries + bit (is_primary x.2)) read ∙ rw d (sym (tally_more is_primary x.0 i cells x l e refl)))
          (h ∙ ap (λ c. c.handing + bit (is_handing x.2)) read ∙ rw d (sym (tally_more is_handing x.0 i cells x l e refl)))
      | inr d ↦ put-apart (lead_cells (take i cells)) x.0 a s d ∙ same (lead_cells (take i cells) s) (lead_cells (take (i + 1) cells) s)
          (sym (tally_same is_primary s i cells x l e d)) (sym (tally_same is_handing s i cells x l e d))
    ]

-- the lead of a shard is bad exactly where its counts say so
pub bad_by_counts : (m n : ℕ) (cells : List NamedCell) (counts : List LeadCells) (s : ℕ) (b : LeadCells) → AreKnown m n cells → IsNamedOnce cells → length counts ≡ m →
    entries_of no_cells counts ≡ lead_cells cells → s < m → b ≡ get_or counts s b → (ltb 1 b.primaries || ltb 0 b.handing) ≡ has_bad_lead n (cell_named cells s)
bad_by_counts m n cells counts s b k once len at l r =
    let read : b ≡ lead_cells cells s = entries_of-read no_cells counts s m b len l r ∙ ap (λ f. f s) at in
    let primaries : b.primaries ≡ count_below n (λ v. is_primary (cell_named cells s v)) = ap (λ c. c.primaries) read ∙ tally-is is_primary m n s cells refl k once in
    let handing : b.handing ≡ count_below n (λ v. is_handing (cell_named cells s v)) = ap (λ c. c.handing) read ∙ tally-is is_handing m n s cells refl k once in
    rw (primaries, handing, any_by_count n (λ v. is_handing (cell_named cells s v))) refl
