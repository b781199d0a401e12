-- A list of cells as states and parties: read, and with one cell changed.
use Rattle.std.proofs.Common.{◌≡◌, ◌≢◌, ℕ, ◌<◌, false, List, length, map, set, get_or, replicate, Some, None, refl, sym, ap, ◌∙◌, arith, inl, inr}
use Rattle.std.specs.List.{range_with_len}
use Rattle.std.proofs.lemmas.Bool.{cases_eq, true≢false}
use Rattle.std.proofs.lemmas.List.{length-set, length-replicate, get_or-set_same, get_or-set_other, get_or-replicate, ext_get_or}
use Rattle.std.proofs.lemmas.List.FromFn.{get_or-map-range_with_len, length-map-range_with_len}
use Rattle.std.proofs.lemmas.Option.{none-some, same_Some}
use Rattle.sm_server.specs.declared.call.Cell.{Cell}
use Rattle.sm_server.specs.declared.call.Cell.TheVariants.{Absent, Prepared, Secondary, Primary, Forwarding}
use Rattle.sm_placement.specs.declared.cells.State.{State}
use Rattle.sm_placement.specs.declared.cells.State.TheVariants as state
use Rattle.sm_placement.specs.declared.parties.Party.{Party}
use Rattle.sm_placement.specs.Sums.{put}
use Rattle.sm_placement.specs.Layout.{entries_of}
use Rattle.sm_placement.specs.Cells.{state_of_cell, named_party, has_party, cell_of, with_parties}
use Rattle.sm_placement.proofs.Sums.{put-here, put-apart}
use Rattle.sm_placement.proofs.GridLemmas.{entries_of-is, entries_of-set, entries_of-empty, entries_of-read}

-- what a state has no party for is the same with any
pub cell_of-any : (s : State) (p q : Party) → has_party s ≡ false → cell_of s p ≡ cell_of s q
cell_of-any state.Absent p q h = refl
cell_of-any state.Prepared p q h = absurd (true≢false h)
cell_of-any state.Secondary p q h = refl
cell_of-any state.Primary p q h = refl
cell_of-any state.Forwarding p q h = absurd (true≢false h)

-- a cell is its state with its party
pub cell_of-named : (cell : Cell) (p : Party) → named_party cell ≡ Some p → cell_of (state_of_cell cell) p ≡ cell
cell_of-named Absent p h = absurd (none-some p h)
cell_of-named (Prepared from number) p h = ap (cell_of state.Prepared) (sym (same_Some (record { server = from; number = number }) p h))
cell_of-named Secondary p h = absurd (none-some p h)
cell_of-named Primary p h = absurd (none-some p h)
cell_of-named (Forwarding to number) p h = ap (cell_of state.Forwarding) (sym (same_Some (record { server = to; number = number }) p h))

-- a cell that is in no handover is made of its state, whatever the party
pub cell_of-unnamed : (cell : Cell) (p : Party) → named_party cell ≡ None → cell_of (state_of_cell cell) p ≡ cell
cell_of-unnamed Absent p h = refl
cell_of-unnamed (Prepared from number) p h = absurd (none-some _ (sym h))
cell_of-unnamed Secondary p h = refl
cell_of-unnamed Primary p h = refl
cell_of-unnamed (Forwarding to number) p h = absurd (none-some _ (sym h))

pub with_parties-is : (states : List State) (at : ℕ → Party) → with_parties states at ≡ map (λ k. cell_of (entries_of state.Absent states k) (at k)) (range_with_len 0 (length states))
unfolding with_parties
with_parties-is states at = refl

-- there are as many cells as states
pub length-with_parties : (states : List State) (at : ℕ → Party) → length (with_parties states at) ≡ length states
length-with_parties states at = ap length (with_parties-is states at) ∙ length-map-range_with_len (λ k. cell_of (entries_of state.Absent states k) (at k)) 0 (length states)

get_or-with_parties : (states : List State) (at : ℕ → Party) (k : ℕ) (d : Cell) → k < length states → get_or (with_parties states at) k d ≡ cell_of (entries_of state.Absent states k) (at k)
get_or-with_parties states at k d l =
    ap (λ (xs : List Cell). get_or xs k d) (with_parties-is states at) ∙ get_or-map-range_with_len (λ j. cell_of (entries_of state.Absent states j) (at j)) 0 (length states) k k d l (omega arith)

-- the cell at a slot. `now` is the list as its callers see it
pub with_parties-read : (states : List State) (at : ℕ → Party) {now : List Cell} (k : ℕ) (s : State) → with_parties states at ≡ now → k < length now → s ≡ get_or states k s →
    cell_of s (at k) ≡ entries_of Absent now k
with_parties-read states at {now} k s e l r =
    let m : k < length states = omega (arith, ap length e, length-with_parties states at) in
    ap (λ (x : State). cell_of x (at k)) (entries_of-read state.Absent states k (length states) s refl m r)
    ∙ sym (get_or-with_parties states at k Absent m) ∙ sym (entries_of-is Absent (with_parties states at) k) ∙ ap (λ (xs : List Cell). entries_of Absent xs k) e

-- one state is set, with the parties of the other slots as they are
pub with_parties-set : (states : List State) (before after : ℕ → Party) (k : ℕ) (s : State) (cell : Cell) → k < length states → ((j : ℕ) → j ≢ k → after j ≡ before j) → cell_of s (after k) ≡ cell →
    with_parties (set states k s) after ≡ set (with_parties states before) k cell
with_parties-set states before after k s cell l others here = ext_get_or Absent (with_parties (set states k s) after) (set (with_parties states before) k cell) len at
  where
    len : length (with_parties (set states k s) after) ≡ length (set (with_parties states before) k cell)
    len = length-with_parties (set states k s) after ∙ length-set states k s ∙ sym (length-set (with_parties states before) k cell ∙ length-with_parties states before)

    state_at : (j : ℕ) → entries_of state.Absent (set states k s) j ≡ put (entries_of state.Absent states) k s j
    state_at j = ap (λ (f : ℕ → State). f j) (entries_of-set state.Absent states k s l)

    at : (j : ℕ) → j < length (with_parties (set states k s) after) → get_or (with_parties (set states k s) after) j Absent ≡ get_or (set (with_parties states before) k cell) j Absent
    at j m =
        let n : j < length states = omega (arith, length-with_parties (set states k s) after, length-set states k s) in
        get_or-with_parties (set states k s) after j Absent (omega (arith, length-set states k s)) ∙ elim (cases_eq j k) [
          | inl e ↦ ap (λ (x : State). cell_of x (after j)) (state_at j ∙ put-here (entries_of state.Absent states) k s j e) ∙ ap (λ (q : ℕ). cell_of s (after q)) e ∙ here
              ∙ sym (ap (λ (q : ℕ). get_or (set (with_parties states before) k cell) q Absent) e ∙ get_or-set_same (with_parties states before) k cell Absent (omega (arith, length-with_parties states before)))
          | inr d ↦ ap (λ (x : State). cell_of x (after j)) (state_at j ∙ put-apart (entries_of state.Absent states) k s j d) ∙ ap (λ (p : Party). cell_of (entries_of state.Absent states j) p) (others j d)
              ∙ sym (get_or-set_other (with_parties states before) k j cell Absent d ∙ get_or-with_parties states before j Absent n)
        ]

-- no cell is there
pub with_parties-empty : (n : ℕ) (at : ℕ → Party) → with_parties (replicate n state.Absent) at ≡ replicate n Absent
with_parties-empty n at = ext_get_or Absent (with_parties (replicate n state.Absent) at) (replicate n Absent) (length-with_parties (replicate n state.Absent) at ∙ length-replicate n state.Absent ∙ sym (length-replicate n Absent))
    (λ j m.
    let l : j < n = omega (arith, length-with_parties (replicate n state.Absent) at, length-replicate n state.Absent) in
    get_or-with_parties (replicate n state.Absent) at j Absent (omega (arith, length-replicate n state.Absent))
    ∙ ap (λ (f : ℕ → State). cell_of (f j) (at j)) (entries_of-empty state.Absent n) ∙ sym (get_or-replicate n j Absent Absent l))
