-- The holders of rights, and the calls that move rights about or give them up for others. One holder is the pool, and
-- each other holder is a grant: a grant that isn't made yet, or that is spent, has nothing (`SpentIsNothing` of
-- specs/Laws.antt says so of one that was given back or joined to another one).
use Rattle.std.specs.Prelude.{◌≡◌, ◌≢◌, ℕ, ◌+◌, ◌≤◌, ◌<◌, is_some, IsSome, None, List, [], ◌∷◌}
use Rattle.sm_placement.specs.Sums.{put, bit, sum_below}
use Rattle.sm_reservation.specs.Rights.{Rights}
use Rattle.sm_reservation.specs.Key.{IsOrdered}
use Rattle.sm_reservation.specs.Hold.{Hold, minus, plus}
use Rattle.sm_reservation.specs.HoldOf.{hold_of}
use Rattle.sm_reservation.specs.Amounts.{Right, count}
use Rattle.sm_reservation.specs.CanJoin.{AreApart}
use Rattle.sm_reservation.specs.Short.{first_short}

-- what one call does
pub data Move : Type 0 where
  -- rights go from one holder to another: a take, a fill, a split, a join, or a grant that is given back
  Moves : (from to : ℕ) (p : Rights) → Move
  -- rights are given up for others: a trade, an exchange, or a spare replica less or more in the pool
  Trades : (at : ℕ) (out got : Rights) → Move

-- what the holders have after a call
abbrev pub after_move : (ℕ → Hold) → Move → ℕ → Hold
after_move b (Moves i j p) = put (put b i (minus (b i) p)) j (plus (b j) p)
after_move b (Trades i p q) = put b i (plus (minus (b i) p) q)

-- the conditions of a call, at the first n holders, but for those on memory and on sums
abbrev pub CanMake : ℕ → (ℕ → Hold) → Move → Type 0
CanMake n b (Moves i j p) = (i < n) × (j < n) × (i ≢ j) × IsOrdered p × (first_short (b i) p ≡ None)
    × AreApart (b j) (hold_of p)
CanMake n b (Trades i p q) = (i < n) × IsOrdered p × IsOrdered q × (first_short (b i) p ≡ None)
    × AreApart (minus (b i) p) (hold_of q)

-- what the holders have after a list of calls
abbrev pub after_moves : (ℕ → Hold) → List Move → ℕ → Hold
after_moves b [] = b
after_moves b (m ∷ ms) = after_moves (after_move b m) ms

-- the conditions of each call of a list hold when its turn comes
abbrev pub CanMakeAll : ℕ → (ℕ → Hold) → List Move → Type 0
CanMakeAll n b [] = Unit {0}
CanMakeAll n b (m ∷ ms) = CanMake n b m × CanMakeAll n (after_move b m) ms

-- ---- how much there is of a right

-- with all holders
abbrev pub total : ℕ → (ℕ → Hold) → Right → ℕ
total n b r = sum_below n (λ i. count (b i) r)

-- given up by all trades
abbrev pub given_up : List Move → Right → ℕ
given_up [] r = 0
given_up (Moves i j p ∷ ms) r = given_up ms r
given_up (Trades i p q ∷ ms) r = count (hold_of p) r + given_up ms r

-- got by all trades
abbrev pub gained : List Move → Right → ℕ
gained [] r = 0
gained (Moves i j p ∷ ms) r = gained ms r
gained (Trades i p q ∷ ms) r = count (hold_of q) r + gained ms r

-- pool and grants add up to what there was, changed by what trades gave up and got
abbrev pub RightsAddUp : Type 0
RightsAddUp = (n : ℕ) (b : ℕ → Hold) (ms : List Move) → CanMakeAll n b ms → (r : Right)
    → total n (after_moves b ms) r + given_up ms r ≡ total n b r + gained ms r

-- ---- how many holders have a right to a cell, or a crown

-- how many of the first n holders have a right to the cell of s at v
abbrev pub cell_holders : ℕ → (ℕ → Hold) → ℕ → ℕ → ℕ
cell_holders n b s v = sum_below n (λ i. bit (is_some ((b i).cells s v)))

-- how many of the first n holders have the crown of s
abbrev pub crown_holders : ℕ → (ℕ → Hold) → ℕ → ℕ
crown_holders n b s = sum_below n (λ i. bit (is_some ((b i).crowns s)))

-- no cell right and no crown is with two holders
pub record HasOneHolder (n : ℕ) (b : ℕ → Hold) : Type 0 where
  pub cells : (s v : ℕ) → cell_holders n b s v ≤ 1
  pub crowns : (s : ℕ) → crown_holders n b s ≤ 1

-- what a trade gets is nowhere but in what it gives up
pub record IsFresh (n : ℕ) (b : ℕ → Hold) (out got : Rights) : Type 0 where
  pub cells : (s v : ℕ) → IsSome ((hold_of got).cells s v)
      → cell_holders n b s v ≤ bit (is_some ((hold_of out).cells s v))
  pub crowns : (s : ℕ) → IsSome ((hold_of got).crowns s) → crown_holders n b s ≤ bit (is_some ((hold_of out).crowns s))

-- each trade brings rights that are nowhere else
abbrev pub AllFresh : ℕ → (ℕ → Hold) → List Move → Type 0
AllFresh n b [] = Unit {0}
AllFresh n b (Moves i j p ∷ ms) = AllFresh n (after_move b (Moves i j p)) ms
AllFresh n b (Trades i p q ∷ ms) = IsFresh n b p q × AllFresh n (after_move b (Trades i p q)) ms

-- a cell right or a crown stays with one holder
abbrev pub RightsKeepOneHolder : Type 0
RightsKeepOneHolder = (n : ℕ) (b : ℕ → Hold) (ms : List Move) → CanMakeAll n b ms → AllFresh n b ms → HasOneHolder n b
    → HasOneHolder n (after_moves b ms)
