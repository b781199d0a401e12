-- Cells that were told, the claims that they give, and what becomes of them.
use Rattle.std.proofs.Common.{◌≡◌, ◌≢◌, ◌≤◌, ◌⊎◌, ℕ, refl, ap, inl, inr, arith, Bool, true, false, Option, Some, None}
use Rattle.std.proofs.lemmas.Bool.{cases_lt}
use Rattle.sm_server.specs.declared.call.Cell.{Cell}
use Rattle.sm_server.specs.declared.call.Cell.TheVariants as cell
use Rattle.sm_placement.specs.Lead.{IsPlain}
use Rattle.sm_placement.specs.Rows.{IsKnownCell}
use Rattle.laws_network.specs.Reopening.{Entries, Inventory, Slots, Unknown}
use Rattle.laws_network.specs.ReopeningLaws.{claim, claim_told}
use Rattle.laws_settling.specs.Inheriting.{left_of, told_cell}

-- ---- claims

claim_zero : (c : Cell) (b : Bool) → claim c b ≤ 0 → c ≡ cell.Absent
claim_zero cell.Absent b l = refl
claim_zero cell.Secondary b l = absurd (omega arith)
claim_zero cell.Primary b l = absurd (omega arith)
claim_zero (cell.Prepared from number) true l = absurd (omega arith)
claim_zero (cell.Prepared from number) false l = absurd (omega arith)
claim_zero (cell.Forwarding to number) b l = absurd (omega arith)

claim_four : (c : Cell) (b : Bool) → 4 ≤ claim c b → c ≡ cell.Primary
claim_four cell.Absent b l = absurd (omega arith)
claim_four cell.Secondary b l = absurd (omega arith)
claim_four cell.Primary b l = refl
claim_four (cell.Prepared from number) true l = absurd (omega arith)
claim_four (cell.Prepared from number) false l = absurd (omega arith)
claim_four (cell.Forwarding to number) b l = absurd (omega arith)

-- who has no claim has told nothing
pub no_claim : (o : Option Inventory) (k : ℕ) → claim_told o k ≤ 0 → told_cell o k ≡ cell.Absent
no_claim None k l = refl
no_claim (Some (Slots cells reached)) k l = claim_zero (cells k) (reached k) l
no_claim (Some (Unknown n)) k l = refl
no_claim (Some Entries) k l = refl

-- and who has told nothing has none
pub none_told : (o : Option Inventory) (k : ℕ) → told_cell o k ≡ cell.Absent → claim_told o k ≤ 0
none_told None k e = omega arith
none_told (Some (Slots cells reached)) k e = let z = ap (λ c. claim c (reached k)) e in omega arith
none_told (Some (Unknown n)) k e = omega arith
none_told (Some Entries) k e = omega arith

-- a primary has the best claim
pub primary_claim : (o : Option Inventory) (k : ℕ) → told_cell o k ≡ cell.Primary → 4 ≤ claim_told o k
primary_claim None k e = absurd (cc)
primary_claim (Some (Slots cells reached)) k e = let z = ap (λ c. claim c (reached k)) e in omega arith
primary_claim (Some (Unknown n)) k e = absurd (cc)
primary_claim (Some Entries) k e = absurd (cc)

-- and only a primary has it
pub only_primary : (o : Option Inventory) (k : ℕ) → 4 ≤ claim_told o k → told_cell o k ≡ cell.Primary
only_primary None k l = absurd (omega arith)
only_primary (Some (Slots cells reached)) k l = claim_four (cells k) (reached k) l
only_primary (Some (Unknown n)) k l = absurd (omega arith)
only_primary (Some Entries) k l = absurd (omega arith)

-- a server has told nothing, or has a claim
pub told_or_none : (o : Option Inventory) (k : ℕ) → (told_cell o k ≡ cell.Absent) ⊎ (1 ≤ claim_told o k)
told_or_none o k = elim (cases_lt 0 (claim_told o k)) [ inl some ↦ inr (omega arith) | inr low ↦ inl (no_claim o k low) ]

-- a server that told a cell told its slots
pub slots_told : (o : Option Inventory) (k : ℕ) → told_cell o k ≢ cell.Absent → (cells : ℕ → Cell) × (reached : ℕ → Bool) × (o ≡ Some (Slots cells reached))
slots_told None k n = absurd (n refl)
slots_told (Some (Slots cells reached)) k n = (cells, reached, refl)
slots_told (Some (Unknown m)) k n = absurd (n refl)
slots_told (Some Entries) k n = absurd (n refl)

-- ---- what is left

-- no part in the lead
pub left_plain : (c : Cell) → IsPlain (left_of c)
left_plain cell.Absent = tt
left_plain cell.Secondary = tt
left_plain cell.Primary = tt
left_plain (cell.Prepared from number) = tt
left_plain (cell.Forwarding to number) = tt

-- no other party of a handover
pub left_known : (n : ℕ) (c : Cell) → IsKnownCell n (left_of c)
left_known n cell.Absent = tt
left_known n cell.Secondary = tt
left_known n cell.Primary = tt
left_known n (cell.Prepared from number) = tt
left_known n (cell.Forwarding to number) = tt

-- and no primary
pub left_no_primary : (c : Cell) → left_of c ≢ cell.Primary
left_no_primary cell.Absent e = absurd (cc)
left_no_primary cell.Secondary e = absurd (cc)
left_no_primary cell.Primary e = absurd (cc)
left_no_primary (cell.Prepared from number) e = absurd (cc)
left_no_primary (cell.Forwarding to number) e = absurd (cc)
