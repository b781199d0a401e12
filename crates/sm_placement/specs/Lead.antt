-- The lead of a shard: where its primary stands, and which handover of it is under way.
use Rattle.std.specs.Prelude.{◌≡◌, ◌≢◌, ◌↔◌, ℕ, ◌≤◌, ◌<◌, ◌==◌, ◌&&◌, Bool, true, false, Option, Some, None}
use Rattle.std.specs.Prelude.{if◌then◌else◌, List, [], ◌∷◌, filter}
use Rattle.std.specs.List.{range_with_len}
use Rattle.std.specs.Option.{option_or, option_map_or}
use Rattle.sm_server.specs.declared.call.Cell.{Cell}
use Rattle.sm_server.specs.declared.call.Cell.TheVariants.{Absent, Prepared, Secondary, Primary, Forwarding}
use Rattle.sm_placement.specs.declared.lead.Lead.{Lead}
use Rattle.sm_placement.specs.declared.lead.Lead.TheVariants.{Gone, At, Ready, Handing, Handed}
use Rattle.sm_placement.specs.declared.placement.Serving.{Serving}
use Rattle.sm_placement.specs.declared.placement.Serving.TheVariants.{Nobody, One}
use Rattle.sm_placement.specs.Setup.{Sizes}
use Rattle.sm_placement.specs.Rows.{serving_of}
use Rattle.sm_placement.specs.Place.{Place, load_at, live_at, down_count}
use Rattle.sm_placement.specs.declared.limits.TheConstants.{MOST_VERSION}

-- the server has no part in the shard's lead
abbrev pub IsPlain : Cell → Type 0
IsPlain Absent = Unit {0}
IsPlain Secondary = Unit {0}
IsPlain _ = ⊥

-- the lead describes the row, if the shard's highest handover number is n
abbrev pub Describes : Lead → ℕ → (ℕ → Cell) → Type 0
Describes Gone n row = (x : ℕ) → IsPlain (row x)
Describes (At u) n row = (row u ≡ Primary) × ((x : ℕ) → x ≢ u → IsPlain (row x))
Describes (Ready u v) n row = (u ≢ v) × (row u ≡ Primary) × (row v ≡ Prepared u n)
    × ((x : ℕ) → x ≢ u → x ≢ v → IsPlain (row x))
Describes (Handing u v) n row = (u ≢ v) × (row u ≡ Forwarding v n) × (row v ≡ Prepared u n)
    × ((x : ℕ) → x ≢ u → x ≢ v → IsPlain (row x))
Describes (Handed u v) n row = (u ≢ v) × (row u ≡ Forwarding v n) × (row v ≡ Primary)
    × ((x : ℕ) → x ≢ u → x ≢ v → IsPlain (row x))

-- no handover is under way
abbrev pub is_at_rest : Lead → Bool
is_at_rest Gone = true
is_at_rest (At u) = true
is_at_rest _ = false

-- the server that serves under a lead
abbrev pub leader : Lead → Option ℕ
leader Gone = None
leader (At u) = Some u
leader (Ready u v) = Some u
leader (Handing u v) = Some v
leader (Handed u v) = Some v

-- who serves under a lead
abbrev pub serving_under : Lead → Serving
serving_under lead = option_map_or One (leader lead) Nobody

-- Each shard's lead is at rest, each listed server is its shard's primary, no load is above its room, no shard is
-- below its floor, no more servers are down than the limit, and no version is above 2^40.
pub record IsSettled (c : Sizes) (p : Place) : Type 0 where
  pub leads : (s : ℕ) → s < c.shards → (lead : Lead) × (is_at_rest lead ≡ true) × Describes lead 0 (p.cells s)
  pub listed : (s u : ℕ) → s < c.shards → p.listed s ≡ Some u → p.cells s u ≡ Primary
  pub rooms : (v : ℕ) → v < c.servers → load_at c p v ≤ c.room v
  pub floors : (s : ℕ) → s < c.shards → c.floor s ≤ live_at c p s
  pub down : down_count c p ≤ p.limit
  pub versions : (s : ℕ) → s < c.shards → p.version s ≤ MOST_VERSION

-- the server has a part in the shard's lead
abbrev pub has_part : Cell → Bool
has_part Absent = false
has_part Secondary = false
has_part _ = true

-- the lead by the cell of the one server that has a part
abbrev pub lead_alone : ℕ → Cell → Option Lead
lead_alone u Primary = Some (At u)
lead_alone u _ = None

-- the lead by the cells of two servers, the first of which has the primary or is handing it to the second
abbrev pub lead_of_pair : ℕ → Cell → ℕ → Cell → Option Lead
lead_of_pair u Primary v (Prepared from number) = if from == u then Some (Ready u v) else None
lead_of_pair u (Forwarding to n) v (Prepared from k) = if (to == v) && ((from == u) && (n == k)) then Some (Handing u v) else None
lead_of_pair u (Forwarding to n) v Primary = if to == v then Some (Handed u v) else None
lead_of_pair u x v y = None

-- the lead of a row in which these servers have a part, and no other
abbrev pub lead_among : (ℕ → Cell) → List ℕ → Option Lead
lead_among row [] = Some Gone
lead_among row (u ∷ []) = lead_alone u (row u)
lead_among row (u ∷ (v ∷ [])) = option_or (lead_of_pair u (row u) v (row v)) (lead_of_pair v (row v) u (row u))
lead_among row _ = None

-- the lead that describes a row of n servers, by those of them that have a part in it; None if no lead does
abbrev pub lead_of : ℕ → (ℕ → Cell) → Option Lead
lead_of n row = lead_among row (filter (λ v. has_part (row v)) (range_with_len 0 n))

-- the lead of a row is found exactly if it describes the row under some number, and none if no lead does
pub record LeadWhereDescribed (n : ℕ) (row : ℕ → Cell) : Type 0 where
  pub found : (lead : Lead) → (lead_of n row ≡ Some lead) ↔ ((number : ℕ) × Describes lead number row)
  pub none : (lead_of n row ≡ None) ↔ ((lead : Lead) (number : ℕ) → Describes lead number row → ⊥)

-- who serves a row of n servers is told by the lead that describes it
abbrev pub ServingByLead : Type 0
ServingByLead = (lead : Lead) (number n : ℕ) (row : ℕ → Cell) → Describes lead number row
    → ((v : ℕ) → n ≤ v → row v ≡ Absent) → serving_of n row ≡ serving_under lead
