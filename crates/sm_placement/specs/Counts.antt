-- How many servers of a shard's row are live, and how many serve it.
-- Internal definitions: you need not read them for the public contracts.
use Rattle.std.specs.Prelude.{◌≡◌, ◌<◌, ◌≤◌, ℕ, ◌+◌, ◌-◌, ◌^◌, ◌==◌, ◌&&◌, ◌||◌, not, Bool, Option, Some, None}
use Rattle.std.specs.Prelude.{if◌then◌else◌, List, length}
use Rattle.std.specs.Option.{option_or, unwrap_or}
use Rattle.sm_server.specs.declared.call.Cell.{Cell}
use Rattle.sm_server.specs.declared.call.Cell.TheVariants.{Forwarding}
use Rattle.sm_server.specs.Cell.{is_secondary}
use Rattle.sm_placement.specs.declared.row.Counts.{Counts}
use Rattle.sm_placement.specs.declared.limits.TheConstants.{MOST_SERVERS}
use Rattle.sm_placement.specs.Sums.{bit}
use Rattle.sm_placement.specs.Rows.{serves, is_live, live_in, serving_in}
use Rattle.sm_placement.specs.Layout.{entries_of}

-- the counts of a row of n servers
abbrev pub counts_in : ℕ → (ℕ → Cell) → (ℕ → Bool) → Counts
counts_in n row down = record { live = live_in n row down; serving = serving_in n row }

-- the server has a replica that is live while the server is up
abbrev pub has_replica : (ℕ → Cell) → ℕ → Bool
has_replica row v = is_secondary (row v) || serves row v

-- the server to which a cell forwards
abbrev pub target_of : Cell → Option ℕ
target_of (Forwarding to number) = Some to
target_of _ = None

-- the other server whose part in a row may change with the cell of v: the one to which the old or the new cell
-- forwards, or v itself if neither does
abbrev pub party_of : Cell → Cell → ℕ → ℕ
party_of old next v = unwrap_or (option_or (target_of old) (target_of next)) v

-- f at v and at u, once if they are one
abbrev pub at_both : (ℕ → ℕ) → ℕ → ℕ → ℕ
at_both f v u = if u == v then f v else f v + f u

-- what two servers add to the counts of a row
abbrev pub counts_at : (ℕ → Cell) → (ℕ → Bool) → ℕ → ℕ → Counts
counts_at row down v u = record {
  live = at_both (λ q. bit (is_live row down q)) v u;
  serving = at_both (λ q. bit (serves row q)) v u;
}

-- the counts after one part of them, which was `before`, is `after`
abbrev pub corrected : Counts → Counts → Counts → Counts
corrected counts before after = record {
  live = counts.live + after.live - before.live;
  serving = counts.serving + after.serving - before.serving;
}

-- one part can leave the counts, and the other come in
pub record CanCorrect (counts before after : Counts) : Type 0 where
  pub live : before.live ≤ counts.live + after.live
  pub serving : before.serving ≤ counts.serving + after.serving
  pub live_fits : counts.live + after.live < 2 ^ 32
  pub serving_fits : counts.serving + after.serving < 2 ^ 32

-- what a server that is down or not, and has a replica or not, adds to a count of live replicas
abbrev pub part_of : Bool → Bool → ℕ
part_of down has = bit (not down && has)

-- each shard's count after a server goes down or comes up: the part that the server had is exchanged
abbrev pub AreToggled : List ℕ → List ℕ → Bool → (ℕ → Bool) → Type 0
AreToggled before after down has = (s : ℕ) → s < length before
    → entries_of 0 after s + part_of (not down) (has s) ≡ entries_of 0 before s + part_of down (has s)

-- each shard's count has the part that the server has before it goes down or comes up, and is that of a row
abbrev pub CanToggle : List ℕ → Bool → (ℕ → Bool) → Type 0
CanToggle lives down has = (s : ℕ) → s < length lives
    → (part_of (not down) (has s) ≤ entries_of 0 lives s) × (entries_of 0 lives s ≤ MOST_SERVERS)
