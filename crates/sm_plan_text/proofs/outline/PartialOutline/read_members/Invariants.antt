use Rattle.std.proofs.Common.{◌≡◌, ◌≤◌, ℕ, length}
use Rattle.json.specs.Json.{value, members}
use Rattle.serde_json.specs.Data.{Members}
use Rattle.serde_json.specs.Read.{of_members, converted}
use Rattle.sm_plan_text.specs.Outlines.{IsPartialOutline}
use Rattle.sm_plan_text.specs.declared.limits.TheConstants.{MOST_DEPTH}
use Rattle.sm_plan_text.proofs.outline.PartialOutline.read_members.Given as goal

abbrev pub invariant-members : goal.invariant-members
invariant-members l =
    (n : ℕ) × (length l.reader ≤ n)
    × ((whole : Members) → IsPartialOutline l.initial.self whole → (found : Members) × IsPartialOutline l.self found
    × (converted (λ ms. of_members ms whole) (members (value MOST_DEPTH) (length l.initial.reader) l.initial.reader) ≡ converted (λ ms. of_members ms found) (members (value MOST_DEPTH) n l.reader)))

abbrev pub decreases-members : goal.decreases-members
decreases-members l = length l.reader
