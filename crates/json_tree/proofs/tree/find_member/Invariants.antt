use Rattle.std.proofs.Common.{◌≡◌, ◌≤◌, length, take}
use Rattle.serde_json.specs.Find.{get_member}
use Rattle.json_tree.specs.View.{members_view}
use Rattle.json_tree.proofs.tree.find_member.Given as goal

abbrev pub invariant-members : goal.invariant-members
invariant-members l = (get_member l.name (members_view l.members) ≡ get_member l.name (members_view (take l.left l.members))) × (l.left ≤ length l.members)

abbrev pub decreases-members : goal.decreases-members
decreases-members l = l.left
