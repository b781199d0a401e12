-- A reopening's proposal: the replicas, the shards named as lost, the floors that are not met, and the servers that
-- stay as recorded.
use Rattle.std.specs.Prelude.{◌≡◌, ◌&&◌, ℕ, Bool, List, Option, is_some, length, map, nat_lt, not}
use Rattle.std.specs.List.{filter, range_with_len}
use Rattle.sm_server.specs.declared.call.Role.{Role}
use Rattle.sm_placement.specs.Setup.{sizes_of}
use Rattle.laws_network.specs.Reopening.{Server, is_asked}
use Rattle.sm_reopening.specs.Ongoing.{net_reopening}
use Rattle.smpland_reopening.specs.Chosen.{proposed_role}
use Rattle.smpland_reopening.specs.Confirmed.{is_down_next}
use Rattle.smpland_reopening.specs.Proposal.{document_shards, lost_shards}
use Rattle.smpland_reopening.specs.Reopening.{ReopeningModel}
use Rattle.smpland_reopening.specs.RoleGrids.{role_at}
use Rattle.smpland_reopening.specs.Settled.{RolesGiven, live_by, roles_within}
use Rattle.smpland_reopening.specs.declared.proposal.Proposal.{Proposal}
use Rattle.smpland_reopening.specs.declared.proposal.ShortFloor.{ShortFloor}

-- the roles that are proposed, of what has numbers
abbrev pub roles_proposed : ReopeningModel → RolesGiven
roles_proposed r = roles_within (length r.numbering.shards) (length r.numbering.servers) (proposed_role r)

-- how many servers that are up would have a replica of a shard, and its floor
abbrev pub live_and_floor : ReopeningModel → RolesGiven → ℕ → ShortFloor
live_and_floor r roles s = record {
  shard = s;
  live = live_by (length r.numbering.servers) roles (is_down_next r) s;
  floor = (sizes_of r.numbering).floor s;
}

-- a floor is not met
abbrev pub is_unmet : ShortFloor → Bool
is_unmet f = nat_lt f.live f.floor

-- the floors that these roles would not meet, in the order of the document's shards' numbers
abbrev pub short_floors : ReopeningModel → RolesGiven → List ShortFloor
short_floors r roles = filter is_unmet (map (live_and_floor r roles) (document_shards r))

-- the server has been asked, and has not answered
abbrev pub is_silent : ReopeningModel → ℕ → Bool
is_silent r v = is_asked (net_reopening r.ongoing) (Server v) && not (is_some ((net_reopening r.ongoing).told (Server v)))

-- the servers that have not answered, in the order of their numbers
abbrev pub unanswered_servers : ReopeningModel → List ℕ
unanswered_servers r = filter (is_silent r) (range_with_len 0 (net_reopening r.ongoing).servers)

-- the role that a proposal has of a server for a shard
abbrev pub proposal_role : Proposal → ℕ → ℕ → Option Role
proposal_role p = role_at p.roles

-- The proposal is that of a reopening.
pub record IsProposalOf (r : ReopeningModel) (p : Proposal) : Type 0 where
  pub roles : proposal_role p ≡ roles_proposed r
  pub lost : p.lost.items ≡ lost_shards r
  pub floors : p.floors.items ≡ short_floors r (roles_proposed r)
  pub carried : p.carried.items ≡ unanswered_servers r
