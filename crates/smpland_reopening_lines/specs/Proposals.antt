-- The proposal in replies: the replicas, the shards that may be lost, the floors that are not met, and the servers that
-- stay as recorded.
use Rattle.std.specs.Prelude.{◌≡◌, ℕ, List, [], ◌∷◌, ◌++◌, Option, Some, None, codes, length}
use Rattle.std.specs.List.{flat_map, range_with_len}
use Rattle.json.specs.Token.{Token, string}
use Rattle.sm_server.specs.declared.call.Role.{Role}
use Rattle.sm_placement.specs.Setup.{Setup}
use Rattle.sm_reopening.specs.Ongoing.{net_reopening}
use Rattle.sm_reopening.specs.declared.party.Party.{Party}
use Rattle.smpland_reopening.specs.Proposal.{document_shards, lost_shards, parties_waited_for}
use Rattle.smpland_reopening.specs.Proposed.{roles_proposed, short_floors, unanswered_servers}
use Rattle.smpland_reopening.specs.Reopening.{ReopeningModel}
use Rattle.smpland_reopening.specs.Settled.{RolesGiven}
use Rattle.smpland_reopening.specs.declared.proposal.ShortFloor.{ShortFloor}
use Rattle.smpland_lines.specs.Members.{list_member, number_member, object, object_member, server_text, shard_text}
use Rattle.smpland_lines.specs.Members.{text_member}
use Rattle.smpland_reopening_lines.specs.Parties.{waiting_member}
use Rattle.smpland_reopening_lines.specs.Settles.{given_cell_text}

-- a replica, if the server is to have one
abbrev pub proposed_replica_text : Setup → ℕ → Option Role → List Token
proposed_replica_text numbering v None = []
proposed_replica_text numbering v (Some role) =
    object (text_member (codes "server") (server_text numbering v) ++ text_member (codes "state") (given_cell_text role))

-- the replicas of a shard, in the order of the servers' numbers
abbrev pub replicas_text : Setup → RolesGiven → ℕ → List Token
replicas_text numbering roles s = flat_map (λ v. proposed_replica_text numbering v (roles s v)) (range_with_len 0 (length numbering.servers))

-- a shard with its replicas
abbrev pub row_text : Setup → RolesGiven → ℕ → List Token
row_text numbering roles s =
    object (text_member (codes "shard") (shard_text numbering s) ++ list_member (codes "cells") (replicas_text numbering roles s))

-- the shards of the document, as a member
abbrev pub cells_member : ReopeningModel → List Token
cells_member r = list_member (codes "cells") (flat_map (row_text r.numbering (roles_proposed r)) (document_shards r))

-- a shard by its name
abbrev pub shard_name_text : Setup → ℕ → List Token
shard_name_text numbering s = string (shard_text numbering s) ∷ []

-- the shards that may be lost, as a member
abbrev pub lost_member : Setup → List ℕ → List Token
lost_member numbering shards = list_member (codes "lost") (flat_map (shard_name_text numbering) shards)

-- a floor that is not met
abbrev pub floor_text : Setup → ShortFloor → List Token
floor_text numbering f =
    object (text_member (codes "shard") (shard_text numbering f.shard)
    ++ number_member (codes "live") f.live ++ number_member (codes "floor") f.floor)

-- those that are not met, as a member
abbrev pub floors_member : Setup → List ShortFloor → List Token
floors_member numbering floors = list_member (codes "floors") (flat_map (floor_text numbering) floors)

-- a server by its name
abbrev pub server_name_text : Setup → ℕ → List Token
server_name_text numbering v = string (server_text numbering v) ∷ []

-- the servers that stay as they are recorded, as a member
abbrev pub carried_over_member : Setup → List ℕ → List Token
carried_over_member numbering servers = list_member (codes "carried") (flat_map (server_name_text numbering) servers)

-- all that may be confirmed
abbrev pub proposal_members : ReopeningModel → List Token
proposal_members r =
    number_member (codes "base") (net_reopening r.ongoing).base
    ++ cells_member r
    ++ lost_member r.numbering (lost_shards r)
    ++ floors_member r.numbering (short_floors r (roles_proposed r))
    ++ carried_over_member r.numbering (unanswered_servers r)

-- the same as a member
abbrev pub proposal_member : ReopeningModel → List Token
proposal_member r = object_member (codes "proposal") (proposal_members r)

-- who has to answer, or otherwise what may be confirmed
abbrev pub waiting_or_proposal : ReopeningModel → List Party → List Token
waiting_or_proposal r [] = proposal_member r
waiting_or_proposal r (p ∷ ps) = waiting_member r.numbering (p ∷ ps)

-- the reply to an answer to a fence: who has to answer, or otherwise what may be confirmed
abbrev pub TellsAwaited : ReopeningModel → List Token → List Token → Type 0
TellsAwaited r before after = after ≡ before ++ waiting_or_proposal r (parties_waited_for r)
