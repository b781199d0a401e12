-- The proposal under a document: the shards that it is of, who would be their primaries, and who is waited for before.
use Rattle.std.specs.Prelude.{◌≡◌, ℕ, ◌&&◌, ◌==◌, Bool, List, [], ◌∷◌, Option, None, length, map}
use Rattle.std.specs.List.{filter, list_any, range_with_len}
use Rattle.sm_placement.specs.Layout.{grid_of}
use Rattle.sm_reopening.specs.declared.party.Party.{Party as ToldParty}
use Rattle.sm_reopening.specs.declared.party.Party.TheVariants as party
use Rattle.sm_reopening.specs.Losses.{is_named_lost}
use Rattle.sm_reopening.specs.Ongoing.{is_missing, net_reopening}
use Rattle.sm_reopening.specs.Proposal.{Documented, is_silent_successor, is_the, primary_of}
use Rattle.sm_reopening.specs.Settles.{net_party}
use Rattle.smpland_reopening.specs.Kept.{kept_of}
use Rattle.smpland_reopening.specs.Reopening.{ReopeningModel}
use Rattle.smpland_reopening.specs.Waiting.{parties_in_order}

-- the document has the shard with this number
abbrev pub has_shard : ReopeningModel → ℕ → Bool
has_shard r k = list_any (λ s. s == k) r.shards

-- the shards of the document, in the order of their numbers
abbrev pub document_shards : ReopeningModel → List ℕ
document_shards r = filter (has_shard r) (range_with_len 0 (length r.numbering.shards))

-- by shard and server, the role that the document gives
abbrev pub documented_roles : ReopeningModel → Documented
documented_roles r = grid_of (net_reopening r.ongoing).servers None r.documented.list.items

-- the primary that is proposed for a shard
abbrev pub proposed_primary : ReopeningModel → ℕ → Option ℕ
proposed_primary r s = primary_of r.ongoing (documented_roles r) s

-- the proposal names the shard as lost, by the copies that are kept of it
abbrev pub names_shard : ReopeningModel → ℕ → Bool
names_shard r s = is_named_lost r.ongoing (documented_roles r) (kept_of r s) s

-- the shards that it names: those that the document leaves out, too
abbrev pub lost_shards : ReopeningModel → List ℕ
lost_shards r = filter (names_shard r) (range_with_len 0 (length r.numbering.shards))

-- one shard is among others
abbrev pub is_shard_among : List ℕ → ℕ → Bool
is_shard_among shards s = list_any (λ k. k == s) shards

-- the shards that are named are those that the proposal names as lost
abbrev pub NamesLost : ReopeningModel → List ℕ → Type 0
NamesLost r named = (s : ℕ) → is_shard_among named s ≡ is_shard_among (lost_shards r) s

-- ---- who is waited for

-- the server would be the primary of the shard, has not answered, and is not recorded as its primary
abbrev pub is_silent_primary : ReopeningModel → ℕ → ℕ → Bool
is_silent_primary r v s = is_the (proposed_primary r s) v && is_silent_successor r.ongoing s v

-- so it is of a shard of the document
abbrev pub has_silent_lead : ReopeningModel → ℕ → Bool
has_silent_lead r v = list_any (is_silent_primary r v) r.shards

-- the parties that have to answer the fence whatever the others tell
abbrev pub awaited_parties : ReopeningModel → List ToldParty
awaited_parties r = filter (λ p. is_missing r.ongoing (net_party p)) (parties_in_order (net_reopening r.ongoing).servers)

-- the servers that would be primaries
abbrev pub silent_leaders : ReopeningModel → List ToldParty
silent_leaders r = map party.Server (filter (has_silent_lead r) (range_with_len 0 (net_reopening r.ongoing).servers))

-- the first list, or otherwise the second
abbrev pub parties_or : List ToldParty → List ToldParty → List ToldParty
parties_or [] others = others
parties_or (p ∷ ps) others = p ∷ ps

-- The parties, in their order, that have to answer the fence before anything can be confirmed: those that are not
-- carried over, or otherwise those that would be primaries and are not recorded so.
abbrev pub parties_waited_for : ReopeningModel → List ToldParty
parties_waited_for r = parties_or (awaited_parties r) (silent_leaders r)
