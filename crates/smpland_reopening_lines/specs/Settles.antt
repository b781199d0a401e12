-- Settles in replies: what each party has from now on.
use Rattle.std.specs.Prelude.{ℕ, ◌||◌, Bool, List, [], ◌++◌, Option, Some, None, codes, false, if◌then◌else◌, is_some}
use Rattle.std.specs.Prelude.{length, option_map}
use Rattle.std.specs.Fmt.{digits}
use Rattle.std.specs.List.{flat_map, range_with_len}
use Rattle.json.specs.Token.{Token}
use Rattle.sm_server.specs.declared.call.Role.{Role}
use Rattle.sm_server.specs.declared.call.Role.TheVariants as role
use Rattle.sm_placement.specs.Place.{Place}
use Rattle.sm_placement.specs.Setup.{Setup, sizes_of}
use Rattle.laws_network.specs.Reopening.{Message, Settle}
use Rattle.sm_reopening.specs.Ongoing.{net_reopening}
use Rattle.sm_reopening.specs.Settles.{net_party, settle_sent}
use Rattle.sm_reopening.specs.declared.party.Party.{Party}
use Rattle.sm_reopening.specs.declared.party.Party.TheVariants.{MapOwner, Server}
use Rattle.smpland_reopening.specs.Proposal.{document_shards}
use Rattle.smpland_reopening.specs.Reopening.{ReopeningModel}
use Rattle.smpland_reopening.specs.Roles.{role_by_cell}
use Rattle.smpland_reopening.specs.Told.{has_told_of}
use Rattle.smpland_reopening.specs.Waiting.{unsettled_parties}
use Rattle.smpland_lines.specs.Members.{list_member, name_member, number_member, object, server_text, shard_text}
use Rattle.smpland_lines.specs.Members.{text_member}
use Rattle.smpland_reopening_lines.specs.Parties.{addressed_members}

-- the word for a role
abbrev pub given_cell_text : Role → List ℕ
given_cell_text role.Primary = codes "primary"
given_cell_text role.Secondary = codes "secondary"

-- the word for what a server has of a shard outside of handovers: its role, or nothing
abbrev pub settled_cell_text : Option Role → List ℕ
settled_cell_text (Some given) = given_cell_text given
settled_cell_text None = codes "absent"

-- a slot as it is from now on: its shard, the cell, and the shard's load
abbrev pub given_slot_members : Setup → ℕ → Option Role → List Token
given_slot_members setup s given =
    text_member (codes "shard") (shard_text setup s)
    ++ text_member (codes "cell") (settled_cell_text given)
    ++ number_member (codes "load") ((sizes_of setup).load s)

-- A settle brings a server the slot of each shard of which it has something from now on, or has told that it has
-- something.
abbrev pub is_brought : ReopeningModel → Place → ℕ → ℕ → Bool
is_brought r place v s = is_some (role_by_cell (place.cells s v)) || has_told_of r v s

-- the slot of a server and a shard, if a settle brings it
abbrev pub given_slot_text : ReopeningModel → Setup → Place → ℕ → ℕ → List Token
given_slot_text r setup place v s = if is_brought r place v s then object (given_slot_members setup s (role_by_cell (place.cells s v))) else []

-- those that a settle brings a server, as a member
abbrev pub given_slots_member : ReopeningModel → Setup → Place → ℕ → List Token
given_slots_member r setup place v = list_member (codes "slots") (flat_map (given_slot_text r setup place v) (range_with_len 0 (length setup.shards)))

-- an entry of the map: the shard, its server or none, and the version
abbrev pub entry_members : Setup → Place → ℕ → ℕ → List Token
entry_members setup place version s =
    text_member (codes "shard") (shard_text setup s)
    ++ name_member (codes "to") (option_map (server_text setup) (place.listed s))
    ++ number_member (codes "version") version

-- the entries of the document's shards, as a member
abbrev pub entries_member : ReopeningModel → Setup → Place → List Token
entries_member r setup place =
    list_member (codes "entries") (flat_map (λ s. object (entry_members setup place (net_reopening r.ongoing).base s)) (document_shards r))

-- what a settle brings: to the map's owner the entries, to a server its slots for the nonce under which it asked, if it
-- did
abbrev pub brought_members : ReopeningModel → Setup → Place → Party → Option ℕ → List Token
brought_members r setup place MapOwner asked = entries_member r setup place
brought_members r setup place (Server v) asked = name_member (codes "nonce") (option_map (digits 16 false) asked)
    ++ given_slots_member r setup place v

-- the network's settle to a party; no other message is told so
abbrev pub settle_text : List ℕ → ReopeningModel → Party → Message → List Token
settle_text journal r p (Settle _ _ asked s) = object (addressed_members journal r p ++ brought_members r s.setup s.place p asked)
settle_text journal r p _ = []

-- the settle that the controller sends to a party, if there is one
abbrev pub settle_to : List ℕ → ReopeningModel → Party → List Token
settle_to journal r p = flat_map (settle_text journal r p) (settle_sent (net_reopening r.ongoing) (net_party p))

-- those to the parties that have not taken them, as a member
abbrev pub settles_member : List ℕ → ReopeningModel → List Token
settles_member journal r = list_member (codes "settle") (flat_map (settle_to journal r) (unsettled_parties (net_reopening r.ongoing)))
