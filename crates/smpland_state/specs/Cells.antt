-- Cells and slots in replies.
use Rattle.std.specs.Prelude.{ℕ, List, [], ◌++◌, codes, length, slice_get, if◌then◌else◌}
use Rattle.std.specs.List.{flat_map, range_with_len}
use Rattle.std.specs.Option.{option_map_or}
use Rattle.json.specs.Token.{Token}
use Rattle.sm_server.specs.declared.call.Cell.{Cell}
use Rattle.sm_server.specs.declared.call.Cell.TheVariants.{Absent, Prepared, Secondary, Primary, Forwarding}
use Rattle.sm_server.specs.Cell.{is_absent}
use Rattle.sm_placement.specs.Setup.{Setup, sizes_of}
use Rattle.smpland_lines.specs.Members.{list_member, number_member, object, shard_text, text_member}
use Rattle.smpland_state.specs.Calls.{handover_members}

-- the word for what a server has of a shard
abbrev pub word_of_cell : Cell → List ℕ
word_of_cell Absent = codes "absent"
word_of_cell (Prepared from number) = codes "prepared"
word_of_cell Secondary = codes "secondary"
word_of_cell Primary = codes "primary"
word_of_cell (Forwarding to number) = codes "forwarding"

-- of a cell in a handover, the other server and the handover's number
abbrev pub party_members : Setup → Cell → List Token
party_members setup Absent = []
party_members setup (Prepared from number) = handover_members setup (codes "party") from number
party_members setup Secondary = []
party_members setup Primary = []
party_members setup (Forwarding to number) = handover_members setup (codes "party") to number

-- a cell: its word under this name, and in a handover the other server and the handover's number
abbrev pub cell_members : Setup → List ℕ → Cell → List Token
cell_members setup name cell = text_member name (word_of_cell cell) ++ party_members setup cell

-- a slot of a server: its shard, the cell, and the shard's load
abbrev pub slot_members : Setup → ℕ → Cell → List Token
slot_members setup s cell =
    text_member (codes "shard") (shard_text setup s)
    ++ cell_members setup (codes "cell") cell
    ++ number_member (codes "load") ((sizes_of setup).load s)

-- the same, unless the server has nothing of the shard
abbrev pub slot_text : Setup → ℕ → Cell → List Token
slot_text setup s cell = if is_absent cell then [] else object (slot_members setup s cell)

-- the slot of a shard, by a server's cells
abbrev pub slot_at : Setup → List Cell → ℕ → List Token
slot_at setup cells s = option_map_or (slot_text setup s) (slice_get cells s) []

-- those of all shards, as a member
abbrev pub slots_member : Setup → List Cell → List Token
slots_member setup cells = list_member (codes "slots") (flat_map (slot_at setup cells) (range_with_len 0 (length setup.shards)))
