-- The lines of a placement at the end of a report: its servers, and then its shards with their cells.
use Rattle.std.specs.Prelude.{ℕ, Bool, true, false, List, [], ◌∷◌, ◌++◌, codes, length, Option, Some, None}
use Rattle.std.specs.List.{flat_map, range_with_len}
use Rattle.std.specs.Fmt.{decimal}
use Rattle.sm_server.specs.declared.call.Cell.{Cell}
use Rattle.sm_server.specs.declared.call.Cell.TheVariants.{Absent, Prepared, Secondary, Primary, Forwarding}
use Rattle.sm_placement.specs.Setup.{Setup, sizes_of}
use Rattle.sm_placement.specs.Place.{Place, load_at, live_at}
pub use Rattle.sm_refusals.specs.Names.{server_name, shard_name}
use Rattle.sm_report_text.specs.Lines.{line}

-- whether a server is down
abbrev pub state_word : Bool → List ℕ
state_word false = codes "up"
state_word true = codes "down"

-- the line of a server: its room, its load, and whether it is down
abbrev pub server_line : Setup → Place → ℕ → List ℕ
server_line setup p v = line (codes "server " ∷ server_name setup v ∷ codes " room " ∷ decimal ((sizes_of setup).room v) ∷ codes " load " ∷ decimal (load_at (sizes_of setup) p v) ∷ codes " " ∷ state_word (p.down v) ∷ [])

-- the server that the published map names
abbrev pub listed_name : Setup → Option ℕ → List ℕ
listed_name setup None = codes "none"
listed_name setup (Some v) = server_name setup v

-- the line of a shard: its live replicas, its floor, and its entry in the published map
abbrev pub shard_line : Setup → Place → ℕ → List ℕ
shard_line setup p s = line (codes "shard " ∷ shard_name setup s ∷ codes " live " ∷ decimal (live_at (sizes_of setup) p s) ∷ codes " floor " ∷ decimal ((sizes_of setup).floor s) ∷ codes " listed " ∷ listed_name setup (p.listed s) ∷ codes " version " ∷ decimal (p.version s) ∷ [])

-- a server has a replica of the shard, in this role
abbrev pub replica_line : List ℕ → List ℕ → List ℕ
replica_line server role = line (codes "  " ∷ server ∷ codes " " ∷ role ∷ [])

-- a server has a side of a handover of the shard: the other server, and the handover's number
abbrev pub handover_line : List ℕ → List ℕ → List ℕ → ℕ → List ℕ
handover_line server way other number = line (codes "  " ∷ server ∷ codes " " ∷ way ∷ codes " " ∷ other ∷ codes " number " ∷ decimal number ∷ [])

-- the line of what a server has of a shard, if it has something
abbrev pub cell_line : Setup → ℕ → Cell → List ℕ
cell_line setup v Absent = []
cell_line setup v Primary = replica_line (server_name setup v) (codes "primary")
cell_line setup v Secondary = replica_line (server_name setup v) (codes "secondary")
cell_line setup v (Prepared from number) = handover_line (server_name setup v) (codes "prepared from") (server_name setup from) number
cell_line setup v (Forwarding to number) = handover_line (server_name setup v) (codes "forwarding to") (server_name setup to) number

-- the lines of a shard's cells, by server
abbrev pub cell_lines : Setup → Place → ℕ → List ℕ
cell_lines setup p s = flat_map (λ v. cell_line setup v (p.cells s v)) (range_with_len 0 (length setup.servers))

-- the lines of a shard: its own, and those of its cells
abbrev pub shard_lines : Setup → Place → ℕ → List ℕ
shard_lines setup p s = shard_line setup p s ++ cell_lines setup p s

-- the lines of all servers
abbrev pub server_lines : Setup → Place → List ℕ
server_lines setup p = flat_map (server_line setup p) (range_with_len 0 (length setup.servers))

-- the lines of all shards, each with its cells
abbrev pub all_shard_lines : Setup → Place → List ℕ
all_shard_lines setup p = flat_map (shard_lines setup p) (range_with_len 0 (length setup.shards))

-- the lines of a placement: its servers, and then its shards
abbrev pub ending : Setup → Place → List ℕ
ending setup p = server_lines setup p ++ all_shard_lines setup p
