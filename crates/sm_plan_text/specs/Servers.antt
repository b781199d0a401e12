-- The servers of a document.
use Rattle.std.specs.Prelude.{ℕ, List, [], ◌∷◌, Option, Some, None, if◌then◌else◌}
use Rattle.std.specs.List.{enumerate_from, filter_map}
use Rattle.serde_json.specs.Data.{Data}
use Rattle.sm_placement.specs.Setup.{ServerRow}
use Rattle.sm_plan_text.specs.declared.fault.TextFault.{TextFault}
use Rattle.sm_plan_text.specs.declared.member.Member.TheVariants.{Servers, Name, Region, Room, Down}
use Rattle.sm_plan_text.specs.Values.{text_in, number_in, flag_in, names_in, id_of}
use Rattle.sm_plan_text.specs.Tables.{Row, one, maybe, name, new_name, whole, flag, own_faults}
use Rattle.sm_placement.specs.declared.limits.TheConstants.{MOST_LOAD}

-- the members of a server, whose name may not be one of those that are taken
abbrev pub server_table : List (List ℕ) → List Row
server_table taken =
    one Name (new_name taken) ∷
    one Region name ∷
    one Room (whole MOST_LOAD) ∷
    maybe Down flag ∷ []

-- the faults of a server that stands behind these
abbrev pub server_faults : List Data → Data → List TextFault
server_faults before d = own_faults Servers (server_table (names_in before)) d

-- a server of the configuration, as its object says it
abbrev pub server_in : Data → ServerRow
server_in d = record { name = text_in Name d; region = text_in Region d; room = number_in Room MOST_LOAD d }

-- the id of a server that is down, by its number in the list
abbrev pub id_if_down : ℕ × Data → Option ℕ
id_if_down numbered = if flag_in Down numbered.1 then Some (id_of numbered.0) else None

-- the ids of the servers that are down
abbrev pub down_in : List Data → List ℕ
down_in servers = filter_map id_if_down (enumerate_from 0 servers)
