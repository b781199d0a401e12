-- Permits of restarts in replies, and the reply to an opening, which has those of the servers that are down, and names
-- those that are not known.
use Rattle.std.specs.Prelude.{ℕ, List, [], ◌++◌, Option, Some, None, codes, length, option_and_then, if◌then◌else◌}
use Rattle.std.specs.List.{flat_map, range_with_len}
use Rattle.std.specs.Option.{option_map_or}
use Rattle.json.specs.Token.{Token}
use Rattle.sm_placement.specs.Setup.{server_named}
use Rattle.laws_network.specs.Controller.{is_permitted}
use Rattle.sm_driver.specs.Driver.{DriverModel, record_of}
use Rattle.sm_driver.specs.Permits.{permit_of}
use Rattle.smpland_lines.specs.Members.{list_member, number_member, object, object_member, server_text, text_member}
use Rattle.smpland_state.specs.Bits.{bits_member}
use Rattle.smpland_state.specs.Known.{unknown_member}
use Rattle.smpland_state.specs.Unserved.{unserved_member}

-- a permit of a server
abbrev pub permit_members : List ℕ → ℕ → List Token
permit_members server permit = text_member (codes "server") server ++ number_member (codes "permit") permit

-- the same under a word, as a member
abbrev pub permit_member : List ℕ → List ℕ → ℕ → List Token
permit_member word server permit = object_member word (permit_members server permit)

-- a server whose restart is approved: its permit, and the shards that nobody serves meanwhile
abbrev pub approved_members : DriverModel → ℕ → ℕ → List Token
approved_members d v permit =
    permit_members (server_text d.machine.placement.setup v) permit
    ++ unserved_member d.machine.placement.setup (record_of d).place v

-- the same as a member
abbrev pub approved_member : DriverModel → ℕ → ℕ → List Token
approved_member d v permit = object_member (codes "approved") (approved_members d v permit)

-- the server, if it is down under this permit
abbrev pub if_under : DriverModel → ℕ → ℕ → Option ℕ
if_under d permit v = if is_permitted (permit_of d.permits v) permit then Some v else None

-- the server of this name, if it is down under this permit
abbrev pub server_under : DriverModel → List ℕ → ℕ → Option ℕ
server_under d name permit = option_and_then (if_under d permit) (server_named d.machine.placement.setup name)

-- what came of a permit that was given to a server, as a member: it is down under it, or its restart has ended
abbrev pub given_member : DriverModel → List ℕ → ℕ → List Token
given_member d server permit =
    option_map_or (λ v. approved_member d v permit) (server_under d server permit) (permit_member (codes "ended") server permit)

-- the permit under which a server is down, if it is
abbrev pub permit_text : DriverModel → ℕ → List Token
permit_text d v =
    option_map_or (λ permit. object (permit_members (server_text d.machine.placement.setup v) permit)) (permit_of d.permits v) []

-- those of all servers, as a member
abbrev pub permits_member : DriverModel → List Token
permits_member d = list_member (codes "permits") (flat_map (permit_text d) (range_with_len 0 (length d.machine.placement.setup.servers)))

-- the journal is open in an epoch, with these permits, and with these servers to restore
abbrev pub opened_members : DriverModel → List Token
opened_members d =
    bits_member (codes "journal") d.journal ++ number_member (codes "epoch") d.epoch ++ permits_member d
    ++ unknown_member d

-- the same as a member
abbrev pub opened_member : DriverModel → List Token
opened_member d = object_member (codes "opened") (opened_members d)
