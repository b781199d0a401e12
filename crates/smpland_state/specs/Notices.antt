-- Notices to servers that were carried over.
use Rattle.std.specs.Prelude.{ℕ, false, List, [], ◌++◌, codes, length, slice_index_or, if◌then◌else◌}
use Rattle.std.specs.List.{flat_map, range_with_len}
use Rattle.json.specs.Token.{Token}
use Rattle.sm_driver.specs.Driver.{DriverModel}
use Rattle.smpland_lines.specs.Members.{list_member, number_member, object, server_text, text_member}
use Rattle.smpland_state.specs.Bits.{bits_member}

-- the notice to a server: in which journal it was carried over, and the fence of that
abbrev pub notice_members : DriverModel → ℕ → List Token
notice_members d v =
    text_member (codes "server") (server_text d.machine.placement.setup v)
    ++ bits_member (codes "journal") d.journal
    ++ number_member (codes "fence") d.fence

-- the same, if the server was carried over and has not come up since
abbrev pub carried_text : DriverModel → ℕ → List Token
carried_text d v = if slice_index_or d.carried v false then object (notice_members d v) else []

-- those to all servers, as a member
abbrev pub carried_member : DriverModel → List Token
carried_member d =
    list_member (codes "notice") (flat_map (carried_text d) (range_with_len 0 (length d.machine.placement.setup.servers)))
