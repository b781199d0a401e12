-- Servers that are known, and the others: they may be Unknown, and a plan that calls one is not begun.
use Rattle.std.specs.Prelude.{ℕ, ◌||◌, Bool, false, List, [], ◌∷◌, Option, None, codes, if◌then◌else◌, is_some, length}
use Rattle.std.specs.Prelude.{nat_lt, not, option_and_then}
use Rattle.std.specs.List.{find, flat_map, list_any, range_with_len}
use Rattle.std.specs.Option.{option_map_or}
use Rattle.json.specs.Token.{Token, string}
use Rattle.sm_plan_code.specs.declared.instruction.Instr.{Instr}
use Rattle.sm_plan_code.specs.Instr.{names_of}
use Rattle.sm_plan_code.specs.Plan.{PlanModel, StreamModel}
use Rattle.sm_driver.specs.Driver.{DriverModel, record_of}
use Rattle.sm_driver.specs.Restores.{RestoreModel, restore_at}
use Rattle.smpland_lines.specs.Members.{list_member, server_text}

-- the restore that the driver keeps for a server
abbrev pub kept_restore : DriverModel → ℕ → Option RestoreModel
kept_restore d v = if nat_lt v (record_of d).sizes.servers then restore_at d.restores v else None

-- a server is known: a reopening has settled the journal, or a restore of the server is kept
abbrev pub is_known : DriverModel → ℕ → Bool
is_known d v = nat_lt 0 d.fence || is_some (kept_restore d v)

-- ---- plans

-- an instruction is a call at a server that is not known
abbrev pub calls_unknown : DriverModel → Instr → Bool
calls_unknown d i = option_map_or (λ v. not (is_known d v)) (names_of i).first false

-- a stream has such a call
abbrev pub has_unknown : DriverModel → StreamModel → Bool
has_unknown d stream = list_any (calls_unknown d) stream.code

-- the first such call of a plan: that of its first stream that has one
abbrev pub unknown_call : DriverModel → PlanModel → Option Instr
unknown_call d plan = option_and_then (λ stream. find (calls_unknown d) stream.code) (find (has_unknown d) plan.streams)

-- the server of that call
abbrev pub unknown_called : DriverModel → PlanModel → Option ℕ
unknown_called d plan = option_and_then (λ i. (names_of i).first) (unknown_call d plan)

-- ---- replies

-- the name of a server, if it is not known
abbrev pub unknown_text : DriverModel → ℕ → List Token
unknown_text d v = if is_known d v then [] else string (server_text d.machine.placement.setup v) ∷ []

-- those of all servers, as a member: whom to restore
abbrev pub unknown_member : DriverModel → List Token
unknown_member d = list_member (codes "restore") (flat_map (unknown_text d) (range_with_len 0 (length d.machine.placement.setup.servers)))
