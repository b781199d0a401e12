-- The five calls at one server: which cell each leads to, and what a call that is not served is answered.
use Rattle.std.specs.Prelude.{◌≡◌, ◌≢◌, ◌≤◌, ◌↔◌, ◌⊎◌, ◌&&◌, ◌==◌, ℕ, IsTrue, Bool, true, false, Option, Some, None}
use Rattle.std.specs.Prelude.{Result, Ok, Err, if◌then◌else◌, nat_lt}
use Rattle.sm_server.specs.declared.call.Cell.{Cell}
use Rattle.sm_server.specs.declared.call.Cell.TheVariants.{Absent, Prepared, Secondary, Primary, Forwarding}
use Rattle.sm_server.specs.declared.call.Role.TheVariants as role
use Rattle.sm_server.specs.declared.call.Call.{Call}
use Rattle.sm_server.specs.declared.call.Call.TheVariants.{Add, Drop, Change, PrepareAdd, PrepareDrop}
use Rattle.sm_server.specs.declared.call.Refusal.{Refusal}
use Rattle.sm_server.specs.declared.call.Refusal.TheVariants.{Down, AlreadyHeld, NotHeld, WrongRole, NoRoom}
use Rattle.sm_server.specs.declared.call.Served.{Served}
use Rattle.sm_server.specs.Cell.{cell_in, IsPrepared, is_absent}

-- The five calls (SM 2021) as a set of triples: a call leads from a cell to a next cell.
abbrev pub Leads : Call → Cell → Cell → Type 0
Leads (Add r) cell next =
    ((cell ≡ Absent) × (next ≡ cell_in r)) ⊎ (IsPrepared cell × (r ≡ role.Primary) × (next ≡ Primary))
Leads Drop cell next = (cell ≢ Absent) × (next ≡ Absent)
Leads (Change from to) cell next = (from ≢ to) × (cell ≡ cell_in from) × (next ≡ cell_in to)
Leads (PrepareAdd owner number) cell next = (cell ≡ Absent) × (next ≡ Prepared owner number)
Leads (PrepareDrop new_owner number) cell next = (cell ≡ Primary) × (next ≡ Forwarding new_owner number)

-- the same set as a function
abbrev pub led_to : Call → Cell → Option Cell
led_to (Add r) Absent = Some (cell_in r)
led_to (Add role.Primary) (Prepared from number) = Some Primary
led_to Drop (Prepared from number) = Some Absent
led_to Drop Secondary = Some Absent
led_to Drop Primary = Some Absent
led_to Drop (Forwarding to number) = Some Absent
led_to (Change role.Secondary role.Primary) Secondary = Some Primary
led_to (Change role.Primary role.Secondary) Primary = Some Secondary
led_to (PrepareAdd owner number) Absent = Some (Prepared owner number)
led_to (PrepareDrop new_owner number) Primary = Some (Forwarding new_owner number)
led_to _ _ = None

-- the function has the relation's triples, and no others
abbrev pub LeadsWhereLed : Type 0
LeadsWhereLed = (call : Call) (cell next : Cell) → (led_to call cell ≡ Some next) ↔ Leads call cell next

-- why a call that leads nowhere is refused
abbrev pub refusal_of : Call → Cell → Refusal
refusal_of (Add r) cell = AlreadyHeld
refusal_of (PrepareAdd owner number) cell = AlreadyHeld
refusal_of _ Absent = NotHeld
refusal_of _ _ = WrongRole

-- a replica comes to a server only if there is room for it
abbrev with_room : Cell → ℕ → ℕ → Cell → Result Cell Refusal
with_room cell free_room load next =
    if is_absent cell && nat_lt free_room load then Err NoRoom else Ok next

-- the answer of a server that is up
abbrev from_led : Option Cell → Call → Cell → ℕ → ℕ → Result Cell Refusal
from_led None call cell free_room load = Err (refusal_of call cell)
from_led (Some next) call cell free_room load = with_room cell free_room load next

-- A server's answer to a call: the next cell, or of the refusals that apply the first of Down, AlreadyHeld,
-- NotHeld, WrongRole and NoRoom.
abbrev pub served : Cell → ℕ → ℕ → Bool → Call → Result Cell Refusal
served cell free_room load up call =
    if up then from_led (led_to call cell) call cell free_room load else Err Down

-- A call is allowed at a server and leads to a next cell: the server is up, the call leads there,
-- and if the server has nothing of the shard yet it has room for it.
abbrev pub Allows : Cell → ℕ → ℕ → Bool → Call → Cell → Type 0
Allows cell free_room load up call next =
    IsTrue up × Leads call cell next × (cell ≡ Absent → load ≤ free_room)

-- a call is served exactly if it is allowed, and then leads where it is allowed to lead
abbrev pub ServedWhereAllowed : Type 0
ServedWhereAllowed = (cell next : Cell) (free_room load : ℕ) (up : Bool) (call : Call) →
    (served cell free_room load up call ≡ Ok next) ↔ Allows cell free_room load up call next

-- a first try of a numbered call
abbrev first_try : ℕ → Result Cell Refusal → Result Served Refusal
first_try number (Ok next) = Ok (record { cell = next; last = number; fresh = true })
first_try number (Err why) = Err why

-- a further try of a numbered call that had its effect
abbrev further_try : ℕ → Cell → Result Served Refusal
further_try number cell = Ok (record { cell = cell; last = number; fresh = false })

-- A server's answer to a numbered call: the number of the last call that had an effect on the cell
-- is not applied again.
abbrev pub served_numbered : Cell → ℕ → ℕ → ℕ → ℕ → Bool → Call → Result Served Refusal
served_numbered cell last number free_room load up call =
    if up
    then (if number == last then further_try last cell else first_try number (served cell free_room load up call))
    else Err Down

-- once a numbered call had its effect, a further try under its number at a server that is up changes nothing
abbrev pub ServedOnce : Type 0
ServedOnce = (cell : Cell) (last number free_room load : ℕ) (call : Call) (answer : Served) →
    served_numbered cell last number free_room load true call ≡ Ok answer →
    (free_room load : ℕ) (call : Call) →
    served_numbered answer.cell answer.last number free_room load true call ≡ further_try number answer.cell
