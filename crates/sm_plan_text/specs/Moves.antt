-- The moves of a document, for which a plan is to be made.
use Rattle.std.specs.Prelude.{ℕ, List, [], ◌∷◌}
use Rattle.serde_json.specs.Data.{Data}
use Rattle.sm_plan_code.specs.declared.moves.Move.{Move}
use Rattle.sm_plan_text.specs.declared.fault.TextFault.{TextFault}
use Rattle.sm_plan_text.specs.declared.member.Member.TheVariants.{Moves, Shard, From, To}
use Rattle.sm_plan_text.specs.Values.{id_in}
use Rattle.sm_plan_text.specs.Tables.{Row, one, known, own_faults}

-- the members of a move
abbrev pub move_table : List (List ℕ) → List (List ℕ) → List Row
move_table shards servers =
    one Shard (known shards) ∷
    one From (known servers) ∷
    one To (known servers) ∷ []

-- the faults of a move, whatever stands before it in the list
abbrev pub move_faults : List (List ℕ) → List (List ℕ) → List Data → Data → List TextFault
move_faults shards servers before d = own_faults Moves (move_table shards servers) d

-- a move, as its object says it
abbrev pub move_in : List (List ℕ) → List (List ℕ) → Data → Move
move_in shards servers d = record { shard = id_in shards Shard d; from = id_in servers From d; to = id_in servers To d }
