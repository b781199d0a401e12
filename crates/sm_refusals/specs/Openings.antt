-- Why a placement is not opened.
use Rattle.std.specs.Prelude.{ℕ, List, [], ◌∷◌, codes}
use Rattle.sm_placement.specs.Setup.{Setup}
use Rattle.sm_placement.specs.declared.opening.OpenFault.{OpenFault}
use Rattle.sm_placement.specs.declared.opening.OpenFault.TheVariants.{NoMemory, TooMany, UnknownName, DoubleCell}
use Rattle.sm_placement.specs.declared.opening.OpenFault.TheVariants.{BadLead, BadListing, OverRoom, Short, TooManyDown}
use Rattle.sm_refusals.specs.Refusals.{FieldModel, RefusalModel, server_field, shard_field}

-- a placement is refused, under this number and kind
abbrev pub placement_refusal : ℕ → List ℕ → List FieldModel → RefusalModel
placement_refusal n kind fields = record { front = codes "placement refused: "; number = n; kind = kind; fields = fields }

-- why a placement is not opened
abbrev pub open_refusal : Setup → OpenFault → RefusalModel
open_refusal setup NoMemory = placement_refusal 1 (codes "NoMemory") []
open_refusal setup TooMany = placement_refusal 2 (codes "TooMany") []
open_refusal setup UnknownName = placement_refusal 3 (codes "UnknownName") []
open_refusal setup (DoubleCell s v) = placement_refusal 4 (codes "DoubleCell") (shard_field setup s ∷ server_field setup v ∷ [])
open_refusal setup (BadLead s) = placement_refusal 5 (codes "BadLead") (shard_field setup s ∷ [])
open_refusal setup (BadListing s) = placement_refusal 6 (codes "BadListing") (shard_field setup s ∷ [])
open_refusal setup (OverRoom v) = placement_refusal 7 (codes "OverRoom") (server_field setup v ∷ [])
open_refusal setup (Short s) = placement_refusal 8 (codes "Short") (shard_field setup s ∷ [])
open_refusal setup TooManyDown = placement_refusal 9 (codes "TooManyDown") []
