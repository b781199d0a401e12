-- Why a server may not be restarted.
use Rattle.std.specs.Prelude.{ℕ, List, [], ◌∷◌, codes, Option, Some, None}
use Rattle.sm_placement.specs.Setup.{Setup}
use Rattle.sm_task_controller.specs.declared.decision.Denied.{Denied}
use Rattle.sm_task_controller.specs.declared.decision.Denied.TheVariants as denied
use Rattle.sm_refusals.specs.Refusals.{FieldModel, Number, RefusalModel, shard_field}

-- a stream, behind its plan if that is named
abbrev pub stream_fields : Option ℕ → ℕ → List FieldModel
stream_fields (Some plan) i = Number (codes "plan") plan ∷ Number (codes "stream") i ∷ []
stream_fields None i = Number (codes "stream") i ∷ []

-- a restart is denied, under this number and kind
abbrev pub denied_as : ℕ → List ℕ → List FieldModel → RefusalModel
denied_as n kind fields = record { front = codes "denied "; number = n; kind = kind; fields = fields }

-- why a server may not be restarted; the plan of a stream is named so, or not at all
abbrev pub denied_refusal : Setup → Option ℕ → Denied → RefusalModel
denied_refusal setup plan denied.AlreadyDown = denied_as 1 (codes "AlreadyDown") []
denied_refusal setup plan (denied.Engaged stream) = denied_as 2 (codes "Engaged") (stream_fields plan stream.stream)
denied_refusal setup plan denied.GlobalCap = denied_as 3 (codes "GlobalCap") []
denied_refusal setup plan (denied.ShardCap s) = denied_as 4 (codes "ShardCap") (shard_field setup s ∷ [])
denied_refusal setup plan denied.LogFull = denied_as 5 (codes "LogFull") []
