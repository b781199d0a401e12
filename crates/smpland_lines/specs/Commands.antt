-- Facts that are known of a command that was read over the names of a configuration, or over any names if there is none.
-- `IsKnownAnywhere` is internal: you need not read it for the public contracts.
use Rattle.std.specs.Prelude.{◌≢◌, ◌≤◌, ℕ, List, Option, Some, None, IsSome, IfSome, length}
use Rattle.std.specs.Borrow.{Bor}
use Rattle.sm_placement.specs.Setup.{Setup, server_named, shard_named}
use Rattle.sm_placement.specs.declared.limits.TheConstants.{MOST_SERVERS, MOST_SHARDS}
use Rattle.sm_plan_code.specs.declared.limits.TheConstants.{MOST_MOVES, MOST_RIGHTS}
use Rattle.smpland_lines.specs.declared.form.TheConstants.{MOST_EXACT}
use Rattle.smpland_lines.specs.declared.command.StateOf.{StateOf}
use Rattle.smpland_lines.specs.declared.command.StateOf.TheVariants.{Whole, Shard, Plan}
use Rattle.smpland_lines.specs.declared.command.InventoryText.{InventoryText}
use Rattle.smpland_lines.specs.declared.command.InventoryText.TheVariants as told
use Rattle.smpland_lines.specs.declared.command.LineCommand.{LineCommand}
use Rattle.smpland_lines.specs.declared.command.LineCommand.TheVariants as line
use Rattle.smpland_lines.specs.declared.command.DriverCommand.TheVariants as driver
use Rattle.smpland_lines.specs.declared.command.ReopeningCommand.TheVariants as reopening
use Rattle.smpland_lines.specs.declared.command.Question.TheVariants as question
use Rattle.smpland_lines.specs.declared.command.PlanQuestion.TheVariants as plans

-- the name is that of a server
abbrev pub IsServerOf : Option (Bor Setup) → List ℕ → Type 0
IsServerOf (Some config) name = IsSome (server_named config.now name)
IsServerOf None _ = Unit {0}

-- the name is that of a shard
abbrev pub IsShardOf : Option (Bor Setup) → List ℕ → Type 0
IsShardOf (Some config) name = IsSome (shard_named config.now name)
IsShardOf None _ = Unit {0}

-- what the state is asked of has a name that is known
abbrev pub IsKnownState : Option (Bor Setup) → StateOf → Type 0
IsKnownState config (Shard name) = IsShardOf config name.now
IsKnownState _ Whole = Unit {0}
IsKnownState _ (Plan _) = Unit {0}

-- the map's owner tells no slots and no nonce, and a server one of them
abbrev pub IsToldBy : Option (Bor (List ℕ)) → InventoryText → Type 0
IsToldBy None told.Map = Unit {0}
IsToldBy (Some _) (told.Slots slots) = length slots.now ≤ MOST_RIGHTS
IsToldBy (Some _) (told.Unknown nonce) = nonce ≢ 0
IsToldBy _ _ = ⊥

-- names are known, lists and numbers are below their limits, and random bits are not 0
abbrev pub IsKnownCommand : Option (Bor Setup) → LineCommand → Type 0
IsKnownCommand _ (line.Open _ journal _) = journal ≢ 0
IsKnownCommand _ (line.Driver (driver.Answered _ _ number)) = number ≤ MOST_EXACT
IsKnownCommand config (line.Driver (driver.Approve server _)) = IsServerOf config server.now
IsKnownCommand _ (line.Driver (driver.Restarted permit base)) = (permit ≤ MOST_EXACT)
    × IfSome base (λ number. number ≤ MOST_EXACT)
IsKnownCommand config (line.Driver (driver.Restore server nonce)) = IsServerOf config server.now × (nonce ≢ 0)
IsKnownCommand config (line.Driver (driver.Copied shard journal fence _)) =
    IsShardOf config shard.now × (journal ≢ 0) × (fence ≤ MOST_EXACT)
IsKnownCommand _ (line.Reopening (reopening.Reopen _ lost journal epoch)) =
    (length lost.now ≤ MOST_SERVERS) × IfSome journal (λ bits. bits ≢ 0) × IfSome epoch (λ number. number ≢ 0)
IsKnownCommand _ (line.Reopening (reopening.Fenced server base told)) = (base ≤ MOST_EXACT) × IsToldBy server told
IsKnownCommand _ (line.Reopening (reopening.Confirm base cells lost)) =
    (base ≤ MOST_EXACT) × (length cells.now ≤ MOST_RIGHTS) × (length lost.now ≤ MOST_SHARDS)
IsKnownCommand _ (line.Reopening (reopening.Settled _ base)) = base ≤ MOST_EXACT
IsKnownCommand _ (line.Question (question.InForce (plans.Moves moves))) = length moves.now ≤ MOST_MOVES
IsKnownCommand config (line.Question (question.InForce (plans.Drain server))) = IsServerOf config server.now
IsKnownCommand config (line.Question (question.State of)) = IsKnownState config of
IsKnownCommand _ (line.Question (question.Since place)) = place ≤ MOST_EXACT
IsKnownCommand config (line.Question (question.InForce (plans.Audit server place slots))) =
    IsServerOf config server.now × (place ≤ MOST_EXACT) × (length slots.now ≤ MOST_RIGHTS)
IsKnownCommand _ (line.Question (question.InForce (plans.Failed _ _ number _))) = number ≤ MOST_EXACT
IsKnownCommand _ _ = Unit {0}

-- all that is known of the command has nothing to do with names
abbrev pub IsKnownAnywhere : LineCommand → Type 0
IsKnownAnywhere command = (config : Option (Bor Setup)) → IsKnownCommand config command
