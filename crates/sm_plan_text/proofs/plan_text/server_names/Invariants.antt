use Rattle.std.proofs.Common.{◌≡◌, take}
use Rattle.sm_placement.specs.Setup.{names_of_servers}
use Rattle.sm_plan_text.proofs.plan_text.server_names.Given as goal

abbrev pub invariant-loop-number : goal.invariant-loop-number
invariant-loop-number l = l.names ≡ take l.number (names_of_servers l.config)
