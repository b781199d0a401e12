use Rattle.std.proofs.Common.{◌≡◌, ◌≤◌, length}
use Rattle.std.specs.Prelude.{vec_capacity}
use Rattle.sm_report.proofs.boards.make_clients.Given as goal

abbrev pub invariant-loop-shard : goal.invariant-loop-shard
invariant-loop-shard g l = (length l.clients.items ≡ l.shard-index) × (length l.asks ≤ vec_capacity l.clients)
