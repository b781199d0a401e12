use Rattle.std.proofs.Common.{◌≡◌, length, drop}
use Rattle.sm_report.proofs.RunStages.{shards_of}
use Rattle.sm_report.proofs.boards.are_of.Given as goal

abbrev pub invariant-loop-i : goal.invariant-loop-i
invariant-loop-i g l = record {
  long : length l.clients ≡ length l.asks;
  rest : shards_of (drop l.i l.clients) ≡ drop l.i l.asks → shards_of l.clients ≡ l.asks;
}
