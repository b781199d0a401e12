use Rattle.std.proofs.Common.{◌≡◌, ◌++◌, string_bytes, drop}
use Rattle.std.specs.List.{AllWithin}
use Rattle.sm_executor.specs.Clients.{IsClient}
use Rattle.sm_report.specs.RunLines.{client_lines}
use Rattle.sm_report.proofs.run_lines.push_clients.Given as goal

abbrev pub invariant-loop-i : goal.invariant-loop-i
invariant-loop-i g l = record {
  lines : string_bytes l.out ++ client_lines l.config l.i (drop l.i l.clients) ≡ string_bytes l.fn.out ++ client_lines l.config 0 l.clients;
  ways : AllWithin (IsClient g.N.Naming.setup g.N.Naming.opened) l.clients 0 l.i;
}
