use Rattle.std.proofs.Common.{◌≡◌, ◌++◌, drop}
use Rattle.std.specs.List.{flat_map}
use Rattle.smpland_reopening_lines.specs.Proposals.{server_name_text}
use Rattle.smpland_reopening_lines.proofs.proposed.write_each_server.Given as goal

-- what is written, and what is left
abbrev pub invariant-loop-server : goal.invariant-loop-server
invariant-loop-server l =
    l.writer.tokens ++ flat_map (server_name_text l.numbering) (drop l.server-index l.servers)
    ≡ l.fn.writer.tokens ++ flat_map (server_name_text l.numbering) l.servers
