use Rattle.std.proofs.Common.{◌≡◌, ◌++◌}
use Rattle.std.specs.List.{flat_map, range_with_len}
use Rattle.smpland_state.specs.Document.{document_server}
use Rattle.smpland_state.proofs.document.write_each_server.Given as goal

-- the servers so far
abbrev pub invariant-loop-number : goal.invariant-loop-number
invariant-loop-number l =
    l.writer.tokens
    ≡ l.initial.writer.tokens ++ flat_map (document_server l.opened.driver.machine.placement.setup l.opened.driver.permits) (range_with_len 0 l.number)
