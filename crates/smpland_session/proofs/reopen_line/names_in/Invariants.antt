use Rattle.std.proofs.Common.{◌≡◌, ◌++◌, drop, map}
use Rattle.smpland_session.specs.Asked.{texts_among}
use Rattle.smpland_session.proofs.reopen_line.names_in.Given as goal

-- the texts so far, and those that are left
abbrev pub invariant-loop-entry : goal.invariant-loop-entry
invariant-loop-entry l = map (λ name. name.now) l.names.items ++ texts_among (drop l.entry-index l.entries) ≡ texts_among l.entries
