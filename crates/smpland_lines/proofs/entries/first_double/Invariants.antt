use Rattle.smpland_lines.specs.Entries.{AreSingle}
use Rattle.smpland_lines.proofs.Doubles.{Holds}
use Rattle.smpland_lines.proofs.entries.first_double.Given as goal

abbrev pub invariant-loop-at : goal.invariant-loop-at
invariant-loop-at l = record {
  held : Holds l.key l.entries l.seen.keys l.at;
  single : AreSingle l.key l.entries l.at;
}
