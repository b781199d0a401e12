use Rattle.sm_placement.specs.Setup.{sizes_of}
use Rattle.sm_verifier.specs.Plan.{AreGood}
use Rattle.sm_verifier.specs.Checked.{AreFinals, ArePeaks}
use Rattle.sm_verifier.proofs.checking.follow_all.Given as goal

abbrev pub invariant-loop-stream : goal.invariant-loop-stream
invariant-loop-stream l = record {
  good : AreGood (sizes_of l.config) l.plan l.stream;
  finals : AreFinals (sizes_of l.config) l.plan l.stream l.finals.items;
  peaks : ArePeaks (sizes_of l.config) l.plan l.stream l.peaks.items;
}
