use Rattle.std.proofs.Common.{◌≡◌, ◌++◌, string_bytes, drop}
use Rattle.sm_placement.specs.Setup.{sizes_of}
use Rattle.sm_placement.specs.Layout.{place_of}
use Rattle.sm_report.specs.Answers.{answer_lines, place_after_all}
use Rattle.sm_report.proofs.answers.make_calls.Given as goal

abbrev pub invariant-loop-i : goal.invariant-loop-i
invariant-loop-i l = record {
  setup : l.placement.setup ≡ l.fn.placement.setup;
  answers : string_bytes l.out ++ answer_lines (sizes_of l.fn.placement.setup) (place_of l.placement) l.i (drop l.i l.calls)
      ≡ string_bytes l.fn.out ++ answer_lines (sizes_of l.fn.placement.setup) (place_of l.fn.placement) 0 l.calls;
  after : place_after_all (sizes_of l.fn.placement.setup) (place_of l.placement) (drop l.i l.calls)
      ≡ place_after_all (sizes_of l.fn.placement.setup) (place_of l.fn.placement) l.calls;
}
