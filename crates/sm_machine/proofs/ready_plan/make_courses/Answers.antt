use Rattle.std.proofs.Common.{slice_index, length, ap, ◌∙◌, arith}
use Rattle.sm_placement.specs.Setup.{sizes_of}
use Rattle.sm_machine.proofs.Readied.{courses_empty, first_more, peaks_more}
use Rattle.sm_machine.proofs.ready_plan.make_courses.Goals as goal

pub discard_courses-requires : goal.discard_courses-requires
discard_courses-requires c = courses_empty _ (λ i. slice_index c.args.checked.now.peaks i) c.loop-stream.stream (c.in-Err.ensures.err ∙ c.loop-stream.invariant.courses)

pub loop-stream-preserved : goal.loop-stream-preserved
loop-stream-preserved c = record {
  courses = first_more (λ i. slice_index c.args.checked.now.peaks i) c.loop-stream.stream c.peak.result c.loop-stream.courses.items c.add_course.new.courses.items c.loop-stream.invariant.courses c.in-Ok.ensures.ok c.peak.ensures.value;
  peaks = peaks_more (sizes_of c.args.checked.now.setup) c.args.checked.now c.loop-stream.stream c.peak.result c.loop-stream.invariant.peaks c.peak.ensures.value c.peak.ensures.peak;
}

pub returns-clause-peaks : goal.returns-clause-peaks
returns-clause-peaks c i l =
    let a = c.loop-stream-test.false in
    let b = ap length (c.streams-count.ensures.value ∙ ap (λ p. p.streams) c.plan.ensures.value) in
    c.loop-stream.invariant.peaks i (omega arith)
