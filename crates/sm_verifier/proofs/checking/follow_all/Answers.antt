use Rattle.std.proofs.Common.{◌≡◌, ◌<◌, ◌∷◌, [], ◌++◌, length, rules}
use Rattle.sm_placement.specs.Setup.{sizes_of}
use Rattle.sm_verifier.proofs.Ends.{good_next, finals_next, peaks_next}
use Rattle.sm_verifier.proofs.Faults.{stream_fault}
use Rattle.sm_verifier.proofs.checking.follow_all.Goals as goal

pub returns-in-Err-clause-fault : goal.returns-in-Err-clause-fault
returns-in-Err-clause-fault c =
    let within : c.loop-stream.stream < length c.args.plan.now.streams = search rules in
    rw c.fault_of.ensures (stream_fault (sizes_of c.args.config.now) c.args.plan.now c.loop-stream.stream c.in-Err.bad c.requires.budget c.requires.signals within c.loop-stream.invariant.good c.in-Err.ensures.bad)

pub loop-stream-preserved : goal.loop-stream-preserved
loop-stream-preserved c =
    let s = sizes_of c.args.config.now in
    let plan = c.args.plan.now in
    let i = c.loop-stream.stream in
    let parcels : c.push.new.self.items ≡ c.loop-stream.finals.items ++ c.in-Ok.parcel ∷ [] = search rules in
    let peaks : c.push-in-Ok.new.self.items ≡ c.loop-stream.peaks.items ++ c.in-Ok.peak ∷ [] = search rules in
    record {
      good = good_next s plan i c.loop-stream.invariant.good c.in-Ok.ensures.good;
      finals = finals_next s plan i c.loop-stream.finals.items c.push.new.self.items c.in-Ok.parcel c.loop-stream.invariant.finals (rw (← c.in-Ok.parcel-is) c.in-Ok.ensures.hold) parcels;
      peaks = peaks_next s plan i c.loop-stream.peaks.items c.push-in-Ok.new.self.items c.in-Ok.peak c.loop-stream.invariant.peaks (rw (← c.in-Ok.peak-is) c.in-Ok.ensures.peak) peaks;
    }
