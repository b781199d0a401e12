use Rattle.std.proofs.Common.{◌≡◌, ◌+◌, max, refl, sym, ◌∙◌, arith, rules}
use Rattle.std.specs.Prelude.{length, true, false}
use Rattle.std.proofs.lemmas.Option.{slice_get_read}
use Rattle.sm_placement.specs.Setup.{sizes_of}
use Rattle.sm_placement.specs.Sums.{bit}
use Rattle.sm_reservation.specs.HoldOf.{hold_of}
use Rattle.sm_plan_code.specs.Instr.{is_call}
use Rattle.sm_verifier.specs.Stream.{Course, course, hold_before}
use Rattle.sm_verifier.proofs.Peaks.{listing_at, peak_next}
use Rattle.sm_verifier.proofs.Streams.{next, breaks_by, unsettled, good}
use Rattle.sm_verifier.proofs.following.follow_code.Goals as goal
use Rattle.sm_verifier.proofs.following.follow_code.Goals.{then-is_call, else-is_call}

pub returns-in-Err-clause-bad : goal.returns-in-Err-clause-bad
returns-in-Err-clause-bad c =
    let s : Course = course (sizes_of c.args.config.now) c.args.signals.now c.args.budget c.args.hold.now.rights c.args.code.now in
    let here = slice_get_read c.args.code.now (length c.args.code.now) c.loop-instr.instr-index c.instr-item.result refl c.loop-instr-test.true c.instr-item.is in
    rw c.bad_at.ensures (breaks_by s c.loop-instr.instr-index c.loop-instr.calls c.loop-instr.at (hold_of c.loop-instr.hold.rights) (hold_of c.follow_one.new.hold.rights) c.instr-item.result c.in-Err.fault c.loop-instr.invariant.at c.loop-instr.invariant.followed here c.in-Err.ensures.answer)

pub loop-instr-preserved : goal.loop-instr-preserved
loop-instr-preserved c =
    let s : Course = course (sizes_of c.args.config.now) c.args.signals.now c.args.budget c.args.hold.now.rights c.args.code.now in
    let here = slice_get_read c.args.code.now (length c.args.code.now) c.loop-instr.instr-index c.instr-item.result refl c.loop-instr-test.true c.instr-item.is in
    let count : c.if-is_call.calls ≡ c.loop-instr.calls + bit (is_call c.instr-item.result) = elim c.if-is_call.branch [
      | then-is_call w ↦ let call : is_call c.instr-item.result ≡ true = sym c.is_call.ensures ∙ w.if-is_call.true in rw call w.calls-is
      | else-is_call w ↦ let other : is_call c.instr-item.result ≡ false = sym c.is_call.ensures ∙ w.if-is_call.false in rw other (let same = w.calls-is in omega arith)
    ] in
    let followed = next s c.loop-instr.instr-index c.loop-instr.calls (hold_of c.loop-instr.hold.rights) (hold_of c.follow_one.new.hold.rights) c.instr-item.result c.loop-instr.invariant.followed here (rw c.in_default.is at c.follow_one.ensures.answer) c.follow_one.ensures.grows in
    let listing = listing_at _ (hold_before s (c.loop-instr.instr-index + 1)) c.longest_list.ensures.listing followed.hold in
    let top : c.max-peak.result ≡ max c.loop-instr.peak c.longest_list.result = search rules in
    record {
      at = rw c.loop-instr.invariant.at refl;
      peak = rw top (peak_next s c.loop-instr.instr-index c.loop-instr.peak c.longest_list.result c.follow_one.new.hold.rights c.loop-instr.invariant.peak listing c.longest_list.ensures.count);
      small = omega arith;
      capacity = let grown = c.follow_one.ensures.capacity in let within = c.loop-instr.invariant.capacity in omega arith;
      followed = rw count followed;
    }

pub returns-then-not-is_settled-clause-bad : goal.returns-then-not-is_settled-clause-bad
returns-then-not-is_settled-clause-bad c =
    let s : Course = course (sizes_of c.args.config.now) c.args.signals.now c.args.budget c.args.hold.now.rights c.args.code.now in
    let end : c.loop-instr.instr-index ≡ length c.args.code.now = omega (arith, c.loop-instr-test.false, c.loop-instr.auto.instr-index-end) in
    rw c.loop-instr.invariant.at (unsettled s c.loop-instr.instr-index c.loop-instr.calls (hold_of c.loop-instr.hold.rights) end c.loop-instr.invariant.followed (λ rest. let wrong = c.is_settled.ensures.1 rest in let refused = c.if-not-is_settled.true in cc))

pub returns-clause-good : goal.returns-clause-good
returns-clause-good c =
    let s : Course = course (sizes_of c.args.config.now) c.args.signals.now c.args.budget c.args.hold.now.rights c.args.code.now in
    let end : c.loop-instr.instr-index ≡ length c.args.code.now = omega (arith, c.loop-instr-test.false, c.loop-instr.auto.instr-index-end) in
    good s c.loop-instr.instr-index c.loop-instr.calls (hold_of c.loop-instr.hold.rights) end c.loop-instr.invariant.followed (c.is_settled.ensures.0 (let passed = c.if-not-is_settled.false in cc))

pub returns-clause-peak : goal.returns-clause-peak
returns-clause-peak c =
    let end : c.loop-instr.instr-index ≡ length c.args.code.now = omega (arith, c.loop-instr-test.false, c.loop-instr.auto.instr-index-end) in
    rw end at c.loop-instr.invariant.peak
