use Rattle.std.proofs.Common.{inl, inr, arith, length}
use Rattle.std.proofs.lemmas.Bool.{cases_eq, cases_lt}
use Rattle.sm_reservation.specs.Pool.{pool_hold}
use Rattle.sm_verifier.proofs.Judging.{nothing_past, lowest_free, free_at, stream_read}
use Rattle.sm_verifier.proofs.free.first_taken.Goals as goal

pub returns-in-Some-clause-first : goal.returns-in-Some-clause-first
returns-in-Some-clause-first c =
    let read = stream_read c.args.streams.now c.loop-number.number c.index-streams-number.result _ c.loop-number-test.true c.index-streams-number.is c.stream.view_is in (
      c.loop-number.number,
      record {
        lowest = lowest_free (pool_hold c.args.pool.now) c.args.streams.now c.loop-number.number c.stream.inside.holds c.in-Some.key read c.in-Some.ensures.lowest;
        before = c.loop-number.invariant;
      },
    )

pub loop-number-preserved : goal.loop-number-preserved
loop-number-preserved c = λ j less key. elim (cases_eq j c.loop-number.number) [
  | inl here ↦
      let read = stream_read c.args.streams.now c.loop-number.number c.index-streams-number.result _ c.loop-number-test.true c.index-streams-number.is c.stream.view_is in
      rw here (free_at (pool_hold c.args.pool.now) c.args.streams.now c.loop-number.number c.stream.inside.holds key read (c.in_default.ensures.none key))
  | inr other ↦ c.loop-number.invariant j (omega (arith, less, other)) key
]

pub returns-clause-none : goal.returns-clause-none
returns-clause-none c = λ i key. elim (cases_lt i (length c.args.streams.now)) [
  | inl less ↦ c.loop-number.invariant i (omega (arith, c.loop-number-test.false, less)) key
  | inr past ↦ λ has. absurd (nothing_past c.args.streams.now i past key has)
]
