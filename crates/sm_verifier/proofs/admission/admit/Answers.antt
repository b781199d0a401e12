use Rattle.sm_verifier.proofs.admission.admit.Goals as goal

pub first_untrue-requires : goal.first_untrue-requires
first_untrue-requires c = rw (c.streams-streams.ensures.value, c.plan.ensures.value, c.requires.setup) c.plan.ensures.fits.streams

pub returns-in-Some-first_taken-clause-refused : goal.returns-in-Some-first_taken-clause-refused
returns-in-Some-first_taken-clause-refused c = λ admitted.
    let first = rw (c.streams-streams.ensures.value, c.plan.ensures.value) at c.in-Some-first_taken.ensures.first in
    first.1.lowest.broken (admitted.free_ones first.0 c.in-Some-first_taken.key)
