use Rattle.sm_verifier.proofs.admission.admit_free.Goals as goal

pub first_down-requires : goal.first_down-requires
first_down-requires c = rw (c.streams-streams.ensures.value, c.plan.ensures.value, c.requires.setup) c.plan.ensures.fits.streams
