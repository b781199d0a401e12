use Rattle.std.proofs.Common.{◌∙◌, sym}
use Rattle.std.proofs.lemmas.Bool.{false≢true}
use Rattle.sm_plan_code.proofs.fits.is_known_plan.Goals as goal

pub returns-then-are_streams_below : goal.returns-then-are_streams_below
returns-then-are_streams_below c =
    let streams = rw c.streams.ensures.value at c.are_streams_below.ensures in
    let parcels = rw c.signals.ensures.value at c.are_parcels_below.ensures in
    (λ yes. record { streams = streams.0 c.if-are_streams_below.true; signals = parcels.0 yes }, λ fits. parcels.1 fits.signals)

pub returns-else-are_streams_below : goal.returns-else-are_streams_below
returns-else-are_streams_below c =
    let streams = rw c.streams.ensures.value at c.are_streams_below.ensures in
    (λ yes. absurd (false≢true (sym c.if-are_streams_below.false ∙ yes)), λ fits. streams.1 fits.streams)
