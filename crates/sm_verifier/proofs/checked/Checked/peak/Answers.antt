use Rattle.std.proofs.Common.{◌≡◌, ℕ, ◌<◌, length, get_or, slice_index, subst, arith}
use Rattle.std.proofs.lemmas.List.{get_or_read}
use Rattle.sm_placement.specs.Setup.{sizes_of}
use Rattle.sm_verifier.specs.Stream.{stream_at}
use Rattle.sm_verifier.specs.Peak.{IsPeak}
use Rattle.sm_verifier.specs.Checked.{CheckedModel, IsChecked}
use Rattle.sm_verifier.proofs.checked.Checked.peak.Goals as goal

peak_read : (p : CheckedModel) (i r : ℕ) → IsChecked p → i < length p.plan.streams → r ≡ get_or p.peaks i r → IsPeak (stream_at (sizes_of p.setup) p.plan i) r
peak_read p i r kept less read =
    let count = kept.peaks.count in
    let within : i < length p.peaks = omega arith in
    let value : r ≡ slice_index p.peaks i = get_or_read p.peaks i r within read 0 in
    rw value (kept.peaks.each i less)

peak_seen : (p v : CheckedModel) (i r : ℕ) → v ≡ p → IsChecked v → i < length p.plan.streams → r ≡ get_or v.peaks i r → IsPeak (stream_at (sizes_of p.setup) p.plan i) r
peak_seen p v i r e kept less read = peak_read p i r (subst (λ (q : CheckedModel). IsChecked q) e kept) less (subst (λ (q : CheckedModel). r ≡ get_or q.peaks i r) e read)

pub returns-clause-peak : goal.returns-clause-peak
returns-clause-peak c = peak_seen c.args.self.now _ c.args.stream c.index.result.now c.self.view_is c.self.invariant c.requires c.index.ensures
