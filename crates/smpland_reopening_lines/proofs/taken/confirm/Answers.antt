use Rattle.std.proofs.Common.{◌≡◌, ◌∙◌, ℕ, List, ap, map, refl, subst}
use Rattle.sm_placement.specs.Setup.{Setup}
use Rattle.smpland_reopening.specs.Proposal.{NamesLost}
use Rattle.smpland_reopening_lines.specs.Taken.{choice_made, shard_told}
use Rattle.smpland_reopening_lines.proofs.taken.confirm.Goals as goal

-- The choice may be confirmed, and names what may be lost.
pub returns-in-Ok : goal.returns-in-Ok
returns-in-Ok c cells said =
    let it = c.in-Ok.ensures.confirmed in
    let names : c.as_slice-2.result.now ≡ map (shard_told c.args.reopening.now.numbering) c.args.lost.now =
    c.as_slice-2.ensures.value ∙ c.in_ok-named.ensures ∙ ap (λ (n : Setup). map (shard_told n) c.args.lost.now) c.numbering.ensures.numbering in
    let named = subst (λ (ks : List ℕ). NamesLost c.args.reopening.now ks) names c.in-Ok.ensures.named in (
      refl,
      named,
      record {
        chosen = c.as_slice.result.now;
        settlement = it.0;
        may = it.1;
        settles = it.4;
        taken = it.2;
        kept = c.in-Ok.ensures.kept;
        copies = c.in-Ok.ensures.copies;
        under = c.in-Ok.ensures.under;
      },
      (c.args.shards.now, said, ap (map choice_made) c.as_slice.ensures.value ∙ c.in_ok-chosen.ensures),
    )
