use Rattle.std.proofs.Common.{◌∙◌, Option, Some, ap, sym}
use Rattle.std.specs.Prelude.{option_map}
use Rattle.std.proofs.lemmas.Result.{IfOk-weaker}
use Rattle.sm_reopening.specs.Settles.{net_party}
use Rattle.sm_reopening.specs.declared.party.Party.{Party}
use Rattle.smpland_reopening_lines.specs.Outcomes.{DoesFenced, DoesFencedOf}
use Rattle.smpland_reopening_lines.proofs.Outcomes.{does_of}
use Rattle.smpland_reopening_lines.proofs.taken.take_fenced.Goals as goal

-- The party is the one that the line names.
pub returns-in-Some : goal.returns-in-Some
returns-in-Some c =
    let old = c.args.reopening.now in
    let new = c.take_of.new.reopening in
    let named = sym c.party_named.ensures ∙ ap (λ (o : Option Party). option_map net_party o) c.in-Some.is in
    IfOk-weaker c.take_of.result
    (λ came. DoesFencedOf c.args.base c.args.told (net_party c.in-Some.party) old came new)
    (λ came. DoesFenced c.args.server c.args.base c.args.told old came new)
    (λ came does. does_of (DoesFencedOf c.args.base c.args.told) _ (Some (net_party c.in-Some.party)) old new came named does)
    c.take_of.ensures
