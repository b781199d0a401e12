use Rattle.sm_placement.specs.Layout.{place_of}
use Rattle.sm_verifier.proofs.DownLemmas.{lowest_down, none_down}
use Rattle.sm_verifier.proofs.downs.first_down.Goals as goal

pub returns-clause-lowest : goal.returns-clause-lowest
returns-clause-lowest c = lowest_down (place_of c.args.placement.now) c.args.streams.now c.down_of.result c.down_of.ensures

pub returns-clause-none : goal.returns-clause-none
returns-clause-none c = none_down (place_of c.args.placement.now) c.args.streams.now c.down_of.result c.down_of.ensures
