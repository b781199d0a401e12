use Rattle.std.proofs.Common.{rules, tests, ◌==◌, ◌&&◌}
use Rattle.std.specs.Str.{bytes_eq}
use Rattle.std.proofs.lemmas.Iterator.{YieldsList-from_slice}
use Rattle.std.proofs.lemmas.Iterator.Search.{find_from_yields_List}
use Rattle.smpland_state.specs.Told.{ToldModel}
use Rattle.smpland_state.proofs.restored.told_under.Goals as goal

pub returns : goal.returns
returns c =
    find_from_yields_List (λ (t : ToldModel). bytes_eq t.server c.args.name.now && (t.nonce == c.args.nonce)) _ _ c.find.result c.find.ensures.ran
    (YieldsList-from_slice c.args.told.now cc) (λ x b q k. search (rules, tests))
