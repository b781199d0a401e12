-- The one server that serves is the first.
use Rattle.std.proofs.Common.{◌≡◌, ◌∙◌, true, length, sym, subst}
use Rattle.sm_placement.specs.Rows.{serves}
use Rattle.sm_placement.specs.Layout.{PlacementModel, place_of}
use Rattle.sm_placement.proofs.Searches.{found_alone}
use Rattle.sm_placement.proofs.placement.Placement.only_serving.Goals as goal

pub returns-then-serves : goal.returns-then-serves
returns-then-serves c =
    let it : serves ((place_of c.args.self.now).cells c.args.shard) c.in-Some.server ≡ true =
    subst (λ (p : PlacementModel). serves ((place_of p).cells c.args.shard) c.in-Some.server ≡ true) c.self.view_is (sym c.serves.ensures ∙ c.if-serves.true) in
    sym (found_alone (length c.args.self.now.setup.servers) (serves ((place_of c.args.self.now).cells c.args.shard)) c.in-Some.server c.requires.one c.in-Some.ensures.known it)
