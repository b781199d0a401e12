-- A look finds what the caller knows, or what is newer.
use Rattle.std.proofs.Common.{◌<◌, List, length, ap, sym, subst, ◌∙◌}
use Rattle.std.specs.Prelude.{IfSome, slice_get}
use Rattle.sm_placement.specs.declared.entry.Entry.{Entry}
use Rattle.sm_map.specs.History.{IsSameOrOlder, IsNotBefore}
use Rattle.sm_map.specs.Models.{WordsModel}
use Rattle.sm_executor.specs.Views.{CallerModel}
use Rattle.sm_executor.proofs.Knowing.{known_older}
use Rattle.sm_executor.proofs.caller.Caller.look.Goals as goal

pub returns-clause-not_before : goal.returns-clause-not_before
returns-clause-not_before g c =
    let pass = c.self.inside.pass in
    let named = sym c.self.invariant.0 in
    let inside = subst (λ (w : WordsModel). c.args.shard < length w.opening) named c.requires.shard in
    let found = subst (λ (w : WordsModel). IsNotBefore w.opening pass.since c.args.shard c.look.result) (c.requires.words ∙ named) c.look.ensures.not_before in
    subst (λ (k : List Entry). IfSome (slice_get k c.args.shard) (IsSameOrOlder c.look.result)) (ap (λ (x : CallerModel). x.known) c.self.view_is) (known_older pass.words.opening pass.since c.args.shard c.look.result inside found)
