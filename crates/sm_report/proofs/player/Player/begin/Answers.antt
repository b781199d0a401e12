-- A plan of the document starts, or it does not.
use Rattle.std.proofs.Common.{◌≡◌, ◌<◌, ◌∙◌, ◌++◌, ◌∷◌, [], ℕ, List, Some, None, length, ap, subst, arith}
use Rattle.std.specs.Prelude.{slice_index_or, slice_set}
use Rattle.std.proofs.lemmas.List.{get_or_default}
use Rattle.sm_verifier.specs.Checked.{CheckedModel}
use Rattle.sm_protocol.specs.declared.event.Played.TheVariants as played
use Rattle.sm_protocol.specs.Happens as happening
use Rattle.sm_machine.specs.Director.{IsDirected}
use Rattle.sm_machine.proofs.FirstPlaces.{set_back}
use Rattle.sm_report.proofs.EventTurns.{begun_so, not_begun_so}
use Rattle.sm_report.proofs.player.Player.begin.Goals as goal

pub start-requires : goal.start-requires
start-requires c =
    let within : c.args.place < length c.args.self.now.waiting.items = omega arith in
    let default = get_or_default c.args.self.now.waiting.items c.args.place None c.index_mut.result.now within in
    let there : slice_index_or c.args.self.now.waiting.items c.args.place None ≡ Some c.in-Some.checked = cc in
    ap (λ (r : CheckedModel). r.setup) c.in-Ok.ensures.ready ∙ c.requires.checked c.args.place c.in-Some.checked there

pub returns-in-Ok-start : goal.returns-in-Ok-start
returns-in-Ok-start c =
    let within : c.args.place < length c.args.self.now.waiting.items = omega arith in
    let default = get_or_default c.args.self.now.waiting.items c.args.place None c.index_mut.result.now within in
    let there : slice_index_or c.args.self.now.waiting.items c.args.place None ≡ Some c.in-Some.checked = cc in
    begun_so c.args.self.now c.args.place c.in-Some.checked c.requires there _ c.in-Ok-start.number
    (subst (λ (r : CheckedModel). IsDirected c.args.self.now.director (happening.Begin r.plan) (played.Begun c.in-Ok-start.number) c.start.new.self) c.in-Ok.ensures.ready c.in-Ok-start.ensures.started)
    (ap (slice_set c.args.self.now.waiting.items c.args.place) c.take.ensures.after)
    (c.push_reserved.ensures.items ∙ ap (λ (xs : List ℕ). xs ++ c.args.place ∷ []) c.reserve.ensures.items)

pub returns-in-Err-start : goal.returns-in-Err-start
returns-in-Err-start c =
    let within : c.args.place < length c.args.self.now.waiting.items = omega arith in
    let default = get_or_default c.args.self.now.waiting.items c.args.place None c.index_mut.result.now within in
    let there : slice_index_or c.args.self.now.waiting.items c.args.place None ≡ Some c.in-Some.checked = cc in
    not_begun_so c.args.self.now c.args.place c.in-Some.checked c.requires there _ c.in-Err-start.why
    (subst (λ (r : CheckedModel). IsDirected c.args.self.now.director (happening.Begin r.plan) (played.NotBegun c.in-Err-start.why) c.start.new.self) c.in-Ok.ensures.ready c.in-Err-start.ensures.refused)
    c.in-Err-start.ensures.unchanged
    (c.put_back.ensures
    ∙ ap (λ (r : CheckedModel). slice_set (slice_set c.args.self.now.waiting.items c.args.place c.take.new.self) c.args.place (Some r)) (c.back.ensures ∙ c.in-Err-start.ensures.back ∙ c.in-Ok.ensures.ready)
    ∙ ap (λ o. slice_set (slice_set c.args.self.now.waiting.items c.args.place o) c.args.place (Some c.in-Some.checked)) c.take.ensures.after
    ∙ set_back c.args.self.now.waiting.items c.args.place c.in-Some.checked there)
    c.reserve.ensures.items
