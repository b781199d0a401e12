-- The entries of a map.
use Rattle.std.proofs.Common.{◌≡◌, ◌≤◌, ◌+◌, ◌∷◌, [], ◌∙◌, sym, ap, subst, arith, All, length, length-append, Some}
use Rattle.std.specs.Prelude.{slice_get}
use Rattle.std.proofs.lemmas.List.Elements.{All-append, All-cons, All-nil}
use Rattle.sm_placement.specs.declared.entry.Entry.{Entry}
use Rattle.sm_placement.specs.Place.{entry_at}
use Rattle.sm_placement.specs.Setup.{Sizes}
use Rattle.sm_map.specs.Entry.{IsInRange}
use Rattle.sm_machine.specs.State.{state_of}
use Rattle.sm_executor.proofs.Keeps.{one_more}
use Rattle.sm_executor.proofs.Ranges.{in_range}
use Rattle.sm_executor.proofs.ground.entries_of.Goals as goal

pub loop-number-preserved : goal.loop-number-preserved
loop-number-preserved c =
    let w = state_of c.args.machine.now in
    let n = c.loop-number.number in
    let i = c.loop-number.invariant in
    let old = c.loop-number.entries.items in
    let entry : Entry = c.entry-server.result in
    let e : entry ≡ entry_at w.place n = c.entry-server.ensures ∙ ap (entry_at w.place) c.new.ensures in
    let items = c.push_reserved.ensures.items in
    let t = c.loop-number-test.true in
    let shards : c.shard_count-count.result ≡ w.sizes.shards = c.shard_count-count.ensures.count ∙ ap (λ (x : Sizes). x.shards) c.config.ensures.sizes in
    let last : IsInRange w.sizes.servers entry = subst (IsInRange w.sizes.servers) (sym e) (in_range c.args.machine.now.placement.setup w c.is_reached.ensures n (omega arith)) in (
      ap length items ∙ length-append old (entry ∷ []) ∙ ap (λ k. k + 1) i.0,
      λ s l. subst (λ xs. slice_get xs s ≡ Some (entry_at w.place s)) (sym items)
          (one_more (entry_at w.place) old entry (λ k m. i.1 k (let z = i.0 in omega arith)) (e ∙ ap (entry_at w.place) (sym i.0)) s (let z = i.0 in omega arith)),
      subst (All (IsInRange w.sizes.servers)) (sym items) (All-append (IsInRange w.sizes.servers) old (entry ∷ []) i.2 (All-cons (IsInRange w.sizes.servers) entry [] last (All-nil (IsInRange w.sizes.servers)))),
      subst (λ k. c.shard_count-count.result ≤ k) (sym c.push_reserved.ensures.capacity) i.3,
    )
