use Rattle.std.proofs.Common.{◌≡◌, ◌∙◌, ◌<◌, List, Bool, ap, arith, length, sym, false}
use Rattle.std.specs.Prelude.{slice_index_or}
use Rattle.smpland_reopening.specs.Reopening.{ReopeningModel}
use Rattle.smpland_reopening.specs.Proposal.{has_shard}
use Rattle.smpland_reopening.proofs.Marking.{kept_passed, kept_pushed}
use Rattle.smpland_reopening.proofs.reopening.DocumentReopening.shards_in_order.Goals.{then-is_marked+in_ok-push, else-is_marked}
use Rattle.smpland_reopening.proofs.reopening.DocumentReopening.shards_in_order.Goals as goal

-- The shards so far, and the next if it is marked.
pub loop-number-preserved : goal.loop-number-preserved
loop-number-preserved c =
    let n = c.loop-number.number in
    let p = has_shard c.args.self.now in
    let count : length c.self.inside.numbering.shards ≡ length c.args.self.now.numbering.shards = ap (λ (r : ReopeningModel). length r.numbering.shards) c.self.view_is in
    let end : c.shard_count-number-end.result ≡ length c.self.inside.numbering.shards = c.shard_count-number-end.ensures.count in
    let low : n < c.shard_count-number-end.result = c.loop-number-test.true in
    let says =
    sym (c.in_ok-marks.ensures n (omega arith)) ∙ ap (λ (ms : List Bool). slice_index_or ms n false) (sym c.deref.ensures.value)
    ∙ sym c.is_marked.ensures in
    elim c.if-is_marked.branch [
      | then-is_marked+in_ok-push w ↦
          kept_pushed p n c.loop-number.shards.items c.if-is_marked.shards.items c.loop-number.invariant (says ∙ w.if-is_marked.true)
          (rw w.shards-is (rw w.new.ensures at w.in_ok-push.ensures.items))
      | else-is_marked w ↦ rw w.shards-is (kept_passed p n c.loop-number.shards.items c.loop-number.invariant (says ∙ w.if-is_marked.false))
    ]
