use Rattle.std.proofs.Common.{◌≡◌, ◌∙◌, ◌<◌, List, Bool, ap, arith, sym, false}
use Rattle.std.specs.Prelude.{slice_index_or}
use Rattle.sm_reopening.specs.declared.party.Party.TheVariants.{Server}
use Rattle.sm_reopening.specs.Ongoing.{net_reopening}
use Rattle.smpland_reopening.specs.Reopening.{ReopeningModel}
use Rattle.smpland_reopening.specs.Proposal.{has_silent_lead}
use Rattle.smpland_reopening.proofs.Marking.{made_passed, made_pushed}
use Rattle.smpland_reopening.proofs.reopening.DocumentReopening.silent_leaders.Goals.{then-is_marked+in_ok-push, else-is_marked}
use Rattle.smpland_reopening.proofs.reopening.DocumentReopening.silent_leaders.Goals as goal

-- The servers so far, and the next if it is marked.
pub loop-number-preserved : goal.loop-number-preserved
loop-number-preserved c =
    let n = c.loop-number.number in
    let p = has_silent_lead c.args.self.now in
    let count : (net_reopening c.self.inside.ongoing).servers ≡ (net_reopening c.args.self.now.ongoing).servers = ap (λ (r : ReopeningModel). (net_reopening r.ongoing).servers) c.self.view_is in
    let end : c.server_count-number-end.result ≡ (net_reopening c.self.inside.ongoing).servers = c.server_count-number-end.ensures in
    let low : n < c.server_count-number-end.result = c.loop-number-test.true in
    let says =
    sym (c.in_ok-marks.ensures n (omega arith)) ∙ ap (λ (ms : List Bool). slice_index_or ms n false) (sym c.deref.ensures.value)
    ∙ sym c.is_marked.ensures in
    elim c.if-is_marked.branch [
      | then-is_marked+in_ok-push w ↦
          made_pushed Server p n c.loop-number.parties.items c.if-is_marked.parties.items c.loop-number.invariant (says ∙ w.if-is_marked.true)
          (rw w.parties-is (rw w.new.ensures at w.in_ok-push.ensures.items))
      | else-is_marked w ↦ rw w.parties-is (made_passed Server p n c.loop-number.parties.items c.loop-number.invariant (says ∙ w.if-is_marked.false))
    ]
