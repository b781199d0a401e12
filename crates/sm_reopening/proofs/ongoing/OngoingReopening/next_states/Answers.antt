-- The servers below the loop's number are known.
use Rattle.std.proofs.Common.{◌≡◌, ◌∙◌, ◌<◌, ◌≤◌, ℕ, Bool, length, sym, ap, subst, arith, refl}
use Rattle.std.proofs.lemmas.List.{get_or_read, length-map}
use Rattle.sm_reopening.specs.declared.party.Membership.TheVariants.{Member}
use Rattle.sm_reopening.specs.declared.state.ServerState.{ServerState}
use Rattle.sm_reopening.specs.States.{AreNextStates, fresh_state, promised_by, state_by}
use Rattle.sm_reopening.specs.Ongoing.{net_reopening}
use Rattle.sm_reopening.proofs.Updates.{next_states_end, next_states_first, next_states_more, promised_past}
use Rattle.sm_reopening.proofs.ongoing.OngoingReopening.next_states.Goals as goal

pub loop-number-init : goal.loop-number-init
loop-number-init c = next_states_first c.args.members.now (net_reopening c.args.self.now).promised c.in_ok-states.states.items c.in_ok-states.ensures

pub index_mut-requires : goal.index_mut-requires
index_mut-requires c = let same = c.loop-number.invariant.0 in omega (arith, c.requires, c.server_count-number-end.ensures)

pub loop-number-preserved : goal.loop-number-preserved
loop-number-preserved c =
    let same = c.loop-number.invariant.0 in
    let l : c.loop-number.number < length c.loop-number.states.items = omega (arith, c.requires, c.server_count-number-end.ensures) in
    let was : c.index_mut.result.now ≡ state_by c.loop-number.states.items c.loop-number.number = get_or_read c.loop-number.states.items c.loop-number.number c.index_mut.result.now l c.index_mut.ensures.value (fresh_state Member) in
    let sent : c.was_sent-sent.result ≡ (net_reopening c.args.self.now).promised c.loop-number.number = c.was_sent-sent.ensures ∙ ap (net_reopening c.args.self.now).promised c.new.ensures in
    next_states_more c.args.members.now (net_reopening c.args.self.now).promised c.loop-number.states.items c.loop-number.number (record c.index_mut.result.now { promised = c.was_sent-sent.result }) l c.loop-number.invariant
    (ap (λ (s : ServerState). record s { promised = c.was_sent-sent.result }) was ∙ ap (λ (b : Bool). record (state_by c.loop-number.states.items c.loop-number.number) { promised = b }) sent)

pub returns : goal.returns
returns c =
    let n : c.loop-number.number ≡ length c.args.self.now.servers.items = omega (arith, c.server_count-number-end.ensures) in
    next_states_end c.args.members.now (net_reopening c.args.self.now).promised c.loop-number.states.items c.loop-number.number
    (λ v l. promised_past c.args.self.now.servers.items c.args.self.now.confirmed v (omega arith)) c.loop-number.invariant
