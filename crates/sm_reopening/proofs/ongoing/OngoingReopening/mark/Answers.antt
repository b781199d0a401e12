-- One server has settled, and has changed in nothing else.
use Rattle.std.proofs.Common.{◌≡◌, ◌<◌, ◌∙◌, ℕ, Bool, true, false, Option, Some, None, length, refl, sym, ap, subst, arith}
use Rattle.std.specs.Prelude.{is_some}
use Rattle.std.proofs.lemmas.List.{get_or_read}
use Rattle.laws_network.specs.Reopening.{Inventory, Party, Reopening, Server, put_party}
use Rattle.sm_reopening.specs.declared.party.Membership.TheVariants.{Member}
use Rattle.sm_reopening.specs.declared.state.ServerState.{ServerState}
use Rattle.sm_reopening.specs.States.{fits_told, fresh_state, net_inventory, settled_by, state_by, told_by}
use Rattle.sm_reopening.specs.Ongoing.{net_reopening}
use Rattle.sm_reopening.specs.Settles.{net_party}
use Rattle.sm_reopening.proofs.Updates.{left_out_same, copy_same, settled_reopening, told_is_known}
use Rattle.sm_reopening.proofs.ongoing.OngoingReopening.mark.Goals as goal

pub returns-in-Server-clause-reopening : goal.returns-in-Server-clause-reopening
returns-in-Server-clause-reopening c =
    let party : net_party c.args.party.now ≡ Server c.number.result = ap net_party c.in-Server.is ∙ ap Server (sym c.number.ensures) in
    let l : c.number.result < length c.args.self.now.servers.items = told_is_known c.args.self.now.servers.items c.args.self.now.map_told c.number.result (subst (λ (p : Party). is_some (told_by c.args.self.now.servers.items c.args.self.now.map_told p) ≡ true) party c.requires.known) in
    let was : c.index_mut.result.now ≡ state_by c.args.self.now.servers.items c.number.result = (get_or_read c.args.self.now.servers.items c.number.result c.index_mut.result.now l c.index_mut.ensures.value (fresh_state Member)) in
    settled_reopening c.args.self.now.base c.args.self.now.servers.items c.args.self.now.map_told c.args.self.now.map_settled c.args.self.now.confirmed c.number.result
    (record c.index_mut.result.now { settled = true }) l (ap (λ (s : ServerState). s.membership) was) (ap (λ (s : ServerState). s.told) was) refl (ap (λ (s : ServerState). s.promised) was)
    ∙ ap (λ (p : Party). record (net_reopening c.args.self.now) { settled = put_party (net_reopening c.args.self.now).settled p true }) (sym party)

pub returns-in-Server-clause-copies : goal.returns-in-Server-clause-copies
returns-in-Server-clause-copies c =
    let party : net_party c.args.party.now ≡ Server c.number.result = ap net_party c.in-Server.is ∙ ap Server (sym c.number.ensures) in
    let l : c.number.result < length c.args.self.now.servers.items = told_is_known c.args.self.now.servers.items c.args.self.now.map_told c.number.result (subst (λ (p : Party). is_some (told_by c.args.self.now.servers.items c.args.self.now.map_told p) ≡ true) party c.requires.known) in
    let was : c.index_mut.result.now ≡ state_by c.args.self.now.servers.items c.number.result = (get_or_read c.args.self.now.servers.items c.number.result c.index_mut.result.now l c.index_mut.ensures.value (fresh_state Member)) in
    copy_same c.args.self.now.servers.items c.number.result (record c.index_mut.result.now { settled = true }) l (ap (λ (s : ServerState). s.told) was)

pub returns-in-Server-clause-same : goal.returns-in-Server-clause-same
returns-in-Server-clause-same c =
    let party : net_party c.args.party.now ≡ Server c.number.result = ap net_party c.in-Server.is ∙ ap Server (sym c.number.ensures) in
    let l : c.number.result < length c.args.self.now.servers.items = told_is_known c.args.self.now.servers.items c.args.self.now.map_told c.number.result (subst (λ (p : Party). is_some (told_by c.args.self.now.servers.items c.args.self.now.map_told p) ≡ true) party c.requires.known) in
    let was : c.index_mut.result.now ≡ state_by c.args.self.now.servers.items c.number.result = (get_or_read c.args.self.now.servers.items c.number.result c.index_mut.result.now l c.index_mut.ensures.value (fresh_state Member)) in
    record { left_out = left_out_same c.args.self.now.servers.items c.number.result (record c.index_mut.result.now { settled = true }) l (ap (λ (s : ServerState). s.membership) was); setup = refl; place = refl; shards = refl }
