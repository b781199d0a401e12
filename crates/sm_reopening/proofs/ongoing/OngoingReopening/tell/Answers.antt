-- One server has told, and has changed in nothing else.
use Rattle.std.proofs.Common.{◌≡◌, ◌<◌, ◌∙◌, ℕ, Bool, true, false, Option, Some, None, length, refl, sym, ap, subst, arith}
use Rattle.std.specs.Prelude.{is_some, option_map}
use Rattle.std.proofs.lemmas.List.{get_or_read}
use Rattle.laws_network.specs.Reopening.{Inventory, Party, Reopening, Server, put_party}
use Rattle.sm_reopening.specs.declared.party.Membership.TheVariants.{Member}
use Rattle.sm_reopening.specs.declared.state.ServerState.{ServerState}
use Rattle.sm_reopening.specs.States.{fits_told, fresh_state, net_inventory, settled_by, settlement_by, state_by, told_by}
use Rattle.sm_reopening.specs.Ongoing.{net_reopening}
use Rattle.sm_reopening.specs.Ongoing.{told_copies, put_copy}
use Rattle.sm_reopening.proofs.Updates.{left_out_same, copy_put, told_reopening}
use Rattle.std.proofs.Math.Path.{fun_ext}
use Rattle.sm_reopening.proofs.ongoing.OngoingReopening.tell.Goals as goal

none_confirmed : {A B : Type 0} (f : A → B) (o : Option A) → is_some (option_map f o) ≡ false → is_some o ≡ false
none_confirmed f None e = refl
none_confirmed f (Some x) e = e

pub returns-clause-reopening : goal.returns-clause-reopening
returns-clause-reopening c =
    let l : c.number.result < length c.args.self.now.servers.items = omega (arith, c.requires.known, c.number.ensures) in
    let was : c.index_mut.result.now ≡ state_by c.args.self.now.servers.items c.number.result = (get_or_read c.args.self.now.servers.items c.number.result c.index_mut.result.now l c.index_mut.ensures.value (fresh_state Member)) in
    told_reopening c.args.self.now.base c.args.self.now.servers.items c.args.self.now.map_told c.args.self.now.map_settled c.args.self.now.confirmed c.number.result
    (record c.index_mut.result.now { told = Some c.args.inventory }) l (none_confirmed settlement_by c.args.self.now.confirmed c.requires.open) (ap (λ (s : ServerState). s.membership) was) (ap (λ (s : ServerState). s.settled) was) (ap (λ (s : ServerState). s.promised) was)
    ∙ ap (λ (v : ℕ). record (net_reopening c.args.self.now) { told = put_party (net_reopening c.args.self.now).told (Server v) (Some (net_inventory c.args.inventory)) }) c.number.ensures

pub returns-clause-copies : goal.returns-clause-copies
returns-clause-copies c =
    let l : c.number.result < length c.args.self.now.servers.items = omega (arith, c.requires.known, c.number.ensures) in
    let was : c.index_mut.result.now ≡ state_by c.args.self.now.servers.items c.number.result = (get_or_read c.args.self.now.servers.items c.number.result c.index_mut.result.now l c.index_mut.ensures.value (fresh_state Member)) in
    fun_ext (λ s. fun_ext (λ v. copy_put c.args.self.now.servers.items c.number.result (record c.index_mut.result.now { told = Some c.args.inventory }) s v l))
    ∙ ap (λ (v : ℕ). put_copy (told_copies c.args.self.now) v c.args.inventory) c.number.ensures

pub returns-clause-same : goal.returns-clause-same
returns-clause-same c =
    let l : c.number.result < length c.args.self.now.servers.items = omega (arith, c.requires.known, c.number.ensures) in
    let was : c.index_mut.result.now ≡ state_by c.args.self.now.servers.items c.number.result = (get_or_read c.args.self.now.servers.items c.number.result c.index_mut.result.now l c.index_mut.ensures.value (fresh_state Member)) in
    record { left_out = left_out_same c.args.self.now.servers.items c.number.result (record c.index_mut.result.now { told = Some c.args.inventory }) l (ap (λ (s : ServerState). s.membership) was); setup = refl; place = refl; shards = refl }
