-- The checks of parties and of cells are those of what may be confirmed.
use Rattle.std.proofs.Common.{◌≡◌, ◌∙◌, ℕ, Bool, true, false, Option, Some, None, refl, sym, ap, subst}
use Rattle.std.specs.Prelude.{is_some}
use Rattle.sm_placement.specs.Layout.{place_of}
use Rattle.sm_placement.specs.Setup.{IsSetup}
use Rattle.laws_network.specs.Reopening.{Settlement}
use Rattle.sm_reopening.specs.declared.faults.ConfirmFault.{ConfirmFault}
use Rattle.sm_reopening.proofs.Confirming.{IsReady, fair_everywhere, is_fair, is_timely, may_confirm}
use Rattle.sm_reopening.proofs.ongoing.OngoingReopening.fault_of.Goals as goal

is_none_then : (o : Option ConfirmFault) → is_some o ≡ false → o ≡ None
is_none_then None e = refl
is_none_then (Some x) e = absurd (cc)

pub returns-then-is_some-clause-none : goal.returns-then-is_some-clause-none
returns-then-is_some-clause-none c =
    let s : Settlement = record { setup = c.args.settlement.now.setup; place = place_of c.args.settlement.now; room = c.args.log_room } in
    let some : is_some c.fault_of_parties-fault.result ≡ true = cc in (
      (λ e. absurd (let z = sym (ap is_some e) ∙ some in cc)),
      (λ m. absurd (let z = sym (ap is_some (c.fault_of_parties-fault.ensures.none.1 (is_timely c.args.self.now s m))) ∙ some in cc)),
    )

pub returns-clause-none : goal.returns-clause-none
returns-clause-none c =
    let s : Settlement = record { setup = c.args.settlement.now.setup; place = place_of c.args.settlement.now; room = c.args.log_room } in
    let ready : IsReady c.args.self.now s = record {
      rows = subst IsSetup c.config.ensures.setup c.server_count.ensures.setup;
      placement = c.config.ensures.placement;
      settled = c.requires.settled;
      past = c.config-2.ensures.placement;
      servers = c.requires.servers;
      shards = c.requires.shards;
    } in
    let none : c.fault_of_parties-fault.result ≡ None = is_none_then c.fault_of_parties-fault.result (cc) in
    let timely = c.fault_of_parties-fault.ensures.none.0 none in (
      (λ e. may_confirm c.args.self.now s ready timely (fair_everywhere c.args.self.now s ready (c.fault_of_cells.ensures.none.0 e))),
      (λ m. c.fault_of_cells.ensures.none.1 (λ k v a b. is_fair c.args.self.now s m k v)),
    )

pub returns-clause-fault : goal.returns-clause-fault
returns-clause-fault c = c.fault_of_cells.ensures.fault c.args.log_room
