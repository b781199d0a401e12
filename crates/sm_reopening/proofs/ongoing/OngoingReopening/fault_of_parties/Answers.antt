-- The fault that was found is there; and if nothing was found, the settlement is timely.
use Rattle.std.proofs.Common.{◌≡◌, ◌∙◌, ◌<◌, ◌≤◌, ℕ, Bool, true, false, Option, Some, None, length, refl, sym, ap, arith, inl, inr}
use Rattle.std.specs.Prelude.{◌&&◌, is_none, is_some, not, option_map}
use Rattle.std.proofs.lemmas.Bool.{and_cases, and_from, and_parts, not-true}
use Rattle.sm_placement.specs.Layout.{place_of}
use Rattle.sm_placement.proofs.Searches.{first_none, first_some}
use Rattle.laws_network.specs.Reopening.{MapOwner}
use Rattle.laws_network.specs.ReopeningLaws.{is_carried}
use Rattle.sm_placement.specs.Opening.{first_below}
use Rattle.sm_reopening.specs.States.{settlement_by, told_by}
use Rattle.sm_reopening.specs.Ongoing.{first_awaited, is_waited_for, past_state, net_reopening}
use Rattle.sm_reopening.proofs.Taking.{unsettled_parts}
use Rattle.sm_reopening.specs.Faults.{is_carried_up}
use Rattle.sm_reopening.proofs.ongoing.OngoingReopening.fault_of_parties.Goals as goal

pub returns-in-Some-clause-fault : goal.returns-in-Some-clause-fault
returns-in-Some-clause-fault c = (first_some (length c.args.self.now.servers.items) (is_waited_for c.args.self.now) c.in-Some.server (sym c.first_awaited.ensures ∙ c.in-Some.is)).1

pub returns-in-Some-first_carried_up-clause-none : goal.returns-in-Some-first_carried_up-clause-none
returns-in-Some-first_carried_up-clause-none c =
    let found = first_some (length c.args.settlement.now.setup.servers) (is_carried_up c.args.self.now (place_of c.args.settlement.now)) c.in-Some-first_carried_up.server (sym c.first_carried_up.ensures ∙ c.in-Some-first_carried_up.is) in
    let parts = and_parts (is_carried (net_reopening c.args.self.now) (past_state c.args.self.now) c.in-Some-first_carried_up.server) (not ((place_of c.args.settlement.now).down c.in-Some-first_carried_up.server)) found.1 in (
      (λ e. absurd (cc)),
      (λ t. absurd (let up = not-true ((place_of c.args.settlement.now).down c.in-Some-first_carried_up.server) parts.1 in let down = t.down c.in-Some-first_carried_up.server parts.0 found.0 in cc)),
    )

pub returns-in-Some-first_carried_up-clause-fault : goal.returns-in-Some-first_carried_up-clause-fault
returns-in-Some-first_carried_up-clause-fault c =
    let found = first_some (length c.args.settlement.now.setup.servers) (is_carried_up c.args.self.now (place_of c.args.settlement.now)) c.in-Some-first_carried_up.server (sym c.first_carried_up.ensures ∙ c.in-Some-first_carried_up.is) in
    let parts = and_parts (is_carried (net_reopening c.args.self.now) (past_state c.args.self.now) c.in-Some-first_carried_up.server) (not ((place_of c.args.settlement.now).down c.in-Some-first_carried_up.server)) found.1 in
    (found.0, parts.0, not-true ((place_of c.args.settlement.now).down c.in-Some-first_carried_up.server) parts.1)

none_mapped : {A B : Type 0} (f : A → B) (o : Option A) → is_some o ≡ false → option_map f o ≡ None
none_mapped f None e = refl
none_mapped f (Some x) e = absurd (cc)

pub returns-clause-none : goal.returns-clause-none
returns-clause-none c =
    let unconfirmed : is_some c.args.self.now.confirmed ≡ false = cc in
    let map : c.args.self.now.map_told ≡ true = cc in
    let nobody : first_awaited c.args.self.now ≡ None = sym c.first_awaited.ensures ∙ c.in_default.is in
    let none : first_below (length c.args.settlement.now.setup.servers) (is_carried_up c.args.self.now (place_of c.args.settlement.now)) ≡ None = sym c.first_carried_up.ensures ∙ c.in_default-first_carried_up.is in (
      (λ e. record {
        first = none_mapped settlement_by c.args.self.now.confirmed unconfirmed;
        complete = and_from (is_some ((net_reopening c.args.self.now).told MapOwner)) (is_none (first_awaited c.args.self.now))
            (ap (λ (b : Bool). is_some (told_by c.args.self.now.servers.items b MapOwner)) map) (ap is_none nobody);
        least = omega (arith, c.down_count.ensures, c.if-down_count-log_room.false);
        most = omega (arith, c.if-log_room-gt-MOST_PLACES.false);
        down = λ v carried l. unsettled_parts (is_carried (net_reopening c.args.self.now) (past_state c.args.self.now) v) ((place_of c.args.settlement.now).down v)
            (first_none (length c.args.settlement.now.setup.servers) (is_carried_up c.args.self.now (place_of c.args.settlement.now)) none v l) carried;
      }),
      (λ t. refl),
    )
