-- One instruction more.
use Rattle.std.proofs.Common.{◌≡◌, ◌<◌, ◌+◌, ℕ, Bool, true, false, Some, refl, sym, ap, ◌∙◌, List, length, take, get_or}
use Rattle.std.specs.Prelude.{◌||◌}
use Rattle.std.specs.List.{list_any}
use Rattle.std.proofs.lemmas.List.Folds.{list_any_more}
use Rattle.sm_reservation.specs.Amounts.{same_listed}
use Rattle.sm_plan_code.specs.declared.instruction.Instr.{Instr}
use Rattle.sm_plan_code.specs.declared.instruction.NamedServers.{NamedServers}
use Rattle.sm_plan_code.specs.Instr.{names_of}
use Rattle.sm_protocol.specs.Happens.{is_mentioned}
use Rattle.sm_machine.specs.Servers.{is_in, HasGrownBy, HasGrownByCode}
use Rattle.sm_machine.proofs.servers.add_code.Goals as goal

or_joined : (a b c d : Bool) → (((a || b) || c) || d) ≡ (a || (b || (c || d)))
or_joined true b c d = refl
or_joined false true c d = refl
or_joined false false c d = refl

grown : (code : List Instr) (n : ℕ) (i : Instr) (named : NamedServers) (old now mid new : List Bool) → n < length code → named ≡ names_of (get_or code n i) →
    HasGrownByCode (take n code) old now → HasGrownBy named.first now mid → HasGrownBy named.second mid new → HasGrownByCode (take (n + 1) code) old new
grown code n i named old now mid new l e a b f v =
    f v ∙ ap (λ x. x || same_listed named.second (Some v)) (b v ∙ ap (λ x. x || same_listed named.first (Some v)) (a v))
    ∙ or_joined (is_in old v) (list_any (is_mentioned v) (take n code)) (same_listed named.first (Some v)) (same_listed named.second (Some v))
    ∙ ap (λ (m : NamedServers). is_in old v || (list_any (is_mentioned v) (take n code) || (same_listed m.first (Some v) || same_listed m.second (Some v)))) e
    ∙ ap (λ x. is_in old v || x) (sym (list_any_more (is_mentioned v) code n i l))

pub loop-instr-preserved : goal.loop-instr-preserved
loop-instr-preserved c =
    grown c.args.code.now c.loop-instr.instr-index c.instr-item.result c.names-named.result c.args.flags.now.items c.loop-instr.flags.items c.add_server.new.flags.items c.add_server-in-loop-instr.new.flags.items
    c.loop-instr-test.true (c.names-named.ensures ∙ ap names_of c.instr-item.is) c.loop-instr.invariant c.in_ok-add_server.ensures c.in_ok-add_server-2.ensures
