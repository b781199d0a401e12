-- A server that was carried over, and has not heard of the reopening yet: it executes only as the primary, and that is the one server that serves.
use Rattle.std.proofs.Common.{◌≡◌, ◌≤◌, ℕ, sym, ap, ◌∙◌, inl, inr, false, None}
use Rattle.std.specs.Prelude.{◌⊎◌}
use Rattle.sm_server.specs.declared.call.Cell.TheVariants.{Prepared, Primary}
use Rattle.sm_placement.specs.Rows.{serves_as}
use Rattle.sm_agent.specs.declared.request.Relay.{Relay}
use Rattle.sm_agent.specs.declared.request.Request.TheVariants.{Passed}
use Rattle.sm_agent.specs.Laws.{ExecutesAtOwner}
use Rattle.laws_network.specs.Words.{IsServing}
use Rattle.laws_network.specs.Reopening.{is_handing}
use Rattle.laws_network.specs.Fleet.{held_cells}
use Rattle.laws_network.specs.FleetLaws.{EachFleet, FleetIsSafe, held_place}
use Rattle.laws_reopening.specs.Late.{CarriedExecutesSafely}

-- the cell is that of an owner, which is in no handover
pub carried_executes_safely : ExecutesAtOwner → EachFleet FleetIsSafe → EachFleet CarriedExecutesSafely
carried_executes_safely owner safe setup f reached v old lost held s applied request e = go (owner old.base (old.slots s) applied request e).1
  where
    Outcome : Type 0
    Outcome = IsServing (held_place f) s v × ((u : ℕ) → IsServing (held_place f) s u → u ≡ v)

    go : (((old.slots s).cell ≡ Primary) × ((old.slots s).at_work ≡ None)) ⊎
        ((old.base.fenced ≡ false) × ((relay : Relay) × (request ≡ Passed relay) ×
        ((old.slots s).cell ≡ Prepared relay.from relay.handover) × (relay.cut ≤ applied))) → Outcome
    go (inl at) =
        let serving = ap (serves_as (held_cells f s) v) (sym (held s).0 ∙ at.0) in
        (serving, λ u z. (safe setup f reached).held.serving s u v z serving)
    go (inr passed) = let z = sym (ap is_handing (sym (held s).0 ∙ passed.1.2)) ∙ (held s).1 in absurd (cc)
