-- Once a settlement is in force, servers have what was settled.
use Rattle.std.proofs.Common.{◌≡◌, ℕ, refl, ap, ◌∙◌, inl, inr, Bool, true, false}
use Rattle.std.specs.Prelude.{if◌then◌else◌}
use Rattle.std.proofs.lemmas.Bool.{cases_lt}
use Rattle.laws_network.specs.Fleet.{has_lost, held_cells}
use Rattle.laws_network.specs.FleetReopening.{FleetOpensInForce}
use Rattle.laws_network.specs.Reopening.{Base}
use Rattle.laws_network.specs.ReopeningLaws.{EachSettling, OpensWithPast}
use Rattle.laws_service_data.specs.Reopened.{InForceIsSettled}

-- who has its slots has taken them, or is no server; who has lost them had what was settled
pub in_force_is_settled : EachSettling FleetOpensInForce → EachSettling OpensWithPast → InForceIsSettled
in_force_is_settled opens past setup x s f reached settled took force = (opens setup x reached s f settled took force, λ k v. held k v (has_lost f v) refl)
  where
    held : (k v : ℕ) (lost : Bool) → has_lost f v ≡ lost → held_cells f k v ≡ s.place.cells k v
    held k v true q = ap (λ b. if b then f.had k v else ((f.servers v).slots k).cell) q ∙ force.had k v q
    held k v false q = ap (λ b. if b then f.had k v else ((f.servers v).slots k).cell) q ∙ elim (cases_lt v x.reopening.servers) [
      | inl l ↦
          let server = force.known v l q in
          server.cells k ∙ (past setup x reached s settled took).0 k v (ap (λ (b : Base). b.nonce) server.taken)
      | inr l ↦ (force.others v l).cells k
    ]
