-- Each test that finds something shows that the placement isn't settled, and where none does it is.
use Rattle.std.proofs.Common.{◌≤◌, ◌∙◌, sym, subst, length}
use Rattle.sm_placement.proofs.Settling.{settled_from, settled_leads, settled_listings, settled_floors, rooms_hold, versions_low, low_versions, none_found, some_found, settled_read, settled_seen, not_settled}
use Rattle.sm_placement.proofs.placement.Placement.settled.Goals as goal

pub returns-then-is_some : goal.returns-then-is_some
returns-then-is_some c = not_settled c.self.view_is (λ is. some_found c.first_bad_lead.result c.is_some.result c.is_some.ensures c.if-is_some.true (c.first_bad_lead.ensures ∙ settled_leads _ _ is))

pub returns-then-is_some-2 : goal.returns-then-is_some-2
returns-then-is_some-2 c = not_settled c.self.view_is (λ is. some_found c.first_bad_listing.result c.is_some-2.result c.is_some-2.ensures c.if-is_some-2.true ((rw c.deref.ensures.value at c.first_bad_listing.ensures) ∙ settled_listings _ _ is))

pub returns-then-is_some-3 : goal.returns-then-is_some-3
returns-then-is_some-3 c = not_settled c.self.view_is (λ is. some_found c.first_short.result c.is_some-3.result c.is_some-3.ensures c.if-is_some-3.true (c.first_short.ensures ∙ settled_floors _ _ is))

pub returns : goal.returns
returns c = (
  λ low. settled_seen c.self.view_is (settled_from _ _ c.self.invariant.placement.no_server
      (sym c.first_bad_lead.ensures ∙ none_found c.first_bad_lead.result c.is_some.result c.is_some.ensures c.if-is_some.false)
      (sym (rw c.deref.ensures.value at c.first_bad_listing.ensures) ∙ none_found c.first_bad_listing.result c.is_some-2.result c.is_some-2.ensures c.if-is_some-2.false)
      (rooms_hold _ _ c.self.invariant.placement)
      (sym c.first_short.ensures ∙ none_found c.first_short.result c.is_some-3.result c.is_some-3.ensures c.if-is_some-3.false)
      (subst (λ k. k ≤ c.self.inside.limit) c.down_count.ensures c.if-down_count-self.false)
      (versions_low (length c.self.inside.table.setup.shards) c.self.inside.versions.items c.self.invariant.versions_length (rw c.deref-2.ensures.value at (c.are_low.ensures.0 low)))),
  λ is. c.are_low.ensures.1 (rw c.deref-2.ensures.value (low_versions (length c.self.inside.table.setup.shards) c.self.inside.versions.items c.self.invariant.versions_length (settled_read c.self.view_is is).versions)),
)
