-- A settlement as an operator confirms it: its roles are those that were chosen, and a server is down if the record or
-- the document says so.
use Rattle.std.specs.Prelude.{◌≡◌, ◌&&◌, ◌||◌, ℕ, Bool, List, Some, length, map, nat_lt, not, slice_get, slice_index_or}
use Rattle.std.specs.List.{list_any}
use Rattle.sm_placement.specs.Layout.{PlacementModel}
use Rattle.laws_network.specs.Reopening.{Server, Settlement, is_asked}
use Rattle.sm_reopening.specs.Ongoing.{left_out_of, net_reopening, recorded_place}
use Rattle.sm_reopening.specs.Proposal.{is_the}
use Rattle.smpland_reopening.specs.Chosen.{chosen_role}
use Rattle.smpland_reopening.specs.Reopening.{ReopeningModel}
use Rattle.smpland_reopening.specs.Roles.{is_down_in}
use Rattle.smpland_reopening.specs.Settled.{IsPlacedBy, RolesGiven, place_by, roles_within, setup_met}
use Rattle.smpland_reopening.specs.declared.choice.Choice.{Choice}

-- the document has the server with this number, and it is recorded down
abbrev pub is_still_down : ReopeningModel → ℕ → Bool
is_still_down r v = (is_asked (net_reopening r.ongoing) (Server v) && not (left_out_of r.ongoing v)) && (recorded_place r.ongoing).down v

-- the document calls the server with this number down
abbrev pub is_called_down : ReopeningModel → ℕ → Bool
is_called_down r v = list_any (λ k. is_the (slice_get r.servers k) v) r.document.down.items

-- the server with a number is down once the settlement is in force
abbrev pub is_down_next : ReopeningModel → ℕ → Bool
is_down_next r v = nat_lt v (net_reopening r.ongoing).servers && (is_still_down r v || is_called_down r v)

-- the roles that were chosen, of what has numbers
abbrev pub roles_chosen : ReopeningModel → List Choice → RolesGiven
roles_chosen r chosen = roles_within (length r.numbering.shards) (length r.numbering.servers) (chosen_role r chosen)

-- roles in the document's own order
abbrev pub roles_in_order : ReopeningModel → RolesGiven → RolesGiven
roles_in_order r roles =
    roles_within (length r.document.config.shards) (length r.document.config.servers)
    (λ k v. roles (slice_index_or r.shards k 4294967295) (slice_index_or r.servers v 4294967295))

-- who is down, in the document's own order
abbrev pub down_in_order : ReopeningModel → ℕ → Bool
down_in_order r = is_down_in (map (is_down_next r) r.servers)

-- the settlement is that of the roles that were chosen, with room for the document's log
pub record SettlesChosen (r : ReopeningModel) (chosen : List Choice) (s : Settlement) : Type 0 where
  pub setup : s.setup ≡ setup_met r.numbering (roles_chosen r chosen) (is_down_next r)
  pub place : s.place ≡ place_by r.numbering (roles_chosen r chosen) (is_down_next r) r.document.limit
  pub room : s.room ≡ r.document.log

-- the next driver opens with the same in the document's own order
pub record KeepsChosen (r new : ReopeningModel) (chosen : List Choice) : Type 0 where
  pub placement : PlacementModel
  pub kept : new.next ≡ Some placement
  pub placed : IsPlacedBy r.document.config (roles_in_order r (roles_chosen r chosen)) (down_in_order r) r.document.limit placement
