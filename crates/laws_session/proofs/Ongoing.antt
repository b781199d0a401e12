-- Reopenings that are alike propose and choose the same.
use Rattle.std.proofs.Common.{◌≡◌, ◌∙◌, ℕ, Bool, true, false, List, [], ◌∷◌, Option, Some, None, ap, ap₂, map, option_map, refl, sym}
use Rattle.std.specs.Prelude.{◌&&◌, ◌||◌, ◌==◌, if◌then◌else◌, is_none, is_some, length, nat_lt, not, slice_get, slice_index_or}
use Rattle.std.specs.List.{list_any}
use Rattle.std.specs.Option.{option_map_or, option_or}
use Rattle.std.proofs.Math.Path.{fun_ext}
use Rattle.sm_server.specs.declared.call.Cell.{Cell}
use Rattle.sm_server.specs.declared.call.Cell.TheVariants.{Absent, Primary, Secondary}
use Rattle.sm_server.specs.declared.call.Role.{Role}
use Rattle.sm_placement.specs.Lead.{has_part}
use Rattle.sm_placement.specs.Opening.{first_below}
use Rattle.sm_placement.specs.Place.{Place}
use Rattle.sm_placement.specs.Setup.{Setup, sizes_of}
use Rattle.sm_protocol.specs.State.{State, opened}
use Rattle.sm_plan_text.specs.Documents.{DocumentModel}
use Rattle.sm_plan_text.specs.Reading.{rows_of}
use Rattle.laws_network.specs.Reopening.{Reopening, Server, is_asked}
use Rattle.laws_network.specs.ReopeningLaws.{claim_of, is_carried}
use Rattle.sm_copies.specs.declared.order.ToldCopy.{ToldCopy}
use Rattle.sm_reopening.specs.declared.ongoing.OngoingReopening.{OngoingReopening}
use Rattle.sm_reopening.specs.declared.party.FoundSlot.{FoundSlot}
use Rattle.sm_reopening.specs.declared.survivors.Standing.{Standing}
use Rattle.sm_reopening.specs.Ongoing.{inventory_slot, left_out_of, net_reopening, past_state, recorded_place, told_slot}
use Rattle.sm_reopening.specs.Proposal.{Documented, documented_primary, first_or, has_known_lead, has_replica_role, has_told_part, has_told_replica, holds_replica, is_documented, is_held, is_led, is_primary_role, is_the, keeps_replica, leads_shard, primary_of, proposed_cell, role_counted}
use Rattle.sm_reopening.specs.Settles.{nonce_of}
use Rattle.sm_reopening.specs.Survivors.{successor_of, is_best, standing_of, stands_above}
use Rattle.smpland_reopening.specs.Chosen.{chosen_role, is_choice_of, last_that, proposed_role, role_by_proposal, role_given}
use Rattle.smpland_reopening.specs.Confirmed.{down_in_order, is_called_down, is_down_next, is_still_down, roles_chosen, roles_in_order}
use Rattle.smpland_reopening.specs.Proposal.{documented_roles, proposed_primary}
use Rattle.smpland_reopening.specs.Reopening.{ReopeningModel}
use Rattle.smpland_reopening.specs.Roles.{is_down_in, role_by_cell}
use Rattle.smpland_reopening.specs.Settled.{RolesGiven, roles_within}
use Rattle.smpland_reopening.specs.declared.choice.Choice.{Choice}
use Rattle.smpland_reopening_lines.specs.Taken.{choice_made}
use Rattle.laws_session.specs.Alike.{AreOngoingAlike, AreReopeningsAlike}

-- a function of three values
pub ap₃ : {A B C D : Type 0} (f : A → B → C → D) {a b : A} {c d : B} {e g : C} → b ≡ a → d ≡ c → g ≡ e → f b d g ≡ f a c e
ap₃ f {a} {b} {c} {d} {e} {g} p q r = ap₂ (λ x y. f x y g) p q ∙ ap (f a c) r

-- ---- what is proposed

module _ (x y : OngoingReopening) (is : AreOngoingAlike x y) where
  past_same : past_state y ≡ past_state x
  past_same = ap₂ (λ (c : Setup) (p : Place). opened (sizes_of c) p 0) is.rest.setup is.rest.place

  slot_same : (s v : ℕ) → told_slot y s v ≡ told_slot x s v
  slot_same s v = ap₂ (λ (r : Reopening) (f : ℕ → ℕ → ToldCopy). inventory_slot (r.told (Server v)) (f s v) s) is.reopening is.copies

  carried_same : (v : ℕ) → is_carried (net_reopening y) (past_state y) v ≡ is_carried (net_reopening x) (past_state x) v
  carried_same v = ap₂ (λ (r : Reopening) (w : State). is_carried r w v) is.reopening past_same

  holds_same : (s v : ℕ) → holds_replica y s v ≡ holds_replica x s v
  holds_same s v =
      ap₃ (λ (c : Bool) (p : Place) (o : Option FoundSlot). (c && has_replica_role (p.cells s v)) || has_told_replica o) (carried_same v) is.rest.place (slot_same s v)

  leads_same : (s v : ℕ) → leads_shard y s v ≡ leads_shard x s v
  leads_same s v = ap₂ (λ (p : Place) (o : Option FoundSlot). has_part (p.cells s v) || has_told_part o) is.rest.place (slot_same s v)

  known_same : (s : ℕ) → has_known_lead y s ≡ has_known_lead x s
  known_same s = ap₂ (λ (r : Reopening) (f : ℕ → Bool). is_some (first_below r.servers f)) is.reopening (fun_ext (λ v. leads_same s v))

  held_same : (s : ℕ) → is_held y s ≡ is_held x s
  held_same s = ap₂ (λ (r : Reopening) (f : ℕ → Bool). is_some (first_below r.servers f)) is.reopening (fun_ext (λ v. holds_same s v))

  standing_same : (s v : ℕ) → standing_of y s v ≡ standing_of x s v
  standing_same s v =
      ap₃ (λ (r : Reopening) (w : State) (f : ℕ → ℕ → ToldCopy). record { claim = claim_of r w s v; copy = f s v }) is.reopening past_same is.copies

  best_same : (s u : ℕ) → is_best y s u ≡ is_best x s u
  best_same s u =
      ap₂ (λ (r : Reopening) (f : ℕ → Standing). nat_lt 0 (f u).claim && is_none (first_below r.servers (λ v. stands_above (f v) (f u)))) is.reopening
      (fun_ext (λ v. standing_same s v))

  successor_same : (s : ℕ) → successor_of y s ≡ successor_of x s
  successor_same s = ap₂ (λ (r : Reopening) (f : ℕ → Bool). first_below r.servers f) is.reopening (fun_ext (λ u. best_same s u))

  module _ (d : Documented) where
    counted_same : (s v : ℕ) → role_counted y d s v ≡ role_counted x d s v
    counted_same s v = ap (λ (r : Reopening). if is_some (nonce_of (r.told (Server v))) then d s v else None) is.reopening

    keeps_same : (s v : ℕ) → keeps_replica y d s v ≡ keeps_replica x d s v
    keeps_same s v = ap₂ (λ (b : Bool) (o : Option Role). b || is_some o) (holds_same s v) (counted_same s v)

    led_same : (s : ℕ) → is_led y d s ≡ is_led x d s
    led_same s =
        ap₃ (λ (a b c : Bool). a || (not b && c)) (known_same s) (held_same s)
        (ap (λ (r : Reopening). is_some (first_below r.servers (λ v. is_primary_role (d s v)))) is.reopening)

    documented_same : (s : ℕ) → documented_primary y d s ≡ documented_primary x d s
    documented_same s = ap₂ (λ (r : Reopening) (f : ℕ → Option Role). first_below r.servers (λ v. is_primary_role (f v))) is.reopening (fun_ext (λ v. counted_same s v))

    pub primary_of_same : (s : ℕ) → primary_of y d s ≡ primary_of x d s
    primary_of_same s = ap₃ (λ (b : Bool) (o p : Option ℕ). if b then first_or o p else None) (led_same s) (successor_same s) (documented_same s)

    pub cell_same : (s : ℕ) (primary : Option ℕ) (v : ℕ) → proposed_cell y d s primary v ≡ proposed_cell x d s primary v
    cell_same s primary v =
        ap₃ (λ (out : ℕ → Bool) (r : Reopening) (keeps : Bool).
        if out v || r.lost v then Absent else if is_the primary v then Primary else if keeps then Secondary else Absent)
        is.rest.left_out is.reopening (keeps_same s v)

-- ---- the choices of a list

-- the same of an item, if there is one
made_of_either : (x y : Option Choice) → option_map choice_made (option_or x y) ≡ option_or (option_map choice_made x) (option_map choice_made y)
made_of_either None y = refl
made_of_either (Some c) y = refl

made_of_test : (b : Bool) (c : Choice) → option_map choice_made (if b then Some c else None) ≡ (if b then Some (choice_made c) else None)
made_of_test true c = refl
made_of_test false c = refl

-- what is made is of the shard with this number
abbrev is_made_of : List ℕ → ℕ → ℕ × List (ℕ × Role) → Bool
is_made_of shards s made = is_the (slice_get shards made.0) s

-- the last choice of a shard, as it is made
last_made : (shards : List ℕ) (s : ℕ) (xs : List Choice) → option_map choice_made (last_that (is_choice_of shards s) xs) ≡ last_that (is_made_of shards s) (map choice_made xs)
last_made shards s [] = refl
last_made shards s (x ∷ xs) =
    made_of_either (last_that (is_choice_of shards s) xs) (if is_choice_of shards s x then Some x else None)
    ∙ ap₂ (λ (o p : Option (ℕ × List (ℕ × Role))). option_or o p) (last_made shards s xs) (made_of_test (is_choice_of shards s x) x)

role_of_made : (servers : List ℕ) (v : ℕ) (o : Option Choice) (other : Option Role) →
    option_map_or (λ (c : Choice). role_given servers c.replicas.items v) o other
    ≡ option_map_or (λ (made : ℕ × List (ℕ × Role)). role_given servers made.1 v) (option_map choice_made o) other
role_of_made servers v None other = refl
role_of_made servers v (Some c) other = refl

-- ---- reopenings that are alike

module _ (r s : ReopeningModel) (is : AreReopeningsAlike r s) where
  pub primary_same : (k : ℕ) → proposed_primary s k ≡ proposed_primary r k
  primary_same k = ap (λ (d : Documented). primary_of s.ongoing d k) is.roles ∙ primary_of_same r.ongoing s.ongoing is.ongoing (documented_roles r) k

  by_proposal_same : (k v : ℕ) → role_by_proposal s k v ≡ role_by_proposal r k v
  by_proposal_same k v =
      ap₂ (λ (d : Documented) (p : Option ℕ). role_by_cell (proposed_cell s.ongoing d k p v)) is.roles (primary_same k)
      ∙ ap role_by_cell (cell_same r.ongoing s.ongoing is.ongoing (documented_roles r) k (proposed_primary r k) v)

  proposed_same : (k v : ℕ) → proposed_role s k v ≡ proposed_role r k v
  proposed_same k v = ap₂ (λ (ks : List ℕ) (o : Option Role). if list_any (λ t. t == k) ks then o else None) is.shards (by_proposal_same k v)

  -- who is down
  pub down_same : is_down_next s ≡ is_down_next r
  down_same = fun_ext (λ v. ap₃ (λ (n : Reopening) (a b : Bool). nat_lt v n.servers && (a || b)) is.ongoing.reopening (still v) (called v))
    where
      still : (v : ℕ) → is_still_down s v ≡ is_still_down r v
      still v =
          ap₃ (λ (n : Reopening) (out : ℕ → Bool) (p : Place). (is_asked n (Server v) && not (out v)) && p.down v)
          is.ongoing.reopening is.ongoing.rest.left_out is.ongoing.rest.place

      called : (v : ℕ) → is_called_down s v ≡ is_called_down r v
      called v = ap₂ (λ (vs : List ℕ) (m : DocumentModel). list_any (λ k. is_the (slice_get vs k) v) m.down) is.servers is.document

  -- and in the document's order
  pub down_order_same : down_in_order s ≡ down_in_order r
  down_order_same = ap₂ (λ (f : ℕ → Bool) (vs : List ℕ). is_down_in (map f vs)) down_same is.servers

  module _ (xs ys : List Choice) (same : map choice_made ys ≡ map choice_made xs) where
    chosen_same : (k v : ℕ) → chosen_role s ys k v ≡ chosen_role r xs k v
    chosen_same k v =
        ap₃ (λ (vs ks : List ℕ) (other : Option Role). option_map_or (λ (c : Choice). role_given vs c.replicas.items v) (last_that (is_choice_of ks k) ys) other)
        is.servers is.shards (proposed_same k v)
        ∙ role_of_made r.servers v (last_that (is_choice_of r.shards k) ys) (proposed_role r k v)
        ∙ ap (λ (o : Option (ℕ × List (ℕ × Role))). option_map_or (λ (made : ℕ × List (ℕ × Role)). role_given r.servers made.1 v) o (proposed_role r k v))
        (last_made r.shards k ys ∙ ap (last_that (is_made_of r.shards k)) same ∙ sym (last_made r.shards k xs))
        ∙ sym (role_of_made r.servers v (last_that (is_choice_of r.shards k) xs) (proposed_role r k v))

    -- the roles that are chosen
    pub roles_same : roles_chosen s ys ≡ roles_chosen r xs
    roles_same =
        ap₂ (λ (n : Setup) (f : RolesGiven). roles_within (length n.shards) (length n.servers) f) is.numbering (fun_ext (λ k. fun_ext (λ v. chosen_same k v)))

    -- and the same in the document's order
    pub order_same : roles_in_order s (roles_chosen s ys) ≡ roles_in_order r (roles_chosen r xs)
    order_same =
        ap₂ (λ (m : DocumentModel) (f : RolesGiven). roles_within (length m.setup.shards) (length m.setup.servers)
        (λ k v. f (slice_index_or s.shards k 4294967295) (slice_index_or s.servers v 4294967295))) is.document roles_same
        ∙ ap₂ (λ (ks vs : List ℕ). roles_within (length r.document.config.shards) (length r.document.config.servers)
        (λ k v. roles_chosen r xs (slice_index_or ks k 4294967295) (slice_index_or vs v 4294967295))) is.shards is.servers
