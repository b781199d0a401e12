-- A settlement stays the same in the numbers of its document, and the next driver opens on it.
use Rattle.std.proofs.Common.{◌≡◌, ◌≢◌, ◌≤◌, ◌<◌, ◌⊎◌, ◌&&◌, ◌||◌, ◌==◌, ℕ, zero, suc, refl, sym, ap, ap₂, ◌∙◌, inl, inr, subst, arith, rules, true≢false, zero-add, Bool, true, false, Option, Some, None, List, [], ◌∷◌, length, if◌then◌else◌, slice_get}
use Rattle.std.specs.Prelude.{map, nat_lt, not, option_map, slice_index_or}
use Rattle.std.specs.List.{list_any, range_with_len}
use Rattle.std.specs.Option.{option_map_or, option_or}
use Rattle.std.specs.Str.{bytes_eq}
use Rattle.std.proofs.lemmas.Bool.{cases_lt, eqb-true, ltb-true}
use Rattle.std.proofs.lemmas.Option.{get_or_from_slice_get, slice_get-get_or, slice_get-map, slice_get_within}
use Rattle.std.proofs.lemmas.List.FromFn.{get_or-map-range_with_len, get_or-range_with_len, length-range_with_len}
use Rattle.std.proofs.lemmas.List.Quantifiers.{position-Some}
use Rattle.std.proofs.lemmas.Slice.Eq.{bytes_eq-Decides}
use Rattle.sm_server.specs.declared.call.Cell.{Cell}
use Rattle.sm_server.specs.declared.call.Cell.TheVariants.{Absent, Primary, Secondary}
use Rattle.sm_server.specs.declared.call.Role.{Role}
use Rattle.sm_server.specs.declared.call.Role.TheVariants as role
use Rattle.sm_placement.specs.Layout.{PlacementModel, entries_of, place_of}
use Rattle.sm_placement.specs.Opening.{first_below}
use Rattle.sm_placement.specs.Place.{Place}
use Rattle.sm_placement.specs.Setup.{IsSetup, Setup, ServerRow, names_of_servers, names_of_shards, ShardRow, no_server, no_shard, server_named, shard_named, sizes_of}
use Rattle.sm_placement.specs.Rows.{serves_as}
use Rattle.sm_placement.proofs.ConfigLemmas.{length_map}
use Rattle.sm_placement.proofs.Leads.{one_serves}
use Rattle.sm_placement.proofs.NamedLemmas.{server_named_at, shard_named_at}
use Rattle.sm_placement.proofs.Searches.{first_none, first_some}
use Rattle.sm_protocol.specs.Laws.{IsOpening}
use Rattle.sm_protocol.proofs.Courses.{some_same}
use Rattle.laws_network.specs.Reopening.{Settlement}
use Rattle.sm_reopening.specs.declared.party.Membership.{Membership}
use Rattle.sm_reopening.specs.declared.party.Membership.TheVariants.{LeftOut, Lost, Member}
use Rattle.sm_reopening.specs.Ongoing.{left_out_of, net_reopening}
use Rattle.sm_reopening.specs.Proposal.{is_primary_role, is_the, keeps_replica, proposed_cell}
use Rattle.sm_reopening.specs.States.{is_gone, is_leaving}
use Rattle.smpland_reopening.specs.Begun.{members_under}
use Rattle.smpland_reopening.specs.Chosen.{chosen_role, is_choice_of, is_replica_of, last_that, proposed_role, role_by_proposal, role_given}
use Rattle.smpland_reopening.specs.Confirmed.{down_in_order, is_down_next, roles_chosen, roles_in_order}
use Rattle.smpland_reopening.specs.InForce.{IsOpenedFrom}
use Rattle.smpland_reopening.specs.Members.{documented_membership, is_named_among, membership_at}
use Rattle.smpland_reopening.specs.Proposal.{documented_roles, has_shard, proposed_primary}
use Rattle.smpland_reopening.specs.Reopening.{ReopeningModel}
use Rattle.smpland_reopening.specs.Roles.{cell_by_role, role_by_cell}
use Rattle.smpland_reopening.specs.Settled.{RolesGiven, place_by, primary_by, roles_within, setup_met, shard_met}
use Rattle.smpland_reopening.specs.declared.choice.Choice.{Choice}
use Rattle.laws_reopening.specs.Renumbering.{IsRenumberedAs, IsSameServer, Renumbering, StandsAtOnePlace, at_old_numbers, renumbered}
use Rattle.laws_run.specs.Renumbers.{IsConfirmedUnder, KeptIsRenumbered, OpensOnKept, documents_numbers, settlement_kept}

-- ---- lists

-- a number below the length of a list has an item
there_at : {A : Type 0} (xs : List A) (k : ℕ) (d : A) → k < length xs → slice_get xs k ≡ Some (slice_index_or xs k d)
there_at xs k d h = slice_get-get_or xs k d h

-- one without an item is at or behind its end
beyond : {A : Type 0} (xs : List A) (k : ℕ) → slice_get xs k ≡ None → length xs ≤ k
beyond [] k e = omega arith
beyond (x ∷ xs) zero e = absurd (cc)
beyond (x ∷ xs) (suc k) e = let a = beyond xs k e in omega arith

-- each number of a range stands at itself
own_at : (count k : ℕ) → k < count → slice_get (range_with_len 0 count) k ≡ Some k
own_at count k below = slice_get-get_or (range_with_len 0 count) k 0 (let e = length-range_with_len 0 count in omega arith)
    ∙ ap (λ m. Some m) (get_or-range_with_len 0 count k 0 below ∙ zero-add k)

below_true : (k n : ℕ) → k < n → nat_lt k n ≡ true
below_true k n below = search (rules, below)

above_false : (k n : ℕ) → n ≤ k → nat_lt k n ≡ false
above_false k n above = search (rules, above)

true_below : (k n : ℕ) → nat_lt k n ≡ true → k < n
true_below k n e = ltb-true k n e

-- the last item that passes a test passes it
last_passes : {A : Type 0} (p : A → Bool) (xs : List A) (x : A) → last_that p xs ≡ Some x → p x ≡ true
last_passes {A = A} p [] x e = absurd (cc)
last_passes {A = A} p (y ∷ xs) x e = by_rest (last_passes p xs x) (last_that p xs) refl e
  where
    by_test : (b : Bool) → p y ≡ b → (if b then Some y else None) ≡ Some x → p x ≡ true
    by_test true h f = subst (λ z. p z ≡ true) (some_same y x f) h
    by_test false h f = absurd (cc)

    by_rest : (last_that p xs ≡ Some x → p x ≡ true) → (o : Option A) → last_that p xs ≡ o → option_or o (if p y then Some y else None) ≡ Some x → p x ≡ true
    by_rest rest None h f = by_test (p y) refl f
    by_rest rest (Some z) h f = rest (h ∙ f)

-- a number that is some item's stands at its place
is_at : (o : Option ℕ) (v : ℕ) → is_the o v ≡ true → o ≡ Some v
is_at None v e = absurd (cc)
is_at (Some u) v e = ap (λ n. Some n) (eqb-true u v e)

-- a number that is among others stands at some place
among_at : (xs : List ℕ) (s : ℕ) → list_any (λ x. x == s) xs ≡ true → (k : ℕ) × (slice_get xs k ≡ Some s)
among_at [] s e = absurd (cc)
among_at (x ∷ xs) s e = by_first (among_at xs s) (x == s) refl e
  where
    by_first : (list_any (λ x. x == s) xs ≡ true → (k : ℕ) × (slice_get xs k ≡ Some s)) → (b : Bool) → (x == s) ≡ b → (b || list_any (λ x. x == s) xs) ≡ true →
        (k : ℕ) × (slice_get (x ∷ xs) k ≡ Some s)
    by_first rest true h f = (0, ap (λ n. Some n) (eqb-true x s h))
    by_first rest false h f = let r = rest f in (suc r.0, r.1)

-- ---- roles and cells

primary_cell : (o : Option Role) → is_primary_role o ≡ true → cell_by_role o ≡ Primary
primary_cell (Some role.Primary) e = refl
primary_cell (Some role.Secondary) e = absurd (cc)
primary_cell None e = absurd (cc)

-- ---- a settled placement

-- a shard has at most one primary
one_primary : (setup : Setup) (p : Place) (room : ℕ) → IsOpening setup p room → (k u v : ℕ) → p.cells k u ≡ Primary → p.cells k v ≡ Primary → u ≡ v
one_primary setup p room o k u v e f = elim (cases_lt k (sizes_of setup).shards) [
  | inl l ↦ let d = o.settled.leads k l in one_serves d.0 0 (p.cells k) d.2 u v (ap (serves_as (p.cells k) u) e) (ap (serves_as (p.cells k) v) f)
  | inr l ↦ absurd (let z = o.placement.no_shard k u l in cc)
]

-- ---- names

-- two servers of one name have one number
server_alone : (setup : Setup) → IsSetup setup → (u v : ℕ) (name : List ℕ) → slice_get (names_of_servers setup) u ≡ Some name → slice_get (names_of_servers setup) v ≡ Some name → u ≡ v
server_alone setup is u v name e f = some_same u v (sym (at u e) ∙ at v f)
  where
    at : (k : ℕ) → slice_get (names_of_servers setup) k ≡ Some name → server_named setup name ≡ Some k
    at k e =
        let within : k < length setup.servers = (let a = slice_get_within (names_of_servers setup) k name e in let b = length_map (λ (r : ServerRow). r.name) setup.servers in omega arith) in
        let row = slice_index_or setup.servers k no_server in
        let same : row.name ≡ name = some_same row.name name (sym (slice_get-map (λ (r : ServerRow). r.name) setup.servers k
        ∙ ap (option_map (λ (r : ServerRow). r.name)) (there_at setup.servers k no_server within)) ∙ e) in
        subst (λ m. server_named setup m ≡ Some k) same (server_named_at setup k row is within refl)

-- two shards, too
shard_alone : (setup : Setup) → IsSetup setup → (u v : ℕ) (name : List ℕ) → slice_get (names_of_shards setup) u ≡ Some name → slice_get (names_of_shards setup) v ≡ Some name → u ≡ v
shard_alone setup is u v name e f = some_same u v (sym (at u e) ∙ at v f)
  where
    at : (k : ℕ) → slice_get (names_of_shards setup) k ≡ Some name → shard_named setup name ≡ Some k
    at k e =
        let within : k < length setup.shards = (let a = slice_get_within (names_of_shards setup) k name e in let b = length_map (λ (r : ShardRow). r.name) setup.shards in omega arith) in
        let row = slice_index_or setup.shards k no_shard in
        let same : row.name ≡ name = some_same row.name name (sym (slice_get-map (λ (r : ShardRow). r.name) setup.shards k
        ∙ ap (option_map (λ (r : ShardRow). r.name)) (there_at setup.shards k no_shard within)) ∙ e) in
        subst (λ m. shard_named setup m ≡ Some k) same (shard_named_at setup k row is within refl)

-- the server of a name that is known has this name
server_has_name : (setup : Setup) (name : List ℕ) (v : ℕ) → server_named setup name ≡ Some v → slice_get (names_of_servers setup) v ≡ Some name
server_has_name setup name v e =
    let p = position-Some (λ n. bytes_eq name n) (names_of_servers setup) v [] e in
    there_at (names_of_servers setup) v [] p.0 ∙ ap (λ n. Some n) (sym (bytes_are name (slice_index_or (names_of_servers setup) v []) p.1))
  where
    bytes_are : (a b : List ℕ) → bytes_eq a b ≡ true → a ≡ b
    bytes_are a b h = (bytes_eq-Decides a b).0 h

-- a floor that is met changes no name
same_shards : (setup : Setup) (roles : RolesGiven) (down : ℕ → Bool) (k : ℕ) (name : List ℕ) → slice_get (names_of_shards setup) k ≡ Some name →
    slice_get (names_of_shards (setup_met setup roles down)) k ≡ Some name
same_shards setup roles down k name e =
    let within : k < length setup.shards = (let a = slice_get_within (names_of_shards setup) k name e in let b = length_map (λ (r : ShardRow). r.name) setup.shards in omega arith) in
    let range = range_with_len 0 (length setup.shards) in
    let at : slice_get range k ≡ Some k = own_at (length setup.shards) k within in
    slice_get-map (λ (r : ShardRow). r.name) (setup_met setup roles down).shards k
    ∙ ap (option_map (λ (r : ShardRow). r.name)) (slice_get-map (shard_met setup roles down) range k ∙ ap (option_map (shard_met setup roles down)) at)
    ∙ sym (slice_get-map (λ (r : ShardRow). r.name) setup.shards k ∙ ap (option_map (λ (r : ShardRow). r.name)) (there_at setup.shards k no_shard within))
    ∙ e

-- ---- what is kept for the next driver

module _ (numbered : Setup) (lost : List (List ℕ)) (chosen : List Choice) (r new : ReopeningModel) (s : Settlement) (c : IsConfirmedUnder numbered lost chosen r new s)
    (settled : IsOpening s.setup s.place s.room) (kept : IsOpening c.keeps.placement.setup (place_of c.keeps.placement) r.document.log) where
  abbrev p : PlacementModel
  p = c.keeps.placement

  abbrev numbering : Setup
  numbering = r.numbering

  abbrev document : Setup
  document = r.document.config

  abbrev numbers : Renumbering
  numbers = documents_numbers r

  abbrev roles : RolesGiven
  roles = roles_chosen r chosen

  abbrev ordered : RolesGiven
  ordered = roles_in_order r roles

  servers_are : length r.servers ≡ length document.servers
  servers_are = c.numbers.servers.count ∙ length_map (λ (x : ServerRow). x.name) document.servers

  shards_are : length r.shards ≡ length document.shards
  shards_are = c.numbers.shards.count ∙ length_map (λ (x : ShardRow). x.name) document.shards

  -- a number of the reopening is below its count
  server_below : (v j : ℕ) → slice_get r.servers v ≡ Some j → j < length numbering.servers
  server_below v j e =
      let named = c.numbers.servers.named v j e in
      let within : v < length document.servers = (let a = slice_get_within r.servers v j e in let b = servers_are in omega arith) in
      let at = there_at (names_of_servers document) v [] (let b = length_map (λ (x : ServerRow). x.name) document.servers in omega arith) in
      let a = slice_get_within (names_of_servers numbering) j (slice_index_or (names_of_servers document) v []) (named ∙ at) in
      let b = length_map (λ (x : ServerRow). x.name) numbering.servers in omega arith

  shard_below : (k i : ℕ) → slice_get r.shards k ≡ Some i → i < length numbering.shards
  shard_below k i e =
      let named = c.numbers.shards.named k i e in
      let within : k < length document.shards = (let a = slice_get_within r.shards k i e in let b = shards_are in omega arith) in
      let at = there_at (names_of_shards document) k [] (let b = length_map (λ (x : ShardRow). x.name) document.shards in omega arith) in
      let a = slice_get_within (names_of_shards numbering) i (slice_index_or (names_of_shards document) k []) (named ∙ at) in
      let b = length_map (λ (x : ShardRow). x.name) numbering.shards in omega arith

  -- ---- each number stands once

  document_servers : names_of_servers p.setup ≡ names_of_servers document
  document_servers = ap names_of_servers c.keeps.placed.setup

  servers_once : StandsAtOnePlace r.servers
  servers_once u v j e f =
      let within : u < length document.servers = (let a = slice_get_within r.servers u j e in let b = servers_are in omega arith) in
      let at = there_at (names_of_servers document) u [] (let b = length_map (λ (x : ServerRow). x.name) document.servers in omega arith) in
      let other = sym (c.numbers.servers.named v j f) ∙ c.numbers.servers.named u j e ∙ at in
      server_alone p.setup kept.rows u v (slice_index_or (names_of_servers document) u [])
      (ap (λ (names : List (List ℕ)). slice_get names u) document_servers ∙ at) (ap (λ (names : List (List ℕ)). slice_get names v) document_servers ∙ other)

  shards_once : StandsAtOnePlace r.shards
  shards_once u v i e f =
      let within : u < length document.shards = (let a = slice_get_within r.shards u i e in let b = shards_are in omega arith) in
      let at = there_at (names_of_shards document) u [] (let b = length_map (λ (x : ShardRow). x.name) document.shards in omega arith) in
      let other = sym (c.numbers.shards.named v i f) ∙ c.numbers.shards.named u i e ∙ at in
      let name = slice_index_or (names_of_shards document) u [] in
      shard_alone (setup_met document ordered (down_in_order r)) (subst IsSetup c.keeps.placed.setup kept.rows) u v name
      (same_shards document ordered (down_in_order r) u name at) (same_shards document ordered (down_in_order r) v name other)

  -- ---- cells

  -- the role by the document's order is that of the numbers
  in_order : (k v i j : ℕ) → slice_get r.shards k ≡ Some i → slice_get r.servers v ≡ Some j → ordered k v ≡ roles i j
  in_order k v i j e f =
      let a : nat_lt k (length document.shards) ≡ true = below_true k (length document.shards) (let x = slice_get_within r.shards k i e in let y = shards_are in omega arith) in
      let b : nat_lt v (length document.servers) ≡ true = below_true v (length document.servers) (let x = slice_get_within r.servers v j f in let y = servers_are in omega arith) in
      ap₂ (λ x y. if x && y then roles (slice_index_or r.shards k 4294967295) (slice_index_or r.servers v 4294967295) else None) a b
      ∙ ap₂ roles (get_or_from_slice_get r.shards k i 4294967295 e) (get_or_from_slice_get r.servers v j 4294967295 f)

  no_shard_order : (k v : ℕ) → slice_get r.shards k ≡ None → ordered k v ≡ None
  no_shard_order k v e =
      let a : nat_lt k (length document.shards) ≡ false = above_false k (length document.shards) (let x = beyond r.shards k e in let y = shards_are in omega arith) in
      ap (λ x. if x && nat_lt v (length document.servers) then roles (slice_index_or r.shards k 4294967295) (slice_index_or r.servers v 4294967295) else None) a

  no_server_order : (k v : ℕ) → slice_get r.servers v ≡ None → ordered k v ≡ None
  no_server_order k v e =
      let a : nat_lt v (length document.servers) ≡ false = above_false v (length document.servers) (let x = beyond r.servers v e in let y = servers_are in omega arith) in
      ap (λ x. if nat_lt k (length document.shards) && x then roles (slice_index_or r.shards k 4294967295) (slice_index_or r.servers v 4294967295) else None) a
      ∙ by_both (nat_lt k (length document.shards))
    where
      by_both : (b : Bool) → (if b && false then roles (slice_index_or r.shards k 4294967295) (slice_index_or r.servers v 4294967295) else None) ≡ None
      by_both true = refl
      by_both false = refl

  old_cell : (i j : ℕ) → s.place.cells i j ≡ cell_by_role (roles i j)
  old_cell i j = ap (λ (q : Place). q.cells i j) c.settles.place

  new_cell : (k v : ℕ) → (place_of p).cells k v ≡ cell_by_role (ordered k v)
  new_cell k v = ap (λ (q : Place). q.cells k v) c.keeps.placed.place

  same_cells : (k v : ℕ) → (place_of p).cells k v ≡ renumbered numbers s.place.cells Absent k v
  same_cells k v = new_cell k v ∙ go (slice_get r.shards k) refl (slice_get r.servers v) refl
    where
      go : (a : Option ℕ) → slice_get r.shards k ≡ a → (b : Option ℕ) → slice_get r.servers v ≡ b → cell_by_role (ordered k v) ≡ renumbered numbers s.place.cells Absent k v
      go None e b f = ap cell_by_role (no_shard_order k v e) ∙ sym (ap (λ a. at_old_numbers s.place.cells Absent a (slice_get r.servers v)) e)
      go (Some i) e None f = ap cell_by_role (no_server_order k v f) ∙ sym (ap₂ (at_old_numbers s.place.cells Absent) e f)
      go (Some i) e (Some j) f = ap cell_by_role (in_order k v i j e f) ∙ sym (old_cell i j) ∙ sym (ap₂ (at_old_numbers s.place.cells Absent) e f)

  -- ---- who has something is in the document

  module _ (i j : ℕ) (below : j < length numbering.servers) where
    abbrev name : List ℕ
    name = (slice_index_or numbering.servers j no_server).name

    named_so : slice_get (names_of_servers numbering) j ≡ Some name
    named_so = slice_get-map (λ (x : ServerRow). x.name) numbering.servers j ∙ ap (option_map (λ (x : ServerRow). x.name)) (there_at numbering.servers j no_server below)

    member : slice_index_or (members_under numbering document lost) j Member ≡ membership_at numbering document lost j
    member = get_or-map-range_with_len (membership_at numbering document lost) 0 (length numbering.servers) j j Member below (omega arith)

    is_lost : (net_reopening r.ongoing).lost j ≡ is_gone (membership_at numbering document lost j)
    is_lost = ap (λ (f : ℕ → Bool). f j) c.lost_ones ∙ ap is_gone member

    is_left : left_out_of r.ongoing j ≡ is_leaving (membership_at numbering document lost j)
    is_left = ap (λ (f : ℕ → Bool). f j) c.left_out ∙ ap is_leaving member

    -- a server that is neither lost nor left out is one of the document
    in_document : (net_reopening r.ongoing).lost j ≡ false → left_out_of r.ongoing j ≡ false → (v : ℕ) × (slice_get r.servers v ≡ Some j)
    in_document gone left = by_lost (is_named_among name lost) refl
      where
        by_name : is_named_among name lost ≡ false → (o : Option ℕ) → server_named document name ≡ o → (v : ℕ) × (slice_get r.servers v ≡ Some j)
        by_name h None e = absurd (true≢false (sym (ap₂ (λ (b : Bool) (o : Option ℕ). is_leaving (if b then Lost else documented_membership o)) h e) ∙ sym is_left ∙ left))
        by_name h (Some v) e =
            let has = server_has_name document name v e in
            let within : v < length r.servers = (let a = slice_get_within (names_of_servers document) v name has in let b = c.numbers.servers.count in omega arith) in
            let at = there_at r.servers v 0 within in
            let same : slice_index_or r.servers v 0 ≡ j = server_alone numbering c.numbers.apart (slice_index_or r.servers v 0) j name
            (c.numbers.servers.named v (slice_index_or r.servers v 0) at ∙ has) named_so in
            (v, at ∙ ap (λ m. Some m) same)

        by_lost : (b : Bool) → is_named_among name lost ≡ b → (v : ℕ) × (slice_get r.servers v ≡ Some j)
        by_lost true h = absurd (true≢false (sym (ap (λ (b : Bool). is_gone (if b then Lost else documented_membership (server_named document name))) h) ∙ sym is_lost ∙ gone))
        by_lost false h = by_name h (server_named document name) refl

    -- the cell that is proposed for a server of the document that is not lost
    abbrev rest : Cell
    rest = if is_the (proposed_primary r i) j then Primary else if keeps_replica r.ongoing (documented_roles r) i j then Secondary else Absent

    -- a role that is proposed is of the document's server
    by_proposal : role_by_proposal r i j ≢ None → (v : ℕ) × (slice_get r.servers v ≡ Some j)
    by_proposal some = go (left_out_of r.ongoing j) refl ((net_reopening r.ongoing).lost j) refl
      where
        go : (a : Bool) → left_out_of r.ongoing j ≡ a → (b : Bool) → (net_reopening r.ongoing).lost j ≡ b → (v : ℕ) × (slice_get r.servers v ≡ Some j)
        go false e false f = in_document f e
        go true e b f = absurd (some (ap (λ (a : Bool). role_by_cell (if a || (net_reopening r.ongoing).lost j then Absent else rest)) e))
        go false e true f = absurd (some (ap₂ (λ (a b : Bool). role_by_cell (if a || b then Absent else rest)) e f))

  -- what is chosen of a shard is of the document, and so is the shard
  of_document : (i j : ℕ) → j < length numbering.servers → chosen_role r chosen i j ≢ None → (k : ℕ) × (v : ℕ) × (slice_get r.shards k ≡ Some i) × (slice_get r.servers v ≡ Some j)
  of_document i j below some = by_choice (last_that (is_choice_of r.shards i) chosen) refl
    where
      by_replica : (choice : Choice) → (o : Option (ℕ × Role)) → last_that (is_replica_of r.servers j) choice.replicas.items ≡ o → role_given r.servers choice.replicas.items j ≢ None →
          (v : ℕ) × (slice_get r.servers v ≡ Some j)
      by_replica choice None e given = absurd (given (ap (option_map (λ (x : ℕ × Role). x.1)) e))
      by_replica choice (Some replica) e given = (replica.0, is_at (slice_get r.servers replica.0) j (last_passes (is_replica_of r.servers j) choice.replicas.items replica e))

      by_shard : (b : Bool) → has_shard r i ≡ b → (if b then role_by_proposal r i j else None) ≢ None → (k : ℕ) × (v : ℕ) × (slice_get r.shards k ≡ Some i) × (slice_get r.servers v ≡ Some j)
      by_shard false h given = absurd (given refl)
      by_shard true h given = let k = among_at r.shards i h in let v = by_proposal i j below given in (k.0, v.0, k.1, v.1)

      by_choice : (o : Option Choice) → last_that (is_choice_of r.shards i) chosen ≡ o → (k : ℕ) × (v : ℕ) × (slice_get r.shards k ≡ Some i) × (slice_get r.servers v ≡ Some j)
      by_choice None e = by_shard (has_shard r i) refl
          (subst (λ x. x ≢ None) (ap (λ (o : Option Choice). option_map_or (λ (choice : Choice). role_given r.servers choice.replicas.items j) o (proposed_role r i j)) e) some)
      by_choice (Some choice) e =
          let at = is_at (slice_get r.shards choice.shard) i (last_passes (is_choice_of r.shards i) chosen choice e) in
          let v = by_replica choice (last_that (is_replica_of r.servers j) choice.replicas.items) refl
          (subst (λ x. x ≢ None) (ap (λ (o : Option Choice). option_map_or (λ (choice : Choice). role_given r.servers choice.replicas.items j) o (proposed_role r i j)) e) some) in
          (choice.shard, v.0, at, v.1)

  abbrev role_within : ℕ → ℕ → Bool → Bool → Option Role
  role_within i j a b = if a && b then chosen_role r chosen i j else None

  all_in : (i j : ℕ) → s.place.cells i j ≢ Absent → (k : ℕ) × (v : ℕ) × (slice_get r.shards k ≡ Some i) × (slice_get r.servers v ≡ Some j)
  all_in i j there = go (nat_lt i (length numbering.shards)) refl (nat_lt j (length numbering.servers)) refl
    where
      go : (a : Bool) → nat_lt i (length numbering.shards) ≡ a → (b : Bool) → nat_lt j (length numbering.servers) ≡ b →
          (k : ℕ) × (v : ℕ) × (slice_get r.shards k ≡ Some i) × (slice_get r.servers v ≡ Some j)
      go true e true f = of_document i j (true_below j (length numbering.servers) f)
          (λ none. there (old_cell i j ∙ ap cell_by_role (ap₂ (role_within i j) e f ∙ none)))
      go true e false f = absurd (there (old_cell i j ∙ ap cell_by_role (ap₂ (role_within i j) e f)))
      go false e b f = absurd (there (old_cell i j ∙ ap cell_by_role (ap (λ a. role_within i j a (nat_lt j (length numbering.servers))) e)))

  -- ---- the map

  old_listed : (i : ℕ) → i < length numbering.shards → s.place.listed i ≡ primary_by (length numbering.servers) roles i
  unfolding entries_of
  old_listed i h = ap (λ (q : Place). q.listed i) c.settles.place
      ∙ get_or-map-range_with_len (primary_by (length numbering.servers) roles) 0 (length numbering.shards) i i None h (omega arith)

  new_listed : (k : ℕ) → k < length document.shards → (place_of p).listed k ≡ primary_by (length document.servers) ordered k
  unfolding entries_of
  new_listed k h = ap (λ (q : Place). q.listed k) c.keeps.placed.place
      ∙ get_or-map-range_with_len (primary_by (length document.servers) ordered) 0 (length document.shards) k k None h (omega arith)

  -- who is the primary, by old numbers and by new ones
  abbrev old_test : ℕ → ℕ → Bool
  old_test i v = is_primary_role (roles i v)

  abbrev new_test : ℕ → ℕ → Bool
  new_test k v = is_primary_role (ordered k v)

  same_listed : (k i : ℕ) → slice_get r.shards k ≡ Some i → IsSameServer numbers (s.place.listed i) ((place_of p).listed k)
  same_listed k i e =
      subst (λ o. IsSameServer numbers o ((place_of p).listed k)) (sym (old_listed i (shard_below k i e)))
      (subst (λ o. IsSameServer numbers (primary_by (length numbering.servers) roles i) o) (sym (new_listed k (let a = slice_get_within r.shards k i e in let b = shards_are in omega arith)))
      (go (primary_by (length numbering.servers) roles i) refl (primary_by (length document.servers) ordered k) refl))
    where
      -- the server by its old number
      old_of : (v : ℕ) → v < length document.servers → (j : ℕ) × (slice_get r.servers v ≡ Some j) × (new_test k v ≡ old_test i j)
      old_of v below =
          let at = there_at r.servers v 0 (let b = servers_are in omega arith) in
          (slice_index_or r.servers v 0, at, ap is_primary_role (in_order k v i (slice_index_or r.servers v 0) e at))

      go : (a : Option ℕ) → primary_by (length numbering.servers) roles i ≡ a → (b : Option ℕ) → primary_by (length document.servers) ordered k ≡ b → IsSameServer numbers a b
      go None h None g = tt
      go None h (Some v) g =
          let f = first_some (length document.servers) (new_test k) v g in
          let j = old_of v f.0 in
          absurd (true≢false (sym (sym j.2 ∙ f.1) ∙ first_none (length numbering.servers) (old_test i) h j.0 (server_below v j.0 j.1)))
      go (Some j) h (Some v) g =
          let f = first_some (length document.servers) (new_test k) v g in
          let q = first_some (length numbering.servers) (old_test i) j h in
          let other = old_of v f.0 in
          let same : other.0 ≡ j = one_primary s.setup s.place s.room settled i other.0 j
          (old_cell i other.0 ∙ primary_cell (roles i other.0) (sym other.2 ∙ f.1)) (old_cell i j ∙ primary_cell (roles i j) q.1) in
          other.1 ∙ ap (λ m. Some m) same
      go (Some j) h None g =
          let q = first_some (length numbering.servers) (old_test i) j h in
          let there = all_in i j (λ none. let z = sym (old_cell i j ∙ primary_cell (roles i j) q.1) ∙ none in cc) in
          let at : slice_get r.servers there.1 ≡ Some j = there.3 in
          let within : there.1 < length document.servers = (let a = slice_get_within r.servers there.1 j at in let b = servers_are in omega arith) in
          absurd (true≢false (sym (ap is_primary_role (in_order k there.1 i j e at) ∙ q.1) ∙ first_none (length document.servers) (new_test k) g there.1 within))

  is_renumbered : IsRenumberedAs numbers s (settlement_kept p r.document.log)
  is_renumbered = record {
    opening = kept;
    servers = servers_once;
    shards = shards_once;
    cells = same_cells;
    listed = same_listed;
    versions = λ k i e. ap (λ (q : Place). q.version k) c.keeps.placed.place ∙ sym (ap (λ (q : Place). q.version i) c.settles.place);
    all = all_in;
  }

-- what is kept is the settlement in the document's numbers
pub kept_is_renumbered : KeptIsRenumbered
kept_is_renumbered numbered lost chosen r new s c settled kept = is_renumbered numbered lost chosen r new s c settled kept

-- and the driver opens on it
pub opens_on_kept : OpensOnKept
opens_on_kept r d o = record {
  state = o.opened_over.state;
  setup = o.opened_over.setup;
  permits = o.opened_over.given;
  restores = o.opened_over.restored;
  copies = o.opened_over.copies;
}
