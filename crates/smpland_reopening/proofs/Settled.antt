-- The placement that roles give.
use Rattle.std.proofs.Common.{◌≡◌, ◌≢◌, ◌⊎◌, ◌∙◌, ◌+◌, ◌-◌, ◌<◌, ◌≤◌, ◌++◌, ◌∷◌, [], ℕ, Bool, true, false, List, Option, Some, None, add-one, ap, ap₂, arith, get_or, inl, inr, length, length-append, map, max, refl, subst, suc, sym, take, take_all, zero}
use Rattle.std.specs.Prelude.{Result, Ok, Err, IfOk, ◌&&◌, ◌||◌, ◌==◌, if◌then◌else◌, nat_lt, slice_get, slice_index_or}
use Rattle.std.specs.List.{filter, list_any, range_with_len}
use Rattle.std.proofs.Math.Path.{fun_ext}
use Rattle.std.proofs.lemmas.Bool.{cases_eq, cases_lt, eq-eqb, le-ltb, lt-ltb, ne_eqb}
use Rattle.std.proofs.lemmas.List.{get_or_past, map-append, take_more}
use Rattle.std.proofs.lemmas.List.Folds.{list_any-append}
use Rattle.std.proofs.lemmas.List.FromFn.{length-range_with_len}
use Rattle.sm_server.specs.declared.call.Cell.{Cell}
use Rattle.sm_server.specs.declared.call.Role.{Role}
use Rattle.sm_placement.specs.declared.config.Server.{Server}
use Rattle.sm_placement.specs.declared.config.Shard.{Shard}
use Rattle.sm_placement.specs.Config.{server_row, setup_of, shard_row}
use Rattle.sm_placement.specs.Layout.{PlacementModel, entries_of, place_of}
use Rattle.sm_placement.specs.Opening.{NamedCell, Opening, cell_named, opened_place}
use Rattle.sm_placement.specs.Place.{Place}
use Rattle.sm_placement.specs.Setup.{Setup, ShardRow}
use Rattle.sm_placement.specs.Sums.{bit, count_below}
use Rattle.sm_placement.proofs.ConfigLemmas.{length_map}
use Rattle.sm_placement.proofs.GridLemmas.{grid_of-below, grid_of-beside}
use Rattle.sm_reopening.specs.Ongoing.{net_reopening}
use Rattle.sm_reopening.specs.Proposal.{is_the}
use Rattle.smpland_reopening.specs.declared.roles.Roles.{Roles}
use Rattle.smpland_reopening.specs.Confirmed.{is_called_down, is_down_next, is_still_down}
use Rattle.smpland_reopening.specs.Reopening.{ReopeningModel}
use Rattle.smpland_reopening.specs.RoleGrids.{role_at}
use Rattle.smpland_reopening.specs.Roles.{cell_by_role, is_down_in}
use Rattle.smpland_reopening.specs.Settled.{IsPlacedBy, RolesGiven, down_among, place_by, primary_by, roles_within, setup_met, shard_with_live}
use Rattle.smpland_reopening.proofs.InForce.{read_range}
use Rattle.smpland_reopening.proofs.Lists.{pushed_more}
use Rattle.smpland_reopening.proofs.Marking.{kept_more}

-- ---- roles

-- what has no number has no role
pub roles_kept : (roles : Roles) (shards servers : ℕ) (f : RolesGiven) → roles.shards ≡ shards → roles.servers ≡ servers →
    ((s v : ℕ) → s < shards → v < servers → role_at roles s v ≡ f s v) → role_at roles ≡ roles_within shards servers f
roles_kept roles shards servers f rows width is = fun_ext (λ s. fun_ext (λ v. at s v))
  where
    given : (s v : ℕ) (a b : Bool) → nat_lt s shards ≡ a → nat_lt v servers ≡ b → role_at roles s v ≡ (if a && b then f s v else None) →
        role_at roles s v ≡ roles_within shards servers f s v
    given s v a b e d h =
        h ∙ sym (ap (λ (t : Bool). if t && b then f s v else None) e) ∙ sym (ap (λ (t : Bool). if nat_lt s shards && t then f s v else None) d)

    at : (s v : ℕ) → role_at roles s v ≡ roles_within shards servers f s v
    at s v = elim (cases_lt s shards) [
      | inl k ↦ elim (cases_lt v servers) [
        | inl l ↦ given s v true true (lt-ltb s shards k) (lt-ltb v servers l) (is s v k l)
        | inr l ↦ given s v true false (lt-ltb s shards k) (le-ltb v servers l) (grid_of-beside roles.servers None roles.list.items s v (rw width l))
      ]
      | inr k ↦ given s v false (nat_lt v servers) (le-ltb s shards k) refl (grid_of-below roles.servers roles.shards None roles.list.items s v roles.full (rw rows k))
    ]

-- ---- live replicas

-- one more number passes
pub live_more : (test : ℕ → Bool) (n live : ℕ) → live ≡ count_below n test → test n ≡ true → live + 1 ≡ count_below (n + 1) test
live_more test n live is passes =
    ap (λ k. k + 1) is ∙ ap (λ b. count_below n test + bit b) (sym passes) ∙ sym (ap (λ k. count_below k test) (add-one n))

-- it does not
pub live_same : (test : ℕ → Bool) (n live : ℕ) → live ≡ count_below n test → test n ≡ false → live ≡ count_below (n + 1) test
live_same test n live is fails =
    let none : live ≡ count_below n test + bit false = omega (arith, is) in
    none ∙ ap (λ b. count_below n test + bit b) (sym fails) ∙ sym (ap (λ k. count_below k test) (add-one n))

-- ---- floors

-- a cap raised to those who are away is the greater of both
pub capped : (cap away other : ℕ) → other ≡ (if nat_lt cap away then away else cap) → other ≡ max cap away
capped cap away other is = elim (cases_lt cap away) [
  | inl l ↦ is ∙ ap (λ (t : Bool). if t then away else cap) (lt-ltb cap away l) ∙ larger l
  | inr l ↦ is ∙ ap (λ (t : Bool). if t then away else cap) (le-ltb cap away l) ∙ other_larger l
]
  where
    larger : cap < away → away ≡ max cap away
    larger l = omega arith

    other_larger : away ≤ cap → cap ≡ max cap away
    other_larger l = omega arith

-- the rows so far, and the next
pub met_next : (f : ℕ → ShardRow) (xs ys : List Shard) (x : Shard) (n : ℕ) → map shard_row xs ≡ map f (range_with_len 0 n) → ys ≡ xs ++ x ∷ [] → shard_row x ≡ f n →
    map shard_row ys ≡ map f (range_with_len 0 (n + 1))
met_next f xs ys x n before now is =
    pushed_more f (map shard_row xs) (map shard_row ys) n (shard_row x) (ap (map shard_row) now ∙ map-append shard_row xs (x ∷ [])) is before

-- a configuration of the same servers, and of these shards
pub met_config : (old new : Setup) (servers : List Server) (shards : List Shard) (rows : List ShardRow) → new ≡ setup_of servers shards → map server_row servers ≡ old.servers →
    map shard_row shards ≡ rows → new ≡ record old { shards = rows }
met_config old new servers shards rows is same met =
    is ∙ ap (λ vs. record { servers = vs; shards = map shard_row shards }) same ∙ ap (λ ks. record { servers = old.servers; shards = ks }) met

-- ---- the place

-- what is opened is the place that roles give
pub placed_by : (config : Setup) (roles : RolesGiven) (down : ℕ → Bool) (most : ℕ) (cells : List NamedCell) (listed : List (Option ℕ)) (list : List ℕ) (limit : ℕ) →
    ((s v : ℕ) → cell_named cells s v ≡ cell_by_role (roles s v)) →
    listed ≡ map (primary_by (length config.servers) roles) (range_with_len 0 (length config.shards)) → list ≡ down_among (length config.servers) down → limit ≡ max most (length list) →
    opened_place (record { cells = cells; listed = listed; down = list; limit = limit }) ≡ place_by config roles down most
placed_by config roles down most cells listed list limit is lists downs limits =
    let of : (ℕ → ℕ → Cell) → List (Option ℕ) → List ℕ → ℕ → Place = λ fs ls ds n. record {
      cells = fs;
      last = λ s v. 0;
      down = λ v. list_any (λ x. x == v) ds;
      listed = entries_of None ls;
      version = λ s. 0;
      limit = n;
    } in
    ap (λ fs. of fs listed list limit) (fun_ext (λ s. fun_ext (λ v. is s v)))
    ∙ ap (λ ls. of (λ s v. cell_by_role (roles s v)) ls list limit) lists
    ∙ ap (λ n. of (λ s v. cell_by_role (roles s v)) (map (primary_by (length config.servers) roles) (range_with_len 0 (length config.shards))) list n) limits
    ∙ ap (λ ds. of (λ s v. cell_by_role (roles s v)) (map (primary_by (length config.servers) roles) (range_with_len 0 (length config.shards))) ds (max most (length ds))) downs

-- so it is of what was opened
pub placed_ok : {E : Type 0} (r : Result PlacementModel E) (config setup : Setup) (roles : RolesGiven) (down : ℕ → Bool) (most : ℕ) (place : Place) →
    IfOk r (λ p. place_of p ≡ place) → IfOk r (λ p. p.setup ≡ setup) → setup ≡ setup_met config roles down → place ≡ place_by config roles down most →
    IfOk r (IsPlacedBy config roles down most)
placed_ok (Ok p) config setup roles down most place there same met by = record { setup = same ∙ met; place = there ∙ by }
placed_ok (Err e) config setup roles down most place there same met by = tt

-- ---- who is down

or_false : (b : Bool) → b ≡ (b || false)
or_false true = refl
or_false false = refl

or_more : (a b c : Bool) → ((a || b) || c) ≡ (a || (b || (c || false)))
or_more true b c = refl
or_more false true c = refl
or_more false false true = refl
or_more false false false = refl

-- the next number is down, or not
next_among : (down : ℕ → Bool) (n v : ℕ) → list_any (λ x. x == v) (filter down (n ∷ [])) ≡ (down n && (n == v))
next_among down n v = by_test (down n) refl
  where
    by_test : (b : Bool) → down n ≡ b → list_any (λ x. x == v) (filter down (n ∷ [])) ≡ (down n && (n == v))
    by_test true e = rw e (sym (or_false (n == v)))
    by_test false e = rw e refl

-- whether a server is down, by the list of those that are
pub told_among : (down : ℕ → Bool) (n v : ℕ) → list_any (λ x. x == v) (down_among n down) ≡ (nat_lt v n && down v)
told_among down zero v = sym (ap (λ (t : Bool). t && down v) (le-ltb v 0 (omega arith)))
told_among down (suc n) v =
    ap (λ k. list_any (λ x. x == v) (down_among k down)) (sym (add-one n))
    ∙ ap (list_any (λ x. x == v)) (sym (kept_more down n))
    ∙ list_any-append (λ x. x == v) (down_among n down) (filter down (n ∷ []))
    ∙ ap₂ (λ a b. a || b) (told_among down n v) (next_among down n v)
    ∙ by_place (cases_eq n v)
    ∙ ap (λ k. nat_lt v k && down v) (add-one n)
  where
    or_none : (b : Bool) → (b || false) ≡ b
    or_none true = refl
    or_none false = refl

    and_true : (b : Bool) → (b && true) ≡ b
    and_true true = refl
    and_true false = refl

    and_none : (b : Bool) → (b && false) ≡ false
    and_none true = refl
    and_none false = refl

    by_place : (n ≡ v) ⊎ (n ≢ v) → ((nat_lt v n && down v) || (down n && (n == v))) ≡ (nat_lt v (n + 1) && down v)
    by_place (inl e) =
        ap (λ (t : Bool). (t && down v) || (down n && (n == v))) (le-ltb v n (omega (arith, e)))
        ∙ ap (λ (t : Bool). down n && t) (eq-eqb n v e) ∙ and_true (down n) ∙ ap down e
        ∙ sym (ap (λ (t : Bool). t && down v) (lt-ltb v (n + 1) (omega (arith, e))))
    by_place (inr e) =
        ap (λ (t : Bool). (nat_lt v n && down v) || (down n && t)) (ne_eqb n v e)
        ∙ ap (λ (t : Bool). (nat_lt v n && down v) || t) (and_none (down n)) ∙ or_none (nat_lt v n && down v)
        ∙ ap (λ (t : Bool). t && down v) (grind (arith, e))

-- no more are down than there are
pub few_among : (down : ℕ → Bool) (n : ℕ) → length (down_among n down) ≤ n
few_among down zero = omega arith
few_among down (suc n) =
    let more : length (down_among (suc n) down) ≡ length (down_among n down) + length (filter down (n ∷ [])) =
    ap (λ k. length (down_among k down)) (sym (add-one n)) ∙ ap length (sym (kept_more down n)) ∙ length-append (down_among n down) (filter down (n ∷ [])) in
    let one : length (filter down (n ∷ [])) ≤ 1 = by_test (down n) refl in
    omega (arith, few_among down n, more, one)
  where
    by_test : (b : Bool) → down n ≡ b → length (filter down (n ∷ [])) ≤ 1
    by_test true e = rw e (omega arith)
    by_test false e = rw e (omega arith)

-- nobody is called down yet
pub none_called : (r : ReopeningModel) (down : List Bool) → down ≡ map (is_still_down r) (range_with_len 0 (net_reopening r.ongoing).servers) → (v : ℕ) →
    v < (net_reopening r.ongoing).servers → slice_index_or down v false ≡ (is_still_down r v || false)
none_called r down is v l =
    ap (λ xs. get_or xs v false) is ∙ read_range (is_still_down r) (net_reopening r.ongoing).servers v false l ∙ or_false (is_still_down r v)

-- as many marks as servers
pub marks_count : (r : ReopeningModel) (down : List Bool) → down ≡ map (is_still_down r) (range_with_len 0 (net_reopening r.ongoing).servers) → length down ≡ (net_reopening r.ongoing).servers
marks_count r down is =
    ap length is ∙ length_map (is_still_down r) (range_with_len 0 (net_reopening r.ongoing).servers) ∙ length-range_with_len 0 (net_reopening r.ongoing).servers

-- one more is called down
pub called_more : (r : ReopeningModel) (a b : List Bool) (n x v : ℕ) (list : List ℕ) → list ≡ r.document.down.items → n < length list → x ≡ get_or list n x →
    slice_index_or a v false ≡ (is_still_down r v || list_any (λ k. is_the (slice_get r.servers k) v) (take n r.document.down.items)) →
    slice_index_or b v false ≡ (slice_index_or a v false || is_the (slice_get r.servers x) v) →
    slice_index_or b v false ≡ (is_still_down r v || list_any (λ k. is_the (slice_get r.servers k) v) (take (n + 1) r.document.down.items))
called_more r a b n x v list same l is before now =
    let p : ℕ → Bool = λ k. is_the (slice_get r.servers k) v in
    let downs = r.document.down.items in
    let within : n < length downs = subst (λ (ds : List ℕ). n < length ds) same l in
    now ∙ ap (λ t. t || p x) before ∙ or_more (is_still_down r v) (list_any p (take n downs)) (p x)
    ∙ ap (λ t. is_still_down r v || t) (sym (list_any-append p (take n downs) (x ∷ []))
    ∙ ap (list_any p) (ap (λ y. take n downs ++ y ∷ []) (is ∙ ap (λ ds. get_or ds n x) same) ∙ sym (take_more downs n x within)))

-- all that the document calls so
pub called_by_all : (r : ReopeningModel) (list : List ℕ) (n v : ℕ) → list ≡ r.document.down.items → length list ≤ n →
    (is_still_down r v || list_any (λ k. is_the (slice_get r.servers k) v) (take n r.document.down.items)) ≡ (is_still_down r v || is_called_down r v)
called_by_all r list n v same l =
    ap (λ xs. is_still_down r v || list_any (λ k. is_the (slice_get r.servers k) v) xs) (take_all n r.document.down.items (subst (λ (xs : List ℕ). length xs ≤ n) same l))

-- all are
pub called_all : (r : ReopeningModel) (down : List Bool) → length down ≡ (net_reopening r.ongoing).servers →
    ((v : ℕ) → v < (net_reopening r.ongoing).servers → slice_index_or down v false ≡ (is_still_down r v || is_called_down r v)) → is_down_in down ≡ is_down_next r
called_all r down count is = fun_ext (λ v. elim (cases_lt v (net_reopening r.ongoing).servers) [
  | inl l ↦ is v l ∙ sym (ap (λ (t : Bool). t && (is_still_down r v || is_called_down r v)) (lt-ltb v (net_reopening r.ongoing).servers l))
  | inr l ↦ get_or_past down v false (rw count l) ∙ sym (ap (λ (t : Bool). t && (is_still_down r v || is_called_down r v)) (le-ltb v (net_reopening r.ongoing).servers l))
])
