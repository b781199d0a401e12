-- The driver that comes of a reopening.
use Rattle.std.proofs.Common.{◌≡◌, ◌∙◌, ◌<◌, ◌&&◌, ℕ, Bool, true, false, List, Option, Some, None, is_some, not, length, map, get_or, replicate, slice_get, sym, ap, subst, refl, arith, inl, inr, [], true≢false}
use Rattle.std.specs.List.{range_with_len}
use Rattle.std.specs.Option.{option_or, unwrap_or}
use Rattle.std.proofs.lemmas.Bool.{cases_lt}
use Rattle.std.proofs.lemmas.List.{get_or-map, get_or_past}
use Rattle.std.proofs.lemmas.List.FromFn.{get_or-map-range_with_len}
use Rattle.std.proofs.lemmas.Option.{get_or_from_slice_get, none-some, slice_get-get_or, slice_get_within}
use Rattle.sm_placement.proofs.ConfigLemmas.{length_map}
use Rattle.sm_placement.proofs.NamedLemmas.{server_named_at}
use Rattle.sm_placement.specs.Layout.{PlacementModel, place_of}
use Rattle.sm_placement.specs.Setup.{IsSetup, Setup, names_of_servers, no_server, server_named}
use Rattle.sm_protocol.specs.State.{opened}
use Rattle.laws_network.specs.Reopening.{Server, Settlement}
use Rattle.sm_reopening.specs.Ongoing.{net_reopening}
use Rattle.sm_driver.specs.Carried.{was_carried}
use Rattle.sm_driver.specs.Driver.{DriverModel, base}
use Rattle.sm_driver.specs.Orders.{epoch_base}
use Rattle.sm_driver.specs.Permits.{AreEarlierPermits, opening_permit, permit_of}
use Rattle.smpland_reopening.specs.Eased.{IsEased}
use Rattle.smpland_reopening.specs.InForce.{IsInForce, IsOpenedOver}
use Rattle.smpland_reopening.specs.Reopening.{IsNextOpening, IsReopening, ReopeningModel}
use Rattle.smpland_reopening.proofs.Numbers.{server_name_at}
use Rattle.smpland_reopening.proofs.Renumbered.{server_place}

-- what is read of a list that was made from the numbers of servers
read_mapped : {A : Type 0} (f : ℕ → A) (servers : List ℕ) (v j : ℕ) (none : A) → slice_get servers v ≡ Some j → get_or (map f servers) v none ≡ f j
read_mapped f servers v j none e = get_or-map f servers v j none (slice_get_within servers v j e) ∙ ap f (get_or_from_slice_get servers v j j e)

-- servers of a configuration are apart by their names
apart_by_name : (setup : Setup) (u v : ℕ) → IsSetup setup → u < length setup.servers → v < length setup.servers → slice_get (names_of_servers setup) u ≡ slice_get (names_of_servers setup) v → u ≡ v
apart_by_name setup u v is hu hv e =
    let same = ap (λ o. unwrap_or o []) (sym (server_name_at setup u hu) ∙ e ∙ server_name_at setup v hv) in
    ap (λ o. unwrap_or o u) (sym (server_named_at setup u (get_or setup.servers u no_server) is hu refl) ∙ ap (server_named setup) same ∙ server_named_at setup v (get_or setup.servers v no_server) is hv refl)

-- a server whose permit is kept has a number
has_number : (permits : List (Option ℕ)) (servers : List ℕ) (v permit : ℕ) → permit_of (map (permit_of permits) servers) v ≡ Some permit →
    (j : ℕ) × (slice_get servers v ≡ Some j) × (permit_of permits j ≡ Some permit)
has_number permits servers v permit e = elim (cases_lt v (length servers)) [
  | inl within ↦
      let j = get_or servers v 0 in
      let there = slice_get-get_or servers v 0 within in
      (j, there, sym (read_mapped (permit_of permits) servers v j None there) ∙ e)
  | inr past ↦ absurd (none-some permit (sym (get_or_past (map (permit_of permits) servers) v None (omega (arith, past, length_map (permit_of permits) servers))) ∙ e))
]

-- permits that are kept are earlier ones
pub kept_earlier : (r : ReopeningModel) (kept : List (Option ℕ)) → IsReopening r → IsSetup r.document.config → kept ≡ map (permit_of r.permits) r.servers → AreEarlierPermits (epoch_base r.epoch) kept
kept_earlier r kept is setup e = subst (λ ps. AreEarlierPermits (epoch_base r.epoch) ps) (sym e) (record {
  earlier = λ v permit h. let there = has_number r.permits r.servers v permit h in is.permits.earlier there.0 permit there.2;
  apart = λ u v permit h k.
      let hu = has_number r.permits r.servers u permit h in
      let hv = has_number r.permits r.servers v permit k in
      let same = is.permits.apart hu.0 hv.0 permit hu.2 hv.2 in
      apart_by_name r.document.config u v setup (server_place r u hu.0 is hu.1) (server_place r v hv.0 is hv.1)
      (sym (is.named_servers.named u hu.0 hu.1) ∙ ap (λ n. slice_get (names_of_servers r.numbering) n) same ∙ is.named_servers.named v hv.0 hv.1);
})

-- what is read of a list over the numbers from 0 on
pub read_range : {A : Type 0} (f : ℕ → A) (n v : ℕ) (none : A) → v < n → get_or (map f (range_with_len 0 n)) v none ≡ f v
read_range f n v none h = get_or-map-range_with_len f 0 n v v none h (omega arith)

-- what is there
pub some_of : {A : Type 0} (o : Option A) → is_some o ≡ true → (x : A) × (o ≡ Some x)
some_of None h = absurd (true≢false (sym h))
some_of (Some x) h = (x, refl)

first_given : (x : Option ℕ) (permit : ℕ) (other : Option ℕ) → x ≡ Some permit → option_or x other ≡ Some permit
first_given x permit other e = ap (λ o. option_or o other) e

-- the driver is that of the settlement
pub in_force : (r : ReopeningModel) (s : Settlement) (p : PlacementModel) (d : DriverModel) (kept : List (Option ℕ)) (marks : List Bool) → IsReopening r → r.next ≡ Some p →
    (net_reopening r.ongoing).settlement ≡ Some s → kept ≡ map (permit_of r.permits) r.servers → marks ≡ map (λ v. not (is_some ((net_reopening r.ongoing).told (Server v)))) r.servers →
    IsOpenedOver p r.document.log r.journal r.epoch kept marks d → IsInForce r s d
in_force r s p d kept marks is next settled keeps mark opens =
    let n : IsNextOpening r.document r.shards r.servers s p = is.next p s next settled in
    let down = λ (v j : ℕ) (server : slice_get r.servers v ≡ Some j). ap (λ w. w.place.down v) opens.state ∙ n.same.down v j server in
    record {
      state = opens.state ∙ ap (λ w. opened w.sizes w.place r.document.log) (sym opens.state);
      journal = opens.journal_kept;
      epoch = opens.epoch_opened;
      fence = opens.fence ∙ ap epoch_base opens.epoch_opened ∙ sym is.base;
      setup = subst (IsEased r.document.config) (sym opens.setup) n.same.eased;
      cells = λ k v i j shard server. ap (λ w. w.place.cells k v) opens.state ∙ n.same.cells k v i j shard server;
      down = down;
      permits = λ v j permit server held is_down.
          ap (λ ps. permit_of ps v) opens.given
          ∙ read_range (opening_permit (base d) kept (place_of p).down) (length p.setup.servers) v None (within v j server)
          ∙ given v (n.same.down v j server ∙ is_down) (ap (λ ps. permit_of ps v) keeps ∙ read_mapped (permit_of r.permits) r.servers v j None server ∙ held);
      carried = λ v j server.
          ap (λ ms. was_carried ms v) opens.carried
          ∙ read_range (λ u. was_carried marks u && (place_of p).down u) (length p.setup.servers) v false (within v j server)
          ∙ ap (λ b. b && (place_of p).down v) (ap (λ ms. was_carried ms v) mark ∙ read_mapped (λ u. not (is_some ((net_reopening r.ongoing).told (Server u)))) r.servers v j false server)
          ∙ ap (λ b. not (is_some ((net_reopening r.ongoing).told (Server j))) && b) (n.same.down v j server);
      restores = opens.restored ∙ ap (λ n. replicate n None) as_many;
      copies = opens.copies ∙ ap (λ n. replicate n 1) (is.next p s next settled).same.eased.shards.count;
    }
  where
    as_many : length p.setup.servers ≡ length r.document.config.servers
    as_many = ap length (is.next p s next settled).same.eased.servers

    within : (v j : ℕ) → slice_get r.servers v ≡ Some j → v < length p.setup.servers
    within v j server = omega (arith, server_place r v j is server, as_many)

    given : (v : ℕ) {permit : ℕ} → (place_of p).down v ≡ true → permit_of kept v ≡ Some permit → opening_permit (base d) kept (place_of p).down v ≡ Some permit
    given v {permit} is_down has = rw is_down (first_given (permit_of kept v) permit _ has)
