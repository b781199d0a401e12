-- Reopenings that begin under the same number the same.
use Rattle.std.proofs.Common.{◌≡◌, ◌∙◌, ◌<◌, ℕ, suc, zero, List, [], ◌∷◌, Option, Some, None, ap, ap₂, arith, get_or, length, map, refl, subst₂, sym}
use Rattle.std.specs.Prelude.{option_map, slice_get}
use Rattle.std.specs.Option.{unwrap_or}
use Rattle.std.proofs.lemmas.Option.{none-some, slice_get-get_or, slice_get_within}
use Rattle.sm_placement.proofs.ConfigLemmas.{length_map}
use Rattle.sm_placement.proofs.NamedLemmas.{server_named_at, shard_named_at}
use Rattle.sm_placement.specs.Place.{Place}
use Rattle.sm_placement.specs.Setup.{IsSetup, ServerRow, Setup, ShardRow, names_of_servers, names_of_shards, no_server, no_shard, server_named, shard_named}
use Rattle.laws_network.specs.Reopening.{Reopen, Reopening, entered}
use Rattle.sm_plan_text.specs.Documents.{DocumentModel}
use Rattle.sm_plan_text.specs.Reading.{rows_of}
use Rattle.sm_driver.specs.Orders.{epoch_base}
use Rattle.sm_reopening.specs.States.{is_left_out, says_lost}
use Rattle.sm_reopening.specs.Settles.{settled_of}
use Rattle.sm_reopening.specs.declared.party.Membership.{Membership}
use Rattle.smpland_reopening.specs.Begun.{members_under, roles_by}
use Rattle.smpland_reopening.specs.Numbers.{AreNumbered, numbered_under}
use Rattle.smpland_reopening.specs.Reopening.{ReopeningModel}
use Rattle.smpland_reopening.proofs.Numbers.{server_name_at, shard_name_at}
use Rattle.smpland_session.specs.Changes.{BeginsFresh, IsBegunOver}
use Rattle.laws_session.specs.Alike.{AreReopeningsAlike}
use Rattle.laws_session.proofs.Commands.{one_value}
use Rattle.laws_session.proofs.Ongoing.{ap₃}

-- lists that agree at each place are one
same_by_places : (a b : List ℕ) → length b ≡ length a → ((k : ℕ) → k < length a → slice_get b k ≡ slice_get a k) → b ≡ a
same_by_places [] [] count at = refl
same_by_places [] (y ∷ ys) count at = absurd (omega (arith, count))
same_by_places (x ∷ xs) [] count at = absurd (omega (arith, count))
same_by_places (x ∷ xs) (y ∷ ys) count at =
    let first : y ≡ x = one_value (Some x) x y refl (sym (at 0 (omega arith))) in
    let counts : length ys ≡ length xs = omega (arith, count) in
    ap₂ (λ (z : ℕ) (zs : List ℕ). z ∷ zs) first (same_by_places xs ys counts (λ k l. at (suc k) (omega (arith, l))))

-- servers whose names are apart have one number each
apart_servers : (setup : Setup) → IsSetup setup → (u v : ℕ) → u < length (names_of_servers setup) → v < length (names_of_servers setup) →
    slice_get (names_of_servers setup) u ≡ slice_get (names_of_servers setup) v → v ≡ u
apart_servers setup is u v hu hv e =
    let lu : u < length setup.servers = omega (arith, hu, length_map (λ (r : ServerRow). r.name) setup.servers) in
    let lv : v < length setup.servers = omega (arith, hv, length_map (λ (r : ServerRow). r.name) setup.servers) in
    let same : (get_or setup.servers u no_server).name ≡ (get_or setup.servers v no_server).name =
    ap (λ o. unwrap_or o []) (sym (server_name_at setup u lu) ∙ e ∙ server_name_at setup v lv) in
    ap (λ o. unwrap_or o v)
    (sym (server_named_at setup v (get_or setup.servers v no_server) is lv refl) ∙ ap (server_named setup) (sym same)
    ∙ server_named_at setup u (get_or setup.servers u no_server) is lu refl)

-- and so have shards
apart_shards : (setup : Setup) → IsSetup setup → (u v : ℕ) → u < length (names_of_shards setup) → v < length (names_of_shards setup) →
    slice_get (names_of_shards setup) u ≡ slice_get (names_of_shards setup) v → v ≡ u
apart_shards setup is u v hu hv e =
    let lu : u < length setup.shards = omega (arith, hu, length_map (λ (r : ShardRow). r.name) setup.shards) in
    let lv : v < length setup.shards = omega (arith, hv, length_map (λ (r : ShardRow). r.name) setup.shards) in
    let same : (get_or setup.shards u no_shard).name ≡ (get_or setup.shards v no_shard).name =
    ap (λ o. unwrap_or o []) (sym (shard_name_at setup u lu) ∙ e ∙ shard_name_at setup v lv) in
    ap (λ o. unwrap_or o v)
    (sym (shard_named_at setup v (get_or setup.shards v no_shard) is lv refl) ∙ ap (shard_named setup) (sym same)
    ∙ shard_named_at setup u (get_or setup.shards u no_shard) is lu refl)

-- so the numbers of names are determined
one_numbers : (names some : List (List ℕ)) (a b : List ℕ) →
    ((u v : ℕ) → u < length names → v < length names → slice_get names u ≡ slice_get names v → v ≡ u) → AreNumbered names a some → AreNumbered names b some → b ≡ a
one_numbers names some a b apart x y = same_by_places a b (y.count ∙ sym x.count) at
  where
    at : (k : ℕ) → k < length a → slice_get b k ≡ slice_get a k
    at k l =
        let here : slice_get some k ≡ Some (get_or some k []) = slice_get-get_or some k [] (omega (arith, l, x.count)) in
        let m : slice_get a k ≡ Some (get_or a k 0) = slice_get-get_or a k 0 l in
        let n : slice_get b k ≡ Some (get_or b k 0) = slice_get-get_or b k 0 (omega (arith, l, x.count, y.count)) in
        let xm = x.named k (get_or a k 0) m in
        let yn = y.named k (get_or b k 0) n in
        n
        ∙ ap (λ (i : ℕ). Some i)
        (apart (get_or a k 0) (get_or b k 0) (slice_get_within names (get_or a k 0) (get_or some k []) (xm ∙ here))
        (slice_get_within names (get_or b k 0) (get_or some k []) (yn ∙ here)) (xm ∙ sym yn))
        ∙ sym m

-- Reopenings are alike that begin over the same, under the same document, without the same servers.
pub fresh_alike : (m n a b : Setup) (p q : Place) (x y : Reopening) (lost gone : List (List ℕ)) (new next : ReopeningModel) → n ≡ m → b ≡ a → q ≡ p → y ≡ x → gone ≡ lost →
    IsBegunOver x m lost new → IsBegunOver y n gone next → BeginsFresh m a p new → BeginsFresh n b q next →
    next.journal ≡ new.journal → next.epoch ≡ new.epoch → rows_of next.document ≡ rows_of new.document → next.permits ≡ new.permits → next.kept ≡ new.kept → AreReopeningsAlike new next
fresh_alike m n a b p q x y lost gone new next numbered setup place before names one two fresh also journal epoch document permits kept = record {
  ongoing = record {
    reopening =
        two.reopening
        ∙ ap₂ (λ (e : ℕ) (r : Reopening). entered (Reopen (epoch_base e) (length next.numbering.servers) (says_lost (members_under next.numbering next.document.config gone))) r) epoch before
        ∙ ap₂ (λ (s : Setup) (ms : List Membership). entered (Reopen (epoch_base new.epoch) (length s.servers) (says_lost ms)) x) numbering members
        ∙ sym one.reopening;
    copies = also.recorded.copies ∙ sym fresh.recorded.copies;
    rest = record {
      left_out = two.left_out ∙ ap is_left_out members ∙ sym one.left_out;
      setup = also.recorded.setup ∙ setup ∙ sym fresh.recorded.setup;
      place = also.recorded.place ∙ place ∙ sym fresh.recorded.place;
      shards = also.recorded.shards ∙ ap (λ (s : Setup). length s.shards) numbering ∙ sym fresh.recorded.shards;
    };
  };
  journal = journal;
  epoch = epoch;
  document = document;
  numbering = numbering;
  servers = servers;
  shards = shards;
  roles =
      also.numbers.roles
      ∙ ap₃ (λ (s : Setup) (ks vs : List ℕ). roles_by s ks vs next.document.cells.items) numbering shards servers
      ∙ ap (λ (d : DocumentModel). roles_by new.numbering new.shards new.servers d.cells) document
      ∙ sym fresh.numbers.roles;
  permits = permits;
  kept = kept;
  next = ap (option_map settled_of) (also.unconfirmed ∙ sym fresh.unconfirmed);
}
  where
    config : next.document.config ≡ new.document.config
    config = ap (λ (d : DocumentModel). d.setup) document

    numbering : next.numbering ≡ new.numbering
    numbering = also.numbers.numbering ∙ ap₂ (λ (s d : Setup). numbered_under s d) numbered config ∙ sym fresh.numbers.numbering

    members : members_under next.numbering next.document.config gone ≡ members_under new.numbering new.document.config lost
    members = ap₃ (λ (s d : Setup) (ns : List (List ℕ)). members_under s d ns) numbering config names

    servers : next.servers ≡ new.servers
    servers = one_numbers (names_of_servers new.numbering) (names_of_servers new.document.config) new.servers next.servers
        (apart_servers new.numbering fresh.numbers.apart) fresh.numbers.servers
        (subst₂ (λ (s d : Setup). AreNumbered (names_of_servers s) next.servers (names_of_servers d)) numbering config also.numbers.servers)

    shards : next.shards ≡ new.shards
    shards = one_numbers (names_of_shards new.numbering) (names_of_shards new.document.config) new.shards next.shards
        (apart_shards new.numbering fresh.numbers.apart) fresh.numbers.shards
        (subst₂ (λ (s d : Setup). AreNumbered (names_of_shards s) next.shards (names_of_shards d)) numbering config also.numbers.shards)
