-- With the map's owner too, of each plan that isn't done some stream can go on, and all plans can be finished from wherever events lead.
use Rattle.std.proofs.Common.{◌≡◌, ℕ, zero, suc, ◌+◌, ◌<◌, ◌≤◌, refl, sym, ap, ◌∙◌, inl, inr, subst, arith, not, Bool, true, false, Option, Some, None, List, [], ◌∷◌, ◌++◌, length}
use Rattle.std.specs.Prelude.{◌==◌, if◌then◌else◌, map, slice_get}
use Rattle.std.specs.List.{AllByRecursion}
use Rattle.std.specs.Option.{option_to_list}
use Rattle.std.proofs.lemmas.Bool.{and_from, cases_Bool, eq-eqb}
use Rattle.sm_placement.specs.Setup.{Setup, Sizes, sizes_of}
use Rattle.sm_placement.specs.Place.{Place, entry_at}
use Rattle.sm_placement.specs.Sums.{any_below}
use Rattle.sm_verifier.specs.Order.{code_at}
use Rattle.sm_verifier.proofs.OnePlace.{some_below}
use Rattle.sm_protocol.specs.State.{State, is_begun, is_running, is_unfinished, plan_at, progress_of, stream_count, stream_id}
use Rattle.sm_protocol.specs.Happens.{Step}
use Rattle.sm_protocol.specs.Laws.{AreDone, IsOpening}
use Rattle.sm_protocol.proofs.Keeping.{is_begun_true}
use Rattle.laws_network.specs.Net.{Control, Net, Quiet, StreamId, comes, net_run}
use Rattle.laws_network.proofs.Counted.{net_opened}
use Rattle.laws_network.specs.Laws.{HasMovedOn, round_trip}
use Rattle.laws_network.specs.World.{Inner, Propose, Publication, Store, Stored, World, WorldEvent, acknowledged, by_place, is_answered_by, is_withheld, kept_by, publication_for, publication_now, publication_of, within, world_comes, world_run}
use Rattle.laws_network.specs.WorldLaws.{AllWorldFit, CanFinishOnward, CanGoOnward, CanReopenOnward, EachWorld, IsWorldMove, IsWorldOpening, IsWorldReached, SomeCanGoOnward, WorldFits, map_trip}
use Rattle.laws_network.proofs.Finish.{GoesOn, further, left, left_drops, move_fits, move_goes, none_below, still}
use Rattle.laws_network.proofs.Lists.{all_append, all_map}
use Rattle.laws_network.proofs.Onward.{slice_get_push}
use Rattle.laws_network.proofs.Shown.{IsMet, net_is_reached, net_kept, reached_kept, some_where}
use Rattle.laws_network.proofs.Publishing.{IsPublishing}
use Rattle.laws_network.proofs.Numbered.{versions_logged}
use Rattle.sm_protocol.proofs.LogRoom.{begun_parts}
use Rattle.laws_network.proofs.Raised.{can_reopen, first_opening, record_is_reached, some_can_go_on}

-- ---- a publication's round trip

module _ (x : World) (p : Publication) (current : publication_of x.net.base x.net.w p.stream ≡ Some p) where
  abbrev sent : World
  sent = record x { published = x.published ++ p ∷ [] }

  is_sent : (world_comes x (Propose p.stream)).1 ≡ sent
  is_sent = ap (λ o. let z : World = record x { published = x.published ++ option_to_list o } in z) current

  is_stored : (world_comes sent (Store (length x.published))).1 ≡ kept_by sent p
  is_stored = ap (λ o. (by_place sent (λ y q. (Quiet, kept_by y q)) o).1) (slice_get_push x.published p)

  answers : is_answered_by p (publication_of x.net.base x.net.w p.stream) ≡ true
  answers = ap (is_answered_by p) current ∙ and_from (p.shard == p.shard) (p.entry.version == p.entry.version) (eq-eqb p.shard p.shard refl) (eq-eqb p.entry.version p.entry.version refl)

  is_recorded : (world_comes (kept_by sent p) (Stored (length x.stored))).1.net ≡ (comes x.net (Control (Step p.stream))).1
  is_recorded =
      ap (λ o. (by_place (kept_by sent p) acknowledged o).1.net) (slice_get_push x.stored p)
      ∙ ap (λ b. (if b then within (kept_by sent p) (comes x.net (Control (Step p.stream))) else (Quiet, kept_by sent p)).1.net) answers

  -- it does what a step of the controller alone would do
  pub trip_steps : (world_run (map_trip x p.stream) x).net ≡ (comes x.net (Control (Step p.stream))).1
  trip_steps =
      ap (λ y. (world_comes (world_comes y (Store (length x.published))).1 (Stored (length x.stored))).1.net) is_sent
      ∙ ap (λ y. (world_comes y (Stored (length x.stored))).1.net) is_stored
      ∙ is_recorded

-- a stream that can go on alone, or would step over a publication
alone : (x : World) (id : StreamId) → is_running x.net.w id ≡ true → HasMovedOn x.net.w id (net_run (Control (Step id) ∷ []) x.net).w → CanGoOnward x id
alone x id runs m = elim (cases_Bool (is_withheld x.net (Control (Step id)))) [
  | inr f ↦ inl (subst (λ b. HasMovedOn x.net.w id (if b then (Quiet, x) else within x (comes x.net (Control (Step id)))).1.net.w) (sym f) m)
  | inl t ↦
      let o = some_where (publication_now x.net.w id) t in
      let p : Publication = record { stream = id; shard = o.0.0; entry = record { server = o.0.1; version = x.net.base + suc (x.net.w.place.version o.0.0) } } in
      let current : publication_of x.net.base x.net.w id ≡ Some p =
      ap (λ b. if b then publication_for x.net.base x.net.w id (publication_now x.net.w id) else None) runs ∙ ap (publication_for x.net.base x.net.w id) o.1 in
      inr (inr (subst (λ (n : Net). HasMovedOn x.net.w id n.w) (sym (trip_steps x p current)) m))
]

-- some stream of each unfinished plan can go on, publications as orders
pub some_can_go_onward : EachWorld SomeCanGoOnward
some_can_go_onward setup x r k l unfinished =
    let reached = net_is_reached setup x r in
    let s = some_can_go_on setup x.net reached k l unfinished in
    let id = stream_id k s.0 in
    let runs : is_running x.net.w id ≡ true = and_from (is_begun x.net.w id) (not (progress_of x.net.w id).done) (is_begun_true x.net.w id (record { plan = l; stream = s.1 })) (ap not s.2) in (
      s.0,
      s.1,
      s.2,
      elim s.3 [
        | inl c ↦ alone x id runs c
        | inr c ↦ inr (inl c)
      ],
    )

-- ---- to the end

world_goes : (x : World) (e : WorldEvent) → IsWorldMove e → GoesOn x.net.w (world_comes x e).1.net.w
world_goes x (Inner e) m = go (is_withheld x.net e)
  where
    go : (b : Bool) → GoesOn x.net.w (if b then (Quiet, x) else within x (comes x.net e)).1.net.w
    go true = still x.net.w
    go false = move_goes x.net e m
world_goes x (Propose id) m = still x.net.w
world_goes x (Store j) m = go (slice_get x.published j)
  where
    go : (o : Option Publication) → GoesOn x.net.w (by_place x (λ y p. (Quiet, kept_by y p)) o).1.net.w
    go None = still x.net.w
    go (Some p) = still x.net.w
world_goes x (Stored j) m = go (slice_get x.stored j)
  where
    by_test : (p : Publication) (b : Bool) → GoesOn x.net.w (if b then within x (comes x.net (Control (Step p.stream))) else (Quiet, x)).1.net.w
    by_test p true = move_goes x.net (Control (Step p.stream)) tt
    by_test p false = still x.net.w

    go : (o : Option Publication) → GoesOn x.net.w (by_place x acknowledged o).1.net.w
    go None = still x.net.w
    go (Some p) = by_test p (is_answered_by p (publication_of x.net.base x.net.w p.stream))

all_go : (es : List WorldEvent) (x : World) → AllByRecursion IsWorldMove es → GoesOn x.net.w (world_run es x).net.w
all_go [] x all = still x.net.w
all_go (e ∷ es) x all = further x.net.w (world_comes x e).1.net.w (world_run es (world_comes x e).1).net.w (world_goes x e all.0) (all_go es (world_comes x e).1 all.1)

world_fits : (c : Sizes) (e : WorldEvent) → IsWorldMove e → WorldFits c e
world_fits c (Inner e) m = move_fits c e m
world_fits c (Propose id) m = tt
world_fits c (Store j) m = tt
world_fits c (Stored j) m = tt

all_fits : (c : Sizes) (es : List WorldEvent) → AllByRecursion IsWorldMove es → AllWorldFit c es
all_fits c [] all = tt
all_fits c (e ∷ es) all = (world_fits c e all.0, all_fits c es all.1)

world_append : (es fs : List WorldEvent) (x : World) → world_run (es ++ fs) x ≡ world_run fs (world_run es x)
world_append [] fs x = refl
world_append (e ∷ es) fs x = world_append es fs (world_comes x e).1

world_on : (setup : Setup) (x : World) (es : List WorldEvent) → IsWorldReached setup x → AllByRecursion IsWorldMove es → IsWorldReached setup (world_run es x)
world_on setup x es r all = record {
  start = r.start;
  opening = r.opening;
  events = r.events ++ es;
  fit = all_append (WorldFits (sizes_of setup)) r.events es r.fit (all_fits (sizes_of setup) es all);
  state = ap (world_run es) r.state ∙ sym (world_append r.events es r.start);
}

record IsGoing (setup : Setup) (x : World) : Type 0 where
  pub events : List WorldEvent
  pub moves : AllByRecursion IsWorldMove events
  pub fewer : left (world_run events x).net.w < left x.net.w

going : (setup : Setup) (x : World) → IsWorldReached setup x → (k : ℕ) → k < length x.net.w.plans → is_unfinished x.net.w k ≡ true → IsGoing setup x
going setup x r k l unfinished =
    let s = some_can_go_onward setup x r k l unfinished in
    let within_code = (((net_kept setup x.net (net_is_reached setup x r)).plans k l).streams s.0 s.1).within in
    elim s.3 [
      | inl c ↦ on (Inner (Control (Step (stream_id k s.0))) ∷ []) (tt, tt) s.0 s.1 within_code s.2 c
      | inr (inl c) ↦ on (map Inner (round_trip x.net (stream_id k s.0))) (tt, (tt, (tt, tt))) s.0 s.1 within_code s.2 c
      | inr (inr c) ↦ on (map_trip x (stream_id k s.0)) (tt, (tt, (tt, tt))) s.0 s.1 within_code s.2 c
    ]
  where
    on : (es : List WorldEvent) → AllByRecursion IsWorldMove es → (i : ℕ) → i < stream_count x.net.w k → (x.net.w.progress k i).at ≤ length (code_at (plan_at x.net.w k) i) → (x.net.w.progress k i).done ≡ false → HasMovedOn x.net.w (stream_id k i) (world_run es x).net.w → IsGoing setup x
    on es all i m w d h = record { events = es; moves = all; fewer = left_drops x.net.w (world_run es x).net.w (all_go es x all) k i l m w d h }

finishes : (setup : Setup) (m : ℕ) (x : World) → IsWorldReached setup x → left x.net.w ≤ m → CanFinishOnward setup x
finishes setup zero x r l = elim (cases_Bool (any_below (length x.net.w.plans) (is_unfinished x.net.w))) [
  | inr e ↦ ([], tt, none_below (length x.net.w.plans) (is_unfinished x.net.w) e)
  | inl e ↦ let k = some_below (length x.net.w.plans) (is_unfinished x.net.w) e in absurd (let o = (going setup x r k.0 k.1 k.2).fewer in omega arith)
]
finishes setup (suc m) x r l = elim (cases_Bool (any_below (length x.net.w.plans) (is_unfinished x.net.w))) [
  | inr e ↦ ([], tt, none_below (length x.net.w.plans) (is_unfinished x.net.w) e)
  | inl e ↦
      let k = some_below (length x.net.w.plans) (is_unfinished x.net.w) e in
      let o = going setup x r k.0 k.1 k.2 in
      let f = o.fewer in
      let rest = finishes setup m (world_run o.events x) (world_on setup x o.events r o.moves) (omega arith) in
      (o.events ++ rest.0, all_append IsWorldMove o.events rest.0 o.moves rest.1, subst (λ (y : World). AreDone y.net.w) (sym (world_append o.events rest.0 x)) rest.2)
]

-- steps, orders, publications and answers lead on to where all plans are done
pub can_finish_onward : EachWorld CanFinishOnward
can_finish_onward setup x r = finishes setup (left x.net.w) x r (omega arith)

-- ---- another controller

-- where all plans are done, no stream publishes
pub none_publishes : (w : State) → AreDone w → (id : StreamId) (s : ℕ) (server : Option ℕ) → IsPublishing w id s server → ⊥
none_publishes w done id s server p =
    let b = begun_parts w id p.before.begun in
    let u = none_below (stream_count w id.plan) (λ i. not (w.progress id.plan i).done) (done id.plan b.0) id.stream b.1 in
    let z : not (progress_of w id).done ≡ true = ap not p.before.running in
    absurd (cc)

-- another controller can open where all plans are done, old messages still about
pub can_reopen_onward : EachWorld CanReopenOnward
can_reopen_onward setup x r done place room opening cells servers versions =
    let k = reached_kept setup x r in
    let early = versions_logged setup x.net.w (record_is_reached setup x.net k.net) in
    record {
      net = can_reopen setup x.net k.net done place room opening cells;
      servers = servers;
      versions = λ s. elim (k.entries s) [
        | inl a ↦ (let b = a.version in let c = early s in let d = versions s in omega arith)
        | inr a ↦ absurd (none_publishes x.net.w done a.stream s a.server a.publishing)
      ];
      published = all_map (IsMet x) (λ p. p.entry.version ≤ (x.shown p.shard).version) x.published (λ p m. elim m [
        | inl c ↦ absurd (none_publishes x.net.w done p.stream p.shard p.entry.server c.publishing)
        | inr g ↦ g.shown
      ]) k.published;
      stored = k.stored;
    }

-- before any event, where nothing was ever sent and the map shows the opening's entries, is an opening
pub first_world_opening : (setup : Setup) (p : Place) (room : ℕ) → IsOpening setup p room →
    IsWorldOpening setup (record { net = net_opened (sizes_of setup) p room; shown = entry_at p; published = []; stored = [] })
first_world_opening setup p room o = record {
  net = first_opening setup p room o;
  servers = λ s. refl;
  versions = λ s. omega arith;
  published = tt;
  stored = tt;
}
