-- Wherever events lead, the fleet is as its shade.
use Rattle.std.proofs.Common.{◌≡◌, ℕ, zero, suc, ◌≤◌, refl, sym, ap, inr, subst, arith, Bool, true, false, Option, Some, None, List, [], ◌∷◌, ◌++◌, length}
use Rattle.std.specs.Prelude.{if◌then◌else◌, map, option_map, slice_get}
use Rattle.std.specs.List.{AllByRecursion}
use Rattle.std.specs.Option.{option_to_list}
use Rattle.std.proofs.lemmas.Bool.{and_parts}
use Rattle.sm_placement.specs.Setup.{Setup, sizes_of}
use Rattle.sm_reservation.specs.declared.stream_id.StreamId.{StreamId}
use Rattle.sm_protocol.specs.State.{State, is_begun, is_running, opened}
use Rattle.sm_protocol.proofs.LogRoom.{begun_parts}
use Rattle.sm_agent.specs.declared.request.Request.TheVariants.{Direct, Passed}
use Rattle.laws_network.specs.World.{Publication, publication_of}
use Rattle.laws_network.specs.Controller.{JournalEntry, Letter, Notice, letter_of, notice_of}
use Rattle.laws_network.specs.Fleet.{Abandon, Commit, End, Fleet, FleetEvent, FleetOutcome, Forget, HearAsk, HearOwner, HearServer, Judge, Make, Open, Publish, Receive, Recover, Seal, SendOrder, SendPublication, Serve, by_message, controller, earlier, fleet_comes, fleet_run, held_cells}
use Rattle.laws_network.specs.FleetLaws.{AllFleetFit, FleetFits, IsFleetOpening, IsFleetReached}
use Rattle.laws_network.proofs.Behind.{IsBehind, present_engages}
use Rattle.laws_network.proofs.Commands.{answered_shadow, ended_shadow, epoch_shadow, made_shadow, restored_shadow, stored_shadow}
use Rattle.laws_network.proofs.Deliveries.{abandon_shadow, commit_shadow, letter_shadow, notice_shadow, request_shadow, seal_shadow}
use Rattle.laws_network.proofs.Lists.{all_append, all_at, all_map}
use Rattle.laws_network.proofs.Shade.{IsAmong}
use Rattle.laws_network.proofs.Shadow.{IsLetter, IsRestore, IsShadow, Shade, letter_says, notice_says, ticket_of, world_by}
use Rattle.laws_network.proofs.Slots.{loss_shadow, restore_shadow}

-- ---- an opening

-- what holds of each place holds of all
all_places : {A : Type 0} (P : A → Type 0) (xs : List A) → ((k : ℕ) (x : A) → slice_get xs k ≡ Some x → P x) → AllByRecursion P xs
all_places P [] h = tt
all_places P (x ∷ xs) h = (h zero x refl, all_places P xs (λ k y e. h (suc k) y e))

get_map : {A B : Type 0} (g : A → B) (xs : List A) (k : ℕ) (x : A) → slice_get xs k ≡ Some x → slice_get (map g xs) k ≡ Some (g x)
get_map g [] k x e = absurd (cc)
get_map g (y ∷ ys) zero x e = ap (option_map g) e
get_map g (y ∷ ys) (suc k) x e = get_map g ys k x e

-- nothing runs in a record that was just opened
none_runs : (w : State) → length w.plans ≡ 0 → (id : StreamId) → is_begun w id ≡ true → ⊥
none_runs w n id b = let l = (begun_parts w id b).0 in absurd (omega arith)

module _ (setup : Setup) (f : Fleet) (start : IsFleetOpening setup (record f { journal = [] })) where
  abbrev empty : Fleet
  empty = record f { journal = [] }

  abbrev shade : Shade
  shade = record {
    last = start.last;
    sent = map (λ l. l.order) f.sent;
    answers = f.answers;
    passes = map ticket_of f.passes;
    published = map (λ n. n.publication) f.published;
    stored = f.stored;
  }

  w_is : f.start.w ≡ opened (sizes_of setup) start.world.net.place start.world.net.room
  w_is = start.world.net.w

  no_plans : length f.start.w.plans ≡ 0
  no_plans = ap (λ (w : State). length w.plans) w_is

  no_behind : (v number : ℕ) → IsBehind f.start.w f.start.base v number
  no_behind v number id b e = absurd (none_runs f.start.w no_plans id b)

  no_letter : (lost : ℕ) (id : StreamId) (l : Letter) → letter_of (earlier empty lost) id ≡ Some l → IsLetter (sizes_of setup) shade l
  no_letter zero id l e = absurd (none_runs f.start.w no_plans id (present_engages f.start.base f.start.w id l.order (letter_says f.start id l e).0).0)
  no_letter (suc lost) id l e = absurd (none_runs f.start.w no_plans id (present_engages f.start.base f.start.w id l.order (letter_says f.start id l e).0).0)

  running_only : {A : Type 0} (b : Bool) (o : Option A) (x : A) → (if b then o else None) ≡ Some x → b ≡ true
  running_only true o x e = refl
  running_only false o x e = absurd (cc)

  no_publication : (id : StreamId) (p : Publication) → publication_of f.start.base f.start.w id ≡ Some p → ⊥
  no_publication id p e = none_runs f.start.w no_plans id (and_parts (is_begun f.start.w id) _ (running_only (is_running f.start.w id) _ p e)).0

  no_notice : (lost : ℕ) (id : StreamId) (n : Notice) → notice_of (earlier empty lost) id ≡ Some n → IsAmong shade.published n.publication
  no_notice zero id n e = absurd (no_publication id n.publication (notice_says f.start id n e))
  no_notice (suc lost) id n e = absurd (no_publication id n.publication (notice_says f.start id n e))

  sizes : f.start.w.sizes ≡ sizes_of setup
  sizes = ap (λ (w : State). w.sizes) w_is

  -- an opening is as its shade
  pub empty_shadow : IsShadow setup (λ s v. 0) empty
  empty_shadow = record {
    shade = shade;
    reached = record { start = world_by f.start (held_cells f) f.shown shade; opening = start.world; events = []; fit = tt; state = refl };
    above = λ s v. omega arith;
    sizes = sizes;
    start = sizes;
    fence = start.fence;
    owner = start.owner;
    sent = all_places (IsLetter (sizes_of setup) shade) f.sent (λ k l e. record {
      among = (k, get_map (λ l. l.order) f.sent k l e);
      sizes = inr (all_at (λ o. o.number ≤ start.last o.call.shard o.call.server) (map (λ l. l.order) f.sent) k l.order start.world.net.sent (get_map (λ l. l.order) f.sent k l e));
    });
    answers = all_places (IsAmong f.answers) f.answers (λ k o e. (k, e));
    published = all_places (λ n. IsAmong shade.published n.publication) f.published (λ k n e. (k, get_map (λ n. n.publication) f.published k n e));
    stored = all_places (IsAmong f.stored) f.stored (λ k p e. (k, e));
    passes = all_places (λ h. IsAmong shade.passes (ticket_of h)) f.passes (λ k h e. (k, get_map ticket_of f.passes k h e));
    letters = no_letter;
    notices = no_notice;
    servers = λ v h. let k = start.servers v h in record {
      journal = k.journal;
      taken = k.taken;
      fence = k.fence;
      number = (let a = k.number in omega arith);
      lasts = k.lasts;
      loads = k.loads;
      behind = no_behind v (f.servers v).base.number;
    };
    asked = start.nonces;
    restores = subst (λ l. AllByRecursion (IsRestore f.start empty start.last) l) (sym start.restores) tt;
  }

-- an opening is as its shade
pub opening_shadow : (setup : Setup) (f : Fleet) → IsFleetOpening setup f → IsShadow setup (λ s v. 0) f
opening_shadow setup f o = subst (λ j. IsShadow setup (λ s v. 0) (record f { journal = j })) (sym o.journal)
    (empty_shadow setup f (go f.journal o.journal o))
  where
    go : (j : List JournalEntry) → j ≡ [] → IsFleetOpening setup (record f { journal = j }) → IsFleetOpening setup (record f { journal = [] })
    go [] e h = h
    go (x ∷ j) e h = absurd (cc)

-- ---- events

-- what comes of a message
message_shadow : {A : Type 0} (setup : Setup) (low : ℕ → ℕ → ℕ) (f : Fleet) (k : IsShadow setup low f) (P : A → Type 0) (xs : List A) → AllByRecursion P xs → (place : ℕ) (g : A → FleetOutcome × Fleet) →
    ((j : ℕ) (x : A) → j ≡ place → slice_get xs j ≡ Some x → P x → IsShadow setup low (g x).1) → IsShadow setup low (by_message f g (slice_get xs place)).1
message_shadow {A = A} setup low f k P xs all place g each = go (slice_get xs place) refl
  where
    go : (o : Option A) → slice_get xs place ≡ o → IsShadow setup low (by_message f g o).1
    go None e = k
    go (Some x) e = each place x refl e (all_at P xs place x all e)

-- a message more that the shade knows
sent_shadow : (setup : Setup) (low : ℕ → ℕ → ℕ) (f : Fleet) (k : IsShadow setup low f) (o : Option Letter) → ((l : Letter) → o ≡ Some l → IsLetter (sizes_of setup) k.shade l) → IsShadow setup low (record f { sent = f.sent ++ option_to_list o })
sent_shadow setup low f k o h = record {
  shade = k.shade;
  reached = k.reached;
  above = k.above;
  sizes = k.sizes;
  start = k.start;
  fence = k.fence;
  owner = k.owner;
  sent = all_append (IsLetter (sizes_of setup) k.shade) f.sent (option_to_list o) k.sent (own o h);
  answers = k.answers;
  published = k.published;
  stored = k.stored;
  passes = k.passes;
  letters = k.letters;
  notices = k.notices;
  servers = k.servers;
  asked = k.asked;
  restores = all_map (IsRestore (controller f) f k.shade.last) (IsRestore (controller f) (record f { sent = f.sent ++ option_to_list o }) k.shade.last) (controller f).restores (λ r a. record {
    journal = a.journal;
    fence = a.fence;
    number = a.number;
    loads = a.loads;
    server = a.server;
    asked = a.asked;
    behind = a.behind;
    cells = a.cells;
  }) k.restores;
}
  where
    own : (o : Option Letter) → ((l : Letter) → o ≡ Some l → IsLetter (sizes_of setup) k.shade l) → AllByRecursion (IsLetter (sizes_of setup) k.shade) (option_to_list o)
    own None h = tt
    own (Some l) h = (h l refl, tt)

published_shadow : (setup : Setup) (low : ℕ → ℕ → ℕ) (f : Fleet) (k : IsShadow setup low f) (o : Option Notice) → ((n : Notice) → o ≡ Some n → IsAmong k.shade.published n.publication) → IsShadow setup low (record f { published = f.published ++ option_to_list o })
published_shadow setup low f k o h = record {
  shade = k.shade;
  reached = k.reached;
  above = k.above;
  sizes = k.sizes;
  start = k.start;
  fence = k.fence;
  owner = k.owner;
  sent = k.sent;
  answers = k.answers;
  published = all_append (λ n. IsAmong k.shade.published n.publication) f.published (option_to_list o) k.published (own o h);
  stored = k.stored;
  passes = k.passes;
  letters = k.letters;
  notices = k.notices;
  servers = k.servers;
  asked = k.asked;
  restores = all_map (IsRestore (controller f) f k.shade.last) (IsRestore (controller f) (record f { published = f.published ++ option_to_list o }) k.shade.last) (controller f).restores (λ r a. record {
    journal = a.journal;
    fence = a.fence;
    number = a.number;
    loads = a.loads;
    server = a.server;
    asked = a.asked;
    behind = a.behind;
    cells = a.cells;
  }) k.restores;
}
  where
    own : (o : Option Notice) → ((n : Notice) → o ≡ Some n → IsAmong k.shade.published n.publication) → AllByRecursion (λ n. IsAmong k.shade.published n.publication) (option_to_list o)
    own None h = tt
    own (Some n) h = (h n refl, tt)

-- each event keeps the fleet as its shade
pub comes_shadow : (setup : Setup) (low : ℕ → ℕ → ℕ) (f : Fleet) (k : IsShadow setup low f) (e : FleetEvent) → FleetFits setup f e → IsShadow setup low (fleet_comes f e).1
comes_shadow setup low f k (Make e) fits = made_shadow setup low f k e fits
comes_shadow setup low f k (End v permit) fits = ended_shadow setup low f k v permit fits
comes_shadow setup low f k (Open room) fits = epoch_shadow setup low f k room fits
comes_shadow setup low f k (HearServer place) fits = message_shadow setup low f k (IsAmong k.shade.answers) f.answers k.answers place _ (λ j o q e h. answered_shadow setup low f k o h)
comes_shadow setup low f k (HearOwner place) fits = message_shadow setup low f k (IsAmong k.shade.stored) f.stored k.stored place _ (λ j p q e h. stored_shadow setup low f k p h)
comes_shadow setup low f k (HearAsk place) fits = message_shadow setup low f k (λ v. Unit {0}) f.asks (all_places (λ v. Unit {0}) f.asks (λ j v e. tt)) place _
    (λ j v q e h. restored_shadow setup low f k v (suc place) (place, refl, subst (λ i. slice_get f.asks i ≡ Some v) q e))
comes_shadow setup low f k (SendOrder lost id) fits = sent_shadow setup low f k (letter_of (earlier f lost) id) (λ l e. k.letters lost id l e)
comes_shadow setup low f k (SendPublication lost id) fits = published_shadow setup low f k (notice_of (earlier f lost) id) (λ n e. k.notices lost id n e)
comes_shadow setup low f k (Judge place) fits = message_shadow setup low f k (IsLetter (sizes_of setup) k.shade) f.sent k.sent place _ (λ j l q e h. letter_shadow setup low f k l h)
comes_shadow setup low f k (Commit place at) fits = message_shadow setup low f k (IsLetter (sizes_of setup) k.shade) f.sent k.sent place _ (λ j l q e h. commit_shadow setup low f k l at h)
comes_shadow setup low f k (Abandon s v) fits = abandon_shadow setup low f k s v
comes_shadow setup low f k (Publish place) fits = message_shadow setup low f k (λ n. IsAmong k.shade.published n.publication) f.published k.published place _ (λ j n q e h. notice_shadow setup low f k n h)
comes_shadow setup low f k (Serve s v applied) fits = request_shadow setup low f k s v applied Direct
comes_shadow setup low f k (Receive place applied) fits = message_shadow setup low f k (λ h. IsAmong k.shade.passes (ticket_of h)) f.passes k.passes place _ (λ j h q e a. request_shadow setup low f k h.shard h.target applied (Passed h.pass))
comes_shadow setup low f k (Seal place) fits = message_shadow setup low f k (λ h. IsAmong k.shade.passes (ticket_of h)) f.passes k.passes place _ (λ j h q e a. seal_shadow setup low f k h)
comes_shadow setup low f k (Forget v) fits = loss_shadow setup low f k v
comes_shadow setup low f k (Recover place v) fits = message_shadow setup low f k (IsRestore (controller f) f k.shade.last) (controller f).restores k.restores place _ (λ j r q e h. restore_shadow setup low f k v r h)

-- so does each list of events
pub run_shadow : (setup : Setup) (low : ℕ → ℕ → ℕ) (es : List FleetEvent) (f : Fleet) → IsShadow setup low f → AllFleetFit setup f es → IsShadow setup low (fleet_run es f)
run_shadow setup low [] f k fits = k
run_shadow setup low (e ∷ es) f k fits = run_shadow setup low es (fleet_comes f e).1 (comes_shadow setup low f k e fits.0) fits.1

-- wherever events lead, the fleet is as its shade
pub fleet_shadow : (setup : Setup) (f : Fleet) → IsFleetReached setup f → IsShadow setup (λ s v. 0) f
fleet_shadow setup f r = subst (IsShadow setup (λ s v. 0)) (sym r.state) (run_shadow setup (λ s v. 0) r.events r.first (opening_shadow setup r.first r.opening) r.fit)
