-- A shade of the fleet: controller, servers and the map's owner as the laws of the network see them. Its servers never lose what they
-- have, and every order and publication is sent as soon as it can be.
use Rattle.std.proofs.Common.{◌≡◌, ℕ, zero, suc, ◌<◌, refl, sym, ap, ◌∙◌, inl, inr, subst, arith, Bool, true, false, Option, Some, None, List, [], ◌∷◌, ◌++◌, length}
use Rattle.std.specs.Prelude.{if◌then◌else◌, slice_get}
use Rattle.std.specs.Option.{option_to_list}
use Rattle.std.proofs.lemmas.Bool.{and_parts, cases_eq}
use Rattle.sm_placement.specs.Setup.{Setup, sizes_of}
use Rattle.sm_reservation.specs.declared.stream_id.StreamId.{StreamId}
use Rattle.sm_protocol.specs.State.{State, is_begun, is_running, stream_count, stream_id}
use Rattle.sm_protocol.proofs.Courses.{some_same}
use Rattle.sm_protocol.proofs.LogRoom.{begun_parts}
use Rattle.laws_network.specs.Net.{Order, Send, order_of}
use Rattle.laws_network.specs.World.{Inner, Propose, Publication, World, WorldEvent, publication_of, world_comes, world_run}
use Rattle.laws_network.specs.WorldLaws.{IsWorldReached, WorldFits}
use Rattle.laws_network.proofs.Lists.{all_append}

-- ---- what stands in a list

-- it stands at some place of the list
abbrev pub IsAmong : {A : Type 0} → List A → A → Type 0
IsAmong xs y = (k : ℕ) × (slice_get xs k ≡ Some y)

-- it stands in a longer list, too
pub among_more : {A : Type 0} (xs ys : List A) (y : A) → IsAmong xs y → IsAmong (xs ++ ys) y
among_more {A = A} xs ys y (k, e) = (k, get_more xs k e)
  where
    get_more : (zs : List A) (k : ℕ) → slice_get zs k ≡ Some y → slice_get (zs ++ ys) k ≡ Some y
    get_more [] k e = absurd (cc)
    get_more (z ∷ zs) zero e = e
    get_more (z ∷ zs) (suc k) e = get_more zs k e

-- what comes behind a list stands in it
pub among_new : {A : Type 0} (xs : List A) (y : A) → IsAmong (xs ++ y ∷ []) y
among_new {A = A} xs y = (length xs, get_new xs)
  where
    get_new : (zs : List A) → slice_get (zs ++ y ∷ []) (length zs) ≡ Some y
    get_new [] = refl
    get_new (z ∷ zs) = get_new zs

-- ---- events of the world

world_append : (es fs : List WorldEvent) (x : World) → world_run (es ++ fs) x ≡ world_run fs (world_run es x)
world_append [] fs x = refl
world_append (e ∷ es) fs x = world_append es fs (world_comes x e).1

-- a world that one event more leads to
pub world_next : (setup : Setup) (x : World) (e : WorldEvent) → IsWorldReached setup x → WorldFits (sizes_of setup) e → IsWorldReached setup (world_comes x e).1
world_next setup x e r fits = record {
  start = r.start;
  opening = r.opening;
  events = r.events ++ e ∷ [];
  fit = all_append (WorldFits (sizes_of setup)) r.events (e ∷ []) r.fit (fits, tt);
  state = ap (λ m. (world_comes m e).1) r.state ∙ sym (world_append r.events (e ∷ []) r.start);
}

-- ---- everything is sent

-- the streams of a plan, and those of all plans
streams_below : ℕ → ℕ → List StreamId
streams_below k zero = []
streams_below k (suc n) = stream_id k n ∷ streams_below k n

plans_below : (ℕ → ℕ) → ℕ → List StreamId
plans_below count zero = []
plans_below count (suc k) = streams_below k (count k) ++ plans_below count k

among_append : (xs ys : List StreamId) (y : StreamId) → IsAmong ys y → IsAmong (xs ++ ys) y
among_append [] ys y h = h
among_append (x ∷ xs) ys y h = let r = among_append xs ys y h in (suc r.0, r.1)

stream_below : (k n i : ℕ) → i < n → IsAmong (streams_below k n) (stream_id k i)
unfolding streams_below
stream_below k zero i l = absurd (omega arith)
stream_below k (suc n) i l = elim (cases_eq i n) [
  | inl e ↦ (0, ap (λ m. let z : Option StreamId = Some (stream_id k m) in z) (sym e))
  | inr e ↦ let r = stream_below k n i (omega arith) in (suc r.0, r.1)
]

plan_below : (count : ℕ → ℕ) (n k i : ℕ) → k < n → i < count k → IsAmong (plans_below count n) (stream_id k i)
unfolding plans_below
plan_below count zero k i l m = absurd (omega arith)
plan_below count (suc n) k i l m = elim (cases_eq k n) [
  | inl e ↦ among_more (streams_below n (count n)) (plans_below count n) (stream_id k i)
      (subst (λ j. IsAmong (streams_below n (count n)) (stream_id j i)) (sym e) (stream_below n (count n) i (subst (λ j. i < count j) e m)))
  | inr e ↦ among_append (streams_below n (count n)) (plans_below count n) (stream_id k i) (plan_below count n k i (omega arith) m)
]

all_streams : State → List StreamId
all_streams w = plans_below (stream_count w) (length w.plans)

begun_among : (w : State) (id : StreamId) → is_begun w id ≡ true → IsAmong (all_streams w) id
unfolding all_streams
begun_among w id b = let p = begun_parts w id b in plan_below (stream_count w) (length w.plans) id.plan id.stream p.0 p.1

-- the orders and publications of these streams were sent
pub record IsSaid (setup : Setup) (x : World) (ids : List StreamId) : Type 0 where
  pub sent : List Order
  pub published : List Publication
  pub reached : IsWorldReached setup (record x { net = record x.net { sent = sent }; published = published })
  pub kept_sent : (o : Order) → IsAmong x.net.sent o → IsAmong sent o
  pub kept_published : (p : Publication) → IsAmong x.published p → IsAmong published p
  pub orders : (id : StreamId) (o : Order) → IsAmong ids id → order_of x.net.base x.net.w id ≡ Some o → IsAmong sent o
  pub publications : (id : StreamId) (p : Publication) → IsAmong ids id → publication_of x.net.base x.net.w id ≡ Some p → IsAmong published p

-- an option that has something has it among its list
among_option : {A : Type 0} (xs : List A) (o : Option A) (y : A) → o ≡ Some y → IsAmong (xs ++ option_to_list o) y
among_option xs o y e = subst (λ a. IsAmong (xs ++ option_to_list a) y) (sym e) (among_new xs y)

-- the world once the order of a stream was sent, and its publication
abbrev after_stream : World → StreamId → World
after_stream x a = (world_comes (world_comes x (Inner (Send a))).1 (Propose a)).1

-- one stream more
say_one : (setup : Setup) (a : StreamId) (ids : List StreamId) (x : World) → IsSaid setup (after_stream x a) ids → IsSaid setup x (a ∷ ids)
say_one setup a ids x rest = record {
  sent = rest.sent;
  published = rest.published;
  reached = rest.reached;
  kept_sent = λ o h. rest.kept_sent o (among_more x.net.sent (option_to_list (order_of x.net.base x.net.w a)) o h);
  kept_published = λ p h. rest.kept_published p (among_more x.published (option_to_list (publication_of x.net.base x.net.w a)) p h);
  orders = own_orders;
  publications = own_publications;
}
  where
    own_orders : (id : StreamId) (o : Order) → IsAmong (a ∷ ids) id → order_of x.net.base x.net.w id ≡ Some o → IsAmong rest.sent o
    own_orders id o (zero, q) e = rest.kept_sent o (among_option x.net.sent (order_of x.net.base x.net.w a) o (ap (order_of x.net.base x.net.w) (some_same a id q) ∙ e))
    own_orders id o (suc k, q) e = rest.orders id o (k, q) e

    own_publications : (id : StreamId) (p : Publication) → IsAmong (a ∷ ids) id → publication_of x.net.base x.net.w id ≡ Some p → IsAmong rest.published p
    own_publications id p (zero, q) e = rest.kept_published p (among_option x.published (publication_of x.net.base x.net.w a) p (ap (publication_of x.net.base x.net.w) (some_same a id q) ∙ e))
    own_publications id p (suc k, q) e = rest.publications id p (k, q) e

say : (setup : Setup) (ids : List StreamId) (x : World) → IsWorldReached setup x → IsSaid setup x ids
say setup [] x r = record {
  sent = x.net.sent;
  published = x.published;
  reached = r;
  kept_sent = λ o h. h;
  kept_published = λ p h. h;
  orders = λ id o h e. absurd (let z = h.1 in cc);
  publications = λ id p h e. absurd (let z = h.1 in cc);
}
say setup (a ∷ ids) x r =
    say_one setup a ids x (say setup ids (after_stream x a) (world_next setup (world_comes x (Inner (Send a))).1 (Propose a) (world_next setup x (Inner (Send a)) r tt) tt))

-- every stream's order and publication were sent
pub record IsAllSaid (setup : Setup) (x : World) : Type 0 where
  pub sent : List Order
  pub published : List Publication
  pub reached : IsWorldReached setup (record x { net = record x.net { sent = sent }; published = published })
  pub kept_sent : (o : Order) → IsAmong x.net.sent o → IsAmong sent o
  pub kept_published : (p : Publication) → IsAmong x.published p → IsAmong published p
  pub orders : (id : StreamId) (o : Order) → order_of x.net.base x.net.w id ≡ Some o → IsAmong sent o
  pub publications : (id : StreamId) (p : Publication) → publication_of x.net.base x.net.w id ≡ Some p → IsAmong published p

running_only : {A : Type 0} (b : Bool) (o : Option A) (x : A) → (if b then o else None) ≡ Some x → b ≡ true
running_only true o x e = refl
running_only false o x e = absurd (cc)

-- all of them can be sent
pub say_all : (setup : Setup) (x : World) → IsWorldReached setup x → IsAllSaid setup x
say_all setup x r = record {
  sent = s.sent;
  published = s.published;
  reached = s.reached;
  kept_sent = s.kept_sent;
  kept_published = s.kept_published;
  orders = λ id o e. s.orders id o (begun_among x.net.w id (and_parts (is_begun x.net.w id) _ (running_only (is_running x.net.w id) _ o e)).0) e;
  publications = λ id p e. s.publications id p (begun_among x.net.w id (and_parts (is_begun x.net.w id) _ (running_only (is_running x.net.w id) _ p e)).0) e;
}
  where
    s : IsSaid setup x (all_streams x.net.w)
    s = say setup (all_streams x.net.w) x r
