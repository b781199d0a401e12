-- A reopening begins over a world that the network leads to, and what holds then holds wherever events lead.
use Rattle.std.proofs.Common.{◌<◌, ◌≡◌, ◌≢◌, ◌≤◌, ℕ, ◌+◌, refl, sym, ap, ◌∙◌, inl, subst, arith, Bool, true, Option, Some, None, List, [], ◌∷◌, ◌++◌, length, inl, inr}
use Rattle.std.specs.Prelude.{slice_get}
use Rattle.std.specs.List.{AllByRecursion}
use Rattle.sm_server.specs.declared.call.Cell.{Cell}
use Rattle.sm_placement.specs.Setup.{Setup, Sizes}
use Rattle.sm_protocol.proofs.Courses.{some_same}
use Rattle.laws_network.specs.World.{Entry as MapEntry, World}
use Rattle.laws_network.specs.Reopening.{Arrives, Base, Comes, Confirm, Fence, Fenced, Forgets, MapOwner, Message, Party, Records, Reopen, Restore, Server, Settle, Settled, Settlement, Settling, SettlingEvent, Told, Took, arrives, entered, records, sends, settling_comes, settling_run}
use Rattle.laws_network.specs.ReopeningLaws.{AllSettlingFit, IsNotFor, IsOutset, IsPast, IsSettleBelow, IsSettlingReached, MayReopen, SettlingFits, IsWithinRoom, CanBegin}
use Rattle.laws_network.proofs.Bounds.{IsBounded, is_bounded}
use Rattle.std.proofs.Math.Path.{fun_ext}
use Rattle.sm_placement.specs.Place.{load_of}
use Rattle.laws_network.proofs.Raised.{real_is_safe}
use Rattle.laws_network.proofs.Lists.{all_append, all_at, all_map}
use Rattle.laws_network.proofs.Shown.{net_is_reached}
use Rattle.laws_network.proofs.Standing.{Frame, IsGood, IsGoodSettle, IsLost, IsServerHeld, Last, addressee}
use Rattle.laws_network.proofs.Reopened.{IsHeld, all_both, fence_held, forgets_held, frame, good_grown, restore_held, settle_held, standing}
use Rattle.laws_network.proofs.Recorded.{IsFenceBelow, all_swap, fence_is_good, fence_no_settle, fences_good, reopen_held, told_held, took_held}
use Rattle.laws_network.proofs.Confirmed.{confirm_held}
use Rattle.laws_network.proofs.Coming.{comes_held}

-- ---- the beginning

module _ (setup : Setup) (x : Settling) (o : IsOutset setup x) (base servers : ℕ) (lost : ℕ → Bool) (m : MayReopen x base lost) where
  abbrev w : World
  w = o.world

  abbrev begun : Settling
  begun = records x (Reopen base servers lost)

  abbrev f : Frame
  f = frame w x.nonces x.nonces None begun

  bounded : IsBounded w.net
  bounded = is_bounded setup w.net (net_is_reached setup w o.reached)

  net_base : x.world.net.base ≡ w.net.base
  net_base = ap (λ (z : World). z.net.base) o.same

  net_version : (s : ℕ) → x.world.net.w.place.version s ≡ w.net.w.place.version s
  net_version s = ap (λ (z : World). z.net.w.place.version s) o.same

  shown_same : x.world.shown ≡ w.shown
  shown_same = ap (λ (z : World). z.shown) o.same

  -- the end of the epoch before is below
  ends_below : w.net.base + length w.net.w.log + 1 ≤ base
  ends_below = let a = m.places in let b = net_base in let c = bounded.log in omega arith

  abbrev LostServer : Type 0
  LostServer = (v : ℕ) × (lost v ≡ true)

  abbrev BringsNone : Message → Type 0
  BringsNone n = (a : LostServer) → IsNotFor a.0 (m.given_up a.0 a.1).nonce n

  brings_none : AllByRecursion BringsNone x.messages
  brings_none = all_swap (λ (a : LostServer) n. IsNotFor a.0 (m.given_up a.0 a.1).nonce n) x.messages (λ a. (m.given_up a.0 a.1).unmet)

  last_low : (v s : ℕ) → x.world.net.last s v ≤ base
  last_low v s = go (x.bases (Server v)).nonce refl
    where
      go : (q : Option ℕ) → (x.bases (Server v)).nonce ≡ q → x.world.net.last s v ≤ base
      go (Some n) q = let a = o.blank v n q s in omega arith
      go None q = elim ((o.slots v q).lasts s) [
        | inl e ↦ (let a = bounded.lasts s v in let b = ends_below in omega arith)
        | inr e ↦ (let a = e.0 in let b = o.numbers (Server v) in let c = ends_below in omega arith)
      ]

  server_begun : (v : ℕ) → IsServerHeld f v (standing w begun v)
  server_begun v = record {
    number = let a = o.numbers (Server v) in let b = ends_below in omega arith;
    made = λ n e. o.nonces (Server v) n e;
    fresh = λ n e q. absurd (let a = o.numbers (Server v) in let b = ends_below in omega arith);
    lasts = last_low v;
    blank = o.blank v;
    untouched = λ p e. let u = o.slots v e in record {
      cells = u.cells;
      lasts = u.lasts;
      sizes = u.sizes;
      loads = u.loads;
      along = λ l e. absurd (cc);
    };
    touched = λ p. absurd (let a = o.promised v in cc);
    told = λ u i e. absurd (cc);
    partly = λ l e. absurd (cc);
    taken = λ e. absurd (cc);
    lost = λ e q. absurd (let g = (m.given_up v e).unknown in cc);
  }

  settle_begun : (p : Party) (number : ℕ) (nonce : Option ℕ) (s : Settlement) → IsPast w x (Settle p number nonce s) → (IsLost begun.reopening p → (n : ℕ) → nonce ≡ Some n → (x.bases p).nonce ≢ Some n) →
      IsGoodSettle f p (x.bases p) number nonce s
  settle_begun p number asked s q none = record {
    below = let a = q.0 in let b = ends_below in omega arith;
    before = λ e. let a = q.0 in let b = ends_below in omega arith;
    made = q.1;
    early = λ e. q.1;
    last = λ l e. absurd (cc);
    closed = λ l e. absurd (cc);
    state = inl q.2;
    promised = λ e. absurd (let a = q.0 in let b = ends_below in omega arith);
    lost = none;
  }

  restored_fits : (v : ℕ) (sizes : Sizes) (cells : ℕ → Cell) → ((s : ℕ) → cells s ≡ w.net.cells s v) → sizes ≡ w.net.w.sizes → IsWithinRoom sizes (λ s u. cells s) v
  restored_fits v sizes cells same is b =
      let room = (real_is_safe setup w.net (net_is_reached setup w o.reached)).rooms v (subst (λ (c : Sizes). v < c.servers) is b) in
      subst (λ (c : Sizes). load_of c (λ s u. cells s) v ≤ c.room v) (sym is)
      (subst (λ (d : ℕ → Cell). load_of w.net.w.sizes (λ s u. d s) v ≤ w.net.w.sizes.room v) (sym (fun_ext same)) room)

  good_begun : (n : Message) → BringsNone n × IsPast w x n → IsGood f (standing w begun (addressee n)) (x.bases MapOwner) x.messages n
  good_begun (Fence p k) q = let a = q.1 in let b = ends_below in omega arith
  good_begun (Fenced (Server u) k i) q = ((let a = q.1 in let b = ends_below in omega arith), (λ e. absurd (let a = q.1 in let b = ends_below in omega arith)), λ z e. absurd (let a = q.1 in let b = ends_below in omega arith))
  good_begun (Fenced MapOwner k i) q = ((let a = q.1 in let b = ends_below in omega arith), (λ e. absurd (let a = q.1 in let b = ends_below in omega arith)), λ z e. absurd (let a = q.1 in let b = ends_below in omega arith))
  good_begun (Settle (Server u) k asked s) q = settle_begun (Server u) k asked s q.1 (λ e n a z. q.0 (u, e) refl (a ∙ sym z ∙ (m.given_up u e).unknown))
  good_begun (Settle MapOwner k asked s) q = settle_begun MapOwner k asked s q.1 (λ e. absurd e)
  good_begun (Settled p k) q = ((let a = q.1 in let b = ends_below in omega arith), λ e. absurd (let a = q.1 in let b = ends_below in omega arith))
  good_begun (Restore u asked k sizes cells) q = record {
    made = q.1.0;
    waited = λ e. let z = q.1.1 e in record {
      cells_had = z.cells_had;
      sizes_had = z.sizes_had;
      loads = λ b. restored_fits u sizes cells z.cells_had z.sizes_had b;
      number_had = (let a = z.number_had in let b = bounded.log in omega arith);
      lasts_had = z.lasts_had;
      settles = z.settles;
      along = λ l e. absurd (cc);
    };
    lost = λ e z. q.0 (u, e) refl (some_same asked (m.given_up u e).nonce (sym z ∙ (m.given_up u e).unknown));
  }

  abbrev fences : List Message
  fences = sends (Reopen base servers lost) (entered (Reopen base servers lost) x.reopening)

  fences_are : AllByRecursion (IsFenceBelow base) fences
  fences_are = fences_good base (entered (Reopen base servers lost) x.reopening) servers lost (omega arith)

  pub begun_held : IsHeld setup w x.nonces x.nonces None begun
  begun_held = record {
    reached = o.reached;
    over = o.same ∙ ap (λ (s : ℕ → MapEntry). let z : World = record w { net = record w.net { cells = x.world.net.cells; last = x.world.net.last }; shown = s } in z) (sym shown_same);
    controller = record {
      places = let a = m.places in let b = net_base in omega arith;
      versions = λ s. let a = m.versions s in let b = net_base in let c = net_version s in omega arith;
      since = omega arith;
      nonces = omega arith;
      log = bounded.log;
      servers = let a = o.servers in omega arith;
      told_made = λ p n e. absurd (cc);
      asked = λ v e. absurd (cc);
      opening = λ l e. absurd (cc);
      above_versions = λ l e. absurd (cc);
      beyond = λ l e. absurd (cc);
      below = λ l e. absurd (cc);
      before = λ u l e. absurd (cc);
      closed = λ l e. absurd (cc);
      confirmed = λ s e. absurd (cc);
      kept_promises = λ e. absurd (cc);
      told_promised = λ e. absurd (cc);
      told_map = λ e. absurd (cc);
      unsettled = λ e p. refl;
    };
    servers = server_begun;
    owner = record { number = (let a = o.numbers MapOwner in let b = ends_below in omega arith); known = ap (λ (b : Base). b.nonce) o.map; told = λ u i e. absurd (cc); taken = λ e. absurd (cc) };
    shown = record { first = λ e s. ap (λ g. g s) shown_same; last = λ l e. absurd (cc) };
    messages = all_append (λ n. IsGood f (standing w begun (addressee n)) (x.bases MapOwner) (x.messages ++ fences) n) x.messages fences
        (all_map (λ n. BringsNone n × IsPast w x n) (λ n. IsGood f (standing w begun (addressee n)) (x.bases MapOwner) (x.messages ++ fences) n) x.messages
        (λ n q. good_grown f (standing w begun (addressee n)) (x.bases MapOwner) x.messages fences n (λ v asked number e a z. all_map (IsFenceBelow base) (IsSettleBelow v number) fences (fence_no_settle base v number) fences_are) (good_begun n q))
        (all_both BringsNone (IsPast w x) x.messages brings_none o.messages))
        (all_map (IsFenceBelow base) (λ n. IsGood f (standing w begun (addressee n)) (x.bases MapOwner) (x.messages ++ fences) n) fences (λ n q. fence_is_good f (standing w begun (addressee n)) (x.bases MapOwner) (x.messages ++ fences) n q) fences_are);
  }

-- ---- wherever events lead

-- it holds of some world
pub record IsSteady (setup : Setup) (x : Settling) : Type 0 where
  pub world : World
  pub first : ℕ
  pub since : ℕ
  pub last : Option Last
  pub held : IsHeld setup world first since last x

steady_arrives : (setup : Setup) (x : Settling) (h : IsSteady setup x) (reached : ℕ → Bool) (m : Message) → IsGood (frame h.world h.first h.since h.last x) (standing h.world x (addressee m)) (x.bases MapOwner) x.messages m →
    IsSteady setup (arrives x reached (Some m))
steady_arrives setup x h reached (Fence p number) g =
    record { world = h.world; first = h.first; since = h.since; last = h.last; held = fence_held setup h.world h.first h.since h.last x h.held number reached g p }
steady_arrives setup x h reached (Fenced p number i) g =
    record { world = h.world; first = h.first; since = h.since; last = h.last; held = told_held setup h.world h.first h.since h.last x h.held p number i g }
steady_arrives setup x h reached (Settle (Server v) number asked s) g =
    record { world = h.world; first = h.first; since = h.since; last = h.last; held = settle_held setup h.world h.first h.since h.last x h.held (Server v) number asked s g }
steady_arrives setup x h reached (Settle MapOwner number asked s) g =
    record { world = h.world; first = h.first; since = h.since; last = h.last; held = settle_held setup h.world h.first h.since h.last x h.held MapOwner number asked s g }
steady_arrives setup x h reached (Settled p number) g =
    record { world = h.world; first = h.first; since = h.since; last = h.last; held = took_held setup h.world h.first h.since h.last x h.held p number g }
steady_arrives setup x h reached (Restore v asked number sizes cells) g =
    record { world = h.world; first = h.first; since = h.since; last = h.last; held = restore_held setup h.world h.first h.since h.last x h.held v asked number sizes cells g }

steady_next : (setup : Setup) (x : Settling) (e : SettlingEvent) → SettlingFits x e → IsSteady setup x → IsSteady setup (settling_comes x e).1
steady_next setup x (Comes e) fits h =
    let c = comes_held setup h.world h.first h.since h.last x h.held e in
    record { world = c.0; first = h.first; since = h.since; last = h.last; held = c.1 }
steady_next setup x (Arrives k reached) fits h = go (slice_get x.messages k) refl
  where
    go : (o : Option Message) → slice_get x.messages k ≡ o → IsSteady setup (arrives x reached o)
    go None e = h
    go (Some m) e = steady_arrives setup x h reached m (all_at (λ n. IsGood (frame h.world h.first h.since h.last x) (standing h.world x (addressee n)) (x.bases MapOwner) x.messages n) x.messages k m h.held.messages e)
steady_next setup x (Forgets v) fits h =
    record { world = h.world; first = h.first; since = h.since; last = h.last; held = forgets_held setup h.world h.first h.since h.last x h.held v }
steady_next setup x (Records (Reopen base servers lost)) fits h =
    record { world = h.world; first = h.first; since = x.nonces; last = h.last; held = reopen_held setup h.world h.first h.since h.last x h.held base servers lost fits }
steady_next setup x (Records (Confirm s)) fits h =
    record { world = h.world; first = h.first; since = h.since; last = Some (record { base = x.reopening.base; settlement = s; nonces = x.nonces }); held = confirm_held setup h.world h.first h.since h.last x h.held s fits }
steady_next setup x (Records (Told p number i)) fits h = absurd fits
steady_next setup x (Records (Took p number)) fits h = absurd fits

steady_run : (setup : Setup) (es : List SettlingEvent) (x : Settling) → AllSettlingFit es x → IsSteady setup x → IsSteady setup (settling_run es x)
steady_run setup [] x fits h = h
steady_run setup (e ∷ es) x fits h = steady_run setup es (settling_comes x e).1 fits.1 (steady_next setup x e fits.0 h)

-- so it does wherever events lead
pub each_steady : (setup : Setup) (x : Settling) → IsSettlingReached setup x → IsSteady setup x
each_steady setup x r = subst (IsSteady setup) (sym r.state) (steady_run setup r.events (records r.start (Reopen r.base r.servers r.lost)) r.fit (record {
  world = r.outset.world;
  first = r.start.nonces;
  since = r.start.nonces;
  last = None;
  held = begun_held setup r.start r.outset r.base r.servers r.lost r.begun;
}))

-- a reopening can begin wherever the network leads
pub can_begin : CanBegin
can_begin setup w r = record {
  world = w;
  reached = r;
  same = refl;
  slots = λ v e. record {
    cells = λ s. refl;
    lasts = λ s. inl refl;
    sizes = λ d b. refl;
    loads = λ b. (real_is_safe setup w.net (net_is_reached setup w r)).rooms v b;
  };
  blank = λ v n e. absurd (cc);
  map = refl;
  numbers = λ p. omega arith;
  nonces = λ p n e. absurd (cc);
  messages = tt;
  servers = refl;
  promised = λ v. refl;
}
