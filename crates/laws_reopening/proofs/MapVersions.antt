-- Versions of the map never go back. While reopenings settle, each is at most one above what is recorded, or at or below the number of the map's owner,
-- and a settle that the owner takes has its number, which is above all that are recorded.
use Rattle.std.proofs.Common.{◌≡◌, ◌≤◌, ◌⊎◌, ℕ, suc, ◌+◌, refl, sym, ap, inl, inr, subst, arith, Bool, true, false, Option, Some, None, List, [], ◌∷◌}
use Rattle.std.specs.Prelude.{slice_get, nat_lt, if◌then◌else◌}
use Rattle.std.specs.List.{AllByRecursion}
use Rattle.std.proofs.lemmas.Bool.{cases_eq}
use Rattle.sm_server.specs.declared.call.Cell.{Cell}
use Rattle.sm_placement.specs.Setup.{Setup, Sizes}
use Rattle.sm_placement.specs.Sums.{put}
use Rattle.sm_placement.proofs.Sums.{put-apart, put-here}
use Rattle.laws_network.specs.Orders.{newer}
use Rattle.laws_network.specs.Net.{Answer, Ask, Control, Deliver, Order, Pass, Quiet, Send, State, Ticket, after_delivery, at_place, delivered, passed, real_delivery}
use Rattle.laws_network.specs.declared.delivery.Delivery.{Delivery}
use Rattle.laws_network.specs.declared.delivery.Delivery.TheVariants as delivery
use Rattle.laws_network.specs.World.{Entry, Inner, Propose, Publication, Store, Stored, World, WorldEvent, by_place, kept_by, world_comes}
use Rattle.laws_network.specs.Reopening.{Arrives, Base, Comes, Fence, Fenced, Forgets, MapOwner, Message, Party, Records, Reopen, Restore, Server, Settle, Settled, Settlement, Settling, SettlingEvent, after_fence, arrives, fence_comes, granted, in_world, inventory_by, is_fenced_at, is_settled_at, is_taken, names_nonce, part_taken, put_party, records, settle_comes, settling_comes, settling_run, takes_settle, with_messages}
use Rattle.laws_network.specs.ReopeningLaws.{AllSettlingFit, EachSettling, IsOutset, IsSettlingReached}
use Rattle.laws_network.proofs.Begun.{IsSteady, each_steady}
use Rattle.laws_network.proofs.Lists.{all_at, all_map}
use Rattle.laws_network.proofs.Reopened.{frame, standing}
use Rattle.laws_network.proofs.Shown.{IsMapKept, IsMet, reached_kept, shown_never_goes_back}
use Rattle.laws_network.proofs.Standing.{IsGood, IsGoodSettle, addressee, is_live, taken_by}
use Rattle.laws_network.specs.FleetLaws.{MapNeverGoesBack}
use Rattle.laws_reopening.specs.Renumbering.{FleetOpensAs}
use Rattle.laws_reopening.specs.Service.{AllServiceFit, Begins, EachService, Goes, Meets, Opens, Reopens, Runs, Service, ServiceEvent, ServiceFits, opened_on, service_comes, service_run}
use Rattle.laws_reopening.specs.ServiceLaws.{IsWithinLaws}
use Rattle.laws_reopening.specs.Versions.{IsNumberAfter, IsNumberAfterAll, VersionsNeverGoBack, shown_by}
use Rattle.laws_reopening.proofs.Kept.{reached_on}
use Rattle.laws_reopening.proofs.Standing.{fence_cases}
use Rattle.laws_reopening.proofs.Within.{within_laws, within_next}

-- a version is at most one above what is recorded, or at or below the number of the map's owner
abbrev IsLow : Settling → ℕ → ℕ → Type 0
IsLow x s version = (version ≤ x.world.net.base + suc (x.world.net.w.place.version s)) ⊎ (version ≤ (x.bases MapOwner).number)

-- so is each that is shown
abbrev AreLow : Settling → Type 0
AreLow x = (s : ℕ) → IsLow x s (x.world.shown s).version

-- no version goes back from one to the other
abbrev IsForward : Settling → Settling → Type 0
IsForward x y = (s : ℕ) → (x.world.shown s).version ≤ (y.world.shown s).version

-- so it is after an event
record IsNext (x y : Settling) : Type 0 where
  pub forward : IsForward x y
  pub low : AreLow y

-- what is low stays so while nothing more is recorded, and the owner's number does not go down
low_next : (x y : Settling) → y.world.net.base ≡ x.world.net.base → y.world.net.w ≡ x.world.net.w → (x.bases MapOwner).number ≤ (y.bases MapOwner).number → (s version : ℕ) →
    IsLow x s version → IsLow y s version
low_next x y base w owner s version (inl a) = inl (let b = base in let c = ap (λ (z : State). z.place.version s) w in omega arith)
low_next x y base w owner s version (inr a) = inr (omega arith)

-- the map stays as it is
still_next : (x y : Settling) → y.world.shown ≡ x.world.shown → y.world.net.base ≡ x.world.net.base → y.world.net.w ≡ x.world.net.w →
    (x.bases MapOwner).number ≤ (y.bases MapOwner).number → AreLow x → IsNext x y
still_next x y shown base w owner low = record {
  forward = λ s. let e = version s in omega arith;
  low = λ s. subst (IsLow y s) (sym (version s)) (low_next x y base w owner s (x.world.shown s).version (low s));
}
  where
    version : (s : ℕ) → (y.world.shown s).version ≡ (x.world.shown s).version
    version s = ap (λ (g : ℕ → Entry). (g s).version) shown

-- so does the owner
same_next : (x y : Settling) → y.world ≡ x.world → y.bases MapOwner ≡ x.bases MapOwner → AreLow x → IsNext x y
same_next x y world owner low =
    still_next x y (ap (λ (z : World). z.shown) world) (ap (λ (z : World). z.net.base) world) (ap (λ (z : World). z.net.w) world)
    (let e = ap (λ (z : Base). z.number) owner in omega arith) low

-- ---- what comes of the epoch before

-- a message that is looked at leaves the record as it is
keeps_record : (x : Settling) (e : WorldEvent) → is_taken x e ≡ true →
    ((world_comes x.world e).1.net.base ≡ x.world.net.base) × ((world_comes x.world e).1.net.w ≡ x.world.net.w)
keeps_record x (Inner (Deliver k)) t = go (slice_get x.world.net.sent k)
  where
    by_delivery : (o : Order) (d : Delivery) → ((after_delivery x.world.net o d).1.base ≡ x.world.net.base) × ((after_delivery x.world.net o d).1.w ≡ x.world.net.w)
    by_delivery o delivery.Old = (refl, refl)
    by_delivery o delivery.Again = (refl, refl)
    by_delivery o (delivery.Refused why) = (refl, refl)
    by_delivery o (delivery.Served next) = (refl, refl)

    go : (o : Option Order) → ((at_place x.world.net delivered o).1.base ≡ x.world.net.base) × ((at_place x.world.net delivered o).1.w ≡ x.world.net.w)
    go None = (refl, refl)
    go (Some o) = by_delivery o (real_delivery x.world.net o)
keeps_record x (Inner (Ask s v)) t = (refl, refl)
keeps_record x (Inner (Pass k)) t = go (slice_get x.world.net.passes k)
  where
    go : (o : Option Ticket) → ((passed x.world.net o).1.base ≡ x.world.net.base) × ((passed x.world.net o).1.w ≡ x.world.net.w)
    go None = (refl, refl)
    go (Some t) = (refl, refl)
keeps_record x (Store k) t = go (slice_get x.world.published k)
  where
    go : (o : Option Publication) → ((by_place x.world (λ y p. (Quiet, kept_by y p)) o).1.net.base ≡ x.world.net.base)
        × ((by_place x.world (λ y p. (Quiet, kept_by y p)) o).1.net.w ≡ x.world.net.w)
    go None = (refl, refl)
    go (Some p) = (refl, refl)
keeps_record x (Inner (Control e)) t = absurd (cc)
keeps_record x (Inner (Send id)) t = absurd (cc)
keeps_record x (Inner (Answer k)) t = absurd (cc)
keeps_record x (Propose id) t = absurd (cc)
keeps_record x (Stored k) t = absurd (cc)

newer_low : (x : Settling) (s : ℕ) (a b : Entry) → IsLow x s a.version → IsLow x s b.version → IsLow x s (newer a b).version
newer_low x s a b h i = go (nat_lt a.version b.version)
  where
    go : (t : Bool) → IsLow x s (let z : Entry = if t then b else a in z).version
    go true = i
    go false = h

put_low : (x : Settling) (r s : ℕ) (a : Entry) → AreLow x → IsLow x r a.version → IsLow x s (put x.world.shown r a s).version
put_low x r s a low h = elim (cases_eq s r) [
  | inl e ↦ subst (λ (z : Entry). IsLow x s z.version) (sym (put-here x.world.shown r a s e)) (subst (λ k. IsLow x k a.version) (sym e) h)
  | inr e ↦ subst (λ (z : Entry). IsLow x s z.version) (sym (put-apart x.world.shown r a s e)) (low s)
]

-- a publication that comes is low
shown_low : (x : Settling) (e : WorldEvent) → is_taken x e ≡ true → AllByRecursion (λ p. IsLow x p.shard p.entry.version) x.world.published → AreLow x → (s : ℕ) →
    IsLow x s ((world_comes x.world e).1.shown s).version
shown_low x (Inner (Deliver k)) t all low s = low s
shown_low x (Inner (Ask r v)) t all low s = low s
shown_low x (Inner (Pass k)) t all low s = low s
shown_low x (Store k) t all low s = go (slice_get x.world.published k) refl
  where
    go : (o : Option Publication) → slice_get x.world.published k ≡ o → IsLow x s ((by_place x.world (λ y p. (Quiet, kept_by y p)) o).1.shown s).version
    go None e = low s
    go (Some p) e = put_low x p.shard s (newer (x.world.shown p.shard) p.entry) low
        (newer_low x p.shard (x.world.shown p.shard) p.entry (low p.shard) (all_at (λ q. IsLow x q.shard q.entry.version) x.world.published k p all e))
shown_low x (Inner (Control e)) t all low s = absurd (cc)
shown_low x (Inner (Send id)) t all low s = absurd (cc)
shown_low x (Inner (Answer k)) t all low s = absurd (cc)
shown_low x (Propose id) t all low s = absurd (cc)
shown_low x (Stored k) t all low s = absurd (cc)

module _ (setup : Setup) (x : Settling) (h : IsSteady setup x) where
  abbrev w : World
  w = h.world

  -- the record is that of the network's own world
  record_is : (s : ℕ) → x.world.net.base + x.world.net.w.place.version s ≡ w.net.base + w.net.w.place.version s
  record_is s = ap (λ (z : World). z.net.base + z.net.w.place.version s) h.held.over

  met_low : (p : Publication) → IsMet w p → IsLow x p.shard p.entry.version
  met_low p (inl b) = inl (let c = b.version in let d = record_is p.shard in omega arith)
  met_low p (inr b) = inl (let c = b.recorded in let d = record_is p.shard in omega arith)

  published_low : AllByRecursion (λ p. IsLow x p.shard p.entry.version) x.world.published
  published_low = subst (AllByRecursion (λ p. IsLow x p.shard p.entry.version)) (sym (ap (λ (z : World). z.published) h.held.over))
      (all_map (IsMet w) (λ p. IsLow x p.shard p.entry.version) w.published met_low (reached_kept setup w h.held.reached).published)

  comes_next : (e : WorldEvent) → AreLow x → IsNext x (settling_comes x (Comes e)).1
  comes_next e low = go (is_taken x e) refl
    where
      go : (t : Bool) → is_taken x e ≡ t → IsNext x (if t then in_world x (world_comes x.world e) else (Quiet, x)).1
      go false t = same_next x x refl refl low
      go true t = let k = keeps_record x e t in record {
        forward = λ s. (shown_never_goes_back x.world (e ∷ []) s).0;
        low = λ s. low_next x (in_world x (world_comes x.world e)).1 k.0 k.1 (omega arith) s ((world_comes x.world e).1.shown s).version (shown_low x e t published_low low s);
      }

  -- ---- messages

  fence_up : (p : Party) (number fresh : ℕ) → (x.bases MapOwner).number ≤ (put_party x.bases p (after_fence (x.bases p) number fresh) MapOwner).number
  fence_up (Server v) number fresh = omega arith
  fence_up MapOwner number fresh = elim (fence_cases (x.bases MapOwner) number fresh) [
    | inl r ↦ (let e = ap (λ (z : Base). z.number) r.1 in let a = r.0 in omega arith)
    | inr r ↦ (let e = ap (λ (z : Base). z.number) r in omega arith)
  ]

  fence_next : (p : Party) (number : ℕ) (reached : ℕ → Bool) → AreLow x → IsNext x (fence_comes x p number reached)
  fence_next p number reached low = go (is_fenced_at number (after_fence (x.bases p) number x.nonces))
    where
      go : (t : Bool) → IsNext x (if t then with_messages (record x { bases = put_party x.bases p (after_fence (x.bases p) number x.nonces); nonces = suc x.nonces }) (Fenced p number (inventory_by x p (after_fence (x.bases p) number x.nonces).nonce reached) ∷ [])
          else record x { bases = put_party x.bases p (after_fence (x.bases p) number x.nonces); nonces = suc x.nonces })
      go true = still_next x _ refl refl refl (fence_up p number x.nonces) low
      go false = still_next x _ refl refl refl (fence_up p number x.nonces) low

  -- the settle that the map's owner takes has its number, above all that are recorded
  owner_taken : (number : ℕ) (nonce : Option ℕ) (s : Settlement) → IsGoodSettle (frame w h.first h.since h.last x) MapOwner (x.bases MapOwner) number nonce s →
      takes_settle number nonce (x.bases MapOwner) ≡ true → AreLow x → IsNext x (with_messages (part_taken x MapOwner number s) (Settled MapOwner number ∷ []))
  owner_taken number nonce s g e low = record { forward = forward; low = λ k. inr (omega arith) }
    where
      forward : (k : ℕ) → (x.world.shown k).version ≤ number
      forward k =
          let t = taken_by (x.bases MapOwner) number nonce e in
          let live = is_live (frame w h.first h.since h.last x) MapOwner (x.bases MapOwner) number nonce s g t in
          let above = h.held.controller.above_versions live.last live.is k in
          let at = live.base in
          let stands = t.at in
          let r = record_is k in
          elim (low k) [ inl a ↦ omega arith | inr a ↦ omega arith ]

  settle_next : (p : Party) (number : ℕ) (nonce : Option ℕ) (s : Settlement) →
      IsGood (frame w h.first h.since h.last x) (standing w x (addressee (Settle p number nonce s))) (x.bases MapOwner) x.messages (Settle p number nonce s) →
      AreLow x → IsNext x (settle_comes x p number nonce s)
  settle_next (Server v) number nonce s g low = go (takes_settle number nonce (x.bases (Server v))) (is_settled_at number (x.bases (Server v)))
    where
      go : (t u : Bool) → IsNext x (if t then with_messages (part_taken x (Server v) number s) (Settled (Server v) number ∷ []) else if u then with_messages x (Settled (Server v) number ∷ []) else x)
      go true u = still_next x _ refl refl refl (omega arith) low
      go false true = same_next x _ refl refl low
      go false false = same_next x _ refl refl low
  settle_next MapOwner number nonce s g low = go (takes_settle number nonce (x.bases MapOwner)) refl (is_settled_at number (x.bases MapOwner))
    where
      go : (t : Bool) → takes_settle number nonce (x.bases MapOwner) ≡ t → (u : Bool) →
          IsNext x (if t then with_messages (part_taken x MapOwner number s) (Settled MapOwner number ∷ []) else if u then with_messages x (Settled MapOwner number ∷ []) else x)
      go true e u = owner_taken number nonce s g e low
      go false e true = same_next x _ refl refl low
      go false e false = same_next x _ refl refl low

  restore_next : (v nonce number : ℕ) (sizes : Sizes) (cells : ℕ → Cell) (reached : ℕ → Bool) → AreLow x → IsNext x (arrives x reached (Some (Restore v nonce number sizes cells)))
  restore_next v nonce number sizes cells reached low = go (names_nonce (x.bases (Server v)).nonce (Some nonce))
    where
      go : (t : Bool) → IsNext x (if t then granted x v number sizes cells else x)
      go true = still_next x _ refl refl refl (omega arith) low
      go false = same_next x _ refl refl low

  arrives_next : (reached : ℕ → Bool) (m : Message) → IsGood (frame w h.first h.since h.last x) (standing w x (addressee m)) (x.bases MapOwner) x.messages m → AreLow x →
      IsNext x (arrives x reached (Some m))
  arrives_next reached (Fence p number) g low = fence_next p number reached low
  arrives_next reached (Fenced p number i) g low = same_next x _ refl refl low
  arrives_next reached (Settle p number asked s) g low = settle_next p number asked s g low
  arrives_next reached (Settled p number) g low = same_next x _ refl refl low
  arrives_next reached (Restore v asked number sizes cells) g low = restore_next v asked number sizes cells reached low

  event_next : (e : SettlingEvent) → AreLow x → IsNext x (settling_comes x e).1
  event_next (Comes e) low = comes_next e low
  event_next (Arrives k reached) low = go (slice_get x.messages k) refl
    where
      go : (o : Option Message) → slice_get x.messages k ≡ o → IsNext x (arrives x reached o)
      go None e = same_next x x refl refl low
      go (Some m) e = arrives_next reached m
          (all_at (λ n. IsGood (frame w h.first h.since h.last x) (standing w x (addressee n)) (x.bases MapOwner) x.messages n) x.messages k m h.held.messages e) low
  event_next (Forgets v) low = still_next x _ refl refl refl (omega arith) low
  event_next (Records e) low = same_next x _ refl refl low

-- ---- wherever events lead

run_next : (setup : Setup) (es : List SettlingEvent) (x : Settling) → IsSettlingReached setup x → AllSettlingFit es x → AreLow x → IsNext x (settling_run es x)
run_next setup [] x r fit low = same_next x x refl refl low
run_next setup (e ∷ es) x r fit low =
    let n = event_next setup x (each_steady setup x r) e low in
    let m = run_next setup es (settling_comes x e).1 (reached_on setup x (e ∷ []) r (fit.0, tt)) fit.1 n.low in
    record { forward = λ s. let a = n.forward s in let b = m.forward s in omega arith; low = m.low }

-- at the beginning the map is as the network left it
start_low : (setup : Setup) (x : Settling) → IsOutset setup x → AreLow x
start_low setup x o s =
    let kept : IsMapKept setup o.world = reached_kept setup o.world o.reached in
    let shown = ap (λ (z : World). (z.shown s).version) o.same in
    let base = ap (λ (z : World). z.net.base + z.net.w.place.version s) o.same in
    inl (elim (kept.entries s) [
      | inl a ↦ (let b = a.version in omega arith)
      | inr a ↦ (let b = a.version in omega arith)
    ])

-- no version goes back while reopenings settle
settling_forward : (setup : Setup) (x : Settling) → IsSettlingReached setup x → (es : List SettlingEvent) → AllSettlingFit es x → IsForward x (settling_run es x)
settling_forward setup x r es fit s = (run_next setup es x r fit (subst AreLow (sym r.state) begun.low)).forward s
  where
    begun : IsNext (records r.start (Reopen r.base r.servers r.lost)) (settling_run r.events (records r.start (Reopen r.base r.servers r.lost)))
    begun = run_next setup r.events (records r.start (Reopen r.base r.servers r.lost)) (record {
      start = r.start;
      outset = r.outset;
      base = r.base;
      servers = r.servers;
      lost = r.lost;
      begun = r.begun;
      events = [];
      fit = tt;
      state = refl;
    }) r.fit (start_low setup r.start r.outset)

-- ---- over all epochs

-- what is shown under a number that stays
stays_next : (p q : Service) (s after : ℕ) → (shown_by p s).version ≤ (shown_by q s).version → after ≡ s → (shown_by p s).version ≤ (shown_by q after).version
stays_next p q s after h e = subst (λ k. (shown_by p s).version ≤ (shown_by q k).version) (sym e) h

service_next : MapNeverGoesBack → (p : Service) (e : ServiceEvent) → ServiceFits p e → IsWithinLaws p → (s after : ℕ) → IsNumberAfter p e s after →
    (shown_by p s).version ≤ (shown_by (service_comes p e) after).version
service_next map (Runs setup f) (Goes e) fits w s after is = stays_next (Runs setup f) (service_comes (Runs setup f) (Goes e)) s after (map f (e ∷ []) s).0 is
service_next map (Runs setup f) (Begins world base servers lost) fits w s after is =
    let a = ap (λ (z : World). (z.shown s).version) fits.world_is in
    let b = ap (λ (g : ℕ → Entry). (g s).version) fits.over.shown in
    stays_next (Runs setup f) (service_comes (Runs setup f) (Begins world base servers lost)) s after (omega arith) is
service_next map (Runs setup f) (Meets e) fits w s after is = stays_next (Runs setup f) (Runs setup f) s after (omega arith) is
service_next map (Runs setup f) (Opens n new fleet) fits w s after is = stays_next (Runs setup f) (Runs setup f) s after (omega arith) is
service_next map (Reopens setup f x) (Goes e) fits w s after is = stays_next (Reopens setup f x) (Reopens setup f x) s after (omega arith) is
service_next map (Reopens setup f x) (Begins world base servers lost) fits w s after is = stays_next (Reopens setup f x) (Reopens setup f x) s after (omega arith) is
service_next map (Reopens setup f x) (Meets e) fits w s after is =
    stays_next (Reopens setup f x) (service_comes (Reopens setup f x) (Meets e)) s after (settling_forward setup x w.1 (e ∷ []) (fits, tt) s) is
service_next map (Reopens setup f x) (Opens n new fleet) fits w s after is =
    subst (λ o. (x.world.shown s).version ≤ (shown_by (opened_on (Reopens setup f x) new.setup fleet o) after).version) (sym fits.settled)
    (let a = (fits.opens.shown after s is).0 in omega arith)

forward_run : EachSettling FleetOpensAs → MapNeverGoesBack → (es : List ServiceEvent) (p : Service) → AllServiceFit es p → IsWithinLaws p → (s after : ℕ) → IsNumberAfterAll p es s after →
    (shown_by p s).version ≤ (shown_by (service_run es p) after).version
forward_run opens map [] p fit w s after is = stays_next p p s after (omega arith) is
forward_run opens map (e ∷ es) p fit w s after is =
    let a = service_next map p e fit.0 w s is.0 is.1 in
    let b = forward_run opens map es (service_comes p e) fit.1 (within_next opens p e fit.0 w) is.0 after is.2 in
    omega arith

-- no version goes back
pub versions_never_go_back : EachSettling FleetOpensAs → MapNeverGoesBack → EachService VersionsNeverGoBack
versions_never_go_back opens map p r es fit = forward_run opens map es p fit (within_laws opens p r)
