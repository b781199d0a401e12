-- The count of an order's effects goes on from a fleet to a reopening, and from there to the fleet that comes of it.
use Rattle.std.proofs.Common.{◌≡◌, ◌≤◌, ◌<◌, ◌⊎◌, ℕ, zero, suc, pred, ◌+◌, refl, sym, ap, ◌∙◌, inl, inr, subst, arith, Bool, false, Option, Some, None, List, [], ◌∷◌, length}
use Rattle.std.specs.Prelude.{count_by, if◌then◌else◌, is_some, map, slice_get, slice_index_or}
use Rattle.std.specs.List.{AllByRecursion}
use Rattle.sm_placement.specs.Setup.{Setup, sizes_of}
use Rattle.sm_placement.specs.Sums.{put2}
use Rattle.sm_protocol.specs.State.{State}
use Rattle.sm_protocol.proofs.Courses.{some_same}
use Rattle.sm_agent.specs.declared.base.Base.{Base as AgentBase}
use Rattle.laws_network.specs.Net.{Order}
use Rattle.laws_network.specs.Laws.{is_for}
use Rattle.laws_network.specs.World.{World}
use Rattle.laws_network.specs.Controller.{JournalEntry, Restore as ServerRestore, replayed}
use Rattle.laws_network.specs.Fleet.{Fleet, controller, has_lost}
use Rattle.laws_network.specs.FleetLaws.{IsFleetReached}
use Rattle.laws_network.specs.Reopening.{Reopen, Server, Settlement, Settling, entered, records, sends}
use Rattle.laws_network.specs.ReopeningLaws.{EachSettling, IsOutset, IsSettlingReached}
use Rattle.laws_network.specs.FleetReopening.{base_by, bases_of, restore_seen, settling_of}
use Rattle.laws_network.proofs.Deliveries.{shade_of}
use Rattle.laws_network.proofs.Lists.{all_append, all_at, all_map}
use Rattle.laws_network.proofs.Overlay.{put2-at}
use Rattle.laws_network.proofs.OfFleet.{net_of}
use Rattle.laws_network.proofs.Reaching.{fleet_shadow}
use Rattle.laws_network.proofs.Shadow.{IsLetter, IsRestore, IsShadow}
use Rattle.laws_reopening.specs.Renumbering.{FleetOpensAs, Renumbering}
use Rattle.laws_reopening.specs.Service.{AllServiceFit, Begins, EachService, Goes, MayBegin, MayOpen, Meets, Opens, Reopens, Runs, Service, ServiceEvent, ServiceFits, opened_on, service_comes, service_run}
use Rattle.laws_reopening.specs.ServiceLaws.{IsWithinLaws}
use Rattle.laws_reopening.specs.OrderLaws.{OldOrdersRest, OrderActsOnce, effects_by, effects_of}
use Rattle.laws_reopening.proofs.Followed.{fences_are}
use Rattle.laws_reopening.proofs.Numbers.{low_orders, top}
use Rattle.laws_reopening.proofs.Watched.{watched_begun}
use Rattle.laws_reopening.proofs.Within.{fleet_on, opening_reached, within_laws, within_next}
use Rattle.laws_reopening.proofs.PermitEnds.{IsAbove, above_run}
use Rattle.laws_reopening.proofs.Ordered.{IsClosed, IsLate, IsMade, IsShut, IsSound, closed_next, open_next, served_next, shut_next, sound_next}

-- ---- a reopening begins

-- what stands at a place of a list is read there, and the place is one of it
read_at : {A : Type 0} (xs : List A) (k : ℕ) (a d : A) → slice_get xs k ≡ Some a → (slice_index_or xs k d ≡ a) × (k < length xs)
read_at [] k a d e = absurd (cc)
read_at (x ∷ xs) zero a d e = (some_same x a e, omega arith)
read_at (x ∷ xs) (suc k) a d e = let r = read_at xs k a d e in (r.0, let z = r.1 in omega arith)

all_image : {A B : Type 0} (P : B → Type 0) (f : A → B) (xs : List A) → AllByRecursion (λ a. P (f a)) xs → AllByRecursion P (map f xs)
all_image P f [] all = tt
all_image P f (x ∷ xs) all = (all.0, all_image P f xs all.1)

nonce_by : (b : AgentBase) (o : Option ℕ) → (base_by b o).nonce ≡ o
nonce_by b None = refl
nonce_by b (Some n) = refl

number_by : (b : AgentBase) (o : Option ℕ) → o ≡ None → (base_by b o).number ≡ b.number
number_by b None e = refl
number_by b (Some n) e = absurd (cc)

module _ (setup : Setup) (f : Fleet) (r : IsFleetReached setup f) (world : World) (base servers : ℕ) (lost : ℕ → Bool) (m : MayBegin setup f world base lost) where
  outset : IsOutset setup (settling_of f world)
  outset = subst (λ w. IsOutset setup (settling_of f w)) m.world_is m.over.outset

  abbrev begun : Settling
  begun = records (settling_of f world) (Reopen base servers lost)

  low_is : top outset.world.net ≡ (controller f).base + length (controller f).w.log + 1
  low_is =
      let a = ap (λ (z : World). z.net.base) outset.same in
      let b = ap (λ (z : World). length z.net.w.log) outset.same in
      let c = ap (λ (z : World). z.net.base) m.world_is in
      let d = ap (λ (z : World). length z.net.w.log) m.world_is in
      let e = m.over.base in
      let g = ap (λ (w : State). length w.log) m.over.record_is in
      omega arith

  nonce_is : (v : ℕ) → (bases_of f (Server v)).nonce ≡ (f.servers v).base.nonce
  nonce_is v = nonce_by (f.servers v).base (f.servers v).base.nonce

  has_kept : (v : ℕ) → (bases_of f (Server v)).nonce ≡ None → has_lost f v ≡ false
  has_kept v e = ap is_some (sym (nonce_is v) ∙ e)

  number_is : (v : ℕ) → (bases_of f (Server v)).nonce ≡ None → (bases_of f (Server v)).number ≡ (f.servers v).base.number
  number_is v e = number_by (f.servers v).base (f.servers v).base.nonce (sym (nonce_is v) ∙ e)

  -- a restore, as the reopening sees it
  module _ (low : ℕ → ℕ → ℕ) (k : IsShadow setup low f) (q : ServerRestore) (g : IsRestore (controller f) f k.shade.last q) where
    restore_made : q.restoration.nonce < suc (length f.asks)
    restore_made = let a = g.asked.1 in let b = (read_at f.asks g.asked.0 g.server 0 g.asked.2).1 in omega arith

    restore_to : slice_index_or f.asks (pred q.restoration.nonce) 0 ≡ g.server
    restore_to = ap (λ n. slice_index_or f.asks (pred n) 0) g.asked.1 ∙ (read_at f.asks g.asked.0 g.server 0 g.asked.2).0

  sound_begun : IsSound (top outset.world.net) (records (settling_of f world) (Reopen base servers lost))
  sound_begun =
      let w = watched_begun setup (settling_of f world) outset base servers lost m.may in
      let k = fleet_shadow setup f r in record {
        above = w.above;
        sent = w.sent;
        messages = all_append (IsMade (top outset.world.net) (suc (length f.asks))) (map (restore_seen f) (controller f).restores) (sends (Reopen base servers lost) (entered (Reopen base servers lost) (settling_of f world).reopening))
            (all_image (IsMade (top outset.world.net) (suc (length f.asks))) (restore_seen f) (controller f).restores
            (all_map (IsRestore (controller f) f k.shade.last) (λ q. q.restoration.nonce < suc (length f.asks)) (controller f).restores (restore_made (λ s v. 0) k) k.restores))
            (fences_are (IsMade (top outset.world.net) (suc (length f.asks))) base servers lost (entered (Reopen base servers lost) (settling_of f world).reopening) (λ p. tt));
      }

  module _ (s v number : ℕ) where
    -- a number that a fleet is closed for is below what a reopening is above
    closed_low : IsClosed s v number setup f → number ≤ top outset.world.net
    closed_low (inl l) = let a = (fleet_shadow setup f r).fence in let b = low_is in omega arith
    closed_low (inr k) =
        let a = k.above s v in
        let b = put2-at (λ r u. 0) s v number s v refl refl in
        let c = (low_orders setup (shade_of f k).net (net_of f k)).lasts s v in
        let d = low_is in
        omega arith

    -- and the cell is shut for it
    closed_shut : IsClosed s v number setup f → IsShut s v number (records (settling_of f world) (Reopen base servers lost))
    closed_shut c = record {
      known = λ e. known e c;
      restores = all_append (IsLate s v number (bases_of f (Server v))) (map (restore_seen f) (controller f).restores) (sends (Reopen base servers lost) (entered (Reopen base servers lost) (settling_of f world).reopening))
          (late c) (fences_are (IsLate s v number (bases_of f (Server v))) base servers lost (entered (Reopen base servers lost) (settling_of f world).reopening) (λ p. tt));
    }
      where
        known : (bases_of f (Server v)).nonce ≡ None → IsClosed s v number setup f → (number ≤ (if has_lost f v then 0 else ((f.servers v).slots s).last)) ⊎ (number ≤ (bases_of f (Server v)).number)
        known e (inl l) = inr (let a = ((fleet_shadow setup f r).servers v (has_kept v e)).fence in let b = number_is v e in omega arith)
        known e (inr k) =
            let a = k.above s v in
            let b = put2-at (λ r u. 0) s v number s v refl refl in
            let n = number_is v e in
            let is : (if has_lost f v then 0 else ((f.servers v).slots s).last) ≡ ((f.servers v).slots s).last = ap (λ b. if b then 0 else ((f.servers v).slots s).last) (has_kept v e) in
            elim ((k.servers v (has_kept v e)).lasts s) [
              | inl q ↦ inl (let z = q.1 in omega arith)
              | inr q ↦ inr (let z = q.1 in omega arith)
            ]

        late : IsClosed s v number setup f → AllByRecursion (IsLate s v number (bases_of f (Server v))) (map (restore_seen f) (controller f).restores)
        late (inl l) =
            let k = fleet_shadow setup f r in
            all_image (IsLate s v number (bases_of f (Server v))) (restore_seen f) (controller f).restores
            (all_map (IsRestore (controller f) f k.shade.last) (λ q. IsLate s v number (bases_of f (Server v)) (restore_seen f q)) (controller f).restores (λ q g a e. let z = g.fence in omega arith) k.restores)
        late (inr k) = all_image (IsLate s v number (bases_of f (Server v))) (restore_seen f) (controller f).restores
            (all_map (IsRestore (controller f) f k.shade.last) (λ q. IsLate s v number (bases_of f (Server v)) (restore_seen f q)) (controller f).restores one k.restores)
          where
            one : (q : ServerRestore) → IsRestore (controller f) f k.shade.last q → IsLate s v number (bases_of f (Server v)) (restore_seen f q)
            one q g a e =
                let at_v : g.server ≡ v = sym (restore_to (put2 (λ r u. 0) s v number) k q g) ∙ a in
                let c = (g.cells (subst (λ u. (f.servers u).base.nonce ≡ Some q.restoration.nonce) (sym at_v) (sym (nonce_is v) ∙ e)) s).1 in
                let d : k.shade.last s v ≤ q.restoration.number = subst (λ u. k.shade.last s u ≤ q.restoration.number) at_v c in
                let x = k.above s v in
                let b = put2-at (λ r u. 0) s v number s v refl refl in
                omega arith

-- ---- what was counted

pub record IsOrderedFleet (s v number n : ℕ) (setup : Setup) (f : Fleet) : Type 0 where
  pub most : n ≤ 1
  pub reached : IsFleetReached setup f
  pub so : (n ≡ 0) ⊎ IsClosed s v number setup f

pub record IsOrderedSettling (s v number n : ℕ) (setup : Setup) (f : Fleet) (x : Settling) : Type 0 where
  pub most : n ≤ 1
  pub reached : IsFleetReached setup f
  pub settling : IsSettlingReached setup x
  pub low : ℕ
  pub sound : IsSound low x
  pub so : (n ≡ 0) ⊎ ((number ≤ low) × IsShut s v number x)

abbrev pub IsOrdered : ℕ → ℕ → ℕ → ℕ → Service → Type 0
IsOrdered s v number n (Runs setup f) = IsOrderedFleet s v number n setup f
IsOrdered s v number n (Reopens setup f x) = IsOrderedSettling s v number n setup f x

-- a fleet that a controller opens on is closed for what is at or below the reopening
opened_closed : (s v number : ℕ) (setup : Setup) (f : Fleet) (x : Settling) (numbers : Renumbering) (new : Settlement) (g : Fleet) (m : MayOpen setup f x numbers new g) → number ≤ x.reopening.base →
    IsClosed s v number new.setup g
opened_closed s v number setup f x numbers new g m l = inl (
    let a = ap (λ (j : List JournalEntry). (replayed g.start j).fence) m.opens.journal in
    let b = m.opens.fence in
    omega arith
    )

module _ (opens : EachSettling FleetOpensAs) (s v number : ℕ) where
  ordered_next : (n : ℕ) (p : Service) (e : ServiceEvent) → ServiceFits p e → IsOrdered s v number n p → IsOrdered s v number (n + count_by (is_for s v number) (effects_by p e)) (service_comes p e)
  ordered_next n (Runs setup f) (Goes e) fits o = elim o.so [
    | inl z ↦ elim (open_next s v number setup f o.reached e fits) [
      | inl c ↦ record { most = omega arith; reached = fleet_on setup f (e ∷ []) o.reached (fits, tt); so = inl (omega arith) }
      | inr c ↦ record { most = (let a = c.0 in omega arith); reached = fleet_on setup f (e ∷ []) o.reached (fits, tt); so = inr c.2 }
    ]
    | inr k ↦ (
        let c = closed_next s v number setup f o.reached e fits k in
        record { most = (let a = c.0 in let b = o.most in omega arith); reached = fleet_on setup f (e ∷ []) o.reached (fits, tt); so = inr c.1 }
        )
  ]
  ordered_next n (Runs setup f) (Begins world base servers lost) fits o =
      let w = within_next opens (Runs setup f) (Begins world base servers lost) fits o.reached in record {
        most = (let a = o.most in omega arith);
        reached = o.reached;
        settling = w.1;
        low = top (outset setup f o.reached world base servers lost fits).world.net;
        sound = sound_begun setup f o.reached world base servers lost fits;
        so = elim o.so [
          | inl z ↦ inl (omega arith)
          | inr k ↦ inr (closed_low setup f o.reached world base servers lost fits s v number k, closed_shut setup f o.reached world base servers lost fits s v number k)
        ];
      }
  ordered_next n (Runs setup f) (Meets e) fits o = record { most = (let a = o.most in omega arith); reached = o.reached; so = elim o.so [ inl z ↦ inl (omega arith) | inr k ↦ inr k ] }
  ordered_next n (Runs setup f) (Opens numbers new g) fits o = record { most = (let a = o.most in omega arith); reached = o.reached; so = elim o.so [ inl z ↦ inl (omega arith) | inr k ↦ inr k ] }
  ordered_next n (Reopens setup f x) (Goes e) fits o = record { most = (let a = o.most in omega arith); reached = o.reached; settling = o.settling; low = o.low; sound = o.sound; so = elim o.so [ inl z ↦ inl (omega arith) | inr k ↦ inr k ] }
  ordered_next n (Reopens setup f x) (Begins world base servers lost) fits o = record { most = (let a = o.most in omega arith); reached = o.reached; settling = o.settling; low = o.low; sound = o.sound; so = elim o.so [ inl z ↦ inl (omega arith) | inr k ↦ inr k ] }
  ordered_next n (Reopens setup f x) (Meets e) fits o =
      let w = within_next opens (Reopens setup f x) (Meets e) fits (o.reached, o.settling) in
      let sound = sound_next o.low x e fits o.sound in
      elim o.so [
        | inl z ↦ elim (served_next s v number o.low x o.sound e fits) [
          | inl c ↦ record { most = omega arith; reached = o.reached; settling = w.1; low = o.low; sound = sound; so = inl (omega arith) }
          | inr c ↦ record { most = (let a = c.0 in omega arith); reached = o.reached; settling = w.1; low = o.low; sound = sound; so = inr (c.1, c.2) }
        ]
        | inr k ↦ (
            let c = shut_next s v number o.low x o.sound e fits k.0 k.1 in
            record { most = (let a = c.0 in let b = o.most in omega arith); reached = o.reached; settling = w.1; low = o.low; sound = sound; so = inr (k.0, c.1) }
            )
      ]
  ordered_next n (Reopens setup f x) (Opens numbers new g) fits o =
      let same : n ≡ n + 0 = omega arith in
      let there = opening_reached new.setup g (opens setup x o.settling fits.settlement new numbers g fits.settled fits.took fits.renumbered fits.opens) in
      let after : IsOrderedFleet s v number n new.setup g = record {
        most = o.most;
        reached = there;
        so = elim o.so [ inl z ↦ inl z | inr k ↦ inr (opened_closed s v number setup f x numbers new g fits (let a = k.0 in let b = o.sound.above in omega arith)) ];
      } in
      subst (λ k. IsOrdered s v number k (service_comes (Reopens setup f x) (Opens numbers new g))) same (subst (λ q. IsOrdered s v number n (opened_on (Reopens setup f x) new.setup g q)) (sym fits.settled) after)

  ordered_run : (n : ℕ) (es : List ServiceEvent) (p : Service) → AllServiceFit es p → IsOrdered s v number n p → n + effects_of s v number es p ≤ 1
  ordered_run n [] p fit o = let a = most_of p o in omega arith
    where
      most_of : (p : Service) → IsOrdered s v number n p → n ≤ 1
      most_of (Runs setup f) o = o.most
      most_of (Reopens setup f x) o = o.most
  ordered_run n (e ∷ es) p fit o =
      let a = ordered_run (n + count_by (is_for s v number) (effects_by p e)) es (service_comes p e) fit.1 (ordered_next n p e fit.0 o) in
      omega arith

-- ---- wherever events lead

-- nothing was counted yet, of an order of any number
abbrev IsSoundService : Service → Type 0
IsSoundService p = IsOrdered 0 0 0 0 p

sound_run : EachSettling FleetOpensAs → (es : List ServiceEvent) (p : Service) → AllServiceFit es p → (n : ℕ) → IsOrdered 0 0 0 n p → (k : ℕ) × IsOrdered 0 0 0 k (service_run es p)
sound_run opens [] p fit n o = (n, o)
sound_run opens (e ∷ es) p fit n o = sound_run opens es (service_comes p e) fit.1 (n + count_by (is_for 0 0 0) (effects_by p e)) (ordered_next opens 0 0 0 n p e fit.0 o)

start_over : (s v number k : ℕ) (p : Service) → IsOrdered 0 0 0 k p → IsOrdered s v number 0 p
start_over s v number k (Runs setup f) o = record { most = omega arith; reached = o.reached; so = inl refl }
start_over s v number k (Reopens setup f x) o = record { most = omega arith; reached = o.reached; settling = o.settling; low = o.low; sound = o.sound; so = inl refl }

-- each order has its effect at most once
pub order_acts_once : EachSettling FleetOpensAs → EachService OrderActsOnce
order_acts_once opens p r es s v number fit =
    let o = sound_run opens r.events (Runs r.setup r.first) r.fit 0 (record { most = omega arith; reached = opening_reached r.setup r.first r.opening; so = inl refl }) in
    let z = ordered_run opens s v number 0 es p fit (start_over s v number o.0 p (subst (IsOrdered 0 0 0 o.0) (sym r.state) o.1)) in
    omega arith

-- and an old one has none
pub old_orders_rest : EachSettling FleetOpensAs → EachService OldOrdersRest
old_orders_rest opens p r = by_service p (within_laws opens p r) (subst IsAbove (sym r.state) (above_run r.events (Runs r.setup r.first) r.fit tt))
  where
    by_service : (p : Service) → IsWithinLaws p → IsAbove p → OldOrdersRest p
    by_service (Runs setup f) w a = tt
    by_service (Reopens setup f x) w a = λ numbers new g l es s v m i fit.
        let k = fleet_shadow setup f w.0 in
        let z = low_orders setup (shade_of f k).net (net_of f k) in
        let among = (all_at (IsLetter (sizes_of setup) k.shade) f.sent i.0 l k.sent i.1).among in
        let low = all_at (λ (o : Order). o.number ≤ top (shade_of f k).net) k.shade.sent among.0 l.order z.sent among.1 in
        let log = z.log in
        let below : l.order.number ≤ x.reopening.base = omega arith in
        let after : IsOrderedFleet s v l.order.number 1 new.setup g = record {
          most = omega arith;
          reached = opening_reached new.setup g (opens setup x w.1 m.settlement new numbers g m.settled m.took m.renumbered m.opens);
          so = inr (opened_closed s v l.order.number setup f x numbers new g m below);
        } in
        let q = ordered_run opens s v l.order.number 1 es (service_comes (Reopens setup f x) (Opens numbers new g)) fit
        (subst (λ q. IsOrdered s v l.order.number 1 (opened_on (Reopens setup f x) new.setup g q)) (sym m.settled) after) in
        omega arith
