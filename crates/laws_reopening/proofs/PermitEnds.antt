-- A permit ends at most one restart, along any list of what may happen to the service.
use Rattle.std.proofs.Common.{◌≡◌, ◌≢◌, ◌≤◌, ◌<◌, ◌⊎◌, ℕ, suc, ◌+◌, refl, sym, ap, ◌∙◌, inl, inr, subst, arith, Bool, true, false, Option, Some, None, List, [], ◌∷◌, ◌++◌}
use Rattle.std.specs.Prelude.{if◌then◌else◌, is_some, slice_get, ◌==◌, ◌&&◌}
use Rattle.std.proofs.lemmas.Bool.{cases_lt}
use Rattle.sm_placement.specs.Setup.{Setup, sizes_of}
use Rattle.sm_placement.specs.Sums.{bit}
use Rattle.laws_network.specs.Net.{Quiet}
use Rattle.laws_network.specs.World.{World, world_comes}
use Rattle.laws_network.specs.Controller.{Controller, EPOCH, JournalEntry, replayed}
use Rattle.laws_network.specs.Fleet.{Fleet, FleetEvent, controller, fleet_comes, fleet_run}
use Rattle.laws_network.specs.FleetLaws.{AllFleetFit, EachFleet, IsFleetReached, PermitsEndOnce, restarts_ended}
use Rattle.laws_network.specs.Reopening.{Arrives, Comes, Confirm, Fence, Fenced, Forgets, MapOwner, Message, Party, Records, Reopen, Restore, Server, Settle, Settled, Settlement, Settling, SettlingEvent, Told, Took, after_fence, arrives, fence_comes, granted, in_world, inventory_by, is_fenced_at, is_first, is_settled_at, is_taken, names_nonce, part_taken, put_party, settle_comes, settling_comes, takes_settle, with_messages}
use Rattle.laws_network.specs.ReopeningLaws.{EachSettling, IsSettlingReached, SettlingFits}
use Rattle.laws_reopening.specs.Renumbering.{FleetOpensAs, Renumbering}
use Rattle.laws_reopening.specs.Service.{AllServiceFit, Begins, EachService, Goes, MayOpen, Meets, Opens, Reopens, Runs, Service, ServiceEvent, ServiceFits, opened_on, service_comes, service_run}
use Rattle.laws_reopening.specs.PermitLaws.{PermitEndsOnce, ended_by, ends_by}
use Rattle.laws_reopening.specs.ServiceLaws.{IsWithinLaws}
use Rattle.laws_reopening.proofs.Within.{fits_append, fleet_on, opening_reached, run_append, within_laws, within_next}
use Rattle.laws_reopening.proofs.Permits.{IsSpent, ended_append, ended_lost, ended_low, reached_held, spent_ends_none}

-- ---- the number of a reopening

-- it is never lower
pub number_grows : (x : Settling) (e : SettlingEvent) → SettlingFits x e → x.reopening.base ≤ (settling_comes x e).1.reopening.base
number_grows x (Comes e) fits = go (is_taken x e)
  where
    go : (b : Bool) → x.reopening.base ≤ (if b then in_world x (world_comes x.world e) else (Quiet, x)).1.reopening.base
    go true = omega arith
    go false = omega arith
number_grows x (Forgets v) fits = omega arith
number_grows x (Records (Reopen base servers lost)) fits = let a = fits.later in omega arith
number_grows x (Records (Confirm s)) fits = omega arith
number_grows x (Records (Told p number i)) fits = absurd fits
number_grows x (Records (Took p number)) fits = absurd fits
number_grows x (Arrives k reached) fits = by_message (slice_get x.messages k)
  where
    by_fence : (p : Party) (number : ℕ) → x.reopening.base ≤ (fence_comes x p number reached).reopening.base
    by_fence p number = go (is_fenced_at number (after_fence (x.bases p) number x.nonces))
      where
        go : (b : Bool) →
            x.reopening.base ≤ (if b then with_messages (record x { bases = put_party x.bases p (after_fence (x.bases p) number x.nonces); nonces = suc x.nonces })
            (Fenced p number (inventory_by x p (after_fence (x.bases p) number x.nonces).nonce reached) ∷ [])
            else (record x { bases = put_party x.bases p (after_fence (x.bases p) number x.nonces); nonces = suc x.nonces })).reopening.base
        go true = omega arith
        go false = omega arith

    by_settle : (p : Party) (number : ℕ) (nonce : Option ℕ) (s : Settlement) → x.reopening.base ≤ (settle_comes x p number nonce s).reopening.base
    by_settle p number asked s = go p (takes_settle number asked (x.bases p)) (is_settled_at number (x.bases p))
      where
        go : (p : Party) (a b : Bool) → x.reopening.base ≤ (if a then with_messages (part_taken x p number s) (Settled p number ∷ []) else if b then with_messages x (Settled p number ∷ []) else x).reopening.base
        go (Server v) true b = omega arith
        go MapOwner true b = omega arith
        go p false true = omega arith
        go p false false = omega arith

    by_message : (o : Option Message) → x.reopening.base ≤ (arrives x reached o).reopening.base
    by_message None = omega arith
    by_message (Some (Fence p number)) = by_fence p number
    by_message (Some (Settle p number asked s)) = by_settle p number asked s
    by_message (Some (Restore v asked number sizes cells)) = go (names_nonce (x.bases (Server v)).nonce (Some asked))
      where
        go : (b : Bool) → x.reopening.base ≤ (if b then granted x v number sizes cells else x).reopening.base
        go true = omega arith
        go false = omega arith
    by_message (Some (Fenced p number i)) = go (is_first x.reopening p number)
      where
        go : (b : Bool) → x.reopening.base ≤ (if b then record x.reopening { told = put_party x.reopening.told p (Some i) } else x.reopening).base
        go true = omega arith
        go false = omega arith
    by_message (Some (Settled p number)) = go (number == x.reopening.base && is_some x.reopening.settlement)
      where
        go : (b : Bool) → x.reopening.base ≤ (if b then record x.reopening { settled = put_party x.reopening.settled p true } else x.reopening).base
        go true = omega arith
        go false = omega arith

-- ---- what was counted so far

-- so many restarts have ended along events that lead to this fleet
pub record IsCountedFrom (setup : Setup) (permit n : ℕ) (f : Fleet) : Type 0 where
  pub first : Fleet
  pub reached : IsFleetReached setup first
  pub events : List FleetEvent
  pub fit : AllFleetFit setup first events
  pub state : f ≡ fleet_run events first
  pub count : restarts_ended permit events first ≡ n

-- so many have ended at most by this permit: it is spent, or they have ended in this epoch
pub record IsCounted (setup : Setup) (permit n : ℕ) (f : Fleet) : Type 0 where
  pub most : n ≤ 1
  pub reached : IsFleetReached setup f
  pub so : IsSpent permit (controller f) ⊎ IsCountedFrom setup permit n f

abbrev pub IsTallied : ℕ → ℕ → Service → Type 0
IsTallied permit n (Runs setup f) = IsCounted setup permit n f
IsTallied permit n (Reopens setup f x) = IsCounted setup permit n f × IsSettlingReached setup x × ((controller f).base + EPOCH ≤ x.reopening.base)

-- nothing was counted yet
counted_none : (setup : Setup) (permit : ℕ) (f : Fleet) → IsFleetReached setup f → IsCounted setup permit 0 f
counted_none setup permit f r = record { most = omega arith; reached = r; so = inr (record { first = f; reached = r; events = []; fit = tt; state = refl; count = refl }) }

-- one event of the fleet
counted_next : EachFleet PermitsEndOnce → (setup : Setup) (permit n : ℕ) (f : Fleet) (e : FleetEvent) → AllFleetFit setup f (e ∷ []) → IsCounted setup permit n f →
    IsCounted setup permit (n + bit (ends_by permit (Runs setup f) (Goes e))) (fleet_comes f e).1
counted_next once setup permit n f e fit c = elim c.so [
  | inl s ↦ (
      let z = spent_ends_none permit f e s in
      record { most = (let a = z.0 in let b = c.most in omega arith); reached = fleet_on setup f (e ∷ []) c.reached fit; so = inl z.1 }
      )
  | inr k ↦ by_count k
]
  where
    by_count : IsCountedFrom setup permit n f → IsCounted setup permit (n + bit (ends_by permit (Runs setup f) (Goes e))) (fleet_comes f e).1
    by_count k =
        let longer = fits_append setup k.events (e ∷ []) k.first k.fit (subst (λ g. AllFleetFit setup g (e ∷ [])) k.state fit) in
        let all = once setup k.first k.reached (k.events ++ e ∷ []) permit longer in
        let parts = ended_append permit k.events (e ∷ []) k.first in
        let last : restarts_ended permit (e ∷ []) (fleet_run k.events k.first) ≡ bit (ends_by permit (Runs setup f) (Goes e)) + 0 = ap (λ g. restarts_ended permit (e ∷ []) g) (sym k.state) in
        let before = k.count in
        record {
          most = omega arith;
          reached = fleet_on setup f (e ∷ []) c.reached fit;
          so = inr (record {
            first = k.first;
            reached = k.reached;
            events = k.events ++ e ∷ [];
            fit = longer;
            state = ap (λ g. (fleet_comes g e).1) k.state ∙ sym (run_append k.events (e ∷ []) k.first);
            count = omega arith;
          });
        }

-- what has ended a restart is spent once a controller opens
counted_open : EachFleet PermitsEndOnce → (setup : Setup) (permit n : ℕ) (f : Fleet) (x : Settling) (numbers : Renumbering) (new : Settlement) (g : Fleet) (m : MayOpen setup f x numbers new g) → IsCounted setup permit n f →
    (controller f).base + EPOCH ≤ x.reopening.base → IsFleetReached new.setup g → IsCounted new.setup permit n g
counted_open once setup permit n f x numbers new g m c high there = elim (cases_lt 0 n) [
  | inr l ↦ (let z : 0 ≡ n = omega arith in subst (λ k. IsCounted new.setup permit k g) z (counted_none new.setup permit g there))
  | inl l ↦ record { most = c.most; reached = there; so = inl (spent l) }
]
  where
    starts : controller g ≡ g.start
    starts = ap (λ (j : List JournalEntry). replayed g.start j) m.opens.journal

    low_by : 0 < n → IsSpent permit (controller f) ⊎ IsCountedFrom setup permit n f → permit ≤ x.reopening.base
    low_by l (inl s) = let a = s.past in omega arith
    low_by l (inr k) =
        let q = k.count in
        let a = ended_low setup permit k.events k.first k.reached k.fit (reached_held setup k.first k.reached) (omega arith) in
        let b = ap (λ (h : Fleet). (controller h).base) k.state in
        omega arith

    gone_by : 0 < n → IsSpent permit (controller f) ⊎ IsCountedFrom setup permit n f → (v : ℕ) → v < (sizes_of setup).servers → (controller f).permits v ≢ Some permit
    gone_by l (inl s) v known e = s.none v e
    gone_by l (inr k) v known e =
        let q = k.count in
        ended_lost setup permit k.events k.first once k.reached k.fit (omega arith) v known (sym (ap (λ (h : Fleet). (controller h).permits v) k.state) ∙ e)

    spent : 0 < n → IsSpent permit (controller g)
    spent l = record {
      past = (let a = low_by l c.so in let b = m.opens.base in let d = ap (λ (q : Controller). q.base) starts in omega arith);
      none = λ v e. elim (m.permits v permit (sym (ap (λ (q : Controller). q.permits v) starts) ∙ e)) [
        | inl h ↦ gone_by l c.so h.0 h.2 h.3
        | inr h ↦ absurd (let a = low_by l c.so in omega arith)
      ];
    }

-- ---- all events

tallied_next : EachFleet PermitsEndOnce → EachSettling FleetOpensAs → (permit n : ℕ) (p : Service) (e : ServiceEvent) → ServiceFits p e → IsTallied permit n p → IsTallied permit (n + bit (ends_by permit p e)) (service_comes p e)
tallied_next once opens permit n (Runs setup f) (Goes e) fits t = counted_next once setup permit n f e (fits, tt) t
tallied_next once opens permit n (Runs setup f) (Begins world base servers lost) fits t =
    let same : n ≡ n + 0 = omega arith in
    subst (λ k. IsTallied permit k (service_comes (Runs setup f) (Begins world base servers lost))) same
    (t, (within_next opens (Runs setup f) (Begins world base servers lost) fits t.reached).1, above)
  where
    above : (controller f).base + EPOCH ≤ base
    above = let a = fits.may.places in let b = fits.over.base in let d = ap (λ (w : World). w.net.base) fits.world_is in omega arith
tallied_next once opens permit n (Runs setup f) (Meets e) fits t = let same : n ≡ n + 0 = omega arith in subst (λ k. IsCounted setup permit k f) same t
tallied_next once opens permit n (Runs setup f) (Opens numbers new g) fits t = let same : n ≡ n + 0 = omega arith in subst (λ k. IsCounted setup permit k f) same t
tallied_next once opens permit n (Reopens setup f x) (Goes e) fits t = let same : n ≡ n + 0 = omega arith in subst (λ k. IsTallied permit k (Reopens setup f x)) same t
tallied_next once opens permit n (Reopens setup f x) (Begins world base servers lost) fits t = let same : n ≡ n + 0 = omega arith in subst (λ k. IsTallied permit k (Reopens setup f x)) same t
tallied_next once opens permit n (Reopens setup f x) (Meets e) fits t =
    let same : n ≡ n + 0 = omega arith in
    subst (λ k. IsTallied permit k (Reopens setup f (settling_comes x e).1)) same
    (t.0, (within_next opens (Reopens setup f x) (Meets e) fits (t.0.reached, t.1)).1, (let a = number_grows x e fits in let b = t.2 in omega arith))
tallied_next once opens permit n (Reopens setup f x) (Opens numbers new g) fits t =
    let same : n ≡ n + 0 = omega arith in
    subst (λ k. IsTallied permit k (service_comes (Reopens setup f x) (Opens numbers new g))) same
    (subst (λ o. IsTallied permit n (opened_on (Reopens setup f x) new.setup g o)) (sym fits.settled)
    (counted_open once setup permit n f x numbers new g fits t.0 t.2
    (opening_reached new.setup g (opens setup x t.1 fits.settlement new numbers g fits.settled fits.took fits.renumbered fits.opens))))

tallied_run : EachFleet PermitsEndOnce → EachSettling FleetOpensAs → (permit n : ℕ) (es : List ServiceEvent) (p : Service) → AllServiceFit es p → IsTallied permit n p → n + ended_by permit es p ≤ 1
tallied_run once opens permit n [] p fit t = let a = most_of p t in omega arith
  where
    most_of : (p : Service) → IsTallied permit n p → n ≤ 1
    most_of (Runs setup f) t = t.most
    most_of (Reopens setup f x) t = t.0.most
tallied_run once opens permit n (e ∷ es) p fit t = let a = tallied_run once opens permit (n + bit (ends_by permit p e)) es (service_comes p e) fit.1 (tallied_next once opens permit n p e fit.0 t) in omega arith

-- ---- wherever events lead

-- a reopening's number is above the epoch that it ended
abbrev pub IsAbove : Service → Type 0
IsAbove (Runs setup f) = Unit {0}
IsAbove (Reopens setup f x) = (controller f).base + EPOCH ≤ x.reopening.base

above_next : (p : Service) (e : ServiceEvent) → ServiceFits p e → IsAbove p → IsAbove (service_comes p e)
above_next (Runs setup f) (Goes e) fits a = tt
above_next (Runs setup f) (Begins world base servers lost) fits a = let c = fits.may.places in let b = fits.over.base in let d = ap (λ (w : World). w.net.base) fits.world_is in omega arith
above_next (Runs setup f) (Meets e) fits a = tt
above_next (Runs setup f) (Opens numbers new g) fits a = tt
above_next (Reopens setup f x) (Goes e) fits a = a
above_next (Reopens setup f x) (Begins world base servers lost) fits a = a
above_next (Reopens setup f x) (Meets e) fits a = let b = number_grows x e fits in omega arith
above_next (Reopens setup f x) (Opens numbers new g) fits a = subst (λ o. IsAbove (opened_on (Reopens setup f x) new.setup g o)) (sym fits.settled) tt

-- so it stays along events
pub above_run : (es : List ServiceEvent) (p : Service) → AllServiceFit es p → IsAbove p → IsAbove (service_run es p)
above_run [] p fit a = a
above_run (e ∷ es) p fit a = above_run es (service_comes p e) fit.1 (above_next p e fit.0 a)

tallied_none : (permit : ℕ) (p : Service) → IsWithinLaws p → IsAbove p → IsTallied permit 0 p
tallied_none permit (Runs setup f) w a = counted_none setup permit f w
tallied_none permit (Reopens setup f x) w a = (counted_none setup permit f w.0, w.1, a)

-- a permit ends at most one restart
pub permits_end_once : EachFleet PermitsEndOnce → EachSettling FleetOpensAs → EachService PermitEndsOnce
permits_end_once once opens p r es permit fit =
    let w = within_laws opens p r in
    let a = subst IsAbove (sym r.state) (above_run r.events (Runs r.setup r.first) r.fit tt) in
    let z = tallied_run once opens permit 0 es p fit (tallied_none permit p w a) in
    omega arith
