-- The settlements that may be confirmed, from what is checked of parties and of cells.
use Rattle.std.proofs.Common.{◌≡◌, ◌≢◌, ◌∙◌, ◌<◌, ◌≤◌, ◌⊎◌, ℕ, Bool, true, false, ltb, Option, Some, None, List, length, get_or, refl, sym, ap, subst, arith, inl, inr}
use Rattle.std.specs.Prelude.{◌&&◌, ◌==◌, is_some, is_none, not, nat_le, nat_lt, option_map, slice_index_or}
use Rattle.std.proofs.lemmas.Bool.{and_from, and_parts, cases_lt, le-ltb, leb-true, ltb-true, not-true}
use Rattle.std.proofs.lemmas.List.{get_or_past}
use Rattle.sm_server.specs.declared.call.Cell.{Cell}
use Rattle.sm_server.specs.declared.call.Cell.TheVariants.{Absent, Primary}
use Rattle.sm_placement.specs.Layout.{IsPlacement, place_of}
use Rattle.sm_placement.specs.Lead.{IsSettled}
use Rattle.sm_placement.specs.Place.{Place}
use Rattle.sm_placement.specs.Setup.{IsSetup, sizes_of}
use Rattle.sm_placement.specs.Opening.{first_below, is_handing}
use Rattle.sm_placement.proofs.Searches.{first_none, first_none_from}
use Rattle.sm_protocol.specs.Laws.{IsOpening}
use Rattle.laws_network.specs.Reopening.{Inventory, MapOwner, Server, Settlement, Slots, is_asked}
use Rattle.laws_network.specs.ReopeningLaws.{Keeps, is_carried}
use Rattle.sm_reopening.specs.declared.ongoing.OngoingReopening.{OngoingReopening}
use Rattle.sm_reopening.specs.declared.party.FoundSlot.{FoundSlot}
use Rattle.sm_reopening.specs.declared.party.Inventory.{Inventory as Told}
use Rattle.sm_reopening.specs.declared.party.Inventory.TheVariants as told
use Rattle.sm_reopening.specs.declared.party.Membership.TheVariants.{Member}
use Rattle.sm_reopening.specs.declared.state.ServerState.{ServerState}
use Rattle.sm_reopening.specs.States.{FitsShards, fits_told, fresh_state, is_gone, is_leaving, net_inventory, no_slot, shards_in, slot_at, slot_of, state_by}
use Rattle.sm_reopening.specs.Ongoing.{first_awaited, is_waited_for, is_complete, left_out_of, may_carry, told_copies, past_state, recorded_place, recorded_setup, net_reopening, shards_of, inventory_slot, told_slot}
use Rattle.sm_reopening.specs.Survivors.{standing_of, stands_above}
use Rattle.sm_reopening.specs.Faults.{IsFairAt, IsFairCell, IsFairSlot, IsTimely, KeepsSlot, MayConfirm, is_appointed, is_barred}
use Rattle.sm_reopening.proofs.Standings.{below_claims}

-- a server past all numbers is as one that has told nothing
state_past : (x : OngoingReopening) (v : ℕ) → length x.servers.items ≤ v → state_by x.servers.items v ≡ fresh_state Member
state_past x v l = get_or_past x.servers.items v (fresh_state Member) l

-- so nothing is known of it
pub none_told : (x : OngoingReopening) (v : ℕ) → length x.servers.items ≤ v → (net_reopening x).told (Server v) ≡ None
none_told x v l = ap (λ (s : ServerState). option_map net_inventory s.told) (state_past x v l)

-- it is asked for nothing
pub not_carried : (x : OngoingReopening) (v : ℕ) → length x.servers.items ≤ v → is_carried (net_reopening x) (past_state x) v ≡ false
not_carried x v l = ap (λ b. (b && not ((net_reopening x).lost v)) && (is_none ((net_reopening x).told (Server v)) && ((past_state x).place.down v && not ((net_reopening x).promised v)))) (le-ltb v (length x.servers.items) l)

-- what is told beyond the shards is nothing
pub nothing_beyond : (x : OngoingReopening) (k v : ℕ) (slot : FoundSlot) → FitsShards x.shards x.servers.items → x.shards ≤ k → told_slot x k v ≡ Some slot → slot.cell ≡ Absent
nothing_beyond x k v slot fits l e = go (state_by x.servers.items v).told (fits v) e
  where
    go : (t : Option Told) → fits_told x.shards t ≡ true → inventory_slot (option_map net_inventory t) (told_copies x k v) k ≡ Some slot → slot.cell ≡ Absent
    go (Some (told.Slots slots)) f s =
        let small : shards_in slots ≤ x.shards = leb-true (shards_in slots) x.shards f in
        let past : slot_of slots k ≡ no_slot = ap (slot_at slots.told.items) (get_or_past slots.places.items k 0 (omega arith)) in
        let same : (slot_of slots k).cell ≡ slot.cell = cc in
        sym same ∙ ap (λ (t : FoundSlot). t.cell) past
    go (Some (told.Unknown nonce)) f s = absurd (cc)
    go None f s = absurd (cc)

-- The demands on a settlement before it is looked at.
pub record IsReady (x : OngoingReopening) (s : Settlement) : Type 0 where
  pub rows : IsSetup s.setup
  pub placement : IsPlacement (sizes_of s.setup) s.place
  pub settled : IsSettled (sizes_of s.setup) s.place
  pub past : IsPlacement (sizes_of (recorded_setup x)) (recorded_place x)
  pub servers : length s.setup.servers ≤ (net_reopening x).servers
  pub shards : length s.setup.shards ≤ shards_of x

-- a settlement that is fair wherever there is a server and a shard is fair everywhere
pub fair_everywhere : (x : OngoingReopening) (s : Settlement) → IsReady x s → ((k v : ℕ) → k < shards_of x → v < (net_reopening x).servers → IsFairAt x s.place k v) → (k v : ℕ) → IsFairAt x s.place k v
fair_everywhere x s ready fair k v = elim (cases_lt v (length x.servers.items)) [
  | inl known ↦ elim (cases_lt k x.shards) [
    | inl few ↦ fair k v few known
    | inr beyond ↦
        let next : s.place.cells k v ≡ Absent = ready.placement.no_shard k v (omega (arith, ready.shards)) in
        let was : (recorded_place x).cells k v ≡ Absent = ready.past.no_shard k v (omega (arith, x.known_shards)) in
        let told : (slot : FoundSlot) → told_slot x k v ≡ Some slot → slot.cell ≡ Absent = λ slot e. nothing_beyond x k v slot x.fits beyond e in (
          record { lost = λ e. next; carried = λ e. next ∙ sym was; best = λ e u. absurd (let z = sym next ∙ e in cc) },
          record {
            left = λ slot e t. told slot t;
            kept = λ slot t. kept_absent slot.cell (s.place.cells k v) (told slot t) next;
            handed = λ slot t h. absurd (let z : is_handing slot.cell ≡ false = ap is_handing (told slot t) in cc);
          },
        )
  ]
  | inr past ↦
      let next : s.place.cells k v ≡ Absent = ready.placement.no_server k v (omega (arith, ready.servers)) in
      let none : told_slot x k v ≡ None = ap (λ t. inventory_slot t (told_copies x k v) k) (none_told x v past) in (
        record {
          lost = λ e. next;
          carried = λ e. absurd (let z = not_carried x v past in cc);
          best = λ e u. absurd (let z = sym next ∙ e in cc);
        },
        record {
          left = λ slot e t. absurd (let z = sym none ∙ t in cc);
          kept = λ slot t. absurd (let z = sym none ∙ t in cc);
          handed = λ slot t h. absurd (let z = sym none ∙ t in cc);
        },
      )
]
  where
    kept_absent : (c next : Cell) → c ≡ Absent → next ≡ Absent → KeepsSlot x k c next
    kept_absent Absent next e n = (n, λ a. absurd (cc))
    kept_absent _ next e n = absurd (cc)

-- who is not awaited has told, or may be carried over, if it is asked
not_awaited : (x : OngoingReopening) (v : ℕ) → is_waited_for x v ≡ false → is_asked (net_reopening x) (Server v) ≡ true → (is_some ((net_reopening x).told (Server v)) ≡ true) ⊎ (may_carry x v ≡ true)
not_awaited x v e asked = go (is_asked (net_reopening x) (Server v)) (is_some ((net_reopening x).told (Server v))) (may_carry x v) asked e
  where
    go : (a t m : Bool) → a ≡ true → (a && not t && not m) ≡ false → (t ≡ true) ⊎ (m ≡ true)
    go true true m a f = inl refl
    go true false true a f = inr refl
    go true false false a f = absurd (cc)
    go false t m a f = absurd (cc)

-- a server that is asked has a number
pub asked_is_known : (x : OngoingReopening) (v : ℕ) → is_asked (net_reopening x) (Server v) ≡ true → v < length x.servers.items
asked_is_known x v e = ltb-true v (length x.servers.items) (and_parts (nat_lt v (length x.servers.items)) (not ((net_reopening x).lost v)) e).0

-- a settlement that is timely and fair may be confirmed
pub may_confirm : (x : OngoingReopening) (s : Settlement) → IsReady x s → IsTimely x s → ((k v : ℕ) → IsFairAt x s.place k v) → MayConfirm x s
may_confirm x s ready timely fair =
    let complete = and_parts (is_some ((net_reopening x).told MapOwner)) (is_none (first_awaited x)) timely.complete in
    let nobody : first_awaited x ≡ None = none_of (first_awaited x) complete.1 in
    let told : (v : ℕ) → is_asked (net_reopening x) (Server v) ≡ true → (is_some ((net_reopening x).told (Server v)) ≡ true) ⊎ (may_carry x v ≡ true)
    = λ v asked. not_awaited x v (first_none (length x.servers.items) (is_waited_for x) nobody v (asked_is_known x v asked)) asked in
    record {
      allowed = record {
        first = timely.first;
        opening = record { rows = ready.rows; placement = ready.placement; settled = ready.settled; least = timely.least; most = timely.most };
        servers = ready.servers;
        map = complete.0;
        answered = λ v asked. elim (told v asked) [ inl t ↦ inl t | inr m ↦ inr (and_parts (is_carried (net_reopening x) (past_state x) v) (not (left_out_of x v)) m).0 ];
        kept = λ k v cells reached e. ((fair k v).1.kept (record { cell = cells k; copy = told_copies x k v; reached = reached k }) (ap (λ t. inventory_slot t (told_copies x k v) k) e)).0;
        carried = λ k v e. (fair k v).0.carried e;
        down = timely.down;
        lost = λ k v e. (fair k v).0.lost e;
        claims = λ k u v e some. below_claims (standing_of x k u) (standing_of x k v) ((fair k v).0.best e u) some;
        handed = λ k v cells reached e h. (fair k v).1.handed (record { cell = cells k; copy = told_copies x k v; reached = reached k }) (ap (λ t. inventory_slot t (told_copies x k v) k) e) h;
      };
      best = λ k u v e. (fair k v).0.best e u;
      told = λ v left asked. elim (told v asked) [
        | inl t ↦ t
        | inr m ↦ absurd (let stays = not-true (left_out_of x v) (and_parts (is_carried (net_reopening x) (past_state x) v) (not (left_out_of x v)) m).1 in cc)
      ];
      left = λ k v slot left t. (fair k v).1.left slot left t;
      appointed = λ k v slot t. ((fair k v).1.kept slot t).1;
    }
  where
    none_of : (o : Option ℕ) → is_none o ≡ true → o ≡ None
    none_of None e = refl
    none_of (Some n) e = absurd (cc)

-- a settlement that may be confirmed is timely
pub is_timely : (x : OngoingReopening) (s : Settlement) → MayConfirm x s → IsTimely x s
is_timely x s may = record {
  first = may.allowed.first;
  complete = and_from (is_some ((net_reopening x).told MapOwner)) (is_none (first_awaited x)) may.allowed.map (ap is_none nobody);
  least = may.allowed.opening.least;
  most = may.allowed.opening.most;
  down = may.allowed.down;
}
  where
    settled_for : (v : ℕ) (a t c l : Bool) → (a ≡ true → (t ≡ true) ⊎ (c ≡ true)) → (l ≡ true → a ≡ true → t ≡ true) → (a && not t && not (c && not l)) ≡ false
    settled_for v false t c l f g = refl
    settled_for v true true c l f g = refl
    settled_for v true false true false f g = refl
    settled_for v true false true true f g = absurd (let z = g refl refl in cc)
    settled_for v true false false l f g = absurd (elim (f refl) [ inl z ↦ cc | inr z ↦ cc ])

    nobody : first_awaited x ≡ None
    nobody = first_none_from (length x.servers.items) (is_waited_for x) (λ v l.
        settled_for v (is_asked (net_reopening x) (Server v)) (is_some ((net_reopening x).told (Server v))) (is_carried (net_reopening x) (past_state x) v) (left_out_of x v) (may.allowed.answered v) (may.told v))

-- and fair
pub is_fair : (x : OngoingReopening) (s : Settlement) → MayConfirm x s → (k v : ℕ) → IsFairAt x s.place k v
is_fair x s may k v = (
  record { lost = may.allowed.lost k v; carried = may.allowed.carried k v; best = λ e u. may.best k u v e },
  record {
    left = λ slot left t. may.left k v slot left t;
    kept = λ slot t. (kept_by slot ((net_reopening x).told (Server v)) refl t, may.appointed k v slot t);
    handed = λ slot t h. handed_by slot ((net_reopening x).told (Server v)) refl t h;
  },
)
  where
    kept_by : (slot : FoundSlot) (o : Option Inventory) → (net_reopening x).told (Server v) ≡ o → inventory_slot o (told_copies x k v) k ≡ Some slot → Keeps slot.cell (s.place.cells k v)
    kept_by slot (Some (Slots cells reached)) e t = subst (λ c. Keeps c (s.place.cells k v)) (cc) (may.allowed.kept k v cells reached e)
    kept_by slot _ e t = absurd (cc)

    handed_by : (slot : FoundSlot) (o : Option Inventory) → (net_reopening x).told (Server v) ≡ o → inventory_slot o (told_copies x k v) k ≡ Some slot → is_handing slot.cell ≡ true → (u : ℕ) × (s.place.cells k u ≡ Primary)
    handed_by slot (Some (Slots cells reached)) e t h = may.allowed.handed k v cells reached e (subst (λ c. is_handing c ≡ true) (cc) h)
    handed_by slot _ e t h = absurd (cc)
