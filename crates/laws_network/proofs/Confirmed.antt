-- A confirmed settlement keeps what holds: whoever has its slots is told to keep its primaries, and no older settle is taken any more.
use Rattle.std.proofs.Common.{◌≡◌, ◌<◌, ◌⊎◌, ℕ, refl, sym, ap, ◌∙◌, inl, inr, subst, arith, not, Bool, true, false, Option, Some, None, List, ◌++◌}
use Rattle.std.specs.Prelude.{◌&&◌, ◌||◌, is_none, is_some, nat_lt}
use Rattle.std.specs.List.{AllByRecursion}
use Rattle.std.proofs.lemmas.Bool.{and_from, and_parts, cases_Bool, cases_lt, lt-ltb, not-true, or_cases, or_parts, or_right}
use Rattle.sm_server.specs.declared.call.Cell.{Cell}
use Rattle.sm_server.specs.declared.call.Cell.TheVariants as cell
use Rattle.sm_placement.specs.Setup.{Setup, Sizes}
use Rattle.sm_protocol.proofs.Courses.{some_same}
use Rattle.laws_network.specs.Words.{IsOpening}
use Rattle.laws_network.specs.Net.{cell_above}
use Rattle.laws_network.specs.World.{World}
use Rattle.laws_network.specs.Reopening.{Base, Confirm, Entries, Fence, Fenced, Inventory, MapOwner, Message, Party, Reopening, Restore, Server, Settle, Settled, Settlement, Settling, Slots, Unknown, is_asked, entered, records, sends, settle_by, to_each}
use Rattle.laws_network.specs.ReopeningLaws.{IsSettleBelow, IsOutdated, Keeps, MaySettle, is_carried}
use Rattle.laws_network.proofs.Bounds.{IsBounded, is_bounded}
use Rattle.laws_network.proofs.Fair.{IsSettledCell, settled_cell}
use Rattle.laws_network.proofs.Lists.{all_append, all_map}
use Rattle.laws_network.proofs.Shown.{net_is_reached}
use Rattle.laws_network.proofs.Standing.{Frame, HasTold, IsAlong, IsControllerHeld, IsGood, IsGoodRestore, IsGoodSettle, IsLost, IsPartly, IsPromised, IsServerHeld, IsToldBy, IsTouched, Last, Standing, addressee}
use Rattle.laws_network.proofs.Recorded.{all_to_each, none_of, some_of}
use Rattle.laws_network.proofs.Reopened.{IsHeld, good_grown, standing, frame}

-- a settled cell has no handover number, so it is what is recorded if it is so with the base added
pub plain_above : (base : ℕ) (c d : Cell) → IsSettledCell c → d ≡ c → cell_above base d ≡ c
plain_above base c d s e = ap (cell_above base) e ∙ go c s
  where
    go : (c : Cell) → IsSettledCell c → cell_above base c ≡ c
    go cell.Absent s = refl
    go cell.Secondary s = refl
    go cell.Primary s = refl
    go (cell.Prepared a n) (inl p) = absurd p
    go (cell.Prepared a n) (inr e) = absurd (cc)
    go (cell.Forwarding a n) (inl p) = absurd p
    go (cell.Forwarding a n) (inr e) = absurd (cc)

module _ (setup : Setup) (w : World) (first since : ℕ) (l : Option Last) (x : Settling) (h : IsHeld setup w first since l x) (s : Settlement) (m : MaySettle x.reopening x.world.net.w s) where
  abbrev f : Frame
  f = frame w first since l x

  abbrev c : IsControllerHeld f
  c = h.controller

  abbrev r : Reopening
  r = x.reopening

  abbrev now : Last
  now = record { base = r.base; settlement = s; nonces = x.nonces }

  abbrev confirmed : Settling
  confirmed = records x (Confirm s)

  abbrev g : Frame
  g = frame w first since (Some now) confirmed

  bounded : IsBounded w.net
  bounded = is_bounded setup w.net (net_is_reached setup w h.reached)

  w_same : x.world.net.w ≡ w.net.w
  w_same = ap (λ (z : World). z.net.w) h.over

  now_is : (k : Last) → Some now ≡ Some k → now ≡ k
  now_is k e = some_same now k e

  -- ---- servers that were sent no settle and have told nothing

  module _ (v : ℕ) (new : r.promised v ≡ false) (silent : r.told (Server v) ≡ None) (kept : r.lost v ≡ false) where
    is_silent : is_some (r.told (Server v)) ≡ false
    is_silent = ap is_some silent

    carried : v < r.servers → is_carried r x.world.net.w v ≡ true
    carried b = elim (m.answered v (and_from (nat_lt v r.servers) (not (r.lost v)) (lt-ltb v r.servers b) (ap not kept))) [
      | inl t ↦ absurd (let z = is_silent in cc)
      | inr t ↦ t
    ]

    is_down : v < r.servers → w.net.w.place.down v ≡ true
    is_down b =
        let a = and_parts (is_asked r (Server v)) (is_none (r.told (Server v)) && (x.world.net.w.place.down v && not (r.promised v))) (carried b) in
        let d = and_parts (is_none (r.told (Server v))) (x.world.net.w.place.down v && not (r.promised v)) a.1 in
        let e = and_parts (x.world.net.w.place.down v) (not (r.promised v)) d.1 in
        subst (λ z. z.place.down v ≡ true) w_same e.0

    along_of : (cells : ℕ → Cell) → ((k : ℕ) → cells k ≡ w.net.cells k v) → (k : Last) → Some now ≡ Some k → IsAlong w.net.w v k cells
    along_of cells same k e = subst (λ z. IsAlong w.net.w v z cells) (now_is k e) (elim (cases_lt v r.servers) [
      | inl b ↦ record {
        same = λ a.
            let is : w.net.w.place.cells a v ≡ s.place.cells a v = ap (λ z. z.place.cells a v) (sym w_same) ∙ sym (m.carried a v (carried b)) in
            same a ∙ bounded.down a v (is_down b) ∙ plain_above w.net.base (s.place.cells a v) (w.net.w.place.cells a v) (settled_cell s.setup s.place s.room m.opening a v) is;
        out = inl (is_down b);
        down = m.down v (carried b);
      }
      | inr b ↦ record {
        same = λ a.
            same a ∙ bounded.no_server a v (let z = c.servers in omega arith)
            ∙ sym (m.opening.placement.no_server a v (let z = m.servers in omega arith));
        out = inr (let z = c.servers in omega arith);
        down = λ q. absurd (let z = m.servers in omega arith);
      }
    ])

  -- ---- servers

  told_is : (v : ℕ) (i : Inventory) → r.told (Server v) ≡ Some i → IsToldBy r.base since (x.bases (Server v)) (HasTold (λ k. x.world.net.cells k v) i)
  told_is v i e = (h.servers v).told m.first i e

  -- a promised server that has its slots has told them
  told_promise : (v : ℕ) → r.promised v ≡ true → (is_some (r.told (Server v)) ≡ true) ⊎ (r.lost v ≡ true)
  told_promise v p = elim (cases_Bool (r.lost v)) [
    | inl y ↦ inr y
    | inr n ↦ elim (m.answered v (and_from (nat_lt v r.servers) (not (r.lost v)) (lt-ltb v r.servers ((h.servers v).touched p).server) (ap not n))) [
      | inl t ↦ inl t
      | inr t ↦ absurd (
          let a = and_parts (is_asked r (Server v)) (is_none (r.told (Server v)) && (x.world.net.w.place.down v && not (r.promised v))) t in
          let d = and_parts (is_none (r.told (Server v))) (x.world.net.w.place.down v && not (r.promised v)) a.1 in
          let e = and_parts (x.world.net.w.place.down v) (not (r.promised v)) d.1 in
          let z = not-true (r.promised v) e.1 in
          cc
          )
    ]
  ]

  -- what a told server has is kept as far as it is a primary, and it is fenced
  told_partly : (v : ℕ) (i : Inventory) → r.told (Server v) ≡ Some i → (x.bases (Server v)).nonce ≡ None → IsPartly now v (standing w x v)
  told_partly v (Slots cells reached) e q =
      let t = (told_is v (Slots cells reached) e).still q in record {
        frozen = λ k z. subst (λ d. Keeps d (s.place.cells k v)) (sym (t.2 k) ∙ z) (m.kept k v cells reached e);
        settled = λ z. absurd (let y = t.1 in cc);
      }
  told_partly v (Unknown n) e q = absurd ((told_is v (Unknown n) e).still q).2
  told_partly v Entries e q = absurd ((told_is v Entries e).still q).2

  partly : (v : ℕ) → (x.bases (Server v)).nonce ≡ None → IsPartly now v (standing w x v)
  partly v q = by_told (r.told (Server v)) refl
    where
      alone : r.told (Server v) ≡ None → (b : Bool) → r.promised v ≡ b → (d : Bool) → r.lost v ≡ d → IsPartly now v (standing w x v)
      alone t b p true o = absurd ((h.servers v).lost o q)
      alone t true p false o = elim (told_promise v p) [
        | inl y ↦ absurd (let z : is_some (r.told (Server v)) ≡ false = ap is_some t in cc)
        | inr y ↦ absurd (cc)
      ]
      alone t false p false o =
          let a = along_of v p t o (λ k. x.world.net.cells k v) (((h.servers v).untouched p q).cells) now refl in
          record { frozen = λ k z. sym (a.same k) ∙ z; settled = λ z k. a.same k }

      by_told : (o : Option Inventory) → r.told (Server v) ≡ o → IsPartly now v (standing w x v)
      by_told None t = alone t (r.promised v) refl (r.lost v) refl
      by_told (Some i) t = told_partly v i t q

  -- a server that has told what it has is fenced
  sizes_told : (v : ℕ) → is_some (r.told (Server v)) ≡ true → (x.bases (Server v)).nonce ≡ None → (x.bases (Server v)).fenced ≡ false → ⊥
  sizes_told v t q a = let i = some_of (r.told (Server v)) t in absurd (let z = ((told_is v i.0 i.1).still q).1 in cc)

  touched_by : (v : ℕ) (i : Inventory) → r.told (Server v) ≡ Some i → (b : Bool) → r.promised v ≡ b → IsTouched g v (standing w x v)
  touched_by v i e true p = let t = (h.servers v).touched p in record { above = t.above; loads = t.loads; sizes = λ k z q a. absurd (sizes_told v (ap is_some e) q a); nonce = t.nonce; server = t.server; confirmed = λ z. absurd (cc) }
  touched_by v i e false p = let t = told_is v i e in record {
    above = λ q. let z = (t.still q).0 in let y = c.places in omega arith;
    loads = λ q. ((h.servers v).untouched p q).loads;
    sizes = λ k z q a. absurd (sizes_told v (ap is_some e) q a);
    nonce = λ n q. let z = t.fresh n q in let y = c.since in omega arith;
    server = (c.asked v (ap is_some e)).0;
    confirmed = λ z. absurd (cc);
  }

  touched : (v : ℕ) → (r.promised v || is_some (r.told (Server v))) ≡ true → IsTouched g v (standing w x v)
  touched v e = elim (or_cases (r.promised v) (is_some (r.told (Server v))) e) [
    | inl p ↦ (let t = (h.servers v).touched p in record { above = t.above; loads = t.loads; sizes = λ k z q a. absurd (elim (told_promise v p) [ inl b ↦ sizes_told v b q a | inr b ↦ (h.servers v).lost b q ]); nonce = t.nonce; server = t.server; confirmed = λ z. absurd (cc) })
    | inr t ↦ (let i = some_of (r.told (Server v)) t in touched_by v i.0 i.1 (r.promised v) refl)
  ]

  unsettled : (p : Party) → r.settled p ≡ true → ⊥
  unsettled p e = absurd (let z = c.unsettled (ap is_some m.first) p in cc)

  server_confirmed : (v : ℕ) → IsServerHeld g v (standing w confirmed v)
  server_confirmed v = let z = h.servers v in record {
    number = z.number;
    made = z.made;
    fresh = z.fresh;
    lasts = z.lasts;
    blank = z.blank;
    untouched = λ p q.
        let o = or_parts (r.promised v) (is_some (r.told (Server v))) p in
        let u = z.untouched o.0 q in record {
          cells = u.cells;
          lasts = u.lasts;
          sizes = u.sizes;
          loads = u.loads;
          along = along_of v o.0 (none_of (r.told (Server v)) o.1) (not_lost q) (λ k. x.world.net.cells k v) u.cells;
        };
    touched = touched v;
    told = λ u i e. absurd (cc);
    partly = λ k e q. subst (λ a. IsPartly a v (standing w x v)) (now_is k e) (partly v q);
    taken = λ e. absurd (unsettled (Server v) e);
    lost = z.lost;
  }
    where
      not_lost : (x.bases (Server v)).nonce ≡ None → r.lost v ≡ false
      not_lost q = elim (cases_Bool (r.lost v)) [ inl y ↦ absurd ((h.servers v).lost y q) | inr n ↦ n ]

  owner_told : (i : Inventory) × (r.told MapOwner ≡ Some i)
  owner_told = some_of (r.told MapOwner) m.map

  owner_stands : ((x.bases MapOwner).number ≡ r.base) × ((x.bases MapOwner).fenced ≡ true)
  owner_stands = let t = (h.owner.told m.first owner_told.0 owner_told.1).still h.owner.known in (t.0, t.1)

  -- ---- messages

  abbrev base_here : Party → Base
  base_here p = x.bases p

  -- no older settle is taken any more
  spent_now : (p : Party) (number : ℕ) (nonce : Option ℕ) (z : Settlement) → IsPromised r p → IsGoodSettle f p (base_here p) number nonce z → IsOutdated (base_here p) number nonce
  spent_now MapOwner number asked z p q = record {
    has_slots = λ e n. inl (let a = owner_stands.0 in let b = q.before m.first in omega arith);
    has_none = λ n e o. absurd (let a = h.owner.known in cc);
  }
  spent_now (Server v) number asked z p q = elim (told_promise v p) [
    | inl t ↦ (
        let i = some_of (r.told (Server v)) t in
        let k = told_is v i.0 i.1 in record {
          has_slots = λ e n. inl (let a = (k.still e).0 in let b = q.before m.first in omega arith);
          has_none = λ n e o. absurd (let a = k.fresh n o in let b = q.early m.first n e in omega arith);
        }
        )
    | inr t ↦ record { has_slots = λ e n. absurd ((h.servers v).lost t e); has_none = λ n e o. q.lost t n e o }
  ]

  settle_confirmed : (p : Party) (number : ℕ) (nonce : Option ℕ) (z : Settlement) → (IsLost confirmed.reopening p → IsLost r p) → IsGoodSettle f p (base_here p) number nonce z → IsGoodSettle g p (base_here p) number nonce z
  settle_confirmed p number asked z same q = record {
    below = q.below;
    before = λ e. absurd (cc);
    made = q.made;
    early = λ e. absurd (cc);
    last = λ k e. let a = q.below in let b = ap (λ (y : Last). y.base) (now_is k e) in omega arith;
    closed = λ k e n z. let a = q.made n z in let b = ap (λ (y : Last). y.nonces) (now_is k e) in omega arith;
    state = inl (elim q.state [ inl d ↦ d | inr i ↦ spent_now p number asked z i.promised q ]);
    promised = λ e. absurd (let b = q.before m.first in omega arith);
    lost = λ e. q.lost (same e);
  }

  restore_confirmed : (v nonce number : ℕ) (sizes : Sizes) (cells : ℕ → Cell) → IsGoodRestore f v (standing w x v) x.messages nonce number sizes cells → IsGoodRestore g v (standing w x v) x.messages nonce number sizes cells
  restore_confirmed v asked number sizes cells q = record {
    made = q.made;
    waited = λ e. let z = q.waited e in record {
      cells_had = z.cells_had;
      sizes_had = z.sizes_had;
      loads = z.loads;
      number_had = z.number_had;
      lasts_had = z.lasts_had;
      settles = z.settles;
      along = along_of v (unpromised e) (untold e) (not_lost e) cells z.cells_had;
    };
    lost = q.lost;
  }
    where
      unpromised : (x.bases (Server v)).nonce ≡ Some asked → r.promised v ≡ false
      unpromised e = elim (cases_Bool (r.promised v)) [
        | inl y ↦ absurd (let a = ((h.servers v).touched y).nonce asked e in let b = q.made in omega arith)
        | inr y ↦ y
      ]

      untold : (x.bases (Server v)).nonce ≡ Some asked → r.told (Server v) ≡ None
      untold e = go (r.told (Server v)) refl
        where
          go : (o : Option Inventory) → r.told (Server v) ≡ o → r.told (Server v) ≡ None
          go None t = t
          go (Some i) t = absurd (let a = (told_is v i t).fresh asked e in let b = q.made in let d = c.since in omega arith)

      not_lost : (x.bases (Server v)).nonce ≡ Some asked → r.lost v ≡ false
      not_lost e = elim (cases_Bool (r.lost v)) [ inl y ↦ absurd (q.lost y e) | inr n ↦ n ]

  good_confirmed : (n : Message) → IsGood f (standing w x (addressee n)) (x.bases MapOwner) x.messages n → IsGood g (standing w x (addressee n)) (x.bases MapOwner) x.messages n
  good_confirmed (Fence p k) q = q
  good_confirmed (Fenced (Server u) k i) q = (q.0, q.1, λ e. absurd (cc))
  good_confirmed (Fenced MapOwner k i) q = (q.0, q.1, λ e. absurd (cc))
  good_confirmed (Settle (Server u) k asked z) q = settle_confirmed (Server u) k asked z (λ e. e) q
  good_confirmed (Settle MapOwner k asked z) q = settle_confirmed MapOwner k asked z (λ e. e) q
  good_confirmed (Settled (Server u) k) q = (q.0, λ e. absurd (let a = (q.1 e).confirmed in let b : is_some r.settlement ≡ false = ap is_some m.first in cc))
  good_confirmed (Settled MapOwner k) q = (q.0, λ e. absurd (let a = (q.1 e).confirmed in let b : is_some r.settlement ≡ false = ap is_some m.first in cc))
  good_confirmed (Restore u asked k sizes cells) q = restore_confirmed u asked k sizes cells q

  -- ---- the settles

  -- a settle of this, for who has told what it has
  record IsNewSettle (p : Party) (number : ℕ) (nonce : Option ℕ) (z : Settlement) : Type 0 where
    pub number_is : number ≡ r.base
    pub settlement : z ≡ s
    pub told : is_some (r.told p) ≡ true
    pub made : (n : ℕ) → nonce ≡ Some n → r.told p ≡ Some (Unknown n)

  abbrev IsNew : Message → Type 0
  IsNew (Settle p number nonce z) = IsNewSettle p number nonce z
  IsNew _ = ⊥

  settle_new : (p : Party) → AllByRecursion IsNew (settle_by r.base s p (r.told p))
  settle_new p = go (r.told p) refl
    where
      go : (o : Option Inventory) → r.told p ≡ o → AllByRecursion IsNew (settle_by r.base s p o)
      go None e = tt
      go (Some (Unknown n)) e = (record { number_is = refl; settlement = refl; told = ap is_some e; made = λ k q. e ∙ ap (λ a. Some (Unknown a)) (some_same n k q) }, tt)
      go (Some (Slots cells reached)) e = (record { number_is = refl; settlement = refl; told = ap is_some e; made = λ k q. absurd (cc) }, tt)
      go (Some Entries) e = (record { number_is = refl; settlement = refl; told = ap is_some e; made = λ k q. absurd (cc) }, tt)

  abbrev settles : List Message
  settles = sends (Confirm s) (entered (Confirm s) x.reopening)

  settles_new : AllByRecursion IsNew settles
  settles_new = all_append IsNew (settle_by r.base s MapOwner (r.told MapOwner)) (to_each r.servers (λ v. settle_by r.base s (Server v) (r.told (Server v)))) (settle_new MapOwner)
      (all_to_each IsNew r.servers (λ v. settle_by r.base s (Server v) (r.told (Server v))) (λ v. settle_new (Server v)))

  promised_now : (p : Party) → is_some (r.told p) ≡ true → IsPromised confirmed.reopening p
  promised_now (Server v) t = or_right (r.promised v) (is_some (r.told (Server v))) t
  promised_now MapOwner t = tt

  told_not_lost : (p : Party) → is_some (r.told p) ≡ true → IsLost confirmed.reopening p → ⊥
  told_not_lost (Server v) t e = absurd (let a = (c.asked v t).1 in cc)
  told_not_lost MapOwner t e = e

  new_settle : (p : Party) (b : Base) (number : ℕ) (nonce : Option ℕ) (z : Settlement) → IsNewSettle p number nonce z → IsGoodSettle g p b number nonce z
  new_settle p b number asked z n = record {
    below = (let a = n.number_is in omega arith);
    before = λ e. absurd (cc);
    made = λ k e. c.told_made p k (n.made k e);
    early = λ e. absurd (cc);
    last = λ k e. let a = n.number_is in let d = ap (λ (y : Last). y.base) (now_is k e) in omega arith;
    closed = λ k e j z. let a = c.told_made p j (n.made j z) in let b = ap (λ (y : Last). y.nonces) (now_is k e) in omega arith;
    state = inr (record { last = now; is = refl; base = n.number_is; settlement = n.settlement; promised = promised_now p n.told });
    promised = λ e. promised_now p n.told;
    lost = λ e. absurd (told_not_lost p n.told e);
  }

  new_good : (y : Standing) (owner : Base) (ms : List Message) (n : Message) → IsNew n → IsGood g y owner ms n
  new_good y owner ms (Settle (Server v) number asked z) q = new_settle (Server v) y.base number asked z q
  new_good y owner ms (Settle MapOwner number asked z) q = new_settle MapOwner owner number asked z q
  new_good y owner ms (Fence p k) q = absurd q
  new_good y owner ms (Fenced p k i) q = absurd q
  new_good y owner ms (Settled p k) q = absurd q
  new_good y owner ms (Restore v asked k sizes cells) q = absurd q

  -- none of them is for a server that waits for a restore
  new_below : (v nonce number : ℕ) → (x.bases (Server v)).nonce ≡ Some nonce → nonce < first → (n : Message) → IsNew n → IsSettleBelow v number n
  new_below v asked number e b (Settle p k o z) q = λ t. absurd (
      let i = some_of (r.told (Server v)) (subst (λ a. is_some (r.told a) ≡ true) t q.told) in
      let a = (told_is v i.0 i.1).fresh asked e in
      let d = c.since in
      omega arith
      )
  new_below v asked number e b (Fence p k) q = absurd q
  new_below v asked number e b (Fenced p k i) q = absurd q
  new_below v asked number e b (Settled p k) q = absurd q
  new_below v asked number e b (Restore u o k sizes cells) q = absurd q

  -- what holds does so with what is confirmed now in place of what was confirmed before
  pub confirm_held : IsHeld setup w first since (Some now) confirmed
  confirm_held = record {
    reached = h.reached;
    over = h.over;
    controller = record {
      places = c.places;
      versions = c.versions;
      since = c.since;
      nonces = c.nonces;
      log = c.log;
      servers = c.servers;
      told_made = c.told_made;
      asked = c.asked;
      opening = λ k e. subst (λ (a : Last). IsOpening a.settlement.setup a.settlement.place a.settlement.room) (now_is k e) m.opening;
      above_versions = λ k e n. let a = c.versions n in let b = ap (λ (y : Last). y.base) (now_is k e) in omega arith;
      beyond = λ k e. let a = c.places in let b = ap (λ (y : Last). y.base) (now_is k e) in omega arith;
      below = λ k e. let b = ap (λ (y : Last). y.base) (now_is k e) in omega arith;
      before = λ u. absurd (cc);
      closed = λ k e. let b = ap (λ (y : Last). y.nonces) (now_is k e) in omega arith;
      confirmed = λ z e. (x.nonces, ap (λ a. let y : Last = record { base = r.base; settlement = a; nonces = x.nonces } in Some y) (some_same s z e));
      kept_promises = λ e v p. elim (or_cases (r.promised v) (is_some (r.told (Server v))) p) [ inl a ↦ told_promise v a | inr a ↦ inl a ];
      told_promised = λ e v t. or_right (r.promised v) (is_some (r.told (Server v))) t;
      told_map = λ e. m.map;
      unsettled = λ e. absurd (cc);
    };
    servers = server_confirmed;
    owner = record { number = h.owner.number; known = h.owner.known; told = λ u. absurd (cc); taken = λ e. absurd (unsettled MapOwner e) };
    shown = record { first = λ e. absurd (cc); last = λ k e q. absurd (let a = owner_stands.1 in cc) };
    messages = all_append (λ n. IsGood g (standing w x (addressee n)) (x.bases MapOwner) (x.messages ++ settles) n) x.messages settles
        (all_map (λ n. IsGood f (standing w x (addressee n)) (x.bases MapOwner) x.messages n) (λ n. IsGood g (standing w x (addressee n)) (x.bases MapOwner) (x.messages ++ settles) n) x.messages
        (λ n q. good_grown g (standing w x (addressee n)) (x.bases MapOwner) x.messages settles n
        (λ v asked number e a b. all_map IsNew (IsSettleBelow v number) settles (new_below v asked number (subst (λ u. (x.bases (Server u)).nonce ≡ Some asked) a e) b) settles_new)
        (good_confirmed n q)) h.messages)
        (all_map IsNew (λ n. IsGood g (standing w x (addressee n)) (x.bases MapOwner) (x.messages ++ settles) n) settles (λ n q. new_good (standing w x (addressee n)) (x.bases MapOwner) (x.messages ++ settles) n q) settles_new);
  }
