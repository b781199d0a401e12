-- Once a settlement is in force, the whole fleet opens on it in new numbers, too; and there is such a fleet.
use Rattle.std.proofs.Common.{◌≡◌, ◌≢◌, ◌≤◌, ◌<◌, ◌+◌, ◌&&◌, ◌==◌, true≢false, ℕ, suc, refl, sym, ap, ap₂, ◌∙◌, inl, inr, subst, arith, rules, zero-add, Bool, true, false, max, Option, Some, None, List, [], ◌∷◌, length, if◌then◌else◌, slice_get}
use Rattle.std.specs.Prelude.{is_none, is_some, map}
use Rattle.std.specs.List.{AllByRecursion, range_with_len}
use Rattle.std.proofs.lemmas.Bool.{cases_lt}
use Rattle.std.proofs.lemmas.Option.{slice_get-get_or, slice_get_within}
use Rattle.std.proofs.lemmas.List.FromFn.{length-range_with_len, get_or-range_with_len}
use Rattle.std.proofs.Math.Path.{fun_ext}
use Rattle.sm_server.specs.declared.call.Cell.{Cell}
use Rattle.sm_server.specs.declared.call.Cell.TheVariants.{Absent}
use Rattle.sm_agent.specs.declared.base.Base.{Base as AgentBase}
use Rattle.sm_agent.specs.Base.{lacks_slots}
use Rattle.sm_agent.specs.Order.{cell_load}
use Rattle.sm_protocol.specs.State.{State}
use Rattle.sm_protocol.proofs.Courses.{some_same}
use Rattle.laws_network.specs.Words.{Entry, IsOpening, Ticket, opened, sizes_of}
use Rattle.laws_network.specs.Net.{Order}
use Rattle.laws_network.specs.World.{Publication}
use Rattle.laws_network.specs.WorldLaws.{IsWorldOpening}
use Rattle.laws_network.specs.Laws.{IsNetOpening}
use Rattle.laws_network.specs.Controller.{Controller, JournalEntry, replayed}
use Rattle.laws_network.specs.Fleet.{Fleet, Server as FleetServer, controller, has_lost, held_cells}
use Rattle.laws_network.specs.FleetLaws.{HasAskedUnder, IsFleetOpening, IsKnown, world_of}
use Rattle.laws_network.specs.FleetReopening.{IsNoServer, IsOneOf, agent_settled, pass_seen}
use Rattle.laws_network.specs.Reopening.{Base, Reopening, Server, Settlement, Settling, is_settled_at, settled_base}
use Rattle.laws_network.specs.ReopeningLaws.{EachSettling, OpensWithPast, in_force}
use Rattle.laws_network.proofs.Lists.{all_at, all_map}
use Rattle.laws_reopening.specs.Renumbering.{FleetIsThereAs, FleetOpensAs, HasSettledAs, IsEntryAs, IsFleetInForceAs, IsOrderAs, IsPassAs, IsPublicationAs, IsRenumberedAs, IsSameServer, NumbersMayStay, Renumbering, StandsAtOnePlace, WasOneOf, at_old_numbers, own_numbers, renumbered}

-- what holds of all of a list holds of one of it
one_of : {A : Type 0} (P : A → Type 0) (xs : List A) → AllByRecursion P xs → (a : A) → IsOneOf xs a → P a
one_of P xs all a o = all_at P xs o.0 a all o.1

all_image : {A B : Type 0} (P : B → Type 0) (f : A → B) (xs : List A) → AllByRecursion (λ a. P (f a)) xs → AllByRecursion P (map f xs)
all_image P f [] all = tt
all_image P f (x ∷ xs) all = (all.0, all_image P f xs all.1)

-- a server has one new number
same_server : (n : Renumbering) → StandsAtOnePlace n.servers → (old a b : Option ℕ) → IsSameServer n old a → IsSameServer n old b → a ≡ b
same_server n once None None None h k = refl
same_server n once (Some i) (Some u) (Some v) h k = ap Some (once u v i h k)
same_server n once None (Some u) b h k = absurd h
same_server n once None None (Some v) h k = absurd k
same_server n once (Some i) None b h k = absurd h
same_server n once (Some i) (Some u) None h k = absurd k

module _ (x : Settling) (s new : Settlement) (n : Renumbering) (r : IsRenumberedAs n s new)
    (settled_cells : (k v : ℕ) → (x.bases (Server v)).nonce ≡ None → x.world.net.cells k v ≡ s.place.cells k v) (there : IsWorldOpening s.setup (in_force x s)) where
  abbrev reopening : Reopening
  reopening = x.reopening

  -- cells of who has its slots are those that were settled
  same_cells : (k v j : ℕ) → slice_get n.servers v ≡ Some j → (x.bases (Server j)).nonce ≡ None → renumbered n x.world.net.cells Absent k v ≡ new.place.cells k v
  same_cells k v j e known = go (slice_get n.shards k) ∙ sym (r.cells k v)
    where
      go : (o : Option ℕ) → at_old_numbers x.world.net.cells Absent o (slice_get n.servers v) ≡ at_old_numbers s.place.cells Absent o (slice_get n.servers v)
      go None = refl
      go (Some i) = ap (at_old_numbers x.world.net.cells Absent (Some i)) e ∙ settled_cells i j known ∙ sym (ap (at_old_numbers s.place.cells Absent (Some i)) e)

  -- its last number is not above the base
  last_of : (i j : ℕ) → (x.bases (Server j)).nonce ≡ None → x.world.net.last i j ≤ reopening.base
  last_of i j e = let b : max (x.world.net.last i j) (x.bases (Server j)).number ≤ reopening.base =
      subst (λ (o : Option ℕ). (if is_none o then max (x.world.net.last i j) (x.bases (Server j)).number else reopening.base) ≤ reopening.base) e (there.net.lasts i j) in omega arith

  last_low : (k v j : ℕ) → slice_get n.servers v ≡ Some j → (x.bases (Server j)).nonce ≡ None → renumbered n x.world.net.last 0 k v ≤ reopening.base
  last_low k v j e known = go (slice_get n.shards k)
    where
      go : (o : Option ℕ) → at_old_numbers x.world.net.last 0 o (slice_get n.servers v) ≤ reopening.base
      go None = omega arith
      go (Some i) = let a = ap (at_old_numbers x.world.net.last 0 (Some i)) e in let b = last_of i j known in omega arith

  -- the map shows what was settled
  shown_server : (i : ℕ) → (x.world.shown i).server ≡ s.place.listed i
  shown_server i = there.servers i

  -- ---- a fleet in force opens

  module _ (f : Fleet) (a : IsFleetInForceAs x n new f) where
    starts : controller f ≡ f.start
    starts = ap (λ (j : List JournalEntry). replayed f.start j) a.journal

    base_is : (controller f).base ≡ reopening.base
    base_is = ap (λ (c : Controller). c.base) starts ∙ a.base

    -- every number of before is at or below the new base
    abbrev Low : Order → Type 0
    Low o = o.number ≤ reopening.base

    abbrev last_there : ℕ → ℕ → ℕ
    last_there = (in_force x s).net.last

    sent_low : AllByRecursion Low x.world.net.sent
    sent_low = all_map (λ o. o.number ≤ last_there o.call.shard o.call.server) Low x.world.net.sent (λ o g. let b = there.net.lasts o.call.shard o.call.server in omega arith) there.net.sent

    answers_low : AllByRecursion Low x.world.net.answers
    answers_low = all_map (λ o. o.number ≤ last_there o.call.shard o.call.server) Low x.world.net.answers (λ o g. let b = there.net.lasts o.call.shard o.call.server in omega arith) there.net.answers

    low_as : (olds : List Order) → AllByRecursion Low olds → (o : Order) → WasOneOf (IsOrderAs n) olds o → Low o
    low_as olds all o w = let b = one_of Low olds all w.0 w.1 in let c = w.2.0 in omega arith

    cells_there : (k v : ℕ) → held_cells f k v ≡ new.place.cells k v
    cells_there k v = go (has_lost f v) refl
      where
        by_server : has_lost f v ≡ false → (o : Option ℕ) → slice_get n.servers v ≡ o → ((f.servers v).slots k).cell ≡ new.place.cells k v
        by_server e None at = (a.others v at).cells k
        by_server e (Some j) at = let t = a.known v j at e in t.cells k ∙ same_cells k v j at (ap (λ (b : Base). b.nonce) t.taken)

        go : (b : Bool) → has_lost f v ≡ b → held_cells f k v ≡ new.place.cells k v
        go true e = ap (λ b. if b then f.had k v else ((f.servers v).slots k).cell) e ∙ a.had k v e
        go false e = ap (λ b. if b then f.had k v else ((f.servers v).slots k).cell) e ∙ by_server e (slice_get n.servers v) refl

    record_there : (controller f).w ≡ opened (sizes_of new.setup) new.place new.room
    record_there = ap (λ (c : Controller). c.w) starts ∙ a.record_is

    net_opens : IsNetOpening new.setup (world_of f (λ k v. reopening.base)).net
    net_opens = record {
      place = new.place;
      room = new.room;
      opening = r.opening;
      w = record_there;
      cells = fun_ext (λ k. fun_ext (λ v. cells_there k v));
      lasts = λ k v. let b = base_is in omega arith;
      sent = all_image Low (λ l. l.order) f.sent (all_map (λ l. WasOneOf (IsOrderAs n) x.world.net.sent l.order) (λ l. Low l.order) f.sent (λ l w. low_as x.world.net.sent sent_low l.order w) a.sent);
      answers = all_map (WasOneOf (IsOrderAs n) x.world.net.answers) Low f.answers (low_as x.world.net.answers answers_low) a.answers;
      passes = all_image (λ t. t.number ≤ (controller f).base) pass_seen f.passes (all_map (λ h. WasOneOf (IsPassAs n) x.world.net.passes (pass_seen h)) (λ h. (pass_seen h).number ≤ (controller f).base) f.passes
          (λ p w. let b = one_of (λ (t : Ticket). t.number ≤ reopening.base) x.world.net.passes there.net.passes w.0 w.1 in let c = base_is in let d = w.2.0 in omega arith) a.passes);
    }

    -- a publication of before has no higher version than what is shown
    stale : (olds : List Publication) → AllByRecursion (λ (p : Publication). p.entry.version ≤ (x.world.shown p.shard).version) olds → (p : Publication) → WasOneOf (IsPublicationAs n) olds p →
        p.entry.version ≤ (f.shown p.shard).version
    stale olds all p w =
        let old = one_of (λ (p : Publication). p.entry.version ≤ (x.world.shown p.shard).version) olds all w.0 w.1 in
        let is = (a.shown p.shard w.0.shard w.2.1).0 in
        let same = w.2.0 in
        omega arith

    entry_there : (k : ℕ) (o : Option ℕ) → slice_get n.shards k ≡ o → ((f.shown k).server ≡ new.place.listed k) × ((f.shown k).version ≤ reopening.base + new.place.version k)
    entry_there k None at = let h = a.none_shown k at in (h.0, let b = h.1 in omega arith)
    entry_there k (Some i) at =
        let h = a.shown k i at in (
          same_server n r.servers (s.place.listed i) (f.shown k).server (new.place.listed k) (subst (λ o. IsSameServer n o (f.shown k).server) (shown_server i) h.1) (r.listed k i at),
          let b = h.0 in let c = there.versions i in let d = r.versions k i at in omega arith,
        )

    world_there : IsWorldOpening new.setup (world_of f (λ k v. reopening.base))
    world_there = record {
      net = net_opens;
      servers = λ k. (entry_there k (slice_get n.shards k) refl).0 ∙ sym (ap (λ (z : State). z.place.listed k) record_there);
      versions = λ k.
          let b = (entry_there k (slice_get n.shards k) refl).1 in
          let d = base_is in
          let e = ap (λ (z : State). z.place.version k) record_there in
          omega arith;
      published = all_image (λ p. p.entry.version ≤ (f.shown p.shard).version) (λ m. m.publication) f.published
          (all_map (λ m. WasOneOf (IsPublicationAs n) x.world.published m.publication) (λ m. m.publication.entry.version ≤ (f.shown m.publication.shard).version) f.published
          (λ m w. stale x.world.published there.published m.publication w) a.published);
      stored = all_map (WasOneOf (IsPublicationAs n) x.world.stored) (λ p. p.entry.version ≤ (f.shown p.shard).version) f.stored (stale x.world.stored there.stored) a.stored;
    }

    known_at : (v j : ℕ) → slice_get n.servers v ≡ Some j → has_lost f v ≡ false → IsKnown f.start (f.servers v) (λ k. reopening.base)
    known_at v j at e = let t = a.known v j at e in record {
      journal = ap (λ (b : AgentBase). b.journal) t.base;
      taken = ap (λ (b : AgentBase). b.fenced) t.base;
      fence = (let b = ap (λ (b : AgentBase). b.number) t.base in let c = a.fence in omega arith);
      number = (let b = ap (λ (b : AgentBase). b.number) t.base in let c = a.base in omega arith);
      lasts = λ k. inr (let b = ap (λ (b : AgentBase). b.number) t.base in let c = t.lasts k in let d = last_low k v j at (ap (λ (b : Base). b.nonce) t.taken) in ((omega arith), (omega arith)));
      loads = λ k. t.loads k ∙ ap (λ (z : State). cell_load ((f.servers v).slots k).cell (z.sizes.load k)) (sym a.record_is);
    }

    known_beyond : (v : ℕ) → slice_get n.servers v ≡ None → IsKnown f.start (f.servers v) (λ k. reopening.base)
    known_beyond v at = let t = a.others v at in record {
      journal = ap (λ (b : AgentBase). b.journal) t.base;
      taken = ap (λ (b : AgentBase). b.fenced) t.base;
      fence = (let b = ap (λ (b : AgentBase). b.number) t.base in let c = a.fence in omega arith);
      number = (let b = ap (λ (b : AgentBase). b.number) t.base in let c = a.base in omega arith);
      lasts = λ k. inr (let b = ap (λ (b : AgentBase). b.number) t.base in let c = t.lasts k in ((omega arith), (omega arith)));
      loads = λ k. t.loads k ∙ ap (λ (z : State). cell_load ((f.servers v).slots k).cell (z.sizes.load k)) (sym a.record_is);
    }

    known_there : (v : ℕ) → has_lost f v ≡ false → IsKnown f.start (f.servers v) (λ k. reopening.base)
    known_there v e = go (slice_get n.servers v) refl
      where
        go : (o : Option ℕ) → slice_get n.servers v ≡ o → IsKnown f.start (f.servers v) (λ k. reopening.base)
        go None at = known_beyond v at
        go (Some j) at = known_at v j at e

    opens_there : IsFleetOpening new.setup f
    opens_there = record {
      journal = a.journal;
      last = λ k v. reopening.base;
      world = world_there;
      fence = let b = a.fence in let c = a.base in omega arith;
      restores = a.restores;
      servers = known_there;
      nonces = a.nonces;
      owner = record {
        known = ap lacks_slots a.owner;
        journal = ap (λ (b : AgentBase). b.journal) a.owner;
        taken = ap (λ (b : AgentBase). b.fenced) a.owner;
        fence = (let b = ap (λ (b : AgentBase). b.number) a.owner in let c = a.fence in omega arith);
        number = (let b = ap (λ (b : AgentBase). b.number) a.owner in let c = a.base in omega arith);
      };
      permits = a.permits;
    }

  -- ---- there is such a fleet

  abbrev base : ℕ
  base = x.reopening.base

  abbrev count : ℕ
  count = length n.servers

  -- a server that had a number has its slots as it took them
  abbrev kept : ℕ → FleetServer
  kept v = record {
    base = agent_settled 0 base;
    slots = λ k. record {
      cell = renumbered n x.world.net.cells Absent k v;
      last = renumbered n x.world.net.last 0 k v;
      at_work = None;
      load = cell_load (renumbered n x.world.net.cells Absent k v) ((sizes_of new.setup).load k);
      cut = None;
    };
  }

  -- it has nothing
  abbrev vacant : ℕ → FleetServer
  vacant v = record {
    base = agent_settled 0 base;
    slots = λ k. record { cell = new.place.cells k v; last = 0; at_work = None; load = cell_load (new.place.cells k v) ((sizes_of new.setup).load k); cut = None };
  }

  -- it has lost its slots, and has asked
  abbrev unknown : ℕ → FleetServer
  unknown v = record { base = record { journal = 0; number = 0; fenced = false; nonce = Some (suc v) }; slots = (vacant v).slots }

  abbrev by_old : ℕ → Option ℕ → FleetServer
  by_old v None = vacant v
  by_old v (Some j) = if is_settled_at base (x.bases (Server j)) then kept v else unknown v

  -- what is shown of a shard that had a number, or of none
  abbrev entry_of : ℕ → Option ℕ → Entry
  entry_of k None = record { server = new.place.listed k; version = 0 }
  entry_of k (Some i) = record { server = new.place.listed k; version = (x.world.shown i).version }

  abbrev fleet : Fleet
  fleet = record {
    start = record { journal = 0; fence = base; base = base; w = opened (sizes_of new.setup) new.place new.room; permits = λ v. None; restores = [] };
    journal = [];
    servers = λ v. by_old v (slice_get n.servers v);
    had = new.place.cells;
    owner = agent_settled 0 base;
    shown = λ k. entry_of k (slice_get n.shards k);
    sent = [];
    answers = [];
    published = [];
    stored = [];
    passes = [];
    asks = range_with_len 0 count;
  }

  no_and : (b : Bool) → (b && false) ≡ false
  no_and true = refl
  no_and false = refl

  -- a party that stands settled at this number
  is_base : (b : Base) → is_settled_at base b ≡ true → b ≡ settled_base base
  is_base b e = by b.number b.fenced b.nonce refl e
    where
      by : (m : ℕ) (fenced : Bool) (nonce : Option ℕ) → b ≡ record { number = m; fenced = fenced; nonce = nonce }
          → is_settled_at base (record { number = m; fenced = fenced; nonce = nonce }) ≡ true → b ≡ settled_base base
      by m false None is t = let e : m ≡ base = search (rules, t) in is ∙ ap settled_base e
      by m true _ is t = absurd (true≢false (sym t ∙ no_and (m == base)))
      by m false (Some k) is t = absurd (true≢false (sym t ∙ no_and (m == base)))

  kept_at : (v j : ℕ) → slice_get n.servers v ≡ Some j → is_settled_at base (x.bases (Server j)) ≡ true → fleet.servers v ≡ kept v
  kept_at v j at e = ap (by_old v) at ∙ ap (λ b. if b then kept v else unknown v) e

  unknown_at : (v j : ℕ) → slice_get n.servers v ≡ Some j → is_settled_at base (x.bases (Server j)) ≡ false → fleet.servers v ≡ unknown v
  unknown_at v j at e = ap (by_old v) at ∙ ap (λ b. if b then kept v else unknown v) e

  vacant_at : (v : ℕ) → slice_get n.servers v ≡ None → fleet.servers v ≡ vacant v
  vacant_at v at = ap (by_old v) at

  has_slots : (v j : ℕ) → slice_get n.servers v ≡ Some j → is_settled_at base (x.bases (Server j)) ≡ true → has_lost fleet v ≡ false
  has_slots v j at e = ap (λ (z : FleetServer). is_some z.base.nonce) (kept_at v j at e)

  loads_of : (k : ℕ) (y z : FleetServer) → y ≡ z → (z.slots k).load ≡ cell_load (z.slots k).cell ((sizes_of new.setup).load k) → (y.slots k).load ≡ cell_load (y.slots k).cell ((sizes_of new.setup).load k)
  loads_of k y z e h = subst (λ (w : FleetServer). (w.slots k).load ≡ cell_load (w.slots k).cell ((sizes_of new.setup).load k)) (sym e) h

  settled_there : (v j : ℕ) → slice_get n.servers v ≡ Some j → is_settled_at base (x.bases (Server j)) ≡ true → HasSettledAs x n new fleet v j
  settled_there v j at e = let is = kept_at v j at e in record {
    taken = is_base (x.bases (Server j)) e;
    base = ap (λ (z : FleetServer). z.base) is;
    cells = λ k. ap (λ (z : FleetServer). (z.slots k).cell) is;
    lasts = λ k. ap (λ (z : FleetServer). (z.slots k).last) is;
    loads = λ k. loads_of k (fleet.servers v) (kept v) is refl;
  }

  slots_there : (v j : ℕ) → slice_get n.servers v ≡ Some j → has_lost fleet v ≡ false → HasSettledAs x n new fleet v j
  slots_there v j at h = go (is_settled_at base (x.bases (Server j))) refl
    where
      go : (b : Bool) → is_settled_at base (x.bases (Server j)) ≡ b → HasSettledAs x n new fleet v j
      go true e = settled_there v j at e
      go false e = absurd (let z = sym (ap (λ (z : FleetServer). is_some z.base.nonce) (unknown_at v j at e)) ∙ h in cc)

  others_there : (v : ℕ) → slice_get n.servers v ≡ None → IsNoServer x new fleet v
  others_there v at = let is = vacant_at v at in record {
    base = ap (λ (z : FleetServer). z.base) is;
    cells = λ k. ap (λ (z : FleetServer). (z.slots k).cell) is;
    lasts = λ k. let e = ap (λ (z : FleetServer). (z.slots k).last) is in omega arith;
    loads = λ k. loads_of k (fleet.servers v) (vacant v) is refl;
  }

  -- each number of a server stands among those that have asked
  asked : (v : ℕ) → v < count → slice_get (range_with_len 0 count) v ≡ Some v
  asked v below = slice_get-get_or (range_with_len 0 count) v 0 (let e = length-range_with_len 0 count in omega arith)
      ∙ ap (λ m. Some m) (get_or-range_with_len 0 count v 0 below ∙ zero-add v)

  nonces_there : (v nonce : ℕ) → (fleet.servers v).base.nonce ≡ Some nonce → HasAskedUnder (range_with_len 0 count) v nonce
  nonces_there v nonce h = go (slice_get n.servers v) refl
    where
      by_base : (j : ℕ) → slice_get n.servers v ≡ Some j → (b : Bool) → is_settled_at base (x.bases (Server j)) ≡ b → HasAskedUnder (range_with_len 0 count) v nonce
      by_base j at true e = absurd (let z = sym (ap (λ (z : FleetServer). z.base.nonce) (kept_at v j at e)) ∙ h in cc)
      by_base j at false e = (v, (let z = sym (ap (λ (z : FleetServer). z.base.nonce) (unknown_at v j at e)) ∙ h in cc), asked v (slice_get_within n.servers v j at))

      go : (o : Option ℕ) → slice_get n.servers v ≡ o → HasAskedUnder (range_with_len 0 count) v nonce
      go None at = absurd (let z = sym (ap (λ (z : FleetServer). z.base.nonce) (vacant_at v at)) ∙ h in cc)
      go (Some j) at = by_base j at (is_settled_at base (x.bases (Server j))) refl

  shown_there : (k i : ℕ) → slice_get n.shards k ≡ Some i → IsEntryAs n (x.world.shown i) (fleet.shown k)
  shown_there k i at = subst (IsEntryAs n (x.world.shown i)) (sym (ap (entry_of k) at))
      (refl, subst (λ o. IsSameServer n o (new.place.listed k)) (sym (shown_server i)) (r.listed k i at))

  none_there : (k : ℕ) → slice_get n.shards k ≡ None → ((fleet.shown k).server ≡ new.place.listed k) × ((fleet.shown k).version ≤ base)
  none_there k at = let e = ap (entry_of k) at in (ap (λ (z : Entry). z.server) e, let d = ap (λ (z : Entry). z.version) e in omega arith)

  force_there : IsFleetInForceAs x n new fleet
  force_there = record {
    journal = refl;
    record_is = refl;
    base = refl;
    fence = refl;
    restores = refl;
    permits = record { range = λ v permit h. absurd (cc); apart = λ u v permit h k. absurd (cc) };
    known = slots_there;
    others = others_there;
    had = λ k v h. refl;
    nonces = nonces_there;
    owner = refl;
    shown = shown_there;
    none_shown = none_there;
    sent = tt;
    answers = tt;
    passes = tt;
    published = tt;
    stored = tt;
  }

-- ---- numbers may stay

-- each number stands at itself
own_at : (count k : ℕ) → k < count → slice_get (range_with_len 0 count) k ≡ Some k
own_at count k below = slice_get-get_or (range_with_len 0 count) k 0 (let e = length-range_with_len 0 count in omega arith)
    ∙ ap (λ m. Some m) (get_or-range_with_len 0 count k 0 below ∙ zero-add k)

-- and no other does
own_is : (count k i : ℕ) → slice_get (range_with_len 0 count) k ≡ Some i → (k < count) × (i ≡ k)
own_is count k i e =
    let below : k < count = (let a = slice_get_within (range_with_len 0 count) k i e in let b = length-range_with_len 0 count in omega arith) in
    (below, some_same i k (sym e ∙ own_at count k below))

own_beyond : (count k : ℕ) → count ≤ k → slice_get (range_with_len 0 count) k ≡ None
own_beyond count k above = go (slice_get (range_with_len 0 count) k) refl
  where
    go : (o : Option ℕ) → slice_get (range_with_len 0 count) k ≡ o → slice_get (range_with_len 0 count) k ≡ None
    go None e = e
    go (Some i) e = absurd (let a = (own_is count k i e).0 in omega arith)

none_of : {A : Type 0} (f : ℕ → ℕ → A) (none : A) (o : Option ℕ) → at_old_numbers f none o None ≡ none
none_of f none None = refl
none_of f none (Some i) = refl

own_once : (count : ℕ) → StandsAtOnePlace (range_with_len 0 count)
own_once count u v number e f = sym (own_is count u number e).1 ∙ (own_is count v number f).1

module _ (s : Settlement) (o : IsOpening s.setup s.place s.room) where
  own_cells : (k v : ℕ) → s.place.cells k v ≡ renumbered (own_numbers s.setup) s.place.cells Absent k v
  own_cells k v = elim (cases_lt k (length s.setup.shards)) [
    | inl k_below ↦ elim (cases_lt v (length s.setup.servers)) [
      | inl v_below ↦ sym (ap₂ (at_old_numbers s.place.cells Absent) (own_at (length s.setup.shards) k k_below) (own_at (length s.setup.servers) v v_below))
      | inr v_above ↦ o.placement.no_server k v v_above
          ∙ sym (ap (at_old_numbers s.place.cells Absent (slice_get (own_numbers s.setup).shards k)) (own_beyond (length s.setup.servers) v v_above)
          ∙ none_of s.place.cells Absent (slice_get (own_numbers s.setup).shards k))
    ]
    | inr k_above ↦ o.placement.no_shard k v k_above
        ∙ sym (ap (λ a. at_old_numbers s.place.cells Absent a (slice_get (own_numbers s.setup).servers v)) (own_beyond (length s.setup.shards) k k_above))
  ]

  own_listed : (k : ℕ) → IsSameServer (own_numbers s.setup) (s.place.listed k) (s.place.listed k)
  own_listed k = go (s.place.listed k) refl
    where
      go : (u : Option ℕ) → s.place.listed k ≡ u → IsSameServer (own_numbers s.setup) u u
      go None e = tt
      go (Some u) e = own_at (length s.setup.servers) u (o.placement.listed k u e)

  own_all : (i j : ℕ) → s.place.cells i j ≢ Absent → (k : ℕ) × (v : ℕ) × (slice_get (own_numbers s.setup).shards k ≡ Some i) × (slice_get (own_numbers s.setup).servers v ≡ Some j)
  own_all i j there = elim (cases_lt i (length s.setup.shards)) [
    | inl i_below ↦ elim (cases_lt j (length s.setup.servers)) [
      | inl j_below ↦ (i, j, own_at (length s.setup.shards) i i_below, own_at (length s.setup.servers) j j_below)
      | inr j_above ↦ absurd (there (o.placement.no_server i j j_above))
    ]
    | inr i_above ↦ absurd (there (o.placement.no_shard i j i_above))
  ]

-- so a settlement is one in its own numbers
pub numbers_may_stay : NumbersMayStay
numbers_may_stay s o = record {
  opening = o;
  servers = own_once (length s.setup.servers);
  shards = own_once (length s.setup.shards);
  cells = own_cells s o;
  listed = λ k i e. subst (λ u. IsSameServer (own_numbers s.setup) (s.place.listed u) (s.place.listed k)) (sym (own_is (length s.setup.shards) k i e).1) (own_listed s o k);
  versions = λ k i e. ap s.place.version (sym (own_is (length s.setup.shards) k i e).1);
  all = own_all s o;
}

-- ---- wherever events lead

-- the fleet opens in new numbers
pub fleet_opens_as : EachSettling OpensWithPast → EachSettling FleetOpensAs
fleet_opens_as past setup x reached s new n f set all r a = let p = past setup x reached s set all in opens_there x s new n r p.0 p.1 f a

-- and there is one
pub fleet_is_there_as : EachSettling OpensWithPast → EachSettling FleetIsThereAs
fleet_is_there_as past setup x reached s new n set all r =
    let p = past setup x reached s set all in
    (fleet x s new n r p.0 p.1, force_there x s new n r p.0 p.1, (λ v. refl), has_slots x s new n r p.0 p.1)
