-- Once a settlement is in force, the whole fleet opens on it.
use Rattle.std.proofs.Common.{◌≡◌, ◌≤◌, ◌<◌, ℕ, refl, sym, ap, ◌∙◌, inl, inr, subst, arith, is_none, Bool, true, false, max, Option, Some, None, List}
use Rattle.std.specs.Prelude.{if◌then◌else◌}
use Rattle.std.proofs.lemmas.Bool.{cases_lt}
use Rattle.std.proofs.Math.Path.{fun_ext}
use Rattle.std.specs.List.{AllByRecursion}
use Rattle.sm_server.specs.declared.call.Cell.{Cell}
use Rattle.sm_agent.specs.declared.base.Base.{Base as AgentBase}
use Rattle.sm_agent.specs.Base.{lacks_slots}
use Rattle.sm_agent.specs.Order.{cell_load}
use Rattle.sm_protocol.specs.State.{State}
use Rattle.laws_network.specs.Words.{Ticket}
use Rattle.laws_network.specs.Net.{Order}
use Rattle.laws_network.specs.World.{Entry, Publication}
use Rattle.laws_network.specs.WorldLaws.{IsWorldOpening}
use Rattle.laws_network.specs.Laws.{IsNetOpening}
use Rattle.laws_network.specs.Controller.{Controller, JournalEntry, replayed}
use Rattle.laws_network.specs.Fleet.{Fleet, controller, has_lost, held_cells}
use Rattle.laws_network.specs.FleetLaws.{IsFleetOpening, IsKnown, world_of}
use Rattle.laws_network.specs.FleetReopening.{FleetOpensInForce, IsFleetInForce, IsOneOf, pass_seen}
use Rattle.laws_network.specs.Reopening.{Base, Reopening, Server, Settlement, Settling}
use Rattle.laws_network.specs.ReopeningLaws.{EachSettling, in_force}
use Rattle.laws_network.proofs.FleetReopens.{all_image}
use Rattle.laws_network.proofs.Lists.{all_at, all_map}
use Rattle.laws_network.proofs.Opens.{opens_with_past}

-- what holds of all of a list holds of one of it
one_of : {A : Type 0} (P : A → Type 0) (xs : List A) → AllByRecursion P xs → (a : A) → IsOneOf xs a → P a
one_of P xs all a o = all_at P xs o.0 a all o.1

module _ (x : Settling) (s : Settlement) (f : Fleet) (settled_cells : (k v : ℕ) → (x.bases (Server v)).nonce ≡ None → x.world.net.cells k v ≡ s.place.cells k v)
    (there : IsWorldOpening s.setup (in_force x s)) (a : IsFleetInForce x s f) where
  abbrev r : Reopening
  r = x.reopening

  starts : controller f ≡ f.start
  starts = ap (λ (j : List JournalEntry). replayed f.start j) a.journal

  base_is : (controller f).base ≡ r.base
  base_is = ap (λ (c : Controller). c.base) starts ∙ a.base

  -- every number of before is at or below the new base
  abbrev Low : Order → Type 0
  Low o = o.number ≤ r.base

  abbrev last_there : ℕ → ℕ → ℕ
  last_there = (in_force x s).net.last

  sent_low : AllByRecursion Low x.world.net.sent
  sent_low = all_map (λ o. o.number ≤ last_there o.call.shard o.call.server) Low x.world.net.sent (λ o g. let b = there.net.lasts o.call.shard o.call.server in omega arith) there.net.sent

  answers_low : AllByRecursion Low x.world.net.answers
  answers_low = all_map (λ o. o.number ≤ last_there o.call.shard o.call.server) Low x.world.net.answers (λ o g. let b = there.net.lasts o.call.shard o.call.server in omega arith) there.net.answers

  -- a number is a server's, or no server's
  by_number : {P : Type 0} (v : ℕ) → (v < r.servers → P) → (r.servers ≤ v → P) → P
  by_number v below above = elim (cases_lt v r.servers) [
    | inl under ↦ below under
    | inr over ↦ above over
  ]

  cells_there : (k v : ℕ) → held_cells f k v ≡ s.place.cells k v
  cells_there k v = go (has_lost f v) refl
    where
      go : (b : Bool) → has_lost f v ≡ b → held_cells f k v ≡ s.place.cells k v
      go true e = ap (λ b. if b then f.had k v else ((f.servers v).slots k).cell) e ∙ a.had k v e
      go false e = ap (λ b. if b then f.had k v else ((f.servers v).slots k).cell) e ∙ by_number v
          (λ below. let t = a.known v below e in t.cells k ∙ settled_cells k v (ap (λ (b : Base). b.nonce) t.taken))
          (λ above. (a.others v above).cells k)

  -- the opening's cells are those that were settled
  opening_cells : (k v : ℕ) → there.net.place.cells k v ≡ s.place.cells k v
  opening_cells k v = ap (λ (m : ℕ → ℕ → Cell). m k v) (sym there.net.cells) ∙ go (x.bases (Server v)).nonce refl
    where
      go : (o : Option ℕ) → (x.bases (Server v)).nonce ≡ o → (if is_none (x.bases (Server v)).nonce then x.world.net.cells k v else s.place.cells k v) ≡ s.place.cells k v
      go None e = ap (λ (o : Option ℕ). if is_none o then x.world.net.cells k v else s.place.cells k v) e ∙ settled_cells k v e
      go (Some n) e = ap (λ (o : Option ℕ). if is_none o then x.world.net.cells k v else s.place.cells k v) e

  record_there : (controller f).w ≡ (in_force x s).net.w
  record_there = ap (λ (c : Controller). c.w) starts ∙ a.record_is

  net_opens : IsNetOpening s.setup (world_of f (λ k v. r.base)).net
  net_opens = record {
    place = there.net.place;
    room = there.net.room;
    opening = there.net.opening;
    w = record_there ∙ there.net.w;
    cells = fun_ext (λ k. fun_ext (λ v. cells_there k v ∙ sym (opening_cells k v)));
    lasts = λ k v. let b = base_is in omega arith;
    sent = all_image Low (λ l. l.order) f.sent (all_map (λ l. IsOneOf x.world.net.sent l.order) (λ l. Low l.order) f.sent (λ l g. one_of Low x.world.net.sent sent_low l.order g) a.sent);
    answers = all_map (IsOneOf x.world.net.answers) Low f.answers (λ o g. one_of Low x.world.net.answers answers_low o g) a.answers;
    passes = all_image (λ t. t.number ≤ (controller f).base) pass_seen f.passes (all_map (λ h. IsOneOf x.world.net.passes (pass_seen h)) (λ h. (pass_seen h).number ≤ (controller f).base) f.passes
        (λ p g. let b = one_of (λ (t : Ticket). t.number ≤ r.base) x.world.net.passes there.net.passes (pass_seen p) g in let c = base_is in omega arith) a.passes);
  }

  -- a publication of before has no higher version than what is shown
  stale : (p : Publication) → p.entry.version ≤ (x.world.shown p.shard).version → p.entry.version ≤ (f.shown p.shard).version
  stale p g = subst (λ (m : ℕ → Entry). p.entry.version ≤ (m p.shard).version) (sym a.shown) g

  world_there : IsWorldOpening s.setup (world_of f (λ k v. r.base))
  world_there = record {
    net = net_opens;
    servers = λ k. ap (λ (m : ℕ → Entry). (m k).server) a.shown ∙ there.servers k ∙ sym (ap (λ (z : State). z.place.listed k) record_there);
    versions = λ k.
        let b = there.versions k in
        let c = ap (λ (m : ℕ → Entry). (m k).version) a.shown in
        let d = base_is in
        let e = ap (λ (z : State). z.place.version k) record_there in
        omega arith;
    published = all_image (λ p. p.entry.version ≤ (f.shown p.shard).version) (λ n. n.publication) f.published
        (all_map (λ n. IsOneOf x.world.published n.publication) (λ n. n.publication.entry.version ≤ (f.shown n.publication.shard).version) f.published
        (λ n g. stale n.publication (one_of (λ (p : Publication). p.entry.version ≤ (x.world.shown p.shard).version) x.world.published there.published n.publication g)) a.published);
    stored = all_map (IsOneOf x.world.stored) (λ p. p.entry.version ≤ (f.shown p.shard).version) f.stored
        (λ p g. stale p (one_of (λ (p : Publication). p.entry.version ≤ (x.world.shown p.shard).version) x.world.stored there.stored p g)) a.stored;
  }

  -- the last number of a server that has taken its part is not above the base
  last_low : (k v : ℕ) → (x.bases (Server v)).nonce ≡ None → x.world.net.last k v ≤ r.base
  last_low k v e = let b : max (x.world.net.last k v) (x.bases (Server v)).number ≤ r.base =
      subst (λ (o : Option ℕ). (if is_none o then max (x.world.net.last k v) (x.bases (Server v)).number else r.base) ≤ r.base) e (there.net.lasts k v) in omega arith

  known_below : (v : ℕ) → v < r.servers → has_lost f v ≡ false → IsKnown f.start (f.servers v) (λ k. r.base)
  known_below v below e = let t = a.known v below e in record {
    journal = ap (λ (b : AgentBase). b.journal) t.base;
    taken = ap (λ (b : AgentBase). b.fenced) t.base;
    fence = (let b = ap (λ (b : AgentBase). b.number) t.base in let c = a.fence in omega arith);
    number = (let b = ap (λ (b : AgentBase). b.number) t.base in let c = a.base in omega arith);
    lasts = λ k. inr (let b = ap (λ (b : AgentBase). b.number) t.base in let c = t.lasts k in let d = last_low k v (ap (λ (b : Base). b.nonce) t.taken) in ((omega arith), (omega arith)));
    loads = λ k. t.loads k ∙ ap (λ (z : State). cell_load ((f.servers v).slots k).cell (z.sizes.load k)) (sym a.record_is);
  }

  known_above : (v : ℕ) → r.servers ≤ v → IsKnown f.start (f.servers v) (λ k. r.base)
  known_above v above = let t = a.others v above in record {
    journal = ap (λ (b : AgentBase). b.journal) t.base;
    taken = ap (λ (b : AgentBase). b.fenced) t.base;
    fence = (let b = ap (λ (b : AgentBase). b.number) t.base in let c = a.fence in omega arith);
    number = (let b = ap (λ (b : AgentBase). b.number) t.base in let c = a.base in omega arith);
    lasts = λ k. inr (let b = ap (λ (b : AgentBase). b.number) t.base in let c = t.lasts k in ((omega arith), (omega arith)));
    loads = λ k. t.loads k ∙ ap (λ (z : State). cell_load ((f.servers v).slots k).cell (z.sizes.load k)) (sym a.record_is);
  }

  known_there : (v : ℕ) → has_lost f v ≡ false → IsKnown f.start (f.servers v) (λ k. r.base)
  known_there v e = by_number v (λ below. known_below v below e) (known_above v)

  opens_there : IsFleetOpening s.setup f
  opens_there = record {
    journal = a.journal;
    last = λ k v. r.base;
    world = world_there;
    fence = let b = a.fence in let c = a.base in omega arith;
    restores = a.restores;
    servers = known_there;
    nonces = a.nonces;
    owner = record {
      known = ap lacks_slots a.owner;
      journal = ap (λ (b : AgentBase). b.journal) a.owner;
      taken = ap (λ (b : AgentBase). b.fenced) a.owner;
      fence = (let b = ap (λ (b : AgentBase). b.number) a.owner in let c = a.fence in omega arith);
      number = (let b = ap (λ (b : AgentBase). b.number) a.owner in let c = a.base in omega arith);
    };
    permits = a.permits;
  }

-- once a settlement is in force, the fleet opens on it, as the world does
pub fleet_opens_in_force : EachSettling FleetOpensInForce
fleet_opens_in_force setup x reached s f set all a = let p = opens_with_past setup x reached s set all in opens_there x s f p.0 p.1 a
