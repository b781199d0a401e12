-- Facts that hold wherever events of the fleet lead: it is as its shade, and its servers turn away only what the shade turns away, or what is
-- past.
use Rattle.std.proofs.Common.{◌≡◌, ℕ, zero, suc, ◌+◌, ◌≤◌, ◌<◌, ◌⊎◌, refl, sym, ap, ◌∙◌, inl, subst, arith, false, Option, Some, None, List, length}
use Rattle.std.specs.Prelude.{option_map}
use Rattle.std.specs.List.{AllByRecursion}
use Rattle.sm_placement.specs.Setup.{Setup, Sizes, sizes_of}
use Rattle.sm_reservation.specs.declared.stream_id.StreamId.{StreamId}
use Rattle.sm_protocol.specs.Ticket.{Ticket}
use Rattle.sm_protocol.proofs.Courses.{some_same}
use Rattle.sm_agent.specs.Order.{cell_load}
use Rattle.laws_network.specs.Words.{Cell, Entry}
use Rattle.laws_network.specs.Net.{Order, order_of}
use Rattle.laws_network.specs.World.{Publication, World, publication_of}
use Rattle.laws_network.specs.WorldLaws.{IsWorldReached}
use Rattle.laws_network.specs.Controller.{Controller, JournalEntry, Letter, Notice, Restore, letter, letter_of, notice, notice_of, entry_recorded}
use Rattle.laws_network.specs.Fleet.{Fleet, Handoff, Server, controller, earlier, has_lost, held_cells, written}
use Rattle.laws_network.specs.FleetLaws.{HasAskedUnder, IsOwner}
use Rattle.laws_network.proofs.Behind.{IsBehind}
use Rattle.laws_network.proofs.Lists.{all_map}
use Rattle.laws_network.proofs.Shade.{IsAllSaid, IsAmong, say_all}

-- what the shade has beside the fleet: the numbers of the last orders that had an effect, and more messages
pub record Shade : Type 0 where
  pub last : ℕ → ℕ → ℕ
  pub sent : List Order
  pub answers : List Order
  pub passes : List Ticket
  pub published : List Publication
  pub stored : List Publication

-- the shade of a fleet with this controller, these cells and this map
abbrev pub world_by : Controller → (ℕ → ℕ → Cell) → (ℕ → Entry) → Shade → World
world_by c cells shown q = record {
  net = record { w = c.w; base = c.base; cells = cells; last = q.last; sent = q.sent; answers = q.answers; passes = q.passes };
  shown = shown;
  published = q.published;
  stored = q.stored;
}

-- a pass as the network has it
abbrev pub ticket_of : Handoff → Ticket
ticket_of h = record { place = 0; shard = h.shard; sender = h.pass.from; target = h.target; number = h.pass.handover }

-- the shade has sent the order, and the letter says what the configuration says, or it is past
pub record IsLetter (c : Sizes) (q : Shade) (l : Letter) : Type 0 where
  pub among : IsAmong q.sent l.order
  pub sizes : ((l.load ≡ c.load l.order.call.shard) × (l.room ≡ c.room l.order.call.server)) ⊎ (l.order.number ≤ q.last l.order.call.shard l.order.call.server)

-- what a base and a slot have seen is what the last order had as its number
abbrev pub IsSeen : ℕ → ℕ → ℕ → Type 0
IsSeen base slot last = ((base < slot) × (last ≡ slot)) ⊎ ((slot ≤ base) × (last ≤ base))

-- a server that has its slots
pub record IsKnownServer (c : Controller) (v : ℕ) (server : Server) (last : ℕ → ℕ) : Type 0 where
  pub journal : server.base.journal ≡ c.journal
  pub taken : server.base.fenced ≡ false
  pub fence : c.fence ≤ server.base.number
  pub number : server.base.number ≤ c.base + length c.w.log
  pub lasts : (s : ℕ) → IsSeen server.base.number (server.slots s).last (last s)
  pub loads : (s : ℕ) → (server.slots s).load ≡ cell_load (server.slots s).cell (c.w.sizes.load s)
  pub behind : IsBehind c.w c.base v server.base.number

-- a restore: if its server still asks under its nonce, it tells what the server had, and its number is above all that had an effect there
pub record IsRestore (c : Controller) (f : Fleet) (last : ℕ → ℕ → ℕ) (r : Restore) : Type 0 where
  pub journal : r.restoration.journal ≡ c.journal
  pub fence : c.fence ≤ r.restoration.number
  pub number : r.restoration.number ≤ c.base + length c.w.log
  pub loads : r.loads ≡ c.w.sizes.load
  pub server : ℕ
  pub asked : HasAskedUnder f.asks server r.restoration.nonce
  pub behind : IsBehind c.w c.base server r.restoration.number
  pub cells : (f.servers server).base.nonce ≡ Some r.restoration.nonce → (s : ℕ) → (r.cells s ≡ held_cells f s server) × (last s server ≤ r.restoration.number)

-- the fleet is as its shade, whose last numbers are no lower than these
pub record IsShadow (setup : Setup) (low : ℕ → ℕ → ℕ) (f : Fleet) : Type 0 where
  pub shade : Shade
  pub above : (s v : ℕ) → low s v ≤ shade.last s v
  pub reached : IsWorldReached setup (world_by (controller f) (held_cells f) f.shown shade)
  pub sizes : (controller f).w.sizes ≡ sizes_of setup
  pub start : f.start.w.sizes ≡ sizes_of setup
  pub fence : (controller f).fence ≤ (controller f).base
  pub owner : IsOwner (controller f) f.owner
  pub sent : AllByRecursion (IsLetter (sizes_of setup) shade) f.sent
  pub answers : AllByRecursion (IsAmong shade.answers) f.answers
  pub published : AllByRecursion (λ n. IsAmong shade.published n.publication) f.published
  pub stored : AllByRecursion (IsAmong shade.stored) f.stored
  pub passes : AllByRecursion (λ h. IsAmong shade.passes (ticket_of h)) f.passes
  pub letters : (lost : ℕ) (id : StreamId) (l : Letter) → letter_of (earlier f lost) id ≡ Some l → IsLetter (sizes_of setup) shade l
  pub notices : (lost : ℕ) (id : StreamId) (n : Notice) → notice_of (earlier f lost) id ≡ Some n → IsAmong shade.published n.publication
  pub servers : (v : ℕ) → has_lost f v ≡ false → IsKnownServer (controller f) v (f.servers v) (λ s. shade.last s v)
  pub asked : (v nonce : ℕ) → (f.servers v).base.nonce ≡ Some nonce → HasAskedUnder f.asks v nonce
  pub restores : AllByRecursion (IsRestore (controller f) f shade.last) (controller f).restores

-- ---- the controller goes on

-- The proof obligations for a controller that goes on.
pub record IsGoing (c new : Controller) : Type 0 where
  pub journal : new.journal ≡ c.journal
  pub fence : new.fence ≡ c.fence
  pub sizes : new.w.sizes ≡ c.w.sizes
  pub base : c.base ≤ new.base
  pub top : c.base + length c.w.log ≤ new.base + length new.w.log
  pub behind : (v number : ℕ) → number ≤ c.base + length c.w.log → IsBehind c.w c.base v number → IsBehind new.w new.base v number

-- a known server stays one
known_goes : (c new : Controller) (v : ℕ) (server : Server) (last : ℕ → ℕ) → IsGoing c new → IsKnownServer c v server last → IsKnownServer new v server last
known_goes c new v server last g k = record {
  journal = k.journal ∙ sym g.journal;
  taken = k.taken;
  fence = (let a = g.fence in let b = k.fence in omega arith);
  number = (let a = k.number in let b = g.top in omega arith);
  lasts = k.lasts;
  loads = λ s. k.loads s ∙ ap (λ (z : Sizes). cell_load (server.slots s).cell (z.load s)) (sym g.sizes);
  behind = g.behind v server.base.number k.number k.behind;
}

-- and a restore, too
pub restore_goes : (c new : Controller) (f : Fleet) (e : JournalEntry) (last : ℕ → ℕ → ℕ) (r : Restore) → IsGoing c new → IsRestore c f last r → IsRestore new (written f e) last r
restore_goes c new f e last r g k = record {
  journal = k.journal ∙ sym g.journal;
  fence = (let a = g.fence in let b = k.fence in omega arith);
  number = (let a = k.number in let b = g.top in omega arith);
  loads = k.loads ∙ ap (λ (z : Sizes). z.load) (sym g.sizes);
  server = k.server;
  asked = k.asked;
  behind = g.behind k.server r.restoration.number k.number k.behind;
  cells = k.cells;
}

-- the shade with more that was sent
abbrev shade_said : Shade → List Order → List Publication → Shade
shade_said q S U = record q { sent = S; published = U }

letter_more : (z : Sizes) (q : Shade) (S : List Order) (U : List Publication) → ((o : Order) → IsAmong q.sent o → IsAmong S o) → (l : Letter) → IsLetter z q l → IsLetter z (shade_said q S U) l
letter_more z q S U more l k = record { among = more l.order k.among; sizes = k.sizes }

-- the letter of a stream says what its order is, and what the configuration says
pub letter_says : (c : Controller) (id : StreamId) (l : Letter) → letter_of c id ≡ Some l →
    (order_of c.base c.w id ≡ Some l.order) × ((l.load ≡ c.w.sizes.load l.order.call.shard) × (l.room ≡ c.w.sizes.room l.order.call.server))
letter_says c id l e = go (order_of c.base c.w id) refl e
  where
    go : (o : Option Order) → order_of c.base c.w id ≡ o → option_map (letter c) o ≡ Some l →
        (o ≡ Some l.order) × ((l.load ≡ c.w.sizes.load l.order.call.shard) × (l.room ≡ c.w.sizes.room l.order.call.server))
    go None q f = absurd (cc)
    go (Some o) q f =
        let same : letter c o ≡ l = some_same (letter c o) l f in
        subst (λ (m : Letter). (Some o ≡ Some m.order) × ((m.load ≡ c.w.sizes.load m.order.call.shard) × (m.room ≡ c.w.sizes.room m.order.call.server))) same (refl, (refl, refl))

-- the notice of a stream is its publication
pub notice_says : (c : Controller) (id : StreamId) (n : Notice) → notice_of c id ≡ Some n → publication_of c.base c.w id ≡ Some n.publication
notice_says c id n e = go (publication_of c.base c.w id) e
  where
    go : (o : Option Publication) → option_map (notice c) o ≡ Some n → o ≡ Some n.publication
    go None f = absurd (cc)
    go (Some p) f = ap (λ (m : Notice). Some m.publication) (some_same (notice c p) n f)

-- The journal has an entry more, which the shade has made: so the fleet is as its shade, once that has sent all that it can.
pub write_shadow : (setup : Setup) (low : ℕ → ℕ → ℕ) (f : Fleet) (e : JournalEntry) (k : IsShadow setup low f) → IsGoing (controller f) (entry_recorded (controller f) e) →
    IsWorldReached setup (world_by (entry_recorded (controller f) e) (held_cells f) f.shown k.shade) →
    AllByRecursion (IsRestore (entry_recorded (controller f) e) (written f e) k.shade.last) (entry_recorded (controller f) e).restores → IsShadow setup low (written f e)
write_shadow setup low f e k g reached restores = record {
  shade = more;
  reached = s.reached;
  above = k.above;
  sizes = sizes;
  start = k.start;
  fence = (let a = g.fence in let b = k.fence in let d = g.base in omega arith);
  owner = record {
    known = k.owner.known;
    journal = k.owner.journal ∙ sym g.journal;
    taken = k.owner.taken;
    fence = (let a = g.fence in let b = k.owner.fence in omega arith);
    number = (let a = g.base in let b = k.owner.number in omega arith);
  };
  sent = all_map (IsLetter (sizes_of setup) q) (IsLetter (sizes_of setup) more) f.sent (letter_more (sizes_of setup) q s.sent s.published s.kept_sent) k.sent;
  answers = k.answers;
  published = all_map (λ n. IsAmong q.published n.publication) (λ n. IsAmong s.published n.publication) f.published (λ n h. s.kept_published n.publication h) k.published;
  stored = k.stored;
  passes = k.passes;
  letters = letters;
  notices = notices;
  servers = λ v h. known_goes c new v (f.servers v) (λ r. q.last r v) g (k.servers v h);
  asked = k.asked;
  restores = restores;
}
  where
    c : Controller
    c = controller f

    new : Controller
    new = entry_recorded (controller f) e

    q : Shade
    q = k.shade

    sizes : (entry_recorded (controller f) e).w.sizes ≡ sizes_of setup
    sizes = g.sizes ∙ k.sizes

    s : IsAllSaid setup (world_by (entry_recorded (controller f) e) (held_cells f) f.shown k.shade)
    s = say_all setup (world_by (entry_recorded (controller f) e) (held_cells f) f.shown k.shade) reached

    more : Shade
    more = shade_said k.shade s.sent s.published

    letters : (lost : ℕ) (id : StreamId) (l : Letter) → letter_of (earlier (written f e) lost) id ≡ Some l → IsLetter (sizes_of setup) (shade_said k.shade s.sent s.published) l
    letters zero id l h =
        let a = letter_says (entry_recorded (controller f) e) id l h in record {
          among = s.orders id l.order a.0;
          sizes = inl (a.1.0 ∙ ap (λ (z : Sizes). z.load l.order.call.shard) sizes, a.1.1 ∙ ap (λ (z : Sizes). z.room l.order.call.server) sizes);
        }
    letters (suc lost) id l h = letter_more (sizes_of setup) k.shade s.sent s.published s.kept_sent l (k.letters lost id l h)

    notices : (lost : ℕ) (id : StreamId) (n : Notice) → notice_of (earlier (written f e) lost) id ≡ Some n → IsAmong s.published n.publication
    notices zero id n h = s.publications id n.publication (notice_says (entry_recorded (controller f) e) id n h)
    notices (suc lost) id n h = s.kept_published n.publication (k.notices lost id n h)

-- what is above higher numbers is above lower ones
pub lower : (setup : Setup) (low high : ℕ → ℕ → ℕ) (f : Fleet) → IsShadow setup high f → ((s v : ℕ) → low s v ≤ high s v) → IsShadow setup low f
lower setup low high f k h = record {
  shade = k.shade;
  above = λ s v. (let a = h s v in let b = k.above s v in omega arith);
  reached = k.reached;
  sizes = k.sizes;
  start = k.start;
  fence = k.fence;
  owner = k.owner;
  sent = k.sent;
  answers = k.answers;
  published = k.published;
  stored = k.stored;
  passes = k.passes;
  letters = k.letters;
  notices = k.notices;
  servers = k.servers;
  asked = k.asked;
  restores = k.restores;
}
