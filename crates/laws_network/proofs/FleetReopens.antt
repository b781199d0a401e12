-- Wherever the fleet leads a reopening can begin: its shade is the world that it begins over.
use Rattle.std.proofs.Common.{◌≡◌, ◌≤◌, ◌<◌, ℕ, zero, suc, pred, ◌+◌, refl, sym, ap, ◌∙◌, inl, inr, subst, arith, false, Option, Some, None, List, [], ◌∷◌, length}
use Rattle.std.specs.Prelude.{is_some, map, slice_get, slice_index_or, if◌then◌else◌}
use Rattle.std.specs.List.{AllByRecursion}
use Rattle.sm_server.specs.declared.call.Cell.TheVariants as cell
use Rattle.sm_placement.specs.Setup.{Setup, sizes_of}
use Rattle.sm_agent.specs.declared.base.Base.{Base as AgentBase}
use Rattle.sm_protocol.proofs.Courses.{some_same}
use Rattle.laws_network.specs.World.{World}
use Rattle.laws_network.specs.Controller.{Restore as ServerRestore}
use Rattle.laws_network.specs.Fleet.{Fleet, controller, has_lost}
use Rattle.laws_network.specs.FleetLaws.{EachFleet, HasAskedUnder, IsFleetReached}
use Rattle.laws_network.specs.FleetReopening.{FleetCanReopen, IsOneOf, base_by, bases_of, real_lasts, restore_seen, settling_of}
use Rattle.laws_network.specs.Reopening.{Base, MapOwner, Party, Server, Settling}
use Rattle.laws_network.specs.ReopeningLaws.{HasSlots, IsOutset, IsPast, IsRestoring, IsSettleBelow}
use Rattle.laws_network.proofs.Deliveries.{shade_of}
use Rattle.laws_network.proofs.Lists.{all_map}
use Rattle.laws_network.proofs.Again.{base_is}
use Rattle.laws_network.proofs.FleetSafety.{fleet_is_safe}
use Rattle.laws_network.proofs.Reaching.{fleet_shadow}
use Rattle.laws_network.proofs.Recorded.{none_of}
use Rattle.laws_network.proofs.Shadow.{IsLetter, IsRestore, IsShadow}

-- what stands at a place of a list is read there, and the place is one of it
read_at : {A : Type 0} (xs : List A) (k : ℕ) (a d : A) → slice_get xs k ≡ Some a → (slice_index_or xs k d ≡ a) × (k < length xs)
read_at [] k a d e = absurd (cc)
read_at (x ∷ xs) zero a d e = (some_same x a e, omega arith)
read_at (x ∷ xs) (suc k) a d e = let r = read_at xs k a d e in (r.0, let z = r.1 in omega arith)

-- what holds of the image of each holds of all images
pub all_image : {A B : Type 0} (P : B → Type 0) (f : A → B) (xs : List A) → AllByRecursion (λ a. P (f a)) xs → AllByRecursion P (map f xs)
all_image P f [] all = tt
all_image P f (x ∷ xs) all = (all.0, all_image P f xs all.1)

all_given : {A : Type 0} (P : A → Type 0) (xs : List A) → ((a : A) → P a) → AllByRecursion P xs
all_given P [] f = tt
all_given P (x ∷ xs) f = (f x, all_given P xs f)

-- a base is seen with its own nonce
nonce_by : (b : AgentBase) (o : Option ℕ) → (base_by b o).nonce ≡ o
nonce_by b None = refl
nonce_by b (Some n) = refl

number_by : (b : AgentBase) (o : Option ℕ) → o ≡ None → (base_by b o).number ≡ b.number
number_by b None e = refl
number_by b (Some n) e = absurd (cc)

low_by : (b : AgentBase) (o : Option ℕ) (n : ℕ) → (o ≡ None → b.number ≤ n) → (base_by b o).number ≤ n
low_by b None n l = l refl
low_by b (Some k) n l = omega arith

module _ (setup : Setup) (f : Fleet) (r : IsFleetReached setup f) (k : IsShadow setup (λ s v. 0) f) where
  abbrev w : World
  w = shade_of f k

  abbrev x : Settling
  x = settling_of f w

  nonce_is : (v : ℕ) → (bases_of f (Server v)).nonce ≡ (f.servers v).base.nonce
  nonce_is v = nonce_by (f.servers v).base (f.servers v).base.nonce

  -- who has its slots has not lost them
  has_kept : (v : ℕ) → (bases_of f (Server v)).nonce ≡ None → has_lost f v ≡ false
  has_kept v e = ap is_some (sym (nonce_is v) ∙ e)

  number_is : (v : ℕ) → (bases_of f (Server v)).nonce ≡ None → (bases_of f (Server v)).number ≡ (f.servers v).base.number
  number_is v e = number_by (f.servers v).base (f.servers v).base.nonce (sym (nonce_is v) ∙ e)

  slots_there : (v : ℕ) → (bases_of f (Server v)).nonce ≡ None → HasSlots w x v
  slots_there v e =
      let h = has_kept v e in
      let known = k.servers v h in record {
        cells = λ s. ap (λ b. if b then cell.Absent else ((f.servers v).slots s).cell) h ∙ sym (ap (λ b. if b then f.had s v else ((f.servers v).slots s).cell) h);
        lasts = λ s.
            let is : real_lasts f s v ≡ ((f.servers v).slots s).last = ap (λ b. if b then 0 else ((f.servers v).slots s).last) h in
            let n = number_is v e in
            elim (known.lasts s) [
              | inl a ↦ inl (is ∙ sym a.1)
              | inr a ↦ inr ((let b = a.0 in omega arith), (let b = a.1 in omega arith))
            ];
        sizes = λ d b. refl;
        loads = λ b. (fleet_is_safe setup f r).rooms v b;
      }

  owner_none : f.owner.nonce ≡ None
  owner_none = none_of f.owner.nonce k.owner.known

  owner_is : (bases_of f MapOwner) ≡ base_by f.owner None
  owner_is = ap (base_by f.owner) owner_none

  numbers_there : (p : Party) → (bases_of f p).number ≤ (controller f).base + length (controller f).w.log
  numbers_there (Server v) = low_by (f.servers v).base (f.servers v).base.nonce _ (λ e. (k.servers v (ap is_some e)).number)
  numbers_there MapOwner = low_by f.owner f.owner.nonce _ (λ e. let a = k.owner.number in omega arith)

  asked_low : (v n : ℕ) → HasAskedUnder f.asks v n → n < suc (length f.asks)
  asked_low v n a = let b = (read_at f.asks a.0 v 0 a.2).1 in let c = a.1 in omega arith

  nonces_there : (p : Party) (n : ℕ) → (bases_of f p).nonce ≡ Some n → n < suc (length f.asks)
  nonces_there (Server v) n e = asked_low v n (k.asked v n (sym (nonce_is v) ∙ e))
  nonces_there MapOwner n e = absurd (let z : (bases_of f MapOwner).nonce ≡ None = nonce_by f.owner f.owner.nonce ∙ owner_none in cc)

  restore_past : (q : ServerRestore) → IsRestore (controller f) f k.shade.last q → IsPast w x (restore_seen f q)
  restore_past q g = (asked_low g.server q.restoration.nonce g.asked, λ e. waits e)
    where
      server_is : slice_index_or f.asks (pred q.restoration.nonce) 0 ≡ g.server
      server_is = ap (λ n. slice_index_or f.asks (pred n) 0) g.asked.1 ∙ (read_at f.asks g.asked.0 g.server 0 g.asked.2).0

      waits : (bases_of f (Server (slice_index_or f.asks (pred q.restoration.nonce) 0))).nonce ≡ Some q.restoration.nonce →
          IsRestoring w x (slice_index_or f.asks (pred q.restoration.nonce) 0) q.restoration.number (controller f).w.sizes q.cells
      waits e =
          let there = g.cells (sym (nonce_is g.server) ∙ subst (λ u. (bases_of f (Server u)).nonce ≡ Some q.restoration.nonce) server_is e) in
          subst (λ u. IsRestoring w x u q.restoration.number (controller f).w.sizes q.cells) (sym server_is) (record {
            cells_had = λ s. (there s).0;
            sizes_had = refl;
            number_had = g.number;
            lasts_had = λ s. (there s).1;
            settles = all_image (IsSettleBelow g.server q.restoration.number) (restore_seen f) (controller f).restores (all_given _ (controller f).restores (λ z. tt));
          })

  outset : IsOutset setup x
  outset = record {
    world = w;
    reached = k.reached;
    same = refl;
    slots = slots_there;
    blank = λ v n e s. ap (λ b. if b then 0 else ((f.servers v).slots s).last) (ap is_some (sym (nonce_is v) ∙ e));
    map = base_is (bases_of f MapOwner) (ap (λ (b : Base). b.fenced) owner_is ∙ k.owner.taken) (ap (λ (b : Base). b.nonce) owner_is);
    numbers = numbers_there;
    nonces = nonces_there;
    messages = all_image (IsPast w x) (restore_seen f) (controller f).restores (all_map (IsRestore (controller f) f k.shade.last) (λ q. IsPast w x (restore_seen f q)) (controller f).restores restore_past k.restores);
    servers = refl;
    promised = λ v. refl;
  }

  can_reopen_there : FleetCanReopen setup f
  can_reopen_there = record {
    world = w;
    record_is = refl;
    base = refl;
    shown = refl;
    sent = all_map (IsLetter (sizes_of setup) k.shade) (λ l. IsOneOf w.net.sent l.order) f.sent (λ l g. g.among) k.sent;
    answers = k.answers;
    passes = k.passes;
    published = k.published;
    stored = k.stored;
    outset = outset;
  }

-- wherever the fleet leads, a reopening can begin
pub fleet_can_reopen : EachFleet FleetCanReopen
fleet_can_reopen setup f r = can_reopen_there setup f r (fleet_shadow setup f r)
