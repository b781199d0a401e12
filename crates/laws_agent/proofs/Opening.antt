-- The servers of each fleet to which events lead stand for a state over which a reopening may begin, also once it has begun.
use Rattle.std.proofs.Common.{◌≡◌, ◌⊎◌, ◌≤◌, ◌<◌, ℕ, ◌+◌, refl, sym, ap, ◌∙◌, subst, arith, Bool, false, Option, Some, None, List, [], ◌∷◌, length}
use Rattle.std.specs.Prelude.{map}
use Rattle.std.proofs.Math.Path.{fun_ext}
use Rattle.sm_agent.specs.declared.base.Base.{Base as AgentBase}
use Rattle.laws_network.specs.Words.{Setup}
use Rattle.laws_network.specs.World.{World}
use Rattle.laws_network.specs.Controller.{Restore as ServerRestore}
use Rattle.laws_network.specs.Fleet.{Fleet, controller}
use Rattle.laws_network.specs.FleetLaws.{EachFleet}
use Rattle.laws_network.specs.FleetReopening.{FleetCanReopen, base_by, base_seen, restore_seen, settling_of}
use Rattle.laws_network.specs.Reopening.{Base, Fence, Fenced, MapOwner, Message, Party, Reopen, Restore, Server, Settle, Settled, Settling, records}
use Rattle.laws_network.specs.ReopeningLaws.{IsOutset, IsPast, IsSettlingReached, MayReopen}
use Rattle.laws_network.proofs.Lists.{all_map}
use Rattle.laws_agent.specs.Cluster.{entry_noted}
use Rattle.laws_agent.specs.ClusterLaws.{AreUnknownLow, ClustersOpen, IsBeside, StandsFor, cluster_of, restore_sent, seen, seen_alone}
use Rattle.laws_agent.proofs.Assigning.{noted_is}
use Rattle.laws_agent.proofs.Losing.{may_reopen}
use Rattle.laws_agent.proofs.Columns.{bases_seen}
use Rattle.laws_agent.proofs.Standing.{same_built, stands_as}

-- ---- other bases of servers that are Unknown

-- a party has the same nonce, and the same base if it has none
record IsAlike (a b : Base) : Type 0 where
  pub nonce : b.nonce ≡ a.nonce
  pub known : a.nonce ≡ None → b ≡ a

module _ (setup : Setup) (x : Settling) (o : IsOutset setup x) (bases : Party → Base) (alike : (p : Party) → IsAlike (x.bases p) (bases p))
    (low : (p : Party) → (bases p).number ≤ o.world.net.base + length o.world.net.w.log) (owner : (x.bases MapOwner).nonce ≡ None) where
  abbrev y : Settling
  y = record x { bases = bases }

  none_before : (p : Party) → (bases p).nonce ≡ None → (x.bases p).nonce ≡ None
  none_before p e = sym (alike p).nonce ∙ e

  past : (m : Message) → IsPast o.world x m → IsPast o.world y m
  past (Fence p base) q = q
  past (Fenced p base inventory) q = q
  past (Settle p base asked s) q = (
    q.0,
    q.1,
    record {
      has_slots = λ e n. subst (λ (d : Base). (base < d.number) ⊎ ((base ≡ d.number) × (d.fenced ≡ false))) (sym ((alike p).known (none_before p e))) (q.2.has_slots (none_before p e) n);
      has_none = λ n e d. q.2.has_none n e (sym (alike p).nonce ∙ d);
    },
  )
  past (Settled p base) q = q
  past (Restore v asked number sizes cells) q = (
    q.0,
    λ e. let r = q.1 (sym (alike (Server v)).nonce ∙ e) in record {
      cells_had = r.cells_had;
      sizes_had = r.sizes_had;
      number_had = r.number_had;
      lasts_had = r.lasts_had;
      settles = r.settles;
    },
  )

  outset : IsOutset setup y
  outset = record {
    world = o.world;
    reached = o.reached;
    same = o.same;
    slots = λ v e.
        let n = none_before (Server v) e in
        let s = o.slots v n in record {
          cells = s.cells;
          lasts = λ r. subst (λ (d : Base). (x.world.net.last r v ≡ o.world.net.last r v) ⊎ ((x.world.net.last r v ≤ d.number) × (o.world.net.last r v ≤ d.number))) (sym ((alike (Server v)).known n)) (s.lasts r);
          sizes = s.sizes;
          loads = s.loads;
        };
    blank = λ v n e. o.blank v n (sym (alike (Server v)).nonce ∙ e);
    map = let is = (alike MapOwner).known owner in subst (λ (d : Base). d ≡ record { number = d.number; fenced = false; nonce = None }) (sym is) o.map;
    numbers = low;
    nonces = λ p n e. o.nonces p n (sym (alike p).nonce ∙ e);
    messages = all_map (IsPast o.world x) (IsPast o.world y) x.messages past o.messages;
    servers = o.servers;
    promised = o.promised;
  }

-- ---- a fleet

-- its bases as they are
abbrev real_bases : Fleet → Party → Base
real_bases f (Server v) = base_seen (f.servers v).base
real_bases f MapOwner = base_seen f.owner

alike_by : (base : AgentBase) (n : Option ℕ) → base.nonce ≡ n → IsAlike (base_by base n) (base_seen base)
alike_by base None e = record { nonce = e; known = λ d. ap (λ n. let z : Base = record { number = base.number; fenced = base.fenced; nonce = n } in z) e }
alike_by base (Some n) e = record { nonce = e; known = λ d. absurd (cc) }

module _ (setup : Setup) (f : Fleet) (k : FleetCanReopen setup f) (unknown : AreUnknownLow f) where
  abbrev was : Settling
  was = settling_of f k.world

  alike_there : (p : Party) → IsAlike (was.bases p) (real_bases f p)
  alike_there (Server v) = alike_by (f.servers v).base (f.servers v).base.nonce refl
  alike_there MapOwner = alike_by f.owner f.owner.nonce refl

  owner_none : (was.bases MapOwner).nonce ≡ None
  owner_none = ap (λ (d : Base). d.nonce) k.outset.map

  base_is : k.outset.world.net.base ≡ (controller f).base
  base_is = sym (ap (λ (w : World). w.net.base) k.outset.same) ∙ k.base

  low_there : (p : Party) → (real_bases f p).number ≤ k.outset.world.net.base + length k.outset.world.net.w.log
  low_there MapOwner = subst (λ (d : Base). d.number ≤ k.outset.world.net.base + length k.outset.world.net.w.log) (sym ((alike_there MapOwner).known owner_none)) (k.outset.numbers MapOwner)
  low_there (Server v) = go (f.servers v).base.nonce refl
    where
      go : (n : Option ℕ) → (f.servers v).base.nonce ≡ n → (real_bases f (Server v)).number ≤ k.outset.world.net.base + length k.outset.world.net.w.log
      go (Some n) e = let a = unknown v n e in let b = base_is in omega arith
      go None e = subst (λ (d : Base). d.number ≤ k.outset.world.net.base + length k.outset.world.net.w.log) (sym ((alike_there (Server v)).known (sym (alike_there (Server v)).nonce ∙ e))) (k.outset.numbers (Server v))

  -- the state that they stand for
  abbrev pub now : Settling
  now = record was { bases = real_bases f }

  opens : IsOutset setup now
  opens = outset setup was k.outset (real_bases f) alike_there low_there owner_none

  beside : IsBeside f k.world
  beside = record { record_is = k.record_is; base = k.base; sent = k.sent; answers = k.answers; passes = k.passes; published = k.published; stored = k.stored }

  bases_are : real_bases f ≡ bases_seen f
  bases_are = fun_ext by
    where
      by : (p : Party) → real_bases f p ≡ bases_seen f p
      by (Server v) = refl
      by MapOwner = refl

  is_now : now ≡ seen (cluster_of f) k.world was.sizes
  is_now = same_built k.world _ _ _ _ _ _ _ _ was.sizes _ _ _ _ refl refl k.shown bases_are (restores_seen (controller f).restores)
    where
      restores_seen : (rs : List ServerRestore) → map (restore_seen f) rs ≡ map (λ e. e.message) (map (restore_sent f) rs)
      restores_seen [] = refl
      restores_seen (r ∷ rs) = ap (λ ms. restore_seen f r ∷ ms) (restores_seen rs)

  stands : StandsFor (cluster_of f) now
  stands = stands_as (cluster_of f) k.world was.sizes now is_now beside

  -- and once it has begun
  module _ (journal fence base servers : ℕ) (lost : ℕ → Bool) (begun : MayReopen (seen_alone (cluster_of f)) base lost) where
    pub begins : IsSettlingReached setup (records now (Reopen base servers lost))
    begins = record {
      start = now;
      outset = opens;
      base = base;
      servers = servers;
      lost = lost;
      begun = subst (λ q. MayReopen q base lost) (sym is_now) (may_reopen (cluster_of f) k.world was.sizes beside base lost begun);
      events = [];
      fit = tt;
      state = refl;
    }

    -- for which the cluster stands
    pub begun_stands : StandsFor (entry_noted (cluster_of f) journal fence (Reopen base servers lost)) (records now (Reopen base servers lost))
    begun_stands = stands_as (entry_noted (cluster_of f) journal fence (Reopen base servers lost)) k.world was.sizes _
        (ap (λ q. records q (Reopen base servers lost)) is_now ∙ noted_is (cluster_of f) k.world was.sizes journal fence (Reopen base servers lost)) beside

-- they stand for a state over which a reopening may begin
pub clusters_open : EachFleet FleetCanReopen → ClustersOpen
clusters_open can setup f reached unknown = let k = can setup f reached in (now setup f k unknown, opens setup f k unknown, stands setup f k unknown)
