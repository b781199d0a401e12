-- A fence that comes to a party.
use Rattle.std.proofs.Common.{◌≡◌, ℕ, suc, refl, sym, ap, ◌∙◌, Bool, true, false, Option, Some, None, List, [], ◌∷◌, ◌++◌}
use Rattle.std.specs.Prelude.{is_some, map, nat_lt, option_map, slice_get, if◌then◌else◌}
use Rattle.sm_server.specs.declared.call.Cell.TheVariants.{Absent}
use Rattle.sm_agent.specs.declared.base.Reopening.{Reopening as AgentReopening}
use Rattle.sm_agent.specs.declared.base.Reception.{Reception}
use Rattle.sm_agent.specs.declared.base.Reception.TheVariants.{Taken, Again, Ignored}
use Rattle.sm_agent.specs.Base.{fenced, lacks_slots}
use Rattle.sm_agent.specs.Order.{abandoned, is_filled}
use Rattle.laws_network.specs.Words.{Sizes}
use Rattle.laws_network.specs.World.{World}
use Rattle.laws_network.specs.Fleet.{Fleet, Server as AgentServer}
use Rattle.laws_network.specs.FleetLaws.{real_cells}
use Rattle.laws_network.specs.FleetReopening.{AgentsDoSo, base_after, base_seen, is_answered, real_lasts}
use Rattle.laws_network.specs.Reopening.{Arrives, Base, Entries, Fence, Fenced, Inventory, MapOwner, Message, Party, Server, Settling, Slots, after_fence, arrives, fence_comes, inventory_by, is_fenced_at, put_party, settling_comes}
use Rattle.laws_agent.specs.Cluster.{Cluster, Envelope, after_fencing, fence_answered, received_by, slots_told, inventory_told, with_fence}
use Rattle.laws_agent.specs.ClusterLaws.{IsBeside, seen}
use Rattle.laws_agent.proofs.Columns.{bases_column, bases_seen, owner_column, put_here, put_same, same_cells, same_lasts}
use Rattle.laws_agent.proofs.Standing.{Leads, beside_as, built, get_map, map_more, no_step, same_built, stands_as}

-- a fence makes nobody Unknown, nor known
some_after : (b : Base) (number nonce : ℕ) → is_some (after_fence b number nonce).nonce ≡ is_some b.nonce
some_after b number nonce = go (nat_lt b.number number) b.nonce
  where
    go : (t : Bool) (o : Option ℕ) → is_some (if t then record { number = number; fenced = true; nonce = option_map (λ old. nonce) o } else record b { nonce = o }).nonce ≡ is_some o
    go true None = refl
    go true (Some n) = refl
    go false o = refl

module _ (does : AgentsDoSo) (c : Cluster) (w : World) (z : ℕ → Sizes) (b : IsBeside c.fleet w) (k : ℕ) (applied : ℕ → ℕ) (e : Envelope) (got : slice_get c.messages k ≡ Some e) where
  abbrev f : Fleet
  f = c.fleet

  abbrev x : Settling
  x = seen c w z

  abbrev sent : List Message
  sent = map (λ e. e.message) c.messages

  -- the message comes in the model
  comes : (reached : ℕ → Bool) (m : Message) → e.message ≡ m → (settling_comes x (Arrives k reached)).1 ≡ arrives x reached (Some m)
  comes reached m is = ap (arrives x reached) (get_map (λ e. e.message) c.messages k e got ∙ ap (λ n. Some n) is)

  -- with its answer
  answer_sent : (journal fence : ℕ) (m n : Message) → n ≡ m → sent ++ n ∷ [] ≡ map (λ e. e.message) (c.messages ++ record { journal = journal; fence = fence; message = m } ∷ [])
  answer_sent journal fence m n is = ap (λ q. sent ++ q ∷ []) is ∙ sym (map_more (λ e. e.message) c.messages (record { journal = journal; fence = fence; message = m } ∷ []))

  module _ (p : Party) (number : ℕ) (reached : ℕ → Bool) where
    -- the base once it has come
    abbrev after : Base
    after = after_fence (x.bases p) number c.nonces

    abbrev told : Inventory
    told = inventory_by x p after.nonce reached

    abbrev there : Settling
    there = built w (real_cells f) (real_lasts f) f.shown (put_party (bases_seen f) p after) z (suc c.nonces) (sent ++ Fenced p number told ∷ []) c.reopening

    answers : is_fenced_at number after ≡ true → fence_comes x p number reached ≡ there
    answers t = ap (λ q. if q then there else record x { bases = put_party x.bases p after; nonces = suc x.nonces }) t

    -- the cluster has answered
    leads_there : (next : Cluster) → e.message ≡ Fence p number → is_fenced_at number after ≡ true → there ≡ seen next w z → IsBeside next.fleet w → Leads next x
    leads_there next is t same beside = record {
      events = Arrives k reached ∷ [];
      fit = (tt, tt);
      stands = stands_as next w z _ (comes reached (Fence p number) is ∙ answers t ∙ same) beside;
    }

  module _ (v number : ℕ) (is : e.message ≡ Fence (Server v) number) where
    abbrev old : AgentServer
    old = f.servers v

    abbrev reached : ℕ → Bool
    reached s = is_filled (old.slots s).cut (applied s)

    -- what it tells is what the model's server has
    tells : (o : Option ℕ) → is_some o ≡ lacks_slots old.base → inventory_by x (Server v) o reached ≡ slots_told o old.slots applied
    tells None q = ap (λ t. Slots (λ s. if t then Absent else (old.slots s).cell) reached) (sym q)
    tells (Some n) q = refl

    tells_abandoned : (o : Option ℕ) → slots_told o old.slots applied ≡ slots_told o (λ s. abandoned (old.slots s)) applied
    tells_abandoned None = refl
    tells_abandoned (Some n) = refl

    fence_server : Leads (received_by c applied e (Fence (Server v) number)) x
    fence_server = go (fenced old.base at c.nonces) d.0 d.1
      where
        at : AgentReopening
        at = record { journal = e.journal; number = number }

        d : (base_seen (base_after old.base (fenced old.base at c.nonces)) ≡ after_fence (base_seen old.base) number c.nonces)
            × (is_answered (fenced old.base at c.nonces) ≡ true → is_fenced_at number (after_fence (base_seen old.base) number c.nonces) ≡ true)
        d = does.fence old.base at c.nonces

        go : (q : Reception) → base_seen (base_after old.base q) ≡ after_fence (base_seen old.base) number c.nonces → (is_answered q ≡ true → is_fenced_at number (after_fence (base_seen old.base) number c.nonces) ≡ true) →
            Leads (after_fencing c e (Server v) number applied q) x
        go Ignored s t = no_step c w z b
        go Again s t = leads_there (Server v) number reached (fence_answered c e (Server v) number applied) is (t refl)
            (same_built w _ _ _ _ _ _ _ _ z _ _ _ _ refl refl refl
            (ap (put_party (bases_seen f) (Server v)) (sym s) ∙ put_same (bases_seen f) (Server v))
            (answer_sent e.journal e.fence (Fenced (Server v) number (inventory_told f (Server v) applied)) _
            (ap (λ (y : Base). Fenced (Server v) number (inventory_by x (Server v) y.nonce reached)) (sym s) ∙ ap (Fenced (Server v) number) (tells old.base.nonce refl))))
            b
        go (Taken next) s t = leads_there (Server v) number reached (fence_answered (record c { fleet = with_fence f (Server v) next }) e (Server v) number applied) is (t refl)
            (same_built w _ _ _ _ _ _ _ _ z _ _ _ _
            (sym (same_cells f v y (λ r. ap (λ t. if t then Absent else (old.slots r).cell) known)))
            (sym (same_lasts f v y (λ r. ap (λ t. if t then 0 else (old.slots r).last) known)))
            refl
            (ap (put_party (bases_seen f) (Server v)) (sym s) ∙ sym (bases_column f v y))
            (answer_sent e.journal e.fence (Fenced (Server v) number (inventory_told (with_fence f (Server v) next) (Server v) applied)) _
            (ap (λ (y : Base). Fenced (Server v) number (inventory_by x (Server v) y.nonce reached)) (sym s)
            ∙ ap (Fenced (Server v) number) (tells next.nonce known ∙ tells_abandoned next.nonce ∙ ap (λ (q : AgentServer). slots_told q.base.nonce q.slots applied) (sym (put_here f.servers v y))))))
            (beside_as f _ _ _ w b)
          where
            y : AgentServer
            y = record { base = next; slots = λ r. abandoned (old.slots r) }

            known : lacks_slots next ≡ lacks_slots old.base
            known = ap (λ (q : Base). is_some q.nonce) s ∙ some_after (base_seen old.base) number c.nonces

  fence_owner : (number : ℕ) → e.message ≡ Fence MapOwner number → Leads (received_by c applied e (Fence MapOwner number)) x
  fence_owner number is = go (fenced f.owner at c.nonces) d.0 d.1
    where
      at : AgentReopening
      at = record { journal = e.journal; number = number }

      none : ℕ → Bool
      none s = false

      d : (base_seen (base_after f.owner (fenced f.owner at c.nonces)) ≡ after_fence (base_seen f.owner) number c.nonces)
          × (is_answered (fenced f.owner at c.nonces) ≡ true → is_fenced_at number (after_fence (base_seen f.owner) number c.nonces) ≡ true)
      d = does.fence f.owner at c.nonces

      go : (q : Reception) → base_seen (base_after f.owner q) ≡ after_fence (base_seen f.owner) number c.nonces → (is_answered q ≡ true → is_fenced_at number (after_fence (base_seen f.owner) number c.nonces) ≡ true) →
          Leads (after_fencing c e MapOwner number applied q) x
      go Ignored s t = no_step c w z b
      go Again s t = leads_there MapOwner number none (fence_answered c e MapOwner number applied) is (t refl)
          (same_built w _ _ _ _ _ _ _ _ z _ _ _ _ refl refl refl
          (ap (put_party (bases_seen f) MapOwner) (sym s) ∙ put_same (bases_seen f) MapOwner)
          (answer_sent e.journal e.fence (Fenced MapOwner number Entries) _ refl))
          b
      go (Taken next) s t = leads_there MapOwner number none (fence_answered (record c { fleet = with_fence f MapOwner next }) e MapOwner number applied) is (t refl)
          (same_built w _ _ _ _ _ _ _ _ z _ _ _ _ refl refl refl
          (ap (put_party (bases_seen f) MapOwner) (sym s) ∙ sym (owner_column f next f.shown))
          (answer_sent e.journal e.fence (Fenced MapOwner number Entries) _ refl))
          (beside_as f _ _ _ w b)

  -- a fence comes to a party
  pub fence_comes_there : (p : Party) (number : ℕ) → e.message ≡ Fence p number → Leads (received_by c applied e (Fence p number)) x
  fence_comes_there (Server v) number is = fence_server v number is
  fence_comes_there MapOwner number is = fence_owner number is
