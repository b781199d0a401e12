-- A settle or a restore that comes to a party, and what the controller records.
use Rattle.std.proofs.Common.{◌≡◌, ℕ, refl, sym, ap, ◌∙◌, not, Bool, true, false, Option, Some, [], ◌∷◌, ◌++◌}
use Rattle.std.specs.Prelude.{◌==◌, ◌&&◌, is_none, is_some, map, slice_get, if◌then◌else◌}
use Rattle.std.proofs.lemmas.Bool.{and_left, and_parts}
use Rattle.sm_server.specs.declared.call.Cell.TheVariants.{Absent}
use Rattle.sm_placement.specs.Sums.{put}
use Rattle.sm_agent.specs.declared.base.Base.{Base as AgentBase}
use Rattle.sm_agent.specs.declared.base.Settlement.{Settlement as AgentSettlement}
use Rattle.sm_agent.specs.declared.base.Restoration.{Restoration}
use Rattle.sm_agent.specs.declared.base.Reception.{Reception}
use Rattle.sm_agent.specs.declared.base.Reception.TheVariants.{Taken, Again, Ignored}
use Rattle.sm_agent.specs.declared.slot.Slot.{Slot}
use Rattle.sm_agent.specs.Base.{lacks_slots, restored, settled}
use Rattle.sm_agent.specs.Order.{vacant}
use Rattle.laws_network.specs.Words.{Cell, Sizes, sizes_of}
use Rattle.laws_network.specs.World.{World, Entry as MapEntry}
use Rattle.laws_network.specs.Fleet.{Fleet, Server as AgentServer}
use Rattle.laws_network.specs.FleetLaws.{real_cells}
use Rattle.laws_network.specs.FleetReopening.{AgentsDoSo, base_seen, real_lasts}
use Rattle.laws_network.specs.Reopening.{Arrives, Base, Entry, Fenced, Inventory, MapOwner, Message, Party, Reopening, Restore, Server, Settle, Settled, Settlement, Settling, Told, Took, arrives, entered, granted, is_settled_at, part_taken, put_party, records, sends, settle_comes, settled_base, settling_comes, takes_settle, with_messages}
use Rattle.laws_agent.specs.Cluster.{Cluster, Envelope, after_restoring, after_settling, assigned_server, entry_noted, message_posted, received_by, with_part, with_server}
use Rattle.laws_agent.specs.ClusterLaws.{IsBeside, seen}
use Rattle.laws_agent.proofs.Columns.{bases_column, bases_seen, cells_column, owner_column, same_lasts}
use Rattle.laws_agent.proofs.Standing.{Leads, beside_as, built, get_map, map_more, no_step, opened_again, same_built, stands_as}

-- who was settled takes no settle
not_taken : (number : ℕ) (asked : Option ℕ) (y : Base) → is_settled_at number y ≡ true → takes_settle number asked y ≡ false
not_taken number asked y e =
    let a = and_parts (y.number == number) (not y.fenced && is_none y.nonce) e in
    let free = (and_parts (not y.fenced) (is_none y.nonce) a.1).0 in
    and_left _ _ (and_left y.fenced (y.number == number) (go y.fenced free))
  where
    go : (b : Bool) → not b ≡ true → b ≡ false
    go true q = absurd (cc)
    go false q = refl

-- the last number of a slot that was placed
kept_last : (t : Bool) (slot : Slot) → (if t then vacant else slot).last ≡ (if t then 0 else slot.last)
kept_last true slot = refl
kept_last false slot = refl

-- the cluster has sent one message more
posted_is : (c : Cluster) (w : World) (z : ℕ → Sizes) (journal fence : ℕ) (m : Message) → with_messages (seen c w z) (m ∷ []) ≡ seen (message_posted c journal fence m) w z
posted_is c w z journal fence m =
    ap (λ q. built w (real_cells c.fleet) (real_lasts c.fleet) c.fleet.shown (bases_seen c.fleet) z c.nonces q c.reopening)
    (sym (map_more (λ e. e.message) c.messages (record { journal = journal; fence = fence; message = m } ∷ [])))

-- the controller has recorded an entry
pub noted_is : (c : Cluster) (w : World) (z : ℕ → Sizes) (journal fence : ℕ) (e : Entry) → records (seen c w z) e ≡ seen (entry_noted c journal fence e) w z
noted_is c w z journal fence e =
    ap (λ q. built w (real_cells c.fleet) (real_lasts c.fleet) c.fleet.shown (bases_seen c.fleet) z c.nonces q r)
    (sym (map_more opened c.messages (map closed (sends e r)) ∙ ap (λ q. map opened c.messages ++ q) (opened_again opened closed (λ m. refl) (sends e r))))
  where
    r : Reopening
    r = entered e c.reopening

    opened : Envelope → Message
    opened e = e.message

    closed : Message → Envelope
    closed m = record { journal = journal; fence = fence; message = m }

-- a server has taken these cells
granted_is : (c : Cluster) (w : World) (z : ℕ → Sizes) (v number : ℕ) (next : AgentBase) (sizes : Sizes) (cells : ℕ → Cell) → base_seen next ≡ settled_base number →
    granted (seen c w z) v number sizes cells ≡ seen (record c { fleet = with_server c.fleet v (assigned_server (c.fleet.servers v) next sizes cells) }) w (put z v sizes)
granted_is c w z v number next sizes cells is = same_built w _ _ _ _ _ _ _ _ (put z v sizes) _ _ _ _
    (sym (cells_column f v y ∙ ap (λ t s u. if u == v then (if t then Absent else cells s) else real_cells f s u) known))
    (sym (same_lasts f v y (λ s. ap (λ t. if t then 0 else (if lacks_slots old.base then vacant else old.slots s).last) known ∙ kept_last (lacks_slots old.base) (old.slots s))))
    refl
    (ap (put_party (bases_seen f) (Server v)) (sym is) ∙ sym (bases_column f v y))
    refl
  where
    f : Fleet
    f = c.fleet

    old : AgentServer
    old = f.servers v

    y : AgentServer
    y = assigned_server old next sizes cells

    known : lacks_slots next ≡ false
    known = ap (λ (q : Base). is_some q.nonce) is

module _ (does : AgentsDoSo) (c : Cluster) (w : World) (z : ℕ → Sizes) (b : IsBeside c.fleet w) (k : ℕ) (applied : ℕ → ℕ) (e : Envelope) (got : slice_get c.messages k ≡ Some e) where
  abbrev f : Fleet
  f = c.fleet

  abbrev x : Settling
  x = seen c w z

  none : ℕ → Bool
  none s = false

  -- the message comes in the model
  comes : (m : Message) → e.message ≡ m → (settling_comes x (Arrives k none)).1 ≡ arrives x none (Some m)
  comes m is = ap (arrives x none) (get_map (λ e. e.message) c.messages k e got ∙ ap (λ n. Some n) is)

  leads_by : (m : Message) → e.message ≡ m → (next : Cluster) (sizes : ℕ → Sizes) → arrives x none (Some m) ≡ seen next w sizes → IsBeside next.fleet w → Leads next x
  leads_by m is next sizes same beside = record { events = Arrives k none ∷ []; fit = (tt, tt); stands = stands_as next w sizes _ (comes m is ∙ same) beside }

  module _ (p : Party) (number : ℕ) (nonce : Option ℕ) (s : Settlement) where
    abbrev taken : Settling
    taken = with_messages (part_taken x p number s) (Settled p number ∷ [])

    abbrev again : Settling
    again = with_messages x (Settled p number ∷ [])

    takes_it : takes_settle number nonce (x.bases p) ≡ true → settle_comes x p number nonce s ≡ taken
    takes_it t = ap (λ q. if q then taken else if is_settled_at number (x.bases p) then again else x) t

    has_taken : is_settled_at number (x.bases p) ≡ true → settle_comes x p number nonce s ≡ again
    has_taken t =
        ap (λ q. if q then taken else if is_settled_at number (x.bases p) then again else x) (not_taken number nonce (x.bases p) t)
        ∙ ap (λ q. if q then again else x) t

    abbrev part : AgentSettlement
    part = record { reopening = record { journal = e.journal; number = number }; nonce = nonce }

  settle_server : (v number : ℕ) (nonce : Option ℕ) (s : Settlement) → e.message ≡ Settle (Server v) number nonce s → Leads (received_by c applied e (Settle (Server v) number nonce s)) x
  settle_server v number nonce s is = go (settled old.base (part (Server v) number nonce s)) refl
    where
      old : AgentServer
      old = f.servers v

      go : (q : Reception) → settled old.base (part (Server v) number nonce s) ≡ q → Leads (after_settling c e (Server v) number s q) x
      go Ignored t = no_step c w z b
      go Again t = leads_by (Settle (Server v) number nonce s) is (message_posted c e.journal e.fence (Settled (Server v) number)) z
          (has_taken (Server v) number nonce s (does.settle_again old.base (part (Server v) number nonce s) t) ∙ posted_is c w z e.journal e.fence (Settled (Server v) number)) b
      go (Taken next) t =
          let d = does.settle old.base next (part (Server v) number nonce s) t in
          leads_by (Settle (Server v) number nonce s) is (message_posted (record c { fleet = with_part f (Server v) next s }) e.journal e.fence (Settled (Server v) number)) (put z v (sizes_of s.setup))
          (takes_it (Server v) number nonce s d.0
          ∙ ap (λ q. with_messages q (Settled (Server v) number ∷ [])) (granted_is c w z v number next (sizes_of s.setup) (λ r. s.place.cells r v) d.1)
          ∙ posted_is (record c { fleet = with_part f (Server v) next s }) w (put z v (sizes_of s.setup)) e.journal e.fence (Settled (Server v) number))
          (beside_as f _ _ _ w b)

  settle_owner : (number : ℕ) (nonce : Option ℕ) (s : Settlement) → e.message ≡ Settle MapOwner number nonce s → Leads (received_by c applied e (Settle MapOwner number nonce s)) x
  settle_owner number nonce s is = go (settled f.owner (part MapOwner number nonce s)) refl
    where
      shows : ℕ → ℕ → MapEntry
      shows n r = record { server = s.place.listed r; version = n }

      owner_is : (next : AgentBase) → base_seen next ≡ settled_base number → part_taken x MapOwner number s ≡ seen (record c { fleet = with_part f MapOwner next s }) w z
      owner_is next d = same_built w _ _ _ _ _ _ _ _ z _ _ _ _ refl refl
          (ap shows (ap (λ (q : Base). q.number) (sym d)))
          (ap (put_party (bases_seen f) MapOwner) (sym d) ∙ sym (owner_column f next (shows next.number)))
          refl

      go : (q : Reception) → settled f.owner (part MapOwner number nonce s) ≡ q → Leads (after_settling c e MapOwner number s q) x
      go Ignored t = no_step c w z b
      go Again t = leads_by (Settle MapOwner number nonce s) is (message_posted c e.journal e.fence (Settled MapOwner number)) z
          (has_taken MapOwner number nonce s (does.settle_again f.owner (part MapOwner number nonce s) t) ∙ posted_is c w z e.journal e.fence (Settled MapOwner number)) b
      go (Taken next) t =
          let d = does.settle f.owner next (part MapOwner number nonce s) t in
          leads_by (Settle MapOwner number nonce s) is (message_posted (record c { fleet = with_part f MapOwner next s }) e.journal e.fence (Settled MapOwner number)) z
          (takes_it MapOwner number nonce s d.0
          ∙ ap (λ q. with_messages q (Settled MapOwner number ∷ [])) (owner_is next d.1)
          ∙ posted_is (record c { fleet = with_part f MapOwner next s }) w z e.journal e.fence (Settled MapOwner number))
          (beside_as f _ _ _ w b)

  -- a settle comes to a party
  pub settle_comes_there : (p : Party) (number : ℕ) (nonce : Option ℕ) (s : Settlement) → e.message ≡ Settle p number nonce s → Leads (received_by c applied e (Settle p number nonce s)) x
  settle_comes_there (Server v) number nonce s is = settle_server v number nonce s is
  settle_comes_there MapOwner number nonce s is = settle_owner number nonce s is

  -- a restore comes to a server
  pub restore_comes_there : (v nonce number : ℕ) (sizes : Sizes) (cells : ℕ → Cell) → e.message ≡ Restore v nonce number sizes cells → Leads (received_by c applied e (Restore v nonce number sizes cells)) x
  restore_comes_there v nonce number sizes cells is = go (restored old.base r) refl
    where
      old : AgentServer
      old = f.servers v

      r : Restoration
      r = record { journal = e.journal; fence = e.fence; number = number; nonce = nonce }

      go : (q : Reception) → restored old.base r ≡ q → Leads (after_restoring c v sizes cells q) x
      go Ignored t = no_step c w z b
      go Again t = no_step c w z b
      go (Taken next) t =
          let d = does.restore old.base next r t in
          leads_by (Restore v nonce number sizes cells) is (record c { fleet = with_server f v (assigned_server old next sizes cells) }) (put z v sizes)
          (ap (λ q. if q then granted x v number sizes cells else x) d.0 ∙ granted_is c w z v number next sizes cells d.1)
          (beside_as f _ _ _ w b)

  -- an answer comes to the controller
  pub told_comes_there : (p : Party) (number : ℕ) (inventory : Inventory) → e.message ≡ Fenced p number inventory → Leads (received_by c applied e (Fenced p number inventory)) x
  told_comes_there p number inventory is = leads_by (Fenced p number inventory) is (entry_noted c e.journal e.fence (Told p number inventory)) z (noted_is c w z e.journal e.fence (Told p number inventory)) b

  -- so does one to a settle
  pub took_comes_there : (p : Party) (number : ℕ) → e.message ≡ Settled p number → Leads (received_by c applied e (Settled p number)) x
  took_comes_there p number is = leads_by (Settled p number) is (entry_noted c e.journal e.fence (Took p number)) z (noted_is c w z e.journal e.fence (Took p number)) b
