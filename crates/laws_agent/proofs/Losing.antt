-- A server that loses its slots, or hears of a reopening that has overtaken it; and what the controller begins or confirms.
use Rattle.std.proofs.Common.{◌≡◌, ℕ, suc, refl, sym, ap, ◌∙◌, subst, inl, inr, not, Bool, true, false, [], ◌∷◌}
use Rattle.std.specs.Prelude.{◌==◌, ◌+◌, ◌*◌, ◌||◌, ◌≤◌, ◌<◌, if◌then◌else◌}
use Rattle.std.proofs.lemmas.Bool.{or_parts}
use Rattle.sm_server.specs.declared.call.Cell.TheVariants.{Absent}
use Rattle.sm_agent.specs.declared.base.Base.{Base as AgentBase}
use Rattle.sm_agent.specs.declared.base.Reopening.{Reopening as AgentReopening}
use Rattle.sm_agent.specs.Base.{forgotten, heeded, lacks_slots}
use Rattle.sm_agent.specs.Order.{vacant}
use Rattle.sm_protocol.specs.Laws.{MOST_PLACES}
use Rattle.laws_network.specs.Words.{Sizes, State}
use Rattle.laws_network.specs.World.{World}
use Rattle.laws_network.specs.Fleet.{Fleet, Server as AgentServer, controller}
use Rattle.laws_network.specs.FleetLaws.{real_cells}
use Rattle.laws_network.specs.FleetReopening.{AgentsDoSo, base_seen, real_lasts}
use Rattle.laws_network.specs.Reopening.{Confirm, Entry, Forgets, Records, Reopen, Server, Settling, Told, Took, put_party, unknown_base}
use Rattle.laws_network.specs.ReopeningLaws.{MayReopen, MaySettle}
use Rattle.laws_agent.specs.Cluster.{Cluster, after_hearing, after_losing, entry_noted, with_base, with_server}
use Rattle.laws_agent.specs.ClusterLaws.{IsBeside, MayNote, seen, seen_alone}
use Rattle.laws_agent.proofs.Assigning.{noted_is}
use Rattle.laws_agent.proofs.Columns.{bases_column, bases_seen, cells_column, lasts_column}
use Rattle.laws_agent.proofs.Standing.{Leads, beside_as, no_step, same_built, stands_as}

module _ (c : Cluster) (w : World) (z : ℕ → Sizes) (b : IsBeside c.fleet w) where
  abbrev f : Fleet
  f = c.fleet

  abbrev x : Settling
  x = seen c w z

  -- a server has turned Unknown
  turned_is : (v : ℕ) (y : AgentServer) → lacks_slots y.base ≡ true → base_seen y.base ≡ unknown_base c.nonces → Leads (record c { fleet = with_server f v y; nonces = suc c.nonces }) x
  turned_is v y lost is = record {
    events = Forgets v ∷ [];
    fit = (tt, tt);
    stands = stands_as (record c { fleet = with_server f v y; nonces = suc c.nonces }) w z _
        (same_built w _ _ _ _ _ _ _ _ z _ _ _ _
        (sym (cells_column f v y ∙ ap (λ t s u. if u == v then (if t then Absent else (y.slots s).cell) else real_cells f s u) lost))
        (sym (lasts_column f v y ∙ ap (λ t s u. if u == v then (if t then 0 else (y.slots s).last) else real_lasts f s u) lost))
        refl
        (ap (put_party (bases_seen f) (Server v)) (sym is) ∙ sym (bases_column f v y))
        refl)
        (beside_as f _ _ _ w b);
  }

  -- a server loses its slots
  pub loses_there : (v : ℕ) → Leads (after_losing c v) x
  loses_there v = turned_is v (record { base = forgotten c.nonces; slots = λ s. vacant }) refl refl

  -- a server hears of a reopening
  pub learns_there : AgentsDoSo → (v : ℕ) (last : AgentReopening) → Leads (after_hearing c v (f.servers v).base (heeded (f.servers v).base last c.nonces)) x
  learns_there does v last = go (lacks_slots old || not (lacks_slots next)) refl
    where
      old : AgentBase
      old = (f.servers v).base

      next : AgentBase
      next = heeded old last c.nonces

      lost : (t : Bool) → not t ≡ false → t ≡ true
      lost true e = refl
      lost false e = absurd (cc)

      turned : (lacks_slots old ≡ false) × (not (lacks_slots next) ≡ false) → Leads (with_base c v next) x
      turned e = elim (does.heed old last c.nonces) [
        | inl same ↦ absurd (let a = lost (lacks_slots next) e.1 in let d = ap lacks_slots same in cc)
        | inr is ↦ turned_is v (record (f.servers v) { base = next }) (lost (lacks_slots next) e.1) is
      ]

      go : (t : Bool) → (lacks_slots old || not (lacks_slots next)) ≡ t → Leads (if t then c else with_base c v next) x
      go true e = no_step c w z b
      go false e = turned (or_parts (lacks_slots old) (not (lacks_slots next)) e)

  -- what the controller may begin or confirm it may in the model
  pub may_reopen : (base : ℕ) (lost : ℕ → Bool) → MayReopen (seen_alone c) base lost → MayReopen x base lost
  may_reopen base lost m = record {
    later = m.later;
    places = subst (λ n. n + 2 * MOST_PLACES ≤ base) (sym b.base) m.places;
    versions = λ s. subst (λ (q : State). w.net.base + q.place.version s < base) (sym b.record_is) (subst (λ n. n + (controller f).w.place.version s < base) (sym b.base) (m.versions s));
    given_up = λ v e. let g = m.given_up v e in record { nonce = g.nonce; unknown = g.unknown; unmet = g.unmet };
  }

  -- the controller records an entry
  pub notes_there : (journal fence : ℕ) (e : Entry) → MayNote c e → Leads (entry_noted c journal fence e) x
  notes_there journal fence (Reopen base servers lost) m = record {
    events = Records (Reopen base servers lost) ∷ [];
    fit = (may_reopen base lost m, tt);
    stands = stands_as (entry_noted c journal fence (Reopen base servers lost)) w z _ (noted_is c w z journal fence (Reopen base servers lost)) b;
  }
  notes_there journal fence (Confirm s) m = record {
    events = Records (Confirm s) ∷ [];
    fit = (subst (λ (q : State). MaySettle c.reopening q s) (sym b.record_is) m, tt);
    stands = stands_as (entry_noted c journal fence (Confirm s)) w z _ (noted_is c w z journal fence (Confirm s)) b;
  }
  notes_there journal fence (Told p number inventory) m = absurd m
  notes_there journal fence (Took p number) m = absurd m
