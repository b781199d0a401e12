-- Orders and publications that come to servers and the map's owner, and work on them.
use Rattle.std.proofs.Common.{◌≡◌, ◌≢◌, ◌⊎◌, ◌<◌, ℕ, refl, sym, ap, ◌∙◌, inl, inr, subst, arith, Bool, true, false, Option, Some, None, Result, Ok, Err, List, [], ◌∷◌, ◌++◌}
use Rattle.std.specs.Prelude.{◌-◌, ◌==◌, nat_lt, slice_get, unwrap_or, if◌then◌else◌}
use Rattle.std.specs.List.{AllByRecursion}
use Rattle.std.proofs.Math.Path.{fun_ext}
use Rattle.std.proofs.lemmas.Bool.{cases_Bool, eq-eqb, eqb-true, ltb-true, ne_eqb}
use Rattle.sm_server.specs.declared.call.Cell.{Cell}
use Rattle.sm_server.specs.declared.call.Cell.TheVariants as cell
use Rattle.sm_server.specs.declared.call.Refusal.{Refusal}
use Rattle.sm_server.specs.Call.{led_to, served}
use Rattle.sm_placement.specs.Place.{load_of}
use Rattle.sm_placement.specs.Sums.{put, put2}
use Rattle.sm_placement.proofs.Calls.{served_ok}
use Rattle.sm_protocol.proofs.Courses.{some_same}
use Rattle.sm_agent.specs.declared.slot.Slot.{Slot}
use Rattle.sm_agent.specs.declared.order.Verdict.{Verdict}
use Rattle.sm_agent.specs.declared.order.Verdict.TheVariants as verdict
use Rattle.sm_agent.specs.declared.request.Routing.TheVariants.{Execute}
use Rattle.sm_agent.specs.Base.{lacks_slots}
use Rattle.sm_agent.specs.Order.{abandoned, begun_slot, committed, sealed}
use Rattle.laws_network.specs.declared.delivery.Delivery.{Delivery}
use Rattle.laws_network.specs.Words.{Sizes}
use Rattle.laws_network.specs.Orders.{by_served}
use Rattle.laws_network.specs.Net.{Deliver, NetOutcome, Order, Quiet, Served, after_delivery, at_place, delivered, real_delivery}
use Rattle.laws_network.specs.World.{Entry, Inner, Publication, Store, World, by_place, kept_by, within}
use Rattle.laws_network.specs.Controller.{Letter, Notice}
use Rattle.laws_network.specs.Fleet.{Committed, Fleet, FleetOutcome, Handoff, Judged, Routed, Server as AgentServer, Silent, after_owner, after_verdict, after_work, load_used, notice_stamp, order_read, owner_verdict, slot_for, verdict_of, with_slot}
use Rattle.laws_network.specs.FleetLaws.{real_cells}
use Rattle.laws_network.specs.FleetReopening.{AgentsDoSo, IsOneOf, real_lasts}
use Rattle.laws_network.specs.Reopening.{Comes, MapOwner, Server, Settling, SettlingEvent, in_world, settling_comes, settling_run, takes, takes_number}
use Rattle.laws_network.specs.ReopeningLaws.{AllSettlingFit, Executes, RefusesNone}
use Rattle.laws_network.proofs.AtServer.{IsAway, IsBySlot, IsCommit, IsHeard, Lower, Refuses, Same, Serves, commit_is, heard, judged_is, turned}
use Rattle.laws_network.proofs.Lists.{all_map, all_push}
use Rattle.laws_network.proofs.Shade.{among_more, among_new}
use Rattle.laws_agent.specs.Cluster.{Cluster, in_fleet, with_server}
use Rattle.laws_agent.specs.ClusterLaws.{IsBeside, StandsFor, seen}
use Rattle.laws_agent.proofs.Columns.{cell_of, cells_column, last_of, lasts_column, one_place, put_here, same_bases, same_cells, same_lasts}
use Rattle.laws_agent.proofs.Standing.{Leads, beside_as, no_step, same_built, stands_as}

-- The model takes steps of its own, and the cluster after an event stands for it again.
pub record Follows (x : Settling) (r : FleetOutcome × Cluster) : Type 0 where
  pub events : List SettlingEvent
  pub fit : AllSettlingFit events x
  pub stands : StandsFor r.1 (settling_run events x)
  pub executes : (s v : ℕ) → r.0 ≡ Routed s v Execute → Executes x s v
  pub commits : (o : Order) → r.0 ≡ Committed o → (k : ℕ) × (events ≡ Comes (Inner (Deliver k)) ∷ []) × ((settling_comes x (Comes (Inner (Deliver k)))).0 ≡ Served o)

-- an outcome that tells of no request that is executed, and of no order that is committed
abbrev pub IsQuiet : FleetOutcome → Type 0
IsQuiet r = ((s v : ℕ) → r ≢ Routed s v Execute) × ((o : Order) → r ≢ Committed o)

-- what no such outcome tells of
pub quietly : (x : Settling) (c : Cluster) (r : FleetOutcome) → IsQuiet r → Leads c x → Follows x (r, c)
quietly x c r q l = record { events = l.events; fit = l.fit; stands = l.stands; executes = λ s v e. absurd (q.0 s v e); commits = λ o e. absurd (q.1 o e) }

-- silence tells of none
pub silent : IsQuiet Silent
silent = ((λ s v e. absurd (cc)), λ o e. absurd (cc))

-- a verdict tells of none
judged_quiet : (l : Letter) (v : Verdict) → IsQuiet (Judged l v)
judged_quiet l v = ((λ s u e. absurd (cc)), λ o e. absurd (cc))

-- a cut that is known changes nothing else
seals : (slot : Slot) (handover cut : ℕ) → ((sealed slot handover cut).cell ≡ slot.cell) × ((sealed slot handover cut).last ≡ slot.last)
seals slot handover cut = go slot.cell
  where
    by_number : (b : Bool) (c : Cell) → ((if b then record slot { cell = c; cut = Some cut } else record slot { cell = c }).cell ≡ c) × ((if b then record slot { cell = c; cut = Some cut } else record slot { cell = c }).last ≡ slot.last)
    by_number true c = (refl, refl)
    by_number false c = (refl, refl)

    go : (c : Cell) → ((sealed (record slot { cell = c }) handover cut).cell ≡ c) × ((sealed (record slot { cell = c }) handover cut).last ≡ slot.last)
    go (cell.Prepared a n) = by_number (n == handover) (cell.Prepared a n)
    go cell.Absent = (refl, refl)
    go cell.Secondary = (refl, refl)
    go cell.Primary = (refl, refl)
    go (cell.Forwarding a n) = (refl, refl)

module _ (does : AgentsDoSo) (c : Cluster) (w : World) (z : ℕ → Sizes) (b : IsBeside c.fleet w) where
  abbrev f : Fleet
  f = c.fleet

  abbrev x : Settling
  x = seen c w z

  -- ---- slots

  -- a slot with the same cell and last number
  slot_alike : (s v : ℕ) (slot : Slot) → slot.cell ≡ ((f.servers v).slots s).cell → slot.last ≡ ((f.servers v).slots s).last → Leads (record c { fleet = with_slot f s v slot }) x
  slot_alike s v slot same last = record {
    events = [];
    fit = tt;
    stands = stands_as (record c { fleet = with_slot f s v slot }) w z x
        (same_built w _ _ _ _ _ _ _ _ z _ _ _ _
        (sym (same_cells f v y (λ r. ap (λ q. if lacks_slots old.base then cell.Absent else q) (cells r (r == s) refl))))
        (sym (same_lasts f v y (λ r. ap (λ q. if lacks_slots old.base then 0 else q) (lasts r (r == s) refl))))
        refl (sym (same_bases f v y refl)) refl)
        (beside_as f _ _ _ w b);
  }
    where
      old : AgentServer
      old = f.servers v

      y : AgentServer
      y = record old { slots = put old.slots s slot }

      cells : (r : ℕ) (t : Bool) → (r == s) ≡ t → (if t then slot else old.slots r).cell ≡ (old.slots r).cell
      cells r true e = same ∙ ap (λ q. (old.slots q).cell) (sym (eqb-true r s e))
      cells r false e = refl

      lasts : (r : ℕ) (t : Bool) → (r == s) ≡ t → (if t then slot else old.slots r).last ≡ (old.slots r).last
      lasts r true e = last ∙ ap (λ q. (old.slots q).last) (sym (eqb-true r s e))
      lasts r false e = refl

  -- a server gives up what is at work
  pub abandons : (s v : ℕ) → Follows x (in_fleet c (Silent, with_slot f s v (abandoned ((f.servers v).slots s))))
  abandons s v = quietly x _ Silent silent (slot_alike s v (abandoned ((f.servers v).slots s)) refl refl)

  -- a new owner hears the cut
  pub hears_cut : (h : Handoff) → Follows x (in_fleet c (Silent, with_slot f h.shard h.target (sealed ((f.servers h.target).slots h.shard) h.pass.handover h.pass.cut)))
  hears_cut h = let e = seals ((f.servers h.target).slots h.shard) h.pass.handover h.pass.cut in quietly x _ Silent silent (slot_alike h.shard h.target _ e.0 e.1)

  -- ---- orders

  module _ (l : Letter) (j : ℕ) (got : slice_get w.net.sent j ≡ Some l.order) (hears : IsHeard (f.servers l.order.call.server).base (order_read l).stamp) where
    abbrev o : Order
    o = l.order

    abbrev old : AgentServer
    old = f.servers o.call.server

    abbrev slot : Slot
    slot = old.slots o.call.shard

    taken : takes_number (x.bases (Server o.call.server)) o.number ≡ true
    taken = does.order old.base (order_read l).stamp (heard old.base (order_read l).stamp hears)

    delivers : (d : Delivery) → real_delivery x.world.net o ≡ d → settling_comes x (Comes (Inner (Deliver j))) ≡ in_world x (within x.world (after_delivery x.world.net o d))
    delivers d is = go (slice_get w.net.sent j) got
      where
        go : (q : Option Order) → q ≡ Some o →
            (if takes (λ (o : Order). takes_number (x.bases (Server o.call.server)) o.number) q then in_world x (within x.world (at_place x.world.net delivered q)) else (Quiet, x)) ≡ in_world x (within x.world (after_delivery x.world.net o d))
        go q e =
            ap (λ q. if takes (λ (o : Order). takes_number (x.bases (Server o.call.server)) o.number) q then in_world x (within x.world (at_place x.world.net delivered q)) else (Quiet, x)) e
            ∙ ap (λ t. if t then in_world x (within x.world (delivered x.world.net o)) else (Quiet, x)) taken
            ∙ ap (λ d. in_world x (within x.world (after_delivery x.world.net o d))) is

    cell_is : real_cells f o.call.shard o.call.server ≡ slot.cell
    cell_is = ap (λ t. if t then cell.Absent else slot.cell) hears.known

    last_is : real_lasts f o.call.shard o.call.server ≡ slot.last
    last_is = ap (λ t. if t then 0 else slot.last) hears.known

    abbrev answered : World
    answered = record w { net = record w.net { answers = w.net.answers ++ o ∷ [] } }

    answers_are : AllByRecursion (IsOneOf (w.net.answers ++ o ∷ [])) (f.answers ++ o ∷ [])
    answers_are = all_push (IsOneOf (w.net.answers ++ o ∷ [])) f.answers o (all_map (IsOneOf w.net.answers) (IsOneOf (w.net.answers ++ o ∷ [])) f.answers (λ a i. among_more w.net.answers (o ∷ []) a i) b.answers) (among_new w.net.answers o)

    beside_answered : (servers : ℕ → AgentServer) → IsBeside (record f { servers = servers; answers = f.answers ++ o ∷ [] }) answered
    beside_answered servers = record { record_is = b.record_is; base = b.base; sent = b.sent; answers = answers_are; passes = b.passes; published = b.published; stored = b.stored }

    -- the server answers it again
    answered_again : o.number ≡ slot.last → Leads (record c { fleet = record f { answers = f.answers ++ o ∷ [] } }) x
    answered_again n = record {
      events = Comes (Inner (Deliver j)) ∷ [];
      fit = (tt, tt);
      stands = stands_as (record c { fleet = record f { answers = f.answers ++ o ∷ [] } }) answered z _ (ap (λ (r : NetOutcome × Settling). r.1) (delivers Delivery.Again again)) (beside_answered f.servers);
    }
      where
        same : o.number ≡ real_lasts f o.call.shard o.call.server
        same = n ∙ sym last_is

        lower : nat_lt o.number (real_lasts f o.call.shard o.call.server) ≡ false
        lower = elim (cases_Bool (nat_lt o.number (real_lasts f o.call.shard o.call.server))) [ inl q ↦ absurd (let a = ltb-true _ _ q in let d = same in omega arith) | inr q ↦ q ]

        again : real_delivery x.world.net o ≡ Delivery.Again
        again = rw (lower, eq-eqb o.number (real_lasts f o.call.shard o.call.server) same) refl

    -- it has its effect
    module _ (refuses : RefusesNone x) (at : ℕ) (new : Slot) (is : IsCommit old.base slot (order_read l) at new) where
      above : real_lasts f o.call.shard o.call.server < o.number
      above = subst (λ n. n < o.number) (sym last_is) is.above

      lower : nat_lt o.number (real_lasts f o.call.shard o.call.server) ≡ false
      lower = elim (cases_Bool (nat_lt o.number (real_lasts f o.call.shard o.call.server))) [ inl q ↦ absurd (let d = ltb-true _ _ q in let a = above in omega arith) | inr q ↦ q ]

      other : (o.number == real_lasts f o.call.shard o.call.server) ≡ false
      other = ne_eqb o.number (real_lasts f o.call.shard o.call.server) (λ q. absurd (let a = above in omega arith))

      abbrev table : Result Cell Refusal
      table = served (real_cells f o.call.shard o.call.server) (w.net.w.sizes.room o.call.server - load_of w.net.w.sizes (real_cells f) o.call.server) (w.net.w.sizes.load o.call.shard) true o.call.call

      by_table : real_delivery x.world.net o ≡ by_served (served (real_cells f o.call.shard o.call.server) (w.net.w.sizes.room o.call.server - load_of w.net.w.sizes (real_cells f) o.call.server) (w.net.w.sizes.load o.call.shard) true o.call.call)
      by_table = rw (lower, other) refl

      -- the model serves it
      serves : (a : Result Cell Refusal) → table ≡ a → real_delivery x.world.net o ≡ Delivery.Served new.cell
      serves (Ok next) q =
          let led = (served_ok (real_cells f o.call.shard o.call.server) _ (w.net.w.sizes.load o.call.shard) true o.call.call next q).1 in
          by_table ∙ ap by_served q ∙ ap Delivery.Served (some_same next new.cell (sym led ∙ (ap (led_to o.call.call) cell_is ∙ is.led)))
      serves (Err why) q = absurd (refuses (Comes (Inner (Deliver j))) why (ap (λ (r : NetOutcome × Settling). r.0) (delivers (Delivery.Refused why) (by_table ∙ ap by_served q))))

      is_delivered : settling_comes x (Comes (Inner (Deliver j))) ≡ in_world x (within x.world (after_delivery x.world.net o (Delivery.Served new.cell)))
      is_delivered = delivers (Delivery.Served new.cell) (serves table refl)

      abbrev y : AgentServer
      y = record old { slots = put old.slots o.call.shard new }

      other_slot : (r : ℕ) → r ≢ o.call.shard → put old.slots o.call.shard new r ≡ old.slots r
      other_slot r n = ap (λ t. if t then new else old.slots r) (ne_eqb r o.call.shard n)

      cells_are : put2 (real_cells f) o.call.shard o.call.server new.cell ≡ real_cells (with_server f o.call.server y)
      cells_are = sym (cells_column f o.call.server y ∙ one_place (real_cells f) o.call.shard o.call.server new.cell (cell_of y)
          (ap (λ t. if t then cell.Absent else (put old.slots o.call.shard new o.call.shard).cell) hears.known ∙ ap (λ (q : Slot). q.cell) (put_here old.slots o.call.shard new))
          (λ r n. ap (λ (q : Slot). if lacks_slots old.base then cell.Absent else q.cell) (other_slot r n)))

      lasts_are : put2 (real_lasts f) o.call.shard o.call.server o.number ≡ real_lasts (with_server f o.call.server y)
      lasts_are = sym (lasts_column f o.call.server y ∙ one_place (real_lasts f) o.call.shard o.call.server o.number (last_of y)
          (ap (λ t. if t then 0 else (put old.slots o.call.shard new o.call.shard).last) hears.known ∙ ap (λ (q : Slot). q.last) (put_here old.slots o.call.shard new) ∙ is.last)
          (λ r n. ap (λ (q : Slot). if lacks_slots old.base then 0 else q.last) (other_slot r n)))

      abbrev fleet_after : Fleet
      fleet_after = record (with_slot f o.call.shard o.call.server new) { answers = f.answers ++ o ∷ [] }

      committed_same : (p q : Order) → Committed p ≡ Committed q → p ≡ q
      committed_same p q e = cc

      commits_there : Follows x (Committed o, record c { fleet = fleet_after })
      commits_there = record {
        events = Comes (Inner (Deliver j)) ∷ [];
        fit = (tt, tt);
        stands = stands_as (record c { fleet = fleet_after }) answered z _
            (ap (λ (r : NetOutcome × Settling). r.1) is_delivered ∙ same_built answered _ _ _ _ _ _ _ _ z _ _ _ _ cells_are lasts_are refl (sym (same_bases f o.call.server y refl)) refl)
            (beside_answered _);
        executes = λ s v e. absurd (cc);
        commits = λ p e. (j, refl, ap (λ (r : NetOutcome × Settling). r.0) is_delivered ∙ ap Served (committed_same o p e));
      }

  -- what comes of a verdict
  abbrev Judges : Letter → Verdict → Type 0
  Judges l v = Follows x (in_fleet c (Judged l v, after_verdict f l v))

  -- the order at a place is judged
  pub judges : (l : Letter) → IsOneOf w.net.sent l.order → Follows x (in_fleet c (Judged l (verdict_of f l), after_verdict f l (verdict_of f l)))
  judges l place = go (verdict_of f l) (judged_is (f.servers l.order.call.server).base (slot_for f l) (load_used f l.order.call.server) (order_read l))
    where
      still : (v : Verdict) → Follows x (in_fleet c (Judged l v, f))
      still v = quietly x c (Judged l v) (judged_quiet l v) (no_step c w z b)

      of_slot : (v : Verdict) (used : ℕ) → IsHeard (f.servers l.order.call.server).base (order_read l).stamp → IsBySlot (slot_for f l) used (order_read l) v → Judges l v
      of_slot v used h (Lower n e) = subst (Judges l) (sym e) (still verdict.Old)
      of_slot v used h (Same n e) = subst (Judges l) (sym e) (quietly x _ (Judged l verdict.Again) (judged_quiet l verdict.Again) (answered_again l place.0 place.1 h n))
      of_slot v used h (Refuses n why q e) = subst (Judges l) (sym e) (still (verdict.Refused why))
      of_slot v used h (Serves n next q (inl e)) = subst (Judges l) (sym e) (quietly x _ (Judged l verdict.Begin) (judged_quiet l verdict.Begin) (slot_alike l.order.call.shard l.order.call.server (begun_slot (slot_for f l) (order_read l)) refl refl))
      of_slot v used h (Serves n next q (inr e)) = subst (Judges l) (sym e.0) (still verdict.Working)

      away : (v : Verdict) → IsAway v → Judges l v
      away v (inl e) = subst (Judges l) (sym e) (still verdict.NotReady)
      away v (inr (inl e)) = subst (Judges l) (sym e) (still verdict.Foreign)
      away v (inr (inr e)) = subst (Judges l) (sym e) (still verdict.Old)

      go : (v : Verdict) → IsAway v ⊎ (IsHeard (f.servers l.order.call.server).base (order_read l).stamp × IsBySlot (slot_for f l) (load_used f l.order.call.server) (order_read l) v) → Judges l v
      go v (inl a) = away v a
      go v (inr h) = of_slot v (load_used f l.order.call.server) h.0 h.1

  -- work on it is committed, or thrown away
  pub commits : RefusesNone x → (l : Letter) (at : ℕ) → IsOneOf w.net.sent l.order → Follows x (in_fleet c (after_work f l (committed (f.servers l.order.call.server).base (slot_for f l) (order_read l) at)))
  commits refuses l at place = go (committed (f.servers l.order.call.server).base (slot_for f l) (order_read l) at) refl
    where
      go : (q : Option Slot) → committed (f.servers l.order.call.server).base (slot_for f l) (order_read l) at ≡ q → Follows x (in_fleet c (after_work f l q))
      go None e = quietly x c Silent silent (no_step c w z b)
      go (Some new) e = let is = commit_is (f.servers l.order.call.server).base (slot_for f l) (order_read l) at new e in commits_there l place.0 place.1 is.heard refuses at new is

  -- ---- publications

  module _ (n : Notice) (j : ℕ) (got : slice_get w.published j ≡ Some n.publication) where
    abbrev p : Publication
    p = n.publication

    abbrev stored : World
    stored = record w { stored = w.stored ++ p ∷ [] }

    stored_are : AllByRecursion (IsOneOf (w.stored ++ p ∷ [])) (f.stored ++ p ∷ [])
    stored_are = all_push (IsOneOf (w.stored ++ p ∷ [])) f.stored p (all_map (IsOneOf w.stored) (IsOneOf (w.stored ++ p ∷ [])) f.stored (λ a i. among_more w.stored (p ∷ []) a i) b.stored) (among_new w.stored p)

    stores : (shown : ℕ → Entry) → takes_number (x.bases MapOwner) p.entry.version ≡ true → put f.shown p.shard (if nat_lt (f.shown p.shard).version p.entry.version then p.entry else f.shown p.shard) ≡ shown →
        Leads (record c { fleet = record f { shown = shown; stored = f.stored ++ p ∷ [] } }) x
    stores shown taken is = record {
      events = Comes (Store j) ∷ [];
      fit = (tt, tt);
      stands = stands_as (record c { fleet = record f { shown = shown; stored = f.stored ++ p ∷ [] } }) stored z _
          (ap (λ (r : NetOutcome × Settling). r.1) comes_there ∙ same_built stored _ _ _ _ _ _ _ _ z _ _ _ _ refl refl is refl refl)
          (record { record_is = b.record_is; base = b.base; sent = b.sent; answers = b.answers; passes = b.passes; published = b.published; stored = stored_are });
    }
      where
        comes_there : settling_comes x (Comes (Store j)) ≡ in_world x (Quiet, kept_by x.world p)
        comes_there = go (slice_get w.published j) got
          where
            go : (q : Option Publication) → q ≡ Some p →
                (if takes (λ (p : Publication). takes_number (x.bases MapOwner) p.entry.version) q then in_world x (by_place x.world (λ y p. (Quiet, kept_by y p)) q) else (Quiet, x)) ≡ in_world x (Quiet, kept_by x.world p)
            go q e =
                ap (λ q. if takes (λ (p : Publication). takes_number (x.bases MapOwner) p.entry.version) q then in_world x (by_place x.world (λ y p. (Quiet, kept_by y p)) q) else (Quiet, x)) e
                ∙ ap (λ t. if t then in_world x (Quiet, kept_by x.world p) else (Quiet, x)) taken

    abbrev rest : Verdict
    rest = if nat_lt (f.shown p.shard).version p.entry.version then verdict.Begin else verdict.Again

    abbrev Owned : Verdict → Type 0
    Owned v = Follows x (in_fleet c (Silent, after_owner f p v))

    -- an entry that is there may be put there
    shown_same : put f.shown p.shard (f.shown p.shard) ≡ f.shown
    shown_same = fun_ext (λ s. go s (s == p.shard) refl)
      where
        go : (s : ℕ) (t : Bool) → (s == p.shard) ≡ t → (if t then f.shown p.shard else f.shown s) ≡ f.shown s
        go s true e = ap f.shown (sym (eqb-true s p.shard e))
        go s false e = refl

    owned_away : (v : Verdict) → IsAway v → Owned v
    owned_away v (inl e) = subst Owned (sym e) (quietly x c Silent silent (no_step c w z b))
    owned_away v (inr (inl e)) = subst Owned (sym e) (quietly x c Silent silent (no_step c w z b))
    owned_away v (inr (inr e)) = subst Owned (sym e) (quietly x c Silent silent (no_step c w z b))

    owned_taken : takes_number (x.bases MapOwner) p.entry.version ≡ true → (t : Bool) → nat_lt (f.shown p.shard).version p.entry.version ≡ t → Owned (if t then verdict.Begin else verdict.Again)
    owned_taken taken true e = quietly x _ Silent silent (stores (put f.shown p.shard p.entry) taken (ap (λ t. put f.shown p.shard (if t then p.entry else f.shown p.shard)) e))
    owned_taken taken false e = quietly x _ Silent silent (stores f.shown taken (ap (λ t. put f.shown p.shard (if t then p.entry else f.shown p.shard)) e ∙ shown_same))

    owned : Owned (owner_verdict f n)
    owned = elim (turned f.owner (notice_stamp n)) [
      | inl t ↦ subst (λ q. Owned (unwrap_or q rest)) (sym t.1) (owned_away t.0 t.2)
      | inr t ↦ subst (λ q. Owned (unwrap_or q rest)) (sym t.0) (owned_taken (does.order f.owner (notice_stamp n) t.0) (nat_lt (f.shown p.shard).version p.entry.version) refl)
    ]

  -- a publication comes to the map's owner
  pub publishes : (n : Notice) → IsOneOf w.published n.publication → Follows x (in_fleet c (Silent, after_owner f n.publication (owner_verdict f n)))
  publishes n place = owned n place.0 place.1
