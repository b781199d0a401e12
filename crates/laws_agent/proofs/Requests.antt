-- Requests that come to servers, from clients or passed on.
use Rattle.std.proofs.Common.{◌≡◌, ℕ, refl, sym, ap, ◌∙◌, subst, not, Bool, true, false, Option, Some, None, List, [], ◌∷◌, ◌++◌}
use Rattle.std.specs.Prelude.{◌==◌, ◌&&◌, ◌||◌, is_none, is_some, nat_lt, option_map, slice_get, if◌then◌else◌}
use Rattle.std.specs.List.{AllByRecursion}
use Rattle.std.specs.Option.{option_to_list}
use Rattle.std.proofs.lemmas.Bool.{and_from, and_parts, eq-eqb, eqb-true}
use Rattle.sm_server.specs.declared.call.Cell.{Cell}
use Rattle.sm_server.specs.declared.call.Cell.TheVariants as cell
use Rattle.sm_protocol.specs.Happens.{answer_by}
use Rattle.sm_protocol.specs.Ticket.{Ticket}
use Rattle.sm_protocol.specs.declared.event.Played.TheVariants as played
use Rattle.sm_agent.specs.declared.base.Base.{Base as AgentBase}
use Rattle.sm_agent.specs.declared.slot.Slot.{Slot}
use Rattle.sm_agent.specs.declared.request.Request.{Request}
use Rattle.sm_agent.specs.declared.request.Request.TheVariants.{Direct, Passed}
use Rattle.sm_agent.specs.declared.request.Routing.{Routing}
use Rattle.sm_agent.specs.declared.request.Routing.TheVariants as routing
use Rattle.sm_agent.specs.Request.{passed_on, routed}
use Rattle.laws_network.specs.Words.{Sizes}
use Rattle.laws_network.specs.Net.{Ask, NetOutcome, Pass, Quiet, Replied, pass_by, passed, replied}
use Rattle.laws_network.specs.World.{Inner, World, WorldEvent, within}
use Rattle.laws_network.specs.Fleet.{Fleet, Handoff, Routed, Server as AgentServer, after_request, handoff_by, request_routing}
use Rattle.laws_network.specs.FleetLaws.{real_cells}
use Rattle.laws_network.specs.FleetReopening.{AgentsDoSo, IsOneOf, pass_seen}
use Rattle.laws_network.specs.Reopening.{Comes, Settling, in_world, is_handing, settling_comes, takes, takes_request}
use Rattle.laws_network.specs.ReopeningLaws.{Executes, shard_requested}
use Rattle.laws_network.proofs.Deliveries.{passes_on}
use Rattle.laws_network.proofs.Lists.{all_map, all_push}
use Rattle.laws_network.proofs.Shade.{among_more, among_new}
use Rattle.laws_agent.specs.Cluster.{Cluster, in_fleet}
use Rattle.laws_agent.specs.ClusterLaws.{IsBeside, seen}
use Rattle.laws_agent.proofs.Handling.{Follows, quietly}
use Rattle.laws_agent.proofs.Standing.{Leads, stands_as}

-- a request from a client, or one that was passed on
abbrev request_by : Option Handoff → Request
request_by None = Direct
request_by (Some h) = Passed h.pass

-- a server that executes a request does so by its cell
executes_by : (base : AgentBase) (slot : Slot) (v applied : ℕ) (n : Option ℕ) (c : Cell) (t : Option Handoff) → routed (record base { nonce = n }) (record slot { cell = c }) applied (request_by t) ≡ routing.Execute →
    answer_by c v (option_map pass_seen t) 0 ≡ played.Executed v
executes_by base slot v applied (Some n) c t e = absurd (cc)
executes_by base slot v applied None cell.Absent t e = absurd (cc)
executes_by base slot v applied None cell.Secondary t e = absurd (cc)
executes_by base slot v applied None cell.Primary t e = refl
executes_by base slot v applied None (cell.Forwarding to number) t e = absurd (go slot.cut base.fenced e)
  where
    go : (cut : Option ℕ) (b : Bool) → passed_on to number b cut ≡ routing.Execute → ⊥
    go None b e = absurd (cc)
    go (Some k) true e = absurd (cc)
    go (Some k) false e = absurd (cc)
executes_by base slot v applied None (cell.Prepared from number) None e = absurd (cc)
executes_by base slot v applied None (cell.Prepared from number) (Some h) e = go (h.pass.from == from && h.pass.handover == number) refl (base.fenced || nat_lt applied h.pass.cut) e
  where
    go : (a : Bool) → (h.pass.from == from && h.pass.handover == number) ≡ a → (d : Bool) → (if not a then routing.NotHere else if d then routing.NotYet else routing.Execute) ≡ routing.Execute →
        (if (from == h.pass.from) && (number == h.pass.handover) then played.Executed v else played.NotOwner) ≡ played.Executed v
    go false q d e = absurd (cc)
    go true q true e = absurd (cc)
    go true q false e =
        let p = and_parts (h.pass.from == from) (h.pass.handover == number) q in
        ap (λ t. if t then played.Executed v else played.NotOwner)
        (and_from (from == h.pass.from) (number == h.pass.handover) (eq-eqb from h.pass.from (sym (eqb-true h.pass.from from p.0))) (eq-eqb number h.pass.handover (sym (eqb-true h.pass.handover number p.1))))

-- who has no nonce has its slots
none_known : (o : Option ℕ) → is_none o ≡ true → is_some o ≡ false
none_known None e = refl
none_known (Some n) e = absurd (cc)

-- nothing more is the same list
all_nothing : {A : Type 0} (P : A → Type 0) (xs : List A) → AllByRecursion P xs → AllByRecursion P (xs ++ [])
all_nothing P [] all = tt
all_nothing P (x ∷ xs) all = (all.0, all_nothing P xs all.1)

module _ (does : AgentsDoSo) (c : Cluster) (w : World) (z : ℕ → Sizes) (b : IsBeside c.fleet w) where
  abbrev f : Fleet
  f = c.fleet

  abbrev x : Settling
  x = seen c w z

  -- a request in the model: its event is for the shard, and the server replies if it takes the request
  module _ (s v applied : ℕ) (t : Option Handoff) (event : WorldEvent) (asked : shard_requested x.world event ≡ Some s)
      (replies : settling_comes x (Comes event) ≡ (if takes_request x s v then in_world x (within x.world (replied x.world.net s v (option_map pass_seen t))) else (Quiet, x))) where
    abbrev server : AgentServer
    server = f.servers v

    abbrev slot : Slot
    slot = server.slots s

    -- the server takes it
    takes_it : (is_none server.base.nonce && not (server.base.fenced && is_handing slot.cell)) ≡ true → (real_cells f s v ≡ slot.cell) × (takes_request x s v ≡ true)
    takes_it e =
        let known = none_known server.base.nonce (and_parts (is_none server.base.nonce) (not (server.base.fenced && is_handing slot.cell)) e).0 in
        let same : real_cells f s v ≡ slot.cell = ap (λ t. if t then cell.Absent else slot.cell) known in
        (same, ap (λ c. is_none server.base.nonce && not (server.base.fenced && is_handing c)) same ∙ e)

    replied_there : takes_request x s v ≡ true → settling_comes x (Comes event) ≡ in_world x (within x.world (replied x.world.net s v (option_map pass_seen t)))
    replied_there e = replies ∙ ap (λ q. if q then in_world x (within x.world (replied x.world.net s v (option_map pass_seen t))) else (Quiet, x)) e

    executes_there : routed server.base slot applied (request_by t) ≡ routing.Execute → Executes x s v
    executes_there e =
        let taken = takes_it (does.execute server.base slot applied (request_by t) e) in
        let reply = executes_by server.base slot v applied server.base.nonce slot.cell t e in
        (event, asked, ap (λ (r : NetOutcome × Settling). r.0) (replied_there taken.1) ∙ ap (λ c. Replied (answer_by c v (option_map pass_seen t) 0)) taken.0 ∙ ap Replied reply)

    -- nothing is passed on
    keeps_passes : Leads (record c { fleet = record f { passes = f.passes ++ [] } }) x
    keeps_passes = record {
      events = [];
      fit = tt;
      stands = stands_as (record c { fleet = record f { passes = f.passes ++ [] } }) w z x refl
          (record { record_is = b.record_is; base = b.base; sent = b.sent; answers = b.answers; passes = all_nothing (λ h. IsOneOf w.net.passes (pass_seen h)) f.passes b.passes; published = b.published; stored = b.stored });
    }

    abbrev handoff : ℕ → ℕ → ℕ → Handoff
    handoff to handover cut = record { shard = s; target = to; pass = record { from = v; handover = handover; cut = cut } }

    abbrev passed_world : Ticket → World
    passed_world q = record w { net = record w.net { passes = w.net.passes ++ q ∷ [] } }

    -- it is passed on
    passes_there : (to handover cut : ℕ) → routed server.base slot applied (request_by t) ≡ routing.PassOn to handover cut → Leads (record c { fleet = record f { passes = f.passes ++ handoff to handover cut ∷ [] } }) x
    passes_there to handover cut e = record {
      events = Comes event ∷ [];
      fit = (tt, tt);
      stands = stands_as (record c { fleet = record f { passes = f.passes ++ h ∷ [] } }) (passed_world (pass_seen h)) z _
          (ap (λ (r : NetOutcome × Settling). r.1) (replied_there taken.1)
          ∙ ap (λ q. (in_world x (within x.world (Replied (answer_by q v (option_map pass_seen t) 0), record x.world.net { passes = w.net.passes ++ option_to_list (pass_by s v (answer_by q v (option_map pass_seen t) 0)) }))).1)
          (taken.0 ∙ (passes_on server.base slot applied (request_by t) to handover cut e).1))
          (record { record_is = b.record_is; base = b.base; sent = b.sent; answers = b.answers; passes = passes_are; published = b.published; stored = b.stored });
    }
      where
        h : Handoff
        h = handoff to handover cut

        taken : (real_cells f s v ≡ slot.cell) × (takes_request x s v ≡ true)
        taken = takes_it (does.pass_on server.base slot applied (request_by t) to handover cut e)

        passes_are : AllByRecursion (λ q. IsOneOf (w.net.passes ++ pass_seen h ∷ []) (pass_seen q)) (f.passes ++ h ∷ [])
        passes_are = all_push (λ q. IsOneOf (w.net.passes ++ pass_seen h ∷ []) (pass_seen q)) f.passes h
            (all_map (λ q. IsOneOf w.net.passes (pass_seen q)) (λ q. IsOneOf (w.net.passes ++ pass_seen h ∷ []) (pass_seen q)) f.passes (λ q i. among_more w.net.passes (pass_seen h ∷ []) (pass_seen q) i) b.passes)
            (among_new w.net.passes (pass_seen h))

    abbrev Asked : Routing → Type 0
    Asked r = Follows x (Routed s v r, record c { fleet = record f { passes = f.passes ++ option_to_list (handoff_by s v r) } })

    asks : Asked (request_routing f s v applied (request_by t))
    asks = go (request_routing f s v applied (request_by t)) refl
      where
        go : (r : Routing) → routed server.base slot applied (request_by t) ≡ r → Asked r
        go routing.NotHere e = quietly x _ (Routed s v routing.NotHere) ((λ r u q. absurd (cc)), λ o q. absurd (cc)) keeps_passes
        go routing.NotYet e = quietly x _ (Routed s v routing.NotYet) ((λ r u q. absurd (cc)), λ o q. absurd (cc)) keeps_passes
        go (routing.PassOn to handover cut) e = quietly x _ (Routed s v (routing.PassOn to handover cut)) ((λ r u q. absurd (cc)), λ o q. absurd (cc)) (passes_there to handover cut e)
        go routing.Execute e = record {
          events = keeps_passes.events;
          fit = keeps_passes.fit;
          stands = keeps_passes.stands;
          executes = λ r u q. let p : s ≡ r = cc in let d : v ≡ u = cc in subst (λ r. Executes x r u) p (subst (Executes x s) d (executes_there e));
          commits = λ o q. absurd (cc);
        }

  -- a request comes from a client
  pub asks_client : (s v applied : ℕ) → Follows x (in_fleet c (after_request f s v applied Direct))
  asks_client s v applied = asks s v applied None (Inner (Ask s v)) refl refl

  -- one comes that was passed on
  pub asks_passed : (h : Handoff) (applied : ℕ) → IsOneOf w.net.passes (pass_seen h) → Follows x (in_fleet c (after_request f h.shard h.target applied (Passed h.pass)))
  asks_passed h applied (j, got) = asks h.shard h.target applied (Some h) (Inner (Pass j)) (ap (option_map (λ (t : Ticket). t.shard)) got) (go (slice_get w.net.passes j) got)
    where
      go : (q : Option Ticket) → q ≡ Some (pass_seen h) →
          (if takes (λ (t : Ticket). takes_request x t.shard t.target) q then in_world x (within x.world (passed x.world.net q)) else (Quiet, x))
          ≡ (if takes_request x h.shard h.target then in_world x (within x.world (replied x.world.net h.shard h.target (Some (pass_seen h)))) else (Quiet, x))
      go q e = ap (λ q. if takes (λ (t : Ticket). takes_request x t.shard t.target) q then in_world x (within x.world (passed x.world.net q)) else (Quiet, x)) e
