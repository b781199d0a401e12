-- The numbers of a fleet's orders for a shard's lead: the stream that has the shard's crown has come to its place behind
-- all of them, but for its own, if that is committed.
use Rattle.std.proofs.Common.{◌≡◌, ◌≤◌, ◌<◌, ◌⊎◌, ◌+◌, ℕ, refl, sym, ap, ◌∙◌, inl, inr, subst, arith, not, true, false, Option, Some, List, [], ◌∷◌, length}
use Rattle.std.proofs.lemmas.Bool.{and_parts}
use Rattle.sm_placement.specs.Setup.{Setup, sizes_of}
use Rattle.sm_plan_code.specs.declared.limits.TheConstants.{MOST_PLACES}
use Rattle.sm_plan_code.specs.declared.instruction.Instr.{Instr}
use Rattle.sm_plan_code.specs.Effects.{touched}
use Rattle.sm_reservation.specs.declared.stream_id.StreamId.{StreamId}
use Rattle.sm_protocol.specs.State.{State, is_begun, is_running, next_instruction, progress_of, stream_count}
use Rattle.sm_protocol.proofs.Courses.{some_same}
use Rattle.sm_protocol.proofs.LogRoom.{begun_parts}
use Rattle.laws_network.specs.Net.{Order, since_of}
use Rattle.laws_network.specs.Controller.{Controller, EPOCH, has_no_plan, replayed}
use Rattle.laws_network.specs.Fleet.{Abandon, Commit, Committed, End, Fleet, FleetEvent, Forget, HearAsk, HearOwner, HearServer, Judge, Make, Open, Publish, Receive, Recover, Seal, SendOrder, SendPublication, Serve, controller, fleet_comes, fleet_run}
use Rattle.laws_network.specs.FleetLaws.{AllFleetFit, FleetFits, IsFleetOpening, IsFleetReached}
use Rattle.laws_network.proofs.Apart.{touches}
use Rattle.laws_network.proofs.Commands.{done_at_rest, log_fits}
use Rattle.laws_network.proofs.Finish.{none_below}
use Rattle.laws_network.proofs.Logged.{none_runs}
use Rattle.laws_network.proofs.OfFleet.{fleet_is_reached}
use Rattle.laws_service_data.specs.LeadNumbers.{CommitsOfLead, LeadNumbersRise}
use Rattle.laws_service_data.proofs.Crowns.{HasCrown, one_crown}
use Rattle.laws_service_data.proofs.CrownsGoOn.{CrownsGoOn, RecordGoesOn, StandsWithCrown, entry_goes_on}
use Rattle.laws_service_data.proofs.Records.{Leaves, MovesRecord, Writes, calm, kept, moves_record, no_steps}
use Rattle.laws_service_data.proofs.Spent.{IsSpent, not_spent, spent_now, spent_on}
use Rattle.laws_service_data.proofs.LeadOrders.{IsOrderOf, lead_has_crown, parts}
use Rattle.laws_service_data.proofs.Runs.{fleet_next}

-- The order that a stream has now is for this shard, and is spent; and no number is above its own.
pub record IsSpentAt (c : Controller) (Spent : ℕ → ℕ → Type 0) (s top : ℕ) (id : StreamId) : Type 0 where
  pub instr : Instr
  pub next : next_instruction c.w id ≡ Some instr
  pub server : ℕ
  pub touches : touched instr ≡ Some (s, server)
  pub spent : Spent server (c.base + since_of c.w id + 1)
  pub most : top ≤ c.base + since_of c.w id + 1

-- a stream has come to its place behind a number, or its order is the one with that number, and is spent
abbrev pub IsBehindAt : Controller → (ℕ → ℕ → Type 0) → ℕ → ℕ → StreamId → Type 0
IsBehindAt c Spent s top id =
    (since_of c.w id ≤ length c.w.log) × ((top ≤ c.base + since_of c.w id) ⊎ IsSpentAt c Spent s top id)

-- So has each stream that has the shard's crown; and if none has it, the log has come there.
pub record IsBehind (c : Controller) (Spent : ℕ → ℕ → Type 0) (s top : ℕ) : Type 0 where
  pub holders : (id : StreamId) → HasCrown c.w s id → IsBehindAt c Spent s top id
  pub rest : ((id : StreamId) × HasCrown c.w s id) ⊎ (top ≤ c.base + length c.w.log)

-- what is spent may be told otherwise
behind_map : (c : Controller) (S T : ℕ → ℕ → Type 0) (s top : ℕ) → ((v n : ℕ) → S v n → T v n) → IsBehind c S s top → IsBehind c T s top
behind_map c S T s top m b = record {
  holders = λ id h. (let k = b.holders id h in (
    k.0,
    elim k.1 [
      | inl l ↦ inl l
      | inr x ↦ inr (record { instr = x.instr; next = x.next; server = x.server; touches = x.touches; spent = m x.server (c.base + since_of c.w id + 1) x.spent; most = x.most })
    ],
  ));
  rest = b.rest;
}

-- the number is not far above the log
near : (c : Controller) (S : ℕ → ℕ → Type 0) (s top : ℕ) → IsBehind c S s top → top ≤ c.base + length c.w.log + 1
near c S s top b = elim b.rest [
  | inl h ↦ (let k = b.holders h.0 h.1 in let l = k.0 in elim k.1 [
    | inl t ↦ omega arith
    | inr x ↦ (let t = x.most in omega arith)
  ])
  | inr l ↦ omega arith
]

module _ (c new : Controller) (S : ℕ → ℕ → Type 0) (s top : ℕ) (b : IsBehind c S s top) where
  stands_behind : new.base ≡ c.base → length c.w.log ≤ length new.w.log → (id : StreamId) → StandsWithCrown c.w new.w s id → IsBehindAt new S s top id
  stands_behind base longer id t =
      let k = b.holders id t.before in
      let since = t.since in
      let l = k.0 in (
        omega arith,
        elim k.1 [
          | inl a ↦ inl (omega arith)
          | inr x ↦ inr (record {
            instr = x.instr;
            next = t.next ∙ x.next;
            server = x.server;
            touches = x.touches;
            spent = subst (S x.server) (let z : c.base + since_of c.w id + 1 ≡ new.base + since_of new.w id + 1 = omega arith in z) x.spent;
            most = (let a = x.most in omega arith);
          })
        ],
      )

  -- crowns go on, and each is with one stream
  behind_on : new.base ≡ c.base → CrownsGoOn c.w new.w s → ((x y : StreamId) → HasCrown new.w s x → HasCrown new.w s y → x ≡ y) → IsBehind new S s top
  behind_on base g one = record { holders = λ id h. elim (g.holders id h) [ inl e ↦ comes id h e | inr t ↦ stands_behind base g.log id t ]; rest = rest }
    where
      at_end : (id : StreamId) → since_of new.w id ≡ length new.w.log → top ≤ new.base + length new.w.log → IsBehindAt new S s top id
      at_end id e l = (omega arith, inl (omega arith))

      comes : (id : StreamId) → HasCrown new.w s id → since_of new.w id ≡ length new.w.log → IsBehindAt new S s top id
      comes id h e = elim g.kept [
        | inl longer ↦ at_end id e (let n = near c S s top b in omega arith)
        | inr stay ↦ elim b.rest [
          | inl k ↦
              let t = stay k.0 k.1 in
              subst (IsBehindAt new S s top) (one k.0 id t.now h) (stands_behind base g.log k.0 t)
          | inr l ↦ at_end id e (let n = g.log in omega arith)
        ]
      ]

      rest : ((id : StreamId) × HasCrown new.w s id) ⊎ (top ≤ new.base + length new.w.log)
      rest = elim g.kept [
        | inl longer ↦ inr (let n = near c S s top b in omega arith)
        | inr stay ↦ elim b.rest [
          | inl k ↦ inl (k.0, (stay k.0 k.1).now)
          | inr l ↦ inr (let n = g.log in omega arith)
        ]
      ]

  -- the next epoch opens
  behind_opened : new.base ≡ c.base + EPOCH → length c.w.log ≤ MOST_PLACES → ((id : StreamId) → HasCrown c.w s id → ⊥) → ((id : StreamId) → is_running new.w id ≡ true → ⊥) → IsBehind new S s top
  behind_opened base fits nobody none = record {
    holders = λ id h. absurd (none id h.runs);
    rest = inr (elim b.rest [ inl k ↦ absurd (nobody k.0 k.1) | inr l ↦ omega arith ]);
  }

-- once all plans are done no stream runs
none_runs_done : (w : State) → has_no_plan w ≡ true → (id : StreamId) → is_running w id ≡ true → ⊥
none_runs_done w t id r =
    let a = and_parts (is_begun w id) (not (progress_of w id).done) r in
    let b = begun_parts w id a.0 in
    let u = none_below (stream_count w id.plan) (λ i. not (w.progress id.plan i).done) (done_at_rest w t id.plan b.0) id.stream b.1 in
    absurd (let z : true ≡ false = sym a.1 ∙ u in cc)

-- ---- the fleet

-- a commit is no event of the controller
fits_commit : (setup : Setup) (f : Fleet) (e : FleetEvent) (o : Order) → (fleet_comes f e).0 ≡ Committed o → FleetFits setup f e
fits_commit setup f (Make x) o q = absurd (cc)
fits_commit setup f (End v permit) o q = absurd (cc)
fits_commit setup f (Open room) o q = absurd (cc)
fits_commit setup f (HearServer place) o q = tt
fits_commit setup f (HearOwner place) o q = tt
fits_commit setup f (HearAsk place) o q = tt
fits_commit setup f (SendOrder lost id) o q = tt
fits_commit setup f (SendPublication lost id) o q = tt
fits_commit setup f (Judge place) o q = tt
fits_commit setup f (Commit place at) o q = tt
fits_commit setup f (Abandon s v) o q = tt
fits_commit setup f (Publish place) o q = tt
fits_commit setup f (Serve s v applied) o q = tt
fits_commit setup f (Receive place applied) o q = tt
fits_commit setup f (Seal place) o q = tt
fits_commit setup f (Forget v) o q = tt
fits_commit setup f (Recover place v) o q = tt

-- what is spent of a shard in a fleet
abbrev pub SpentIn : Setup → Fleet → ℕ → ℕ → ℕ → Type 0
SpentIn setup f s v n = IsSpent setup f s v n

-- no number of the shard's lead is above this one
abbrev pub IsFleetBehind : Setup → Fleet → ℕ → ℕ → Type 0
IsFleetBehind setup f s top = IsBehind (controller f) (SpentIn setup f s) s top

module _ (setup : Setup) (f : Fleet) (r : IsFleetReached setup f) (e : FleetEvent) (fit : FleetFits setup f e) (there : IsFleetReached setup (fleet_comes f e).1) (s top : ℕ) (b : IsFleetBehind setup f s top) where
  abbrev new : Fleet
  new = (fleet_comes f e).1

  spent_still : IsBehind (controller f) (SpentIn setup new s) s top
  spent_still = behind_map (controller f) (SpentIn setup f s) (SpentIn setup new s) s top (λ v n. spent_on setup f e fit s v n) b

  -- so it stays
  pub behind_stays : IsFleetBehind setup new s top
  behind_stays = go (moves_record f e)
    where
      goes : RecordGoesOn (controller f) (controller new) → IsFleetBehind setup new s top
      goes (inl g) = behind_on (controller f) (controller new) (SpentIn setup new s) s top spent_still g.0 (g.1 s) (one_crown (controller new).w (kept setup new there) (calm setup new there).unmade s)
      goes (inr g) = behind_opened (controller f) (controller new) (SpentIn setup new s) s top spent_still g.1 (log_fits setup (controller f).w (fleet_is_reached setup f r)) (λ id h. none_runs_done (controller f).w g.0 id h.runs) g.2

      go : MovesRecord f (fleet_comes f e) → IsFleetBehind setup new s top
      go (Leaves same) = subst (λ (c : Controller). IsBehind c (SpentIn setup new s) s top) (sym same) spent_still
      go (Writes x none same) = goes (subst (RecordGoesOn (controller f)) (sym same) (entry_goes_on (controller f) (no_steps setup f r) x))

module _ (setup : Setup) (f : Fleet) (r : IsFleetReached setup f) (e : FleetEvent) (top : ℕ) (o : Order) (h : CommitsOfLead f e o) (b : IsFleetBehind setup f o.call.shard top) where
  q : (fleet_comes f e).0 ≡ Committed o
  q = h.commits

  pub fit : FleetFits setup f e
  fit = fits_commit setup f e o h.commits

  abbrev order : IsOrderOf (controller f).base (controller f).w o.stream o
  order = parts setup f r e o q

  crowned : HasCrown (controller f).w o.call.shard o.stream
  crowned = lead_has_crown setup f r e o q h.lead

  -- the cell that the order is for
  touching : touched order.instr ≡ Some (o.call.shard, o.call.server)
  touching =
      touches (controller f).w.numbers order.instr order.call order.at_call.call order.at_call.next
      ∙ (ap (λ k. let z : Option (ℕ × ℕ) = Some (k, order.call.server) in z) (sym order.shard)
      ∙ ap (λ k. let z : Option (ℕ × ℕ) = Some (o.call.shard, k) in z) (sym order.server))

  -- the number of an order for the lead that is committed is above it
  pub lead_is_later : top < o.number
  lead_is_later = elim (b.holders o.stream crowned).1 [
    | inl l ↦ (let n = order.number in omega arith)
    | inr x ↦
        let i = some_same x.instr order.instr (sym x.next ∙ order.at_call.before.next_is) in
        let pair = some_same (o.call.shard, x.server) (o.call.shard, o.call.server) (sym x.touches ∙ (ap touched i ∙ touching)) in
        absurd (not_spent setup f r e fit o q (subst (λ v. IsSpent setup f o.call.shard v o.number) (ap (λ (p : ℕ × ℕ). p.1) pair) (subst (IsSpent setup f o.call.shard x.server) (sym order.number) x.spent)))
  ]

  -- from then on it is the highest
  pub lead_is_highest : IsFleetBehind setup (fleet_comes f e).1 o.call.shard o.number
  lead_is_highest = go (moves_record f e)
    where
      own_one : (id : StreamId) → id ≡ o.stream → IsBehindAt (controller f) (SpentIn setup (fleet_comes f e).1 o.call.shard) o.call.shard o.number id
      own_one id same = subst (IsBehindAt (controller f) (SpentIn setup (fleet_comes f e).1 o.call.shard) o.call.shard o.number) (sym same) (
        (b.holders o.stream crowned).0,
        inr (record {
          instr = order.instr;
          next = order.at_call.before.next_is;
          server = o.call.server;
          touches = touching;
          spent = subst (IsSpent setup (fleet_comes f e).1 o.call.shard o.call.server) order.number (spent_now setup f r e fit o q);
          most = (let n = order.number in omega arith);
        }),
      )

      at_record : IsBehind (controller f) (SpentIn setup (fleet_comes f e).1 o.call.shard) o.call.shard o.number
      at_record = record {
        holders = λ id k. own_one id (one_crown (controller f).w (kept setup f r) (calm setup f r).unmade o.call.shard id o.stream k crowned);
        rest = inl (o.stream, crowned);
      }

      go : MovesRecord f (fleet_comes f e) → IsFleetBehind setup (fleet_comes f e).1 o.call.shard o.number
      go (Leaves same) = subst (λ (c : Controller). IsBehind c (SpentIn setup (fleet_comes f e).1 o.call.shard) o.call.shard o.number) (sym same) at_record
      go (Writes x none same) = absurd (none o q)

-- ---- along events

-- so it stays along events
behind_run : (setup : Setup) (s top : ℕ) (es : List FleetEvent) (f : Fleet) → IsFleetReached setup f → AllFleetFit setup f es → IsFleetBehind setup f s top → IsFleetReached setup (fleet_run es f) × IsFleetBehind setup (fleet_run es f) s top
behind_run setup s top [] f r fits b = (r, b)
behind_run setup s top (e ∷ es) f r fits b =
    let there = fleet_next setup f e r fits.0 in
    behind_run setup s top es (fleet_comes f e).1 there fits.1 (behind_stays setup f r e fits.0 there s top b)

-- at an opening no stream runs
pub behind_opening : (setup : Setup) (f : Fleet) (s : ℕ) → IsFleetOpening setup f → IsFleetBehind setup f s f.start.base
behind_opening setup f s o = record {
  holders = λ id h. absurd (nobody id h.runs);
  rest = inr (let z : (controller f).base ≡ f.start.base = ap (λ j. (replayed f.start j).base) o.journal in omega arith);
}
  where
    nobody : (id : StreamId) → is_running (controller f).w id ≡ true → ⊥
    nobody id r =
        let n = o.world.net in
        none_runs (sizes_of setup) n.place n.room id (ap (λ (w : State). is_running w id) (sym n.w) ∙ r)

-- a fleet that opens is reached
pub reached_opening : (setup : Setup) (f : Fleet) → IsFleetOpening setup f → IsFleetReached setup f
reached_opening setup f o = record { first = f; opening = o; events = []; fit = tt; state = refl }

-- wherever events lead, the numbers of a shard's lead are no higher than some number
reached_behind : (setup : Setup) (f : Fleet) (s : ℕ) → (r : IsFleetReached setup f) → IsFleetBehind setup f s r.first.start.base
reached_behind setup f s r = subst (λ g. IsFleetBehind setup g s r.first.start.base) (sym r.state)
    (behind_run setup s r.first.start.base r.events r.first (reached_opening setup r.first r.opening) r.fit (behind_opening setup r.first s r.opening)).1

-- the numbers of orders for a shard's lead rise
pub lead_numbers_rise : LeadNumbersRise
lead_numbers_rise setup f e o es later p r h fits k same =
    let b = reached_behind setup f o.call.shard r in
    let there = fleet_next setup f e r (fits_commit setup f e o h.commits) in
    let high = lead_is_highest setup f r e r.first.start.base o h b in
    let then = behind_run setup o.call.shard o.number es (fleet_comes f e).1 there fits high in
    lead_is_later setup (fleet_run es (fleet_comes f e).1) then.0 later o.number p k (subst (λ s. IsFleetBehind setup (fleet_run es (fleet_comes f e).1) s o.number) same then.1)
