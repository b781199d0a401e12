-- An order that was present at the beginning of a round is not turned away while its stream stands as it stood, nor is a publication.
use Rattle.std.proofs.Common.{◌≡◌, ◌≢◌, ℕ, ◌+◌, ◌≤◌, ◌⊎◌, refl, sym, ap, ◌∙◌, inl, inr, subst, arith, not, Bool, true, false, Option, Some, None}
use Rattle.std.specs.Prelude.{if◌then◌else◌, nat_lt, option_map, unwrap_or}
use Rattle.std.proofs.lemmas.Bool.{and_from}
use Rattle.sm_server.specs.declared.call.Refusal.{Refusal}
use Rattle.sm_placement.specs.Setup.{Setup}
use Rattle.sm_reservation.specs.declared.stream_id.StreamId.{StreamId}
use Rattle.sm_plan_code.specs.declared.call.ServerCall.{ServerCall}
use Rattle.sm_plan_code.specs.declared.instruction.Instr.{Instr}
use Rattle.sm_plan_code.specs.declared.instruction.Instr.TheVariants.{PrepareAdd, PrepareDrop, Add, Drop, Change, Publish, Unlist, Signal, Wait}
use Rattle.sm_protocol.specs.State.{State, is_begun, is_running, next_instruction, progress_of}
use Rattle.sm_protocol.specs.Happens.{engages}
use Rattle.sm_protocol.specs.Next.{since_of}
use Rattle.sm_protocol.proofs.Courses.{some_same}
use Rattle.sm_agent.specs.declared.order.Verdict.{Verdict}
use Rattle.sm_agent.specs.declared.order.Verdict.TheVariants as verdict
use Rattle.sm_agent.specs.Order.{judged_by_slot}
use Rattle.laws_network.specs.Net.{Order, call_above, call_now, instruction_call, order_for, order_of}
use Rattle.laws_network.specs.World.{publication_of}
use Rattle.laws_network.specs.Controller.{Controller, Letter, Notice, letter, letter_of, notice, notice_of}
use Rattle.laws_network.specs.Fleet.{Fleet, controller, has_lost, load_used, notice_stamp, order_read, owner_verdict, slot_for, verdict_of}
use Rattle.laws_network.specs.FleetLaws.{AreNamedKnown}
use Rattle.laws_network.proofs.AtServer.{IsBySlot, IsHeard, Lower, Refuses, Same, Serves, by_slot, heard}
use Rattle.laws_network.proofs.Behind.{present_engages}
use Rattle.laws_network.proofs.Commands.{in_order}
use Rattle.laws_network.proofs.Shadow.{IsKnownServer, IsShadow, notice_says}
use Rattle.laws_rounds.proofs.Positions.{Stands, next_same}
use Rattle.laws_rounds.proofs.Publications.{publication_parts}

-- ---- the place and the number of an order

-- what the order of a stream is for, and its number
pub record IsOrderOf (base : ℕ) (w : State) (id : StreamId) (o : Order) : Type 0 where
  pub call : ServerCall
  pub now : call_now w id ≡ Some call
  pub shard : o.call.shard ≡ call.shard
  pub server : o.call.server ≡ call.server
  pub number : o.number ≡ base + since_of w id + 1

order_parts : (base : ℕ) (w : State) (id : StreamId) (o : Order) → order_of base w id ≡ Some o → IsOrderOf base w id o
order_parts base w id o e = go (is_running w id) (call_now w id) refl e
  where
    go : (b : Bool) (c : Option ServerCall) → call_now w id ≡ c → (if b then order_for base w id c else None) ≡ Some o → IsOrderOf base w id o
    go false c q e = absurd (cc)
    go true None q e = absurd (cc)
    go true (Some x) q e = let same = some_same _ o e in record {
      call = x;
      now = q;
      shard = ap (λ (z : Order). z.call.shard) (sym same);
      server = ap (λ (z : Order). z.call.server) (sym same);
      number = ap (λ (z : Order). z.number) (sym same);
    }

-- the shard and the server of a call
abbrev place_of : ServerCall → ℕ × ℕ
place_of x = (x.shard, x.server)

-- they do not depend on handover numbers
places_same : (m n : ℕ → ℕ) (o : Option Instr) → option_map place_of (instruction_call m o) ≡ option_map place_of (instruction_call n o)
places_same m n None = refl
places_same m n (Some (PrepareAdd s v u)) = refl
places_same m n (Some (PrepareDrop s u v)) = refl
places_same m n (Some (Add s v role)) = refl
places_same m n (Some (Drop s v)) = refl
places_same m n (Some (Change s v role)) = refl
places_same m n (Some (Publish s)) = refl
places_same m n (Some (Unlist s)) = refl
places_same m n (Some (Signal q)) = refl
places_same m n (Some (Wait q)) = refl

-- a call for the same place
record IsCallAt (w : State) (id : StreamId) (x : ServerCall) : Type 0 where
  pub call : ServerCall
  pub now : call_now w id ≡ Some call
  pub shard : call.shard ≡ x.shard
  pub server : call.server ≡ x.server

call_at : (a w : State) (id : StreamId) → next_instruction w id ≡ next_instruction a id → (x : ServerCall) → call_now a id ≡ Some x → IsCallAt w id x
call_at a w id same x q = go (call_now w id) refl
    (ap (λ i. option_map place_of (instruction_call w.numbers i)) same ∙ places_same w.numbers a.numbers (next_instruction a id) ∙ ap (option_map place_of) q)
  where
    go : (o : Option ServerCall) → call_now w id ≡ o → option_map place_of o ≡ Some (x.shard, x.server) → IsCallAt w id x
    go None f e = absurd (cc)
    go (Some y) f e =
        let p : (y.shard, y.server) ≡ (x.shard, x.server) = some_same _ _ e in
        record { call = y; now = f; shard = ap (λ (z : ℕ × ℕ). z.0) p; server = ap (λ (z : ℕ × ℕ). z.1) p }

-- what a letter says
pub letter_parts : (c : Controller) (id : StreamId) (l : Letter) → letter_of c id ≡ Some l → (l.journal ≡ c.journal) × (l.fence ≡ c.fence) × (order_of c.base c.w id ≡ Some l.order)
letter_parts c id l e = go (order_of c.base c.w id) refl e
  where
    go : (o : Option Order) → order_of c.base c.w id ≡ o → option_map (letter c) o ≡ Some l → (l.journal ≡ c.journal) × (l.fence ≡ c.fence) × (order_of c.base c.w id ≡ Some l.order)
    go None f q = absurd (cc)
    go (Some o) f q = subst (λ (m : Letter). (m.journal ≡ c.journal) × (m.fence ≡ c.fence) × (order_of c.base c.w id ≡ Some m.order)) (some_same (letter c o) l q) (refl, refl, f)

notice_parts : (c : Controller) (id : StreamId) (n : Notice) → notice_of c id ≡ Some n → (n.journal ≡ c.journal) × (n.fence ≡ c.fence)
notice_parts c id n e = go (publication_of c.base c.w id) e
  where
    go : (o : Option _) → option_map (notice c) o ≡ Some n → (n.journal ≡ c.journal) × (n.fence ≡ c.fence)
    go None q = absurd (cc)
    go (Some p) q = subst (λ (m : Notice). (m.journal ≡ c.journal) × (m.fence ≡ c.fence)) (some_same (notice c p) n q) (refl, refl)

-- ---- at a server

module _ (setup : Setup) (first : Controller) (id : StreamId) (f : Fleet) (k : IsShadow setup (λ s v. 0) f) (base : (controller f).base ≡ first.base) (journal : (controller f).journal ≡ first.journal) (fence : (controller f).fence ≡ first.fence)
    (s : Stands first.w (controller f).w id) (d : (progress_of first.w id).done ≡ false) where
  runs : is_running (controller f).w id ≡ true
  runs = and_from (is_begun (controller f).w id) (not (progress_of (controller f).w id).done) s.begun (ap not (s.done ∙ d))

  module _ (l : Letter) (present : letter_of first id ≡ Some l) (named : AreNamedKnown f) where
    before : IsOrderOf first.base first.w id l.order
    before = order_parts first.base first.w id l.order (letter_parts first id l present).2

    now : IsCallAt (controller f).w id before.call
    now = call_at first.w (controller f).w id (next_same first.w (controller f).w id s) before.call before.now

    -- the order that the stream has now, for the same place and under the same number
    abbrev own : Order
    own = record { stream = id; at = (progress_of (controller f).w id).at; call = record now.call { call = call_above (controller f).base now.call.call }; number = (controller f).base + since_of (controller f).w id + 1 }

    own_is : order_of (controller f).base (controller f).w id ≡ Some own
    own_is = ap (λ b. if b then order_for (controller f).base (controller f).w id (call_now (controller f).w id) else None) runs ∙ ap (order_for (controller f).base (controller f).w id) now.now

    shard : now.call.shard ≡ l.order.call.shard
    shard = now.shard ∙ sym before.shard

    server : now.call.server ≡ l.order.call.server
    server = now.server ∙ sym before.server

    number : l.order.number ≡ (controller f).base + since_of (controller f).w id + 1
    number = before.number ∙ (ap (λ b. b + since_of first.w id + 1) (sym base) ∙ ap (λ n. (controller f).base + n + 1) (sym s.since))

    engaged : (is_begun (controller f).w id ≡ true) × (engages (controller f).w now.call.server id ≡ true) × (own.number ≡ (controller f).base + since_of (controller f).w id + 1)
    engaged = present_engages (controller f).base (controller f).w id own own_is

    known : has_lost f l.order.call.server ≡ false
    known = subst (λ v. has_lost f v ≡ false) server (named id now.call.server engaged.0 engaged.1)

    at_server : IsKnownServer (controller f) l.order.call.server (f.servers l.order.call.server) (λ r. k.shade.last r l.order.call.server)
    at_server = k.servers l.order.call.server known

    behind : (f.servers l.order.call.server).base.number ≤ (controller f).base + since_of (controller f).w id
    behind = subst (λ v. (f.servers v).base.number ≤ (controller f).base + since_of (controller f).w id) server
        ((k.servers now.call.server (named id now.call.server engaged.0 engaged.1)).behind id engaged.0 engaged.1)

    hears : IsHeard (f.servers l.order.call.server).base (order_read l).stamp
    hears = record {
      known = known;
      journal = (letter_parts first id l present).0 ∙ (sym journal ∙ sym at_server.journal);
      taken = at_server.taken;
      fence = (let a = (letter_parts first id l present).1 in let b = at_server.fence in let c = fence in omega arith);
      above = (let a = behind in let b = number in omega arith);
    }

    last_low : k.shade.last l.order.call.shard l.order.call.server ≤ l.order.number
    last_low =
        let a : k.shade.last now.call.shard now.call.server ≤ own.number = (in_order setup (λ s v. 0) f k).present id own own_is in
        let b : k.shade.last l.order.call.shard l.order.call.server ≤ own.number = subst (λ r. k.shade.last r l.order.call.server ≤ own.number) shard (subst (λ v. k.shade.last now.call.shard v ≤ own.number) server a) in
        let c = number in omega arith

    of_slot : (x : Verdict) → ((why : Refusal) → x ≢ verdict.Refused why) → IsBySlot (slot_for f l) (load_used f l.order.call.server) (order_read l) x → (x ≡ verdict.Begin) ⊎ ((x ≡ verdict.Working) ⊎ (x ≡ verdict.Again))
    of_slot x n (Lower less e) =
        let low = last_low in
        let base = hears.above in
        absurd (elim (at_server.lasts l.order.call.shard) [
          | inl a ↦ (let q = a.1 in omega arith)
          | inr a ↦ (let q = a.0 in omega arith)
        ])
    of_slot x n (Same same e) = inr (inr e)
    of_slot x n (Refuses more why r e) = absurd (n why e)
    of_slot x n (Serves more next r (inl e)) = inl e
    of_slot x n (Serves more next r (inr e)) = inr (inl e.0)

    -- the server begins it, is at work with it, or has answered it
    pub order_heard : ((why : Refusal) → verdict_of f l ≢ verdict.Refused why) → (verdict_of f l ≡ verdict.Begin) ⊎ ((verdict_of f l ≡ verdict.Working) ⊎ (verdict_of f l ≡ verdict.Again))
    order_heard refused =
        let same : verdict_of f l ≡ judged_by_slot (slot_for f l) (load_used f l.order.call.server) (order_read l) =
        ap (λ a. unwrap_or a (judged_by_slot (slot_for f l) (load_used f l.order.call.server) (order_read l))) (heard (f.servers l.order.call.server).base (order_read l).stamp hears) in
        of_slot (verdict_of f l) refused (subst (IsBySlot (slot_for f l) (load_used f l.order.call.server) (order_read l)) (sym same) (by_slot (slot_for f l) (load_used f l.order.call.server) (order_read l)))

  -- ---- at the map's owner

  module _ (n : Notice) (present : notice_of first id ≡ Some n) where
    owner_hears : IsHeard f.owner (notice_stamp n)
    owner_hears = record {
      known = k.owner.known;
      journal = (notice_parts first id n present).0 ∙ (sym journal ∙ sym k.owner.journal);
      taken = k.owner.taken;
      fence = (let a = (notice_parts first id n present).1 in let b = k.owner.fence in let c = fence in omega arith);
      above = (let a = k.owner.number in let b = (publication_parts first.base first.w id n.publication (notice_says first id n present)).version in let c = base in omega arith);
    }

    -- the map's owner takes it, or has taken it
    pub publication_heard : (owner_verdict f n ≡ verdict.Begin) ⊎ (owner_verdict f n ≡ verdict.Again)
    publication_heard = subst (λ o. (unwrap_or o rest ≡ verdict.Begin) ⊎ (unwrap_or o rest ≡ verdict.Again)) (sym (heard f.owner (notice_stamp n) owner_hears)) (either (nat_lt (f.shown n.publication.shard).version n.publication.entry.version))
      where
        rest : Verdict
        rest = if nat_lt (f.shown n.publication.shard).version n.publication.entry.version then verdict.Begin else verdict.Again

        either : (b : Bool) → ((if b then verdict.Begin else verdict.Again) ≡ verdict.Begin) ⊎ ((if b then verdict.Begin else verdict.Again) ≡ verdict.Again)
        either true = inl refl
        either false = inr refl
