-- Each command is its entries.
use Rattle.std.proofs.Common.{◌≡◌, ◌≤◌, ◌<◌, ◌∙◌, ◌+◌, ◌∷◌, ◌++◌, [], ℕ, zero, suc, Bool, true, false, not, Option, Some, None, List, length, set, refl, sym, ap, subst, arith, inl, inr}
use Rattle.std.specs.Prelude.{◌==◌, ◌&&◌, ◌||◌, IsSome, is_none, is_some, slice_get, nat_lt, nat_le, if◌then◌else◌}
use Rattle.std.specs.Option.{option_or}
use Rattle.std.specs.List.{filter, range_with_len}
use Rattle.std.proofs.Math.Path.{fun_ext}
use Rattle.std.proofs.lemmas.Bool.{and_from, and_parts, cases_eq, eq-eqb, le-ltb, leb-false}
use Rattle.std.proofs.lemmas.List.{length-set}
use Rattle.sm_placement.specs.Sums.{any_below, put}
use Rattle.sm_placement.proofs.Searches.{any_none_from, first_from_none}
use Rattle.sm_placement.proofs.Sums.{put-here}
use Rattle.sm_reservation.specs.declared.stream_id.StreamId.{StreamId}
use Rattle.sm_plan_code.specs.declared.instruction.Instr.{Instr}
use Rattle.sm_plan_code.specs.declared.instruction.Instr.TheVariants as instr
use Rattle.sm_plan_code.specs.declared.limits.TheConstants.{MOST_PLACES}
use Rattle.sm_plan_code.specs.declared.call.ServerCall.{ServerCall}
use Rattle.sm_task_controller.specs.declared.decision.Denied.{Denied}
use Rattle.sm_task_controller.specs.declared.decision.Denied.TheVariants.{AlreadyDown}
use Rattle.sm_task_controller.specs.Decision.{denial, denied_if}
use Rattle.sm_protocol.specs.declared.event.Played.TheVariants as played
use Rattle.sm_protocol.specs.State.{State, free_places, is_running, is_unfinished, next_instruction, opened, pool, progress_of}
use Rattle.sm_protocol.specs.Steps.{Answered as answered, Outcome}
use Rattle.sm_protocol.specs.Next.{call_under, entry_by, next_call_of, next_entry_of, since_of, unfinished_plans}
use Rattle.sm_protocol.specs.Happens.{Approve, Begin, Done, Step, approved, engaged, happens}
use Rattle.sm_plan_code.specs.Plan.{PlanModel}
use Rattle.sm_protocol.proofs.Courses.{some_same}
use Rattle.laws_network.specs.Net.{Order, call_above, call_now, instruction_call, is_awaited}
use Rattle.laws_network.specs.World.{Publication, is_answered_by, publication_by, publication_for, publication_now, publication_of}
use Rattle.laws_network.specs.Controller.{Answered, Controller, EPOCH, Ended, JournalEntry, Made, Opened, Restore, Restored, Stored, are_versions_low, entry_recorded, goes_on, has_no_plan, is_permitted, replayed, restore_for}
use Rattle.sm_driver.specs.Copies.{HasNotedCopies}
use Rattle.sm_driver.specs.Driver.{DriverModel, HasApproved, HasBegunPlan, HasEndedRestart, HasRestored, HasTakenStep, awaits_answer, base, is_due, order_number, record_of}
use Rattle.sm_driver.specs.Epochs.{HasOpenedEpoch, epoch_fault, fault_by, last_epoch, shard_spent}
use Rattle.sm_driver.specs.Orders.{epoch_base}
use Rattle.sm_driver.specs.Permits.{permit_of, server_permitted}
use Rattle.sm_driver.specs.Restores.{RestoreModel, restore_now}
use Rattle.laws_driver.specs.Control.{ApproveRestart, BeginPlan, EndRestart, IsAnswerEntry, IsControllerOf, IsTold, NoteCopies, OpenEpoch, RestoreServer, TakeAnswer, Writes, free_steps}
use Rattle.laws_driver.specs.ControlLaws.{AnswersHaveEntries, CommandsAreEntries}
use Rattle.laws_driver.proofs.Controls.{controller_of, is_that, next_control}
use Rattle.laws_driver.proofs.FreeEntries.{advanced, recording}
use Rattle.laws_driver.proofs.Searches.{found_at, get_before, get_last, passed, put_set, set_cases}

-- the next driver's record and permits at the controller of the one before
placed : (old new : DriverModel) (given : List Restore) → new.journal ≡ old.journal → new.epoch ≡ old.epoch → new.fence ≡ old.fence →
    record (controller_of old given) { w = record_of new; permits = permit_of new.permits } ≡ controller_of new given
placed old new given journal epoch fence =
    ap (λ x. record (controller_of new given) { journal = x; base = base old; fence = old.fence }) (sym journal)
    ∙ ap (λ x. record (controller_of new given) { base = epoch_base x; fence = old.fence }) (sym epoch)
    ∙ ap (λ x. record (controller_of new given) { fence = x }) (sym fence)

-- if permits stay
moved : (old new : DriverModel) (given : List Restore) → new.journal ≡ old.journal → new.epoch ≡ old.epoch → new.fence ≡ old.fence → new.permits ≡ old.permits →
    recording (controller_of old given) (record_of new) ≡ controller_of new given
moved old new given journal epoch fence permits =
    ap (λ x. record (controller_of old given) { w = record_of new; permits = permit_of x }) (sym permits) ∙ placed old new given journal epoch fence

-- ---- rests

-- if no number passes, each fails
none_pass : (t : ℕ → Bool) (a n : ℕ) → slice_get (filter t (range_with_len a n)) 0 ≡ None → (k : ℕ) → a ≤ k → k < a + n → t k ≡ false
none_pass t a zero e k low high = absurd (omega arith)
none_pass t a (suc n) e k low high = go (none_pass t (a + 1) n) (t a) refl e
  where
    go : (slice_get (filter t (range_with_len (a + 1) n)) 0 ≡ None → (j : ℕ) → a + 1 ≤ j → j < a + 1 + n → t j ≡ false) → (b : Bool) → t a ≡ b →
        slice_get (if b then a ∷ filter t (range_with_len (a + 1) n) else filter t (range_with_len (a + 1) n)) 0 ≡ None → t k ≡ false
    go rest true here none = absurd (cc)
    go rest false here none = elim (cases_eq k a) [
      | inl same ↦ ap t same ∙ here
      | inr apart ↦ rest none k (omega arith) (omega arith)
    ]

-- no plan is unfinished
none_unfinished : (w : State) → slice_get (unfinished_plans w) 0 ≡ None → any_below (length w.plans) (is_unfinished w) ≡ false
none_unfinished w e = any_none_from (length w.plans) (is_unfinished w) (λ k l. none_pass (is_unfinished w) 0 (length w.plans) e k (omega arith) (omega arith))

-- no version is too high
none_spent : (w : State) → shard_spent w ≡ None → any_below w.sizes.shards (λ s. nat_lt MOST_PLACES (w.place.version s)) ≡ false
none_spent w e = any_none_from w.sizes.shards (λ s. nat_lt MOST_PLACES (w.place.version s)) (λ s l. low s (nat_le MOST_PLACES (w.place.version s)) refl (first_from_none spent 0 w.sizes.shards e s (omega arith) (omega arith)))
  where
    spent : ℕ → Option ℕ
    spent s = if nat_le MOST_PLACES (w.place.version s) then Some s else None

    low : (s : ℕ) (b : Bool) → nat_le MOST_PLACES (w.place.version s) ≡ b → (if b then Some s else None) ≡ None → nat_lt MOST_PLACES (w.place.version s) ≡ false
    low s true f g = absurd (cc)
    low s false f g = le-ltb MOST_PLACES (w.place.version s) (let l = leb-false MOST_PLACES (w.place.version s) f in omega arith)

-- without a fault no plan is unfinished, and no version is too high
no_fault : (plan : Option ℕ) (last : Bool) (spent : Option ℕ) → fault_by plan last spent ≡ None → (plan ≡ None) × (spent ≡ None)
no_fault None false None e = (refl, refl)
no_fault (Some plan) last spent e = absurd (cc)
no_fault None true spent e = absurd (cc)
no_fault None false (Some shard) e = absurd (cc)

-- ---- starts and answers

begin_is : (old new : DriverModel) (c : Controller) (is : IsControllerOf old c) (plan : PlanModel) (number : ℕ) (h : HasBegunPlan plan number old new) →
    IsControllerOf new (replayed c (free_steps h.advanced.streams ++ Made (Begin plan) ∷ []))
begin_is old new c is plan number h =
    let first = controller_of old c.restores in
    next_control old new c _ is h.journal.journal h.journal.fence h.journal.setup h.journal.restores (ap length h.permits)
    (ap (λ k. replayed k (free_steps h.advanced.streams ++ Made (Begin plan) ∷ [])) (is_that old c is)
    ∙ advanced first (Made (Begin plan)) h.between (record_of new) h.advanced (ap (λ (o : Outcome × State). recording first o.1) h.begun)
    ∙ moved old new c.restores h.journal.journal h.journal.epoch h.journal.fence h.permits)

-- a stream that stands before a call runs, and makes that call next
before_call : (w : State) (id : StreamId) → IsSome (next_call_of w id) → (is_running w id ≡ true) × (is_some (call_now w id) ≡ true)
before_call w id some = go (is_running w id) refl some
  where
    by_call : (o : Option Instr) → IsSome (call_under w.numbers o) → is_some (instruction_call w.numbers o) ≡ true
    by_call None s = absurd (cc)
    by_call (Some i) s = s

    go : (b : Bool) → is_running w id ≡ b → IsSome (call_under w.numbers (if b then next_instruction w id else None)) → (is_running w id ≡ true) × (is_some (call_now w id) ≡ true)
    go true e s = (e, by_call (next_instruction w id) s)
    go false e s = absurd (cc)

-- the publication of a stream bears its name
of_stream : (base : ℕ) (w : State) (id : StreamId) (p : Publication) → publication_of base w id ≡ Some p → p.stream ≡ id
of_stream base w id p e = go (is_running w id) (publication_now w id) e
  where
    go : (b : Bool) (o : Option (ℕ × Option ℕ)) → (if b then publication_for base w id o else None) ≡ Some p → p.stream ≡ id
    go true (Some x) f = (let same : Some _ ≡ Some p = f in ap (λ (o : Option Publication). elim o [ None ↦ id | Some q ↦ q.stream ]) (sym same))
    go true None f = absurd (cc)
    go false o f = absurd (cc)

-- an answer that is due is taken
answer_is : (old : DriverModel) (given : List Restore) (id : StreamId) (number : ℕ) (e : JournalEntry) → is_due old id number ≡ true → IsAnswerEntry old id number e →
    entry_recorded (controller_of old given) e ≡ recording (controller_of old given) (happens (record_of old) (Step id)).1
answer_is old given id number (Answered o) due h =
    let w : State = record_of old in
    let first = controller_of old given in
    let before = before_call w id h.2 in
    let named = (and_parts (awaits_answer old id) (number == order_number old id) due).1 in
    let awaited : is_awaited (base old) w o ≡ true =
    ap (λ x. is_running w x && (is_some (call_now w x) && (o.number == base old + since_of w x + 1))) h.0
    ∙ ap (λ n. is_running w id && (is_some (call_now w id) && (n == order_number old id))) h.1
    ∙ and_from _ _ before.0 (and_from _ _ before.1 named) in
    ap (λ b. if b then goes_on first (Step o.stream) else first) awaited ∙ ap (λ x. recording first (happens w (Step x)).1) h.0
answer_is old given id number (Stored p) due h =
    let w : State = record_of old in
    let first = controller_of old given in
    let stream = of_stream (base old) w id p h in
    let answered : is_answered_by p (publication_of (base old) w p.stream) ≡ true =
    ap (λ x. is_answered_by p (publication_of (base old) w x)) stream ∙ ap (is_answered_by p) h ∙ and_from _ _ (eq-eqb p.shard p.shard refl) (eq-eqb p.entry.version p.entry.version refl) in
    ap (λ b. if b then goes_on first (Step p.stream) else first) answered ∙ ap (λ x. recording first (happens w (Step x)).1) stream
answer_is old given id number (Made e) due h = absurd h
answer_is old given id number (Ended v permit) due h = absurd h
answer_is old given id number (Restored v nonce) due h = absurd h
answer_is old given id number (Opened room) due h = absurd h

taken_is : (old new : DriverModel) (c : Controller) (is : IsControllerOf old c) (id : StreamId) (number : ℕ) (h : HasTakenStep id old new) (e : JournalEntry) → is_due old id number ≡ true → IsAnswerEntry old id number e →
    IsControllerOf new (replayed c (free_steps h.advanced.streams ++ e ∷ []))
taken_is old new c is id number h e due answers =
    let first = controller_of old c.restores in
    next_control old new c _ is h.journal.journal h.journal.fence h.journal.setup h.journal.restores (ap length h.permits)
    (ap (λ k. replayed k (free_steps h.advanced.streams ++ e ∷ [])) (is_that old c is)
    ∙ advanced first e h.between (record_of new) h.advanced (answer_is old c.restores id number e due answers ∙ ap (λ (o : Outcome × State). recording first o.1) h.step)
    ∙ moved old new c.restores h.journal.journal h.journal.epoch h.journal.fence h.permits)

-- ---- restarts

-- who is approved was up, and is down
approval_flips : (w new : State) (v : ℕ) → happens w (Approve v) ≡ (answered played.Approved, new) → (w.place.down v ≡ false) × (new.place.down v ≡ true)
approval_flips w new v e =
    let parts = by_denial (denial w.sizes w.place (pool w) (engaged w v) (free_places w) v) e in
    (by_down (w.place.down v) _ parts.0, parts.1)
  where
    by_denial : (o : Option Denied) → approved w v o ≡ (answered played.Approved, new) → (o ≡ None) × (new.place.down v ≡ true)
    by_denial (Some why) f = absurd (let g = ap (λ (o : Outcome × State). o.0) f in cc)
    by_denial None f = (refl, ap (λ (o : Outcome × State). o.1.place.down v) (sym f) ∙ put-here w.place.down v true v refl)

    by_down : (b : Bool) (rest : Option Denied) → option_or (denied_if b AlreadyDown) rest ≡ None → b ≡ false
    by_down true rest f = absurd (cc)
    by_down false rest f = refl

approve_is : (old new : DriverModel) (c : Controller) (is : IsControllerOf old c) (v permit : ℕ) → v < (record_of old).sizes.servers → HasApproved v permit old new →
    IsControllerOf new (replayed c (Made (Approve v) ∷ []))
approve_is old new c is v permit l h =
    let w : State = record_of old in
    let first = controller_of old c.restores in
    let at : State = (happens w (Approve v)).1 in
    let number : ℕ = base old + length w.log + 1 in
    let flips = approval_flips w (record_of new) v h.event in
    let at_new : at ≡ record_of new = ap (λ (o : Outcome × State). o.1) h.event in
    let test : (not (w.place.down v) && at.place.down v) ≡ true = and_from _ _ (ap not flips.0) (ap (λ (s : State). s.place.down v) at_new ∙ flips.1) in
    let within : v < length old.permits = subst (λ n. v < n) (sym is.servers) l in
    let permits : put (permit_of old.permits) v (Some number) ≡ permit_of new.permits =
    fun_ext (put_set None old.permits v (Some number) within) ∙ ap (λ n. permit_of (set old.permits v (Some n))) (sym h.number) ∙ ap permit_of (sym h.permits) in
    next_control old new c _ is h.journal.journal h.journal.fence h.journal.setup h.journal.restores (ap length h.permits ∙ length-set old.permits v (Some permit))
    (ap (λ k. goes_on k (Approve v)) (is_that old c is)
    ∙ ap (λ b. record first { w = at; permits = if b then put (permit_of old.permits) v (Some number) else permit_of old.permits }) test
    ∙ ap (λ f. record first { w = at; permits = f }) permits
    ∙ ap (λ s. record first { w = s; permits = permit_of new.permits }) at_new
    ∙ placed old new c.restores h.journal.journal h.journal.epoch h.journal.fence)

-- the server that a permit names has it, and is known
pub permit_is : (permits : List (Option ℕ)) (permit v : ℕ) → server_permitted permits permit ≡ Some v → (is_permitted (permit_of permits v) permit ≡ true) × (v < length permits)
permit_is permits permit v e =
    let at = found_at (λ u. if is_permitted (permit_of permits u) permit then Some u else None) 0 (length permits) v e in
    let here = passed (is_permitted (permit_of permits at.0) permit) at.0 v at.2 in
    let l = at.1 in
    (subst (λ u. is_permitted (permit_of permits u) permit ≡ true) here.1 here.0, subst (λ u. u < length permits) here.1 (omega arith))

end_is : (old new : DriverModel) (c : Controller) (is : IsControllerOf old c) (v permit : ℕ) (server_base : Option ℕ) → HasEndedRestart v permit server_base old new →
    IsControllerOf new (replayed c (Ended v permit ∷ []))
end_is old new c is v permit server_base h =
    let w : State = record_of old in
    let first = controller_of old c.restores in
    let at : State = (happens w (Done v)).1 in
    let named = permit_is old.permits permit v h.permitted in
    let permits : put (permit_of old.permits) v None ≡ permit_of new.permits = fun_ext (put_set None old.permits v None named.1) ∙ ap permit_of (sym h.permits) in
    next_control old new c _ is h.journal.journal h.journal.fence h.journal.setup h.journal.restores (ap length h.permits ∙ length-set old.permits v None)
    (ap (λ k. entry_recorded k (Ended v permit)) (is_that old c is)
    ∙ ap (λ b. if b then record first { w = at; permits = put (permit_of old.permits) v None } else first) named.0
    ∙ ap (λ f. record first { w = at; permits = f }) permits
    ∙ ap (λ (o : Outcome × State). record first { w = o.1; permits = permit_of new.permits }) h.event
    ∙ placed old new c.restores h.journal.journal h.journal.epoch h.journal.fence)

-- ---- restores

restore_is : (old new : DriverModel) (c : Controller) (is : IsControllerOf old c) (v nonce : ℕ) → HasRestored v nonce old new → IsControllerOf new (replayed c (Restored v nonce ∷ []))
restore_is old new c is v nonce h =
    subst (λ k. IsControllerOf new k) (sym (ap (λ k. entry_recorded k (Restored v nonce)) (is_that old c is) ∙ ap (λ b. if b then next else first) (ap is_none h.disengaged)))
    (subst (λ d. IsControllerOf d next) (sym h.told) (record {
      journal = refl;
      fence = refl;
      base = refl;
      recorded = refl;
      servers = is.servers;
      permits = λ u. refl;
      restores = λ u told e. elim (set_cases None old.restores v (Some now) u) [
        | inl last ↦ subst (IsTold then_is next) (let same : Some now ≡ Some told = sym last ∙ e in some_same now told same) told_now
        | inr before ↦ kept (is.restores u told (sym before ∙ e))
      ];
    }))
  where
    first : Controller
    first = controller_of old c.restores

    given : Restore
    given = restore_for first v nonce

    next : Controller
    next = record first { restores = c.restores ++ given ∷ [] }

    now : RestoreModel
    now = restore_now (base old) (record_of old) v nonce

    then_is : DriverModel
    then_is = record old { restores = set old.restores v (Some now) }

    told_now : IsTold then_is next now
    told_now = record { place = length c.restores; given = given; among = get_last c.restores given; restoration = refl; cells = refl }

    kept : {told : RestoreModel} → IsTold old c told → IsTold then_is next told
    kept t = record { place = t.place; given = t.given; among = get_before c.restores (given ∷ []) t.place t.given t.among; restoration = t.restoration; cells = t.cells }

-- ---- copies

-- of copies the controller has nothing
noted_is : (old new : DriverModel) (c : Controller) (is : IsControllerOf old c) (s copies : ℕ) → HasNotedCopies s copies old new → IsControllerOf new c
noted_is old new c is s copies h = subst (λ d. IsControllerOf d c) (sym h) (record {
  journal = is.journal;
  fence = is.fence;
  base = is.base;
  recorded = is.recorded;
  servers = is.servers;
  permits = is.permits;
  restores = λ v told e. let t = is.restores v told e in record { place = t.place; given = t.given; among = t.among; restoration = t.restoration; cells = t.cells };
})

-- ---- epochs

epoch_is : (old new : DriverModel) (c : Controller) (is : IsControllerOf old c) → epoch_fault old ≡ None → HasOpenedEpoch old new → IsControllerOf new (replayed c (Opened (record_of old).room ∷ []))
epoch_is old new c is fits h =
    let w : State = record_of old in
    let first = controller_of old c.restores in
    let next : State = opened w.sizes w.place w.room in
    let parts = no_fault (slice_get (unfinished_plans w) 0) (old.epoch == last_epoch) (shard_spent w) fits in
    let test : (has_no_plan w && are_versions_low w) ≡ true = and_from _ _ (ap not (none_unfinished w parts.0)) (ap not (none_spent w parts.1)) in
    let above : base old + EPOCH ≡ base new = (let e = h.epoch in omega arith) in
    next_control old new c _ is h.journal h.fence h.setup h.restores (ap length h.permits)
    (ap (λ k. entry_recorded k (Opened w.room)) (is_that old c is)
    ∙ ap (λ b. if b then record first { w = next; base = base old + EPOCH } else first) test
    ∙ ap (λ b. record first { w = next; base = b }) above
    ∙ ap (λ s. record first { w = s; base = base new }) (sym h.state)
    ∙ ap (λ x. record first { w = record_of new; base = base new; journal = x }) (sym h.journal)
    ∙ ap (λ x. record first { w = record_of new; base = base new; journal = new.journal; fence = x }) (sym h.fence)
    ∙ ap (λ x. record first { w = record_of new; base = base new; journal = new.journal; fence = new.fence; permits = permit_of x }) (sym h.permits))

-- ---- the laws

-- what a command makes of the driver is what its entries make of the controller
pub commands_are_entries : CommandsAreEntries
commands_are_entries (BeginPlan plan) old new es c is callable h = subst (λ xs. IsControllerOf new (replayed c xs)) (sym h.2) (begin_is old new c is plan h.0 h.1)
commands_are_entries (TakeAnswer id number) old new es c is callable h = subst (λ xs. IsControllerOf new (replayed c xs)) (sym h.4) (taken_is old new c is id number h.0 h.1 h.2 h.3)
commands_are_entries (ApproveRestart v) old new es c is callable h = subst (λ xs. IsControllerOf new (replayed c xs)) (sym h.2) (approve_is old new c is v h.0 callable h.1)
commands_are_entries (EndRestart permit server_base) old new es c is callable h = subst (λ xs. IsControllerOf new (replayed c xs)) (sym h.2) (end_is old new c is h.0 permit server_base h.1)
commands_are_entries (RestoreServer v nonce) old new es c is callable h = subst (λ xs. IsControllerOf new (replayed c xs)) (sym h.1) (restore_is old new c is v nonce h.0)
commands_are_entries (NoteCopies s copies) old new es c is callable h = subst (λ xs. IsControllerOf new (replayed c xs)) (sym h.1) (noted_is old new c is s copies h.0)
commands_are_entries OpenEpoch old new es c is callable h = subst (λ xs. IsControllerOf new (replayed c xs)) (sym h.2) (epoch_is old new c is h.1 h.0)

-- the publication that a stream stands before which changes an entry of the published map
publication_due : (base : ℕ) (w : State) (id : StreamId) → is_some (next_entry_of w id) ≡ true → (p : Publication) × (publication_of base w id ≡ Some p)
publication_due base w id e = go (is_running w id) refl e
  where
    by_instruction : (o : Option Instr) → is_some (entry_by w o) ≡ true → (p : Publication) × (publication_for base w id (publication_by w o) ≡ Some p)
    by_instruction (Some (instr.Publish s)) f = (_, refl)
    by_instruction (Some (instr.Unlist s)) f = (_, refl)
    by_instruction None f = absurd (cc)
    by_instruction (Some i) f = absurd (cc)

    go : (b : Bool) → is_running w id ≡ b → is_some (entry_by w (if b then next_instruction w id else None)) ≡ true → (p : Publication) × (publication_of base w id ≡ Some p)
    go true f g = let p = by_instruction (next_instruction w id) g in (p.0, ap (λ b. if b then publication_for base w id (publication_now w id) else None) f ∙ p.1)
    go false f g = absurd (cc)

-- each answer that is due has an entry
pub answers_have_entries : AnswersHaveEntries
answers_have_entries id number old new due taken = go (next_call_of (record_of old) id) refl (and_parts (awaits_answer old id) (number == order_number old id) due).0
  where
    w : State
    w = record_of old

    go : (o : Option ServerCall) → next_call_of w id ≡ o → (is_some o || is_some (next_entry_of w id)) ≡ true → (es : List JournalEntry) × Writes (TakeAnswer id number) old new es
    go (Some x) e f =
        let order : Order = record { stream = id; at = (progress_of w id).at; call = record x { call = call_above (base old) x.call }; number = number } in
        (_, (taken, Answered order, due, (refl, refl, ap is_some e), refl))
    go None e f = let p = publication_due (base old) w id f in (_, (taken, Stored p.0, due, p.1, refl))
