-- Commands determine what becomes of a driver.
use Rattle.std.proofs.Common.{◌≡◌, ◌∙◌, ℕ, ◌+◌, Option, Some, None, List, [], ◌∷◌, Bool, false, length, map, refl, sym, ap, subst}
use Rattle.std.specs.Prelude.{◌&&◌, ◌||◌, ◌==◌, not, nat_le, nat_lt, slice_get, slice_index_or, slice_set, if◌then◌else◌}
use Rattle.std.specs.List.{list_any, range_with_len}
use Rattle.sm_placement.specs.Opening.{is_handing}
use Rattle.sm_placement.specs.Setup.{Setup}
use Rattle.sm_placement.specs.Sums.{any_below}
use Rattle.sm_reservation.specs.declared.stream_id.StreamId.{StreamId}
use Rattle.sm_plan_code.specs.Plan.{PlanModel}
use Rattle.sm_protocol.specs.declared.event.Played.TheVariants as played
use Rattle.sm_protocol.specs.State.{State, is_begun, opened, progress_of}
use Rattle.sm_protocol.specs.Steps.{Answered, Outcome}
use Rattle.sm_protocol.specs.Next.{since_of, unfinished_plans}
use Rattle.sm_protocol.specs.Happens.{Approve, Begin, Done, Happening, Step, engaged, happens, run}
use Rattle.sm_driver.specs.Advance.{AreNextFree, IsAdvanced}
use Rattle.sm_driver.specs.Alike.{AreAlike, GoAlike, ReplyAlike}
use Rattle.sm_driver.specs.declared.copies.CopiesEffect.{CopiesEffect}
use Rattle.sm_driver.specs.declared.copies.CopiesEffect.TheVariants.{AboveWant, Noted, Old}
use Rattle.sm_driver.specs.declared.copies.ToldCopies.{ToldCopies}
use Rattle.sm_driver.specs.Copies.{HasNotedCopies, copies_effect, is_order_for, kept_copies, shard_want}
use Rattle.sm_driver.specs.Driver.{DriverModel, HasApproved, HasBegunPlan, HasEndedRestart, HasRestored, HasTakenStep, IsOfJournal, base, record_of}
use Rattle.sm_driver.specs.Epochs.{HasOpenedEpoch, fault_by, last_epoch, shard_spent}
use Rattle.laws_network.specs.Net.{order_of}
use Rattle.sm_driver.specs.Orders.{awaiting_of, awaits, epoch_base, message_of}
use Rattle.sm_driver.specs.Permits.{restart_effect, server_permitted}
use Rattle.sm_driver.specs.Restores.{RestoreModel, restore_now, is_last_restore}

-- what is a function of record and epoch
by_record : {A : Type 0} (f : State → ℕ → A) (d e : DriverModel) → AreAlike d e → f (record_of e) e.epoch ≡ f (record_of d) d.epoch
by_record f d e is = ap (λ w. f w e.epoch) is.recorded ∙ ap (f (record_of d)) is.epoch

-- what comes of copies of a shard that are told, by what is compared
abbrev effect_by : ℕ → ToldCopies → ℕ → ℕ → Setup → List ℕ → CopiesEffect
effect_by s told journal fence setup counts =
    if not ((told.journal == journal) && (told.fence == fence)) || nat_le told.copies (slice_index_or counts s 1) then Old
    else if nat_lt (shard_want setup s) told.copies then AboveWant
    else Noted

-- copies that are told come to the same
copied_alike : (d e : DriverModel) → AreAlike d e → (s : ℕ) (told : ToldCopies) → copies_effect e s told ≡ copies_effect d s told
copied_alike d e is s told =
    ap (λ (n : ℕ). effect_by s told n e.fence e.machine.placement.setup e.copies) is.journal
    ∙ ap (λ (n : ℕ). effect_by s told d.journal n e.machine.placement.setup e.copies) is.fence
    ∙ ap (λ (u : Setup). effect_by s told d.journal d.fence u e.copies) is.setup
    ∙ ap (effect_by s told d.journal d.fence d.machine.placement.setup) is.copies

-- what a reopening keeps of these copies, by record and base
abbrev kept_by : List ℕ → State → ℕ → List ℕ
kept_by counts w base =
    map (λ s. if list_any (λ id. is_order_for s (order_of base w id)) (awaiting_of w) || any_below w.sizes.servers (λ v. is_handing (w.place.cells s v)) then 1 else slice_index_or counts s 1)
    (range_with_len 0 w.sizes.shards)

-- a reopening keeps the same
kept_alike : (d e : DriverModel) → AreAlike d e → kept_copies e ≡ kept_copies d
kept_alike d e is =
    by_record (λ w n. kept_by e.copies w (epoch_base n)) d e is
    ∙ ap (λ (counts : List ℕ). kept_by counts (record_of d) (base d)) is.copies

replies : (d e : DriverModel) → AreAlike d e → ReplyAlike d e
replies d e is = record {
  begin = λ plan. ap (λ (w : State). (happens w (Begin plan)).0) is.recorded;
  due = λ id number. by_record (λ w n. awaits w id && (number == epoch_base n + since_of w id + 1)) d e is;
  past = λ id number. by_record (λ w n. is_begun w id && ((progress_of w id).done || nat_lt number (epoch_base n + since_of w id + 1))) d e is;
  approve = λ v. ap (λ (w : State). (happens w (Approve v)).0) is.recorded;
  restarted = λ permit server_base. ap (λ (f : ℕ). restart_effect f server_base (server_permitted e.permits permit)) is.fence
      ∙ ap (λ (ps : List (Option ℕ)). restart_effect d.fence server_base (server_permitted ps permit)) is.permits;
  told = λ v nonce. ap (λ (rs : List (Option RestoreModel)). is_last_restore rs v nonce) is.restores;
  copied = copied_alike d e is;
  kept = kept_alike d e is;
  naming = λ v. ap (λ (w : State). engaged w v) is.recorded;
  epoch = by_record (λ w n. fault_by (slice_get (unfinished_plans w) 0) (n == last_epoch) (shard_spent w)) d e is;
  message = λ id. by_record (λ w n. message_of (epoch_base n) w id) d e is;
}

-- the streams that make steps by themselves are determined
same_streams : (a b : List StreamId) (w : State) → AreNextFree a w → AreNextFree b w → b ≡ a
same_streams [] [] w x y = refl
same_streams [] (j ∷ js) w x y = absurd (let e = sym x ∙ y.0 in cc)
same_streams (i ∷ is) [] w x y = absurd (let e = sym y ∙ x.0 in cc)
same_streams (i ∷ is) (j ∷ js) w x y =
    let some : ◌≡◌ {A = Option StreamId} (Some j) (Some i) = sym y.0 ∙ x.0 in
    let here : j ≡ i = cc in
    ap (λ k. k ∷ js) here ∙ ap (λ ks. i ∷ ks) (same_streams is js (happens w (Step i)).1 x.1 (subst (λ k. AreNextFree js (happens w (Step k)).1) here y.1))

-- and so is the state that they lead to
same_advance : (w v new next : State) → v ≡ w → IsAdvanced w new → IsAdvanced v next → next ≡ new
same_advance w v new next e x y =
    y.state ∙ ap (λ (u : State). run (map Step y.streams) u) e
    ∙ ap (λ (ids : List StreamId). run (map Step ids) w) (same_streams x.streams y.streams w x.free (subst (AreNextFree y.streams) e y.free)) ∙ sym x.state

-- an event has one outcome
one_outcome : (h : Happening) (w v : State) (o p : Outcome × State) → v ≡ w → happens w h ≡ o → happens v h ≡ p → p ≡ o
one_outcome h w v o p e x y = sym y ∙ ap (λ (u : State). happens u h) e ∙ x

-- drivers of one journal are alike if record and permits are
of_journal : (d e new next : DriverModel) → AreAlike d e → IsOfJournal d new → IsOfJournal e next → record_of next ≡ record_of new → next.permits ≡ new.permits → AreAlike new next
of_journal d e new next is x y recorded permits = record {
  recorded = recorded;
  setup = y.setup ∙ is.setup ∙ sym x.setup;
  journal = y.journal ∙ is.journal ∙ sym x.journal;
  epoch = y.epoch ∙ is.epoch ∙ sym x.epoch;
  fence = y.fence ∙ is.fence ∙ sym x.fence;
  permits = permits;
  carried = y.carried ∙ is.carried ∙ sym x.carried;
  restores = y.restores ∙ is.restores ∙ sym x.restores;
  copies = y.copies ∙ is.copies ∙ sym x.copies;
}

begun : (d e : DriverModel) → AreAlike d e → (plan : PlanModel) (m n : ℕ) (new next : DriverModel) → HasBegunPlan plan m d new → HasBegunPlan plan n e next → (n ≡ m) × AreAlike new next
begun d e is plan m n new next x y =
    let one = one_outcome (Begin plan) (record_of d) (record_of e) _ _ is.recorded x.begun y.begun in
    let told : ◌≡◌ {A = Outcome} (Answered (played.Begun n)) (Answered (played.Begun m)) = ap (λ (o : Outcome × State). o.0) one in
    ((cc), of_journal d e new next is x.journal y.journal (same_advance x.between y.between _ _ (ap (λ (o : Outcome × State). o.1) one) x.advanced y.advanced) (y.permits ∙ is.permits ∙ sym x.permits))

taken : (d e : DriverModel) → AreAlike d e → (id : StreamId) (new next : DriverModel) → HasTakenStep id d new → HasTakenStep id e next → AreAlike new next
taken d e is id new next x y =
    let one = one_outcome (Step id) (record_of d) (record_of e) _ _ is.recorded x.step y.step in
    of_journal d e new next is x.journal y.journal (same_advance x.between y.between _ _ (ap (λ (o : Outcome × State). o.1) one) x.advanced y.advanced) (y.permits ∙ is.permits ∙ sym x.permits)

approved : (d e : DriverModel) → AreAlike d e → (v p q : ℕ) (new next : DriverModel) → HasApproved v p d new → HasApproved v q e next → (q ≡ p) × AreAlike new next
approved d e is v p q new next x y =
    let number : q ≡ p = y.number ∙ by_record (λ w n. epoch_base n + length w.log + 1) d e is ∙ sym x.number in (
      number,
      of_journal d e new next is x.journal y.journal (ap (λ (o : Outcome × State). o.1) (one_outcome (Approve v) (record_of d) (record_of e) _ _ is.recorded x.event y.event))
          (y.permits ∙ ap (λ (ps : List (Option ℕ)). slice_set ps v (Some q)) is.permits ∙ ap (λ (n : ℕ). slice_set d.permits v (Some n)) number ∙ sym x.permits),
    )

ended : (d e : DriverModel) → AreAlike d e → (u v permit : ℕ) (server_base : Option ℕ) (new next : DriverModel) → HasEndedRestart u permit server_base d new → HasEndedRestart v permit server_base e next →
    (v ≡ u) × AreAlike new next
ended d e is u v permit server_base new next x y =
    let some : ◌≡◌ {A = Option ℕ} (Some v) (Some u) = sym y.permitted ∙ ap (λ (ps : List (Option ℕ)). server_permitted ps permit) is.permits ∙ x.permitted in
    let server : v ≡ u = cc in
    let other : HasEndedRestart u permit server_base e next = subst (λ s. HasEndedRestart s permit server_base e next) server y in
    let unmarked : AreAlike (record d { carried = slice_set d.carried u false }) (record e { carried = slice_set e.carried u false }) =
    record {
      recorded = is.recorded;
      setup = is.setup;
      journal = is.journal;
      epoch = is.epoch;
      fence = is.fence;
      permits = is.permits;
      carried = ap (λ (marks : List Bool). slice_set marks u false) is.carried;
      restores = is.restores;
      copies = is.copies;
    } in (
      server,
      of_journal _ _ new next unmarked x.journal other.journal
          (ap (λ (o : Outcome × State). o.1) (one_outcome (Done u) (record_of d) (record_of e) _ _ is.recorded x.event other.event))
          (other.permits ∙ ap (λ (ps : List (Option ℕ)). slice_set ps u None) is.permits ∙ sym x.permits),
    )

restored : (d e : DriverModel) → AreAlike d e → (v nonce : ℕ) (new next : DriverModel) → HasRestored v nonce d new → HasRestored v nonce e next → AreAlike new next
restored d e is v nonce new next x y = record {
  recorded = ap record_of y.told ∙ is.recorded ∙ sym (ap record_of x.told);
  setup = ap (λ (z : DriverModel). z.machine.placement.setup) y.told ∙ is.setup ∙ sym (ap (λ (z : DriverModel). z.machine.placement.setup) x.told);
  journal = ap (λ (z : DriverModel). z.journal) y.told ∙ is.journal ∙ sym (ap (λ (z : DriverModel). z.journal) x.told);
  epoch = ap (λ (z : DriverModel). z.epoch) y.told ∙ is.epoch ∙ sym (ap (λ (z : DriverModel). z.epoch) x.told);
  fence = ap (λ (z : DriverModel). z.fence) y.told ∙ is.fence ∙ sym (ap (λ (z : DriverModel). z.fence) x.told);
  permits = ap (λ (z : DriverModel). z.permits) y.told ∙ is.permits ∙ sym (ap (λ (z : DriverModel). z.permits) x.told);
  carried = ap (λ (z : DriverModel). z.carried) y.told ∙ is.carried ∙ sym (ap (λ (z : DriverModel). z.carried) x.told);
  restores = ap (λ (z : DriverModel). z.restores) y.told ∙ with_it ∙ sym (ap (λ (z : DriverModel). z.restores) x.told);
  copies = ap (λ (z : DriverModel). z.copies) y.told ∙ is.copies ∙ sym (ap (λ (z : DriverModel). z.copies) x.told);
}
  where
    with_it : slice_set e.restores v (Some (restore_now (base e) (record_of e) v nonce)) ≡ slice_set d.restores v (Some (restore_now (base d) (record_of d) v nonce))
    with_it = ap (λ (rs : List (Option RestoreModel)). slice_set rs v (Some (restore_now (base e) (record_of e) v nonce))) is.restores
        ∙ by_record (λ w n. slice_set d.restores v (Some (restore_now (epoch_base n) w v nonce))) d e is

noted : (d e : DriverModel) → AreAlike d e → (s copies : ℕ) (new next : DriverModel) → HasNotedCopies s copies d new → HasNotedCopies s copies e next → AreAlike new next
noted d e is s copies new next x y = record {
  recorded = ap record_of y ∙ is.recorded ∙ sym (ap record_of x);
  setup = ap (λ (z : DriverModel). z.machine.placement.setup) y ∙ is.setup ∙ sym (ap (λ (z : DriverModel). z.machine.placement.setup) x);
  journal = ap (λ (z : DriverModel). z.journal) y ∙ is.journal ∙ sym (ap (λ (z : DriverModel). z.journal) x);
  epoch = ap (λ (z : DriverModel). z.epoch) y ∙ is.epoch ∙ sym (ap (λ (z : DriverModel). z.epoch) x);
  fence = ap (λ (z : DriverModel). z.fence) y ∙ is.fence ∙ sym (ap (λ (z : DriverModel). z.fence) x);
  permits = ap (λ (z : DriverModel). z.permits) y ∙ is.permits ∙ sym (ap (λ (z : DriverModel). z.permits) x);
  carried = ap (λ (z : DriverModel). z.carried) y ∙ is.carried ∙ sym (ap (λ (z : DriverModel). z.carried) x);
  restores = ap (λ (z : DriverModel). z.restores) y ∙ is.restores ∙ sym (ap (λ (z : DriverModel). z.restores) x);
  copies = ap (λ (z : DriverModel). z.copies) y ∙ ap (λ (counts : List ℕ). slice_set counts s copies) is.copies
      ∙ sym (ap (λ (z : DriverModel). z.copies) x);
}

opens : (d e : DriverModel) → AreAlike d e → (new next : DriverModel) → HasOpenedEpoch d new → HasOpenedEpoch e next → AreAlike new next
opens d e is new next x y = record {
  recorded = y.state ∙ ap (λ (w : State). opened w.sizes w.place w.room) is.recorded ∙ sym x.state;
  setup = y.setup ∙ is.setup ∙ sym x.setup;
  journal = y.journal ∙ is.journal ∙ sym x.journal;
  epoch = y.epoch ∙ ap (λ (n : ℕ). n + 1) is.epoch ∙ sym x.epoch;
  fence = y.fence ∙ is.fence ∙ sym x.fence;
  permits = y.permits ∙ is.permits ∙ sym x.permits;
  carried = y.carried ∙ is.carried ∙ sym x.carried;
  restores = y.restores ∙ is.restores ∙ sym x.restores;
  copies = y.copies ∙ is.copies ∙ sym x.copies;
}

-- Drivers that are alike go on alike.
pub go_alike : (d e : DriverModel) → AreAlike d e → GoAlike d e
go_alike d e is = record {
  replies = replies d e is;
  begun = begun d e is;
  taken = taken d e is;
  approved = approved d e is;
  ended = ended d e is;
  restored = restored d e is;
  noted = noted d e is;
  opened = opens d e is;
}
