-- The facts that hold of every driver stay with each command.
use Rattle.std.proofs.Common.{◌*◌, ◌+◌, ◌≤◌, ◌≡◌, ◌∙◌, ◌<◌, ℕ, Bool, true, false, Option, Some, None, List, length, get_or, set, replicate, refl, sym, ap, subst, inl, inr, arith}
use Rattle.std.specs.Prelude.{◌&&◌, is_some, if◌then◌else◌}
use Rattle.std.specs.Option.{option_or}
use Rattle.std.proofs.lemmas.Bool.{and_parts, cases_eq}
use Rattle.std.proofs.lemmas.List.{length-set, length-replicate, get_or-set_same, get_or-set_other}
use Rattle.std.proofs.lemmas.List.FromFn.{length-map-range_with_len, get_or-map-range_with_len}
use Rattle.sm_placement.specs.Setup.{Setup, Sizes, sizes_of}
use Rattle.sm_placement.specs.Place.{Place, set_down}
use Rattle.sm_placement.specs.Sums.{put}
use Rattle.sm_placement.proofs.Sums.{put-here, put-apart}
use Rattle.sm_placement.specs.declared.limits.TheConstants.{MOST_SERVERS}
use Rattle.sm_plan_code.specs.declared.limits.TheConstants.{MOST_PLACES}
use Rattle.sm_protocol.specs.declared.event.Event.TheVariants as event
use Rattle.sm_protocol.specs.declared.event.Played.{Played}
use Rattle.sm_protocol.specs.declared.event.Played.TheVariants as played
use Rattle.sm_protocol.specs.State.{State, logged, opened}
use Rattle.sm_protocol.specs.Steps.{Answered}
use Rattle.sm_protocol.specs.Happens.{Approve, Done, happens}
use Rattle.sm_protocol.specs.Laws.{IsReached}
use Rattle.sm_protocol.proofs.Reached.{of_opening}
use Rattle.sm_protocol.proofs.SmallNumbers.{numbers_stay_small}
use Rattle.sm_protocol.proofs.Starts.{length_push}
use Rattle.sm_machine.specs.Machine.{MachineModel}
use Rattle.sm_machine.specs.State.{state_of}
use Rattle.sm_driver.specs.Advance.{next_free}
use Rattle.sm_driver.specs.Driver.{DriverModel, HasLostNone, IsDriving, base, record_of}
use Rattle.sm_driver.specs.Carried.{AreCarriedDown, carried_down, was_carried}
use Rattle.sm_driver.specs.Orders.{epoch_base}
use Rattle.sm_driver.specs.Permits.{AreEarlierPermits, AreGivenPermits, ArePermitsOfDown, new_permit, opening_permit, opening_permits, permit_of}
use Rattle.sm_driver.specs.Restores.{RestoreModel}
use Rattle.sm_driver.proofs.Given.{all_earlier, earlier_given, given_less, given_more, given_on, opening_given}
use Rattle.sm_driver.proofs.Recorded.{IsLonger, one_more, opening_unlost}
use Rattle.sm_driver.proofs.Beside.{IsBeside, approval_is, carried_stay, permits_stay, restart_is, same_free}

-- the permits at an opening are those of the servers that are down
opening_matches : (c : Sizes) (p : Place) (room base : ℕ) (before : List (Option ℕ)) → ArePermitsOfDown (opened c p room) (opening_permits base before c.servers p.down)
opening_matches c p room base before = record {
  servers = length-map-range_with_len (opening_permit base before p.down) 0 c.servers;
  down = λ v l. ap is_some (get_or-map-range_with_len (opening_permit base before p.down) 0 c.servers v v None l (omega arith)) ∙ by_down v (p.down v) (permit_of before v);
}
  where
    by_down : (v : ℕ) (b : Bool) (o : Option ℕ) → is_some (if b then option_or o (Some (new_permit base v)) else None) ≡ b
    by_down v true None = refl
    by_down v true (Some permit) = refl
    by_down v false o = refl

-- the carried servers at an opening are down
opening_carried : (c : Sizes) (p : Place) (room : ℕ) (marks : List Bool) → AreCarriedDown (opened c p room) (carried_down marks c.servers p.down)
opening_carried c p room marks = record {
  servers = length-map-range_with_len (λ v. was_carried marks v && p.down v) 0 c.servers;
  down = λ v l marked.
      (and_parts (was_carried marks v) (p.down v) (sym (get_or-map-range_with_len (λ u. was_carried marks u && p.down u) 0 c.servers v v false l (omega arith)) ∙ marked)).1;
}

-- what holds of a driver that opens
pub opening_driving : (setup : Setup) (p : Place) (room : ℕ) (before : List (Option ℕ)) (marks : List Bool) (d : DriverModel) → length setup.servers ≤ MOST_SERVERS → AreEarlierPermits (base d) before →
    record_of d ≡ opened (sizes_of setup) p room → d.permits ≡ opening_permits (base d) before (length setup.servers) p.down → d.carried ≡ carried_down marks (length setup.servers) p.down →
    d.restores ≡ replicate (length setup.servers) None → d.copies ≡ replicate (length setup.shards) 1 → IsDriving room d
opening_driving setup p room before marks d few earlier state permits carried restores copies = record {
  free = ap next_free state;
  unlost = subst HasLostNone (sym state) (opening_unlost (sizes_of setup) p room);
  permits = subst (λ ps. ArePermitsOfDown (record_of d) ps) (sym permits)
      (subst (λ w. ArePermitsOfDown w (opening_permits (base d) before (length setup.servers) p.down)) (sym state) (opening_matches (sizes_of setup) p room (base d) before));
  given = subst (λ ps. AreGivenPermits (base d) (length (record_of d).log) ps) (sym permits)
      (given_on (base d) 0 _ _ (omega arith) (opening_given (base d) (length setup.servers) before p.down (omega arith) earlier));
  carried = subst (λ ms. AreCarriedDown (record_of d) ms) (sym carried)
      (subst (λ w. AreCarriedDown w (carried_down marks (length setup.servers) p.down)) (sym state) (opening_carried (sizes_of setup) p room marks));
  restores = ap length restores ∙ length-replicate (length setup.servers) None ∙ ap (λ (w : State). w.sizes.servers) (sym state);
  copies = ap length copies ∙ length-replicate (length setup.shards) 1 ∙ ap (λ (w : State). w.sizes.shards) (sym state);
  room = ap (λ (w : State). w.room) state;
}

-- steps and starts keep it
pub driving_on : (room : ℕ) (d : DriverModel) (new : MachineModel) → IsBeside (record_of d) (state_of new) → IsLonger (record_of d) (state_of new) → next_free (state_of new) ≡ None → IsDriving room d →
    IsDriving room (record d { machine = new })
driving_on room d new same longer free x = record {
  free = free;
  unlost = longer.unlost x.unlost;
  permits = permits_stay (record_of d) (state_of new) d.permits same x.permits;
  given = given_on (base d) _ _ d.permits longer.log x.given;
  carried = carried_stay (record_of d) (state_of new) d.carried same x.carried;
  restores = x.restores ∙ ap (λ (c : Sizes). c.servers) (sym same.sizes);
  copies = x.copies ∙ ap (λ (c : Sizes). c.shards) (sym same.sizes);
  room = same.room ∙ x.room;
}

-- a permit is given or taken as its server goes down or comes up
permits_set : (w : State) (permits : List (Option ℕ)) (v : ℕ) (given : Option ℕ) (down : Bool) (new : State) → v < w.sizes.servers → is_some given ≡ down → new.place.down ≡ put w.place.down v down →
    new.sizes ≡ w.sizes → ArePermitsOfDown w permits → ArePermitsOfDown new (set permits v given)
permits_set w permits v given down new l is placed sizes x = record {
  servers = length-set permits v given ∙ x.servers ∙ ap (λ (c : Sizes). c.servers) (sym sizes);
  down = λ u m. elim (cases_eq u v) [
    | inl here ↦
        ap (λ k. is_some (get_or (set permits v given) k None)) here
        ∙ ap is_some (get_or-set_same permits v given None (subst (λ n. v < n) (sym x.servers) l))
        ∙ is ∙ sym (ap (λ f. f u) placed ∙ put-here w.place.down v down u here)
    | inr apart ↦
        ap is_some (get_or-set_other permits v u given None apart)
        ∙ x.down u (subst (λ (c : Sizes). u < c.servers) sizes m)
        ∙ sym (ap (λ f. f u) placed ∙ put-apart w.place.down v down u apart)
  ];
}

-- carried servers are down as a server goes down
carried_stay_down : (w new : State) (carried : List Bool) (v : ℕ) → new.place.down ≡ put w.place.down v true → new.sizes ≡ w.sizes → AreCarriedDown w carried → AreCarriedDown new carried
carried_stay_down w new carried v placed sizes x = record {
  servers = x.servers ∙ ap (λ (c : Sizes). c.servers) (sym sizes);
  down = λ u m marked. ap (λ f. f u) placed ∙ (elim (cases_eq u v) [
    | inl here ↦ put-here w.place.down v true u here
    | inr apart ↦ put-apart w.place.down v true u apart ∙ x.down u (subst (λ (c : Sizes). u < c.servers) sizes m) marked
  ]);
}

-- and as one comes up that is no longer carried over
carried_cleared : (w new : State) (carried : List Bool) (v : ℕ) → v < w.sizes.servers → new.place.down ≡ put w.place.down v false → new.sizes ≡ w.sizes → AreCarriedDown w carried →
    AreCarriedDown new (set carried v false)
carried_cleared w new carried v l placed sizes x = record {
  servers = length-set carried v false ∙ x.servers ∙ ap (λ (c : Sizes). c.servers) (sym sizes);
  down = λ u m marked. elim (cases_eq u v) [
    | inl here ↦
        let cleared = get_or-set_same carried v false false (subst (λ n. v < n) (sym x.servers) l) in
        let kept = subst (λ k. was_carried (set carried v false) k ≡ true) here marked in
        absurd (cc)
    | inr apart ↦
        ap (λ f. f u) placed ∙ put-apart w.place.down v false u apart
        ∙ x.down u (subst (λ (c : Sizes). u < c.servers) sizes m) (sym (get_or-set_other carried v u false false apart) ∙ marked)
  ];
}

-- an approval keeps it
pub approved_driving : (room : ℕ) (d : DriverModel) (v : ℕ) (new : MachineModel) → happens (record_of d) (Approve v) ≡ (Answered played.Approved, state_of new) → v < (record_of d).sizes.servers →
    length (record_of d).log < MOST_PLACES → IsDriving room d → IsDriving room (record d { machine = new; permits = set d.permits v (Some (base d + length (record_of d).log + 1)) })
approved_driving room d v new e l places x =
    let w : State = record_of d in
    let is = approval_is w (state_of new) v e in
    let log : (state_of new).log ≡ logged w (event.Approve v) played.Approved = ap (λ (s : State). s.log) is in
    let more : length (state_of new).log ≡ length w.log + 1 = (let a = ap length log in let b = length_push w.log (record { event = event.Approve v; answer = played.Approved }) in omega arith) in
    record {
      free = ap next_free is ∙ same_free w (set_down w.place v true) (logged w (event.Approve v) played.Approved) ∙ x.free;
      unlost = (one_more w (state_of new) (event.Approve v) played.Approved log (λ id after same. absurd (cc))).unlost x.unlost;
      permits = permits_set w d.permits v (Some (base d + length w.log + 1)) true (state_of new) l refl (ap (λ (s : State). s.place.down) is) (ap (λ (s : State). s.sizes) is) x.permits;
      given = subst (λ n. AreGivenPermits (base d) n (set d.permits v (Some (base d + length w.log + 1)))) (sym more)
          (given_more (base d) (length w.log) d.permits v (subst (λ n. v < n) (sym x.permits.servers) l) (omega arith) x.given);
      carried = carried_stay_down w (state_of new) d.carried v (ap (λ (s : State). s.place.down) is) (ap (λ (s : State). s.sizes) is) x.carried;
      restores = x.restores ∙ ap (λ (s : State). s.sizes.servers) (sym is);
      copies = x.copies ∙ ap (λ (s : State). s.sizes.shards) (sym is);
      room = ap (λ (s : State). s.room) is ∙ x.room;
    }

-- the end of a restart keeps it
pub restarted_driving : (room : ℕ) (d : DriverModel) (v : ℕ) (answer : Played) (new : MachineModel) → happens (record_of d) (Done v) ≡ (Answered answer, state_of new) → v < (record_of d).sizes.servers →
    (record_of d).place.down v ≡ true → IsDriving room d → IsDriving room (record d { machine = new; permits = set d.permits v None; carried = set d.carried v false })
restarted_driving room d v answer new e l down x =
    let w : State = record_of d in
    let is = (restart_is w (state_of new) v answer e down).1 in
    let longer = one_more w (state_of new) (event.Done v) played.Up (ap (λ (s : State). s.log) is) (λ id after same. absurd (cc)) in
    record {
      free = ap next_free is ∙ same_free w (set_down w.place v false) (logged w (event.Done v) played.Up) ∙ x.free;
      unlost = longer.unlost x.unlost;
      permits = permits_set w d.permits v None false (state_of new) l refl (ap (λ (s : State). s.place.down) is) (ap (λ (s : State). s.sizes) is) x.permits;
      given = given_on (base d) _ _ _ longer.log (given_less (base d) (length w.log) d.permits v (subst (λ n. v < n) (sym x.permits.servers) l) x.given);
      carried = carried_cleared w (state_of new) d.carried v l (ap (λ (s : State). s.place.down) is) (ap (λ (s : State). s.sizes) is) x.carried;
      restores = x.restores ∙ ap (λ (s : State). s.sizes.servers) (sym is);
      copies = x.copies ∙ ap (λ (s : State). s.sizes.shards) (sym is);
      room = ap (λ (s : State). s.room) is ∙ x.room;
    }

-- a restore keeps it
pub told_driving : (room : ℕ) (d : DriverModel) (v : ℕ) (told : Option RestoreModel) → IsDriving room d → IsDriving room (record d { restores = set d.restores v told })
told_driving room d v told x = record {
  free = x.free;
  unlost = x.unlost;
  permits = x.permits;
  given = x.given;
  carried = x.carried;
  restores = length-set d.restores v told ∙ x.restores;
  copies = x.copies;
  room = x.room;
}

-- and copies that are noted
pub noted_driving : (room : ℕ) (d : DriverModel) (s copies : ℕ) → IsDriving room d → IsDriving room (record d { copies = set d.copies s copies })
noted_driving room d s copies x = record {
  free = x.free;
  unlost = x.unlost;
  permits = x.permits;
  given = x.given;
  carried = x.carried;
  restores = x.restores;
  copies = length-set d.copies s copies ∙ x.copies;
  room = x.room;
}

-- so does the next epoch
pub epoch_driving : (room : ℕ) (d : DriverModel) (new : MachineModel) (epoch : ℕ) (c : Sizes) (p : Place) → epoch ≡ d.epoch + 1 → length (record_of d).log ≤ MOST_PLACES → state_of new ≡ opened c p room →
    c ≡ (record_of d).sizes → p.down ≡ (record_of d).place.down → IsDriving room d → IsDriving room (record d { machine = new; epoch = epoch })
epoch_driving room d new epoch c p next places state sizes down x =
    let same : IsBeside (record_of d) (state_of new) = record {
      sizes = ap (λ (s : State). s.sizes) state ∙ sizes;
      down = ap (λ (s : State). s.place.down) state ∙ down;
      room = ap (λ (s : State). s.room) state ∙ sym x.room;
    } in
    let above : base d + 2 * MOST_PLACES ≡ epoch_base epoch = omega arith in
    record {
      free = ap next_free state;
      unlost = subst HasLostNone (sym state) (opening_unlost c p room);
      permits = permits_stay (record_of d) (state_of new) d.permits same x.permits;
      given = given_on (epoch_base epoch) 0 _ d.permits (omega arith)
          (earlier_given (epoch_base epoch) d.permits (subst (λ b. AreEarlierPermits b d.permits) above (all_earlier (base d) (length (record_of d).log) d.permits places x.given)));
      carried = carried_stay (record_of d) (state_of new) d.carried same x.carried;
      restores = x.restores ∙ ap (λ (y : Sizes). y.servers) (sym same.sizes);
      copies = x.copies ∙ ap (λ (y : Sizes). y.shards) (sym same.sizes);
      room = ap (λ (s : State). s.room) state;
    }

-- the log has no more places than a log may have
pub within_places : (setup : Setup) (w : State) → IsReached setup w → (length w.log ≤ w.room) × (w.room ≤ MOST_PLACES)
within_places setup w reached = ((numbers_stay_small setup w reached).log, (of_opening setup w reached).is_opening.most)
