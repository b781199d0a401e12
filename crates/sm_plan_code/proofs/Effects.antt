-- The law of effects: each line of the table of rights.
use Rattle.std.proofs.Common.{◌≡◌, ◌≢◌, ℕ, ◌+◌, ◌<◌, ◌≤◌, Bool, true, false, refl, ap, ◌∙◌, arith, inl, inr, subst, Option, Some, None, Ok}
use Rattle.std.specs.Prelude.{is_some}
use Rattle.std.proofs.lemmas.Bool.{cases_eq, cases_lt, eqb-true}
use Rattle.sm_server.specs.declared.call.Cell.{Cell}
use Rattle.sm_server.specs.declared.call.Cell.TheVariants.{Absent, Primary, Forwarding}
use Rattle.sm_server.specs.declared.call.Role.TheVariants as role
use Rattle.sm_server.specs.declared.call.Call.{Call}
use Rattle.sm_server.specs.declared.call.Call.TheVariants as call
use Rattle.sm_placement.specs.declared.lead.Lead.{Lead}
use Rattle.sm_placement.specs.declared.lead.Lead.TheVariants.{Gone, At, Ready, Handing, Handed}
use Rattle.sm_placement.specs.Sums.{put}
use Rattle.sm_placement.specs.Setup.{Sizes}
use Rattle.sm_placement.specs.Rows.{IsKnownCall}
use Rattle.sm_placement.specs.Place.{Place, set_cell, answer_at, called, publish}
use Rattle.sm_placement.specs.Lead.{Describes, lead_of}
use Rattle.sm_placement.proofs.Sums.{put-here, put-apart}
use Rattle.sm_placement.proofs.Calls.{served_from, called_keeps}
use Rattle.sm_placement.proofs.LeadOf.{lead_of_is}
use Rattle.sm_placement.proofs.Layouts.{published_placement}
use Rattle.sm_reservation.specs.declared.right.PlainCell.{PlainCell}
use Rattle.sm_reservation.specs.declared.right.PlainCell.TheVariants as plain
use Rattle.sm_reservation.specs.Rights.{Rights}
use Rattle.sm_reservation.specs.Hold.{Hold, with_crown}
use Rattle.sm_reservation.specs.Amounts.{Right, OfCell, OfCrown, OfRoom, OfSpare, is_cell, count, stock, bound}
use Rattle.sm_reservation.specs.Truth.{IsTrueOf}
use Rattle.sm_reservation.proofs.Changes.{Changed, put_changed, unchanged}
use Rattle.sm_reservation.proofs.Truths.{is_cell_true, true_crown}
use Rattle.sm_reservation.proofs.Exchange.{exchange}
use Rattle.sm_plan_code.specs.declared.instruction.Instr.{Instr}
use Rattle.sm_plan_code.specs.declared.instruction.Instr.TheVariants.{PrepareAdd, PrepareDrop, Add, Drop, Change, Publish, Unlist, Signal, Wait}
use Rattle.sm_plan_code.specs.Instr.{shard_of, names_of, IsOwn}
use Rattle.sm_plan_code.specs.After.{after, decided, to_list, listed_of, lead_held, prepare_add_line, prepare_drop_line, add_secondary_line, to_primary_line, to_secondary_line, add_primary_line, drop_held_line, drop_led_line, publish_line, unlist_line}
use Rattle.sm_plan_code.specs.Acts.{acts, moved, publishes}
use Rattle.sm_plan_code.specs.Effects.{IsReachable, IsScene, IsListable, MayHavePassed, Effect}
use Rattle.sm_plan_code.proofs.Lines.{passes, crown_tested, crown_led}
use Rattle.sm_plan_code.proofs.Stays.{acts_stay}
use Rattle.sm_plan_code.proofs.Reaches.{within_reach}
use Rattle.sm_plan_code.proofs.Rows.{Reaches, Goes, add_secondary, prepare_add, prepare_drop, add_handing, drop_handed, drop_ready, drop_at, add_gone, to_primary, to_secondary, drop_secondary}

-- the effect of an instruction, but for what it leaves as it is and for the cell that it reaches
record Outcome (c : Sizes) (p : Place) (leads : ℕ → Lead) (numbers : ℕ → ℕ) (h h' : Hold) (i : Instr) : Type 0 where
  next_place : Place
  next_leads : ℕ → Lead
  next_numbers : ℕ → ℕ
  made : acts c p numbers i ≡ Some (next_place, next_numbers)
  scene : IsScene c next_place next_leads next_numbers h'
  down : next_place.down ≡ p.down
  exchanged : (r : Right) → stock c next_place next_leads r + bound c p r + count h r ≡ stock c p leads r + bound c next_place r + count h' r
  listed : (s : ℕ) → IsListable (leads s) (p.listed s) → IsListable (next_leads s) (next_place.listed s)
  passed : (s m : ℕ) → MayHavePassed (leads s) (numbers s) m → MayHavePassed (next_leads s) (next_numbers s) m

-- a call that goes is answered by its cell
answered : (c : Sizes) (p : Place) (leads : ℕ → Lead) (numbers : ℕ → ℕ) (h h' : Hold) (s v : ℕ) (call : Call) (n' : ℕ) (g : Goes c p leads numbers h h' s v call n') → answer_at c p s v call ≡ Ok g.to
answered c p leads numbers h h' s v call n' g = rw g.moves.stands.up (served_from (p.cells s v) _ (c.load s) call g.to g.led g.room)

-- a true hold that moves as the placement does stays true
still_true : (c : Sizes) (p p' : Place) (leads leads' : ℕ → Lead) (h h' : Hold) → IsTrueOf c p leads h →
    ((r : Right) → stock c p' leads' r + bound c p r + count h r ≡ stock c p leads r + bound c p' r + count h' r) → IsTrueOf c p' leads' h'
still_true c p p' leads leads' h h' was moves = record { rights = λ r. fits (stock c p' leads' r) (bound c p r) (count h r) (stock c p leads r) (bound c p' r) (count h' r) (moves r) (was.rights r) }
  where
    fits : (stock' bound held stock bound' held' : ℕ) → stock' + bound + held ≡ stock + bound' + held' → held + bound ≤ stock → held' + bound' ≤ stock'
    fits stock' bound held stock bound' held' e l = omega arith

-- the effect of an instruction that makes a call which goes
by_call : (c : Sizes) (p : Place) (leads : ℕ → Lead) (numbers : ℕ → ℕ) (h h' : Hold) (s v : ℕ) (call : Call) (n' : ℕ) (next_numbers : ℕ → ℕ) (i : Instr) →
    IsScene c p leads numbers h → Goes c p leads numbers h h' s v call n' → IsKnownCall c.servers call → Changed numbers next_numbers s n' →
    acts c p numbers i ≡ moved (called c p s v call) next_numbers → Outcome c p leads numbers h h' i
by_call c p leads numbers h h' s v call n' next_numbers i sc g known ch is =
    let answer = answered c p leads numbers h h' s v call n' g in
    let exchanged = exchange c p leads h h' s v g.to g.lead (numbers s) n' g.moves in
    record {
      next_place = set_cell p s v g.to;
      next_leads = put leads s g.lead;
      next_numbers = next_numbers;
      made = is ∙ rw answer refl;
      scene = record {
        placement = called_keeps c p s v call g.to sc.placement g.moves.stands.in_shards g.moves.stands.in_servers known answer;
        described = λ r. elim (cases_eq r s) [
          | inl e ↦ rw e (rw (put-here leads s g.lead s refl, ch.here) g.moves.is)
          | inr e ↦ rw (put-apart leads s g.lead r e, ch.apart r e, put-apart p.cells s (put (p.cells s) v g.to) r e) (sc.described r)
        ];
        truth = still_true c p (set_cell p s v g.to) leads (put leads s g.lead) h h' sc.truth exchanged;
      };
      down = refl;
      exchanged = exchanged;
      listed = λ r. elim (cases_eq r s) [
        | inl e ↦ rw e (rw (put-here leads s g.lead s refl) g.listable)
        | inr e ↦ rw (put-apart leads s g.lead r e) (λ before. before)
      ];
      passed = λ r m. elim (cases_eq r s) [
        | inl e ↦ rw e (rw (put-here leads s g.lead s refl, ch.here) (g.passed m))
        | inr e ↦ rw (put-apart leads s g.lead r e, ch.apart r e) (λ before. before)
      ];
    }

listable_to_list : (lead : Lead) → IsListable lead (to_list lead)
listable_to_list Gone = tt
listable_to_list (At u) = refl
listable_to_list (Ready u v) = refl
listable_to_list (Handing u v) = refl
listable_to_list (Handed u v) = inr refl

-- whom a publication lists has something of the shard
to_list_there : (lead : Lead) (n : ℕ) (row : ℕ → Cell) → Describes lead n row → (u : ℕ) → to_list lead ≡ Some u → row u ≢ Absent
to_list_there Gone n row d u e f = cc
to_list_there (At x) n row d u e f = let same : x ≡ u = cc in let k : row x ≡ Primary = d.0 in let g : row x ≡ Absent = rw same f in cc
to_list_there (Ready x y) n row d u e f = let same : x ≡ u = cc in let k : row x ≡ Primary = d.1 in let g : row x ≡ Absent = rw same f in cc
to_list_there (Handing x y) n row d u e f = let same : x ≡ u = cc in let k : row x ≡ Forwarding y n = d.1 in let g : row x ≡ Absent = rw same f in cc
to_list_there (Handed x y) n row d u e f = let same : y ≡ u = cc in let k : row y ≡ Primary = d.2 in let g : row y ≡ Absent = rw same f in cc

module _ (c : Sizes) (p : Place) (leads : ℕ → Lead) (numbers : ℕ → ℕ) (signals : ℕ → Rights) (h : Hold) (sc : IsScene c p leads numbers h) where
  -- a call that leaves the handover numbers
  steady : (s v : ℕ) (call : Call) (i : Instr) → IsKnownCall c.servers call → acts c p numbers i ≡ moved (called c p s v call) numbers → (h' : Hold) → Goes c p leads numbers h h' s v call (numbers s) → Outcome c p leads numbers h h' i
  steady s v call i known e h' g = by_call c p leads numbers h h' s v call (numbers s) numbers i sc g known (unchanged numbers s) e

  ends : (i : Instr) (x h' : Hold) → x ≡ h' → Outcome c p leads numbers h x i → Outcome c p leads numbers h h' i
  ends i x h' e f = subst (λ y. Outcome c p leads numbers h y i) e f

  -- the right to a cell, by the tests of it
  tested : (s v : ℕ) (state : PlainCell) → is_cell state (h.cells s v) ≡ true → h.cells s v ≡ Some state
  tested s v state e = is_cell_true state (h.cells s v) e

  by_add_primary : (s v : ℕ) (h' : Hold) → Reaches c p s v → (o : Option Lead) → lead_held (h.crowns s) ≡ o → decided (add_primary_line c s v h o) ≡ Ok h' → Outcome c p leads numbers h h' (Add s v role.Primary)
  by_add_primary s v h' at None q e = cc
  by_add_primary s v h' at (Some (Handing u w)) q e =
      let ok = passes (add_primary_line c s v h (Some (Handing u w))) h' e in
      let here = ok.0 in
      let same : w ≡ v = eqb-true w v here.0 in
      let crown : h.crowns s ≡ Some (Handing u v, listed_of (h.crowns s)) = rw same at (crown_led (Handing u w) (h.crowns s) q) in
      ends (Add s v role.Primary) _ h' ok.1 (steady s v (call.Add role.Primary) (Add s v role.Primary) tt refl _ (add_handing c p leads numbers h sc s u v at (listed_of (h.crowns s)) crown))
  by_add_primary s v h' at (Some Gone) q e =
      let ok = passes (add_primary_line c s v h (Some Gone)) h' e in
      let right = ok.0 in
      let state = right.1 in
      let room = state.1 in
      ends (Add s v role.Primary) _ h' ok.1 (steady s v (call.Add role.Primary) (Add s v role.Primary) tt refl _
      (add_gone c p leads numbers h sc s v at (listed_of (h.crowns s)) (crown_led Gone (h.crowns s) q) (tested s v plain.Absent state.0) room.0))
  by_add_primary s v h' at (Some (At u)) q e = cc
  by_add_primary s v h' at (Some (Ready u w)) q e = cc
  by_add_primary s v h' at (Some (Handed u w)) q e = cc

  by_drop_held : (s v : ℕ) (h' : Hold) → Reaches c p s v → decided (drop_held_line c s v h) ≡ Ok h' → Outcome c p leads numbers h h' (Drop s v)
  by_drop_held s v h' at e =
      let ok = passes (drop_held_line c s v h) h' e in
      let state = ok.0 in
      let spare = state.1 in
      ends (Drop s v) _ h' ok.1 (steady s v call.Drop (Drop s v) tt refl _ (drop_secondary c p leads numbers h sc s v at (tested s v plain.Secondary state.0) spare.0))

  by_drop_led : (s v : ℕ) (h' : Hold) → Reaches c p s v → (o : Option Lead) → lead_held (h.crowns s) ≡ o → decided (drop_led_line c s v h o) ≡ Ok h' → Outcome c p leads numbers h h' (Drop s v)
  by_drop_led s v h' at None q e = cc
  by_drop_led s v h' at (Some (Handed u w)) q e =
      let ok = passes (drop_led_line c s v h (Some (Handed u w))) h' e in
      let here = ok.0 in
      let free = here.1 in
      let same : u ≡ v = eqb-true u v here.0 in
      let crown : h.crowns s ≡ Some (Handed v w, listed_of (h.crowns s)) = rw same at (crown_led (Handed u w) (h.crowns s) q) in
      ends (Drop s v) _ h' ok.1 (steady s v call.Drop (Drop s v) tt refl _ (drop_handed c p leads numbers h sc s v w at (listed_of (h.crowns s)) crown free.0))
  by_drop_led s v h' at (Some (Ready u w)) q e =
      let ok = passes (drop_led_line c s v h (Some (Ready u w))) h' e in
      let here = ok.0 in
      let same : w ≡ v = eqb-true w v here.0 in
      let crown : h.crowns s ≡ Some (Ready u v, listed_of (h.crowns s)) = rw same at (crown_led (Ready u w) (h.crowns s) q) in
      ends (Drop s v) _ h' ok.1 (steady s v call.Drop (Drop s v) tt refl _ (drop_ready c p leads numbers h sc s u v at (listed_of (h.crowns s)) crown))
  by_drop_led s v h' at (Some (At u)) q e =
      let ok = passes (drop_led_line c s v h (Some (At u))) h' e in
      let here = ok.0 in
      let free = here.1 in
      let spare = free.1 in
      let same : u ≡ v = eqb-true u v here.0 in
      let crown : h.crowns s ≡ Some (At v, listed_of (h.crowns s)) = rw same at (crown_led (At u) (h.crowns s) q) in
      ends (Drop s v) _ h' ok.1 (steady s v call.Drop (Drop s v) tt refl _ (drop_at c p leads numbers h sc s v at (listed_of (h.crowns s)) crown spare.0 free.0))
  by_drop_led s v h' at (Some Gone) q e = cc
  by_drop_led s v h' at (Some (Handing u w)) q e = cc

  by_drop : (s v : ℕ) (h' : Hold) → Reaches c p s v → (b : Bool) → is_some (h.cells s v) ≡ b → after c signals (Drop s v) h ≡ Ok h' → Outcome c p leads numbers h h' (Drop s v)
  by_drop s v h' at true q e = by_drop_held s v h' at (rw q at e)
  by_drop s v h' at false q e = by_drop_led s v h' at (lead_held (h.crowns s)) refl (rw q at e)

  -- a publication
  lists : (s : ℕ) → s < c.shards → (lead : Lead) (l to : Option ℕ) (i : Instr) → h.crowns s ≡ Some (lead, l) → IsListable lead to → ((u : ℕ) → to ≡ Some u → u < c.servers) →
      acts c p numbers i ≡ Some (publish p s to, numbers) → Outcome c p leads numbers h (with_crown h s lead to) i
  lists s below lead l to i k fine known e =
      let mine = true_crown c p leads h sc.truth s lead l k in
      record {
        next_place = publish p s to;
        next_leads = leads;
        next_numbers = numbers;
        made = e;
        scene = record {
          placement = published_placement c p s to below sc.placement known;
          described = sc.described;
          truth = still_true c p (publish p s to) leads leads h (with_crown h s lead to) sc.truth (trade mine);
        };
        down = refl;
        exchanged = trade mine;
        listed = λ r before. elim (cases_eq r s) [
          | inl q ↦ rw (put-here p.listed s to r q) (rw q (rw mine.0 fine))
          | inr q ↦ rw (put-apart p.listed s to r q) before
        ];
        passed = λ r m before. before;
      }
    where
      trade : (leads s ≡ lead) × (p.listed s ≡ l) → (r : Right) → stock c (publish p s to) leads r + bound c p r + count h r ≡ stock c p leads r + bound c (publish p s to) r + count (with_crown h s lead to) r
      trade mine (OfCell r v state) = refl
      trade mine (OfRoom v) = refl
      trade mine (OfSpare r) = refl
      trade mine (OfCrown r x y) = elim (cases_eq r s) [
        | inl q ↦ rw (put-here p.listed s to r q, put-here h.crowns s (Some (lead, to)) r q) (rw q (rw (k, mine.0, mine.1) (omega arith)))
        | inr q ↦ rw (put-apart p.listed s to r q, put-apart h.crowns s (Some (lead, to)) r q) refl
      ]

  by_publish : (s : ℕ) → s < c.shards → (h' : Hold) (o : Option Lead) → lead_held (h.crowns s) ≡ o → decided (publish_line s h o) ≡ Ok h' → Outcome c p leads numbers h h' (Publish s)
  by_publish s below h' None q e = cc
  by_publish s below h' (Some lead) q e =
      let crown = crown_led lead (h.crowns s) q in
      let mine = true_crown c p leads h sc.truth s lead (listed_of (h.crowns s)) crown in
      let d : Describes lead (numbers s) (p.cells s) = subst (λ x. Describes x (numbers s) (p.cells s)) mine.0 (sc.described s) in
      let is : lead_of c.servers (p.cells s) ≡ Some lead = lead_of_is lead (numbers s) (p.cells s) c.servers d (sc.placement.no_server s) in
      ends (Publish s) _ h' (passes (publish_line s h (Some lead)) h' e).1
      (lists s below lead (listed_of (h.crowns s)) (to_list lead) (Publish s) crown (listable_to_list lead) (λ u f. known d u f)
      (ap (λ (o : Option Lead). publishes p s o numbers) is))
    where
      known : Describes lead (numbers s) (p.cells s) → (u : ℕ) → to_list lead ≡ Some u → u < c.servers
      known d u f = elim (cases_lt u c.servers) [
        | inl l ↦ l
        | inr l ↦ absurd (to_list_there lead (numbers s) (p.cells s) d u f (sc.placement.no_server s u l))
      ]

  by_unlist : (s : ℕ) → s < c.shards → (h' : Hold) (o : Option Lead) → lead_held (h.crowns s) ≡ o → decided (unlist_line s h o) ≡ Ok h' → Outcome c p leads numbers h h' (Unlist s)
  by_unlist s below h' None q e = cc
  by_unlist s below h' (Some lead) q e =
      ends (Unlist s) _ h' (passes (unlist_line s h (Some lead)) h' e).1
      (lists s below lead (listed_of (h.crowns s)) None (Unlist s) (crown_led lead (h.crowns s) q) tt (λ u f. cc) refl)

  -- the server of a call that the instruction mentions first
  reached : (i : Instr) (s v : ℕ) → IsReachable c p i → shard_of i ≡ Some s → (names_of i).first ≡ Some v → Reaches c p s v
  reached i s v at es ev = record { shard = (let k = at.shard in rw es at k); server = at.known v (inl ev); up = at.up v (inl ev) }

  outcome : (i : Instr) (h' : Hold) → IsReachable c p i → IsOwn i → after c signals i h ≡ Ok h' → Outcome c p leads numbers h h' i
  outcome (PrepareAdd s v u) h' at own e =
      let ok = passes (prepare_add_line c s v u h) h' e in
      let has = ok.0 in
      let lead = has.1 in
      let right = lead.1 in
      let state = right.1 in
      let room = state.1 in
      ends (PrepareAdd s v u) _ h' ok.1
      (by_call c p leads numbers h _ s v (call.PrepareAdd u (numbers s + 1)) (numbers s + 1) (put numbers s (numbers s + 1)) (PrepareAdd s v u) sc
      (prepare_add c p leads numbers h sc s v u (reached (PrepareAdd s v u) s v at refl refl) (listed_of (h.crowns s)) (crown_tested (At u) (h.crowns s) lead.0) (tested s v plain.Absent state.0) room.0 (numbers s + 1) (omega arith))
      (at.known u (inr refl)) (put_changed numbers s (numbers s + 1)) refl)
  outcome (PrepareDrop s u v) h' at own e =
      let ok = passes (prepare_drop_line s u v h) h' e in
      let has = ok.0 in
      let lead = has.1 in
      ends (PrepareDrop s u v) _ h' ok.1
      (steady s u (call.PrepareDrop v (numbers s)) (PrepareDrop s u v) (at.known v (inr refl)) refl _
      (prepare_drop c p leads numbers h sc s u v (reached (PrepareDrop s u v) s u at refl refl) (at.known v (inr refl)) (at.up v (inr refl)) (listed_of (h.crowns s)) (crown_tested (Ready u v) (h.crowns s) lead.0)))
  outcome (Add s v role.Secondary) h' at own e =
      let ok = passes (add_secondary_line c s v h) h' e in
      let right = ok.0 in
      let state = right.1 in
      let room = state.1 in
      ends (Add s v role.Secondary) _ h' ok.1 (steady s v (call.Add role.Secondary) (Add s v role.Secondary) tt refl _
      (add_secondary c p leads numbers h sc s v (reached (Add s v role.Secondary) s v at refl refl) (tested s v plain.Absent state.0) room.0))
  outcome (Add s v role.Primary) h' at own e = by_add_primary s v h' (reached (Add s v role.Primary) s v at refl refl) (lead_held (h.crowns s)) refl e
  outcome (Drop s v) h' at own e = by_drop s v h' (reached (Drop s v) s v at refl refl) (is_some (h.cells s v)) refl e
  outcome (Change s v role.Primary) h' at own e =
      let ok = passes (to_primary_line s v h) h' e in
      let has = ok.0 in
      let lead = has.1 in
      let right = lead.1 in
      let state = right.1 in
      ends (Change s v role.Primary) _ h' ok.1 (steady s v (call.Change role.Secondary role.Primary) (Change s v role.Primary) tt refl _
      (to_primary c p leads numbers h sc s v (reached (Change s v role.Primary) s v at refl refl) (listed_of (h.crowns s)) (crown_tested Gone (h.crowns s) lead.0) (tested s v plain.Secondary state.0)))
  outcome (Change s v role.Secondary) h' at own e =
      let ok = passes (to_secondary_line s v h) h' e in
      let has = ok.0 in
      let lead = has.1 in
      let free = lead.1 in
      ends (Change s v role.Secondary) _ h' ok.1 (steady s v (call.Change role.Primary role.Secondary) (Change s v role.Secondary) tt refl _
      (to_secondary c p leads numbers h sc s v (reached (Change s v role.Secondary) s v at refl refl) (listed_of (h.crowns s)) (crown_tested (At v) (h.crowns s) lead.0) free.0))
  outcome (Publish s) h' at own e = by_publish s at.shard h' (lead_held (h.crowns s)) refl e
  outcome (Unlist s) h' at own e = by_unlist s at.shard h' (lead_held (h.crowns s)) refl e
  outcome (Signal k) h' at own e = absurd own
  outcome (Wait k) h' at own e = absurd own

  -- in a scene, an instruction but signal and wait that can be reached has its effect where `after` gives a hold
  pub effect : (i : Instr) (h' : Hold) → IsReachable c p i → IsOwn i → after c signals i h ≡ Ok h' → Effect c p leads numbers h h' i
  effect i h' at own e =
      let o = outcome i h' at own e in
      let kept = acts_stay c p o.next_place numbers o.next_numbers i o.made in
      record {
        next_place = o.next_place;
        next_leads = o.next_leads;
        next_numbers = o.next_numbers;
        made = o.made;
        scene = o.scene;
        down = o.down;
        stays = kept.1;
        numbered = kept.0;
        reached = within_reach c signals h h' i e;
        exchanged = o.exchanged;
        listed = o.listed;
        passed = o.passed;
      }
