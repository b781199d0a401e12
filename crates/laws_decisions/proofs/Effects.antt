-- One effect that the record does not have leaves all that decisions look at as it is.
use Rattle.std.proofs.Common.{◌≡◌, ◌≢◌, ℕ, true, false, refl, sym, ap, ◌∙◌, inl, inr, subst, Option, Some, None, Ok}
use Rattle.std.specs.Prelude.{◌&&◌, ◌||◌, not}
use Rattle.std.proofs.lemmas.Bool.{cases_eq}
use Rattle.sm_server.specs.declared.call.Call.TheVariants as call
use Rattle.sm_server.specs.Call.{led_to}
use Rattle.sm_server.specs.Cell.{is_secondary}
use Rattle.sm_placement.specs.Setup.{Setup}
use Rattle.sm_placement.specs.Sums.{put}
use Rattle.sm_placement.specs.Lead.{Describes}
use Rattle.sm_placement.specs.Rows.{is_live, serves}
use Rattle.sm_placement.specs.Place.{CallEffect, Place, called, is_live_at, set_last}
use Rattle.sm_placement.proofs.Sums.{put-here, put-apart}
use Rattle.sm_reservation.specs.declared.stream_id.StreamId.{StreamId}
use Rattle.sm_plan_code.specs.declared.call.ServerCall.{ServerCall}
use Rattle.sm_plan_code.specs.declared.instruction.Instr.{Instr}
use Rattle.sm_plan_code.specs.declared.instruction.Instr.TheVariants.{PrepareAdd, PrepareDrop, Add, Drop, Change, Publish, Unlist, Signal, Wait}
use Rattle.sm_plan_code.specs.Acts.{next_call}
use Rattle.sm_plan_code.specs.Instr.{IsOwn, Mentions, is_call, names_of}
use Rattle.sm_protocol.specs.declared.event.Event.TheVariants as event
use Rattle.sm_protocol.specs.declared.event.Passage.TheVariants.{LostAfter}
use Rattle.sm_protocol.specs.declared.event.Played.TheVariants as played
use Rattle.sm_protocol.specs.State.{Progress, State, free_places, pool, progress_of, stream_id}
use Rattle.sm_protocol.specs.Steps.{ahead_of_call, call_number, call_to_make, entry_added, served_try}
use Rattle.sm_protocol.specs.Happens.{Lose, engaged, happens}
use Rattle.sm_protocol.specs.Laws.{IsReached}
use Rattle.sm_protocol.proofs.Invariant.{IsKept}
use Rattle.sm_protocol.proofs.Cases.{IsBefore, IsTry, answer_to, of_known_step}
use Rattle.sm_protocol.proofs.Courses.{some_same}
use Rattle.sm_protocol.proofs.Keeping.{begun}
use Rattle.sm_protocol.proofs.LogRoom.{IsOfCall, of_call, ok_is}
use Rattle.sm_protocol.proofs.Numbers.{each_stream, goes_on}
use Rattle.sm_protocol.proofs.Reached.{reached_next}
use Rattle.sm_protocol.proofs.Restarts.{not_engaged}
use Rattle.sm_protocol.proofs.Steps.{one_on}
use Rattle.sm_protocol.proofs.Trials.{call_at}
use Rattle.sm_protocol.proofs.Tries.{effect_now}
use Rattle.sm_protocol.proofs.Whole.{reached_keeps}
use Rattle.laws_network.proofs.Overlay.{call_made, called_is, called_led, cell_by}
use Rattle.sm_machine.proofs.ties.Balancing.{pool_of_call, pool_of_publish, pool_of_unlist}
use Rattle.sm_machine.proofs.ties.Before.{known}
use Rattle.sm_machine.proofs.ties.Freeing.{free_published, free_unanswered}
use Rattle.laws_decisions.proofs.Alike.{IsElsewhere, serves_alike}

-- Decisions look at the same.
pub record IsAlike (w new : State) : Type 0 where
  pub sizes : new.sizes ≡ w.sizes
  pub down : new.place.down ≡ w.place.down
  pub limit : new.place.limit ≡ w.place.limit
  pub pool : pool new ≡ pool w
  pub free : free_places new ≡ free_places w
  pub plans : new.plans ≡ w.plans
  pub done : (k i : ℕ) → (new.progress k i).done ≡ (w.progress k i).done
  pub live : (s v : ℕ) → engaged w v ≡ None → is_live_at new.place s v ≡ is_live_at w.place s v

-- a state is as it is
pub same_alike : (w : State) → IsAlike w w
same_alike w = record { sizes = refl; down = refl; limit = refl; pool = refl; free = refl; plans = refl; done = λ k i. refl; live = λ s v e. refl }

-- The stream stands before a call that has had no effect, or before an entry of the published map.
pub record IsWaiting (w : State) (id : StreamId) : Type 0 where
  pub instr : Instr
  pub before : IsBefore w id (Some instr)
  pub own : IsOwn instr
  pub unmade : (progress_of w id).ahead ≡ false

-- two instructions that a stream stands before are one
one_before : {w : State} {id : StreamId} {i j : Instr} → IsBefore w id (Some i) → IsBefore w id (Some j) → i ≡ j
one_before {w} {id} {i} {j} a b = let e = sym a.next_is ∙ b.next_is in cc

not_at_end : {w : State} {id : StreamId} {i : Instr} → IsBefore w id (Some i) → IsBefore w id None → ⊥
not_at_end {w} {id} {i} a b = let e = sym a.next_is ∙ b.next_is in cc

-- ---- the servers that a call names

names_server : (numbers : ℕ → ℕ) (i : Instr) (x : ServerCall) → is_call i ≡ true → next_call numbers i ≡ Some x → Mentions (names_of i) x.server
names_server numbers i x c e =
    let t = call_at numbers i c in
    let same : t.call ≡ x = some_same t.call x (sym t.next ∙ e) in
    inl (t.mentions ∙ ap (λ (y : ServerCall). Some y.server) same)

names_owner : (numbers : ℕ → ℕ) (i : Instr) (x : ServerCall) (v m : ℕ) → next_call numbers i ≡ Some x → x.call ≡ call.PrepareDrop v m → Mentions (names_of i) v
names_owner numbers (PrepareDrop s u t) x v m e f = inr (let g = ap (λ (y : ServerCall). y.call) (some_same _ x e) ∙ f in cc)
names_owner numbers (PrepareAdd s t u) x v m e f = absurd (let g = ap (λ (y : ServerCall). y.call) (some_same _ x e) ∙ f in cc)
names_owner numbers (Add s t role) x v m e f = absurd (let g = ap (λ (y : ServerCall). y.call) (some_same _ x e) ∙ f in cc)
names_owner numbers (Drop s t) x v m e f = absurd (let g = ap (λ (y : ServerCall). y.call) (some_same _ x e) ∙ f in cc)
names_owner numbers (Change s t to) x v m e f = absurd (let g = ap (λ (y : ServerCall). y.call) (some_same _ x e) ∙ f in cc)
names_owner numbers (Publish s) x v m e f = cc
names_owner numbers (Unlist s) x v m e f = cc
names_owner numbers (Signal q) x v m e f = cc
names_owner numbers (Wait q) x v m e f = cc

-- ---- one effect

module _ (setup : Setup) (w : State) (reached : IsReached setup w) (id : StreamId) where
  kept : IsKept w
  kept = (reached_keeps setup w reached).0

  abbrev now : Progress
  now = progress_of w id

  -- an effect, and no other stream goes on
  pub record IsOne (new : State) : Type 0 where
    pub alike : IsAlike w new
    pub others : (j : StreamId) → j ≢ id → progress_of new j ≡ progress_of w j

  same_one : IsOne w
  same_one = record { alike = same_alike w; others = λ j n. refl }

  -- a publication
  published : (i : Instr) (s : ℕ) (server : Option ℕ) → IsBefore w id (Some i) → is_call i ≡ false → pool (entry_added w id s server).1 ≡ pool w → IsOne (entry_added w id s server).1
  published i s server b c p = record {
    alike = record {
      sizes = refl;
      down = refl;
      limit = refl;
      pool = p;
      free = free_published setup w reached id i s server b c;
      plans = refl;
      done = λ k n. each_stream (goes_on w id (one_on now)) (λ j z. z.done ≡ (progress_of w j).done) refl (λ j m. refl) (stream_id k n);
      live = λ t v e. refl;
    };
    others = (goes_on w id (one_on now)).others;
  }

  module _ (i : Instr) (x : ServerCall) (t : IsTry w id i x) (unmade : now.ahead ≡ false) (effect : CallEffect) (answered : answer_to w id x ≡ Ok effect) where
    abbrev after : Progress
    after = ahead_of_call w now effect.fresh

    abbrev new : State
    new = served_try w id i effect after (event.Lose id true) played.Lost

    next : next_call w.numbers i ≡ Some x
    next = (let e : call_to_make w now i ≡ next_call w.numbers i = rw unmade refl in sym e) ∙ t.call_is

    -- the cells after the call, and where it leads its own
    cells : (effect.place.cells ≡ call_made x w.place.cells) × (led_to x.call (w.place.cells x.shard x.server) ≡ Some (cell_by x w.place.cells))
    cells =
        let c = call_at w.numbers i t.call in
        let same : c.call ≡ x = some_same c.call x (sym c.next ∙ next) in
        let n = effect_now w kept id (known w kept id _ t.before) i t.before.next_is t.call c.call c.next c.touches c.mentions unmade in
        let is : CallEffect = record { place = set_last n.effect.next_place c.call.shard c.call.server (call_number w now); fresh = true } in
        let there : answer_to w id x ≡ Ok is = subst (λ z. answer_to w id z ≡ Ok is) same n.answered in
        let f : is ≡ effect = ok_is is effect (sym there ∙ answered) in
        let made : called w.sizes w.place x.shard x.server x.call ≡ Ok n.effect.next_place = subst (λ (z : ServerCall). called w.sizes w.place z.shard z.server z.call ≡ Ok n.effect.next_place) same n.called in (
          ap (λ (y : CallEffect). y.place.cells) (sym f) ∙ ap (λ (p : Place). p.cells) (called_is w.sizes w.place x n.effect.next_place made),
          called_led w.sizes w.place x n.effect.next_place made,
        )

    -- the call names no server that no unfinished stream names
    elsewhere : (v : ℕ) → engaged w v ≡ None → IsElsewhere (w.place.cells x.shard) (call_made x w.place.cells x.shard) x.server x.call v
    elsewhere v e =
        let unnamed = not_engaged w v e id (begun w id t.before.begun) t.before.running now.at i t.before.next_is in
        let row : call_made x w.place.cells x.shard ≡ put (w.place.cells x.shard) x.server (cell_by x w.place.cells) = put-here w.place.cells x.shard (put (w.place.cells x.shard) x.server (cell_by x w.place.cells)) x.shard refl in
        record {
          apart = λ q. unnamed (subst (λ n. Mentions (names_of i) n) (sym q) (names_server w.numbers i x t.call next));
          others = λ u n. ap (λ g. g u) row ∙ put-apart (w.place.cells x.shard) x.server (cell_by x w.place.cells) u n;
          led = cells.1 ∙ ap Some (sym (ap (λ g. g x.server) row ∙ put-here (w.place.cells x.shard) x.server (cell_by x w.place.cells) x.server refl));
          unnamed = λ m q. unnamed (names_owner w.numbers i x v m next q);
        }

    module _ (k : IsKept new) where
      live_there : (v : ℕ) → engaged w v ≡ None → is_live (effect.place.cells x.shard) w.place.down v ≡ is_live (w.place.cells x.shard) w.place.down v
      live_there v e =
          let o = elsewhere v e in
          let r : effect.place.cells x.shard ≡ call_made x w.place.cells x.shard = ap (λ f. f x.shard) cells.0 in
          let same : call_made x w.place.cells x.shard v ≡ w.place.cells x.shard v = o.others v o.apart in
          let s = serves_alike (w.place.cells x.shard) (call_made x w.place.cells x.shard) (kept.leads x.shard) (k.leads x.shard) (w.numbers x.shard) (new.numbers x.shard) x.server x.call v
          (kept.stage.described x.shard) (subst (λ f. Describes (k.leads x.shard) (new.numbers x.shard) (f x.shard)) cells.0 (k.stage.described x.shard)) o in
          ap (λ row. is_live row w.place.down v) r
          ∙ ap (λ b. not (w.place.down v) && (is_secondary (call_made x w.place.cells x.shard v) || b)) s
          ∙ ap (λ c. not (w.place.down v) && (is_secondary c || serves (w.place.cells x.shard) v)) same

      live_at : (s v : ℕ) → engaged w v ≡ None → is_live (effect.place.cells s) w.place.down v ≡ is_live (w.place.cells s) w.place.down v
      live_at s v e = elim (cases_eq s x.shard) [
        | inl q ↦ subst (λ n. is_live (effect.place.cells n) w.place.down v ≡ is_live (w.place.cells n) w.place.down v) (sym q) (live_there v e)
        | inr q ↦ ap (λ row. is_live row w.place.down v) (ap (λ f. f s) cells.0 ∙ put-apart w.place.cells x.shard (put (w.place.cells x.shard) x.server (cell_by x w.place.cells)) s q)
      ]

      made : IsOne new
      made = record {
        alike = record {
          sizes = refl;
          down = is.down;
          limit = is.limit;
          pool = pool_of_call w kept id i x t unmade effect answered after t.before.running refl (event.Lose id true) played.Lost k;
          free = free_unanswered setup w reached id i x t effect answered;
          plans = refl;
          done = λ j n. each_stream (goes_on w id after) (λ a z. z.done ≡ (progress_of w a).done) refl (λ a m. refl) (stream_id j n);
          live = λ s v e. ap (λ d. is_live (effect.place.cells s) d v) is.down ∙ live_at s v e;
        };
        others = (goes_on w id after).others;
      }
        where
          is : IsOfCall w.place effect
          is = of_call w.sizes w.place x.shard x.server x.call (call_number w now) effect answered

  -- the call of a stream has its effect and its answer is lost, or its publication is made
  module _ (t : IsWaiting w id) where
    pub has_one : IsOne (happens w (Lose id true)).1
    has_one = of_known_step w id LostAfter (λ o. IsKept o.1 → IsOne o.1) (record {
      idle = λ answer k. same_one;
      refused = λ i x why a e k. same_one;
      at_end = λ b k. absurd (not_at_end t.before b);
      publishes = λ s b k. published (Publish s) s _ b refl (pool_of_publish w kept id s b k);
      unlists = λ s b k. published (Unlist s) s None b refl (pool_of_unlist w kept id s b k);
      posts = λ q b k. absurd (subst IsOwn (one_before t.before b) t.own);
      awaits = λ q b p k. absurd (subst IsOwn (one_before t.before b) t.own);
      lost = λ i x a p k. absurd (cc);
      through = λ i x effect a e p k. absurd (cc);
      unanswered = λ i x effect a e p k. made i x a t.unmade effect e k;
    }) (reached_keeps setup (happens w (Lose id true)).1 (reached_next setup w (Lose id true) reached tt)).0
