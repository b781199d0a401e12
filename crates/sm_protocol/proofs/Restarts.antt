-- Restarts, requests and refills keep what holds of every state.
use Rattle.sm_protocol.proofs.Below.{◌≡◌, ◌≢◌, ℕ, zero, suc, ◌+◌, ◌<◌, ◌≤◌, Bool, true, false, Some, None, refl, sym, ap, ◌∙◌, arith, inl, inr, List, [], ◌∷◌, length, slice_get, ◌==◌, ◌&&◌, not, if◌then◌else◌, list_any, cases_eq, cases_Bool, cases_lt, eq-eqb, or_parts, and_parts, bit, set_down, is_live_at, live_at, StreamId, Right, OfCell, OfCrown, OfRoom, OfSpare, stock, bound, same_listed, Instr, names_of, Mentions, IsReachable, first_without_spare, Absent, downed_placement, live_after_down, live_after_up, first_from_none, put-here, put-apart, bit-le-one, restarted_reachable, granted}
use Rattle.sm_protocol.proofs.Words.{Logged, State, Progress, plan_at, stream_id, stream_count, progress_of, is_begun, is_running, set_progress, held, pool, free_places, is_mentioned, engages, engaged}
use Rattle.sm_protocol.proofs.Invariant.{IsKept, code_of}
use Rattle.sm_protocol.proofs.Courses.{same_course, stands, some_same, elsewhere_by}
use Rattle.sm_protocol.proofs.Numbers.{goes_on, same_try}
use Rattle.sm_protocol.proofs.Trials.{IsBegun, running}
use Rattle.sm_protocol.proofs.Cases.{denied_of}
use Rattle.sm_protocol.proofs.Pools.{spare_conserved}
use Rattle.sm_protocol.proofs.Keeping.{begun, progress_keeps}

-- ---- only the log changes

-- what holds of every state doesn't look at the log
pub log_keeps : (w : State) (v : IsKept w) (log : List Logged) → IsKept (record w { log = log })
log_keeps w v log = record { leads = v.leads; stage = v.stage; plans = v.plans; unbegun = v.unbegun; later_marks = v.later_marks; fits = v.fits; numbered = v.numbered }

-- ---- refills

-- a refill of a stream that was begun and hasn't made its end keeps it
pub refill_keeps : (w : State) (v : IsKept w) (id : StreamId) (more : ℕ) (log : List Logged) → is_running w id ≡ true →
    IsKept (record w { progress = set_progress w id (record (progress_of w id) { refills = (progress_of w id).refills + more }); log = log })
refill_keeps w v id more log e =
    let b = begun w id (and_parts (is_begun w id) (not (progress_of w id).done) e).0 in
    let k = id.plan in
    let r = running w v id b in
    let y : Progress = record (progress_of w id) { refills = (progress_of w id).refills + more } in
    let ok = same_course w.sizes w.place (plan_at w k) (w.progress k) (w.marks k) r id.stream b.stream y refl refl refl refl in
    progress_keeps w v id b y w.next_number log (stands w.sizes w.place (plan_at w k) (w.progress k) (w.marks k) r id.stream b.stream y refl ok) (λ t. omega arith)
    (same_try w.place.last w.next_number (code_of w) (progress_of w) v.numbered id y _ (goes_on w id y) refl refl (λ t. refl))

-- ---- who is engaged

any_false : {T : Type 0} (t : T → Bool) (xs : List T) (n : ℕ) (x : T) → list_any t xs ≡ false → slice_get xs n ≡ Some x → t x ≡ false
any_false t [] n x e h = cc
any_false t (y ∷ ys) zero x e h = ap t (sym (some_same y x h)) ∙ (or_parts (t y) (list_any t ys) e).0
any_false t (y ∷ ys) (suc m) x e h = any_false t ys m x (or_parts (t y) (list_any t ys) e).1 h

not_mentioned : (u : ℕ) (x : Instr) → is_mentioned u x ≡ false → ¬ Mentions (names_of x) u
not_mentioned u x e (inl f) = let a = (or_parts (same_listed (names_of x).first (Some u)) (same_listed (names_of x).second (Some u)) e).0 in let g : same_listed (names_of x).first (Some u) ≡ true = rw (f, eq-eqb u u refl) refl in cc
not_mentioned u x e (inr f) = let a = (or_parts (same_listed (names_of x).first (Some u)) (same_listed (names_of x).second (Some u)) e).1 in let g : same_listed (names_of x).second (Some u) ≡ true = rw (f, eq-eqb u u refl) refl in cc

pub chosen_none : {A : Type 0} (t : Bool) (x : A) → (if t then Some x else None) ≡ None → t ≡ false
chosen_none true x e = cc
chosen_none false x e = refl

-- where nobody is engaged, no unfinished stream engages the server
pub free_streams : (w : State) (u : ℕ) → engaged w u ≡ None → (id : StreamId) → IsBegun w id → engages w u id ≡ false
free_streams w u e id b =
    let row = first_from_none _ 0 (length w.plans) e id.plan (omega arith) (let l = b.plan in omega arith) in
    chosen_none (engages w u id) id (first_from_none _ 0 (stream_count w id.plan) row id.stream (omega arith) (let l = b.stream in omega arith))

-- where nobody is engaged, no unfinished stream's code mentions the server
pub not_engaged : (w : State) (u : ℕ) → engaged w u ≡ None → (id : StreamId) → IsBegun w id → (progress_of w id).done ≡ false → (at : ℕ) (x : Instr) → slice_get (code_of w id) at ≡ Some x → ¬ Mentions (names_of x) u
not_engaged w u e id b d at x here =
    let code : list_any (is_mentioned u) (code_of w id) ≡ false = (let f : engages w u id ≡ list_any (is_mentioned u) (code_of w id) = rw d refl in sym f ∙ free_streams w u e id b) in
    not_mentioned u x (any_false (is_mentioned u) (code_of w id) at x code here)

-- ---- a server goes down or comes up

downed : (w : State) (v : IsKept w) (u : ℕ) (down : Bool) (log : List Logged) → u < w.sizes.servers →
    ((id : StreamId) → IsBegun w id → (progress_of w id).done ≡ false → (at : ℕ) (x : Instr) → slice_get (code_of w id) at ≡ Some x → IsReachable w.sizes (set_down w.place u down) x) →
    ((s : ℕ) → held w (OfSpare s) + w.sizes.floor s ≤ live_at w.sizes (set_down w.place u down) s) →
    IsKept (record w { place = set_down w.place u down; log = log })
downed w v u down log l reach spare = record {
  leads = v.leads;
  stage = record { placement = downed_placement w.sizes w.place u down l v.stage.placement; described = v.stage.described; listing = v.stage.listing };
  plans = λ k m. elsewhere_by w.sizes w.place (set_down w.place u down) (plan_at w k) (w.progress k) (w.marks k) (λ i n. reach (stream_id k i) (record { plan = m; stream = n })) (v.plans k m);
  unbegun = v.unbegun;
  later_marks = v.later_marks;
  fits = each;
  numbered = v.numbered;
}
  where
    each : (r : Right) → held w r + bound w.sizes (set_down w.place u down) r ≤ stock w.sizes (set_down w.place u down) v.leads r
    each (OfCell s x state) = v.fits (OfCell s x state)
    each (OfCrown s lead listed) = v.fits (OfCrown s lead listed)
    each (OfRoom x) = v.fits (OfRoom x)
    each (OfSpare s) = spare s

-- a shard that is live at a server keeps its floor and what is held where a spare replica is free
pub spare_free : (w : State) (v : IsKept w) (u : ℕ) → first_without_spare w.sizes w.place (pool w) u ≡ None → (s : ℕ) → s < w.sizes.shards → is_live_at w.place s u ≡ true →
    w.sizes.floor s + held w (OfSpare s) + 1 ≤ live_at w.sizes w.place s
spare_free w v u none s known live =
    let row = chosen_none _ s (first_from_none _ 0 w.sizes.shards none s (omega arith) (omega arith)) in
    let free : ((pool w).spare s == 0) ≡ false = (let t : (is_live_at w.place s u && ((pool w).spare s == 0)) ≡ ((pool w).spare s == 0) = rw live refl in sym t ∙ row) in
    let some : (pool w).spare s ≢ 0 = λ z. absurd (let t = eq-eqb ((pool w).spare s) 0 z in cc) in
    let c = spare_conserved w v s known in
    omega arith

spare_left : (w : State) (v : IsKept w) (u : ℕ) → u < w.sizes.servers → first_without_spare w.sizes w.place (pool w) u ≡ None → (s : ℕ) → held w (OfSpare s) + w.sizes.floor s ≤ live_at w.sizes (set_down w.place u true) s
spare_left w v u l none s =
    let m = live_after_down w.sizes w.place s u l in
    let f : held w (OfSpare s) + w.sizes.floor s ≤ live_at w.sizes w.place s = v.fits (OfSpare s) in
    elim (cases_Bool (is_live_at w.place s u)) [
      | inr e ↦ let b : bit (is_live_at w.place s u) ≡ 0 = ap bit e in omega arith
      | inl e ↦ elim (cases_lt s w.sizes.shards) [
        | inl known ↦ let b = bit-le-one (is_live_at w.place s u) in let c = spare_free w v u none s known e in omega arith
        | inr out ↦ absurd (let f : is_live_at w.place s u ≡ false = no_cell w.place.down (v.stage.placement.no_shard s u out) in cc)
      ]
    ]
  where
    no_cell : (down : ℕ → Bool) → w.place.cells s u ≡ Absent → is_live_at w.place s u ≡ false
    no_cell down c = rw c (never (not (w.place.down u)))
      where
        never : (b : Bool) → b && false ≡ false
        never true = refl
        never false = refl

-- the start of a restart that is not denied keeps it
pub approve_keeps : (w : State) (v : IsKept w) (u : ℕ) (log : List Logged) → u < w.sizes.servers → denied_of w u ≡ None → IsKept (record w { place = set_down w.place u true; log = log })
approve_keeps w v u log l e =
    let g = granted w.sizes w.place (pool w) (engaged w u) (free_places w) u e in
    downed w v u true log l
    (λ id b d at x here. restarted_reachable w.sizes w.place x u true (not_engaged w u g.free id b d at x here) (((running w v id b).streams id.stream b.stream).reachable d at x here))
    (spare_left w v u l g.spare)

-- and so does the end of one
pub restart_keeps : (w : State) (v : IsKept w) (u : ℕ) (log : List Logged) → w.place.down u ≡ true → IsKept (record w { place = set_down w.place u false; log = log })
restart_keeps w v u log e = downed w v u false log known up (λ s. let m = live_after_up w.sizes w.place s u known e in let f : held w (OfSpare s) + w.sizes.floor s ≤ live_at w.sizes w.place s = v.fits (OfSpare s) in omega arith)
  where
    known : u < w.sizes.servers
    known = elim (cases_lt u w.sizes.servers) [ inl l ↦ l | inr l ↦ absurd (let f = v.stage.placement.no_down u l in cc) ]

    up : (id : StreamId) → IsBegun w id → (progress_of w id).done ≡ false → (at : ℕ) (x : Instr) → slice_get (code_of w id) at ≡ Some x → IsReachable w.sizes (set_down w.place u false) x
    up id b d at x here =
        let r = ((running w v id b).streams id.stream b.stream).reachable d at x here in
        record {
          shard = r.shard;
          known = r.known;
          up = λ q m. elim (cases_eq q u) [ inl h ↦ put-here w.place.down u false q h | inr h ↦ put-apart w.place.down u false q h ∙ r.up q m ];
        }
