-- A round takes a stream of each unfinished plan further: so a plan is done after as many rounds as its streams have steps left.
use Rattle.std.proofs.Common.{◌≡◌, ◌≢◌, ℕ, zero, suc, ◌+◌, ◌≤◌, ◌<◌, ◌⊎◌, refl, sym, ap, ◌∙◌, inl, inr, subst, arith, not, true, false, Some, List, [], ◌∷◌, length}
use Rattle.std.specs.Prelude.{◌-◌, if◌then◌else◌, slice_get, slice_index_or}
use Rattle.std.specs.List.{AllByRecursion}
use Rattle.std.proofs.lemmas.Bool.{cases_Bool, cases_eq, not-true}
use Rattle.sm_server.specs.declared.call.Refusal.{Refusal}
use Rattle.sm_placement.specs.Setup.{Setup}
use Rattle.sm_placement.specs.Sums.{sum_below}
use Rattle.sm_placement.proofs.Sums.{part_of_sum}
use Rattle.sm_verifier.proofs.OnePlace.{some_below, sum_below_le}
use Rattle.sm_verifier.specs.Stream.{no_stream}
use Rattle.sm_reservation.specs.declared.stream_id.StreamId.{StreamId}
use Rattle.sm_plan_code.specs.Plan.{PlanModel}
use Rattle.sm_protocol.specs.State.{Progress, State, is_begun, is_running, is_unfinished, plan_at, progress_of, stream_count, stream_id}
use Rattle.sm_protocol.specs.Happens.{Step, happens}
use Rattle.sm_protocol.proofs.Invariant.{IsKept}
use Rattle.sm_protocol.proofs.Keeping.{is_begun_true}
use Rattle.sm_agent.specs.declared.order.Verdict.TheVariants as verdict
use Rattle.laws_network.specs.Laws.{HasMovedOn}
use Rattle.laws_network.specs.Net.{is_awaited}
use Rattle.laws_network.specs.World.{is_answered_by, publication_of}
use Rattle.laws_network.specs.Controller.{Answered, Controller, Letter, Made, Notice, Stored, entry_recorded, goes_on, letter_of, is_local, notice_of}
use Rattle.laws_network.specs.Fleet.{Committed, Fleet, FleetEvent, HearOwner, HearServer, Judge, Judged, Make, Publish, Silent, after_letter, by_message, controller, fleet_comes, fleet_run, owner_verdict, verdict_of, written}
use Rattle.laws_network.specs.FleetLaws.{AreNamedKnown, EachFleet, FleetGoesOn, IsFleetReached, NoLetterIsRefused, SomeFleetCanGoOn}
use Rattle.laws_network.proofs.Calm.{IsCalm}
use Rattle.laws_network.proofs.Finish.{none_below}
use Rattle.laws_network.proofs.Reaching.{fleet_shadow}
use Rattle.laws_network.proofs.Shadow.{notice_says}
use Rattle.laws_rounds.specs.Round.{Always, AnswerComes, AreRounds, IsRound, OwnerKeeps, RoundsEndPlans, ServerKeeps, StaysInEpoch, WorkEnds, after_rounds, steps_left}
use Rattle.laws_rounds.proofs.Positions.{HasGone, IsOnward, Stands, gone_from, onward_on, onward_still}
use Rattle.laws_rounds.proofs.Moves.{alone_still, answered_still, awaited_still, call_gone, not_moved, own_gone, publication_gone}
use Rattle.laws_rounds.proofs.Walks.{Ends, IsWalk, calm_at, ends_by, goes_still, gone_ends, kept_at, known_now, next_of, reached_on, walk_on}
use Rattle.laws_rounds.proofs.Hearing.{letter_parts, order_heard, publication_heard}

-- ---- a stream in a round

module _ (setup : Setup) (refuses : EachFleet NoLetterIsRefused) (first : Controller) (id : StreamId) (d : (progress_of first.w id).done ≡ false) where
  -- where the stream has gone on nothing is left to show
  where_it_stands : (es : List FleetEvent) (f : Fleet) → IsWalk setup first id d es f → (Stands first.w (controller f).w id → Ends setup first id d es f) → Ends setup first id d es f
  where_it_stands es f w h = elim w.goes.place [ inl g ↦ gone_ends setup first id d es f w g | inr s ↦ h s ]

  -- its step is recorded
  step_ends : (e : FleetEvent) (es : List FleetEvent) (f : Fleet) → IsWalk setup first id d (e ∷ es) f → Stands first.w (controller f).w id → (controller (fleet_comes f e).1).w ≡ (happens (controller f).w (Step id)).1 →
      HasGone (controller f).w (happens (controller f).w (Step id)).1 id → Ends setup first id d es (fleet_comes f e).1
  step_ends e es f w s same gone = gone_ends setup first id d es (fleet_comes f e).1 (walk_on setup first id d e es f w)
      (gone_from first.w (controller f).w (controller (fleet_comes f e).1).w id s (subst (λ (u : State). HasGone (controller f).w u id) (sym same) gone))

  -- ---- its order

  module _ (l : Letter) (present : letter_of first id ≡ Some l) where
    -- the answer comes
    abbrev Answers : Fleet → FleetEvent → List FleetEvent → Type 0
    Answers f e es = (k : ℕ) × (e ≡ HearServer k) × (slice_get f.answers k ≡ Some l.order)

    answer_ends : (e : FleetEvent) (es : List FleetEvent) (f : Fleet) → IsWalk setup first id d (e ∷ es) f → Answers f e es → Ends setup first id d es (fleet_comes f e).1
    answer_ends e es f w p = where_it_stands (e ∷ es) f w (λ s.
        let kept = kept_at setup f w.reached in
        let calm = calm_at setup f w.reached in
        let t = awaited_still first.w (controller f).w kept calm id s d first.base l.order (letter_parts first id l present).2 in
        let awaited : is_awaited (controller f).base (controller f).w l.order ≡ true = ap (λ n. is_awaited n (controller f).w l.order) w.goes.base ∙ t.0 in
        step_ends e es f w s
        (ap (λ x. (controller (fleet_comes f x).1).w) p.1
        ∙ (ap (λ o. (controller (by_message f (λ a. (Silent, written f (Answered a))) o).1).w) p.2
        ∙ (ap (λ b. (if b then goes_on (controller f) (Step l.order.stream) else controller f).w) awaited
        ∙ ap (λ i. (happens (controller f).w (Step i)).1) t.1)))
        (call_gone first.w (controller f).w kept calm id s d t.2))

    answers_end : (es : List FleetEvent) (f : Fleet) → IsWalk setup first id d es f → AnswerComes l.order es f → Ends setup first id d es f
    answers_end = ends_by setup first id d Answers answer_ends

    -- its work ends
    works_end : (es : List FleetEvent) (f : Fleet) → IsWalk setup first id d es f → WorkEnds l.order es f → Ends setup first id d es f
    works_end = ends_by setup first id d (λ f e es. ((fleet_comes f e).0 ≡ Committed l.order) × AnswerComes l.order es (fleet_comes f e).1)
        (λ e es f w p. answers_end es (fleet_comes f e).1 (walk_on setup first id d e es f w) p.1)

    -- it comes to its server
    pub order_ends : (e : FleetEvent) (es : List FleetEvent) (f : Fleet) → IsWalk setup first id d (e ∷ es) f →
        ((k : ℕ) × (e ≡ Judge k) × (slice_get f.sent k ≡ Some l) × ServerKeeps (verdict_of f l) l.order es (fleet_comes f e).1) → Ends setup first id d es (fleet_comes f e).1
    order_ends e es f w p = where_it_stands (e ∷ es) f w (λ s.
        let on = walk_on setup first id d e es f w in
        let named = known_now setup first id d (e ∷ es) f w in
        let refused : (why : Refusal) → verdict_of f l ≢ verdict.Refused why = λ why q. refuses setup f w.reached (Judge p.0) l why (ap (λ o. (by_message f (after_letter f) o).0) p.2 ∙ ap (Judged l) q) in
        elim (order_heard setup first id f (fleet_shadow setup f w.reached) w.goes.base w.goes.journal w.goes.fence s d l present named refused) [
          | inl q ↦ works_end es (fleet_comes f e).1 on (subst (λ x. ServerKeeps x l.order es (fleet_comes f e).1) q p.3)
          | inr (inl q) ↦ works_end es (fleet_comes f e).1 on (subst (λ x. ServerKeeps x l.order es (fleet_comes f e).1) q p.3)
          | inr (inr q) ↦ answers_end es (fleet_comes f e).1 on (subst (λ x. ServerKeeps x l.order es (fleet_comes f e).1) q p.3)
        ])

  -- ---- its publication

  module _ (n : Notice) (present : notice_of first id ≡ Some n) where
    abbrev Confirms : Fleet → FleetEvent → List FleetEvent → Type 0
    Confirms f e es = (k : ℕ) × (e ≡ HearOwner k) × (slice_get f.stored k ≡ Some n.publication)

    stored_ends : (e : FleetEvent) (es : List FleetEvent) (f : Fleet) → IsWalk setup first id d (e ∷ es) f → Confirms f e es → Ends setup first id d es (fleet_comes f e).1
    stored_ends e es f w p = where_it_stands (e ∷ es) f w (λ s.
        let kept = kept_at setup f w.reached in
        let calm = calm_at setup f w.reached in
        let t = answered_still first.w (controller f).w kept calm id s d first.base n.publication (notice_says first id n present) in
        let answered : is_answered_by n.publication (publication_of (controller f).base (controller f).w n.publication.stream) ≡ true =
        ap (λ m. is_answered_by n.publication (publication_of m (controller f).w n.publication.stream)) w.goes.base ∙ t.0 in
        step_ends e es f w s
        (ap (λ x. (controller (fleet_comes f x).1).w) p.1
        ∙ (ap (λ o. (controller (by_message f (λ a. (Silent, written f (Stored a))) o).1).w) p.2
        ∙ (ap (λ b. (if b then goes_on (controller f) (Step n.publication.stream) else controller f).w) answered
        ∙ ap (λ i. (happens (controller f).w (Step i)).1) t.1)))
        (publication_gone first.w (controller f).w kept calm id s d n.publication.shard t.2))

    -- it comes to the map's owner
    pub publication_ends : (e : FleetEvent) (es : List FleetEvent) (f : Fleet) → IsWalk setup first id d (e ∷ es) f →
        ((k : ℕ) × (e ≡ Publish k) × (slice_get f.published k ≡ Some n) × OwnerKeeps (owner_verdict f n) n.publication es (fleet_comes f e).1) → Ends setup first id d es (fleet_comes f e).1
    publication_ends e es f w p = where_it_stands (e ∷ es) f w (λ s.
        let on = walk_on setup first id d e es f w in
        let kept = kept_at setup f w.reached in
        elim (publication_heard setup first id f (fleet_shadow setup f w.reached) w.goes.base w.goes.journal w.goes.fence s d n present) [
          | inl q ↦ ends_by setup first id d Confirms stored_ends es (fleet_comes f e).1 on (subst (λ x. OwnerKeeps x n.publication es (fleet_comes f e).1) q p.3)
          | inr q ↦ ends_by setup first id d Confirms stored_ends es (fleet_comes f e).1 on (subst (λ x. OwnerKeeps x n.publication es (fleet_comes f e).1) q p.3)
        ])

  -- ---- its own step

  module _ (calm_before : IsCalm first.w) (begun : is_begun first.w id ≡ true) (alone : is_local first.w (Step id) ≡ true) (moves : HasMovedOn first.w id (happens first.w (Step id)).1) where
    pub own_ends : (e : FleetEvent) (es : List FleetEvent) (f : Fleet) → IsWalk setup first id d (e ∷ es) f → e ≡ Make (Step id) → Ends setup first id d es (fleet_comes f e).1
    own_ends e es f w p = where_it_stands (e ∷ es) f w (λ s.
        let kept = kept_at setup f w.reached in
        let calm = calm_at setup f w.reached in
        step_ends e es f w s
        (ap (λ x. (controller (fleet_comes f x).1).w) p
        ∙ ap (λ b. (if b then goes_on (controller f) (Step id) else controller f).w) (alone_still first.w (controller f).w kept calm id s d calm_before begun alone moves))
        (own_gone first.w (controller f).w kept calm id s d calm_before begun alone moves))

-- ---- what is left

-- how many steps are left to a stream of so many instructions
abbrev rest : ℕ → Progress → ℕ
rest many x = if x.done then 0 else many + 1 - x.at

abbrev code_length : PlanModel → ℕ → ℕ
code_length p i = length (slice_index_or p.streams i no_stream).code

abbrev left_with : PlanModel → (ℕ → Progress) → ℕ
left_with p x = sum_below (length p.streams) (λ i. rest (code_length p i) (x i))

rest_falls : (many : ℕ) (x y : Progress) → x.at ≤ y.at → (x.done ≡ true → y.done ≡ true) → rest many y ≤ rest many x
rest_falls many x y a d = elim (cases_Bool y.done) [
  | inl e ↦ (let z : rest many y ≡ 0 = rw e refl in omega arith)
  | inr e ↦ elim (cases_Bool x.done) [
    | inl f ↦ absurd (let z = d f in cc)
    | inr f ↦ (let z : rest many y ≡ many + 1 - y.at = rw e refl in let u : rest many x ≡ many + 1 - x.at = rw f refl in omega arith)
  ]
]

rest_drops : (many : ℕ) (x y : Progress) → x.at ≤ many → x.done ≡ false → ((x.at < y.at) ⊎ (y.done ≡ true)) → rest many y < rest many x
rest_drops many x y l d m = elim (cases_Bool y.done) [
  | inl e ↦ (let z : rest many y ≡ 0 = rw e refl in let u : rest many x ≡ many + 1 - x.at = rw d refl in omega arith)
  | inr e ↦ elim m [
    | inl a ↦ (let z : rest many y ≡ many + 1 - y.at = rw e refl in let u : rest many x ≡ many + 1 - x.at = rw d refl in omega arith)
    | inr f ↦ absurd (cc)
  ]
]

sum_drops : (n : ℕ) (f g : ℕ → ℕ) (k : ℕ) → k < n → ((j : ℕ) → f j ≤ g j) → f k < g k → sum_below n f < sum_below n g
sum_drops zero f g k l all d = absurd (omega arith)
sum_drops (suc n) f g k l all d = elim (cases_eq k n) [
  | inl e ↦ (let a = sum_below_le n f g all in let b : f n < g n = subst (λ m. f m < g m) e d in omega arith)
  | inr e ↦ (let a = sum_drops n f g k (omega arith) all d in let b = all n in omega arith)
]

-- what is left of a plan falls where a stream goes on
left_drops : (w new : State) (k i : ℕ) → IsOnward w new k → i < stream_count w k → (w.progress k i).at ≤ code_length (plan_at w k) i → (w.progress k i).done ≡ false → HasGone w new (stream_id k i) → steps_left new k < steps_left w k
left_drops w new k i o m within d gone =
    subst (λ p. left_with p (new.progress k) < left_with (plan_at w k) (w.progress k)) (sym o.plan)
    (sum_drops (stream_count w k) (λ j. rest (code_length (plan_at w k) j) (new.progress k j)) (λ j. rest (code_length (plan_at w k) j) (w.progress k j)) i m
    (λ j. rest_falls (code_length (plan_at w k) j) (w.progress k j) (new.progress k j) (o.at j) (o.done j))
    (rest_drops (code_length (plan_at w k) i) (w.progress k i) (new.progress k i) within d gone))

-- a plan that is not done has a step left
left_positive : (w : State) → IsKept w → (k : ℕ) → k < length w.plans → is_unfinished w k ≡ true → 1 ≤ steps_left w k
left_positive w v k l u =
    let i = some_below (stream_count w k) (λ j. not (w.progress k j).done) u in
    let d : (w.progress k i.0).done ≡ false = not-true (w.progress k i.0).done i.2 in
    let within : (w.progress k i.0).at ≤ code_length (plan_at w k) i.0 = ((v.plans k l).streams i.0 i.1).within in
    let one : rest (code_length (plan_at w k) i.0) (w.progress k i.0) ≡ code_length (plan_at w k) i.0 + 1 - (w.progress k i.0).at = rw d refl in
    let part : rest (code_length (plan_at w k) i.0) (w.progress k i.0) ≤ left_with (plan_at w k) (w.progress k) =
    part_of_sum (stream_count w k) (λ j. rest (code_length (plan_at w k) j) (w.progress k j)) i.0 i.1 in
    omega arith

-- what is not done at the end was not done before
unfinished_before : (w new : State) (k : ℕ) → IsOnward w new k → is_unfinished new k ≡ true → is_unfinished w k ≡ true
unfinished_before w new k o u = elim (cases_Bool (is_unfinished w k)) [
  | inl y ↦ y
  | inr n ↦
      let i = some_below (stream_count new k) (λ j. not (new.progress k j).done) u in
      let there : i.0 < stream_count w k = subst (λ (p : PlanModel). i.0 < length p.streams) o.plan i.1 in
      let none : not (w.progress k i.0).done ≡ false = none_below (stream_count w k) (λ j. not (w.progress k j).done) n i.0 there in
      absurd (elim (cases_Bool (w.progress k i.0).done) [
        | inl e ↦ (let z = o.done i.0 e in let t = not-true (new.progress k i.0).done i.2 in cc)
        | inr e ↦ (let z : not (w.progress k i.0).done ≡ true = ap not e in cc)
      ])
]

-- ---- rounds

run_onward : (es : List FleetEvent) (f : Fleet) (k : ℕ) → AllByRecursion StaysInEpoch es → k < length (controller f).w.plans → IsOnward (controller f).w (controller (fleet_run es f)).w k
run_onward [] f k s l = onward_still (controller f).w k l
run_onward (e ∷ es) f k s l =
    let n = (next_of f e s.0 k l).on in
    onward_on (controller f).w (controller (fleet_comes f e).1).w (controller (fleet_run es (fleet_comes f e).1)).w k n (run_onward es (fleet_comes f e).1 k s.1 n.count)

known_first : (es : List FleetEvent) (f : Fleet) → Always AreNamedKnown es f → AreNamedKnown f
known_first [] f a = a
known_first (e ∷ es) f a = a.0

module _ (setup : Setup) (refuses : EachFleet NoLetterIsRefused) (some_goes : EachFleet SomeFleetCanGoOn) where
  -- a stream that can go on has gone on at the end of a round
  stream_goes : (es : List FleetEvent) (f : Fleet) → IsFleetReached setup f → IsRound setup f es → (id : StreamId) → is_begun (controller f).w id ≡ true → (progress_of (controller f).w id).done ≡ false → is_running (controller f).w id ≡ true → FleetGoesOn f id →
      HasGone (controller f).w (controller (fleet_run es f)).w id
  stream_goes es f r round id b d runs goes = by_way goes
    where
      walk : IsWalk setup (controller f) id d es f
      walk = record { reached = r; fit = round.fit; epoch = round.epoch; known = round.known; goes = goes_still (controller f) id b }

      alone : HasMovedOn (controller f).w id (entry_recorded (controller f) (Made (Step id))).w → is_local (controller f).w (Step id) ≡ true
      alone m = elim (cases_Bool (is_local (controller f).w (Step id))) [
        | inl y ↦ y
        | inr n ↦ absurd (not_moved (controller f).w id d (subst (λ (u : State). HasMovedOn (controller f).w id u) (ap (λ t. (if t then goes_on (controller f) (Step id) else controller f).w) n) m))
      ]

      by_way : FleetGoesOn f id → HasGone (controller f).w (controller (fleet_run es f)).w id
      by_way (inl m) =
          let moves : HasMovedOn (controller f).w id (happens (controller f).w (Step id)).1 = subst (λ (u : State). HasMovedOn (controller f).w id u) (ap (λ t. (if t then goes_on (controller f) (Step id) else controller f).w) (alone m)) m in
          ends_by setup (controller f) id d (λ g e rest. e ≡ Make (Step id)) (own_ends setup refuses (controller f) id d (calm_at setup f r) b (alone m) moves) es f walk (round.steps id runs (alone m))
      by_way (inr (inl g)) = elim (round.orders id g.letter g.present) [
        | inl s ↦ ends_by setup (controller f) id d (λ h e rest. (k : ℕ) × (e ≡ Judge k) × (slice_get h.sent k ≡ Some g.letter) × ServerKeeps (verdict_of h g.letter) g.letter.order rest (fleet_comes h e).1)
            (order_ends setup refuses (controller f) id d g.letter g.present) es f walk s
        | inr (inl s) ↦ works_end setup refuses (controller f) id d g.letter g.present es f walk s
        | inr (inr s) ↦ answers_end setup refuses (controller f) id d g.letter g.present es f walk s
      ]
      by_way (inr (inr g)) = elim (round.publications id g.notice g.present) [
        | inl s ↦ ends_by setup (controller f) id d (λ h e rest. (k : ℕ) × (e ≡ Publish k) × (slice_get h.published k ≡ Some g.notice) × OwnerKeeps (owner_verdict h g.notice) g.notice.publication rest (fleet_comes h e).1)
            (publication_ends setup refuses (controller f) id d g.notice g.present) es f walk s
        | inr s ↦ ends_by setup (controller f) id d (λ h e rest. (k : ℕ) × (e ≡ HearOwner k) × (slice_get h.stored k ≡ Some g.notice.publication)) (stored_ends setup refuses (controller f) id d g.notice g.present) es f walk s
      ]

  -- a round takes a plan further that is not done
  round_drops : (es : List FleetEvent) (f : Fleet) → IsFleetReached setup f → IsRound setup f es → (k : ℕ) → k < length (controller f).w.plans → is_unfinished (controller f).w k ≡ true →
      steps_left (controller (fleet_run es f)).w k < steps_left (controller f).w k
  round_drops es f r round k l unfinished =
      let w = (controller f).w in
      let s = some_goes setup f r (known_first es f round.known) k l unfinished in
      let id = stream_id k s.0 in
      let begun : is_begun w id ≡ true = is_begun_true w id (record { plan = l; stream = s.1 }) in
      let runs : is_running w id ≡ true = rw begun (rw s.2 refl) in
      left_drops w (controller (fleet_run es f)).w k s.0 (run_onward es f k round.epoch l) s.1 (((kept_at setup f r).plans k l).streams s.0 s.1).within s.2 (stream_goes es f r round id begun s.2 runs s.3)

  -- what rounds leave of a plan
  record IsLess (f g : Fleet) (k n : ℕ) : Type 0 where
    pub reached : IsFleetReached setup g
    pub on : IsOnward (controller f).w (controller g).w k
    pub less : is_unfinished (controller g).w k ≡ true → steps_left (controller g).w k + n ≤ steps_left (controller f).w k

  rounds_less : (rounds : List (List FleetEvent)) (f : Fleet) → IsFleetReached setup f → AreRounds setup f rounds → (k : ℕ) → k < length (controller f).w.plans → IsLess f (after_rounds rounds f) k (length rounds)
  rounds_less [] f r all k l = record { reached = r; on = onward_still (controller f).w k l; less = λ u. omega arith }
  rounds_less (es ∷ rounds) f r all k l =
      let on = run_onward es f k all.0.epoch l in
      let rest = rounds_less rounds (fleet_run es f) (reached_on setup f es r all.0.fit) all.1 k on.count in
      let whole = onward_on (controller f).w (controller (fleet_run es f)).w (controller (after_rounds rounds (fleet_run es f))).w k on rest.on in
      record {
        reached = rest.reached;
        on = whole;
        less = λ u. (
            let more = rest.less u in
            let drop = round_drops es f r all.0 k l (unfinished_before (controller f).w (controller (after_rounds rounds (fleet_run es f))).w k whole u) in
            omega arith
            );
      }

-- a plan is done after as many rounds as its streams have steps left
pub rounds_end_plans : EachFleet NoLetterIsRefused → EachFleet SomeFleetCanGoOn → EachFleet RoundsEndPlans
rounds_end_plans refuses some_goes setup f r rounds k all l enough =
    let x = rounds_less setup refuses some_goes rounds f r all k l in
    elim (cases_Bool (is_unfinished (controller (after_rounds rounds f)).w k)) [
      | inr n ↦ n
      | inl u ↦ absurd (
          let less = x.less u in
          let one = left_positive (controller (after_rounds rounds f)).w (kept_at setup (after_rounds rounds f) x.reached) k x.on.count u in
          omega arith
          )
    ]
