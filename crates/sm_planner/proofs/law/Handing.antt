-- The room that a move waits for, and the room that it hands on.
use Rattle.std.proofs.Common.{◌≡◌, ◌≢◌, ℕ, zero, suc, ◌+◌, ◌-◌, ◌<◌, ◌≤◌, Bool, true, false, cond, Ok, List, [], ◌∷◌, length, refl, sym, ap, ◌∙◌, arith, inl, inr, subst}
use Rattle.std.specs.Prelude.{◌==◌, ◌&&◌, not, nat_lt, filter, map, sum_by}
use Rattle.std.specs.List.{range_with_len, flat_map}
use Rattle.std.proofs.lemmas.Bool.{cases_Bool, cases_eq, cases_lt, eq-eqb, ne_eqb, eqb-true, lt-ltb, le-leb, ltb-true, and_parts}
use Rattle.std.proofs.lemmas.List.{get_or-map}
use Rattle.std.proofs.lemmas.List.Sums.{sum_by-cons, sum_by-append}
use Rattle.std.proofs.lemmas.List.Concat.{flat_map-append}
use Rattle.sm_placement.specs.Setup.{Sizes}
use Rattle.sm_placement.specs.Sums.{sum_below}
use Rattle.sm_placement.proofs.Sums.{same_sum, sum_one, sum_zero, put-here, put-apart}
use Rattle.sm_reservation.specs.Rights.{Rights, no_rights}
use Rattle.sm_reservation.specs.Hold.{Hold, get_room, pay_room}
use Rattle.sm_plan_code.specs.declared.instruction.Instr.TheVariants.{Signal, Wait}
use Rattle.sm_plan_code.specs.After.{decided, wait_line, signal_line, after}
use Rattle.sm_plan_code.specs.declared.moves.Move.{Move}
use Rattle.sm_verifier.specs.Step.{parcels_of}
use Rattle.sm_verifier.proofs.SumLemmas.{sum_by-below}
use Rattle.sm_planner.specs.Basis.{Basis}
use Rattle.sm_planner.specs.Payment.{HandedRoom, handed, from_move, is_handed, stream_of, signals_of}
use Rattle.sm_planner.specs.Plan.{signal_at, handed_parcel, planned, waits_of, posts_of}
use Rattle.sm_planner.proofs.Ranges.{range_suc}
use Rattle.sm_planner.proofs.law.Gathered.{StandsIn, stands_below}
use Rattle.sm_planner.proofs.law.Signals.{is_handed_on}
use Rattle.sm_planner.proofs.law.Payments.{to, from, from_move_other, from_move_early}
use Rattle.sm_planner.proofs.law.Leading.{Leads}

-- ---- sums

-- the sum over the numbers below n is `sum_below`
pub sum_of_range : (n : ℕ) (f : ℕ → ℕ) → sum_by f (range_with_len 0 n) ≡ sum_below n f
sum_of_range zero f = refl
sum_of_range (suc n) f =
    let more = ap (sum_by f) (range_suc n) ∙ sum_by-append f (range_with_len 0 n) (n ∷ []) in
    let low = sum_of_range n f in
    more ∙ (omega arith)

sum_of_parts : {Y : Type 0} (g : Y → ℕ) (f : ℕ → List Y) (n : ℕ) → sum_by g (flat_map f (range_with_len 0 n)) ≡ sum_below n (λ k. sum_by g (f k))
sum_of_parts g f zero = refl
sum_of_parts g f (suc n) =
    let more = ap (λ ks. sum_by g (flat_map f ks)) (range_suc n) ∙ ap (sum_by g) (flat_map-append f (range_with_len 0 n) (n ∷ [])) ∙ sum_by-append g (flat_map f (range_with_len 0 n)) (flat_map f (n ∷ [])) in
    let one = sum_by-append g (f n) [] in
    let low = sum_of_parts g f n in
    more ∙ (omega arith)

picked_in : {X Y : Type 0} (f : X → Y) (test : X → Bool) (x : X) (xs : List X) → test x ≡ true → map f (filter test (x ∷ xs)) ≡ f x ∷ map f (filter test xs)
picked_in f test x xs passes = rw passes refl

picked_out : {X Y : Type 0} (f : X → Y) (test : X → Bool) (x : X) (xs : List X) → test x ≡ false → map f (filter test (x ∷ xs)) ≡ map f (filter test xs)
picked_out f test x xs fails = rw fails refl

-- the sum over those that pass is the sum over all, with 0 for each that doesn't
pub sum_of_picked : {X Y : Type 0} (g : Y → ℕ) (f : X → Y) (test : X → Bool) (xs : List X) → sum_by g (map f (filter test xs)) ≡ sum_by (λ x. cond (test x) (g (f x)) 0) xs
sum_of_picked g f test [] = refl
sum_of_picked g f test (x ∷ xs) =
    let b = sum_by-cons (λ x. cond (test x) (g (f x)) 0) x xs in
    let low = sum_of_picked g f test xs in
    elim (cases_Bool (test x)) [
      | inl passes ↦
          let e : cond (test x) (g (f x)) 0 ≡ g (f x) = rw passes refl in
          let a = sum_by-cons g (f x) (map f (filter test xs)) in
          ap (sum_by g) (picked_in f test x xs passes) ∙ (omega arith)
      | inr fails ↦
          let e : cond (test x) (g (f x)) 0 ≡ 0 = rw fails refl in
          ap (sum_by g) (picked_out f test x xs fails) ∙ (omega arith)
    ]

-- where 0 is what counts, it does not matter whether a test holds
pub cond_nothing : (t : Bool) → ◌≡◌ {A = ℕ} (cond t 0 0) 0
cond_nothing true = refl
cond_nothing false = refl

module _ (b : Basis) (order : List Move) where
  abbrev signals : List HandedRoom
  signals = signals_of b order

  -- a sum over the signals is one over the moves that pay and the moves before them
  sum_of_signals : (g : HandedRoom → ℕ) → sum_by (λ q. g (signal_at signals q)) (range_with_len 0 (length signals)) ≡ sum_below (length order) (λ k. sum_below k (λ j. cond (is_handed b order k j) (g (handed k j)) 0))
  sum_of_signals g =
      sum_of_range (length signals) (λ q. g (signal_at signals q))
      ∙ sym (sum_by-below g signals (handed 0 0))
      ∙ sum_of_parts g (λ k. map (handed k) (filter (is_handed b order k) (range_with_len 0 k))) (length order)
      ∙ same_sum (length order) (λ k. sum_by g (map (handed k) (filter (is_handed b order k) (range_with_len 0 k)))) (λ k. sum_below k (λ j. cond (is_handed b order k j) (g (handed k j)) 0))
      (λ k l. sum_of_picked g (handed k) (is_handed b order k) (range_with_len 0 k) ∙ sum_of_range k (λ j. cond (is_handed b order k j) (g (handed k j)) 0))

  -- how much a signal carries
  abbrev pub amount : ℕ → ℕ
  amount q = from_move b order (signal_at signals q).payer (signal_at signals q).source

  -- what a move pays with the room of moves of other streams
  abbrev pub of_others : ℕ → ℕ → ℕ
  of_others k j = cond (stream_of k == stream_of j) 0 (from_move b order k j)

  if_handed : (k j : ℕ) → cond (is_handed b order k j) (from_move b order k j) 0 ≡ of_others k j
  if_handed k j = go (from_move b order k j) (stream_of k == stream_of j)
    where
      go : (n : ℕ) (same : Bool) → cond (nat_lt 0 n && not same) n 0 ≡ cond same 0 n
      go n true = elim (cases_Bool (nat_lt 0 n)) [ inl some ↦ rw some refl | inr none ↦ rw none refl ]
      go zero false = refl
      go (suc n) false = rw (lt-ltb 0 (suc n) (omega arith)) refl

  pub waited : (n : ℕ) → n < length order → sum_by (λ q. cond ((signal_at signals q).payer == n) (amount q) 0) (range_with_len 0 (length signals)) ≡ sum_below n (of_others n)
  waited n l =
      sum_of_signals (λ h. cond (h.payer == n) (from_move b order h.payer h.source) 0)
      ∙ sum_one (length order) (λ k. sum_below k (λ j. cond (is_handed b order k j) (cond (k == n) (from_move b order k j) 0) 0)) n l
      (λ k apart. sum_zero k (λ j. cond (is_handed b order k j) (cond (k == n) (from_move b order k j) 0) 0) (λ j. rw (ne_eqb k n apart) (cond_nothing (is_handed b order k j))))
      ∙ same_sum n (λ j. cond (is_handed b order n j) (cond (n == n) (from_move b order n j) 0) 0) (of_others n) (λ j m. rw (eq-eqb n n refl) (if_handed n j))

  pub handed_on : (n : ℕ) → sum_by (λ q. cond ((signal_at signals q).source == n) (amount q) 0) (range_with_len 0 (length signals)) ≡ sum_below (length order) (λ k. of_others k n)
  handed_on n =
      sum_of_signals (λ h. cond (h.source == n) (from_move b order h.payer h.source) 0)
      ∙ same_sum (length order) (λ k. sum_below k (λ j. cond (is_handed b order k j) (cond (j == n) (from_move b order k j) 0) 0)) (λ k. of_others k n) (λ k l. each k)
    where
      none : (k j : ℕ) → j ≢ n → cond (is_handed b order k j) (cond (j == n) (from_move b order k j) 0) 0 ≡ 0
      none k j apart = rw (ne_eqb j n apart) (cond_nothing (is_handed b order k j))

      all_none : (k m : ℕ) → m ≤ n → sum_below m (λ j. cond (is_handed b order k j) (cond (j == n) (from_move b order k j) 0) 0) ≡ 0
      all_none k zero l = refl
      all_none k (suc m) l = let low = all_none k m (omega arith) in let one = none k m (λ e. absurd (omega arith)) in omega arith

      each : (k : ℕ) → sum_below k (λ j. cond (is_handed b order k j) (cond (j == n) (from_move b order k j) 0) 0) ≡ of_others k n
      each k = elim (cases_lt n k) [
        | inl less ↦ sum_one k (λ j. cond (is_handed b order k j) (cond (j == n) (from_move b order k j) 0) 0) n less (λ j apart. none k j apart) ∙ rw (eq-eqb n n refl) (if_handed k n)
        | inr early ↦ all_none k k early ∙ sym (zero_early k early)
      ]
        where
          zero_early : (k : ℕ) → k ≤ n → of_others k n ≡ 0
          zero_early k l = elim (cases_Bool (stream_of k == stream_of n)) [
            | inl same ↦ rw same refl
            | inr other ↦ rw other (from_move_early b order k n l)
          ]

-- ---- parcels of room

abbrev pub one_room : ℕ → ℕ → Rights
one_room v n = record { cells = []; crowns = []; room = record { server = v; amount = n } ∷ []; spare = [] }

pub record IsRoomChanged (h g : Hold) (v : ℕ) : Type 0 where
  pub cells : g.cells ≡ h.cells
  pub crowns : g.crowns ≡ h.crowns
  pub room : (w : ℕ) → w ≢ v → g.room w ≡ h.room w

module _ (c : Sizes) (parcels : ℕ → Rights) (v : ℕ) (much : ℕ → ℕ) (test : ℕ → Bool) where
  abbrev CarryRoom : List ℕ → Type 0
  CarryRoom xs = (q : ℕ) → StandsIn q xs → test q ≡ true → parcels q ≡ one_room v (much q)

  abbrev pub sum_passing : List ℕ → ℕ
  sum_passing xs = sum_by (λ q. cond (test q) (much q) 0) xs

  pub wait_for_all : (xs : List ℕ) (h : Hold) → CarryRoom xs → (g : Hold) × Leads c parcels h (map Wait (filter test xs)) g × IsRoomChanged h g v × (g.room v ≡ h.room v + sum_passing xs)
  wait_for_all [] h are = (h, refl, record { cells = refl; crowns = refl; room = λ w other. refl }, omega arith)
  wait_for_all (x ∷ xs) h are =
      let sums = sum_by-cons (λ q. cond (test q) (much q) 0) x xs in
      elim (cases_Bool (test x)) [
        | inl passes ↦
            let next : Hold = get_room h v (much x) in
            let here : next.room v ≡ h.room v + much x = put-here h.room v (h.room v + much x) v refl in
            let made : after c parcels (Wait x) h ≡ Ok next = ap (λ p. decided (wait_line p h)) (are x (inl refl) passes) in
            let rest = wait_for_all xs next (λ q s. are q (inr s)) in
            let one : cond (test x) (much x) 0 ≡ much x = rw passes refl in
            let total = rest.3 in (
              rest.0,
              subst (λ code. Leads c parcels h code rest.0) (sym (picked_in Wait test x xs passes)) (next, made, rest.1),
              record {
                cells = rest.2.cells;
                crowns = rest.2.crowns;
                room = λ w other. rest.2.room w other ∙ put-apart h.room v (h.room v + much x) w other;
              },
              omega arith,
            )
        | inr fails ↦
            let rest = wait_for_all xs h (λ q s. are q (inr s)) in
            let one : cond (test x) (much x) 0 ≡ 0 = rw fails refl in
            let total = rest.3 in
            (rest.0, subst (λ code. Leads c parcels h code rest.0) (sym (picked_out Wait test x xs fails)) rest.1, rest.2, omega arith)
      ]

  pub post_all : (xs : List ℕ) (h : Hold) → CarryRoom xs → sum_passing xs ≤ h.room v → (g : Hold) × Leads c parcels h (map Signal (filter test xs)) g × IsRoomChanged h g v × (g.room v + sum_passing xs ≡ h.room v)
  post_all [] h are enough = (h, refl, record { cells = refl; crowns = refl; room = λ w other. refl }, omega arith)
  post_all (x ∷ xs) h are enough =
      let sums = sum_by-cons (λ q. cond (test q) (much q) 0) x xs in
      elim (cases_Bool (test x)) [
        | inl passes ↦
            let one : cond (test x) (much x) 0 ≡ much x = rw passes refl in
            let next : Hold = pay_room h v (much x) in
            let here : next.room v ≡ h.room v - much x = put-here h.room v (h.room v - much x) v refl in
            let posted : decided (signal_line (one_room v (much x)) h) ≡ Ok next = rw (le-leb (much x) (h.room v) (omega arith)) refl in
            let made : after c parcels (Signal x) h ≡ Ok next = ap (λ p. decided (signal_line p h)) (are x (inl refl) passes) ∙ posted in
            let rest = post_all xs next (λ q s. are q (inr s)) (omega arith) in
            let total = rest.3 in (
              rest.0,
              subst (λ code. Leads c parcels h code rest.0) (sym (picked_in Signal test x xs passes)) (next, made, rest.1),
              record {
                cells = rest.2.cells;
                crowns = rest.2.crowns;
                room = λ w other. rest.2.room w other ∙ put-apart h.room v (h.room v - much x) w other;
              },
              omega arith,
            )
        | inr fails ↦
            let one : cond (test x) (much x) 0 ≡ 0 = rw fails refl in
            let rest = post_all xs h (λ q s. are q (inr s)) (omega arith) in
            let total = rest.3 in
            (rest.0, subst (λ code. Leads c parcels h code rest.0) (sym (picked_out Signal test x xs fails)) rest.1, rest.2, omega arith)
      ]

-- ---- the waits and the posts of a move

module _ (c : Sizes) (b : Basis) (order : List Move) where
  abbrev parcels : ℕ → Rights
  parcels = parcels_of (planned b order).signals

  parcel_is : (q : ℕ) → q < length (signals_of b order) → parcels q ≡ one_room (to b order (signal_at (signals_of b order) q).payer) (amount b order q)
  parcel_is q l = get_or-map (handed_parcel b order) (signals_of b order) q (handed 0 0) no_rights l

  -- the waits of a move can all be made, and bring the room that others hand to it
  pub wait_for_room : (n : ℕ) → n < length order → (h : Hold) → (g : Hold) × Leads c parcels h (waits_of (signals_of b order) n) g × IsRoomChanged h g (to b order n) × (g.room (to b order n) ≡ h.room (to b order n) + sum_below n (of_others b order n))
  wait_for_room n l h =
      let all = wait_for_all c parcels (to b order n) (amount b order) (λ q. (signal_at (signals_of b order) q).payer == n) (range_with_len 0 (length (signals_of b order))) h
      (λ q s own. parcel_is q (stands_below (length (signals_of b order)) q s) ∙ ap (λ k. one_room (to b order k) (amount b order q)) (eqb-true (signal_at (signals_of b order) q).payer n own)) in
      (all.0, all.1, all.2, all.3 ∙ ap (λ m. h.room (to b order n) + m) (waited b order n l))

  -- room goes on only where the move that pays with it goes
  source_is_there : (k j : ℕ) → is_handed b order k j ≡ true → from b order j ≡ to b order k
  source_is_there k j e =
      let some = ltb-true 0 (from_move b order k j) (and_parts (nat_lt 0 (from_move b order k j)) (not (stream_of k == stream_of j)) e).0 in
      elim (cases_eq (from b order j) (to b order k)) [
        | inl same ↦ same
        | inr other ↦ absurd (let none = from_move_other b order k j other in omega arith)
      ]

  -- where there is room enough, the posts of a move can all be made, and take what it hands on
  pub hand_on_room : (n : ℕ) (h : Hold) → sum_below (length order) (λ k. of_others b order k n) ≤ h.room (from b order n) → (g : Hold) × Leads c parcels h (posts_of (signals_of b order) n) g × IsRoomChanged h g (from b order n) × (g.room (from b order n) + sum_below (length order) (λ k. of_others b order k n) ≡ h.room (from b order n))
  hand_on_room n h enough =
      let sums = handed_on b order n in
      let all = post_all c parcels (from b order n) (amount b order) (λ q. (signal_at (signals_of b order) q).source == n) (range_with_len 0 (length (signals_of b order))) h
      (λ q s own.
      let l = stands_below (length (signals_of b order)) q s in
      let on = is_handed_on b order q l in
      parcel_is q l ∙ ap (λ v. one_room v (amount b order q)) (sym (source_is_there (signal_at (signals_of b order) q).payer (signal_at (signals_of b order) q).source on.handed) ∙ ap (from b order) (eqb-true (signal_at (signals_of b order) q).source n own)))
      (omega arith) in
      (all.0, all.1, all.2, ap (λ m. (all.0).room (from b order n) + m) (sym sums) ∙ all.3)
