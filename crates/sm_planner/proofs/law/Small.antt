-- The plan of moves that the rule does not refuse is within the limits of plans.
use Rattle.std.proofs.Common.{◌≡◌, ℕ, zero, suc, ◌+◌, ◌-◌, ◌*◌, ◌<◌, ◌≤◌, Bool, true, false, cond, List, [], ◌∷◌, ◌++◌, length, refl, ap, ◌∙◌, arith, inl, inr, length-append}
use Rattle.std.specs.Prelude.{filter, sum_by, ◌==◌, ◌/◌, nat_lt}
use Rattle.std.specs.List.{range_with_len, AllByRecursion}
use Rattle.std.proofs.lemmas.Bool.{cases_Bool, cases_eq, eq-eqb, ne_eqb}
use Rattle.std.proofs.lemmas.List.{length-map}
use Rattle.std.proofs.lemmas.List.Elements.{All-from_recursion, All-map, All-get_or}
use Rattle.std.proofs.lemmas.List.Sums.{count_by-le-length, length-filter}
use Rattle.std.proofs.lemmas.List.Sorted.{length_permutation}
use Rattle.sm_server.specs.Cell.{is_primary}
use Rattle.sm_placement.specs.declared.limits.TheConstants.{MOST_LOAD}
use Rattle.sm_placement.specs.Setup.{IsSetup, sizes_of, no_shard}
use Rattle.sm_placement.specs.Place.{Place}
use Rattle.sm_placement.specs.Sums.{sum_below}
use Rattle.sm_placement.proofs.Sums.{same_sum, sum_of_both, part_of_sum, sum-le}
use Rattle.sm_reservation.specs.declared.right.Room.{Room}
use Rattle.sm_reservation.specs.Key.{key_of_cell, key_of_crown, key_of_room}
use Rattle.sm_reservation.specs.InOrder.{sorted}
use Rattle.sm_reservation.proofs.SortedRows.{sorted_permutes}
use Rattle.sm_plan_code.specs.declared.instruction.Instr.TheVariants.{Signal, Wait}
use Rattle.sm_plan_code.specs.declared.limits.TheConstants.{MOST_AMOUNT}
use Rattle.sm_plan_code.specs.Instr.{is_call}
use Rattle.sm_plan_code.specs.Plan.{StreamModel, IsSmallParcel, IsSmallStream, IsSmallPlan}
use Rattle.sm_plan_code.specs.declared.moves.Move.{Move}
use Rattle.sm_planner.specs.Basis.{Basis, IsMoveOf, move_at, left_cell}
use Rattle.sm_planner.specs.Payment.{HandedRoom, stream_of, from_move, signals_of}
use Rattle.sm_planner.specs.Plan.{signal_at, handed_parcel, instructions, waits_of, posts_of, move_code, moves_of, cells_needed, crowns_of, paid_by, room_by, needs_by, holds_of, stream, streams_of, planned}
use Rattle.sm_planner.proofs.law.Gathered.{gathered, gathered_own, gathered_other, StandsIn, stands_below}
use Rattle.sm_planner.proofs.law.Codes.{width, stream_count}
use Rattle.sm_planner.proofs.law.Signals.{IsHandedOn, is_handed_on, are_handed_on}
use Rattle.sm_planner.proofs.law.Placings.{sum_of_map}
use Rattle.std.proofs.lemmas.List.FromFn.{length-map-range_with_len}
use Rattle.sm_planner.proofs.law.Payments.{load, IsAffordable, pays_its_load, pool_paid, pool_pays_what_it_has}
use Rattle.sm_planner.proofs.law.Handing.{sum_of_range}
use Rattle.sm_planner.proofs.law.Owing.{sum_each, part_of}
use Rattle.sm_planner.proofs.law.Sorting.{from_sorted, stood, stands_mapped}
use Rattle.sm_planner.proofs.law.Good.{room_paid_is}
use Rattle.sm_planner.proofs.law.Knowns.{all_standing}
use Rattle.sm_planner.proofs.law.Admitted.{sum_of_classes, ones}
use Rattle.sm_planner.proofs.Streams.{instructions_short}

-- ---- lengths of what is gathered

length_gathered : {T : Type 0} (class : ℕ → ℕ) (part : ℕ → List T) (n i : ℕ) → length (gathered class part n i) ≡ sum_below n (λ k. cond (class k == i) (length (part k)) 0)
length_gathered class part zero i = refl
length_gathered class part (suc n) i =
    let low = length_gathered class part n i in
    elim (cases_eq (class n) i) [
      | inl own ↦
          let here : cond (class n == i) (length (part n)) 0 ≡ length (part n) = rw (eq-eqb (class n) i own) refl in
          ap length (gathered_own class part n i own) ∙ length-append (gathered class part n i) (part n) ∙ (omega arith)
      | inr other ↦
          let here : cond (class n == i) (length (part n)) 0 ≡ 0 = rw (ne_eqb (class n) i other) refl in
          ap length (gathered_other class part n i other) ∙ (omega arith)
    ]

-- how many moves a stream has
moves_in : (i n : ℕ) → i < 64 → sum_below n (λ k. cond (stream_of k == i) 1 0) ≡ (n + 63 - i) / 64
moves_in i zero l = omega arith
moves_in i (suc n) l =
    let low = moves_in i n l in
    elim (cases_eq (stream_of n) i) [
      | inl own ↦ (let here : ◌≡◌ {A = ℕ} (cond (stream_of n == i) 1 0) 1 = rw (eq-eqb (stream_of n) i own) refl in omega arith)
      | inr other ↦ (let here : ◌≡◌ {A = ℕ} (cond (stream_of n == i) 1 0) 0 = rw (ne_eqb (stream_of n) i other) refl in omega arith)
    ]

few_moves : (i n : ℕ) → i < 64 → n ≤ 4096 → sum_below n (λ k. cond (stream_of k == i) 1 0) ≤ 64
few_moves i n l m = let is = moves_in i n l in omega arith

-- each part of a class is no longer than m
times : (class : ℕ → ℕ) (f : ℕ → ℕ) (i m n : ℕ) → ((k : ℕ) → f k ≤ m) → sum_below n (λ k. cond (class k == i) (f k) 0) ≤ m * sum_below n (λ k. cond (class k == i) 1 0)
times class f i m zero most = omega arith
times class f i m (suc n) most =
    let low = times class f i m n most in
    let one = most n in
    elim (cases_eq (class n) i) [
      | inl own ↦
          let here : cond (class n == i) (f n) 0 ≡ f n = rw (eq-eqb (class n) i own) refl in
          let count : ◌≡◌ {A = ℕ} (cond (class n == i) 1 0) 1 = rw (eq-eqb (class n) i own) refl in
          grind arith
      | inr other ↦
          let here : cond (class n == i) (f n) 0 ≡ 0 = rw (ne_eqb (class n) i other) refl in
          let count : ◌≡◌ {A = ℕ} (cond (class n == i) 1 0) 0 = rw (ne_eqb (class n) i other) refl in
          grind arith
    ]

cond_three : (t : Bool) (x y z : ℕ) → cond t (x + (y + z)) 0 ≡ cond t x 0 + (cond t y 0 + cond t z 0)
cond_three true x y z = refl
cond_three false x y z = refl

needed_short : (p : Place) (m : Move) → length (cells_needed p m) ≤ 2
needed_short p m = elim (cases_Bool (is_primary (left_cell p m))) [ inl leads ↦ rw leads (omega arith) | inr follows ↦ rw follows (omega arith) ]

crowned_short : (p : Place) (m : Move) → length (crowns_of p m) ≤ 1
crowned_short p m = elim (cases_Bool (is_primary (left_cell p m))) [ inl leads ↦ rw leads (omega arith) | inr follows ↦ rw follows (omega arith) ]

length_sorted : {T : Type 0} (key_of : T → ℕ × ℕ) (xs : List T) → length (sorted key_of xs) ≡ length xs
length_sorted key_of xs = length_permutation xs (sorted key_of xs) (sorted_permutes key_of xs)

module _ (b : Basis) (order : List Move) (few : length order ≤ 4096) (few_signals : length (signals_of b order) ≤ 256) where
  abbrev signals : List HandedRoom
  signals = signals_of b order

  abbrev own : ℕ → ℕ
  own i = sum_below (length order) (λ k. cond (stream_of k == i) 1 0)

  own_few : (i : ℕ) → i < width order → own i ≤ 64
  own_few i l = few_moves i (length order) (omega arith) few

  -- ---- how long a code is

  waits_are : (k : ℕ) → length (waits_of signals k) ≡ sum_below (length signals) (λ q. cond ((signal_at signals q).payer == k) 1 0)
  waits_are k =
      length-map (filter (λ q. (signal_at signals q).payer == k) (range_with_len 0 (length signals))) Wait
      ∙ length-filter (λ q. (signal_at signals q).payer == k) (range_with_len 0 (length signals))
      ∙ sum_of_range (length signals) (λ q. cond ((signal_at signals q).payer == k) 1 0)

  posts_are : (k : ℕ) → length (posts_of signals k) ≡ sum_below (length signals) (λ q. cond ((signal_at signals q).source == k) 1 0)
  posts_are k =
      length-map (filter (λ q. (signal_at signals q).source == k) (range_with_len 0 (length signals))) Signal
      ∙ length-filter (λ q. (signal_at signals q).source == k) (range_with_len 0 (length signals))
      ∙ sum_of_range (length signals) (λ q. cond ((signal_at signals q).source == k) 1 0)

  all_waits : sum_below (length order) (λ k. length (waits_of signals k)) ≡ length signals
  all_waits =
      same_sum (length order) (λ k. length (waits_of signals k)) (λ k. sum_below (length signals) (λ q. cond ((signal_at signals q).payer == k) 1 0)) (λ k l. waits_are k)
      ∙ sum_of_classes (λ q. (signal_at signals q).payer) (λ q. 1) (length order) (length signals) (λ q l. (is_handed_on b order q l).payer)
      ∙ ones (length signals)

  all_posts : sum_below (length order) (λ k. length (posts_of signals k)) ≡ length signals
  all_posts =
      same_sum (length order) (λ k. length (posts_of signals k)) (λ k. sum_below (length signals) (λ q. cond ((signal_at signals q).source == k) 1 0)) (λ k l. posts_are k)
      ∙ sum_of_classes (λ q. (signal_at signals q).source) (λ q. 1) (length order) (length signals) (λ q l. (let on = is_handed_on b order q l in let one = on.payer in let two = on.source in omega arith))
      ∙ ones (length signals)

  code_parts : (k : ℕ) → length (move_code b order k) ≡ length (waits_of signals k) + (length (instructions b.place (move_at order k)) + length (posts_of signals k))
  code_parts k = length-append (waits_of signals k) (instructions b.place (move_at order k) ++ posts_of signals k) ∙ ap (λ n. length (waits_of signals k) + n) (length-append (instructions b.place (move_at order k)) (posts_of signals k))

  short_code : (i : ℕ) → i < width order → length (stream b order i).code ≤ 832
  short_code i l =
      let all = length_gathered stream_of (move_code b order) (length order) i in
      let split = same_sum (length order) (λ k. cond (stream_of k == i) (length (move_code b order k)) 0)
      (λ k. cond (stream_of k == i) (length (waits_of signals k)) 0 + (cond (stream_of k == i) (length (instructions b.place (move_at order k))) 0 + cond (stream_of k == i) (length (posts_of signals k)) 0))
      (λ k m. ap (λ n. cond (stream_of k == i) n 0) (code_parts k) ∙ cond_three (stream_of k == i) (length (waits_of signals k)) (length (instructions b.place (move_at order k))) (length (posts_of signals k))) in
      let one = sum_of_both (length order) (λ k. cond (stream_of k == i) (length (waits_of signals k)) 0) (λ k. cond (stream_of k == i) (length (instructions b.place (move_at order k))) 0 + cond (stream_of k == i) (length (posts_of signals k)) 0) in
      let two = sum_of_both (length order) (λ k. cond (stream_of k == i) (length (instructions b.place (move_at order k))) 0) (λ k. cond (stream_of k == i) (length (posts_of signals k)) 0) in
      let waits = sum_each (length order) (λ k. cond (stream_of k == i) (length (waits_of signals k)) 0) (λ k. length (waits_of signals k)) (λ k m. part_of (stream_of k == i) (length (waits_of signals k))) in
      let posts = sum_each (length order) (λ k. cond (stream_of k == i) (length (posts_of signals k)) 0) (λ k. length (posts_of signals k)) (λ k m. part_of (stream_of k == i) (length (posts_of signals k))) in
      let middle = times stream_of (λ k. length (instructions b.place (move_at order k))) i 5 (length order) (λ k. instructions_short b.place (move_at order k)) in
      let count = own_few i l in
      let w = all_waits in
      let p = all_posts in
      omega arith

  short_budget : (i : ℕ) → i < width order → (stream b order i).budget ≤ 832
  short_budget i l = let most = count_by-le-length is_call (stream b order i).code in let short = short_code i l in omega arith

  short_total : sum_by (λ (s : StreamModel). s.budget) (streams_of b order) ≤ 53248
  short_total =
      let is = sum_of_map (λ (s : StreamModel). s.budget) (stream b order) (range_with_len 0 (width order)) ∙ sum_of_range (width order) (λ i. (stream b order i).budget) in
      let most = sum-le (width order) 832 (λ i. (stream b order i).budget) short_budget in
      let wide : width order ≤ 64 = omega arith in
      grind arith

  -- ---- how many rights a stream declares

  short_cells : (i : ℕ) → i < width order → length (holds_of b order i).cells ≤ 128
  short_cells i l =
      let is = length_sorted key_of_cell (gathered stream_of (λ k. cells_needed b.place (move_at order k)) (length order) i) ∙ length_gathered stream_of (λ k. cells_needed b.place (move_at order k)) (length order) i in
      let most = times stream_of (λ k. length (cells_needed b.place (move_at order k))) i 2 (length order) (λ k. needed_short b.place (move_at order k)) in
      let count = own_few i l in
      omega arith

  short_crowns : (i : ℕ) → i < width order → length (holds_of b order i).crowns ≤ 64
  short_crowns i l =
      let is = length_sorted key_of_crown (gathered stream_of (λ k. crowns_of b.place (move_at order k)) (length order) i) ∙ length_gathered stream_of (λ k. crowns_of b.place (move_at order k)) (length order) i in
      let most = times stream_of (λ k. length (crowns_of b.place (move_at order k))) i 1 (length order) (λ k. crowned_short b.place (move_at order k)) in
      let count = own_few i l in
      omega arith

  short_rooms : (i : ℕ) → length (holds_of b order i).room ≤ (sizes_of b.setup).servers
  short_rooms i =
      let kept = length-filter (λ (x : Room). nat_lt 0 x.amount) (sorted key_of_room (needs_by b order (moves_of order i)).room) in
      let most = count_by-le-length (λ (x : Room). nat_lt 0 x.amount) (sorted key_of_room (needs_by b order (moves_of order i)).room) in
      let is = length_sorted key_of_room (needs_by b order (moves_of order i)).room in
      let rows : length (needs_by b order (moves_of order i)).room ≡ (sizes_of b.setup).servers = length-map-range_with_len (room_by b order (moves_of order i)) 0 (sizes_of b.setup).servers in
      omega arith

  module _ (setup : IsSetup b.setup) (known : (k : ℕ) → k < length order → IsMoveOf b.setup (move_at order k)) (fits : IsAffordable b order) (rooms : (v : ℕ) → b.pool.room v ≤ MOST_AMOUNT) where
    paid_small : (i v : ℕ) → paid_by b order (moves_of order i) v ≤ MOST_AMOUNT
    paid_small i v =
        let is = room_paid_is b order i v in
        let most = sum_each (length order) (λ k. cond (stream_of k == i) (pool_paid b order v k) 0) (pool_paid b order v) (λ k l. part_of (stream_of k == i) (pool_paid b order v k)) in
        let has = pool_pays_what_it_has b order v in
        let small = rooms v in
        omega arith

    small_room : (i : ℕ) (x : Room) → StandsIn x (holds_of b order i).room → x.amount ≤ MOST_AMOUNT
    small_room i x s =
        let from = stands_mapped (room_by b order (moves_of order i)) x (range_with_len 0 (sizes_of b.setup).servers) (from_sorted key_of_room (needs_by b order (moves_of order i)).room x (stood (λ (y : Room). nat_lt 0 y.amount) x (sorted key_of_room (needs_by b order (moves_of order i)).room) s)) in
        let same : paid_by b order (moves_of order i) from.0 ≡ x.amount = ap (λ (y : Room). y.amount) from.2 in
        let small = paid_small i from.0 in
        omega arith

    small_holds : (i : ℕ) → i < width order → IsSmallParcel (holds_of b order i)
    small_holds i l = record {
      cells = (let short = short_cells i l in omega arith);
      crowns = (let short = short_crowns i l in omega arith);
      room = (let short = short_rooms i in let servers = setup.servers in omega arith);
      spare = omega arith;
      room_amounts = All-from_recursion (λ x. x.amount ≤ MOST_AMOUNT) (holds_of b order i).room (all_standing (λ x. x.amount ≤ MOST_AMOUNT) (holds_of b order i).room (small_room i));
      spare_amounts = All-from_recursion (λ x. x.amount ≤ MOST_AMOUNT) [] tt;
    }

    small_stream : (i : ℕ) → i < width order → IsSmallStream (stream b order i)
    small_stream i l = record {
      budget = (let short = short_budget i l in omega arith);
      retries = omega arith;
      holds = small_holds i l;
      code = (let short = short_code i l in omega arith);
    }

    small_load : (k : ℕ) → k < length order → load b order k ≤ MOST_LOAD
    small_load k l = All-get_or (λ r. r.load ≤ MOST_LOAD) b.setup.shards (move_at order k).shard no_shard (known k l).shard setup.good_loads

    small_handed : (h : HandedRoom) → IsHandedOn b order h → from_move b order h.payer h.source ≤ MOST_AMOUNT
    small_handed h on =
        let all = pays_its_load b order fits h.payer on.payer in
        let part = part_of_sum h.payer (from_move b order h.payer) h.source on.source in
        let most = small_load h.payer on.payer in
        omega arith

    small_parcel : (h : HandedRoom) → IsHandedOn b order h → IsSmallParcel (handed_parcel b order h)
    small_parcel h on = record {
      cells = omega arith;
      crowns = omega arith;
      room = omega arith;
      spare = omega arith;
      room_amounts = All-from_recursion (λ x. x.amount ≤ MOST_AMOUNT) (handed_parcel b order h).room (small_handed h on, tt);
      spare_amounts = All-from_recursion (λ x. x.amount ≤ MOST_AMOUNT) [] tt;
    }

    -- the plan's numbers are within the limits of a plan
    pub is_small : IsSmallPlan (planned b order)
    is_small = record {
      budget = (let total = short_total in omega arith);
      stream_count = (let count = stream_count b order in omega arith);
      signal_count = (let count = length-map signals (handed_parcel b order) in omega arith);
      streams = All-map IsSmallStream (stream b order) (range_with_len 0 (width order)) (All-from_recursion (λ i. IsSmallStream (stream b order i)) (range_with_len 0 (width order)) (all_standing (λ i. IsSmallStream (stream b order i)) (range_with_len 0 (width order)) (λ i s. small_stream i (stands_below (width order) i s))));
      signals = All-map IsSmallParcel (handed_parcel b order) signals (All-from_recursion (λ h. IsSmallParcel (handed_parcel b order h)) signals (all_small signals (are_handed_on b order)));
    }
      where
        all_small : (hs : List HandedRoom) → AllByRecursion (IsHandedOn b order) hs → AllByRecursion (λ h. IsSmallParcel (handed_parcel b order h)) hs
        all_small [] a = tt
        all_small (h ∷ hs) a = (small_parcel h a.0, all_small hs a.1)
