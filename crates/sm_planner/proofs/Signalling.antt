-- The room that stretches hand on is that of the rule's signals.
use Rattle.std.proofs.Common.{◌≡◌, ◌<◌, ◌≤◌, ◌+◌, ◌∙◌, inl, inr, ℕ, zero, suc, Bool, cond, eqb, ltb, ◌&&◌, ◌++◌, List, [], ◌∷◌, length, get_or, map, filter, sym, ap, refl, arith}
use Rattle.std.specs.Prelude.{All, not}
use Rattle.std.specs.List.{range_with_len, flat_map}
use Rattle.std.proofs.lemmas.Bool.{cases_eq, eq-eqb, ne_eqb, lt-ltb, ltb-true, and_parts}
use Rattle.std.proofs.lemmas.List.Elements.{All-append, All-nil, All-map, filter_passes}
use Rattle.std.proofs.lemmas.List.FromFn.{get_or-map-range_with_len, length-map-range_with_len}
use Rattle.sm_placement.specs.Setup.{Setup}
use Rattle.sm_plan_code.specs.declared.moves.Move.{Move}
use Rattle.sm_planner.specs.declared.payment.Placed.{Placed}
use Rattle.sm_planner.specs.Basis.{Basis, IsMoveOf, no_move, move_at}
use Rattle.sm_planner.specs.Payment.{HandedRoom, handed, overlap, frees_from, from_move, is_handed, signals_of, stream_of}
use Rattle.sm_planner.specs.Stretches.{stretch, no_stretch, placed_at, paid_from, is_paid_by, handed_to, IsGiven, IsFreedBehindPool}
use Rattle.sm_placement.proofs.Searches.{none_listed}
use Rattle.sm_planner.proofs.Streams.{passed_known, beside_true}

same_filter : (t r : ℕ → Bool) (a n : ℕ) → ((k : ℕ) → a ≤ k → k < a + n → t k ≡ r k) → filter t (range_with_len a n) ≡ filter r (range_with_len a n)
same_filter t r a zero h = refl
same_filter t r a (suc n) h =
    ap (λ x. cond x (a ∷ filter t (range_with_len (a + 1) n)) (filter t (range_with_len (a + 1) n))) (h a (omega arith) (omega arith))
    ∙ ap (λ xs. cond (r a) (a ∷ xs) xs) (same_filter t r (a + 1) n (λ k l m. h k (omega arith) (omega arith)))

same_joined : {A : Type 0} (f g : ℕ → List A) (a n : ℕ) → ((k : ℕ) → a ≤ k → k < a + n → f k ≡ g k) → flat_map f (range_with_len a n) ≡ flat_map g (range_with_len a n)
same_joined f g a zero h = refl
same_joined f g a (suc n) h = ap (λ xs. xs ++ flat_map f (range_with_len (a + 1) n)) (h a (omega arith) (omega arith)) ∙ ap (λ xs. g a ++ xs) (same_joined f g (a + 1) n (λ k l m. h k (omega arith) (omega arith)))

all_joined : {A : Type 0} (P : A → Type 0) (f : ℕ → List A) (a n : ℕ) → ((k : ℕ) → a ≤ k → k < a + n → All P (f k)) → All P (flat_map f (range_with_len a n))
all_joined P f a zero h = All-nil P
all_joined P f a (suc n) h = All-append P (f a) (flat_map f (range_with_len (a + 1) n)) (h a (omega arith) (omega arith)) (all_joined P f (a + 1) n (λ k l m. h k (omega arith) (omega arith)))

-- the moves in the order in which they are placed
pub ordered_known : (setup : Setup) (moves : List Move) (placed : List ℕ) → All (IsMoveOf setup) moves → All (λ i. i < length moves) placed → All (IsMoveOf setup) (map (move_at moves) placed)
ordered_known setup moves placed known within = All-map (IsMoveOf setup) (move_at moves) placed (λ k d l. known (get_or placed k d) no_move (within k d l))

-- each placed move has its stretches
at_stretch : (b : Basis) (order : List Move) (placed : List Placed) (k : ℕ) → placed ≡ map (stretch b order) (range_with_len 0 (length order)) → k < length order →
    placed_at placed k ≡ stretch b order k
at_stretch b order placed k is l = ap (λ (xs : List Placed). get_or xs k no_stretch) is ∙ get_or-map-range_with_len (stretch b order) 0 (length order) k k no_stretch l (omega arith)

-- what placed moves free lies behind the room of the pool
pub freed_behind : (b : Basis) (order : List Move) (placed : List Placed) → placed ≡ map (stretch b order) (range_with_len 0 (length order)) → IsFreedBehindPool placed
freed_behind b order placed is k j l m e =
    let n : length placed ≡ length order = ap length is ∙ length-map-range_with_len (stretch b order) 0 (length order) in
    let payer : placed_at placed k ≡ stretch b order k = at_stretch b order placed k is (omega arith) in
    let source : placed_at placed j ≡ stretch b order j = at_stretch b order placed j is (omega arith) in
    let same : (move_at order j).from ≡ (move_at order k).to = ap (λ (p : Placed). p.wanted.from) (sym source) ∙ e ∙ ap (λ (p : Placed). p.wanted.to) payer in
    let pool : (placed_at placed k).pool ≡ b.pool.room (move_at order j).from = ap (λ (p : Placed). p.pool) payer ∙ ap b.pool.room (sym same) in
    let frees : (placed_at placed j).frees_from ≡ frees_from b order j = ap (λ (p : Placed). p.frees_from) source in
    omega arith

-- a stretch that lies in the pool's room has no part of one behind it
pub none_behind : (a n pool b m : ℕ) → overlap a n 0 pool ≡ n → pool ≤ b → overlap a n b m ≡ 0
none_behind a n pool b m e l = omega arith

-- a placed move that pays with room of the pool alone is handed none
pub handed_none : (placed : List Placed) (k : ℕ) → IsFreedBehindPool placed → k < length placed →
    overlap (placed_at placed k).takes_from (placed_at placed k).load 0 (placed_at placed k).pool ≡ (placed_at placed k).load → handed_to placed k ≡ []
handed_none placed k behind l e = ap (map (handed k)) (none_listed (is_paid_by placed k) 0 k (λ j x m. elim (cases_eq (placed_at placed j).wanted.from (placed_at placed k).wanted.to) [
  | inl q ↦ rw (eq-eqb (placed_at placed j).wanted.from (placed_at placed k).wanted.to q, none_behind (placed_at placed k).takes_from (placed_at placed k).load (placed_at placed k).pool (placed_at placed j).frees_from (placed_at placed j).load e (behind k j l (omega arith) q)) refl
  | inr q ↦ rw (ne_eqb (placed_at placed j).wanted.from (placed_at placed k).wanted.to q) refl
]))

-- by stretches or by the rule
paid_is : (b : Basis) (order : List Move) (placed : List Placed) (k j : ℕ) → placed ≡ map (stretch b order) (range_with_len 0 (length order)) → k < length order → j < k →
    is_paid_by placed k j ≡ is_handed b order k j
paid_is b order placed k j is l m = ap (λ x. ltb 0 x && not (eqb (stream_of k) (stream_of j))) (ap (λ (p : Placed). paid_from p (placed_at placed j)) (at_stretch b order placed k is l) ∙ ap (paid_from (stretch b order k)) (at_stretch b order placed j is (omega arith)) ∙ beside_true (ltb j k) (eqb (move_at order j).from (move_at order k).to) _ (lt-ltb j k m))

-- the signals that are made of the stretches are those of the rule
pub signals_are : (b : Basis) (order : List Move) (placed : List Placed) (signals : List HandedRoom) → placed ≡ map (stretch b order) (range_with_len 0 (length order)) →
    signals ≡ flat_map (handed_to placed) (range_with_len 0 (length placed)) → signals ≡ signals_of b order
signals_are b order placed signals is s =
    s ∙ ap (λ n. flat_map (handed_to placed) (range_with_len 0 n)) (ap length is ∙ length-map-range_with_len (stretch b order) 0 (length order))
    ∙ same_joined (handed_to placed) (λ k. map (handed k) (filter (is_handed b order k) (range_with_len 0 k))) 0 (length order)
    (λ k l m. ap (map (handed k)) (same_filter (is_paid_by placed k) (is_handed b order k) 0 k (λ j x y. paid_is b order placed k j is (omega arith) (omega arith))))

-- the room of each signal of the rule is handed on by an earlier move, and there is some
pub signals_given : (b : Basis) (order : List Move) → All (IsGiven b order) (signals_of b order)
signals_given b order =
    all_joined (IsGiven b order) (λ k. map (handed k) (filter (is_handed b order k) (range_with_len 0 k))) 0 (length order)
    (λ k l m. All-map (IsGiven b order) (handed k) (filter (is_handed b order k) (range_with_len 0 k)) (λ i d h.
    let passes = filter_passes (is_handed b order k) (range_with_len 0 k) i d h in
    let below = passed_known (is_handed b order k) k i d h in
    let j = get_or (filter (is_handed b order k) (range_with_len 0 k)) i d in
    let some = and_parts (ltb 0 (from_move b order k j)) (not (eqb (stream_of k) (stream_of j))) passes in
    record { payer = omega arith; source = below; amount = ltb-true 0 (from_move b order k j) some.0 }))
