-- The payments of placed moves of a draft, one move further.
use Rattle.std.proofs.Common.{◌≡◌, ◌<◌, ◌≤◌, ◌+◌, ◌∙◌, inl, inr, ℕ, cond, eqb, List, [], length, take, get_or, ap, refl, arith}
use Rattle.std.proofs.lemmas.Bool.{cases_eq, eq-eqb, ne_eqb}
use Rattle.std.proofs.lemmas.List.{length-set, length-take-le}
use Rattle.std.proofs.lemmas.List.FromFn.{length-map-range_with_len, get_or-map-range_with_len}
use Rattle.std.proofs.lemmas.List.Sums.{sum_by_more}
use Rattle.sm_placement.specs.Setup.{Setup}
use Rattle.sm_placement.specs.declared.limits.TheConstants.{MOST_LOAD}
use Rattle.sm_plan_code.specs.declared.moves.Move.{Move}
use Rattle.sm_planner.specs.declared.payment.Placed.{Placed}
use Rattle.sm_planner.specs.declared.writing.Draft.{Draft}
use Rattle.sm_planner.specs.Basis.{Basis, no_move, move_at}
use Rattle.sm_planner.specs.Payment.{overlap, from_pool}
use Rattle.sm_planner.specs.Stretches.{stretch}
use Rattle.sm_planner.specs.Draft.{IsDraft, ArePayments}
use Rattle.sm_planner.specs.Accounts.{no_amounts, room_freed}
use Rattle.sm_placement.proofs.SizesLemmas.{load_small}
use Rattle.sm_planner.proofs.Stretching.{put_at, no_amount_at}

-- the k-th placed move of a draft
pub placed_is : (b : Basis) (draft : Draft) (k : ℕ) (p : Placed) → IsDraft b draft → k < length draft.moves.items → p ≡ get_or draft.placed.items k p → p ≡ stretch b draft.moves.items k
placed_is b draft k p d l read =
    read ∙ ap (λ xs. get_or xs k p) d.placed ∙ get_or-map-range_with_len (stretch b draft.moves.items) 0 (length draft.moves.items) k k p l (omega arith)

-- a draft has a stretch for each of its moves
pub placed_count : (b : Basis) (draft : Draft) → IsDraft b draft → length draft.placed.items ≡ length draft.moves.items
placed_count b draft d = ap length d.placed ∙ length-map-range_with_len (stretch b draft.moves.items) 0 (length draft.moves.items)

-- what the k-th placed move pays from the pool, and where
pub record IsPayer (b : Basis) (order : List Move) (k : ℕ) (p : Placed) : Type 0 where
  pub to : p.wanted.to ≡ (move_at order k).to
  pub within : p.wanted.to < length b.setup.servers
  pub light : p.load ≤ MOST_LOAD
  pub pays : overlap p.takes_from p.load 0 p.pool ≡ from_pool b order k

-- what is read of the k-th placed move says what it pays from the pool, and where
pub payer_is : (b : Basis) (draft : Draft) (k : ℕ) (p : Placed) → IsDraft b draft → k < length draft.moves.items → p ≡ get_or draft.placed.items k p → IsPayer b draft.moves.items k p
payer_is b draft k p d l read =
    let is = placed_is b draft k p d l read in
    let move = d.known k no_move l in
    let light = load_small b.setup (move_at draft.moves.items k).shard d.setup in
    rw is (record { to = refl; within = move.to; light = light; pays = refl })

-- ---- payments

-- before any placed move nothing is paid at any server
pub paid_none : (b : Basis) (order : List Move) (setup : Setup) (amounts : List ℕ) → setup ≡ b.setup → amounts ≡ no_amounts (length setup.servers) → ArePayments b order [] amounts
paid_none b order setup amounts same is = rw (is, same) (record {
  wide = length-map-range_with_len (λ v. 0) 0 (length b.setup.servers);
  paid = λ v l. no_amount_at (length b.setup.servers) v l;
  small = λ v l. rw (no_amount_at (length b.setup.servers) v l) (omega arith);
})

-- what the next placed move pays, added where it goes, makes the payments one move further
pub paid_more : (b : Basis) (order : List Move) (numbers : List ℕ) (i k : ℕ) (amounts later : List ℕ) (to amount : ℕ) →
    ArePayments b order (take i numbers) amounts → i < length numbers → k ≡ get_or numbers i k → to ≡ (move_at order k).to → to < length b.setup.servers →
    amount ≡ from_pool b order k → amount ≤ MOST_LOAD → later ≡ room_freed amounts to amount → ArePayments b order (take (i + 1) numbers) later
paid_more b order numbers i k amounts later to amount p l read goes within is small e = rw e (record {
  wide = length-set amounts to (get_or amounts to 0 + amount) ∙ p.wide;
  paid = λ v h.
      let a = p.paid v h in
      let s = sum_by_more (λ k. cond (eqb (move_at order k).to v) (from_pool b order k) 0) numbers i k l in
      let c : cond (eqb to v) amount 0 ≡ cond (eqb (move_at order (get_or numbers i k)).to v) (from_pool b order (get_or numbers i k)) 0 =
      ap (λ x. cond (eqb x v) amount 0) goes ∙ ap (λ x. cond (eqb (move_at order k).to v) x 0) is ∙ ap (λ x. cond (eqb (move_at order x).to v) (from_pool b order x) 0) read in
      let t = put_at amounts to amount v (let w = p.wide in omega arith) in
      omega arith;
  small = λ v h.
      let a = p.small v h in
      let t = put_at amounts to amount v (let w = p.wide in omega arith) in
      let c : cond (eqb to v) amount 0 ≤ amount = elim (cases_eq to v) [ inl q ↦ rw (eq-eqb to v q) (omega arith) | inr q ↦ rw (ne_eqb to v q) (omega arith) ] in
      let x = length-take-le i numbers (omega arith) in
      let y = length-take-le (i + 1) numbers (omega arith) in
      omega arith;
})
