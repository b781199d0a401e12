-- The signals of a plan: each goes from a move to one that is placed later, which waits for it.
use Rattle.std.proofs.Common.{◌≡◌, ℕ, ◌<◌, true, Option, Some, None, List, ◌++◌, length, refl, arith, inl, inr}
use Rattle.std.specs.Prelude.{◌==◌, filter, map}
use Rattle.std.specs.List.{range_with_len, AllByRecursion}
use Rattle.std.proofs.lemmas.Bool.{cases_Bool, eq-eqb, eqb-true}
use Rattle.std.proofs.lemmas.List.Elements.{All-from_recursion, All-get_or}
use Rattle.sm_server.specs.Cell.{is_primary}
use Rattle.sm_plan_code.specs.declared.instruction.Instr.{Instr}
use Rattle.sm_plan_code.specs.declared.instruction.Instr.TheVariants.{Signal, Wait}
use Rattle.sm_plan_code.specs.declared.moves.Move.{Move}
use Rattle.sm_planner.specs.Basis.{Basis, move_at, left_cell}
use Rattle.sm_planner.specs.Payment.{HandedRoom, handed, is_handed, stream_of, signals_of}
use Rattle.sm_planner.specs.Plan.{signal_at, publication, instructions, waits_of, posts_of, move_code, planned}
use Rattle.sm_planner.proofs.law.Gathered.{StandsIn, stands_right, stands_in_range, stands_below, stands_picked, all_both, all_picked, all_of_parts}
use Rattle.sm_planner.proofs.law.Codes.{code_is, stream_count, stream_known}
use Rattle.sm_planner.proofs.law.Orders.{IsServed, IsOfParts}

-- what each signal is: of a later placed move and one of the moves placed before it
pub record IsHandedOn (b : Basis) (order : List Move) (h : HandedRoom) : Type 0 where
  pub payer : h.payer < length order
  pub source : h.source < h.payer
  pub handed : is_handed b order h.payer h.source ≡ true

-- all signals are of a placed move that pays and of one placed before it
pub are_handed_on : (b : Basis) (order : List Move) → AllByRecursion (IsHandedOn b order) (signals_of b order)
are_handed_on b order = all_of_parts (IsHandedOn b order) (λ k. map (handed k) (filter (is_handed b order k) (range_with_len 0 k))) (range_with_len 0 (length order))
    (λ k s. all_picked (IsHandedOn b order) (handed k) (is_handed b order k) (range_with_len 0 k) (λ j t passes. record {
      payer = stands_below (length order) k s;
      source = stands_below k j t;
      handed = passes;
    }))

-- so is the signal at each number
pub is_handed_on : (b : Basis) (order : List Move) (q : ℕ) → q < length (signals_of b order) → IsHandedOn b order (signal_at (signals_of b order) q)
is_handed_on b order q l = All-get_or (IsHandedOn b order) (signals_of b order) q (handed 0 0) l (All-from_recursion (IsHandedOn b order) (signals_of b order) (are_handed_on b order))

-- the signal is posted by the move whose room it is
pub posted_by_source : (b : Basis) (order : List Move) (q : ℕ) → q < length (signals_of b order) → StandsIn (Signal q) (move_code b order (signal_at (signals_of b order) q).source)
posted_by_source b order q l =
    let signals : List HandedRoom = signals_of b order in
    let source : ℕ = (signal_at signals q).source in
    stands_right (Signal q) (waits_of signals source) (instructions b.place (move_at order source) ++ posts_of signals source)
    (stands_right (Signal q) (instructions b.place (move_at order source)) (posts_of signals source)
    (stands_picked Signal (λ r. (signal_at signals r).source == source) q (range_with_len 0 (length signals)) (eq-eqb source source refl) (stands_in_range (length signals) q l)))

module _ (b : Basis) (order : List Move) where
  abbrev Served : ℕ → Instr → Type 0
  Served n i = IsServed (planned b order) stream_of (move_code b order) (length order) n i

  served_publication : (n s : ℕ) (listed : Option ℕ) (rest : List Instr) → AllByRecursion (Served n) rest → AllByRecursion (Served n) (publication listed s ++ rest)
  served_publication n s None rest a = a
  served_publication n s (Some v) rest a = (tt, a)

  served_instructions : (n : ℕ) (m : Move) → AllByRecursion (Served n) (instructions b.place m)
  served_instructions n m = elim (cases_Bool (is_primary (left_cell b.place m))) [
    | inl primary ↦ rw primary (tt, (tt, (tt, served_publication n m.shard (b.place.listed m.shard) _ (tt, tt))))
    | inr other ↦ rw other (tt, (tt, tt))
  ]

  served_move : (n : ℕ) → AllByRecursion (Served n) (move_code b order n)
  served_move n =
      let signals : List HandedRoom = signals_of b order in
      all_both (Served n) (waits_of signals n) (instructions b.place (move_at order n) ++ posts_of signals n)
      (all_picked (Served n) Wait (λ q. (signal_at signals q).payer == n) (range_with_len 0 (length signals)) (λ q s own.
      let known : q < length signals = stands_below (length signals) q s in
      let on = is_handed_on b order q known in
      let payer : (signal_at signals q).payer ≡ n = eqb-true (signal_at signals q).payer n own in
      let low = on.source in
      ((signal_at signals q).source, omega arith, posted_by_source b order q known)))
      (all_both (Served n) (instructions b.place (move_at order n)) (posts_of signals n) (served_instructions n (move_at order n))
      (all_picked (Served n) Signal (λ q. (signal_at signals q).source == n) (range_with_len 0 (length signals)) (λ q s own. tt)))

  -- the plan's codes are gathered from those of its moves, and each wait stands in a later one than its post
  pub is_of_parts : IsOfParts (planned b order) stream_of (move_code b order) (length order)
  is_of_parts = record {
    known = λ n l. let count = stream_count b order in let known = stream_known order n l in omega arith;
    code = λ i l. code_is b order i (let count = stream_count b order in omega arith);
    served = λ n l. served_move n;
  }
