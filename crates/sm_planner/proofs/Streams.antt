-- The streams and the signals of a draft are those of the plan.
use Rattle.std.proofs.Common.{◌≡◌, ◌<◌, ◌≤◌, ◌^◌, ◌∙◌, ℕ, Bool, true, false, cond, eqb, ltb, ◌&&◌, Option, Some, None, List, [], ◌∷◌, ◌++◌, length, get_or, filter, ap, refl, arith}
use Rattle.std.specs.Prelude.{count_by, All, ◌==◌}
use Rattle.std.specs.List.{range_with_len, flat_map}
use Rattle.std.proofs.lemmas.Bool.{lt-ltb}
use Rattle.std.proofs.lemmas.List.{length-append, length-map}
use Rattle.std.proofs.lemmas.List.Concat.{length-flat_map}
use Rattle.std.proofs.lemmas.List.Elements.{All-filter}
use Rattle.std.proofs.lemmas.List.FromFn.{length-range_with_len, get_or-range_with_len}
use Rattle.std.proofs.lemmas.List.Sums.{length-filter, count_by-le-length, sum_by-le}
use Rattle.sm_server.specs.Cell.{is_primary}
use Rattle.sm_placement.specs.Place.{Place}
use Rattle.sm_reservation.specs.declared.right.CellRight.{CellRight}
use Rattle.sm_reservation.specs.declared.right.Crown.{Crown}
use Rattle.sm_reservation.specs.declared.right.Room.{Room}
use Rattle.sm_reservation.specs.declared.right.Spare.{Spare}
use Rattle.sm_reservation.specs.Rights.{Rights}
use Rattle.sm_reservation.specs.InOrder.{in_order}
use Rattle.sm_plan_code.specs.declared.instruction.Instr.{Instr}
use Rattle.sm_plan_code.specs.declared.instruction.Instr.TheVariants.{Signal, Wait}
use Rattle.sm_plan_code.specs.Instr.{is_call}
use Rattle.sm_plan_code.specs.Plan.{StreamModel}
use Rattle.sm_plan_code.specs.declared.moves.Move.{Move}
use Rattle.sm_planner.specs.declared.payment.Placed.{Placed}
use Rattle.sm_planner.specs.declared.writing.Draft.{Draft}
use Rattle.sm_planner.specs.Basis.{Basis, move_at, left_cell}
use Rattle.sm_planner.specs.Payment.{HandedRoom, from_move, signals_of}
use Rattle.sm_planner.specs.Stretches.{stretch, paid_from, IsGiven}
use Rattle.sm_planner.specs.Plan.{handing_over, copying, instructions, waits_of, posts_of, signal_at, drafted_code, moves_of, holds_by, stream, handed_parcel}
use Rattle.sm_planner.specs.Draft.{IsDraft}
use Rattle.sm_planner.proofs.Drafting.{placed_is}

-- ---- the placed moves of a stream

-- of the numbers below n each that passes is below n
pub passed_known : (t : ℕ → Bool) (n : ℕ) → All (λ k. k < n) (filter t (range_with_len 0 n))
passed_known t n = All-filter t (λ k. k < n) (range_with_len 0 n) (λ k d l. let e = get_or-range_with_len 0 n k d (let w = length-range_with_len 0 n in omega arith) in let w = length-range_with_len 0 n in omega arith)

-- of the numbers below n at most n pass
pub passed_few : (t : ℕ → Bool) (n : ℕ) → length (filter t (range_with_len 0 n)) ≤ n
passed_few t n = let a = length-filter t (range_with_len 0 n) in let b = count_by-le-length t (range_with_len 0 n) in let w = length-range_with_len 0 n in omega arith

-- ---- how long the code is

waits_few : (signals : List HandedRoom) (k : ℕ) → length (waits_of signals k) ≤ length signals
waits_few signals k = let a = length-map (filter (λ q. (signal_at signals q).payer == k) (range_with_len 0 (length signals))) Wait in let b = passed_few (λ q. (signal_at signals q).payer == k) (length signals) in omega arith

posts_few : (signals : List HandedRoom) (k : ℕ) → length (posts_of signals k) ≤ length signals
posts_few signals k = let a = length-map (filter (λ q. (signal_at signals q).source == k) (range_with_len 0 (length signals))) Signal in let b = passed_few (λ q. (signal_at signals q).source == k) (length signals) in omega arith

-- the instructions of a move are at most five
pub instructions_short : (p : Place) (m : Move) → length (instructions p m) ≤ 5
instructions_short p m = by (is_primary (left_cell p m)) (p.listed m.shard)
  where
    by : (t : Bool) (o : Option ℕ) → length (cond t (handing_over o m) (copying m)) ≤ 5
    by true None = omega arith
    by true (Some v) = omega arith
    by false o = omega arith

code_short : (p : Place) (order : List Move) (signals : List HandedRoom) (k : ℕ) → length signals ≤ 256 → length (drafted_code p order signals k) ≤ 517
code_short p order signals k few =
    let a = waits_few signals k in
    let b = posts_few signals k in
    let m = instructions_short p (move_at order k) in
    let e = length-append (waits_of signals k) (instructions p (move_at order k) ++ posts_of signals k) in
    let f = length-append (instructions p (move_at order k)) (posts_of signals k) in
    omega arith

-- the code of a stream has at most 2^22 instructions
pub code_small : (p : Place) (order : List Move) (signals : List HandedRoom) (numbers : List ℕ) (code : List Instr) → length signals ≤ 256 → length numbers ≤ 4096 →
    code ≡ flat_map (drafted_code p order signals) numbers → length code ≤ 2 ^ 22
code_small p order signals numbers code few count is =
    let e = ap length is in
    let s = length-flat_map (drafted_code p order signals) numbers in
    let t = sum_by-le (λ k. length (drafted_code p order signals k)) 517 numbers (λ k d l. code_short p order signals (get_or numbers k d) few) in
    omega arith

-- ---- streams

abbrev pub streamed : ℕ → Rights → List Instr → StreamModel
streamed budget holds code = record { budget = budget; retries = 0; holds = holds; code = code }

-- a stream that is drafted from its moves is that of the plan
pub stream_is : (b : Basis) (order : List Move) (signals : List HandedRoom) (number : ℕ) (numbers : List ℕ) (code : List Instr) (budget : ℕ) (holds : Rights) →
    signals ≡ signals_of b order → numbers ≡ moves_of order number → code ≡ flat_map (drafted_code b.place order signals) numbers → budget ≡ count_by is_call code →
    holds ≡ holds_by b order numbers → streamed budget holds code ≡ stream b order number
stream_is b order signals number numbers code budget holds s n c k h =
    let code_is : code ≡ flat_map (drafted_code b.place order (signals_of b order)) (moves_of order number) = c ∙ ap (λ (x : List HandedRoom). flat_map (drafted_code b.place order x) numbers) s ∙ ap (flat_map (drafted_code b.place order (signals_of b order))) n in
    let holds_is : holds ≡ holds_by b order (moves_of order number) = h ∙ ap (holds_by b order) n in
    ap (λ (x : ℕ). streamed x holds code) (k ∙ ap (count_by is_call) code_is)
    ∙ ap (λ (x : Rights). streamed (count_by is_call (flat_map (drafted_code b.place order (signals_of b order)) (moves_of order number))) x code) holds_is
    ∙ ap (λ (x : List Instr). streamed (count_by is_call (flat_map (drafted_code b.place order (signals_of b order)) (moves_of order number))) (holds_by b order (moves_of order number)) x) code_is

-- ---- what signals carry

-- beside a test that holds another one counts as it does alone
pub beside_true : (s t : Bool) (x : ℕ) → s ≡ true → cond t x 0 ≡ cond (s && t) x 0
beside_true true t x e = refl
beside_true false t x e = cc

-- the stretches of a draft say of a signal where its room is and how much of it the rule hands on
pub handed_is : (b : Basis) (draft : Draft) (h : HandedRoom) (payer source : Placed) → IsDraft b draft → IsGiven b draft.moves.items h →
    payer ≡ get_or draft.placed.items h.payer payer → source ≡ get_or draft.placed.items h.source source →
    (payer.wanted.to ≡ (move_at draft.moves.items h.payer).to) × (paid_from payer source ≡ from_move b draft.moves.items h.payer h.source)
handed_is b draft h payer source d g p q =
    let l = g.payer in
    let s : h.source < length draft.moves.items = (let a = g.source in omega arith) in
    let e = placed_is b draft h.payer payer d l p in
    let f = placed_is b draft h.source source d s q in
    (ap (λ (x : Placed). x.wanted.to) e, ap (λ (x : Placed). paid_from x source) e ∙ ap (paid_from (stretch b draft.moves.items h.payer)) f ∙ beside_true (ltb h.source h.payer) (eqb (move_at draft.moves.items h.source).from (move_at draft.moves.items h.payer).to) _ (lt-ltb h.source h.payer g.source))

-- a parcel of that room alone is the one that the signal carries
pub carried_is : (b : Basis) (order : List Move) (h : HandedRoom) (server amount : ℕ) (cells : List CellRight) (crowns : List Crown) (room : List Room) (spare : List Spare) → IsGiven b order h →
    server ≡ (move_at order h.payer).to → amount ≡ from_move b order h.payer h.source → cells ≡ [] → crowns ≡ [] → room ≡ record { server = server; amount = amount } ∷ [] → spare ≡ [] →
    in_order (record { cells = cells; crowns = crowns; room = room; spare = spare }) ≡ handed_parcel b order h
carried_is b order h server amount cells crowns room spare g s a c k r p =
    rw (c, k, r, p, s, a) (one (from_move b order h.payer h.source) g.amount)
  where
    one : (n : ℕ) → 0 < n → in_order (record { cells = []; crowns = []; room = record { server = (move_at order h.payer).to; amount = n } ∷ []; spare = [] }) ≡
        record { cells = []; crowns = []; room = record { server = (move_at order h.payer).to; amount = n } ∷ []; spare = [] }
    one n l = rw (lt-ltb 0 n l) refl
