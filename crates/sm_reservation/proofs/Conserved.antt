-- The fact that each call keeps: an amount that moves with the rights.
use Rattle.std.proofs.Common.{◌≡◌, ◌≢◌, ℕ, ◌+◌, ◌≤◌, Option, Some, None, is_some, IsSome, List, [], ◌∷◌, refl, ◌∙◌, ap, arith}
use Rattle.std.specs.Option.{option_or}
use Rattle.sm_placement.specs.Sums.{put, bit, sum_below}
use Rattle.sm_placement.proofs.Sums.{put-here, put-apart, sum_apart, sum_two_apart}
use Rattle.sm_reservation.specs.Rights.{Rights}
use Rattle.sm_reservation.specs.Key.{IsOrdered}
use Rattle.sm_reservation.specs.Hold.{Hold, minus, plus}
use Rattle.sm_reservation.specs.HoldOf.{hold_of}
use Rattle.sm_reservation.specs.Amounts.{Right, count}
use Rattle.sm_reservation.specs.CanJoin.{AreApart}
use Rattle.sm_reservation.specs.Short.{first_short}
use Rattle.sm_reservation.specs.Conservation.{Move, Moves, Trades, after_move, CanMake, CanMakeAll, after_moves, total, given_up, gained, cell_holders, crown_holders, HasOneHolder, AllFresh}
use Rattle.sm_reservation.proofs.ParcelSums.{left, covers, minus_is, plus_is, minus_count, plus_count}

-- an amount of a hold that parcels take out and put in as they say
pub record IsCarried (f : Hold → ℕ) : Type 0 where
  pub out : (h : Hold) (p : Rights) → IsOrdered p → first_short h p ≡ None → f (minus h p) + f (hold_of p) ≡ f h
  pub into : (h : Hold) (p : Rights) → IsOrdered p → AreApart h (hold_of p) → f (plus h p) ≡ f h + f (hold_of p)

moved_sum : (f : Hold → ℕ) → IsCarried f → (n : ℕ) (b : ℕ → Hold) (i j : ℕ) (p : Rights) → CanMake n b (Moves i j p) → sum_below n (λ k. f (after_move b (Moves i j p) k)) ≡ sum_below n (λ k. f (b k))
moved_sum f c n b i j p can =
    let b' : ℕ → Hold = after_move b (Moves i j p) in
    let there : b' j ≡ plus (b j) p = put-here (put b i (minus (b i) p)) j (plus (b j) p) j refl in
    let here : b' i ≡ minus (b i) p = put-apart (put b i (minus (b i) p)) j (plus (b j) p) i can.2 ∙ put-here b i (minus (b i) p) i refl in
    let others : (k : ℕ) → k ≢ i → k ≢ j → f (b' k) ≡ f (b k) = λ k u v. ap f (put-apart (put b i (minus (b i) p)) j (plus (b j) p) k v ∙ put-apart b i (minus (b i) p) k u) in
    let sums : sum_below n (λ k. f (b' k)) + (f (b i) + f (b j)) ≡ sum_below n (λ k. f (b k)) + (f (b' i) + f (b' j)) = sum_two_apart n (λ k. f (b' k)) (λ k. f (b k)) i j can.0 can.1 can.2 others in
    let out = c.out (b i) p can.3 can.4 in
    let into = c.into (b j) p can.3 can.5 in
    let f-here = ap f here in
    let f-there = ap f there in
    omega arith

traded_sum : (f : Hold → ℕ) → IsCarried f → (n : ℕ) (b : ℕ → Hold) (i : ℕ) (p q : Rights) → CanMake n b (Trades i p q) → sum_below n (λ k. f (after_move b (Trades i p q) k)) + f (hold_of p) ≡ sum_below n (λ k. f (b k)) + f (hold_of q)
traded_sum f c n b i p q can =
    let b' : ℕ → Hold = after_move b (Trades i p q) in
    let here : b' i ≡ plus (minus (b i) p) q = put-here b i (plus (minus (b i) p) q) i refl in
    let others : (k : ℕ) → k ≢ i → f (b' k) ≡ f (b k) = λ k u. ap f (put-apart b i (plus (minus (b i) p) q) k u) in
    let out = c.out (b i) p can.1 can.3 in
    let into = c.into (minus (b i) p) q can.2 can.4 in
    let f-here = ap f here in
    sum_apart n (λ k. f (b' k)) (λ k. f (b k)) i (f (hold_of p)) (f (hold_of q)) can.0 others (omega arith)

-- ---- how much there is of a right

carried_count : (r : Right) → IsCarried (λ h. count h r)
carried_count r = record { out = λ h p o none. minus_count h p o none r; into = λ h p o can. plus_count h p o can r }

-- what the holders have after the calls, with what trades gave up, is what they had, with what trades got
pub add_up : (n : ℕ) (b : ℕ → Hold) (ms : List Move) → CanMakeAll n b ms → (r : Right) → total n (after_moves b ms) r + given_up ms r ≡ total n b r + gained ms r
add_up n b [] can r = refl
add_up n b (Moves i j p ∷ ms) can r =
    let rest = add_up n (after_move b (Moves i j p)) ms can.1 r in
    let now = moved_sum (λ h. count h r) (carried_count r) n b i j p can.0 in
    rest ∙ ap (λ t. t + gained ms r) now
add_up n b (Trades i p q ∷ ms) can r =
    let rest = add_up n (after_move b (Trades i p q)) ms can.1 r in
    let now = traded_sum (λ h. count h r) (carried_count r) n b i p q can.0 in
    omega arith

-- ---- whether a hold has a right to a cell, or a crown

part_some : {A : Type 0} (k h : Option A) → ((x : A) → k ≡ Some x → h ≡ Some x) → bit (is_some (left k h)) + bit (is_some k) ≡ bit (is_some h)
part_some None h in_it = omega arith
part_some (Some x) h in_it = rw (in_it x refl) refl

join_some : {A : Type 0} (k h : Option A) → ((x : A) → k ≡ Some x → h ≡ None) → bit (is_some (option_or k h)) ≡ bit (is_some h) + bit (is_some k)
join_some None h apart = omega arith
join_some (Some x) h apart = rw (apart x refl) refl

carried_cell : (s v : ℕ) → IsCarried (λ h. bit (is_some (h.cells s v)))
carried_cell s v = record {
  out = λ h p o none. ap (λ k. bit (is_some (k.cells s v)) + bit (is_some ((hold_of p).cells s v))) (minus_is h p o) ∙ part_some ((hold_of p).cells s v) (h.cells s v) (λ x e. (covers h p none).cells s v x e);
  into = λ h p o can. ap (λ k. bit (is_some (k.cells s v))) (plus_is h p o) ∙ join_some ((hold_of p).cells s v) (h.cells s v) (λ x e. can.cells s v x e);
}

carried_crown : (s : ℕ) → IsCarried (λ h. bit (is_some (h.crowns s)))
carried_crown s = record {
  out = λ h p o none. ap (λ k. bit (is_some (k.crowns s)) + bit (is_some ((hold_of p).crowns s))) (minus_is h p o) ∙ part_some ((hold_of p).crowns s) (h.crowns s) (λ x e. (covers h p none).crowns s x e);
  into = λ h p o can. ap (λ k. bit (is_some (k.crowns s))) (plus_is h p o) ∙ join_some ((hold_of p).crowns s) (h.crowns s) (λ x e. can.crowns s x e);
}

-- what is got is new, or was given up: still with one holder
still_one : {A : Type 0} (k : Option A) (now before out : ℕ) → now + out ≡ before + bit (is_some k) → (IsSome k → before ≤ out) → before ≤ 1 → now ≤ 1
still_one None now before out e fresh one = omega arith
still_one (Some x) now before out e fresh one = let f = fresh refl in omega arith

-- each cell right and each crown stays with one holder, where trades bring only what is nowhere else
pub one_place : (n : ℕ) (b : ℕ → Hold) (ms : List Move) → CanMakeAll n b ms → AllFresh n b ms → HasOneHolder n b → HasOneHolder n (after_moves b ms)
one_place n b [] can fresh one = one
one_place n b (Moves i j p ∷ ms) can fresh one =
    let next : HasOneHolder n (after_move b (Moves i j p)) = record {
      cells = λ s v. rw (moved_sum (λ h. bit (is_some (h.cells s v))) (carried_cell s v) n b i j p can.0) (one.cells s v);
      crowns = λ s. rw (moved_sum (λ h. bit (is_some (h.crowns s))) (carried_crown s) n b i j p can.0) (one.crowns s);
    } in
    one_place n (after_move b (Moves i j p)) ms can.1 fresh next
one_place n b (Trades i p q ∷ ms) can fresh one =
    let next : HasOneHolder n (after_move b (Trades i p q)) = record {
      cells = λ s v. still_one ((hold_of q).cells s v) _ (cell_holders n b s v) (bit (is_some ((hold_of p).cells s v))) (traded_sum (λ h. bit (is_some (h.cells s v))) (carried_cell s v) n b i p q can.0) (fresh.0.cells s v) (one.cells s v);
      crowns = λ s. still_one ((hold_of q).crowns s) _ (crown_holders n b s) (bit (is_some ((hold_of p).crowns s))) (traded_sum (λ h. bit (is_some (h.crowns s))) (carried_crown s) n b i p q can.0) (fresh.0.crowns s) (one.crowns s);
    } in
    one_place n (after_move b (Trades i p q)) ms can.1 fresh.1 next
