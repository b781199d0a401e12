-- Moves that are passed over stay so until room is freed where they go.
use Rattle.std.proofs.Common.{◌≡◌, ◌≢◌, ◌<◌, ◌≤◌, ◌+◌, ◌-◌, ◌∙◌, inl, inr, ℕ, zero, suc, Bool, true, false, eqb, leb, List, length, get_or, set, sym, ap, subst, refl, arith}
use Rattle.std.specs.Prelude.{find, not}
use Rattle.std.specs.List.{range_with_len}
use Rattle.std.proofs.lemmas.Bool.{cases_Bool, cases_eq, ne_eqb, leb-false, lt-leb}
use Rattle.std.proofs.lemmas.List.{get_or-set_same, get_or-set_other, length-set}
use Rattle.sm_placement.specs.Setup.{Setup}
use Rattle.sm_plan_code.specs.declared.moves.Move.{Move}
use Rattle.sm_planner.specs.Basis.{move_at, move_load}
use Rattle.sm_planner.specs.Placing.{freed_by}
use Rattle.sm_planner.specs.Accounts.{is_left, is_next, room_after, awaited_with, ArePassedOver, IsStart}
use Rattle.sm_planner.proofs.Accounting.{after_at, at_set}
use Rattle.sm_planner.proofs.Firsts.{IsLeft, passed}

-- where none of the first i numbers passes, a search that stands there finds the first that passes
pub left_from : (t : ℕ → Bool) (i n : ℕ) → i ≤ n → ((k : ℕ) → k < i → t k ≡ false) → IsLeft t i n
left_from t zero n l h = let e : n - 0 ≡ n = omega arith in ap (λ k. find t (range_with_len 0 k)) e
left_from t (suc i) n l h = let e : i + 1 ≡ suc i = omega arith in subst (λ k. IsLeft t k n) e (passed t i n (left_from t i n (omega arith) (λ k m. h k (omega arith))) (omega arith) (h i (omega arith)))

-- one more move is passed over
pub one_passed : (setup : Setup) (moves : List Move) (marks : List Bool) (room : List ℕ) (awaited : List Bool) (i : ℕ) → (move_at moves i).to < length awaited →
    ArePassedOver setup moves marks room awaited i → is_next setup moves marks room i ≡ false →
    ArePassedOver setup moves marks room (awaited_with marks i (move_at moves i).to awaited) (i + 1)
one_passed setup moves marks room awaited i within before next j l = elim (cases_eq j i) [
  | inl e ↦ rw e (next, λ left. rw left (get_or-set_same awaited (move_at moves i).to true false within))
  | inr e ↦ let h = before j (omega arith) in (h.0, λ left. kept (move_at moves j).to (h.1 left))
]
  where
    kept : (v : ℕ) → get_or awaited v false ≡ true → get_or (awaited_with marks i (move_at moves i).to awaited) v false ≡ true
    kept v q = elim (cases_Bool (is_left marks i)) [
      | inr p ↦ rw p q
      | inl p ↦ rw p (at_set awaited (move_at moves i).to true v false within ∙ elim (cases_Bool (eqb (move_at moves i).to v)) [ inl d ↦ rw d refl | inr d ↦ rw d q ])
    ]

-- once a move is placed, those before it stay passed over if none of them waits for the room that it frees
pub still_passed : (setup : Setup) (moves : List Move) (marks : List Bool) (room : List ℕ) (awaited : List Bool) (i : ℕ) → i < length marks →
    (move_at moves i).to < length room → (move_at moves i).from < length room →
    ArePassedOver setup moves marks room awaited i → get_or awaited (move_at moves i).from false ≡ false →
    ArePassedOver setup moves (set marks i true) (room_after setup (move_at moves i) room) awaited (i + 1)
still_passed setup moves marks room awaited i within to from before none j l = elim (cases_eq j i) [
  | inl e ↦ rw e (let here : get_or (set marks i true) i false ≡ true = get_or-set_same marks i true false within in rw here (refl, λ left. absurd (let z : false ≡ true = left in cc)))
  | inr e ↦
      let h = before j (omega arith) in
      let same : get_or (set marks i true) j false ≡ get_or marks j false = get_or-set_other marks i j true false e in
      rw same (elim (cases_Bool (get_or marks j false)) [
        | inl q ↦ rw q (refl, λ left. absurd (let z : false ≡ true = left in cc))
        | inr q ↦
            let waits : get_or awaited (move_at moves j).to false ≡ true = h.1 (ap not q) in
            let apart : (move_at moves i).from ≢ (move_at moves j).to = λ d. absurd (let z : true ≡ false = sym waits ∙ ap (λ v. get_or awaited v false) (sym d) ∙ none in cc) in
            let after = after_at setup (move_at moves i) room (move_at moves j).to to from in
            let freed : freed_by setup (move_at moves j).to (move_at moves i) ≡ 0 = rw (ne_eqb (move_at moves i).from (move_at moves j).to apart) refl in
            let not_next = h.0 in
            let full : leb (move_load setup (move_at moves j)) (get_or room (move_at moves j).to 0) ≡ false = rw q at not_next in
            let short : get_or room (move_at moves j).to 0 < move_load setup (move_at moves j) = leb-false (move_load setup (move_at moves j)) (get_or room (move_at moves j).to 0) full in
            let still : leb (move_load setup (move_at moves j)) (get_or (room_after setup (move_at moves i) room) (move_at moves j).to 0) ≡ false = lt-leb (move_load setup (move_at moves j)) (get_or (room_after setup (move_at moves i) room) (move_at moves j).to 0) (omega arith) in
            rw q (still, λ left. waits)
      ])
]

-- so the search goes on where it says
pub passed_on : (setup : Setup) (moves : List Move) (marks : List Bool) (room : List ℕ) (awaited later : List Bool) (i start : ℕ) → i < length marks → i < length moves →
    (move_at moves i).to < length room → (move_at moves i).from < length room →
    ArePassedOver setup moves marks room awaited i → IsStart i (move_at moves i).from awaited later start →
    (start ≤ length moves) × ArePassedOver setup moves (set marks i true) (room_after setup (move_at moves i) room) later start
passed_on setup moves marks room awaited later i start within inside to from before on = elim on [
  | inl go ↦ rw (go.2, go.1) (omega arith, still_passed setup moves marks room awaited i within to from before go.0)
  | inr anew ↦ rw anew (omega arith, λ j l. absurd (omega arith))
]

-- a move that is passed over leaves as many servers
pub wide_over : (marks : List Bool) (i to : ℕ) (awaited : List Bool) → length (awaited_with marks i to awaited) ≡ length awaited
wide_over marks i to awaited = elim (cases_Bool (is_left marks i)) [ inl e ↦ rw e (length-set awaited to true) | inr e ↦ rw e refl ]
