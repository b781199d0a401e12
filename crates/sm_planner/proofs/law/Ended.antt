-- The end of the rule's plan: each moved replica stands at its new server as it stood at the old one, where nothing is left, and the
-- published map names the new servers of primaries.
use Rattle.std.proofs.Common.{◌≡◌, ◌≢◌, ℕ, zero, suc, ◌<◌, ◌≤◌, Bool, true, false, cond, Option, Some, None, List, length, get_or, refl, sym, ap, ◌∙◌, arith, inl, inr, ◌⊎◌, subst}
use Rattle.std.specs.Prelude.{All, ◌==◌, ◌&&◌, option_map}
use Rattle.std.proofs.lemmas.Bool.{cases_Bool, cases_eq, eq-eqb, ne_eqb, eqb-true, and_parts, and_from, both_ways}
use Rattle.sm_server.specs.declared.call.Cell.{Cell}
use Rattle.sm_server.specs.declared.call.Cell.TheVariants as cell
use Rattle.sm_server.specs.Cell.{is_primary, is_secondary}
use Rattle.sm_placement.specs.declared.lead.Lead.{Lead}
use Rattle.sm_placement.specs.Setup.{Sizes, sizes_of}
use Rattle.sm_placement.specs.Place.{Place}
use Rattle.sm_reservation.specs.declared.right.PlainCell.{PlainCell}
use Rattle.sm_reservation.specs.Hold.{Hold}
use Rattle.sm_plan_code.specs.Plan.{StreamModel, PlanModel}
use Rattle.sm_plan_code.specs.declared.moves.Move.{Move}
use Rattle.sm_verifier.specs.Stream.{course_of, final_hold, stream_at}
use Rattle.sm_verifier.specs.PlanEnd.{cell_by_crown, cell_by_right, listed_by, set_by_streams, end_of}
use Rattle.sm_planner.specs.Basis.{Basis, IsMoveOf, move_at, left_cell}
use Rattle.sm_planner.specs.Payment.{stream_of}
use Rattle.sm_planner.specs.Plan.{planned}
use Rattle.sm_planner.specs.Placing.{IsPlacing}
use Rattle.sm_planner.specs.Refusal.{in_placed_order, refusal, IsPlanOf}
use Rattle.sm_planner.specs.Laws.{HasMoved}
use Rattle.sm_planner.proofs.law.Codes.{width, stream_count, stream_is, stream_known}
use Rattle.sm_planner.proofs.law.Payments.{to, from, IsAffordable}
use Rattle.sm_planner.proofs.law.Placings.{move_is, count_is, place_known, all_placed, affordable}
use Rattle.sm_planner.proofs.law.Moving.{IsMoved, named_after}
use Rattle.sm_planner.proofs.law.Streams.{shard, leads_shard, AreAllApart, IsAt}
use Rattle.sm_planner.proofs.law.Opened.{IsOpened, one_of_two, none_left, order_opened, order_apart}
use Rattle.sm_planner.proofs.law.Good.{ends, ends_there}
use Rattle.sm_planner.proofs.law.Usable.{order_known}

-- some number below n passes, or none does
search_below : (n : ℕ) (test : ℕ → Bool) → ((k : ℕ) × (k < n) × (test k ≡ true)) ⊎ ((k : ℕ) → k < n → test k ≡ false)
search_below zero test = inr (λ k l. absurd (omega arith))
search_below (suc n) test = elim (cases_Bool (test n)) [
  | inl passes ↦ inl (n, omega arith, passes)
  | inr fails ↦ elim (search_below n test) [
    | inl found ↦ (let l = found.1 in inl (found.0, omega arith, found.2))
    | inr none ↦ inr (λ k l. elim (cases_eq k n) [ inl same ↦ ap test same ∙ fails | inr other ↦ none k (omega arith) ])
  ]
]

-- the cell that the test of a primary passes is the primary's
pub primary_is : (x : Cell) → is_primary x ≡ true → x ≡ cell.Primary
primary_is cell.Absent e = cc
primary_is (cell.Prepared from number) e = cc
primary_is cell.Secondary e = cc
primary_is cell.Primary e = refl
primary_is (cell.Forwarding to number) e = cc

-- the cell that the test of a secondary passes is the secondary's
pub secondary_is : (x : Cell) → is_secondary x ≡ true → x ≡ cell.Secondary
secondary_is cell.Absent e = cc
secondary_is (cell.Prepared from number) e = cc
secondary_is cell.Secondary e = refl
secondary_is cell.Primary e = cc
secondary_is (cell.Forwarding to number) e = cc

named_is : (o : Option ℕ) (v : ℕ) → named_after o v ≡ option_map (λ u. v) o
named_is None v = refl
named_is (Some u) v = refl

module _ (b : Basis) (order : List Move) (apart : AreAllApart b order) (opened : (k : ℕ) → k < length order → IsOpened b (move_at order k)) (known : (k : ℕ) → k < length order → to b order k < (sizes_of b.setup).servers) (fits : IsAffordable b order) where
  abbrev c : Sizes
  c = sizes_of b.setup

  abbrev plan : PlanModel
  plan = planned b order

  abbrev final : ℕ → Hold
  final i = (ends b order apart opened known fits i).0

  at_end : (i : ℕ) → IsAt b order i (length order) (final i)
  at_end i = (ends b order apart opened known fits i).2

  final_is : (i : ℕ) → i < width order → final_hold (stream_at c plan i) ≡ final i
  final_is i l = ap (λ (s : StreamModel). final_hold (course_of c plan.signals s)) (stream_is b order i l) ∙ ends_there b order apart opened known fits i

  -- what a stream holds at its end does not set the cell
  record IsQuiet (i s v : ℕ) : Type 0 where
    right : (final i).cells s v ≡ None
    crown : (old : Cell) → cell_by_crown ((final i).crowns s) v old ≡ old

  quiet : (i s v : ℕ) → ((k : ℕ) → k < length order → stream_of k ≡ i → shard b order k ≡ s → (to b order k ≢ v) × (from b order k ≢ v)) → IsQuiet i s v
  quiet i s v none = record {
    right = (at_end i).no_cell s v none;
    crown = λ old. elim (search_below (length order) (λ k. (stream_of k == i) && (leads_shard b order k && (shard b order k == s)))) [
      | inl found ↦
          let k : ℕ = found.0 in
          let both = and_parts (stream_of k == i) (leads_shard b order k && (shard b order k == s)) found.2 in
          let leads = and_parts (leads_shard b order k) (shard b order k == s) both.1 in
          let own : stream_of k ≡ i = eqb-true (stream_of k) i both.0 in
          let here : shard b order k ≡ s = eqb-true (shard b order k) s leads.1 in
          let crown = ap (final i).crowns (sym here) ∙ ((at_end i).moved k found.1 found.1 own).crown leads.0 in
          ap (λ (o : Option (Lead × Option ℕ)). cell_by_crown o v old) crown ∙ rw (ne_eqb (to b order k) v (none k found.1 own here).0) refl
      | inr never ↦
          let nothing : (final i).crowns s ≡ None = (at_end i).no_crown s (λ k l own leads here. both_ways _ (never k l) (and_from (stream_of k == i) (leads_shard b order k && (shard b order k == s)) (eq-eqb (stream_of k) i own) (and_from (leads_shard b order k) (shard b order k == s) leads (eq-eqb (shard b order k) s here)))) in
          ap (λ (o : Option (Lead × Option ℕ)). cell_by_crown o v old) nothing
    ];
  }

  abbrev set_to : ℕ → Place
  set_to n = set_by_streams c plan n b.place

  one_set : (n s v : ℕ) → n < width order → (set_to (suc n)).cells s v ≡ cell_by_right ((final n).cells s v) (cell_by_crown ((final n).crowns s) v ((set_to n).cells s v))
  one_set n s v l = ap (λ (h : Hold). cell_by_right (h.cells s v) (cell_by_crown (h.crowns s) v ((set_to n).cells s v))) (final_is n l)

  one_quiet : (n s v : ℕ) → n < width order → IsQuiet n s v → (set_to (suc n)).cells s v ≡ (set_to n).cells s v
  one_quiet n s v l is = one_set n s v l ∙ ap (λ (o : Option PlainCell). cell_by_right o (cell_by_crown ((final n).crowns s) v ((set_to n).cells s v))) is.right ∙ is.crown ((set_to n).cells s v)

  all_quiet : (n s v : ℕ) → n ≤ width order → ((i : ℕ) → IsQuiet i s v) → (set_to n).cells s v ≡ b.place.cells s v
  all_quiet zero s v l is = refl
  all_quiet (suc n) s v l is = one_quiet n s v (omega arith) (is n) ∙ all_quiet n s v (omega arith) is

  set_by_one : (n s v i : ℕ) (x : Cell) → n ≤ width order → i < n → ((j : ℕ) → j ≢ i → IsQuiet j s v) → ((old : Cell) → cell_by_right ((final i).cells s v) (cell_by_crown ((final i).crowns s) v old) ≡ x) → (set_to n).cells s v ≡ x
  set_by_one zero s v i x l m is sets = absurd (omega arith)
  set_by_one (suc n) s v i x l m is sets = elim (cases_eq n i) [
    | inl same ↦ one_set n s v (omega arith) ∙ ap (λ j. cell_by_right ((final j).cells s v) (cell_by_crown ((final j).crowns s) v ((set_to n).cells s v))) same ∙ sets ((set_to n).cells s v)
    | inr other ↦ one_quiet n s v (omega arith) (is n other) ∙ set_by_one n s v i x (omega arith) (omega arith) is sets
  ]

  end_cells : (s v : ℕ) → (end_of c plan b.place).cells s v ≡ (set_to (width order)).cells s v
  end_cells s v = ap (λ n. (set_to n).cells s v) (stream_count b order)

  -- the other streams set neither cell of a move
  from_quiet : (k : ℕ) → k < length order → (i : ℕ) → i ≢ stream_of k → IsQuiet i (shard b order k) (from b order k)
  from_quiet k l i other = quiet i (shard b order k) (from b order k) (λ j m own same.
      let a = apart j k m l (λ e. other (sym own ∙ ap stream_of e)) same in
      (a.to_from, a.from_from))

  to_quiet : (k : ℕ) → k < length order → (i : ℕ) → i ≢ stream_of k → IsQuiet i (shard b order k) (to b order k)
  to_quiet k l i other = quiet i (shard b order k) (to b order k) (λ j m own same.
      let a = apart j k m l (λ e. other (sym own ∙ ap stream_of e)) same in
      (a.to_to, a.from_to))

  moved_in : (k : ℕ) → k < length order → IsMoved b.place (move_at order k) (final (stream_of k))
  moved_in k l = (at_end (stream_of k)).moved k l l refl

  pub leaves_nothing : (k : ℕ) → k < length order → (end_of c plan b.place).cells (shard b order k) (from b order k) ≡ cell.Absent
  leaves_nothing k l =
      end_cells (shard b order k) (from b order k)
      ∙ set_by_one (width order) (shard b order k) (from b order k) (stream_of k) cell.Absent (omega arith) (stream_known order k l) (from_quiet k l)
      (λ old. ap (λ (o : Option PlainCell). cell_by_right o (cell_by_crown ((final (stream_of k)).crowns (shard b order k)) (from b order k) old)) (moved_in k l).from)

  stands_as_before : (k : ℕ) → k < length order → (old : Cell) → cell_by_right ((final (stream_of k)).cells (shard b order k) (to b order k)) (cell_by_crown ((final (stream_of k)).crowns (shard b order k)) (to b order k) old) ≡ left_cell b.place (move_at order k)
  stands_as_before k l old = elim (cases_Bool (leads_shard b order k)) [
    | inl leads ↦
        ap (λ (o : Option PlainCell). cell_by_right o (cell_by_crown ((final (stream_of k)).crowns (shard b order k)) (to b order k) old)) ((moved_in k l).no_right leads)
        ∙ ap (λ (o : Option (Lead × Option ℕ)). cell_by_crown o (to b order k) old) ((moved_in k l).crown leads)
        ∙ own_crown (to b order k) old
        ∙ sym (primary_is (left_cell b.place (move_at order k)) leads)
    | inr follows ↦ elim (one_of_two (left_cell b.place (move_at order k)) (opened k l).replica) [
      | inl leads ↦ absurd (both_ways (leads_shard b order k) follows leads)
      | inr second ↦
          ap (λ (o : Option PlainCell). cell_by_right o (cell_by_crown ((final (stream_of k)).crowns (shard b order k)) (to b order k) old)) ((moved_in k l).secondary follows)
          ∙ sym (secondary_is (left_cell b.place (move_at order k)) second)
    ]
  ]
    where
      own_crown : (u : ℕ) (old : Cell) → cond (u == u) cell.Primary old ≡ cell.Primary
      own_crown u old = rw (eq-eqb u u refl) refl

  pub comes_as_before : (k : ℕ) → k < length order → (end_of c plan b.place).cells (shard b order k) (to b order k) ≡ left_cell b.place (move_at order k)
  comes_as_before k l =
      end_cells (shard b order k) (to b order k)
      ∙ set_by_one (width order) (shard b order k) (to b order k) (stream_of k) (left_cell b.place (move_at order k)) (omega arith) (stream_known order k l) (to_quiet k l) (stands_as_before k l)

  pub others_stay : (s v : ℕ) → ((k : ℕ) → k < length order → shard b order k ≡ s → (to b order k ≢ v) × (from b order k ≢ v)) → (end_of c plan b.place).cells s v ≡ b.place.cells s v
  others_stay s v none = end_cells s v ∙ all_quiet (width order) s v (omega arith) (λ i. quiet i s v (λ k l own same. none k l same))

  -- ---- the published map

  -- a stream that moves no primary of the shard does not set its entry
  no_crown : (i s : ℕ) → ((k : ℕ) → k < length order → stream_of k ≡ i → leads_shard b order k ≡ true → shard b order k ≢ s) → (final i).crowns s ≡ None
  no_crown i s none = (at_end i).no_crown s none

  one_listed : (n s : ℕ) → n < width order → (set_to (suc n)).listed s ≡ listed_by ((final n).crowns s) ((set_to n).listed s)
  one_listed n s l = ap (λ (h : Hold). listed_by (h.crowns s) ((set_to n).listed s)) (final_is n l)

  one_unlisted : (n s : ℕ) → n < width order → (final n).crowns s ≡ None → (set_to (suc n)).listed s ≡ (set_to n).listed s
  one_unlisted n s l none = one_listed n s l ∙ ap (λ (o : Option (Lead × Option ℕ)). listed_by o ((set_to n).listed s)) none

  none_listed : (n s : ℕ) → n ≤ width order → ((i : ℕ) → (final i).crowns s ≡ None) → (set_to n).listed s ≡ b.place.listed s
  none_listed zero s l none = refl
  none_listed (suc n) s l none = one_unlisted n s (omega arith) (none n) ∙ none_listed n s (omega arith) none

  listed_by_one : (n s i : ℕ) (x : Option ℕ) → n ≤ width order → i < n → ((j : ℕ) → j ≢ i → (final j).crowns s ≡ None) → ((old : Option ℕ) → listed_by ((final i).crowns s) old ≡ x) → (set_to n).listed s ≡ x
  listed_by_one zero s i x l m none sets = absurd (omega arith)
  listed_by_one (suc n) s i x l m none sets = elim (cases_eq n i) [
    | inl same ↦ one_listed n s (omega arith) ∙ ap (λ j. listed_by ((final j).crowns s) ((set_to n).listed s)) same ∙ sets ((set_to n).listed s)
    | inr other ↦ one_unlisted n s (omega arith) (none n other) ∙ listed_by_one n s i x (omega arith) (omega arith) none sets
  ]

  end_listed : (s : ℕ) → (end_of c plan b.place).listed s ≡ (set_to (width order)).listed s
  end_listed s = ap (λ n. (set_to n).listed s) (stream_count b order)

  pub lists_the_new : (k : ℕ) → k < length order → leads_shard b order k ≡ true → (end_of c plan b.place).listed (shard b order k) ≡ option_map (λ v. to b order k) (b.place.listed (shard b order k))
  lists_the_new k l leads =
      end_listed (shard b order k)
      ∙ listed_by_one (width order) (shard b order k) (stream_of k) (named_after (b.place.listed (shard b order k)) (to b order k)) (omega arith) (stream_known order k l)
      (λ j other. no_crown j (shard b order k) (λ i m own here same. (apart i k m l (λ e. other (sym own ∙ ap stream_of e)) same).crowns here leads))
      (λ old. ap (λ (o : Option (Lead × Option ℕ)). listed_by o old) ((moved_in k l).crown leads))
      ∙ named_is (b.place.listed (shard b order k)) (to b order k)

  pub lists_as_before : (s : ℕ) → ((k : ℕ) → k < length order → shard b order k ≡ s → leads_shard b order k ≡ false) → (end_of c plan b.place).listed s ≡ b.place.listed s
  lists_as_before s none = end_listed s ∙ none_listed (width order) s (omega arith) (λ i. no_crown i s (λ k l own leads same. both_ways (leads_shard b order k) (none k l same) leads))

-- ---- of the moves as they were listed

-- the end of the rule's plan has each replica where its move was to bring it
pub has_moved : (b : Basis) (moves : List Move) (plan : PlanModel) → All (IsMoveOf b.setup) moves → IsPlanOf b moves plan → HasMoved b.place (end_of (sizes_of b.setup) plan b.place) moves
has_moved b moves plan all by = subst (λ p. HasMoved b.place (end_of (sizes_of b.setup) p b.place) moves) (sym by.3) (go by.0 by.1 by.2)
  where
    go : (placed : List ℕ) → IsPlacing b moves placed → refusal b moves placed ≡ None → HasMoved b.place (end_of (sizes_of b.setup) (planned b (in_placed_order moves placed)) b.place) moves
    go placed is none =
        let order : List Move = in_placed_order moves placed in
        let apart = order_apart b moves placed is none in
        let opened = order_opened b moves placed is none in
        let known : (k : ℕ) → k < length order → to b order k < (sizes_of b.setup).servers = λ k l. (order_known b moves placed is all k l).to in
        let fits = affordable b moves placed is.greedy in
        let count = count_is b moves placed is.greedy in
        let where_is : (i : ℕ) → i < length moves → (k : ℕ) × (k < length order) × (move_at order k ≡ move_at moves i) = λ i l.
        (let at = all_placed b moves placed is.greedy (none_left b moves placed is none) i l in
        let low = at.1 in
        (at.0, omega arith, move_is b moves placed is.greedy at.0 at.1 ∙ ap (move_at moves) at.2)) in
        record {
          left = λ i l.
              let at = where_is i l in
              subst (λ (m : Move). (end_of (sizes_of b.setup) (planned b order) b.place).cells m.shard m.from ≡ cell.Absent) at.2 (leaves_nothing b order apart opened known fits at.0 at.1);
          come = λ i l.
              let at = where_is i l in
              subst (λ (m : Move). (end_of (sizes_of b.setup) (planned b order) b.place).cells m.shard m.to ≡ left_cell b.place m) at.2 (comes_as_before b order apart opened known fits at.0 at.1);
          others = λ s v away. others_stay b order apart opened known fits s v (λ k l same.
              let at = move_is b moves placed is.greedy k (omega arith) in
              let off = away (get_or placed k 0) (place_known b moves placed is.greedy k (omega arith)) (ap (λ (m : Move). m.shard) (sym at) ∙ same) in
              (λ e. off.0 (ap (λ (m : Move). m.to) (sym at) ∙ e), λ e. off.1 (ap (λ (m : Move). m.from) (sym at) ∙ e)));
          listed = λ i l leads.
              let at = where_is i l in
              let there : is_primary (left_cell b.place (move_at order at.0)) ≡ true = subst (λ (m : Move). is_primary (left_cell b.place m) ≡ true) (sym at.2) leads in
              subst (λ (m : Move). (end_of (sizes_of b.setup) (planned b order) b.place).listed m.shard ≡ option_map (λ v. m.to) (b.place.listed m.shard)) at.2 (lists_the_new b order apart opened known fits at.0 at.1 there);
          unchanged = λ s none. lists_as_before b order apart opened known fits s (λ k l same.
              let at = move_is b moves placed is.greedy k (omega arith) in
              subst (λ (m : Move). is_primary (left_cell b.place m) ≡ false) (sym at) (none (get_or placed k 0) (place_known b moves placed is.greedy k (omega arith)) (ap (λ (m : Move). m.shard) (sym at) ∙ same)));
        }
