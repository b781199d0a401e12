-- Each stream of a plan of open moves that pay is good: what it holds before each of its moves.
use Rattle.std.proofs.Common.{◌≡◌, ◌≢◌, ℕ, zero, suc, ◌+◌, ◌-◌, ◌<◌, ◌≤◌, Bool, true, false, Option, None, List, ◌++◌, length, refl, sym, ap, ◌∙◌, arith, inl, inr, subst}
use Rattle.std.specs.Prelude.{◌==◌, ◌&&◌, IfSome}
use Rattle.std.proofs.lemmas.Bool.{cases_Bool, cases_eq, ne_eqb, and_left, and_right, both_ways}
use Rattle.sm_server.specs.Cell.{is_primary}
use Rattle.sm_placement.specs.declared.lead.Lead.{Lead}
use Rattle.sm_placement.specs.Lead.{is_at_rest}
use Rattle.sm_placement.specs.Setup.{Sizes, sizes_of}
use Rattle.sm_placement.specs.Sums.{sum_below, put}
use Rattle.sm_placement.proofs.Sums.{put-here, put-apart}
use Rattle.sm_reservation.specs.declared.right.PlainCell.{PlainCell}
use Rattle.sm_reservation.specs.Rights.{Rights}
use Rattle.sm_reservation.specs.Hold.{Hold}
use Rattle.sm_plan_code.specs.declared.moves.Move.{Move}
use Rattle.sm_verifier.specs.Step.{parcels_of}
use Rattle.sm_verifier.specs.Stream.{HasCrownsAtRest}
use Rattle.sm_planner.specs.Basis.{Basis, move_at, left_cell}
use Rattle.sm_planner.specs.Payment.{stream_of, signals_of}
use Rattle.sm_planner.specs.Plan.{instructions, waits_of, posts_of, move_code, planned}
use Rattle.sm_planner.proofs.law.Gathered.{gathered_own, gathered_other}
use Rattle.sm_planner.proofs.law.Codes.{code_to}
use Rattle.sm_planner.proofs.law.Payments.{load, to, from, IsAffordable}
use Rattle.sm_planner.proofs.law.Leading.{Leads, leads_on}
use Rattle.sm_planner.proofs.law.Moving.{IsReady, IsMoved, IsStep, makes_the_move}
use Rattle.sm_planner.proofs.law.Handing.{IsRoomChanged, of_others, wait_for_room, hand_on_room}
use Rattle.sm_planner.proofs.law.Owing.{owed, owed_then, owed_skips, owed_takes, gain_elsewhere, gain_of_other, keeps_enough, pays_with_both}

module _ (b : Basis) (order : List Move) where
  -- the shard of the k-th placed move
  abbrev pub shard : ℕ → ℕ
  shard k = (move_at order k).shard

  -- the k-th placed move is of a primary
  abbrev pub leads_shard : ℕ → Bool
  leads_shard k = is_primary (left_cell b.place (move_at order k))

  -- two moves of a shard have no server and no crown in common
  pub record AreApart (j k : ℕ) : Type 0 where
    pub to_to : to b order j ≢ to b order k
    pub to_from : to b order j ≢ from b order k
    pub from_to : from b order j ≢ to b order k
    pub from_from : from b order j ≢ from b order k
    pub crowns : leads_shard j ≡ true → leads_shard k ≡ true → ⊥

-- so are any two
abbrev pub AreAllApart : Basis → List Move → Type 0
AreAllApart b order = (j k : ℕ) → j < length order → k < length order → j ≢ k → shard b order j ≡ shard b order k → AreApart b order j k

module _ (b : Basis) (order : List Move) (i : ℕ) where
  -- what a stream holds before the n-th placed move
  pub record IsAt (n : ℕ) (h : Hold) : Type 0 where
    pub ready : (k : ℕ) → n ≤ k → k < length order → stream_of k ≡ i → IsReady b.place (move_at order k) h
    pub moved : (k : ℕ) → k < n → k < length order → stream_of k ≡ i → IsMoved b.place (move_at order k) h
    pub no_cell : (s v : ℕ) → ((k : ℕ) → k < length order → stream_of k ≡ i → shard b order k ≡ s → (to b order k ≢ v) × (from b order k ≢ v)) → h.cells s v ≡ None
    pub no_crown : (s : ℕ) → ((k : ℕ) → k < length order → stream_of k ≡ i → leads_shard b order k ≡ true → shard b order k ≢ s) → h.crowns s ≡ None
    pub at_rest : HasCrownsAtRest h
    pub room : (v : ℕ) → owed b order i n v ≤ h.room v

same_ready : (b : Basis) (m : Move) (h g : Hold) → g.cells ≡ h.cells → g.crowns ≡ h.crowns → IsReady b.place m h → IsReady b.place m g
same_ready b m h g cells crowns ready = record {
  absent = ap (λ (f : ℕ → ℕ → Option PlainCell). f m.shard m.to) cells ∙ ready.absent;
  secondary = λ e. ap (λ (f : ℕ → ℕ → Option PlainCell). f m.shard m.from) cells ∙ ready.secondary e;
  crown = λ e. ap (λ (f : ℕ → Option (Lead × Option ℕ)). f m.shard) crowns ∙ ready.crown e;
  no_right = λ e. ap (λ (f : ℕ → ℕ → Option PlainCell). f m.shard m.from) cells ∙ ready.no_right e;
}

module _ (b : Basis) (order : List Move) (apart : AreAllApart b order) (fits : IsAffordable b order) (i : ℕ) where
  abbrev c : Sizes
  c = sizes_of b.setup

  abbrev parcels : ℕ → Rights
  parcels = parcels_of (planned b order).signals

  -- once the stream has waited, moved and handed on
  module _ (n : ℕ) (known : n < length order) (own : stream_of n ≡ i) (h g1 g2 g3 : Hold) (at : IsAt b order i n h)
      (waited : IsRoomChanged h g1 (to b order n)) (more : g1.room (to b order n) ≡ h.room (to b order n) + sum_below n (of_others b order n))
      (step : IsStep c b.place (move_at order n) g1 g2)
      (handed : IsRoomChanged g2 g3 (from b order n)) (less : g3.room (from b order n) + sum_below (length order) (λ k. of_others b order k n) ≡ g2.room (from b order n)) where
    others_apart : (k : ℕ) → k < length order → k ≢ n → shard b order n ≡ shard b order k → AreApart b order n k
    others_apart k l other same = apart n k known l (λ e. other (sym e)) same

    kept_cell : (s v : ℕ) → (shard b order n ≡ s → to b order n ≢ v) → (shard b order n ≡ s → from b order n ≢ v) → g3.cells s v ≡ h.cells s v
    kept_cell s v one two =
        ap (λ (f : ℕ → ℕ → Option PlainCell). f s v) handed.cells
        ∙ step.cells s v one two
        ∙ ap (λ (f : ℕ → ℕ → Option PlainCell). f s v) waited.cells

    kept_crown : (s : ℕ) → (leads_shard b order n ≡ true → shard b order n ≢ s) → g3.crowns s ≡ h.crowns s
    kept_crown s one =
        ap (λ (f : ℕ → Option (Lead × Option ℕ)). f s) handed.crowns
        ∙ step.crowns s one
        ∙ ap (λ (f : ℕ → Option (Lead × Option ℕ)). f s) waited.crowns

    kept_to : (k : ℕ) → k < length order → k ≢ n → g3.cells (shard b order k) (to b order k) ≡ h.cells (shard b order k) (to b order k)
    kept_to k l other = kept_cell (shard b order k) (to b order k) (λ same. (others_apart k l other same).to_to) (λ same. (others_apart k l other same).from_to)

    kept_from : (k : ℕ) → k < length order → k ≢ n → g3.cells (shard b order k) (from b order k) ≡ h.cells (shard b order k) (from b order k)
    kept_from k l other = kept_cell (shard b order k) (from b order k) (λ same. (others_apart k l other same).to_from) (λ same. (others_apart k l other same).from_from)

    kept_lead : (k : ℕ) → k < length order → k ≢ n → leads_shard b order k ≡ true → g3.crowns (shard b order k) ≡ h.crowns (shard b order k)
    kept_lead k l other leads = kept_crown (shard b order k) (λ here same. (others_apart k l other same).crowns here leads)

    still_ready : (k : ℕ) → k < length order → k ≢ n → IsReady b.place (move_at order k) h → IsReady b.place (move_at order k) g3
    still_ready k l other ready = record {
      absent = kept_to k l other ∙ ready.absent;
      secondary = λ e. kept_from k l other ∙ ready.secondary e;
      crown = λ e. kept_lead k l other e ∙ ready.crown e;
      no_right = λ e. kept_from k l other ∙ ready.no_right e;
    }

    still_moved : (k : ℕ) → k < length order → k ≢ n → IsMoved b.place (move_at order k) h → IsMoved b.place (move_at order k) g3
    still_moved k l other moved = record {
      from = kept_from k l other ∙ moved.from;
      secondary = λ e. kept_to k l other ∙ moved.secondary e;
      crown = λ e. kept_lead k l other e ∙ moved.crown e;
      no_right = λ e. kept_to k l other ∙ moved.no_right e;
    }

    now_moved : IsMoved b.place (move_at order n) g3
    now_moved = record {
      from = ap (λ (f : ℕ → ℕ → Option PlainCell). f (shard b order n) (from b order n)) handed.cells ∙ step.moved.from;
      secondary = λ e. ap (λ (f : ℕ → ℕ → Option PlainCell). f (shard b order n) (to b order n)) handed.cells ∙ step.moved.secondary e;
      crown = λ e. ap (λ (f : ℕ → Option (Lead × Option ℕ)). f (shard b order n)) handed.crowns ∙ step.moved.crown e;
      no_right = λ e. ap (λ (f : ℕ → ℕ → Option PlainCell). f (shard b order n) (to b order n)) handed.cells ∙ step.moved.no_right e;
    }

    rest_kept : (s : ℕ) → g3.crowns s ≡ h.crowns s → IfSome (g3.crowns s) (λ crown. is_at_rest crown.0 ≡ true)
    rest_kept s same = subst (λ (o : Option (Lead × Option ℕ)). IfSome o (λ crown. is_at_rest crown.0 ≡ true)) (sym same) (at.at_rest s)

    resting : HasCrownsAtRest g3
    resting s = elim (cases_Bool (leads_shard b order n)) [
      | inl leads ↦ elim (cases_eq (shard b order n) s) [
        | inl same ↦
            let is = ap (λ t. g3.crowns t) (sym same) ∙ now_moved.crown leads in
            subst (λ (o : Option (Lead × Option ℕ)). IfSome o (λ crown. is_at_rest crown.0 ≡ true)) (sym is) refl
        | inr other ↦ rest_kept s (kept_crown s (λ e. other))
      ]
      | inr follows ↦ rest_kept s (kept_crown s (λ e. absurd (both_ways (leads_shard b order n) follows e)))
    ]

    -- ---- room

    room_at_from : g2.room (from b order n) ≡ g1.room (from b order n) + load b order n
    room_at_from = ap (λ (f : ℕ → ℕ). f (from b order n)) step.room ∙ put-here (put g1.room (to b order n) (g1.room (to b order n) - load b order n)) (from b order n) (g1.room (from b order n) + load b order n) (from b order n) refl

    room_at_to : g2.room (to b order n) ≡ g1.room (to b order n) - load b order n
    room_at_to =
        ap (λ (f : ℕ → ℕ). f (to b order n)) step.room
        ∙ put-apart (put g1.room (to b order n) (g1.room (to b order n) - load b order n)) (from b order n) (g1.room (from b order n) + load b order n) (to b order n) step.apart
        ∙ put-here g1.room (to b order n) (g1.room (to b order n) - load b order n) (to b order n) refl

    room_at_other : (v : ℕ) → v ≢ to b order n → v ≢ from b order n → g2.room v ≡ g1.room v
    room_at_other v one two =
        ap (λ (f : ℕ → ℕ). f v) step.room
        ∙ put-apart (put g1.room (to b order n) (g1.room (to b order n) - load b order n)) (from b order n) (g1.room (from b order n) + load b order n) v two
        ∙ put-apart g1.room (to b order n) (g1.room (to b order n) - load b order n) v one

    skips : (v : ℕ) → v ≢ to b order n → ((stream_of n == i) && (to b order n == v)) ≡ false
    skips v other = and_right (stream_of n == i) (to b order n == v) (ne_eqb (to b order n) v (λ e. other (sym e)))

    enough_room : (v : ℕ) → owed b order i (suc n) v ≤ g3.room v
    enough_room v =
        let then = owed_then b order i n v in
        let was = at.room v in
        elim (cases_eq v (to b order n)) [
          | inl there ↦
              let takes = owed_takes b order i n v known own (sym there) in
              let pays = pays_with_both b order i fits n known own in
              let none = gain_elsewhere b order i n v (λ e. step.apart (sym (e ∙ there))) in
              let r3 : g3.room v ≡ g2.room v = handed.room v (λ e. step.apart (sym there ∙ e)) in
              let r2 : g2.room v ≡ g1.room v - load b order n = rw there room_at_to in
              let r1 : g1.room v ≡ h.room v + sum_below n (of_others b order n) = rw there more in
              omega arith
          | inr elsewhere ↦ elim (cases_eq v (from b order n)) [
            | inl left ↦
                let skip = owed_skips b order i n v (skips v elsewhere) in
                let keeps = keeps_enough b order i n v own in
                let r3 : g3.room v + sum_below (length order) (λ k. of_others b order k n) ≡ g2.room v = rw left less in
                let r2 : g2.room v ≡ g1.room v + load b order n = rw left room_at_from in
                let r1 : g1.room v ≡ h.room v = waited.room v elsewhere in
                omega arith
            | inr other ↦
                let skip = owed_skips b order i n v (skips v elsewhere) in
                let none = gain_elsewhere b order i n v (λ e. other (sym e)) in
                let r3 : g3.room v ≡ g2.room v = handed.room v other in
                let r2 : g2.room v ≡ g1.room v = room_at_other v elsewhere other in
                let r1 : g1.room v ≡ h.room v = waited.room v elsewhere in
                omega arith
          ]
        ]

    pub at_next : IsAt b order i (suc n) g3
    at_next = record {
      ready = λ k l m mine. still_ready k m (λ e. absurd (omega arith)) (at.ready k (omega arith) m mine);
      moved = λ k l m mine. elim (cases_eq k n) [
        | inl same ↦ subst (λ j. IsMoved b.place (move_at order j) g3) (sym same) now_moved
        | inr other ↦ still_moved k m other (at.moved k (omega arith) m mine)
      ];
      no_cell = λ s v none. kept_cell s v (λ same. (none n known own same).0) (λ same. (none n known own same).1) ∙ at.no_cell s v none;
      no_crown = λ s none. kept_crown s (λ leads. none n known own leads) ∙ at.no_crown s none;
      at_rest = resting;
      room = enough_room;
    }

  own_move : (n : ℕ) → n < length order → stream_of n ≡ i → (h : Hold) → IsAt b order i n h → (g : Hold) × Leads c parcels h (move_code b order n) g × IsAt b order i (suc n) g
  own_move n known own h at =
      let m : Move = move_at order n in
      let one = wait_for_room c b order n known h in
      let was = at.room (to b order n) in
      let takes = owed_takes b order i n (to b order n) known own refl in
      let pays = pays_with_both b order i fits n known own in
      let more = one.3 in
      let two = makes_the_move c parcels b.place m one.0 (same_ready b m h one.0 one.2.cells one.2.crowns (at.ready n (omega arith) known own)) (omega arith) in
      let freed : (two.0).room (from b order n) ≡ (one.0).room (from b order n) + load b order n =
      (ap (λ (f : ℕ → ℕ). f (from b order n)) two.2.room ∙ put-here (put (one.0).room (to b order n) ((one.0).room (to b order n) - load b order n)) (from b order n) ((one.0).room (from b order n) + load b order n) (from b order n) refl) in
      let keeps = keeps_enough b order i n (from b order n) own in
      let three = hand_on_room c b order n two.0 (omega arith) in (
        three.0,
        leads_on c parcels (waits_of (signals_of b order) n) (instructions b.place m ++ posts_of (signals_of b order) n) h one.0 three.0 one.1
            (leads_on c parcels (instructions b.place m) (posts_of (signals_of b order) n) one.0 two.0 three.0 two.1 three.1),
        at_next n known own h one.0 two.0 three.0 at one.2 one.3 two.2 three.2 three.3,
      )

  other_move : (n : ℕ) → stream_of n ≢ i → (h : Hold) → IsAt b order i n h → IsAt b order i (suc n) h
  other_move n other h at = record {
    ready = λ k l m mine. at.ready k (omega arith) m mine;
    moved = λ k l m mine. elim (cases_eq k n) [
      | inl same ↦ absurd (other (ap stream_of (sym same) ∙ mine))
      | inr less ↦ at.moved k (omega arith) m mine
    ];
    no_cell = at.no_cell;
    no_crown = at.no_crown;
    at_rest = at.at_rest;
    room = λ v.
        let then = owed_then b order i n v in
        let skip = owed_skips b order i n v (and_left (stream_of n == i) (to b order n == v) (ne_eqb (stream_of n) i other)) in
        let none = gain_of_other b order i n v other in
        let was = at.room v in
        omega arith;
  }

  -- as far as the first n moves go
  pub follows : (h : Hold) → IsAt b order i 0 h → (n : ℕ) → n ≤ length order → (g : Hold) × Leads c parcels h (code_to b order n i) g × IsAt b order i n g
  follows h at zero l = (h, refl, at)
  follows h at (suc n) l =
      let low = follows h at n (omega arith) in
      elim (cases_eq (stream_of n) i) [
        | inl own ↦
            let next = own_move n (omega arith) own low.0 low.2 in
            (next.0, subst (λ code. Leads c parcels h code next.0) (sym (gathered_own stream_of (move_code b order) n i own)) (leads_on c parcels (code_to b order n i) (move_code b order n) h low.0 next.0 low.1 next.1), next.2)
        | inr other ↦ (low.0, subst (λ code. Leads c parcels h code low.0) (sym (gathered_other stream_of (move_code b order) n i other)) low.1, other_move n other low.0 low.2)
      ]
