-- The pool of a state: what is in it, what is held and what nobody may use are together what there is.
use Rattle.sm_protocol.proofs.Below.{◌≡◌, ℕ, ◌+◌, ◌-◌, ◌<◌, ◌≤◌, Bool, true, false, Option, Some, None, refl, sym, ap, ◌∙◌, arith, inl, inr, ◌==◌, if◌then◌else◌, cases_Bool, cases_lt, eqb-true, lt-ltb, le-ltb, and_parts, Lead, bit, load_at, live_at, PlainCell, Right, OfCell, OfCrown, OfRoom, OfSpare, count, stock, bound, is_cell, is_crown, same_lead, same_listed, plain_of, true_rights, is_cell_true, same_lead_true, same_server_true}
use Rattle.sm_protocol.proofs.Words.{State, held, pool, free_cell, free_crown}
use Rattle.sm_reservation.proofs.ParcelSums.{no_cell}
use Rattle.sm_protocol.proofs.Invariant.{IsKept}
use Rattle.sm_protocol.proofs.Steps.{lead_is}

module _ (w : State) (v : IsKept w) where
  cell_within : (s u : ℕ) (state : PlainCell) → count (pool w) (OfCell s u state) + held w (OfCell s u state) ≤ bit (is_cell state (plain_of (w.place.cells s u)))
  cell_within s u state = go ((true_rights w.sizes w.place).cells s u) refl
    where
      fits : held w (OfCell s u state) + 0 ≤ bit (is_cell state (plain_of (w.place.cells s u)))
      fits = v.fits (OfCell s u state)

      true_state : (t : Bool) (o : Option PlainCell) (st : PlainCell) → (if t then o else None) ≡ Some st → o ≡ Some st
      true_state true o st e = e
      true_state false o st e = cc

      inside : (st : PlainCell) (free : Bool) → (held w (OfCell s u st) == 0) ≡ free → plain_of (w.place.cells s u) ≡ Some st →
          bit (is_cell state (if free then Some st else None)) + held w (OfCell s u state) ≤ bit (is_cell state (plain_of (w.place.cells s u)))
      inside st false h e = let n = no_cell state in let f = fits in omega arith
      inside st true h e = elim (cases_Bool (is_cell state (Some st))) [
        | inr other ↦ let n : bit (is_cell state (Some st)) ≡ 0 = rw other refl in let f = fits in omega arith
        | inl it ↦
            let same : Some st ≡ Some state = is_cell_true state (Some st) it in
            let st_is : st ≡ state = cc in
            let none : held w (OfCell s u state) ≡ 0 = ap (λ q. held w (OfCell s u q)) (sym st_is) ∙ eqb-true (held w (OfCell s u st)) 0 h in
            let all : bit (is_cell state (plain_of (w.place.cells s u))) ≡ bit (is_cell state (Some st)) = ap (λ o. bit (is_cell state o)) e in
            omega arith
      ]

      go : (o : Option PlainCell) → (true_rights w.sizes w.place).cells s u ≡ o → count (pool w) (OfCell s u state) + held w (OfCell s u state) ≤ bit (is_cell state (plain_of (w.place.cells s u)))
      go None e =
          let n : count (pool w) (OfCell s u state) ≡ 0 = ap (λ o. bit (is_cell state (free_cell (held w) s u o))) e ∙ no_cell state in
          let f = fits in omega arith
      go (Some st) e =
          let n : count (pool w) (OfCell s u state) ≡ bit (is_cell state (if held w (OfCell s u st) == 0 then Some st else None)) = ap (λ o. bit (is_cell state (free_cell (held w) s u o))) e in
          let i = inside st (held w (OfCell s u st) == 0) refl (true_state _ (plain_of (w.place.cells s u)) st e) in
          omega arith

  -- the crown of a known shard
  crown_there : (s : ℕ) → s < w.sizes.shards → (true_rights w.sizes w.place).crowns s ≡ Some (v.leads s, w.place.listed s)
  crown_there s l = rw (lt-ltb s w.sizes.shards l, lead_is w v s) refl

  crown_within : (s : ℕ) (lead : Lead) (listed : Option ℕ) → count (pool w) (OfCrown s lead listed) + held w (OfCrown s lead listed) ≤ bit (is_crown lead listed (Some (v.leads s, w.place.listed s)))
  crown_within s lead listed = elim (cases_lt s w.sizes.shards) [
    | inr out ↦
        let n : (true_rights w.sizes w.place).crowns s ≡ None = rw (le-ltb s w.sizes.shards out) refl in
        let c : count (pool w) (OfCrown s lead listed) ≡ 0 = ap (λ o. bit (is_crown lead listed (free_crown (held w) s o))) n in
        let f = fits in omega arith
    | inl known ↦
        let c : count (pool w) (OfCrown s lead listed) ≡ bit (is_crown lead listed (if held w (OfCrown s (v.leads s) (w.place.listed s)) == 0 then Some (v.leads s, w.place.listed s) else None)) =
        ap (λ o. bit (is_crown lead listed (free_crown (held w) s o))) (crown_there s known) in
        let i = inside (held w (OfCrown s (v.leads s) (w.place.listed s)) == 0) refl in
        omega arith
  ]
    where
      fits : held w (OfCrown s lead listed) + 0 ≤ bit (is_crown lead listed (Some (v.leads s, w.place.listed s)))
      fits = v.fits (OfCrown s lead listed)

      inside : (free : Bool) → (held w (OfCrown s (v.leads s) (w.place.listed s)) == 0) ≡ free →
          bit (is_crown lead listed (if free then Some (v.leads s, w.place.listed s) else None)) + held w (OfCrown s lead listed) ≤ bit (is_crown lead listed (Some (v.leads s, w.place.listed s)))
      inside false h = let f = fits in omega arith
      inside true h = elim (cases_Bool (is_crown lead listed (Some (v.leads s, w.place.listed s)))) [
        | inr other ↦ let n : bit (is_crown lead listed (Some (v.leads s, w.place.listed s))) ≡ 0 = rw other refl in let f = fits in omega arith
        | inl it ↦
            let q = and_parts (same_lead lead (v.leads s)) (same_listed listed (w.place.listed s)) it in
            let a = same_lead_true lead (v.leads s) q.0 in
            let b = same_server_true listed (w.place.listed s) q.1 in
            let none : held w (OfCrown s lead listed) ≡ 0 = ap (λ l. held w (OfCrown s l listed)) a ∙ ap (λ l. held w (OfCrown s (v.leads s) l)) b ∙ eqb-true (held w (OfCrown s (v.leads s) (w.place.listed s))) 0 h in
            omega arith
      ]

  -- room is conserved, of each server
  pub room_conserved : (u : ℕ) → u < w.sizes.servers → (pool w).room u + held w (OfRoom u) + load_at w.sizes w.place u ≡ w.sizes.room u
  room_conserved u l =
      let f : held w (OfRoom u) + load_at w.sizes w.place u ≤ w.sizes.room u = v.fits (OfRoom u) in
      let e : (pool w).room u ≡ (w.sizes.room u - load_at w.sizes w.place u) - held w (OfRoom u) = rw (lt-ltb u w.sizes.servers l) refl in
      omega arith

  -- spare replicas are conserved, of each shard
  pub spare_conserved : (s : ℕ) → s < w.sizes.shards → (pool w).spare s + held w (OfSpare s) + w.sizes.floor s ≡ live_at w.sizes w.place s
  spare_conserved s l =
      let f : held w (OfSpare s) + w.sizes.floor s ≤ live_at w.sizes w.place s = v.fits (OfSpare s) in
      let e : (pool w).spare s ≡ (live_at w.sizes w.place s - w.sizes.floor s) - held w (OfSpare s) = rw (lt-ltb s w.sizes.shards l) refl in
      omega arith

  -- what is in the pool is there beside what is held
  pub pool_within : (r : Right) → count (pool w) r + held w r + bound w.sizes w.place r ≤ stock w.sizes w.place v.leads r
  pool_within (OfCell s u state) = let c = cell_within s u state in omega arith
  pool_within (OfCrown s lead listed) = let c = crown_within s lead listed in omega arith
  pool_within (OfRoom u) = elim (cases_lt u w.sizes.servers) [
    | inl known ↦ let c = room_conserved u known in omega arith
    | inr out ↦
        let f : held w (OfRoom u) + load_at w.sizes w.place u ≤ w.sizes.room u = v.fits (OfRoom u) in
        let e : (pool w).room u ≡ 0 - held w (OfRoom u) = rw (le-ltb u w.sizes.servers out) refl in
        omega arith
  ]
  pool_within (OfSpare s) = elim (cases_lt s w.sizes.shards) [
    | inl known ↦ let c = spare_conserved s known in omega arith
    | inr out ↦
        let f : held w (OfSpare s) + w.sizes.floor s ≤ live_at w.sizes w.place s = v.fits (OfSpare s) in
        let e : (pool w).spare s ≡ 0 - held w (OfSpare s) = rw (le-ltb s w.sizes.shards out) refl in
        omega arith
  ]
