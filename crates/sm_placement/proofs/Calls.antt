-- Facts that a call leaves true of a placement, and which calls are allowed.
use Rattle.std.proofs.Common.{◌≡◌, ◌≢◌, ℕ, ◌+◌, ◌-◌, ◌<◌, ◌≤◌, Bool, true, false, not, eqb, ltb, refl, sym, ap, ◌∙◌, arith, inl, inr, subst, ◌⊎◌, ◌↔◌, Option, Some, None}
use Rattle.std.specs.Prelude.{Result, Ok, Err, IfOk}
use Rattle.std.proofs.lemmas.Bool.{cases_eq, cases_Bool, eq-eqb, ne_eqb, ltb-false, le-ltb, not-true}
use Rattle.sm_server.specs.declared.call.Cell.{Cell}
use Rattle.sm_server.specs.declared.call.Cell.TheVariants.{Absent, Prepared, Secondary, Primary, Forwarding}
use Rattle.sm_server.specs.declared.call.Role.{Role}
use Rattle.sm_server.specs.declared.call.Role.TheVariants as role
use Rattle.sm_server.specs.declared.call.Call.{Call}
use Rattle.sm_server.specs.declared.call.Call.TheVariants.{Add, Drop, Change, PrepareAdd, PrepareDrop}
use Rattle.sm_server.specs.declared.call.Refusal.{Refusal}
use Rattle.sm_server.specs.declared.call.Served.{Served}
use Rattle.sm_server.specs.Cell.{is_absent, is_forwarding, cell_in}
use Rattle.sm_server.specs.Call.{Leads, led_to, served}
use Rattle.sm_placement.specs.Setup.{Sizes}
use Rattle.sm_placement.specs.Rows.{IsKnownCell, IsKnownCall}
use Rattle.sm_placement.specs.Place.{Place, weight, load_of, load_at, set_cell, set_last, answer_at, with_answer, called, numbered_answer_at, called_numbered, with_number, NumberedAsCalled, with_lasts, outcome_with, LooksAtNoLasts, IsAllowed}
use Rattle.sm_placement.specs.Lead.{IsSettled}
use Rattle.sm_placement.specs.Layout.{IsPlacement}
use Rattle.sm_placement.specs.Sums.{put2}
use Rattle.sm_placement.proofs.Sums.{put2-here, put2-row, put2-apart, put2-same, same_sum, sum_apart}

-- a server's load after one cell of it has changed: what the cell weighed leaves, and what it weighs comes in
pub load_of-put : (c : Sizes) (cells : ℕ → ℕ → Cell) (s v : ℕ) (x : Cell) → s < c.shards →
    load_of c (put2 cells s v x) v + weight (cells s v) (c.load s) ≡ load_of c cells v + weight x (c.load s)
load_of-put c cells s v x h =
    sum_apart c.shards (λ k. weight (put2 cells s v x k v) (c.load k)) (λ k. weight (cells k v) (c.load k)) s (weight (cells s v) (c.load s)) (weight x (c.load s)) h
    (λ j e. ap (λ y. weight y (c.load j)) (put2-apart cells s v x j v e))
    (let e : weight (put2 cells s v x s v) (c.load s) ≡ weight x (c.load s) = ap (λ y. weight y (c.load s)) (put2-here cells s v x) in omega arith)

-- the loads of the other servers stay
pub load_of-apart : (c : Sizes) (cells : ℕ → ℕ → Cell) (s v : ℕ) (x : Cell) (w : ℕ) → w ≢ v → load_of c (put2 cells s v x) w ≡ load_of c cells w
load_of-apart c cells s v x w e =
    same_sum c.shards (λ k. weight (put2 cells s v x k w) (c.load k)) (λ k. weight (cells k w) (c.load k))
    (λ k l. elim (cases_eq k s) [
      | inl d ↦ ap (λ y. weight y (c.load k)) (rw d (put2-row cells s v x w e))
      | inr d ↦ ap (λ y. weight y (c.load k)) (put2-apart cells s v x k w d)
    ])

-- the cell that a call leads to names no new server but the call's
pub led_to_known : (n : ℕ) (call : Call) (cell next : Cell) → IsKnownCall n call → led_to call cell ≡ Some next → IsKnownCell n next
led_to_known n call cell next k e = go call cell k e
  where
    at : (x : Cell) → IsKnownCell n x → Some x ≡ Some next → IsKnownCell n next
    at x h q = let same : x ≡ next = cc in subst (λ y. IsKnownCell n y) same h

    role_known : (r : Role) → IsKnownCell n (cell_in r)
    role_known role.Primary = tt
    role_known role.Secondary = tt

    go : (call : Call) (cell : Cell) → IsKnownCall n call → led_to call cell ≡ Some next → IsKnownCell n next
    go (Add r) Absent k e = at (cell_in r) (role_known r) e
    go (Add role.Primary) (Prepared a b) k e = at Primary tt e
    go (Add role.Secondary) (Prepared a b) k e = cc
    go (Add role.Primary) Secondary k e = cc
    go (Add role.Secondary) Secondary k e = cc
    go (Add role.Primary) Primary k e = cc
    go (Add role.Secondary) Primary k e = cc
    go (Add role.Primary) (Forwarding a b) k e = cc
    go (Add role.Secondary) (Forwarding a b) k e = cc
    go Drop Absent k e = cc
    go Drop (Prepared a b) k e = at Absent tt e
    go Drop Secondary k e = at Absent tt e
    go Drop Primary k e = at Absent tt e
    go Drop (Forwarding a b) k e = at Absent tt e
    go (Change role.Secondary role.Primary) Absent k e = cc
    go (Change role.Secondary role.Primary) (Prepared a b) k e = cc
    go (Change role.Secondary role.Primary) Secondary k e = at Primary tt e
    go (Change role.Secondary role.Primary) Primary k e = cc
    go (Change role.Secondary role.Primary) (Forwarding a b) k e = cc
    go (Change role.Primary role.Secondary) Absent k e = cc
    go (Change role.Primary role.Secondary) (Prepared a b) k e = cc
    go (Change role.Primary role.Secondary) Secondary k e = cc
    go (Change role.Primary role.Secondary) Primary k e = at Secondary tt e
    go (Change role.Primary role.Secondary) (Forwarding a b) k e = cc
    go (Change role.Primary role.Primary) cell k e = cc
    go (Change role.Secondary role.Secondary) cell k e = cc
    go (PrepareAdd owner number) Absent k e = at (Prepared owner number) k e
    go (PrepareAdd owner number) (Prepared a b) k e = cc
    go (PrepareAdd owner number) Secondary k e = cc
    go (PrepareAdd owner number) Primary k e = cc
    go (PrepareAdd owner number) (Forwarding a b) k e = cc
    go (PrepareDrop new_owner number) Absent k e = cc
    go (PrepareDrop new_owner number) (Prepared a b) k e = cc
    go (PrepareDrop new_owner number) Secondary k e = cc
    go (PrepareDrop new_owner number) Primary k e = at (Forwarding new_owner number) k e
    go (PrepareDrop new_owner number) (Forwarding a b) k e = cc

-- a cell that forwards doesn't forward after a call
pub led_to_forwarding : (call : Call) (cell next : Cell) → led_to call cell ≡ Some next → is_forwarding cell ≡ true → is_forwarding next ≡ false
led_to_forwarding call cell next e f = go call cell e f
  where
    go : (call : Call) (cell : Cell) → led_to call cell ≡ Some next → is_forwarding cell ≡ true → is_forwarding next ≡ false
    go Drop (Forwarding a b) e f = let same : Absent ≡ next = cc in rw (← same) refl
    go (Add role.Primary) (Forwarding a b) e f = cc
    go (Add role.Secondary) (Forwarding a b) e f = cc
    go (Change role.Primary role.Secondary) (Forwarding a b) e f = cc
    go (Change role.Secondary role.Primary) (Forwarding a b) e f = cc
    go (Change role.Primary role.Primary) (Forwarding a b) e f = cc
    go (Change role.Secondary role.Secondary) (Forwarding a b) e f = cc
    go (PrepareAdd a b) (Forwarding x y) e f = cc
    go (PrepareDrop a b) (Forwarding x y) e f = cc
    go call Absent e f = cc
    go call Secondary e f = cc
    go call Primary e f = cc
    go call (Prepared a b) e f = cc

-- a call that is served goes to a server that is up, leads somewhere, and has room where nothing was held
pub served_ok : (cell : Cell) (free_room load : ℕ) (up : Bool) (call : Call) (next : Cell) → served cell free_room load up call ≡ Ok next →
    (up ≡ true) × (led_to call cell ≡ Some next) × (is_absent cell ≡ true → load ≤ free_room)
served_ok cell free_room load up call next e = go up (led_to call cell) refl (is_absent cell) refl (ltb free_room load) refl e
  where
    go : (u : Bool) (o : Option Cell) → led_to call cell ≡ o → (a : Bool) → is_absent cell ≡ a → (t : Bool) → ltb free_room load ≡ t →
        served cell free_room load u call ≡ Ok next → (u ≡ true) × (led_to call cell ≡ Some next) × (is_absent cell ≡ true → load ≤ free_room)
    go false o q a qa t qt e = cc
    go true None q a qa t qt e = absurd (let z = rw q at e in cc)
    go true (Some x) q true qa true qt e = absurd (let z = rw (q, qa, qt) at e in cc)
    go true (Some x) q true qa false qt e = let z = rw (q, qa, qt) at e in (refl, cc, λ _. ltb-false free_room load qt)
    go true (Some x) q false qa t qt e = let z = rw (q, qa) at e in (refl, cc, λ y. absurd (cc (y, qa)))

-- and each such call is served
pub served_from : (cell : Cell) (free_room load : ℕ) (call : Call) (next : Cell) → led_to call cell ≡ Some next → (is_absent cell ≡ true → load ≤ free_room) →
    served cell free_room load true call ≡ Ok next
served_from cell free_room load call next q room = go (is_absent cell) refl
  where
    go : (a : Bool) → is_absent cell ≡ a → served cell free_room load true call ≡ Ok next
    go true qa = rw (q, qa, le-ltb free_room load (room qa)) refl
    go false qa = rw (q, qa) refl

-- a cell weighs no more than its shard's load
pub weight_within : (cell : Cell) (load : ℕ) → weight cell load ≤ load
weight_within Absent load = omega arith
weight_within Secondary load = omega arith
weight_within Primary load = omega arith
weight_within (Prepared a b) load = omega arith
weight_within (Forwarding a b) load = omega arith

-- a call that is answered Ok keeps what every placement keeps
pub called_keeps : (c : Sizes) (p : Place) (s v : ℕ) (call : Call) (next : Cell) → IsPlacement c p → s < c.shards → v < c.servers → IsKnownCall c.servers call →
    answer_at c p s v call ≡ Ok next → IsPlacement c (set_cell p s v next)
called_keeps c p s v call next is hs hv known e = record {
  no_server = λ r w l. kept (λ y. y ≡ Absent) r w (λ a b. absurd (omega arith)) (is.no_server r w l);
  no_shard = λ r w l. kept (λ y. y ≡ Absent) r w (λ a b. absurd (omega arith)) (is.no_shard r w l);
  no_entry = is.no_entry;
  no_down = is.no_down;
  known = λ r w. kept (λ y. IsKnownCell c.servers y) r w (λ a b. led_to_known c.servers call (p.cells s v) next known ok.1) (is.known r w);
  listed = is.listed;
  rooms = λ w l. elim (cases_eq w v) [
    | inl d ↦ subst (λ k. load_at c (set_cell p s v next) k ≤ c.room k) (sym d) here
    | inr d ↦ let same : load_of c (put2 p.cells s v next) w ≡ load_of c p.cells w = load_of-apart c p.cells s v next w d in let was : load_of c p.cells w ≤ c.room w = is.rooms w l in omega arith
  ];
}
  where
    ok : (not (p.down v) ≡ true) × (led_to call (p.cells s v) ≡ Some next) × (is_absent (p.cells s v) ≡ true → c.load s ≤ c.room v - load_at c p v)
    ok = served_ok (p.cells s v) (c.room v - load_at c p v) (c.load s) (not (p.down v)) call next e

    kept : (P : Cell → Type 0) (r w : ℕ) → (r ≡ s → w ≡ v → P next) → P (p.cells r w) → P (put2 p.cells s v next r w)
    kept P r w new old = elim (cases_eq r s) [
      | inl d ↦ elim (cases_eq w v) [
        | inl g ↦ rw (d, g, put2-here p.cells s v next) (new d g)
        | inr g ↦ rw (d, put2-row p.cells s v next w g) (subst (λ k. P (p.cells k w)) d old)
      ]
      | inr d ↦ rw (put2-apart p.cells s v next r w d) old
    ]

    here : load_of c (put2 p.cells s v next) v ≤ c.room v
    here =
        let moved : load_of c (put2 p.cells s v next) v + weight (p.cells s v) (c.load s) ≡ load_of c p.cells v + weight next (c.load s) = load_of-put c p.cells s v next hs in
        let was : load_of c p.cells v ≤ c.room v = is.rooms v hv in
        let most : weight next (c.load s) ≤ c.load s = weight_within next (c.load s) in
        elim (cases_Bool (is_absent (p.cells s v))) [
          | inl a ↦ let none : weight (p.cells s v) (c.load s) ≡ 0 = rw a refl in let fits : c.load s ≤ c.room v - load_of c p.cells v = ok.2 a in omega arith
          | inr a ↦ let all : weight (p.cells s v) (c.load s) ≡ c.load s = rw a refl in omega arith
        ]

-- an allowed call is one that is answered Ok
pub allowed_answer : (c : Sizes) (p : Place) (s v : ℕ) (call : Call) (to : Cell) → load_at c p v ≤ c.room v →
    ((led_to call (p.cells s v) ≡ Some to) ↔ Leads call (p.cells s v) to) → (answer_at c p s v call ≡ Ok to) ↔ IsAllowed c p s v call to
allowed_answer c p s v call to fits law = (forth, back)
  where
    absent_test : (x : Cell) → x ≡ Absent → is_absent x ≡ true
    absent_test x e = rw e refl

    absent_from : (x : Cell) → is_absent x ≡ true → x ≡ Absent
    absent_from Absent e = refl
    absent_from Secondary e = cc
    absent_from Primary e = cc
    absent_from (Prepared a b) e = cc
    absent_from (Forwarding a b) e = cc

    forth : answer_at c p s v call ≡ Ok to → IsAllowed c p s v call to
    forth e =
        let ok = served_ok (p.cells s v) (c.room v - load_at c p v) (c.load s) (not (p.down v)) call to e in
        record {
          leads = law.0 ok.1;
          up = not-true (p.down v) ok.0;
          room = λ a. let free : c.load s ≤ c.room v - load_at c p v = ok.2 (absent_test (p.cells s v) a) in omega arith;
        }

    back : IsAllowed c p s v call to → answer_at c p s v call ≡ Ok to
    back a = rw a.up (served_from (p.cells s v) (c.room v - load_at c p v) (c.load s) call to (law.1 a.leads) (λ t. let room : load_at c p v + c.load s ≤ c.room v = a.room (absent_from (p.cells s v) t) in omega arith))

-- what an answer to a call keeps
pub answer_kept : (c : Sizes) (p : Place) (s v : ℕ) (call : Call) (r : Result Cell Refusal) → IsPlacement c p → s < c.shards → v < c.servers → IsKnownCall c.servers call →
    r ≡ answer_at c p s v call → IfOk r (λ next. IsPlacement c (set_cell p s v next))
answer_kept c p s v call (Ok next) is hs hv known e = called_keeps c p s v call next is hs hv known (sym e)
answer_kept c p s v call (Err why) is hs hv known e = tt

-- what a numbered call is answered: an effect now is that of the call, and an earlier one leaves all as it is
numbered_cases : (c : Sizes) (p : Place) (s v : ℕ) (call : Call) (number : ℕ) (served : Served) → Ok served ≡ numbered_answer_at c p s v call number →
    ((served.fresh ≡ true) × (answer_at c p s v call ≡ Ok served.cell)) ⊎ ((served.fresh ≡ false) × (served.cell ≡ p.cells s v) × (served.last ≡ p.last s v))
numbered_cases c p s v call number served e = go (not (p.down v)) refl (eqb number (p.last s v)) refl (answer_at c p s v call) refl
  where
    go : (u : Bool) → not (p.down v) ≡ u → (t : Bool) → eqb number (p.last s v) ≡ t → (r : Result Cell Refusal) → answer_at c p s v call ≡ r →
        ((served.fresh ≡ true) × (answer_at c p s v call ≡ Ok served.cell)) ⊎ ((served.fresh ≡ false) × (served.cell ≡ p.cells s v) × (served.last ≡ p.last s v))
    go false qu t qt r qr = absurd (let z = rw qu at e in cc)
    go true qu true qt r qr =
        let z : ◌≡◌ {A = Result Served Refusal} (Ok served) (Ok (record { cell = p.cells s v; last = p.last s v; fresh = false })) = rw (qu, qt) at e in
        let same : served ≡ record { cell = p.cells s v; last = p.last s v; fresh = false } = cc in
        inr (ap (λ (x : Served). x.fresh) same, ap (λ (x : Served). x.cell) same, ap (λ (x : Served). x.last) same)
    go true qu false qt (Ok next) qr =
        let q1 = rw qu at qr in
        let z : ◌≡◌ {A = Result Served Refusal} (Ok served) (Ok (record { cell = next; last = number; fresh = true })) = rw (qu, qt, q1) at e in
        let same : served ≡ record { cell = next; last = number; fresh = true } = cc in
        inl (ap (λ (x : Served). x.fresh) same, qr ∙ ap Ok (sym (ap (λ (x : Served). x.cell) same)))
    go true qu false qt (Err why) qr =
        let q1 = rw qu at qr in
        let z : ◌≡◌ {A = Result Served Refusal} (Ok served) (Err why) = rw (qu, qt, q1) at e in
        absurd (cc)

-- a numbered call that has its effect now leaves true what every placement keeps
pub numbered_kept : (c : Sizes) (p : Place) (s v : ℕ) (call : Call) (number : ℕ) (r : Result Served Refusal) → IsPlacement c p → s < c.shards → v < c.servers → IsKnownCall c.servers call →
    r ≡ numbered_answer_at c p s v call number → IfOk r (λ served. served.fresh ≡ true → IsPlacement c (set_cell p s v served.cell))
numbered_kept c p s v call number (Err why) is hs hv known e = tt
numbered_kept c p s v call number (Ok served) is hs hv known e = λ f. elim (numbered_cases c p s v call number served e) [
  | inl w ↦ called_keeps c p s v call served.cell is hs hv known w.1
  | inr w ↦ absurd (cc (f, w.0))
]

-- a numbered call that had its effect before changes nothing
pub numbered_before : (c : Sizes) (p : Place) (s v : ℕ) (call : Call) (number : ℕ) (r : Result Served Refusal) → r ≡ numbered_answer_at c p s v call number →
    IfOk r (λ served. served.fresh ≡ false → set_last (set_cell p s v served.cell) s v served.last ≡ p)
numbered_before c p s v call number (Err why) e = tt
numbered_before c p s v call number (Ok served) e = λ f. elim (numbered_cases c p s v call number served e) [
  | inl w ↦ absurd (cc (f, w.0))
  | inr w ↦
      let cells : put2 p.cells s v served.cell ≡ p.cells = put2-same p.cells s v served.cell (sym w.1) in
      let lasts : put2 p.last s v served.last ≡ p.last = put2-same p.last s v served.last (sym w.2) in
      ap (λ (g : ℕ → ℕ → Cell). record p { cells = g; last = put2 p.last s v served.last }) cells ∙ ap (λ (g : ℕ → ℕ → ℕ). record p { last = g }) lasts
]

-- a call under another number than the last one is the call itself, with its number last then
with_another : (c : Sizes) (p : Place) (s v : ℕ) (call : Call) (number : ℕ) → number ≢ p.last s v → called_numbered c p s v call number ≡ with_number s v number (called c p s v call)
with_another c p s v call number d = go (p.down v) refl (answer_at c p s v call) refl
  where
    go : (b : Bool) → p.down v ≡ b → (r : Result Cell Refusal) → answer_at c p s v call ≡ r → called_numbered c p s v call number ≡ with_number s v number (called c p s v call)
    go true q r qr = rw q refl
    go false q (Ok next) qr = let z = rw q at qr in rw (q, ne_eqb number (p.last s v) d, z) refl
    go false q (Err why) qr = let z = rw q at qr in rw (q, ne_eqb number (p.last s v) d, z) refl

-- a numbered call under a new number does what the call alone does, and its number is the last one then
pub numbered_first : (c : Sizes) (p : Place) (s v : ℕ) (call : Call) (number : ℕ) (q : Place) → number ≢ p.last s v → called c p s v call ≡ Ok q →
    called_numbered c p s v call number ≡ Ok (record { place = set_last q s v number; fresh = true })
numbered_first c p s v call number q d e = with_another c p s v call number d ∙ ap (with_number s v number) e

-- under the last number, at a server that is up, nothing changes
pub numbered_again : (c : Sizes) (p : Place) (s v : ℕ) (call : Call) (number : ℕ) → p.down v ≡ false → number ≡ p.last s v →
    called_numbered c p s v call number ≡ Ok (record { place = p; fresh = false })
numbered_again c p s v call number up e =
    let cells : put2 p.cells s v (p.cells s v) ≡ p.cells = put2-same p.cells s v (p.cells s v) refl in
    let lasts : put2 p.last s v (p.last s v) ≡ p.last = put2-same p.last s v (p.last s v) refl in
    let same : set_last (set_cell p s v (p.cells s v)) s v (p.last s v) ≡ p =
    ap (λ (g : ℕ → ℕ → Cell). record p { cells = g; last = put2 p.last s v (p.last s v) }) cells ∙ ap (λ (g : ℕ → ℕ → ℕ). record p { last = g }) lasts in
    rw (up, eq-eqb number (p.last s v) e) (ap (λ (q : Place). Ok (record { place = q; fresh = false })) same)

-- a numbered call is the call alone under a new number, and changes nothing under the last one
pub numbered_as_called : (c : Sizes) (p : Place) (s v : ℕ) (call : Call) (number : ℕ) → NumberedAsCalled c p s v call number
numbered_as_called c p s v call number = record { first = with_another c p s v call number; again = numbered_again c p s v call number }

-- calls look at no last numbers
pub called_with_lasts : (c : Sizes) (p : Place) → LooksAtNoLasts c p
called_with_lasts c p last s v call = go (answer_at c p s v call)
  where
    go : (r : Result Cell Refusal) → with_answer (with_lasts last p) s v r ≡ outcome_with last (with_answer p s v r)
    go (Ok next) = refl
    go (Err why) = refl

-- nor do what a call is allowed by, and what a placement keeps
pub allowed_with_lasts : (c : Sizes) (p : Place) (last : ℕ → ℕ → ℕ) (s v : ℕ) (call : Call) (to : Cell) → IsAllowed c p s v call to → IsAllowed c (with_lasts last p) s v call to
allowed_with_lasts c p last s v call to is = record { leads = is.leads; up = is.up; room = is.room }

-- what every placement keeps is kept under any last numbers
pub placement_with_lasts : (c : Sizes) (p : Place) (last : ℕ → ℕ → ℕ) → IsPlacement c p → IsPlacement c (with_lasts last p)
placement_with_lasts c p last is = record {
  no_server = is.no_server;
  no_shard = is.no_shard;
  no_entry = is.no_entry;
  no_down = is.no_down;
  known = is.known;
  listed = is.listed;
  rooms = is.rooms;
}

pub settled_with_lasts : (c : Sizes) (p : Place) (last : ℕ → ℕ → ℕ) → IsSettled c p → IsSettled c (with_lasts last p)
settled_with_lasts c p last is = record { leads = is.leads; listed = is.listed; rooms = is.rooms; floors = is.floors; down = is.down; versions = is.versions }
