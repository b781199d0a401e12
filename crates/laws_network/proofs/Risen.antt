-- The base is added to handover numbers, and nothing that a server does looks at it: calls, loads, who serves, and what is replied.
use Rattle.std.proofs.Common.{◌≡◌, ℕ, ◌+◌, ◌≤◌, refl, sym, ap, ◌∙◌, inl, inr, arith, Bool, true, false, Some, None, Result, Ok, Err}
use Rattle.std.specs.Prelude.{◌==◌, ◌&&◌, ◌||◌, not, nat_lt, option_map, if◌then◌else◌}
use Rattle.std.proofs.Math.Path.{fun_ext}
use Rattle.std.proofs.lemmas.Bool.{cases_eq, eq-eqb, ne_eqb}
use Rattle.sm_server.specs.declared.call.Cell.{Cell}
use Rattle.sm_server.specs.declared.call.Cell.TheVariants as cell
use Rattle.sm_server.specs.declared.call.Call.{Call}
use Rattle.sm_server.specs.declared.call.Call.TheVariants as call
use Rattle.sm_server.specs.declared.call.Role.TheVariants as role
use Rattle.sm_server.specs.declared.call.Refusal.{Refusal}
use Rattle.sm_server.specs.declared.call.Refusal.TheVariants as refusal
use Rattle.sm_server.specs.Call.{led_to, served}
use Rattle.sm_server.specs.Cell.{is_absent, is_secondary}
use Rattle.sm_placement.specs.Setup.{Sizes}
use Rattle.sm_placement.specs.Place.{Place, load_of}
use Rattle.sm_placement.specs.Rows.{forwards, live_in, serves}
use Rattle.sm_placement.specs.SafePlace.{IsSafePlace}
use Rattle.sm_placement.specs.Sums.{count_below, put2, sum_below}
use Rattle.sm_verifier.proofs.OnePlace.{put2_cases}
use Rattle.sm_protocol.specs.Happens.{answer_by}
use Rattle.sm_protocol.specs.Ticket.{Ticket}
use Rattle.sm_protocol.specs.declared.event.Played.{Played}
use Rattle.sm_protocol.specs.declared.event.Played.TheVariants as played
use Rattle.laws_network.specs.declared.delivery.Delivery.{Delivery}
use Rattle.laws_network.specs.Orders.{by_served, delivery_of}
use Rattle.laws_network.specs.Net.{call_above, cell_above, pass_by}

-- ---- calls

-- a call leads to the same cell, above the base
pub led_above : (base : ℕ) (x : Call) (c : Cell) → led_to (call_above base x) (cell_above base c) ≡ option_map (cell_above base) (led_to x c)
led_above base (call.Add role.Primary) cell.Absent = refl
led_above base (call.Add role.Primary) (cell.Prepared a b) = refl
led_above base (call.Add role.Primary) cell.Secondary = refl
led_above base (call.Add role.Primary) cell.Primary = refl
led_above base (call.Add role.Primary) (cell.Forwarding a b) = refl
led_above base (call.Add role.Secondary) cell.Absent = refl
led_above base (call.Add role.Secondary) (cell.Prepared a b) = refl
led_above base (call.Add role.Secondary) cell.Secondary = refl
led_above base (call.Add role.Secondary) cell.Primary = refl
led_above base (call.Add role.Secondary) (cell.Forwarding a b) = refl
led_above base call.Drop cell.Absent = refl
led_above base call.Drop (cell.Prepared a b) = refl
led_above base call.Drop cell.Secondary = refl
led_above base call.Drop cell.Primary = refl
led_above base call.Drop (cell.Forwarding a b) = refl
led_above base (call.Change role.Primary role.Primary) cell.Absent = refl
led_above base (call.Change role.Primary role.Primary) (cell.Prepared a b) = refl
led_above base (call.Change role.Primary role.Primary) cell.Secondary = refl
led_above base (call.Change role.Primary role.Primary) cell.Primary = refl
led_above base (call.Change role.Primary role.Primary) (cell.Forwarding a b) = refl
led_above base (call.Change role.Primary role.Secondary) cell.Absent = refl
led_above base (call.Change role.Primary role.Secondary) (cell.Prepared a b) = refl
led_above base (call.Change role.Primary role.Secondary) cell.Secondary = refl
led_above base (call.Change role.Primary role.Secondary) cell.Primary = refl
led_above base (call.Change role.Primary role.Secondary) (cell.Forwarding a b) = refl
led_above base (call.Change role.Secondary role.Primary) cell.Absent = refl
led_above base (call.Change role.Secondary role.Primary) (cell.Prepared a b) = refl
led_above base (call.Change role.Secondary role.Primary) cell.Secondary = refl
led_above base (call.Change role.Secondary role.Primary) cell.Primary = refl
led_above base (call.Change role.Secondary role.Primary) (cell.Forwarding a b) = refl
led_above base (call.Change role.Secondary role.Secondary) cell.Absent = refl
led_above base (call.Change role.Secondary role.Secondary) (cell.Prepared a b) = refl
led_above base (call.Change role.Secondary role.Secondary) cell.Secondary = refl
led_above base (call.Change role.Secondary role.Secondary) cell.Primary = refl
led_above base (call.Change role.Secondary role.Secondary) (cell.Forwarding a b) = refl
led_above base (call.PrepareAdd o m) cell.Absent = refl
led_above base (call.PrepareAdd o m) (cell.Prepared a b) = refl
led_above base (call.PrepareAdd o m) cell.Secondary = refl
led_above base (call.PrepareAdd o m) cell.Primary = refl
led_above base (call.PrepareAdd o m) (cell.Forwarding a b) = refl
led_above base (call.PrepareDrop o m) cell.Absent = refl
led_above base (call.PrepareDrop o m) (cell.Prepared a b) = refl
led_above base (call.PrepareDrop o m) cell.Secondary = refl
led_above base (call.PrepareDrop o m) cell.Primary = refl
led_above base (call.PrepareDrop o m) (cell.Forwarding a b) = refl

abbrev pub result_above : ℕ → Result Cell Refusal → Result Cell Refusal
result_above base (Ok c) = Ok (cell_above base c)
result_above base (Err why) = Err why

by_room : (base : ℕ) (full : Bool) (next : Cell) → ◌≡◌ {A = Result Cell Refusal} (if full then Err refusal.NoRoom else Ok (cell_above base next)) (result_above base (if full then Err refusal.NoRoom else Ok next))
by_room base true next = refl
by_room base false next = refl

pub served_above : (base : ℕ) (c : Cell) (free load : ℕ) (x : Call) → served (cell_above base c) free load true (call_above base x) ≡ result_above base (served c free load true x)
served_above base cell.Absent free load (call.Add role.Primary) = by_room base (nat_lt free load) cell.Primary
served_above base (cell.Prepared a b) free load (call.Add role.Primary) = refl
served_above base cell.Secondary free load (call.Add role.Primary) = refl
served_above base cell.Primary free load (call.Add role.Primary) = refl
served_above base (cell.Forwarding a b) free load (call.Add role.Primary) = refl
served_above base cell.Absent free load (call.Add role.Secondary) = by_room base (nat_lt free load) cell.Secondary
served_above base (cell.Prepared a b) free load (call.Add role.Secondary) = refl
served_above base cell.Secondary free load (call.Add role.Secondary) = refl
served_above base cell.Primary free load (call.Add role.Secondary) = refl
served_above base (cell.Forwarding a b) free load (call.Add role.Secondary) = refl
served_above base cell.Absent free load call.Drop = refl
served_above base (cell.Prepared a b) free load call.Drop = refl
served_above base cell.Secondary free load call.Drop = refl
served_above base cell.Primary free load call.Drop = refl
served_above base (cell.Forwarding a b) free load call.Drop = refl
served_above base cell.Absent free load (call.Change role.Primary role.Primary) = refl
served_above base (cell.Prepared a b) free load (call.Change role.Primary role.Primary) = refl
served_above base cell.Secondary free load (call.Change role.Primary role.Primary) = refl
served_above base cell.Primary free load (call.Change role.Primary role.Primary) = refl
served_above base (cell.Forwarding a b) free load (call.Change role.Primary role.Primary) = refl
served_above base cell.Absent free load (call.Change role.Primary role.Secondary) = refl
served_above base (cell.Prepared a b) free load (call.Change role.Primary role.Secondary) = refl
served_above base cell.Secondary free load (call.Change role.Primary role.Secondary) = refl
served_above base cell.Primary free load (call.Change role.Primary role.Secondary) = refl
served_above base (cell.Forwarding a b) free load (call.Change role.Primary role.Secondary) = refl
served_above base cell.Absent free load (call.Change role.Secondary role.Primary) = refl
served_above base (cell.Prepared a b) free load (call.Change role.Secondary role.Primary) = refl
served_above base cell.Secondary free load (call.Change role.Secondary role.Primary) = refl
served_above base cell.Primary free load (call.Change role.Secondary role.Primary) = refl
served_above base (cell.Forwarding a b) free load (call.Change role.Secondary role.Primary) = refl
served_above base cell.Absent free load (call.Change role.Secondary role.Secondary) = refl
served_above base (cell.Prepared a b) free load (call.Change role.Secondary role.Secondary) = refl
served_above base cell.Secondary free load (call.Change role.Secondary role.Secondary) = refl
served_above base cell.Primary free load (call.Change role.Secondary role.Secondary) = refl
served_above base (cell.Forwarding a b) free load (call.Change role.Secondary role.Secondary) = refl
served_above base cell.Absent free load (call.PrepareAdd o m) = by_room base (nat_lt free load) (cell.Prepared o m)
served_above base (cell.Prepared a b) free load (call.PrepareAdd o m) = refl
served_above base cell.Secondary free load (call.PrepareAdd o m) = refl
served_above base cell.Primary free load (call.PrepareAdd o m) = refl
served_above base (cell.Forwarding a b) free load (call.PrepareAdd o m) = refl
served_above base cell.Absent free load (call.PrepareDrop o m) = refl
served_above base (cell.Prepared a b) free load (call.PrepareDrop o m) = refl
served_above base cell.Secondary free load (call.PrepareDrop o m) = refl
served_above base cell.Primary free load (call.PrepareDrop o m) = refl
served_above base (cell.Forwarding a b) free load (call.PrepareDrop o m) = refl

-- a handover number that a call or a cell has is not 0
abbrev pub IsPositiveCall : Call → Type 0
IsPositiveCall (call.PrepareAdd owner number) = 1 ≤ number
IsPositiveCall _ = Unit {0}

-- a prepared cell has a handover number above 0
abbrev pub IsPositive : Cell → Type 0
IsPositive (cell.Prepared from number) = 1 ≤ number
IsPositive _ = Unit {0}

-- so has the cell that a server answers
abbrev pub IsPositiveResult : Result Cell Refusal → Type 0
IsPositiveResult (Ok c) = IsPositive c
IsPositiveResult (Err why) = Unit {0}

positive_room : (full : Bool) (next : Cell) → IsPositive next → IsPositiveResult (if full then Err refusal.NoRoom else Ok next)
positive_room true next h = tt
positive_room false next h = h

-- what a server makes of a call with such a number is such a cell
pub served_positive : (c : Cell) (free load : ℕ) (x : Call) → IsPositiveCall x → IsPositiveResult (served c free load true x)
served_positive cell.Absent free load (call.Add role.Primary) h = positive_room (nat_lt free load) cell.Primary tt
served_positive (cell.Prepared a b) free load (call.Add role.Primary) h = tt
served_positive cell.Secondary free load (call.Add role.Primary) h = tt
served_positive cell.Primary free load (call.Add role.Primary) h = tt
served_positive (cell.Forwarding a b) free load (call.Add role.Primary) h = tt
served_positive cell.Absent free load (call.Add role.Secondary) h = positive_room (nat_lt free load) cell.Secondary tt
served_positive (cell.Prepared a b) free load (call.Add role.Secondary) h = tt
served_positive cell.Secondary free load (call.Add role.Secondary) h = tt
served_positive cell.Primary free load (call.Add role.Secondary) h = tt
served_positive (cell.Forwarding a b) free load (call.Add role.Secondary) h = tt
served_positive cell.Absent free load call.Drop h = tt
served_positive (cell.Prepared a b) free load call.Drop h = tt
served_positive cell.Secondary free load call.Drop h = tt
served_positive cell.Primary free load call.Drop h = tt
served_positive (cell.Forwarding a b) free load call.Drop h = tt
served_positive cell.Absent free load (call.Change role.Primary role.Primary) h = tt
served_positive (cell.Prepared a b) free load (call.Change role.Primary role.Primary) h = tt
served_positive cell.Secondary free load (call.Change role.Primary role.Primary) h = tt
served_positive cell.Primary free load (call.Change role.Primary role.Primary) h = tt
served_positive (cell.Forwarding a b) free load (call.Change role.Primary role.Primary) h = tt
served_positive cell.Absent free load (call.Change role.Primary role.Secondary) h = tt
served_positive (cell.Prepared a b) free load (call.Change role.Primary role.Secondary) h = tt
served_positive cell.Secondary free load (call.Change role.Primary role.Secondary) h = tt
served_positive cell.Primary free load (call.Change role.Primary role.Secondary) h = tt
served_positive (cell.Forwarding a b) free load (call.Change role.Primary role.Secondary) h = tt
served_positive cell.Absent free load (call.Change role.Secondary role.Primary) h = tt
served_positive (cell.Prepared a b) free load (call.Change role.Secondary role.Primary) h = tt
served_positive cell.Secondary free load (call.Change role.Secondary role.Primary) h = tt
served_positive cell.Primary free load (call.Change role.Secondary role.Primary) h = tt
served_positive (cell.Forwarding a b) free load (call.Change role.Secondary role.Primary) h = tt
served_positive cell.Absent free load (call.Change role.Secondary role.Secondary) h = tt
served_positive (cell.Prepared a b) free load (call.Change role.Secondary role.Secondary) h = tt
served_positive cell.Secondary free load (call.Change role.Secondary role.Secondary) h = tt
served_positive cell.Primary free load (call.Change role.Secondary role.Secondary) h = tt
served_positive (cell.Forwarding a b) free load (call.Change role.Secondary role.Secondary) h = tt
served_positive cell.Absent free load (call.PrepareAdd o m) h = positive_room (nat_lt free load) (cell.Prepared o m) h
served_positive (cell.Prepared a b) free load (call.PrepareAdd o m) h = tt
served_positive cell.Secondary free load (call.PrepareAdd o m) h = tt
served_positive cell.Primary free load (call.PrepareAdd o m) h = tt
served_positive (cell.Forwarding a b) free load (call.PrepareAdd o m) h = tt
served_positive cell.Absent free load (call.PrepareDrop o m) h = tt
served_positive (cell.Prepared a b) free load (call.PrepareDrop o m) h = tt
served_positive cell.Secondary free load (call.PrepareDrop o m) h = tt
served_positive cell.Primary free load (call.PrepareDrop o m) h = tt
served_positive (cell.Forwarding a b) free load (call.PrepareDrop o m) h = tt

-- what becomes of an order, above the base
abbrev pub delivery_above : ℕ → Delivery → Delivery
delivery_above base (Delivery.Served c) = Delivery.Served (cell_above base c)
delivery_above base d = d

by_result : (base : ℕ) (r : Result Cell Refusal) → by_served (result_above base r) ≡ delivery_above base (by_served r)
by_result base (Ok c) = refl
by_result base (Err why) = refl

-- what becomes of an order at its server commutes with the base
pub delivery_is : (base : ℕ) (c : Cell) (last number free load : ℕ) (x : Call) → delivery_of (cell_above base c) last number free load (call_above base x) ≡ delivery_above base (delivery_of c last number free load x)
delivery_is base c last number free load x = go (nat_lt number last) (number == last)
  where
    go : (lower same : Bool) →
        (if lower then Delivery.Old else if same then Delivery.Again else by_served (served (cell_above base c) free load true (call_above base x)))
        ≡ delivery_above base (if lower then Delivery.Old else if same then Delivery.Again else by_served (served c free load true x))
    go true same = refl
    go false true = refl
    go false false = ap by_served (served_above base c free load x) ∙ by_result base (served c free load true x)

-- ---- cells

-- all cells, above the base
abbrev pub cells_above : ℕ → (ℕ → ℕ → Cell) → ℕ → ℕ → Cell
cells_above base f s v = cell_above base (f s v)

pub absent_above : (base : ℕ) (c : Cell) → is_absent (cell_above base c) ≡ is_absent c
absent_above base cell.Absent = refl
absent_above base (cell.Prepared a b) = refl
absent_above base _ = refl

secondary_above : (base : ℕ) (c : Cell) → is_secondary (cell_above base c) ≡ is_secondary c
secondary_above base cell.Secondary = refl
secondary_above base (cell.Prepared a b) = refl
secondary_above base _ = refl

-- the base does not change a load
pub load_above : (base : ℕ) (c : Sizes) (f : ℕ → ℕ → Cell) (v : ℕ) → load_of c (cells_above base f) v ≡ load_of c f v
load_above base c f v = ap (λ g. sum_below c.shards g) (fun_ext (λ s. ap (λ b. if b then 0 else c.load s) (absent_above base (f s v))))

-- a cell that is put among the cells above the base
pub put_above : (base : ℕ) (f : ℕ → ℕ → Cell) (s v : ℕ) (x : Cell) → put2 (cells_above base f) s v (cell_above base x) ≡ cells_above base (put2 f s v x)
put_above base f s v x = fun_ext (λ a. fun_ext (λ b. at a b))
  where
    at : (a b : ℕ) → put2 (cells_above base f) s v (cell_above base x) a b ≡ cell_above base (put2 f s v x a b)
    at a b = elim (put2_cases (cells_above base f) s v (cell_above base x) a b) [
      | inl h ↦ elim (put2_cases f s v x a b) [ inl k ↦ h.2 ∙ ap (cell_above base) (sym k.2) | inr k ↦ absurd (k.0 (h.0, h.1)) ]
      | inr h ↦ elim (put2_cases f s v x a b) [ inl k ↦ absurd (h.0 (k.0, k.1)) | inr k ↦ h.1 ∙ ap (cell_above base) (sym k.1) ]
    ]

pub plus_eqb : (base m n : ℕ) → ((base + m) == (base + n)) ≡ (m == n)
plus_eqb base m n = elim (cases_eq m n) [
  | inl e ↦ eq-eqb (base + m) (base + n) (omega arith) ∙ sym (eq-eqb m n e)
  | inr d ↦ ne_eqb (base + m) (base + n) (λ e. d (omega arith)) ∙ sym (ne_eqb m n d)
]

forwards_above : (base : ℕ) (c : Cell) (v n : ℕ) → forwards (cell_above base c) v (base + n) ≡ forwards c v n
forwards_above base (cell.Forwarding to m) v n = ap (λ b. (to == v) && b) (plus_eqb base m n)
forwards_above base (cell.Prepared a b) v n = refl
forwards_above base _ v n = refl

-- the base does not change who serves
pub serves_above : (base : ℕ) (row : ℕ → Cell) (v : ℕ) → serves (λ u. cell_above base (row u)) v ≡ serves row v
serves_above base row v = go (row v) refl
  where
    go : (c : Cell) → row v ≡ c → serves (λ u. cell_above base (row u)) v ≡ serves row v
    go (cell.Prepared from m) e = rw e (forwards_above base (row from) v m)
    go cell.Primary e = rw e refl
    go cell.Absent e = rw e refl
    go cell.Secondary e = rw e refl
    go (cell.Forwarding a b) e = rw e refl

live_above : (base : ℕ) (row : ℕ → Cell) (down : ℕ → Bool) (n : ℕ) → live_in n (λ u. cell_above base (row u)) down ≡ live_in n row down
live_above base row down n =
    ap (λ t. count_below n t) (fun_ext (λ v. ap (λ b. not (down v) && (b || serves (λ u. cell_above base (row u)) v)) (secondary_above base (row v)) ∙ ap (λ b. not (down v) && (is_secondary (row v) || b)) (serves_above base row v)))

-- a placement is as safe
pub safe_above : (base : ℕ) (c : Sizes) (p : Place) → IsSafePlace c p → (last : ℕ → ℕ → ℕ) → IsSafePlace c (record p { cells = cells_above base p.cells; last = last })
safe_above base c p safe last = record {
  serving = λ s u v a b. safe.serving s u v (sym (serves_above base (p.cells s) u) ∙ a) (sym (serves_above base (p.cells s) v) ∙ b);
  rooms = λ v l. (let a = load_above base c p.cells v in let b = safe.rooms v l in omega arith);
  floors = λ s l. (let a = live_above base (p.cells s) p.down c.servers in let b = safe.floors s l in omega arith);
  listed = λ s u e. elim (safe.listed s u e) [
    | inl a ↦ inl (serves_above base (p.cells s) u ∙ a)
    | inr f ↦ inr (f.0, base + f.1, ap (cell_above base) f.2, serves_above base (p.cells s) f.0 ∙ f.3)
  ];
}

-- ---- replies

-- a reply, above the base
abbrev pub played_above : ℕ → Played → Played
played_above base (played.Passed to number place) = played.Passed to (base + number) place
played_above base a = a

-- a pass, above the base
abbrev pub ticket_above : ℕ → Ticket → Ticket
ticket_above base t = record t { number = base + t.number }

-- the reply to a request commutes with the base
pub asked_above : (base : ℕ) (c : Cell) (v place : ℕ) → answer_by (cell_above base c) v None place ≡ played_above base (answer_by c v None place)
asked_above base cell.Absent v place = refl
asked_above base (cell.Prepared a b) v place = refl
asked_above base cell.Secondary v place = refl
asked_above base cell.Primary v place = refl
asked_above base (cell.Forwarding a b) v place = refl

no_and : (a b : Bool) → b ≡ false → (a && b) ≡ false
no_and true b e = e
no_and false b e = refl

-- a pass of an earlier controller fits no handover of this one
pub old_above : (base : ℕ) (c : Cell) (v place : ℕ) (t : Ticket) → t.number ≤ base → IsPositive c → answer_by (cell_above base c) v (Some t) place ≡ played_above base (answer_by c v None place)
old_above base cell.Absent v place t l h = refl
old_above base (cell.Prepared a b) v place t l h =
    ap (λ (x : Bool). if x then played.Executed v else played.NotOwner) (no_and (a == t.sender) ((base + b) == t.number) (ne_eqb (base + b) t.number (λ e. absurd (omega arith))))
old_above base cell.Secondary v place t l h = refl
old_above base cell.Primary v place t l h = refl
old_above base (cell.Forwarding a b) v place t l h = refl

-- so does the reply to a request that was passed on
pub passed_above : (base : ℕ) (c : Cell) (v place : ℕ) (t : Ticket) → answer_by (cell_above base c) v (Some (ticket_above base t)) place ≡ played_above base (answer_by c v (Some t) place)
passed_above base cell.Absent v place t = refl
passed_above base (cell.Prepared a b) v place t =
    ap (λ (x : Bool). if (a == t.sender) && x then played.Executed v else played.NotOwner) (plus_eqb base b t.number) ∙ go ((a == t.sender) && (b == t.number))
  where
    go : (x : Bool) → (if x then played.Executed v else played.NotOwner) ≡ played_above base (if x then played.Executed v else played.NotOwner)
    go true = refl
    go false = refl
passed_above base cell.Secondary v place t = refl
passed_above base cell.Primary v place t = refl
passed_above base (cell.Forwarding a b) v place t = refl

-- and so does the pass that a reply makes
pub pass_above : (base s v : ℕ) (a : Played) → pass_by s v (played_above base a) ≡ option_map (ticket_above base) (pass_by s v a)
pass_above base s v (played.Passed to number place) = refl
pass_above base s v _ = refl
