-- Cells, once calls are made at them one after the other; calls at different cells can change places.
use Rattle.std.proofs.Common.{true, ◌≡◌, ℕ, ◌⊎◌, refl, sym, ap, ◌∙◌, inl, inr, Option, Some, None, Result, Ok, Err, List, [], ◌∷◌, subst}
use Rattle.std.proofs.Math.Path.{fun_ext}
use Rattle.std.specs.Prelude.{not, ◌-◌}
use Rattle.sm_server.specs.declared.call.Refusal.{Refusal}
use Rattle.sm_server.specs.Call.{led_to, served}
use Rattle.sm_placement.proofs.Calls.{served_ok}
use Rattle.sm_placement.specs.Place.{called, answer_at, with_answer, set_cell, load_at, load_of}
use Rattle.sm_verifier.proofs.OnePlace.{put2_cases}
use Rattle.laws_network.proofs.Traced.{Cell, Instr, Place, ServerCall, Sizes, State, StreamId, call_now, next_instruction, put2}
use Rattle.sm_plan_code.specs.Acts.{numbers_after}

-- the cell after a call that leads so far
abbrev pub cell_after : Cell → Option Cell → Cell
cell_after cell None = cell
cell_after cell (Some next) = next

-- what becomes of a cell by a call for it
abbrev pub cell_by : ServerCall → (ℕ → ℕ → Cell) → Cell
cell_by x f = cell_after (f x.shard x.server) (led_to x.call (f x.shard x.server))

-- the cells, once a call is made
abbrev pub call_made : ServerCall → (ℕ → ℕ → Cell) → ℕ → ℕ → Cell
call_made x f = put2 f x.shard x.server (cell_by x f)

-- the same where there may be none
abbrev pub made_at : Option ServerCall → (ℕ → ℕ → Cell) → ℕ → ℕ → Cell
made_at None f = f
made_at (Some x) f = call_made x f

-- the cells, once the calls are made that these streams make next
abbrev pub overlay : State → List StreamId → (ℕ → ℕ → Cell) → ℕ → ℕ → Cell
overlay w [] f = f
overlay w (id ∷ ids) f = made_at (call_now w id) (overlay w ids f)

-- the calls are for different cells
abbrev pub IsApart : ServerCall → ServerCall → Type 0
IsApart x y = (x.shard ≡ y.shard) × (x.server ≡ y.server) → ⊥

-- the same, where there is a call
abbrev pub IsApartFrom : ServerCall → Option ServerCall → Type 0
IsApartFrom x None = Unit {0}
IsApartFrom x (Some y) = IsApart x y

-- what is set at one place is not seen at another
pub put2-other : {A : Type 0} (f : ℕ → ℕ → A) (s v : ℕ) (x : A) (r u : ℕ) → ((r ≡ s) × (u ≡ v) → ⊥) → put2 f s v x r u ≡ f r u
put2-other f s v x r u n = elim (put2_cases f s v x r u) [
  | inl h ↦ absurd (n (h.0, h.1))
  | inr h ↦ h.1
]

-- the value at the place where it was put
pub put2-at : {A : Type 0} (f : ℕ → ℕ → A) (s v : ℕ) (x : A) (r u : ℕ) → r ≡ s → u ≡ v → put2 f s v x r u ≡ x
put2-at f s v x r u d e = elim (put2_cases f s v x r u) [
  | inl h ↦ h.2
  | inr h ↦ absurd (h.0 (d, e))
]

put2-swap : {A : Type 0} (f : ℕ → ℕ → A) (s v : ℕ) (x : A) (r u : ℕ) (y : A) → ((s ≡ r) × (v ≡ u) → ⊥) → put2 (put2 f r u y) s v x ≡ put2 (put2 f s v x) r u y
put2-swap f s v x r u y n = fun_ext (λ a. fun_ext (λ b. at a b))
  where
    at : (a b : ℕ) → put2 (put2 f r u y) s v x a b ≡ put2 (put2 f s v x) r u y a b
    at a b = elim (put2_cases (put2 f r u y) s v x a b) [
      | inl h ↦ h.2 ∙ sym (put2-other (put2 f s v x) r u y a b (λ e. n (sym h.0 ∙ e.0, sym h.1 ∙ e.1)) ∙ put2-at f s v x a b h.0 h.1)
      | inr h ↦ h.1 ∙ elim (put2_cases f r u y a b) [
        | inl e ↦ e.2 ∙ sym (put2-at (put2 f s v x) r u y a b e.0 e.1)
        | inr e ↦ e.1 ∙ sym (put2-other (put2 f s v x) r u y a b e.0 ∙ put2-other f s v x a b h.0)
      ]
    ]

-- a call at another cell sees the cell as it was
pub cell_by_apart : (x y : ServerCall) (f : ℕ → ℕ → Cell) → IsApart x y → cell_by x (call_made y f) ≡ cell_by x f
cell_by_apart x y f n = ap (λ c. cell_after c (led_to x.call c)) (put2-other f y.shard y.server (cell_by y f) x.shard x.server n)

-- calls at different cells can change places
pub calls_swap : (x y : ServerCall) (f : ℕ → ℕ → Cell) → IsApart x y → call_made x (call_made y f) ≡ call_made y (call_made x f)
calls_swap x y f n =
    ap (λ c. put2 (call_made y f) x.shard x.server c) (cell_by_apart x y f n)
    ∙ put2-swap f x.shard x.server (cell_by x f) y.shard y.server (cell_by y f) n
    ∙ ap (λ c. put2 (call_made x f) y.shard y.server c) (sym (cell_by_apart y x f (λ e. n (sym e.0, sym e.1))))

-- two calls at different cells swap
pub made_swap : (x : ServerCall) (o : Option ServerCall) (f : ℕ → ℕ → Cell) → IsApartFrom x o → made_at o (call_made x f) ≡ call_made x (made_at o f)
made_swap x None f n = refl
made_swap x (Some y) f n = calls_swap y x f (λ e. n (sym e.0, sym e.1))

-- ---- lists of streams

-- the stream is one of these
abbrev pub IsIn : List StreamId → StreamId → Type 0
IsIn [] id = ⊥
IsIn (a ∷ ids) id = (id ≡ a) ⊎ IsIn ids id

-- each stands there once
abbrev pub AreOnce : List StreamId → Type 0
AreOnce [] = Unit {0}
AreOnce (a ∷ ids) = (IsIn ids a → ⊥) × AreOnce ids

-- a call at another cell than those of the streams may be made before or after them
pub overlay_slides : (w : State) (ids : List StreamId) (x : ServerCall) (f : ℕ → ℕ → Cell) → ((id : StreamId) → IsIn ids id → IsApartFrom x (call_now w id)) → overlay w ids (call_made x f) ≡ call_made x (overlay w ids f)
overlay_slides w [] x f n = refl
overlay_slides w (a ∷ ids) x f n =
    ap (made_at (call_now w a)) (overlay_slides w ids x f (λ id i. n id (inr i)))
    ∙ made_swap x (call_now w a) (overlay w ids f) (n a (inl refl))

-- the streams make the same calls at another state
pub overlay_same : (w new : State) (ids : List StreamId) (f : ℕ → ℕ → Cell) → ((id : StreamId) → IsIn ids id → call_now new id ≡ call_now w id) → overlay new ids f ≡ overlay w ids f
overlay_same w new [] f e = refl
overlay_same w new (a ∷ ids) f e =
    ap (λ o. made_at o (overlay new ids f)) (e a (inl refl)) ∙ ap (made_at (call_now w a)) (overlay_same w new ids f (λ id i. e id (inr i)))

-- ---- handover numbers

-- the highest handover numbers, once these streams' next instructions are made
abbrev pub number_made : Option Instr → (ℕ → ℕ) → ℕ → ℕ
number_made None f = f
number_made (Some i) f = numbers_after f i

-- the handover numbers once these streams' calls are made
abbrev pub over_numbers : State → List StreamId → (ℕ → ℕ) → ℕ → ℕ
over_numbers w [] f = f
over_numbers w (id ∷ ids) f = number_made (next_instruction w id) (over_numbers w ids f)

-- they are the same if the streams stand before the same instructions
pub numbers_same : (w new : State) (ids : List StreamId) (f : ℕ → ℕ) → ((id : StreamId) → IsIn ids id → next_instruction new id ≡ next_instruction w id) → over_numbers new ids f ≡ over_numbers w ids f
numbers_same w new [] f e = refl
numbers_same w new (a ∷ ids) f e =
    ap (λ o. number_made o (over_numbers new ids f)) (e a (inl refl)) ∙ ap (number_made (next_instruction w a)) (numbers_same w new ids f (λ id i. e id (inr i)))

-- an instruction may be made before or after another one
abbrev pub CanSwap : Instr → Option Instr → Type 0
CanSwap i o = (f : ℕ → ℕ) → number_made o (numbers_after f i) ≡ numbers_after (number_made o f) i

-- an instruction that swaps with those of the streams may come first
pub numbers_slide : (w : State) (ids : List StreamId) (i : Instr) (f : ℕ → ℕ) → ((id : StreamId) → IsIn ids id → CanSwap i (next_instruction w id)) → over_numbers w ids (numbers_after f i) ≡ numbers_after (over_numbers w ids f) i
numbers_slide w [] i f n = refl
numbers_slide w (a ∷ ids) i f n =
    ap (number_made (next_instruction w a)) (numbers_slide w ids i f (λ id h. n id (inr h))) ∙ n a (inl refl) (over_numbers w ids f)

-- ---- calls that are served

-- a call that is served leads to the cell that it makes
pub called_is : (c : Sizes) (p : Place) (x : ServerCall) (q : Place) → called c p x.shard x.server x.call ≡ Ok q → q ≡ record p { cells = call_made x p.cells }
called_is c p x q e = go (answer_at c p x.shard x.server x.call) refl e
  where
    go : (r : Result Cell Refusal) → answer_at c p x.shard x.server x.call ≡ r → with_answer p x.shard x.server r ≡ Ok q → q ≡ record p { cells = call_made x p.cells }
    go (Ok next) a e =
        let led = (served_ok (p.cells x.shard x.server) (c.room x.server - load_at c p x.server) (c.load x.shard) (not (p.down x.server)) x.call next a).1 in
        let same : q ≡ set_cell p x.shard x.server next = cc in
        same ∙ ap (λ o. let z : Place = record p { cells = put2 p.cells x.shard x.server (cell_after (p.cells x.shard x.server) o) } in z) (sym led)
    go (Err why) a e = absurd (cc)

-- it is led to that cell
pub called_led : (c : Sizes) (p : Place) (x : ServerCall) (q : Place) → called c p x.shard x.server x.call ≡ Ok q → led_to x.call (p.cells x.shard x.server) ≡ Some (cell_by x p.cells)
called_led c p x q e = go (answer_at c p x.shard x.server x.call) refl e
  where
    go : (r : Result Cell Refusal) → answer_at c p x.shard x.server x.call ≡ r → with_answer p x.shard x.server r ≡ Ok q → led_to x.call (p.cells x.shard x.server) ≡ Some (cell_by x p.cells)
    go (Ok next) a e =
        let led = (served_ok (p.cells x.shard x.server) (c.room x.server - load_at c p x.server) (c.load x.shard) (not (p.down x.server)) x.call next a).1 in
        led ∙ ap Some (sym (ap (cell_after (p.cells x.shard x.server)) led))
    go (Err why) a e = absurd (cc)

-- and its server, which is up, serves it by what it alone has
pub record IsServedAt (c : Sizes) (cells : ℕ → ℕ → Cell) (x : ServerCall) : Type 0 where
  pub next : Cell
  pub served : served (cells x.shard x.server) (c.room x.server - load_of c cells x.server) (c.load x.shard) true x.call ≡ Ok next
  pub made : call_made x cells ≡ put2 cells x.shard x.server next

-- a call that is answered is served at its cell
pub called_served : (c : Sizes) (p : Place) (x : ServerCall) (q : Place) → called c p x.shard x.server x.call ≡ Ok q → IsServedAt c p.cells x
called_served c p x q e = go (answer_at c p x.shard x.server x.call) refl e
  where
    go : (r : Result Cell Refusal) → answer_at c p x.shard x.server x.call ≡ r → with_answer p x.shard x.server r ≡ Ok q → IsServedAt c p.cells x
    go (Ok next) a e =
        let ok = served_ok (p.cells x.shard x.server) (c.room x.server - load_at c p x.server) (c.load x.shard) (not (p.down x.server)) x.call next a in
        record {
          next = next;
          served = subst (λ up. served (p.cells x.shard x.server) (c.room x.server - load_of c p.cells x.server) (c.load x.shard) up x.call ≡ Ok next) ok.0 a;
          made = ap (λ o. put2 p.cells x.shard x.server (cell_after (p.cells x.shard x.server) o)) ok.1;
        }
    go (Err why) a e = absurd (cc)
