-- A request is executed by the one server that serves its shard.
use Rattle.sm_protocol.proofs.Below.{◌≡◌, ℕ, Bool, true, false, refl, sym, subst, Option, Some, None, length, ◌==◌, ◌&&◌, if◌then◌else◌, slice_index_or, and_parts, eqb-true, Cell, Absent, Prepared, Secondary, Primary, Forwarding, Lead, serves, Describes, MayHavePassed, CanBePassed, passed_of_lead, prepared_serves}
use Rattle.sm_protocol.proofs.Words.{Ticket, passes, State, answer_by, reply_of}
use Rattle.sm_protocol.specs.declared.event.Played.TheVariants as played

-- ---- answers

-- each shard's cells are described by a lead, under its highest handover number
pub record IsLed (w : State) : Type 0 where
  pub leads : ℕ → Lead
  pub described : (s : ℕ) → Describes (leads s) (w.numbers s) (w.place.cells s)

-- every recorded pass is one under whose number its request may have been passed on
pub record PassesFit (w : State) : Type 0 where
  pub fit : (n : ℕ) (t : Ticket) → slice_index_or (passes w.log) n None ≡ Some t → CanBePassed (w.place.cells t.shard) (w.numbers t.shard) t.number

-- a server executes a request only if it serves
pub reply_serves : (w : State) (s v : ℕ) (sent : Option Ticket) → IsLed w → ((t : Ticket) → sent ≡ Some t → CanBePassed (w.place.cells s) (w.numbers s) t.number) → (b : ℕ) →
    reply_of w s v sent ≡ played.Executed b → (b ≡ v) × (serves (w.place.cells s) v ≡ true)
reply_serves w s v sent led given b = up (w.place.down v)
  where
    row : ℕ → Cell
    row = w.place.cells s

    by_pass : (t : Ticket) → sent ≡ Some t → (x m : ℕ) → row v ≡ Prepared x m → (c : Bool) → ((x == t.sender) && (m == t.number)) ≡ c →
        (if c then played.Executed v else played.NotOwner) ≡ played.Executed b → (b ≡ v) × (serves row v ≡ true)
    by_pass t q x m e false f h = absurd (cc)
    by_pass t q x m e true f h =
        let n : m ≡ t.number = eqb-true m t.number (and_parts (x == t.sender) (m == t.number) f).1 in
        let p = passed_of_lead (led.leads s) (w.numbers s) row (led.described s) t.number (given t q) in
        (cc, prepared_serves (led.leads s) (w.numbers s) row (led.described s) v x m e (subst (λ k. MayHavePassed (led.leads s) (w.numbers s) k) (sym n) p))

    by_cell : (x : Cell) → row v ≡ x → (o : Option Ticket) → sent ≡ o → answer_by x v o (length w.log) ≡ played.Executed b → (b ≡ v) × (serves row v ≡ true)
    by_cell Primary e o q h = (cc, rw e refl)
    by_cell (Prepared x m) e (Some t) q h = by_pass t q x m e ((x == t.sender) && (m == t.number)) refl h
    by_cell (Prepared x m) e None q h = absurd (cc)
    by_cell (Forwarding x m) e o q h = absurd (cc)
    by_cell Absent e o q h = absurd (cc)
    by_cell Secondary e o q h = absurd (cc)

    up : (d : Bool) → (if d then played.Unavailable else answer_by (row v) v sent (length w.log)) ≡ played.Executed b → (b ≡ v) × (serves row v ≡ true)
    up true h = absurd (cc)
    up false h = by_cell (row v) refl sent refl h

-- a server passes a request on only if it forwards, and the pass is recorded at the next place of the log
pub reply_forwards : (w : State) (s v : ℕ) (sent : Option Ticket) (to m place : ℕ) → reply_of w s v sent ≡ played.Passed to m place →
    (w.place.cells s v ≡ Forwarding to m) × (place ≡ length w.log)
reply_forwards w s v sent to m place = up (w.place.down v)
  where
    by_test : (c : Bool) → (if c then played.Executed v else played.NotOwner) ≡ played.Passed to m place → ⊥
    by_test true e = cc
    by_test false e = cc

    by_cell : (x : Cell) → w.place.cells s v ≡ x → (o : Option Ticket) → answer_by x v o (length w.log) ≡ played.Passed to m place →
        (w.place.cells s v ≡ Forwarding to m) × (place ≡ length w.log)
    by_cell (Forwarding x n) e o h = (cc, cc)
    by_cell (Prepared x n) e (Some t) h = absurd (by_test ((x == t.sender) && (n == t.number)) h)
    by_cell _ e o h = absurd (cc)

    up : (d : Bool) → (if d then played.Unavailable else answer_by (w.place.cells s v) v sent (length w.log)) ≡ played.Passed to m place →
        (w.place.cells s v ≡ Forwarding to m) × (place ≡ length w.log)
    up true h = absurd (cc)
    up false h = by_cell (w.place.cells s v) refl sent h
