-- The records beside a log: what it tells of tickets, and what it is once one more event is recorded.
use Rattle.std.proofs.Common.{◌≡◌, ◌<◌, ◌∙◌, ℕ, Bool, true, false, not, List, [], ◌∷◌, ◌++◌, length, length-append, Option, Some, None, get_or, sym, ap, arith}
use Rattle.std.specs.Prelude.{◌||◌, slice_index_or}
use Rattle.std.proofs.Math.Bool.{or-false}
use Rattle.std.proofs.lemmas.List.{get_or_read_under}
use Rattle.std.proofs.lemmas.List.Folds.{list_any-append}
use Rattle.sm_protocol.specs.declared.event.Logged.{Logged}
use Rattle.sm_protocol.specs.Ticket.{Ticket, passes, pass_of, is_pass_on, is_passed_on, same_ticket, is_open_ticket}
use Rattle.sm_protocol.proofs.Scripts.{passes_push, pass_below}
use Rattle.sm_machine.specs.Journal.{JournalModel, flag_at, AreRaised, IsIndexed}

-- a place was passed on once more
passed_on_push : (log : List Logged) (x : Logged) (place : ℕ) → is_passed_on (log ++ x ∷ []) place ≡ (is_passed_on log place || is_pass_on place x.event)
passed_on_push log x place = list_any-append (λ (y : Logged). is_pass_on place y.event) log (x ∷ []) ∙ ap (λ b. is_passed_on log place || b) (or-false (is_pass_on place x.event))

-- what stands beside a log is right of it with one event more, its pass put behind and its flag raised
pub indexed_push : (log grown : List Logged) (room : ℕ) (tickets more : List (Option Ticket)) (flags raised all : List Bool) (x : Logged) (new : Option Ticket) →
    IsIndexed log room tickets flags → length log < room → new ≡ pass_of tickets x.answer x.event → grown ≡ log ++ x ∷ [] → more ≡ tickets ++ new ∷ [] →
    length raised ≡ length flags → AreRaised x.event flags raised → all ≡ raised → IsIndexed grown room more all
indexed_push log grown room tickets more flags raised all x new h l p g m w r a = rw (g, a) (record {
  within = omega (arith, length-append log (x ∷ []), h.within, l);
  passes = m ∙ rw (p, h.passes) (sym (passes_push [] log x));
  width = w ∙ h.width;
  passed_on = λ place k. r place (omega (arith, h.width)) ∙ ap (λ b. b || is_pass_on place x.event) (h.passed_on place k) ∙ sym (passed_on_push log x place);
})

-- a ticket is open where its place has just its pass and no flag
pub open_by_flag : (parts : JournalModel) (t pass : Ticket) (log : List Logged) (room n : ℕ) (tickets : List (Option Ticket)) (flags : List Bool) (flag : Bool) →
    IsIndexed log room tickets flags → log ≡ parts.log → n ≡ t.place → slice_index_or (passes parts.log) n None ≡ Some pass → same_ticket pass t ≡ true → flag ≡ get_or flags n flag →
    not flag ≡ is_open_ticket parts.log t
open_by_flag parts t pass log room n tickets flags flag h e at p same read =
    let below : n < length parts.log = pass_below parts.log n pass p in
    let within : n < room = omega (arith, h.within, ap (λ (xs : List Logged). length xs) e) in
    let told : flag ≡ flag_at flags n = get_or_read_under flags n room flag false read within (sym h.width) in
    let noted : flag ≡ is_passed_on parts.log t.place = told ∙ h.passed_on n within ∙ ap (λ (xs : List Logged). is_passed_on xs n) e ∙ ap (is_passed_on parts.log) at in
    let here : slice_index_or (passes parts.log) t.place None ≡ Some pass = ap (λ k. slice_index_or (passes parts.log) k None) (sym at) ∙ p in
    rw (here, same) (ap not noted)
