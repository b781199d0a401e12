use Rattle.std.proofs.Common.{◌≡◌, ◌<◌, ◌∙◌, Bool, List, [], Option, length, sym, ap, subst, arith}
use Rattle.std.proofs.lemmas.List.{with_items_is}
use Rattle.sm_protocol.specs.declared.event.Logged.{Logged}
use Rattle.sm_protocol.specs.Ticket.{Ticket, pass_of}
use Rattle.sm_protocol.proofs.Scripts.{length_passes}
use Rattle.sm_machine.specs.Journal.{JournalModel, AreRaised}
use Rattle.sm_machine.proofs.Records.{indexed_push}
use Rattle.sm_machine.proofs.journal.Journal.record.Goals as goal

pub push_reserved-requires : goal.push_reserved-requires
push_reserved-requires c =
    omega (
      arith,
      c.requires,
      ap length c.self.invariant.indexed.passes,
      length_passes [] c.self.inside.log.items,
      c.self.inside.passes.ok,
      c.self.invariant.pass_room,
      ap (λ (j : JournalModel). length j.log) c.self.view_is,
      ap (λ (j : JournalModel). j.room) c.self.view_is,
    )

pub invariant_of-self : goal.invariant_of-self
invariant_of-self c =
    let line : Logged = record { event = c.args.event; answer = c.args.answer } in
    let width : length c.note_pass_on.new.passed_on ≡ length c.self.inside.passed_on.items = omega (arith, c.note_pass_on.auto.passed_on, ap length c.as_mut_slice-flags.ensures.value) in
    let below : length c.self.inside.log.items < c.self.inside.room = omega (arith, c.requires, ap (λ (j : JournalModel). length j.log) c.self.view_is, ap (λ (j : JournalModel). j.room) c.self.view_is) in
    record {
      indexed = indexed_push c.self.inside.log.items c.push_reserved-2.new.self.items c.self.inside.room c.self.inside.passes.items c.push_reserved.new.self.items c.self.inside.passed_on.items c.note_pass_on.new.passed_on _ line
          c.pass_of-pass.result c.self.invariant.indexed below (c.pass_of-pass.ensures ∙ ap (λ (ts : List (Option Ticket)). pass_of ts c.args.answer c.args.event) c.deref.ensures.value)
          c.push_reserved-2.ensures.items c.push_reserved.ensures.items width (subst (λ (flags : List Bool). AreRaised c.args.event flags c.note_pass_on.new.passed_on) c.as_mut_slice-flags.ensures.value c.note_pass_on.ensures)
          (with_items_is c.self.inside.passed_on c.note_pass_on.new.passed_on (width ∙ sym c.self.inside.passed_on.ok.0));
      log_room = omega (arith, c.push_reserved-2.ensures.capacity, c.self.invariant.log_room);
      pass_room = omega (arith, c.push_reserved.ensures.capacity, c.self.invariant.pass_room);
    }
