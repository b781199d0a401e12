-- The plays of the next epoch, and of an answer to a fence.
use Rattle.std.proofs.Common.{◌++◌, List, Option, Some, refl, subst, sym}
use Rattle.json.specs.Token.{Token}
use Rattle.smpland_lines.specs.Ids.{line_id}
use Rattle.smpland_lines.specs.declared.command.LineCommand.TheVariants as line
use Rattle.smpland_lines.specs.declared.command.DriverCommand.TheVariants as driver
use Rattle.smpland_state.specs.declared.journal_state.JournalState.{JournalState}
use Rattle.smpland_state.specs.Permits.{opened_member}
use Rattle.smpland_lines.specs.declared.command.ReopeningCommand.TheVariants as reopening
use Rattle.smpland_reopening.specs.Proposal.{parties_waited_for}
use Rattle.smpland_reopening_lines.specs.Proposals.{waiting_or_proposal}
use Rattle.smpland_reopening_lines.specs.Taken.{TakesFenced}
use Rattle.smpland_session.specs.Asked.{DoesToDriver, StaysOpen, StaysUnderWay}
use Rattle.smpland_session.specs.Replies.{Fenced, Follows, TellsDriven, TellsGoneOn}
use Rattle.smpland_session.specs.declared.under_way.UnderWay.{UnderWay}
use Rattle.laws_session.specs.Plays.{AnswerIsAnEntry, NextEpochIsAnEntry, next_epoch_entry}

-- The line does what it asks for, and its reply tells the next epoch.
pub next_epoch_is_an_entry : NextEpochIsAnEntry
next_epoch_is_an_entry text a o next read is_open none opens = record {
  value = next_epoch_entry;
  read = read;
  command = line.Driver driver.NewEpoch;
  on_journal = tt;
  says = (refl, tt);
  does = subst (λ (p : Option JournalState). StaysOpen (DoesToDriver driver.NewEpoch) p (Some (record o { driver = next }))) (sym is_open) opens;
  members = line_id next_epoch_entry ++ opened_member next;
  tells = (
    none,
    none,
    subst (λ (p : Option JournalState). TellsDriven driver.NewEpoch p (Some (record o { driver = next })) (line_id next_epoch_entry) (line_id next_epoch_entry ++ opened_member next)) (sym is_open) (opens, refl),
  );
}

-- The reopening takes what the line says, and the reply tells who has to answer.
pub answer_is_an_entry : AnswerIsAnEntry
answer_is_an_entry text value server base told a u next read says is takes =
    let after : Option UnderWay = Some (record { reopening = next }) in
    let members : List Token = line_id value ++ waiting_or_proposal next (parties_waited_for next) in
    record {
      value = value;
      read = read;
      command = line.Reopening (reopening.Fenced server base told);
      on_journal = tt;
      says = says;
      does = (subst (λ (o : Option UnderWay). StaysUnderWay (TakesFenced server base told) o after) (sym is) takes, refl);
      members = members;
      tells = Follows (subst (λ (o : Option UnderWay). TellsGoneOn o after (line_id value) members) (sym is)
          (Fenced (takes.0, base, takes.2.0, takes.2.2) refl));
    }
