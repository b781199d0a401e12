-- Entries that two sessions take which are alike.
use Rattle.std.proofs.Common.{◌≡◌, ◌∙◌, ℕ, Bool, true, false, true≢false, bytes_eq, List, [], ◌∷◌, Option, Some, None, Ok, ap, length, refl, replicate, subst, subst₂, sym}
use Rattle.std.specs.Prelude.{◌||◌, codes}
use Rattle.std.specs.Borrow.{Bor}
use Rattle.json.specs.Token.{Token}
use Rattle.serde_json.specs.Data.{Data}
use Rattle.json_tree.specs.View.{view}
use Rattle.json_tree.specs.declared.tree.Tree.{Tree}
use Rattle.sm_placement.specs.Opening.{opened_place}
use Rattle.sm_placement.specs.Setup.{sizes_of}
use Rattle.sm_plan_text.specs.Documents.{DocumentModel}
use Rattle.sm_plan_text.specs.Opened.{opening_of}
use Rattle.sm_plan_text.specs.Reading.{data_of, read_data}
use Rattle.sm_protocol.specs.State.{opened}
use Rattle.sm_driver.specs.Alike.{AreAlike, EachAlike, GoAlike}
use Rattle.sm_driver.specs.Driver.{DriverModel}
use Rattle.sm_driver.specs.Orders.{epoch_base}
use Rattle.sm_driver.specs.Permits.{opening_permits}
use Rattle.sm_driver.specs.Restores.{RestoreModel}
use Rattle.smpland_lines.specs.Ids.{line_id}
use Rattle.smpland_lines.specs.Lines.{Says, command_word}
use Rattle.smpland_lines.specs.Values.{text_at}
use Rattle.smpland_lines.specs.declared.command_member.CommandMember.TheVariants as at
use Rattle.smpland_lines.specs.declared.command.LineCommand.{LineCommand}
use Rattle.smpland_lines.specs.declared.command.LineCommand.TheVariants as line
use Rattle.smpland_lines.specs.declared.command.DriverCommand.{DriverCommand}
use Rattle.smpland_lines.specs.declared.command.DriverCommand.TheVariants as driver
use Rattle.smpland_lines.specs.declared.command.ReopeningCommand.{ReopeningCommand}
use Rattle.smpland_lines.specs.declared.command.ReopeningCommand.TheVariants as reopening
use Rattle.smpland_state.specs.declared.journal_state.JournalState.{JournalState}
use Rattle.smpland_session.specs.Asked.{DoesToDriver, DoesToSession, IsOpenedBy, OpensOver, StaysOpen}
use Rattle.smpland_session.specs.Changes.{IsNew, driver_of, reopening_under_way}
use Rattle.smpland_session.specs.Replies.{SessionTells}
use Rattle.smpland_session.specs.declared.session.Session.{Session}
use Rattle.laws_session.specs.Alike.{AreDriversAlike, AreSessionsAlike, AreUnderAlike, EachSessionAlike}
use Rattle.laws_session.specs.Replays.{EntriesGoAlike, IsOnJournal, ReplaysAgree, ReplaysStayAlike}
use Rattle.laws_session.proofs.Commands.{change_alike, one_result, one_value}
use Rattle.laws_session.proofs.Equivalence.{under_back}
use Rattle.laws_session.proofs.Lines.{reopening_alike}

-- ---- openings

-- no server was carried over
abbrev none_carried : ℕ → List Bool
none_carried servers = replicate servers false

-- no server was restored
abbrev none_restored : ℕ → List (Option RestoreModel)
none_restored servers = replicate servers None

-- each shard has 1 copy
abbrev single_copies : ℕ → List ℕ
single_copies shards = replicate shards 1

-- a document, a journal and an epoch determine the first driver
first_alike : (v w : Data) (journal number epoch other : ℕ) (d e : DriverModel) → w ≡ v → number ≡ journal → other ≡ epoch → IsOpenedBy v journal epoch d →
    IsOpenedBy w number other e → AreAlike d e
first_alike v w journal number epoch other d e values journals epochs x y =
    let same : y.0 ≡ x.0 = one_result (read_data (Some v)) x.0 y.0 x.1 (subst (λ (value : Data). read_data (Some value) ≡ Ok y.0) values y.1) in
    let at : e.epoch ≡ d.epoch = y.5 ∙ epochs ∙ sym x.5 in
    record {
      recorded = y.3 ∙ ap (λ (m : DocumentModel). opened (sizes_of m.setup) (opened_place (opening_of m)) m.log) same ∙ sym x.3;
      setup = y.2 ∙ ap (λ (m : DocumentModel). m.setup) same ∙ sym x.2;
      journal = y.4 ∙ journals ∙ sym x.4;
      epoch = at;
      fence = y.6.fence ∙ sym x.6.fence;
      permits = y.6.permits
          ∙ ap (λ (n : ℕ). opening_permits (epoch_base n) [] (length y.0.setup.servers) (opened_place (opening_of y.0)).down) at
          ∙ ap (λ (m : DocumentModel). opening_permits (epoch_base d.epoch) [] (length m.setup.servers) (opened_place (opening_of m)).down) same
          ∙ sym x.6.permits;
      carried = y.6.carried ∙ ap (λ (m : DocumentModel). none_carried (length m.setup.servers)) same ∙ sym x.6.carried;
      restores = y.6.restores ∙ ap (λ (m : DocumentModel). none_restored (length m.setup.servers)) same ∙ sym x.6.restores;
      copies = y.6.copies ∙ ap (λ (m : DocumentModel). single_copies (length m.setup.shards)) same ∙ sym x.6.copies;
    }

opens_alike : (v w : Data) (journal number epoch other : ℕ) (o p new next : Option JournalState) → w ≡ v → number ≡ journal → other ≡ epoch → OpensOver v journal epoch o new →
    OpensOver w number other p next → AreDriversAlike (driver_of new) (driver_of next)
opens_alike v w journal number epoch other None None (Some new) (Some next) values journals epochs x y =
    first_alike v w journal number epoch other new.driver next.driver values journals epochs x y
opens_alike v w journal number epoch other None None (Some new) None values journals epochs x y = absurd y
opens_alike v w journal number epoch other None (Some p) (Some new) next values journals epochs x y = absurd y
opens_alike v w journal number epoch other None p None next values journals epochs x y = absurd x
opens_alike v w journal number epoch other (Some o) p new next values journals epochs x y = absurd x

-- ---- commands on a journal

takes_alike : EachAlike GoAlike → (value : Data) (c k : DriverCommand) (o p new next : Option JournalState) → Says value (line.Driver c) → Says value (line.Driver k) →
    AreDriversAlike (driver_of o) (driver_of p) → StaysOpen (DoesToDriver c) o new → StaysOpen (DoesToDriver k) p next → AreDriversAlike (driver_of new) (driver_of next)
takes_alike go value c k (Some o) (Some p) (Some new) (Some next) one two is x y = change_alike go value c k o.driver p.driver new.driver next.driver one two is x y
takes_alike go value c k (Some o) (Some p) (Some new) None one two is x y = absurd y
takes_alike go value c k (Some o) (Some p) None next one two is x y = absurd x
takes_alike go value c k (Some o) None new next one two is x y = absurd is
takes_alike go value c k None p new next one two is x y = absurd x

-- ---- entries

-- a line that opens a journal is no command on one
is_no_opening : (value : Data) (document : Bor Tree) (journal epoch : ℕ) (command : DriverCommand) → Says value (line.Open document journal epoch) →
    Says value (line.Driver command) → ⊥
is_no_opening value document journal epoch (driver.Begin plan name) one two = absurd (let z = sym one.0 ∙ two.0 in cc)
is_no_opening value document journal epoch (driver.Answered plan stream number) one two = absurd (let z = sym one.0 ∙ two.0 in cc)
is_no_opening value document journal epoch (driver.Approve server by) one two = absurd (let z = sym one.0 ∙ two.0 in cc)
is_no_opening value document journal epoch (driver.Restarted permit base) one two = absurd (let z = sym one.0 ∙ two.0 in cc)
is_no_opening value document journal epoch (driver.Restore server nonce) one two = absurd (let z = sym one.0 ∙ two.0 in cc)
is_no_opening value document journal epoch (driver.Copied shard told fence copies) one two = absurd (let z = sym one.0 ∙ two.0 in cc)
is_no_opening value document journal epoch driver.NewEpoch one two = absurd (let z = sym one.0 ∙ two.0 in cc)

-- a word is of a reopening
abbrev is_reopening_word : List ℕ → Bool
is_reopening_word word =
    bytes_eq word (codes "reopen") || (bytes_eq word (codes "fenced") || (bytes_eq word (codes "confirm") || bytes_eq word (codes "settled")))

reopening_word : (c : ReopeningCommand) → is_reopening_word (command_word (line.Reopening c)) ≡ true
reopening_word (reopening.Reopen document lost journal epoch) = refl
reopening_word (reopening.Fenced server base told) = refl
reopening_word (reopening.Confirm base cells lost) = refl
reopening_word (reopening.Settled server base) = refl

driver_word : (c : DriverCommand) → is_reopening_word (command_word (line.Driver c)) ≡ false
driver_word (driver.Begin plan name) = refl
driver_word (driver.Answered plan stream number) = refl
driver_word (driver.Approve server by) = refl
driver_word (driver.Restarted permit base) = refl
driver_word (driver.Restore server nonce) = refl
driver_word driver.NewEpoch = refl
driver_word (driver.Copied shard journal fence copies) = refl

-- a line of a reopening says no other command
of_one_kind : (value : Data) (c : ReopeningCommand) (k : LineCommand) → Says value (line.Reopening c) → Says value k → is_reopening_word (command_word k) ≡ false → ⊥
of_one_kind value c k one two other =
    let words : command_word k ≡ command_word (line.Reopening c) = one_value (text_at at.Do value) (command_word (line.Reopening c)) (command_word k) one.0 two.0 in
    true≢false (sym (reopening_word c) ∙ ap is_reopening_word (sym words) ∙ other)

-- no reopening is under way after a line on a journal, so only the drivers are to be alike
journal_alike : (new next : Session) → AreDriversAlike (driver_of new.opened) (driver_of next.opened) → reopening_under_way new.under_way ≡ None →
    reopening_under_way next.under_way ≡ None → AreSessionsAlike new next
journal_alike new next drivers x y = record { drivers = drivers; under = subst₂ AreUnderAlike (sym x) (sym y) tt }

-- what two sessions become is alike
session_alike : EachAlike GoAlike → (value : Data) (c k : LineCommand) (a b new next : Session) (members others more : List Token) → IsOnJournal c → IsOnJournal k → Says value c →
    Says value k → AreSessionsAlike a b → AreUnderAlike (reopening_under_way b.under_way) (reopening_under_way a.under_way) → DoesToSession c a new → DoesToSession k b next →
    SessionTells c a new members others → SessionTells k b next members more → AreSessionsAlike new next
session_alike go value (line.Open document journal epoch) (line.Open document2 journal2 epoch2) a b new next members others more on also one two is si x y tells told =
    journal_alike new next
    (opens_alike (view document.now) (view document2.now) journal journal2 epoch epoch2 a.opened b.opened new.opened next.opened
    (one_value _ _ _ one.1.0 two.1.0) (one_value _ _ _ one.1.1 two.1.1) (one_value _ _ _ one.1.2 two.1.2) x y)
    (ap reopening_under_way tells.1) (ap reopening_under_way told.1)
session_alike go value (line.Driver c) (line.Driver k) a b new next members others more on also one two is si x y tells told =
    journal_alike new next (takes_alike go value c k a.opened b.opened new.opened next.opened one two is.drivers x y)
    (ap reopening_under_way tells.1) (ap reopening_under_way told.1)
session_alike go value (line.Reopening c) (line.Reopening k) a b new next members others more on also one two is si x y tells told =
    reopening_alike go value c k a b new next one two is si x y
session_alike go value (line.Open document journal epoch) (line.Driver k) a b new next members others more on also one two is si x y tells told =
    absurd (is_no_opening value document journal epoch k one two)
session_alike go value (line.Driver c) (line.Open document journal epoch) a b new next members others more on also one two is si x y tells told =
    absurd (is_no_opening value document journal epoch c two one)
session_alike go value (line.Reopening c) (line.Open document journal epoch) a b new next members others more on also one two is si x y tells told =
    absurd (of_one_kind value c (line.Open document journal epoch) one two refl)
session_alike go value (line.Reopening c) (line.Driver k) a b new next members others more on also one two is si x y tells told =
    absurd (of_one_kind value c (line.Driver k) one two (driver_word k))
session_alike go value (line.Open document journal epoch) (line.Reopening k) a b new next members others more on also one two is si x y tells told =
    absurd (of_one_kind value k (line.Open document journal epoch) two one refl)
session_alike go value (line.Driver c) (line.Reopening k) a b new next members others more on also one two is si x y tells told =
    absurd (of_one_kind value k (line.Driver c) two one (driver_word c))
session_alike go value (line.Question c) k a b new next members others more on also one two is si x y tells told = absurd on
session_alike go value c (line.Question k) a b new next members others more on also one two is si x y tells told = absurd also

-- Sessions that are alike are alike after the same entry.
pub entries_go_alike : EachAlike GoAlike → EachSessionAlike EntriesGoAlike
entries_go_alike go a b is text new next x y =
    let values : y.value ≡ x.value = one_value (data_of text) x.value y.value x.read y.read in
    session_alike go x.value x.command y.command a b new next (line_id x.value) x.members y.members x.on_journal y.on_journal x.says
    (subst (λ (v : Data). Says v y.command) values y.says) is (under_back (reopening_under_way a.under_way) (reopening_under_way b.under_way) is.under) x.does y.does x.tells
    (subst (λ (v : Data). SessionTells y.command b next (line_id v) y.members) values y.tells)

-- ---- lists of entries

-- Sessions that are alike are alike after the same entries.
pub replays_stay_alike : EachSessionAlike EntriesGoAlike → EachSessionAlike ReplaysStayAlike
replays_stay_alike go a b is [] new next x y = subst₂ AreSessionsAlike (sym x) (sym y) is
replays_stay_alike go a b is (text ∷ texts) new next x y = replays_stay_alike go x.0 y.0 (go a b is text x.0 y.0 x.1 y.1) texts new next x.2 y.2

-- sessions before their first line are alike
new_alike : (a b : Session) → IsNew a → IsNew b → AreSessionsAlike a b
new_alike a b x y = record {
  drivers = subst₂ AreDriversAlike (sym (ap driver_of x.0)) (sym (ap driver_of y.0)) tt;
  under = subst₂ AreUnderAlike (sym (ap reopening_under_way x.1)) (sym (ap reopening_under_way y.1)) tt;
}

-- So are all sessions that began with nothing.
pub replays_agree : EachSessionAlike ReplaysStayAlike → ReplaysAgree
replays_agree stay a b x y texts new next one two = stay a b (new_alike a b x y) texts new next one two
