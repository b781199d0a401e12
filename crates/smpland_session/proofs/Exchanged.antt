-- The outcome of a command, and the reply that tells it, say what became of the session: of one exchange.
use Rattle.std.proofs.Common.{◌≡◌, ◌∙◌, ◌++◌, ◌∷◌, [], ℕ, Bool, true, false, List, Option, Some, None, ap, refl, subst, sym}
use Rattle.std.specs.Prelude.{IfSome, codes, is_some}
use Rattle.json.specs.Token.{Token}
use Rattle.json_tree.specs.View.{view}
use Rattle.sm_reopening.specs.declared.party.Party.{Party}
use Rattle.sm_reopening.specs.Ongoing.{net_reopening}
use Rattle.smpland_reopening.specs.Proposal.{parties_waited_for}
use Rattle.smpland_reopening.specs.Waiting.{unsettled_parties}
use Rattle.smpland_lines.specs.Members.{text_member}
use Rattle.smpland_lines.specs.Refusals.{own_refusal, refused_member}
use Rattle.smpland_lines.specs.declared.command.DriverCommand.{DriverCommand}
use Rattle.smpland_lines.specs.declared.command.DriverCommand.TheVariants as driver
use Rattle.smpland_lines.specs.declared.command.LineCommand.{LineCommand}
use Rattle.smpland_lines.specs.declared.command.LineCommand.TheVariants as line
use Rattle.smpland_lines.specs.declared.command.Question.{Question}
use Rattle.smpland_lines.specs.declared.command.ReopeningCommand.TheVariants as reopening
use Rattle.smpland_state.specs.Bits.{hexadecimal}
use Rattle.smpland_state.specs.Permits.{opened_member}
use Rattle.smpland_state.specs.declared.journal_state.JournalState.{JournalState}
use Rattle.sm_placement.specs.Setup.{Setup}
use Rattle.smpland_reopening_lines.specs.Outcomes.{has_counted}
use Rattle.smpland_reopening_lines.specs.Parties.{fences_member, waiting_member}
use Rattle.smpland_reopening_lines.specs.Proposals.{waiting_or_proposal}
use Rattle.smpland_reopening_lines.specs.Settles.{settles_member}
use Rattle.smpland_reopening_lines.specs.declared.outcome.ReopeningOutcome.{ReopeningOutcome}
use Rattle.smpland_reopening_lines.specs.declared.outcome.ReopeningOutcome.TheVariants as outcome
use Rattle.smpland_session.specs.ToldAgain.{Answers, AnswersAgain}
use Rattle.smpland_session.specs.Asked.{Does, DoesToDriver, StaysOpen, texts_among}
use Rattle.smpland_session.specs.Changes.{Drives, Follows as GoesOn, HasChanged, Reopens as Begins}
use Rattle.smpland_session.specs.Declines.{Declines, DriverDeclines, Ignored, Refused, SessionDeclines}
use Rattle.smpland_session.specs.Exchanges.{ComesTo, KnowsAll, TakesOnOpen, TellsExchange, TellsClosed, is_change}
use Rattle.smpland_session.specs.Outcomes.{HasOutcome, KnowsServers, TellsOutcome, has_changed}
use Rattle.smpland_session.specs.Questions.{TellsAnswer}
use Rattle.smpland_session.specs.Reopenings.{TellsNotUnderWay, TellsUnderWay}
use Rattle.smpland_session.specs.Replies.{Follows, Reopens, TellsChanges}
use Rattle.smpland_session.specs.declared.closed.Closed.{Closed}
use Rattle.smpland_session.specs.declared.closed.Closed.TheVariants as closed
use Rattle.smpland_session.specs.declared.driver_outcome.DriverOutcome.{DriverOutcome}
use Rattle.smpland_session.specs.declared.opening.OpenOutcome.TheVariants as opens
use Rattle.smpland_session.specs.declared.outcome.Outcome.{Outcome}
use Rattle.smpland_session.specs.declared.outcome.Outcome.TheVariants as came
use Rattle.smpland_session.specs.declared.reopen_outcome.ReopenOutcome.TheVariants as reopen
use Rattle.smpland_session.specs.declared.session.Session.{Session}
use Rattle.smpland_session.specs.declared.under_way.UnderWay.{UnderWay}
use Rattle.smpland_session.proofs.Openings.{not_opened_declines, tells_opened}
use Rattle.smpland_session.proofs.Outcomes.{again, declines, did, kept, names_known, told_by}
use Rattle.smpland_session.proofs.Reopenings.{confirm_asked, confirm_keeps, confirm_taken, confirm_tells, fenced_asked, fenced_keeps, fenced_taken, fenced_tells, reopen_tells, settled_asked, settled_changes, settled_keeps, settled_tells}

-- no reopening is under way
free : (under : Option UnderWay) → is_some under ≡ false → under ≡ None
free None is = refl
free (Some u) is = absurd (let z = is in cc)

-- ---- commands on the journal that is open

module _ (command : DriverCommand) (under after_it : Option UnderWay) (it : DriverOutcome) (same : after_it ≡ under) where
  -- a change
  drives : (opened new : Option JournalState) → TakesOnOpen command (is_some under) opened it new → has_changed it ≡ true → HasChanged opened under new after_it
  drives (Some o) (Some p) takes is =
      let d = did command (is_some under) o p it takes is in Drives (free under d.0) (same ∙ free under d.0) d.2
  drives (Some o) None takes is = absurd takes
  drives None new takes is = absurd takes

  -- it is the one that a line asks for
  drives_as_asked : (opened new : Option JournalState) → TakesOnOpen command (is_some under) opened it new → has_changed it ≡ true →
      StaysOpen (DoesToDriver command) opened new
  drives_as_asked (Some o) (Some p) takes is = (did command (is_some under) o p it takes is).1
  drives_as_asked (Some o) None takes is = absurd takes
  drives_as_asked None new takes is = absurd takes

  -- otherwise the journal stays as it is
  stays_open : (opened new : Option JournalState) → TakesOnOpen command (is_some under) opened it new → has_changed it ≡ false → new ≡ opened
  stays_open (Some o) (Some p) takes is =
      ap (λ (q : JournalState). Some q) (kept command (is_some under) o p it takes is)
  stays_open (Some o) None takes is = absurd takes
  stays_open None new takes is = absurd takes

  module _ (before after : List Token) where
    -- a change is told
    drive_tells : (opened new : Option JournalState) → TakesOnOpen command (is_some under) opened it new → has_changed it ≡ true →
        IfSome new (λ (o : JournalState). TellsOutcome o it before after) → TellsChanges (line.Driver command) opened under new after_it before after
    drive_tells (Some o) (Some p) takes is told =
        let d = did command (is_some under) o p it takes is in (free under d.0, same ∙ free under d.0, d.3 before after told)
    drive_tells (Some o) None takes is told = absurd takes
    drive_tells None new takes is told = absurd takes

    -- a command that comes again is answered
    drive_answers : (opened new : Option JournalState) → TakesOnOpen command (is_some under) opened it new →
        IfSome new (λ (o : JournalState). TellsOutcome o it before after) → IfSome opened (λ o. AnswersAgain command o (is_some under) before after)
    drive_answers (Some o) (Some p) takes told = again before after command (is_some under) o p it takes told
    drive_answers (Some o) None takes told = absurd takes
    drive_answers None new takes told = absurd takes

    -- one that changes nothing is declined
    drive_declines : (opened new : Option JournalState) → TakesOnOpen command (is_some under) opened it new → has_changed it ≡ false →
        IfSome new (λ (o : JournalState). TellsOutcome o it before after) → DriverDeclines command opened before after
    drive_declines (Some o) (Some p) takes is told = declines before after command (is_some under) o p it takes told is
    drive_declines (Some o) None takes is told = absurd takes
    drive_declines None new takes is told = absurd takes

-- the servers that are told their cells are known
drive_knows : (command : DriverCommand) (is_reopening : Bool) (it : DriverOutcome) (opened new : Option JournalState) →
    TakesOnOpen command is_reopening opened it new → IfSome new (λ (o : JournalState). KnowsServers o.driver it)
drive_knows command is_reopening it (Some o) (Some p) takes = names_known command is_reopening o p it takes
drive_knows command is_reopening it (Some o) None takes = absurd takes
drive_knows command is_reopening it None new takes = absurd takes

-- ---- commands on a journal, as long as none is open

closed_declines : (why : Closed) (before after : List Token) → TellsClosed why before after → Declines before after
closed_declines closed.NotOpened before after told = Refused told
closed_declines closed.Reopening before after told = Refused told
closed_declines closed.Old before after told = Ignored (codes "old", told)

declined_closed : (command : DriverCommand) (before after : List Token) → Declines before after → DriverDeclines command None before after
declined_closed (driver.Begin _ name) before after d = λ _. d
declined_closed (driver.Approve _ by) before after d = λ _. d
declined_closed (driver.Restore name _) before after d = λ _. d
declined_closed (driver.Answered _ _ _) before after d = d
declined_closed (driver.Restarted _ _) before after d = d
declined_closed driver.NewEpoch before after d = d
declined_closed (driver.Copied _ _ _ _) before after d = d

-- ---- all commands

-- an outcome that is a change has changed the session
pub comes_changes : (command : LineCommand) (opened : Option JournalState) (under : Option UnderWay) (it : Outcome) (new : Option JournalState) (after_it : Option UnderWay) →
    ComesTo command opened under it new after_it → is_change it ≡ true → HasChanged opened under new after_it
comes_changes (line.Open document journal epoch) opened under (came.Open opens.Opened) new after_it comes is =
    let none = free under comes.1.0 in Drives none (comes.0 ∙ none) comes.1.1
comes_changes (line.Open document journal epoch) opened under (came.Open (opens.NotOpened why)) new after_it comes is = absurd (let z = is in cc)
comes_changes (line.Driver command) opened under (came.Driver it) new after_it comes is = drives command under after_it it comes.0 opened new comes.1 is
comes_changes (line.Driver command) opened under (came.Closed why) new after_it comes is = absurd (let z = is in cc)
comes_changes (line.Reopening (reopening.Reopen document lost journal epoch)) opened under (came.Reopen reopen.Begun) new after_it comes is =
    Begins comes.0 (texts_among lost.now, comes.1.0)
comes_changes (line.Reopening (reopening.Reopen document lost journal epoch)) opened under (came.Reopen (reopen.NotBegun why)) new after_it comes is =
    absurd (let z = is in cc)
comes_changes (line.Reopening (reopening.Fenced server base told)) opened under (came.Reopening it) new after_it comes is =
    GoesOn comes.0 (fenced_taken server base told under after_it it comes.1 is)
comes_changes (line.Reopening (reopening.Confirm base cells lost)) opened under (came.Reopening it) new after_it comes is =
    GoesOn comes.0 (confirm_taken base cells.now lost.now under after_it it comes.1 is)
comes_changes (line.Reopening (reopening.Settled server base)) opened under (came.Reopening it) new after_it comes is =
    settled_changes server base opened under new after_it it comes is
comes_changes (line.Question asked) opened under (came.Answered it) new after_it comes is = absurd (let z = is in cc)
comes_changes _ opened under _ new after_it comes is = absurd comes

-- the change is what the command asks for
pub comes_as_asked : (command : LineCommand) (opened : Option JournalState) (under : Option UnderWay) (it : Outcome) (new : Option JournalState) (after_it : Option UnderWay) →
    ComesTo command opened under it new after_it → is_change it ≡ true → Does command opened under new after_it
comes_as_asked (line.Open document journal epoch) opened under (came.Open opens.Opened) new after_it comes is = comes.1.2
comes_as_asked (line.Open document journal epoch) opened under (came.Open (opens.NotOpened why)) new after_it comes is = absurd (let z = is in cc)
comes_as_asked (line.Driver command) opened under (came.Driver it) new after_it comes is = drives_as_asked command under after_it it comes.0 opened new comes.1 is
comes_as_asked (line.Driver command) opened under (came.Closed why) new after_it comes is = absurd (let z = is in cc)
comes_as_asked (line.Reopening (reopening.Reopen document lost journal epoch)) opened under (came.Reopen reopen.Begun) new after_it comes is =
    (comes.1.0, comes.1.1, comes.1.2, comes.0)
comes_as_asked (line.Reopening (reopening.Reopen document lost journal epoch)) opened under (came.Reopen (reopen.NotBegun why)) new after_it comes is =
    absurd (let z = is in cc)
comes_as_asked (line.Reopening (reopening.Fenced server base told)) opened under (came.Reopening it) new after_it comes is =
    (fenced_asked server base told under after_it it comes.1 is, comes.0)
comes_as_asked (line.Reopening (reopening.Confirm base cells lost)) opened under (came.Reopening it) new after_it comes is =
    (confirm_asked base cells.now lost.now under after_it it comes.1 is, comes.0)
comes_as_asked (line.Reopening (reopening.Settled server base)) opened under (came.Reopening it) new after_it comes is =
    settled_asked server base opened under new after_it it comes is
comes_as_asked (line.Question asked) opened under (came.Answered it) new after_it comes is = absurd (let z = is in cc)
comes_as_asked _ opened under _ new after_it comes is = absurd comes

-- any other outcome leaves all as it was
pub comes_keeps : (command : LineCommand) (opened : Option JournalState) (under : Option UnderWay) (it : Outcome) (new : Option JournalState) (after_it : Option UnderWay) →
    ComesTo command opened under it new after_it → is_change it ≡ false → (new ≡ opened) × (after_it ≡ under)
comes_keeps (line.Open document journal epoch) opened under (came.Open opens.Opened) new after_it comes is = absurd (let z = is in cc)
comes_keeps (line.Open document journal epoch) opened under (came.Open (opens.NotOpened why)) new after_it comes is = (comes.1, comes.0)
comes_keeps (line.Driver command) opened under (came.Driver it) new after_it comes is =
    (stays_open command under after_it it comes.0 opened new comes.1 is, comes.0)
comes_keeps (line.Driver command) opened under (came.Closed why) new after_it comes is = (comes.2, comes.0)
comes_keeps (line.Reopening (reopening.Reopen document lost journal epoch)) opened under (came.Reopen reopen.Begun) new after_it comes is =
    absurd (let z = is in cc)
comes_keeps (line.Reopening (reopening.Reopen document lost journal epoch)) opened under (came.Reopen (reopen.NotBegun why)) new after_it comes is =
    (comes.0, comes.1)
comes_keeps (line.Reopening (reopening.Fenced server base told)) opened under (came.Reopening it) new after_it comes is =
    (comes.0, fenced_keeps server base told under after_it it comes.1 is)
comes_keeps (line.Reopening (reopening.Confirm base cells lost)) opened under (came.Reopening it) new after_it comes is =
    (comes.0, confirm_keeps base cells.now lost.now under after_it it comes.1 is)
comes_keeps (line.Reopening (reopening.Settled server base)) opened under (came.Reopening it) new after_it comes is =
    settled_keeps server base opened under new after_it it comes is
comes_keeps (line.Question asked) opened under (came.Answered it) new after_it comes is = (comes.0, comes.1)
comes_keeps _ opened under _ new after_it comes is = absurd comes

-- the servers that are told their cells are known
pub comes_knows : (command : LineCommand) (opened : Option JournalState) (under : Option UnderWay) (it : Outcome) (s : Session) →
    ComesTo command opened under it s.opened s.under_way → KnowsAll s it
comes_knows (line.Driver command) opened under (came.Driver it) s comes = drive_knows command (is_some under) it opened s.opened comes.1
comes_knows (line.Open document journal epoch) opened under (came.Driver it) s comes = absurd comes
comes_knows (line.Reopening (reopening.Reopen document lost journal epoch)) opened under (came.Driver it) s comes = absurd comes
comes_knows (line.Reopening (reopening.Fenced server base told)) opened under (came.Driver it) s comes = absurd comes
comes_knows (line.Reopening (reopening.Confirm base cells lost)) opened under (came.Driver it) s comes = absurd comes
comes_knows (line.Reopening (reopening.Settled server base)) opened under (came.Driver it) s comes = absurd comes
comes_knows (line.Question asked) opened under (came.Driver it) s comes = absurd comes
comes_knows _ opened under (came.Bad fault) s comes = tt
comes_knows _ opened under (came.Open it) s comes = tt
comes_knows _ opened under (came.Closed why) s comes = tt
comes_knows _ opened under (came.Reopen it) s comes = tt
comes_knows _ opened under (came.Reopening it) s comes = tt
comes_knows _ opened under (came.Answered it) s comes = tt

-- a session of these parts
abbrev session_of : Option JournalState → Option UnderWay → ℕ → Session
session_of opened under place = record { opened = opened; under_way = under; place = place }

-- sessions of the same parts are one
pub same_session : (s n : Session) → n.opened ≡ s.opened → n.under_way ≡ s.under_way → n.place ≡ s.place → n ≡ s
same_session s n opened under place =
    ap (λ (x : Option JournalState). session_of x n.under_way n.place) opened
    ∙ ap (λ (x : Option UnderWay). session_of s.opened x n.place) under
    ∙ ap (λ (x : ℕ). session_of s.opened s.under_way x) place

module _ (s : Session) (before after : List Token) where
  -- the reply tells what has changed
  pub comes_tells : (command : LineCommand) (opened : Option JournalState) (under : Option UnderWay) (it : Outcome) →
      ComesTo command opened under it s.opened s.under_way → is_change it ≡ true → TellsExchange s it before after →
      TellsChanges command opened under s.opened s.under_way before after
  comes_tells (line.Open document journal epoch) opened under (came.Open opens.Opened) comes is told =
      let none = free under comes.1.0 in
      (none, comes.0 ∙ none, tells_opened (view document.now) journal epoch opened s.opened before after comes.1.2 told)
  comes_tells (line.Open document journal epoch) opened under (came.Open (opens.NotOpened why)) comes is told = absurd (let z = is in cc)
  comes_tells (line.Driver command) opened under (came.Driver it) comes is told =
      drive_tells command under s.under_way it comes.0 before after opened s.opened comes.1 is told
  comes_tells (line.Driver command) opened under (came.Closed why) comes is told = absurd (let z = is in cc)
  comes_tells (line.Reopening (reopening.Reopen document lost journal epoch)) opened under (came.Reopen reopen.Begun) comes is told =
      Reopens (texts_among lost.now, comes.1.0)
      (reopen_tells (record { document = document; lost = lost; journal = journal; epoch = epoch }) opened under s.under_way before after comes.1 told)
  comes_tells (line.Reopening (reopening.Reopen document lost journal epoch)) opened under (came.Reopen (reopen.NotBegun why)) comes is told =
      absurd (let z = is in cc)
  comes_tells (line.Reopening (reopening.Fenced server base told)) opened under (came.Reopening it) comes is tells =
      Follows (fenced_tells server base told under s.under_way it s.opened before after comes.1 is tells)
  comes_tells (line.Reopening (reopening.Confirm base cells lost)) opened under (came.Reopening it) comes is tells =
      Follows (confirm_tells base cells.now lost.now under s.under_way it s.opened before after comes.1 is tells)
  comes_tells (line.Reopening (reopening.Settled server base)) opened under (came.Reopening it) comes is tells =
      settled_tells server base opened under s.opened s.under_way it comes before after is tells
  comes_tells (line.Question asked) opened under (came.Answered it) comes is told = absurd (let z = is in cc)
  comes_tells _ opened under _ comes is told = absurd comes

  -- it answers a command that comes again, and a question, which changes nothing
  pub comes_answers : (command : LineCommand) (old : Session) (it : Outcome) → ComesTo command old.opened old.under_way it s.opened s.under_way →
      (is_change it ≡ false → s.place ≡ old.place) → TellsExchange s it before after → Answers command old before after
  comes_answers (line.Question asked) old (came.Answered it) comes place told =
      subst (λ (t : Session). TellsAnswer asked t before after) (same_session old s comes.0 comes.1 (place refl))
      (subst (λ (q : Question). TellsAnswer q s before after) comes.2 told)
  comes_answers (line.Driver command) old (came.Driver it) comes place told =
      drive_answers command old.under_way s.under_way it comes.0 before after old.opened s.opened comes.1 told
  comes_answers (line.Driver command) old (came.Closed why) comes place told = rw comes.1 tt
  comes_answers (line.Open document journal epoch) old it comes place told = tt
  comes_answers (line.Reopening command) old it comes place told = tt
  comes_answers _ old _ comes place told = absurd comes

  -- it declines a command that changes nothing
  pub comes_declines : (command : LineCommand) (old : Session) (it : Outcome) → ComesTo command old.opened old.under_way it s.opened s.under_way →
      is_change it ≡ false → TellsExchange s it before after → SessionDeclines command old before after
  comes_declines (line.Open document journal epoch) old (came.Open opens.Opened) comes is told = absurd (let z = is in cc)
  comes_declines (line.Open document journal epoch) old (came.Open (opens.NotOpened why)) comes is told = not_opened_declines why before after told
  comes_declines (line.Driver command) old (came.Driver it) comes is told =
      drive_declines command old.under_way s.under_way it comes.0 before after old.opened s.opened comes.1 is told
  comes_declines (line.Driver command) old (came.Closed why) comes is told =
      rw comes.1 (declined_closed command before after (closed_declines why before after told))
  comes_declines (line.Reopening command) old it comes is told = tt
  comes_declines (line.Question asked) old it comes is told = tt
  comes_declines _ old _ comes is told = absurd comes

-- ---- replies that are not made

module _ (front : List Token) where
  told_open : (o : Option JournalState) → (members : List Token) × IfSome o (λ (o : JournalState). members ≡ front ++ opened_member o.driver)
  told_open (Some o) = (front ++ opened_member o.driver, refl)
  told_open None = (front, tt)

  told_begun : (u : Option UnderWay) → (members : List Token) × IfSome u (λ (u : UnderWay). members ≡ front ++ fences_member (hexadecimal u.reopening.journal) u.reopening)
  told_begun (Some u) = (front ++ fences_member (hexadecimal u.reopening.journal) u.reopening, refl)
  told_begun None = (front, tt)

  told_driven : (o : Option JournalState) (it : DriverOutcome) → has_changed it ≡ true →
      (members : List Token) × IfSome o (λ (o : JournalState). TellsOutcome o it front members)
  told_driven (Some o) it is = told_by front o it is
  told_driven None it is = (front, tt)

  told_not_under_way : (o : Option JournalState) → (members : List Token) × TellsNotUnderWay o front members
  told_not_under_way (Some o) = (front ++ text_member (codes "ignored") (codes "old"), refl)
  told_not_under_way None = (front ++ refused_member (own_refusal (codes "NotOpened") []), (own_refusal (codes "NotOpened") [], refl))

  told_under_way : (o : Option JournalState) (u : Option UnderWay) (it : ReopeningOutcome) → has_counted it ≡ true →
      (members : List Token) × TellsUnderWay o u it front members
  told_under_way o u outcome.Complete is = told_open o
  told_under_way o (Some u) outcome.Fenced is = (front ++ waiting_or_proposal u.reopening (parties_waited_for u.reopening), refl)
  told_under_way o (Some u) outcome.Confirmed is = (front ++ settles_member (hexadecimal u.reopening.journal) u.reopening, refl)
  told_under_way o (Some u) outcome.Settled is =
      (front ++ waiting_member u.reopening.numbering (unsettled_parties (net_reopening u.reopening.ongoing)), refl)
  told_under_way o None outcome.Fenced is = told_not_under_way o
  told_under_way o None outcome.Confirmed is = told_not_under_way o
  told_under_way o None outcome.Settled is = told_not_under_way o
  told_under_way o u outcome.Old is = absurd (let z = is in cc)
  told_under_way o u (outcome.Bad _) is = absurd (let z = is in cc)
  told_under_way o u (outcome.Refused _) is = absurd (let z = is in cc)

  -- each change is told by some members
  pub told_if_made : (s : Session) (it : Outcome) → is_change it ≡ true → (members : List Token) × TellsExchange s it front members
  told_if_made s (came.Bad fault) is = absurd (let z = is in cc)
  told_if_made s (came.Open opens.Opened) is = told_open s.opened
  told_if_made s (came.Open (opens.NotOpened why)) is = absurd (let z = is in cc)
  told_if_made s (came.Driver it) is = told_driven s.opened it is
  told_if_made s (came.Closed why) is = absurd (let z = is in cc)
  told_if_made s (came.Reopen reopen.Begun) is = told_begun s.under_way
  told_if_made s (came.Reopen (reopen.NotBegun why)) is = absurd (let z = is in cc)
  told_if_made s (came.Reopening it) is = told_under_way s.opened s.under_way it is
  told_if_made s (came.Answered asked) is = absurd (let z = is in cc)
