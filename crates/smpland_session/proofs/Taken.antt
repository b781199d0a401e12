-- Lines that a session takes, and their replies: all that public contracts say of them.
use Rattle.std.proofs.Common.{◌≡◌, ◌∙◌, ◌++◌, ◌∷◌, [], Bool, true, false, ℕ, List, Option, Some, None, Result, Ok, Err, IfOk, OnOk, ap, inl, inr, refl, subst, sym}
use Rattle.json.specs.Token.{Token}
use Rattle.json.specs.Print.{print}
use Rattle.serde_json.specs.Data.{Data}
use Rattle.journal_lines.specs.Objects.{IsObject}
use Rattle.sm_plan_text.specs.Reading.{data_of}
use Rattle.smpland_lines.specs.BadLines.{told_bad}
use Rattle.smpland_lines.specs.Ids.{line_id}
use Rattle.smpland_lines.specs.Lines.{Says}
use Rattle.smpland_lines.specs.Members.{object}
use Rattle.smpland_lines.specs.Writer.{HasNoLineFeed}
use Rattle.smpland_lines.proofs.Printed.{in_braces}
use Rattle.smpland_lines.specs.declared.bad_line.BadLine.{BadLine}
use Rattle.smpland_lines.specs.declared.bad_line.BadLine.TheVariants as bad
use Rattle.smpland_lines.specs.declared.command.LineCommand.{LineCommand}
use Rattle.smpland_state.specs.declared.journal_state.JournalState.{JournalState}
use Rattle.smpland_session.specs.ToldAgain.{AnswersLine, AnswersObject, IsBad, IsCommand, NoObject as HasNoObject, NotJson as IsNotJson, Object, TooLong as IsTooLong}
use Rattle.smpland_session.specs.Asked.{DoesAsSaid, DoesAsTold, IsKnownOver, setup_in_force}
use Rattle.smpland_session.specs.Changes.{SessionChanges, count_after}
use Rattle.smpland_session.specs.Declines.{DeclinesBy, DeclinesLine, DeclinesValue}
use Rattle.smpland_session.specs.Exchanges.{Comes, ComesTo, Exchanges, IsNoObject, KnowsAll, NoObject, NotJson, OfValue, Replies, Takes, TakesAgain, TakesBad, TakesCommand, TellsExchange, TooLong, effect_if, is_change}
use Rattle.smpland_session.specs.Replies.{IsLineReply, RepliesTo, TellsValue}
use Rattle.smpland_session.specs.declared.outcome.Outcome.{Outcome}
use Rattle.smpland_session.specs.declared.outcome.Outcome.TheVariants as came
use Rattle.smpland_session.specs.declared.session.LineEffect.{LineEffect}
use Rattle.smpland_session.specs.declared.session.LineEffect.TheVariants.{Changed, Unchanged}
use Rattle.smpland_session.specs.declared.session.Session.{Session}
use Rattle.smpland_session.specs.declared.under_way.UnderWay.{UnderWay}
use Rattle.smpland_session.proofs.Exchanged.{comes_answers, comes_as_asked, comes_changes, comes_declines, comes_keeps, comes_knows, comes_tells, same_session, told_if_made}

-- ---- changes

-- a command that has come to its outcome is counted if something has changed
pub counted : (command : LineCommand) (old mid new : Session) (it : Outcome) →
    ComesTo command old.opened old.under_way it mid.opened mid.under_way → mid.place ≡ old.place → new.opened ≡ mid.opened →
    new.under_way ≡ mid.under_way → new.place ≡ count_after (is_change it) mid.place → Comes command old it new
counted command old mid new it comes still opened under place = (
  subst (λ (o : Option JournalState). ComesTo command old.opened old.under_way it o new.under_way) (sym opened)
      (subst (λ (u : Option UnderWay). ComesTo command old.opened old.under_way it mid.opened u) (sym under) comes),
  place ∙ ap (count_after (is_change it)) still,
)

module _ (value : Data) (old : Session) (it : Outcome) (new : Session) where
  -- the session has changed
  pub takes_changes : Takes value old it new → is_change it ≡ true → SessionChanges old new
  takes_changes (TakesBad fault e same) is = absurd (let z : false ≡ true = sym (ap is_change e) ∙ is in cc)
  takes_changes (TakesCommand command says known comes) is =
      comes_changes command old.opened old.under_way it new.opened new.under_way comes.0 is

  -- as the value says
  pub takes_as_told : Takes value old it new → is_change it ≡ true → DoesAsTold value old new
  takes_as_told (TakesBad fault e same) is = absurd (let z : false ≡ true = sym (ap is_change e) ∙ is in cc)
  takes_as_told (TakesCommand command says known comes) is =
      (command, says, known, comes_as_asked command old.opened old.under_way it new.opened new.under_way comes.0 is)

  -- or it is as it was
  pub takes_keeps : Takes value old it new → is_change it ≡ false → new ≡ old
  takes_keeps (TakesBad fault e same) is = same
  takes_keeps (TakesCommand command says known comes) is =
      let still = comes_keeps command old.opened old.under_way it new.opened new.under_way comes.0 is in
      same_session old new still.0 still.1 (comes.1 ∙ ap (λ (b : Bool). count_after b old.place) is)

  -- the servers that are told their cells are known
  pub takes_knows : Takes value old it new → KnowsAll new it
  takes_knows (TakesBad fault e same) = subst (λ (o : Outcome). KnowsAll new o) (sym e) tt
  takes_knows (TakesCommand command says known comes) = comes_knows command old.opened old.under_way it new comes.0

  -- ---- replies

  module _ (members : List Token) where
    -- the reply tells the change
    pub value_told : Takes value old it new → TellsExchange new it (line_id value) members → is_change it ≡ true → TellsValue value old new [] members
    value_told (TakesBad fault e same) told is = absurd (let z : false ≡ true = sym (ap is_change e) ∙ is in cc)
    value_told (TakesCommand command says known comes) told is = (
      command,
      says,
      known,
      comes_as_asked command old.opened old.under_way it new.opened new.under_way comes.0 is,
      comes_tells new (line_id value) members command old.opened old.under_way it comes.0 is told,
    )

    -- it answers the value
    pub value_answered : Takes value old it new → TellsExchange new it (line_id value) members → AnswersObject value old (line_id value) members
    value_answered (TakesBad fault e same) told = IsBad fault (subst (λ (o : Outcome). TellsExchange new o (line_id value) members) e told)
    value_answered (TakesCommand command says known comes) told =
        IsCommand command says known (comes_answers new (line_id value) members command old it comes.0 (λ is. comes.1 ∙ ap (λ (b : Bool). count_after b old.place) is) told)

    -- it declines a value that changes nothing
    pub value_declined : Takes value old it new → TellsExchange new it (line_id value) members → is_change it ≡ false →
        DeclinesValue value old (line_id value) members
    value_declined (TakesBad fault e same) told is = inl (fault, subst (λ (o : Outcome). TellsExchange new o (line_id value) members) e told)
    value_declined (TakesCommand command says known comes) told is =
        inr (command, says, comes_declines new (line_id value) members command old it comes.0 is told)

-- the command of a value was taken
pub taken : {E : Type 0} (r : Result Outcome E) (value : Data) (command : LineCommand) (old new : Session) → Says value command →
    IsKnownOver (setup_in_force old) command → IfOk r (λ it. Comes command old it new) → IfOk r (λ it. Takes value old it new)
taken (Ok it) value command old new says known comes = TakesCommand command says known comes
taken (Err _) value command old new says known comes = tt

-- the members of a reply in braces, behind other replies
pub replied : {A E : Type 0} (r : Result A E) (s : Session) (it : Outcome) (front first members : List Token) (before after text : List ℕ) →
    text ≡ print members → HasNoLineFeed (print (object members)) → first ≡ front → TellsExchange s it first members →
    OnOk r (after ≡ before ++ 123 ∷ (text ++ 125 ∷ [])) → OnOk r (Replies s it front before after)
replied (Ok _) s it front first members before after text is line same tells e = record {
  members = members;
  tells = subst (λ (ts : List Token). TellsExchange s it ts members) same tells;
  is = e ∙ ap (λ (out : List ℕ). before ++ out) (ap (λ (t : List ℕ). 123 ∷ (t ++ 125 ∷ [])) is ∙ sym (in_braces members));
  one_line = line;
}
replied (Err _) s it front first members before after text is line same tells e = tt

-- ---- lines that are objects

-- a line that has changed something
counts_as_changed : (b : Bool) (effect : LineEffect) → effect ≡ effect_if b → effect ≡ Changed → b ≡ true
counts_as_changed true effect is did = refl
counts_as_changed false effect is did = absurd (let z : Unchanged ≡ Changed = sym is ∙ did in cc)

-- or has not
counts_as_unchanged : (b : Bool) (effect : LineEffect) → effect ≡ effect_if b → effect ≡ Unchanged → b ≡ false
counts_as_unchanged true effect is did = absurd (let z : Changed ≡ Unchanged = sym is ∙ did in cc)
counts_as_unchanged false effect is did = refl

module _ (text : List ℕ) (value : Data) (old new : Session) (before after : List ℕ) (is : data_of text ≡ Some value) (effect : LineEffect)
    (e : Exchanges value old effect new before after) where
  -- the session has changed
  pub exchange_changes : effect ≡ Changed → SessionChanges old new
  exchange_changes did = takes_changes value old e.outcome new e.takes (counts_as_changed (is_change e.outcome) effect e.is did)

  -- as the line says
  pub exchange_asks : effect ≡ Changed → DoesAsSaid text old new
  exchange_asks did = (value, is, takes_as_told value old e.outcome new e.takes (counts_as_changed (is_change e.outcome) effect e.is did))

  -- or it is as it was
  pub exchange_keeps : effect ≡ Unchanged → new ≡ old
  exchange_keeps did = takes_keeps value old e.outcome new e.takes (counts_as_unchanged (is_change e.outcome) effect e.is did)

  -- the reply stands behind those before it
  pub exchange_behind : (out : List ℕ) × (after ≡ before ++ out)
  exchange_behind = (print (object e.replies.members), e.replies.is)

  -- and tells the change
  pub exchange_tells : (out : List ℕ) × (after ≡ before ++ out) × IsLineReply text old new effect out
  exchange_tells = (
    print (object e.replies.members),
    e.replies.is,
    (
      record {
        members = e.replies.members;
        is = refl;
        answered = Object value is (value_answered value old e.outcome new e.replies.members e.takes e.replies.tells);
        changed = λ (did : effect ≡ Changed).
            (value, is, value_told value old e.outcome new e.replies.members e.takes e.replies.tells (counts_as_changed (is_change e.outcome) effect e.is did));
      },
      e.replies.one_line,
    ),
  )

  -- it declines a line that changes nothing
  pub exchange_declines : effect ≡ Unchanged → (out : List ℕ) × (after ≡ before ++ out) × DeclinesBy out text old
  exchange_declines did = (
    print (object e.replies.members),
    e.replies.is,
    (
      e.replies.members,
      refl,
      inr (value, is, value_declined value old e.outcome new e.replies.members e.takes e.replies.tells (counts_as_unchanged (is_change e.outcome) effect e.is did)),
    ),
  )

-- so it is with an exchange that may have failed
module _ {E : Type 0} (text : List ℕ) (value : Data) (old new : Session) (before after : List ℕ) (is : data_of text ≡ Some value) where
  -- the session has changed
  pub apply_changes : (r : Result LineEffect E) → IfOk r (λ effect. Exchanges value old effect new before after) →
      IfOk r (λ effect. effect ≡ Changed → SessionChanges old new)
  apply_changes (Ok effect) e = exchange_changes text value old new before after is effect e
  apply_changes (Err _) e = tt

  -- as the line says
  pub apply_asks : (r : Result LineEffect E) → IfOk r (λ effect. Exchanges value old effect new before after) →
      IfOk r (λ effect. effect ≡ Changed → DoesAsSaid text old new)
  apply_asks (Ok effect) e = exchange_asks text value old new before after is effect e
  apply_asks (Err _) e = tt

  -- and could be taken again
  pub apply_takes : (r : Result LineEffect E) → IfOk r (λ effect. Exchanges value old effect new before after) →
      IfOk r (λ effect. effect ≡ Changed → TakesAgain text old Changed new)
  apply_takes (Ok effect) e = λ did. subst (λ (x : LineEffect). TakesAgain text old x new) did (OfValue value is e.outcome e.takes e.is)
  apply_takes (Err _) e = tt

  -- or it is as it was
  pub apply_keeps : (r : Result LineEffect E) → IfOk r (λ effect. Exchanges value old effect new before after) →
      IfOk r (λ effect. effect ≡ Unchanged → new ≡ old)
  apply_keeps (Ok effect) e = exchange_keeps text value old new before after is effect e
  apply_keeps (Err _) e = tt

  -- a line that has changed something is an object
  pub apply_object : (r : Result LineEffect E) → IsObject text → IfOk r (λ effect. effect ≡ Changed → IsObject text)
  apply_object (Ok effect) object = λ _. object
  apply_object (Err _) object = tt

  -- the reply stands behind those before it
  pub apply_behind : (r : Result LineEffect E) → IfOk r (λ effect. Exchanges value old effect new before after) →
      OnOk r ((out : List ℕ) × (after ≡ before ++ out))
  apply_behind (Ok effect) e = exchange_behind text value old new before after is effect e
  apply_behind (Err _) e = tt

  -- and tells the change
  pub apply_tells : (r : Result LineEffect E) → IfOk r (λ effect. Exchanges value old effect new before after) →
      IfOk r (λ effect. (out : List ℕ) × (after ≡ before ++ out) × IsLineReply text old new effect out)
  apply_tells (Ok effect) e = exchange_tells text value old new before after is effect e
  apply_tells (Err _) e = tt

  -- it declines a line that changes nothing
  pub apply_declines : (r : Result LineEffect E) → IfOk r (λ effect. Exchanges value old effect new before after) →
      IfOk r (λ effect. effect ≡ Unchanged → (out : List ℕ) × (after ≡ before ++ out) × DeclinesBy out text old)
  apply_declines (Ok effect) e = exchange_declines text value old new before after is effect e
  apply_declines (Err _) e = tt

-- ---- lines that are none

-- what is wrong with a line answers it
bad_answers : (text : List ℕ) (fault : BadLine) (s : Session) (members : List Token) → IsNoObject text fault → members ≡ told_bad fault →
    AnswersLine text s [] members
bad_answers text fault s members (TooLong long e) told = IsTooLong long (told ∙ ap told_bad e)
bad_answers text fault s members (NotJson none e) told = IsNotJson none (told ∙ ap told_bad e)
bad_answers text fault s members (NoObject value is none e) told = HasNoObject value is none (told ∙ ap told_bad e)

module _ (text : List ℕ) (fault : BadLine) (s : Session) (before after : List ℕ) (none : IsNoObject text fault)
    (replies : Replies s (came.Bad fault) [] before after) where
  -- the reply tells what is wrong
  pub bad_tells : (out : List ℕ) × (after ≡ before ++ out) × IsLineReply text s s Unchanged out
  bad_tells = (
    print (object replies.members),
    replies.is,
    (
      record {
        members = replies.members;
        is = refl;
        answered = bad_answers text fault s replies.members none replies.tells;
        changed = λ (did : Unchanged ≡ Changed). absurd (let z = did in cc);
      },
      replies.one_line,
    ),
  )

-- ---- entries that are applied again

-- some members answer an entry
answer_to : (entry : List ℕ) (s : Session) (found : Option Data) → data_of entry ≡ found → (members : List Token) × AnswersLine entry s [] members
answer_to entry s None is = (told_bad bad.NotJson, IsNotJson (inl is) refl)
answer_to entry s (Some value) is = (line_id value ++ told_bad bad.NotJson, Object value is (IsBad bad.NotJson refl))

-- so there is a reply to one that changes nothing
pub unchanged_reply : (entry : List ℕ) (old new : Session) → (reply : List ℕ) × RepliesTo entry old new Unchanged reply
unchanged_reply entry old new = let t = answer_to entry old (data_of entry) refl in (
  print (object t.0),
  record { members = t.0; is = refl; answered = t.1; changed = λ (did : Unchanged ≡ Changed). absurd (let z = did in cc) },
)

-- and to each other one
pub some_reply : (entry : List ℕ) (value : Data) (old : Session) (it : Outcome) (new : Session) (effect : LineEffect) → data_of entry ≡ Some value →
    Takes value old it new → effect ≡ effect_if (is_change it) → (reply : List ℕ) × RepliesTo entry old new effect reply
some_reply entry value old it new Unchanged is takes e = unchanged_reply entry old new
some_reply entry value old it new Changed is takes e =
    let did = counts_as_changed (is_change it) Changed e refl in
    let told = told_if_made (line_id value) new it did in (
      print (object told.0),
      record {
        members = told.0;
        is = refl;
        answered = Object value is (value_answered value old it new told.0 takes told.1);
        changed = λ (_ : Changed ≡ Changed). (value, is, value_told value old it new told.0 takes told.1 did);
      },
    )

-- what an entry has made of a session, by its effect
module _ (entry : List ℕ) (value : Data) (old : Session) (it : Outcome) (new : Session) (effect : LineEffect) (is : data_of entry ≡ Some value)
    (takes : Takes value old it new) (e : effect ≡ effect_if (is_change it)) where
  -- the session has changed
  pub entry_changes : effect ≡ Changed → SessionChanges old new
  entry_changes did = takes_changes value old it new takes (counts_as_changed (is_change it) effect e did)

  -- as the entry says
  pub entry_asks : effect ≡ Changed → DoesAsSaid entry old new
  entry_asks did = (value, is, takes_as_told value old it new takes (counts_as_changed (is_change it) effect e did))

  -- or it is as it was
  pub entry_keeps : effect ≡ Unchanged → new ≡ old
  entry_keeps did = takes_keeps value old it new takes (counts_as_unchanged (is_change it) effect e did)
