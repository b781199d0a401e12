-- What a line does to the program's session, and the reply to it.
use Rattle.std.specs.Prelude.{◌≡◌, ℕ, List}
use Rattle.journal_serve.specs.Trace.{Exchange}
use Rattle.journal_serve.specs.declared.applies.Applied.{Applied}
use Rattle.journal_serve.specs.declared.applies.Applied.TheVariants.{Changed, Unchanged}
use Rattle.smpland_session.specs.Asked.{DoesAsSaid}
use Rattle.smpland_session.specs.Changes.{SessionChanges}
use Rattle.smpland_session.specs.Declines.{DeclinesBy}
use Rattle.smpland_session.specs.Exchanges.{TakesAgain}
use Rattle.smpland_session.specs.Replies.{IsLineReply, RepliesTo}
use Rattle.smpland_session.specs.declared.session.LineEffect.TheVariants as did
use Rattle.smpland_session.specs.declared.session.Session.{Session}

-- A line changed a session: it did what it says, a replay of it does that again, and the reply tells that change.
pub record LineChanges (line reply : List ℕ) (old new : Session) : Type 0 where
  pub changed : SessionChanges old new
  pub asked : DoesAsSaid line old new
  pub taken : TakesAgain line old did.Changed new
  pub told : RepliesTo line old new did.Changed reply

-- A line left a session as it was, and the reply tells what is asked for, or declines the line.
pub record LineLeaves (line reply : List ℕ) (old new : Session) : Type 0 where
  pub same : new ≡ old
  pub told : IsLineReply line old new did.Unchanged reply
  pub declined : DeclinesBy reply line old

-- a line with this effect did this to a session
abbrev pub LineDoes : Applied → List ℕ → List ℕ → Session → Session → Type 0
LineDoes Changed = LineChanges
LineDoes Unchanged = LineLeaves

-- an exchange leads from one session to another
abbrev pub TakesLine : Session → Exchange → Session → Type 0
TakesLine old x new = LineDoes x.effect x.line x.reply old new
