-- The lines that a process of the program serves: its session takes those of the journal, and then those of the input.
use Rattle.std.specs.Prelude.{ℕ, List, Option}
use Rattle.journal_serve.specs.Session.{HasServed}
use Rattle.journal_serve.specs.Trace.{Exchange, ReplaysCommands}
use Rattle.smpland_session.specs.Changes.{IsNew}
use Rattle.smpland.specs.Takes.{TakesLine}
use Rattle.smpland.specs.declared.keeper.Keeper.{Keeper}

-- an exchange leads from one keeper's session to another's
abbrev pub KeeperTakes : Keeper → Exchange → Keeper → Type 0
KeeperTakes old x new = TakesLine old.session x new.session

-- A session that began with nothing replayed these commands, and then served an input as far as these exchanges.
pub record ServesAfter (commands : List (List ℕ)) (input : List ℕ) (before after : Option (List ℕ))
    (trace : List Exchange) : Type 0 where
  pub first : Keeper
  pub is_new : IsNew first.session
  pub reached : Keeper
  pub replayed : ReplaysCommands KeeperTakes commands first reached
  pub end : Keeper
  pub served : HasServed KeeperTakes input before after reached end trace
