-- An entry that changes nothing is declined as a line is.
use Rattle.std.proofs.Common.{◌≡◌, ◌++◌, ℕ, IfOk, List, subst}
use Rattle.std.specs.Prelude.{Result, Ok, Err}
use Rattle.journal_serve.specs.Trace.{exchange}
use Rattle.journal_serve.specs.declared.applies.Applied.{Applied}
use Rattle.smpland_session.specs.Exchanges.{TakesAgain}
use Rattle.smpland_session.specs.Replies.{RepliesTo}
use Rattle.smpland_session.specs.declared.session.LineEffect.{LineEffect}
use Rattle.smpland_session.specs.declared.session.Session.{Session}
use Rattle.smpland.specs.Takes.{TakesLine}
use Rattle.smpland.proofs.keeper.KeeperApplies.replay.Goals as goal

-- a line that is taken over the same session is taken
still_taken : {E : Type 0} (r : Result Applied E) (mid old new : Session) (line before after : List ℕ) → mid ≡ old →
    IfOk r (λ applied. (text : List ℕ) × (after ≡ before ++ text) × TakesLine mid (exchange line applied text) new) →
    IfOk r (λ applied. (text : List ℕ) × TakesLine old (exchange line applied text) new)
still_taken (Ok applied) mid old new line before after same h =
    (h.0, subst (λ (s : Session). TakesLine s (exchange line applied h.0) new) same h.2)
still_taken (Err e) mid old new line before after same h = tt

pub returns-in-Changed : goal.returns-in-Changed
returns-in-Changed c =
    let done = c.in_ok-replay.ensures in (
      done.told.0,
      record {
        changed = done.changed c.in-Changed.is;
        asked = done.asked c.in-Changed.is;
        taken = subst (λ (e : LineEffect). TakesAgain c.args.entry.now c.args.self.now.session e c.replay.new.self) c.in-Changed.is done.taken;
        told = subst (λ (e : LineEffect). RepliesTo c.args.entry.now c.args.self.now.session c.replay.new.self e done.told.0) c.in-Changed.is done.told.1;
      },
    )

pub returns : goal.returns
returns c =
    still_taken c.apply.result c.replay.new.self c.args.self.now.session c.apply.new.self.session c.args.entry.now _ _
    (c.in_ok-replay.ensures.unchanged c.in_default.is) c.apply.ensures.takes
