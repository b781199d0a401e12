use Rattle.std.proofs.Common.{◌∙◌, ℕ, List, subst, sym}
use Rattle.std.proofs.lemmas.List.{append_cancel_left}
use Rattle.smpland_session.specs.declared.session.LineEffect.{LineEffect}
use Rattle.smpland_session.specs.Declines.{DeclinesBy}
use Rattle.smpland_session.specs.Replies.{RepliesTo}
use Rattle.smpland.proofs.keeper.KeeperApplies.apply.Goals as goal

pub returns-in-Changed-clause-takes : goal.returns-in-Changed-clause-takes
returns-in-Changed-clause-takes c =
    let done = c.in_ok-apply.ensures in
    let told = done.told in (
      told.0,
      told.1,
      record {
        changed = done.changed c.in-Changed.is;
        asked = done.asked c.in-Changed.is;
        taken = done.taken c.in-Changed.is;
        told = subst (λ (e : LineEffect). RepliesTo c.args.line.now c.args.self.now.session c.apply.new.self e told.0) c.in-Changed.is told.2.0;
      },
    )

pub returns-in-Unchanged-clause-takes : goal.returns-in-Unchanged-clause-takes
returns-in-Unchanged-clause-takes c =
    let done = c.in_ok-apply.ensures in
    let told = done.told in
    let reply = subst (λ (e : LineEffect). RepliesTo c.args.line.now c.args.self.now.session c.apply.new.self e told.0) c.in-Unchanged.is told.2.0 in
    let declines = done.declined c.in-Unchanged.is in
    let same = append_cancel_left c.args.reply.now.items declines.0 told.0 (sym declines.1 ∙ told.1) in (
      told.0,
      told.1,
      record {
        same = done.unchanged c.in-Unchanged.is;
        told = (reply, told.2.1);
        declined = subst (λ (text : List ℕ). DeclinesBy text c.args.line.now c.args.self.now.session) same declines.2;
      },
    )
