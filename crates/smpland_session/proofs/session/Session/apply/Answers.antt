use Rattle.std.proofs.Common.{subst}
use Rattle.json_tree.specs.View.{view}
use Rattle.smpland_session.specs.Exchanges.{ReadsObject}
use Rattle.smpland_session.proofs.Taken.{apply_asks, apply_behind, apply_changes, apply_declines, apply_keeps, apply_object, apply_takes, apply_tells, bad_tells}
use Rattle.smpland_session.proofs.session.Session.apply.Goals as goal

pub returns-in-Ok-clause-changed : goal.returns-in-Ok-clause-changed
returns-in-Ok-clause-changed c =
    apply_changes c.args.line.now (view c.in-Ok.tree) c.args.self.now c.answer.new.self c.args.reply.now.items c.answer.new.reply.items
    (subst (ReadsObject c.args.line.now) c.in-Ok.is c.in_ok-read.ensures).0 c.answer.result c.answer.ensures

pub returns-in-Ok-clause-asked : goal.returns-in-Ok-clause-asked
returns-in-Ok-clause-asked c =
    apply_asks c.args.line.now (view c.in-Ok.tree) c.args.self.now c.answer.new.self c.args.reply.now.items c.answer.new.reply.items
    (subst (ReadsObject c.args.line.now) c.in-Ok.is c.in_ok-read.ensures).0 c.answer.result c.answer.ensures

pub returns-in-Ok-clause-unchanged : goal.returns-in-Ok-clause-unchanged
returns-in-Ok-clause-unchanged c =
    apply_keeps c.args.line.now (view c.in-Ok.tree) c.args.self.now c.answer.new.self c.args.reply.now.items c.answer.new.reply.items
    (subst (ReadsObject c.args.line.now) c.in-Ok.is c.in_ok-read.ensures).0 c.answer.result c.answer.ensures

pub returns-in-Ok-clause-behind : goal.returns-in-Ok-clause-behind
returns-in-Ok-clause-behind c =
    apply_behind c.args.line.now (view c.in-Ok.tree) c.args.self.now c.answer.new.self c.args.reply.now.items c.answer.new.reply.items
    (subst (ReadsObject c.args.line.now) c.in-Ok.is c.in_ok-read.ensures).0 c.answer.result c.answer.ensures

pub returns-in-Ok-clause-told : goal.returns-in-Ok-clause-told
returns-in-Ok-clause-told c =
    apply_tells c.args.line.now (view c.in-Ok.tree) c.args.self.now c.answer.new.self c.args.reply.now.items c.answer.new.reply.items
    (subst (ReadsObject c.args.line.now) c.in-Ok.is c.in_ok-read.ensures).0 c.answer.result c.answer.ensures

pub returns-in-Ok-clause-declined : goal.returns-in-Ok-clause-declined
returns-in-Ok-clause-declined c =
    apply_declines c.args.line.now (view c.in-Ok.tree) c.args.self.now c.answer.new.self c.args.reply.now.items c.answer.new.reply.items
    (subst (ReadsObject c.args.line.now) c.in-Ok.is c.in_ok-read.ensures).0 c.answer.result c.answer.ensures

pub returns-in-Ok-clause-object : goal.returns-in-Ok-clause-object
returns-in-Ok-clause-object c =
    let read = subst (ReadsObject c.args.line.now) c.in-Ok.is c.in_ok-read.ensures in
    apply_object c.args.line.now (view c.in-Ok.tree) c.args.self.now c.answer.new.self c.args.reply.now.items c.answer.new.reply.items read.0 c.answer.result read.1

-- The line is no object, which is told.
pub returns-clause-told : goal.returns-clause-told
returns-clause-told c =
    bad_tells c.args.line.now c.in-Err.bad c.args.self.now c.args.reply.now.items c.write_reply.new.reply.items
    (subst (ReadsObject c.args.line.now) c.in-Err.is c.in_ok-read.ensures) c.in_ok-write_reply-in-Err.ensures

pub returns-in-Ok-clause-taken : goal.returns-in-Ok-clause-taken
returns-in-Ok-clause-taken c =
    apply_takes c.args.line.now (view c.in-Ok.tree) c.args.self.now c.answer.new.self c.args.reply.now.items c.answer.new.reply.items
    (subst (ReadsObject c.args.line.now) c.in-Ok.is c.in_ok-read.ensures).0 c.answer.result c.answer.ensures
