use Rattle.std.proofs.Common.{◌∙◌, List, ap, subst}
use Rattle.json.specs.Token.{Token}
use Rattle.json_tree.specs.View.{view}
use Rattle.smpland_session.specs.Exchanges.{Replies, effect_if}
use Rattle.smpland_session.proofs.Taken.{takes_knows}
use Rattle.smpland_session.proofs.session.Session.answer.Goals as goal

pub write_reply-requires : goal.write_reply-requires
write_reply-requires c = takes_knows (view c.args.line.now) c.args.self.now c.in-Ok.came c.take.new.self c.in-Ok.ensures

-- The reply stands behind the line's id.
pub returns-in_ok-write_reply-in-Ok : goal.returns-in_ok-write_reply-in-Ok
returns-in_ok-write_reply-in-Ok c = record {
  outcome = c.in-Ok.came;
  takes = c.in-Ok.ensures;
  replies = subst (λ (front : List Token). Replies c.take.new.self c.in-Ok.came front c.args.reply.now.items c.write_reply.new.reply.items)
      c.id_of.ensures c.in_ok-write_reply-in-Ok.ensures;
  is = c.of.ensures ∙ ap effect_if c.has_changed.ensures;
}
