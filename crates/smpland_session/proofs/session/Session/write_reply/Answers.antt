use Rattle.std.proofs.Common.{◌∙◌, ◌++◌, List, ap}
use Rattle.json.specs.Token.{Token}
use Rattle.smpland_lines.specs.Members.{id_members}
use Rattle.smpland_session.proofs.Taken.{replied}
use Rattle.smpland_session.proofs.session.Session.write_reply.Goals as goal

-- The writer had written nothing before the id.
pub returns : goal.returns
returns c =
    replied c.push_object.result c.args.self.now c.args.came.now (id_members c.args.id) _ _ c.args.reply.now.items _ _
    (c.as_slice.ensures.value ∙ c.into_text-members.ensures.text) c.into_text-members.ensures.one_line
    (c.in_ok-write_id.ensures ∙ ap (λ (ts : List Token). ts ++ id_members c.args.id) c.new-writer.ensures)
    c.in_ok-write.ensures c.push_object.ensures
