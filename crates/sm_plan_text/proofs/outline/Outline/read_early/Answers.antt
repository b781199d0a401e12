use Rattle.std.proofs.Common.{◌≡◌, ◌∙◌, [], ◌∷◌, length, Some, ap, sym, arith}
use Rattle.json.specs.Token.{Token}
use Rattle.json.specs.Lex.{tokens}
use Rattle.json.specs.Json.{value, members, parse_map}
use Rattle.json.proofs.Grammar.{value-begin_object}
use Rattle.serde_json.specs.Data.{object, no_members}
use Rattle.serde_json.specs.Read.{of_json, converted}
use Rattle.json_tree.specs.View.{members_view}
use Rattle.json_tree.specs.declared.read.TheConstants.{MAX_DEPTH}
use Rattle.json_tree.proofs.Turns.{converted-object, whole_read}
use Rattle.sm_plan_text.specs.declared.limits.TheConstants.{MOST_DEPTH}
use Rattle.sm_plan_text.proofs.OutlineLemmas.{outline_of}
use Rattle.sm_plan_text.proofs.outline.Outline.read_early.Goals as goal

pub returns : goal.returns
returns c =
    let text = c.args.text.now in
    let behind = c.next.new.self in
    let first : tokens text ≡ Token.begin_object ∷ behind = grind arith in
    let read = c.in_ok-read_members.ensures no_members (sym (ap members_view c.new-2.ensures.items)) in
    let over : c.read_members.new.reader ≡ [] = grind arith in (
      object read.0,
      whole_read (value MAX_DEPTH (tokens text)) (object read.0)
          (ap (converted of_json) (ap (value MAX_DEPTH) first ∙ value-begin_object MAX_DEPTH behind (omega arith)) ∙ converted-object (members (value MOST_DEPTH) (length behind) behind)
          ∙ ap (parse_map object) read.2 ∙ ap (λ ts. Some (object read.0, ts)) over),
      outline_of _ _ read.0 read.1,
    )
