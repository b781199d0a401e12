use Rattle.std.proofs.Common.{◌∙◌, ◌++◌, List, ap}
use Rattle.json.specs.Lex.{tokens}
use Rattle.json.specs.Token.{Token}
use Rattle.smpland_state.specs.Restores.{restore_object}
use Rattle.smpland_state.proofs.restored.restore_text.Goals as goal

-- The writer had written nothing before.
pub returns-clause-reads : goal.returns-clause-reads
returns-clause-reads c =
    ap tokens c.into_text-text.ensures.text ∙ c.into_text-text.ensures.reads_back ∙ c.in_ok-write_restore.ensures
    ∙ ap (λ (ts : List Token). ts ++ restore_object c.args.opened.now.driver c.args.server c.args.restore.now) c.new-writer.ensures
