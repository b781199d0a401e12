use Rattle.std.proofs.Common.{◌≡◌, ◌∙◌, refl, sym, ap, map, option_map, None, Option, Bor, List}
use Rattle.serde_json.specs.Data.{Data}
use Rattle.json_tree.specs.View.{view}
use Rattle.sm_plan_text.specs.declared.member.Member.TheVariants as members
use Rattle.sm_plan_text.specs.declared.rule.Rule.{Rule}
use Rattle.sm_plan_text.specs.Rules.{row_of}
use Rattle.sm_plan_text.specs.Instructions.{instr_word, instr_table, instr_of, instr_by}
use Rattle.sm_plan_text.proofs.RuleLemmas.{worded_faults_noted, worded_taken, worded_value, wordless_value}
use Rattle.sm_plan_text.proofs.instruction.InstrEntry.read.Goals as goal

pub returns-in_default-clause-faults : goal.returns-in_default-clause-faults
returns-in_default-clause-faults c =
    let scope = c.args.cursor.now.scope in
    worded_faults_noted c.args.cursor.now.member members.Do instr_word (instr_table scope.shards.now scope.servers.now scope.signals) scope (view c.args.cursor.now.tree.now) c.text-word.result.now None c.args.faults.now.lowest _
    refl c.text-word.ensures (ap (λ (o : Option (Bor (List Rule))). option_map (λ r. map (row_of scope) r.now) o) (sym c.in_default.is) ∙ c.rules_of.ensures scope) c.in_ok-note_worded.ensures

pub returns-in_default-clause-value : goal.returns-in_default-clause-value
returns-in_default-clause-value c = λ few none.
    let scope = c.args.cursor.now.scope in
    let d : Data = view c.args.cursor.now.tree.now in
    wordless_value members.Do instr_word (instr_table scope.shards.now scope.servers.now scope.signals) (instr_by scope.shards.now scope.servers.now scope.signals d) d c.text-word.result.now
    refl c.text-word.ensures (ap (λ (o : Option (Bor (List Rule))). option_map (λ r. map (row_of scope) r.now) o) (sym c.in_default.is) ∙ c.rules_of.ensures scope)

pub returns-clause-faults : goal.returns-clause-faults
returns-clause-faults c =
    let scope = c.args.cursor.now.scope in
    worded_taken c.args.cursor.now.member members.Do instr_word (instr_table scope.shards.now scope.servers.now scope.signals) scope (view c.args.cursor.now.tree.now) c.text-word.result.now c.in-Some.rules c.args.faults.now.lowest _ _
    refl c.text-word.ensures (ap (λ (o : Option (Bor (List Rule))). option_map (λ r. map (row_of scope) r.now) o) (sym c.in-Some.is) ∙ c.rules_of.ensures scope) c.note_unknown.ensures c.in_ok-instr.ensures.faults

pub returns-clause-value : goal.returns-clause-value
returns-clause-value c = λ few none.
    let scope = c.args.cursor.now.scope in
    let d : Data = view c.args.cursor.now.tree.now in
    worded_value (λ o. c.in_ok-instr.instr ≡ instr_by scope.shards.now scope.servers.now scope.signals d o) (λ w. c.in_ok-instr.instr ≡ instr_of scope.shards.now scope.servers.now scope.signals d w) c.args.cursor.now.member members.Do instr_word (instr_table scope.shards.now scope.servers.now scope.signals) d c.text-word.result.now _ _
    refl c.text-word.ensures (λ w h. h) c.in_ok-instr.ensures.instr (returns-clause-faults c) none
