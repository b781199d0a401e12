use Rattle.std.proofs.Common.{rules, tests, ◌≡◌, ◌∙◌, IfSome, ap, sym, subst}
use Rattle.std.specs.List.{flat_map}
use Rattle.serde_json.specs.Data.{Data}
use Rattle.json_tree.specs.View.{view}
use Rattle.sm_plan_text.specs.Faults.{noted}
use Rattle.sm_plan_text.specs.Tables.{Row, one, known, role, below, row_faults}
use Rattle.sm_plan_text.specs.declared.member.Member.TheVariants as members
use Rattle.sm_plan_text.specs.Instructions.{InstrWord, Wait, instr_word, instr_table}
use Rattle.sm_plan_text.proofs.RuleLemmas.{one_row, two_rows, three_rows}
use Rattle.sm_plan_text.proofs.instruction.instr_of.Goals as goal
use Rattle.sm_plan_text.proofs.instruction.instr_of.Goals.{in-prepare_add, in-prepare_drop, in-add+in_ok-note_row-in-add, in-drop, in-change+in_ok-note_row-in-change, in-publish, in-unlist, in-signal+in_ok-note_row-in-signal, in_default+in_ok-note_row-in_default}

pub returns-clause-faults : goal.returns-clause-faults
returns-clause-faults c =
    let scope = c.args.cursor.now.scope in
    let d : Data = view c.args.cursor.now.tree.now in
    let shard : Row = one members.Shard (known scope.shards.now) in
    let server : Row = one members.Server (known scope.servers.now) in
    let other : Row = one members.Other (known scope.servers.now) in
    let signal : Row = one members.Signal (below scope.signals) in
    let noted_by : InstrWord → Type 0 = λ w. c.match-word.faults.lowest ≡ noted c.args.faults.now.lowest (flat_map (row_faults d) (instr_table scope.shards.now scope.servers.now scope.signals w)) in
    elim c.match-word.branch [
      | in-prepare_add w ↦ subst (λ text. IfSome (instr_word text) noted_by) (sym w.in-prepare_add.is)
          (three_rows d shard server other c.args.faults.now.lowest _ _ w.take_cell-shard.ensures.faults (ap (λ f. f.lowest) w.faults-is ∙ w.take_server-owner.ensures.faults))
      | in-prepare_drop w ↦ subst (λ text. IfSome (instr_word text) noted_by) (sym w.in-prepare_drop.is)
          (three_rows d shard server other c.args.faults.now.lowest _ _ w.take_cell-shard-in-prepare_drop.ensures.faults (ap (λ f. f.lowest) w.faults-is ∙ w.take_server-new_owner.ensures.faults))
      | in-add+in_ok-note_row-in-add w ↦ subst (λ text. IfSome (instr_word text) noted_by) (sym w.in-add.is)
          (three_rows d shard server (one members.Role role) c.args.faults.now.lowest _ _ w.take_cell-shard-in-add.ensures.faults (ap (λ f. f.lowest) w.faults-is ∙ w.in_ok-note_row-in-add.ensures))
      | in-drop w ↦ subst (λ text. IfSome (instr_word text) noted_by) (sym w.in-drop.is)
          (two_rows d shard server c.args.faults.now.lowest _ (ap (λ f. f.lowest) w.faults-is ∙ w.take_cell-shard-in-drop.ensures.faults))
      | in-change+in_ok-note_row-in-change w ↦ subst (λ text. IfSome (instr_word text) noted_by) (sym w.in-change.is)
          (three_rows d shard server (one members.To role) c.args.faults.now.lowest _ _ w.take_cell-shard-in-change.ensures.faults (ap (λ f. f.lowest) w.faults-is ∙ w.in_ok-note_row-in-change.ensures))
      | in-publish w ↦ subst (λ text. IfSome (instr_word text) noted_by) (sym w.in-publish.is)
          (one_row d shard c.args.faults.now.lowest _ (ap (λ f. f.lowest) w.faults-is ∙ w.take_shard.ensures.faults))
      | in-unlist w ↦ subst (λ text. IfSome (instr_word text) noted_by) (sym w.in-unlist.is)
          (one_row d shard c.args.faults.now.lowest _ (ap (λ f. f.lowest) w.faults-is ∙ w.take_shard-in-unlist.ensures.faults))
      | in-signal+in_ok-note_row-in-signal w ↦ subst (λ text. IfSome (instr_word text) noted_by) (sym w.in-signal.is)
          (one_row d signal c.args.faults.now.lowest _ (ap (λ f. f.lowest) w.faults-is ∙ w.in_ok-note_row-in-signal.ensures))
      | in_default+in_ok-note_row-in_default w ↦
          let waits : noted_by Wait = one_row d signal c.args.faults.now.lowest _ (ap (λ f. f.lowest) w.faults-is ∙ w.in_ok-note_row-in_default.ensures) in
          search (rules, tests)
    ]
