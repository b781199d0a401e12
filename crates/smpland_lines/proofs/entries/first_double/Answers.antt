use Rattle.std.proofs.Common.{◌≡◌, ◌∙◌, ◌<◌, ◌+◌, ◌++◌, [], ◌∷◌, ap, arith, cond, get_or, length, option_and_then, option_map, refl, subst, sym, ℕ, List, Bool, true, false, not, true≢false, Option, Some, None, Bor}
use Rattle.std.proofs.lemmas.Option.{slice_get_read}
use Rattle.json_tree.specs.View.{view}
use Rattle.json_tree.specs.declared.tree.Tree.{Tree}
use Rattle.smpland_lines.specs.Entries.{text_in_entry}
use Rattle.smpland_lines.specs.Values.{text_at}
use Rattle.smpland_lines.specs.declared.command_member.CommandMember.{CommandMember}
use Rattle.smpland_lines.proofs.Doubles.{Holds, doubled, has_text, holds_push, holds_skip, single_push, single_skip}
use Rattle.smpland_lines.proofs.entries.first_double.Goals as goal
use Rattle.smpland_lines.proofs.entries.first_double.Goals.{in-Some+in_ok-insert+else-not-branch, in_default}

-- what a set held of a text that it takes, or does not
held : (added has : Bool) → added ≡ not has → added ≡ false → has ≡ true
held added true is test = refl
held added false is test = absurd (true≢false (sym is ∙ test))

new : (added has : Bool) → added ≡ not has → added ≡ true → has ≡ false
new added false is test = refl
new added true is test = absurd (true≢false (sym test ∙ is))

-- the text of the entry at a place
text_here : (key : CommandMember) (entries : List Tree) (at : ℕ) (entry : Tree) (text : Option (Bor (List ℕ))) → at < length entries → entry ≡ get_or entries at entry →
    option_map (λ (t : Bor (List ℕ)). t.now) text ≡ text_at key (view entry) → text_in_entry key entries at ≡ option_map (λ (t : Bor (List ℕ)). t.now) text
text_here key entries at entry text within is told =
    ap (option_and_then (λ (e : Tree). text_at key (view e))) (slice_get_read entries (length entries) at entry refl within is) ∙ sym told

pub returns-then-not-branch-clause-double : goal.returns-then-not-branch-clause-double
returns-then-not-branch-clause-double c =
    doubled c.args.key c.args.entries.now c.loop-at.seen.keys c.loop-at.at c.loop-at.invariant.held c.in-Some.text
    (text_here c.args.key c.args.entries.now c.loop-at.at c.index-entries-at.result (Some c.in-Some.text) c.loop-at-test.true c.index-entries-at.is (ap (option_map (λ (t : Bor (List ℕ)). t.now)) (sym c.in-Some.is) ∙ c.text_in.ensures))
    (held c.in_ok-insert.field-0 (has_text c.loop-at.seen.keys c.in-Some.text.now) c.in_ok-insert.ensures.added c.if-not-branch.true)

pub loop-at-preserved : goal.loop-at-preserved
loop-at-preserved c =
    let key = c.args.key in
    let entries = c.args.entries.now in
    let seen = c.loop-at.seen.keys in
    let at = c.loop-at.at in
    let inv = c.loop-at.invariant in
    elim c.match-text_in.branch [
      | in-Some+in_ok-insert+else-not-branch w ↦
          let text = w.in-Some.text in
          let is = text_here key entries at c.index-entries-at.result (Some text) c.loop-at-test.true c.index-entries-at.is (ap (option_map (λ (t : Bor (List ℕ)). t.now)) (sym w.in-Some.is) ∙ c.text_in.ensures) in
          let fresh = new w.in_ok-insert.field-0 (has_text seen text.now) w.in_ok-insert.ensures.added w.if-not-branch.false in
          let keys : c.match-text_in.seen.keys ≡ seen ++ text ∷ [] = (λ j. (w.seen-is j).keys) ∙ (w.in_ok-insert.ensures.keys ∙ ap (λ b. cond b seen (seen ++ text ∷ [])) fresh) in
          record {
            held = subst (λ ks. Holds key entries ks (at + 1)) (sym keys) (holds_push key entries seen at inv.held text is);
            single = single_push key entries seen at inv.held text is fresh inv.single;
          }
      | in_default w ↦
          let is = text_here key entries at c.index-entries-at.result None c.loop-at-test.true c.index-entries-at.is (ap (option_map (λ (t : Bor (List ℕ)). t.now)) (sym w.in_default.is) ∙ c.text_in.ensures) in
          record {
            held = subst (λ ks. Holds key entries ks (at + 1)) (sym (λ j. (w.seen-is j).keys)) (holds_skip key entries seen at inv.held is);
            single = single_skip key entries seen at inv.held is inv.single;
          }
    ]

pub returns-clause-first : goal.returns-clause-first
returns-clause-first c = λ at within. c.loop-at.invariant.single at (omega (arith, within, c.loop-at-test.false))
