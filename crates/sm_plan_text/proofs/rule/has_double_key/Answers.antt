use Rattle.std.proofs.Common.{◌≡◌, ◌∙◌, ◌++◌, ◌+◌, ℕ, Bool, true, false, not, true≢false, refl, List, drop, map, option_map, ap, sym, Bor, Vec, Global}
use Rattle.std.specs.List.{list_any}
use Rattle.std.specs.Str.{bytes_eq}
use Rattle.std.specs.Cmp.Lexicographic.{pointwise}
use Rattle.json_tree.specs.View.{view}
use Rattle.sm_plan_text.specs.Tables.{texts_found, has_double_key}
use Rattle.sm_plan_text.proofs.KeyLemmas.{Texts, held, borrowed_texts, met_again, met_new, met_none, held_single}
use Rattle.sm_plan_text.proofs.rule.has_double_key.Goals as goal
use Rattle.sm_plan_text.proofs.rule.has_double_key.Goals.{in-Some+in_ok-insert+else-not-branch, in_default}

abbrev Key : Type 0
Key = Vec (Bor (List ℕ)) Global

abbrev texts : Key → Texts
texts key = map (λ s. s.now) key.items

abbrev same : Key → Key → Bool
same x y = pointwise (λ a b. bytes_eq a.now b.now) x.items y.items

held_before : (added held : Bool) → added ≡ not held → added ≡ false → held ≡ true
held_before added true is test = refl
held_before added false is test = absurd (true≢false (sym is ∙ test))

not_held : (added held : Bool) → added ≡ not held → added ≡ true → held ≡ false
not_held added false is test = refl
not_held added true is test = absurd (true≢false (sym test ∙ is))

pub returns-then-not-branch : goal.returns-then-not-branch
returns-then-not-branch c =
    met_again texts same (λ x y. borrowed_texts x.items y.items) (texts_found c.args.members.now) c.args.entries.now c.loop-entry.entry-index c.entry-item.result c.loop-entry.keys.keys _
    c.loop-entry-test.true c.entry-item.is c.loop-entry.invariant.rest
    c.in-Some.key
    (ap (option_map texts) (sym c.in-Some.is) ∙ c.in_ok-key.ensures)
    (held_before c.in_ok-insert.field-0 (list_any (same c.in-Some.key) c.loop-entry.keys.keys) c.in_ok-insert.ensures.added c.if-not-branch.true)

pub loop-entry-preserved : goal.loop-entry-preserved
loop-entry-preserved c =
    elim c.match-branch-2.branch [
      | in-Some+in_ok-insert+else-not-branch w ↦
          let new = not_held w.in_ok-insert.field-0 (list_any (same w.in-Some.key) c.loop-entry.keys.keys) w.in_ok-insert.ensures.added w.if-not-branch.false in
          record {
            rest = met_new texts same (λ x y. borrowed_texts x.items y.items) (texts_found c.args.members.now) c.args.entries.now c.loop-entry.entry-index c.entry-item.result c.loop-entry.keys.keys _
                c.loop-entry-test.true c.entry-item.is c.loop-entry.invariant.rest
                w.in-Some.key c.match-branch-2.keys.keys
                (ap (option_map texts) (sym w.in-Some.is) ∙ c.in_ok-key.ensures)
                new
                ((λ j. (w.keys-is j).keys) ∙ w.in_ok-insert.ensures.keys);
            single = ap (λ ks. has_double_key (held texts ks)) ((λ j. (w.keys-is j).keys) ∙ w.in_ok-insert.ensures.keys) ∙
                held_single texts same (λ x y. borrowed_texts x.items y.items) c.loop-entry.keys.keys w.in-Some.key new c.loop-entry.invariant.single;
          }
      | in_default w ↦ record {
        rest = ap (λ ks. has_double_key (held texts ks ++ map (texts_found c.args.members.now) (drop (c.loop-entry.entry-index + 1) (map view c.args.entries.now)))) (λ j. (w.keys-is j).keys) ∙
            met_none texts same (λ x y. borrowed_texts x.items y.items) (texts_found c.args.members.now) c.args.entries.now c.loop-entry.entry-index c.entry-item.result c.loop-entry.keys.keys _
            c.loop-entry-test.true c.entry-item.is c.loop-entry.invariant.rest
            (ap (option_map texts) (sym w.in_default.is) ∙ c.in_ok-key.ensures);
        single = ap (λ ks. has_double_key (held texts ks)) (λ j. (w.keys-is j).keys) ∙ c.loop-entry.invariant.single;
      }
    ]
