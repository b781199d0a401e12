use Rattle.std.proofs.Common.{◌≡◌, ◌+◌, ◌-◌, [], ◌∷◌, ◌++◌, take, true, false, cond, Some, bytes_eq, sym, ap, ◌∙◌, arith}
use Rattle.std.proofs.lemmas.List.{take_more}
use Rattle.serde_json.specs.Find.{get_member}
use Rattle.json_tree.specs.View.{view, members_view}
use Rattle.json_tree.proofs.Trees.{get_member-push}
use Rattle.json_tree.proofs.tree.find_member.Goals as goal

pub returns-then-eq : goal.returns-then-eq
returns-then-eq c =
    let xs = c.args.members.now in
    let i = c.members.left - 1 in
    let m = c.index-members-left.result in
    let name = c.args.name.now in
    let next : c.members.left ≡ i + 1 = omega arith in
    let front : take c.members.left xs ≡ take i xs ++ m ∷ [] = ap (λ k. take k xs) next ∙ take_more xs i m (omega arith) ∙ ap (λ y. take i xs ++ y ∷ []) (sym c.index-members-left.is) in
    let step = c.members.invariant.0 ∙ ap (λ ys. get_member name (members_view ys)) front ∙ get_member-push name (take i xs) m in
    let same : bytes_eq m.0.now name ≡ true = grind arith in
    sym (step ∙ ap (λ b. cond b (Some (view m.1)) (get_member name (members_view (take i xs)))) same)

pub members-preserved : goal.members-preserved
members-preserved c =
    let xs = c.args.members.now in
    let i = c.members.left - 1 in
    let m = c.index-members-left.result in
    let name = c.args.name.now in
    let next : c.members.left ≡ i + 1 = omega arith in
    let front : take c.members.left xs ≡ take i xs ++ m ∷ [] = ap (λ k. take k xs) next ∙ take_more xs i m (omega arith) ∙ ap (λ y. take i xs ++ y ∷ []) (sym c.index-members-left.is) in
    let step = c.members.invariant.0 ∙ ap (λ ys. get_member name (members_view ys)) front ∙ get_member-push name (take i xs) m in
    let other : bytes_eq m.0.now name ≡ false = grind arith in
    (step ∙ ap (λ b. cond b (Some (view m.1)) (get_member name (members_view (take i xs)))) other, omega arith)
