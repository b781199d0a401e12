use Rattle.std.proofs.Common.{◌≡◌, ◌∙◌, ◌++◌, ◌∷◌, [], Some, ap, sym, subst, MatchOption, arith}
use Rattle.serde_json.specs.Data.{put}
use Rattle.json_tree.specs.View.{view, members_view}
use Rattle.json_tree.proofs.Trees.{one_more_member}
use Rattle.sm_plan_text.specs.declared.outline.PartialOutline.{PartialOutline}
use Rattle.sm_plan_text.specs.Outlines.{IsEarly}
use Rattle.sm_plan_text.proofs.outline.PartialOutline.read_member.Goals as goal
use Rattle.sm_plan_text.proofs.outline.PartialOutline.read_member.Goals.{in-Some+in_ok-tree-in-Some, in-None+in_ok-tree-in-None}

pub returns-clause-ok : goal.returns-clause-ok
returns-clause-ok c =
    let k = c.args.name.now in
    let old = members_view c.find_names.new.self.members.items in
    let new = members_view c.push.new.self.items in
    let pushed : c.push.new.self.items ≡ c.match-self.self.members.items ++ (c.args.name, c.match-self.tree) ∷ [] = grind arith in
    let put_on : new ≡ put k (view c.match-self.tree) (members_view c.match-self.self.members.items) = ap members_view pushed ∙ one_more_member c.match-self.self.members.items (c.args.name, c.match-self.tree) in
    elim c.match-self.branch [
      | in-Some+in_ok-tree-in-Some w ↦
          let tree = w.in_ok-tree-in-Some.tree in
          let read = w.in_ok-tree-in-Some.ensures.ok in
          let kept : new ≡ put k (view tree) old = put_on ∙ (λ j. put k (view (w.tree-is j)) (members_view (w.self-is j).members.items)) in (
            read.0,
            read.1 ∙ ap (λ behind. Some (read.0, behind)) (sym w.reader-is),
            λ whole is.
                let at : IsEarly w.in-Some.early old whole = subst (λ early. MatchOption early (whole ≡ old) (λ early. IsEarly early old whole)) w.in-Some.is (c.in_ok-find_names.ensures.same whole is) in
                subst (λ early. MatchOption early (put k read.0 whole ≡ new) (λ early. IsEarly early new (put k read.0 whole))) (sym (ap (λ (p : PartialOutline). p.early) w.self-is))
                (subst (λ now. IsEarly w.read_member.new.self now (put k read.0 whole)) (sym kept) (read.2 old whole at)),
          )
      | in-None+in_ok-tree-in-None w ↦
          let tree = w.in_ok-tree-in-None.tree in
          let kept : new ≡ put k (view tree) old = put_on ∙ (λ j. put k (view (w.tree-is j)) (members_view (w.self-is j).members.items)) in (
            view tree,
            w.in_ok-tree-in-None.ensures.ok ∙ ap (λ behind. Some (view tree, behind)) (sym w.reader-is),
            λ whole is.
                let at : whole ≡ old = subst (λ early. MatchOption early (whole ≡ old) (λ early. IsEarly early old whole)) w.in-None.is (c.in_ok-find_names.ensures.same whole is) in
                subst (λ early. MatchOption early (put k (view tree) whole ≡ new) (λ early. IsEarly early new (put k (view tree) whole))) (sym (ap (λ (p : PartialOutline). p.early) w.self-is ∙ w.in-None.is))
                (ap (put k (view tree)) at ∙ sym kept),
          )
    ]
