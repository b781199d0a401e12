-- Enough have the primary's own position or one that was told, if they have any.
use Rattle.std.proofs.Common.{◌≡◌, ◌≤◌, ℕ, get_or, inl, inr, sym, ap, subst, ◌∙◌, arith}
use Rattle.std.proofs.lemmas.Bool.{cases_lt}
use Rattle.std.proofs.lemmas.List.{get_or_default}
use Rattle.sm_copies.specs.declared.order.ToldCopy.{ToldCopy}
use Rattle.sm_copies.specs.Counting.{HaveEnough}
use Rattle.sm_copies.proofs.Counts.{own-or-told}
use Rattle.sm_copies.proofs.counting.acknowledged.Goals as goal

pub loop-copy-preserved : goal.loop-copy-preserved
loop-copy-preserved g = record {
  have = λ some. elim g.raised-greatest-in-loop-copy.ensures.found [
    | inl same ↦ subst (λ (n : ℕ). HaveEnough g.args.copies g.args.own.now g.args.told.now n) (sym same)
        (g.loop-copy.invariant.have (let q : g.raised-greatest-in-loop-copy.result ≡ g.loop-copy.greatest = same in omega arith))
    | inr new ↦ subst (λ (n : ℕ). HaveEnough g.args.copies g.args.own.now g.args.told.now n) (sym new.0) new.1
  ];
  own = λ h.
      let a : g.args.own.now.position ≤ g.loop-copy.greatest = g.loop-copy.invariant.own h in
      let b : g.loop-copy.greatest ≤ g.raised-greatest-in-loop-copy.result = g.raised-greatest-in-loop-copy.ensures.stays in
      omega arith;
  seen = λ k d l h. elim (cases_lt k g.loop-copy.copy-index) [
    | inl before ↦
        let a : (get_or g.args.told.now k d).position ≤ g.loop-copy.greatest = g.loop-copy.invariant.seen k d before h in
        let b : g.loop-copy.greatest ≤ g.raised-greatest-in-loop-copy.result = g.raised-greatest-in-loop-copy.ensures.stays in
        omega arith
    | inr now ↦
        let none : ToldCopy = record { view = 0; position = 0 } in
        let here : k ≡ g.loop-copy.copy-index = omega arith in
        let is : get_or g.args.told.now k d ≡ get_or g.args.told.now g.loop-copy.copy-index none =
        ap (λ (n : ℕ). get_or g.args.told.now n d) here ∙ get_or_default g.args.told.now g.loop-copy.copy-index d none g.loop-copy-test.true in
        subst (λ (c : ToldCopy). c.position ≤ g.raised-greatest-in-loop-copy.result) (sym is)
        (g.raised-greatest-in-loop-copy.ensures.reaches (subst (λ (c : ToldCopy). HaveEnough g.args.copies g.args.own.now g.args.told.now c.position) is h))
  ];
}

pub returns : goal.returns
returns g = record {
  have = g.loop-copy.invariant.have;
  greatest = λ other h. elim (own-or-told g.args.copies g.args.own.now g.args.told.now other h) [
    | inl own ↦
        let l : other ≤ g.args.own.now.position = h.0 in
        let m : g.args.own.now.position ≤ g.loop-copy.greatest = g.loop-copy.invariant.own own in
        omega arith
    | inr t ↦
        let d : ToldCopy = g.args.own.now in
        let all : _ ≤ g.loop-copy.copy-index = g.loop-copy-test.false in
        let is : (get_or g.args.told.now t.0.index d).position ≡ t.0.at = t.0.is d in
        let m : (get_or g.args.told.now t.0.index d).position ≤ g.loop-copy.greatest =
        g.loop-copy.invariant.seen t.0.index d (let i = t.0.inside in omega arith)
        (subst (λ (n : ℕ). HaveEnough g.args.copies g.args.own.now g.args.told.now n) (sym is) t.1) in
        let b : other ≤ t.0.at = t.0.behind in
        omega arith
  ];
}
