use Rattle.std.proofs.Common.{◌++◌, ◌≤◌, List, ℕ, length, drop, sym, ◌∙◌, ap, arith, length-append}
use Rattle.std.proofs.lemmas.Bool.Decides.{Decides-eqb}
use Rattle.std.proofs.lemmas.Slice.Eq.{starts_is}
use Rattle.journal_lines.specs.Lines.{head}
use Rattle.journal_serve.proofs.Fronts.{front_same, head_in_front, front_is_foreign, front_is_short}
use Rattle.journal_serve.proofs.recovery.read_head.Goals as goal

pub returns-then-starts_with-clause-begins : goal.returns-then-starts_with-clause-begins
returns-then-starts_with-clause-begins g c word =
    let begins = (starts_is Decides-eqb c.as_slice-text.result.now c.journal_head-head.result.now c.starts_with.result c.starts_with.ensures.value).0 c.if-starts_with.true in
    let long : length head ≤ length c.as_slice-text.result.now = omega (arith, ap length begins, length-append c.journal_head-head.result.now (drop (length c.journal_head-head.result.now) c.as_slice-text.result.now), ap length c.journal_head-head.ensures) in
    head_in_front (g.S.Store.written_at c.args.store.now (g.S.Store.moment c.args.store.now)) c.as_slice-text.result.now (length head) (front_same (g.S.Store.written_at c.args.store.now (g.S.Store.moment c.args.store.now)) (length c.journal_head-head.result.now) (length head) c.in_ok-front.front.items c.as_slice-text.result.now (c.in_ok-front.ensures.front word) (ap length c.journal_head-head.ensures) c.as_slice-text.ensures.value) long
    (begins ∙ ap (λ (h : List ℕ). h ++ drop (length h) c.as_slice-text.result.now) c.journal_head-head.ensures)

pub returns-then-text-head-clause-begins : goal.returns-then-text-head-clause-begins
returns-then-text-head-clause-begins g c word =
    front_is_foreign (g.S.Store.written_at c.args.store.now (g.S.Store.moment c.args.store.now)) c.as_slice-text.result.now (front_same (g.S.Store.written_at c.args.store.now (g.S.Store.moment c.args.store.now)) (length c.journal_head-head.result.now) (length head) c.in_ok-front.front.items c.as_slice-text.result.now (c.in_ok-front.ensures.front word) (ap length c.journal_head-head.ensures) c.as_slice-text.ensures.value)
    (λ rest is. let told = (starts_is Decides-eqb c.as_slice-text.result.now c.journal_head-head.result.now c.starts_with.result c.starts_with.ensures.value).1 rest (is ∙ ap (λ (h : List ℕ). h ++ rest) (sym c.journal_head-head.ensures)) in cc)
    (omega (arith, ap length c.journal_head-head.ensures))

pub returns-clause-begins : goal.returns-clause-begins
returns-clause-begins g c word =
    front_is_short (g.S.Store.written_at c.args.store.now (g.S.Store.moment c.args.store.now)) c.as_slice-text.result.now (front_same (g.S.Store.written_at c.args.store.now (g.S.Store.moment c.args.store.now)) (length c.journal_head-head.result.now) (length head) c.in_ok-front.front.items c.as_slice-text.result.now (c.in_ok-front.ensures.front word) (ap length c.journal_head-head.ensures) c.as_slice-text.ensures.value) (omega (arith, ap length c.journal_head-head.ensures))
