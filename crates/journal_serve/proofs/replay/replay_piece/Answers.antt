use Rattle.std.proofs.Common.{◌++◌, [], ◌∷◌, List, ℕ, ◌-◌, length, take, drop, refl, sym, ◌∙◌, ap, subst, arith, append_assoc}
use Rattle.std.proofs.lemmas.List.{append-nil, length-take}
use Rattle.std.proofs.lemmas.Result.{err_from_is_err_and}
use Rattle.journal_lines.specs.Lines.{head}
use Rattle.journal_lines.specs.Journal.{IsDamaged}
use Rattle.journal_serve.specs.Session.{commands_of}
use Rattle.journal_serve.specs.Recovery.{IsUnfit}
use Rattle.journal_serve.proofs.Turns.{replays_none, replays_on, replays_same}
use Rattle.journal_serve.proofs.Replays.{taken_whole, text_replayed, content_replayed}
use Rattle.journal_serve.proofs.replay.replay_piece.Goals as goal

pub returns-in_err-replay_line-clause-damaged : goal.returns-in_err-replay_line-clause-damaged
returns-in_err-replay_line-clause-damaged g c number is text more batches reads =
    let so_far = c.loop-used.invariant.3 text batches reads in
    let found = rw c.in-Some.is at c.in_ok-used.ensures.ended in
    let line = c.deref.ensures.value ∙ taken_whole 18446744073709551615 c.loop-used.pending.text.items found.0 c.take.new.self.text.items found.2 (omega (arith, c.loop-used.invariant.0, c.requires, found.1.all, found.1.within)) in
    let p = err_from_is_err_and c.from_residual-in_err-replay_line.result c.from_residual-in_err-replay_line.ensures.1 in
    let why = p.1 in
    let same = p.2 in
    subst (λ (l : List ℕ). IsDamaged l number) (content_replayed text c.args.pending.now.text.items c.args.piece.now more so_far.0 c.loop-used.pending.text.items c.loop-used.rest.now found.0 c.in-Some.used so_far.2 found.1)
    (subst (λ (l : List ℕ). IsDamaged (head ++ (so_far.0 ++ l ++ 10 ∷ (drop c.in-Some.used c.loop-used.rest.now ++ more))) number) line
    (c.in_err-replay_line.ensures.damaged number (cc) so_far.0 (drop c.in-Some.used c.loop-used.rest.now ++ more) so_far.1 so_far.3))

pub returns-in_err-replay_line-clause-unfit : goal.returns-in_err-replay_line-clause-unfit
returns-in_err-replay_line-clause-unfit g c number is text more batches reads first before =
    let so_far = c.loop-used.invariant.3 text batches reads in
    let found = rw c.in-Some.is at c.in_ok-used.ensures.ended in
    let line = c.deref.ensures.value ∙ taken_whole 18446744073709551615 c.loop-used.pending.text.items found.0 c.take.new.self.text.items found.2 (omega (arith, c.loop-used.invariant.0, c.requires, found.1.all, found.1.within)) in
    let p = err_from_is_err_and c.from_residual-in_err-replay_line.result c.from_residual-in_err-replay_line.ensures.1 in
    let why = p.1 in
    let same = p.2 in
    subst (λ (l : List ℕ). IsUnfit g.A.Applies.takes first l number) (content_replayed text c.args.pending.now.text.items c.args.piece.now more so_far.0 c.loop-used.pending.text.items c.loop-used.rest.now found.0 c.in-Some.used so_far.2 found.1)
    (subst (λ (l : List ℕ). IsUnfit g.A.Applies.takes first (head ++ (so_far.0 ++ l ++ 10 ∷ (drop c.in-Some.used c.loop-used.rest.now ++ more))) number) line
    (c.in_err-replay_line.ensures.unfit number (cc) so_far.0 (drop c.in-Some.used c.loop-used.rest.now ++ more) so_far.1 so_far.3
    first (replays_same g.A.Applies.takes first _ (commands_of batches ++ c.loop-used.invariant.1) (commands_of so_far.1) (sym so_far.4)
    (replays_on g.A.Applies.takes first _ _ (commands_of batches) c.loop-used.invariant.1 before c.loop-used.invariant.2))))

pub loop-used-init : goal.loop-used-init
loop-used-init g c = (omega arith, [], replays_none g.A.Applies.takes _, λ text batches reads. (text, batches, refl, reads, sym (append-nil (commands_of batches))))

pub loop-used-preserved : goal.loop-used-preserved
loop-used-preserved g c =
    let found = rw c.in-Some.is at c.in_ok-used.ensures.ended in
    let line = c.in_ok-replay_line.ensures.reads in
    let whole = taken_whole 18446744073709551615 c.loop-used.pending.text.items found.0 c.take.new.self.text.items found.2 (omega (arith, c.loop-used.invariant.0, c.requires, found.1.all, found.1.within)) in (
      omega (
        arith,
        c.loop-used.invariant.0,
        c.in_ok-replay_line.ensures.within,
        found.3,
        ap length c.deref.ensures.value,
        ap length c.clear.ensures,
        length-take (length c.loop-used.rest.now - c.in-Some.used) (drop c.in-Some.used c.loop-used.rest.now),
        found.1.within,
      ),
      c.loop-used.invariant.1 ++ line.0,
      replays_on g.A.Applies.takes _ _ _ c.loop-used.invariant.1 line.0 c.loop-used.invariant.2 line.1,
      λ text batches reads.
          let so_far = c.loop-used.invariant.3 text batches reads in
          let next = line.2 so_far.0 so_far.1 so_far.3 in (
            so_far.0 ++ c.deref.result.now ++ 10 ∷ [],
            next.0,
            text_replayed text c.args.pending.now.text.items c.args.piece.now so_far.0 c.loop-used.pending.text.items c.loop-used.rest.now found.0 c.in-Some.used so_far.2 found.1
                ∙ ap (λ (l : List ℕ). (so_far.0 ++ l ++ 10 ∷ []) ++ take (length c.loop-used.rest.now - c.in-Some.used) (drop c.in-Some.used c.loop-used.rest.now)) (sym (c.deref.ensures.value ∙ whole))
                ∙ ap (λ (l : List ℕ). (so_far.0 ++ c.deref.result.now ++ 10 ∷ []) ++ (l ++ take (length c.loop-used.rest.now - c.in-Some.used) (drop c.in-Some.used c.loop-used.rest.now))) (sym c.clear.ensures),
            next.1,
            next.2 ∙ ap (λ (l : List (List ℕ)). l ++ line.0) so_far.4 ∙ append_assoc (commands_of batches) c.loop-used.invariant.1 line.0,
          ),
    )

pub returns-clause-reads : goal.returns-clause-reads
returns-clause-reads g c = (
  c.loop-used.invariant.1,
  c.loop-used.invariant.2,
  λ text batches reads.
      let so_far = c.loop-used.invariant.3 text batches reads in
      let found = rw c.in_default.is at c.in_ok-used.ensures.unended in
      let whole = taken_whole 18446744073709551615 c.loop-used.pending.text.items c.loop-used.rest.now c.take.new.self.text.items found.1 (omega (arith, c.loop-used.invariant.0, c.requires)) in
      (so_far.0, so_far.1, so_far.2 ∙ ap (λ (l : List ℕ). so_far.0 ++ l) (sym whole), so_far.3, so_far.4),
)
