-- The shards before are without a fault.
use Rattle.std.proofs.Common.{◌≡◌, ◌<◌, ◌∙◌, ℕ, Bool, true, false, Option, Some, None, refl, sym, subst, arith, inl, inr}
use Rattle.std.specs.Prelude.{is_some}
use Rattle.std.proofs.lemmas.Bool.{cases_eq}
use Rattle.sm_placement.specs.Layout.{place_of}
use Rattle.sm_reopening.specs.declared.faults.ConfirmFault.{ConfirmFault}
use Rattle.sm_reopening.specs.Faults.{IsFairAt}
use Rattle.sm_reopening.proofs.ongoing.OngoingReopening.fault_of_cells.Goals as goal

is_none_then : (o : Option ConfirmFault) → is_some o ≡ false → o ≡ None
is_none_then None e = refl
is_none_then (Some x) e = absurd (cc)

pub loop-number-preserved : goal.loop-number-preserved
loop-number-preserved c = λ k v l m. elim (cases_eq k c.loop-number.number) [
  | inl d ↦ subst (λ (j : ℕ). IsFairAt c.args.self.now (place_of c.args.settlement.now) j v) (c.new.ensures ∙ sym d)
      (c.fault_of_shard-fault.ensures.none.0 (is_none_then c.fault_of_shard-fault.result (cc)) v m)
  | inr d ↦ c.loop-number.invariant k v (omega arith) m
]
