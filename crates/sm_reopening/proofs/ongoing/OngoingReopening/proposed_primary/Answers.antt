-- The primary is who inherits, or the document's.
use Rattle.std.proofs.Common.{◌≡◌, ◌∙◌, ◌<◌, ℕ, Bool, true, false, Option, Some, None, IfSome, refl, sym, ap, subst, arith}
use Rattle.std.specs.Prelude.{if◌then◌else◌, is_none, is_some, not}
use Rattle.sm_reopening.specs.declared.ongoing.OngoingReopening.{OngoingReopening}
use Rattle.sm_placement.specs.Layout.{grid_of}
use Rattle.sm_reopening.specs.Ongoing.{net_reopening}
use Rattle.sm_reopening.specs.Proposal.{Documented, documented_primary, first_or, is_led, primary_of}
use Rattle.sm_reopening.specs.Survivors.{HasNoSurvivor, IsSuccessorOf, successor_of}
use Rattle.sm_reopening.proofs.Successors.{successor_exact, one_inherits}
use Rattle.sm_reopening.proofs.ongoing.OngoingReopening.proposed_primary.Goals as goal

is_successor : (x : OngoingReopening) (s u : ℕ) (o : Option ℕ) → IfSome o (IsSuccessorOf x s) → is_some o ≡ true → IsSuccessorOf x s u → o ≡ Some u
is_successor x s u None h e i = absurd (cc)
is_successor x s u (Some v) h e i = ap (λ (k : ℕ). Some k) (one_inherits x s v u h i)

none_found : (o : Option ℕ) → is_some o ≡ false → o ≡ None
none_found None e = refl
none_found (Some x) e = absurd (cc)

pub returns-then-not-is_led-clause-proposed : goal.returns-then-not-is_led-clause-proposed
returns-then-not-is_led-clause-proposed c =
    let led = sym c.is_led.ensures ∙ c.if-not-is_led.true in
    record { successor = λ u l i. absurd (let z = sym led ∙ l in cc); documented = λ l n. absurd (let z = sym led ∙ l in cc); none = λ e. refl }

pub returns-then-is_some-clause-proposed : goal.returns-then-is_some-clause-proposed
returns-then-is_some-clause-proposed c =
    let led = sym c.is_led.ensures ∙ c.if-not-is_led.false in
    let some : is_some c.successor-successor.result ≡ true = sym c.is_some.ensures ∙ c.if-is_some.true in
    record {
      successor =
          λ u l i. is_successor c.args.self.now c.args.shard u c.successor-successor.result c.successor-successor.ensures.successor some i;
      documented = λ l n. absurd (let z = sym (ap is_some (c.successor-successor.ensures.none.1 n)) ∙ some in cc);
      none = λ e. absurd (let z = sym led ∙ e in cc);
    }

pub returns-clause-proposed : goal.returns-clause-proposed
returns-clause-proposed c =
    let led = sym c.is_led.ensures ∙ c.if-not-is_led.false in
    let nobody : c.successor-successor.result ≡ None = none_found c.successor-successor.result (sym c.is_some.ensures ∙ c.if-is_some.false) in
    record {
      successor =
          λ u l i. absurd (let n = c.successor-successor.ensures.none.0 nobody u in let k = i.claims in omega arith);
      documented = λ l n. c.documented_primary.ensures;
      none = λ e. absurd (let z = sym led ∙ e in cc);
    }

-- ---- the same as a function

by_lead : (x : OngoingReopening) (d : Documented) (s : ℕ) (b : Bool) → is_led x d s ≡ b → primary_of x d s ≡ (if b then first_or (successor_of x s) (documented_primary x d s) else None)
by_lead x d s b e = ap (λ (l : Bool). if l then first_or (successor_of x s) (documented_primary x d s) else None) e

or_some : (o other : Option ℕ) → is_some o ≡ true → first_or o other ≡ o
or_some (Some u) other e = refl
or_some None other e = absurd (cc)

pub returns-then-not-is_led-clause-exact : goal.returns-then-not-is_led-clause-exact
returns-then-not-is_led-clause-exact c =
    let led = sym c.is_led.ensures ∙ c.if-not-is_led.true in
    sym (by_lead c.args.self.now (grid_of (net_reopening c.args.self.now).servers None c.args.documented.now) c.args.shard false led)

pub returns-then-is_some-clause-exact : goal.returns-then-is_some-clause-exact
returns-then-is_some-clause-exact c =
    let x : OngoingReopening = c.args.self.now in
    let d : Documented = grid_of (net_reopening x).servers None c.args.documented.now in
    let led = sym c.is_led.ensures ∙ c.if-not-is_led.false in
    let some : is_some c.successor-successor.result ≡ true = sym c.is_some.ensures ∙ c.if-is_some.true in
    let successor = successor_exact x c.args.shard c.successor-successor.result c.successor-successor.ensures.successor c.successor-successor.ensures.none.0 in
    sym (by_lead x d c.args.shard true led ∙ ap (λ o. first_or o (documented_primary x d c.args.shard)) (sym successor) ∙ or_some c.successor-successor.result (documented_primary x d c.args.shard) some)

pub returns-clause-exact : goal.returns-clause-exact
returns-clause-exact c =
    let x : OngoingReopening = c.args.self.now in
    let d : Documented = grid_of (net_reopening x).servers None c.args.documented.now in
    let led = sym c.is_led.ensures ∙ c.if-not-is_led.false in
    let nobody : c.successor-successor.result ≡ None = none_found c.successor-successor.result (sym c.is_some.ensures ∙ c.if-is_some.false) in
    let successor = successor_exact x c.args.shard c.successor-successor.result c.successor-successor.ensures.successor c.successor-successor.ensures.none.0 in
    c.documented_primary.ensures ∙ sym (by_lead x d c.args.shard true led ∙ ap (λ o. first_or o (documented_primary x d c.args.shard)) (sym successor ∙ nobody))
