-- The cell is fair if none of its faults is there.
use Rattle.std.proofs.Common.{length, ◌≡◌, ◌∙◌, ℕ, Bool, true, false, Option, Some, None, refl, sym, ap, subst}
use Rattle.std.specs.Prelude.{◌&&◌, is_some, not}
use Rattle.std.proofs.lemmas.Bool.{and_parts}
use Rattle.sm_server.specs.declared.call.Cell.{Cell}
use Rattle.sm_server.specs.declared.call.Cell.TheVariants.{Absent, Primary}
use Rattle.sm_server.specs.Cell.{is_absent, is_primary}
use Rattle.sm_placement.specs.Layout.{place_of}
use Rattle.sm_placement.specs.Opening.{first_below}
use Rattle.sm_placement.proofs.Searches.{first_some}
use Rattle.sm_reopening.specs.declared.ongoing.OngoingReopening.{OngoingReopening}
use Rattle.sm_reopening.specs.Ongoing.{net_reopening}
use Rattle.sm_reopening.specs.Survivors.{standing_of, stands_above}
use Rattle.sm_reopening.proofs.Taking.{unsettled_parts}
use Rattle.sm_reopening.proofs.Successors.{none_better}
use Rattle.sm_reopening.proofs.ongoing.OngoingReopening.fault_of_cell.Goals as goal

absent_is : (c : Cell) → is_absent c ≡ true → c ≡ Absent
absent_is Absent e = refl
absent_is _ e = absurd (cc)

none_found : (o : Option ℕ) (c : Cell) → c ≡ Primary → (is_primary c && is_some o) ≡ false → o ≡ None
none_found None c p e = refl
none_found (Some u) c p e = absurd (let z = sym (ap (λ d. is_primary d && is_some (Some u)) p) ∙ e in cc)

pub returns-clause-none : goal.returns-clause-none
returns-clause-none c =
    let next = c.settled_cell-next.result in
    let lost : ((net_reopening c.args.self.now).lost c.args.server && not (is_absent next)) ≡ false = sym c.is_at_lost.ensures ∙ c.if-is_at_lost.false in
    let lower = sym c.is_lower.ensures ∙ c.if-is_lower.false in (
      (λ e. record {
        lost = λ l. sym c.settled_cell-next.ensures ∙ absent_is next (unsettled_parts ((net_reopening c.args.self.now).lost c.args.server) (is_absent next) lost l);
        carried = λ k. sym c.settled_cell-next.ensures ∙ c.is_as_recorded.ensures.0 c.if-not-is_as_recorded.false k;
        best = λ p u. none_better c.args.self.now c.args.shard c.args.server (none_found _ next (c.settled_cell-next.ensures ∙ p) lower) u;
      }),
      (λ t. refl),
    )

primary_is : (c : Cell) → is_primary c ≡ true → c ≡ Primary
primary_is Primary e = refl
primary_is _ e = absurd (cc)

some_found : (o : Option ℕ) → is_some o ≡ true → (u : ℕ) × (o ≡ Some u)
some_found None e = absurd (cc)
some_found (Some u) e = (u, refl)

-- a lower choice: the cell is a primary, and somebody stands above it
lower_means : (x : OngoingReopening) (s v : ℕ) (next : Cell) → (is_primary next && is_some (first_below (length x.servers.items) (λ u. stands_above (standing_of x s u) (standing_of x s v)))) ≡ true →
    (next ≡ Primary) × ((u : ℕ) × (stands_above (standing_of x s u) (standing_of x s v) ≡ true))
lower_means x s v next e =
    let found : Option ℕ = first_below (length x.servers.items) (λ u. stands_above (standing_of x s u) (standing_of x s v)) in
    let parts = and_parts (is_primary next) (is_some found) e in
    let other = some_found found parts.1 in
    (primary_is next parts.0, (other.0, (first_some (length x.servers.items) (λ u. stands_above (standing_of x s u) (standing_of x s v)) other.0 other.1).1))

pub returns-then-is_lower-clause-none : goal.returns-then-is_lower-clause-none
returns-then-is_lower-clause-none c =
    let lower = lower_means c.args.self.now c.args.shard c.args.server c.settled_cell-next.result (sym c.is_lower.ensures ∙ c.if-is_lower.true) in (
      (λ e. absurd (cc)),
      (λ f. absurd (let z = f.best (sym c.settled_cell-next.ensures ∙ lower.0) lower.1.0 in let y = sym z ∙ lower.1.1 in cc)),
    )

pub returns-then-is_lower-clause-fault : goal.returns-then-is_lower-clause-fault
returns-then-is_lower-clause-fault c =
    let lower = lower_means c.args.self.now c.args.shard c.args.server c.settled_cell-next.result (sym c.is_lower.ensures ∙ c.if-is_lower.true) in
    λ room. (sym c.settled_cell-next.ensures ∙ lower.0, lower.1)
