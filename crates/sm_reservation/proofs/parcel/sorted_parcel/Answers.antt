use Rattle.std.proofs.Common.{sym, ◌∙◌}
use Rattle.sm_reservation.specs.Lists.{rights_of}
use Rattle.sm_reservation.proofs.DoubleLemmas.{once, ordered, lowest_double, parcel_ordered, parcel_positive, parcel_sorted}
use Rattle.sm_reservation.proofs.InOrder.{parcel_in_order}
use Rattle.sm_reservation.proofs.parcel.sorted_parcel.Goals as goal

pub returns-in-Some-clause-fault : goal.returns-in-Some-clause-fault
returns-in-Some-clause-fault c = lowest_double _ _ c.in-Some.key c.in_ok-sorted.ensures (sym c.first_double.ensures ∙ c.in-Some.is)

pub invariant_of-result : goal.invariant_of-result
invariant_of-result c = record {
  ordered = parcel_ordered (rights_of c.in_ok-sorted.sorted) _ _ c.drop_empty.ensures.kept c.drop_empty-2.ensures.kept (ordered _ _ c.in_ok-sorted.ensures (sym c.first_double.ensures ∙ c.in_default.is));
  positive = parcel_positive (rights_of c.in_ok-sorted.sorted) _ _ c.drop_empty.ensures.kept c.drop_empty-2.ensures.kept;
  bounded = record { room = c.drop_empty.ensures.bounded; spare = c.drop_empty-2.ensures.bounded };
}

pub returns-clause-value : goal.returns-clause-value
returns-clause-value c = parcel_in_order (rights_of c.args.lists.now) (rights_of c.in_ok-sorted.sorted) _ _ c.drop_empty.ensures.kept c.drop_empty-2.ensures.kept c.in_ok-sorted.ensures (ordered _ _ c.in_ok-sorted.ensures (sym c.first_double.ensures ∙ c.in_default.is))

pub returns-clause-sorted : goal.returns-clause-sorted
returns-clause-sorted c = parcel_sorted _ (rights_of c.in_ok-sorted.sorted) _ _ c.drop_empty.ensures.kept c.drop_empty-2.ensures.kept c.in_ok-sorted.ensures

pub returns-clause-once : goal.returns-clause-once
returns-clause-once c = once _ _ c.in_ok-sorted.ensures (sym c.first_double.ensures ∙ c.in_default.is)

pub returns-clause-order : goal.returns-clause-order
returns-clause-order c = parcel_ordered (rights_of c.in_ok-sorted.sorted) _ _ c.drop_empty.ensures.kept c.drop_empty-2.ensures.kept (ordered _ _ c.in_ok-sorted.ensures (sym c.first_double.ensures ∙ c.in_default.is))
