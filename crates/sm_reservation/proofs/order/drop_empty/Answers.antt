use Rattle.std.proofs.Common.{rules, ◌<◌, ◌^◌, nat_lt}
use Rattle.std.proofs.lemmas.Fn.{filter_same, All-from_retain}
use Rattle.sm_reservation.proofs.AmountLemmas.{each_of}
use Rattle.sm_reservation.proofs.order.drop_empty.Goals as goal

pub returns-clause-kept : goal.returns-clause-kept
returns-clause-kept g c = filter_same _ (λ row. nat_lt 0 (g.T.Amount.amount row)) _ (λ x b f' k. search rules) _ _ c.retain.ensures.filtered

pub returns-clause-bounded : goal.returns-clause-bounded
returns-clause-bounded g c = each_of (λ row. g.T.Amount.amount row < 2 ^ 64) _ (All-from_retain _ (λ row. g.T.Amount.amount row < 2 ^ 64) _ (λ x b f' k. search rules) _ _ c.retain.ensures.filtered)
