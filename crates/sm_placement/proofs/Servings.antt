-- The servers that serve a shard, by their number.
use Rattle.std.proofs.Common.{◌≡◌, ℕ, ◌<◌, ◌≤◌, true, refl, sym, ap, ◌∙◌, arith, inl, inr, Option, Some, None, List, [], ◌∷◌, length}
use Rattle.std.proofs.lemmas.Bool.{cases_lt}
use Rattle.std.proofs.lemmas.Option.{same_Some}
use Rattle.std.specs.List.{filter, range_with_len}
use Rattle.std.specs.Option.{option_map_or}
use Rattle.sm_server.specs.declared.call.Cell.{Cell}
use Rattle.sm_placement.specs.declared.placement.Serving.TheVariants.{Nobody, One, Several}
use Rattle.sm_placement.specs.Rows.{serves, serving_in, serving_of, serving_among}
use Rattle.sm_placement.specs.Opening.{first_below}
use Rattle.sm_placement.specs.Lead.{leader, ServingByLead}
use Rattle.sm_placement.proofs.Searches.{filter_count, find_filter, none_listed, one_listed}
use Rattle.sm_placement.proofs.Leads.{leader_serves, others_dont}

-- where the count is 0, nobody serves the shard
pub serving_none : (n : ℕ) (row : ℕ → Cell) → serving_in n row ≡ 0 → serving_of n row ≡ Nobody
serving_none n row e = go (filter (serves row) (range_with_len 0 n)) (filter_count n (serves row) ∙ e)
  where
    go : (xs : List ℕ) → length xs ≡ 0 → serving_among xs ≡ Nobody
    go [] e = refl
    go (x ∷ xs) e = absurd (omega arith)

-- where the count is 1, the first server that is found to serve is the one that does
pub serving_one : (n : ℕ) (row : ℕ → Cell) → serving_in n row ≡ 1 → serving_of n row ≡ option_map_or One (first_below n (serves row)) Nobody
serving_one n row e = go (filter (serves row) (range_with_len 0 n)) refl (filter_count n (serves row) ∙ e)
  where
    go : (xs : List ℕ) → filter (serves row) (range_with_len 0 n) ≡ xs → length xs ≡ 1 → serving_among xs ≡ option_map_or One (first_below n (serves row)) Nobody
    go [] q e = absurd (omega arith)
    go (x ∷ []) q e = sym (ap (λ (o : Option ℕ). option_map_or One o Nobody) (find_filter (serves row) (range_with_len 0 n) [] x q))
    go (x ∷ (y ∷ xs)) q e = absurd (omega arith)

-- where the count is 2 or more, as many servers serve the shard
pub serving_several : (n : ℕ) (row : ℕ → Cell) → 2 ≤ serving_in n row → serving_of n row ≡ Several (serving_in n row)
serving_several n row l = go (filter (serves row) (range_with_len 0 n)) (filter_count n (serves row))
  where
    go : (xs : List ℕ) → length xs ≡ serving_in n row → serving_among xs ≡ Several (serving_in n row)
    go [] e = absurd (omega arith)
    go (x ∷ []) e = absurd (omega arith)
    go (x ∷ (y ∷ xs)) e = ap Several e

-- who serves is the leader of the lead that describes the row
pub serving_by_lead : ServingByLead
serving_by_lead lead number n row d out = go (leader lead) refl
  where
    within : (u : ℕ) → serves row u ≡ true → u < n
    within u e = elim (cases_lt u n) [ inl l ↦ l | inr l ↦ absurd (let z = rw (out u l) at e in cc) ]

    go : (o : Option ℕ) → leader lead ≡ o → serving_of n row ≡ option_map_or One o Nobody
    go None q = ap serving_among (none_listed (serves row) 0 n (λ k x y. others_dont lead number row d k (λ e. cc)))
    go (Some u) q =
        let there = leader_serves lead number row d u q in
        ap serving_among (one_listed (serves row) n u (within u there.0) there.0 (λ k e. others_dont lead number row d k (λ f. e (sym (same_Some u k (sym q ∙ f))))))
