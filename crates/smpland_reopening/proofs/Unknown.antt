-- The first shard of the lowest server, one shard after another.
use Rattle.std.proofs.Common.{◌≡◌, ◌∙◌, ◌++◌, ◌+◌, ◌<◌, ◌≤◌, ◌∷◌, [], ℕ, All, List, ap, append_assoc, arith, get_or, length, subst, sym, take}
use Rattle.std.proofs.lemmas.List.{take_more}
use Rattle.std.proofs.lemmas.List.Elements.{All-append, All-cons, All-nil, All-push, All-weaker}
use Rattle.smpland_reopening.specs.Unknown.{IsOfLowest}
use Rattle.smpland_reopening.specs.declared.unknown_shard.UnknownShard.{UnknownShard}

-- shards of higher servers than n
abbrev AllAbove : ℕ → List UnknownShard → Type 0
AllAbove n shards = All (λ (other : UnknownShard). n < other.server) shards

-- shards of no lower servers than n
abbrev AllNotBelow : ℕ → List UnknownShard → Type 0
AllNotBelow n shards = All (λ (other : UnknownShard). n ≤ other.server) shards

-- all are of higher servers than one that is lower than the first of the lowest
all_above : (n : ℕ) (shards : List UnknownShard) (first : UnknownShard) → IsOfLowest shards first → n < first.server → AllAbove n shards
all_above n shards first is less =
    subst (AllAbove n) (sym is.stands)
    (All-append (λ (other : UnknownShard). n < other.server) is.before (first ∷ is.after)
    (All-weaker (λ (other : UnknownShard). first.server < other.server) (λ (other : UnknownShard). n < other.server) (λ other h. omega arith) is.before is.above)
    (All-cons (λ (other : UnknownShard). n < other.server) first is.after less
    (All-weaker (λ (other : UnknownShard). first.server ≤ other.server) (λ (other : UnknownShard). n < other.server) (λ other h. omega arith) is.after is.not_below)))

module _ (shards : List UnknownShard) (i : ℕ) (next : UnknownShard) (here : i < length shards) (at : next ≡ get_or shards i next) where
  -- the shards so far, with the next one
  so_far : take (i + 1) shards ≡ take i shards ++ next ∷ []
  so_far = take_more shards i next here ∙ ap (λ (x : UnknownShard). take i shards ++ x ∷ []) (sym at)

  -- the next one is of no lower server
  pub stays_first : (first : UnknownShard) → IsOfLowest (take i shards) first → first.server ≤ next.server → IsOfLowest (take (i + 1) shards) first
  stays_first first is more = record {
    before = is.before;
    after = is.after ++ next ∷ [];
    stands = so_far ∙ ap (λ xs. xs ++ next ∷ []) is.stands ∙ append_assoc is.before (first ∷ is.after) (next ∷ []);
    above = is.above;
    not_below = All-push (λ (other : UnknownShard). first.server ≤ other.server) is.after next is.not_below more;
  }

  -- the next one is of a lower server
  pub becomes_first : (first : UnknownShard) → IsOfLowest (take i shards) first → next.server < first.server → IsOfLowest (take (i + 1) shards) next
  becomes_first first is less = record {
    before = take i shards;
    after = [];
    stands = so_far;
    above = all_above next.server (take i shards) first is less;
    not_below = All-nil (λ (other : UnknownShard). next.server ≤ other.server);
  }

  -- the next one is the first of all
  pub begins : take i shards ≡ [] → IsOfLowest (take (i + 1) shards) next
  begins none = record {
    before = [];
    after = [];
    stands = so_far ∙ ap (λ xs. xs ++ next ∷ []) none;
    above = All-nil (λ (other : UnknownShard). next.server < other.server);
    not_below = All-nil (λ (other : UnknownShard). next.server ≤ other.server);
  }
