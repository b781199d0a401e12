-- The worked plays, step by step.
use Rattle.std.proofs.Common.{◌≡◌, ◌==◌, ℕ, ◌<◌, List, [], ◌∷◌, ◌++◌, Some, None, zero, suc, refl, subst, arith, inl, inr}
use Rattle.std.proofs.lemmas.Bool.{eqb-true, false≢true, ltb-true}
use Rattle.std.specs.Prelude.{nat_lt}
use Rattle.sm_copies.specs.Order.{IsAtLeast}
use Rattle.sm_copies.specs.Lists.{ListEntry, beginning, told_of}
use Rattle.laws_data.specs.Shard.{Ends, Event, Goes, HaveNoLess, Joins, Loses, Lowers, MayHappenInTurn, Releases, Takes, Shard, all_left, left_by}
use Rattle.laws_data.specs.Plays.{ComesWithoutPrimary, FORMER_IS_ASKED, FORMER_IS_RELEASED, LAGGARD_COMES_AGAIN, LeavesWithoutPrimary, OutlivesItsPrimary, PRIMARY_IS_LOST, SEVEN, SEVEN_IS_WRITTEN, SucceedsItsPrimary, THREE}

-- what is allowed in turn, with what is allowed behind it
in-turn : (w : Shard) (es fs : List Event) → MayHappenInTurn w es → MayHappenInTurn (all_left es w) fs → MayHappenInTurn w (es ++ fs)
in-turn w [] fs a b = b
in-turn w (e ∷ es) fs a b = (a.0, in-turn (left_by w e) es fs a.1 b)

-- the write is executed, followed and acknowledged
written : MayHappenInTurn THREE SEVEN_IS_WRITTEN
written = (
  (refl, omega arith),
  (
    (refl, omega arith),
    (
      (refl, omega arith),
      (
        (
          beginning 0 ∷ [],
          beginning 0 ∷ SEVEN ∷ [],
          refl,
          refl,
          (0, record { view = 0; position = 0 }, refl, refl, omega arith),
          refl,
          omega arith,
          omega arith,
        ),
        (
          (refl, refl),
          (
            (record { server = 1; copy = told_of (beginning 0 ∷ SEVEN ∷ []) }, refl),
            (
              (
                beginning 0 ∷ SEVEN ∷ [],
                2,
                refl,
                refl,
                refl,
                omega arith,
                record { have = λ p. (omega arith, omega arith); greatest = λ other h. h.0 },
                omega arith,
                omega arith,
              ),
              tt,
            ),
          ),
        ),
      ),
    ),
  ),
)

-- the shard when its primary is lost
abbrev LOST : Shard
LOST = all_left (SEVEN_IS_WRITTEN ++ Loses 0 ∷ []) THREE

-- server 1 has the greatest copy of those that are left
greatest : (s : ℕ) (copy : List ListEntry) → s < 3 → LOST.copies s ≡ Some copy → IsAtLeast (told_of (beginning 0 ∷ SEVEN ∷ [])) (told_of copy)
greatest zero copy l h = absurd (let e : None ≡ Some copy = h in cc)
greatest (suc zero) copy l h = let e : Some (beginning 0 ∷ SEVEN ∷ []) ≡ Some copy = h in let q : beginning 0 ∷ SEVEN ∷ [] ≡ copy = cc in
    subst (λ (ys : List ListEntry). IsAtLeast (told_of (beginning 0 ∷ SEVEN ∷ [])) (told_of ys)) q (inl refl)
greatest (suc (suc zero)) copy l h = let e : Some (beginning 0 ∷ []) ≡ Some copy = h in let q : beginning 0 ∷ [] ≡ copy = cc in
    subst (λ (ys : List ListEntry). IsAtLeast (told_of (beginning 0 ∷ SEVEN ∷ [])) (told_of ys)) q (inr (inr (refl, omega arith)))
greatest (suc (suc (suc s))) copy l h = absurd (omega arith)

-- a write outlives its primary
pub outlives-its-primary : OutlivesItsPrimary
outlives-its-primary = record {
  allowed = in-turn THREE SEVEN_IS_WRITTEN PRIMARY_IS_LOST written (
    tt,
    (
      (
        beginning 0 ∷ SEVEN ∷ [],
        record { copy_is = refl; greatest = λ s copy l a h. greatest s copy l h; later = (omega arith, omega arith); needed = omega arith; named = λ n. omega arith },
      ),
      tt,
    ),
  );
  has_primary = omega arith;
  primary = refl;
  acknowledged = refl;
  copy = refl;
}

-- a secondary becomes primary by the former primary's copy
pub succeeds-its-primary : SucceedsItsPrimary
succeeds-its-primary = record {
  allowed = in-turn THREE SEVEN_IS_WRITTEN FORMER_IS_ASKED written (
    omega arith,
    (
      tt,
      (
        (refl, (omega arith, omega arith), omega arith),
        (
          (
            beginning 0 ∷ SEVEN ∷ [],
            beginning 0 ∷ SEVEN ∷ [],
            refl,
            refl,
            refl,
            inl refl,
            (omega arith, omega arith),
            omega arith,
          ),
          tt,
        ),
      ),
    ),
  );
  has_primary = omega arith;
  primary = refl;
  acknowledged = refl;
  copy = refl;
}

-- the shard when its primary has ended, and one copy is asked for
abbrev ENDED : Shard
ENDED = all_left (SEVEN_IS_WRITTEN ++ Lowers 1 ∷ Ends 3 ∷ []) THREE

-- server 1 has all that its primary had
no-less : HaveNoLess ENDED (λ t. t == 1) 0 (beginning 0 ∷ SEVEN ∷ [])
no-less zero h = absurd (false≢true h)
no-less (suc zero) h = (λ q. absurd (omega arith), refl, beginning 0 ∷ SEVEN ∷ [], refl, inl refl)
no-less (suc (suc t)) h = absurd (let e : suc (suc t) ≡ 1 = eqb-true (suc (suc t)) 1 h in omega arith)

-- a replica goes without a primary
pub leaves-without-primary : LeavesWithoutPrimary
leaves-without-primary = record {
  allowed = in-turn THREE SEVEN_IS_WRITTEN FORMER_IS_RELEASED written (
    omega arith,
    (
      (refl, (omega arith, omega arith), omega arith),
      (
        (beginning 0 ∷ SEVEN ∷ [], refl, no-less, omega arith, omega arith),
        (
          refl,
          (
            (beginning 0 ∷ SEVEN ∷ [], refl, λ s copy l a h. greatest s copy l h, (omega arith, omega arith), omega arith),
            tt,
          ),
        ),
      ),
    ),
  );
  has_primary = omega arith;
  primary = refl;
  acknowledged = refl;
  copy = refl;
}

-- the shard when its primary has ended
abbrev LED_LAST : Shard
LED_LAST = all_left (SEVEN_IS_WRITTEN ++ Ends 3 ∷ []) THREE

-- servers 0 and 1 have all that server 2 has
both-have-more : HaveNoLess LED_LAST (λ t. nat_lt t 2) 2 (beginning 0 ∷ [])
both-have-more zero h = (λ q. absurd (omega arith), refl, beginning 0 ∷ SEVEN ∷ [], refl, inr (inr (refl, omega arith)))
both-have-more (suc zero) h = (λ q. absurd (omega arith), refl, beginning 0 ∷ SEVEN ∷ [], refl, inr (inr (refl, omega arith)))
both-have-more (suc (suc t)) h = absurd (let l : suc (suc t) < 2 = ltb-true (suc (suc t)) 2 h in omega arith)

-- the shard when server 2 has come again, and server 1 has lost its disk
abbrev COME : Shard
COME = all_left (SEVEN_IS_WRITTEN ++ Ends 3 ∷ Releases 2 (λ t. nat_lt t 2) ∷ Goes 2 ∷ Takes 2 1 ∷ Joins 2 ∷ Loses 1 ∷ []) THREE

-- server 2 has as much as any
greatest-come : (s : ℕ) (copy : List ListEntry) → s < 3 → COME.copies s ≡ Some copy → IsAtLeast (told_of (beginning 0 ∷ SEVEN ∷ [])) (told_of copy)
greatest-come zero copy l h = let e : Some (beginning 0 ∷ SEVEN ∷ []) ≡ Some copy = h in let q : beginning 0 ∷ SEVEN ∷ [] ≡ copy = cc in
    subst (λ (ys : List ListEntry). IsAtLeast (told_of (beginning 0 ∷ SEVEN ∷ [])) (told_of ys)) q (inl refl)
greatest-come (suc zero) copy l h = absurd (let e : None ≡ Some copy = h in cc)
greatest-come (suc (suc zero)) copy l h = let e : Some (beginning 0 ∷ SEVEN ∷ []) ≡ Some copy = h in let q : beginning 0 ∷ SEVEN ∷ [] ≡ copy = cc in
    subst (λ (ys : List ListEntry). IsAtLeast (told_of (beginning 0 ∷ SEVEN ∷ [])) (told_of ys)) q (inl refl)
greatest-come (suc (suc (suc s))) copy l h = absurd (omega arith)

-- a replica comes without a primary
pub comes-without-primary : ComesWithoutPrimary
comes-without-primary = record {
  allowed = in-turn THREE SEVEN_IS_WRITTEN LAGGARD_COMES_AGAIN written (
    (refl, (omega arith, omega arith), omega arith),
    (
      (beginning 0 ∷ [], refl, both-have-more, omega arith, omega arith),
      (
        refl,
        (
          (beginning 0 ∷ SEVEN ∷ [], refl, inr (refl, refl), omega arith),
          (
            tt,
            (
              tt,
              (
                (beginning 0 ∷ SEVEN ∷ [], refl, λ s copy l a h. greatest-come s copy l h, (omega arith, omega arith), omega arith),
                tt,
              ),
            ),
          ),
        ),
      ),
    ),
  );
  has_primary = omega arith;
  primary = refl;
  acknowledged = refl;
  copy = refl;
}
