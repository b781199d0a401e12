-- The worked plays, step by step.
use Rattle.std.proofs.Common.{ℕ, zero, suc, List, [], ◌∷◌, ◌++◌, refl, arith, inl, inr}
use Rattle.sm_placement.specs.SafePlace.{IsServing}
use Rattle.sm_reservation.specs.HoldOf.{hold_of}
use Rattle.sm_verifier.specs.FirstHolding.{first_holding}
use Rattle.sm_copies.specs.Lists.{beginning, told_of}
use Rattle.laws_network.specs.FleetLaws.{held_place}
use Rattle.laws_data.specs.Shard.{Executes, Hands}
use Rattle.laws_service_data.specs.Joined.{Joined, JoinedEvent, joined_comes, joined_run}
use Rattle.laws_service_data.specs.Duties.{IsLeading, KeepDuties}
use Rattle.laws_service_data.specs.Plays.{FIRST, FIRST_WRITE, HANDED, HandoverKeepsWrites, OLD_OWNER_GOES, RESTORED, RestartKeepsWrites, TAKEN_OVER, list_with}

-- duties that are kept, and more behind them
pub kept_append : (s : ℕ) (js ks : List JoinedEvent) (x : Joined) → KeepDuties s x js → KeepDuties s (joined_run js x) ks → KeepDuties s x (js ++ ks)
kept_append s [] ks x a b = b
kept_append s (j ∷ js) ks x a b = (a.0, kept_append s js ks (joined_comes x j) a.1 b)

-- server 0 alone serves, and leads
opens : (u : ℕ) → IsServing (held_place FIRST.fleet) 0 u → IsLeading FIRST.shard u
opens zero h = (refl, omega arith)
opens (suc zero) h = absurd (cc)
opens (suc (suc zero)) h = absurd (cc)
opens (suc (suc (suc u))) h = absurd (cc)

-- the write is executed, followed and acknowledged
pub first_write : KeepDuties 0 FIRST FIRST_WRITE
first_write = (
  (refl, (refl, omega arith)),
  (
    ((inl (7, refl), refl), ((refl, omega arith), tt)),
    (
      (
        refl,
        (
          beginning 0 ∷ [],
          list_with (7 ∷ []),
          refl,
          refl,
          (0, record { view = 0; position = 0 }, refl, refl, omega arith),
          refl,
          omega arith,
          omega arith,
        ),
      ),
      (
        (refl, (refl, refl)),
        (
          (refl, (record { server = 2; copy = told_of (list_with (7 ∷ [])) }, refl)),
          (
            (
              refl,
              (
                list_with (7 ∷ []),
                2,
                refl,
                refl,
                refl,
                omega arith,
                record { have = λ p. (omega arith, omega arith); greatest = λ other h. h.0 },
                omega arith,
                omega arith,
              ),
            ),
            tt,
          ),
        ),
      ),
    ),
  ),
)

-- once the write is there
abbrev pub WRITTEN : Joined
WRITTEN = joined_run FIRST_WRITE FIRST

-- the new owner copies the shard, and the old one makes its cut
handed : KeepDuties 0 WRITTEN HANDED
unfolding first_holding hold_of
handed = (
  (refl, tt),
  (
    (refl, tt),
    (
      (refl, tt),
      (
        (refl, (refl, omega arith)),
        (
          (refl, (tt, tt)),
          (
            (refl, tt),
            (
              (refl, tt),
              (
                (refl, tt),
                (
                  (refl, tt),
                  ((refl, tt), tt),
                ),
              ),
            ),
          ),
        ),
      ),
    ),
  ),
)

-- once the cut is made
abbrev CUT : Joined
CUT = joined_run HANDED WRITTEN

-- the new owner takes over
taken_over : KeepDuties 0 CUT TAKEN_OVER
unfolding first_holding hold_of
taken_over = (
  (refl, tt),
  (
    (
      ((Hands 1 ∷ [], Executes 8 ∷ [], inl refl, inl (8, refl), refl), refl),
      ((list_with (7 ∷ []), refl, refl, omega arith), ((refl, omega arith), tt)),
    ),
    (
      (
        refl,
        (
          list_with (7 ∷ []),
          list_with (7 ∷ 8 ∷ []),
          refl,
          refl,
          (0, record { view = 0; position = 0 }, refl, refl, omega arith),
          refl,
          omega arith,
          omega arith,
        ),
      ),
      (
        (refl, (refl, refl)),
        (
          (refl, (record { server = 2; copy = told_of (list_with (7 ∷ 8 ∷ [])) }, refl)),
          (
            (
              refl,
              (
                list_with (7 ∷ 8 ∷ []),
                3,
                refl,
                refl,
                refl,
                omega arith,
                record { have = λ p. (omega arith, omega arith); greatest = λ other h. h.0 },
                omega arith,
                omega arith,
              ),
            ),
            (
              (refl, tt),
              (
                (refl, tt),
                (
                  (refl, tt),
                  (
                    (inr (refl, (refl, omega arith)), tt),
                    ((refl, tt), tt),
                  ),
                ),
              ),
            ),
          ),
        ),
      ),
    ),
  ),
)

-- once the new owner is the primary
abbrev TAKEN : Joined
TAKEN = joined_run TAKEN_OVER CUT

-- the old owner goes by its leave
old_owner_goes : KeepDuties 0 TAKEN OLD_OWNER_GOES
unfolding first_holding hold_of
old_owner_goes = (
  (refl, tt),
  (
    (refl, tt),
    (
      (refl, tt),
      (
        (refl, tt),
        (
          (refl, tt),
          (
            (refl, (list_with (7 ∷ 8 ∷ []), refl, (omega arith, omega arith), omega arith)),
            (
              (refl, (refl, tt)),
              ((refl, tt), tt),
            ),
          ),
        ),
      ),
    ),
  ),
)

-- what was acknowledged before and behind the cut is with the new owner
pub handover_keeps_writes : HandoverKeepsWrites
unfolding first_holding hold_of
handover_keeps_writes = record {
  opens = opens;
  kept = kept_append 0 FIRST_WRITE (HANDED ++ (TAKEN_OVER ++ OLD_OWNER_GOES)) FIRST first_write
      (kept_append 0 HANDED (TAKEN_OVER ++ OLD_OWNER_GOES) WRITTEN handed (kept_append 0 TAKEN_OVER OLD_OWNER_GOES CUT taken_over old_owner_goes));
  executes = refl;
  leading = (refl, omega arith);
  acknowledged = refl;
  copy = refl;
}

-- its primary is restored
restored : KeepDuties 0 WRITTEN RESTORED
unfolding first_holding hold_of
restored = ((refl, tt), ((refl, tt), ((refl, tt), tt)))

-- what was acknowledged before a primary lost its slots is there once it is restored
pub restart_keeps_writes : RestartKeepsWrites
unfolding first_holding hold_of
restart_keeps_writes = record {
  opens = opens;
  kept = kept_append 0 FIRST_WRITE RESTORED FIRST first_write restored;
  executes = refl;
  leading = (refl, omega arith);
  acknowledged = refl;
  copy = refl;
}
