-- The worked play of orders for the lead, step by step.
use Rattle.std.proofs.Common.{ℕ, List, [], ◌∷◌, ◌++◌, refl, arith, inl, inr}
use Rattle.sm_reservation.specs.HoldOf.{hold_of}
use Rattle.sm_verifier.specs.FirstHolding.{first_holding}
use Rattle.laws_service_data.specs.Joined.{Joined, JoinedEvent, joined_comes, joined_run}
use Rattle.laws_service_data.specs.NumbersLater.{KeepDutiesIfLater}
use Rattle.laws_service_data.specs.LeadPlays.{LEAD_MOVED, LeadMoves}
use Rattle.laws_service_data.specs.Plays.{FIRST, FIRST_WRITE, list_with}
use Rattle.laws_service_data.proofs.Plays.{WRITTEN, first_write}

-- duties that are kept, and more behind them
kept_append : (s : ℕ) (js ks : List JoinedEvent) (x : Joined) → KeepDutiesIfLater s x js → KeepDutiesIfLater s (joined_run js x) ks → KeepDutiesIfLater s x (js ++ ks)
kept_append s [] ks x a b = b
kept_append s (j ∷ js) ks x a b = (a.0, kept_append s js ks (joined_comes x j) a.1 b)

-- the lead moves
lead_moved : KeepDutiesIfLater 0 WRITTEN LEAD_MOVED
unfolding first_holding hold_of
lead_moved = (
  (refl, tt),
  (
    (refl, tt),
    (
      (refl, tt),
      (
        (refl, tt),
        (
          (refl, tt),
          (
            (refl, tt),
            (
              (refl, ((λ l. (refl, l, omega arith)), tt)),
              (
                (refl, tt),
                (
                  (refl, tt),
                  (
                    (refl, tt),
                    (
                      (inr (0, refl), ((λ l. (list_with (7 ∷ []), list_with (7 ∷ []), refl, refl, refl, inl refl, l, omega arith)), tt)),
                      ((refl, tt), tt),
                    ),
                  ),
                ),
              ),
            ),
          ),
        ),
      ),
    ),
  ),
)

-- a secondary becomes primary, with the number of a later order
pub lead_moves : LeadMoves
unfolding first_holding hold_of
lead_moves = record {
  above = record { view = omega arith; ended = omega arith };
  kept = kept_append 0 FIRST_WRITE LEAD_MOVED FIRST first_write lead_moved;
  ended = refl;
  view = refl;
  leading = (refl, omega arith);
  executes = refl;
}
