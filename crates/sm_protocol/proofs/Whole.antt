-- Every event keeps what holds of every state, so it holds of all that events lead to; no call is refused.
use Rattle.sm_protocol.proofs.Below.{◌≡◌, sym, subst, List, [], ◌∷◌, if◌then◌else◌, Setup, sizes_of}
use Rattle.sm_protocol.proofs.Words.{Through, LostBefore, LostAfter, State, Happening, happens, outcomes, unhalted, IsReached, AllFit, AreServed, FitsConfig}
use Rattle.sm_protocol.proofs.Invariant.{IsKept}
use Rattle.sm_protocol.proofs.Cases.{of_known_happens, refill_granted}
use Rattle.sm_protocol.proofs.Keeping.{Keeps}
use Rattle.sm_protocol.proofs.Reached.{by_events, of_opening, same_machine}
use Rattle.sm_protocol.proofs.Steps.{kept_by_steps}
use Rattle.sm_protocol.proofs.Restarts.{log_keeps, refill_keeps, approve_keeps, restart_keeps}
use Rattle.sm_protocol.proofs.Starts.{begin_keeps, open_keeps}

-- no event has its call refused, and each keeps what holds of every state
pub happens_keeps : (w : State) (v : IsKept w) (e : Happening) → FitsConfig w.sizes e → Keeps (happens w e)
happens_keeps w v = of_known_happens w (λ e o. FitsConfig w.sizes e → Keeps o) (record {
  idle = λ e answer n fits. ((λ h. cc), v);
  steps = λ id. kept_by_steps w v id Through _;
  loses = λ id after. kept_by_steps w v id (if after then LostAfter else LostBefore) _;
  refills = λ id more f fits. ((λ h. cc), refill_keeps w v id more _ (refill_granted w id more f).0);
  arrives = λ s u f fits. ((λ h. cc), log_keeps w v _);
  passes_on = λ t o f fits. ((λ h. cc), log_keeps w v _);
  approves = λ u f fits. ((λ h. cc), approve_keeps w v u _ fits f);
  restarts = λ u f fits. ((λ h. cc), restart_keeps w v u _ f);
  starts = λ plan h f g fits. ((λ e. cc), begin_keeps w v plan fits h);
})

-- and so none is along a list of events
pub run_served : (es : List Happening) (w : State) → IsKept w → AllFit w.sizes es → AreServed (outcomes es w)
run_served [] w v fit = tt
run_served (e ∷ es) w v fit =
    let k = happens_keeps w v e fit.0 in
    (k.0, run_served es (happens w e).1 k.1 (subst (λ c. AllFit c es) (sym (same_machine w e).sizes) fit.1))

-- ---- all states that events lead to

-- the halt flag is no part of it
flag_keeps : (w : State) (v : IsKept (unhalted w)) → IsKept w
flag_keeps w v = record { leads = v.leads; stage = v.stage; plans = v.plans; unbegun = v.unbegun; later_marks = v.later_marks; fits = v.fits; numbered = v.numbered }

-- so it holds of a state without the flag too
pub unhalted_keeps : (w : State) (v : IsKept w) → IsKept (unhalted w)
unhalted_keeps w v = record { leads = v.leads; stage = v.stage; plans = v.plans; unbegun = v.unbegun; later_marks = v.later_marks; fits = v.fits; numbered = v.numbered }

-- it holds of every state that events lead to
pub reached_keeps : (setup : Setup) (w : State) → IsReached setup w → IsKept w × (w.sizes ≡ sizes_of setup)
reached_keeps setup w reached =
    (flag_keeps w (by_events setup IsKept (open_keeps setup) (λ u e at fits v. (happens_keeps u v e fits).1) w reached), (of_opening setup w reached).sizes)
