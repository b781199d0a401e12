-- Walks through a plan: one step more, and how far the streams get on one that is stuck.
use Rattle.std.proofs.Common.{◌≡◌, ◌≢◌, ◌⊎◌, ◌↔◌, ℕ, ◌+◌, ◌<◌, ◌≤◌, suc, add-one, Bool, true, false, Option, Some, None, List, [], ◌∷◌, ◌++◌, length, get_or, refl, sym, ◌∙◌, arith, inl, inr, subst}
use Rattle.std.specs.Prelude.{IsTrue, MatchBool, slice_get, slice_set}
use Rattle.std.proofs.lemmas.Bool.{cases_eq}
use Rattle.std.proofs.lemmas.List.{get_or-set_same, get_or-set_other, length-set}
use Rattle.sm_plan_code.specs.declared.instruction.Instr.{Instr}
use Rattle.sm_plan_code.specs.declared.instruction.Instr.TheVariants.{Signal}
use Rattle.sm_plan_code.specs.Plan.{PlanModel}
use Rattle.sm_verifier.specs.declared.order.Walk.{Walk}
use Rattle.sm_verifier.specs.Order.{code_at, PlanStep, IsRun, IsOrder, IsStuckAt}
use Rattle.sm_verifier.specs.Walk.{steps_made, IsWalk, CanGo, AreStuck, left, IsMarked, HaveEnded, AreStops}
use Rattle.sm_verifier.proofs.Runs.{posted_more, one_more, no_further}

-- beside the flags that were set, those of the signal that the next instruction posts are set
abbrev pub IsMarkedBy : Option Instr → List Bool → List Bool → Type 0
IsMarkedBy next old new = (k : ℕ) → IsTrue (get_or new k false) ↔ (IsTrue (get_or old k false) ⊎ (next ≡ Some (Signal k)))

-- so it is where an instruction is next that marks them so
pub marked_by : (next : Option Instr) (instr : Instr) (old new : List Bool) → next ≡ Some instr → IsMarked instr old new → IsMarkedBy next old new
marked_by next instr old new is marked k = (
  λ h. elim ((marked k).0 h) [ inl was ↦ inl was | inr posts ↦ inr (rw (is, posts) refl) ],
  λ h. elim h [ inl was ↦ (marked k).1 (inl was) | inr posts ↦ (marked k).1 (inr (let same = rw is at posts in cc)) ],
)

-- and where none is next, and the flags stay as they are
pub none_marked : (next : Option Instr) (flags : List Bool) → next ≡ None → IsMarkedBy next flags flags
none_marked next flags is k = (λ h. inl h, λ h. elim h [ inl was ↦ was | inr posts ↦ absurd (let wrong = rw is at posts in cc) ])

-- the walk after one more step of a stream
pub record IsNextWalk (plan : PlanModel) (i : ℕ) (old new : Walk) : Type 0 where
  pub positions : new.positions.items ≡ slice_set old.positions.items i (steps_made old i + 1)
  pub steps : new.steps.items ≡ old.steps.items ++ (i, steps_made old i) ∷ []
  pub count : length new.posted.items ≡ length old.posted.items
  pub marked : IsMarkedBy (slice_get (code_at plan i) (steps_made old i)) old.posted.items new.posted.items

-- a walk with one more step of a stream that can go is a walk
pub next_walk : (plan : PlanModel) (i : ℕ) (old new : Walk) → IsWalk plan old → i < length plan.streams → CanGo plan old i → IsNextWalk plan i old new → IsWalk plan new
next_walk plan i old new walk known go next =
    let here : steps_made new i ≡ suc (steps_made old i) = rw next.positions (get_or-set_same old.positions.items i (steps_made old i + 1) 0 (let l = walk.streams in omega arith) ∙ add-one (steps_made old i)) in
    let others : (j : ℕ) → j ≢ i → steps_made new j ≡ steps_made old j = λ j other. rw next.positions (get_or-set_other old.positions.items i j (steps_made old i + 1) 0 other) in
    record {
      streams = rw (next.positions, length-set) walk.streams;
      signals = next.count ∙ walk.signals;
      run = subst (λ steps. IsRun plan steps (steps_made new)) (sym next.steps) (one_more plan old.steps.items (steps_made old) (steps_made new) i walk.run go known here others);
      posted = λ k l. rw next.steps (
        λ set. (posted_more plan k i (steps_made old i) old.steps.items).1 (elim ((next.marked k).0 set) [ inl was ↦ inl ((walk.posted k l).0 was) | inr posts ↦ inr posts ]),
        λ posted. (next.marked k).1 (elim ((posted_more plan k i (steps_made old i) old.steps.items).0 posted) [ inl was ↦ inl ((walk.posted k l).1 was) | inr posts ↦ inr posts ]),
      );
    }

-- ---- sweeps over the streams

-- after so many streams of a sweep: fewer steps are left, or none of these streams can go
pub record IsSwept (plan : PlanModel) (count : ℕ) (moved : Bool) (first now : Walk) : Type 0 where
  pub less : left now ≤ left first
  pub so_far : MatchBool moved (left now < left first) (AreStuck plan now count)

stuck_more : (plan : PlanModel) (i : ℕ) (walk : Walk) → AreStuck plan walk i → ¬ CanGo plan walk i → AreStuck plan walk (i + 1)
stuck_more plan i walk stuck here j l = elim (cases_eq j i) [ inl same ↦ rw same here | inr other ↦ stuck j (omega arith) ]

-- a sweep goes past a stream that cannot go as it was
pub sweep_kept : (plan : PlanModel) (i : ℕ) (was : Bool) (first old new : Walk) → IsSwept plan i was first old → new ≡ old → ¬ CanGo plan new i → IsSwept plan (i + 1) was first new
sweep_kept plan i true first old new swept same stuck = record { less = rw same swept.less; so_far = rw same swept.so_far }
sweep_kept plan i false first old new swept same stuck = record { less = rw same swept.less; so_far = stuck_more plan i new (rw same swept.so_far) stuck }

-- a sweep that has moved a stream leaves fewer steps
pub sweep_moved : (plan : PlanModel) (i : ℕ) (was : Bool) (first old new : Walk) → IsSwept plan i was first old → left new < left old → IsSwept plan (i + 1) true first new
sweep_moved plan i was first old new swept less = let l = swept.less in record { less = omega arith; so_far = omega arith }

-- ---- the end of a walk

-- a run goes as far as every function says that says the same of the plan's streams
pub same_run : (plan : PlanModel) (steps : List PlanStep) (to by : ℕ → ℕ) → IsRun plan steps to → ((i : ℕ) → i < length plan.streams → by i ≡ to i) → IsRun plan steps by
same_run plan steps to by run same = record {
  known = run.known;
  within = λ i l. rw (same i l) (run.within i l);
  own = λ i l. rw (same i l) (run.own i l);
  posted = run.posted;
}

-- a walk in which all streams have made their ends is an order
pub order_at_end : (plan : PlanModel) (walk : Walk) → IsWalk plan walk → HaveEnded plan walk.positions.items → IsOrder plan walk.steps.items
order_at_end plan walk is ended = same_run plan walk.steps.items (steps_made walk) (λ i. suc (length (code_at plan i))) is.run (λ i l. let low : length (code_at plan i) < steps_made walk i = ended i l in let high = is.run.within i l in omega arith)

-- where no stream can go and some have not ended, the plan is stuck where the walk stands
pub stuck_at_end : (plan : PlanModel) (walk : Walk) (positions : List ℕ) → IsWalk plan walk → AreStuck plan walk (length plan.streams) → ¬ HaveEnded plan walk.positions.items → AreStops plan walk.positions.items positions → IsStuckAt plan positions
stuck_at_end plan walk positions is stuck open_end stops =
    let most : (steps : List PlanStep) (by : ℕ → ℕ) → IsRun plan steps by → (i : ℕ) → i < length plan.streams → by i ≤ steps_made walk i = λ steps by run. no_further plan walk.steps.items (steps_made walk) is.run stuck steps by run in
    record {
      count = stops.count;
      farthest = (steps_made walk, record { reached = (walk.steps.items, is.run); most = most }, stops.each);
      stuck = λ order. open_end (λ i l. let m : suc (length (code_at plan i)) ≤ steps_made walk i = most order.0 (λ j. suc (length (code_at plan j))) order.1 i l in omega arith);
    }
