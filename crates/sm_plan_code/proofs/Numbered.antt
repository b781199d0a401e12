-- The effect of an instruction whose call is made under a number.
use Rattle.std.proofs.Common.{◌≡◌, ◌≢◌, ℕ, sym, ap, ◌∙◌, Option, Some, Result, Ok, Err}
use Rattle.sm_server.specs.declared.call.Refusal.{Refusal}
use Rattle.sm_placement.specs.declared.lead.Lead.{Lead}
use Rattle.sm_placement.specs.Sums.{put2}
use Rattle.sm_placement.specs.Setup.{Sizes}
use Rattle.sm_placement.specs.Place.{Place, called}
use Rattle.sm_placement.proofs.Calls.{numbered_first}
use Rattle.sm_reservation.specs.Rights.{Rights}
use Rattle.sm_reservation.specs.Hold.{Hold}
use Rattle.sm_plan_code.specs.declared.call.ServerCall.{ServerCall}
use Rattle.sm_plan_code.specs.declared.instruction.Instr.{Instr}
use Rattle.sm_plan_code.specs.declared.instruction.Instr.TheVariants.{PrepareAdd, PrepareDrop, Add, Drop, Change, Publish, Unlist, Signal, Wait}
use Rattle.sm_plan_code.specs.Instr.{IsOwn}
use Rattle.sm_plan_code.specs.After.{after}
use Rattle.sm_plan_code.specs.Acts.{acts, moved, calls, next_call, numbers_after}
use Rattle.sm_plan_code.specs.Effects.{IsScene, IsReachable, NumberedEffect}
use Rattle.sm_plan_code.proofs.Effects.{effect}
use Rattle.sm_plan_code.proofs.Lasts.{lasts_are_unseen}

-- an instruction with a call is made by that call
pub acts_by_call : (c : Sizes) (p : Place) (numbers : ℕ → ℕ) (i : Instr) (x : ServerCall) → next_call numbers i ≡ Some x →
    IsOwn i × (acts c p numbers i ≡ moved (called c p x.shard x.server x.call) (numbers_after numbers i))
acts_by_call c p numbers (PrepareAdd s v u) x e = (tt, ap (λ (o : Option ServerCall). calls c p (numbers_after numbers (PrepareAdd s v u)) o) e)
acts_by_call c p numbers (PrepareDrop s u v) x e = (tt, ap (λ (o : Option ServerCall). calls c p numbers o) e)
acts_by_call c p numbers (Add s v role) x e = (tt, ap (λ (o : Option ServerCall). calls c p numbers o) e)
acts_by_call c p numbers (Drop s v) x e = (tt, ap (λ (o : Option ServerCall). calls c p numbers o) e)
acts_by_call c p numbers (Change s v to) x e = (tt, ap (λ (o : Option ServerCall). calls c p numbers o) e)
acts_by_call c p numbers (Publish s) x e = cc
acts_by_call c p numbers (Unlist s) x e = cc
acts_by_call c p numbers (Signal k) x e = cc
acts_by_call c p numbers (Wait k) x e = cc

-- a call that moves a placement is served
moved_by : (r : Result Place Refusal) (numbers next : ℕ → ℕ) (q : Place) → moved r numbers ≡ Some (q, next) → r ≡ Ok q
moved_by (Ok p) numbers next q e =
    let pair : ◌≡◌ {A = Place × (ℕ → ℕ)} (p, numbers) (q, next) = cc in
    ap (λ (z : Place × (ℕ → ℕ)). Ok z.0) pair
moved_by (Err why) numbers next q e = cc

-- a call under a number that isn't the last one of its cell has the effect of its instruction
pub numbered_effect : (c : Sizes) (p : Place) (leads : ℕ → Lead) (numbers : ℕ → ℕ) (signals : ℕ → Rights) (h h' : Hold) (i : Instr) (x : ServerCall) (number : ℕ) →
    IsScene c p leads numbers h → IsReachable c p i → after c signals i h ≡ Ok h' → next_call numbers i ≡ Some x → number ≢ p.last x.shard x.server →
    NumberedEffect c p leads numbers h h' i x number
numbered_effect c p leads numbers signals h h' i x number sc at e call apart =
    let by = acts_by_call c p numbers i x call in
    let f = effect c p leads numbers signals h sc i h' at by.0 e in
    let q = f.next_place in
    let served = moved_by (called c p x.shard x.server x.call) (numbers_after numbers i) f.next_numbers q (sym by.1 ∙ f.made) in
    record {
      effect = f;
      called = served;
      answered = numbered_first c p x.shard x.server x.call number q apart served;
      scene = (lasts_are_unseen c q (put2 q.last x.shard x.server number)).scene f.next_leads f.next_numbers h' f.scene;
    }
