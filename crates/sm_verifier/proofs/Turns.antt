-- Instructions in their turn: in a good stream, and in a plan whose servers are up.
use Rattle.std.proofs.Common.{◌≡◌, ℕ, ◌+◌, ◌<◌, ◌≤◌, suc, add-one, Option, Some, Result, Ok, Err, length, get_or, refl, ap, ◌∙◌, inl, inr, arith}
use Rattle.std.specs.Prelude.{IfSome, IsOk, slice_get}
use Rattle.std.specs.List.{count_by}
use Rattle.std.proofs.lemmas.List.Sums.{sum_by-take-le}
use Rattle.std.proofs.lemmas.List.Elements.{Contains-get_or}
use Rattle.std.proofs.lemmas.Option.{slice_get_within, get_or_from_slice_get}
use Rattle.sm_placement.specs.Setup.{Sizes}
use Rattle.sm_placement.specs.Place.{Place}
use Rattle.sm_reservation.specs.Hold.{Hold}
use Rattle.sm_plan_code.specs.declared.instruction.Instr.{Instr}
use Rattle.sm_plan_code.specs.declared.instruction.Why.{Why}
use Rattle.sm_plan_code.specs.Instr.{is_call, names_of, Mentions}
use Rattle.sm_plan_code.specs.Plan.{PlanModel, IsKnownInstr, IsKnownPlan}
use Rattle.sm_plan_code.specs.Effects.{IsReachable}
use Rattle.sm_verifier.specs.Stream.{Course, hold_before, calls_before, IsGood, no_stream}
use Rattle.sm_verifier.specs.Order.{code_at}
use Rattle.sm_verifier.specs.Admission.{AreUp}
use Rattle.sm_verifier.specs.Turn.{IsInTurn}
use Rattle.sm_verifier.proofs.Streams.{said_of, one_more, next_hold}
use Rattle.sm_verifier.proofs.Once.{code_known}

-- ---- in a good stream

ok_is : (said : Result Hold Why) → IsOk said → (h : Hold) × (said ≡ Ok h)
ok_is (Ok h) ok = (h, refl)
ok_is (Err why) ok = cc

-- each instruction leads from the hold before it to the one before the next, within the budget
pub in_turn : (s : Course) (p : ℕ) (i : Instr) → IsGood s → slice_get s.code p ≡ Some i → IsInTurn s p i
in_turn s p i good e =
    let said = ok_is (said_of s i (hold_before s p)) (rw e at (good.made p)) in
    let more : calls_before s (suc p) ≡ calls_before s p + _ = rw add-one at (one_more s p i e) in
    let most : calls_before s (suc p) ≤ count_by is_call s.code = sum_by-take-le _ s.code (suc p) in
    let budget = good.within in
    record {
      leaves = said.1 ∙ ap (λ h. Ok h) (next_hold s p i said.0 e said.1);
      calls = more;
      within = omega arith;
    }

-- ---- in a plan whose servers are up

one_of : (names : Option ℕ) (P : ℕ → Type 0) (v : ℕ) → IfSome names P → names ≡ Some v → P v
one_of names P v all e = rw e at all

mentioned_known : (shards servers : ℕ) (instr : Instr) → IsKnownInstr shards servers instr → (v : ℕ) → Mentions (names_of instr) v → v < servers
mentioned_known shards servers instr fits v (inl first) = one_of (names_of instr).first (λ v. v < servers) v fits.1 first
mentioned_known shards servers instr fits v (inr second) = one_of (names_of instr).second (λ v. v < servers) v fits.2 second

-- each instruction of a plan of the configuration can be made, where the servers that are mentioned are up
pub reachable : (c : Sizes) (p : Place) (plan : PlanModel) (i at : ℕ) (instr : Instr) → IsKnownPlan c.shards c.servers plan → AreUp p plan.streams → slice_get (code_at plan i) at ≡ Some instr → IsReachable c p instr
reachable c p plan i at instr fits up e =
    let known : i < length plan.streams = code_known plan i at instr e in
    let within : at < length (code_at plan i) = slice_get_within (code_at plan i) at instr e in
    let is = get_or_from_slice_get (code_at plan i) at instr instr e in
    let own : IsKnownInstr c.shards c.servers instr = rw is at ((fits.streams i no_stream known).code at instr within) in
    record {
      shard = own.0;
      known = mentioned_known c.shards c.servers instr own;
      up = λ v mentioned. up v (get_or plan.streams i no_stream, instr, Contains-get_or plan.streams i no_stream known, rw is at (Contains-get_or (code_at plan i) at instr within), mentioned);
    }
