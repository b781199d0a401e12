-- Instructions that are written are read as themselves.
use Rattle.std.proofs.Common.{◌≡◌, ◌<◌, ◌≤◌, arith, ℕ, List, [], length, Some, unwrap_or, is_some, lt-ltb, refl, ap, ap₂}
use Rattle.std.proofs.lemmas.Bool.Decides.{nat_tests}
use Rattle.sm_server.specs.declared.call.Role.{Role}
use Rattle.sm_server.specs.declared.call.Role.TheVariants.{Primary, Secondary}
use Rattle.sm_plan_code.specs.declared.instruction.Instr.{Instr}
use Rattle.sm_plan_code.specs.declared.instruction.Instr.TheVariants as instr
use Rattle.sm_plan_code.specs.Plan.{IsKnownInstr, KnowsSignal}
use Rattle.sm_plan_code.specs.declared.limits.TheConstants.{MOST_SIGNALS}
use Rattle.sm_plan_text.specs.declared.member.Member.{Member}
use Rattle.sm_plan_text.specs.declared.member.Member.TheVariants.{Shard, Server, Other, Role as RoleMember, To, Signal}
use Rattle.sm_plan_text.specs.Values.{role_named, under, id_of}
use Rattle.sm_plan_text.specs.Tables.{text_fault, below_fault}
use Rattle.sm_plan_text.specs.Instructions.{instr_faults, instr_in}
use Rattle.sm_plan_text.specs.PlanTexts.{role_text, instr_data}
use Rattle.sm_plan_text.proofs.NamesBack.{LeadBack, id_read, named, no_faults, three}

role_no_fault : (m : Member) (role : Role) → text_fault m (λ s. is_some (role_named s)) (Some (role_text role)) ≡ []
role_no_fault m Primary = refl
role_no_fault m Secondary = refl

role_read : (role : Role) → unwrap_or (role_named (role_text role)) Secondary ≡ role
role_read Primary = refl
role_read Secondary = refl

signal_no_fault : (n k : ℕ) → k < n → below_fault Signal n (Some k) ≡ []
signal_no_fault n k h = rw (lt-ltb k n h) refl

signal_read : (n k : ℕ) → n ≤ MOST_SIGNALS → k < n → id_of (under n k) ≡ k
signal_read n k few h = grind (arith, nat_tests)

-- an instruction that is written has no fault
pub instr_no_fault : (shards servers : List (List ℕ)) (signals : ℕ) (i : Instr) → LeadBack shards → LeadBack servers → IsKnownInstr (length shards) (length servers) i → KnowsSignal signals i → instr_faults shards servers signals [] (instr_data shards servers i) ≡ []
instr_no_fault shards servers signals (instr.PrepareAdd s v u) a b (h, k, j) known = no_faults _ _ (named Shard shards s a h) (no_faults _ _ (named Server servers v b k) (no_faults _ _ (named Other servers u b j) refl))
instr_no_fault shards servers signals (instr.PrepareDrop s u v) a b (h, k, j) known = no_faults _ _ (named Shard shards s a h) (no_faults _ _ (named Server servers u b k) (no_faults _ _ (named Other servers v b j) refl))
instr_no_fault shards servers signals (instr.Add s v role) a b (h, k, j) known = no_faults _ _ (named Shard shards s a h) (no_faults _ _ (named Server servers v b k) (no_faults _ _ (role_no_fault RoleMember role) refl))
instr_no_fault shards servers signals (instr.Drop s v) a b (h, k, j) known = no_faults _ _ (named Shard shards s a h) (no_faults _ _ (named Server servers v b k) refl)
instr_no_fault shards servers signals (instr.Change s v to) a b (h, k, j) known = no_faults _ _ (named Shard shards s a h) (no_faults _ _ (named Server servers v b k) (no_faults _ _ (role_no_fault To to) refl))
instr_no_fault shards servers signals (instr.Publish s) a b (h, k, j) known = no_faults _ _ (named Shard shards s a h) refl
instr_no_fault shards servers signals (instr.Unlist s) a b (h, k, j) known = no_faults _ _ (named Shard shards s a h) refl
instr_no_fault shards servers signals (instr.Signal k) a b h known = no_faults _ _ (signal_no_fault signals k known) refl
instr_no_fault shards servers signals (instr.Wait k) a b h known = no_faults _ _ (signal_no_fault signals k known) refl

-- an instruction that is written is read as that instruction
pub instr_back : (shards servers : List (List ℕ)) (signals : ℕ) (i : Instr) → signals ≤ MOST_SIGNALS → LeadBack shards → LeadBack servers → IsKnownInstr (length shards) (length servers) i → KnowsSignal signals i → instr_in shards servers signals (instr_data shards servers i) ≡ i
instr_back shards servers signals (instr.PrepareAdd s v u) few a b (h, k, j) known = three instr.PrepareAdd _ _ _ _ _ _ (id_read shards s a h) (id_read servers v b k) (id_read servers u b j)
instr_back shards servers signals (instr.PrepareDrop s u v) few a b (h, k, j) known = three instr.PrepareDrop _ _ _ _ _ _ (id_read shards s a h) (id_read servers u b k) (id_read servers v b j)
instr_back shards servers signals (instr.Add s v role) few a b (h, k, j) known = three instr.Add _ _ _ _ _ _ (id_read shards s a h) (id_read servers v b k) (role_read role)
instr_back shards servers signals (instr.Drop s v) few a b (h, k, j) known = ap₂ instr.Drop (id_read shards s a h) (id_read servers v b k)
instr_back shards servers signals (instr.Change s v to) few a b (h, k, j) known = three instr.Change _ _ _ _ _ _ (id_read shards s a h) (id_read servers v b k) (role_read to)
instr_back shards servers signals (instr.Publish s) few a b (h, k, j) known = ap instr.Publish (id_read shards s a h)
instr_back shards servers signals (instr.Unlist s) few a b (h, k, j) known = ap instr.Unlist (id_read shards s a h)
instr_back shards servers signals (instr.Signal k) few a b h known = ap instr.Signal (signal_read signals k few known)
instr_back shards servers signals (instr.Wait k) few a b h known = ap instr.Wait (signal_read signals k few known)
