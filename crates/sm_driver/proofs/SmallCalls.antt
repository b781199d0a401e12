-- The handover numbers of calls and the versions of entries are far below what a word has room for.
use Rattle.std.proofs.Common.{◌≡◌, ◌≤◌, ◌<◌, ℕ, suc, Option, Some, None, arith, refl, subst}
use Rattle.std.specs.Prelude.{IfSome}
use Rattle.sm_plan_code.specs.declared.instruction.Instr.{Instr}
use Rattle.sm_plan_code.specs.declared.instruction.Instr.TheVariants as instr
use Rattle.sm_plan_code.specs.declared.call.ServerCall.{ServerCall}
use Rattle.sm_plan_code.specs.Acts.{next_call}
use Rattle.sm_plan_code.specs.After.{to_list}
use Rattle.sm_plan_code.specs.Instr.{shard_of}
use Rattle.sm_reservation.specs.Pool.{leads_of}
use Rattle.sm_reservation.specs.declared.stream_id.StreamId.{StreamId}
use Rattle.sm_protocol.specs.State.{State, numbers_end}
use Rattle.sm_protocol.specs.Next.{call_under, instruction_before, next_call_of}
use Rattle.sm_placement.specs.Setup.{Setup}
use Rattle.sm_placement.specs.declared.limits.TheConstants.{VERSIONS_END}
use Rattle.sm_placement.specs.declared.entry.Entry.{Entry}
use Rattle.sm_protocol.specs.Laws.{IsReached}
use Rattle.sm_protocol.specs.Next.{entry_by, next_entry_of}
use Rattle.sm_protocol.proofs.SmallNumbers.{numbers_stay_small}
use Rattle.sm_machine.proofs.StandsBefore.{before_of}
use Rattle.sm_machine.proofs.ties.Before.{can_reach, kept}
use Rattle.sm_driver.specs.Orders.{handover_of}

-- the call's handover number is no more than the end of those that are recorded
abbrev pub IsSmallCall : ServerCall → Type 0
IsSmallCall x = handover_of x.call ≤ numbers_end

of_instruction : (numbers : ℕ → ℕ) → ((s : ℕ) → numbers s < numbers_end) → (i : Instr) → IfSome (next_call numbers i) IsSmallCall
of_instruction numbers small (instr.PrepareAdd s v u) = let l = small s in omega arith
of_instruction numbers small (instr.PrepareDrop s u v) = let l = small s in omega arith
of_instruction numbers small (instr.Add s v role) = omega arith
of_instruction numbers small (instr.Drop s v) = omega arith
of_instruction numbers small (instr.Change s v to) = omega arith
of_instruction numbers small (instr.Publish s) = tt
of_instruction numbers small (instr.Unlist s) = tt
of_instruction numbers small (instr.Signal q) = tt
of_instruction numbers small (instr.Wait q) = tt

of_next : (numbers : ℕ → ℕ) → ((s : ℕ) → numbers s < numbers_end) → (o : Option Instr) → IfSome (call_under numbers o) IsSmallCall
of_next numbers small None = tt
of_next numbers small (Some i) = of_instruction numbers small i

-- the call that a stream stands before has a small handover number
pub next_is_small : (w : State) (id : StreamId) (x : ServerCall) → ((s : ℕ) → w.numbers s < numbers_end) → next_call_of w id ≡ Some x → IsSmallCall x
next_is_small w id x small e = subst (λ o. IfSome o IsSmallCall) e (of_next w.numbers small (instruction_before w id))

-- the entry that a stream stands before has a small version
pub entry_is_small : (setup : Setup) (w : State) → IsReached setup w → (id : StreamId) (x : ℕ × Entry) → next_entry_of w id ≡ Some x → x.1.version ≤ VERSIONS_END
entry_is_small setup w reached id x e = go (instruction_before w id) refl e
  where
    known : (i : Instr) → instruction_before w id ≡ Some i → IfSome (shard_of i) (λ s. s < w.sizes.shards)
    known i is = (can_reach w (kept setup w reached) id i (before_of w id i is)).shard

    after : (s : ℕ) (server : Option ℕ) → s < w.sizes.shards → Some (s, record { server = server; version = suc (w.place.version s) }) ≡ Some x → x.1.version ≤ VERSIONS_END
    after s server l same =
        let small = (numbers_stay_small setup w reached).versions s l in
        subst (λ o. IfSome o (λ y. y.1.version ≤ VERSIONS_END)) same (omega arith)

    go : (o : Option Instr) → instruction_before w id ≡ o → entry_by w o ≡ Some x → x.1.version ≤ VERSIONS_END
    go (Some (instr.Publish s)) is same = after s (to_list (leads_of w.sizes w.place s)) (known (instr.Publish s) is) same
    go (Some (instr.Unlist s)) is same = after s None (known (instr.Unlist s) is) same
    go None is same = absurd (cc)
    go (Some i) is same = absurd (cc)
