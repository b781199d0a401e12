-- The names of a document's calls and asks are known at the placement that it opens.
use Rattle.std.proofs.Common.{◌≡◌, ◌<◌, ◌∙◌, ℕ, List, length, Option, Some, None, Ok, subst, sym}
use Rattle.std.specs.Prelude.{All, IfSome, option_map}
use Rattle.sm_placement.specs.Setup.{Setup}
use Rattle.sm_plan_text.specs.Calls.{NamedCall}
use Rattle.sm_plan_text.specs.declared.member.Member.{Member}
use Rattle.sm_report.specs.Answers.{IsKnownNamed}
use Rattle.sm_report.specs.Stages.{member_stage}

-- asks that are known at a setup are so at one that is the same
pub asks_known : (setup placed : Setup) (asks : List ℕ) → placed ≡ setup →
    All (λ shard. shard < length setup.shards) asks → All (λ shard. shard < length placed.shards) asks
asks_known setup placed asks same known = subst (λ (s : Setup). All (λ shard. shard < length s.shards) asks) (sym same) known

-- what holds of the list of a member holds of the one that was found
found_holds : {V : Type 0} (items : V → List NamedCall) (P : List NamedCall → Type 0) (m : Member) (found : V) (value : Option V) →
    member_stage m value ≡ Ok found → IfSome (option_map items value) P → P (items found)
found_holds items P m found None e holds = absurd (let z = e in cc)
found_holds items P m found (Some v) e holds =
    let same : v ≡ found = (let z = e in cc) in
    subst (λ u. P (items u)) same holds

-- the calls of a document that were taken out of it are known at the placement that it opens
pub calls_known : {V : Type 0} (items : V → List NamedCall) (m : Member) (before taken : Option V) (found : V) (listed : List NamedCall) (setup placed : Setup) →
    taken ≡ before → member_stage m taken ≡ Ok found → listed ≡ items found → placed ≡ setup →
    IfSome (option_map items before) (All (IsKnownNamed setup)) → All (IsKnownNamed placed) listed
calls_known items m before taken found listed setup placed was is has same known =
    let of_found : All (IsKnownNamed setup) (items found) =
    found_holds items (All (IsKnownNamed setup)) m found before (subst (λ o. member_stage m o ≡ Ok found) was is) known in
    subst (λ (s : Setup). All (IsKnownNamed s) listed) (sym same) (subst (All (IsKnownNamed setup)) (sym has) of_found)
