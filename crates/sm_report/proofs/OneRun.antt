-- The report of a run without asks is one, if the run has come to its end: what is told of the plan's streams is told of the plan, and the
-- placement at the end is that of the plan, whatever the schedule was.
use Rattle.std.proofs.Common.{◌≡◌, ◌≢◌, ◌∙◌, ◌++◌, ◌∷◌, [], ℕ, Bool, List, Option, Result, Ok, Err, map, refl, sym, ap, subst, inl, inr}
use Rattle.std.proofs.Math.Path.{fun_ext}
use Rattle.sm_server.specs.declared.call.Cell.{Cell}
use Rattle.sm_placement.specs.Setup.{Setup, Sizes, sizes_of}
use Rattle.sm_placement.specs.Place.{Place}
use Rattle.sm_plan_code.specs.Plan.{PlanModel}
use Rattle.sm_protocol.specs.State.{State, Start, opened, plan_at}
use Rattle.sm_verifier.specs.PlanEnd.{ends_of}
use Rattle.sm_plan_text.specs.declared.member.Member.TheVariants as member
use Rattle.sm_plan_text.specs.Documents.{DocumentModel}
use Rattle.sm_executor.specs.Clients.{ClientModel}
use Rattle.sm_executor.proofs.Leading.{sizes_stay, opening_stays}
use Rattle.sm_report.specs.declared.status.Status.TheVariants as status
use Rattle.sm_report_text.specs.Checking.{accepted_line}
use Rattle.sm_report_text.specs.Ending.{ending}
use Rattle.sm_report.specs.Report.{Output, done}
use Rattle.sm_report.specs.RunLines.{run_lines, client_lines}
use Rattle.sm_report.specs.Running.{WasRun, WasRunOrNot, IsStartedForRun, IsLoggedForRun, IsPlacedForRun, IsOpenedForRun, IsRunReport}
use Rattle.sm_report.specs.Stages.{Then, member_stage, placement_stage, log_stage, start_stage, AtCheck}
use Rattle.sm_report.proofs.OneReport.{IsOneCheck, fault_one, fault_alone}

-- ---- the placement at the end

-- placements that differ in nothing but last numbers and limits have the same lines
same_ending : (setup : Setup) (p q : Place) → p.cells ≡ q.cells → p.down ≡ q.down → p.listed ≡ q.listed → p.version ≡ q.version → ending setup p ≡ ending setup q
same_ending setup p q cells down listed version =
    ap (λ (x : ℕ → ℕ → Cell). ending setup (record p { cells = x })) cells
    ∙ ap (λ (x : ℕ → Bool). ending setup (record p { cells = q.cells; down = x })) down
    ∙ ap (λ (x : ℕ → Option ℕ). ending setup (record p { cells = q.cells; down = q.down; listed = x })) listed
    ∙ ap (λ (x : ℕ → ℕ). ending setup (record p { cells = q.cells; down = q.down; listed = q.listed; version = x })) version

-- the end of the plans that have begun, with those down that were so at the opening
abbrev end_place : State → Place
end_place begun = record (ends_of begun.sizes (map (λ (x : Start). x.plan) begun.plans) begun.opening) { down = begun.opening.down }

-- no client has asked for nothing
no_clients : (clients : List ClientModel) → map (λ (client : ClientModel). client.shard) clients ≡ [] → clients ≡ []
no_clients [] e = refl
no_clients (x ∷ xs) e = absurd (cc)

-- the report of a run without asks hangs on the start alone
run_is : (begun : State) (setup : Setup) (output : Output) → WasRun begun setup [] output
    → output ≡ done (accepted_line (plan_at begun 0) ++ run_lines (plan_at begun 0) ++ client_lines setup 0 [] ++ ending setup (end_place begun))
run_is begun setup output was =
    let now = was.now in
    let goes_on = was.closed.state.state.goes_on in
    let place = λ (c : Sizes) (ps : List Start) (o : Place). ends_of c (map (λ (x : Start). x.plan) ps) o in
    let same : place now.sizes now.plans now.opening ≡ place begun.sizes begun.plans begun.opening =
    ap (λ (c : Sizes). place c now.plans now.opening) (sizes_stay begun now goes_on)
    ∙ ap (λ (ps : List Start). place begun.sizes ps now.opening) was.alone
    ∙ ap (λ (o : Place). place begun.sizes begun.plans o) (opening_stays begun now goes_on) in
    let cells : now.place.cells ≡ (end_place begun).cells = fun_ext (λ s. fun_ext (λ v. was.closed.state.at_ends.cells s v)) ∙ ap (λ (p : Place). p.cells) same in
    let listed : now.place.listed ≡ (end_place begun).listed = fun_ext (λ s. was.closed.state.at_ends.listed s) ∙ ap (λ (p : Place). p.listed) same in
    let version : now.place.version ≡ (end_place begun).version = fun_ext (λ s. was.closed.state.at_ends.version s) ∙ ap (λ (p : Place). p.version) same in
    let down : now.place.down ≡ (end_place begun).down = fun_ext (λ v. was.down v) in
    was.told
    ∙ ap (λ (clients : List ClientModel). done (accepted_line (plan_at begun 0) ++ run_lines (plan_at begun 0) ++ client_lines setup 0 clients ++ ending setup now.place)) (no_clients was.clients was.shards)
    ∙ ap (λ (text : List ℕ). done (accepted_line (plan_at begun 0) ++ run_lines (plan_at begun 0) ++ client_lines setup 0 [] ++ text)) (same_ending setup now.place (end_place begun) cells down listed version)

-- ---- each stage

-- of the reports that do not say why a plan was not run to its end, there is one at most of which this holds
abbrev IsOneRun : (Output → Type 0) → Type 0
IsOneRun Is = (a b : Output) → a.status ≢ status.NoThread → b.status ≢ status.NoThread → Is a → Is b → a ≡ b

then_one_run : {A : Type 0} (stage : Result A Output) (Next : A → Output → Type 0) → ((found : A) → IsOneRun (Next found)) → IsOneRun (Then stage Next)
then_one_run (Ok found) Next one = one found
then_one_run (Err ending) Next one = λ a b m n x y. x ∙ sym y

check_one_run : IsOneCheck → (c : Sizes) (plan : PlanModel) (Next : Output → Type 0) → IsOneRun Next → IsOneRun (AtCheck c [] plan Next)
check_one_run check c plan Next one a b m n (inl x) (inl y) = fault_one check c [] plan a b x y
check_one_run check c plan Next one a b m n (inl x) (inr y) = absurd (fault_alone check c [] plan a x y.0)
check_one_run check c plan Next one a b m n (inr x) (inl y) = absurd (fault_alone check c [] plan b y x.0)
check_one_run check c plan Next one a b m n (inr x) (inr y) = one a b m n x.1 y.1

-- the plan has begun and no ask is made beside it
run_one : (begun : State) (setup : Setup) → IsOneRun (WasRunOrNot begun setup [])
run_one begun setup a b m n (inl x) (inl y) = run_is begun setup a x ∙ sym (run_is begun setup b y)
run_one begun setup a b m n (inr x) y = absurd (m (ap (λ (o : Output). o.status) x.1))
run_one begun setup a b m n (inl x) (inr y) = absurd (n (ap (λ (o : Output). o.status) y.1))

-- ---- the command

-- the report of the plan of a document without asks, if it has come to its end, is one
pub one_run : IsOneCheck → (d : DocumentModel) (a b : Output) → d.asks ≡ [] → IsRunReport d a → IsRunReport d b → a.status ≢ status.NoThread → b.status ≢ status.NoThread → a ≡ b
one_run check d a b none x y m n =
    then_one_run (member_stage member.Plan d.plan) (IsOpenedForRun d) (λ plan.
    then_one_run (placement_stage d) (IsPlacedForRun d plan) (λ p.
    then_one_run (log_stage d p) (IsLoggedForRun d plan p) (λ room.
    check_one_run check (sizes_of d.setup) plan _ (started plan p)))) a b m n x y
  where
    started : (plan : PlanModel) (p : Place) → IsOneRun (IsStartedForRun (opened (sizes_of d.setup) p d.log) d.setup plan d.asks)
    started plan p =
        subst (λ (asks : List ℕ). IsOneRun (IsStartedForRun (opened (sizes_of d.setup) p d.log) d.setup plan asks)) (sym none)
        (then_one_run (start_stage d.setup (opened (sizes_of d.setup) p d.log) plan) (λ begun. WasRunOrNot begun d.setup []) (λ begun. run_one begun d.setup))
