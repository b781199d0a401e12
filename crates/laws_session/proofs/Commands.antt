-- Commands on drivers that are alike: what a change makes of them is determined.
use Rattle.std.proofs.Common.{◌≡◌, ◌∙◌, ℕ, true, false, List, Option, Some, Result, Ok, ap₂, bytes_eq, refl, subst, subst₂, sym}
use Rattle.std.proofs.lemmas.Slice.Eq.{bytes_eq-Decides}
use Rattle.serde_json.specs.Data.{Data}
use Rattle.json_tree.specs.View.{view}
use Rattle.sm_placement.specs.Setup.{Setup, names_of_servers, names_of_shards, server_named, shard_named}
use Rattle.sm_reservation.specs.declared.stream_id.StreamId.{StreamId}
use Rattle.sm_plan_code.specs.Plan.{PlanModel}
use Rattle.sm_plan_text.specs.Reading.{read_plan_data}
use Rattle.sm_driver.specs.Alike.{AreAlike, EachAlike, GoAlike}
use Rattle.sm_driver.specs.Copies.{HasNotedCopies}
use Rattle.sm_driver.specs.declared.copies.ToldCopies.{ToldCopies}
use Rattle.sm_driver.specs.Driver.{DriverModel, HasApproved, HasBegunPlan, HasRestored}
use Rattle.smpland_lines.specs.Lines.{Says}
use Rattle.smpland_lines.specs.declared.command.LineCommand.TheVariants as line
use Rattle.smpland_lines.specs.declared.command.DriverCommand.{DriverCommand}
use Rattle.smpland_lines.specs.declared.command.DriverCommand.TheVariants as driver
use Rattle.smpland_session.specs.Asked.{ApprovesRestartOf, BeginsPlanOf, DoesToDriver, NotesCopiesOf, RestoresServerOf, SaysPlan, TakesAnswerOf}
use Rattle.smpland_session.specs.Changes.{EndsRestart}

-- ---- one value

-- an option has one value
pub one_value : {A : Type 0} (x : Option A) (a b : A) → x ≡ Some a → x ≡ Some b → b ≡ a
one_value {A} x a b e f = let z : ◌≡◌ {A = Option A} (Some b) (Some a) = sym f ∙ e in cc

-- a result has one value
pub one_result : {A E : Type 0} (x : Result A E) (a b : A) → x ≡ Ok a → x ≡ Ok b → b ≡ a
one_result {A} {E} x a b e f = let z : ◌≡◌ {A = Result A E} (Ok b) (Ok a) = sym f ∙ e in cc

-- texts that differ are not both one text
pub apart : {A : Type 0} (a b : List ℕ) → ◌≡◌ {A = Option (List ℕ)} (Some a) (Some b) → bytes_eq a b ≡ false → A
apart a b same differ = absurd (let z : true ≡ false = sym ((bytes_eq-Decides a b).1 (one_value (Some b) b a refl (sym same))) ∙ differ in cc)

-- ---- commands

one_plan : (s t : Setup) (v w : Data) (plan other : PlanModel) → t ≡ s → w ≡ v → SaysPlan s v plan → SaysPlan t w other → other ≡ plan
one_plan s t v w plan other rows values x y =
    one_result (read_plan_data (names_of_shards s) (names_of_servers s) (Some v)) plan other x
    (subst₂ (λ (rows : Setup) (value : Data). SaysPlan rows value other) rows values y)

begin_alike : EachAlike GoAlike → (v w : Data) (d e new next : DriverModel) → w ≡ v → AreAlike d e → BeginsPlanOf v d new → BeginsPlanOf w e next → AreAlike new next
begin_alike go v w d e new next values is x y =
    let plans = one_plan d.machine.placement.setup e.machine.placement.setup v w x.0 y.0 is.setup values x.2 y.2 in
    ((go d e is).begun x.0 x.1 y.1 new next x.5 (subst (λ (plan : PlanModel). HasBegunPlan plan y.1 e next) plans y.5)).1

one_server : (s t : Setup) (name other : List ℕ) (u v : ℕ) → t ≡ s → other ≡ name → server_named s name ≡ Some u → server_named t other ≡ Some v → v ≡ u
one_server s t name other u v rows names x y =
    one_value (server_named s name) u v x (subst₂ (λ (rows : Setup) (n : List ℕ). server_named rows n ≡ Some v) rows names y)

approve_alike : EachAlike GoAlike → (name other : List ℕ) (d e new next : DriverModel) → other ≡ name → AreAlike d e → ApprovesRestartOf name d new →
    ApprovesRestartOf other e next → AreAlike new next
approve_alike go name other d e new next names is x y =
    let server = one_server d.machine.placement.setup e.machine.placement.setup name other x.0 y.0 is.setup names x.2 y.2 in
    ((go d e is).approved x.0 x.1 y.1 new next x.4 (subst (λ v. HasApproved v y.1 e next) server y.4)).1

restore_alike : EachAlike GoAlike → (name other : List ℕ) (nonce : ℕ) (d e new next : DriverModel) → other ≡ name → AreAlike d e → RestoresServerOf name nonce d new →
    RestoresServerOf other nonce e next → AreAlike new next
restore_alike go name other nonce d e new next names is x y =
    let server = one_server d.machine.placement.setup e.machine.placement.setup name other x.0 y.0 is.setup names x.1 y.1 in
    (go d e is).restored x.0 nonce new next x.2 (subst (λ v. HasRestored v nonce e next) server y.2)

one_shard : (s t : Setup) (name other : List ℕ) (u v : ℕ) → t ≡ s → other ≡ name → shard_named s name ≡ Some u → shard_named t other ≡ Some v → v ≡ u
one_shard s t name other u v rows names x y =
    one_value (shard_named s name) u v x (subst₂ (λ (rows : Setup) (n : List ℕ). shard_named rows n ≡ Some v) rows names y)

copied_alike : EachAlike GoAlike → (name other : List ℕ) (told tells : ToldCopies) (d e new next : DriverModel) → other ≡ name → tells.copies ≡ told.copies → AreAlike d e →
    NotesCopiesOf name told d new → NotesCopiesOf other tells e next → AreAlike new next
copied_alike go name other told tells d e new next names same is x y =
    let shard = one_shard d.machine.placement.setup e.machine.placement.setup name other x.0 y.0 is.setup names x.1 y.1 in
    (go d e is).noted x.0 told.copies new next x.2.2 (subst₂ (λ (s copies : ℕ). HasNotedCopies s copies e next) shard same y.2.2)

-- a stream of a plan
abbrev stream_of : ℕ → ℕ → StreamId
stream_of plan stream = record { plan = plan; stream = stream }

-- ---- all commands

-- Commands that one value says make drivers that are alike of drivers that are alike.
pub change_alike : EachAlike GoAlike → (value : Data) (c k : DriverCommand) (d e new next : DriverModel) → Says value (line.Driver c) → Says value (line.Driver k) →
    AreAlike d e → DoesToDriver c d new → DoesToDriver k e next → AreAlike new next
change_alike go value (driver.Begin plan name) (driver.Begin plan2 name2) d e new next one two is x y =
    begin_alike go (view plan.now) (view plan2.now) d e new next (one_value _ _ _ one.1.0 two.1.0) is x y
change_alike go value (driver.Answered plan stream number) (driver.Answered plan2 stream2 number2) d e new next one two is x y =
    (go d e is).taken (stream_of plan stream) new next x.1
    (subst (λ (id : StreamId). TakesAnswerOf id number2 e next) (ap₂ stream_of (one_value _ _ _ one.1.0 two.1.0) (one_value _ _ _ one.1.1 two.1.1)) y).1
change_alike go value (driver.Approve server by) (driver.Approve server2 by2) d e new next one two is x y =
    approve_alike go server.now server2.now d e new next (one_value _ _ _ one.1.0 two.1.0) is x y
change_alike go value (driver.Restarted permit base) (driver.Restarted permit2 base2) d e new next one two is x y =
    let same : EndsRestart permit base e next =
    subst₂ (λ (n : ℕ) (b : Option ℕ). EndsRestart n b e next) (one_value _ _ _ one.1.0 two.1.0) (sym two.1.1 ∙ one.1.1) y in
    ((go d e is).ended x.0 same.0 permit base new next x.1 same.1).1
change_alike go value (driver.Restore server nonce) (driver.Restore server2 nonce2) d e new next one two is x y =
    restore_alike go server.now server2.now nonce d e new next (one_value _ _ _ one.1.0 two.1.0) is x
    (subst (λ n. RestoresServerOf server2.now n e next) (one_value _ _ _ one.1.1 two.1.1) y)
change_alike go value driver.NewEpoch driver.NewEpoch d e new next one two is x y = (go d e is).opened new next x.1 y.1
change_alike go value (driver.Copied shard journal fence copies) (driver.Copied shard2 journal2 fence2 copies2) d e new next one two is x y =
    copied_alike go shard.now shard2.now _ _ d e new next (one_value _ _ _ one.1.0 two.1.0) (one_value _ _ _ one.1.3 two.1.3) is x y
change_alike go value _ _ d e new next one two is x y = apart _ _ (sym one.0 ∙ two.0) refl
