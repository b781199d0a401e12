-- The stages of a report of events: each plan passes the check, and the plan of a document that has one begins.
use Rattle.std.proofs.Common.{◌≡◌, ◌<◌, ◌≤◌, ◌∙◌, ◌+◌, ◌++◌, ℕ, zero, suc, Bool, false, List, [], ◌∷◌, Option, Some, None, Result, Err, length, map, take, drop, drop-cons, inl, inr, refl, sym, ap, subst, arith}
use Rattle.std.specs.Prelude.{IfErr, IfSome, option_map, slice_index_or}
use Rattle.std.specs.List.{remove}
use Rattle.std.proofs.Math.Seq.{take-suc}
use Rattle.std.proofs.lemmas.List.{map-append}
use Rattle.sm_verifier.specs.Checked.{CheckedModel}
use Rattle.sm_machine.specs.Hand.{AreFor, hand_plan}
use Rattle.sm_placement.specs.Setup.{Setup, Sizes, sizes_of}
use Rattle.sm_placement.specs.Place.{Place}
use Rattle.sm_protocol.specs.declared.event.Event.{Event}
use Rattle.sm_plan_code.specs.Plan.{PlanModel}
use Rattle.sm_verifier.specs.Plan.{IsSound}
use Rattle.sm_report.specs.declared.stop.Stop.{Stop}
use Rattle.sm_report.specs.Stop.{IfEnded, IfMade}
use Rattle.sm_report_text.specs.Checking.{accepted_line}
use Rattle.sm_report.specs.Playing.{Scene, opened_scene}
use Rattle.sm_report_text.specs.EventLines.{plan_front}
use Rattle.sm_report.specs.Report.{Output}
use Rattle.sm_report.specs.Stages.{Then, begin_stage, AtChecks, IsFaultReport}
use Rattle.sm_report.specs.Output.{played_output, IsPlayedOutput}
use Rattle.sm_report.proofs.Onward.{ended_weaker, made_weaker}

-- what is said of the report behind the checks is said in weaker words
pub checks_weaker : (c : Sizes) (many : Bool) (P Q : Output → Type 0) → ((output : Output) → P output → Q output) → (k : ℕ) (plans : List PlanModel) (output : Output) →
    AtChecks c many k plans P output → AtChecks c many k plans Q output
checks_weaker c many P Q weaker k [] output h = weaker output h
checks_weaker c many P Q weaker k (plan ∷ plans) output (inl fault) = inl fault
checks_weaker c many P Q weaker k (plan ∷ plans) output (inr h) = inr (h.0, checks_weaker c many P Q weaker (k + 1) plans output h.1)

-- a report behind checks that were passed
pub passed_on : (c : Sizes) (many : Bool) (Next : Output → Type 0) (plans : List PlanModel) (output : Output) → ((x : Output) → AtChecks c many 0 plans (λ other. other ≡ x) x) → Next output →
    AtChecks c many 0 plans Next output
passed_on c many Next plans output passed next = checks_weaker c many (λ other. other ≡ output) Next (λ other e. subst Next (sym e) next) 0 plans output (passed output)

-- a report that ended at a check
pub stopped_at : (c : Sizes) (many : Bool) (Next : Output → Type 0) (plans : List PlanModel) (output : Output) → AtChecks c many 0 plans (λ other. ⊥) output → AtChecks c many 0 plans Next output
stopped_at c many Next plans output h = checks_weaker c many (λ other. ⊥) Next (λ other no_report. absurd no_report) 0 plans output h

-- ---- plans that are checked one after the other

-- the report is this one, if there is one
abbrev pub IsThat : Option Output → Output → Type 0
IsThat None other = ⊥
IsThat (Some output) other = other ≡ output

-- the first of the plans from the k-th on is the k-th
pub first_of_left : (plans : List PlanModel) (k : ℕ) (d : PlanModel) → slice_index_or (drop k plans) 0 d ≡ slice_index_or plans k d
first_of_left [] zero d = refl
first_of_left [] (suc k) d = refl
first_of_left (x ∷ xs) zero d = refl
first_of_left (x ∷ xs) (suc k) d = first_of_left xs k d

pub none_left : (plans : List PlanModel) (k : ℕ) → length plans ≤ k → drop k plans ≡ []
none_left [] zero l = refl
none_left [] (suc k) l = refl
none_left (x ∷ xs) zero l = absurd (omega arith)
none_left (x ∷ xs) (suc k) l = none_left xs k (omega arith)

-- once all have passed, the report is what it is behind them
pub all_passed : (c : Sizes) (many : Bool) (plans : List PlanModel) (k : ℕ) → length plans ≤ k →
    ((o : Option Output) (made : Output) → AtChecks c many k (drop k plans) (IsThat o) made → AtChecks c many 0 plans (IsThat o) made) →
    (output : Output) → AtChecks c many 0 plans (λ other. other ≡ output) output
all_passed c many plans k l rest output = rest (Some output) output (subst (λ xs. AtChecks c many k xs (IsThat (Some output)) output) (sym (none_left plans k l)) refl)

module _ (plans : List PlanModel) (k : ℕ) (plan : PlanModel) (below : k < length plans) (is : plan ≡ slice_index_or plans k plan) where
  -- the plans from this one on
  pub left_here : drop k plans ≡ plan ∷ drop (k + 1) plans
  left_here =
      drop-cons plans k plan below
      ∙ ap (λ p. p ∷ drop (suc k) plans) (sym is)
      ∙ ap (λ n. plan ∷ drop n plans) (let one : suc k ≡ k + 1 = omega arith in one)

  -- the plans behind it
  pub left_after : remove (drop k plans) 0 ≡ drop (k + 1) plans
  left_after = ap (λ (xs : List PlanModel). remove xs 0) left_here

  -- the plans up to it
  pub taken_more : take (k + 1) plans ≡ take k plans ++ plan ∷ []
  taken_more =
      ap (λ n. take n plans) (let one : k + 1 ≡ suc k = omega arith in one)
      ∙ take-suc plans k plan below
      ∙ ap (λ p. take k plans ++ p ∷ []) (sym is)

  -- a sound plan leaves it to the plans behind it how the report ends
  pub rest_more : (c : Sizes) (many : Bool) → IsSound c plan → ((o : Option Output) (made : Output) → AtChecks c many k (drop k plans) (IsThat o) made → AtChecks c many 0 plans (IsThat o) made) →
      (o : Option Output) (made : Output) → AtChecks c many (k + 1) (drop (k + 1) plans) (IsThat o) made → AtChecks c many 0 plans (IsThat o) made
  rest_more c many sound rest o made h = rest o made (subst (λ xs. AtChecks c many k xs (IsThat o) made) (sym left_here) (inr (sound, h)))

  -- one that is not sound ends it
  pub stopped_here : (c : Sizes) (many : Bool) (o : Option Output) (made : Output) → IsFaultReport c (plan_front many k) plan made →
      ((o : Option Output) (made : Output) → AtChecks c many k (drop k plans) (IsThat o) made → AtChecks c many 0 plans (IsThat o) made) → AtChecks c many 0 plans (IsThat o) made
  stopped_here c many o made fault rest = rest o made (subst (λ xs. AtChecks c many k xs (IsThat o) made) (sym left_here) (inl fault))

  -- a checked plan waits behind the others
  pub waits_more : (now old : List (Option CheckedModel)) (c : CheckedModel) → c.plan ≡ plan → now ≡ old ++ Some c ∷ [] → map hand_plan old ≡ map (λ p. Some p) (take k plans) →
      map hand_plan now ≡ map (λ p. Some p) (take (k + 1) plans)
  waits_more now old c same added waits =
      ap (map hand_plan) added
      ∙ map-append hand_plan old (Some c ∷ [])
      ∙ ap (λ p. map hand_plan old ++ Some p ∷ []) same
      ∙ ap (λ xs. xs ++ Some plan ∷ []) waits
      ∙ sym (map-append (λ p. Some p) (take k plans) (plan ∷ []))
      ∙ ap (map (λ p. Some p)) (sym taken_more)

-- checked plans that are of a configuration, and one more that is, are of it together
pub for_more : (setup : Setup) (xs : List (Option CheckedModel)) (c : CheckedModel) → AreFor setup xs → c.setup ≡ setup → AreFor setup (xs ++ Some c ∷ [])
for_more setup [] c for is zero p e = let same : c ≡ p = cc in subst (λ (x : CheckedModel). x.setup ≡ setup) same is
for_more setup [] c for is (suc k) p e = absurd (cc)
for_more setup (x ∷ xs) c for is zero p e = for 0 p e
for_more setup (x ∷ xs) c for is (suc k) p e = for_more setup xs c (λ j q f. for (suc j) q f) is k p e

-- ---- reports

-- a report that ended at a check
pub stopped_report : (c d : Sizes) (many : Bool) (Next : Output → Type 0) (plans : List PlanModel) (stop : Stop) (result : Result Output Stop) → result ≡ Err stop → c ≡ d →
    IfEnded stop (AtChecks c many 0 plans (λ other. ⊥)) → IfMade result (AtChecks d many 0 plans Next)
stopped_report c d many Next plans stop result is same ends =
    subst (λ r. IfMade r (AtChecks d many 0 plans Next)) (sym is)
    (subst (λ s. IfEnded stop (AtChecks s many 0 plans Next)) same
    (ended_weaker stop (AtChecks c many 0 plans (λ other. ⊥)) (AtChecks c many 0 plans Next) (λ made h. stopped_at c many Next plans made h) ends))

-- one behind checks that were passed
pub passed_report : (c d : Sizes) (many : Bool) (Next : Output → Type 0) (plans : List PlanModel) (made : Output) → c ≡ d →
    ((x : Output) → AtChecks c many 0 plans (λ other. other ≡ x) x) → Next made → AtChecks d many 0 plans Next made
passed_report c d many Next plans made same passed next = subst (λ s. AtChecks s many 0 plans Next made) same (passed_on c many Next plans made passed next)

-- the output of a player that is at this scene
pub played_at : (setup : Setup) (many : Bool) (front text : List ℕ) (events : List Event) (x y : Scene) (made : Output) → made ≡ played_output setup many front events x → front ≡ text → x ≡ y →
    IsPlayedOutput setup many text events y made
played_at setup many front text events x y made is same scene = is ∙ ap (λ f. played_output setup many f events x) same ∙ ap (played_output setup many text events) scene

-- the scene of a machine that is opened for one configuration
pub opened_at : (c d : Sizes) (p : Place) (log : ℕ) (plans told : List PlanModel) (x : Scene) → x ≡ opened_scene c p log plans → c ≡ d → plans ≡ told → x ≡ opened_scene d p log told
opened_at c d p log plans told x is same listed = is ∙ ap (λ s. opened_scene s p log plans) same ∙ ap (opened_scene d p log) listed

-- a document's plan is known where all are
pub some_known : {A B : Type 0} (f : A → B) (P : B → Type 0) (o : Option A) (x : A) → o ≡ Some x → IfSome (option_map f o) P → P (f x)
some_known f P o x is h = subst (λ o. IfSome (option_map f o) P) is h

-- the report of a document with one plan
pub one_at : (setup : Setup) (c : Sizes) (p : Place) (log : ℕ) (plans : List PlanModel) (plan : PlanModel) (front : List ℕ) (events : List Event) (x : Scene) (result : Result Output Stop) → c ≡ sizes_of setup →
    plans ≡ plan ∷ [] → front ≡ accepted_line plan → x ≡ opened_scene c p log plans → ((y : Output) → AtChecks c false 0 plans (λ other. other ≡ y) y) →
    IfMade result (Then (begin_stage setup x) (IsPlayedOutput setup false front events)) →
    IfMade result (AtChecks (sizes_of setup) false 0 (plan ∷ []) (Then (begin_stage setup (opened_scene (sizes_of setup) p log (plan ∷ []))) (IsPlayedOutput setup false (accepted_line plan) events)))
one_at setup c p log plans plan front events x result same listed told scene passed h =
    made_weaker result Next (AtChecks (sizes_of setup) false 0 (plan ∷ []) Next)
    (λ made n. subst (λ ps. AtChecks (sizes_of setup) false 0 ps Next made) listed (passed_report c (sizes_of setup) false Next plans made same passed n))
    (subst (λ y. IfMade result (Then (begin_stage setup y) (IsPlayedOutput setup false (accepted_line plan) events))) (opened_at c (sizes_of setup) p log plans (plan ∷ []) x scene same listed)
    (subst (λ f. IfMade result (Then (begin_stage setup x) (IsPlayedOutput setup false f events))) told h))
  where
    Next : Output → Type 0
    Next = Then (begin_stage setup (opened_scene (sizes_of setup) p log (plan ∷ []))) (IsPlayedOutput setup false (accepted_line plan) events)

-- what is said of the ending of a stage is said of its result
pub ended_so : {A : Type 0} (result : Result A Stop) (stop : Stop) (P : Output → Type 0) → result ≡ Err stop → IfEnded stop P → IfErr result (λ e. IfEnded e P)
ended_so {A} result stop P is h = subst (λ (r : Result A Stop). IfErr r (λ e. IfEnded e P)) (sym is) h
