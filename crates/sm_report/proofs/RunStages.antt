-- The stages of a report of a plan that is run, and what came of the run.
use Rattle.std.proofs.Common.{true, ◌≡◌, ◌≢◌, ◌<◌, ◌+◌, ◌∙◌, ◌++◌, None, append_assoc, drop, drop-cons, length-append, take, ℕ, zero, suc, Option, Result, Ok, Err, List, [], ◌∷◌, length, map, refl, sym, ap, subst, arith, inl, inr}
use Rattle.std.specs.Prelude.{All, IfErr, IfOk, OnOk, slice_index_or}
use Rattle.std.specs.List.{range_with_len}
use Rattle.std.proofs.lemmas.List.{append-nil, nil_from_length}
use Rattle.sm_placement.specs.Setup.{Setup, sizes_of}
use Rattle.sm_placement.specs.Place.{Place}
use Rattle.sm_reservation.specs.declared.stream_id.StreamId.{StreamId}
use Rattle.sm_plan_code.specs.Plan.{PlanModel}
use Rattle.sm_verifier.specs.Plan.{IsSound}
use Rattle.sm_protocol.specs.declared.event.BeginFault.{BeginFault}
use Rattle.sm_protocol.specs.declared.event.BeginFault.TheVariants.{NoMemory}
use Rattle.sm_protocol.specs.State.{State, Start, opened, no_start, plan_at, stream_count, stream_id}
use Rattle.sm_protocol.specs.Steps.{Outcome}
use Rattle.sm_protocol.specs.Happens.{started}
use Rattle.sm_machine.specs.Starts.{AreTokens}
use Rattle.sm_machine.specs.Started.{IsNotStarted}
use Rattle.sm_executor.specs.Clients.{ClientModel, IsClient}
use Rattle.sm_executor.specs.Closed.{IsClosed}
use Rattle.sm_executor.specs.Views.{CallerModel, EndedModel, RunnerModel, running, AreRunners, streams_ended, streams_run}
use Rattle.sm_executor.proofs.Leading.{HasMorePlans, plans_stay, opening_stays}
use Rattle.sm_plan_text.specs.Documents.{DocumentModel}
use Rattle.sm_report.specs.declared.stop.Stop.{Stop}
use Rattle.sm_report.specs.declared.stop.Stop.TheVariants as stop
use Rattle.sm_report.specs.declared.run_stop.RunStop.{RunStop}
use Rattle.sm_report.specs.declared.run_stop.RunStop.TheVariants as run_stop
use Rattle.sm_report_text.specs.Checking.{accepted_line}
use Rattle.sm_report.specs.Stop.{IfReadEnded}
use Rattle.sm_report_text.specs.Ending.{ending}
use Rattle.sm_report.specs.Output.{IsReadAs}
use Rattle.sm_report_text.specs.EventLines.{not_begun_line}
use Rattle.sm_report.specs.Report.{Output, done, refused}
use Rattle.sm_report.specs.RunLines.{end_lines, run_lines, client_line, client_lines}
use Rattle.sm_report.specs.Running.{HasRun, WasRunOrNot, IsStartedForRun, IsRunReport, IsRunReportOf, first_streams, are_steps_and_requests}
use Rattle.sm_report.specs.Stages.{begun_or_refused, read_stage, start_stage, AtCheck}
use Rattle.sm_report.specs.RunStop.{IfRunStop, IfRan, IfReadRan, IsOfRun, not_run}
use Rattle.sm_report.proofs.Onward.{ends_there, goes_on, ended_weaker}
use Rattle.sm_report.proofs.Inputs.{read_weaker}
use Rattle.sm_report.proofs.RunLines.{down_as_opened, lines_are}

-- what is said of a report of a run is said of it in weaker words
run_stop_weaker : (why : RunStop) (P Q : Output → Type 0) → ((made : Output) → P made → Q made) → IfRunStop why P → IfRunStop why Q
run_stop_weaker (run_stop.Stop ended) P Q weaker h = ended_weaker ended P Q weaker h
run_stop_weaker (run_stop.NotFinished why) P Q weaker h = weaker (not_run why) h

pub ran_weaker : (result : Result Output RunStop) (P Q : Output → Type 0) → ((made : Output) → P made → Q made) → IfRan result P → IfRan result Q
ran_weaker (Ok made) P Q weaker h = weaker made h
ran_weaker (Err why) P Q weaker h = run_stop_weaker why P Q weaker h

-- one of a plan that passed the check, and then begins
pub run_checked : (setup given : Setup) (p : Place) (log : ℕ) (plan checked : PlanModel) (asks told : List ℕ) (result : Result Output RunStop) → given ≡ setup → checked ≡ plan → told ≡ asks → IsSound (sizes_of given) plan
    → IfRan result (IsStartedForRun (opened (sizes_of given) p log) given checked told) → IfRan result (AtCheck (sizes_of setup) [] plan (IsStartedForRun (opened (sizes_of setup) p log) setup plan asks))
run_checked setup given p log plan checked asks told result same plans asked sound h =
    ran_weaker result (IsStartedForRun (opened (sizes_of given) p log) given checked told) (AtCheck (sizes_of setup) [] plan (IsStartedForRun (opened (sizes_of setup) p log) setup plan asks))
    (λ made is. inr (
      subst (λ s. IsSound (sizes_of s) plan) same sound,
      subst (λ x. IsStartedForRun (opened (sizes_of setup) p log) setup x asks made) plans
          (subst (λ s. IsStartedForRun (opened (sizes_of s) p log) s checked asks made) same
          (subst (λ xs. IsStartedForRun (opened (sizes_of given) p log) given checked xs made) asked is)),
    )) h

-- ---- what is read

-- what is said of a report that was made of what was read is said in weaker words of one that reads too
behind_reading : (result : Result Output RunStop) (P Q : Output → Type 0) → ((made : Output) → P made → Q made) → IfRan result P → IfReadRan result Q
behind_reading (Ok made) P Q weaker h = weaker made h
behind_reading (Err (run_stop.Stop stop.NoMemory)) P Q weaker h = tt
behind_reading (Err (run_stop.Stop stop.ReadFailed)) P Q weaker h = tt
behind_reading (Err (run_stop.Stop (stop.Report made))) P Q weaker h = weaker made h
behind_reading (Err (run_stop.NotFinished why)) P Q weaker h = weaker (not_run why) h

-- a report that ends where the bytes are read
pub run_unread : (most : ℕ) (left : Option (List ℕ)) (ended : Stop) (result : Result Output RunStop) → result ≡ Err (run_stop.Stop ended)
    → IfReadEnded ended (λ made. IsReadAs left most (Err made)) → IfReadRan result (IsRunReportOf most left)
run_unread most left ended result is ends =
    subst (λ r. IfReadRan r (IsRunReportOf most left)) (sym is)
    (read_weaker ended (λ made. IsReadAs left most (Err made)) (IsRunReportOf most left)
    (λ made h. (h.0, h.1, ends_there (read_stage most h.0) IsRunReport made h.2)) ends)

-- a report that goes on with the document
pub run_read : (most : ℕ) (left : Option (List ℕ)) (rows : DocumentModel) (result : Result Output RunStop) → IsReadAs left most (Ok rows)
    → IfRan result (IsRunReport rows) → IfReadRan result (IsRunReportOf most left)
run_read most left rows result h reported =
    behind_reading result (IsRunReport rows) (IsRunReportOf most left)
    (λ made is. (h.0, h.1, goes_on (read_stage most h.0) IsRunReport rows made h.2 is)) reported

-- ---- the streams and the asks that were run

-- the shards of clients
abbrev pub shards_of : List ClientModel → List ℕ
shards_of clients = map (λ client. client.shard) clients

-- the runners from number k on are of the streams from there on
streams_from : (plan k n : ℕ) (runners : List RunnerModel) → length runners ≡ n → ((i : ℕ) (d : RunnerModel) → i < n → slice_index_or runners i d ≡ running (stream_id plan (k + i)) 0)
    → streams_run runners ≡ map (stream_id plan) (range_with_len k n)
streams_from plan k zero [] count each = refl
streams_from plan k (suc n) [] count each = absurd (cc)
streams_from plan k zero (x ∷ xs) count each = absurd (cc)
streams_from plan k (suc n) (x ∷ xs) count each =
    let here : k + 0 ≡ k = omega arith in
    let first : x ≡ running (stream_id plan k) 0 = each 0 x (omega arith) ∙ ap (λ j. running (stream_id plan j) 0) here in
    let others : streams_run xs ≡ map (stream_id plan) (range_with_len (k + 1) n) =
    streams_from plan (k + 1) n xs (omega (arith, count)) (λ i d below. each (suc i) d (omega arith) ∙ ap (λ j. running (stream_id plan j) 0) (let e : k + suc i ≡ k + 1 + i = omega arith in e)) in
    ap (λ (r : RunnerModel). r.stream ∷ streams_run xs) first ∙ ap (λ ss. stream_id plan k ∷ ss) others

-- the runners of the plan that began first are of its streams, in their order
streams_are : (n : ℕ) (runners : List RunnerModel) → AreRunners 0 n runners → streams_run runners ≡ first_streams n
streams_are n runners are = streams_from 0 0 n runners are.count (λ i d below. are.each i d below ∙ ap (λ j. running (stream_id 0 j) 0) (let e : i ≡ 0 + i = omega arith in e))

-- what a slice of a list's front was written, in the list
written_back : {X : Type 0} (n : ℕ) (xs rest : List X) → length xs ≡ n → take n (xs ++ rest) ≡ xs
written_back zero [] rest e = refl
written_back zero (x ∷ xs) rest e = absurd (cc)
written_back (suc n) [] rest e = absurd (cc)
written_back (suc n) (x ∷ xs) rest e = ap (λ ys. x ∷ ys) (written_back n xs rest (omega (arith, e)))

-- a run of the runners of the plan that began first that has come to the ends of all, beside clients that have asked
pub has_run : (n count : ℕ) (runners : List RunnerModel) (ended kept : List EndedModel) (clients rest : List ClientModel) → AreRunners 0 n runners
    → streams_ended ended ≡ streams_run runners → kept ≡ ended → length clients ≡ count → All (λ client. client.asked ≢ None) clients
    → HasRun n kept (take count (clients ++ rest))
has_run n count runners ended kept clients rest are ends same long answers = record {
  ends = ap streams_ended same ∙ ends ∙ streams_are n runners are;
  answered = subst (All (λ client. client.asked ≢ None)) (sym (written_back count clients rest long)) answers;
}

-- where one plan had begun and one has begun now, it is that one
nothing_more : (begun now : State) → HasMorePlans begun now → length begun.plans ≡ 1 → length now.plans ≡ 1 → now.plans ≡ begun.plans
nothing_more begun now more one alone =
    let count : length now.plans ≡ length begun.plans + length more.0 = ap length more.1 ∙ length-append begun.plans more.0 in
    let none : more.0 ≡ [] = nil_from_length more.0 (omega (arith, count, one, alone)) in
    more.1 ∙ ap (λ (ps : List Start). begun.plans ++ ps) none ∙ append-nil begun.plans

-- the callers of clients
abbrev pub callers_of : List ClientModel → List CallerModel
callers_of clients = map (λ client. client.caller) clients

-- with these ends and clients the board is closed at a state at which one plan has begun and the log has steps and requests alone, and
-- these lines are told of it
abbrev pub IsTold : State → Setup → List EndedModel → List ClientModel → List ℕ → List ℕ → Output → Type 0
IsTold begun setup ended clients accepted asked made =
    (now : State) × IsClosed setup begun now ended (callers_of clients) × (length now.plans ≡ 1) × (are_steps_and_requests now.log ≡ true)
    × (made ≡ done (accepted ++ end_lines now 0 ++ asked ++ ending setup now.place))

-- the report of the machine of a board that is closed, at which one plan has begun
pub is_told : (begun now : State) (setup given : Setup) (ended : List EndedModel) (clients : List ClientModel) (accepted asked : List ℕ) (result : Result Output RunStop)
    → given ≡ setup → IsClosed setup begun now ended (callers_of clients) → OnOk result (length now.plans ≡ 1) → OnOk result (are_steps_and_requests now.log ≡ true)
    → IfOk result (λ made. made ≡ done (accepted ++ end_lines now 0 ++ asked ++ ending given now.place)) → IfOk result (IsTold begun setup ended clients accepted asked)
is_told begun now setup given ended clients accepted asked (Ok made) same closed alone own text =
    (now, closed, alone, own, text ∙ ap (λ (s : Setup). done (accepted ++ end_lines now 0 ++ asked ++ ending s now.place)) same)
is_told begun now setup given ended clients accepted asked (Err why) same closed alone own text = tt

-- where no stage before the run has ended the report, it says why the plan was not run to its end, if there is one
pub was_not_run : (begun : State) (setup : Setup) (asks : List ℕ) (why : RunStop) → IsOfRun why → IfRunStop why (WasRunOrNot begun setup asks)
was_not_run begun setup asks (run_stop.Stop ended) h = ended_weaker ended (λ made. ⊥) (WasRunOrNot begun setup asks) (λ made never. absurd never) h
was_not_run begun setup asks (run_stop.NotFinished why) h = inr (why, refl)

-- the report of such a run on a board that is closed
pub was_run : (begun : State) (setup : Setup) (asks : List ℕ) (ended : List EndedModel) (clients : List ClientModel) (accepted asked : List ℕ) (result : Result Output RunStop)
    → length begun.plans ≡ 1 → HasRun (stream_count begun 0) ended clients → shards_of clients ≡ asks → All (IsClient setup begun) clients → accepted ≡ accepted_line (plan_at begun 0) → asked ≡ client_lines setup 0 clients
    → IfOk result (IsTold begun setup ended clients accepted asked) → IfErr result IsOfRun → IfRan result (WasRunOrNot begun setup asks)
was_run begun setup asks ended clients accepted asked (Err why) one ran shards ways front lines told not_finished = was_not_run begun setup asks why not_finished
was_run begun setup asks ended clients accepted asked (Ok made) one ran shards ways front lines told not_finished =
    let same = nothing_more begun told.0 (plans_stay begun told.0 told.1.state.state.goes_on) one told.2 in
    let ran_lines : end_lines told.0 0 ≡ run_lines (plan_at begun 0) =
    lines_are setup told.0 told.1.state.state.reached told.1.state.done told.1.state.in_log told.3 told.2
    ∙ ap (λ (ps : List Start). run_lines (slice_index_or ps 0 no_start).plan) same in
    inl (record {
      now = told.0;
      ended = ended;
      clients = clients;
      ran = ran;
      shards = shards;
      ways = ways;
      closed = told.1;
      alone = same;
      own = told.3;
      down = λ v. down_as_opened told.0 told.1.state.at_ends told.3 v ∙ ap (λ (p : Place). p.down v) (opening_stays begun told.0 told.1.state.state.goes_on);
      told = told.4
          ∙ ap (λ text. done (text ++ end_lines told.0 0 ++ asked ++ ending setup told.0.place)) front
          ∙ ap (λ text. done (accepted_line (plan_at begun 0) ++ text ++ asked ++ ending setup told.0.place)) ran_lines
          ∙ ap (λ text. done (accepted_line (plan_at begun 0) ++ run_lines (plan_at begun 0) ++ text ++ ending setup told.0.place)) lines;
    })

-- ---- the plan's start

-- the report of a plan that has not begun
pub start_refused : (setup : Setup) (w : State) (plan : PlanModel) (fault : BeginFault) (asks : List ℕ) (made : Output) → (fault ≢ NoMemory → IsNotStarted w plan fault)
    → (fault ≢ NoMemory) × (made ≡ refused (not_begun_line setup fault)) → IsStartedForRun w setup plan asks made
start_refused setup w plan fault asks made is told =
    ends_there (start_stage setup w plan) (λ b. WasRunOrNot b setup asks) made (ap (λ (o : Outcome × State). begun_or_refused setup o.0 o.1) (is told.0) ∙ ap Err (sym told.1))

-- a plan that begins where none had is the only one
pub one_begun : (w begun : State) (plan : PlanModel) → begun ≡ started w plan → w.plans ≡ [] → length begun.plans ≡ 1
one_begun w begun plan is none = ap (λ (x : State). length x.plans) is ∙ ap (λ (ps : List Start). length (ps ++ record { plan = plan; since = length w.log } ∷ [])) none

-- and has the first number
pub first_begun : (w begun : State) (plan : PlanModel) → begun ≡ started w plan → w.plans ≡ [] → plan_at begun 0 ≡ plan
first_begun w begun plan is none = ap (λ (x : State). plan_at x 0) is ∙ ap (λ (ps : List Start). (slice_index_or (ps ++ record { plan = plan; since = length w.log } ∷ []) 0 no_start).plan) none

-- so have its streams' tokens
pub first_tokens : (w begun : State) (plan : PlanModel) (tokens : List StreamId) → begun ≡ started w plan → w.plans ≡ [] → AreTokens (length w.plans) (length plan.streams) tokens
    → AreTokens 0 (stream_count begun 0) tokens
first_tokens w begun plan tokens is none are =
    subst (λ n. AreTokens 0 n tokens) (sym (ap (λ (p : PlanModel). length p.streams) (first_begun w begun plan is none)))
    (subst (λ k. AreTokens k (length plan.streams) tokens) (ap length none) are)

-- the lines of the clients that are left, once that of the next one was added
pub client_added : (setup : Setup) (clients : List ClientModel) (i : ℕ) (x : ClientModel) (out next text : List ℕ) → i < length clients → x ≡ slice_index_or clients i x → next ≡ out ++ client_line setup i x.asked
    → out ++ client_lines setup i (drop i clients) ≡ text → next ++ client_lines setup (i + 1) (drop (i + 1) clients) ≡ text
client_added setup clients i x out next text below is added so_far =
    let one : suc i ≡ i + 1 = omega arith in
    let here : drop i clients ≡ x ∷ drop (i + 1) clients = drop-cons clients i x below ∙ ap (λ y. y ∷ drop (suc i) clients) (sym is) ∙ ap (λ n. x ∷ drop n clients) one in
    ap (λ t. t ++ client_lines setup (i + 1) (drop (i + 1) clients)) added
    ∙ append_assoc out (client_line setup i x.asked) (client_lines setup (i + 1) (drop (i + 1) clients))
    ∙ sym (ap (λ xs. out ++ client_lines setup i xs) here)
    ∙ so_far
