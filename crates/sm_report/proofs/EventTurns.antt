-- Turns of events, as a player makes them.
use Rattle.std.proofs.Common.{◌≡◌, ◌<◌, ◌≤◌, ◌+◌, ◌^◌, ◌++◌, ◌∷◌, [], ℕ, Bool, List, Result, Ok, Err, Option, Some, None, length, map, refl, sym, ap, ◌∙◌, subst, arith, append_assoc}
use Rattle.std.specs.Prelude.{slice_index_or, slice_set, option_and_then, option_map, OnOk}
use Rattle.std.proofs.lemmas.List.{map-set, length-append}
use Rattle.sm_placement.specs.Setup.{Setup, Sizes, sizes_of}
use Rattle.sm_reservation.specs.declared.stream_id.StreamId.{StreamId}
use Rattle.sm_verifier.specs.Checked.{CheckedModel}
use Rattle.sm_protocol.specs.declared.event.BeginFault.{BeginFault}
use Rattle.sm_protocol.specs.declared.event.Played.{Played}
use Rattle.sm_protocol.specs.declared.event.Played.TheVariants as played
use Rattle.sm_protocol.specs.State.{State, stream_id, stream_parts, progress_of}
use Rattle.sm_protocol.specs.Steps.{Outcome, Answered}
use Rattle.sm_protocol.specs.declared.event.Event.{Event}
use Rattle.sm_protocol.specs.declared.event.Event.TheVariants as event
use Rattle.sm_protocol.specs.Laws.{NamesKnown}
use Rattle.sm_protocol.specs.Log.{named}
use Rattle.sm_protocol.specs.Ticket.{Ticket, passes}
use Rattle.sm_protocol.specs.Happens.{Happening, Step, Lose, Refill, Arrive, PassOn, Approve, Done, Begin, happens}
use Rattle.sm_machine.specs.Machine.{MachineModel}
use Rattle.sm_machine.specs.State.{state_of}
use Rattle.sm_machine.specs.Hand.{hand_plan, AreFor}
use Rattle.sm_machine.specs.Director.{CanDirect, IsDirected, IsDirectedIf}
use Rattle.sm_machine.proofs.Directed.{IsNoStart, same_plans, begun_is_there, one_more}
use Rattle.sm_machine.proofs.FirstPlaces.{left_there}
use Rattle.sm_machine.proofs.HandPlays.{sizes_are}
use Rattle.sm_machine.proofs.HandStarts.{plan_there, number_fits}
use Rattle.sm_report.specs.declared.player.Player.{Player}
use Rattle.sm_report_text.specs.EventLines.{stream_text, event_front}
use Rattle.sm_report.specs.PlayLines.{progress_line_of, progress_line, played_line, outcome_line}
use Rattle.sm_report.specs.Playing.{Scene, asked_by, event_named, named_stream, after_event, event_turn, event_turn_by}
use Rattle.sm_report.specs.Player.{scene_of, IsSetUp, IsEventPlayed, IsNoBegin}

-- there is nothing that the event speaks of
pub nothing_asked : (p : Player) (e : Event) → IsSetUp p → asked_by (scene_of p) e ≡ None → IsEventPlayed p e played.Unknown p
nothing_asked p e r n = record {
  turn = ap (event_turn_by (scene_of p) e) n;
  running = λ h. cc;
  begun = λ number h. absurd (cc);
  ready = r;
  setup = refl;
}

-- what is answered that has begun is there
begun_there : (m n : MachineModel) (h : Happening) (a : Played) → IsDirected m h a n → (number : ℕ) → a ≡ played.Begun number → number < length (state_of n).plans
begun_there m n h a d number is =
    subst (λ (w : State). number < length w.plans) (ap (λ o. o.1) d.event)
    (begun_is_there (state_of m) h number (ap (λ o. o.0) d.event ∙ ap Answered is))

-- an event that starts no plan leads from one scene to the next by its state
pub asked_so : (p q : Player) (e : Event) (h : Happening) (a : Played) → IsSetUp p → asked_by (scene_of p) e ≡ Some h → IsNoStart h → ((x : Scene) (o : Outcome) → after_event x e o ≡ x) →
    IsDirected p.director h a q.director → q.waiting ≡ p.waiting → q.places ≡ p.places → IsEventPlayed p e a q
asked_so p q e h a r is starts_none after d waiting places = record {
  turn = ap (event_turn_by (scene_of p) e) is ∙ outcome ∙ ap (λ x. (Answered a, x)) scene_is;
  running = d.running;
  begun = begun_there p.director q.director h a d;
  ready = record {
    places = ap (λ ps. length ps.items) places ∙ r.places ∙ ap length (sym plans);
    few = subst (λ ps. length ps.items ≤ 2 ^ 32) (sym places) r.few;
    checked = subst (λ s. AreFor s q.waiting.items) (sym d.setup) (subst (λ ps. AreFor p.director.placement.setup ps.items) (sym waiting) r.checked);
  };
  setup = d.setup;
}
  where
    x : Scene
    x = scene_of p

    outcome : event_turn_by x e (Some h) ≡ (Answered a, record x { state = state_of q.director })
    outcome =
        ap (λ o. (o.0, after_event (record x { state = o.1 }) e o.0)) d.event
        ∙ ap (λ y. (Answered a, y)) (after (record x { state = state_of q.director }) (Answered a))

    scene_is : (let y : Scene = record x { state = state_of q.director } in y) ≡ scene_of q
    scene_is = let a = waiting in let b = places in cc

    plans : (state_of q.director).plans ≡ (state_of p.director).plans
    plans = ap (λ o. o.1.plans) (sym d.event) ∙ same_plans (state_of p.director) h starts_none

-- ---- events by their names

-- an event that is no start asks for what its name says
pub asked_is : (x : Scene) (e : Event) → IsNoBegin e → asked_by x e ≡ option_and_then (named x.state) (event_named x e)
asked_is x (event.Begin place) n = absurd n
asked_is x _ n = refl

-- and changes a scene by its state alone
same_scene : (e : Event) → IsNoBegin e → (x : Scene) (o : Outcome) → after_event x e o ≡ x
same_scene (event.Begin place) n x o = absurd n
same_scene _ n x o = refl

-- what a name says is no start
no_start : (w : State) (e : Event) (h : Happening) → named w e ≡ Some h → IsNoStart h
no_start w (event.Step id) h is = subst IsNoStart (let same : Step id ≡ h = cc in same) tt
no_start w (event.Lose id after) h is = subst IsNoStart (let same : Lose id after ≡ h = cc in same) tt
no_start w (event.Refill id more) h is = subst IsNoStart (let same : Refill id more ≡ h = cc in same) tt
no_start w (event.Arrive s v) h is = subst IsNoStart (let same : Arrive s v ≡ h = cc in same) tt
no_start w (event.Approve v) h is = subst IsNoStart (let same : Approve v ≡ h = cc in same) tt
no_start w (event.Done v) h is = subst IsNoStart (let same : Done v ≡ h = cc in same) tt
no_start w (event.Begin place) h is = absurd (cc)
no_start w (event.PassOn place) h is = by_pass (slice_index_or (passes w.log) place None) is
  where
    by_pass : (o : Option Ticket) → option_map PassOn o ≡ Some h → IsNoStart h
    by_pass None is = absurd (cc)
    by_pass (Some t) is = subst IsNoStart (let same : PassOn t ≡ h = cc in same) tt

-- an event that names no stream that has begun is Unknown
pub unnamed_so : (p : Player) (e : Event) → IsSetUp p → IsNoBegin e → event_named (scene_of p) e ≡ None → IsEventPlayed p e played.Unknown p
unnamed_so p e r n is = nothing_asked p e r (asked_is (scene_of p) e n ∙ ap (option_and_then (named (state_of p.director))) is)

-- any other that is no start is played by its name
pub named_so : (p : Player) (d : MachineModel) (e : Event) (ev : Event) (a : Played) → IsSetUp p → IsNoBegin e → event_named (scene_of p) e ≡ Some ev →
    IsDirectedIf p.director (named (state_of p.director) ev) a d → IsEventPlayed p e a (record { director = d; waiting = p.waiting; places = p.places })
named_so p d e ev a r n is = by_name (named (state_of p.director) ev) refl
  where
    by_name : (o : Option Happening) → named (state_of p.director) ev ≡ o → IsDirectedIf p.director o a d → IsEventPlayed p e a (record { director = d; waiting = p.waiting; places = p.places })
    by_name None f h =
        subst (λ b. IsEventPlayed p e b (record { director = d; waiting = p.waiting; places = p.places })) (sym h.0)
        (subst (λ (m : MachineModel). IsEventPlayed p e played.Unknown (record { director = m; waiting = p.waiting; places = p.places })) (sym h.1)
        (nothing_asked p e r (asked_is (scene_of p) e n ∙ ap (option_and_then (named (state_of p.director))) is ∙ f)))
    by_name (Some h) f given =
        asked_so p (record { director = d; waiting = p.waiting; places = p.places }) e h a r (asked_is (scene_of p) e n ∙ ap (option_and_then (named (state_of p.director))) is ∙ f)
        (no_start (state_of p.director) ev h f) (same_scene e n) given refl refl

-- what is found of a stream by its name
of_stream : (P : Event → Type 0) (f : StreamId → Event) (o : Option StreamId) (ev : Event) → ((id : StreamId) → P (f id)) → option_map f o ≡ Some ev → P ev
of_stream P f None ev all is = absurd (cc)
of_stream P f (Some id) ev all is = subst P (let same : f id ≡ ev = cc in same) (all id)

-- the event names what the document's event names
pub named_known : (x : Scene) (c : Sizes) (e : Event) (ev : Event) → NamesKnown c e → event_named x e ≡ Some ev → NamesKnown c ev
named_known x c (event.Begin place) ev k is = absurd (cc)
named_known x c (event.Step id) ev k is = of_stream (NamesKnown c) event.Step (named_stream x id) ev (λ begun. tt) is
named_known x c (event.Lose id after) ev k is = of_stream (NamesKnown c) (λ begun. event.Lose begun after) (named_stream x id) ev (λ begun. tt) is
named_known x c (event.Refill id more) ev k is = of_stream (NamesKnown c) (λ begun. event.Refill begun more) (named_stream x id) ev (λ begun. k) is
named_known x c e ev k is = subst (NamesKnown c) (let same : e ≡ ev = cc in same) k

-- an event that names what is known can be directed
pub can_direct : (c : Sizes) (e : Event) → NamesKnown c e → CanDirect c e
can_direct c (event.Done v) k = tt
can_direct c _ k = k

module _ (p : Player) (place : ℕ) (c : CheckedModel) (r : IsSetUp p) (there : slice_index_or p.waiting.items place None ≡ Some c) where
  plan_asked : asked_by (scene_of p) (event.Begin place) ≡ Some (Begin c.plan)
  plan_asked = ap (option_map Begin) (plan_there p.waiting.items place ∙ ap hand_plan there)

  -- the plan has begun
  pub begun_so : (q : Player) (number : ℕ) → IsDirected p.director (Begin c.plan) (played.Begun number) q.director → q.waiting.items ≡ slice_set p.waiting.items place None →
      q.places.items ≡ p.places.items ++ place ∷ [] → IsEventPlayed p (event.Begin place) (played.Begun number) q
  begun_so q number d waiting places = record {
    turn = ap (event_turn_by (scene_of p) (event.Begin place)) plan_asked ∙ outcome ∙ ap (λ x. (Answered (played.Begun number), x)) scene_is;
    running = d.running;
    begun = begun_there p.director q.director (Begin c.plan) (played.Begun number) d;
    ready = record {
      places = let a = r.places in let b = longer in let c = more in omega arith;
      few = let a = r.places in let b = longer in let c = fits in omega arith;
      checked = λ k at e. r.checked k at (left_there p.waiting.items place k at (subst (λ ps. slice_index_or ps k None ≡ Some at) waiting e)) ∙ sym d.setup;
    };
    setup = d.setup;
  }
    where
      x : Scene
      x = scene_of p

      answer : (happens (state_of p.director) (Begin c.plan)).0 ≡ Answered (played.Begun number)
      answer = ap (λ o. o.0) d.event

      next : Scene
      next = record { state = state_of q.director; waiting = slice_set x.waiting place None; places = x.places ++ place ∷ [] }

      outcome : event_turn_by x (event.Begin place) (Some (Begin c.plan)) ≡ (Answered (played.Begun number), next)
      outcome = ap (λ o. (o.0, after_event (record x { state = o.1 }) (event.Begin place) o.0)) d.event

      waits : map hand_plan q.waiting.items ≡ slice_set x.waiting place None
      waits = ap (map hand_plan) waiting ∙ map-set hand_plan p.waiting.items place None

      scene_is : next ≡ scene_of q
      scene_is = let a = waits in let b = places in cc

      longer : length q.places.items ≡ length p.places.items + 1
      longer = ap length places ∙ length-append p.places.items (place ∷ [])

      more : length (state_of q.director).plans ≡ length (state_of p.director).plans + 1
      more = ap (λ o. length o.1.plans) (sym d.event) ∙ one_more (state_of p.director) c.plan number answer

      fits : length (state_of p.director).plans < 2 ^ 32
      fits = number_fits (state_of p.director) c.plan number answer

  -- the plan does not start, and is back in its place
  pub not_begun_so : (q : Player) (why : BeginFault) → IsDirected p.director (Begin c.plan) (played.NotBegun why) q.director → q.director ≡ p.director → q.waiting.items ≡ p.waiting.items →
      q.places.items ≡ p.places.items → IsEventPlayed p (event.Begin place) (played.NotBegun why) q
  not_begun_so q why d same waiting places = record {
    turn = ap (event_turn_by (scene_of p) (event.Begin place)) plan_asked ∙ outcome ∙ ap (λ x. (Answered (played.NotBegun why), x)) scene_is;
    running = d.running;
    begun = begun_there p.director q.director (Begin c.plan) (played.NotBegun why) d;
    ready = record {
      places = ap length places ∙ r.places ∙ ap (λ m. length (state_of m).plans) (sym same);
      few = subst (λ ps. length ps ≤ 2 ^ 32) (sym places) r.few;
      checked = subst (λ s. AreFor s q.waiting.items) (sym d.setup) (subst (AreFor p.director.placement.setup) (sym waiting) r.checked);
    };
    setup = d.setup;
  }
    where
      x : Scene
      x = scene_of p

      next : Scene
      next = record x { state = state_of q.director }

      outcome : event_turn_by x (event.Begin place) (Some (Begin c.plan)) ≡ (Answered (played.NotBegun why), next)
      outcome = ap (λ o. (o.0, after_event (record x { state = o.1 }) (event.Begin place) o.0)) d.event

      waits : map hand_plan q.waiting.items ≡ x.waiting
      waits = ap (map hand_plan) waiting

      scene_is : next ≡ scene_of q
      scene_is = let a = waits in let b = places in cc

-- ---- the line of an event

-- the answer behind the event's front is the line of what the event led to
pub line_of : {A E : Type 0} (setup : Setup) (many : Bool) (i : ℕ) (p q : Player) (e : Event) (a : Played) → IsEventPlayed p e a q → (r : Result A E) (old front new : List ℕ) →
    front ≡ old ++ event_front i → OnOk r (new ≡ front ++ played_line setup many (scene_of q) a) →
    OnOk r (new ≡ old ++ outcome_line setup many i (event_turn (scene_of p) e).1 (event_turn (scene_of p) e).0)
line_of setup many i p q e a t (Err error) old front new is added = tt
line_of setup many i p q e a t (Ok done) old front new is added =
    added
    ∙ ap (λ text. text ++ played_line setup many (scene_of q) a) is
    ∙ append_assoc old (event_front i) (played_line setup many (scene_of q) a)
    ∙ ap (λ o. old ++ outcome_line setup many i o.1 o.0) (sym t.turn)

-- the line of a stream by its name and the length of its code
pub stream_added : (many : Bool) (place : ℕ) (w : State) (number i : ℕ) (out name new : List ℕ) (long : ℕ) → name ≡ stream_text many place i → long ≡ length (stream_parts w (stream_id number i)).code →
    new ≡ out ++ progress_line_of name long (progress_of w (stream_id number i)) → new ≡ out ++ progress_line many place w (stream_id number i)
stream_added many place w number i out name new long named length_is added =
    added
    ∙ ap (λ text. out ++ progress_line_of text long (progress_of w (stream_id number i))) named
    ∙ ap (λ n. out ++ progress_line_of (stream_text many place i) n (progress_of w (stream_id number i))) length_is

-- ---- the names that events know

-- an event that a configuration knows is known to each machine of it
pub event_known : (m : MachineModel) (setup : Setup) (event : Event) → m.placement.setup ≡ setup → NamesKnown (sizes_of setup) event → NamesKnown (state_of m).sizes event
event_known m setup event e known = subst (λ c. NamesKnown c event) (sym (sizes_are m ∙ ap sizes_of e)) known
