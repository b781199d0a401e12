-- The worked play of rounds, computed by the definitions.
use Rattle.std.proofs.Common.{◌≡◌, ◌<◌, ℕ, refl, sym, ◌∙◌, inl, inr, subst, arith, true, false, Option, Some, None, List, [], ◌∷◌, length}
use Rattle.std.specs.List.{AllByRecursion}
use Rattle.std.proofs.lemmas.Bool.{and_parts}
use Rattle.sm_server.specs.declared.call.Call.TheVariants as call
use Rattle.sm_server.specs.declared.call.Role.TheVariants as role
use Rattle.sm_placement.specs.Setup.{Setup}
use Rattle.sm_reservation.specs.HoldOf.{hold_of}
use Rattle.sm_reservation.specs.declared.stream_id.StreamId.{StreamId}
use Rattle.sm_verifier.specs.FirstHolding.{first_holding}
use Rattle.sm_protocol.specs.State.{State, is_begun, stream_count, stream_id}
use Rattle.sm_protocol.specs.Happens.{Step}
use Rattle.sm_protocol.proofs.Courses.{some_same}
use Rattle.sm_protocol.proofs.LogRoom.{begun_parts}
use Rattle.sm_protocol.proofs.Numbers.{same_stream}
use Rattle.laws_network.specs.Controller.{Letter, Notice, letter_of, is_local, notice_of}
use Rattle.laws_network.specs.Fleet.{Fleet, FleetEvent, Make, Seal, Serve, controller, fleet_run}
use Rattle.laws_network.specs.FleetLaws.{AreNamedKnown}
use Rattle.laws_network.specs.FleetPlays.{order_trip, publication_trip}
use Rattle.laws_network.proofs.Behind.{present_engages}
use Rattle.laws_network.proofs.Shadow.{letter_says, notice_says}
use Rattle.laws_rounds.specs.Round.{IsRound, OrderComes, PublicationComes, Sometime}
use Rattle.laws_rounds.specs.RoundPlays.{EndsInSixRounds, started_handover}
use Rattle.laws_rounds.proofs.Gentle.{IsGentle, after_run, gentle_fit, gentle_stay, named_after, named_always}
use Rattle.laws_rounds.proofs.Publications.{publication_parts}

-- ---- one stream

-- the one stream of the play
abbrev mover : StreamId
mover = stream_id 0 0

-- a stream that was begun is the one stream of the one plan
only_stream : (w : State) → length w.plans ≡ 1 → stream_count w 0 ≡ 1 → (id : StreamId) → is_begun w id ≡ true → mover ≡ id
only_stream w plans count id b =
    let p = begun_parts w id b in
    let here : id.plan ≡ 0 = (let l = p.0 in omega arith) in
    let more : id.stream < stream_count w 0 = subst (λ k. id.stream < stream_count w k) here p.1 in
    let first : id.stream ≡ 0 = omega arith in
    same_stream mover id (sym here) (sym first)

-- each clause of a round holds for this stream
round_by : (setup : Setup) (f : Fleet) (es : List FleetEvent) → length (controller f).w.plans ≡ 1 → stream_count (controller f).w 0 ≡ 1 → AllByRecursion IsGentle es → AreNamedKnown f →
    (is_local (controller f).w (Step mover) ≡ true → Sometime (λ g e rest. e ≡ Make (Step mover)) es f) → ((l : Letter) → letter_of (controller f) mover ≡ Some l → OrderComes l es f) →
    ((n : Notice) → notice_of (controller f) mover ≡ Some n → PublicationComes n es f) → IsRound setup f es
round_by setup f es plans count gentle named steps orders publications = record {
  fit = gentle_fit setup es f gentle;
  epoch = gentle_stay es gentle;
  known = named_always es f gentle named;
  steps = λ id runs. subst (λ i. is_local (controller f).w (Step i) ≡ true → Sometime (λ g e rest. e ≡ Make (Step i)) es f)
      (only_stream (controller f).w plans count id (and_parts (is_begun (controller f).w id) _ runs).0) steps;
  orders = λ id l e.
      let own = only_stream (controller f).w plans count id (present_engages (controller f).base (controller f).w id l.order (letter_says (controller f) id l e).0).0 in
      inl (orders l (subst (λ i. letter_of (controller f) i ≡ Some l) (sym own) e));
  publications = λ id n e.
      let had = publication_parts (controller f).base (controller f).w id n.publication (notice_says (controller f) id n e) in
      inl (publications n (subst (λ i. notice_of (controller f) i ≡ Some n) (sym (only_stream (controller f).w plans count id had.publishing.before.begun)) e));
}

-- ---- the rounds

no_step : {A : Type 0} → false ≡ true → A
no_step e = absurd (cc)

no_letter : {A : Type 0} (l : Letter) → ◌≡◌ {A = Option Letter} None (Some l) → A
no_letter l e = absurd (cc)

no_notice : {A : Type 0} (n : Notice) → ◌≡◌ {A = Option Notice} None (Some n) → A
no_notice n e = absurd (cc)

-- each server of the play has its slots
named_first : AreNamedKnown started_handover
named_first id v b e = refl

named_then : (f : Fleet) (es : List FleetEvent) → AllByRecursion IsGentle es → AreNamedKnown f → AreNamedKnown (fleet_run es f)
named_then f es all named = named_after f (fleet_run es f) (after_run es f all) named

abbrev third : List FleetEvent
third = Serve 0 0 0 ∷ Seal 0 ∷ order_trip 2 mover

abbrev after_one : Fleet
after_one = fleet_run (order_trip 0 mover) started_handover

abbrev after_two : Fleet
after_two = fleet_run (order_trip 1 mover) after_one

abbrev after_three : Fleet
after_three = fleet_run third after_two

abbrev after_four : Fleet
after_four = fleet_run (publication_trip 0 mover) after_three

abbrev after_five : Fleet
after_five = fleet_run (order_trip 3 mover) after_four

-- the events of an order's way, of the third round, and of a publication's way
trip_gentle : (k : ℕ) → AllByRecursion IsGentle (order_trip k mover)
trip_gentle k = (tt, (tt, (tt, (tt, tt))))

named_one : AreNamedKnown after_one
named_one = named_then started_handover (order_trip 0 mover) (trip_gentle 0) named_first

named_two : AreNamedKnown after_two
named_two = named_then after_one (order_trip 1 mover) (trip_gentle 1) named_one

named_three : AreNamedKnown after_three
named_three = named_then after_two third (tt, (tt, trip_gentle 2)) named_two

named_four : AreNamedKnown after_four
named_four = named_then after_three (publication_trip 0 mover) (tt, (tt, (tt, tt))) named_three

named_five : AreNamedKnown after_five
named_five = named_then after_four (order_trip 3 mover) (trip_gentle 3) named_four

round_one : (setup : Setup) → IsRound setup started_handover (order_trip 0 mover)
unfolding first_holding hold_of
round_one setup = round_by setup started_handover (order_trip 0 mover) refl refl (trip_gentle 0) named_first (λ e. no_step e)
    (λ l e. subst (λ m. OrderComes m (order_trip 0 mover) started_handover) (some_same _ l e) (inr (inl (0, refl, refl, inl (refl, inl (0, refl, refl))))))
    (λ n e. no_notice n e)

round_two : (setup : Setup) → IsRound setup after_one (order_trip 1 mover)
unfolding first_holding hold_of
round_two setup = round_by setup after_one (order_trip 1 mover) refl refl (trip_gentle 1) named_one (λ e. no_step e)
    (λ l e. subst (λ m. OrderComes m (order_trip 1 mover) after_one) (some_same _ l e) (inr (inl (1, refl, refl, inl (refl, inl (1, refl, refl))))))
    (λ n e. no_notice n e)

-- the third order: that server 1 takes over
abbrev third_letter : Letter
third_letter = record {
  order = record { stream = mover; at = 2; call = record { shard = 0; server = 1; call = call.Add role.Primary }; number = 3 };
  journal = 7;
  fence = 0;
  load = 4;
  room = 10;
}

third_is : letter_of (controller after_two) mover ≡ Some third_letter
unfolding first_holding hold_of
third_is = refl

round_three : (setup : Setup) → IsRound setup after_two third
unfolding first_holding hold_of
round_three setup = round_by setup after_two third refl refl (tt, (tt, trip_gentle 2)) named_two (λ e. no_step e)
    (λ l e. subst (λ m. OrderComes m third after_two) (some_same third_letter l (sym third_is ∙ e)) (inr (inr (inr (inl (2, refl, refl, inl (refl, inl (2, refl, refl))))))))
    (λ n e. no_notice n e)

round_four : (setup : Setup) → IsRound setup after_three (publication_trip 0 mover)
unfolding first_holding hold_of
round_four setup = round_by setup after_three (publication_trip 0 mover) refl refl (tt, (tt, (tt, tt))) named_three (λ e. no_step e) (λ l e. no_letter l e)
    (λ n e. subst (λ m. PublicationComes m (publication_trip 0 mover) after_three) (some_same _ n e) (inr (inl (0, refl, refl, inl (0, refl, refl)))))

round_five : (setup : Setup) → IsRound setup after_four (order_trip 3 mover)
unfolding first_holding hold_of
round_five setup = round_by setup after_four (order_trip 3 mover) refl refl (trip_gentle 3) named_four (λ e. no_step e)
    (λ l e. subst (λ m. OrderComes m (order_trip 3 mover) after_four) (some_same _ l e) (inr (inl (3, refl, refl, inl (refl, inl (3, refl, refl))))))
    (λ n e. no_notice n e)

round_six : (setup : Setup) → IsRound setup after_five (Make (Step mover) ∷ [])
unfolding first_holding hold_of
round_six setup = round_by setup after_five (Make (Step mover) ∷ []) refl refl (tt, tt) named_five (λ e. inl refl) (λ l e. no_letter l e) (λ n e. no_notice n e)

-- the handover is done after six rounds
pub ends_in_six_rounds : EndsInSixRounds
unfolding first_holding hold_of
ends_in_six_rounds = record {
  rounds = λ setup. (round_one setup, (round_two setup, (round_three setup, (round_four setup, (round_five setup, (round_six setup, tt))))));
  left = refl;
  before = refl;
  after = refl;
}
