-- A round can come wherever events lead, while each server that an unfinished plan names has its slots.
use Rattle.std.proofs.Common.{◌≡◌, ℕ, ◌<◌, refl, sym, ap, ◌∙◌, inl, subst, Option, Some, None, List, [], ◌∷◌, ◌++◌, length}
use Rattle.std.specs.Prelude.{slice_get}
use Rattle.std.specs.List.{AllByRecursion}
use Rattle.std.specs.Option.{option_to_list}
use Rattle.std.proofs.lemmas.Bool.{and_parts}
use Rattle.sm_placement.specs.Setup.{Setup}
use Rattle.sm_reservation.specs.declared.stream_id.StreamId.{StreamId}
use Rattle.sm_protocol.specs.State.{is_begun, stream_count}
use Rattle.sm_protocol.specs.Happens.{Step}
use Rattle.sm_protocol.proofs.Courses.{some_same}
use Rattle.sm_protocol.proofs.LogRoom.{begun_parts}
use Rattle.laws_network.specs.Controller.{Letter, Notice, letter_of, notice_of}
use Rattle.laws_network.specs.Fleet.{Fleet, FleetEvent, Judge, Make, Publish, SendOrder, SendPublication, controller, fleet_comes, fleet_run, owner_verdict, verdict_of}
use Rattle.laws_network.specs.FleetLaws.{AreNamedKnown, EachFleet, IsFleetReached}
use Rattle.laws_network.proofs.Behind.{present_engages}
use Rattle.laws_network.proofs.Lists.{all_append, all_map}
use Rattle.laws_network.proofs.Reaching.{fleet_shadow}
use Rattle.laws_network.proofs.Shade.{IsAmong, among_new}
use Rattle.laws_network.proofs.Shadow.{letter_says, notice_says}
use Rattle.laws_rounds.specs.Round.{IsRound, OrderComes, OwnerKeeps, PublicationComes, RoundCanCome, ServerKeeps, Sometime}
use Rattle.laws_rounds.proofs.Gathering.{gather, later, order_more, publication_more, sooner}
use Rattle.laws_rounds.proofs.Gentle.{IsAfter, IsGentle, after_both, after_run, gentle_fit, gentle_stay, named_after, named_always}
use Rattle.laws_rounds.proofs.Publications.{publication_parts}
use Rattle.laws_rounds.proofs.Serving.{serving, storing}
use Rattle.laws_rounds.proofs.Walks.{fleet_append, reached_on}

-- the whole journal's controller sends something
abbrev IsSend : FleetEvent → Type 0
IsSend (SendOrder lost id) = Unit {0}
IsSend (SendPublication lost id) = Unit {0}
IsSend _ = ⊥

send_gentle : (e : FleetEvent) → IsSend e → IsGentle e
send_gentle (SendOrder lost id) s = tt
send_gentle (SendPublication lost id) s = tt
send_gentle _ s = absurd s

sends_record : (es : List FleetEvent) (f : Fleet) → AllByRecursion IsSend es → controller (fleet_run es f) ≡ controller f
sends_record [] f all = refl
sends_record (SendOrder lost id ∷ es) f all = sends_record es (fleet_comes f (SendOrder lost id)).1 all.1
sends_record (SendPublication lost id ∷ es) f all = sends_record es (fleet_comes f (SendPublication lost id)).1 all.1
sends_record (_ ∷ es) f all = absurd all.0

-- what there is at the end of a list that is an option
among_option : {A : Type 0} (xs : List A) (o : Option A) (y : A) → o ≡ Some y → IsAmong (xs ++ option_to_list o) y
among_option xs o y e = subst (λ a. IsAmong (xs ++ option_to_list a) y) (sym e) (among_new xs y)

module _ (setup : Setup) (f : Fleet) (r : IsFleetReached setup f) (named : AreNamedKnown f) where
  -- ---- all is sent

  -- the order of a stream was sent, and its publication
  abbrev AreSent : StreamId → Fleet → Type 0
  AreSent id g = ((l : Letter) → letter_of (controller f) id ≡ Some l → IsAmong g.sent l) × ((n : Notice) → notice_of (controller f) id ≡ Some n → IsAmong g.published n)

  sent_after : (id : StreamId) (g h : Fleet) → IsAfter g h → AreSent id g → AreSent id h
  sent_after id g h a s = (λ l e. a.sent l (s.0 l e), λ n e. a.published n (s.1 n e))

  send_one : (id : StreamId) → id.plan < length (controller f).w.plans → id.stream < stream_count (controller f).w id.plan → (g : Fleet) → controller g ≡ controller f → (es : List FleetEvent) × AllByRecursion IsSend es × AreSent id (fleet_run es g)
  send_one id below within g same = (
    SendOrder 0 id ∷ SendPublication 0 id ∷ [],
    (tt, (tt, tt)),
    (
      (λ l e. among_option g.sent (letter_of (controller g) id) l (ap (λ c. letter_of c id) same ∙ e)),
      (λ n e. among_option g.published (notice_of (controller g) id) n (ap (λ c. notice_of c id) same ∙ e)),
    ),
  )

  all_sent : (es : List FleetEvent) × AllByRecursion IsSend es × ((id : StreamId) → id.plan < length (controller f).w.plans → id.stream < stream_count (controller f).w id.plan → AreSent id (fleet_run es f))
  all_sent = gather IsSend (λ g. controller g ≡ controller f) (λ id es g. AreSent id (fleet_run es g)) (stream_count (controller f).w) (length (controller f).w.plans)
      (λ es g all same. sends_record es g all ∙ same)
      (λ id es more g all s. subst (AreSent id) (sym (fleet_append es more g)) (sent_after id (fleet_run es g) (fleet_run more (fleet_run es g)) (after_run more (fleet_run es g) (all_map IsSend IsGentle more send_gentle all)) s))
      (λ id es more g s. subst (AreSent id) (sym (fleet_append es more g)) s)
      send_one f refl

  -- ---- all comes

  -- what holds of the fleet while messages come
  record IsReady (g : Fleet) : Type 0 where
    pub reached : IsFleetReached setup g
    pub after : IsAfter f g
    pub sent : (id : StreamId) → id.plan < length (controller f).w.plans → id.stream < stream_count (controller f).w id.plan → AreSent id g

  ready_on : (es : List FleetEvent) (g : Fleet) → AllByRecursion IsGentle es → IsReady g → IsReady (fleet_run es g)
  ready_on es g all i = record {
    reached = reached_on setup g es i.reached (gentle_fit setup es g all);
    after = after_both f g (fleet_run es g) i.after (after_run es g all);
    sent = λ id l m. sent_after id g (fleet_run es g) (after_run es g all) (i.sent id l m);
  }

  -- what is to come for a stream
  record Comes (id : StreamId) (es : List FleetEvent) (g : Fleet) : Type 0 where
    pub step : Sometime (λ h e rest. e ≡ Make (Step id)) es g
    pub order : (l : Letter) → letter_of (controller f) id ≡ Some l → OrderComes l es g
    pub publication : (n : Notice) → notice_of (controller f) id ≡ Some n → PublicationComes n es g

  comes_sooner : (id : StreamId) (es more : List FleetEvent) (g : Fleet) → AllByRecursion IsGentle more → Comes id es g → Comes id (es ++ more) g
  comes_sooner id es more g all c = record {
    step = sooner (λ h e rest. e ≡ Make (Step id)) more (λ h e rest p. p) es g c.step;
    order = λ l e. order_more l more es g (c.order l e);
    publication = λ n e. publication_more n more es g (c.publication n e);
  }

  order_later : (l : Letter) (es more : List FleetEvent) (g : Fleet) → OrderComes l more (fleet_run es g) → OrderComes l (es ++ more) g
  order_later l = later (λ h e rest. (k : ℕ) × (e ≡ Judge k) × (slice_get h.sent k ≡ Some l) × ServerKeeps (verdict_of h l) l.order rest (fleet_comes h e).1)

  publication_later : (n : Notice) (es more : List FleetEvent) (g : Fleet) → PublicationComes n more (fleet_run es g) → PublicationComes n (es ++ more) g
  publication_later n = later (λ h e rest. (k : ℕ) × (e ≡ Publish k) × (slice_get h.published k ≡ Some n) × OwnerKeeps (owner_verdict h n) n.publication rest (fleet_comes h e).1)

  comes_later : (id : StreamId) (es more : List FleetEvent) (g : Fleet) → Comes id more (fleet_run es g) → Comes id (es ++ more) g
  comes_later id es more g c = record {
    step = later (λ h e rest. e ≡ Make (Step id)) es more g c.step;
    order = λ l e. order_later l es more g (c.order l e);
    publication = λ n e. publication_later n es more g (c.publication n e);
  }

  -- the order of a stream comes
  module _ (id : StreamId) (g : Fleet) (i : IsReady g) (sent : AreSent id g) where
    order_part : (es : List FleetEvent) × AllByRecursion IsGentle es × ((l : Letter) → letter_of (controller f) id ≡ Some l → OrderComes l es g)
    order_part = go (letter_of (controller f) id) refl
      where
        go : (o : Option Letter) → letter_of (controller f) id ≡ o → (es : List FleetEvent) × AllByRecursion IsGentle es × ((l : Letter) → letter_of (controller f) id ≡ Some l → OrderComes l es g)
        go None q = ([], tt, λ l e. absurd (let z : None ≡ Some l = sym q ∙ e in cc))
        go (Some m) q =
            let place = sent.0 m q in
            let s = serving setup (controller f) id m (fleet_shadow setup f r).sizes q g i.reached (named_after f g i.after named) i.after.journal i.after.fence place.0 place.1 in
            (s.0, s.1, λ l e. subst (λ z. OrderComes z s.0 g) (some_same m l (sym q ∙ e)) s.2)

    publication_part : (es : List FleetEvent) × AllByRecursion IsGentle es × ((n : Notice) → notice_of (controller f) id ≡ Some n → PublicationComes n es g)
    publication_part = go (notice_of (controller f) id) refl
      where
        go : (o : Option Notice) → notice_of (controller f) id ≡ o → (es : List FleetEvent) × AllByRecursion IsGentle es × ((n : Notice) → notice_of (controller f) id ≡ Some n → PublicationComes n es g)
        go None q = ([], tt, λ n e. absurd (let z : None ≡ Some n = sym q ∙ e in cc))
        go (Some m) q =
            let place = sent.1 m q in
            let s = storing g m place.0 place.1 in
            (s.0, s.1, λ n e. subst (λ z. PublicationComes z s.0 g) (some_same m n (sym q ∙ e)) s.2)

  -- all of a stream comes
  come_one : (id : StreamId) → id.plan < length (controller f).w.plans → id.stream < stream_count (controller f).w id.plan → (g : Fleet) → IsReady g → (es : List FleetEvent) × AllByRecursion IsGentle es × Comes id es g
  come_one id l m g i =
      let a = order_part id g i (i.sent id l m) in
      let j = ready_on a.0 g a.1 i in
      let b = publication_part id (fleet_run a.0 g) j (j.sent id l m) in
      let step : FleetEvent = Make (Step id) in (
        a.0 ++ (b.0 ++ step ∷ []),
        all_append IsGentle a.0 (b.0 ++ step ∷ []) a.1 (all_append IsGentle b.0 (step ∷ []) b.1 (tt, tt)),
        record {
          step = later (λ h e rest. e ≡ Make (Step id)) a.0 (b.0 ++ step ∷ []) g (later (λ h e rest. e ≡ Make (Step id)) b.0 (step ∷ []) (fleet_run a.0 g) (inl refl));
          order = λ x e. order_more x (b.0 ++ step ∷ []) a.0 g (a.2 x e);
          publication = λ n e. publication_later n a.0 (b.0 ++ step ∷ []) g (publication_more n (step ∷ []) b.0 (fleet_run a.0 g) (b.2 n e));
        },
      )

  pub round_comes : (es : List FleetEvent) × IsRound setup f es
  round_comes = (
    all_sent.0 ++ rest.0,
    record {
      fit = gentle_fit setup (all_sent.0 ++ rest.0) f all;
      epoch = gentle_stay (all_sent.0 ++ rest.0) all;
      known = named_always (all_sent.0 ++ rest.0) f all named;
      steps = λ id runs alone. let p = begun_parts (controller f).w id (and_parts (is_begun (controller f).w id) _ runs).0 in (comes id p.0 p.1).step;
      orders = λ id l e. let p = begun_parts (controller f).w id (present_engages (controller f).base (controller f).w id l.order (letter_says (controller f) id l e).0).0 in inl ((comes id p.0 p.1).order l e);
      publications = λ id n e.
          let had = publication_parts (controller f).base (controller f).w id n.publication (notice_says (controller f) id n e) in
          let p = begun_parts (controller f).w id had.publishing.before.begun in
          inl ((comes id p.0 p.1).publication n e);
    },
  )
    where
      gentle : AllByRecursion IsGentle all_sent.0
      gentle = all_map IsSend IsGentle all_sent.0 send_gentle all_sent.1

      ready : IsReady (fleet_run all_sent.0 f)
      ready = record { reached = reached_on setup f all_sent.0 r (gentle_fit setup all_sent.0 f gentle); after = after_run all_sent.0 f gentle; sent = all_sent.2 }

      rest : (es : List FleetEvent) × AllByRecursion IsGentle es × ((id : StreamId) → id.plan < length (controller f).w.plans → id.stream < stream_count (controller f).w id.plan → Comes id es (fleet_run all_sent.0 f))
      rest = gather IsGentle IsReady Comes (stream_count (controller f).w) (length (controller f).w.plans) ready_on comes_sooner comes_later come_one (fleet_run all_sent.0 f) ready

      all : AllByRecursion IsGentle (all_sent.0 ++ rest.0)
      all = all_append IsGentle all_sent.0 rest.0 gentle rest.1

      comes : (id : StreamId) → id.plan < length (controller f).w.plans → id.stream < stream_count (controller f).w id.plan → Comes id (all_sent.0 ++ rest.0) f
      comes id l m = comes_later id all_sent.0 rest.0 f (rest.2 id l m)

-- a round can come
pub round_can_come : EachFleet RoundCanCome
round_can_come setup f r named = round_comes setup f r named
