-- Lists of events in which something comes for each stream, made of those for one stream.
use Rattle.std.proofs.Common.{◌≡◌, ℕ, zero, suc, ◌≤◌, ◌<◌, refl, sym, inl, inr, subst, arith, List, [], ◌∷◌, ◌++◌}
use Rattle.std.specs.Prelude.{Some, slice_get}
use Rattle.std.specs.List.{AllByRecursion}
use Rattle.std.proofs.lemmas.Bool.{cases_eq}
use Rattle.sm_reservation.specs.declared.stream_id.StreamId.{StreamId}
use Rattle.sm_protocol.specs.State.{stream_id}
use Rattle.sm_protocol.proofs.Numbers.{same_stream}
use Rattle.sm_agent.specs.declared.order.Verdict.{Verdict}
use Rattle.sm_agent.specs.declared.order.Verdict.TheVariants as verdict
use Rattle.laws_network.specs.Net.{Order}
use Rattle.laws_network.specs.World.{Publication}
use Rattle.laws_network.specs.Controller.{Letter, Notice}
use Rattle.laws_network.specs.Fleet.{Committed, Fleet, FleetEvent, HearOwner, HearServer, Judge, Publish, fleet_comes, fleet_run, owner_verdict, verdict_of}
use Rattle.laws_network.proofs.Lists.{all_append}
use Rattle.laws_rounds.specs.Round.{AnswerComes, ConfirmationComes, OrderComes, OwnerKeeps, PublicationComes, ServerKeeps, Sometime, WorkEnds}

-- ---- more events

-- what comes at some event comes with more events before
pub later : (P : Fleet → FleetEvent → List FleetEvent → Type 0) (es more : List FleetEvent) (f : Fleet) → Sometime P more (fleet_run es f) → Sometime P (es ++ more) f
later P [] more f s = s
later P (e ∷ es) more f s = inr (later P es more (fleet_comes f e).1 s)

-- and with more events behind
pub sooner : (P : Fleet → FleetEvent → List FleetEvent → Type 0) (more : List FleetEvent) → ((f : Fleet) (e : FleetEvent) (es : List FleetEvent) → P f e es → P f e (es ++ more)) → (es : List FleetEvent) (f : Fleet) → Sometime P es f → Sometime P (es ++ more) f
sooner P more keeps [] f s = absurd s
sooner P more keeps (e ∷ es) f (inl p) = inl (keeps f e es p)
sooner P more keeps (e ∷ es) f (inr s) = inr (sooner P more keeps es (fleet_comes f e).1 s)

answer_more : (o : Order) (more es : List FleetEvent) (f : Fleet) → AnswerComes o es f → AnswerComes o (es ++ more) f
answer_more o more = sooner (λ f e es. (k : ℕ) × (e ≡ HearServer k) × (slice_get f.answers k ≡ Some o)) more (λ f e es p. p)

work_more : (o : Order) (more es : List FleetEvent) (f : Fleet) → WorkEnds o es f → WorkEnds o (es ++ more) f
work_more o more = sooner (λ f e es. ((fleet_comes f e).0 ≡ Committed o) × AnswerComes o es (fleet_comes f e).1) more (λ f e es p. (p.0, answer_more o more es (fleet_comes f e).1 p.1))

server_more : (x : Verdict) (o : Order) (more es : List FleetEvent) (f : Fleet) → ServerKeeps x o es f → ServerKeeps x o (es ++ more) f
server_more verdict.Begin o more es f s = work_more o more es f s
server_more verdict.Working o more es f s = work_more o more es f s
server_more verdict.Again o more es f s = answer_more o more es f s
server_more verdict.Old o more es f s = tt
server_more verdict.Foreign o more es f s = tt
server_more verdict.NotReady o more es f s = tt
server_more (verdict.Refused why) o more es f s = tt

-- an order comes
pub order_more : (l : Letter) (more es : List FleetEvent) (f : Fleet) → OrderComes l es f → OrderComes l (es ++ more) f
order_more l more = sooner (λ f e es. (k : ℕ) × (e ≡ Judge k) × (slice_get f.sent k ≡ Some l) × ServerKeeps (verdict_of f l) l.order es (fleet_comes f e).1) more
    (λ f e es p. (p.0, p.1, p.2, server_more (verdict_of f l) l.order more es (fleet_comes f e).1 p.3))

confirmation_more : (q : Publication) (more es : List FleetEvent) (f : Fleet) → ConfirmationComes q es f → ConfirmationComes q (es ++ more) f
confirmation_more q more = sooner (λ f e es. (k : ℕ) × (e ≡ HearOwner k) × (slice_get f.stored k ≡ Some q)) more (λ f e es p. p)

owner_more : (x : Verdict) (q : Publication) (more es : List FleetEvent) (f : Fleet) → OwnerKeeps x q es f → OwnerKeeps x q (es ++ more) f
owner_more verdict.Begin q more es f s = confirmation_more q more es f s
owner_more verdict.Again q more es f s = confirmation_more q more es f s
owner_more verdict.Working q more es f s = tt
owner_more verdict.Old q more es f s = tt
owner_more verdict.Foreign q more es f s = tt
owner_more verdict.NotReady q more es f s = tt
owner_more (verdict.Refused why) q more es f s = tt

-- a publication comes
pub publication_more : (n : Notice) (more es : List FleetEvent) (f : Fleet) → PublicationComes n es f → PublicationComes n (es ++ more) f
publication_more n more = sooner (λ f e es. (k : ℕ) × (e ≡ Publish k) × (slice_get f.published k ≡ Some n) × OwnerKeeps (owner_verdict f n) n.publication es (fleet_comes f e).1) more
    (λ f e es p. (p.0, p.1, p.2, owner_more (owner_verdict f n) n.publication more es (fleet_comes f e).1 p.3))

-- ---- all streams

module _ (E : FleetEvent → Type 0) (I : Fleet → Type 0) (D : StreamId → List FleetEvent → Fleet → Type 0) (count : ℕ → ℕ) (top : ℕ)
    (goes : (es : List FleetEvent) (f : Fleet) → AllByRecursion E es → I f → I (fleet_run es f))
    (behind : (id : StreamId) (es more : List FleetEvent) (f : Fleet) → AllByRecursion E more → D id es f → D id (es ++ more) f)
    (before : (id : StreamId) (es more : List FleetEvent) (f : Fleet) → D id more (fleet_run es f) → D id (es ++ more) f)
    (one : (id : StreamId) → id.plan < top → id.stream < count id.plan → (f : Fleet) → I f → (es : List FleetEvent) × AllByRecursion E es × D id es f) where
  gather_streams : (k : ℕ) → k < top → (m : ℕ) → m ≤ count k → (f : Fleet) → I f → (es : List FleetEvent) × AllByRecursion E es × ((i : ℕ) → i < m → D (stream_id k i) es f)
  gather_streams k t zero c f inv = ([], tt, λ i l. absurd (omega arith))
  gather_streams k t (suc m) c f inv =
      let a = gather_streams k t m (omega arith) f inv in
      let within : m < count k = omega arith in
      let b = one (stream_id k m) t within (fleet_run a.0 f) (goes a.0 f a.1 inv) in (
        a.0 ++ b.0,
        all_append E a.0 b.0 a.1 b.1,
        λ i l. elim (cases_eq i m) [
          | inl e ↦ subst (λ j. D (stream_id k j) (a.0 ++ b.0) f) (sym e) (before (stream_id k m) a.0 b.0 f b.2)
          | inr n ↦ behind (stream_id k i) a.0 b.0 f b.1 (a.2 i (omega arith))
        ],
      )

  gather_plans : (n : ℕ) → n ≤ top → (f : Fleet) → I f → (es : List FleetEvent) × AllByRecursion E es × ((id : StreamId) → id.plan < n → id.stream < count id.plan → D id es f)
  gather_plans zero t f inv = ([], tt, λ id l m. absurd (omega arith))
  gather_plans (suc n) t f inv =
      let a = gather_plans n (omega arith) f inv in
      let b = gather_streams n (omega arith) (count n) (omega arith) (fleet_run a.0 f) (goes a.0 f a.1 inv) in (
        a.0 ++ b.0,
        all_append E a.0 b.0 a.1 b.1,
        λ id l m. elim (cases_eq id.plan n) [
          | inl e ↦
              let same = same_stream id (stream_id n id.stream) e refl in
              let there = b.2 id.stream (subst (λ j. id.stream < count j) e m) in
              subst (λ j. D j (a.0 ++ b.0) f) (sym same) (before (stream_id n id.stream) a.0 b.0 f there)
          | inr d ↦ behind id a.0 b.0 f b.1 (a.2 id (omega arith) m)
        ],
      )

  -- events in which it comes for each stream of each plan
  pub gather : (f : Fleet) → I f → (es : List FleetEvent) × AllByRecursion E es × ((id : StreamId) → id.plan < top → id.stream < count id.plan → D id es f)
  gather f inv = gather_plans top (omega arith) f inv
