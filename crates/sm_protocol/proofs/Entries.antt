-- The published map is what the entries that were added to it make of the opening's.
use Rattle.sm_protocol.proofs.Below.{◌≡◌, ℕ, suc, Bool, true, false, Ok, refl, sym, ap, ◌∙◌, inl, inr, Option, ◌∷◌, ◌==◌, if◌then◌else◌, cases_eq, eq-eqb, ne_eqb, Entry, entry_at, put-here, put-apart, publish, ServerCall, CallEffect, StreamId}
use Rattle.sm_protocol.proofs.Words.{EachReached, FollowsEntries, Happening, Passage, Through, LostBefore, LostAfter, State, call_number, entry_added, entry_after, happens}
use Rattle.sm_protocol.proofs.Cases.{OfSteps, answer_to, of_happens}
use Rattle.sm_protocol.proofs.LogRoom.{IsOfCall, of_call}
use Rattle.sm_protocol.proofs.Reached.{by_events}

module _ (w : State) (h : FollowsEntries w) where
  -- an entry more of a shard
  one_added : (s : ℕ) (server : Option ℕ) (t : ℕ) →
      let entry : Entry = record { server = server; version = suc (w.place.version s) } in
      entry_at (publish w.place s server) t ≡ entry_after ((s, entry) ∷ w.entries) w.opening t
  one_added s server t =
      let entry : Entry = record { server = server; version = suc (w.place.version s) } in
      let there : (b : Bool) → (s == t) ≡ b → entry_after ((s, entry) ∷ w.entries) w.opening t ≡ (if b then entry else entry_after w.entries w.opening t) =
      λ b e. ap (λ c. if c then entry else entry_after w.entries w.opening t) e in
      elim (cases_eq s t) [
        | inl q ↦
            let l = put-here w.place.listed s server t (sym q) in
            let v = put-here w.place.version s (suc (w.place.version s)) t (sym q) in
            (λ j. record { server = l j; version = v j }) ∙ sym (there true (eq-eqb s t q))
        | inr n ↦
            let l = put-apart w.place.listed s server t (λ q. n (sym q)) in
            let v = put-apart w.place.version s (suc (w.place.version s)) t (λ q. n (sym q)) in
            (λ j. record { server = l j; version = v j }) ∙ h.map t ∙ sym (there false (ne_eqb s t n))
      ]

  published : (id : StreamId) (s : ℕ) (server : Option ℕ) → FollowsEntries (entry_added w id s server).1
  published id s server = record { map = one_added s server; versions = (ap (λ (e : Entry). suc e.version) (h.map s), h.versions) }

  -- a call leaves the map
  served : (id : StreamId) (x : ServerCall) (effect : CallEffect) → IsOfCall w.place effect → (s : ℕ) → entry_at effect.place s ≡ entry_after w.entries w.opening s
  served id x effect c s = (λ j. record { server = c.listed j s; version = c.version j s }) ∙ h.map s

  by_steps : (id : StreamId) (passage : Passage) → OfSteps w id passage (λ o. FollowsEntries o.1)
  by_steps id passage = record {
    idle = λ answer. h;
    refused = λ i x why t e. h;
    at_end = λ b. record { map = h.map; versions = h.versions };
    publishes = λ i s server b c. published id s server;
    posts = λ q b. record { map = h.map; versions = h.versions };
    awaits = λ q b e. record { map = h.map; versions = h.versions };
    lost = λ i x t p. record { map = h.map; versions = h.versions };
    through = λ i x effect t a p. record { map = served id x effect (of x effect a); versions = h.versions };
    unanswered = λ i x effect t a p. record { map = served id x effect (of x effect a); versions = h.versions };
  }
    where
      of : (x : ServerCall) (effect : CallEffect) → answer_to w id x ≡ Ok effect → IsOfCall w.place effect
      of x effect a = of_call w.sizes w.place x.shard x.server x.call (call_number w (w.progress id.plan id.stream)) effect a

  follows_on : (e : Happening) → FollowsEntries (happens w e).1
  follows_on e = of_happens w (λ e o. FollowsEntries o.1) (record {
    idle = λ e answer n. h;
    steps = λ id. by_steps id Through;
    loses = λ id after. by_steps id (if after then LostAfter else LostBefore);
    refills = λ id more f. record { map = h.map; versions = h.versions };
    arrives = λ s v f. record { map = h.map; versions = h.versions };
    passes_on = λ t o f. record { map = h.map; versions = h.versions };
    approves = λ v f. record { map = h.map; versions = h.versions };
    restarts = λ v f. record { map = h.map; versions = h.versions };
    starts = λ plan a b c. record { map = h.map; versions = h.versions };
  }) e

-- so it is in each state that events lead to
pub map_follows_entries : EachReached FollowsEntries
map_follows_entries setup w reached =
    let all = by_events setup FollowsEntries (λ p room o. record { map = λ s. refl; versions = tt }) (λ u e at f h. follows_on u h e) w reached in
    record { map = all.map; versions = all.versions }
