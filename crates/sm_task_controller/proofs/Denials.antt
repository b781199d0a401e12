-- A server may be taken down exactly where none of the reasons against it holds.
use Rattle.std.proofs.Common.{◌≡◌, ◌<◌, ◌≤◌, ℕ, Bool, true, false, Option, None, refl, inl, inr, arith}
use Rattle.std.specs.Prelude.{option_map, nat_le, nat_lt}
use Rattle.std.proofs.lemmas.Bool.{cases_lt, cases_Bool, lt-ltb, le-leb, le-ltb, leb-true}
use Rattle.sm_placement.specs.Setup.{Sizes}
use Rattle.sm_placement.specs.Place.{Place, down_count}
use Rattle.sm_placement.proofs.Searches.{none_mapped}
use Rattle.sm_reservation.specs.Hold.{Hold}
use Rattle.sm_reservation.specs.declared.stream_id.StreamId.{StreamId}
use Rattle.sm_reservation.proofs.ShortLemmas.{no_answer}
use Rattle.sm_task_controller.specs.declared.decision.Denied.{Denied}
use Rattle.sm_task_controller.specs.declared.decision.Denied.TheVariants.{AlreadyDown, Engaged, GlobalCap, ShardCap, LogFull}
use Rattle.sm_task_controller.specs.Decision.{denied_if, first_without_spare, denial}

if_none : (test : Bool) (why : Denied) → denied_if test why ≡ None → test ≡ false
if_none true why e = cc
if_none false why e = refl

-- none of the reasons holds
pub record IsGranted (c : Sizes) (p : Place) (pool : Hold) (engaged : Option StreamId) (log_free v : ℕ) : Type 0 where
  pub up : p.down v ≡ false
  pub free : engaged ≡ None
  pub cap : down_count c p < p.limit
  pub spare : first_without_spare c p pool v ≡ None
  pub places : 2 ≤ log_free

-- where no reason is given against it, none of the reasons holds
pub granted : (c : Sizes) (p : Place) (pool : Hold) (engaged : Option StreamId) (log_free v : ℕ) → denial c p pool engaged log_free v ≡ None → IsGranted c p pool engaged log_free v
granted c p pool engaged log_free v e =
    let a = no_answer (denied_if (p.down v) AlreadyDown) _ e in
    let b = no_answer (option_map Engaged engaged) _ a.1 in
    let d = no_answer (denied_if (nat_le p.limit (down_count c p)) GlobalCap) _ b.1 in
    let f = no_answer (option_map ShardCap (first_without_spare c p pool v)) _ d.1 in
    let cap = if_none _ GlobalCap d.0 in
    let places = if_none _ LogFull f.1 in
    record {
      up = if_none _ AlreadyDown a.0;
      free = none_mapped Engaged engaged b.0;
      cap = elim (cases_lt (down_count c p) p.limit) [ inl l ↦ l | inr l ↦ absurd (let t = le-leb p.limit (down_count c p) l in cc) ];
      spare = none_mapped ShardCap _ f.0;
      places = elim (cases_lt log_free 2) [ inl l ↦ absurd (let t = lt-ltb log_free 2 l in cc) | inr l ↦ l ];
    }

-- where none of the reasons holds, none is given
pub not_denied : (c : Sizes) (p : Place) (pool : Hold) (engaged : Option StreamId) (log_free v : ℕ) → IsGranted c p pool engaged log_free v → denial c p pool engaged log_free v ≡ None
not_denied c p pool engaged log_free v g =
    let cap : nat_le p.limit (down_count c p) ≡ false = elim (cases_Bool (nat_le p.limit (down_count c p))) [ inl t ↦ absurd (let l = leb-true p.limit (down_count c p) t in let h = g.cap in omega arith) | inr f ↦ f ] in
    let places : nat_lt log_free 2 ≡ false = le-ltb log_free 2 g.places in
    rw (g.spare, g.free, cap, places, g.up) refl
