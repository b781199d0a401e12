-- What is done with the data leaves who leads, or makes another one lead.
use Rattle.std.proofs.Common.{◌≡◌, ℕ, inl, inr, refl, sym, subst, arith, false, List, [], ◌∷◌, ◌++◌, Option, Some, None}
use Rattle.std.specs.Prelude.{slice_get}
use Rattle.sm_server.specs.declared.call.Cell.{Cell}
use Rattle.sm_server.specs.declared.call.Cell.TheVariants.{Absent, Prepared, Secondary, Primary, Forwarding}
use Rattle.laws_data.specs.Shard.{Acknowledges, Changes, Chooses, Copies, Ends, Event, Executes, Follows, Goes, Hands, Hears, Joins, Leave, Loses, Lowers, MayHappen, MayHappenInTurn, Raises, Releases, Removes, Restarts, Shard, Stays, Succeeds, Takes, Tells, Word, all_left, left_by, with_heard}
use Rattle.laws_service_data.specs.Duties.{BecomesPrimary, ForRequest, IsExecuted, IsLeading, TakesOver, has_cause}
use Rattle.laws_service_data.specs.Laws.{LeadsOrWaits}

-- ---- by themselves

heard_leads : (w : Shard) (v : ℕ) (o : Option Word) → IsLeading w v → IsLeading (with_heard w o) v
heard_leads w v None l = l
heard_leads w v (Some word) l = l

-- what servers do by themselves leaves who leads
pub leads_still : (w : Shard) (v : ℕ) (e : Event) → has_cause e ≡ false → MayHappen w e → IsLeading w v → IsLeading (left_by w e) v
leads_still w v (Copies s) c a l = l
leads_still w v (Follows s list) c a l = l
leads_still w v (Tells s) c a l = l
leads_still w v (Hears which) c a l = heard_leads w v (slice_get w.words which) l
leads_still w v (Acknowledges list) c a l = l
leads_still w v (Leave s) c a l = l
leads_still w v (Stays s) c a l = l
leads_still w v (Loses s) c a l = l
leads_still w v (Raises needed) c a l = l
leads_still w v (Lowers needed) c a l = l
leads_still w v (Releases s others) c a l = l
leads_still w v (Takes s source) c a l = l
leads_still w v (Executes write) c a l = absurd (cc)
leads_still w v (Joins s) c a l = absurd (cc)
leads_still w v (Goes s) c a l = absurd (cc)
leads_still w v (Hands s) c a l = absurd (cc)
leads_still w v (Removes gone needed) c a l = absurd (cc)
leads_still w v (Changes s view answered) c a l = absurd (cc)
leads_still w v (Chooses choice) c a l = absurd (cc)
leads_still w v (Ends number) c a l = absurd (cc)
leads_still w v (Restarts view) c a l = absurd (cc)
leads_still w v (Succeeds s view former) c a l = absurd (cc)

-- Where whoever leads goes on to lead, whoever leads or waits goes on, too.
pub waits_still : (w new : Shard) (v : ℕ) (c : Cell) → ((u : ℕ) → IsLeading w u → IsLeading new u) → LeadsOrWaits w v c → LeadsOrWaits new v c
waits_still w new v Absent h l = h v l
waits_still w new v Secondary h l = h v l
waits_still w new v Primary h l = h v l
waits_still w new v (Forwarding a n) h l = h v l
waits_still w new v (Prepared a n) h (inl l) = inl (h v l)
waits_still w new v (Prepared a n) h (inr l) = inr (h a l)

-- ---- for orders and requests

-- one event after another
pub left_append : (es fs : List Event) (w : Shard) → all_left (es ++ fs) w ≡ all_left fs (all_left es w)
left_append [] fs w = refl
left_append (e ∷ es) fs w = left_append es fs (left_by w e)

-- whoever takes over leads, whatever it does then
pub takes_over : (w : Shard) (v : ℕ) (first rest : List Event) → TakesOver w v first → MayHappenInTurn w (first ++ rest) → IsLeading (all_left first w) v
takes_over w v first rest (inl e) a =
    let b = subst (λ (d : List Event). MayHappenInTurn w (d ++ rest)) e a in
    subst (λ (d : List Event). IsLeading (all_left d w) v) (sym e) (refl, b.0.3)
takes_over w v first rest (inr e) a = subst (λ (d : List Event). IsLeading (all_left d w) v) (sym e.0) e.1

-- whoever takes over, and does nothing else, leads
pub takes_over_alone : (w : Shard) (v : ℕ) (acts : List Event) → TakesOver w v acts → MayHappenInTurn w acts → IsLeading (all_left acts w) v
takes_over_alone w v acts (inl e) a =
    let b = subst (λ (d : List Event). MayHappenInTurn w d) e a in
    subst (λ (d : List Event). IsLeading (all_left d w) v) (sym e) (refl, b.0.3)
takes_over_alone w v acts (inr e) a = subst (λ (d : List Event). IsLeading (all_left d w) v) (sym e.0) e.1

-- whoever becomes primary leads
pub becomes_primary : (w : Shard) (v number : ℕ) (acts : List Event) → BecomesPrimary v number acts → MayHappenInTurn w acts → IsLeading (all_left acts w) v
becomes_primary w v number acts (inl c) a =
    let b = subst (λ (d : List Event). MayHappenInTurn w d) c.1 a in
    subst (λ (d : List Event). IsLeading (all_left d w) v) (sym c.1) (refl, (let q = b.0.3.1 in omega arith))
becomes_primary w v number acts (inr c) a =
    let b = subst (λ (d : List Event). MayHappenInTurn w d) c.1 a in
    subst (λ (d : List Event). IsLeading (all_left d w) v) (sym c.1) (refl, (let q = b.0.6.1 in omega arith))

-- whoever led when it executed something leads
pub executed_leads : (w : Shard) (v : ℕ) (acts : List Event) → IsExecuted acts → IsLeading w v → IsLeading (all_left acts w) v
executed_leads w v acts (inl c) l = subst (λ (d : List Event). IsLeading (all_left d w) v) (sym c.1) l
executed_leads w v acts (inr e) l = subst (λ (d : List Event). IsLeading (all_left d w) v) (sym e) l

-- who executes a request leads then, if it led or waited before
pub request_leads : (w : Shard) (v : ℕ) (c : Cell) (acts : List Event) → ForRequest w v c acts → MayHappenInTurn w acts → LeadsOrWaits w v c → IsLeading (all_left acts w) v
request_leads w v Absent acts d a l = executed_leads w v acts d l
request_leads w v Secondary acts d a l = executed_leads w v acts d l
request_leads w v Primary acts d a l = executed_leads w v acts d l
request_leads w v (Forwarding x n) acts d a l = executed_leads w v acts d l
request_leads w v (Prepared x n) acts d a l =
    let b = subst (λ (z : List Event). MayHappenInTurn w z) d.4 a in
    subst (λ (z : List Event). IsLeading (all_left z w) v) (sym d.4)
    (subst (λ (z : Shard). IsLeading z v) (sym (left_append d.0 d.1 w)) (executed_leads (all_left d.0 w) v d.1 d.3 (takes_over w v d.0 d.1 d.2 b)))

-- who leads is ready
pub leads_as_primary : (w : Shard) (v : ℕ) (c : Cell) → IsLeading w v → LeadsOrWaits w v c
leads_as_primary w v Absent l = l
leads_as_primary w v Secondary l = l
leads_as_primary w v Primary l = l
leads_as_primary w v (Forwarding a n) l = l
leads_as_primary w v (Prepared a n) l = inl l
