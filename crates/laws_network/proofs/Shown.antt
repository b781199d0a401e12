-- Facts that hold of the map wherever events lead: each entry is as it is recorded, or the publication of a stream is one step ahead of it.
use Rattle.std.proofs.Common.{◌≡◌, ◌≢◌, ℕ, suc, ◌+◌, ◌≤◌, ◌<◌, ◌⊎◌, refl, sym, ap, ◌∙◌, inl, inr, subst, arith, not, Bool, true, false, Option, Some, None, List, [], ◌∷◌, ◌++◌}
use Rattle.std.specs.Prelude.{◌==◌, is_none, is_some, nat_lt, if◌then◌else◌, slice_get}
use Rattle.std.specs.List.{AllByRecursion}
use Rattle.std.specs.Option.{option_to_list}
use Rattle.std.proofs.lemmas.Bool.{and_from, and_parts, cases_eq, cases_lt, eqb-true, le-ltb, lt-ltb, not-true}
use Rattle.sm_placement.specs.Setup.{Setup, sizes_of}
use Rattle.sm_placement.specs.Sums.{put}
use Rattle.sm_placement.proofs.Sums.{put-apart, put-here, put-same}
use Rattle.sm_placement.specs.Place.{Place}
use Rattle.sm_reservation.specs.declared.stream_id.StreamId.{StreamId}
use Rattle.sm_plan_code.specs.declared.instruction.Instr.{Instr}
use Rattle.sm_plan_code.specs.declared.instruction.Instr.TheVariants.{Publish, Unlist}
use Rattle.sm_protocol.specs.State.{Progress, State, is_begun, is_running, next_instruction, progress_of}
use Rattle.sm_protocol.specs.Steps.{entry_added, made}
use Rattle.sm_protocol.specs.Happens.{Happening, Step, Lose, happens}
use Rattle.sm_protocol.specs.declared.event.Passage.TheVariants.{Through}
use Rattle.sm_protocol.proofs.Courses.{some_same}
use Rattle.sm_protocol.proofs.Invariant.{IsKept}
use Rattle.sm_protocol.proofs.Numbers.{goes_on, one_stream}
use Rattle.sm_protocol.proofs.Reached.{same_machine}
use Rattle.sm_protocol.proofs.Whole.{reached_keeps}
use Rattle.sm_placement.specs.Rows.{serves}
use Rattle.laws_network.specs.Words.{Cell}
use Rattle.laws_network.specs.Net.{Answer, Ask, Control, Deliver, Delivery, Net, NetEvent, NetOutcome, Order, Pass, Quiet, Send, after_delivery, answer_taken, at_place, instruction_call, call_now, comes, controlled, delivered, is_awaited, is_own, passed, real, real_delivery}
use Rattle.laws_network.specs.Laws.{EachNet, IsNetReached, NetFits}
use Rattle.laws_network.specs.World.{Entry, Inner, Propose, Publication, Store, Stored, World, WorldEvent, acknowledged, by_place, is_answered_by, is_withheld, kept_by, publication_by, publication_for, publication_now, publication_of, within, world_comes, world_run}
use Rattle.laws_network.specs.WorldLaws.{AllWorldFit, AreStale, EachWorld, FollowsNet, Forwarding, IsAsRecorded, IsNewer, IsOfNet, IsServing, IsWorldOpening, IsWorldReached, NetIsReached, ShownIsNear, ShownIsRecorded, ShownIsRight, ShownNeverGoesBack, WorldFits}
use Rattle.laws_network.proofs.Calls.{step_made}
use Rattle.laws_network.proofs.Calm.{IsCalm}
use Rattle.laws_network.proofs.Finish.{run_append}
use Rattle.laws_network.proofs.Lists.{all_append, all_at, all_map, all_push}
use Rattle.laws_network.proofs.Publishing.{IsElse, IsPublishing, LeavesMap, else_leaves, one_publisher, publishes_still}
use Rattle.laws_network.proofs.Raised.{net_is_calm, real_is_safe, record_is_reached}

-- ---- what is recorded

pub net_calm : EachNet (λ setup n. IsCalm n.w)
net_calm = net_is_calm

-- the record keeps the invariant of the protocol
pub net_kept : (setup : Setup) (n : Net) → IsNetReached setup n → IsKept n.w
net_kept setup n r = (reached_keeps setup n.w (record_is_reached setup n r)).0

-- what is reached leads on
pub net_next : (setup : Setup) (n : Net) (e : NetEvent) → IsNetReached setup n → NetFits (sizes_of setup) e → IsNetReached setup (comes n e).1
net_next setup n e r fits = record {
  start = r.start;
  opening = r.opening;
  events = r.events ++ e ∷ [];
  fit = all_append (NetFits (sizes_of setup)) r.events (e ∷ []) r.fit (fits, tt);
  state = ap (λ m. (comes m e).1) r.state ∙ sym (run_append r.events (e ∷ []) r.start);
}

-- a call is no publication
call_or_publication : (w : State) (o : Option Instr) → is_some (instruction_call w.numbers o) ≡ true → publication_by w o ≡ None
call_or_publication w None e = refl
call_or_publication w (Some (Publish s)) e = cc
call_or_publication w (Some (Unlist s)) e = cc
call_or_publication w (Some _) e = refl

-- and a publication no call
pub publication_no_call : (w : State) (o : Option Instr) → is_some (publication_by w o) ≡ true → is_none (instruction_call w.numbers o) ≡ true
publication_no_call w None e = cc
publication_no_call w (Some (Publish s)) e = refl
publication_no_call w (Some (Unlist s)) e = refl
publication_no_call w (Some _) e = cc

none_where : {T : Type 0} (o : Option T) → is_some o ≡ false → o ≡ None
none_where None e = refl
none_where (Some x) e = cc

-- what is there can be named
pub some_where : {T : Type 0} (o : Option T) → is_some o ≡ true → (x : T) × (o ≡ Some x)
some_where None e = absurd (cc)
some_where (Some x) e = (x, refl)

-- An event of the network that is no step over a publication leaves what is recorded as it is, or records something else.
record IsWithin (n : Net) (m : Net) : Type 0 where
  pub base : m.base ≡ n.base
  pub w : (m.w ≡ n.w) ⊎ ((h : Happening) × (m.w ≡ (happens n.w h).1) × IsElse n.w h)

same_within : (n m : Net) → m.base ≡ n.base → m.w ≡ n.w → IsWithin n m
same_within n m b e = record { base = b; w = inl e }

comes_within : (n : Net) (e : NetEvent) → is_withheld n e ≡ false → IsWithin n (comes n e).1
comes_within n (Control h) e = go (is_own n.w h) refl
  where
    else_of : (h : Happening) → is_withheld n (Control h) ≡ false → is_own n.w h ≡ true → IsElse n.w h
    else_of (Step id) e o = none_where (publication_now n.w id) e
    else_of (Lose id after) e o = absurd (cc)
    else_of _ e o = tt

    go : (b : Bool) → is_own n.w h ≡ b → IsWithin n (if b then controlled n (happens n.w h) else (Quiet, n)).1
    go true o = record { base = refl; w = inr (h, refl, else_of h e o) }
    go false o = same_within n n refl refl
comes_within n (Send id) e = same_within n _ refl refl
comes_within n (Deliver k) e = go (slice_get n.sent k)
  where
    by_delivery : (o : Order) (d : Delivery) → IsWithin n (after_delivery n o d).1
    by_delivery o Delivery.Old = same_within n n refl refl
    by_delivery o Delivery.Again = same_within n _ refl refl
    by_delivery o (Delivery.Served next) = same_within n _ refl refl
    by_delivery o (Delivery.Refused why) = same_within n n refl refl

    go : (o : Option Order) → IsWithin n (at_place n delivered o).1
    go None = same_within n n refl refl
    go (Some o) = by_delivery o (real_delivery n o)
comes_within n (Answer k) e = go (slice_get n.answers k)
  where
    by_test : (o : Order) (b : Bool) → is_awaited n.base n.w o ≡ b → IsWithin n (if b then controlled n (happens n.w (Step o.stream)) else (Quiet, n)).1
    by_test o true a =
        let p = and_parts (is_running n.w o.stream) _ a in
        let q = and_parts (is_some (call_now n.w o.stream)) _ p.1 in
        record { base = refl; w = inr (Step o.stream, refl, call_or_publication n.w (next_instruction n.w o.stream) q.0) }
    by_test o false a = same_within n n refl refl

    go : (o : Option Order) → IsWithin n (at_place n answer_taken o).1
    go None = same_within n n refl refl
    go (Some o) = by_test o (is_awaited n.base n.w o) refl
comes_within n (Ask s v) e = same_within n _ refl refl
comes_within n (Pass k) e = go (slice_get n.passes k)
  where
    go : (o : Option _) → IsWithin n (passed n o).1
    go None = same_within n n refl refl
    go (Some t) = same_within n _ refl refl

-- ---- publications

-- a publication that a stream has now
pub record IsPresent (base : ℕ) (w : State) (p : Publication) : Type 0 where
  pub publishing : IsPublishing w p.stream p.shard p.entry.server
  pub version : p.entry.version ≡ base + suc (w.place.version p.shard)

pub present_of : (base : ℕ) (w : State) (id : StreamId) (p : Publication) → publication_of base w id ≡ Some p → IsPresent base w p × (p.stream ≡ id)
present_of base w id p e = on_running (is_running w id) refl e
  where
    some_publication : (x : ℕ × Option ℕ) → Publication
    some_publication x = record { stream = id; shard = x.0; entry = record { server = x.1; version = base + suc (w.place.version x.0) } }

    on_next : (o : Option Instr) → next_instruction w id ≡ o → is_begun w id ≡ true → (progress_of w id).done ≡ false → (x : Option (ℕ × Option ℕ)) → publication_by w o ≡ x → publication_for base w id x ≡ Some p → IsPresent base w p × (p.stream ≡ id)
    on_next None n b d x f e = absurd (let z : x ≡ None = sym f in cc)
    on_next (Some i) n b d None f e = absurd (cc)
    on_next (Some i) n b d (Some y) f e =
        let q : record { stream = id; shard = y.0; entry = record { server = y.1; version = base + suc (w.place.version y.0) } } ≡ p = some_same _ p e in
        subst (λ (z : Publication). IsPresent base w z × (z.stream ≡ id)) q
        (record { publishing = record { instr = i; before = record { begun = b; running = d; next_is = n }; now = f }; version = refl }, refl)

    on_running : (b : Bool) → is_running w id ≡ b → (if b then publication_for base w id (publication_now w id) else None) ≡ Some p → IsPresent base w p × (p.stream ≡ id)
    on_running true r e = let q = and_parts (is_begun w id) (not (progress_of w id).done) r in on_next (next_instruction w id) refl q.0 (not-true _ q.1) (publication_now w id) refl e
    on_running false r e = absurd (cc)

pub publication_is : (base : ℕ) (w : State) (id : StreamId) (s : ℕ) (server : Option ℕ) → IsPublishing w id s server →
    publication_of base w id ≡ Some (record { stream = id; shard = s; entry = record { server = server; version = base + suc (w.place.version s) } })
publication_is base w id s server p =
    let runs = and_from (is_begun w id) (not (progress_of w id).done) p.before.begun (ap not p.before.running) in
    ap (λ b. if b then publication_for base w id (publication_now w id) else None) runs ∙ ap (publication_for base w id) (ap (publication_by w) p.before.next_is ∙ p.now)

-- one stream publishes one thing
pub one_publication : (w : State) (id : StreamId) (s r : ℕ) (x y : Option ℕ) → IsPublishing w id s x → IsPublishing w id r y → (s ≡ r) × (x ≡ y)
one_publication w id s r x y p q =
    let a : publication_now w id ≡ Some (s, x) = ap (publication_by w) p.before.next_is ∙ p.now in
    let b : publication_now w id ≡ Some (r, y) = ap (publication_by w) q.before.next_is ∙ q.now in
    let e = some_same (s, x) (r, y) (sym a ∙ b) in
    (ap (λ (z : ℕ × Option ℕ). z.0) e, ap (λ (z : ℕ × Option ℕ). z.1) e)

-- its step records the entry
pub step_publishes : (w : State) (id : StreamId) (s : ℕ) (server : Option ℕ) → w.halted ≡ false → IsPublishing w id s server → happens w (Step id) ≡ entry_added w id s server
step_publishes w id s server h p = step_made w id Through h p.before.begun p.before.running ∙ ap (made w id Through) p.before.next_is ∙ go p.instr p.now
  where
    go : (i : Instr) → publication_by w (Some i) ≡ Some (s, server) → made w id Through (Some i) ≡ entry_added w id s server
    go (Publish r) e = ap (λ (z : ℕ × Option ℕ). entry_added w id z.0 z.1) (some_same _ _ e)
    go (Unlist r) e = ap (λ (z : ℕ × Option ℕ). entry_added w id z.0 z.1) (some_same _ _ e)
    go _ e = absurd (cc)

-- ---- the invariant

-- a stream's publication has had its effect, and its answer is outstanding
pub record IsOneAhead (x : World) (s : ℕ) : Type 0 where
  pub stream : StreamId
  pub server : Option ℕ
  pub publishing : IsPublishing x.net.w stream s server
  pub listed : (x.shown s).server ≡ server
  pub version : (x.shown s).version ≡ x.net.base + suc (x.net.w.place.version s)

-- the publication is an old one: neither the map's owner nor the controller looks at it any more
pub record IsGone (x : World) (p : Publication) : Type 0 where
  pub shown : p.entry.version ≤ (x.shown p.shard).version
  pub recorded : p.entry.version ≤ x.net.base + x.net.w.place.version p.shard

-- a publication is the present one of its stream, or it is old
abbrev pub IsMet : World → Publication → Type 0
IsMet x p = IsPresent x.net.base x.net.w p ⊎ IsGone x p

pub record IsMapKept (setup : Setup) (x : World) : Type 0 where
  pub net : IsNetReached setup x.net
  pub entries : (s : ℕ) → IsAsRecorded x s ⊎ IsOneAhead x s
  pub published : AllByRecursion (IsMet x) x.published
  pub stored : AreStale x x.stored

-- ---- the network goes on

-- what is recorded leads on, while no entry changes and each stream that publishes stays where it is
module _ (setup : Setup) (x : World) (k : IsMapKept setup x) (m : Net) (reached : IsNetReached setup m) (base : m.base ≡ x.net.base) where
  abbrev moved : World
  moved = record x { net = m }

  module _ (opens : m.w.opening ≡ x.net.w.opening) (listed : m.w.place.listed ≡ x.net.w.place.listed) (version : m.w.place.version ≡ x.net.w.place.version)
      (stays : (id : StreamId) (s : ℕ) (server : Option ℕ) → IsPublishing x.net.w id s server → IsPublishing m.w id s server) where
    version_is : (s : ℕ) → m.base + m.w.place.version s ≡ x.net.base + x.net.w.place.version s
    version_is s = ap (λ b. b + m.w.place.version s) base ∙ ap (λ f. x.net.base + f s) version

    next_is : (s : ℕ) → m.base + suc (m.w.place.version s) ≡ x.net.base + suc (x.net.w.place.version s)
    next_is s = ap (λ b. b + suc (m.w.place.version s)) base ∙ ap (λ f. x.net.base + suc (f s)) version

    moved_entry : (s : ℕ) → IsAsRecorded x s ⊎ IsOneAhead x s → IsAsRecorded moved s ⊎ IsOneAhead moved s
    moved_entry s (inl r) = inl (record { server = r.server ∙ ap (λ f. f s) (sym listed); version = (let a = r.version in let b = version_is s in omega arith); exact = λ n. r.exact (λ e. n (ap (λ f. f s) version ∙ e ∙ ap (λ (p : Place). p.version s) (sym opens))) ∙ sym (version_is s) })
    moved_entry s (inr a) = inr (record { stream = a.stream; server = a.server; publishing = stays a.stream s a.server a.publishing; listed = a.listed; version = a.version ∙ sym (next_is s) })

    moved_met : (p : Publication) → IsMet x p → IsMet moved p
    moved_met p (inl c) = inl (record { publishing = stays p.stream p.shard p.entry.server c.publishing; version = c.version ∙ sym (next_is p.shard) })
    moved_met p (inr g) = inr (record { shown = g.shown; recorded = (let a = g.recorded in let b = version_is p.shard in omega arith) })

    pub moved_kept : IsMapKept setup moved
    moved_kept = record {
      net = reached;
      entries = λ s. moved_entry s (k.entries s);
      published = all_map (IsMet x) (IsMet moved) x.published moved_met k.published;
      stored = k.stored;
    }

-- an event of the network
pub inner_kept : (setup : Setup) (x : World) → IsMapKept setup x → (e : NetEvent) → NetFits (sizes_of setup) e → is_withheld x.net e ≡ false → IsMapKept setup (record x { net = (comes x.net e).1 })
inner_kept setup x k e fits free =
    let i = comes_within x.net e free in
    let reached = net_next setup x.net e k.net fits in
    elim i.w [
      | inl same ↦ moved_kept setup x k (comes x.net e).1 reached i.base (ap (λ (w : State). w.opening) same) (ap (λ (w : State). w.place.listed) same) (ap (λ (w : State). w.place.version) same)
          (λ id s server p. subst (λ w. IsPublishing w id s server) (sym same) p)
      | inr h ↦
          let leaves : LeavesMap x.net.w (comes x.net e).1.w = subst (LeavesMap x.net.w) (sym h.1) (else_leaves x.net.w h.0 h.2) in
          let sizes : (comes x.net e).1.w.sizes ≡ x.net.w.sizes = ap (λ (w : State). w.sizes) h.1 ∙ (same_machine x.net.w h.0).sizes in
          moved_kept setup x k (comes x.net e).1 reached i.base (ap (λ (w : State). w.opening) h.1 ∙ (same_machine x.net.w h.0).opening) leaves.listed leaves.version
          (λ id s server p.
          let l = leaves.streams id s server p in
          publishes_still x.net.w (comes x.net e).1.w (net_kept setup x.net k.net) (net_kept setup (comes x.net e).1 reached) (net_calm setup x.net k.net).unmade (net_calm setup (comes x.net e).1 reached).unmade sizes id s server p l.0 l.1 l.2)
    ]

-- ---- a publication comes to the map's owner

-- what is shown never goes back, and at the same version it is the same
pub record IsForward (a b : Entry) : Type 0 where
  pub version : a.version ≤ b.version
  pub same : a.version ≡ b.version → a ≡ b

-- the map with an entry that has come is the map with that entry, or as it was
shown_is : (x : World) (p : Publication) → (kept_by x p).shown ≡ (if nat_lt (x.shown p.shard).version p.entry.version then put x.shown p.shard p.entry else x.shown)
shown_is x p = go (nat_lt (x.shown p.shard).version p.entry.version)
  where
    go : (b : Bool) → put x.shown p.shard (if b then p.entry else x.shown p.shard) ≡ (if b then put x.shown p.shard p.entry else x.shown)
    go true = refl
    go false = put-same x.shown p.shard (x.shown p.shard) refl

pub kept_forward : (x : World) (p : Publication) (s : ℕ) → IsForward (x.shown s) ((kept_by x p).shown s)
kept_forward x p s = subst (λ (f : ℕ → Entry). IsForward (x.shown s) (f s)) (sym (shown_is x p)) (go (nat_lt (x.shown p.shard).version p.entry.version) refl)
  where
    go : (b : Bool) → nat_lt (x.shown p.shard).version p.entry.version ≡ b → IsForward (x.shown s) ((if b then put x.shown p.shard p.entry else x.shown) s)
    go false e = record { version = omega arith; same = λ q. refl }
    go true e = elim (cases_eq s p.shard) [
      | inr n ↦ subst (IsForward (x.shown s)) (sym (put-apart x.shown p.shard p.entry s n)) (record { version = omega arith; same = λ q. refl })
      | inl h ↦ elim (cases_lt (x.shown p.shard).version p.entry.version) [
        | inr l ↦ absurd (let z = le-ltb (x.shown p.shard).version p.entry.version l in cc)
        | inl l ↦
            let l' : (x.shown s).version < p.entry.version = subst (λ r. (x.shown r).version < p.entry.version) (sym h) l in
            subst (IsForward (x.shown s)) (sym (put-here x.shown p.shard p.entry s h)) (record { version = (omega arith); same = λ q. absurd (omega arith) })
      ]
    ]

module _ (setup : Setup) (x : World) (k : IsMapKept setup x) (p : Publication) (met : IsMet x p) where
  abbrev after : World
  after = kept_by x p

  -- the new entry, where it is taken
  record IsTaken : Type 0 where
    pub above : (x.shown p.shard).version < p.entry.version
    pub shown : after.shown ≡ put x.shown p.shard p.entry

  record IsLeft : Type 0 where
    pub below : p.entry.version ≤ (x.shown p.shard).version
    pub shown : after.shown ≡ x.shown

  taken_or_left : IsTaken ⊎ IsLeft
  taken_or_left = elim (cases_lt (x.shown p.shard).version p.entry.version) [
    | inl l ↦ inl (record { above = l; shown = shown_is x p ∙ ap (λ b. if b then put x.shown p.shard p.entry else x.shown) (lt-ltb (x.shown p.shard).version p.entry.version l) })
    | inr l ↦ inr (record { below = l; shown = shown_is x p ∙ ap (λ b. if b then put x.shown p.shard p.entry else x.shown) (le-ltb (x.shown p.shard).version p.entry.version l) })
  ]

  same_entry : (s : ℕ) → after.shown s ≡ x.shown s → IsAsRecorded after s ⊎ IsOneAhead after s
  same_entry s e = elim (k.entries s) [
    | inl r ↦ inl (record { server = ap (λ (z : Entry). z.server) e ∙ r.server; version = subst (λ (z : Entry). z.version ≤ x.net.base + x.net.w.place.version s) (sym e) r.version; exact = λ n. ap (λ (z : Entry). z.version) e ∙ r.exact n })
    | inr a ↦ inr (record { stream = a.stream; server = a.server; publishing = a.publishing; listed = ap (λ (z : Entry). z.server) e ∙ a.listed; version = ap (λ (z : Entry). z.version) e ∙ a.version })
  ]

  after_entry : (s : ℕ) → IsAsRecorded after s ⊎ IsOneAhead after s
  after_entry s = elim taken_or_left [
    | inr l ↦ same_entry s (ap (λ f. f s) l.shown)
    | inl t ↦ elim (cases_eq s p.shard) [
      | inr n ↦ same_entry s (ap (λ f. f s) t.shown ∙ put-apart x.shown p.shard p.entry s n)
      | inl h ↦ elim met [
        | inr g ↦ absurd (let a = g.shown in let b = t.above in omega arith)
        | inl c ↦
            let e : after.shown s ≡ p.entry = ap (λ f. f s) t.shown ∙ put-here x.shown p.shard p.entry s h in
            inr (record {
              stream = p.stream;
              server = p.entry.server;
              publishing = subst (λ r. IsPublishing x.net.w p.stream r p.entry.server) (sym h) c.publishing;
              listed = ap (λ (z : Entry). z.server) e;
              version = ap (λ (z : Entry). z.version) e ∙ c.version ∙ ap (λ r. x.net.base + suc (x.net.w.place.version r)) (sym h);
            })
      ]
    ]
  ]

  after_stale : (q : Publication) → q.entry.version ≤ (x.shown q.shard).version → q.entry.version ≤ (after.shown q.shard).version
  after_stale q l = let f = (kept_forward x p q.shard).version in omega arith

  own_stale : p.entry.version ≤ (after.shown p.shard).version
  own_stale = elim taken_or_left [
    | inr l ↦ after_stale p l.below
    | inl t ↦ let e = ap (λ (f : ℕ → Entry). (f p.shard).version) t.shown ∙ ap (λ (z : Entry). z.version) (put-here x.shown p.shard p.entry p.shard refl) in omega arith
  ]

  after_met : (q : Publication) → IsMet x q → IsMet after q
  after_met q (inl c) = inl c
  after_met q (inr g) = inr (record { shown = after_stale q g.shown; recorded = g.recorded })

  pub stored_kept : IsMapKept setup after
  stored_kept = record {
    net = k.net;
    entries = after_entry;
    published = all_map (IsMet x) (IsMet after) x.published after_met k.published;
    stored = all_push (λ q. q.entry.version ≤ (after.shown q.shard).version) x.stored p
        (all_map (λ q. q.entry.version ≤ (x.shown q.shard).version) (λ q. q.entry.version ≤ (after.shown q.shard).version) x.stored after_stale k.stored) own_stale;
  }

-- ---- the answer of a publication comes to the controller

module _ (setup : Setup) (x : World) (k : IsMapKept setup x) (id : StreamId) (s : ℕ) (server : Option ℕ) (p : IsPublishing x.net.w id s server) where
  v : IsKept x.net.w
  v = net_kept setup x.net k.net

  calm : IsCalm x.net.w
  calm = net_calm setup x.net k.net

  abbrev stepped : Net
  stepped = record x.net { w = (entry_added x.net.w id s server).1 }

  step_is : (comes x.net (Control (Step id))).1 ≡ stepped
  step_is =
      let o : publication_now x.net.w id ≡ Some (s, server) = ap (publication_by x.net.w) p.before.next_is ∙ p.now in
      let own : is_own x.net.w (Step id) ≡ true = publication_no_call x.net.w (next_instruction x.net.w id) (ap is_some o) in
      ap (λ b. (if b then controlled x.net (happens x.net.w (Step id)) else (Quiet, x.net)).1) own ∙ ap (λ o. (controlled x.net o).1) (step_publishes x.net.w id s server calm.halted p)

  step_reached : IsNetReached setup stepped
  step_reached = subst (IsNetReached setup) step_is (net_next setup x.net (Control (Step id)) k.net tt)

  -- where the step would be taken, the new entry is listed, and the servers are as they were
  pub would_list : (n : Net) × IsNetReached setup n × (n.w.place.listed s ≡ server) × (n.cells ≡ x.net.cells)
  would_list = (stepped, step_reached, put-here x.net.w.place.listed s server s refl, refl)

  others_stay : (j : StreamId) → j ≢ id → (r : ℕ) (y : Option ℕ) → IsPublishing x.net.w j r y → IsPublishing stepped.w j r y
  others_stay j n r y q =
      let e = (goes_on x.net.w id _).others j n in
      publishes_still x.net.w stepped.w v (net_kept setup stepped step_reached) calm.unmade (net_calm setup stepped step_reached).unmade refl j r y q q.before.begun refl
      (ap (λ (z : Progress). z.at) e, ap (λ (z : Progress). z.done) e)

  module _ (stale : x.net.base + suc (x.net.w.place.version s) ≤ (x.shown s).version) where
    abbrev next : World
    next = record x { net = stepped }

    shown_ahead : ((x.shown s).server ≡ server) × ((x.shown s).version ≡ x.net.base + suc (x.net.w.place.version s))
    shown_ahead = elim (k.entries s) [
      | inl r ↦ absurd (let a = r.version in omega arith)
      | inr a ↦
          let one = one_publisher x.net.w v calm.unmade a.stream id s a.server server a.publishing p in
          let q : IsPublishing x.net.w id s a.server = subst (λ j. IsPublishing x.net.w j s a.server) one a.publishing in
          (a.listed ∙ (one_publication x.net.w id s s a.server server q p).1, a.version)
    ]

    version_here : (r : ℕ) → r ≡ s → stepped.w.place.version r ≡ suc (x.net.w.place.version s)
    version_here r e = put-here x.net.w.place.version s (suc (x.net.w.place.version s)) r e

    version_there : (r : ℕ) → r ≢ s → stepped.w.place.version r ≡ x.net.w.place.version r
    version_there r n = put-apart x.net.w.place.version s (suc (x.net.w.place.version s)) r n

    version_grows : (r : ℕ) → x.net.w.place.version r ≤ stepped.w.place.version r
    version_grows r = elim (cases_eq r s) [
      | inl e ↦ (let a = version_here r e in let b = ap x.net.w.place.version e in omega arith)
      | inr n ↦ (let a = version_there r n in omega arith)
    ]

    next_entry : (r : ℕ) → IsAsRecorded next r ⊎ IsOneAhead next r
    next_entry r = elim (cases_eq r s) [
      | inl e ↦ inl (record {
        server = ap (λ q. (x.shown q).server) e ∙ shown_ahead.0 ∙ sym (put-here x.net.w.place.listed s server r e);
        version = (let a = ap (λ q. (x.shown q).version) e in let b = shown_ahead.1 in let c = version_here r e in omega arith);
        exact = λ n. (let a = ap (λ q. (x.shown q).version) e in let b = shown_ahead.1 in let c = version_here r e in omega arith);
      })
      | inr n ↦ elim (k.entries r) [
        | inl a ↦ inl (record { server = a.server ∙ sym (put-apart x.net.w.place.listed s server r n); version = (let b = a.version in let c = version_there r n in omega arith); exact = λ d. a.exact (λ e. d (version_there r n ∙ e)) ∙ ap (λ m. x.net.base + m) (sym (version_there r n)) })
        | inr a ↦ inr (record {
          stream = a.stream;
          server = a.server;
          publishing = others_stay a.stream (λ e. n (one_publication x.net.w id r s a.server server (subst (λ j. IsPublishing x.net.w j r a.server) e a.publishing) p).0) r a.server a.publishing;
          listed = a.listed;
          version = a.version ∙ ap (λ m. x.net.base + suc m) (sym (version_there r n));
        })
      ]
    ]

    next_met : (q : Publication) → IsMet x q → IsMet next q
    next_met q (inr g) = inr (record { shown = g.shown; recorded = (let a = g.recorded in let b = version_grows q.shard in omega arith) })
    next_met q (inl c) = elim (one_stream q.stream id) [
      | inl e ↦
          let same : q.shard ≡ s = (one_publication x.net.w id q.shard s q.entry.server server (subst (λ j. IsPublishing x.net.w j q.shard q.entry.server) e c.publishing) p).0 in
          let was : x.net.w.place.version q.shard ≡ x.net.w.place.version s = ap x.net.w.place.version same in
          let shown : (x.shown q.shard).version ≡ (x.shown s).version = ap (λ r. (x.shown r).version) same in
          let a = c.version in
          let b = version_here q.shard same in
          inr (record { shown = (omega arith); recorded = (omega arith) })
      | inr n ↦
          let apart : q.shard ≢ s = λ h. n (one_publisher x.net.w v calm.unmade q.stream id s q.entry.server server (subst (λ r. IsPublishing x.net.w q.stream r q.entry.server) h c.publishing) p) in
          inl (record {
            publishing = others_stay q.stream n q.shard q.entry.server c.publishing;
            version = c.version ∙ ap (λ m. x.net.base + suc m) (sym (version_there q.shard apart));
          })
    ]

    pub answer_kept : IsMapKept setup (record x { net = (comes x.net (Control (Step id))).1 })
    answer_kept = subst (λ (n : Net). IsMapKept setup (record x { net = n })) (sym step_is) (record {
      net = step_reached;
      entries = next_entry;
      published = all_map (IsMet x) (IsMet next) x.published next_met k.published;
      stored = k.stored;
    })

-- ---- all events

-- publications are sent
sent_kept : (setup : Setup) (x : World) → IsMapKept setup x → (ps : List Publication) → AllByRecursion (IsMet x) ps → IsMapKept setup (record x { published = x.published ++ ps })
sent_kept setup x k ps all = record {
  net = k.net;
  entries = λ s. elim (k.entries s) [
    | inl r ↦ inl (record { server = r.server; version = r.version; exact = r.exact })
    | inr a ↦ inr (record { stream = a.stream; server = a.server; publishing = a.publishing; listed = a.listed; version = a.version })
  ];
  published = all_map (IsMet x) (IsMet (record x { published = x.published ++ ps })) (x.published ++ ps) met (all_append (IsMet x) x.published ps k.published all);
  stored = k.stored;
}
  where
    met : (q : Publication) → IsMet x q → IsMet (record x { published = x.published ++ ps }) q
    met q (inl c) = inl c
    met q (inr g) = inr (record { shown = g.shown; recorded = g.recorded })

pub world_kept : (setup : Setup) (x : World) → IsMapKept setup x → (e : WorldEvent) → WorldFits (sizes_of setup) e → IsMapKept setup (world_comes x e).1
world_kept setup x k (Inner e) fits = go (is_withheld x.net e) refl
  where
    go : (b : Bool) → is_withheld x.net e ≡ b → IsMapKept setup (if b then (Quiet, x) else within x (comes x.net e)).1
    go true h = k
    go false h = inner_kept setup x k e fits h
world_kept setup x k (Propose id) fits = go (publication_of x.net.base x.net.w id) refl
  where
    go : (o : Option Publication) → publication_of x.net.base x.net.w id ≡ o → IsMapKept setup (record x { published = x.published ++ option_to_list o })
    go None e = sent_kept setup x k [] tt
    go (Some p) e = sent_kept setup x k (p ∷ []) (inl (present_of x.net.base x.net.w id p e).0, tt)
world_kept setup x k (Store j) fits = go (slice_get x.published j) refl
  where
    go : (o : Option Publication) → slice_get x.published j ≡ o → IsMapKept setup (by_place x (λ y p. (Quiet, kept_by y p)) o).1
    go None e = k
    go (Some p) e = stored_kept setup x k p (all_at (IsMet x) x.published j p k.published e)
world_kept setup x k (Stored j) fits = go (slice_get x.stored j) refl
  where
    by_test : (p : Publication) → p.entry.version ≤ (x.shown p.shard).version → (o : Option Publication) → publication_of x.net.base x.net.w p.stream ≡ o → (b : Bool) → is_answered_by p o ≡ b →
        IsMapKept setup (if b then within x (comes x.net (Control (Step p.stream))) else (Quiet, x)).1
    by_test p l o f false e = k
    by_test p l None f true e = absurd (cc)
    by_test p l (Some q) f true e =
        let t = and_parts (p.shard == q.shard) (p.entry.version == q.entry.version) e in
        let shard : p.shard ≡ q.shard = eqb-true p.shard q.shard t.0 in
        let version : p.entry.version ≡ q.entry.version = eqb-true p.entry.version q.entry.version t.1 in
        let c = present_of x.net.base x.net.w p.stream q f in
        let here : IsPublishing x.net.w p.stream q.shard q.entry.server = subst (λ j. IsPublishing x.net.w j q.shard q.entry.server) c.1 c.0.publishing in
        let a = c.0.version in
        let b : (x.shown p.shard).version ≡ (x.shown q.shard).version = ap (λ r. (x.shown r).version) shard in
        answer_kept setup x k p.stream q.shard q.entry.server here (omega arith)

    go : (o : Option Publication) → slice_get x.stored j ≡ o → IsMapKept setup (by_place x acknowledged o).1
    go None e = k
    go (Some p) e = by_test p (all_at (λ q. q.entry.version ≤ (x.shown q.shard).version) x.stored j p k.stored e) (publication_of x.net.base x.net.w p.stream) refl (is_answered_by p (publication_of x.net.base x.net.w p.stream)) refl

pub world_run_kept : (setup : Setup) (es : List WorldEvent) (x : World) → IsMapKept setup x → AllWorldFit (sizes_of setup) es → IsMapKept setup (world_run es x)
world_run_kept setup [] x k fit = k
world_run_kept setup (e ∷ es) x k fit = world_run_kept setup es (world_comes x e).1 (world_kept setup x k e fit.0) fit.1

pub opening_kept : (setup : Setup) (x : World) → IsWorldOpening setup x → IsMapKept setup x
opening_kept setup x o = record {
  net = record { start = x.net; opening = o.net; events = []; fit = tt; state = refl };
  entries = λ s. inl (record { server = o.servers s; version = o.versions s; exact = λ n. absurd (n (ap (λ (w : State). w.place.version s) o.net.w ∙ ap (λ (w : State). w.opening.version s) (sym o.net.w))) });
  published = all_map (λ p. p.entry.version ≤ (x.shown p.shard).version) (IsMet x) x.published (λ p l. inr (record { shown = l; recorded = (let a = o.versions p.shard in omega arith) })) o.published;
  stored = o.stored;
}

-- the invariant of the map holds wherever events lead
pub reached_kept : (setup : Setup) (x : World) → IsWorldReached setup x → IsMapKept setup x
reached_kept setup x r = subst (IsMapKept setup) (sym r.state) (world_run_kept setup r.events r.start (opening_kept setup r.start r.opening) r.fit)

-- ---- laws

-- controller and servers come where events of the network lead
pub net_is_reached : EachWorld NetIsReached
net_is_reached setup x r = (reached_kept setup x r).net

-- an entry is as far as itself
pub forward_same : (a : Entry) → IsForward a a
forward_same a = record { version = omega arith; same = λ e. refl }

-- who is further than one that is further is further
pub forward_next : (a b c : Entry) → IsForward a b → IsForward b c → IsForward a c
forward_next a b c f g =
    let l = f.version in
    let m = g.version in
    record { version = (omega arith); same = λ e. f.same (omega arith) ∙ g.same (omega arith) }

world_forward : (x : World) (e : WorldEvent) (s : ℕ) → IsForward (x.shown s) ((world_comes x e).1.shown s)
world_forward x (Inner e) s = go (is_withheld x.net e)
  where
    go : (b : Bool) → IsForward (x.shown s) ((if b then (Quiet, x) else within x (comes x.net e)).1.shown s)
    go true = forward_same (x.shown s)
    go false = forward_same (x.shown s)
world_forward x (Propose id) s = forward_same (x.shown s)
world_forward x (Store j) s = go (slice_get x.published j)
  where
    go : (o : Option Publication) → IsForward (x.shown s) ((by_place x (λ y p. (Quiet, kept_by y p)) o).1.shown s)
    go None = forward_same (x.shown s)
    go (Some p) = kept_forward x p s
world_forward x (Stored j) s = go (slice_get x.stored j)
  where
    by_test : (p : Publication) (b : Bool) → IsForward (x.shown s) ((if b then within x (comes x.net (Control (Step p.stream))) else (Quiet, x)).1.shown s)
    by_test p true = forward_same (x.shown s)
    by_test p false = forward_same (x.shown s)

    go : (o : Option Publication) → IsForward (x.shown s) ((by_place x acknowledged o).1.shown s)
    go None = forward_same (x.shown s)
    go (Some p) = by_test p (is_answered_by p (publication_of x.net.base x.net.w p.stream))

run_forward : (x : World) (es : List WorldEvent) (s : ℕ) → IsForward (x.shown s) ((world_run es x).shown s)
run_forward x [] s = forward_same (x.shown s)
run_forward x (e ∷ es) s = forward_next (x.shown s) ((world_comes x e).1.shown s) ((world_run es (world_comes x e).1).shown s) (world_forward x e s) (run_forward (world_comes x e).1 es s)

-- what is shown never goes back
pub shown_never_goes_back : ShownNeverGoesBack
shown_never_goes_back x es s = let f = run_forward x es s in (f.version, f.same)

abbrev IsRightAt : Net → ℕ → ℕ → Type 0
IsRightAt n s u = IsServing (real n) s u ⊎ ((v number : ℕ) × (n.cells s u ≡ Forwarding v number) × IsServing (real n) s v)

listed_right : (setup : Setup) (n : Net) → IsNetReached setup n → (s u : ℕ) → n.w.place.listed s ≡ Some u → IsRightAt n s u
listed_right setup n r s u e = (real_is_safe setup n r).listed s u e

-- the shown server serves, or forwards to the one that does
pub shown_is_right : EachWorld ShownIsRight
shown_is_right setup x r s u e =
    let k = reached_kept setup x r in
    elim (k.entries s) [
      | inl a ↦ listed_right setup x.net k.net s u (sym a.server ∙ e)
      | inr a ↦
          let w = would_list setup x k a.stream s a.server a.publishing in
          subst (λ (f : ℕ → ℕ → Cell). (serves (f s) u ≡ true) ⊎ ((v number : ℕ) × (f s u ≡ Forwarding v number) × (serves (f s) v ≡ true))) w.3 (listed_right setup w.0 w.1 s u (w.2 ∙ sym a.listed ∙ e))
    ]

newer : (x : World) (s : ℕ) → IsOneAhead x s → IsNewer x s
newer x s a = record {
  publication = record { stream = a.stream; shard = s; entry = record { server = a.server; version = x.net.base + suc (x.net.w.place.version s) } };
  current = publication_is x.net.base x.net.w a.stream s a.server a.publishing;
  shard = refl;
  entry = ap (λ o. let z : Entry = record { server = o; version = (x.shown s).version } in z) a.listed ∙ ap (λ m. let z : Entry = record { server = a.server; version = m } in z) a.version;
}

-- each entry is as recorded, or one publication further
pub shown_is_near : EachWorld ShownIsNear
shown_is_near setup x r s = elim ((reached_kept setup x r).entries s) [
  | inl a ↦ inl a
  | inr a ↦ inr (newer x s a)
]

-- if no answer of a publication is outstanding, the map shows what is recorded
pub shown_is_recorded : EachWorld ShownIsRecorded
shown_is_recorded setup x r none s = elim ((reached_kept setup x r).entries s) [
  | inl a ↦ a
  | inr a ↦ absurd (let n = newer x s a in none n.publication.stream n.publication n.current (ap x.shown n.shard ∙ n.entry))
]

abbrev Follows : World → WorldEvent → NetOutcome × World → Type 0
Follows x e o = ((o.0 ≡ Quiet) × (o.1.net ≡ x.net)) ⊎ IsOfNet x e o

-- each event leaves controller and servers as they are, or is one event of the network
pub follows_net : FollowsNet
follows_net x (Inner e) = go (is_withheld x.net e)
  where
    go : (b : Bool) → Follows x (Inner e) (if b then (Quiet, x) else within x (comes x.net e))
    go true = inl (refl, refl)
    go false = inr (e, λ c f. f, refl, refl)
follows_net x (Propose id) = inl (refl, refl)
follows_net x (Store j) = go (slice_get x.published j)
  where
    go : (o : Option Publication) → Follows x (Store j) (by_place x (λ y p. (Quiet, kept_by y p)) o)
    go None = inl (refl, refl)
    go (Some p) = inl (refl, refl)
follows_net x (Stored j) = go (slice_get x.stored j)
  where
    by_test : (p : Publication) (b : Bool) → Follows x (Stored j) (if b then within x (comes x.net (Control (Step p.stream))) else (Quiet, x))
    by_test p true = inr (Control (Step p.stream), λ c f. tt, refl, refl)
    by_test p false = inl (refl, refl)

    go : (o : Option Publication) → Follows x (Stored j) (by_place x acknowledged o)
    go None = inl (refl, refl)
    go (Some p) = by_test p (is_answered_by p (publication_of x.net.base x.net.w p.stream))
