-- Floors are kept once a settlement is confirmed: each server that is live by it has a replica until it takes its settle, and then the settled one.
use Rattle.std.proofs.Common.{◌≡◌, ◌≤◌, ◌<◌, ℕ, zero, suc, refl, sym, ap, ◌∙◌, inl, inr, subst, arith, not, Bool, true, false, Option, Some, None, List, [], ◌∷◌, ◌++◌, length}
use Rattle.std.specs.Prelude.{◌&&◌, ◌||◌, is_none, is_some, nat_lt}
use Rattle.std.specs.List.{AllByRecursion}
use Rattle.std.proofs.lemmas.Bool.{and_from, and_parts, cases_Bool, cases_eq, cases_lt, lt-ltb, not-true}
use Rattle.sm_server.specs.declared.call.Cell.{Cell}
use Rattle.sm_server.specs.declared.call.Cell.TheVariants as cell
use Rattle.sm_server.specs.Cell.{is_primary, is_secondary}
use Rattle.sm_placement.specs.Setup.{Setup, sizes_of}
use Rattle.sm_placement.specs.Sums.{bit, count_below}
use Rattle.sm_placement.specs.Lead.{Describes, IsPlain as IsPlainCell, is_at_rest}
use Rattle.sm_placement.specs.declared.lead.Lead.{Lead}
use Rattle.sm_placement.specs.declared.lead.Lead.TheVariants as lead
use Rattle.sm_placement.specs.Place.{Place, live_at}
use Rattle.sm_placement.specs.Rows.{is_live, serves_as}
use Rattle.laws_network.specs.Words.{IsOpening}
use Rattle.laws_network.specs.Reopening.{Confirm, Entries, Fence, Fenced, Inventory, MapOwner, Message, Records, Reopen, Restore, Server, Settle, Settled, Settlement, Settling, SettlingEvent, Slots, Unknown, entered, records, sends, settle_by, settling_comes, settling_run, to_each}
use Rattle.laws_network.specs.ReopeningLaws.{AllSettlingFit, EachSettling, IsSettlingReached, Keeps, MaySettle, OpensWithPast}
use Rattle.laws_network.proofs.Lists.{all_append, all_map}
use Rattle.laws_reopening.specs.Floors.{AreUpKnown, ConfirmsNone, FloorsStay, counts_as, had_place, is_counted_at, replicas}
use Rattle.laws_reopening.proofs.Standing.{none_or_some}
use Rattle.laws_reopening.proofs.Followed.{Follows, IsCurrent, IsFollowed, all_to_each, followed_run}
use Rattle.laws_reopening.proofs.Numbers.{top}
use Rattle.laws_reopening.proofs.Watched.{HasTold, IsSeen, IsWatched, IsWatchedSince, watched_begun, watched_run}
use Rattle.laws_reopening.proofs.Effects.{at}

-- ---- counts

bit_more : (a b : Bool) → (a ≡ true → b ≡ true) → bit a ≤ bit b
bit_more true b h = let e = ap bit (h refl) in omega arith
bit_more false b h = omega arith

-- where more passes no fewer are counted
pub count_more : (n : ℕ) (t u : ℕ → Bool) → ((k : ℕ) → k < n → t k ≡ true → u k ≡ true) → count_below n t ≤ count_below n u
count_more zero t u h = omega arith
count_more (suc n) t u h = let a = count_more n t u (λ k l e. h k (omega arith) e) in let b = bit_more (t n) (u n) (h n (omega arith)) in omega arith

-- ---- cells

-- a settled cell is that of a secondary or a primary, or nothing
data IsSettledCell (c : Cell) : Type 0 where
  Nothing : c ≡ cell.Absent → IsSettledCell c
  Second : c ≡ cell.Secondary → IsSettledCell c
  First : c ≡ cell.Primary → IsSettledCell c

of_plain : (c : Cell) → IsPlainCell c → IsSettledCell c
of_plain cell.Absent h = Nothing refl
of_plain cell.Secondary h = Second refl
of_plain cell.Primary h = absurd h
of_plain (cell.Prepared a n) h = absurd h
of_plain (cell.Forwarding a n) h = absurd h

-- each cell of an opening is settled
settled_cell : (setup : Setup) (p : Place) (room : ℕ) → IsOpening setup p room → (k v : ℕ) → IsSettledCell (p.cells k v)
settled_cell setup p room o k v = elim (cases_lt k (sizes_of setup).shards) [
  | inl l ↦ let d = o.settled.leads k l in by_lead d.0 d.1 d.2
  | inr l ↦ Nothing (o.placement.no_shard k v l)
]
  where
    by_lead : (l : Lead) → is_at_rest l ≡ true → Describes l 0 (p.cells k) → IsSettledCell (p.cells k v)
    by_lead lead.Gone r d = of_plain (p.cells k v) (d v)
    by_lead (lead.At u) r d = elim (cases_eq v u) [
      | inl e ↦ First (ap (p.cells k) e ∙ d.0)
      | inr e ↦ of_plain (p.cells k v) (d.1 v e)
    ]
    by_lead (lead.Ready u w) r d = absurd (cc)
    by_lead (lead.Handing u w) r d = absurd (cc)
    by_lead (lead.Handed u w) r d = absurd (cc)

-- what is settled stays
keeps_itself : (c : Cell) → IsSettledCell c → Keeps c c
keeps_itself c (Nothing e) = subst (λ z. Keeps z z) (sym e) refl
keeps_itself c (Second e) = subst (λ z. Keeps z z) (sym e) (inl refl)
keeps_itself c (First e) = subst (λ z. Keeps z z) (sym e) refl

-- what may become a live replica counts
live_counts : (row : ℕ → Cell) (v : ℕ) (c d : Cell) → Keeps c d → (is_secondary d || serves_as row v d) ≡ true → counts_as c d ≡ true
live_counts row v cell.Absent d k e = absurd (let z = sym (ap (λ q. is_secondary q || serves_as row v q) k) ∙ e in cc)
live_counts row v cell.Secondary d k e = refl
live_counts row v cell.Primary d k e = refl
live_counts row v (cell.Prepared a n) d (inl p) e = ap is_primary p
live_counts row v (cell.Prepared a n) d (inr p) e = absurd (let z = sym (ap (λ q. is_secondary q || serves_as row v q) p) ∙ e in cc)
live_counts row v (cell.Forwarding a n) d (inl p) e = ap is_primary p
live_counts row v (cell.Forwarding a n) d (inr p) e = absurd (let z = sym (ap (λ q. is_secondary q || serves_as row v q) p) ∙ e in cc)

-- a settled replica is live, whatever other servers have
live_anyhow : (row other : ℕ → Cell) (v : ℕ) (d : Cell) → IsSettledCell d → (is_secondary d || serves_as row v d) ≡ true → (is_secondary d || serves_as other v d) ≡ true
live_anyhow row other v d (Nothing p) e = absurd (let z = sym (ap (λ q. is_secondary q || serves_as row v q) p) ∙ e in cc)
live_anyhow row other v d (Second p) e = ap (λ q. is_secondary q || serves_as other v q) p
live_anyhow row other v d (First p) e = ap (λ q. is_secondary q || serves_as other v q) p

-- ---- what is reached

settling_append : (es fs : List SettlingEvent) (x : Settling) → settling_run (es ++ fs) x ≡ settling_run fs (settling_run es x)
settling_append [] fs x = refl
settling_append (e ∷ es) fs x = settling_append es fs (settling_comes x e).1

fit_append : (es fs : List SettlingEvent) (x : Settling) → AllSettlingFit es x → AllSettlingFit fs (settling_run es x) → AllSettlingFit (es ++ fs) x
fit_append [] fs x a b = b
fit_append (e ∷ es) fs x a b = (a.0, fit_append es fs (settling_comes x e).1 a.1 b)

-- events lead on from what is reached
pub reached_on : (setup : Setup) (x : Settling) (es : List SettlingEvent) → IsSettlingReached setup x → AllSettlingFit es x → IsSettlingReached setup (settling_run es x)
reached_on setup x es r fit = record {
  start = r.start;
  outset = r.outset;
  base = r.base;
  servers = r.servers;
  lost = r.lost;
  begun = r.begun;
  events = r.events ++ es;
  fit = fit_append r.events es (records r.start (Reopen r.base r.servers r.lost)) r.fit (subst (AllSettlingFit es) r.state fit);
  state = ap (settling_run es) r.state ∙ sym (settling_append r.events es (records r.start (Reopen r.base r.servers r.lost)));
}

-- ---- a settlement is confirmed

module _ (setup : Setup) (x : Settling) (r : IsSettlingReached setup x) (s : Settlement) (m : MaySettle x.reopening x.world.net.w s) where
  abbrev low : ℕ
  low = top r.outset.world.net

  abbrev first : ℕ
  first = r.start.nonces

  watched : IsWatchedSince low first x
  watched = subst (IsWatchedSince (top r.outset.world.net) r.start.nonces) (sym r.state)
      (watched_run (top r.outset.world.net) r.start.nonces r.events (records r.start (Reopen r.base r.servers r.lost)) r.fit (r.start.nonces, watched_begun setup r.start r.outset r.base r.servers r.lost r.begun))

  abbrev asked : ℕ → Bool
  asked v = is_some (x.reopening.told (Server v))

  rests : (k v : ℕ) → Keeps (s.place.cells k v) (s.place.cells k v)
  rests k v = keeps_itself (s.place.cells k v) (settled_cell s.setup s.place s.room m.opening k v)

  module _ (since : ℕ) (h : IsWatched low first since x) where
    abbrev Q : Message → Type 0
    Q n = IsCurrent x.reopening.base since s n

    old : (n : Message) → IsSeen first since x n → IsCurrent x.reopening.base since s n
    old (Fence p k) g = tt
    old (Fenced p k i) g = tt
    old (Settled p k) g = tt
    old (Settle MapOwner k asked t) g = tt
    old (Settle (Server v) k asked t) g = ((λ l. absurd (g.confirmed (let b = g.below in omega arith) m.first)), g.early)
    old (Restore v asked k sizes cells) g = (let b = h.begun in omega arith)

    new_to : (v : ℕ) (o : Option Inventory) → AllByRecursion (IsCurrent x.reopening.base since s) (settle_by x.reopening.base s (Server v) o)
    new_to v None = tt
    new_to v (Some (Unknown n)) = (((λ l. refl), λ l. absurd (omega arith)), tt)
    new_to v (Some (Slots cells reached)) = (((λ l. refl), λ l. absurd (omega arith)), tt)
    new_to v (Some Entries) = (((λ l. refl), λ l. absurd (omega arith)), tt)

    new_to_owner : (o : Option Inventory) → AllByRecursion (IsCurrent x.reopening.base since s) (settle_by x.reopening.base s MapOwner o)
    new_to_owner None = tt
    new_to_owner (Some (Unknown n)) = (tt, tt)
    new_to_owner (Some (Slots cells reached)) = (tt, tt)
    new_to_owner (Some Entries) = (tt, tt)

    -- what was told may become what was settled
    told_keeps : (v : ℕ) (i : Inventory) → x.reopening.told (Server v) ≡ Some i → HasTold (λ k. x.world.net.cells k v) i → (k : ℕ) → Keeps (x.world.net.cells k v) (s.place.cells k v)
    told_keeps v (Slots cells reached) e t k = subst (λ c. Keeps c (s.place.cells k v)) (sym (t k)) (m.kept k v cells reached e)
    told_keeps v (Unknown n) e t k = absurd t
    told_keeps v Entries e t k = absurd t

    follows : (v : ℕ) (o : Option Inventory) → x.reopening.told (Server v) ≡ o → is_some o ≡ true → Follows x.reopening.base since v s (at x v)
    follows v None e t = absurd (cc)
    follows v (Some i) e t = let g = h.told v i e in record { from = g.from; keeps = λ q. told_keeps v i e (g.had m.first q) }

    followed : IsFollowed low x.reopening.base since s asked (records x (Confirm s))
    followed = record {
      sent = h.sent;
      made = h.made;
      messages = all_append (IsCurrent x.reopening.base since s) x.messages (sends (Confirm s) (entered (Confirm s) x.reopening))
          (all_map (IsSeen first since x) (IsCurrent x.reopening.base since s) x.messages old h.messages)
          (all_append (IsCurrent x.reopening.base since s) (settle_by x.reopening.base s MapOwner (x.reopening.told MapOwner)) (to_each x.reopening.servers (λ v. settle_by x.reopening.base s (Server v) (x.reopening.told (Server v))))
          (new_to_owner (x.reopening.told MapOwner))
          (all_to_each (IsCurrent x.reopening.base since s) x.reopening.servers (λ v. settle_by x.reopening.base s (Server v) (x.reopening.told (Server v))) (λ v. new_to v (x.reopening.told (Server v)))));
      servers = λ v t. follows v (x.reopening.told (Server v)) refl t;
    }

  module _ (es : List SettlingEvent) (fit : AllSettlingFit es (records x (Confirm s))) (none : AllByRecursion ConfirmsNone es) (known : AreUpKnown (settling_run es (records x (Confirm s))) s) where
    abbrev y : Settling
    y = settling_run es (records x (Confirm s))

    stays : IsFollowed low x.reopening.base watched.0 s asked (settling_run es (records x (Confirm s)))
    stays = followed_run low x.reopening.base watched.0 s asked watched.1.above rests es (records x (Confirm s)) fit none (followed watched.0 watched.1)

    -- who is up by the settlement has its slots
    has_slots : (v : ℕ) → v < length s.setup.servers → s.place.down v ≡ false → (y.bases (Server v)).nonce ≡ None
    has_slots v l up = elim (none_or_some (y.bases (Server v)).nonce) [
      | inl e ↦ e
      | inr n ↦ absurd (let d = known v l (λ z. absurd (let e = n.1 in cc)) in cc)
    ]

    -- who is live by the settlement has told what it had
    has_told : (k v : ℕ) → v < length s.setup.servers → s.place.down v ≡ false → (is_secondary (s.place.cells k v) || serves_as (s.place.cells k) v (s.place.cells k v)) ≡ true → asked v ≡ true
    has_told k v l up live = elim (cases_Bool (x.reopening.lost v)) [
      | inl e ↦ absurd (let z = sym (ap (λ q. is_secondary q || serves_as (s.place.cells k) v q) (m.lost k v e)) ∙ live in cc)
      | inr e ↦ elim (m.answered v (and_from (nat_lt v x.reopening.servers) (not (x.reopening.lost v)) (lt-ltb v x.reopening.servers (let a = m.servers in omega arith)) (ap not e))) [
        | inl t ↦ t
        | inr c ↦ absurd (let d = m.down v c l in cc)
      ]
    ]

    replica : (k v : ℕ) → v < length s.setup.servers → is_live (s.place.cells k) s.place.down v ≡ true → is_counted_at y s k v ≡ true
    replica k v l e =
        let p = and_parts (not (s.place.down v)) (is_secondary (s.place.cells k v) || serves_as (s.place.cells k) v (s.place.cells k v)) e in
        let up = not-true (s.place.down v) p.0 in
        let q = has_slots v l up in
        let f = stays.servers v (has_told k v l up p.1) in
        and_from (not (s.place.down v)) (is_none (y.bases (Server v)).nonce && counts_as (y.world.net.cells k v) (s.place.cells k v)) p.0
        (and_from (is_none (y.bases (Server v)).nonce) (counts_as (y.world.net.cells k v) (s.place.cells k v)) (ap is_none q)
        (live_counts (s.place.cells k) v (y.world.net.cells k v) (s.place.cells k v) (f.keeps q k) p.1))

    floor_under_way : (k : ℕ) → k < (sizes_of s.setup).shards → (sizes_of s.setup).floor k ≤ replicas y s k
    floor_under_way k l =
        let a = m.opening.settled.floors k l in
        let b = count_more (length s.setup.servers) (is_live (s.place.cells k) s.place.down) (is_counted_at y s k) (λ v i e. replica k v i e) in
        omega arith

    floor_settled : ((k v : ℕ) → (y.bases (Server v)).nonce ≡ None → y.world.net.cells k v ≡ s.place.cells k v) → (k : ℕ) → k < (sizes_of s.setup).shards → (sizes_of s.setup).floor k ≤ live_at (sizes_of s.setup) (had_place y s) k
    floor_settled same k l =
        let a = m.opening.settled.floors k l in
        let b = count_more (length s.setup.servers) (is_live (s.place.cells k) s.place.down) (is_live (y.world.net.cells k) s.place.down) (λ v i e. live v i e) in
        omega arith
      where
        live : (v : ℕ) → v < length s.setup.servers → is_live (s.place.cells k) s.place.down v ≡ true → is_live (y.world.net.cells k) s.place.down v ≡ true
        live v i e =
            let p = and_parts (not (s.place.down v)) (is_secondary (s.place.cells k v) || serves_as (s.place.cells k) v (s.place.cells k v)) e in
            let q = has_slots v i (not-true (s.place.down v) p.0) in
            and_from (not (s.place.down v)) (is_secondary (y.world.net.cells k v) || serves_as (y.world.net.cells k) v (y.world.net.cells k v)) p.0
            (ap (λ z. is_secondary z || serves_as (y.world.net.cells k) v z) (same k v q)
            ∙ live_anyhow (s.place.cells k) (y.world.net.cells k) v (s.place.cells k v) (settled_cell s.setup s.place s.room m.opening k v) p.1)

-- floors stay
pub floors_stay : EachSettling OpensWithPast → EachSettling FloorsStay
floors_stay opens setup x r s m es fit none known = record {
  under_way = floor_under_way setup x r s m es fit none known;
  settled = λ set took. floor_settled setup x r s m es fit none known (opens setup (settling_run es (records x (Confirm s))) (reached_on setup x (Records (Confirm s) ∷ es) r (m, fit)) s set took).0;
}
