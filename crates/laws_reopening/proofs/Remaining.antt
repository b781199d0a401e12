-- Floors remain until a settlement is confirmed: each server that has its slots has what the network gave it, and none that is recorded as down
-- has a part in a handover.
use Rattle.std.proofs.Common.{◌≡◌, ◌≢◌, ◌≤◌, ◌<◌, ◌⊎◌, ℕ, refl, sym, ap, ◌∙◌, inl, inr, subst, arith, not, Bool, true, Option, Some, None}
use Rattle.std.specs.Prelude.{◌&&◌, ◌||◌, is_none}
use Rattle.std.proofs.lemmas.Bool.{and_from, and_parts, cases_lt, not-true}
use Rattle.sm_server.specs.declared.call.Cell.{Cell}
use Rattle.sm_server.specs.declared.call.Cell.TheVariants as cell
use Rattle.sm_server.specs.Cell.{is_secondary}
use Rattle.sm_placement.specs.Setup.{Setup}
use Rattle.sm_placement.specs.Place.{Place, is_live_at}
use Rattle.sm_placement.specs.Rows.{forwards, serves_as}
use Rattle.sm_placement.specs.SafePlace.{IsSafePlace}
use Rattle.sm_placement.specs.Sums.{count_below}
use Rattle.sm_protocol.specs.State.{State}
use Rattle.laws_network.specs.Net.{real}
use Rattle.laws_network.specs.Laws.{IsNetReached}
use Rattle.laws_network.specs.World.{World}
use Rattle.laws_network.specs.Reopening.{Server, Settling}
use Rattle.laws_network.specs.ReopeningLaws.{EachSettling}
use Rattle.laws_network.proofs.Begun.{each_steady}
use Rattle.laws_network.proofs.Raised.{real_is_safe, record_is_reached}
use Rattle.laws_network.proofs.Reopened.{IsHeld}
use Rattle.laws_network.proofs.Resting.{IsOutside}
use Rattle.laws_network.proofs.Shown.{net_is_reached}
use Rattle.laws_network.proofs.Standing.{Last}
use Rattle.laws_network.proofs.Unnamed.{away_is_unnamed, unnamed_is_really_outside}
use Rattle.laws_reopening.specs.FloorsBegun.{FloorsRemain, HasSettledNone}
use Rattle.laws_reopening.proofs.Kept.{count_more}
use Rattle.laws_reopening.proofs.Standing.{none_or_some}

-- a cell to which another one forwards is in a handover
forwards_inside : (c : Cell) (v n : ℕ) → forwards c v n ≡ true → IsOutside c → ⊥
forwards_inside cell.Absent v n e h = absurd (cc)
forwards_inside cell.Secondary v n e h = absurd (cc)
forwards_inside cell.Primary v n e h = absurd (cc)
forwards_inside (cell.Prepared a m) v n e h = absurd h
forwards_inside (cell.Forwarding a m) v n e h = absurd h

module _ (setup : Setup) (w : World) (first since : ℕ) (l : Option Last) (x : Settling) (h : IsHeld setup w first since l x) (none : HasSettledNone x)
    (known : (v : ℕ) → v < w.net.w.sizes.servers → (x.bases (Server v)).nonce ≢ None → w.net.w.place.down v ≡ true) where
  net : IsNetReached setup w.net
  net = net_is_reached setup w h.reached

  -- who has its slots has what the network gave it
  same : (v : ℕ) → (x.bases (Server v)).nonce ≡ None → (k : ℕ) → x.world.net.cells k v ≡ w.net.cells k v
  same v e k = ((h.servers v).untouched (none v) e).cells k

  -- a server that is recorded as down is in no handover, nor is a number that is no server's
  away_outside : (v : ℕ) → (w.net.w.place.down v ≡ true) ⊎ (w.net.w.sizes.servers ≤ v) → (k : ℕ) → IsOutside (w.net.cells k v)
  away_outside v away = unnamed_is_really_outside setup w.net net v (away_is_unnamed setup w.net.w (record_is_reached setup w.net net) v away)

  -- who has lost its slots is away
  away : (v : ℕ) → (x.bases (Server v)).nonce ≢ None → (w.net.w.place.down v ≡ true) ⊎ (w.net.w.sizes.servers ≤ v)
  away v lost = elim (cases_lt v w.net.w.sizes.servers) [
    | inl below ↦ inl (known v below lost)
    | inr above ↦ inr above
  ]

  some_lost : (v n : ℕ) → (x.bases (Server v)).nonce ≡ Some n → (x.bases (Server v)).nonce ≢ None
  some_lost v n e q = absurd (let z = sym e ∙ q in cc)

  -- so whoever forwards has its slots
  forwards_still : (k a v n : ℕ) → forwards (w.net.cells k a) v n ≡ true → forwards (x.world.net.cells k a) v n ≡ true
  forwards_still k a v n e = elim (none_or_some (x.bases (Server a)).nonce) [
    | inl q ↦ ap (λ c. forwards c v n) (same a q k) ∙ e
    | inr q ↦ absurd (forwards_inside (w.net.cells k a) v n e (away_outside a (away a (some_lost a q.0 q.1)) k))
  ]

  live_still : (k v : ℕ) (c : Cell) → (is_secondary c || serves_as (w.net.cells k) v c) ≡ true → (is_secondary c || serves_as (x.world.net.cells k) v c) ≡ true
  live_still k v cell.Absent e = absurd (cc)
  live_still k v cell.Secondary e = refl
  live_still k v cell.Primary e = refl
  live_still k v (cell.Prepared a n) e = forwards_still k a v n e
  live_still k v (cell.Forwarding a n) e = absurd (cc)

  abbrev counted : ℕ → ℕ → Bool
  counted k v = is_live_at (let z : Place = record w.net.w.place { cells = x.world.net.cells } in z) k v && is_none (x.bases (Server v)).nonce

  still_counted : (k v : ℕ) → v < w.net.w.sizes.servers → is_live_at (real w.net) k v ≡ true → counted k v ≡ true
  still_counted k v below e =
      let p = and_parts (not (w.net.w.place.down v)) (is_secondary (w.net.cells k v) || serves_as (w.net.cells k) v (w.net.cells k v)) e in
      let q = has_slots p.0 in
      and_from _ _
      (and_from (not (w.net.w.place.down v)) (is_secondary (x.world.net.cells k v) || serves_as (x.world.net.cells k) v (x.world.net.cells k v)) p.0
      (ap (λ c. is_secondary c || serves_as (x.world.net.cells k) v c) (same v q k) ∙ live_still k v (w.net.cells k v) p.1))
      (ap is_none q)
    where
      has_slots : not (w.net.w.place.down v) ≡ true → (x.bases (Server v)).nonce ≡ None
      has_slots up = elim (none_or_some (x.bases (Server v)).nonce) [
        | inl z ↦ z
        | inr z ↦ absurd (let d = known v below (some_lost v z.0 z.1) in let u = not-true (w.net.w.place.down v) up in cc)
      ]

  safe : IsSafePlace w.net.w.sizes (real w.net)
  safe = real_is_safe setup w.net net

  floor_remains : (k : ℕ) → k < w.net.w.sizes.shards → w.net.w.sizes.floor k ≤ count_below w.net.w.sizes.servers (counted k)
  floor_remains k below =
      let a = safe.floors k below in
      let b = count_more w.net.w.sizes.servers (is_live_at (real w.net) k) (counted k) (λ v i e. still_counted k v i e) in
      omega arith

-- floors by a record
abbrev Remains : Settling → State → Type 0
Remains x w = ((v : ℕ) → v < w.sizes.servers → (x.bases (Server v)).nonce ≢ None → w.place.down v ≡ true) → (k : ℕ) → k < w.sizes.shards →
    w.sizes.floor k ≤ count_below w.sizes.servers (λ v. is_live_at (let z : Place = record w.place { cells = x.world.net.cells } in z) k v && is_none (x.bases (Server v)).nonce)

-- floors remain
pub floors_remain : EachSettling FloorsRemain
floors_remain setup x r none =
    let t = each_steady setup x r in
    subst (Remains x) (sym (ap (λ (z : World). z.net.w) t.held.over)) (floor_remains setup t.world t.first t.since t.last x t.held none)
