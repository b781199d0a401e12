-- Once a settlement is in force, the next reopening can begin.
use Rattle.std.proofs.Common.{◌≡◌, ◌≢◌, ◌≤◌, ◌<◌, ◌⊎◌, ℕ, refl, sym, ap, ◌∙◌, inl, inr, subst, arith, Bool, true, false, Option, Some, None, [], length}
use Rattle.std.specs.Prelude.{is_none, is_some, max, if◌then◌else◌}
use Rattle.std.specs.List.{AllByRecursion}
use Rattle.std.proofs.lemmas.Bool.{cases_lt}
use Rattle.sm_server.specs.declared.call.Cell.{Cell}
use Rattle.sm_placement.specs.Setup.{Setup, sizes_of}
use Rattle.sm_protocol.proofs.Courses.{some_same}
use Rattle.laws_network.specs.World.{Entry as MapEntry, World}
use Rattle.laws_network.specs.Reopening.{Base, Fence, Fenced, MapOwner, Message, Party, Reopening, Restore, Server, Settle, Settled, Settlement, Settling}
use Rattle.laws_network.specs.ReopeningLaws.{AllTook, CanBeginAgain, EachSettling, IsOutdated, IsOutset, IsPast, IsUnawaited, after_it, in_force}
use Rattle.laws_network.proofs.Coming.{put_over}
use Rattle.laws_network.proofs.Executing.{by_worlds, fits}
use Rattle.laws_network.proofs.Lists.{all_map}
use Rattle.laws_network.proofs.Opens.{last_is, now, taken, world_opens}
use Rattle.laws_network.proofs.Reopened.{IsHeld, all_both, frame, standing}
use Rattle.laws_network.proofs.Standing.{IsGood, IsGoodSettle, IsPromised, IsTaken, Last, addressee}

-- a base that is not fenced and has slots
pub base_is : (b : Base) → b.fenced ≡ false → b.nonce ≡ None → b ≡ record { number = b.number; fenced = false; nonce = None }
base_is b e q = ap (λ z. let y : Base = record { number = b.number; fenced = z; nonce = b.nonce } in y) e ∙ ap (λ z. let y : Base = record { number = b.number; fenced = false; nonce = z } in y) q

module _ (setup : Setup) (w : World) (first since : ℕ) (l : Option Last) (x0 : Settling) (C : ℕ → ℕ → Cell) (L : ℕ → ℕ → ℕ) (S : ℕ → MapEntry) (h : IsHeld setup w first since l (record x0 { world = put_over w C L S }))
    (s : Settlement) (set : x0.reopening.settlement ≡ Some s) (all : AllTook x0.reopening) where
  abbrev x : Settling
  x = record x0 { world = put_over w C L S }

  abbrev r : Reopening
  r = x0.reopening

  is_set : is_some r.settlement ≡ true
  is_set = ap is_some set

  took : (p : Party) → is_some (r.told p) ≡ true → IsTaken l r p (x.bases p)
  took = taken setup w first since l x0 C L S h s set all

  -- who was sent a settle has taken it, or is lost
  took_promised : (v : ℕ) → r.promised v ≡ true → IsTaken l r (Server v) (x.bases (Server v)) ⊎ (r.lost v ≡ true)
  took_promised v p = elim (h.controller.kept_promises is_set v p) [ inl t ↦ inl (took (Server v) t) | inr t ↦ inr t ]

  owner_took : IsTaken l r MapOwner (x.bases MapOwner)
  owner_took = took MapOwner (h.controller.told_map is_set)

  -- ---- slots

  sizes_now : (v : ℕ) → (x.bases (Server v)).nonce ≡ None → s.place.down v ≡ false → v < length s.setup.servers → x.sizes v ≡ sizes_of s.setup
  sizes_now v q d b = by_promise (r.promised v) refl
    where
      by_promise : (p : Bool) → r.promised v ≡ p → x.sizes v ≡ sizes_of s.setup
      by_promise true p = elim (took_promised v p) [
        | inl t ↦ ((h.servers v).touched p).sizes (now setup w first since l x0 C L S h s set all) (last_is setup w first since l x0 C L S h s set all) q (t.at q).0
        | inr t ↦ absurd ((h.servers v).lost t q)
      ]
      by_promise false p = absurd (let z = (((h.servers v).untouched p q).along (now setup w first since l x0 C L S h s set all) (last_is setup w first since l x0 C L S h s set all)).down b in cc)

  abbrev has : ℕ → Bool
  has v = is_none (x.bases (Server v)).nonce

  last_now : (k v : ℕ) → (x.bases (Server v)).nonce ≡ None →
      (L k v ≡ (if has v then max (L k v) (x.bases (Server v)).number else r.base)) ⊎ ((L k v ≤ (x.bases (Server v)).number) × ((if has v then max (L k v) (x.bases (Server v)).number else r.base) ≤ (x.bases (Server v)).number))
  last_now k v q = subst (λ (b : Bool). (L k v ≡ (if b then max (L k v) (x.bases (Server v)).number else r.base)) ⊎ ((L k v ≤ (x.bases (Server v)).number) × ((if b then max (L k v) (x.bases (Server v)).number else r.base) ≤ (x.bases (Server v)).number)))
      (sym (ap is_none q)) (elim (cases_lt (L k v) (x.bases (Server v)).number) [
        | inl b ↦ inr ((omega arith), (omega arith))
        | inr b ↦ inl (omega arith)
      ])

  -- ---- messages

  settle_past : (p : Party) (number : ℕ) (nonce : Option ℕ) (z : Settlement) → IsGoodSettle (frame w first since l x) p (x.bases p) number nonce z →
      (IsPromised r p → IsTaken l r p (x.bases p) ⊎ ((x.bases p).nonce ≢ None) × ((n : ℕ) → nonce ≡ Some n → (x.bases p).nonce ≢ Some n)) → IsOutdated (x.bases p) number nonce
  settle_past p number asked z g by = elim g.state [
    | inl d ↦ d
    | inr i ↦ elim (by i.promised) [
      | inl t ↦ record {
        has_slots = λ e n. inr ((i.base ∙ ap (λ (y : Last). y.base) (some_same i.last (now setup w first since l x0 C L S h s set all) (sym i.is ∙ last_is setup w first since l x0 C L S h s set all)) ∙ sym (t.at e).1), (t.at e).0);
        has_none = λ n e q. absurd (let a = t.asks i.last n i.is q in let b = g.closed i.last i.is n e in omega arith);
      }
      | inr t ↦ record { has_slots = λ e n. absurd (t.0 e); has_none = λ n e q. t.1 n e q }
    ]
  ]

  settle_by_party : (p : Party) (number : ℕ) (nonce : Option ℕ) (z : Settlement) → IsGoodSettle (frame w first since l x) p (x.bases p) number nonce z → IsOutdated (x.bases p) number nonce
  settle_by_party MapOwner number asked z g = settle_past MapOwner number asked z g (λ e. inl owner_took)
  settle_by_party (Server v) number asked z g = settle_past (Server v) number asked z g (λ e. elim (took_promised v e) [
    | inl t ↦ inl t
    | inr t ↦ inr ((h.servers v).lost t, λ n q. g.lost t n q)
  ])

  past : (m : Message) → IsUnawaited x m × IsGood (frame w first since l x) (standing w x (addressee m)) (x.bases MapOwner) x.messages m → IsPast (in_force x s) (after_it x s) m
  past (Fence p k) g = let a = g.1 in omega arith
  past (Fenced p k i) g = let a = g.1.0 in omega arith
  past (Settle (Server v) k asked z) g = ((let a = g.1.below in omega arith), g.1.made, settle_by_party (Server v) k asked z g.1)
  past (Settle MapOwner k asked z) g = ((let a = g.1.below in omega arith), g.1.made, settle_by_party MapOwner k asked z g.1)
  past (Settled p k) g = let a = g.1.0 in omega arith
  past (Restore v asked k sizes cells) g = ((let a = g.1.made in let b = h.controller.since in let c = h.controller.nonces in omega arith), λ e. absurd (g.0 e))

  -- ---- the outset

  numbers_low : (p : Party) → (x.bases p).number ≤ r.base
  numbers_low (Server v) = (h.servers v).number
  numbers_low MapOwner = h.owner.number

  nonces_made : (p : Party) (n : ℕ) → (x.bases p).nonce ≡ Some n → n < x.nonces
  nonces_made (Server v) n e = (h.servers v).made n e
  nonces_made MapOwner n e = absurd (let z = h.owner.known in cc)

  again : AllByRecursion (IsUnawaited x) x.messages → IsOutset s.setup (after_it x s)
  again unawaited = record {
    world = in_force x s;
    reached = record { start = in_force x s; opening = world_opens setup w first since l x0 C L S h s set all; events = []; fit = tt; state = refl };
    same = refl;
    slots = λ v q. record {
      cells = λ k. sym (ap (λ (b : Bool). if b then C k v else s.place.cells k v) (ap is_none q));
      lasts = λ k. last_now k v q;
      sizes = sizes_now v q;
      loads = fits setup w first since l x0 C L S h v q;
    };
    blank = λ v n e k. (h.servers v).blank n e k;
    map = base_is (x.bases MapOwner) (owner_took.at h.owner.known).0 h.owner.known;
    numbers = λ p. let a = numbers_low p in omega arith;
    nonces = nonces_made;
    messages = all_map (λ m. IsUnawaited x m × IsGood (frame w first since l x) (standing w x (addressee m)) (x.bases MapOwner) x.messages m) (IsPast (in_force x s) (after_it x s)) x.messages past
        (all_both (IsUnawaited x) (λ m. IsGood (frame w first since l x) (standing w x (addressee m)) (x.bases MapOwner) x.messages m) x.messages unawaited h.messages);
    servers = refl;
    promised = λ v. refl;
  }

-- once a settlement is in force, the next reopening can begin
pub can_begin_again : EachSettling CanBeginAgain
can_begin_again = by_worlds CanBeginAgain (λ setup w first since l x0 C L S h s set all unawaited. again setup w first since l x0 C L S h s set all unawaited)
