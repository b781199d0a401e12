-- An order has its effect at most once, along any list of what may happen to the service.
use Rattle.std.proofs.Common.{◌≡◌, ◌≤◌, ◌<◌, ◌⊎◌, ℕ, refl, sym, ap, ◌∙◌, inl, inr, subst, arith, Bool, true, false, Option, Some, None, List, [], ◌∷◌}
use Rattle.std.specs.Prelude.{◌==◌, count_by}
use Rattle.std.specs.List.{AllByRecursion}
use Rattle.std.proofs.lemmas.Bool.{and_parts, eqb-true}
use Rattle.sm_placement.specs.Setup.{Setup}
use Rattle.sm_placement.specs.Sums.{put2}
use Rattle.sm_protocol.proofs.Courses.{some_same}
use Rattle.laws_network.specs.Net.{Order}
use Rattle.laws_network.specs.Laws.{is_for, order_served}
use Rattle.laws_network.specs.Fleet.{Fleet, FleetEvent, controller, fleet_comes}
use Rattle.laws_network.specs.FleetLaws.{FleetFits, IsFleetReached, order_committed}
use Rattle.laws_network.specs.Reopening.{Arrives, Base, Comes, Confirm, Entries, Fence, Fenced, Forgets, Inventory, MapOwner, Message, Party, Records, Reopen, Restore, Server, Settle, Settled, Settlement, Settling, SettlingEvent, Slots, Told, Took, Unknown, entered, sends, settle_by, settling_comes, to_each}
use Rattle.laws_network.specs.ReopeningLaws.{SettlingFits}
use Rattle.laws_network.proofs.Lists.{all_append, all_map}
use Rattle.laws_network.proofs.Once.{count_hit, count_miss}
use Rattle.laws_network.proofs.Overlay.{put2-at}
use Rattle.laws_network.proofs.Reaching.{comes_shadow, fleet_shadow}
use Rattle.laws_network.proofs.Shadow.{IsShadow}
use Rattle.laws_reopening.proofs.Effects.{At, Becomes, Heeds, Loses, Obeys, Recovers, Settles, Stays, at, effect_of}
use Rattle.laws_reopening.proofs.Standing.{fence_cases, fence_none, map_some, named, taking}
use Rattle.laws_reopening.proofs.Followed.{all_of_one, all_to_each, plain_more, IsPlain}
use Rattle.laws_reopening.proofs.Permits.{event_so}
use Rattle.laws_reopening.proofs.PermitEnds.{number_grows}
use Rattle.laws_reopening.proofs.Served.{IsAct, IsServedBy, acts_or, told_of}

-- an order for this cell, under this number
for_same : (s v number : ℕ) (o : Order) → is_for s v number o ≡ true → (o.call.shard ≡ s) × ((o.call.server ≡ v) × (o.number ≡ number))
for_same s v number o e =
    let p = and_parts (o.call.shard == s) _ e in
    let q = and_parts (o.call.server == v) (o.number == number) p.1 in
    (eqb-true o.call.shard s p.0, (eqb-true o.call.server v q.0, eqb-true o.number number q.1))

count_one : (test : Order → Bool) (o : Order) → test o ≡ true → count_by test (o ∷ []) ≡ 1
count_one test o t = count_hit test o [] t

count_none : (test : Order → Bool) (o : Order) → test o ≡ false → count_by test (o ∷ []) ≡ 0
count_none test o t = count_miss test o [] t

module _ (s v number : ℕ) where
  abbrev counted : List Order → ℕ
  counted os = count_by (is_for s v number) os

  -- what has seen this number alone
  abbrev seen : ℕ → ℕ → ℕ
  seen = put2 (λ r u. 0) s v number

  -- ---- at a fleet

  -- no order of this number has an effect on the cell any more: the last reopening is above it, or the cell has seen it
  abbrev pub IsClosed : Setup → Fleet → Type 0
  IsClosed setup f = (number ≤ (controller f).fence) ⊎ IsShadow setup (put2 (λ r u. 0) s v number) f

  module _ (setup : Setup) (f : Fleet) (r : IsFleetReached setup f) (e : FleetEvent) (fit : FleetFits setup f e) where
    -- what comes of an event, by the order that has its effect
    pub open_next : ((counted (order_committed (fleet_comes f e).0) ≡ 0)) ⊎ ((counted (order_committed (fleet_comes f e).0) ≡ 1) × ((controller f).fence < number) × IsClosed setup (fleet_comes f e).1)
    open_next = elim (acts_or setup (λ s v. 0) f (fleet_shadow setup f r) e) [
      | inl n ↦ inl (ap counted n)
      | inr a ↦ by_test a.0 a.1 a.2 (is_for s v number a.0) refl
    ]
      where
        by_test : (o : Order) → order_committed (fleet_comes f e).0 ≡ o ∷ [] → IsAct setup (λ s v. 0) f o (fleet_comes f e).1 → (b : Bool) → is_for s v number o ≡ b →
            ((counted (order_committed (fleet_comes f e).0) ≡ 0)) ⊎ ((counted (order_committed (fleet_comes f e).0) ≡ 1) × ((controller f).fence < number) × IsClosed setup (fleet_comes f e).1)
        by_test o q a false t = inl (ap counted q ∙ count_none (is_for s v number) o t)
        by_test o q a true t =
            let p = for_same s v number o t in
            inr (
              ap counted q ∙ count_one (is_for s v number) o t,
              (let z = a.fence in let y = p.1.1 in omega arith),
              inr (subst (λ k. IsShadow setup (put2 (λ r u. 0) s v k) (fleet_comes f e).1) p.1.1
                  (subst (λ k. IsShadow setup (put2 (λ r u. 0) s k o.number) (fleet_comes f e).1) p.1.0
                  (subst (λ k. IsShadow setup (put2 (λ r u. 0) k o.call.server o.number) (fleet_comes f e).1) p.0 a.next))),
            )

    -- a fleet that is closed stays so, and no order of this number has an effect
    pub closed_next : IsClosed setup f → (counted (order_committed (fleet_comes f e).0) ≡ 0) × IsClosed setup (fleet_comes f e).1
    closed_next (inl l) = (elim open_next [ inl n ↦ n | inr a ↦ absurd (let z = a.1 in omega arith) ], inl (let z = (event_so f e).fence in omega arith))
    closed_next (inr k) = (
      elim (acts_or setup (put2 (λ r u. 0) s v number) f k e) [
        | inl n ↦ ap counted n
        | inr a ↦ by_test a.0 a.1 a.2 (is_for s v number a.0) refl
      ],
      inr (comes_shadow setup (put2 (λ r u. 0) s v number) f k e fit),
    )
      where
        by_test : (o : Order) → order_committed (fleet_comes f e).0 ≡ o ∷ [] → IsAct setup (put2 (λ r u. 0) s v number) f o (fleet_comes f e).1 → (b : Bool) → is_for s v number o ≡ b → counted (order_committed (fleet_comes f e).0) ≡ 0
        by_test o q a false t = ap counted q ∙ count_none (is_for s v number) o t
        by_test o q a true t = absurd (
            let p = for_same s v number o t in
            let y = put2-at (λ r u. 0) s v number o.call.shard o.call.server p.0 p.1.0 in
            let z = a.above in
            let m = p.1.1 in
            omega arith
            )

  -- ---- while a reopening is under way

  -- a restore that the server waits for is above the number
  abbrev pub IsLate : Base → Message → Type 0
  IsLate base (Restore u nonce k sizes cells) = u ≡ v → base.nonce ≡ Some nonce → number ≤ k
  IsLate base _ = Unit {0}

  late_plain : (base : Base) (m : Message) → IsPlain m → IsLate base m
  late_plain base (Fence p k) h = tt
  late_plain base (Fenced p k i) h = tt
  late_plain base (Settled p k) h = tt
  late_plain base (Settle p k _ t) h = tt
  late_plain base (Restore u _ k sizes cells) h = absurd h

  -- the cell has seen the number, or its server's base has
  pub record IsShut (x : Settling) : Type 0 where
    pub known : (x.bases (Server v)).nonce ≡ None → (number ≤ x.world.net.last s v) ⊎ (number ≤ (x.bases (Server v)).number)
    pub restores : AllByRecursion (IsLate (x.bases (Server v))) x.messages

-- what messages say: a settle is above all orders, and a restore names a nonce that was made
abbrev pub IsMade : ℕ → ℕ → Message → Type 0
IsMade low nonces (Settle p k _ s) = low < k
IsMade low nonces (Restore u nonce k sizes cells) = nonce < nonces
IsMade low nonces _ = Unit {0}

made_plain : (low nonces : ℕ) (m : Message) → IsPlain m → IsMade low nonces m
made_plain low nonces (Fence p k) h = tt
made_plain low nonces (Fenced p k i) h = tt
made_plain low nonces (Settled p k) h = tt
made_plain low nonces (Settle p k _ t) h = absurd h
made_plain low nonces (Restore u _ k sizes cells) h = absurd h

made_more : (low nonces more : ℕ) → nonces ≤ more → (m : Message) → IsMade low nonces m → IsMade low more m
made_more low nonces more up (Fence p k) h = tt
made_more low nonces more up (Fenced p k i) h = tt
made_more low nonces more up (Settled p k) h = tt
made_more low nonces more up (Settle p k _ t) h = h
made_more low nonces more up (Restore u asked k sizes cells) h = omega arith

-- no order has a higher number than this, which a reopening is above
pub record IsSound (low : ℕ) (x : Settling) : Type 0 where
  pub above : low < x.reopening.base
  pub sent : AllByRecursion (λ (o : Order). o.number ≤ low) x.world.net.sent
  pub messages : AllByRecursion (IsMade low x.nonces) x.messages

-- the messages once an event has come, of which all new ones are of this kind
settles_are : (Q : Message → Type 0) (x : Settling) (s : Settlement) → ((p : Party) (nonce : Option ℕ) → Q (Settle p x.reopening.base nonce s)) → AllByRecursion Q (sends (Confirm s) (entered (Confirm s) x.reopening))
settles_are Q x s h = all_append Q (settle_by x.reopening.base s MapOwner (x.reopening.told MapOwner)) (to_each x.reopening.servers (λ v. settle_by x.reopening.base s (Server v) (x.reopening.told (Server v))))
    (one MapOwner (x.reopening.told MapOwner)) (all_to_each Q x.reopening.servers (λ v. settle_by x.reopening.base s (Server v) (x.reopening.told (Server v))) (λ v. one (Server v) (x.reopening.told (Server v))))
  where
    one : (p : Party) (o : Option Inventory) → AllByRecursion Q (settle_by x.reopening.base s p o)
    one p None = tt
    one p (Some (Unknown n)) = (h p (Some n), tt)
    one p (Some (Slots cells reached)) = (h p None, tt)
    one p (Some Entries) = (h p None, tt)

messages_next : (Q : Message → Type 0) (x : Settling) (e : SettlingEvent) → SettlingFits x e → ((m : Message) → IsPlain m → Q m) → ((s : Settlement) (p : Party) (nonce : Option ℕ) → Q (Settle p x.reopening.base nonce s)) →
    AllByRecursion Q x.messages → AllByRecursion Q (settling_comes x e).1.messages
messages_next Q x (Records (Confirm s)) fits plain settle all = all_append Q x.messages (sends (Confirm s) (entered (Confirm s) x.reopening)) all (settles_are Q x s (settle s))
messages_next Q x (Records (Reopen base servers lost)) fits plain settle all = plain_more Q x (Records (Reopen base servers lost)) plain fits tt all
messages_next Q x (Records (Told p k i)) fits plain settle all = absurd fits
messages_next Q x (Records (Took p k)) fits plain settle all = absurd fits
messages_next Q x (Comes e) fits plain settle all = plain_more Q x (Comes e) plain fits tt all
messages_next Q x (Arrives k reached) fits plain settle all = plain_more Q x (Arrives k reached) plain fits tt all
messages_next Q x (Forgets u) fits plain settle all = plain_more Q x (Forgets u) plain fits tt all

-- an event keeps it so
pub sound_next : (low : ℕ) (x : Settling) (e : SettlingEvent) → SettlingFits x e → IsSound low x → IsSound low (settling_comes x e).1
sound_next low x e fits h =
    let f = effect_of x e in record {
      above = (let a = h.above in let b = number_grows x e fits in omega arith);
      sent = subst (AllByRecursion (λ (o : Order). o.number ≤ low)) (sym f.sent) h.sent;
      messages = messages_next (IsMade low (settling_comes x e).1.nonces) x e fits (made_plain low (settling_comes x e).1.nonces) (λ s p nonce. h.above)
          (all_map (IsMade low x.nonces) (IsMade low (settling_comes x e).1.nonces) x.messages (made_more low x.nonces (settling_comes x e).1.nonces f.nonces) h.messages);
    }

module _ (s v number low : ℕ) (x : Settling) (h : IsSound low x) (e : SettlingEvent) (fits : SettlingFits x e) where
  abbrev y : Settling
  y = (settling_comes x e).1

  -- who has its slots afterwards had them, or got them under a higher number
  known_next : number ≤ low → IsShut s v number x → (b : At) → b ≡ at (settling_comes x e).1 v → Becomes x (settling_comes x e).1.nonces v b → b.base.nonce ≡ None →
      (number ≤ (settling_comes x e).1.world.net.last s v) ⊎ (number ≤ b.base.number)
  known_next small c b there (Stays q) none = elim (c.known (sym (ap (λ (a : At). a.base.nonce) q) ∙ none)) [
    | inr l ↦ inr (let z = ap (λ (a : At). a.base.number) q in omega arith)
    | inl l ↦ elim ((told_of x e).lasts s v) [ inl m ↦ inl (omega arith) | inr m ↦ absurd (m (sym (ap (λ (a : At). a.base.nonce) there) ∙ none)) ]
  ]
  known_next small c b there (Obeys o i t q) none = elim (c.known (sym (ap (λ (a : Base). a.nonce) q) ∙ none)) [
    | inr l ↦ inr (let z = ap (λ (a : Base). a.number) q in omega arith)
    | inl l ↦ elim ((told_of x e).lasts s v) [ inl m ↦ inl (omega arith) | inr m ↦ absurd (m (sym (ap (λ (a : At). a.base.nonce) there) ∙ none)) ]
  ]
  known_next small c b there (Heeds k i l q) none = elim (c.known (fence_none (x.bases (Server v)) k x.nonces (sym (ap (λ (a : At). a.base.nonce) q) ∙ none))) [
    | inr l ↦ inr (elim (fence_cases (x.bases (Server v)) k x.nonces) [
      | inl up ↦ (let z = ap (λ (a : At). a.base.number) q in let w = ap (λ (a : Base). a.number) up.1 in let g = up.0 in omega arith)
      | inr same ↦ (let z = ap (λ (a : At). a.base.number) q in let w = ap (λ (a : Base). a.number) same in omega arith)
    ])
    | inl l ↦ elim ((told_of x e).lasts s v) [ inl m ↦ inl (omega arith) | inr m ↦ absurd (m (sym (ap (λ (a : At). a.base.nonce) there) ∙ none)) ]
  ]
  known_next small c b there (Settles k asked t i q w) none = inr (let z = ap (λ (a : At). a.base.number) w in let g = all_of_one (IsMade low x.nonces) x.messages (Settle (Server v) k asked t) h.messages i in omega arith)
  known_next small c b there (Recovers nonce k sizes cells i q w) none = inr (
      let z = ap (λ (a : Base). a.number) w in
      let g = all_of_one (IsLate s v number (x.bases (Server v))) x.messages (Restore v nonce k sizes cells) c.restores i refl (sym (named (x.bases (Server v)).nonce (Some nonce) q)) in
      omega arith
      )
  known_next small c b there (Loses l w) none = absurd (let z = ap (λ (a : Base). a.nonce) w in cc)

  -- a restore that is waited for afterwards was waited for before
  late_next : (b : At) → Becomes x (settling_comes x e).1.nonces v b → (m : Message) → IsMade low x.nonces m → IsLate s v number (x.bases (Server v)) m → IsLate s v number b.base m
  late_next b c (Fence p k) g l = tt
  late_next b c (Fenced p k i) g l = tt
  late_next b c (Settled p k) g l = tt
  late_next b c (Settle p k _ t) g l = tt
  late_next b c (Restore u asked k sizes cells) g l = λ at_v e. go c at_v e
    where
      go : Becomes x (settling_comes x e).1.nonces v b → u ≡ v → b.base.nonce ≡ Some asked → number ≤ k
      go (Stays q) a n = l a (sym (ap (λ (a : At). a.base.nonce) q) ∙ n)
      go (Obeys o i t q) a n = l a (sym (ap (λ (a : Base). a.nonce) q) ∙ n)
      go (Heeds j i up q) a n = elim (fence_cases (x.bases (Server v)) j x.nonces) [
        | inl r ↦ absurd (let z = map_some x.nonces asked (x.bases (Server v)).nonce (sym (ap (λ (b : Base). b.nonce) r.1) ∙ sym (ap (λ (a : At). a.base.nonce) q) ∙ n) in omega arith)
        | inr same ↦ l a (sym (ap (λ (b : Base). b.nonce) same) ∙ sym (ap (λ (a : At). a.base.nonce) q) ∙ n)
      ]
      go (Settles j _ t i q w) a n = absurd (let z = ap (λ (a : At). a.base.nonce) w in cc)
      go (Recovers _ j sizes cells i q w) a n = absurd (let z = ap (λ (a : Base). a.nonce) w in cc)
      go (Loses up w) a n = absurd (let z = some_same x.nonces asked (sym (ap (λ (a : Base). a.nonce) w) ∙ n) in omega arith)

  both : {A : Type 0} (P Q : A → Type 0) (xs : List A) → AllByRecursion P xs → AllByRecursion Q xs → AllByRecursion (λ a. P a × Q a) xs
  both P Q [] a b = tt
  both P Q (z ∷ zs) a b = ((a.0, b.0), both P Q zs a.1 b.1)

  late_all : AllByRecursion (IsLate s v number (x.bases (Server v))) x.messages → AllByRecursion (IsLate s v number ((settling_comes x e).1.bases (Server v))) (settling_comes x e).1.messages
  late_all l = messages_next (IsLate s v number ((settling_comes x e).1.bases (Server v))) x e fits (late_plain s v number ((settling_comes x e).1.bases (Server v))) (λ t p nonce. tt)
      (all_map (λ m. IsMade low x.nonces m × IsLate s v number (x.bases (Server v)) m) (IsLate s v number ((settling_comes x e).1.bases (Server v))) x.messages
      (λ m g. late_next (at (settling_comes x e).1 v) ((effect_of x e).servers v) m g.0 g.1)
      (both (IsMade low x.nonces) (IsLate s v number (x.bases (Server v))) x.messages h.messages l))

  -- a cell that is shut stays so, and no order of this number has an effect
  pub shut_next : number ≤ low → IsShut s v number x → (count_by (is_for s v number) (order_served (settling_comes x e).0) ≡ 0) × IsShut s v number (settling_comes x e).1
  shut_next small c = (
    elim (told_of x e).served [
      | inl n ↦ ap (count_by (is_for s v number)) n
      | inr a ↦ by_test a.0 a.1 a.2 (is_for s v number a.0) refl
    ],
    record {
      known = λ n. known_next small c (at (settling_comes x e).1 v) refl ((effect_of x e).servers v) n;
      restores = late_all c.restores;
    },
  )
    where
      by_test : (o : Order) → order_served (settling_comes x e).0 ≡ o ∷ [] → IsServedBy x (settling_comes x e).1 o → (b : Bool) → is_for s v number o ≡ b → count_by (is_for s v number) (order_served (settling_comes x e).0) ≡ 0
      by_test o q a false t = ap (count_by (is_for s v number)) q ∙ count_none (is_for s v number) o t
      by_test o q a true t =
          let p = for_same s v number o t in
          let k = taking (x.bases (Server o.call.server)) o.number a.taken in
          absurd (elim (c.known (subst (λ u. (x.bases (Server u)).nonce ≡ None) p.1.0 k.known)) [
            | inl l ↦ (let z = subst (λ u. x.world.net.last s u < o.number) p.1.0 (subst (λ r. x.world.net.last r o.call.server < o.number) p.0 a.above) in let m = p.1.1 in omega arith)
            | inr l ↦ (let z = subst (λ u. (x.bases (Server u)).number < o.number) p.1.0 k.below in let m = p.1.1 in omega arith)
          ])

  -- an order that has its effect shuts the cell for its number
  pub served_next : (count_by (is_for s v number) (order_served (settling_comes x e).0) ≡ 0) ⊎ ((count_by (is_for s v number) (order_served (settling_comes x e).0) ≡ 1) × (number ≤ low) × IsShut s v number (settling_comes x e).1)
  served_next = elim (told_of x e).served [
    | inl n ↦ inl (ap (count_by (is_for s v number)) n)
    | inr a ↦ by_test a.0 a.1 a.2 (is_for s v number a.0) refl
  ]
    where
      by_test : (o : Order) → order_served (settling_comes x e).0 ≡ o ∷ [] → IsServedBy x (settling_comes x e).1 o → (b : Bool) → is_for s v number o ≡ b →
          (count_by (is_for s v number) (order_served (settling_comes x e).0) ≡ 0) ⊎ ((count_by (is_for s v number) (order_served (settling_comes x e).0) ≡ 1) × (number ≤ low) × IsShut s v number (settling_comes x e).1)
      by_test o q a false t = inl (ap (count_by (is_for s v number)) q ∙ count_none (is_for s v number) o t)
      by_test o q a true t =
          let p = for_same s v number o t in
          let k = taking (x.bases (Server o.call.server)) o.number a.taken in
          let none : (x.bases (Server v)).nonce ≡ None = subst (λ u. (x.bases (Server u)).nonce ≡ None) p.1.0 k.known in
          inr (
            ap (count_by (is_for s v number)) q ∙ count_one (is_for s v number) o t,
            (let z = all_of_one (λ (o : Order). o.number ≤ low) x.world.net.sent o h.sent a.sent in let m = p.1.1 in omega arith),
            record {
              known = λ n. inl (let z : (settling_comes x e).1.world.net.last s v ≡ o.number = subst (λ u. (settling_comes x e).1.world.net.last s u ≡ o.number) p.1.0 (subst (λ r. (settling_comes x e).1.world.net.last r o.call.server ≡ o.number) p.0 a.last) in let m = p.1.1 in omega arith);
              restores = late_all (unawaited (x.bases (Server v)) none x.messages);
            },
          )
        where
          unawaited : (base : Base) → base.nonce ≡ None → (ms : List Message) → AllByRecursion (IsLate s v number base) ms
          unawaited base none [] = tt
          unawaited base none (m ∷ ms) = (one m, unawaited base none ms)
            where
              one : (m : Message) → IsLate s v number base m
              one (Fence p k) = tt
              one (Fenced p k i) = tt
              one (Settled p k) = tt
              one (Settle p k _ t) = tt
              one (Restore u asked k sizes cells) = λ a z. absurd (cc)
