-- Servers' accounts of what they have stay true until a settlement is confirmed, and who takes an order, a settle or a restore has not told.
use Rattle.std.proofs.Common.{◌≡◌, ◌≢◌, ◌≤◌, ◌<◌, ℕ, suc, refl, sym, ap, ◌∙◌, inl, inr, subst, arith, Bool, true, false, Option, Some, None, List, [], ◌∷◌, ◌+◌, ◌++◌, length}
use Rattle.std.specs.Prelude.{◌==◌, ◌&&◌, if◌then◌else◌, is_none, is_some, slice_get}
use Rattle.std.specs.List.{AllByRecursion}
use Rattle.std.proofs.lemmas.Bool.{and_parts, cases_eq, cases_lt, eq-eqb, eqb-true, ne_eqb}
use Rattle.sm_server.specs.declared.call.Cell.{Cell}
use Rattle.sm_placement.specs.Setup.{Setup, Sizes}
use Rattle.sm_protocol.proofs.Courses.{some_same}
use Rattle.laws_network.specs.Net.{Order, Quiet}
use Rattle.laws_network.specs.World.{World, WorldEvent, world_comes}
use Rattle.laws_network.specs.Reopening.{Arrives, Base, Comes, Confirm, Entries, Fence, Fenced, Forgets, Inventory, MapOwner, Message, Party, Records, Reopen, Reopening, Restore, Server, Settle, Settled, Settlement, Settling, SettlingEvent, Slots, Told, Took, Unknown, after_fence, arrives, entered, fence_comes, forgets, granted, in_world, inventory_by, is_asked, is_fenced_at, is_first, is_settled_at, is_taken, names_nonce, part_taken, put_party, records, sends, settle_by, settle_comes, settling_comes, settling_run, takes_settle, to_each, with_messages}
use Rattle.laws_network.specs.ReopeningLaws.{AllSettlingFit, IsOutset, IsPast, MayReopen, SettlingFits}
use Rattle.laws_network.specs.FleetReopening.{IsOneOf}
use Rattle.laws_network.proofs.Lists.{all_append, all_map}
use Rattle.laws_network.proofs.Shown.{net_is_reached}
use Rattle.laws_reopening.proofs.Effects.{At, Becomes, Heeds, IsEffect, Loses, Obeys, Recovers, Settles, Stays, at, effect_of, fence_does, loss_does, restore_does, settle_does, with_base}
use Rattle.laws_reopening.proofs.Standing.{IsFrom, IsTakenBy, fence_cases, fence_none, from_fence, map_some, named, none_or_some, taken_by, taking}
use Rattle.laws_reopening.proofs.Followed.{all_of_one, all_to_each, fences_are}
use Rattle.laws_reopening.proofs.Numbers.{low_orders, top}

-- these cells are what was told
abbrev pub HasTold : (ℕ → Cell) → Inventory → Type 0
HasTold cells (Slots told reached) = (s : ℕ) → cells s ≡ told s
HasTold cells _ = ⊥

-- The account of a server that stood at the reopening's fence is what it has until a settlement is confirmed. It stands there since, or has lost
-- its slots since.
pub record Tells (base : ℕ) (settlement : Option Settlement) (nonces since : ℕ) (i : Inventory) (a : At) : Type 0 where
  pub from : IsFrom base since a.base
  pub had : settlement ≡ None → a.base.nonce ≡ None → HasTold a.cells i
  pub made : (n : ℕ) → i ≡ Unknown n → n < nonces

abbrev pub TellsIn : Settling → ℕ → ℕ → Inventory → Type 0
TellsIn x since v i = Tells x.reopening.base x.reopening.settlement x.nonces since i (at x v)

-- a settle is that of this reopening, once it was confirmed; or it is for an earlier nonce
pub record IsEarlier (since base : ℕ) (settlement : Option Settlement) (nonces number : ℕ) (nonce : Option ℕ) : Type 0 where
  pub below : number ≤ base
  pub confirmed : number ≡ base → settlement ≢ None
  pub early : number < base → (n : ℕ) → nonce ≡ Some n → n < since
  pub made : (n : ℕ) → nonce ≡ Some n → n < nonces

-- what is known of a message
abbrev pub IsSeen : ℕ → ℕ → Settling → Message → Type 0
IsSeen first since x (Fence p number) = number ≤ x.reopening.base
IsSeen first since x (Fenced (Server v) number i) = (number ≤ x.reopening.base) × (number ≡ x.reopening.base → TellsIn x since v i)
IsSeen first since x (Settle (Server v) number nonce s) = IsEarlier since x.reopening.base x.reopening.settlement x.nonces number nonce
IsSeen first since x (Restore v nonce number sizes cells) = nonce < first
IsSeen first since x _ = Unit {0}

-- A server that has lost its slots asks under a nonce that was made; and if it stands at the reopening's fence, under one that was made since
-- that began.
pub record IsAsking (base nonces since : ℕ) (a : At) : Type 0 where
  pub made : (n : ℕ) → a.base.nonce ≡ Some n → n < nonces
  pub low : (n : ℕ) → a.base.nonce ≡ Some n → a.base.number ≤ base
  pub fresh : (n : ℕ) → a.base.nonce ≡ Some n → a.base.number ≡ base → since ≤ n

-- all of it: no order has a number above the first one, so many nonces were made before any reopening, and so many before this one
pub record IsWatched (low first since : ℕ) (x : Settling) : Type 0 where
  pub above : low < x.reopening.base
  pub sent : AllByRecursion (λ (o : Order). o.number ≤ low) x.world.net.sent
  pub begun : first ≤ since
  pub made : since ≤ x.nonces
  pub asking : (v : ℕ) → IsAsking x.reopening.base x.nonces since (at x v)
  pub messages : AllByRecursion (IsSeen first since x) x.messages
  pub told : (v : ℕ) (i : Inventory) → x.reopening.told (Server v) ≡ Some i → TellsIn x since v i

-- ---- messages that answer

-- the messages once one has come: what there was, and an answer to a fence or a settle
answers_more : (Q : Message → Type 0) (x : Settling) (reached : ℕ → Bool) (o : Option Message) →
    ((p : Party) (number : ℕ) → o ≡ Some (Fence p number) → is_fenced_at number (after_fence (x.bases p) number x.nonces) ≡ true → Q (Fenced p number (inventory_by x p (after_fence (x.bases p) number x.nonces).nonce reached))) →
    ((p : Party) (number : ℕ) → Q (Settled p number)) → AllByRecursion Q x.messages → AllByRecursion Q (arrives x reached o).messages
answers_more Q x reached o fenced settled all = by_message o refl
  where
    push : (new : List Message) → AllByRecursion Q new → AllByRecursion Q (x.messages ++ new)
    push new h = all_append Q x.messages new all h

    by_fence : (p : Party) (number : ℕ) → o ≡ Some (Fence p number) → AllByRecursion Q (fence_comes x p number reached).messages
    by_fence p number q = go (is_fenced_at number (after_fence (x.bases p) number x.nonces)) refl
      where
        go : (b : Bool) → is_fenced_at number (after_fence (x.bases p) number x.nonces) ≡ b →
            AllByRecursion Q (if b then with_messages (record x { bases = put_party x.bases p (after_fence (x.bases p) number x.nonces); nonces = suc x.nonces })
            (Fenced p number (inventory_by x p (after_fence (x.bases p) number x.nonces).nonce reached) ∷ [])
            else (record x { bases = put_party x.bases p (after_fence (x.bases p) number x.nonces); nonces = suc x.nonces })).messages
        go true e = push (Fenced p number (inventory_by x p (after_fence (x.bases p) number x.nonces).nonce reached) ∷ []) (fenced p number q e, tt)
        go false e = all

    by_settle : (p : Party) (number : ℕ) (nonce : Option ℕ) (s : Settlement) → AllByRecursion Q (settle_comes x p number nonce s).messages
    by_settle p number asked s = go p (takes_settle number asked (x.bases p)) (is_settled_at number (x.bases p))
      where
        go : (p : Party) (a b : Bool) → AllByRecursion Q (if a then with_messages (part_taken x p number s) (Settled p number ∷ []) else if b then with_messages x (Settled p number ∷ []) else x).messages
        go (Server v) true b = push (Settled (Server v) number ∷ []) (settled (Server v) number, tt)
        go MapOwner true b = push (Settled MapOwner number ∷ []) (settled MapOwner number, tt)
        go p false true = push (Settled p number ∷ []) (settled p number, tt)
        go p false false = all

    by_message : (m : Option Message) → o ≡ m → AllByRecursion Q (arrives x reached m).messages
    by_message None q = all
    by_message (Some (Fence p number)) q = by_fence p number q
    by_message (Some (Settle p number asked s)) q = by_settle p number asked s
    by_message (Some (Restore v asked number sizes cells)) q = go (names_nonce (x.bases (Server v)).nonce (Some asked))
      where
        go : (b : Bool) → AllByRecursion Q (if b then granted x v number sizes cells else x).messages
        go true = all
        go false = all
    by_message (Some (Fenced p number i)) q = push [] tt
    by_message (Some (Settled p number)) q = push [] tt

module _ (low first since : ℕ) (x : Settling) (h : IsWatched low first since x) where
  abbrev r : Reopening
  r = x.reopening

  -- ---- a server

  -- a settle that is taken at the reopening's fence or above is of this reopening
  settle_is_high : (v number : ℕ) (nonce : Option ℕ) → IsEarlier since r.base r.settlement x.nonces number nonce → IsFrom r.base since (x.bases (Server v)) → IsTakenBy (x.bases (Server v)) number nonce → r.base ≤ number
  settle_is_high v number asked g f t = elim (none_or_some (x.bases (Server v)).nonce) [
    | inl e ↦ (let a = f.known e in let b = t.stands in omega arith)
    | inr n ↦ by_size n.0 n.1
  ]
    where
      by_size : (n : ℕ) → (x.bases (Server v)).nonce ≡ Some n → r.base ≤ number
      by_size n e = elim (cases_lt number r.base) [
        | inl l ↦ absurd (let a = g.early l n (t.meant ∙ e) in let b = f.unknown n e in omega arith)
        | inr l ↦ l
      ]

  tells_next : (nonces v : ℕ) (b : At) (i : Inventory) → x.nonces ≤ nonces → Becomes x nonces v b → TellsIn x since v i → Tells r.base r.settlement nonces since i b
  tells_next nonces v b i up (Stays e) t = subst (Tells r.base r.settlement nonces since i) (sym e) (record { from = t.from; had = t.had; made = λ n q. let a = t.made n q in omega arith })
  tells_next nonces v b i up (Obeys o j q e) t = absurd (
      let a = taking (x.bases (Server v)) o.number q in
      let k = t.from.known a.known in
      let l = a.below in
      let z = all_of_one (λ (o : Order). o.number ≤ low) x.world.net.sent o h.sent j in
      let y = h.above in
      omega arith
      )
  tells_next nonces v b i up (Heeds k j l e) t = subst (Tells r.base r.settlement nonces since i) (sym e) (record {
    from = from_fence (x.bases (Server v)) r.base since k x.nonces h.made t.from;
    had = λ u q. t.had u (fence_none (x.bases (Server v)) k x.nonces q);
    made = λ n q. let a = t.made n q in omega arith;
  })
  tells_next nonces v b i up (Settles number nonce s j q e) t =
      let g = all_of_one (IsSeen first since x) x.messages (Settle (Server v) number nonce s) h.messages j in
      let l = settle_is_high v number nonce g t.from (taken_by (x.bases (Server v)) number nonce q) in
      let y = g.below in
      let same : number ≡ r.base = omega arith in
      subst (Tells r.base r.settlement nonces since i) (sym e) (record {
        from = record { known = λ z. l; unknown = λ n z. absurd (cc) };
        had = λ u z. absurd (g.confirmed same u);
        made = λ n z. let a = t.made n z in omega arith;
      })
  tells_next nonces v b i up (Recovers nonce number sizes cells j q e) t = absurd (
      let z = named (x.bases (Server v)).nonce (Some nonce) q in
      let a = t.from.unknown nonce (sym z) in
      let l = all_of_one (IsSeen first since x) x.messages (Restore v nonce number sizes cells) h.messages j in
      let k = h.begun in
      omega arith
      )
  tells_next nonces v b i up (Loses l e) t = record {
    from = record {
      known = λ z. absurd (let y = ap (λ (b : Base). b.nonce) e in cc);
      unknown = λ n z. let y = h.made in let g = some_same x.nonces n (sym (ap (λ (b : Base). b.nonce) e) ∙ z) in omega arith;
    };
    had = λ u z. absurd (let y = ap (λ (b : Base). b.nonce) e in cc);
    made = λ n z. let a = t.made n z in omega arith;
  }

  asking_next : (nonces v : ℕ) (b : At) → x.nonces ≤ nonces → Becomes x nonces v b → IsAsking r.base nonces since b
  asking_next nonces v b up (Stays e) = subst (IsAsking r.base nonces since) (sym e) (record { made = λ n q. let a = (h.asking v).made n q in omega arith; low = (h.asking v).low; fresh = (h.asking v).fresh })
  asking_next nonces v b up (Obeys o j q e) = record { made = λ n z. absurd (none n z); low = λ n z. absurd (none n z); fresh = λ n z. absurd (none n z) }
    where
      none : (n : ℕ) → b.base.nonce ≡ Some n → ⊥
      none n z = absurd (let a = (taking (x.bases (Server v)) o.number q).known in let y = ap (λ (b : Base). b.nonce) e in cc)
  asking_next nonces v b up (Heeds k j l e) = subst (IsAsking r.base nonces since) (sym e) (elim (fence_cases (x.bases (Server v)) k x.nonces) [
    | inr same ↦ subst (λ (c : Base). IsAsking r.base nonces since (with_base (at x v) c)) (sym same) (record { made = λ n q. let a = (h.asking v).made n q in omega arith; low = (h.asking v).low; fresh = (h.asking v).fresh })
    | inl up ↦ subst (λ (c : Base). IsAsking r.base nonces since (with_base (at x v) c)) (sym up.1) (record {
      made = λ n q. let z = map_some x.nonces n (x.bases (Server v)).nonce q in omega arith;
      low = λ n q. all_of_one (IsSeen first since x) x.messages (Fence (Server v) k) h.messages j;
      fresh = λ n q m. let z = map_some x.nonces n (x.bases (Server v)).nonce q in let y = h.made in omega arith;
    })
  ])
  asking_next nonces v b up (Settles number _ s j q e) = subst (IsAsking r.base nonces since) (sym e) (record { made = λ n z. absurd (cc); low = λ n z. absurd (cc); fresh = λ n z. absurd (cc) })
  asking_next nonces v b up (Recovers nonce number sizes cells j q e) = record { made = λ n z. absurd (none n z); low = λ n z. absurd (none n z); fresh = λ n z. absurd (none n z) }
    where
      none : (n : ℕ) → b.base.nonce ≡ Some n → ⊥
      none n z = absurd (let y = ap (λ (b : Base). b.nonce) e in cc)
  asking_next nonces v b up (Loses l e) = record {
    made = λ n z. let a = nonce_is n z in omega arith;
    low = λ n z. let y = ap (λ (b : Base). b.number) e in omega arith;
    fresh = λ n z m. let a = nonce_is n z in let y = h.made in omega arith;
  }
    where
      nonce_is : (n : ℕ) → b.base.nonce ≡ Some n → x.nonces ≡ n
      nonce_is n z = some_same x.nonces n (sym (ap (λ (b : Base). b.nonce) e) ∙ z)

  -- ---- the reopening is the same

  module _ (y : Settling) (f : IsEffect x y) (same : y.reopening ≡ x.reopening) where
    tells_in : (v : ℕ) (i : Inventory) → TellsIn x since v i → TellsIn y since v i
    tells_in v i t = subst (λ (q : Reopening). Tells q.base q.settlement y.nonces since i (at y v)) (sym same) (tells_next y.nonces v (at y v) i f.nonces (f.servers v) t)

    seen_next : (m : Message) → IsSeen first since x m → IsSeen first since y m
    seen_next (Fence p k) g = subst (λ (q : Reopening). k ≤ q.base) (sym same) g
    seen_next (Fenced (Server v) k i) g = (subst (λ (q : Reopening). k ≤ q.base) (sym same) g.0, λ e. tells_in v i (g.1 (e ∙ ap (λ (q : Reopening). q.base) same)))
    seen_next (Fenced MapOwner k i) g = g
    seen_next (Settle (Server v) k asked s) g = subst (λ (q : Reopening). IsEarlier since q.base q.settlement y.nonces k asked) (sym same) (record {
      below = g.below;
      confirmed = g.confirmed;
      early = g.early;
      made = λ n e. let a = g.made n e in let b = f.nonces in omega arith;
    })
    seen_next (Settle MapOwner k asked s) g = g
    seen_next (Settled p k) g = g
    seen_next (Restore v asked k sizes cells) g = g

    seen_all : AllByRecursion (IsSeen first since y) x.messages
    seen_all = all_map (IsSeen first since x) (IsSeen first since y) x.messages seen_next h.messages

    kept : AllByRecursion (IsSeen first since y) y.messages → IsWatched low first since y
    kept messages = record {
      above = subst (λ (q : Reopening). low < q.base) (sym same) h.above;
      sent = subst (AllByRecursion (λ (o : Order). o.number ≤ low)) (sym f.sent) h.sent;
      begun = h.begun;
      made = (let a = f.nonces in let b = h.made in omega arith);
      asking = λ v. subst (λ (q : Reopening). IsAsking q.base y.nonces since (at y v)) (sym same) (asking_next y.nonces v (at y v) f.nonces (f.servers v));
      messages = messages;
      told = λ v i e. tells_in v i (h.told v i (ap (λ (q : Reopening). q.told (Server v)) (sym same) ∙ e));
    }

  comes_kept : (e : WorldEvent) → IsWatched low first since (settling_comes x (Comes e)).1
  comes_kept e = kept (settling_comes x (Comes e)).1 (effect_of x (Comes e)) same (subst (AllByRecursion (IsSeen first since (settling_comes x (Comes e)).1)) (sym messages) (seen_all (settling_comes x (Comes e)).1 (effect_of x (Comes e)) same))
    where
      same : (settling_comes x (Comes e)).1.reopening ≡ x.reopening
      same = go (is_taken x e)
        where
          go : (b : Bool) → (if b then in_world x (world_comes x.world e) else (Quiet, x)).1.reopening ≡ x.reopening
          go true = refl
          go false = refl

      messages : (settling_comes x (Comes e)).1.messages ≡ x.messages
      messages = go (is_taken x e)
        where
          go : (b : Bool) → (if b then in_world x (world_comes x.world e) else (Quiet, x)).1.messages ≡ x.messages
          go true = refl
          go false = refl

  -- ---- a fence comes

  module _ (p : Party) (number : ℕ) (reached : ℕ → Bool) where
    fence_reopening : (fence_comes x p number reached).reopening ≡ x.reopening
    fence_reopening = go (is_fenced_at number (after_fence (x.bases p) number x.nonces))
      where
        go : (b : Bool) →
            (if b then with_messages (record x { bases = put_party x.bases p (after_fence (x.bases p) number x.nonces); nonces = suc x.nonces })
            (Fenced p number (inventory_by x p (after_fence (x.bases p) number x.nonces).nonce reached) ∷ [])
            else (record x { bases = put_party x.bases p (after_fence (x.bases p) number x.nonces); nonces = suc x.nonces })).reopening ≡ x.reopening
        go true = refl
        go false = refl

    fence_nonces : (fence_comes x p number reached).nonces ≡ suc x.nonces
    fence_nonces = go (is_fenced_at number (after_fence (x.bases p) number x.nonces))
      where
        go : (b : Bool) →
            (if b then with_messages (record x { bases = put_party x.bases p (after_fence (x.bases p) number x.nonces); nonces = suc x.nonces })
            (Fenced p number (inventory_by x p (after_fence (x.bases p) number x.nonces).nonce reached) ∷ [])
            else (record x { bases = put_party x.bases p (after_fence (x.bases p) number x.nonces); nonces = suc x.nonces })).nonces ≡ suc x.nonces
        go true = refl
        go false = refl

    fence_at : (v : ℕ) → at (fence_comes x p number reached) v ≡ at (record x { bases = put_party x.bases p (after_fence (x.bases p) number x.nonces) }) v
    fence_at v = go (is_fenced_at number (after_fence (x.bases p) number x.nonces))
      where
        go : (b : Bool) →
            at (if b then with_messages (record x { bases = put_party x.bases p (after_fence (x.bases p) number x.nonces); nonces = suc x.nonces })
            (Fenced p number (inventory_by x p (after_fence (x.bases p) number x.nonces).nonce reached) ∷ [])
            else (record x { bases = put_party x.bases p (after_fence (x.bases p) number x.nonces); nonces = suc x.nonces })) v
            ≡ at (record x { bases = put_party x.bases p (after_fence (x.bases p) number x.nonces) }) v
        go true = refl
        go false = refl

  -- what a server tells at the fence
  told_now : (v number : ℕ) (reached : ℕ → Bool) → is_fenced_at number (after_fence (x.bases (Server v)) number x.nonces) ≡ true → number ≡ r.base →
      Tells r.base r.settlement (suc x.nonces) since (inventory_by x (Server v) (after_fence (x.bases (Server v)) number x.nonces).nonce reached) (with_base (at x v) (after_fence (x.bases (Server v)) number x.nonces))
  told_now v number reached e same = record {
    from = record { known = λ z. (let a = stands in omega arith); unknown = unknown };
    had = λ u z. had (after_fence (x.bases (Server v)) number x.nonces).nonce z;
    made = λ n z. made (after_fence (x.bases (Server v)) number x.nonces).nonce refl n z;
  }
    where
      stands : (after_fence (x.bases (Server v)) number x.nonces).number ≡ number
      stands = eqb-true (after_fence (x.bases (Server v)) number x.nonces).number number (and_parts (after_fence (x.bases (Server v)) number x.nonces).fenced _ e).1

      unknown : (n : ℕ) → (after_fence (x.bases (Server v)) number x.nonces).nonce ≡ Some n → since ≤ n
      unknown n z = elim (fence_cases (x.bases (Server v)) number x.nonces) [
        | inl up ↦ (let a = map_some x.nonces n (x.bases (Server v)).nonce (sym (ap (λ (b : Base). b.nonce) up.1) ∙ z) in let b = h.made in omega arith)
        | inr q ↦ (h.asking v).fresh n (sym (ap (λ (b : Base). b.nonce) q) ∙ z) (sym (ap (λ (b : Base). b.number) q) ∙ stands ∙ same)
      ]

      had : (o : Option ℕ) → o ≡ None → HasTold (λ s. x.world.net.cells s v) (inventory_by x (Server v) o reached)
      had None z = λ s. refl
      had (Some n) z = absurd (cc)

      made : (o : Option ℕ) → (after_fence (x.bases (Server v)) number x.nonces).nonce ≡ o → (n : ℕ) → inventory_by x (Server v) o reached ≡ Unknown n → n < suc x.nonces
      made None q n z = absurd (cc)
      made (Some m) q n z =
          let same : m ≡ n = cc in
          elim (fence_cases (x.bases (Server v)) number x.nonces) [
            | inl up ↦ (let a = map_some x.nonces m (x.bases (Server v)).nonce (sym (ap (λ (b : Base). b.nonce) up.1) ∙ q) in omega arith)
            | inr k ↦ (let a = (h.asking v).made m (sym (ap (λ (b : Base). b.nonce) k) ∙ q) in omega arith)
          ]

  fence_kept : (p : Party) (number : ℕ) (reached : ℕ → Bool) → IsOneOf x.messages (Fence p number) → IsWatched low first since (fence_comes x p number reached)
  fence_kept p number reached i =
      kept (fence_comes x p number reached) f same (answers_more (IsSeen first since (fence_comes x p number reached)) x reached (Some (Fence p number)) answered (λ q k. tt) (seen_all (fence_comes x p number reached) f same))
    where
      f : IsEffect x (fence_comes x p number reached)
      f = fence_does x p number reached i

      same : (fence_comes x p number reached).reopening ≡ x.reopening
      same = fence_reopening p number reached

      at_server : (v : ℕ) → p ≡ Server v → at (fence_comes x p number reached) v ≡ with_base (at x v) (after_fence (x.bases (Server v)) number x.nonces)
      at_server v q = subst (λ z. at (fence_comes x z number reached) v ≡ with_base (at x v) (after_fence (x.bases (Server v)) number x.nonces)) (sym q)
          (fence_at (Server v) number reached v ∙ ap (λ b. with_base (at x v) (if b then after_fence (x.bases (Server v)) number x.nonces else x.bases (Server v))) (eq-eqb v v refl))

      answer : (z : Party) → p ≡ z → is_fenced_at number (after_fence (x.bases z) number x.nonces) ≡ true → IsSeen first since (fence_comes x p number reached) (Fenced z number (inventory_by x z (after_fence (x.bases z) number x.nonces).nonce reached))
      answer MapOwner q e = tt
      answer (Server v) q e = (
        subst (λ (k : Reopening). number ≤ k.base) (sym (fence_reopening p number reached)) (all_of_one (IsSeen first since x) x.messages (Fence p number) h.messages i),
        λ m. subst (λ (k : Reopening). Tells k.base k.settlement (fence_comes x p number reached).nonces since (inventory_by x (Server v) (after_fence (x.bases (Server v)) number x.nonces).nonce reached) (at (fence_comes x p number reached) v)) (sym (fence_reopening p number reached))
            (subst (λ n. Tells r.base r.settlement n since (inventory_by x (Server v) (after_fence (x.bases (Server v)) number x.nonces).nonce reached) (at (fence_comes x p number reached) v)) (sym (fence_nonces p number reached))
            (subst (Tells r.base r.settlement (suc x.nonces) since (inventory_by x (Server v) (after_fence (x.bases (Server v)) number x.nonces).nonce reached)) (sym (at_server v q))
            (told_now v number reached e (m ∙ ap (λ (k : Reopening). k.base) (fence_reopening p number reached))))),
      )

      answered : (z : Party) (k : ℕ) → Some (Fence p number) ≡ Some (Fence z k) → is_fenced_at k (after_fence (x.bases z) k x.nonces) ≡ true → IsSeen first since (fence_comes x p number reached) (Fenced z k (inventory_by x z (after_fence (x.bases z) k x.nonces).nonce reached))
      answered z k q =
          let one : p ≡ z = cc in
          let two : number ≡ k = cc in
          subst (λ j. is_fenced_at j (after_fence (x.bases z) j x.nonces) ≡ true → IsSeen first since (fence_comes x p number reached) (Fenced z j (inventory_by x z (after_fence (x.bases z) j x.nonces).nonce reached))) two (answer z one)

  -- ---- a settle comes, or a restore

  settle_kept : (p : Party) (number : ℕ) (nonce : Option ℕ) (s : Settlement) (reached : ℕ → Bool) → IsOneOf x.messages (Settle p number nonce s) → IsWatched low first since (settle_comes x p number nonce s)
  settle_kept p number asked s reached i =
      kept (settle_comes x p number asked s) (settle_does x p number asked s i) same
      (answers_more (IsSeen first since (settle_comes x p number asked s)) x reached (Some (Settle p number asked s)) (λ z k q. absurd (cc)) (λ z k. tt) (seen_all (settle_comes x p number asked s) (settle_does x p number asked s i) same))
    where
      same : (settle_comes x p number asked s).reopening ≡ x.reopening
      same = go p (takes_settle number asked (x.bases p)) (is_settled_at number (x.bases p))
        where
          go : (p : Party) (a b : Bool) → (if a then with_messages (part_taken x p number s) (Settled p number ∷ []) else if b then with_messages x (Settled p number ∷ []) else x).reopening ≡ x.reopening
          go (Server v) true b = refl
          go MapOwner true b = refl
          go p false true = refl
          go p false false = refl

  restore_kept : (v nonce number : ℕ) (sizes : Sizes) (cells : ℕ → Cell) → IsOneOf x.messages (Restore v nonce number sizes cells) → (b : Bool) → names_nonce (x.bases (Server v)).nonce (Some nonce) ≡ b →
      IsWatched low first since (if b then granted x v number sizes cells else x)
  restore_kept v asked number sizes cells i false q = h
  restore_kept v asked number sizes cells i true q =
      let f = restore_does x v asked number sizes cells i true q in
      kept (granted x v number sizes cells) f refl (seen_all (granted x v number sizes cells) f refl)

  -- a server forgets
  loss_kept : (v : ℕ) → IsWatched low first since (forgets x v)
  loss_kept v = kept (forgets x v) (loss_does x v) refl (seen_all (forgets x v) (loss_does x v) refl)

  -- ---- an answer is recorded

  module _ (told : Party → Option Inventory) (settled : Party → Bool) where
    abbrev noted : Settling
    noted = record x { reopening = record x.reopening { told = told; settled = settled }; messages = x.messages ++ [] }

    seen_noted : (m : Message) → IsSeen first since x m → IsSeen first since noted m
    seen_noted (Fence p k) g = g
    seen_noted (Fenced (Server v) k i) g = g
    seen_noted (Fenced MapOwner k i) g = g
    seen_noted (Settle (Server v) k asked s) g = g
    seen_noted (Settle MapOwner k asked s) g = g
    seen_noted (Settled p k) g = g
    seen_noted (Restore v asked k sizes cells) g = g

    noted_kept : ((v : ℕ) (i : Inventory) → told (Server v) ≡ Some i → TellsIn x since v i) → IsWatched low first since noted
    noted_kept t = record {
      above = h.above;
      sent = h.sent;
      begun = h.begun;
      made = h.made;
      asking = h.asking;
      messages = all_append (IsSeen first since noted) x.messages [] (all_map (IsSeen first since x) (IsSeen first since noted) x.messages seen_noted h.messages) tt;
      told = t;
    }

  told_kept : (p : Party) (number : ℕ) (i : Inventory) → IsOneOf x.messages (Fenced p number i) → IsWatched low first since (records x (Told p number i))
  told_kept p number i j = go (is_first r p number) refl
    where
      at_base : is_first r p number ≡ true → number ≡ r.base
      at_base e = eqb-true number r.base (and_parts (number == r.base) (is_none r.settlement && (is_asked r p && is_none (r.told p))) e).0

      newly : (p : Party) → IsOneOf x.messages (Fenced p number i) → is_first r p number ≡ true → number ≡ r.base → (v : ℕ) (k : Inventory) → put_party r.told p (Some i) (Server v) ≡ Some k → TellsIn x since v k
      newly MapOwner j e b v k q = h.told v k q
      newly (Server u) j e b v k q = elim (cases_eq v u) [
        | inr n ↦ h.told v k (sym (ap (λ t. if t then Some i else r.told (Server v)) (ne_eqb v u n)) ∙ q)
        | inl m ↦
            let same : i ≡ k = some_same i k (sym (ap (λ t. if t then Some i else r.told (Server v)) (eq-eqb v u m)) ∙ q) in
            let g = all_of_one (IsSeen first since x) x.messages (Fenced (Server u) number i) h.messages j in
            subst (λ z. TellsIn x since z k) (sym m) (subst (TellsIn x since u) same (g.1 b))
      ]

      go : (b : Bool) → is_first r p number ≡ b → IsWatched low first since (record x { reopening = if b then record r { told = put_party r.told p (Some i) } else r; messages = x.messages ++ [] })
      go false e = noted_kept r.told r.settled h.told
      go true e = noted_kept (put_party r.told p (Some i)) r.settled (newly p j e (at_base e))

  took_kept : (p : Party) (number : ℕ) → IsWatched low first since (records x (Took p number))
  took_kept p number = go (number == r.base && is_some r.settlement)
    where
      go : (b : Bool) → IsWatched low first since (record x { reopening = if b then record r { settled = put_party r.settled p true } else r; messages = x.messages ++ [] })
      go false = noted_kept r.told r.settled h.told
      go true = noted_kept r.told (put_party r.settled p true) h.told

  message_kept : (reached : ℕ → Bool) (k : ℕ) (o : Option Message) → slice_get x.messages k ≡ o → IsWatched low first since (arrives x reached o)
  message_kept reached k None q = h
  message_kept reached k (Some (Fence p number)) q = fence_kept p number reached (k, q)
  message_kept reached k (Some (Settle p number asked s)) q = settle_kept p number asked s reached (k, q)
  message_kept reached k (Some (Restore v asked number sizes cells)) q = restore_kept v asked number sizes cells (k, q) (names_nonce (x.bases (Server v)).nonce (Some asked)) refl
  message_kept reached k (Some (Fenced p number i)) q = told_kept p number i (k, q)
  message_kept reached k (Some (Settled p number)) q = took_kept p number

  -- ---- another reopening begins

  reopen_kept : (base servers : ℕ) (lost : ℕ → Bool) → MayReopen x base lost → IsWatched low first x.nonces (records x (Reopen base servers lost))
  reopen_kept base servers lost m = record {
    above = let a = m.later in let b = h.above in omega arith;
    sent = h.sent;
    begun = let a = h.begun in let b = h.made in omega arith;
    made = omega arith;
    asking = λ v. record {
      made = (h.asking v).made;
      low = λ n e. let a = (h.asking v).low n e in let b = m.later in omega arith;
      fresh = λ n e q. absurd (let a = (h.asking v).low n e in let b = m.later in omega arith);
    };
    messages = all_append (IsSeen first x.nonces (records x (Reopen base servers lost))) x.messages (sends (Reopen base servers lost) (entered (Reopen base servers lost) r))
        (all_map (IsSeen first since x) (IsSeen first x.nonces (records x (Reopen base servers lost))) x.messages old h.messages)
        (fences_are (IsSeen first x.nonces (records x (Reopen base servers lost))) base servers lost (entered (Reopen base servers lost) r) (λ p. omega arith));
    told = λ v i e. absurd (cc);
  }
    where
      old : (n : Message) → IsSeen first since x n → IsSeen first x.nonces (records x (Reopen base servers lost)) n
      old (Fence p k) g = let b = m.later in omega arith
      old (Fenced (Server v) k i) g = ((let a = g.0 in let b = m.later in omega arith), λ e. absurd (let a = g.0 in let b = m.later in omega arith))
      old (Fenced MapOwner k i) g = g
      old (Settle (Server v) k asked s) g = record {
        below = let a = g.below in let b = m.later in omega arith;
        confirmed = λ e. absurd (let a = g.below in let b = m.later in omega arith);
        early = λ l n e. g.made n e;
        made = g.made;
      }
      old (Settle MapOwner k asked s) g = g
      old (Settled p k) g = g
      old (Restore v asked k sizes cells) g = g

  -- ---- a settlement is confirmed

  confirm_kept : (s : Settlement) → IsWatched low first since (records x (Confirm s))
  confirm_kept s = record {
    above = h.above;
    sent = h.sent;
    begun = h.begun;
    made = h.made;
    asking = h.asking;
    messages = all_append Q x.messages (sends (Confirm s) (entered (Confirm s) r)) (all_map (IsSeen first since x) Q x.messages old h.messages)
        (all_append Q (settle_by r.base s MapOwner (r.told MapOwner)) (to_each r.servers (λ v. settle_by r.base s (Server v) (r.told (Server v)))) (to_owner (r.told MapOwner))
        (all_to_each Q r.servers (λ v. settle_by r.base s (Server v) (r.told (Server v))) (λ v. to_server v (r.told (Server v)) refl)));
    told = λ v i e. confirmed v i (h.told v i e);
  }
    where
      Q : Message → Type 0
      Q = IsSeen first since (records x (Confirm s))

      confirmed : (v : ℕ) (i : Inventory) → TellsIn x since v i → TellsIn (records x (Confirm s)) since v i
      confirmed v i t = record { from = t.from; had = λ u. absurd (cc); made = t.made }

      old : (m : Message) → IsSeen first since x m → IsSeen first since (records x (Confirm s)) m
      old (Fence p k) g = g
      old (Fenced (Server v) k i) g = (g.0, λ e. confirmed v i (g.1 e))
      old (Fenced MapOwner k i) g = g
      old (Settle (Server v) k asked t) g = record { below = g.below; confirmed = λ e z. absurd (cc); early = g.early; made = g.made }
      old (Settle MapOwner k asked t) g = g
      old (Settled p k) g = g
      old (Restore v asked k sizes cells) g = g

      to_owner : (o : Option Inventory) → AllByRecursion (IsSeen first since (records x (Confirm s))) (settle_by r.base s MapOwner o)
      to_owner None = tt
      to_owner (Some (Unknown n)) = (tt, tt)
      to_owner (Some (Slots cells reached)) = (tt, tt)
      to_owner (Some Entries) = (tt, tt)

      to_server : (v : ℕ) (o : Option Inventory) → r.told (Server v) ≡ o → AllByRecursion (IsSeen first since (records x (Confirm s))) (settle_by r.base s (Server v) o)
      to_server v None q = tt
      to_server v (Some (Unknown n)) q = (
        record {
          below = omega arith;
          confirmed = λ e z. absurd (cc);
          early = λ l. absurd (omega arith);
          made = λ k e. let a = (h.told v (Unknown n) q).made n refl in let b = some_same n k e in omega arith;
        },
        tt,
      )
      to_server v (Some (Slots cells reached)) q = (record { below = omega arith; confirmed = λ e z. absurd (cc); early = λ l. absurd (omega arith); made = λ k e. absurd (cc) }, tt)
      to_server v (Some Entries) q = (record { below = omega arith; confirmed = λ e z. absurd (cc); early = λ l. absurd (omega arith); made = λ k e. absurd (cc) }, tt)

-- ---- all events

-- it is so since some reopening began
abbrev pub IsWatchedSince : ℕ → ℕ → Settling → Type 0
IsWatchedSince low first x = (since : ℕ) × IsWatched low first since x

watched_next : (low first : ℕ) (x : Settling) (e : SettlingEvent) → SettlingFits x e → IsWatchedSince low first x → IsWatchedSince low first (settling_comes x e).1
watched_next low first x (Comes e) fits h = (h.0, comes_kept low first h.0 x h.1 e)
watched_next low first x (Arrives k reached) fits h = (h.0, message_kept low first h.0 x h.1 reached k (slice_get x.messages k) refl)
watched_next low first x (Forgets v) fits h = (h.0, loss_kept low first h.0 x h.1 v)
watched_next low first x (Records (Reopen base servers lost)) fits h = (x.nonces, reopen_kept low first h.0 x h.1 base servers lost fits)
watched_next low first x (Records (Confirm s)) fits h = (h.0, confirm_kept low first h.0 x h.1 s)
watched_next low first x (Records (Told p number i)) fits h = absurd fits
watched_next low first x (Records (Took p number)) fits h = absurd fits

-- so it stays along events
pub watched_run : (low first : ℕ) (es : List SettlingEvent) (x : Settling) → AllSettlingFit es x → IsWatchedSince low first x → IsWatchedSince low first (settling_run es x)
watched_run low first [] x fits h = h
watched_run low first (e ∷ es) x fits h = watched_run low first es (settling_comes x e).1 fits.1 (watched_next low first x e fits.0 h)

-- ---- the beginning

-- so it is once the first reopening has begun
pub watched_begun : (setup : Setup) (x : Settling) (o : IsOutset setup x) (base servers : ℕ) (lost : ℕ → Bool) → MayReopen x base lost → IsWatched (top o.world.net) x.nonces x.nonces (records x (Reopen base servers lost))
watched_begun setup x o base servers lost m = record {
  above = above;
  sent = subst (λ (z : World). AllByRecursion (λ (a : Order). a.number ≤ top o.world.net) z.net.sent) (sym o.same) (low_orders setup o.world.net (net_is_reached setup o.world o.reached)).sent;
  begun = omega arith;
  made = omega arith;
  asking = λ v. record {
    made = o.nonces (Server v);
    low = λ n e. let a = o.numbers (Server v) in let b = above in omega arith;
    fresh = λ n e q. absurd (let a = o.numbers (Server v) in let b = above in omega arith);
  };
  messages = all_append (IsSeen x.nonces x.nonces (records x (Reopen base servers lost))) x.messages (sends (Reopen base servers lost) (entered (Reopen base servers lost) x.reopening))
      (all_map (IsPast o.world x) (IsSeen x.nonces x.nonces (records x (Reopen base servers lost))) x.messages old o.messages)
      (fences_are (IsSeen x.nonces x.nonces (records x (Reopen base servers lost))) base servers lost (entered (Reopen base servers lost) x.reopening) (λ p. omega arith));
  told = λ v i e. absurd (cc);
}
  where
    above : o.world.net.base + length o.world.net.w.log + 1 < base
    above = let a = m.places in let b = ap (λ (z : World). z.net.base) o.same in let c = (low_orders setup o.world.net (net_is_reached setup o.world o.reached)).log in omega arith

    old : (n : Message) → IsPast o.world x n → IsSeen x.nonces x.nonces (records x (Reopen base servers lost)) n
    old (Fence p k) g = let b = above in omega arith
    old (Fenced (Server v) k i) g = ((let b = above in omega arith), λ e. absurd (let b = above in omega arith))
    old (Fenced MapOwner k i) g = tt
    old (Settle (Server v) k asked s) g = record {
      below = let a = g.0 in let b = above in omega arith;
      confirmed = λ e. absurd (let a = g.0 in let b = above in omega arith);
      early = λ l n e. g.1 n e;
      made = g.1;
    }
    old (Settle MapOwner k asked s) g = tt
    old (Settled p k) g = tt
    old (Restore v asked k sizes cells) g = g.0
