-- A settlement that was confirmed is followed, whatever comes: each server that was asked has what it may become of, or what was settled for it.
use Rattle.std.proofs.Common.{◌≡◌, ◌≤◌, ◌<◌, ℕ, zero, suc, sym, ap, ◌∙◌, inl, inr, subst, arith, Bool, true, false, Option, Some, None, List, [], ◌∷◌, ◌++◌}
use Rattle.std.specs.Prelude.{if◌then◌else◌, slice_get}
use Rattle.std.specs.List.{AllByRecursion}
use Rattle.std.proofs.lemmas.Bool.{cases_lt}
use Rattle.sm_protocol.proofs.Courses.{some_same}
use Rattle.laws_network.specs.Net.{Order}
use Rattle.laws_network.specs.Reopening.{Arrives, Base, Comes, Confirm, Fence, Fenced, Forgets, MapOwner, Message, Party, Quiet, Records, Reopen, Reopening, Restore, Server, Settle, Settled, Settlement, Settling, SettlingEvent, Told, Took, after_fence, arrives, entered, fence_comes, fence_to, granted, in_world, inventory_by, is_asked, is_fenced_at, is_settled_at, names_nonce, part_taken, put_party, sends, settle_comes, settling_comes, settling_run, takes_settle, to_each, with_messages, is_taken, world_comes}
use Rattle.laws_network.specs.ReopeningLaws.{AllSettlingFit, Keeps, SettlingFits}
use Rattle.laws_network.specs.FleetReopening.{IsOneOf}
use Rattle.laws_network.proofs.Lists.{all_append, all_at}
use Rattle.laws_reopening.specs.Floors.{ConfirmsNone}
use Rattle.laws_reopening.proofs.Effects.{At, Becomes, Heeds, Loses, Obeys, Recovers, Settles, Stays, at, effect_of}
use Rattle.laws_reopening.proofs.Standing.{IsFrom, IsTakenBy, fence_none, from_fence, named, none_or_some, taken_by, taking}

-- what holds of the one that is among them
pub all_of_one : {A : Type 0} (P : A → Type 0) (xs : List A) (a : A) → AllByRecursion P xs → IsOneOf xs a → P a
all_of_one P xs a all i = all_at P xs i.0 a all i.1

-- the message is no settle and no restore
abbrev pub IsPlain : Message → Type 0
IsPlain (Settle p number _ s) = ⊥
IsPlain (Restore v _ number sizes cells) = ⊥
IsPlain _ = Unit {0}

-- ---- what is sent

-- what holds of what is sent to each server holds of all of it
pub all_to_each : (P : Message → Type 0) (n : ℕ) (f : ℕ → List Message) → ((v : ℕ) → AllByRecursion P (f v)) → AllByRecursion P (to_each n f)
all_to_each P zero f all = tt
all_to_each P (suc n) f all = all_append P (to_each n f) (f n) (all_to_each P n f all) (all n)

-- fences are sent with the reopening's number
pub fences_are : (P : Message → Type 0) (base servers : ℕ) (lost : ℕ → Bool) (r : Reopening) → ((p : Party) → P (Fence p r.base)) → AllByRecursion P (sends (Reopen base servers lost) r)
fences_are P base servers lost r h = all_append P (fence_to r MapOwner) (to_each r.servers (λ v. fence_to r (Server v))) (one MapOwner) (all_to_each P r.servers (λ v. fence_to r (Server v)) (λ v. one (Server v)))
  where
    one : (p : Party) → AllByRecursion P (fence_to r p)
    one p = go (is_asked r p)
      where
        go : (b : Bool) → AllByRecursion P (if b then Fence p r.base ∷ [] else [])
        go true = (h p, tt)
        go false = tt

-- the messages once nothing was confirmed: what there was, and no settle and no restore more
pub plain_more : (Q : Message → Type 0) (x : Settling) (e : SettlingEvent) → ((m : Message) → IsPlain m → Q m) → SettlingFits x e → ConfirmsNone e → AllByRecursion Q x.messages → AllByRecursion Q (settling_comes x e).1.messages
plain_more Q x (Comes e) plain fits none all = go (is_taken x e)
  where
    go : (b : Bool) → AllByRecursion Q (if b then in_world x (world_comes x.world e) else (Quiet, x)).1.messages
    go true = all
    go false = all
plain_more Q x (Arrives k reached) plain fits none all = by_message (slice_get x.messages k)
  where
    push : (new : List Message) → AllByRecursion Q new → AllByRecursion Q (x.messages ++ new)
    push new h = all_append Q x.messages new all h

    by_fence : (p : Party) (number : ℕ) → AllByRecursion Q (fence_comes x p number reached).messages
    by_fence p number = go (is_fenced_at number (after_fence (x.bases p) number x.nonces))
      where
        go : (b : Bool) →
            AllByRecursion Q (if b then with_messages (record x { bases = put_party x.bases p (after_fence (x.bases p) number x.nonces); nonces = suc x.nonces })
            (Fenced p number (inventory_by x p (after_fence (x.bases p) number x.nonces).nonce reached) ∷ [])
            else (record x { bases = put_party x.bases p (after_fence (x.bases p) number x.nonces); nonces = suc x.nonces })).messages
        go true = push (Fenced p number (inventory_by x p (after_fence (x.bases p) number x.nonces).nonce reached) ∷ []) (plain (Fenced p number (inventory_by x p (after_fence (x.bases p) number x.nonces).nonce reached)) tt, tt)
        go false = all

    by_settle : (p : Party) (number : ℕ) (nonce : Option ℕ) (s : Settlement) → AllByRecursion Q (settle_comes x p number nonce s).messages
    by_settle p number asked s = go p (takes_settle number asked (x.bases p)) (is_settled_at number (x.bases p))
      where
        go : (p : Party) (a b : Bool) → AllByRecursion Q (if a then with_messages (part_taken x p number s) (Settled p number ∷ []) else if b then with_messages x (Settled p number ∷ []) else x).messages
        go (Server v) true b = push (Settled (Server v) number ∷ []) (plain (Settled (Server v) number) tt, tt)
        go MapOwner true b = push (Settled MapOwner number ∷ []) (plain (Settled MapOwner number) tt, tt)
        go p false true = push (Settled p number ∷ []) (plain (Settled p number) tt, tt)
        go p false false = all

    by_message : (o : Option Message) → AllByRecursion Q (arrives x reached o).messages
    by_message None = all
    by_message (Some (Fence p number)) = by_fence p number
    by_message (Some (Settle p number asked s)) = by_settle p number asked s
    by_message (Some (Restore v asked number sizes cells)) = go (names_nonce (x.bases (Server v)).nonce (Some asked))
      where
        go : (b : Bool) → AllByRecursion Q (if b then granted x v number sizes cells else x).messages
        go true = all
        go false = all
    by_message (Some (Fenced p number i)) = push [] tt
    by_message (Some (Settled p number)) = push [] tt
plain_more Q x (Forgets v) plain fits none all = all
plain_more Q x (Records (Reopen base servers lost)) plain fits none all =
    all_append Q x.messages (sends (Reopen base servers lost) (entered (Reopen base servers lost) x.reopening)) all (fences_are Q base servers lost (entered (Reopen base servers lost) x.reopening) (λ p. plain (Fence p base) tt))
plain_more Q x (Records (Confirm s)) plain fits none all = absurd none
plain_more Q x (Records (Told p number i)) plain fits none all = absurd fits
plain_more Q x (Records (Took p number)) plain fits none all = absurd fits

-- ---- a settlement is followed

-- a server that has its slots has what may become what was settled for it, and no order has an effect on it
pub record Follows (number since v : ℕ) (s : Settlement) (a : At) : Type 0 where
  pub from : IsFrom number since a.base
  pub keeps : a.base.nonce ≡ None → (k : ℕ) → Keeps (a.cells k) (s.place.cells k v)

-- a settle at or above this number brings this settlement, and one below is for an earlier nonce; a restore is, too
abbrev pub IsCurrent : ℕ → ℕ → Settlement → Message → Type 0
IsCurrent number since s (Settle (Server v) base nonce t) = (number ≤ base → t ≡ s) × (base < number → (n : ℕ) → nonce ≡ Some n → n < since)
IsCurrent number since s (Restore v nonce base sizes cells) = nonce < since
IsCurrent number since s _ = Unit {0}

current_plain : (number since : ℕ) (s : Settlement) (m : Message) → IsPlain m → IsCurrent number since s m
current_plain number since s (Fence p k) h = tt
current_plain number since s (Fenced p k i) h = tt
current_plain number since s (Settled p k) h = tt
current_plain number since s (Settle p k asked t) h = absurd h
current_plain number since s (Restore v asked k sizes cells) h = absurd h

-- all of it
pub record IsFollowed (low number since : ℕ) (s : Settlement) (asked : ℕ → Bool) (x : Settling) : Type 0 where
  pub sent : AllByRecursion (λ (o : Order). o.number ≤ low) x.world.net.sent
  pub made : since ≤ x.nonces
  pub messages : AllByRecursion (IsCurrent number since s) x.messages
  pub servers : (v : ℕ) → asked v ≡ true → Follows number since v s (at x v)

module _ (low number since : ℕ) (s : Settlement) (asked : ℕ → Bool) (high : low < number) (rests : (k v : ℕ) → Keeps (s.place.cells k v) (s.place.cells k v)) (x : Settling) (h : IsFollowed low number since s asked x) where
  -- a settle that is taken is of this settlement
  settle_is_last : (v base : ℕ) (nonce : Option ℕ) (t : Settlement) → IsCurrent number since s (Settle (Server v) base nonce t) → Follows number since v s (at x v) → IsTakenBy (x.bases (Server v)) base nonce → (number ≤ base) × (t ≡ s)
  settle_is_last v base asked t c f b = elim (none_or_some (x.bases (Server v)).nonce) [
    | inl e ↦ let l : number ≤ base = (let a = f.from.known e in let q = b.stands in omega arith) in (l, c.0 l)
    | inr n ↦ let l : number ≤ base = by_size n.0 n.1 in (l, c.0 l)
  ]
    where
      by_size : (n : ℕ) → (x.bases (Server v)).nonce ≡ Some n → number ≤ base
      by_size n e = elim (cases_lt base number) [
        | inl l ↦ absurd (let a = c.1 l n (b.meant ∙ e) in let q = f.from.unknown n e in omega arith)
        | inr l ↦ l
      ]

  follows_next : (nonces v : ℕ) (b : At) → Becomes x nonces v b → Follows number since v s (at x v) → Follows number since v s b
  follows_next nonces v b (Stays e) f = subst (Follows number since v s) (sym e) f
  follows_next nonces v b (Obeys o i t e) f = absurd (
      let q = taking (x.bases (Server v)) o.number t in
      let a = f.from.known q.known in
      let l = q.below in
      let z = all_of_one (λ (o : Order). o.number ≤ low) x.world.net.sent o h.sent i in
      omega arith
      )
  follows_next nonces v b (Heeds k i l e) f = subst (Follows number since v s) (sym e) (record {
    from = from_fence (x.bases (Server v)) number since k x.nonces h.made f.from;
    keeps = λ q. f.keeps (fence_none (x.bases (Server v)) k x.nonces q);
  })
  follows_next nonces v b (Settles base nonce t i q e) f =
      let last = settle_is_last v base nonce t (all_of_one (IsCurrent number since s) x.messages (Settle (Server v) base nonce t) h.messages i) f (taken_by (x.bases (Server v)) base nonce q) in
      subst (Follows number since v s) (sym e) (record {
        from = record { known = λ z. last.0; unknown = λ n z. absurd (cc) };
        keeps = λ z k. subst (λ (t : Settlement). Keeps (t.place.cells k v) (s.place.cells k v)) (sym last.1) (rests k v);
      })
  follows_next nonces v b (Recovers nonce base sizes cells i q e) f = absurd (
      let z = named (x.bases (Server v)).nonce (Some nonce) q in
      let a = f.from.unknown nonce (sym z) in
      let l = all_of_one (IsCurrent number since s) x.messages (Restore v nonce base sizes cells) h.messages i in
      omega arith
      )
  follows_next nonces v b (Loses l e) f = record {
    from = record {
      known = λ z. absurd (let y = ap (λ (b : Base). b.nonce) e in cc);
      unknown = λ n z. let y = h.made in let g = some_same x.nonces n (sym (ap (λ (b : Base). b.nonce) e) ∙ z) in omega arith;
    };
    keeps = λ z. absurd (let y = ap (λ (b : Base). b.nonce) e in cc);
  }

  followed_next : (e : SettlingEvent) → SettlingFits x e → ConfirmsNone e → IsFollowed low number since s asked (settling_comes x e).1
  followed_next e fits none =
      let f = effect_of x e in record {
        sent = subst (AllByRecursion (λ (o : Order). o.number ≤ low)) (sym f.sent) h.sent;
        made = (let a = f.nonces in let b = h.made in omega arith);
        messages = plain_more (IsCurrent number since s) x e (current_plain number since s) fits none h.messages;
        servers = λ v t. follows_next (settling_comes x e).1.nonces v (at (settling_comes x e).1 v) (f.servers v) (h.servers v t);
      }

-- it is followed along events
pub followed_run : (low number since : ℕ) (s : Settlement) (asked : ℕ → Bool) → low < number → ((k v : ℕ) → Keeps (s.place.cells k v) (s.place.cells k v)) → (es : List SettlingEvent) (x : Settling) →
    AllSettlingFit es x → AllByRecursion ConfirmsNone es → IsFollowed low number since s asked x → IsFollowed low number since s asked (settling_run es x)
followed_run low number since s asked high rests [] x fits none h = h
followed_run low number since s asked high rests (e ∷ es) x fits none h =
    followed_run low number since s asked high rests es (settling_comes x e).1 fits.1 none.1 (followed_next low number since s asked high rests x h e fits.0 none.0)
