-- Facts that hold of all parties and messages while a reopening is under way, and that what comes to one of them keeps it.
use Rattle.std.proofs.Common.{◌≡◌, ◌≢◌, ◌≤◌, ◌<◌, ℕ, suc, refl, sym, ap, ◌∙◌, inl, inr, subst, arith, not, Bool, true, false, Option, Some, None, List, [], ◌∷◌, ◌++◌}
use Rattle.std.specs.Prelude.{◌==◌, ◌&&◌, is_none, is_some, nat_lt, if◌then◌else◌}
use Rattle.std.specs.List.{AllByRecursion}
use Rattle.std.proofs.lemmas.Bool.{and_parts, cases_Bool, cases_eq, eq-eqb, eqb-true, ltb-true, ne_eqb, not-true}
use Rattle.sm_server.specs.declared.call.Cell.{Cell}
use Rattle.sm_server.specs.declared.call.Cell.TheVariants as cell
use Rattle.sm_placement.specs.Setup.{Setup, Sizes, sizes_of}
use Rattle.sm_placement.specs.Sums.{put}
use Rattle.sm_protocol.proofs.Courses.{some_same}
use Rattle.laws_network.specs.World.{Entry, World}
use Rattle.laws_network.specs.WorldLaws.{IsWorldReached}
use Rattle.laws_network.specs.Reopening.{Base, Fence, Fenced, Inventory, MapOwner, Message, Party, Reopening, Restore, Server, Settle, Settled, Settlement, Settling, Unknown, fence_comes, after_fence, forgets, unknown_base, granted, inventory_by, is_fenced_at, names_nonce, is_settled_at, part_taken, put_party, settle_comes, settled_base, takes_settle, with_column, with_messages}
use Rattle.laws_network.specs.ReopeningLaws.{IsSettleBelow}
use Rattle.laws_network.proofs.Lists.{all_append, all_map}
use Rattle.laws_network.proofs.Standing.{AreGood, Frame, HasMap, HasTold, IsLost, IsPromised, IsControllerHeld, IsGood, IsGoodRestore, IsGoodSettle, IsLive, IsOwnerHeld, IsServerHeld, IsTaken, IsTakenBy, IsToldBy, Last, Standing, addressee, controller_more, good_forgot, good_more, good_owner_raised, good_owner_settled, good_raised, good_restored, good_settled, is_live, map_some, more, owner_more, owner_raised, owner_settled, raised, server_forgot, server_more, server_raised, server_restored, server_settled, taken_by, took}

-- ---- what holds

-- a server, with its slots in the network's own world
abbrev pub standing : World → Settling → ℕ → Standing
standing w x v = record {
  base = x.bases (Server v);
  cells = λ s. x.world.net.cells s v;
  last = λ s. x.world.net.last s v;
  sizes = x.sizes v;
  was = λ s. w.net.cells s v;
  was_last = λ s. w.net.last s v;
}

-- what all that holds is seen from
abbrev pub frame : World → ℕ → ℕ → Option Last → Settling → Frame
frame w first since l x = record { w = w.net.w; base = w.net.base; sent = w.net.sent; r = x.reopening; first = first; since = since; nonces = x.nonces; last = l }

-- The map is as it was, until its owner takes a settle; and then it is fenced or shows what was settled last.
pub record IsShownHeld (w : World) (l : Option Last) (x : Settling) : Type 0 where
  pub first : l ≡ None → (s : ℕ) → x.world.shown s ≡ w.shown s
  pub last : (k : Last) → l ≡ Some k → (x.bases MapOwner).fenced ≡ false →
      ((s : ℕ) → x.world.shown s ≡ record { server = k.settlement.place.listed s; version = k.base }) × ((x.bases MapOwner).number ≡ k.base)

-- this world, but for slots and the map
abbrev pub IsOver : World → World → Type 0
IsOver x w = x ≡ record w { net = record w.net { cells = x.net.cells; last = x.net.last }; shown = x.shown }

pub record IsHeld (setup : Setup) (w : World) (first since : ℕ) (l : Option Last) (x : Settling) : Type 0 where
  pub reached : IsWorldReached setup w
  pub over : IsOver x.world w
  pub controller : IsControllerHeld (frame w first since l x)
  pub servers : (v : ℕ) → IsServerHeld (frame w first since l x) v (standing w x v)
  pub owner : IsOwnerHeld (frame w first since l x) (x.bases MapOwner)
  pub shown : IsShownHeld w l x
  pub messages : AreGood (frame w first since l x) (standing w x) (x.bases MapOwner) x.messages x.messages

-- ---- messages are added

abbrev pub IsNoSettle : Message → Type 0
IsNoSettle (Settle p number asked s) = ⊥
IsNoSettle _ = Unit {0}

no_settle_below : (v number : ℕ) (m : Message) → IsNoSettle m → IsSettleBelow v number m
no_settle_below v number (Settle p k asked s) h = absurd h
no_settle_below v number (Fence p k) h = tt
no_settle_below v number (Fenced p k i) h = tt
no_settle_below v number (Settled p k) h = tt
no_settle_below v number (Restore u asked k sizes cells) h = tt

-- more messages, none of which is a settle that its restore would have to be above
pub good_grown : (f : Frame) (y : Standing) (owner : Base) (ms new : List Message) (m : Message) →
    ((v nonce number : ℕ) → y.base.nonce ≡ Some nonce → addressee m ≡ v → nonce < f.first → AllByRecursion (IsSettleBelow v number) new) → IsGood f y owner ms m → IsGood f y owner (ms ++ new) m
good_grown f y owner ms new (Fence p k) all g = g
good_grown f y owner ms new (Fenced (Server u) k i) all g = g
good_grown f y owner ms new (Fenced MapOwner k i) all g = g
good_grown f y owner ms new (Settle p k asked s) all g = g
good_grown f y owner ms new (Settled p k) all g = g
good_grown f y owner ms new (Restore u asked k sizes cells) all g = record {
  made = g.made;
  waited = λ e. let w = g.waited e in record {
    cells_had = w.cells_had;
    sizes_had = w.sizes_had;
    loads = w.loads;
    number_had = w.number_had;
    lasts_had = w.lasts_had;
    settles = all_append (IsSettleBelow u k) ms new w.settles (all u asked k e refl g.made);
    along = w.along;
  };
  lost = g.lost;
}

module _ (setup : Setup) (w : World) (first since : ℕ) (l : Option Last) (x : Settling) where
  abbrev pub frame_of : Frame
  frame_of = frame w first since l x

  pub push : (new : List Message) → IsHeld setup w first since l x → AllByRecursion IsNoSettle new → AreGood frame_of (standing w x) (x.bases MapOwner) (x.messages ++ new) new →
      IsHeld setup w first since l (with_messages x new)
  push new h none good = record {
    reached = h.reached;
    over = h.over;
    controller = h.controller;
    servers = h.servers;
    owner = h.owner;
    shown = record { first = h.shown.first; last = h.shown.last };
    messages = all_append (λ m. IsGood frame_of (standing w x (addressee m)) (x.bases MapOwner) (x.messages ++ new) m) x.messages new
        (all_map (λ m. IsGood frame_of (standing w x (addressee m)) (x.bases MapOwner) x.messages m) (λ m. IsGood frame_of (standing w x (addressee m)) (x.bases MapOwner) (x.messages ++ new) m) x.messages
        (λ m g. good_grown frame_of (standing w x (addressee m)) (x.bases MapOwner) x.messages new m (λ v nonce number e a q. all_map IsNoSettle (IsSettleBelow v number) new (no_settle_below v number) none) g) h.messages)
        good;
  }

-- two things hold of each
pub all_both : {X : Type 0} (P Q : X → Type 0) (xs : List X) → AllByRecursion P xs → AllByRecursion Q xs → AllByRecursion (λ x. P x × Q x) xs
all_both P Q [] a b = tt
all_both P Q (x ∷ xs) a b = ((a.0, b.0), all_both P Q xs a.1 b.1)

pub all_of : {X : Type 0} (P : X → Type 0) (xs : List X) → ((x : X) → P x) → AllByRecursion P xs
all_of P [] f = tt
all_of P (x ∷ xs) f = (f x, all_of P xs f)

-- ---- something comes to one server

-- One server has another base and other slots, and more nonces were made.
module _ (setup : Setup) (w : World) (first since : ℕ) (l : Option Last) (x : Settling) (h : IsHeld setup w first since l x)
    (v : ℕ) (world : World) (bases : Party → Base) (sizes : ℕ → Sizes) (nonces : ℕ) (up : x.nonces ≤ nonces) where
  abbrev next : Settling
  next = record x { world = world; bases = bases; sizes = sizes; nonces = nonces }

  abbrev f : Frame
  f = frame w first since l x

  abbrev g : Frame
  g = frame w first since l next

  pub at_server : IsOver world w → ((u : ℕ) → u ≢ v → standing w next u ≡ standing w x u) → bases MapOwner ≡ x.bases MapOwner → world.shown ≡ x.world.shown →
      IsServerHeld g v (standing w next v) → (Extra : Message → Type 0) → AllByRecursion Extra x.messages →
      ((m : Message) → addressee m ≡ v → Extra m → IsGood f (standing w x v) (x.bases MapOwner) x.messages m → IsGood g (standing w next v) (x.bases MapOwner) x.messages m) →
      IsHeld setup w first since l next
  at_server over there owner shown here Extra extra good = record {
    reached = h.reached;
    over = over;
    controller = controller_more f nonces up h.controller;
    servers = λ u. elim (cases_eq u v) [
      | inl e ↦ subst (λ a. IsServerHeld g a (standing w next a)) (sym e) here
      | inr e ↦ subst (IsServerHeld g u) (sym (there u e)) (server_more f nonces u (standing w x u) up (h.servers u))
    ];
    owner = subst (IsOwnerHeld g) (sym owner) (owner_more f nonces (x.bases MapOwner) h.owner);
    shown = record {
      first = λ e s. ap (λ k. k s) shown ∙ h.shown.first e s;
      last = λ k e q. let z = h.shown.last k e (ap (λ (b : Base). b.fenced) (sym owner) ∙ q) in ((λ s. ap (λ k. k s) shown ∙ z.0 s), ap (λ (b : Base). b.number) owner ∙ z.1);
    };
    messages = all_map (λ m. Extra m × IsGood f (standing w x (addressee m)) (x.bases MapOwner) x.messages m) (λ m. IsGood g (standing w next (addressee m)) (bases MapOwner) x.messages m) x.messages
        (λ m q. subst (λ b. IsGood g (standing w next (addressee m)) b x.messages m) (sym owner) (elim (cases_eq (addressee m) v) [
          | inl e ↦ subst (λ a. IsGood g (standing w next a) (x.bases MapOwner) x.messages m) (sym e) (good m e q.0 (subst (λ a. IsGood f (standing w x a) (x.bases MapOwner) x.messages m) e q.1))
          | inr e ↦ subst (λ y. IsGood g y (x.bases MapOwner) x.messages m) (sym (there (addressee m) e)) (good_more f nonces (standing w x (addressee m)) (x.bases MapOwner) x.messages m up q.1)
        ])) (all_both Extra (λ m. IsGood f (standing w x (addressee m)) (x.bases MapOwner) x.messages m) x.messages extra h.messages);
  }

-- ---- and to the map's owner

module _ (setup : Setup) (w : World) (first since : ℕ) (l : Option Last) (x : Settling) (h : IsHeld setup w first since l x)
    (shown : ℕ → Entry) (base : Base) (nonces : ℕ) (up : x.nonces ≤ nonces) where
  abbrev owned : Settling
  owned = record x { world = record x.world { shown = shown }; bases = put_party x.bases MapOwner base; nonces = nonces }

  abbrev fo : Frame
  fo = frame w first since l x

  abbrev go : Frame
  go = frame w first since l owned

  pub at_owner : IsOwnerHeld go base → IsShownHeld w l owned → ((y : Standing) (m : Message) → IsGood fo y (x.bases MapOwner) x.messages m → IsGood go y base x.messages m) →
      IsHeld setup w first since l owned
  at_owner here still good = record {
    reached = h.reached;
    over = ap (λ (z : World). let a : World = record z { shown = shown } in a) h.over;
    controller = controller_more fo nonces up h.controller;
    servers = λ u. server_more fo nonces u (standing w x u) up (h.servers u);
    owner = here;
    shown = still;
    messages = all_map (λ m. IsGood fo (standing w x (addressee m)) (x.bases MapOwner) x.messages m) (λ m. IsGood go (standing w x (addressee m)) base x.messages m) x.messages
        (λ m. good (standing w x (addressee m)) m) h.messages;
  }

-- ---- a server forgets

abbrev Any : Message → Type 0
Any m = Unit {0}

module _ (setup : Setup) (w : World) (first since : ℕ) (l : Option Last) (x : Settling) (h : IsHeld setup w first since l x) where
  abbrev fs : Frame
  fs = frame w first since l x

  over_column : (v : ℕ) (cells : ℕ → Cell) (last : ℕ → ℕ → ℕ) → IsOver (record (with_column x v cells) { net = record (with_column x v cells).net { last = last } }) w
  over_column v cells last = ap (λ (z : World). let a : World = record z { net = record z.net { cells = (with_column x v cells).net.cells; last = last } } in a) h.over

  abbrev picked_forgets : ℕ → Bool → Standing
  picked_forgets u b = record {
    base = if b then unknown_base x.nonces else x.bases (Server u);
    cells = λ s. if b then cell.Absent else x.world.net.cells s u;
    last = λ s. if b then 0 else x.world.net.last s u;
    sizes = x.sizes u;
    was = λ s. w.net.cells s u;
    was_last = λ s. w.net.last s u;
  }

  -- what holds does so once a server forgets
  pub forgets_held : (v : ℕ) → IsHeld setup w first since l (forgets x v)
  forgets_held v = at_server setup w first since l x h v (forgets x v).world (forgets x v).bases x.sizes (suc x.nonces) (omega arith)
      (over_column v (λ s. cell.Absent) (λ s u. if u == v then 0 else x.world.net.last s u))
      (λ u n. ap (picked_forgets u) (ne_eqb u v n)) refl refl
      (subst (IsServerHeld (more fs) v) (sym there) (server_forgot fs h.controller v (standing w x v) (h.servers v)))
      Any (all_of Any x.messages (λ m. tt)) (λ m a b q. subst (λ y. IsGood (more fs) y (x.bases MapOwner) x.messages m) (sym there) (good_forgot fs (standing w x v) (x.bases MapOwner) x.messages h.controller m q))
    where
      there : standing w (forgets x v) v ≡ picked_forgets v true
      there = ap (picked_forgets v) (eq-eqb v v refl)

  -- ---- a fence comes

  abbrev picked_fence : Base → ℕ → Bool → Standing
  picked_fence base u b = record {
    base = if b then base else x.bases (Server u);
    cells = λ s. x.world.net.cells s u;
    last = λ s. x.world.net.last s u;
    sizes = x.sizes u;
    was = λ s. w.net.cells s u;
    was_last = λ s. w.net.last s u;
  }

  -- a party's base is put as it was, and one more nonce is made
  abbrev fence_put : Party → Base → Settling
  fence_put p base = record x { bases = put_party x.bases p base; nonces = suc x.nonces }

  -- a server takes it
  server_takes : (v number : ℕ) → number ≤ x.reopening.base → (x.bases (Server v)).number < number → IsHeld setup w first since l (fence_put (Server v) (raised fs (x.bases (Server v)) number))
  server_takes v number below above = at_server setup w first since l x h v x.world (put_party x.bases (Server v) b) x.sizes (suc x.nonces) (omega arith)
      h.over (λ u n. ap (picked_fence b u) (ne_eqb u v n)) refl refl
      (subst (IsServerHeld (more fs) v) (sym there) (server_raised fs v (standing w x v) number h.controller below above (h.servers v)))
      Any (all_of Any x.messages (λ m. tt)) (λ m a b q. subst (λ y. IsGood (more fs) y (x.bases MapOwner) x.messages m) (sym there) (good_raised fs v (standing w x v) (x.bases MapOwner) x.messages number h.controller below above m a q))
    where
      b : Base
      b = raised fs (x.bases (Server v)) number

      there : standing w (fence_put (Server v) b) v ≡ picked_fence b v true
      there = ap (picked_fence b v) (eq-eqb v v refl)

  owner_takes : (number : ℕ) → number ≤ x.reopening.base → (x.bases MapOwner).number < number → IsHeld setup w first since l (fence_put MapOwner (raised fs (x.bases MapOwner) number))
  owner_takes number below above = at_owner setup w first since l x h x.world.shown (raised fs (x.bases MapOwner) number) (suc x.nonces) (omega arith)
      (owner_raised fs (x.bases MapOwner) number h.controller below above h.owner)
      (record { first = h.shown.first; last = λ k e q. absurd (cc) })
      (λ y m q. good_owner_raised fs y (x.bases MapOwner) x.messages number h.controller below above m q)

  -- what it has already taken, or is too old for it, changes nothing but the nonces
  stays : (p : Party) → IsHeld setup w first since l (fence_put p (x.bases p))
  stays (Server v) = at_server setup w first since l x h v x.world (put_party x.bases (Server v) (x.bases (Server v))) x.sizes (suc x.nonces) (omega arith)
      h.over (λ u n. ap (picked_fence (x.bases (Server v)) u) (ne_eqb u v n)) refl refl
      (subst (IsServerHeld (more fs) v) (sym there) (server_more fs (suc x.nonces) v (standing w x v) (omega arith) (h.servers v)))
      Any (all_of Any x.messages (λ m. tt)) (λ m a b q. subst (λ y. IsGood (more fs) y (x.bases MapOwner) x.messages m) (sym there) (good_more fs (suc x.nonces) (standing w x v) (x.bases MapOwner) x.messages m (omega arith) q))
    where
      there : standing w (fence_put (Server v) (x.bases (Server v))) v ≡ picked_fence (x.bases (Server v)) v true
      there = ap (picked_fence (x.bases (Server v)) v) (eq-eqb v v refl)
  stays MapOwner = at_owner setup w first since l x h x.world.shown (x.bases MapOwner) (suc x.nonces) (omega arith)
      (owner_more fs (suc x.nonces) (x.bases MapOwner) h.owner)
      (record { first = h.shown.first; last = h.shown.last })
      (λ y m q. good_more fs (suc x.nonces) y (x.bases MapOwner) x.messages m (omega arith) q)

  -- what the party tells is what it has
  told_here : (v number : ℕ) (reached : ℕ → Bool) (b : Base) → b.number ≡ number → b.fenced ≡ true → ((n : ℕ) → number ≡ x.reopening.base → b.nonce ≡ Some n → since ≤ n) → number ≡ x.reopening.base →
      IsToldBy x.reopening.base since b (HasTold (λ s. x.world.net.cells s v) (inventory_by x (Server v) b.nonce reached))
  told_here v number reached b at frozen fresh e = record {
    still = λ q. (at ∙ e, frozen, subst (λ o. HasTold (λ s. x.world.net.cells s v) (inventory_by x (Server v) o reached)) (sym q) (λ s. refl));
    fresh = λ n q. fresh n e q;
  }

  told_there : (number : ℕ) (reached : ℕ → Bool) (b : Base) → b.number ≡ number → b.fenced ≡ true → ((n : ℕ) → number ≡ x.reopening.base → b.nonce ≡ Some n → since ≤ n) → number ≡ x.reopening.base →
      IsToldBy x.reopening.base since b (HasMap (inventory_by x MapOwner b.nonce reached))
  told_there number reached b at frozen fresh e = record { still = λ q. (at ∙ e, frozen, tt); fresh = λ n q. fresh n e q }

  module _ (number : ℕ) (reached : ℕ → Bool) (below : number ≤ x.reopening.base) where
    abbrev answer_to : Party → Base → List Message
    answer_to p b = Fenced p number (inventory_by x p b.nonce reached) ∷ []

    -- the nonce that it tells was made
    made_in : (p : Party) (b : Base) → IsHeld setup w first since l (fence_put p b) → (n : ℕ) → inventory_by x p b.nonce reached ≡ Unknown n → n < suc x.nonces
    made_in (Server v) b k n e = go b.nonce refl e
      where
        go : (o : Option ℕ) → b.nonce ≡ o → inventory_by x (Server v) o reached ≡ Unknown n → n < suc x.nonces
        go None q e = absurd (cc)
        go (Some m) q e = (k.servers v).made n (ap (λ t. (if t then b else x.bases (Server v)).nonce) (eq-eqb v v refl) ∙ q ∙ ap Some (cc))
    made_in MapOwner b k n e = absurd (cc)

    -- it answers, if it stands there now
    answers : (p : Party) (b : Base) → IsHeld setup w first since l (fence_put p b) → (is_fenced_at number b ≡ true → (n : ℕ) → number ≡ x.reopening.base → b.nonce ≡ Some n → since ≤ n) → (t : Bool) → is_fenced_at number b ≡ t →
        IsHeld setup w first since l (if t then with_messages (fence_put p b) (answer_to p b) else fence_put p b)
    answers p b k fresh false e = k
    answers (Server v) b k fresh true e =
        let q = and_parts b.fenced (b.number == number) e in
        push setup w first since l (fence_put (Server v) b) (answer_to (Server v) b) k (tt, tt) (
          (
            below,
            (λ z n e. made_in (Server v) b k n e),
            λ u z. subst (λ a. IsToldBy x.reopening.base since a (HasTold (λ s. x.world.net.cells s v) (inventory_by x (Server v) b.nonce reached)))
                (sym (ap (λ t. if t then b else x.bases (Server v)) (eq-eqb v v refl))) (told_here v number reached b (eqb-true b.number number q.1) q.0 (fresh e) z),
          ),
          tt,
        )
    answers MapOwner b k fresh true e =
        let q = and_parts b.fenced (b.number == number) e in
        push setup w first since l (fence_put MapOwner b) (answer_to MapOwner b) k (tt, tt)
        ((below, (λ z n e. made_in MapOwner b k n e), λ u z. told_there number reached b (eqb-true b.number number q.1) q.0 (fresh e) z), tt)

    fresh_raised : (p : Party) (n : ℕ) → number ≡ x.reopening.base → (raised fs (x.bases p) number).nonce ≡ Some n → since ≤ n
    fresh_raised p n e q = let z = (map_some x.nonces n (x.bases p).nonce q).0 in let k = h.controller.nonces in omega arith

    takes_it : (p : Party) → (x.bases p).number < number → IsHeld setup w first since l (fence_put p (raised fs (x.bases p) number))
    takes_it (Server v) above = server_takes v number below above
    takes_it MapOwner above = owner_takes number below above

    fresh_here : (p : Party) (n : ℕ) → (x.bases p).number ≡ number → number ≡ x.reopening.base → (x.bases p).nonce ≡ Some n → since ≤ n
    fresh_here (Server v) n a e q = (h.servers v).fresh n q (a ∙ e)
    fresh_here MapOwner n a e q = absurd (let z = h.owner.known in cc)

    -- and once a fence comes
    pub fence_held : (p : Party) → IsHeld setup w first since l (fence_comes x p number reached)
    fence_held p = go (nat_lt (x.bases p).number number) refl
      where
        go : (t : Bool) → nat_lt (x.bases p).number number ≡ t → IsHeld setup w first since l (fence_comes x p number reached)
        go true e =
            let b : Base = after_fence (x.bases p) number x.nonces in
            let is : b ≡ raised fs (x.bases p) number = ap (λ t. if t then raised fs (x.bases p) number else x.bases p) e in
            answers p b (subst (λ a. IsHeld setup w first since l (fence_put p a)) (sym is) (takes_it p (ltb-true _ _ e)))
            (λ w n q z. fresh_raised p n q (ap (λ (a : Base). a.nonce) (sym is) ∙ z)) (is_fenced_at number b) refl
        go false e =
            let b : Base = after_fence (x.bases p) number x.nonces in
            let is : b ≡ x.bases p = ap (λ t. if t then raised fs (x.bases p) number else x.bases p) e in
            answers p b (subst (λ a. IsHeld setup w first since l (fence_put p a)) (sym is) (stays p))
            (λ q n u z. fresh_here p n (ap (λ (a : Base). a.number) (sym is) ∙ eqb-true b.number number (and_parts b.fenced (b.number == number) q).1) u (ap (λ (a : Base). a.nonce) (sym is) ∙ z))
            (is_fenced_at number b) refl

  -- ---- a settle comes

  abbrev picked_given : ℕ → Sizes → (ℕ → Cell) → ℕ → Bool → Standing
  picked_given number sizes cells u b = record {
    base = if b then settled_base number else x.bases (Server u);
    cells = λ s. if b then cells s else x.world.net.cells s u;
    last = λ s. x.world.net.last s u;
    sizes = if b then sizes else x.sizes u;
    was = λ s. w.net.cells s u;
    was_last = λ s. w.net.last s u;
  }

  given_there : (v number : ℕ) (sizes : Sizes) (cells : ℕ → Cell) → standing w (granted x v number sizes cells) v ≡ picked_given number sizes cells v true
  given_there v number sizes cells = ap (picked_given number sizes cells v) (eq-eqb v v refl)

  given_else : (v number : ℕ) (sizes : Sizes) (cells : ℕ → Cell) (u : ℕ) → u ≢ v → standing w (granted x v number sizes cells) u ≡ standing w x u
  given_else v number sizes cells u n = ap (picked_given number sizes cells u) (ne_eqb u v n)

  over_given : (v : ℕ) (cells : ℕ → Cell) → IsOver (with_column x v cells) w
  over_given v cells = over_column v cells x.world.net.last

  module _ (p : Party) (number : ℕ) (nonce : Option ℕ) (s : Settlement) where
    abbrev answered : List Message
    answered = Settled p number ∷ []

    -- who was settled there has taken it
    confirmed_there : (b : Base) → IsGoodSettle fs p b number nonce s → number ≡ x.reopening.base → is_some x.reopening.settlement ≡ true
    confirmed_there b g e = elim (cases_Bool (is_some x.reopening.settlement)) [ inl y ↦ y | inr n ↦ absurd (let z = g.before (none_is x.reopening.settlement n) in omega arith) ]
      where
        none_is : (o : Option Settlement) → is_some o ≡ false → o ≡ None
        none_is None e = refl
        none_is (Some x) e = absurd (cc)

  -- a server takes it
  server_settles : (v number : ℕ) (nonce : Option ℕ) (s : Settlement) → IsGoodSettle fs (Server v) (x.bases (Server v)) number nonce s → IsTakenBy (x.bases (Server v)) number nonce →
      IsHeld setup w first since l (part_taken x (Server v) number s)
  server_settles v number nonce s g t = at_server setup w first since l x h v (with_column x v (λ k. s.place.cells k v)) (put_party x.bases (Server v) (settled_base number)) (put x.sizes v (sizes_of s.setup)) x.nonces (omega arith)
      (over_given v (λ k. s.place.cells k v)) (given_else v number (sizes_of s.setup) (λ k. s.place.cells k v)) refl refl
      (subst (IsServerHeld fs v) (sym there) (server_settled fs v (standing w x v) number nonce s h.controller g t (h.servers v)))
      Any (all_of Any x.messages (λ m. tt)) (λ m a b q. subst (λ y. IsGood fs y (x.bases MapOwner) x.messages m) (sym there) (good_settled fs v (standing w x v) (x.bases MapOwner) x.messages number nonce s h.controller g t m a q))
    where
      there : standing w (part_taken x (Server v) number s) v ≡ picked_given number (sizes_of s.setup) (λ k. s.place.cells k v) v true
      there = given_there v number (sizes_of s.setup) (λ k. s.place.cells k v)

  owner_settles : (number : ℕ) (nonce : Option ℕ) (s : Settlement) → IsGoodSettle fs MapOwner (x.bases MapOwner) number nonce s → IsTakenBy (x.bases MapOwner) number nonce →
      IsHeld setup w first since l (part_taken x MapOwner number s)
  owner_settles number nonce s g t = at_owner setup w first since l x h (λ k. record { server = s.place.listed k; version = number }) (settled_base number) x.nonces (omega arith)
      (owner_settled fs (standing w x 0) (x.bases MapOwner) x.messages number nonce s h.controller g t h.owner)
      (record {
        first = λ e q. absurd (let z = live.is in cc);
        last = λ k e q.
            let is : live.last ≡ k = some_same live.last k (sym live.is ∙ e) in (
              (λ a. ap (λ (y : Settlement). let z : Entry = record { server = y.place.listed a; version = number } in z) (live.settlement ∙ ap (λ (y : Last). y.settlement) is)
                  ∙ ap (λ n. let z : Entry = record { server = k.settlement.place.listed a; version = n } in z) (live.base ∙ ap (λ (y : Last). y.base) is)),
              live.base ∙ ap (λ (y : Last). y.base) is,
            );
      })
      (λ y m q. good_owner_settled fs y (x.bases MapOwner) x.messages number nonce s h.controller g t m q)
    where
      live : IsLive fs MapOwner number s
      live = is_live fs MapOwner (x.bases MapOwner) number nonce s g t

  -- who takes it, or was settled there, answers
  pub settle_held : (p : Party) (number : ℕ) (nonce : Option ℕ) (s : Settlement) → IsGoodSettle fs p (x.bases p) number nonce s → IsHeld setup w first since l (settle_comes x p number nonce s)
  settle_held p number nonce s g = by_taking (takes_settle number nonce (x.bases p)) refl
    where
      take : (q : Party) → IsGoodSettle fs q (x.bases q) number nonce s → IsTakenBy (x.bases q) number nonce → IsHeld setup w first since l (with_messages (part_taken x q number s) (Settled q number ∷ []))
      take (Server v) g t = push setup w first since l (part_taken x (Server v) number s) (Settled (Server v) number ∷ []) (server_settles v number nonce s g t) (tt, tt) (
        (
          g.below,
          λ e. subst (IsTaken l x.reopening (Server v)) (ap (λ b. if b then settled_base number else x.bases (Server v)) (sym (eq-eqb v v refl)))
              (took fs (Server v) (x.bases (Server v)) number nonce s h.controller g t (confirmed_there (Server v) number nonce s (x.bases (Server v)) g e) e),
        ),
        tt,
      )
      take MapOwner g t = push setup w first since l (part_taken x MapOwner number s) (Settled MapOwner number ∷ []) (owner_settles number nonce s g t) (tt, tt)
          ((g.below, λ e. took fs MapOwner (x.bases MapOwner) number nonce s h.controller g t (confirmed_there MapOwner number nonce s (x.bases MapOwner) g e) e), tt)

      asks_none : {A : Type 0} (b : Base) (n : ℕ) → is_settled_at number b ≡ true → b.nonce ≡ Some n → A
      asks_none b n e q = absurd (
          let p = and_parts (b.number == number) (not b.fenced && is_none b.nonce) e in
          let z = (and_parts (not b.fenced) (is_none b.nonce) p.1).1 in
          let y : is_none b.nonce ≡ false = ap is_none q in
          cc
          )

      again : (q : Party) → IsGoodSettle fs q (x.bases q) number nonce s → is_settled_at number (x.bases q) ≡ true → IsGood fs (standing w x (addressee (Settled q number))) (x.bases MapOwner) (x.messages ++ Settled q number ∷ []) (Settled q number)
      again (Server v) g e = (g.below, λ z. record { asks = λ k n a b. asks_none (x.bases (Server v)) n e b; confirmed = confirmed_there (Server v) number nonce s (x.bases (Server v)) g z; promised = g.promised z; at = λ o. at_there (x.bases (Server v)) e z })
        where
          at_there : (b : Base) → is_settled_at number b ≡ true → number ≡ x.reopening.base → (b.fenced ≡ false) × (b.number ≡ x.reopening.base)
          at_there b e z = let q = and_parts (b.number == number) (not b.fenced && is_none b.nonce) e in (not-true b.fenced (and_parts (not b.fenced) (is_none b.nonce) q.1).0, eqb-true b.number number q.0 ∙ z)
      again MapOwner g e = (g.below, λ z. record { asks = λ k n a b. asks_none (x.bases MapOwner) n e b; confirmed = confirmed_there MapOwner number nonce s (x.bases MapOwner) g z; promised = tt; at = λ o. at_there (x.bases MapOwner) e z })
        where
          at_there : (b : Base) → is_settled_at number b ≡ true → number ≡ x.reopening.base → (b.fenced ≡ false) × (b.number ≡ x.reopening.base)
          at_there b e z = let q = and_parts (b.number == number) (not b.fenced && is_none b.nonce) e in (not-true b.fenced (and_parts (not b.fenced) (is_none b.nonce) q.1).0, eqb-true b.number number q.0 ∙ z)

      by_again : (t : Bool) → is_settled_at number (x.bases p) ≡ t → IsHeld setup w first since l (if t then with_messages x (Settled p number ∷ []) else x)
      by_again true e = push setup w first since l x (Settled p number ∷ []) h (tt, tt) (again p g e, tt)
      by_again false e = h

      by_taking : (t : Bool) → takes_settle number nonce (x.bases p) ≡ t →
          IsHeld setup w first since l (if t then with_messages (part_taken x p number s) (Settled p number ∷ []) else if is_settled_at number (x.bases p) then with_messages x (Settled p number ∷ []) else x)
      by_taking true e = take p g (taken_by (x.bases p) number nonce e)
      by_taking false e = by_again (is_settled_at number (x.bases p)) refl

  -- ---- a restore comes

  asks_under : (nonce : ℕ) (o : Option ℕ) → names_nonce o (Some nonce) ≡ true → o ≡ Some nonce
  asks_under nonce None e = absurd (cc)
  asks_under nonce (Some n) e = ap Some (eqb-true n nonce e)

  -- and once a restore comes
  pub restore_held : (v nonce number : ℕ) (sizes : Sizes) (cells : ℕ → Cell) → IsGoodRestore fs v (standing w x v) x.messages nonce number sizes cells →
      IsHeld setup w first since l (if names_nonce (x.bases (Server v)).nonce (Some nonce) then granted x v number sizes cells else x)
  restore_held v nonce number sizes cells g = by_meaning (names_nonce (x.bases (Server v)).nonce (Some nonce)) refl
    where
      there : standing w (granted x v number sizes cells) v ≡ picked_given number sizes cells v true
      there = given_there v number sizes cells

      restored : (x.bases (Server v)).nonce ≡ Some nonce → IsHeld setup w first since l (granted x v number sizes cells)
      restored e = at_server setup w first since l x h v (with_column x v cells) (put_party x.bases (Server v) (settled_base number)) (put x.sizes v sizes) x.nonces (omega arith)
          (over_given v cells) (given_else v number sizes cells) refl refl
          (subst (IsServerHeld fs v) (sym there) (server_restored fs v (standing w x v) x.messages nonce number sizes cells h.controller g (h.servers v) e))
          (IsSettleBelow v number) (g.waited e).settles
          (λ m a b q. subst (λ y. IsGood fs y (x.bases MapOwner) x.messages m) (sym there) (good_restored fs v (standing w x v) (x.bases MapOwner) x.messages nonce number sizes cells h.controller g (h.servers v) e m a b q))

      by_meaning : (t : Bool) → names_nonce (x.bases (Server v)).nonce (Some nonce) ≡ t → IsHeld setup w first since l (if t then granted x v number sizes cells else x)
      by_meaning true e = restored (asks_under nonce (x.bases (Server v)).nonce e)
      by_meaning false e = h

-- ---- the controller records an answer

module _ (setup : Setup) (w : World) (first since : ℕ) (l : Option Last) (x : Settling) (h : IsHeld setup w first since l x) (told : Party → Option Inventory) (settled : Party → Bool) where
  abbrev r_noted : Reopening
  r_noted = record x.reopening { told = told; settled = settled }

  abbrev noted : Settling
  noted = record x { reopening = r_noted; messages = x.messages ++ [] }

  abbrev fn : Frame
  fn = frame w first since l x

  abbrev gn : Frame
  gn = record fn { r = r_noted }

  taken_noted : (p : Party) (b : Base) → IsTaken l x.reopening p b → IsTaken l r_noted p b
  taken_noted (Server v) b t = record { asks = t.asks; confirmed = t.confirmed; promised = t.promised; at = t.at }
  taken_noted MapOwner b t = record { asks = t.asks; confirmed = t.confirmed; promised = t.promised; at = t.at }

  live_noted : (p : Party) (number : ℕ) (s : Settlement) → IsLive fn p number s → IsLive gn p number s
  live_noted (Server v) number s i = record { last = i.last; is = i.is; base = i.base; settlement = i.settlement; promised = i.promised }
  live_noted MapOwner number s i = record { last = i.last; is = i.is; base = i.base; settlement = i.settlement; promised = i.promised }

  settle_noted : (p : Party) (b : Base) (number : ℕ) (nonce : Option ℕ) (s : Settlement) → (IsPromised x.reopening p → IsPromised r_noted p) → (IsLost r_noted p → IsLost x.reopening p) → IsGoodSettle fn p b number nonce s → IsGoodSettle gn p b number nonce s
  settle_noted p b number asked s up down g = record {
    below = g.below;
    before = g.before;
    made = g.made;
    early = g.early;
    last = g.last;
    closed = g.closed;
    state = elim g.state [ inl d ↦ inl d | inr i ↦ inr (live_noted p number s i) ];
    promised = λ e. up (g.promised e);
    lost = λ e. g.lost (down e);
  }

  good_noted : (y : Standing) (owner : Base) (m : Message) → IsGood fn y owner x.messages m → IsGood gn y owner x.messages m
  good_noted y owner (Fence p k) g = g
  good_noted y owner (Fenced (Server u) k i) g = g
  good_noted y owner (Fenced MapOwner k i) g = g
  good_noted y owner (Settle (Server u) k asked s) g = settle_noted (Server u) y.base k asked s (λ e. e) (λ e. e) g
  good_noted y owner (Settle MapOwner k asked s) g = settle_noted MapOwner owner k asked s (λ e. e) (λ e. e) g
  good_noted y owner (Settled (Server u) k) g = (g.0, λ e. taken_noted (Server u) y.base (g.1 e))
  good_noted y owner (Settled MapOwner k) g = (g.0, λ e. taken_noted MapOwner owner (g.1 e))
  good_noted y owner (Restore u asked k sizes cells) g = record {
    made = g.made;
    waited = λ e. let z = g.waited e in record { cells_had = z.cells_had; sizes_had = z.sizes_had; loads = z.loads; number_had = z.number_had; lasts_had = z.lasts_had; settles = z.settles; along = z.along };
    lost = g.lost;
  }

  -- what holds does so with other answers, if they are true
  pub noted_held : IsControllerHeld gn → ((v : ℕ) → x.reopening.settlement ≡ None → (i : Inventory) → told (Server v) ≡ Some i → IsToldBy x.reopening.base since (x.bases (Server v)) (HasTold (λ s. x.world.net.cells s v) i)) →
      (x.reopening.settlement ≡ None → (i : Inventory) → told MapOwner ≡ Some i → IsToldBy x.reopening.base since (x.bases MapOwner) (HasMap i)) →
      ((p : Party) → settled p ≡ true → IsTaken l x.reopening p (x.bases p)) → IsHeld setup w first since l noted
  noted_held controller told_here told_there taken = record {
    reached = h.reached;
    over = h.over;
    controller = controller;
    servers = λ v. let z = h.servers v in record {
      number = z.number;
      made = z.made;
      fresh = z.fresh;
      lasts = z.lasts;
      blank = z.blank;
      untouched = λ p e. let u = z.untouched p e in record { cells = u.cells; lasts = u.lasts; sizes = u.sizes; loads = u.loads; along = u.along };
      touched = λ p. let t = z.touched p in record { above = t.above; loads = t.loads; sizes = t.sizes; nonce = t.nonce; server = t.server; confirmed = t.confirmed };
      told = told_here v;
      partly = z.partly;
      taken = λ e. taken_noted (Server v) (x.bases (Server v)) (taken (Server v) e);
      lost = z.lost;
    };
    owner = record { number = h.owner.number; known = h.owner.known; told = told_there; taken = λ e. taken_noted MapOwner (x.bases MapOwner) (taken MapOwner e) };
    shown = record { first = h.shown.first; last = h.shown.last };
    messages = all_append (λ m. IsGood gn (standing w x (addressee m)) (x.bases MapOwner) (x.messages ++ []) m) x.messages []
        (all_map (λ m. IsGood fn (standing w x (addressee m)) (x.bases MapOwner) x.messages m) (λ m. IsGood gn (standing w x (addressee m)) (x.bases MapOwner) (x.messages ++ []) m) x.messages
        (λ m q. good_grown gn (standing w x (addressee m)) (x.bases MapOwner) x.messages [] m (λ v nonce number e a z. tt) (good_noted (standing w x (addressee m)) (x.bases MapOwner) m q)) h.messages)
        tt;
  }
