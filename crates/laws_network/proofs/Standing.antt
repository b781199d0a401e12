-- Facts that hold of each party while a reopening is under way, and that whatever comes to it keeps it.
use Rattle.std.proofs.Common.{◌≡◌, ◌≢◌, ◌≤◌, ◌<◌, ◌⊎◌, ℕ, suc, ◌+◌, ◌*◌, refl, sym, ap, ◌∙◌, inl, inr, subst, arith, true, false, Option, Some, None, List, length}
use Rattle.std.specs.Prelude.{◌==◌, is_some, option_map}
use Rattle.std.specs.List.{AllByRecursion}
use Rattle.std.proofs.lemmas.Bool.{and_parts, cases_lt, eqb-true}
use Rattle.sm_server.specs.declared.call.Cell.{Cell}
use Rattle.sm_server.specs.declared.call.Cell.TheVariants as cell
use Rattle.sm_placement.specs.Setup.{Sizes, sizes_of}
use Rattle.sm_protocol.specs.Laws.{MOST_PLACES}
use Rattle.sm_protocol.proofs.Courses.{some_same}
use Rattle.laws_network.specs.Words.{IsOpening, State}
use Rattle.laws_network.specs.Net.{Order}
use Rattle.laws_network.specs.Reopening.{Base, Entries, Fence, Fenced, Inventory, MapOwner, Message, Party, Reopening, Restore, Server, Settle, Settled, Settlement, Slots, Unknown, unknown_base, is_fenced_at, names_nonce, settled_base, takes_settle}
use Rattle.laws_network.specs.ReopeningLaws.{IsSettleBelow, IsWithinRoom, IsOutdated}

-- ---- what is known

-- what was confirmed last
pub record Last : Type 0 where
  pub base : ℕ
  pub settlement : Settlement
  -- how many nonces were made then
  pub nonces : ℕ

-- The parts from which all that holds is seen: what is recorded of the epoch before, with its base and orders; the reopening; how many nonces were made
-- before the first reopening, before this one, and so far; and what was confirmed last.
pub record Frame : Type 0 where
  pub w : State
  pub base : ℕ
  pub sent : List Order
  pub r : Reopening
  pub first : ℕ
  pub since : ℕ
  pub nonces : ℕ
  pub last : Option Last

-- A server: its base, slots and sizes, and the slots that it has in the network's own world.
pub record Standing : Type 0 where
  pub base : Base
  pub cells : ℕ → Cell
  pub last : ℕ → ℕ
  pub sizes : Sizes
  pub was : ℕ → Cell
  pub was_last : ℕ → ℕ

-- a number that is above all of the epoch before
abbrev pub IsBeyond : Frame → ℕ → Type 0
IsBeyond f number = f.base + 2 * MOST_PLACES ≤ number

-- a server that was sent no settle has what was settled nonetheless, and no order has an effect on it
pub record IsAlong (w : State) (v : ℕ) (l : Last) (cells : ℕ → Cell) : Type 0 where
  pub same : (s : ℕ) → cells s ≡ l.settlement.place.cells s v
  pub out : (w.place.down v ≡ true) ⊎ (w.sizes.servers ≤ v)
  pub down : v < length l.settlement.setup.servers → l.settlement.place.down v ≡ true

-- two last numbers are the same for all orders above this base
abbrev pub IsAsHigh : ℕ → ℕ → ℕ → Type 0
IsAsHigh number last was = (last ≡ was) ⊎ ((last ≤ number) × (was ≤ number))

-- a server that was sent no settle has its old slots
pub record IsUntouched (f : Frame) (v : ℕ) (y : Standing) : Type 0 where
  pub cells : (s : ℕ) → y.cells s ≡ y.was s
  pub lasts : (s : ℕ) → IsAsHigh y.base.number (y.last s) (y.was_last s)
  pub sizes : f.w.place.down v ≡ false → v < f.w.sizes.servers → y.sizes ≡ f.w.sizes
  pub loads : IsWithinRoom y.sizes (λ s u. y.cells s) v
  pub along : (l : Last) → f.last ≡ Some l → IsAlong f.w v l y.cells

-- one that was sent one stands above all orders
pub record IsTouched (f : Frame) (v : ℕ) (y : Standing) : Type 0 where
  pub above : y.base.nonce ≡ None → IsBeyond f y.base.number
  pub loads : y.base.nonce ≡ None → IsWithinRoom y.sizes (λ s u. y.cells s) v
  pub sizes : (l : Last) → f.last ≡ Some l → y.base.nonce ≡ None → y.base.fenced ≡ false → y.sizes ≡ sizes_of l.settlement.setup
  pub nonce : (n : ℕ) → y.base.nonce ≡ Some n → f.first ≤ n
  pub server : v < f.r.servers
  pub confirmed : f.last ≡ None → ⊥

-- who has told it stands still since, or has forgotten it
pub record IsToldBy (number since : ℕ) (base : Base) (Had : Type 0) : Type 0 where
  pub still : base.nonce ≡ None → (base.number ≡ number) × (base.fenced ≡ true) × Had
  pub fresh : (n : ℕ) → base.nonce ≡ Some n → since ≤ n

-- these cells are what was told
abbrev pub HasTold : (ℕ → Cell) → Inventory → Type 0
HasTold cells (Slots told reached) = (s : ℕ) → cells s ≡ told s
HasTold cells _ = ⊥

-- the owner tells that it has the map
abbrev pub HasMap : Inventory → Type 0
HasMap Entries = Unit {0}
HasMap _ = ⊥

-- a server's primaries are those that were settled last; and all its cells, if it is not fenced
pub record IsPartly (l : Last) (v : ℕ) (y : Standing) : Type 0 where
  pub frozen : (s : ℕ) → y.cells s ≡ cell.Primary → l.settlement.place.cells s v ≡ cell.Primary
  pub settled : y.base.fenced ≡ false → (s : ℕ) → y.cells s ≡ l.settlement.place.cells s v

-- the party was sent a settle, if it is a server
abbrev pub IsPromised : Reopening → Party → Type 0
IsPromised r (Server v) = r.promised v ≡ true
IsPromised r MapOwner = Unit {0}

-- the party has taken its settle
pub record IsTaken (last : Option Last) (r : Reopening) (p : Party) (base : Base) : Type 0 where
  pub confirmed : is_some r.settlement ≡ true
  pub promised : IsPromised r p
  pub at : base.nonce ≡ None → (base.fenced ≡ false) × (base.number ≡ r.base)
  pub asks : (l : Last) (n : ℕ) → last ≡ Some l → base.nonce ≡ Some n → l.nonces ≤ n

pub record IsServerHeld (f : Frame) (v : ℕ) (y : Standing) : Type 0 where
  pub number : y.base.number ≤ f.r.base
  pub made : (n : ℕ) → y.base.nonce ≡ Some n → n < f.nonces
  pub fresh : (n : ℕ) → y.base.nonce ≡ Some n → y.base.number ≡ f.r.base → f.since ≤ n
  pub lasts : (s : ℕ) → y.last s ≤ f.r.base
  pub blank : (n : ℕ) → y.base.nonce ≡ Some n → (s : ℕ) → y.last s ≡ 0
  pub untouched : f.r.promised v ≡ false → y.base.nonce ≡ None → IsUntouched f v y
  pub touched : f.r.promised v ≡ true → IsTouched f v y
  pub told : f.r.settlement ≡ None → (i : Inventory) → f.r.told (Server v) ≡ Some i → IsToldBy f.r.base f.since y.base (HasTold y.cells i)
  pub partly : (l : Last) → f.last ≡ Some l → y.base.nonce ≡ None → IsPartly l v y
  pub taken : f.r.settled (Server v) ≡ true → IsTaken f.last f.r (Server v) y.base
  pub lost : f.r.lost v ≡ true → y.base.nonce ≢ None

pub record IsOwnerHeld (f : Frame) (base : Base) : Type 0 where
  pub number : base.number ≤ f.r.base
  pub known : base.nonce ≡ None
  pub told : f.r.settlement ≡ None → (i : Inventory) → f.r.told MapOwner ≡ Some i → IsToldBy f.r.base f.since base (HasMap i)
  pub taken : f.r.settled MapOwner ≡ true → IsTaken f.last f.r MapOwner base

-- ---- messages

-- what a party has told, by its standing
abbrev pub IsToldOf : Frame → Standing → Base → Party → Inventory → Type 0
IsToldOf f y owner (Server v) i = IsToldBy f.r.base f.since y.base (HasTold y.cells i)
IsToldOf f y owner MapOwner i = IsToldBy f.r.base f.since owner (HasMap i)

abbrev pub base_of : Standing → Base → Party → Base
base_of y owner (Server v) = y.base
base_of y owner MapOwner = owner

-- the party is lost for good
abbrev pub IsLost : Reopening → Party → Type 0
IsLost r (Server v) = r.lost v ≡ true
IsLost r MapOwner = ⊥

-- the settle brings what was confirmed last
pub record IsLive (f : Frame) (p : Party) (number : ℕ) (s : Settlement) : Type 0 where
  pub last : Last
  pub is : f.last ≡ Some last
  pub base : number ≡ last.base
  pub settlement : s ≡ last.settlement
  pub promised : IsPromised f.r p

pub record IsGoodSettle (f : Frame) (p : Party) (base : Base) (number : ℕ) (nonce : Option ℕ) (s : Settlement) : Type 0 where
  pub below : number ≤ f.r.base
  pub before : f.r.settlement ≡ None → number < f.r.base
  pub made : (n : ℕ) → nonce ≡ Some n → n < f.nonces
  pub early : f.r.settlement ≡ None → (n : ℕ) → nonce ≡ Some n → n < f.since
  pub last : (l : Last) → f.last ≡ Some l → number ≤ l.base
  pub closed : (l : Last) → f.last ≡ Some l → (n : ℕ) → nonce ≡ Some n → n < l.nonces
  pub state : IsOutdated base number nonce ⊎ IsLive f p number s
  pub promised : number ≡ f.r.base → IsPromised f.r p
  pub lost : IsLost f.r p → (n : ℕ) → nonce ≡ Some n → base.nonce ≢ Some n

-- the restore that a server waits for brings what it had
pub record IsWaited (f : Frame) (v : ℕ) (y : Standing) (ms : List Message) (number : ℕ) (sizes : Sizes) (cells : ℕ → Cell) : Type 0 where
  pub cells_had : (s : ℕ) → cells s ≡ y.was s
  pub sizes_had : sizes ≡ f.w.sizes
  pub loads : IsWithinRoom sizes (λ s u. cells s) v
  pub number_had : number ≤ f.base + MOST_PLACES
  pub lasts_had : (s : ℕ) → y.was_last s ≤ number
  pub settles : AllByRecursion (IsSettleBelow v number) ms
  pub along : (l : Last) → f.last ≡ Some l → IsAlong f.w v l cells

pub record IsGoodRestore (f : Frame) (v : ℕ) (y : Standing) (ms : List Message) (nonce number : ℕ) (sizes : Sizes) (cells : ℕ → Cell) : Type 0 where
  pub made : nonce < f.first
  pub waited : y.base.nonce ≡ Some nonce → IsWaited f v y ms number sizes cells
  pub lost : f.r.lost v ≡ true → y.base.nonce ≢ Some nonce

-- a message, by the standing of the server that it is to or from
abbrev pub IsGood : Frame → Standing → Base → List Message → Message → Type 0
IsGood f y owner ms (Fence p number) = number ≤ f.r.base
IsGood f y owner ms (Fenced p number i) = (number ≤ f.r.base) × (number ≡ f.r.base → (n : ℕ) → i ≡ Unknown n → n < f.nonces) × (f.r.settlement ≡ None → number ≡ f.r.base → IsToldOf f y owner p i)
IsGood f y owner ms (Settle p number nonce s) = IsGoodSettle f p (base_of y owner p) number nonce s
IsGood f y owner ms (Settled p number) = (number ≤ f.r.base) × (number ≡ f.r.base → IsTaken f.last f.r p (base_of y owner p))
IsGood f y owner ms (Restore v nonce number sizes cells) = IsGoodRestore f v y ms nonce number sizes cells

-- the number of a server, and any for the map's owner
abbrev pub number_of : Party → ℕ
number_of (Server v) = v
number_of MapOwner = 0

-- the server that a message is to or from
abbrev pub addressee : Message → ℕ
addressee (Fence p number) = number_of p
addressee (Fenced p number i) = number_of p
addressee (Settle p number _ s) = number_of p
addressee (Settled p number) = number_of p
addressee (Restore v asked number sizes cells) = v

-- each of these messages is good
abbrev pub AreGood : Frame → (ℕ → Standing) → Base → List Message → List Message → Type 0
AreGood f stand owner ms = AllByRecursion (λ m. IsGood f (stand (addressee m)) owner ms m)

-- what holds of the reopening itself
pub record IsControllerHeld (f : Frame) : Type 0 where
  pub places : IsBeyond f f.r.base
  pub versions : (s : ℕ) → f.base + f.w.place.version s < f.r.base
  pub since : f.first ≤ f.since
  pub nonces : f.since ≤ f.nonces
  pub log : length f.w.log ≤ MOST_PLACES
  pub servers : f.w.sizes.servers ≤ f.r.servers
  pub told_made : (p : Party) (n : ℕ) → f.r.told p ≡ Some (Unknown n) → n < f.nonces
  pub asked : (v : ℕ) → is_some (f.r.told (Server v)) ≡ true → (v < f.r.servers) × (f.r.lost v ≡ false)
  -- what was confirmed last
  pub opening : (l : Last) → f.last ≡ Some l → IsOpening l.settlement.setup l.settlement.place l.settlement.room
  pub beyond : (l : Last) → f.last ≡ Some l → IsBeyond f l.base
  pub above_versions : (l : Last) → f.last ≡ Some l → (s : ℕ) → f.base + f.w.place.version s < l.base
  pub below : (l : Last) → f.last ≡ Some l → l.base ≤ f.r.base
  pub before : f.r.settlement ≡ None → (l : Last) → f.last ≡ Some l → l.base < f.r.base
  pub closed : (l : Last) → f.last ≡ Some l → l.nonces ≤ f.nonces
  pub confirmed : (s : Settlement) → f.r.settlement ≡ Some s → (k : ℕ) × (f.last ≡ Some (record { base = f.r.base; settlement = s; nonces = k }))
  pub kept_promises : is_some f.r.settlement ≡ true → (v : ℕ) → f.r.promised v ≡ true → (is_some (f.r.told (Server v)) ≡ true) ⊎ (f.r.lost v ≡ true)
  pub told_promised : is_some f.r.settlement ≡ true → (v : ℕ) → is_some (f.r.told (Server v)) ≡ true → f.r.promised v ≡ true
  pub told_map : is_some f.r.settlement ≡ true → is_some (f.r.told MapOwner) ≡ true
  pub unsettled : is_some f.r.settlement ≡ false → (p : Party) → f.r.settled p ≡ false

-- ---- nonces

-- the same, once another nonce was made
abbrev pub more : Frame → Frame
more f = record f { nonces = suc f.nonces }

pub map_none : (k : ℕ) (o : Option ℕ) → option_map (λ old. k) o ≡ None → o ≡ None
map_none k None e = refl
map_none k (Some n) e = absurd (cc)

-- a new nonce replaces one that there was
pub map_some : (k n : ℕ) (o : Option ℕ) → option_map (λ old. k) o ≡ Some n → (k ≡ n) × (o ≢ None)
map_some k n None e = absurd (cc)
map_some k n (Some m) e = (some_same k n e, λ q. absurd (cc))

-- ---- what becomes of one party: a fence is taken

-- a base once a fence is taken
abbrev pub raised : Frame → Base → ℕ → Base
raised f b number = record { number = number; fenced = true; nonce = option_map (λ old. f.nonces) b.nonce }

module _ (f : Frame) (b : Base) (number : ℕ) (c : IsControllerHeld f) (below : number ≤ f.r.base) (above : b.number < number) where
  pub told_raised : (Had : Type 0) → IsToldBy f.r.base f.since b Had → IsToldBy f.r.base f.since (raised f b number) Had
  told_raised Had t = record {
    still = λ e. absurd (let z = (t.still (map_none f.nonces b.nonce e)).0 in omega arith);
    fresh = λ n e. let z = (map_some f.nonces n b.nonce e).0 in let k = c.nonces in omega arith;
  }

  pub spent_raised : (k : ℕ) (nonce : Option ℕ) → ((n : ℕ) → nonce ≡ Some n → n < f.nonces) → IsOutdated b k nonce → IsOutdated (raised f b number) k nonce
  spent_raised k asked made s = record {
    has_slots = λ e q. elim (s.has_slots (map_none f.nonces b.nonce e) q) [
      | inl l ↦ inl (omega arith)
      | inr l ↦ inl (let z = l.0 in omega arith)
    ];
    has_none = λ n e q. absurd (let z = (map_some f.nonces n b.nonce q).0 in let m = made n e in omega arith);
  }

  pub taken_raised : (p : Party) → IsTaken f.last f.r p b → IsTaken f.last f.r p (raised f b number)
  taken_raised p t = record { asks = λ l n e q. (let z = (map_some f.nonces n b.nonce q).0 in let k = c.closed l e in omega arith); confirmed = t.confirmed; promised = t.promised; at = λ e. absurd (let z = (t.at (map_none f.nonces b.nonce e)).1 in omega arith) }

  -- a party that stands at the fence can tell what it has
  pub tells_raised : (Had : Type 0) → Had → IsToldBy number f.since (raised f b number) Had
  tells_raised Had h = record {
    still = λ e. (refl, refl, h);
    fresh = λ n e. let z = (map_some f.nonces n b.nonce e).0 in let k = c.nonces in omega arith;
  }

  -- the map's owner is as it should be
  pub owner_raised : IsOwnerHeld f b → IsOwnerHeld (more f) (raised f b number)
  owner_raised h = record {
    number = below;
    known = ap (option_map (λ old. f.nonces)) h.known;
    told = λ u i e. told_raised (HasMap i) (h.told u i e);
    taken = λ e. taken_raised MapOwner (h.taken e);
  }

-- it had no slots if it has none
raised_blank : (f : Frame) (v : ℕ) (y : Standing) → IsServerHeld f v y → (k n : ℕ) → option_map (λ old. k) y.base.nonce ≡ Some n → (s : ℕ) → y.last s ≡ 0
raised_blank f v y h k n e s = go y.base.nonce refl e
  where
    go : (o : Option ℕ) → y.base.nonce ≡ o → option_map (λ old. k) o ≡ Some n → y.last s ≡ 0
    go None q e = absurd (cc)
    go (Some m) q e = h.blank m q s

module _ (f : Frame) (v : ℕ) (y : Standing) (number : ℕ) (c : IsControllerHeld f) (below : number ≤ f.r.base) (above : y.base.number < number) where
  abbrev y_raised : Standing
  y_raised = record y { base = raised f y.base number }

  -- a server is as it should be
  pub server_raised : IsServerHeld f v y → IsServerHeld (more f) v y_raised
  server_raised h = record {
    number = below;
    made = λ n e. let z = (map_some f.nonces n y.base.nonce e).0 in omega arith;
    fresh = λ n e q. let z = (map_some f.nonces n y.base.nonce e).0 in let k = c.nonces in omega arith;
    lasts = h.lasts;
    blank = λ n e s. raised_blank f v y h f.nonces n e s;
    untouched = λ p e. let u = h.untouched p (map_none f.nonces y.base.nonce e) in record {
      cells = u.cells;
      lasts = λ s. elim (u.lasts s) [ inl l ↦ inl l | inr l ↦ inr ((let a = l.0 in omega arith), (let a = l.1 in omega arith)) ];
      sizes = u.sizes;
      loads = u.loads;
      along = u.along;
    };
    touched = λ p. let t = h.touched p in record {
      above = λ e. let z = t.above (map_none f.nonces y.base.nonce e) in omega arith;
      loads = λ e. t.loads (map_none f.nonces y.base.nonce e);
      sizes = λ l e q z. absurd (cc);
      nonce = λ n e. let z = (map_some f.nonces n y.base.nonce e).0 in let k = c.nonces in let j = c.since in omega arith;
      server = t.server;
      confirmed = t.confirmed;
    };
    told = λ u i e. told_raised f y.base number c below above (HasTold y.cells i) (h.told u i e);
    partly = λ l e q. let p = h.partly l e (map_none f.nonces y.base.nonce q) in record { frozen = p.frozen; settled = λ z. absurd (cc) };
    taken = λ e. taken_raised f y.base number c below above (Server v) (h.taken e);
    lost = λ e q. h.lost e (map_none f.nonces y.base.nonce q);
  }

  pub waited_raised : (ms : List Message) (nonce k : ℕ) (sizes : Sizes) (cells : ℕ → Cell) → IsGoodRestore f v y ms nonce k sizes cells → IsGoodRestore (more f) v y_raised ms nonce k sizes cells
  waited_raised ms nonce k sizes cells g = record {
    made = g.made;
    waited = λ e. absurd (not_now e);
    lost = λ l e. not_now e;
  }
    where
      not_now : option_map (λ old. f.nonces) y.base.nonce ≡ Some nonce → ⊥
      not_now e = absurd (let z = (map_some f.nonces nonce y.base.nonce e).0 in let m = g.made in let a = c.since in let b = c.nonces in omega arith)

-- ---- a server forgets

module _ (f : Frame) (c : IsControllerHeld f) where
  abbrev lost_base : Base
  lost_base = unknown_base f.nonces

  same_nonce : (n : ℕ) → lost_base.nonce ≡ Some n → f.nonces ≡ n
  same_nonce n e = some_same f.nonces n e

  pub told_forgot : (Had : Type 0) → IsToldBy f.r.base f.since lost_base Had
  told_forgot Had = record { still = λ e. absurd (cc); fresh = λ n e. let z = same_nonce n e in let k = c.nonces in omega arith }

  pub spent_forgot : (k : ℕ) (nonce : Option ℕ) → ((n : ℕ) → nonce ≡ Some n → n < f.nonces) → IsOutdated lost_base k nonce
  spent_forgot k asked made = record { has_slots = λ e q. absurd (cc); has_none = λ n e q. absurd (let z = same_nonce n q in let m = made n e in omega arith) }

  pub taken_forgot : (p : Party) (b : Base) → IsTaken f.last f.r p b → IsTaken f.last f.r p lost_base
  taken_forgot p b t = record { asks = λ l n e q. (let z = same_nonce n q in let k = c.closed l e in omega arith); confirmed = t.confirmed; promised = t.promised; at = λ e. absurd (cc) }

  -- a server that forgets is as it should be
  pub server_forgot : (v : ℕ) (y : Standing) → IsServerHeld f v y → IsServerHeld (more f) v (record y { base = lost_base; cells = λ s. cell.Absent; last = λ s. 0 })
  server_forgot v y h = record {
    number = omega arith;
    made = λ n e. let z = same_nonce n e in omega arith;
    fresh = λ n e q. let z = same_nonce n e in let k = c.nonces in omega arith;
    lasts = λ s. omega arith;
    blank = λ n e s. refl;
    untouched = λ p e. absurd (cc);
    touched = λ p. record {
      above = λ e. absurd (cc);
      loads = λ e. absurd (cc);
      sizes = λ l e q. absurd (cc);
      nonce = λ n e. let z = same_nonce n e in let k = c.nonces in let j = c.since in omega arith;
      server = (h.touched p).server;
      confirmed = (h.touched p).confirmed;
    };
    told = λ u i e. told_forgot (HasTold (λ s. cell.Absent) i);
    partly = λ l e q. absurd (cc);
    taken = λ e. taken_forgot (Server v) y.base (h.taken e);
    lost = λ e q. absurd (cc);
  }

  pub waited_forgot : (v : ℕ) (y : Standing) (ms : List Message) (nonce k : ℕ) (sizes : Sizes) (cells : ℕ → Cell) → IsGoodRestore f v y ms nonce k sizes cells →
      IsGoodRestore (more f) v (record y { base = lost_base; cells = λ s. cell.Absent; last = λ s. 0 }) ms nonce k sizes cells
  waited_forgot v y ms nonce k sizes cells g = record { made = g.made; waited = λ e. absurd (not_now e); lost = λ l e. not_now e }
    where
      not_now : lost_base.nonce ≡ Some nonce → ⊥
      not_now e = absurd (let z = same_nonce nonce e in let m = g.made in let a = c.since in let b = c.nonces in omega arith)

-- ---- a settle is taken

-- what a settle that is taken meets: who is fenced at it, and asks as it says
pub meant_none : (o : Option ℕ) → names_nonce None o ≡ true → o ≡ None
meant_none None e = refl
meant_none (Some n) e = absurd (cc)

pub meant_some : (n : ℕ) (o : Option ℕ) → names_nonce (Some n) o ≡ true → o ≡ Some n
meant_some n None e = absurd (cc)
meant_some n (Some m) e = ap Some (sym (eqb-true n m e))

pub record IsTakenBy (b : Base) (number : ℕ) (nonce : Option ℕ) : Type 0 where
  pub fenced : b.fenced ≡ true
  pub at : b.number ≡ number
  pub meant : nonce ≡ b.nonce

-- what a settle that is taken has met
pub taken_by : (b : Base) (number : ℕ) (nonce : Option ℕ) → takes_settle number nonce b ≡ true → IsTakenBy b number nonce
taken_by b number asked e =
    let p = and_parts (is_fenced_at number b) (names_nonce b.nonce asked) e in
    let q = and_parts b.fenced (b.number == number) p.0 in
    record { fenced = q.0; at = eqb-true b.number number q.1; meant = go b.nonce refl p.1 }
  where
    go : (o : Option ℕ) → b.nonce ≡ o → names_nonce o asked ≡ true → asked ≡ b.nonce
    go None e q = meant_none asked q ∙ sym e
    go (Some n) e q = meant_some n asked q ∙ sym e

-- one that is taken is live
pub is_live : (f : Frame) (p : Party) (b : Base) (number : ℕ) (nonce : Option ℕ) (s : Settlement) → IsGoodSettle f p b number nonce s → IsTakenBy b number nonce → IsLive f p number s
is_live f p b number asked s g t = elim g.state [
  | inl d ↦ absurd (go b.nonce refl d)
  | inr l ↦ l
]
  where
    go : (o : Option ℕ) → b.nonce ≡ o → IsOutdated b number asked → ⊥
    go None e d = elim (d.has_slots e (t.meant ∙ e)) [
      | inl l ↦ absurd (let z = t.at in omega arith)
      | inr l ↦ absurd (let z = t.fenced in let y = l.1 in cc)
    ]
    go (Some n) e d = absurd (d.has_none n (t.meant ∙ e) e)

module _ (f : Frame) (p : Party) (b : Base) (number : ℕ) (nonce : Option ℕ) (s : Settlement) (c : IsControllerHeld f) (g : IsGoodSettle f p b number nonce s) (t : IsTakenBy b number nonce) where
  live : IsLive f p number s
  live = is_live f p b number nonce s g t

  -- who has told what it has takes no settle before it is confirmed
  pub none_told : (Had : Type 0) → f.r.settlement ≡ None → IsToldBy f.r.base f.since b Had → ⊥
  none_told Had u h = go b.nonce refl
    where
      go : (o : Option ℕ) → b.nonce ≡ o → ⊥
      go None e = absurd (let z = (h.still e).0 in let y = t.at in let x = g.before u in omega arith)
      go (Some n) e = absurd (let z = h.fresh n e in let y = g.early u n (t.meant ∙ e) in omega arith)

  pub spent_settled : (k : ℕ) (asked : Option ℕ) → k ≤ number → IsOutdated (settled_base number) k asked
  spent_settled k asked l = record {
    has_slots = λ e q. elim (cases_lt k number) [ inl m ↦ inl m | inr m ↦ inr ((let z : k ≡ number = omega arith in z), refl) ];
    has_none = λ n e q. absurd (cc);
  }

  last_is : (l : Last) → f.last ≡ Some l → live.last ≡ l
  last_is l e = some_same live.last l (sym live.is ∙ e)

  pub settles_below : (k : ℕ) → ((l : Last) → f.last ≡ Some l → k ≤ l.base) → k ≤ number
  settles_below k all = let a = all live.last live.is in let e = live.base in omega arith

  pub taken_settled : IsTaken f.last f.r p b → IsTaken f.last f.r p (settled_base number)
  taken_settled h = record { asks = λ l n e q. absurd (cc); confirmed = h.confirmed; promised = h.promised; at = λ e. (refl, at_last h.confirmed) }
    where
      at_last : is_some f.r.settlement ≡ true → number ≡ f.r.base
      at_last q = go f.r.settlement refl q
        where
          go : (o : Option Settlement) → f.r.settlement ≡ o → is_some o ≡ true → number ≡ f.r.base
          go None e q = absurd (cc)
          go (Some x) e q = live.base ∙ ap (λ (l : Last). l.base) (last_is (record { base = f.r.base; settlement = x; nonces = (c.confirmed x e).0 }) (c.confirmed x e).1)

  -- once it has taken one that was confirmed, it has taken it
  pub took : is_some f.r.settlement ≡ true → number ≡ f.r.base → IsTaken f.last f.r p (settled_base number)
  took q e = record { asks = λ l n e q. absurd (cc); confirmed = q; promised = live.promised; at = λ z. (refl, e) }

module _ (f : Frame) (v : ℕ) (y : Standing) (number : ℕ) (nonce : Option ℕ) (s : Settlement) (c : IsControllerHeld f) (g : IsGoodSettle f (Server v) y.base number nonce s) (t : IsTakenBy y.base number nonce) where
  abbrev y_settled : Standing
  y_settled = record y { base = settled_base number; cells = λ k. s.place.cells k v; sizes = sizes_of s.setup }

  alive : IsLive f (Server v) number s
  alive = is_live f (Server v) y.base number nonce s g t

  opens : IsOpening s.setup s.place s.room
  opens = subst (λ (z : Settlement). IsOpening z.setup z.place z.room) (sym alive.settlement) (c.opening alive.last alive.is)

  -- a server that takes a settle is as it should be
  pub server_settled : IsServerHeld f v y → IsServerHeld f v y_settled
  server_settled h = record {
    number = g.below;
    made = λ n e. absurd (cc);
    fresh = λ n e q. absurd (cc);
    lasts = h.lasts;
    blank = λ n e. absurd (cc);
    untouched = λ p e. absurd (let z = alive.promised in cc);
    touched = λ p. record {
      above = λ e. let z = c.beyond alive.last alive.is in let q = alive.base in omega arith;
      loads = λ e l. opens.settled.rooms v l;
      sizes = λ l e q z. ap (λ (x : Settlement). sizes_of x.setup) (alive.settlement ∙ ap (λ (x : Last). x.settlement) (some_same alive.last l (sym alive.is ∙ e)));
      nonce = λ n e. absurd (cc);
      server = (h.touched p).server;
      confirmed = (h.touched p).confirmed;
    };
    told = λ u i e. absurd (none_told f (Server v) y.base number nonce s c g t (HasTold y.cells i) u (h.told u i e));
    partly = λ l e q.
        let same : alive.last ≡ l = some_same alive.last l (sym alive.is ∙ e) in
        let is : s ≡ l.settlement = alive.settlement ∙ ap (λ (x : Last). x.settlement) same in record {
          frozen = λ k z. subst (λ (x : Settlement). x.place.cells k v ≡ cell.Primary) is z;
          settled = λ z k. ap (λ (x : Settlement). x.place.cells k v) is;
        };
    taken = λ e. taken_settled f (Server v) y.base number nonce s c g t (h.taken e);
    lost = λ e q. go e y.base.nonce refl h.lost;
  }
    where
      go : f.r.lost v ≡ true → (o : Option ℕ) → y.base.nonce ≡ o → (f.r.lost v ≡ true → y.base.nonce ≢ None) → ⊥
      go l None e lost = lost l e
      go l (Some n) e lost = g.lost l n (t.meant ∙ e) e

  pub waited_settled : (ms : List Message) (asked k : ℕ) (sizes : Sizes) (cells : ℕ → Cell) → IsGoodRestore f v y ms asked k sizes cells → IsGoodRestore f v y_settled ms asked k sizes cells
  waited_settled ms asked k sizes cells w = record { made = w.made; waited = λ e. absurd (cc); lost = λ l e. absurd (cc) }

-- ---- a restore is taken

module _ (f : Frame) (v : ℕ) (y : Standing) (ms : List Message) (nonce number : ℕ) (sizes : Sizes) (cells : ℕ → Cell) (c : IsControllerHeld f) (g : IsGoodRestore f v y ms nonce number sizes cells) (h : IsServerHeld f v y)
    (asks : y.base.nonce ≡ Some nonce) where
  abbrev y_restored : Standing
  y_restored = record y { base = settled_base number; cells = cells; sizes = sizes }

  waits : IsWaited f v y ms number sizes cells
  waits = g.waited asks

  pub unpromised : f.r.promised v ≡ true → ⊥
  unpromised p = absurd (let z = (h.touched p).nonce nonce asks in let m = g.made in omega arith)

  pub none_told_there : (Had : Type 0) → IsToldBy f.r.base f.since y.base Had → ⊥
  none_told_there Had t = absurd (let z = t.fresh nonce asks in let m = g.made in let k = c.since in omega arith)

  pub spent_restored : (k : ℕ) (asked : Option ℕ) → k ≤ number → IsOutdated (settled_base number) k asked
  spent_restored k asked l = record {
    has_slots = λ e q. elim (cases_lt k number) [ inl m ↦ inl m | inr m ↦ inr ((let z : k ≡ number = omega arith in z), refl) ];
    has_none = λ n e q. absurd (cc);
  }

  -- a server that takes a restore is as it should be
  pub server_restored : IsServerHeld f v y_restored
  server_restored = record {
    number = let a = waits.number_had in let b = c.places in omega arith;
    made = λ n e. absurd (cc);
    fresh = λ n e q. absurd (cc);
    lasts = h.lasts;
    blank = λ n e. absurd (cc);
    untouched = λ p e. record { cells = waits.cells_had; lasts = λ s. inr ((let a = h.blank nonce asks s in omega arith), waits.lasts_had s); sizes = λ d b. waits.sizes_had; loads = waits.loads; along = waits.along };
    touched = λ p. absurd (unpromised p);
    told = λ u i e. absurd (none_told_there (HasTold y.cells i) (h.told u i e));
    partly = λ l e q. let a = waits.along l e in record { frozen = λ k z. sym (a.same k) ∙ z; settled = λ z k. a.same k };
    taken = λ e. absurd (unpromised (h.taken e).promised);
    lost = λ e q. g.lost e asks;
  }

  pub waited_restored : (asked k : ℕ) (sizes : Sizes) (cells : ℕ → Cell) → IsGoodRestore f v y ms asked k sizes cells → IsGoodRestore f v y_restored ms asked k sizes cells
  waited_restored asked k sizes cells w = record { made = w.made; waited = λ e. absurd (cc); lost = λ l e. absurd (cc) }

-- ---- an order is served

-- A server that takes orders has been sent no settle, and nothing was confirmed.
module _ (f : Frame) (v : ℕ) (y : Standing) (h : IsServerHeld f v y) (known : y.base.nonce ≡ None) (free : y.base.fenced ≡ false) (new : f.r.promised v ≡ false) (none : f.last ≡ None)
    (cells was : ℕ → Cell) (last was_last : ℕ → ℕ) (same : (s : ℕ) → cells s ≡ was s) (lasts : (s : ℕ) → IsAsHigh y.base.number (last s) (was_last s)) (low : (s : ℕ) → last s ≤ f.r.base) (fits : IsWithinRoom y.sizes (λ s u. cells s) v) where
  abbrev y_served : Standing
  y_served = record y { cells = cells; last = last; was = was; was_last = was_last }

  not_told : (Had : Type 0) → IsToldBy f.r.base f.since y.base Had → ⊥
  not_told Had t = absurd (let z = (t.still known).1 in cc)

  no_last : (l : Last) → f.last ≡ Some l → ⊥
  no_last l e = cc

  -- a server that serves an order is as it should be
  pub server_served : IsServerHeld f v y_served
  server_served = record {
    number = h.number;
    made = h.made;
    fresh = h.fresh;
    lasts = low;
    blank = λ n e. absurd (cc);
    untouched = λ p e. let u = h.untouched new known in record { cells = same; lasts = lasts; sizes = u.sizes; loads = fits; along = λ l q. absurd (no_last l q) };
    touched = λ p. absurd (cc);
    told = λ u i e. absurd (not_told (HasTold y.cells i) (h.told u i e));
    partly = λ l e q. absurd (no_last l e);
    taken = λ e. absurd (let z = (h.taken e).promised in cc);
    lost = h.lost;
  }

  pub waited_served : (ms : List Message) (asked k : ℕ) (sizes : Sizes) (cells : ℕ → Cell) → IsGoodRestore f v y ms asked k sizes cells → IsGoodRestore f v y_served ms asked k sizes cells
  waited_served ms asked k sizes cells w = record { made = w.made; waited = λ e. absurd (cc); lost = w.lost }

-- ---- what becomes of messages

-- another base of its party
settle_with : (f : Frame) (k : ℕ) (p : Party) (b new : Base) (number : ℕ) (nonce : Option ℕ) (s : Settlement) → f.nonces ≤ k →
    (((n : ℕ) → nonce ≡ Some n → n < f.nonces) → ((l : Last) → f.last ≡ Some l → number ≤ l.base) → IsOutdated b number nonce → IsOutdated new number nonce) →
    (((n : ℕ) → nonce ≡ Some n → n < f.nonces) → (n : ℕ) → nonce ≡ Some n → b.nonce ≢ Some n → new.nonce ≢ Some n) →
    IsGoodSettle f p b number nonce s → IsGoodSettle (record f { nonces = k }) p new number nonce s
settle_with f k p b new number asked s up spent others g = record {
  below = g.below;
  before = g.before;
  made = λ n e. let z = g.made n e in omega arith;
  early = g.early;
  last = g.last;
  closed = g.closed;
  state = elim g.state [
    | inl d ↦ inl (spent g.made g.last d)
    | inr l ↦ inr (record { last = l.last; is = l.is; base = l.base; settlement = l.settlement; promised = l.promised })
  ];
  promised = g.promised;
  lost = λ l n e. others g.made n e (g.lost l n e);
}

restore_with : (f : Frame) (k v : ℕ) (y : Standing) (ms : List Message) (nonce number : ℕ) (sizes : Sizes) (cells : ℕ → Cell) → IsGoodRestore f v y ms nonce number sizes cells → IsGoodRestore (record f { nonces = k }) v y ms nonce number sizes cells
restore_with f k v y ms asked number sizes cells g = record {
  made = g.made;
  waited = λ e. let w = g.waited e in record { cells_had = w.cells_had; sizes_had = w.sizes_had; loads = w.loads; number_had = w.number_had; lasts_had = w.lasts_had; settles = w.settles; along = w.along };
  lost = g.lost;
}

-- only that more nonces were made
pub good_more : (f : Frame) (k : ℕ) (y : Standing) (owner : Base) (ms : List Message) (m : Message) → f.nonces ≤ k → IsGood f y owner ms m → IsGood (record f { nonces = k }) y owner ms m
good_more f k y owner ms (Fence p number) up g = g
good_more f k y owner ms (Fenced (Server v) number i) up g = (g.0, (λ q n e. let z = g.1 q n e in omega arith), g.2)
good_more f k y owner ms (Fenced MapOwner number i) up g = (g.0, (λ q n e. let z = g.1 q n e in omega arith), g.2)
good_more f k y owner ms (Settle p number asked s) up g = settle_with f k p (base_of y owner p) (base_of y owner p) number asked s up (λ m l d. d) (λ m n e o. o) g
good_more f k y owner ms (Settled p number) up g = g
good_more f k y owner ms (Restore v asked number sizes cells) up g = restore_with f k v y ms asked number sizes cells g

-- a server is as it was, if only more nonces were made
pub server_more : (f : Frame) (k v : ℕ) (y : Standing) → f.nonces ≤ k → IsServerHeld f v y → IsServerHeld (record f { nonces = k }) v y
server_more f k v y up h = record {
  number = h.number;
  made = λ n e. let z = h.made n e in omega arith;
  fresh = h.fresh;
  lasts = h.lasts;
  blank = h.blank;
  untouched = λ p e. let u = h.untouched p e in record { cells = u.cells; lasts = u.lasts; sizes = u.sizes; loads = u.loads; along = u.along };
  touched = λ p. let t = h.touched p in record { above = t.above; loads = t.loads; sizes = t.sizes; nonce = t.nonce; server = t.server; confirmed = t.confirmed };
  told = h.told;
  partly = h.partly;
  taken = h.taken;
  lost = h.lost;
}

-- and so is the map's owner
pub owner_more : (f : Frame) (k : ℕ) (b : Base) → IsOwnerHeld f b → IsOwnerHeld (record f { nonces = k }) b
owner_more f k b h = record { number = h.number; known = h.known; told = h.told; taken = h.taken }

-- and the controller
pub controller_more : (f : Frame) (k : ℕ) → f.nonces ≤ k → IsControllerHeld f → IsControllerHeld (record f { nonces = k })
controller_more f k up c = record {
  places = c.places;
  versions = c.versions;
  since = c.since;
  nonces = let z = c.nonces in omega arith;
  log = c.log;
  servers = c.servers;
  told_made = λ p n e. let z = c.told_made p n e in omega arith;
  asked = c.asked;
  opening = c.opening;
  above_versions = c.above_versions;
  beyond = c.beyond;
  below = c.below;
  before = c.before;
  closed = λ l e. let z = c.closed l e in omega arith;
  confirmed = c.confirmed;
  kept_promises = c.kept_promises;
  told_promised = c.told_promised;
  told_map = c.told_map;
  unsettled = c.unsettled;
}

-- a server takes a fence
module _ (f : Frame) (v : ℕ) (y : Standing) (owner : Base) (ms : List Message) (number : ℕ) (c : IsControllerHeld f) (below : number ≤ f.r.base) (above : y.base.number < number) where
  pub good_raised : (m : Message) → addressee m ≡ v → IsGood f y owner ms m → IsGood (more f) (y_raised f v y number c below above) owner ms m
  good_raised (Fence p k) a g = g
  good_raised (Fenced (Server u) k i) a g = (g.0, (λ q n e. let z = g.1 q n e in omega arith), λ e q. told_raised f y.base number c below above (HasTold y.cells i) (g.2 e q))
  good_raised (Fenced MapOwner k i) a g = (g.0, (λ q n e. let z = g.1 q n e in omega arith), g.2)
  good_raised (Settle (Server u) k asked s) a g = settle_with f (suc f.nonces) (Server u) y.base (raised f y.base number) k asked s (omega arith)
      (λ m l d. spent_raised f y.base number c below above k asked m d)
      (λ m n e o q. absurd (let z = (map_some f.nonces n y.base.nonce q).0 in let x = m n e in omega arith)) g
  good_raised (Settle MapOwner k asked s) a g = good_more f (suc f.nonces) y owner ms (Settle MapOwner k asked s) (omega arith) g
  good_raised (Settled (Server u) k) a g = (g.0, λ e. taken_raised f y.base number c below above (Server u) (g.1 e))
  good_raised (Settled MapOwner k) a g = g
  good_raised (Restore u asked k sizes cells) a g = waited_raised f u y number c below above ms asked k sizes cells g

-- a server forgets
module _ (f : Frame) (y : Standing) (owner : Base) (ms : List Message) (c : IsControllerHeld f) where
  abbrev y_forgot : Standing
  y_forgot = record y { base = unknown_base f.nonces; cells = λ s. cell.Absent; last = λ s. 0 }

  -- all messages to and from it are good still
  pub good_forgot : (m : Message) → IsGood f y owner ms m → IsGood (more f) y_forgot owner ms m
  good_forgot (Fence p k) g = g
  good_forgot (Fenced (Server u) k i) g = (g.0, (λ q n e. let z = g.1 q n e in omega arith), λ e q. told_forgot f c (HasTold (λ s. cell.Absent) i))
  good_forgot (Fenced MapOwner k i) g = (g.0, (λ q n e. let z = g.1 q n e in omega arith), g.2)
  good_forgot (Settle (Server u) k asked s) g = settle_with f (suc f.nonces) (Server u) y.base (unknown_base f.nonces) k asked s (omega arith)
      (λ m l d. spent_forgot f c k asked m)
      (λ m n e o q. absurd (let z = same_nonce f c n q in let x = m n e in omega arith)) g
  good_forgot (Settle MapOwner k asked s) g = good_more f (suc f.nonces) y owner ms (Settle MapOwner k asked s) (omega arith) g
  good_forgot (Settled (Server u) k) g = (g.0, λ e. taken_forgot f c (Server u) y.base (g.1 e))
  good_forgot (Settled MapOwner k) g = g
  good_forgot (Restore u asked k sizes cells) g = waited_forgot f c u y ms asked k sizes cells g

-- a server takes a settle
module _ (f : Frame) (v : ℕ) (y : Standing) (owner : Base) (ms : List Message) (number : ℕ) (nonce : Option ℕ) (s : Settlement) (c : IsControllerHeld f) (g : IsGoodSettle f (Server v) y.base number nonce s)
    (t : IsTakenBy y.base number nonce) where
  pub good_settled : (m : Message) → addressee m ≡ v → IsGood f y owner ms m → IsGood f (y_settled f v y number nonce s c g t) owner ms m
  good_settled (Fence p k) a h = h
  good_settled (Fenced (Server u) k i) a h = (h.0, h.1, λ e q. absurd (none_told f (Server v) y.base number nonce s c g t (HasTold y.cells i) e (h.2 e q)))
  good_settled (Fenced MapOwner k i) a h = h
  good_settled (Settle (Server u) k asked z) a h = settle_with f f.nonces (Server u) y.base (settled_base number) k asked z (omega arith)
      (λ m l d. spent_settled f (Server v) y.base number nonce s c g t k asked (settles_below f (Server v) y.base number nonce s c g t k l))
      (λ m n e o q. absurd (cc)) h
  good_settled (Settle MapOwner k asked z) a h = h
  good_settled (Settled (Server u) k) a h = (
    h.0,
    λ e. let w = taken_settled f (Server v) y.base number nonce s c g t (record { asks = (h.1 e).asks; confirmed = (h.1 e).confirmed; promised = (is_live f (Server v) y.base number nonce s g t).promised; at = (h.1 e).at }) in
        record { asks = w.asks; confirmed = w.confirmed; promised = (h.1 e).promised; at = w.at },
  )
  good_settled (Settled MapOwner k) a h = h
  good_settled (Restore u asked k sizes cells) a h = record { made = h.made; waited = λ e. absurd (cc); lost = λ l e. absurd (cc) }

-- the map's owner takes a fence
module _ (f : Frame) (y : Standing) (owner : Base) (ms : List Message) (number : ℕ) (c : IsControllerHeld f) (below : number ≤ f.r.base) (above : owner.number < number) where
  pub good_owner_raised : (m : Message) → IsGood f y owner ms m → IsGood (more f) y (raised f owner number) ms m
  good_owner_raised (Fence p k) g = g
  good_owner_raised (Fenced (Server u) k i) g = (g.0, (λ q n e. let z = g.1 q n e in omega arith), g.2)
  good_owner_raised (Fenced MapOwner k i) g = (g.0, (λ q n e. let z = g.1 q n e in omega arith), λ e q. told_raised f owner number c below above (HasMap i) (g.2 e q))
  good_owner_raised (Settle (Server u) k asked s) g = good_more f (suc f.nonces) y owner ms (Settle (Server u) k asked s) (omega arith) g
  good_owner_raised (Settle MapOwner k asked s) g = settle_with f (suc f.nonces) MapOwner owner (raised f owner number) k asked s (omega arith)
      (λ m l d. spent_raised f owner number c below above k asked m d)
      (λ m n e o q. absurd (let z = (map_some f.nonces n owner.nonce q).0 in let x = m n e in omega arith)) g
  good_owner_raised (Settled (Server u) k) g = g
  good_owner_raised (Settled MapOwner k) g = (g.0, λ e. taken_raised f owner number c below above MapOwner (g.1 e))
  good_owner_raised (Restore u asked k sizes cells) g = restore_with f (suc f.nonces) u y ms asked k sizes cells g

-- and a settle
module _ (f : Frame) (y : Standing) (owner : Base) (ms : List Message) (number : ℕ) (nonce : Option ℕ) (s : Settlement) (c : IsControllerHeld f) (g : IsGoodSettle f MapOwner owner number nonce s) (t : IsTakenBy owner number nonce) where
  pub good_owner_settled : (m : Message) → IsGood f y owner ms m → IsGood f y (settled_base number) ms m
  good_owner_settled (Fence p k) h = h
  good_owner_settled (Fenced (Server u) k i) h = h
  good_owner_settled (Fenced MapOwner k i) h = (h.0, h.1, λ e q. absurd (none_told f MapOwner owner number nonce s c g t (HasMap i) e (h.2 e q)))
  good_owner_settled (Settle (Server u) k asked z) h = h
  good_owner_settled (Settle MapOwner k asked z) h = settle_with f f.nonces MapOwner owner (settled_base number) k asked z (omega arith)
      (λ m l d. spent_settled f MapOwner owner number nonce s c g t k asked (settles_below f MapOwner owner number nonce s c g t k l))
      (λ m n e o q. absurd (cc)) h
  good_owner_settled (Settled (Server u) k) h = h
  good_owner_settled (Settled MapOwner k) h = (h.0, λ e. taken_settled f MapOwner owner number nonce s c g t (h.1 e))
  good_owner_settled (Restore u asked k sizes cells) h = h

  -- the map's owner is as it should be
  pub owner_settled : IsOwnerHeld f owner → IsOwnerHeld f (settled_base number)
  owner_settled h = record {
    number = g.below;
    known = refl;
    told = λ u i e. absurd (none_told f MapOwner owner number nonce s c g t (HasMap i) u (h.told u i e));
    taken = λ e. taken_settled f MapOwner owner number nonce s c g t (h.taken e);
  }

-- a server takes a restore
module _ (f : Frame) (v : ℕ) (y : Standing) (owner : Base) (ms : List Message) (nonce number : ℕ) (sizes : Sizes) (cells : ℕ → Cell) (c : IsControllerHeld f) (g : IsGoodRestore f v y ms nonce number sizes cells) (h : IsServerHeld f v y)
    (asks : y.base.nonce ≡ Some nonce) where
  pub good_restored : (m : Message) → addressee m ≡ v → IsSettleBelow v number m → IsGood f y owner ms m → IsGood f (y_restored f v y ms nonce number sizes cells c g h asks) owner ms m
  good_restored (Fence p k) a b q = q
  good_restored (Fenced (Server u) k i) a b q = (q.0, q.1, λ e z. absurd (none_told_there f v y ms nonce number sizes cells c g h asks (HasTold y.cells i) (q.2 e z)))
  good_restored (Fenced MapOwner k i) a b q = q
  good_restored (Settle (Server u) k asked z) a b q = settle_with f f.nonces (Server u) y.base (settled_base number) k asked z (omega arith)
      (λ m l d. spent_restored f v y ms nonce number sizes cells c g h asks k asked (b (ap Server a)))
      (λ m n e o w. absurd (cc)) q
  good_restored (Settle MapOwner k asked z) a b q = q
  good_restored (Settled (Server u) k) a b q = (q.0, λ e. absurd (unpromised f v y ms nonce number sizes cells c g h asks (subst (λ a. f.r.promised a ≡ true) a (q.1 e).promised)))
  good_restored (Settled MapOwner k) a b q = q
  good_restored (Restore u asked k sizes cells) a b q = record { made = q.made; waited = λ e. absurd (cc); lost = λ l e. absurd (cc) }

-- a server serves an order
module _ (f : Frame) (v : ℕ) (y : Standing) (owner : Base) (ms : List Message) (h : IsServerHeld f v y) (known : y.base.nonce ≡ None) (free : y.base.fenced ≡ false) (new : f.r.promised v ≡ false) (none : f.last ≡ None)
    (cells was : ℕ → Cell) (last was_last : ℕ → ℕ) (same : (s : ℕ) → cells s ≡ was s) (lasts : (s : ℕ) → IsAsHigh y.base.number (last s) (was_last s)) (low : (s : ℕ) → last s ≤ f.r.base) (fits : IsWithinRoom y.sizes (λ s u. cells s) v) where
  pub good_served : (m : Message) → IsGood f y owner ms m → IsGood f (y_served f v y h known free new none cells was last was_last same lasts low fits) owner ms m
  good_served (Fence p k) g = g
  good_served (Fenced (Server u) k i) g = (g.0, g.1, λ e q. absurd (not_told f v y h known free new none cells was last was_last same lasts low fits (HasTold y.cells i) (g.2 e q)))
  good_served (Fenced MapOwner k i) g = g
  good_served (Settle (Server u) k asked s) g = g
  good_served (Settle MapOwner k asked s) g = g
  good_served (Settled (Server u) k) g = g
  good_served (Settled MapOwner k) g = g
  good_served (Restore u asked k sizes cells) g = record { made = g.made; waited = λ e. absurd (cc); lost = g.lost }
