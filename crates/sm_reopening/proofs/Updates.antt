-- The servers of a reopening once one of them has changed.
use Rattle.std.proofs.Common.{◌≡◌, ◌≢◌, ◌∙◌, ◌<◌, ◌≤◌, ℕ, Bool, true, false, Option, Some, None, List, length, length-set, set, ltb, map, get_or, ◌+◌, refl, sym, ap, subst, arith, inl, inr}
use Rattle.std.specs.Prelude.{◌&&◌, ◌||◌, ◌==◌, is_some, max, option_map, slice_index_or, if◌then◌else◌}
use Rattle.std.proofs.Math.Path.{fun_ext}
use Rattle.std.proofs.Math.ListN.{get_or-map}
use Rattle.std.proofs.lemmas.Bool.{cases_eq, cases_lt, eq-eqb, le-ltb, lt-ltb, ne_eqb}
use Rattle.std.proofs.lemmas.List.{get_or-set_same, get_or-set_other, get_or_past, length-map}
use Rattle.laws_network.specs.Reopening.{Inventory, MapOwner, Party, Reopen, Reopening, Server, Settlement, entered, is_party, put_party}
use Rattle.laws_network.specs.ReopeningLaws.{no_reopening}
use Rattle.sm_reopening.specs.declared.party.Inventory.{Inventory as Told}
use Rattle.sm_reopening.specs.declared.party.Membership.{Membership}
use Rattle.sm_reopening.specs.declared.party.Membership.TheVariants.{Member}
use Rattle.sm_reopening.specs.declared.state.ServerState.{ServerState}
use Rattle.sm_reopening.specs.declared.state.Confirmed.{Confirmed}
use Rattle.sm_reopening.specs.States.{AreNextStates, FitsShards, next_state, fits_told, fresh_state, is_gone, is_leaving, is_left_out, says_lost, left_out_by, net_inventory, no_copies, copy_by, promised_by, reopening_by, settled_by, settlement_by, state_by, told_by, told_copy}

-- the server that has changed
pub state_here : (xs : List ServerState) (i : ℕ) (y : ServerState) → i < length xs → state_by (set xs i y) i ≡ y
state_here xs i y l = get_or-set_same xs i y (fresh_state Member) l

-- each other one is as it was
pub state_apart : (xs : List ServerState) (i : ℕ) (y : ServerState) (v : ℕ) → v ≢ i → state_by (set xs i y) v ≡ state_by xs v
state_apart xs i y v n = get_or-set_other xs i v y (fresh_state Member) n

-- something of each server, by its number
abbrev pub of_each : {A : Type 0} → (ServerState → A) → List ServerState → ℕ → A
of_each f xs v = f (state_by xs v)

-- what has not changed of the server has not changed of any
pub same_of_all : {A : Type 0} (f : ServerState → A) (xs : List ServerState) (i : ℕ) (y : ServerState) → i < length xs → f y ≡ f (state_by xs i) → of_each f (set xs i y) ≡ of_each f xs
same_of_all f xs i y l e = fun_ext (λ v. elim (cases_eq v i) [
  | inl d ↦ ap (λ k. f (state_by (set xs i y) k)) d ∙ ap f (state_here xs i y l) ∙ e ∙ ap (λ k. f (state_by xs k)) (sym d)
  | inr d ↦ ap f (state_apart xs i y v d)
])

-- a server has told something now
pub told_put : (xs : List ServerState) (map : Bool) (i : ℕ) (y : ServerState) → i < length xs → told_by (set xs i y) map ≡ put_party (told_by xs map) (Server i) (option_map net_inventory y.told)
told_put xs map i y l = fun_ext at
  where
    after : ℕ → Option Inventory
    after v = option_map net_inventory (state_by (set xs i y) v).told

    at : (p : Party) → told_by (set xs i y) map p ≡ put_party (told_by xs map) (Server i) (option_map net_inventory y.told) p
    at (Server v) = elim (cases_eq v i) [
      | inl d ↦ ap after d ∙ ap (λ (s : ServerState). option_map net_inventory s.told) (state_here xs i y l) ∙ ap (λ (b : Bool). if b then option_map net_inventory y.told else told_by xs map (Server v)) (sym (eq-eqb v i d))
      | inr d ↦ ap (λ (s : ServerState). option_map net_inventory s.told) (state_apart xs i y v d) ∙ ap (λ (b : Bool). if b then option_map net_inventory y.told else told_by xs map (Server v)) (sym (ne_eqb v i d))
    ]
    at MapOwner = refl

-- it has told nothing new
pub told_same : (xs : List ServerState) (map : Bool) (i : ℕ) (y : ServerState) → i < length xs → y.told ≡ (state_by xs i).told → told_by (set xs i y) map ≡ told_by xs map
told_same xs map i y l e = fun_ext at
  where
    at : (p : Party) → told_by (set xs i y) map p ≡ told_by xs map p
    at (Server v) = ap (λ (f : ℕ → Option Told). option_map net_inventory (f v)) (same_of_all (λ (s : ServerState). s.told) xs i y l e)
    at MapOwner = refl

-- it has not settled now
pub settled_same : (xs : List ServerState) (map : Bool) (i : ℕ) (y : ServerState) → i < length xs → y.settled ≡ (state_by xs i).settled → settled_by (set xs i y) map ≡ settled_by xs map
settled_same xs map i y l e = fun_ext at
  where
    at : (p : Party) → settled_by (set xs i y) map p ≡ settled_by xs map p
    at (Server v) = ap (λ (f : ℕ → Bool). f v) (same_of_all (λ (s : ServerState). s.settled) xs i y l e)
    at MapOwner = refl

-- it has settled now
pub settled_put : (xs : List ServerState) (map : Bool) (i : ℕ) (y : ServerState) → i < length xs → y.settled ≡ true → settled_by (set xs i y) map ≡ put_party (settled_by xs map) (Server i) true
settled_put xs map i y l e = fun_ext at
  where
    at : (p : Party) → settled_by (set xs i y) map p ≡ put_party (settled_by xs map) (Server i) true p
    at (Server v) = elim (cases_eq v i) [
      | inl d ↦ ap (λ k. (state_by (set xs i y) k).settled) d ∙ ap (λ (s : ServerState). s.settled) (state_here xs i y l) ∙ e ∙ ap (λ (b : Bool). if b then true else settled_by xs map (Server v)) (sym (eq-eqb v i d))
      | inr d ↦ ap (λ (s : ServerState). s.settled) (state_apart xs i y v d) ∙ ap (λ (b : Bool). if b then true else settled_by xs map (Server v)) (sym (ne_eqb v i d))
    ]
    at MapOwner = refl

-- the map's owner has told now
pub map_told_put : (xs : List ServerState) → told_by xs true ≡ put_party (told_by xs false) MapOwner (told_by xs true MapOwner)
map_told_put xs = fun_ext at
  where
    at : (p : Party) → told_by xs true p ≡ put_party (told_by xs false) MapOwner (told_by xs true MapOwner) p
    at (Server v) = refl
    at MapOwner = refl

-- the map's owner has settled now
pub map_settled_put : (xs : List ServerState) (map : Bool) → settled_by xs true ≡ put_party (settled_by xs map) MapOwner true
map_settled_put xs map = fun_ext at
  where
    at : (p : Party) → settled_by xs true p ≡ put_party (settled_by xs map) MapOwner true p
    at (Server v) = refl
    at MapOwner = refl

-- no settle was promised to who has told now, if nothing is confirmed
pub promised_same : (xs : List ServerState) (c : Option Confirmed) (i : ℕ) (y : ServerState) → i < length xs → is_some c ≡ false → y.promised ≡ (state_by xs i).promised → promised_by (set xs i y) c ≡ promised_by xs c
promised_same xs c i y l n e =
    let f : ServerState → Bool = λ s. s.promised || (is_some c && is_some (option_map net_inventory s.told)) in
    same_of_all f xs i y l
    (ap (λ b. y.promised || (b && is_some (option_map net_inventory y.told))) n ∙ ap (λ b. b || false) e ∙ ap (λ b. (state_by xs i).promised || (b && is_some (option_map net_inventory (state_by xs i).told))) (sym n))

-- nor to who has settled now
pub promised_still : (xs : List ServerState) (c : Option Confirmed) (i : ℕ) (y : ServerState) → i < length xs → y.promised ≡ (state_by xs i).promised → y.told ≡ (state_by xs i).told → promised_by (set xs i y) c ≡ promised_by xs c
promised_still xs c i y l e d =
    let f : ServerState → Bool = λ s. s.promised || (is_some c && is_some (option_map net_inventory s.told)) in
    same_of_all f xs i y l (ap (λ b. b || (is_some c && is_some (option_map net_inventory y.told))) e ∙ ap (λ (t : Option Told). (state_by xs i).promised || (is_some c && is_some (option_map net_inventory t))) d)

-- the copies once a server has told
pub copy_put : (xs : List ServerState) (i : ℕ) (y : ServerState) (s v : ℕ) → i < length xs →
    copy_by (set xs i y) s v ≡ (if v == i then told_copy y.told s else copy_by xs s v)
copy_put xs i y s v l = elim (cases_eq v i) [
  | inl d ↦ ap (λ k. told_copy (state_by (set xs i y) k).told s) d ∙ ap (λ (t : ServerState). told_copy t.told s) (state_here xs i y l) ∙ ap (λ (b : Bool). if b then told_copy y.told s else copy_by xs s v) (sym (eq-eqb v i d))
  | inr d ↦ ap (λ (t : ServerState). told_copy t.told s) (state_apart xs i y v d) ∙ ap (λ (b : Bool). if b then told_copy y.told s else copy_by xs s v) (sym (ne_eqb v i d))
]

-- no inventory has become too long
pub fits_put : (shards : ℕ) (xs : List ServerState) (i : ℕ) (y : ServerState) → i < length xs → FitsShards shards xs → fits_told shards y.told ≡ true → FitsShards shards (set xs i y)
fits_put shards xs i y l fits new v = elim (cases_eq v i) [
  | inl d ↦ ap (λ k. fits_told shards (state_by (set xs i y) k).told) d ∙ ap (λ (s : ServerState). fits_told shards s.told) (state_here xs i y l) ∙ new
  | inr d ↦ ap (λ (s : ServerState). fits_told shards s.told) (state_apart xs i y v d) ∙ fits v
]

-- ---- the reopening of which the network's laws speak

abbrev reopening_made : ℕ → ℕ → (ℕ → Bool) → (Party → Option Inventory) → Option Settlement → (Party → Bool) → (ℕ → Bool) → Reopening
reopening_made b n l t s d p = record { base = b; servers = n; lost = l; told = t; settlement = s; settled = d; promised = p }

same_made : (b : ℕ) (s : Option Settlement) (n m : ℕ) (l k : ℕ → Bool) (t u : Party → Option Inventory) (d e : Party → Bool) (p q : ℕ → Bool) → n ≡ m → l ≡ k → t ≡ u → d ≡ e → p ≡ q →
    reopening_made b n l t s d p ≡ reopening_made b m k u s e q
same_made b s n m l k t u d e p q en el et ed ep =
    ap (λ x. reopening_made b x l t s d p) en ∙ ap (λ (x : ℕ → Bool). reopening_made b m x t s d p) el ∙ ap (λ (x : Party → Option Inventory). reopening_made b m k x s d p) et
    ∙ ap (λ (x : Party → Bool). reopening_made b m k u s x p) ed ∙ ap (λ (x : ℕ → Bool). reopening_made b m k u s e x) ep

-- a server has told
pub told_reopening : (b : ℕ) (xs : List ServerState) (mt ms : Bool) (c : Option Confirmed) (i : ℕ) (y : ServerState) → i < length xs → is_some c ≡ false →
    y.membership ≡ (state_by xs i).membership → y.settled ≡ (state_by xs i).settled → y.promised ≡ (state_by xs i).promised →
    reopening_by b (set xs i y) mt ms c ≡ record (reopening_by b xs mt ms c) { told = put_party (told_by xs mt) (Server i) (option_map net_inventory y.told) }
told_reopening b xs mt ms c i y l n em es ep =
    same_made b (option_map settlement_by c) (length (set xs i y)) (length xs) (of_each (λ (s : ServerState). is_gone s.membership) (set xs i y)) (of_each (λ (s : ServerState). is_gone s.membership) xs)
    (told_by (set xs i y) mt) (put_party (told_by xs mt) (Server i) (option_map net_inventory y.told)) (settled_by (set xs i y) ms) (settled_by xs ms) (promised_by (set xs i y) c) (promised_by xs c)
    (length-set xs i y) (same_of_all (λ (s : ServerState). is_gone s.membership) xs i y l (ap is_gone em)) (told_put xs mt i y l) (settled_same xs ms i y l es) (promised_same xs c i y l n ep)

-- a server has settled
pub settled_reopening : (b : ℕ) (xs : List ServerState) (mt ms : Bool) (c : Option Confirmed) (i : ℕ) (y : ServerState) → i < length xs →
    y.membership ≡ (state_by xs i).membership → y.told ≡ (state_by xs i).told → y.settled ≡ true → y.promised ≡ (state_by xs i).promised →
    reopening_by b (set xs i y) mt ms c ≡ record (reopening_by b xs mt ms c) { settled = put_party (settled_by xs ms) (Server i) true }
settled_reopening b xs mt ms c i y l em et es ep =
    same_made b (option_map settlement_by c) (length (set xs i y)) (length xs) (of_each (λ (s : ServerState). is_gone s.membership) (set xs i y)) (of_each (λ (s : ServerState). is_gone s.membership) xs)
    (told_by (set xs i y) mt) (told_by xs mt) (settled_by (set xs i y) ms) (put_party (settled_by xs ms) (Server i) true) (promised_by (set xs i y) c) (promised_by xs c)
    (length-set xs i y) (same_of_all (λ (s : ServerState). is_gone s.membership) xs i y l (ap is_gone em)) (told_same xs mt i y l et) (settled_put xs ms i y l es) (promised_still xs c i y l ep et)

-- who is left out stays so
pub left_out_same : (xs : List ServerState) (i : ℕ) (y : ServerState) → i < length xs → y.membership ≡ (state_by xs i).membership → left_out_by (set xs i y) ≡ left_out_by xs
left_out_same xs i y l e = same_of_all (λ (s : ServerState). is_leaving s.membership) xs i y l (ap is_leaving e)

-- copies stay unless a server tells
pub copy_same : (xs : List ServerState) (i : ℕ) (y : ServerState) → i < length xs → y.told ≡ (state_by xs i).told → copy_by (set xs i y) ≡ copy_by xs
copy_same xs i y l e = fun_ext (λ s. same_of_all (λ (t : ServerState). told_copy t.told s) xs i y l (ap (λ (o : Option Told). told_copy o s) e))

-- who has told is one of the servers
pub told_is_known : (xs : List ServerState) (mt : Bool) (v : ℕ) → is_some (told_by xs mt (Server v)) ≡ true → v < length xs
told_is_known xs mt v e = elim (cases_lt v (length xs)) [
  | inl l ↦ l
  | inr l ↦ absurd (let none = ap (λ (s : ServerState). is_some (option_map net_inventory s.told)) (get_or_past xs v (fresh_state Member) l) in let z = sym none ∙ e in cc)
]

-- ---- before any answer

-- a server that nobody has asked yet
pub fresh_at : (ms : List Membership) (v : ℕ) → state_by (map fresh_state ms) v ≡ fresh_state (slice_index_or ms v Member)
fresh_at ms v = get_or-map fresh_state ms v Member

-- nobody has told where the reopening begins
pub fresh_reopening : (b n : ℕ) (ms : List Membership) → n ≤ length ms → reopening_by b (map fresh_state ms) false false None ≡ entered (Reopen b (length ms) (says_lost ms)) (no_reopening n)
fresh_reopening b n ms l =
    same_made b None (length (map fresh_state ms)) (max n (length ms)) (of_each (λ (s : ServerState). is_gone s.membership) (map fresh_state ms)) (says_lost ms)
    (told_by (map fresh_state ms) false) (λ p. None) (settled_by (map fresh_state ms) false) (λ p. false) (promised_by (map fresh_state ms) None) (λ v. false)
    (let e = length-map ms fresh_state in omega arith)
    (fun_ext (λ v. ap (λ (s : ServerState). is_gone s.membership) (fresh_at ms v))) (fun_ext told) (fun_ext settled)
    (fun_ext (λ v. ap (λ (s : ServerState). s.promised || false) (fresh_at ms v)))
  where
    told : (p : Party) → told_by (map fresh_state ms) false p ≡ None
    told (Server v) = ap (λ (s : ServerState). option_map net_inventory s.told) (fresh_at ms v)
    told MapOwner = refl

    settled : (p : Party) → settled_by (map fresh_state ms) false p ≡ false
    settled (Server v) = ap (λ (s : ServerState). s.settled) (fresh_at ms v)
    settled MapOwner = refl

-- no copy is known
pub fresh_copies : (ms : List Membership) → copy_by (map fresh_state ms) ≡ no_copies
fresh_copies ms = fun_ext (λ s. fun_ext (λ v. ap (λ (t : ServerState). told_copy t.told s) (fresh_at ms v)))

-- who the document leaves out
pub fresh_left_out : (ms : List Membership) → left_out_by (map fresh_state ms) ≡ is_left_out ms
fresh_left_out ms = fun_ext (λ v. ap (λ (s : ServerState). is_leaving s.membership) (fresh_at ms v))

-- and no inventory is too long
pub fresh_fits : (shards : ℕ) (ms : List Membership) → FitsShards shards (map fresh_state ms)
fresh_fits shards ms v = ap (λ (s : ServerState). fits_told shards s.told) (fresh_at ms v)

-- ---- where a reopening replaces another one

-- a settle to one more server is known
pub next_states_more : (ms : List Membership) (promised : ℕ → Bool) (xs : List ServerState) (i : ℕ) (y : ServerState) → i < length xs →
    AreNextStates ms (λ v. ltb v i && promised v) xs → y ≡ record (state_by xs i) { promised = promised i } → AreNextStates ms (λ v. ltb v (i + 1) && promised v) (set xs i y)
next_states_more ms promised xs i y l known e = (
  length-set xs i y ∙ known.0,
  λ v. elim (cases_eq v i) [
    | inl d ↦ subst (λ k. state_by (set xs i y) k ≡ next_state (slice_index_or ms k Member) (ltb k (i + 1) && promised k)) (sym d)
        (state_here xs i y l ∙ e ∙ ap (λ (s : ServerState). record s { promised = promised i }) (known.1 i)
        ∙ ap (λ b. next_state (slice_index_or ms i Member) (b && promised i)) (sym (lt-ltb i (i + 1) (omega arith))))
    | inr d ↦ state_apart xs i y v d ∙ known.1 v ∙ ap (λ b. next_state (slice_index_or ms v Member) (b && promised v)) (elim (cases_lt v i) [
      | inl m ↦ lt-ltb v i m ∙ sym (lt-ltb v (i + 1) (omega arith))
      | inr m ↦ le-ltb v i m ∙ sym (le-ltb v (i + 1) (omega arith))
    ])
  ],
)

-- the reopening that replaces another one
pub next_reopening : (b : ℕ) (ms : List Membership) (xs : List ServerState) (r : Reopening) → r.servers ≤ length ms → AreNextStates ms r.promised xs →
    reopening_by b xs false false None ≡ entered (Reopen b (length ms) (says_lost ms)) r
next_reopening b ms xs r l known =
    same_made b None (length xs) (max r.servers (length ms)) (of_each (λ (s : ServerState). is_gone s.membership) xs) (says_lost ms)
    (told_by xs false) (λ p. None) (settled_by xs false) (λ p. false) (promised_by xs None) r.promised
    (let e = known.0 in omega arith)
    (fun_ext (λ v. ap (λ (s : ServerState). is_gone s.membership) (known.1 v))) (fun_ext told) (fun_ext settled)
    (fun_ext (λ v. ap (λ (s : ServerState). s.promised || false) (known.1 v) ∙ or_none (r.promised v)))
  where
    told : (p : Party) → told_by xs false p ≡ None
    told (Server v) = ap (λ (s : ServerState). option_map net_inventory s.told) (known.1 v)
    told MapOwner = refl

    settled : (p : Party) → settled_by xs false p ≡ false
    settled (Server v) = ap (λ (s : ServerState). s.settled) (known.1 v)
    settled MapOwner = refl

    or_none : (b : Bool) → (b || false) ≡ b
    or_none true = refl
    or_none false = refl

-- no copy is known there
pub next_copies : (ms : List Membership) (p : ℕ → Bool) (xs : List ServerState) → AreNextStates ms p xs → copy_by xs ≡ no_copies
next_copies ms p xs known = fun_ext (λ s. fun_ext (λ v. ap (λ (t : ServerState). told_copy t.told s) (known.1 v)))

-- who the document leaves out
pub next_left_out : (ms : List Membership) (p : ℕ → Bool) (xs : List ServerState) → AreNextStates ms p xs → left_out_by xs ≡ is_left_out ms
next_left_out ms p xs known = fun_ext (λ v. ap (λ (s : ServerState). is_leaving s.membership) (known.1 v))

-- and no inventory is too long
pub next_fits : (shards : ℕ) (ms : List Membership) (p : ℕ → Bool) (xs : List ServerState) → AreNextStates ms p xs → FitsShards shards xs
next_fits shards ms p xs known v = ap (λ (s : ServerState). fits_told shards s.told) (known.1 v)

-- before the first of them
pub next_states_first : (ms : List Membership) (promised : ℕ → Bool) (xs : List ServerState) → xs ≡ map fresh_state ms → AreNextStates ms (λ v. ltb v 0 && promised v) xs
next_states_first ms promised xs e = (
  ap length e ∙ length-map ms fresh_state,
  λ v.
      ap (λ (ys : List ServerState). state_by ys v) e ∙ fresh_at ms v ∙ ap (λ b. next_state (slice_index_or ms v Member) (b && promised v)) (sym (le-ltb v 0 (omega arith))),
)

-- and behind the last
pub next_states_end : (ms : List Membership) (promised : ℕ → Bool) (xs : List ServerState) (n : ℕ) → ((v : ℕ) → n ≤ v → promised v ≡ false) → AreNextStates ms (λ v. ltb v n && promised v) xs → AreNextStates ms promised xs
next_states_end ms promised xs n past known = (
  known.0,
  λ v. known.1 v ∙ ap (next_state (slice_index_or ms v Member)) (elim (cases_lt v n) [
    | inl l ↦ ap (λ b. b && promised v) (lt-ltb v n l)
    | inr l ↦ ap (λ b. b && promised v) (le-ltb v n l) ∙ sym (past v l)
  ]),
)

-- no settle was sent to a server past all numbers
pub promised_past : (xs : List ServerState) (c : Option Confirmed) (v : ℕ) → length xs ≤ v → promised_by xs c v ≡ false
promised_past xs c v l =
    ap (λ (s : ServerState). s.promised || (is_some c && is_some (option_map net_inventory s.told))) (get_or_past xs v (fresh_state Member) l) ∙ none_sent (is_some c)
  where
    none_sent : (b : Bool) → (false || (b && false)) ≡ false
    none_sent true = refl
    none_sent false = refl
