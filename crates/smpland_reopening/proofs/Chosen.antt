-- Roles as they are given: pair by pair, shard by shard, and choice by choice.
use Rattle.std.proofs.Common.{◌≡◌, ◌≢◌, ◌∙◌, ◌⊎◌, ◌+◌, ◌<◌, ◌≤◌, ◌++◌, ◌∷◌, [], ℕ, Bool, true, false, List, Option, Some, None, ap, arith, get_or, inl, inr, length, refl, subst, sym, take}
use Rattle.std.specs.Prelude.{Result, Ok, Err, OnOk, ◌==◌, ◌&&◌, ◌||◌, if◌then◌else◌, nat_lt, option_map, slice_get}
use Rattle.std.specs.List.{list_any}
use Rattle.std.specs.Option.{option_map_or, option_or}
use Rattle.std.proofs.lemmas.Bool.{cases_eq, eq-eqb, le-ltb, lt-ltb, ne_eqb}
use Rattle.std.proofs.lemmas.List.{take_more}
use Rattle.std.proofs.lemmas.List.Folds.{list_any-append}
use Rattle.sm_server.specs.declared.call.Role.{Role}
use Rattle.sm_placement.specs.Sums.{put2}
use Rattle.sm_placement.proofs.Sums.{put2-apart, put2-here, put2-row}
use Rattle.sm_placement.specs.Layout.{PlacementModel, place_of}
use Rattle.sm_placement.specs.Place.{Place}
use Rattle.laws_network.specs.Reopening.{Confirm, Settlement, entered}
use Rattle.sm_reopening.specs.Faults.{MayConfirm}
use Rattle.sm_reopening.specs.Ongoing.{net_reopening}
use Rattle.sm_reopening.specs.Proposal.{is_the}
use Rattle.smpland_reopening.specs.Chosen.{IsAsChosen, chosen_role, given_too, is_choice_of, is_replica_of, last_that, proposed_role, role_assigned, role_given, role_by_proposal, roles_with}
use Rattle.smpland_reopening.specs.Confirmed.{KeepsChosen, SettlesChosen, down_in_order, is_down_next, roles_chosen, roles_in_order}
use Rattle.smpland_reopening.specs.Reopening.{ReopeningModel}
use Rattle.smpland_reopening.specs.Settled.{IsPlacedBy}
use Rattle.smpland_reopening.specs.declared.choice.Choice.{Choice}
use Rattle.smpland_reopening.specs.declared.fault.ConfirmRefusal.{ConfirmRefusal}

-- ---- the last of a list's items

-- one more item comes last, if it passes
pub last_more : {A : Type 0} (p : A → Bool) (xs : List A) (x : A) → last_that p (xs ++ x ∷ []) ≡ (if p x then Some x else last_that p xs)
last_more p [] x = by_test (p x)
  where
    by_test : (b : Bool) → (if b then Some x else None) ≡ (if b then Some x else None)
    by_test b = refl
last_more p (y ∷ xs) x = ap (λ o. option_or o (if p y then Some y else None)) (last_more p xs x) ∙ by_test (p x)
  where
    by_test : (b : Bool) → option_or (if b then Some x else last_that p xs) (if p y then Some y else None)
        ≡ (if b then Some x else option_or (last_that p xs) (if p y then Some y else None))
    by_test true = refl
    by_test false = refl

-- ---- one role

abbrev Roles : Type 0
Roles = ℕ → ℕ → Option Role

and_false : (b : Bool) → (b && false) ≡ false
and_false true = refl
and_false false = refl

-- the test of the pair decides
role_if : (f : Roles) (a b : ℕ) (x : Option Role) (s v : ℕ) (t : Bool) → ((a == s) && (b == v)) ≡ t → role_assigned f a b x s v ≡ (if t then x else f s v)
role_if f a b x s v t e = ap (λ (test : Bool). if test then x else f s v) e

-- a role that is put at a pair is given
pub role_assigned_put : (f : Roles) (a b : ℕ) (x : Option Role) (s v : ℕ) → put2 f a b x s v ≡ role_assigned f a b x s v
role_assigned_put f a b x s v = by_pair (cases_eq a s) (cases_eq b v)
  where
    here : a ≡ s → b ≡ v → put2 f a b x s v ≡ x
    here e d = rw (← e, ← d) (put2-here f a b x)

    row : a ≡ s → b ≢ v → put2 f a b x s v ≡ f s v
    row e d = rw (← e) (put2-row f a b x v (λ h. d (sym h)))

    by_pair : (a ≡ s) ⊎ (a ≢ s) → (b ≡ v) ⊎ (b ≢ v) → put2 f a b x s v ≡ role_assigned f a b x s v
    by_pair (inl e) (inl d) = here e d ∙ sym (role_if f a b x s v true (rw (eq-eqb a s e, eq-eqb b v d) refl))
    by_pair (inl e) (inr d) = row e d ∙ sym (role_if f a b x s v false (rw (ne_eqb b v d) (and_false (a == s))))
    by_pair (inr e) _ = put2-apart f a b x s v (λ h. e (sym h)) ∙ sym (role_if f a b x s v false (rw (ne_eqb a s e) refl))

-- one beyond all numbers is not
pub role_assigned_beyond : (f : Roles) (shards servers a b : ℕ) (x : Option Role) (s v : ℕ) → s < shards → v < servers → (shards ≤ a) ⊎ (servers ≤ b) →
    f s v ≡ role_assigned f a b x s v
role_assigned_beyond f shards servers a b x s v k l (inl h) =
    let apart : a ≢ s = λ e. (omega (arith, e, h, k)) in
    sym (role_if f a b x s v false (rw (ne_eqb a s apart) refl))
role_assigned_beyond f shards servers a b x s v k l (inr h) =
    let apart : b ≢ v = λ e. (omega (arith, e, h, l)) in
    sym (role_if f a b x s v false (rw (ne_eqb b v apart) (and_false (a == s))))

-- ---- the roles of one shard

-- the servers below n have their roles
abbrev pub filled : Roles → ℕ → (ℕ → Option Role) → ℕ → Roles
filled f a given n s v = if (a == s) && nat_lt v n then given v else f s v

-- one more server has its role
pub filled_more : (f g h : Roles) (a n : ℕ) (given : ℕ → Option Role) (x : Option Role) (s v : ℕ) → g s v ≡ filled f a given n s v →
    h s v ≡ role_assigned g a n x s v → x ≡ given n → h s v ≡ filled f a given (n + 1) s v
filled_more f g h a n given x s v before now is =
    now ∙ ap (λ o. if (a == s) && (n == v) then x else o) before ∙ by_place (cases_eq n v)
  where
    by_shard : (b c d e : Bool) → (b ≡ true → (c ≡ true → x ≡ given v) × (c ≡ false → d ≡ e) × (c ≡ true → e ≡ true)) →
        (if b && c then x else if b && d then given v else f s v) ≡ (if b && e then given v else f s v)
    by_shard true true d e same = (same refl).0 refl ∙ sym (ap (λ t. if t then given v else f s v) ((same refl).2 refl))
    by_shard true false d e same = ap (λ t. if t then given v else f s v) ((same refl).1 refl)
    by_shard false c d e same = refl

    by_place : (n ≡ v) ⊎ (n ≢ v) →
        (if (a == s) && (n == v) then x else if (a == s) && nat_lt v n then given v else f s v) ≡ (if (a == s) && nat_lt v (n + 1) then given v else f s v)
    by_place (inl e) = by_shard (a == s) (n == v) (nat_lt v n) (nat_lt v (n + 1)) (λ _. (λ _. is ∙ ap given e, λ c. absurd (let z : true ≡ false = sym (eq-eqb n v e) ∙ c in cc), λ _. grind (arith, e)))
    by_place (inr e) = by_shard (a == s) (n == v) (nat_lt v n) (nat_lt v (n + 1)) (λ _. (λ c. absurd (let z : false ≡ true = sym (ne_eqb n v e) ∙ c in cc), λ _. grind (arith, e), λ c. absurd (let z : false ≡ true = sym (ne_eqb n v e) ∙ c in cc)))

-- none has
pub filled_none : (f : Roles) (a : ℕ) (given : ℕ → Option Role) (s v : ℕ) → f s v ≡ filled f a given 0 s v
filled_none f a given s v =
    let none : nat_lt v 0 ≡ false = le-ltb v 0 (omega arith) in
    sym (ap (λ (t : Bool). if t then given v else f s v) (ap (λ (b : Bool). (a == s) && b) none ∙ and_false (a == s)))

-- all have
pub filled_all : (f : Roles) (a n : ℕ) (given : ℕ → Option Role) (s v : ℕ) → v < n → filled f a given n s v ≡ roles_with f (Some a) given s v
filled_all f a n given s v l = rw (lt-ltb v n l) (by_shard (a == s))
  where
    by_shard : (b : Bool) → (if b && true then given v else f s v) ≡ (if b then given v else f s v)
    by_shard true = refl
    by_shard false = refl

-- ---- the replicas of a choice

-- one more replica gives its server a role
role_more : (servers : List ℕ) (replicas : List (ℕ × Role)) (replica : ℕ × Role) (v : ℕ) → role_given servers (replicas ++ replica ∷ []) v
    ≡ (if is_the (slice_get servers replica.0) v then Some replica.1 else role_given servers replicas v)
role_more servers replicas replica v =
    ap (option_map (λ (r : ℕ × Role). r.1)) (last_more (is_replica_of servers v) replicas replica) ∙ by_test (is_the (slice_get servers replica.0) v)
  where
    by_test : (b : Bool) → option_map (λ (r : ℕ × Role). r.1) (if b then Some replica else last_that (is_replica_of servers v) replicas)
        ≡ (if b then Some replica.1 else role_given servers replicas v)
    by_test true = refl
    by_test false = refl

-- the replicas so far, and one more
pub given_more : (f g h : Roles) (a : ℕ) (servers : List ℕ) (replicas : List (ℕ × Role)) (n : ℕ) (d : ℕ × Role) (s v : ℕ) → n < length replicas →
    g s v ≡ roles_with f (Some a) (role_given servers (take n replicas)) s v →
    h s v ≡ given_too g a (slice_get servers (get_or replicas n d).0) (get_or replicas n d).1 s v →
    h s v ≡ roles_with f (Some a) (role_given servers (take (n + 1) replicas)) s v
given_more f g h a servers replicas n d s v l before now =
    let x = get_or replicas n d in
    now ∙ ap (λ o. if (a == s) && is_the (slice_get servers x.0) v then Some x.1 else o) before
    ∙ by_shard (a == s) (is_the (slice_get servers x.0) v) x (role_given servers (take n replicas) v)
    ∙ sym (ap (λ o. if a == s then o else f s v) (ap (λ xs. role_given servers xs v) (take_more replicas n d l) ∙ role_more servers (take n replicas) x v))
  where
    by_shard : (b c : Bool) (x : ℕ × Role) (o : Option Role) → (if b && c then Some x.1 else if b then o else f s v)
        ≡ (if b then (if c then Some x.1 else o) else f s v)
    by_shard true c x o = refl
    by_shard false c x o = refl

-- ---- what is proposed

-- the shards so far, and one more
pub proposed_more : (r : ReopeningModel) (g h : Roles) (n t s v : ℕ) → n < length r.shards → t ≡ get_or r.shards n t →
    g s v ≡ (if list_any (λ k. k == s) (take n r.shards) then role_by_proposal r s v else None) →
    h s v ≡ roles_with g (Some t) (role_by_proposal r t) s v →
    h s v ≡ (if list_any (λ k. k == s) (take (n + 1) r.shards) then role_by_proposal r s v else None)
proposed_more r g h n t s v l is before now =
    now ∙ ap (λ o. if t == s then role_by_proposal r t v else o) before ∙ by_shard (cases_eq t s)
    ∙ sym (ap (λ b. if b then role_by_proposal r s v else None) (ap (list_any (λ k. k == s)) (take_more r.shards n t l ∙ ap (λ k. take n r.shards ++ k ∷ []) (sym is))
    ∙ list_any-append (λ k. k == s) (take n r.shards) (t ∷ [])))
  where
    rest : Bool
    rest = list_any (λ k. k == s) (take n r.shards)

    or_true : (b : Bool) → (b || true) ≡ true
    or_true true = refl
    or_true false = refl

    or_false : (b : Bool) → (b || false) ≡ b
    or_false true = refl
    or_false false = refl

    by_shard : (t ≡ s) ⊎ (t ≢ s) → (if t == s then role_by_proposal r t v else if rest then role_by_proposal r s v else None)
        ≡ (if rest || ((t == s) || false) then role_by_proposal r s v else None)
    by_shard (inl e) = rw (eq-eqb t s e) (ap (λ k. role_by_proposal r k v) e ∙ sym (ap (λ b. if b then role_by_proposal r s v else None) (or_true rest)))
    by_shard (inr e) = rw (ne_eqb t s e) (sym (ap (λ b. if b then role_by_proposal r s v else None) (or_false rest)))

-- ---- what is chosen

-- the choices so far, and one more
pub chosen_more : (r : ReopeningModel) (chosen : List Choice) (n : ℕ) (d : Choice) (g h : Roles) (s v : ℕ) → n < length chosen →
    g s v ≡ chosen_role r (take n chosen) s v →
    h s v ≡ roles_with g (slice_get r.shards (get_or chosen n d).shard) (role_given r.servers (get_or chosen n d).replicas.items) s v →
    h s v ≡ chosen_role r (take (n + 1) chosen) s v
chosen_more r chosen n d g h s v l before now =
    let x = get_or chosen n d in
    now ∙ ap (λ o. if is_the (slice_get r.shards x.shard) s then role_given r.servers x.replicas.items v else o) before
    ∙ by_shard (is_the (slice_get r.shards x.shard) s) x (last_that (is_choice_of r.shards s) (take n chosen))
    ∙ sym (ap role (ap (last_that (is_choice_of r.shards s)) (take_more chosen n d l) ∙ last_more (is_choice_of r.shards s) (take n chosen) x))
  where
    role : Option Choice → Option Role
    role o = option_map_or (λ (choice : Choice). role_given r.servers choice.replicas.items v) o (proposed_role r s v)

    by_shard : (b : Bool) (x : Choice) (o : Option Choice) → (if b then role_given r.servers x.replicas.items v else role o) ≡ role (if b then Some x else o)
    by_shard true x o = refl
    by_shard false x o = refl

-- the same, as the code names what it takes
pub chosen_step : (r : ReopeningModel) (chosen : List Choice) (n : ℕ) (x : Choice) (shards servers : List ℕ) (g h : Roles) (s v : ℕ) → n < length chosen →
    x ≡ get_or chosen n x → shards ≡ r.shards → servers ≡ r.servers →
    g s v ≡ chosen_role r (take n chosen) s v →
    h s v ≡ roles_with g (slice_get shards x.shard) (role_given servers x.replicas.items) s v →
    h s v ≡ chosen_role r (take (n + 1) chosen) s v
chosen_step r chosen n x shards servers g h s v l is same those before now =
    chosen_more r chosen n x g h s v l before
    (now
    ∙ ap (λ ks. roles_with g (slice_get ks x.shard) (role_given servers x.replicas.items) s v) same
    ∙ ap (λ vs. roles_with g (slice_get r.shards x.shard) (role_given vs x.replicas.items) s v) those
    ∙ ap (λ (c : Choice). roles_with g (slice_get r.shards c.shard) (role_given r.servers c.replicas.items) s v) is)

-- so are the shards
pub proposed_step : (r : ReopeningModel) (shards : List ℕ) (g h : Roles) (n t s v : ℕ) → shards ≡ r.shards → n < length shards → t ≡ get_or shards n t →
    g s v ≡ (if list_any (λ k. k == s) (take n r.shards) then role_by_proposal r s v else None) →
    h s v ≡ roles_with g (Some t) (role_by_proposal r t) s v →
    h s v ≡ (if list_any (λ k. k == s) (take (n + 1) r.shards) then role_by_proposal r s v else None)
proposed_step r shards g h n t s v same l is before now =
    proposed_more r g h n t s v (subst (λ ks. n < length ks) same l) (is ∙ ap (λ ks. get_or ks n t) same) before now

-- so are the replicas
pub given_step : (f g h : Roles) (a : ℕ) (servers : List ℕ) (replicas : List (ℕ × Role)) (n : ℕ) (x : ℕ × Role) (s v : ℕ) → n < length replicas → x ≡ get_or replicas n x →
    g s v ≡ roles_with f (Some a) (role_given servers (take n replicas)) s v →
    h s v ≡ given_too g a (slice_get servers x.0) x.1 s v →
    h s v ≡ roles_with f (Some a) (role_given servers (take (n + 1) replicas)) s v
given_step f g h a servers replicas n x s v l is before now =
    given_more f g h a servers replicas n x s v l before (now ∙ ap (λ (r : ℕ × Role). given_too g a (slice_get servers r.0) r.1 s v) is)

-- ---- what is confirmed

-- a confirmed settlement is that of the roles that were chosen, if the placement that was to be confirmed is
pub confirmed_as : {A : Type 0} (old new : ReopeningModel) (chosen : List Choice) (q : PlacementModel) (result : Result A ConfirmRefusal) →
    OnOk result ((s : Settlement) × MayConfirm old.ongoing s × (net_reopening new.ongoing ≡ entered (Confirm s) (net_reopening old.ongoing)) × (s.place ≡ place_of q)
    × (s.setup ≡ q.setup) × (s.room ≡ old.document.log)) →
    IsAsChosen old chosen (place_of q) → IsPlacedBy old.numbering (roles_chosen old chosen) (is_down_next old) old.document.limit q →
    OnOk result ((s : Settlement) × MayConfirm old.ongoing s × (net_reopening new.ongoing ≡ entered (Confirm s) (net_reopening old.ongoing)) × IsAsChosen old chosen s.place
    × SettlesChosen old chosen s)
confirmed_as old new chosen q (Ok x) p is placed = (
  p.0,
  p.1,
  p.2,
  subst (λ (w : Place). IsAsChosen old chosen w) (sym p.3) is,
  record { setup = p.4 ∙ placed.setup; place = p.3 ∙ placed.place; room = p.5 },
)
confirmed_as old new chosen q (Err e) p is placed = tt

-- and the next driver opens with it in the document's order
pub kept_as : {A : Type 0} (old new : ReopeningModel) (chosen : List Choice) (q : PlacementModel) (result : Result A ConfirmRefusal) → OnOk result (new.next ≡ Some q) →
    IsPlacedBy old.document.config (roles_in_order old (roles_chosen old chosen)) (down_in_order old) old.document.limit q → OnOk result (KeepsChosen old new chosen)
kept_as old new chosen q (Ok x) is placed = record { placement = q; kept = is; placed = placed }
kept_as old new chosen q (Err e) is placed = tt
