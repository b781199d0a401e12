-- A change that is made of a line of the table of rights: what it says of the hold, and what a refusal says.
use Rattle.std.proofs.Common.{◌≡◌, ◌⊎◌, ◌≤◌, ℕ, refl, sym, ap, subst, ◌∙◌, arith, inl, inr, Option, Some, None, Result, Ok, Err}
use Rattle.std.specs.Prelude.{IfOk, IfErr, IfSome, Bool, true, false, if◌then◌else◌}
use Rattle.sm_server.specs.declared.call.Role.TheVariants as role
use Rattle.sm_placement.specs.declared.lead.Lead.{Lead}
use Rattle.sm_placement.specs.declared.lead.Lead.TheVariants.{Gone, At, Ready, Handing, Handed}
use Rattle.sm_placement.specs.Setup.{Sizes}
use Rattle.sm_reservation.specs.declared.change.Change.{Change as Exchange}
use Rattle.sm_reservation.specs.Rights.{Rights, no_rights}
use Rattle.sm_reservation.specs.Hold.{Hold, minus, plus}
use Rattle.sm_reservation.specs.HoldOf.{hold_of}
use Rattle.sm_reservation.specs.CanJoin.{AreApart}
use Rattle.sm_reservation.specs.Change.{portion_rights}
use Rattle.sm_reservation.specs.Short.{first_short}
use Rattle.sm_plan_code.specs.declared.instruction.Instr.{Instr}
use Rattle.sm_plan_code.specs.declared.instruction.Instr.TheVariants.{PrepareAdd, PrepareDrop, Add, Drop, Change, Publish, Unlist, Signal, Wait}
use Rattle.sm_plan_code.specs.declared.instruction.Why.{Why}
use Rattle.sm_plan_code.specs.declared.limits.TheConstants.{MOST_AMOUNT}
use Rattle.sm_plan_code.specs.Instr.{IsOwn, shard_of}
use Rattle.sm_plan_code.specs.After.{after, first_why, line_of, unless_refused, listed_of, lead_held, has_right}
use Rattle.sm_plan_code.specs.Table.{exchanged, exchange_of, gives_of, no_exchange, nothing, IsSmallPortion, add_primary_exchange, drop_held_exchange, drop_led_exchange, publish_exchange, unlist_exchange}
use Rattle.sm_plan_code.proofs.Exchanges.{lines_exchange, has_neither}

-- what holds of each value that a result may be Ok with holds of it, if it is Ok
pub each_ok : {X Y : Type 0} (P : X → Type 0) (r : Result X Y) → ((x : X) → r ≡ Ok x → P x) → IfOk r P
each_ok P (Ok x) f = f x refl
each_ok P (Err y) f = tt

-- what holds of each error that it may be holds of it, if it is one
pub each_err : {X Y : Type 0} (P : Y → Type 0) (r : Result X Y) → ((y : Y) → r ≡ Err y → P y) → IfErr r P
each_err P (Ok x) f = tt
each_err P (Err y) f = f y refl

unless_ok : {X : Type 0} (o : Option Why) (x y : X) → unless_refused o x ≡ Ok y → (o ≡ None) × (x ≡ y)
unless_ok None x y e = (refl, cc)
unless_ok (Some why) x y e = cc

unless_err : {X : Type 0} (o : Option Why) (x : X) (why : Why) → unless_refused o x ≡ Err why → o ≡ Some why
unless_err None x why e = cc
unless_err (Some w) x why e = cc

own_or : (i : Instr) → IsOwn i ⊎ (¬ IsOwn i)
own_or (PrepareAdd s v u) = inl tt
own_or (PrepareDrop s u v) = inl tt
own_or (Add s v r) = inl tt
own_or (Drop s v) = inl tt
own_or (Change s v to) = inl tt
own_or (Publish s) = inl tt
own_or (Unlist s) = inl tt
own_or (Signal k) = inr (λ b. b)
own_or (Wait k) = inr (λ b. b)

others_none : (c : Sizes) (h : Hold) (i : Instr) → ¬ IsOwn i → exchange_of c i h ≡ no_exchange
others_none c h (PrepareAdd s v u) f = absurd (f tt)
others_none c h (PrepareDrop s u v) f = absurd (f tt)
others_none c h (Add s v r) f = absurd (f tt)
others_none c h (Drop s v) f = absurd (f tt)
others_none c h (Change s v to) f = absurd (f tt)
others_none c h (Publish s) f = absurd (f tt)
others_none c h (Unlist s) f = absurd (f tt)
others_none c h (Signal k) f = refl
others_none c h (Wait k) f = refl

-- what a change says of the hold
pub record IsChange (c : Sizes) (i : Instr) (h : Hold) (x : Exchange) : Type 0 where
  pub change : x ≡ exchange_of c i h
  pub held : first_short h (portion_rights x.out) ≡ None
  pub apart : AreApart (minus h (portion_rights x.out)) (hold_of (portion_rights x.got))
  pub left : IsOwn i → (signals : ℕ → Rights) → after c signals i h ≡ Ok (plus (minus h (portion_rights x.out)) (portion_rights x.got))

module _ (c : Sizes) (i : Instr) (h : Hold) (r : Result Exchange Why) (own : (signals : ℕ → Rights) → IsOwn i → r ≡ exchanged (line_of c signals i h) (exchange_of c i h))
    (other : ¬ IsOwn i → r ≡ Ok no_exchange) where
  by_line : IsOwn i → (x : Exchange) → r ≡ Ok x → IsChange c i h x
  by_line o x e =
      let line = λ (signals : ℕ → Rights). line_of c signals i h in
      let passed = λ (signals : ℕ → Rights). unless_ok (first_why (line signals).tests) (exchange_of c i h) x (sym (own signals o) ∙ e) in
      let made = λ (signals : ℕ → Rights). ap (λ (w : Option Why). unless_refused w (line signals).change) (passed signals).0 in
      let law = λ (signals : ℕ → Rights). lines_exchange c signals h (line signals).change i o (made signals) in
      let none = λ (k : ℕ). no_rights in
      let is : x ≡ exchange_of c i h = sym (passed none).1 in
      subst (λ (y : Exchange). IsChange c i h y) (sym is) (record {
        change = refl;
        held = (law none).held;
        apart = (law none).apart;
        left = λ _ signals. made signals ∙ ap Ok (law signals).left;
      })

  by_parcel : ¬ IsOwn i → (x : Exchange) → r ≡ Ok x → IsChange c i h x
  by_parcel f x e =
      let is : x ≡ no_exchange = let same = sym (other f) ∙ e in cc in
      subst (λ (y : Exchange). IsChange c i h y) (sym is) (record {
        change = sym (others_none c h i f);
        held = refl;
        apart = has_neither h nothing tt tt;
        left = λ o. absurd (f o);
      })

  -- an answer that is a change is what the table exchanges, and the hold can make it
  pub is_change : (x : Exchange) → r ≡ Ok x → IsChange c i h x
  is_change x e = elim (own_or i) [ inl o ↦ by_line o x e | inr f ↦ by_parcel f x e ]

  refuses : IsOwn i → (why : Why) → r ≡ Err why → (signals : ℕ → Rights) → after c signals i h ≡ Err why
  refuses o why e signals =
      let line = line_of c signals i h in
      ap (λ (w : Option Why). unless_refused w line.change) (unless_err (first_why line.tests) (exchange_of c i h) why (sym (own signals o) ∙ e))

  -- an answer that is a refusal is the reason that `after` gives
  pub is_refusal : (why : Why) → r ≡ Err why → (signals : ℕ → Rights) → after c signals i h ≡ Err why
  is_refusal why e = elim (own_or i) [ inl o ↦ refuses o why e | inr f ↦ absurd (let same = sym (other f) ∙ e in cc) ]

-- ---- what is got is small

module _ (c : Sizes) (s v : ℕ) (small : c.load s ≤ MOST_AMOUNT) where
  by_add_primary : (listed : Option ℕ) (o : Option Lead) → IsSmallPortion (add_primary_exchange c s v listed o).got
  by_add_primary listed None = record { room = tt; spare = tt }
  by_add_primary listed (Some Gone) = record { room = tt; spare = omega arith }
  by_add_primary listed (Some (At u)) = record { room = tt; spare = tt }
  by_add_primary listed (Some (Ready u w)) = record { room = tt; spare = tt }
  by_add_primary listed (Some (Handing u w)) = record { room = tt; spare = tt }
  by_add_primary listed (Some (Handed u w)) = record { room = tt; spare = tt }

  by_drop_led : (listed : Option ℕ) (o : Option Lead) → IsSmallPortion (drop_led_exchange c s v listed o).got
  by_drop_led listed None = record { room = tt; spare = tt }
  by_drop_led listed (Some Gone) = record { room = tt; spare = tt }
  by_drop_led listed (Some (At u)) = record { room = small; spare = tt }
  by_drop_led listed (Some (Ready u w)) = record { room = small; spare = tt }
  by_drop_led listed (Some (Handing u w)) = record { room = tt; spare = tt }
  by_drop_led listed (Some (Handed u w)) = record { room = small; spare = tt }

  by_drop : (b : Bool) (listed : Option ℕ) (o : Option Lead) → IsSmallPortion (if b then drop_held_exchange c s v else drop_led_exchange c s v listed o).got
  by_drop true listed o = record { room = small; spare = tt }
  by_drop false listed o = by_drop_led listed o

by_publish : (s : ℕ) (listed : Option ℕ) (o : Option Lead) → IsSmallPortion (publish_exchange s listed o).got
by_publish s listed None = record { room = tt; spare = tt }
by_publish s listed (Some lead) = record { room = tt; spare = tt }

by_unlist : (s : ℕ) (listed : Option ℕ) (o : Option Lead) → IsSmallPortion (unlist_exchange s listed o).got
by_unlist s listed None = record { room = tt; spare = tt }
by_unlist s listed (Some lead) = record { room = tt; spare = tt }

-- an instruction gives one spare replica at most, and room within the limit where its shard's load is
pub small_got : (c : Sizes) (h : Hold) (i : Instr) → IfSome (shard_of i) (λ s. c.load s ≤ MOST_AMOUNT) → IsSmallPortion (gives_of c i h)
small_got c h (PrepareAdd s v u) l = record { room = tt; spare = tt }
small_got c h (PrepareDrop s u v) l = record { room = tt; spare = tt }
small_got c h (Add s v role.Secondary) l = record { room = tt; spare = omega arith }
small_got c h (Add s v role.Primary) l = by_add_primary c s v l (listed_of (h.crowns s)) (lead_held (h.crowns s))
small_got c h (Drop s v) l = by_drop c s v l (has_right h s v) (listed_of (h.crowns s)) (lead_held (h.crowns s))
small_got c h (Change s v role.Primary) l = record { room = tt; spare = tt }
small_got c h (Change s v role.Secondary) l = record { room = tt; spare = tt }
small_got c h (Publish s) l = by_publish s (listed_of (h.crowns s)) (lead_held (h.crowns s))
small_got c h (Unlist s) l = by_unlist s (listed_of (h.crowns s)) (lead_held (h.crowns s))
small_got c h (Signal k) l = record { room = tt; spare = tt }
small_got c h (Wait k) l = record { room = tt; spare = tt }

-- what holds of each number below a bound holds of the shard that is below it
pub at_shard : (P Q : ℕ → Type 0) (o : Option ℕ) → ((s : ℕ) → P s → Q s) → IfSome o P → IfSome o Q
at_shard P Q None f h = tt
at_shard P Q (Some s) f h = f s h
