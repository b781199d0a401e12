-- Lists of streams and of orders.
use Rattle.std.proofs.Common.{◌≡◌, ◌≢◌, ℕ, zero, suc, ◌⊎◌, refl, sym, ap, ◌∙◌, inl, inr, subst, true, false, Some, List, [], ◌∷◌, ◌++◌}
use Rattle.std.specs.Prelude.{cond, not, slice_get}
use Rattle.std.specs.List.{AllByRecursion}
use Rattle.std.proofs.lemmas.Bool.{cases_eq, eq-eqb, ne_eqb}
use Rattle.sm_reservation.specs.declared.stream_id.StreamId.{StreamId}
use Rattle.sm_plan_code.specs.declared.call.ServerCall.{ServerCall}
use Rattle.sm_server.specs.declared.call.Cell.{Cell}
use Rattle.sm_protocol.specs.State.{State, next_instruction}
use Rattle.sm_plan_code.specs.declared.instruction.Instr.{Instr}
use Rattle.sm_plan_code.specs.Acts.{numbers_after}
use Rattle.sm_protocol.specs.Hand.{is_token}
use Rattle.sm_protocol.proofs.Courses.{some_same}
use Rattle.sm_protocol.proofs.Numbers.{one_stream, same_stream}
use Rattle.laws_network.proofs.Traced.{call_now, without}
use Rattle.laws_network.proofs.Overlay.{AreOnce, CanSwap, IsApartFrom, IsIn, call_made, made_at, made_swap, number_made, over_numbers, overlay}

-- a stream is among these or not
pub is_in : (ids : List StreamId) (id : StreamId) → IsIn ids id ⊎ (IsIn ids id → ⊥)
is_in [] id = inr (λ e. e)
is_in (a ∷ ids) id = elim (one_stream id a) [
  | inl e ↦ inl (inl e)
  | inr n ↦ elim (is_in ids id) [
    | inl i ↦ inl (inr i)
    | inr m ↦ inr (λ h. elim h [ inl e ↦ n e | inr i ↦ m i ])
  ]
]

pub own_token : (id : StreamId) → is_token id id ≡ true
own_token id = rw (eq-eqb id.plan id.plan refl, eq-eqb id.stream id.stream refl) refl

-- and no other stream's
pub other_token : (id other : StreamId) → other ≢ id → is_token other id ≡ false
other_token id other n = elim (cases_eq id.plan other.plan) [
  | inr e ↦ rw (ne_eqb id.plan other.plan e) refl
  | inl e ↦ elim (cases_eq id.stream other.stream) [
    | inr d ↦ rw (eq-eqb id.plan other.plan e, ne_eqb id.stream other.stream d) refl
    | inl d ↦ absurd (n (sym (same_stream id other e d)))
  ]
]

-- ---- without one stream

without_own : (id a : StreamId) (ids : List StreamId) → a ≡ id → without id (a ∷ ids) ≡ without id ids
without_own id a ids e = ap (λ b. cond (not b) (a ∷ without id ids) (without id ids)) (ap (is_token id) e ∙ own_token id)

without_other : (id a : StreamId) (ids : List StreamId) → a ≢ id → without id (a ∷ ids) ≡ a ∷ without id ids
without_other id a ids n = ap (λ b. cond (not b) (a ∷ without id ids) (without id ids)) (other_token a id (λ e. n (sym e)))

-- what is left without a stream was there, and is another stream
pub from_without : (id : StreamId) (ids : List StreamId) (j : StreamId) → IsIn (without id ids) j → IsIn ids j × (j ≢ id)
from_without id [] j h = absurd h
from_without id (a ∷ ids) j h = elim (one_stream a id) [
  | inl e ↦ let r = from_without id ids j (subst (λ l. IsIn l j) (without_own id a ids e) h) in (inr r.0, r.1)
  | inr n ↦ elim (subst (λ l. IsIn l j) (without_other id a ids n) h) [
    | inl e ↦ (inl e, λ q. n (sym e ∙ q))
    | inr i ↦ let r = from_without id ids j i in (inr r.0, r.1)
  ]
]

-- and each other stream is left
pub to_without : (id : StreamId) (ids : List StreamId) (j : StreamId) → IsIn ids j → j ≢ id → IsIn (without id ids) j
to_without id [] j h m = absurd h
to_without id (a ∷ ids) j h m = elim (one_stream a id) [
  | inl e ↦ subst (λ l. IsIn l j) (sym (without_own id a ids e)) (elim h [ inl d ↦ absurd (m (d ∙ e)) | inr i ↦ to_without id ids j i m ])
  | inr n ↦ subst (λ l. IsIn l j) (sym (without_other id a ids n)) (elim h [ inl d ↦ inl d | inr i ↦ inr (to_without id ids j i m) ])
]

-- what is left has no stream twice
pub once_without : (id : StreamId) (ids : List StreamId) → AreOnce ids → AreOnce (without id ids)
once_without id [] o = tt
once_without id (a ∷ ids) o = elim (one_stream a id) [
  | inl e ↦ subst AreOnce (sym (without_own id a ids e)) (once_without id ids o.1)
  | inr n ↦ subst AreOnce (sym (without_other id a ids n)) ((λ i. o.0 (from_without id ids a i).0), once_without id ids o.1)
]

pub without_absent : (id : StreamId) (ids : List StreamId) → (IsIn ids id → ⊥) → without id ids ≡ ids
without_absent id [] n = refl
without_absent id (a ∷ ids) n = without_other id a ids (λ e. n (inl (sym e))) ∙ ap (λ l. a ∷ l) (without_absent id ids (λ i. n (inr i)))

-- a call among these can be made last
pub overlay_without : (w : State) (ids : List StreamId) (id : StreamId) (x : ServerCall) (f : ℕ → ℕ → Cell) → IsIn ids id → AreOnce ids → call_now w id ≡ Some x →
    ((j : StreamId) → IsIn ids j → j ≢ id → IsApartFrom x (call_now w j)) → overlay w ids f ≡ call_made x (overlay w (without id ids) f)
overlay_without w [] id x f i o e n = absurd i
overlay_without w (a ∷ ids) id x f i o e n = elim (one_stream a id) [
  | inl q ↦
      ap (λ c. made_at c (overlay w ids f)) (ap (call_now w) q ∙ e)
      ∙ ap (λ l. call_made x (overlay w l f)) (sym (without_own id a ids q ∙ without_absent id ids (λ h. o.0 (subst (IsIn ids) (sym q) h))))
  | inr q ↦
      ap (made_at (call_now w a)) (overlay_without w ids id x f (elim i [ inl h ↦ absurd (q (sym h)) | inr h ↦ h ]) o.1 e (λ j h. n j (inr h)))
      ∙ made_swap x (call_now w a) (overlay w (without id ids) f) (n a (inl refl) q)
      ∙ ap (λ l. call_made x (overlay w l f)) (sym (without_other id a ids q))
]

-- and so can an instruction
pub numbers_without : (w : State) (ids : List StreamId) (id : StreamId) (i : Instr) (f : ℕ → ℕ) → IsIn ids id → AreOnce ids → next_instruction w id ≡ Some i →
    ((j : StreamId) → IsIn ids j → j ≢ id → CanSwap i (next_instruction w j)) → over_numbers w ids f ≡ numbers_after (over_numbers w (without id ids) f) i
numbers_without w [] id i f h o e n = absurd h
numbers_without w (a ∷ ids) id i f h o e n = elim (one_stream a id) [
  | inl q ↦
      ap (λ c. number_made c (over_numbers w ids f)) (ap (next_instruction w) q ∙ e)
      ∙ ap (λ l. numbers_after (over_numbers w l f) i) (sym (without_own id a ids q ∙ without_absent id ids (λ k. o.0 (subst (IsIn ids) (sym q) k))))
  | inr q ↦
      ap (number_made (next_instruction w a)) (numbers_without w ids id i f (elim h [ inl k ↦ absurd (q (sym k)) | inr k ↦ k ]) o.1 e (λ j k. n j (inr k)))
      ∙ n a (inl refl) q (over_numbers w (without id ids) f)
      ∙ ap (λ l. numbers_after (over_numbers w l f) i) (sym (without_other id a ids q))
]

-- ---- what holds of all

module _ {X : Type 0} (P : X → Type 0) where
  -- what holds of all, and of one more
  pub all_push : (xs : List X) (x : X) → AllByRecursion P xs → P x → AllByRecursion P (xs ++ x ∷ [])
  all_push [] x all p = (p, tt)
  all_push (y ∷ ys) x all p = (all.0, all_push ys x all.1 p)

  -- what holds of two lists holds of both together
  pub all_append : (xs ys : List X) → AllByRecursion P xs → AllByRecursion P ys → AllByRecursion P (xs ++ ys)
  all_append [] ys all more = more
  all_append (x ∷ xs) ys all more = (all.0, all_append xs ys all.1 more)

  -- what holds of all holds of the one at a place
  pub all_at : (xs : List X) (k : ℕ) (x : X) → AllByRecursion P xs → slice_get xs k ≡ Some x → P x
  all_at [] k x all e = absurd (cc)
  all_at (y ∷ ys) zero x all e = subst P (some_same y x e) all.0
  all_at (y ∷ ys) (suc k) x all e = all_at ys k x all.1 e

-- what follows from what holds of all holds of all
pub all_map : {X : Type 0} (P Q : X → Type 0) (xs : List X) → ((x : X) → P x → Q x) → AllByRecursion P xs → AllByRecursion Q xs
all_map P Q [] f all = tt
all_map P Q (x ∷ xs) f all = (f x all.0, all_map P Q xs f all.1)
