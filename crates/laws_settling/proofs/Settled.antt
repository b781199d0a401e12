-- Once all have told, what they told can be settled.
use Rattle.std.proofs.Common.{◌≡◌, ◌<◌, ℕ, refl, sym, ap, ◌∙◌, subst, Bool, true, false, Some, None}
use Rattle.std.specs.Prelude.{◌&&◌, not, is_none, is_some, nat_lt, if◌then◌else◌}
use Rattle.std.proofs.lemmas.Bool.{and_from, lt-ltb}
use Rattle.sm_server.specs.declared.call.Cell.TheVariants as cell
use Rattle.sm_placement.specs.Setup.{Setup}
use Rattle.sm_protocol.specs.Happens.{answer_by}
use Rattle.sm_protocol.proofs.Courses.{some_same}
use Rattle.laws_network.specs.Net.{Ask, Quiet, Replied}
use Rattle.laws_network.specs.World.{Inner, world_comes}
use Rattle.laws_network.specs.Reopening.{Inventory, MapOwner, Party, Server, Settling, Slots, in_world, is_asked, is_handing, takes_request, takes_settle}
use Rattle.laws_network.specs.ReopeningLaws.{EachSettling, Executes, ExecutesSafely, IsSettlingReached, ToldIsHad}
use Rattle.laws_network.proofs.Begun.{each_steady}
use Rattle.laws_network.proofs.Standing.{taken_by}
use Rattle.laws_settling.specs.Ending.{AllStandAsTold, CanSettle, nonce_told}
use Rattle.laws_settling.specs.Inheriting.{settlement_told, told_cell}
use Rattle.laws_settling.proofs.Told.{slots_told}
use Rattle.laws_settling.proofs.Inherited.{AreAnswers, may_settle}
use Rattle.laws_settling.proofs.Taking.{all_can_take}

-- a server that has its slots and a primary executes what clients ask, also while it is fenced
executes : (x : Settling) (k v : ℕ) → (x.bases (Server v)).nonce ≡ None → x.world.net.cells k v ≡ cell.Primary → Executes x k v
executes x k v known primary = (
  Inner (Ask k v),
  refl,
  ap (λ b. (if b then in_world x (world_comes x.world (Inner (Ask k v))) else (Quiet, x)).0) replies ∙ ap (λ c. Replied (answer_by c v None 0)) primary,
)
  where
    replies : takes_request x k v ≡ true
    replies = and_from (is_none (x.bases (Server v)).nonce) (not ((x.bases (Server v)).fenced && is_handing (x.world.net.cells k v))) (ap is_none known)
        (ap (λ c. not ((x.bases (Server v)).fenced && is_handing c)) primary ∙ idle (x.bases (Server v)).fenced)
      where
        idle : (b : Bool) → not (b && false) ≡ true
        idle true = refl
        idle false = refl

module _ (setup : Setup) (x : Settling) (reached : IsSettlingReached setup x) (safe : ExecutesSafely x) (had : ToldIsHad x) (first : x.reopening.settlement ≡ None) (stand : AllStandAsTold x) where
  asked : (v : ℕ) → is_some (x.reopening.told (Server v)) ≡ true → (v < x.reopening.servers) × (x.reopening.lost v ≡ false)
  asked = (each_steady setup x reached).held.controller.asked

  is_asked_of : (v : ℕ) → is_some (x.reopening.told (Server v)) ≡ true → is_asked x.reopening (Server v) ≡ true
  is_asked_of v t = let a = asked v t in and_from (nat_lt v x.reopening.servers) (not (x.reopening.lost v)) (lt-ltb v x.reopening.servers a.0) (ap not a.1)

  stands_by : (p : Party) (i : Inventory) → x.reopening.told p ≡ Some i → is_asked x.reopening p ≡ true → takes_settle x.reopening.base (nonce_told i) (x.bases p) ≡ true
  stands_by p i e a = let h = stand p a in subst (λ j. takes_settle x.reopening.base (nonce_told j) (x.bases p) ≡ true) (some_same h.inventory i (sym h.told ∙ e)) h.stands

  stands : (p : Party) (i : Inventory) → x.reopening.told p ≡ Some i → takes_settle x.reopening.base (nonce_told i) (x.bases p) ≡ true
  stands (Server v) i e = stands_by (Server v) i e (is_asked_of v (ap is_some e))
  stands MapOwner i e = stands_by MapOwner i e refl

  -- a server that told a primary executes
  tells_primary : (k v : ℕ) → told_cell (x.reopening.told (Server v)) k ≡ cell.Primary → Executes x k v
  tells_primary k v e =
      let slots = slots_told (x.reopening.told (Server v)) k (λ z. absurd (let y = sym e ∙ z in cc)) in
      let known = sym (taken_by (x.bases (Server v)) x.reopening.base None (stands (Server v) (Slots slots.0 slots.1) slots.2)).meant in
      executes x k v known (had v slots.0 slots.1 slots.2 first known k ∙ ap (λ o. told_cell o k) (sym slots.2) ∙ e)

  answers : AreAnswers x.reopening
  answers = record {
    first = first;
    all = λ p a. ap is_some (stand p a).told;
    asked = asked;
    one = λ k u v e f. safe.one k u v (tells_primary k u e) (tells_primary k v f);
  }

-- once all have told, what they told can be settled
pub can_settle : EachSettling ExecutesSafely → EachSettling ToldIsHad → EachSettling CanSettle
can_settle safe had setup x reached first stand new limit room place roomy = (
  may_settle x.reopening x.world.net.w new (answers setup x reached (safe setup x reached) (had setup x reached) first stand) place limit room roomy,
  all_can_take x (settlement_told x.reopening new limit room) (λ v t. (asked setup x reached (safe setup x reached) (had setup x reached) first stand v t).0)
      (stands setup x reached (safe setup x reached) (had setup x reached) first stand),
)
