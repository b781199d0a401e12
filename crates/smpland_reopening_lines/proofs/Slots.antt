-- Slots as rows tell them, one after the other.
use Rattle.std.proofs.Common.{◌≡◌, ◌∙◌, ◌⊎◌, ◌↔◌, ◌+◌, ◌<◌, ◌++◌, ◌∷◌, [], ℕ, Bool, true, false, List, Option, Some, None, ap, ap₂, get_or, inl, inr, length, refl, subst, sym, take}
use Rattle.std.specs.List.{list_all}
use Rattle.std.specs.Prelude.{◌&&◌, option_and_then, nat_lt, unwrap_or, if◌then◌else◌, All, is_some}
use Rattle.std.specs.Option.{option_map_or, option_or}
use Rattle.std.proofs.lemmas.Bool.{and_parts, eq-eqb, ltb-true, ne_eqb}
use Rattle.std.proofs.lemmas.List.{take_more}
use Rattle.std.proofs.lemmas.List.Elements.{All-head, All-tail}
use Rattle.serde_json.specs.Data.{Data}
use Rattle.json_tree.specs.View.{view}
use Rattle.json_tree.specs.declared.tree.Tree.{Tree}
use Rattle.sm_placement.specs.Setup.{Setup, shard_named}
use Rattle.sm_reopening.specs.Proposal.{is_the}
use Rattle.laws_network.specs.Reopening.{Entries, Inventory, MapOwner, Server, Slots, Unknown, entered, is_first, Told as ToldAt}
use Rattle.sm_reopening.specs.Ongoing.{net_reopening, copies_after, put_copy, told_copies}
use Rattle.sm_reopening.specs.declared.ongoing.OngoingReopening.{OngoingReopening}
use Rattle.sm_reopening.specs.declared.fencing.FencedEffect.{FencedEffect}
use Rattle.sm_reopening.specs.declared.fencing.FencedEffect.TheVariants as effects
use Rattle.smpland_reopening.specs.Reopening.{IsUnder, ReopeningModel}
use Rattle.smpland_lines.specs.declared.command.InventoryText.{InventoryText}
use Rattle.smpland_lines.specs.declared.command.InventoryText.TheVariants as text
use Rattle.sm_copies.specs.declared.order.ToldCopy.{ToldCopy}
use Rattle.sm_reopening.specs.States.{net_inventory, no_copy, no_slot, told_copy}
use Rattle.sm_reopening.specs.declared.party.Inventory.{Inventory as Told}
use Rattle.sm_reopening.specs.declared.party.Inventory.TheVariants as told
use Rattle.sm_reopening.specs.declared.party.FoundSlot.{FoundSlot}
use Rattle.smpland_lines.specs.Slots.{IsSlotFor, TellSlots, TellsParty, TellsSlot, is_handover, is_named}
use Rattle.smpland_lines.specs.Values.{whole_at}
use Rattle.smpland_lines.specs.declared.command_member.CommandMember.TheVariants as at
use Rattle.smpland_lines.specs.declared.slots.CellKind.{CellKind}
use Rattle.smpland_lines.specs.declared.slots.CellKind.TheVariants as kind
use Rattle.smpland_lines.specs.declared.slots.PartyText.{PartyText}
use Rattle.smpland_lines.specs.declared.slots.PartyText.TheVariants.{Missing, Null, Name}
use Rattle.smpland_lines.specs.declared.slots.SlotNeeds.TheVariants as needs
use Rattle.smpland_lines.specs.declared.slots.SlotText.{SlotText}
use Rattle.smpland_reopening_lines.specs.Slots.{AreSlotsOf, IsCellOf, IsPartyOf, IsSlotOf, IsToldByRow, cell_by, copy_said, is_row_of, is_text_of, last_with, party_told, slot_by, slot_told}
use Rattle.smpland_reopening_lines.specs.Taken.{BeganBelow, IsToldAs, KeepsCopies, ListsSlots, TakesToldBy}
use Rattle.smpland_reopening_lines.specs.Told.{HasEachSlot}

-- ---- the last of a list's items

-- one more item comes last, if it passes
pub last_more : {A : Type 0} (p : A → Bool) (xs : List A) (x : A) → last_with p (xs ++ x ∷ []) ≡ (if p x then Some x else last_with p xs)
last_more p [] x = by_test (p x)
  where
    by_test : (b : Bool) → (if b then Some x else None) ≡ (if b then Some x else None)
    by_test b = refl
last_more p (y ∷ xs) x = ap (λ o. option_or o (if p y then Some y else None)) (last_more p xs x) ∙ by_test (p x)
  where
    by_test : (b : Bool) → option_or (if b then Some x else last_with p xs) (if p y then Some y else None)
        ≡ (if b then Some x else option_or (last_with p xs) (if p y then Some y else None))
    by_test true = refl
    by_test false = refl

-- one more slot counts for its shard
pub slot_more : (numbering : Setup) (slots : List SlotText) (slot : SlotText) (s : ℕ) →
    slot_by numbering (slots ++ slot ∷ []) s ≡ (if is_text_of numbering s slot then slot_told numbering slot else slot_by numbering slots s)
slot_more numbering slots slot s =
    ap (λ o. option_map_or (slot_told numbering) o no_slot) (last_more (is_text_of numbering s) slots slot) ∙ by_test (is_text_of numbering s slot)
  where
    by_test : (b : Bool) → option_map_or (slot_told numbering) (if b then Some slot else last_with (is_text_of numbering s) slots) no_slot
        ≡ (if b then slot_told numbering slot else slot_by numbering slots s)
    by_test true = refl
    by_test false = refl

-- what the slots so far tell, and one more
pub taken_more : (numbering : Setup) (slots : List SlotText) (n : ℕ) (d : SlotText) (old new : ℕ → FoundSlot) → n < length slots →
    ((s : ℕ) → old s ≡ slot_by numbering (take n slots) s) →
    ((s : ℕ) → new s ≡ (if is_text_of numbering s (get_or slots n d) then slot_told numbering (get_or slots n d) else old s)) →
    (s : ℕ) → new s ≡ slot_by numbering (take (n + 1) slots) s
taken_more numbering slots n d old new l before after s =
    after s ∙ ap (λ o. if is_text_of numbering s (get_or slots n d) then slot_told numbering (get_or slots n d) else o) (before s)
    ∙ sym (slot_more numbering (take n slots) (get_or slots n d) s) ∙ sym (ap (λ xs. slot_by numbering xs s) (take_more slots n d l))

-- ---- a slot that was read is its row's

-- a party that is named is the row's
party_is : (numbering : Setup) (row : Data) (party : PartyText) → TellsParty row party → is_named party ≡ true → IsPartyOf numbering row (party_told numbering party)
party_is numbering row (Name name) tells named = (name.now, tells, refl)
party_is numbering row Missing tells named = absurd (let z = named in cc)
party_is numbering row Null tells named = absurd (let z = named in cc)

-- a number that is there is the row's
number_is : (found asked : Option ℕ) → found ≡ asked → is_some found ≡ true → asked ≡ Some (unwrap_or found 0)
number_is (Some n) asked same there = sym same
number_is None asked same there = absurd (let z = there in cc)

-- so the slot is
slot_is : (numbering : Setup) (row : Data) (slot : SlotText) → TellsSlot row slot → IsSlotFor needs.Fence slot → IsSlotOf numbering row (slot_told numbering slot)
slot_is numbering row slot tells needed = record {
  cell = cell_is slot.cell refl;
  copy = ap₂ (λ o p. record { view = unwrap_or o 0; position = unwrap_or p 0 }) tells.view tells.position;
  reached = ap (λ o. unwrap_or o false) tells.reached;
}
  where
    party : is_handover slot.cell ≡ true → IsPartyOf numbering row (party_told numbering slot.party)
    party it = party_is numbering row slot.party tells.party (needed.party it)

    number : is_handover slot.cell ≡ true → whole_at at.Handover row ≡ Some (unwrap_or slot.handover 0)
    number it = number_is slot.handover (whole_at at.Handover row) tells.handover (needed.handover it)

    cell_is : (k : CellKind) → slot.cell ≡ k → IsCellOf numbering row (cell_by k (party_told numbering slot.party) (unwrap_or slot.handover 0))
    cell_is kind.Absent is = rw is at tells.cell
    cell_is kind.Secondary is = rw is at tells.cell
    cell_is kind.Primary is = rw is at tells.cell
    cell_is kind.Prepared is = (rw is at tells.cell, party (ap is_handover is), number (ap is_handover is))
    cell_is kind.Forwarding is = (rw is at tells.cell, party (ap is_handover is), number (ap is_handover is))

-- ---- all of them

-- a slot that was read is of the shard that its row names
same_shard : (numbering : Setup) (s : ℕ) (row : Tree) (slot : SlotText) → TellsSlot (view row) slot → is_row_of numbering s row ≡ is_text_of numbering s slot
same_shard numbering s row slot tells = ap (λ o. is_the (option_and_then (shard_named numbering) o) s) tells.shard

-- a row and the slot that was read of it, or neither
abbrev AreBoth : Option Tree → Option SlotText → Type 0
AreBoth (Some row) (Some slot) = TellsSlot (view row) slot × IsSlotFor needs.Fence slot
AreBoth None None = Unit {0}
AreBoth (Some row) None = ⊥
AreBoth None (Some slot) = ⊥

-- the last row of a shard is that of the last slot
last_both : (numbering : Setup) (s : ℕ) (rows : List Tree) (slots : List SlotText) → TellSlots rows slots → All (IsSlotFor needs.Fence) slots →
    AreBoth (last_with (is_row_of numbering s) rows) (last_with (is_text_of numbering s) slots)
last_both numbering s [] [] tell needed = tt
last_both numbering s (row ∷ rows) (slot ∷ slots) tell needed =
    by_rest (last_with (is_row_of numbering s) rows) (last_with (is_text_of numbering s) slots)
    (is_row_of numbering s row) (is_text_of numbering s slot) (same_shard numbering s row slot tell.0)
    (last_both numbering s rows slots tell.1 (All-tail (IsSlotFor needs.Fence) slot slots needed))
  where
    by_rest : (o : Option Tree) (p : Option SlotText) (b c : Bool) → b ≡ c → AreBoth o p →
        AreBoth (option_or o (if b then Some row else None)) (option_or p (if c then Some slot else None))
    by_rest (Some r) (Some t) b c same both = both
    by_rest None None true true same both = (tell.0, All-head (IsSlotFor needs.Fence) slot slots needed)
    by_rest None None false false same both = tt
    by_rest None None true false same both = absurd (let z = same in cc)
    by_rest None None false true same both = absurd (let z = same in cc)
    by_rest (Some r) None b c same both = absurd both
    by_rest None (Some t) b c same both = absurd both
last_both numbering s [] (slot ∷ slots) tell needed = absurd tell
last_both numbering s (row ∷ rows) [] tell needed = absurd tell

-- the slots that were read are those of the rows
pub slots_are : (numbering : Setup) (rows : List Tree) (slots : List SlotText) → TellSlots rows slots → All (IsSlotFor needs.Fence) slots →
    AreSlotsOf numbering rows (slot_by numbering slots)
slots_are numbering rows slots tell needed s =
    by_last (last_with (is_row_of numbering s) rows) (last_with (is_text_of numbering s) slots) (last_both numbering s rows slots tell needed)
  where
    by_last : (o : Option Tree) (p : Option SlotText) → AreBoth o p → IsToldByRow numbering o (option_map_or (slot_told numbering) p no_slot)
    by_last (Some row) (Some slot) both = slot_is numbering (view row) slot both.0 both.1
    by_last None None both = refl
    by_last (Some row) None both = absurd both
    by_last None (Some slot) both = absurd both

-- so an inventory that has them is what the rows tell
pub lists_told : (numbering found : Setup) (rows : List Tree) (slots items : List SlotText) (inventory : Told) → found ≡ numbering → items ≡ slots →
    TellSlots rows slots → All (IsSlotFor needs.Fence) slots → HasEachSlot (slot_by found items) inventory →
    ListsSlots numbering rows (net_inventory inventory) (told_copy (Some inventory))
lists_told numbering found rows slots items inventory same is tell needed has =
    by_kind inventory (rw (same, is) at has)
  where
    by_kind : (i : Told) → HasEachSlot (slot_by numbering slots) i → ListsSlots numbering rows (net_inventory i) (told_copy (Some i))
    by_kind (told.Slots found) has = λ s.
        subst (λ slot. IsToldByRow numbering (last_with (is_row_of numbering s) rows) slot) (sym (has s)) (slots_are numbering rows slots tell needed s)
    by_kind (told.Unknown nonce) has = absurd has

-- ---- views

-- what passes a test that all pass, passes it
last_passes : {A : Type 0} (p q : A → Bool) (xs : List A) (x : A) → list_all q xs ≡ true → last_with p xs ≡ Some x → q x ≡ true
last_passes {A = A} p q [] x all is = absurd (let z = is in cc)
last_passes {A = A} p q (y ∷ xs) x all is = by_rest (last_with p xs) refl (λ e. last_passes p q xs x parts.1 e)
  where
    parts : (q y ≡ true) × (list_all q xs ≡ true)
    parts = and_parts (q y) (list_all q xs) all

    by_test : (b : Bool) → (if b then Some y else None) ≡ Some x → q x ≡ true
    by_test true same = subst (λ z. q z ≡ true) (cc) parts.0
    by_test false same = absurd (let z = same in cc)

    -- what comes last, with a rest that has this last one
    last_of : (o : Option A) → last_with p xs ≡ o → option_or o (if p y then Some y else None) ≡ Some x
    last_of o e = sym (ap (λ r. option_or r (if p y then Some y else None)) e) ∙ is

    by_rest : (o : Option A) → last_with p xs ≡ o → (last_with p xs ≡ Some x → q x ≡ true) → q x ≡ true
    by_rest (Some z) e rest = rest (e ∙ last_of (Some z) e)
    by_rest None e rest = by_test (p y) (last_of None e)

-- if each slot tells a copy that began below a number, so did the copy of each shard
pub told_began_below : (numbering : Setup) (slots : List SlotText) (base : ℕ) (inventory : Told) → list_all (λ slot. nat_lt (copy_said slot).view base) slots ≡ true →
    HasEachSlot (slot_by numbering slots) inventory → (s : ℕ) → BeganBelow base (told_copy (Some inventory) s)
told_began_below numbering slots base (told.Unknown nonce) all has s = absurd has
told_began_below numbering slots base (told.Slots found) all has s =
    subst (λ (c : ToldCopy). BeganBelow base c) (sym (ap (λ (slot : FoundSlot). slot.copy) (has s))) (by_last (last_with (is_text_of numbering s) slots) refl)
  where
    by_last : (o : Option SlotText) → last_with (is_text_of numbering s) slots ≡ o → BeganBelow base (option_map_or (slot_told numbering) o no_slot).copy
    by_last None e = inl refl
    by_last (Some slot) e =
        inr (ltb-true (copy_said slot).view base (last_passes (is_text_of numbering s) (λ slot. nat_lt (copy_said slot).view base) slots slot all e))

-- ---- what a server has told once it is taken

-- what is told stays so under the same names, with the same copies
told_still : (numbering named : Setup) (told : InventoryText) (inventory : Inventory) (p q : ℕ → ToldCopy) → named ≡ numbering → ((s : ℕ) → q s ≡ p s) →
    IsToldAs numbering told inventory p → IsToldAs named told inventory q
told_still numbering named told inventory p q names same is = rw names (by_text told is)
  where
    listed : (rows : List Tree) (i : Inventory) → ListsSlots numbering rows i p → ListsSlots numbering rows i q
    listed rows (Slots cells reached) is = λ s.
        subst (λ n. IsToldByRow numbering (last_with (is_row_of numbering s) rows) (record { cell = cells s; copy = n; reached = reached s })) (sym (same s)) (is s)
    listed rows (Unknown nonce) is = absurd is
    listed rows Entries is = absurd is

    by_text : (t : InventoryText) → IsToldAs numbering t inventory p → IsToldAs numbering t inventory q
    by_text (text.Unknown nonce) is = is
    by_text (text.Slots rows) is = listed rows.now inventory is
    by_text text.Map is = listed [] inventory is

-- the copies of a server that has told are those of its inventory
copy_is : (x y : OngoingReopening) (v base : ℕ) (inventory : Told) → is_first (net_reopening x) (Server v) base ≡ true →
    told_copies y ≡ copies_after x v base inventory → (s : ℕ) → told_copies y s v ≡ told_copy (Some inventory) s
copy_is x y v base inventory first after s =
    ap (λ (f : ℕ → ℕ → ToldCopy). f s v) after
    ∙ ap (λ b. (if b then put_copy (told_copies x) v inventory else told_copies x) s v) first
    ∙ ap (λ b. if b then told_copy (Some inventory) s else told_copies x s v) (eq-eqb v v refl)

-- those of all other parties stay, and a server that is Unknown tells none
pub told_keeps : (x y : OngoingReopening) (v base : ℕ) (inventory : Told) → is_first (net_reopening x) (Server v) base ≡ true →
    told_copies y ≡ copies_after x v base inventory → KeepsCopies (Server v) (net_inventory inventory) (told_copies x) (told_copies y)
told_keeps x y v base inventory first after = record {
  others = λ s u apart.
      ap (λ (f : ℕ → ℕ → ToldCopy). f s u) after
      ∙ ap (λ b. (if b then put_copy (told_copies x) v inventory else told_copies x) s u) first
      ∙ ap (λ b. if b then told_copy (Some inventory) s else told_copies x s u) (ne_eqb u v (λ e. apart (ap Server (sym e))));
  unknown = λ s u nonce same is.
      let e : u ≡ v = one_server v u same in
      ap (λ w. told_copies y s w) e ∙ copy_is x y v base inventory first after s ∙ none s nonce inventory is;
}
  where
    one_server : (a b : ℕ) → Server a ≡ Server b → b ≡ a
    one_server a b is = cc

    none : (s nonce : ℕ) (i : Told) → net_inventory i ≡ Unknown nonce → told_copy (Some i) s ≡ no_copy
    none s nonce (told.Unknown n) is = refl
    none s nonce (told.Slots slots) is = absurd (let z = is in cc)

-- so it is with the map's owner
pub map_keeps : (inventory : Inventory) (old new : ℕ → ℕ → ToldCopy) → new ≡ old → KeepsCopies MapOwner inventory old new
map_keeps inventory old new is = record {
  others = λ s v apart. ap (λ (f : ℕ → ℕ → ToldCopy). f s v) is;
  unknown = λ s v nonce same told. absurd (let z = same in cc);
}

-- an answer that waits or completes is not old
pub not_old : (effect : FencedEffect) → (effect ≡ effects.Waiting) ⊎ (effect ≡ effects.Complete) → effect ≡ effects.Old → ⊥
not_old effect (inl is) old = absurd (let e : effects.Waiting ≡ effects.Old = sym is ∙ old in cc)
not_old effect (inr is) old = absurd (let e : effects.Complete ≡ effects.Old = sym is ∙ old in cc)

-- a server has told what its line tells, for the first time
pub takes_told : (told : InventoryText) (v base : ℕ) (inventory : Told) (old new : ReopeningModel)
    (effect : FencedEffect) →
    IsToldAs old.numbering told (net_inventory inventory) (told_copy (Some inventory)) →
    ((s : ℕ) → BeganBelow base (told_copy (Some inventory) s)) →
    ((effect ≡ effects.Old) ↔ (is_first (net_reopening old.ongoing) (Server v) base ≡ false)) → (effect ≡ effects.Old → ⊥) →
    net_reopening new.ongoing ≡ entered (ToldAt (Server v) base (net_inventory inventory)) (net_reopening old.ongoing) →
    told_copies new.ongoing ≡ copies_after old.ongoing v base inventory → IsUnder old new → new.next ≡ old.next → TakesToldBy (Server v) base told old new
takes_told told v base inventory old new effect is below first counts taken copies under next =
    let once = first_time (is_first (net_reopening old.ongoing) (Server v) base) (λ f. counts (first.1 f)) in (
      net_inventory inventory,
      told_still old.numbering new.numbering told (net_inventory inventory) (told_copy (Some inventory)) (λ s. told_copies new.ongoing s v) under.numbering
          (copy_is old.ongoing new.ongoing v base inventory once copies) is,
      record { first = once; taken = taken; copies = told_keeps old.ongoing new.ongoing v base inventory once copies; below = began once; under = under; next = next },
    )
  where
    one_server : (a b : ℕ) → Server a ≡ Server b → b ≡ a
    one_server a b is = cc

    began : is_first (net_reopening old.ongoing) (Server v) base ≡ true → (s u : ℕ) → Server v ≡ Server u → BeganBelow base (told_copies new.ongoing s u)
    began once s u same = subst (λ (c : ToldCopy). BeganBelow base c)
        (sym (ap (λ w. told_copies new.ongoing s w) (one_server v u same) ∙ copy_is old.ongoing new.ongoing v base inventory once copies s)) (below s)

    first_time : (b : Bool) → (b ≡ false → ⊥) → b ≡ true
    first_time true not = refl
    first_time false not = absurd (not refl)
