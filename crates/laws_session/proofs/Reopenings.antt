-- Answers that two reopenings take which are alike.
use Rattle.std.proofs.Common.{◌≡◌, ◌≢◌, ◌∙◌, ℕ, Bool, true, false, List, [], ◌∷◌, Option, Some, None, ap, ap₂, option_map, inl, inr, map, refl, subst, subst₂, sym}
use Rattle.std.specs.Prelude.{if◌then◌else◌, option_and_then}
use Rattle.std.specs.Option.{option_or}
use Rattle.std.proofs.Math.Path.{fun_ext}
use Rattle.std.proofs.lemmas.Bool.{cases_eq}
use Rattle.std.specs.Borrow.{Bor}
use Rattle.serde_json.specs.Data.{Data, Items, item}
use Rattle.json_tree.specs.View.{items_view, view}
use Rattle.json_tree.specs.declared.tree.Tree.{Tree}
use Rattle.sm_server.specs.declared.call.Cell.{Cell}
use Rattle.sm_server.specs.declared.call.Cell.TheVariants as cell
use Rattle.sm_placement.specs.Layout.{grid_of, place_of}
use Rattle.sm_placement.specs.Place.{Place}
use Rattle.sm_placement.specs.Setup.{Setup, server_named, shard_named}
use Rattle.sm_plan_text.specs.Documents.{DocumentModel}
use Rattle.sm_plan_text.specs.Reading.{rows_of}
use Rattle.sm_plan_text.specs.declared.document.Document.{Document}
use Rattle.laws_network.specs.Reopening.{Confirm, Entries, Inventory, MapOwner, Party, Reopening, Server, Settlement, Slots, Told, Took, Unknown, entered}
use Rattle.sm_copies.specs.declared.order.ToldCopy.{ToldCopy}
use Rattle.sm_reopening.specs.Ongoing.{net_reopening, told_copies}
use Rattle.sm_reopening.specs.Proposal.{is_the}
use Rattle.sm_reopening.specs.Settles.{settled_of}
use Rattle.sm_reopening.specs.States.{no_slot}
use Rattle.sm_reopening.specs.declared.party.FoundSlot.{FoundSlot}
use Rattle.smpland_lines.specs.Choices.{AreChoicesSaid}
use Rattle.smpland_lines.specs.Slots.{cell_word}
use Rattle.smpland_lines.specs.Values.{text_at, whole_at}
use Rattle.smpland_lines.specs.declared.command_member.CommandMember.TheVariants as at
use Rattle.smpland_lines.specs.declared.command.InventoryText.{InventoryText}
use Rattle.smpland_lines.specs.declared.command.InventoryText.TheVariants as told
use Rattle.smpland_lines.specs.declared.slots.CellKind.{CellKind}
use Rattle.smpland_lines.specs.declared.slots.CellKind.TheVariants as kind
use Rattle.smpland_reopening.specs.declared.roles.Roles.{Roles}
use Rattle.smpland_reopening.specs.Confirmed.{down_in_order, is_down_next, roles_chosen, roles_in_order}
use Rattle.smpland_reopening.specs.Proposal.{documented_roles}
use Rattle.smpland_reopening.specs.Reopening.{IsUnder, ReopeningModel}
use Rattle.smpland_reopening.specs.Settled.{RolesGiven, place_by, setup_met}
use Rattle.smpland_reopening.proofs.Frames.{told_framed, took_framed}
use Rattle.smpland_reopening_lines.specs.Slots.{IsCellOf, IsPartyOf, IsSlotOf, IsToldByRow, last_with, is_row_of, party_number}
use Rattle.smpland_reopening_lines.specs.Taken.{ConfirmsAt, IsInventoryOf, IsToldAs, KeepsCopies, ListsSlots, TakesFenced, TakesSettledBy, choice_made, choice_said, party_named}
use Rattle.laws_session.specs.Alike.{AreReopeningsAlike}
use Rattle.laws_session.specs.Replays.{EachReopeningAlike, IsSameName, IsSameTold, ReopeningsGoAlike}
use Rattle.laws_session.proofs.Commands.{one_value}
use Rattle.laws_session.proofs.Ongoing.{ap₃, down_order_same, down_same, order_same, roles_same}
use Rattle.laws_session.proofs.Said.{one_choices}

-- ---- slots

abbrev kind_of : Cell → CellKind
kind_of cell.Absent = kind.Absent
kind_of (cell.Prepared from number) = kind.Prepared
kind_of cell.Secondary = kind.Secondary
kind_of cell.Primary = kind.Primary
kind_of (cell.Forwarding to number) = kind.Forwarding

has_word : (numbering : Setup) (row : Data) (c : Cell) → IsCellOf numbering row c → text_at at.Cell row ≡ Some (cell_word (kind_of c))
has_word numbering row cell.Absent x = x
has_word numbering row (cell.Prepared from number) x = x.0
has_word numbering row cell.Secondary x = x
has_word numbering row cell.Primary x = x
has_word numbering row (cell.Forwarding to number) x = x.0

one_party : (numbering : Setup) (row : Data) (u v : ℕ) → IsPartyOf numbering row u → IsPartyOf numbering row v → v ≡ u
one_party numbering row u v x y = y.2 ∙ ap (λ name. party_number numbering name) (one_value (text_at at.Party row) x.0 y.0 x.1 y.1) ∙ sym x.2

cell_by_words : (numbering : Setup) (row : Data) (a b : Cell) → IsCellOf numbering row a → IsCellOf numbering row b → cell_word (kind_of b) ≡ cell_word (kind_of a) → b ≡ a
cell_by_words numbering row cell.Absent cell.Absent x y same = refl
cell_by_words numbering row cell.Secondary cell.Secondary x y same = refl
cell_by_words numbering row cell.Primary cell.Primary x y same = refl
cell_by_words numbering row (cell.Prepared u m) (cell.Prepared v n) x y same =
    ap₂ (λ (w k : ℕ). cell.Prepared w k) (one_party numbering row u v x.1 y.1) (one_value (whole_at at.Handover row) m n x.2 y.2)
cell_by_words numbering row (cell.Forwarding u m) (cell.Forwarding v n) x y same =
    ap₂ (λ (w k : ℕ). cell.Forwarding w k) (one_party numbering row u v x.1 y.1) (one_value (whole_at at.Handover row) m n x.2 y.2)
cell_by_words numbering row _ _ x y same = absurd (let z = same in cc)

-- a row tells one cell
one_cell : (numbering : Setup) (row : Data) (a b : Cell) → IsCellOf numbering row a → IsCellOf numbering row b → b ≡ a
one_cell numbering row a b x y =
    cell_by_words numbering row a b x y
    (one_value (text_at at.Cell row) (cell_word (kind_of a)) (cell_word (kind_of b)) (has_word numbering row a x) (has_word numbering row b y))

-- what a row tells of two slots
record AreSameSlots (a b : FoundSlot) : Type 0 where
  pub cell : b.cell ≡ a.cell
  pub copy : b.copy ≡ a.copy
  pub reached : b.reached ≡ a.reached

-- the same by the value of a row
abbrev IsToldBy : Setup → Option Data → FoundSlot → Type 0
IsToldBy numbering (Some row) slot = IsSlotOf numbering row slot
IsToldBy numbering None slot = slot ≡ no_slot

by_value : (numbering : Setup) (row : Option Tree) (slot : FoundSlot) → IsToldByRow numbering row slot → IsToldBy numbering (option_map view row) slot
by_value numbering None slot x = x
by_value numbering (Some row) slot x = x

one_slot : (numbering : Setup) (row : Option Data) (a b : FoundSlot) → IsToldBy numbering row a → IsToldBy numbering row b → AreSameSlots a b
one_slot numbering None a b x y =
    record {
      cell = ap (λ (s : FoundSlot). s.cell) (y ∙ sym x);
      copy = ap (λ (s : FoundSlot). s.copy) (y ∙ sym x);
      reached = ap (λ (s : FoundSlot). s.reached) (y ∙ sym x);
    }
one_slot numbering (Some row) a b x y =
    record { cell = one_cell numbering row a.cell b.cell x.cell y.cell; copy = y.copy ∙ sym x.copy; reached = y.reached ∙ sym x.reached }

-- ---- rows

-- a row by its value, if it names the shard
abbrev row_of : Setup → ℕ → Data → Option Data
row_of numbering s row = if is_the (option_and_then (shard_named numbering) (text_at at.Shard row)) s then Some row else None

value_of_choice : (b : Bool) (row : Tree) → option_map view (if b then Some row else None) ≡ (if b then Some (view row) else None)
value_of_choice true row = refl
value_of_choice false row = refl

value_of_either : (x y : Option Tree) → option_map view (option_or x y) ≡ option_or (option_map view x) (option_map view y)
value_of_either None y = refl
value_of_either (Some row) y = refl

first_row : (numbering : Setup) (s : ℕ) (row : Tree) (rows : List Tree) →
    option_map view (last_with (is_row_of numbering s) (row ∷ rows))
    ≡ option_or (option_map view (last_with (is_row_of numbering s) rows)) (row_of numbering s (view row))
first_row numbering s row rows =
    value_of_either (last_with (is_row_of numbering s) rows) (if is_row_of numbering s row then Some row else None)
    ∙ ap (λ (x : Option Data). option_or (option_map view (last_with (is_row_of numbering s) rows)) x) (value_of_choice (is_row_of numbering s row) row)

-- lists of values that are the same have the same first one and the same others
pub one_item : (d e : Data) (ds es : Items) → ◌≡◌ {A = Items} (item e es) (item d ds) → (e ≡ d) × (es ≡ ds)
one_item d e ds es is = (cc, cc)

-- rows of the same values have the same last row of a shard
same_rows : (numbering : Setup) (s : ℕ) (rows others : List Tree) → items_view others ≡ items_view rows →
    option_map view (last_with (is_row_of numbering s) others) ≡ option_map view (last_with (is_row_of numbering s) rows)
same_rows numbering s [] [] is = refl
same_rows numbering s [] (y ∷ ys) is = absurd (let z = is in cc)
same_rows numbering s (x ∷ xs) [] is = absurd (let z = is in cc)
same_rows numbering s (x ∷ xs) (y ∷ ys) is =
    let both = one_item (view x) (view y) (items_view xs) (items_view ys) is in
    first_row numbering s y ys
    ∙ ap₂ (λ (last : Option Data) (row : Data). option_or last (row_of numbering s row)) (same_rows numbering s xs ys both.1) both.0
    ∙ sym (first_row numbering s x xs)

-- rows of the same values list the same slots
slots_alike : (numbering : Setup) (rows others : List Tree) (cells cells2 : ℕ → Cell) (reached reached2 : ℕ → Bool) (f g : ℕ → ToldCopy) → items_view others ≡ items_view rows →
    ListsSlots numbering rows (Slots cells reached) f → ListsSlots numbering others (Slots cells2 reached2) g → (s : ℕ) →
    AreSameSlots (record { cell = cells s; copy = f s; reached = reached s }) (record { cell = cells2 s; copy = g s; reached = reached2 s })
slots_alike numbering rows others cells cells2 reached reached2 f g same x y s =
    one_slot numbering (option_map view (last_with (is_row_of numbering s) rows)) _ _ (by_value numbering _ _ (x s))
    (subst (λ (row : Option Data). IsToldBy numbering row (record { cell = cells2 s; copy = g s; reached = reached2 s })) (same_rows numbering s rows others same)
    (by_value numbering _ _ (y s)))

-- rows of the same values list one inventory
one_list : (numbering : Setup) (rows others : List Tree) (i j : Inventory) (f g : ℕ → ToldCopy) → items_view others ≡ items_view rows → ListsSlots numbering rows i f →
    ListsSlots numbering others j g → j ≡ i
one_list numbering rows others (Slots cells reached) (Slots cells2 reached2) f g same x y =
    let slots = slots_alike numbering rows others cells cells2 reached reached2 f g same x y in
    ap₂ Slots (fun_ext (λ s. (slots s).cell)) (fun_ext (λ s. (slots s).reached))
one_list numbering rows others (Slots cells reached) (Unknown nonce) f g same x y = absurd y
one_list numbering rows others (Slots cells reached) Entries f g same x y = absurd y
one_list numbering rows others (Unknown nonce) j f g same x y = absurd x
one_list numbering rows others Entries j f g same x y = absurd x

-- so do lines that tell the same
one_inventory : (numbering : Setup) (t u : InventoryText) (i j : Inventory) (f g : ℕ → ToldCopy) → IsSameTold t u → IsToldAs numbering t i f → IsToldAs numbering u j g → j ≡ i
one_inventory numbering (told.Unknown nonce) (told.Unknown other) i j f g same x y = y ∙ ap (λ n. Unknown n) same ∙ sym x
one_inventory numbering (told.Slots rows) (told.Slots others) i j f g same x y = one_list numbering rows.now others.now i j f g same x y
one_inventory numbering told.Map told.Map i j f g same x y = one_list numbering [] [] i j f g refl x y
one_inventory numbering _ _ i j f g same x y = absurd same

-- and the same copies
one_copies : (numbering : Setup) (t u : InventoryText) (cells : ℕ → Cell) (reached : ℕ → Bool) (f g : ℕ → ToldCopy) → IsSameTold t u → IsToldAs numbering t (Slots cells reached) f →
    IsToldAs numbering u (Slots cells reached) g → (s : ℕ) → g s ≡ f s
one_copies numbering (told.Unknown nonce) u cells reached f g same x y s = absurd (let z = x in cc)
one_copies numbering (told.Slots rows) (told.Slots others) cells reached f g same x y s =
    (slots_alike numbering rows.now others.now cells cells reached reached f g same x y s).copy
one_copies numbering told.Map told.Map cells reached f g same x y s = (slots_alike numbering [] [] cells cells reached reached f g refl x y s).copy
one_copies numbering _ _ cells reached f g same x y s = absurd same

told_alike : (party : Party) (t u : InventoryText) (i j : Inventory) (new next : ReopeningModel) → next.numbering ≡ new.numbering → IsSameTold t u → IsInventoryOf party t i new →
    IsInventoryOf party u j next → j ≡ i
told_alike (Server v) t u i j new next same tells x y =
    one_inventory new.numbering t u i j (λ s. told_copies new.ongoing s v) (λ s. told_copies next.ongoing s v) tells x
    (subst (λ (rows : Setup). IsToldAs rows u j (λ s. told_copies next.ongoing s v)) same y)
told_alike MapOwner t u i j new next same tells x y = y ∙ sym x

-- what becomes of copies is the same
copies_alike : (r s new next : ReopeningModel) → AreReopeningsAlike r s → (party : Party) (t u : InventoryText) (i : Inventory) → next.numbering ≡ new.numbering →
    IsSameTold t u → IsInventoryOf party t i new → IsInventoryOf party u i next →
    KeepsCopies party i (told_copies r.ongoing) (told_copies new.ongoing) → KeepsCopies party i (told_copies s.ongoing) (told_copies next.ongoing) →
    (k v : ℕ) → told_copies next.ongoing k v ≡ told_copies new.ongoing k v
copies_alike r s new next is party t u i same tells x y one two k v = by_party party x y one two
  where
    stays : (p : Party) → p ≢ Server v → KeepsCopies p i (told_copies r.ongoing) (told_copies new.ongoing) →
        KeepsCopies p i (told_copies s.ongoing) (told_copies next.ongoing) → told_copies next.ongoing k v ≡ told_copies new.ongoing k v
    stays p apart one two = two.others k v apart ∙ ap (λ (f : ℕ → ℕ → ToldCopy). f k v) is.ongoing.copies ∙ sym (one.others k v apart)

    by_inventory : (j : Inventory) → IsInventoryOf (Server v) t j new → IsInventoryOf (Server v) u j next →
        KeepsCopies (Server v) j (told_copies r.ongoing) (told_copies new.ongoing) →
        KeepsCopies (Server v) j (told_copies s.ongoing) (told_copies next.ongoing) → told_copies next.ongoing k v ≡ told_copies new.ongoing k v
    by_inventory (Unknown nonce) x y one two = two.unknown k v nonce refl refl ∙ sym (one.unknown k v nonce refl refl)
    by_inventory (Slots cells reached) x y one two =
        one_copies new.numbering t u cells reached (λ z. told_copies new.ongoing z v) (λ z. told_copies next.ongoing z v) tells x
        (subst (λ (rows : Setup). IsToldAs rows u (Slots cells reached) (λ z. told_copies next.ongoing z v)) same y) k
    by_inventory Entries x y one two = absurd (no_entries t x)
      where
        no_entries : (z : InventoryText) → IsToldAs new.numbering z Entries (λ z. told_copies new.ongoing z v) → ⊥
        no_entries (told.Unknown nonce) x = absurd (let e = x in cc)
        no_entries (told.Slots rows) x = x
        no_entries told.Map x = x

    one_server : (a b : ℕ) → Server a ≡ Server b → b ≡ a
    one_server a b e = cc

    by_party : (p : Party) → IsInventoryOf p t i new → IsInventoryOf p u i next → KeepsCopies p i (told_copies r.ongoing) (told_copies new.ongoing) →
        KeepsCopies p i (told_copies s.ongoing) (told_copies next.ongoing) → told_copies next.ongoing k v ≡ told_copies new.ongoing k v
    by_party MapOwner x y one two = stays MapOwner (λ (e : MapOwner ≡ Server v). absurd (let z = e in cc)) one two
    by_party (Server w) x y one two = elim (cases_eq v w) [
      | inl e ↦ by_inventory i (subst (λ n. IsInventoryOf (Server n) t i new) (sym e) x) (subst (λ n. IsInventoryOf (Server n) u i next) (sym e) y)
          (subst (λ n. KeepsCopies (Server n) i (told_copies r.ongoing) (told_copies new.ongoing)) (sym e) one)
          (subst (λ n. KeepsCopies (Server n) i (told_copies s.ongoing) (told_copies next.ongoing)) (sym e) two)
      | inr e ↦ stays (Server w) (λ (z : Server w ≡ Server v). e (one_server w v z)) one two
    ]

-- ---- reopenings

-- the document's roles stay
roles_stay : (old new : ReopeningModel) → new.documented ≡ old.documented → (net_reopening new.ongoing).servers ≡ (net_reopening old.ongoing).servers →
    documented_roles new ≡ documented_roles old
roles_stay old new documented servers = ap₂ (λ (n : ℕ) (d : Roles). grid_of n None d.list.items) servers documented

stay_alike : (r s new next : ReopeningModel) → AreReopeningsAlike r s → IsUnder r new → IsUnder s next → net_reopening next.ongoing ≡ net_reopening new.ongoing →
    told_copies next.ongoing ≡ told_copies new.ongoing → (net_reopening new.ongoing).servers ≡ (net_reopening r.ongoing).servers →
    (net_reopening next.ongoing).servers ≡ (net_reopening s.ongoing).servers → option_map settled_of next.next ≡ option_map settled_of new.next →
    AreReopeningsAlike new next
stay_alike r s new next is x y same copies one two kept = record {
  ongoing = record {
    reopening = same;
    copies = copies;
    rest = record {
      left_out = y.same.left_out ∙ is.ongoing.rest.left_out ∙ sym x.same.left_out;
      setup = y.same.setup ∙ is.ongoing.rest.setup ∙ sym x.same.setup;
      place = y.same.place ∙ is.ongoing.rest.place ∙ sym x.same.place;
      shards = y.same.shards ∙ is.ongoing.rest.shards ∙ sym x.same.shards;
    };
  };
  journal = y.journal ∙ is.journal ∙ sym x.journal;
  epoch = y.epoch ∙ is.epoch ∙ sym x.epoch;
  document = ap (λ (d : Document). rows_of d) y.document ∙ is.document ∙ sym (ap (λ (d : Document). rows_of d) x.document);
  numbering = y.numbering ∙ is.numbering ∙ sym x.numbering;
  servers = y.servers ∙ is.servers ∙ sym x.servers;
  shards = y.shards ∙ is.shards ∙ sym x.shards;
  roles = roles_stay s next y.documented two ∙ is.roles ∙ sym (roles_stay r new x.documented one);
  permits = y.permits ∙ is.permits ∙ sym x.permits;
  kept = y.kept ∙ is.kept ∙ sym x.kept;
  next = kept;
}

-- what the next driver opens with stays
next_stays : (r s new next : ReopeningModel) → AreReopeningsAlike r s → new.next ≡ r.next → next.next ≡ s.next → option_map settled_of next.next ≡ option_map settled_of new.next
next_stays r s new next is x y = ap (option_map settled_of) y ∙ is.next ∙ sym (ap (option_map settled_of) x)

some_name : (a b : List ℕ) → ◌≡◌ {A = Option (List ℕ)} (Some b) (Some a) → b ≡ a
some_name a b is = cc

same_party : (rows : Setup) (server other : Option (Bor (List ℕ))) → IsSameName server other → party_named rows other ≡ party_named rows server
same_party rows (Some a) (Some b) same = ap (λ name. option_map Server (server_named rows name)) (some_name a.now b.now same)
same_party rows None None same = refl
same_party rows (Some a) None same = absurd (let z = same in cc)
same_party rows None (Some b) same = absurd (let z = same in cc)

one_named : (r s : ReopeningModel) (server other : Option (Bor (List ℕ))) (p q : Party) → s.numbering ≡ r.numbering → IsSameName server other →
    party_named r.numbering server ≡ Some p → party_named s.numbering other ≡ Some q → q ≡ p
one_named r s server other p q same name x y =
    one_value (party_named r.numbering server) p q x
    (sym (same_party r.numbering server other name) ∙ subst (λ (rows : Setup). party_named rows other ≡ Some q) same y)

-- the same answer to a fence
pub fenced_alike : (r s : ReopeningModel) → AreReopeningsAlike r s → (server other : Option (Bor (List ℕ))) (base : ℕ) (t u : InventoryText) (new next : ReopeningModel) →
    IsSameName server other → IsSameTold t u → TakesFenced server base t r new → TakesFenced other base u s next → AreReopeningsAlike new next
fenced_alike r s is server other base t u new next name tells (p, named, (i, told_i, x)) (q, also, (j, told_j, y)) =
    let party = one_named r s server other p q is.numbering name named also in
    let numbers : next.numbering ≡ new.numbering = y.under.numbering ∙ is.numbering ∙ sym x.under.numbering in
    let told_same : j ≡ i = told_alike p t u i j new next numbers tells told_i (subst (λ (z : Party). IsInventoryOf z u j next) party told_j) in
    stay_alike r s new next is x.under y.under
    (y.taken
    ∙ ap (λ (z : Party). entered (Told z base j) (net_reopening s.ongoing)) party
    ∙ ap (λ (z : Inventory). entered (Told p base z) (net_reopening s.ongoing)) told_same
    ∙ ap (λ (z : Reopening). entered (Told p base i) z) is.ongoing.reopening
    ∙ sym x.taken)
    (fun_ext (λ k. fun_ext (λ v. copies_alike r s new next is p t u i numbers tells told_i
    (subst₂ (λ (z : Party) (m : Inventory). IsInventoryOf z u m next) party told_same told_j) x.copies
    (subst₂ (λ (z : Party) (m : Inventory). KeepsCopies z m (told_copies s.ongoing) (told_copies next.ongoing)) party told_same y.copies) k v)))
    (ap (λ (z : Reopening). z.servers) x.taken ∙ (told_framed p base i (net_reopening r.ongoing)).servers)
    (ap (λ (z : Reopening). z.servers) y.taken ∙ (told_framed q base j (net_reopening s.ongoing)).servers)
    (next_stays r s new next is x.next y.next)

-- the same answer to a settle
pub settled_alike : (r s : ReopeningModel) → AreReopeningsAlike r s → (server other : Option (Bor (List ℕ))) (base : ℕ) (new next : ReopeningModel) → IsSameName server other →
    TakesSettledBy server base r new → TakesSettledBy other base s next → AreReopeningsAlike new next
settled_alike r s is server other base new next name (p, named, x) (q, also, y) =
    let party = one_named r s server other p q is.numbering name named also in
    stay_alike r s new next is x.under y.under
    (y.taken
    ∙ ap (λ (z : Party). entered (Took z base) (net_reopening s.ongoing)) party
    ∙ ap (λ (z : Reopening). entered (Took p base) z) is.ongoing.reopening
    ∙ sym x.taken)
    (y.copies ∙ is.ongoing.copies ∙ sym x.copies)
    (ap (λ (z : Reopening). z.servers) x.taken ∙ (took_framed p base (net_reopening r.ongoing)).servers)
    (ap (λ (z : Reopening). z.servers) y.taken ∙ (took_framed q base (net_reopening s.ongoing)).servers)
    (next_stays r s new next is x.next y.next)

-- a settlement by its parts
abbrev settlement_of : Setup → Place → ℕ → Settlement
settlement_of setup place room = record { setup = setup; place = place; room = room }

-- the same of a placement
abbrev kept_of : Setup → Place → Option (Setup × Place)
kept_of setup place = Some (setup, place)

-- the same confirmation
pub confirmed_alike : (r s : ReopeningModel) → AreReopeningsAlike r s → (base : ℕ) (cells lost others more : List Tree) (new next : ReopeningModel) →
    items_view others ≡ items_view cells → ConfirmsAt base cells lost r new → ConfirmsAt base others more s next → AreReopeningsAlike new next
confirmed_alike r s is base cells lost others more new next values (at, names, x, (said, read, made)) (at2, names2, y, (said2, read2, made2)) =
    stay_alike r s new next is x.under y.under
    (y.taken ∙ ap₂ (λ (z : Settlement) (n : Reopening). entered (Confirm z) n) settlement is.ongoing.reopening ∙ sym x.taken)
    (y.copies ∙ is.ongoing.copies ∙ sym x.copies)
    (ap (λ (z : Reopening). z.servers) x.taken)
    (ap (λ (z : Reopening). z.servers) y.taken)
    (ap (option_map settled_of) y.kept.kept ∙ ap₂ kept_of kept_setup kept_place ∙ sym (ap (option_map settled_of) x.kept.kept))
  where
    config : s.document.config ≡ r.document.config
    config = ap (λ (m : DocumentModel). m.setup) is.document

    limit : s.document.limit ≡ r.document.limit
    limit = ap (λ (m : DocumentModel). m.limit) is.document

    choices : map choice_said said2 ≡ map choice_said said
    choices = one_choices r.document.config (items_view cells) said said2 read (subst₂ (λ (c : Setup) (rows : Items). AreChoicesSaid c rows said2) config values read2)

    chosen : map choice_made y.chosen ≡ map choice_made x.chosen
    chosen = made2 ∙ choices ∙ sym made

    roles : roles_chosen s y.chosen ≡ roles_chosen r x.chosen
    roles = roles_same r s is x.chosen y.chosen chosen

    order : roles_in_order s (roles_chosen s y.chosen) ≡ roles_in_order r (roles_chosen r x.chosen)
    order = order_same r s is x.chosen y.chosen chosen

    settlement : y.settlement ≡ x.settlement
    settlement =
        ap₃ settlement_of
        (y.settles.setup ∙ ap₃ (λ (c : Setup) (f : RolesGiven) (d : ℕ → Bool). setup_met c f d) is.numbering roles (down_same r s is) ∙ sym x.settles.setup)
        (y.settles.place
        ∙ ap₃ (λ (c : Setup) (f : RolesGiven) (d : ℕ → Bool). place_by c f d s.document.limit) is.numbering roles (down_same r s is)
        ∙ ap (λ n. place_by r.numbering (roles_chosen r x.chosen) (is_down_next r) n) limit ∙ sym x.settles.place)
        (y.settles.room ∙ ap (λ (m : DocumentModel). m.log) is.document ∙ sym x.settles.room)

    kept_setup : y.kept.placement.setup ≡ x.kept.placement.setup
    kept_setup =
        y.kept.placed.setup ∙ ap₃ (λ (c : Setup) (f : RolesGiven) (d : ℕ → Bool). setup_met c f d) config order (down_order_same r s is) ∙ sym x.kept.placed.setup

    kept_place : place_of y.kept.placement ≡ place_of x.kept.placement
    kept_place =
        y.kept.placed.place
        ∙ ap₃ (λ (c : Setup) (f : RolesGiven) (d : ℕ → Bool). place_by c f d s.document.limit) config order (down_order_same r s is)
        ∙ ap (λ n. place_by r.document.config (roles_in_order r (roles_chosen r x.chosen)) (down_in_order r) n) limit ∙ sym x.kept.placed.place

-- Reopenings that are alike take the same answers, and are alike afterwards.
pub reopenings_go_alike : EachReopeningAlike ReopeningsGoAlike
reopenings_go_alike r s is = record { fenced = fenced_alike r s is; confirmed = confirmed_alike r s is; settled = settled_alike r s is }
