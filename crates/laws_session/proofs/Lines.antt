-- Lines of a reopening that two sessions take which are alike.
use Rattle.std.proofs.Common.{◌≡◌, ◌∙◌, ◌⊎◌, ◌+◌, ℕ, List, [], ◌∷◌, Option, Some, None, Ok, ap, ap₂, inl, inr, length, option_map, refl, subst, subst₂, sym}
use Rattle.std.specs.Prelude.{◌++◌, if◌then◌else◌, is_some, option_and_then}
use Rattle.std.specs.List.{flat_map}
use Rattle.std.specs.Option.{option_map_or}
use Rattle.std.specs.Borrow.{Bor}
use Rattle.serde_json.specs.Data.{Data, Items, item, null}
use Rattle.serde_json.specs.Find.{as_str}
use Rattle.json_tree.specs.View.{items_view, view}
use Rattle.json_tree.specs.declared.tree.Tree.{Tree}
use Rattle.sm_placement.specs.Config.{setup_of}
use Rattle.sm_placement.specs.Opening.{opened_place}
use Rattle.sm_placement.specs.Setup.{Setup}
use Rattle.sm_plan_text.specs.Reading.{read_data, rows_of}
use Rattle.sm_protocol.specs.State.{State}
use Rattle.laws_network.specs.Reopening.{Reopening}
use Rattle.laws_network.specs.ReopeningLaws.{AllTook, no_reopening}
use Rattle.sm_driver.specs.Alike.{EachAlike, GoAlike}
use Rattle.sm_driver.specs.Driver.{DriverModel, record_of}
use Rattle.sm_reopening.specs.Ongoing.{net_reopening, recorded_place, recorded_setup}
use Rattle.smpland_reopening.specs.Kept.{kept_on}
use Rattle.smpland_reopening.specs.Reopening.{ReopeningModel}
use Rattle.smpland_lines.specs.Lines.{HasToldMembers, IsFrom, Says}
use Rattle.smpland_lines.specs.Values.{bits_at, list_at, text_at, whole_at}
use Rattle.smpland_lines.specs.declared.command_member.CommandMember.TheVariants as at
use Rattle.smpland_lines.specs.declared.command.LineCommand.TheVariants as line
use Rattle.smpland_lines.specs.declared.command.ReopeningCommand.{ReopeningCommand}
use Rattle.smpland_lines.specs.declared.command.ReopeningCommand.TheVariants as reopening
use Rattle.smpland_lines.specs.declared.command.InventoryText.{InventoryText}
use Rattle.smpland_lines.specs.declared.command.InventoryText.TheVariants as told
use Rattle.smpland_state.specs.declared.journal_state.JournalState.{JournalState}
use Rattle.smpland_reopening_lines.specs.Taken.{ConfirmsAt, TakesFenced, TakesSettledBy}
use Rattle.smpland_session.specs.Asked.{DoesToSession, IsUnderDocument, OpensAsNamed, StaysUnderWay, WaitsUnderWay, texts_among}
use Rattle.smpland_session.specs.Changes.{BecomesLast, ComesInForceBy, OpensFrom, ReopensWithout, driver_of, reopening_under_way}
use Rattle.smpland_session.specs.declared.session.Session.{Session}
use Rattle.smpland_session.specs.declared.under_way.UnderWay.{UnderWay}
use Rattle.laws_session.specs.Alike.{AreDriversAlike, AreReopeningsAlike, AreSessionsAlike, AreUnderAlike}
use Rattle.laws_session.specs.Replays.{IsSameName, IsSameTold}
use Rattle.laws_session.proofs.Commands.{apart, one_result, one_value}
use Rattle.laws_session.proofs.Force.{drivers_come_alike}
use Rattle.laws_session.proofs.Numbered.{fresh_alike}
use Rattle.laws_session.proofs.Reopenings.{confirmed_alike, fenced_alike, one_item, settled_alike}

-- ---- what lines say

-- a line names one party
same_server : (d : Data) (server other : Option (Bor (List ℕ))) → IsFrom d server → IsFrom d other → IsSameName server other
same_server d (Some a) (Some b) x y = sym y ∙ x
same_server d None None x y = refl
same_server d (Some a) None x y = absurd (let z : ◌≡◌ {A = Option (List ℕ)} None (Some a.now) = sym (ap (option_and_then as_str) y) ∙ x in cc)
same_server d None (Some b) x y = absurd (let z : ◌≡◌ {A = Option (List ℕ)} None (Some b.now) = sym (ap (option_and_then as_str) x) ∙ y in cc)

-- it tells one thing
same_told : (d : Data) (t u : InventoryText) → HasToldMembers d t → HasToldMembers d u → IsSameTold t u
same_told d told.Map told.Map x y = tt
same_told d (told.Slots a) (told.Slots b) x y = one_value (list_at at.Slots d) (items_view a.now) (items_view b.now) x.0 y.0
same_told d (told.Unknown m) (told.Unknown n) x y = one_value (bits_at at.Unknown d) m n x.1 y.1
same_told d told.Map (told.Slots b) x y = absurd (let z = sym x.0 ∙ y.0 in cc)
same_told d told.Map (told.Unknown n) x y = absurd (let z = sym x.1 ∙ y.1 in cc)
same_told d (told.Slots a) told.Map x y = absurd (let z = sym x.0 ∙ y.0 in cc)
same_told d (told.Slots a) (told.Unknown n) x y = absurd (let z = sym x.0 ∙ y.0 in cc)
same_told d (told.Unknown m) told.Map x y = absurd (let z = sym x.1 ∙ y.1 in cc)
same_told d (told.Unknown m) (told.Slots b) x y = absurd (let z = sym x.0 ∙ y.0 in cc)

-- values that are the same have the same texts among them
same_texts : (xs ys : List Tree) → items_view ys ≡ items_view xs → texts_among ys ≡ texts_among xs
same_texts [] [] is = refl
same_texts [] (y ∷ ys) is = absurd (let z = is in cc)
same_texts (x ∷ xs) [] is = absurd (let z = is in cc)
same_texts (x ∷ xs) (y ∷ ys) is =
    let both = one_item (view x) (view y) (items_view xs) (items_view ys) is in
    ap₂ (λ (d : Data) (rest : List (List ℕ)). option_map_or (λ text. text ∷ []) (as_str d) [] ++ rest) both.0 (same_texts xs ys both.1)

-- ---- the reopening under way

drivers_stay : (o p new next : Option JournalState) → AreDriversAlike (driver_of o) (driver_of p) → new ≡ o → next ≡ p → AreDriversAlike (driver_of new) (driver_of next)
drivers_stay o p new next is x y = subst₂ (λ (u v : Option JournalState). AreDriversAlike (driver_of u) (driver_of v)) (sym x) (sym y) is

-- it stays so, and what becomes of it is alike
under_stays : (P Q : ReopeningModel → ReopeningModel → Type 0) → ((r s new next : ReopeningModel) → AreReopeningsAlike r s → P r new → Q s next → AreReopeningsAlike new next) →
    (o p new next : Option UnderWay) → AreUnderAlike (reopening_under_way o) (reopening_under_way p) → StaysUnderWay P o new → StaysUnderWay Q p next →
    AreUnderAlike (reopening_under_way new) (reopening_under_way next)
under_stays P Q go (Some o) (Some p) (Some new) (Some next) is x y = go o.reopening p.reopening new.reopening next.reopening is x y
under_stays P Q go (Some o) (Some p) (Some new) None is x y = absurd y
under_stays P Q go (Some o) (Some p) None next is x y = absurd x
under_stays P Q go (Some o) None new next is x y = absurd is
under_stays P Q go None p new next is x y = absurd x

-- ---- reopenings that begin

-- what one keeps that begins in place of another
kept_alike : (r s : ReopeningModel) → AreReopeningsAlike r s → kept_on s ≡ kept_on r
kept_alike r s is = ap₂ (λ (n : Reopening) (copies : List ℕ). if is_some n.settlement then [] else copies) is.ongoing.reopening is.kept

begins_alike : EachAlike GoAlike → (lost gone : List (List ℕ)) (v w : Data) (journal number epoch other : Option ℕ) (o p : Option JournalState) (u t after later : Option UnderWay) →
    AreDriversAlike (driver_of o) (driver_of p) → AreUnderAlike (reopening_under_way u) (reopening_under_way t) → gone ≡ lost → w ≡ v → number ≡ journal → other ≡ epoch →
    ReopensWithout lost o u after → ReopensWithout gone p t later → IsUnderDocument v after → IsUnderDocument w later →
    OpensAsNamed journal epoch o u after → OpensAsNamed number other p t later → AreUnderAlike (reopening_under_way after) (reopening_under_way later)
begins_alike go lost gone v w journal number epoch other o p u t None later drivers under names values journals epochs x y document paper named called = absurd document
begins_alike go lost gone v w journal number epoch other o p u t (Some a) None drivers under names values journals epochs x y document paper named called = absurd paper
begins_alike go lost gone v w journal number epoch other o p (Some u) (Some t) (Some a) (Some b) drivers is names values journals epochs x y document paper named called =
    let r = u.reopening in
    let s = t.reopening in
    fresh_alike r.numbering s.numbering (recorded_setup r.ongoing) (recorded_setup s.ongoing) (recorded_place r.ongoing) (recorded_place s.ongoing) (net_reopening r.ongoing)
    (net_reopening s.ongoing) lost gone a.reopening b.reopening is.numbering is.ongoing.rest.setup is.ongoing.rest.place is.ongoing.reopening names x.under y.under x.fresh y.fresh
    (y.record_is.same_journal ∙ is.journal ∙ sym x.record_is.same_journal) (y.record_is.next ∙ ap (λ n. n + 1) is.epoch ∙ sym x.record_is.next)
    (one_result (read_data (Some v)) _ _ document (subst (λ (d : Data). read_data (Some d) ≡ Ok (rows_of b.reopening.document)) values paper))
    (y.record_is.same_permits ∙ is.permits ∙ sym x.record_is.same_permits) (y.kept ∙ kept_alike r s is ∙ sym x.kept)
begins_alike go lost gone v w journal number epoch other o p (Some u) None (Some a) (Some b) drivers is names values journals epochs x y document paper named called = absurd is
begins_alike go lost gone v w journal number epoch other o p None (Some t) (Some a) (Some b) drivers is names values journals epochs x y document paper named called = absurd is
begins_alike go lost gone v w journal number epoch other (Some o) (Some p) None None (Some a) (Some b) is under names values journals epochs x y document paper named called =
    let c = o.driver.machine.placement.setup in
    let d = p.driver.machine.placement.setup in
    fresh_alike c d c d (record_of o.driver).place (record_of p.driver).place (no_reopening (length c.servers)) (no_reopening (length d.servers)) lost gone a.reopening b.reopening
    is.setup is.setup (ap (λ (z : State). z.place) is.recorded) (ap (λ (z : Setup). no_reopening (length z.servers)) is.setup) names x.under y.under x.fresh y.fresh
    (y.record_is.same_journal ∙ is.journal ∙ sym x.record_is.same_journal) (y.record_is.next ∙ ap (λ n. n + 1) is.epoch ∙ sym x.record_is.next)
    (one_result (read_data (Some v)) _ _ document (subst (λ (d : Data). read_data (Some d) ≡ Ok (rows_of b.reopening.document)) values paper))
    (y.record_is.same_permits ∙ is.permits ∙ sym x.record_is.same_permits) (y.kept ∙ (go o.driver p.driver is).replies.kept ∙ sym x.kept)
begins_alike go lost gone v w journal number epoch other None None None None (Some a) (Some b) is under names values journals epochs x y document paper named called =
    fresh_alike (setup_of [] []) (setup_of [] []) (setup_of [] []) (setup_of [] []) _ _ (no_reopening 0) (no_reopening 0) lost gone a.reopening b.reopening
    refl refl refl refl names x.under y.under x.fresh y.fresh
    (one_value journal a.reopening.journal b.reopening.journal named.0 (sym journals ∙ called.0)) (one_value epoch a.reopening.epoch b.reopening.epoch named.1 (sym epochs ∙ called.1))
    (one_result (read_data (Some v)) _ _ document (subst (λ (d : Data). read_data (Some d) ≡ Ok (rows_of b.reopening.document)) values paper))
    (y.permits ∙ sym x.permits) (y.kept ∙ sym x.kept)
begins_alike go lost gone v w journal number epoch other (Some o) None None None (Some a) (Some b) is under names values journals epochs x y document paper named called = absurd is
begins_alike go lost gone v w journal number epoch other None (Some p) None None (Some a) (Some b) is under names values journals epochs x y document paper named called = absurd is

-- ---- answers to settles

-- what has become of the last one is alike
last_alike : (P Q : ReopeningModel → ReopeningModel → Type 0) → ((r s new next : ReopeningModel) → AreReopeningsAlike r s → P r new → Q s next → AreReopeningsAlike new next) →
    (o p : Option ReopeningModel) (last end : ReopeningModel) → AreUnderAlike o p → BecomesLast P o last → BecomesLast Q p end → AreReopeningsAlike last end
last_alike P Q go (Some r) (Some s) last end is x y = go r s last end is x y
last_alike P Q go (Some r) None last end is x y = absurd is
last_alike P Q go None p last end is x y = absurd x

opened_alike_from : (r s : ReopeningModel) (new next : Option JournalState) → AreReopeningsAlike r s → OpensFrom r new → OpensFrom s next → AreDriversAlike (driver_of new) (driver_of next)
opened_alike_from r s (Some new) (Some next) is x y = drivers_come_alike r s new.driver next.driver is x y
opened_alike_from r s (Some new) None is x y = absurd y
opened_alike_from r s None next is x y = absurd x

-- the last answer is not one after which others are awaited
not_both : (P Q : ReopeningModel → ReopeningModel → Type 0) → ((r s new next : ReopeningModel) → AreReopeningsAlike r s → P r new → Q s next → AreReopeningsAlike new next) →
    (o new p : Option UnderWay) (end : ReopeningModel) → AreUnderAlike (reopening_under_way o) (reopening_under_way p) → WaitsUnderWay P o new →
    BecomesLast Q (reopening_under_way p) end → AllTook (net_reopening end.ongoing) → ⊥
not_both P Q go (Some o) (Some new) (Some p) end is x y all =
    x.1 (subst (λ (n : Reopening). AllTook n) (go o.reopening p.reopening new.reopening end is x.0 y).ongoing.reopening all)
not_both P Q go (Some o) (Some new) None end is x y all = absurd is
not_both P Q go (Some o) None p end is x y all = absurd x
not_both P Q go None new p end is x y all = absurd x

module _ (P Q : ReopeningModel → ReopeningModel → Type 0) (go : (r s new next : ReopeningModel) → AreReopeningsAlike r s → P r new → Q s next → AreReopeningsAlike new next)
    (back : (r s new next : ReopeningModel) → AreReopeningsAlike r s → Q r new → P s next → AreReopeningsAlike new next)
    (a b new next : Session) (is : AreSessionsAlike a b) (si : AreUnderAlike (reopening_under_way b.under_way) (reopening_under_way a.under_way)) where
  settles_alike : (WaitsUnderWay P a.under_way new.under_way × (new.opened ≡ a.opened)) ⊎ ComesInForceBy P a.under_way new.under_way new.opened →
      (WaitsUnderWay Q b.under_way next.under_way × (next.opened ≡ b.opened)) ⊎ ComesInForceBy Q b.under_way next.under_way next.opened → AreSessionsAlike new next
  settles_alike (inl x) (inl y) = record {
    drivers = drivers_stay a.opened b.opened new.opened next.opened is.drivers x.1 y.1;
    under = under_stays (λ o n. P o n × (AllTook (net_reopening n.ongoing) → ⊥)) (λ o n. Q o n × (AllTook (net_reopening n.ongoing) → ⊥))
        (λ r s m n alike p q. go r s m n alike p.0 q.0) a.under_way b.under_way new.under_way next.under_way is.under x.0 y.0;
  }
  settles_alike (inr x) (inr y) =
      let last = last_alike P Q go (reopening_under_way a.under_way) (reopening_under_way b.under_way) x.0 y.0 is.under x.1 y.1 in
      record {
        drivers = opened_alike_from x.0 y.0 new.opened next.opened last x.5 y.5;
        under = subst₂ AreUnderAlike (sym (ap reopening_under_way x.3)) (sym (ap reopening_under_way y.3)) tt;
      }
  settles_alike (inl x) (inr y) = absurd (not_both P Q go a.under_way new.under_way b.under_way y.0 is.under x.0 y.1 y.2)
  settles_alike (inr x) (inl y) = absurd (not_both Q P back b.under_way next.under_way a.under_way x.0 si y.0 x.1 x.2)

-- ---- all of them

-- Lines of a reopening that one value says make sessions that are alike of sessions that are alike.
pub reopening_alike : EachAlike GoAlike → (value : Data) (c k : ReopeningCommand) (a b new next : Session) → Says value (line.Reopening c) → Says value (line.Reopening k) → AreSessionsAlike a b →
    AreUnderAlike (reopening_under_way b.under_way) (reopening_under_way a.under_way) → DoesToSession (line.Reopening c) a new → DoesToSession (line.Reopening k) b next →
    AreSessionsAlike new next
reopening_alike go value (reopening.Reopen document lost journal epoch) (reopening.Reopen paper gone number other) a b new next one two is si x y = record {
  drivers = drivers_stay a.opened b.opened new.opened next.opened is.drivers x.3 y.3;
  under = begins_alike go (texts_among lost.now) (texts_among gone.now) (view document.now) (view paper.now) journal number epoch other a.opened b.opened a.under_way b.under_way
      new.under_way next.under_way is.drivers is.under (same_texts lost.now gone.now (sym two.1.1 ∙ one.1.1)) (one_value _ _ _ one.1.0 two.1.0)
      (sym two.1.2 ∙ one.1.2) (sym two.1.3 ∙ one.1.3) x.0 y.0 x.1 y.1 x.2 y.2;
}
reopening_alike go value (reopening.Fenced server base t) (reopening.Fenced other number u) a b new next one two is si x y = record {
  drivers = drivers_stay a.opened b.opened new.opened next.opened is.drivers x.1 y.1;
  under = under_stays (TakesFenced server base t) (TakesFenced other number u)
      (λ r s m n alike p q. fenced_alike r s alike server other base t u m n (same_server value server other one.1.0 two.1.0) (same_told value t u one.1.2 two.1.2) p
      (subst (λ z. TakesFenced other z u s n) (one_value (whole_at at.Base value) base number one.1.1 two.1.1) q))
      a.under_way b.under_way new.under_way next.under_way is.under x.0 y.0;
}
reopening_alike go value (reopening.Confirm base cells lost) (reopening.Confirm number others more) a b new next one two is si x y = record {
  drivers = drivers_stay a.opened b.opened new.opened next.opened is.drivers x.1 y.1;
  under = under_stays (ConfirmsAt base cells.now lost.now) (ConfirmsAt number others.now more.now)
      (λ r s m n alike p q. confirmed_alike r s alike base cells.now lost.now others.now more.now m n (sym two.1.1 ∙ one.1.1) p
      (subst (λ z. ConfirmsAt z others.now more.now s n) (one_value (whole_at at.Base value) base number one.1.0 two.1.0) q))
      a.under_way b.under_way new.under_way next.under_way is.under x.0 y.0;
}
reopening_alike go value (reopening.Settled server base) (reopening.Settled other number) a b new next one two is si x y =
    let name = same_server value server other one.1.0 two.1.0 in
    let eman = same_server value other server two.1.0 one.1.0 in
    let bases : number ≡ base = one_value (whole_at at.Base value) base number one.1.1 two.1.1 in
    settles_alike (TakesSettledBy server base) (TakesSettledBy other number)
    (λ r s m n alike p q. settled_alike r s alike server other base m n name p (subst (λ z. TakesSettledBy other z s n) bases q))
    (λ r s m n alike p q. settled_alike r s alike other server base m n eman (subst (λ z. TakesSettledBy other z r m) bases p) q)
    a b new next is si x y
reopening_alike go value _ _ a b new next one two is si x y = apart _ _ (sym one.0 ∙ two.0) refl
