-- What comes of lines of a reopening to a session: what has counted is what was asked for, and its reply tells it.
use Rattle.std.proofs.Common.{◌≡◌, ◌∙◌, ◌++◌, ◌⊎◌, ℕ, Bool, true, false, Bor, List, Option, Some, None, ap, inl, inr, refl, subst, sym}
use Rattle.json.specs.Token.{Token}
use Rattle.json_tree.specs.declared.tree.Tree.{Tree}
use Rattle.sm_driver.specs.Driver.{DriverModel}
use Rattle.smpland_lines.specs.declared.command.InventoryText.{InventoryText}
use Rattle.smpland_state.specs.declared.journal_state.JournalState.{JournalState}
use Rattle.laws_network.specs.ReopeningLaws.{AllTook}
use Rattle.sm_reopening.specs.Ongoing.{net_reopening}
use Rattle.smpland_reopening.specs.Reopening.{ReopeningModel}
use Rattle.smpland_reopening_lines.specs.Outcomes.{DoesConfirm, DoesFenced, DoesSettled, has_counted}
use Rattle.smpland_reopening_lines.specs.Taken.{ConfirmsAt, TakesFenced, TakesSettledBy}
use Rattle.smpland_reopening_lines.specs.declared.outcome.ReopeningOutcome.{ReopeningOutcome}
use Rattle.smpland_reopening_lines.specs.declared.outcome.ReopeningOutcome.TheVariants as outcome
use Rattle.smpland_reopening_lines.proofs.Outcomes.{all_took, counts_confirm, counts_fenced, counts_settled, confirm_is, fenced_is, keeps_confirm, keeps_fenced, keeps_settled, not_all, settled_is}
use Rattle.smpland_session.specs.Asked.{StaysUnderWay, WaitsUnderWay, texts_among}
use Rattle.smpland_session.specs.Changes.{BecomesLast, BeginsReopening, ComesInForceBy, Follows as GoesOn, HasChanged, HasGoneOn, Opens as InForce, OpensFrom, OpensOf, ReopensWithout, driver_of, reopening_under_way}
use Rattle.smpland_session.specs.Reopenings.{DoesReopen, DoesSettle, DoesUnderWay, TellsReopen, TellsUnderWay}
use Rattle.smpland_session.specs.Reopenings.{has_begun}
use Rattle.smpland_session.specs.Replies.{Confirmed, Fenced, Follows, Opens, Settled, TellsFences, TellsGoneOn, TellsOn, TellsOpened, TellsReopening}
use Rattle.smpland_session.specs.declared.reopen_line.ReopenLine.{ReopenLine}
use Rattle.smpland_session.specs.declared.reopen_outcome.ReopenOutcome.TheVariants as reopen
use Rattle.smpland_session.specs.declared.under_way.UnderWay.{UnderWay}
use Rattle.smpland_session.proofs.Following.{comes_in_force, settled_by_line, told_by_line}

-- ---- lines on the reopening under way

module _ (P : ReopeningModel → ReopeningOutcome → ReopeningModel → Type 0) (came : ReopeningOutcome) where
  -- what has counted came of it
  stays : (Q : ReopeningModel → ReopeningModel → Type 0) (old new : Option UnderWay) →
      ((o n : ReopeningModel) → P o came n → has_counted came ≡ true → Q o n) →
      DoesUnderWay P old came new → has_counted came ≡ true → StaysUnderWay Q old new
  stays Q (Some o) (Some n) by does is = by o.reopening n.reopening does is
  stays Q (Some o) None by does is = does
  stays Q None (Some n) by does is = does
  stays Q None None by does is = absurd (let z : false ≡ true = sym (ap has_counted does) ∙ is in cc)

  -- all else leaves it as it is
  keeps : (old new : Option UnderWay) → ((o n : ReopeningModel) → P o came n → has_counted came ≡ false → n ≡ o) →
      DoesUnderWay P old came new → has_counted came ≡ false → new ≡ old
  keeps (Some o) (Some n) by does is = ap (λ (r : ReopeningModel). Some (record { reopening = r })) (by o.reopening n.reopening does is)
  keeps (Some o) None by does is = absurd does
  keeps None (Some n) by does is = absurd does
  keeps None None by does is = refl

  -- and what has counted is told
  tells : (opened : Option JournalState) (old new : Option UnderWay) (before after : List Token) →
      ((o n : UnderWay) → P o.reopening came n.reopening → has_counted came ≡ true → TellsUnderWay opened (Some n) came before after →
      TellsOn o.reopening n.reopening before after) →
      DoesUnderWay P old came new → has_counted came ≡ true → TellsUnderWay opened new came before after → TellsGoneOn old new before after
  tells opened (Some o) (Some n) before after by does is told = by o n does is told
  tells opened (Some o) None before after by does is told = does
  tells opened None (Some n) before after by does is told = does
  tells opened None None before after by does is told = absurd (let z : false ≡ true = sym (ap has_counted does) ∙ is in cc)

-- a party has done as its line says, so the reopening has gone on
goes_on : (Q : ReopeningModel → ReopeningModel → Type 0) (old new : Option UnderWay) →
    ((o n : ReopeningModel) → Q o n → HasGoneOn (Some (record { reopening = o })) (Some (record { reopening = n }))) →
    StaysUnderWay Q old new → HasGoneOn old new
goes_on Q (Some o) (Some n) by does = by o.reopening n.reopening does
goes_on Q (Some o) None by does = does
goes_on Q None (Some n) by does = does
goes_on Q None None by does = does

-- ---- answers to fences

module _ (server : Option (Bor (List ℕ))) (base : ℕ) (told : InventoryText) (old new : Option UnderWay) (came : ReopeningOutcome) where
  -- it is the line's
  pub fenced_asked : DoesUnderWay (DoesFenced server base told) old came new → has_counted came ≡ true → StaysUnderWay (TakesFenced server base told) old new
  fenced_asked = stays (DoesFenced server base told) came (TakesFenced server base told) old new (λ o n. counts_fenced server base told o n came)

  -- the reopening has gone on
  pub fenced_taken : DoesUnderWay (DoesFenced server base told) old came new → has_counted came ≡ true → HasGoneOn old new
  fenced_taken does is =
      goes_on (TakesFenced server base told) old new (λ o n taken. inl (told_by_line server base told o n taken)) (fenced_asked does is)

  -- or nothing has changed
  pub fenced_keeps : DoesUnderWay (DoesFenced server base told) old came new → has_counted came ≡ false → new ≡ old
  fenced_keeps = keeps (DoesFenced server base told) came old new (λ o n. keeps_fenced server base told o n came)

  -- and what has is told
  pub fenced_tells : (opened : Option JournalState) (before after : List Token) → DoesUnderWay (DoesFenced server base told) old came new →
      has_counted came ≡ true → TellsUnderWay opened new came before after → TellsGoneOn old new before after
  fenced_tells opened before after = tells (DoesFenced server base told) came opened old new before after (λ o n does is tells.
      Fenced (told_by_line server base told o.reopening n.reopening (counts_fenced server base told o.reopening n.reopening came does is))
      (subst (λ (it : ReopeningOutcome). TellsUnderWay opened (Some n) it before after) (fenced_is server base told o.reopening n.reopening came does is) tells))

-- ---- confirmations

module _ (base : ℕ) (cells lost : List Tree) (old new : Option UnderWay) (came : ReopeningOutcome) where
  -- it is the line's
  pub confirm_asked : DoesUnderWay (DoesConfirm base cells lost) old came new → has_counted came ≡ true → StaysUnderWay (ConfirmsAt base cells lost) old new
  confirm_asked = stays (DoesConfirm base cells lost) came (ConfirmsAt base cells lost) old new (λ o n. counts_confirm base cells lost o n came)

  -- the reopening has gone on
  pub confirm_taken : DoesUnderWay (DoesConfirm base cells lost) old came new → has_counted came ≡ true → HasGoneOn old new
  confirm_taken does is = goes_on (ConfirmsAt base cells lost) old new (λ o n taken. inr (inl taken.2)) (confirm_asked does is)

  -- or nothing has changed
  pub confirm_keeps : DoesUnderWay (DoesConfirm base cells lost) old came new → has_counted came ≡ false → new ≡ old
  confirm_keeps = keeps (DoesConfirm base cells lost) came old new (λ o n. keeps_confirm base cells lost o n came)

  -- and what has is told
  pub confirm_tells : (opened : Option JournalState) (before after : List Token) → DoesUnderWay (DoesConfirm base cells lost) old came new →
      has_counted came ≡ true → TellsUnderWay opened new came before after → TellsGoneOn old new before after
  confirm_tells opened before after = tells (DoesConfirm base cells lost) came opened old new before after (λ o n does is tells.
      Confirmed (counts_confirm base cells lost o.reopening n.reopening came does is).2
      (subst (λ (it : ReopeningOutcome). TellsUnderWay opened (Some n) it before after) (confirm_is base cells lost o.reopening n.reopening came does is) tells))

-- ---- answers to settles

-- an answer to a settle is the last one, or it is not
is_last : (it : ReopeningOutcome) → (it ≡ outcome.Complete) ⊎ (it ≡ outcome.Complete → ⊥)
is_last outcome.Fenced = inr (λ (e : outcome.Fenced ≡ outcome.Complete). absurd (let z = e in cc))
is_last outcome.Confirmed = inr (λ (e : outcome.Confirmed ≡ outcome.Complete). absurd (let z = e in cc))
is_last outcome.Settled = inr (λ (e : outcome.Settled ≡ outcome.Complete). absurd (let z = e in cc))
is_last outcome.Complete = inl refl
is_last outcome.Old = inr (λ (e : outcome.Old ≡ outcome.Complete). absurd (let z = e in cc))
is_last (outcome.Bad fault) = inr (λ (e : outcome.Bad fault ≡ outcome.Complete). absurd (let z = e in cc))
is_last (outcome.Refused why) = inr (λ (e : outcome.Refused why ≡ outcome.Complete). absurd (let z = e in cc))

module _ (server : Option (Bor (List ℕ))) (base : ℕ) (opened : Option JournalState) (under : Option UnderWay) (new : Option JournalState) (after_it : Option UnderWay) where
  -- unless it is the last one, the open journal stays as it is
  before_last : (came : ReopeningOutcome) → (came ≡ outcome.Complete → ⊥) → DoesSettle server base opened under came new after_it →
      DoesUnderWay (DoesSettled server base) under came after_it × (new ≡ opened)
  before_last outcome.Fenced others does = does
  before_last outcome.Confirmed others does = does
  before_last outcome.Settled others does = does
  before_last outcome.Complete others does = absurd (others refl)
  before_last outcome.Old others does = does
  before_last (outcome.Bad _) others does = does
  before_last (outcome.Refused _) others does = does

  module _ (came : ReopeningOutcome) (does : DoesSettle server base opened under came new after_it) where
    -- with the last one what was settled is in force
    completes : came ≡ outcome.Complete → ComesInForceBy (TakesSettledBy server base) under after_it new
    completes is = subst (λ (it : ReopeningOutcome). DoesSettle server base opened under it new after_it) is does

    -- with any other that counts, the reopening stays under way
    waits : (came ≡ outcome.Complete → ⊥) → has_counted came ≡ true → StaysUnderWay (TakesSettledBy server base) under after_it
    waits others is = stays (DoesSettled server base) came (TakesSettledBy server base) under after_it (λ o n. counts_settled server base o n came)
        (before_last came others does).0 is

    -- and others have not taken theirs
    awaits : (came ≡ outcome.Complete → ⊥) → has_counted came ≡ true → WaitsUnderWay (TakesSettledBy server base) under after_it
    awaits others is = stays (DoesSettled server base) came (λ o n. TakesSettledBy server base o n × (AllTook (net_reopening n.ongoing) → ⊥)) under after_it
        (λ o n did counts. (
          counts_settled server base o n came did counts,
          elim (settled_is server base o n came did counts) [
            | inl e ↦ not_all server base o n (subst (λ (it : ReopeningOutcome). DoesSettled server base o it n) e did)
            | inr e ↦ absurd (others e)
          ],
        ))
        (before_last came others does).0 is

    -- it is the line's
    pub settled_asked : has_counted came ≡ true →
        (WaitsUnderWay (TakesSettledBy server base) under after_it × (new ≡ opened)) ⊎ ComesInForceBy (TakesSettledBy server base) under after_it new
    settled_asked is = elim (is_last came) [
      | inl e ↦ inr (completes e)
      | inr others ↦ inl (awaits others is, (before_last came others does).1)
    ]

    -- it has changed the session
    pub settled_changes : has_counted came ≡ true → HasChanged opened under new after_it
    settled_changes is = elim (is_last came) [
      | inl e ↦ InForce (comes_in_force server base under after_it new (completes e))
      | inr others ↦ GoesOn (before_last came others does).1
          (goes_on (TakesSettledBy server base) under after_it (λ o n taken. inr (inr (settled_by_line server base o n taken))) (waits others is))
    ]

    -- or nothing has changed
    pub settled_keeps : has_counted came ≡ false → (new ≡ opened) × (after_it ≡ under)
    settled_keeps is =
        let others : came ≡ outcome.Complete → ⊥ = λ (e : came ≡ outcome.Complete). absurd (let z : true ≡ false = sym (ap has_counted e) ∙ is in cc) in
        let still = before_last came others does in
        (still.1, keeps (DoesSettled server base) came under after_it (λ o n. keeps_settled server base o n came) still.0 is)

    -- and what has is told
    pub settled_tells : (before after : List Token) → has_counted came ≡ true → TellsUnderWay new after_it came before after →
        TellsReopening opened under new after_it before after
    settled_tells before after is told = elim (is_last came) [
      | inl e ↦ Opens (comes_in_force server base under after_it new (completes e))
          (opens new (completes e) (subst (λ (it : ReopeningOutcome). TellsUnderWay new after_it it before after) e told))
      | inr others ↦ Follows (tells (DoesSettled server base) came new under after_it before after (λ o n did counts told.
          Settled (settled_by_line server base o.reopening n.reopening (counts_settled server base o.reopening n.reopening came did counts))
          (elim (settled_is server base o.reopening n.reopening came did counts) [
            | inl e ↦ subst (λ (it : ReopeningOutcome). TellsUnderWay new (Some n) it before after) e told
            | inr e ↦ absurd (others e)
          ]))
          (before_last came others does).0 is told)
    ]
      where
        opens : (o : Option JournalState) → ComesInForceBy (TakesSettledBy server base) under after_it o → TellsUnderWay o after_it outcome.Complete before after →
            TellsOpened o before after
        opens (Some o) comes told = told
        opens None comes told = absurd comes.4

-- the last answer was taken, and what was settled came in force
pub comes_by_last : (server : Option (Bor (List ℕ))) (base : ℕ) (current : UnderWay) (last : ReopeningModel) (came : ReopeningOutcome) (opened : Option JournalState)
    (under : Option UnderWay) (new : Option JournalState) (after_it : Option UnderWay) → came ≡ outcome.Complete → Some current ≡ under →
    DoesSettled server base current.reopening came last → after_it ≡ None → OpensOf last new → OpensFrom last new →
    DoesSettle server base opened under came new after_it
comes_by_last server base current last came opened under new after_it is was did none opens from =
    let does : DoesSettled server base current.reopening outcome.Complete last =
    subst (λ (it : ReopeningOutcome). DoesSettled server base current.reopening it last) is did in
    subst (λ (it : ReopeningOutcome). DoesSettle server base opened under it new after_it) (sym is) (
      last,
      subst (λ (o : Option UnderWay). BecomesLast (TakesSettledBy server base) (reopening_under_way o) last) was
          (counts_settled server base current.reopening last outcome.Complete does refl),
      (all_took server base current.reopening last does).0,
      none,
      opens,
      from,
    )

-- any other answer was, and the reopening goes on
pub goes_on_by : (server : Option (Bor (List ℕ))) (base : ℕ) (current : UnderWay) (next : ReopeningModel) (came : ReopeningOutcome) (opened : Option JournalState)
    (under : Option UnderWay) (new : Option JournalState) (after_it : Option UnderWay) → (came ≡ outcome.Complete → ⊥) → Some current ≡ under →
    DoesSettled server base current.reopening came next → after_it ≡ Some (record { reopening = next }) → new ≡ opened →
    DoesSettle server base opened under came new after_it
goes_on_by server base current next came opened under new after_it others was did is stays = by_came came others under_way
  where
    under_way : DoesUnderWay (DoesSettled server base) under came after_it × (new ≡ opened)
    under_way = (
      subst (λ (o : Option UnderWay). DoesUnderWay (DoesSettled server base) o came after_it) was
          (subst (λ (o : Option UnderWay). DoesUnderWay (DoesSettled server base) (Some current) came o) (sym is) did),
      stays,
    )

    by_came : (it : ReopeningOutcome) → (it ≡ outcome.Complete → ⊥) → DoesUnderWay (DoesSettled server base) under it after_it × (new ≡ opened) →
        DoesSettle server base opened under it new after_it
    by_came outcome.Fenced others does = does
    by_came outcome.Confirmed others does = does
    by_came outcome.Settled others does = does
    by_came outcome.Complete others does = absurd (others refl)
    by_came outcome.Old others does = does
    by_came (outcome.Bad _) others does = does
    by_came (outcome.Refused _) others does = does

-- ---- reopenings that begin

nothing_begins : (lost : List (List ℕ)) (driver : Option DriverModel) (before : Option ReopeningModel) → BeginsReopening lost driver before None → ⊥
nothing_begins lost driver (Some b) begun = begun
nothing_begins lost (Some d) None begun = begun
nothing_begins lost None None begun = begun

-- the fences of the one that has begun are told
pub reopen_tells : (line : ReopenLine) (opened : Option JournalState) (under after_it : Option UnderWay) (before after : List Token) →
    DoesReopen line opened under reopen.Begun after_it → TellsReopen after_it reopen.Begun before after → TellsFences after_it before after
reopen_tells line opened under (Some u) before after does told = told
reopen_tells line opened under None before after does told =
    absurd (nothing_begins (texts_among line.lost.now) (driver_of opened) (reopening_under_way under) does.0)
