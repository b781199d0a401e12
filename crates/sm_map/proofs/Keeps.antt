-- Each step keeps the rule of the words.
use Rattle.std.proofs.Common.{◌≡◌, ◌≢◌, ℕ, zero, suc, ◌<◌, ◌≤◌, List, [], ◌∷◌, ◌++◌, length, set, get_or, true, true≢false, refl, sym, ap, ◌∙◌, subst, ⊎_elim, arith, append-nil, length-set, get_or-set_other, get_or-set_same}
use Rattle.std.specs.Prelude.{Some, All, Contains}
use Rattle.std.proofs.lemmas.List.Elements.{All-nil, All-cons, All-head, All-same}
use mathlib.Core.Option.{some, none, some-ne-none, some-injective}
use lib.ListN.{get_elem?}
use lib.Seq.{set-get_or}
use Rattle.atomic_table.specs.Table.{State, Me, step, keeps, stepped, opening, Allows, Splits, Joins}
use Rattle.atomic_table.proofs.Lists.{at_set, at_snoc}
use Rattle.sm_placement.specs.declared.entry.Entry.{Entry}
use Rattle.sm_map.specs.declared.rule.View.{View}
use Rattle.sm_map.specs.Entry.{IsInRange, word_for, entry_for}
use Rattle.sm_map.specs.History.{entries_of_shard, newest, Follows, VersionsRise, IsNotBefore, AllStand, word_at, words_for}
use Rattle.sm_map.specs.Rule.{publisher_view, pass_view, spent, joined, publisher_part, pass_part, with_seen, with_store, Fits, Kept, Finds, Looks, Meets, Stores}
use Rattle.sm_map.proofs.Histories.{some_newest, after_store, stand_after, stand_more, all_same_or_older, is_not_before, rises_more, enough_words, first_words, first_rises, first_in_range}

-- a view that is no publisher's fits where what was stored is the earlier part of what is, and what it has seen stands
pass_fits : (servers : ℕ) (opened : List Entry) (publisher : ℕ) (stores : List (ℕ × Entry)) (seat n : ℕ) (o : List Entry) (later since seen : List (ℕ × Entry)) → stores ≡ later ++ since → AllStand opened stores seen → Fits servers opened publisher stores seat (pass_view n o since seen)
pass_fits servers opened publisher stores seat n o later since seen earlier stand = record { one = λ t. absurd (true≢false (sym t)); later = later; earlier = earlier; stand = stand }

-- nothing is the earlier part of what is stored
nothing_since : (stores : List (ℕ × Entry)) → stores ≡ stores ++ []
nothing_since stores = sym (append-nil stores)

-- where nothing was seen, all of it stands
none_seen : (opened : List Entry) (stores : List (ℕ × Entry)) → AllStand opened stores []
none_seen opened stores = All-nil (λ (x : ℕ × Entry). Contains (entries_of_shard opened stores x.0) x.1)

module _ (S : Type 0) (servers : ℕ) (opened : List Entry) where
  abbrev Rule : State S View → Type 0
  Rule state = Kept servers opened state

  -- after a change of one view, where the others still fit
  fits_set : (publisher : ℕ) (stores : List (ℕ × Entry)) (views : List View) (id : ℕ) (w : View) → ((j : ℕ) (u : View) → j ≢ id → get_elem? views j ≡ some u → Fits servers opened publisher stores j u) → Fits servers opened publisher stores id w → (j : ℕ) (u : View) → get_elem? (set views id w) j ≡ some u → Fits servers opened publisher stores j u
  fits_set publisher stores views id w others mine j u at =
      ⊎_elim
      (λ (x : (j ≡ id) × (w ≡ u)). subst (λ (y : ℕ × View). Fits servers opened publisher stores y.0 y.1) (λ k. (sym x.0 k, x.1 k)) mine)
      (λ (x : (j ≢ id) × (get_elem? views j ≡ some u)). others j u x.0 x.1)
      (at_set views id j w u at)

  -- a step that changes no word
  unmoved : (s : State S View) (r : Rule s) (shard id : ℕ) (taken : List (ℕ × S)) (w : View) → Fits servers opened r.publisher r.stores id w → Rule (stepped s shard (get_or s.words shard 0) id taken w keeps)
  unmoved s r shard id taken w mine = subst (λ (ws : List ℕ). Rule record { words = ws; homes = s.homes; views = set s.views id w }) (sym (set-get_or s.words shard 0)) record {
    publisher = r.publisher;
    stores = r.stores;
    enough = r.enough;
    words = r.words;
    rises = r.rises;
    in_range = r.in_range;
    each = fits_set r.publisher r.stores s.views id w (λ j u _ at. r.each j u at) mine;
  }

  -- what a load finds: the shard's newest entry. The view fits with it seen, and the step tells what it should
  finds : (s : State S View) (r : Rule s) (slots id : ℕ) (m : Me S View) (shard : ℕ) → shard < length opened → m.0.servers ≡ servers → m.0.opening ≡ opened → get_elem? s.views id ≡ some m.0
      → (entry : Entry) × (newest (entries_of_shard opened r.stores shard) ≡ Some entry) × Fits servers opened r.publisher r.stores id (with_seen m.0 shard entry) × Finds (step slots shard 0 0 none) m (get_or s.words shard 0) (with_seen m.0 shard entry, m.1) entry
  finds s r slots id m shard inside count same at =
      let first = some_newest opened r.stores shard inside in
      let entry : Entry = first.0 in
      let rest : List Entry = first.1 in
      let is : entries_of_shard opened r.stores shard ≡ entry ∷ rest = first.2 in
      let rises : VersionsRise (entry ∷ rest) = subst VersionsRise is (r.rises shard) in
      let mine : Fits servers opened r.publisher r.stores id m.0 = r.each id m.0 at in
      let good : IsInRange servers entry = All-head (IsInRange servers) entry rest (All-same (IsInRange servers) (entry ∷ rest) (entries_of_shard opened r.stores shard) (sym is) (r.in_range shard)) in (
        entry,
        ap newest is,
        record { one = mine.one; later = mine.later; earlier = mine.earlier; stand = stand_more opened r.stores shard entry rest m.0.seen is mine.stand },
        record {
          word = r.words shard ∙ ap (λ (l : List Entry). word_at (newest l)) is;
          in_range = subst (λ (n : ℕ). IsInRange n entry) (sym count) good;
          not_older = all_same_or_older opened r.stores m.0.seen shard entry rest rises is mine.stand;
          not_before = subst (λ (o : List Entry). IsNotBefore o m.0.since shard entry) (sym same) (is_not_before opened r.stores mine.later m.0.since shard entry rest rises is mine.earlier);
          view = refl;
          slots = refl;
        },
      )

  -- a load by a pass
  pub looks : (slots id : ℕ) (m : Me S View) (shard : ℕ) → shard < length opened → m.0.servers ≡ servers → m.0.opening ≡ opened → Allows Rule slots id m shard (λ x. x) (Looks (step slots shard 0 0 none) m)
  looks slots id m shard inside count same s r _ at _ =
      let found = finds s r slots id m shard inside count same at in
      (with_seen m.0 shard found.0, keeps, tt, unmoved s r shard id m.1 (with_seen m.0 shard found.0) found.2, (found.0, found.3))

  -- a load by the publisher's seat with a pass's view
  pub meets : (slots id : ℕ) (m : Me S View) (shard : ℕ) → m.0.publishes ≡ true → shard < length opened → m.0.servers ≡ servers → Allows Rule slots id m shard (λ x. x) (Meets (step slots shard 0 0 none) m)
  meets slots id m shard publishes inside count s r _ at _ =
      let mine : Fits servers opened r.publisher r.stores id m.0 = r.each id m.0 at in
      let one = mine.one publishes in
      let found = finds s r slots id m shard inside count one.2 at in (
        with_seen m.0 shard found.0,
        keeps,
        tt,
        unmoved s r shard id m.1 (with_seen m.0 shard found.0) found.2,
        record {
          entry = found.0;
          finds = found.3;
          last = (λ k. newest (entries_of_shard (one.2 k) (one.3 k) shard)) ∙ found.1;
          later = mine.later;
          earlier = one.3 ∙ mine.earlier;
          stand = subst (λ (x : List Entry × List (ℕ × Entry)). AllStand x.0 x.1 m.0.seen) (λ k. (sym one.2 k, sym one.3 k)) mine.stand;
        },
      )

  -- a store by the publisher's seat
  pub stores : (slots id : ℕ) (m : Me S View) (shard word : ℕ) (entry : Entry) → m.0.publishes ≡ true → word ≡ word_for entry → entry_for word ≡ entry → IsInRange servers entry → Follows (entries_of_shard m.0.opening m.0.stores shard) entry → shard < length opened
      → Allows Rule slots id m shard (λ _. word) (λ _. Stores (step slots shard word 0 none) m word)
  stores slots id m shard word entry publishes is back good follows inside s r _ at _ =
      let mine : Fits servers opened r.publisher r.stores id m.0 = r.each id m.0 at in
      let one = mine.one publishes in
      let follows' : Follows (entries_of_shard opened r.stores shard) entry = subst (λ (x : List Entry × List (ℕ × Entry)). Follows (entries_of_shard x.0 x.1 shard) entry) (λ k. (one.2 k, one.3 k)) follows in
      let enough : length opened ≤ length s.words = r.enough in
      let w : View = with_store m.0 shard entry in (
        w,
        keeps,
        tt,
        record {
          publisher = r.publisher;
          stores = (shard, entry) ∷ r.stores;
          enough = subst (λ (n : ℕ). length opened ≤ n) (sym (length-set s.words shard word)) r.enough;
          words = λ j. after_store opened r.stores shard j entry (λ l. get_or (set s.words shard word) j 0 ≡ word_at (newest l))
              (λ t. ap (λ (k : ℕ). get_or (set s.words shard word) k 0) (sym t) ∙ (get_or-set_same s.words shard word 0 (omega arith) ∙ is))
              (λ t. get_or-set_other s.words shard j word 0 (λ z. t (sym z)) ∙ r.words j);
          rises = λ j. after_store opened r.stores shard j entry VersionsRise (λ t. rises_more (entries_of_shard opened r.stores j) entry (subst (λ (k : ℕ). Follows (entries_of_shard opened r.stores k) entry) t follows') (r.rises j)) (λ t. r.rises j);
          in_range = λ j. after_store opened r.stores shard j entry (All (IsInRange servers)) (λ t. All-cons (IsInRange servers) entry (entries_of_shard opened r.stores j) good (r.in_range j)) (λ t. r.in_range j);
          each = fits_set r.publisher ((shard, entry) ∷ r.stores) s.views id w
              (λ j u apart there. let f : Fits servers opened r.publisher r.stores j u = r.each j u there in record { one = λ t. absurd (apart ((f.one t).0 ∙ sym one.0)); later = (shard, entry) ∷ f.later; earlier = ap (λ l. (shard, entry) ∷ l) f.earlier; stand = stand_after opened r.stores shard entry u.seen f.stand })
              record { one = λ _. (one.0, one.1, one.2, ap (λ l. (shard, entry) ∷ l) one.3); later = (shard, entry) ∷ mine.later; earlier = ap (λ l. (shard, entry) ∷ l) mine.earlier; stand = stand_after opened r.stores shard entry m.0.seen mine.stand };
        },
        record { view = ap (λ (e : Entry). with_store m.0 shard e) (sym back); slots = refl },
      )

  -- a pass is parted from the publisher
  pub splits : (id : ℕ) (v : View) → v.publishes ≡ true → Splits Rule id v (publisher_part v) (pass_part v)
  splits id v publishes s r at =
      let f : Fits servers opened r.publisher r.stores id v = r.each id v at in
      record {
        publisher = r.publisher;
        stores = r.stores;
        enough = r.enough;
        words = r.words;
        rises = r.rises;
        in_range = r.in_range;
        each = λ j u there. ⊎_elim
            (λ was. fits_set r.publisher r.stores s.views id (publisher_part v) (λ i x _ at'. r.each i x at') record { one = f.one; later = r.stores; earlier = nothing_since r.stores; stand = none_seen opened r.stores } j u was)
            (λ (same : pass_part v ≡ u). subst (Fits servers opened r.publisher r.stores j) same (pass_fits servers opened r.publisher r.stores j v.servers v.opening [] v.stores v.seen (sym (f.one publishes).3) f.stand))
            (at_snoc (set s.views id (publisher_part v)) (pass_part v) u j there);
      }

  -- a pass joins the publisher
  pub joins : (id : ℕ) (v : View) (other : ℕ) (w : View) → Joins Rule id v other w (joined v w) spent
  joins id v other w s r at apart there =
      let f : Fits servers opened r.publisher r.stores id v = r.each id v at in
      let both : View = joined v w in
      let theirs : Fits servers opened r.publisher r.stores other w = ⊎_elim (λ (t : (other ≡ id) × (both ≡ w)). absurd (apart t.0)) (λ (t : (other ≢ id) × (get_elem? s.views other ≡ some w)). r.each other w t.1) (at_set s.views id other both w there) in
      record {
        publisher = r.publisher;
        stores = r.stores;
        enough = r.enough;
        words = r.words;
        rises = r.rises;
        in_range = r.in_range;
        each = fits_set r.publisher r.stores (set s.views id both) other spent
            (λ j u _ at'. fits_set r.publisher r.stores s.views id both (λ i x _ at''. r.each i x at'') record { one = f.one; later = theirs.later; earlier = theirs.earlier; stand = theirs.stand } j u at')
            (pass_fits servers opened r.publisher r.stores other 0 [] r.stores [] [] (nothing_since r.stores) (none_seen opened r.stores));
      }

  -- the rule holds at the opening
  pub begins : All (IsInRange servers) opened → Rule (opening (words_for opened) [] (publisher_view servers opened []))
  begins good = record {
    publisher = 0;
    stores = [];
    enough = enough_words opened;
    words = first_words opened;
    rises = first_rises opened;
    in_range = λ shard. first_in_range servers opened shard good;
    each = one;
  }
    where
      one : (seat : ℕ) (view : View) → get_elem? (publisher_view servers opened [] ∷ []) seat ≡ some view → Fits servers opened 0 [] seat view
      one zero view at = subst (Fits servers opened 0 [] 0) (some-injective _ _ at) record { one = λ _. (refl, refl, refl, refl); later = []; earlier = refl; stand = none_seen opened [] }
      one (suc seat) view at = absurd (some-ne-none view (sym at))
