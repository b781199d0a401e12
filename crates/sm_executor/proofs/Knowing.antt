-- A caller's knowledge of the map: the newest entry of each shard, so that its looks find that entry or a newer one.
use Rattle.std.proofs.Common.{◌≡◌, ◌≢◌, ◌<◌, ℕ, zero, suc, List, [], ◌∷◌, length, length-set, refl, sym, ap, ◌∙◌, subst, arith}
use Rattle.std.specs.Prelude.{Option, Some, All, IfSome, slice_get, slice_set}
use Rattle.std.proofs.lemmas.List.Elements.{All-head}
use Rattle.sm_placement.specs.declared.entry.Entry.{Entry}
use Rattle.sm_map.specs.History.{IsSameOrOlder, IsNotBefore, entries_of_shard, newest, opened_at}
use Rattle.sm_map.specs.Models.{WordsModel, PublisherModel}
use Rattle.sm_map.proofs.Histories.{after_store}
use Rattle.sm_placement.specs.Place.{entry_at}
use Rattle.sm_protocol.specs.State.{State}
use Rattle.sm_executor.specs.Looking.{known_of}
use Rattle.sm_executor.specs.Tied.{IsPublished}

get_same : (es : List Entry) (s : ℕ) (e : Entry) → s < length es → slice_get (slice_set es s e) s ≡ Some e
get_same [] s e inside = absurd (omega arith)
get_same (x ∷ xs) zero e inside = refl
get_same (x ∷ xs) (suc s) e inside = get_same xs s e (omega arith)

get_other : (es : List Entry) (j s : ℕ) (e : Entry) → j ≢ s → slice_get (slice_set es j e) s ≡ slice_get es s
get_other [] j s e apart = refl
get_other (x ∷ xs) zero zero e apart = absurd (apart refl)
get_other (x ∷ xs) zero (suc s) e apart = refl
get_other (x ∷ xs) (suc j) zero e apart = refl
get_other (x ∷ xs) (suc j) (suc s) e apart = get_other xs j s e (λ t. apart (ap suc t))

opened_get : (opening : List Entry) (s : ℕ) → slice_get opening s ≡ newest (opened_at opening s)
opened_get [] s = refl
opened_get (e ∷ es) zero = refl
opened_get (e ∷ es) (suc s) = opened_get es s

known_long : (opening : List Entry) (since : List (ℕ × Entry)) → length (known_of opening since) ≡ length opening
known_long opening [] = refl
known_long opening (x ∷ since) = length-set (known_of opening since) x.0 x.1 ∙ known_long opening since

-- what is known of a shard is its newest entry
known_at : (opening : List Entry) (since : List (ℕ × Entry)) (s : ℕ) → s < length opening → slice_get (known_of opening since) s ≡ newest (entries_of_shard opening since s)
known_at opening [] s inside = opened_get opening s
known_at opening (x ∷ since) s inside =
    let long : length (known_of opening since) ≡ length opening = known_long opening since in
    after_store opening since x.0 s x.1 (λ l. slice_get (slice_set (known_of opening since) x.0 x.1) s ≡ newest l)
    (λ t. subst (λ (j : ℕ). slice_get (slice_set (known_of opening since) j x.1) s ≡ Some x.1) (sym t) (get_same (known_of opening since) s x.1 (omega arith)))
    (λ t. get_other (known_of opening since) x.0 s x.1 t ∙ known_at opening since s inside)

-- what the publisher has stored makes the machine's entries of what the words were opened with
pub knows_map : (words : WordsModel) (opened now : State) (p : PublisherModel) → IsPublished words opened now p → (s : ℕ) → s < now.sizes.shards → slice_get (known_of words.opening p.stores) s ≡ Some (entry_at now.place s)
knows_map words opened now p k s inside =
    known_at words.opening p.stores s (subst (λ (n : ℕ). s < n) (sym k.shards) inside) ∙ ap (λ (w : WordsModel). newest (entries_of_shard w.opening p.stores s)) (sym k.words_are) ∙ k.newest_is s inside

newest_older : (entry : Entry) (entries : List Entry) → All (IsSameOrOlder entry) entries → IfSome (newest entries) (IsSameOrOlder entry)
newest_older entry [] older = tt
newest_older entry (x ∷ xs) older = All-head (IsSameOrOlder entry) x xs older

-- what a look finds is the newest entry that is known, or a newer one
pub known_older : (opening : List Entry) (since : List (ℕ × Entry)) (shard : ℕ) (entry : Entry) → shard < length opening → IsNotBefore opening since shard entry → IfSome (slice_get (known_of opening since) shard) (IsSameOrOlder entry)
known_older opening since shard entry inside older =
    subst (λ (o : Option Entry). IfSome o (IsSameOrOlder entry)) (sym (known_at opening since shard inside)) (newest_older entry (entries_of_shard opening since shard) older)
