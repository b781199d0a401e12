-- One shot more of a disk in memory.
use Rattle.std.proofs.Common.{◌≡◌, ◌⊎◌, ⊎_elim, ℕ, zero, suc, ◌+◌, ◌-◌, ◌≤◌, ◌<◌, min, List, [], ◌∷◌, ◌++◌, length, take, drop, false, Option, Some, refl, sym, ◌∙◌, ap, subst, arith, append_assoc, take-append-drop, length-append}
use Rattle.std.specs.Prelude.{slice_get}
use Rattle.std.proofs.lemmas.Bool.{cases_lt}
use Rattle.std.proofs.lemmas.List.{append-nil, length_push, take_all, take_at, take_rest, take-take, nil_from_length, length-drop, length-take}
use Rattle.journal_store.specs.declared.shot.Shot.{Shot}
use Rattle.journal_store.specs.declared.memory.MemoryDisk.{MemoryDisk}
use Rattle.journal_store.specs.Store.{IsTorn, IsCut, StepsTo}
use Rattle.journal_store.specs.Disk.{DiskPasses, IsBrought}
use Rattle.journal_store.specs.Shot.{IsLeft, written_in, left_in, nameless_in, own_in}
use Rattle.journal_store.specs.MemoryDisk.{memory_moment, memory_written, memory_left, memory_nameless, memory_own}

slice_get_front : {X : Type 0} (xs : List X) (x : X) (n : ℕ) → n < length xs → slice_get (xs ++ x ∷ []) n ≡ slice_get xs n
slice_get_front [] x n within = absurd (omega (arith, within))
slice_get_front (y ∷ xs) x zero within = refl
slice_get_front (y ∷ xs) x (suc n) within = slice_get_front xs x n (omega (arith, within))

-- what stands last
pub slice_get_last : {X : Type 0} (xs : List X) (x : X) (n : ℕ) → n ≡ length xs → slice_get (xs ++ x ∷ []) n ≡ Some x
slice_get_last [] x n is = ap (slice_get (x ∷ [])) is
slice_get_last (y ∷ xs) x zero is = absurd (omega (arith, is))
slice_get_last (y ∷ xs) x (suc n) is = slice_get_last xs x n (omega (arith, is))

-- the shot that stands last
pub present_push : (store : MemoryDisk) (before : List Shot) (next : Shot) → store.shots.items ≡ before ++ next ∷ [] → slice_get store.shots.items (memory_moment store) ≡ Some next
present_push store before next is = ap (λ (l : List Shot). slice_get l (memory_moment store)) is ∙ slice_get_last before next (memory_moment store) (omega (arith, ap length is, length_push before next))

-- where a shot more is there, time went on by one moment
pub passes_push : (old new : MemoryDisk) (present next : Shot) (text : List ℕ) (told : List ℕ → Type 0) → 0 < length old.shots.items → slice_get old.shots.items (memory_moment old) ≡ Some present
    → new.shots.items ≡ old.shots.items ++ next ∷ [] → next.written.items ≡ text → ((content : List ℕ) → IsLeft next content → told content)
    → (next.is_named ≡ false → present.is_named ≡ false) → DiskPasses memory_moment memory_written memory_left memory_nameless old new text told
passes_push old new present next text told some now is written each named = record {
  bytes = record {
    later = omega (arith, longer, some);
    texts = λ n past. ap written_in (at n past);
    before = λ n content past left. subst (λ (o : Option Shot). left_in o content) (at n past) left;
    kept = λ n content past left. subst (λ (o : Option Shot). left_in o content) (sym (at n past)) left;
    written = λ n after until. ap written_in (last n after until) ∙ written;
    each = λ n content after until left. each content (subst (λ (o : Option Shot). left_in o content) (last n after until) left);
  };
  before = λ n past nameless. subst nameless_in (at n past) nameless;
  kept = λ n past nameless. subst nameless_in (sym (at n past)) nameless;
  each = λ n after until nameless. subst nameless_in (sym now) (named (subst nameless_in (last n after until) nameless));
}
  where
    longer : length new.shots.items ≡ length old.shots.items + 1
    longer = ap length is ∙ length_push old.shots.items next

    at : (n : ℕ) → n ≤ length old.shots.items - 1 → slice_get new.shots.items n ≡ slice_get old.shots.items n
    at n past = ap (λ (l : List Shot). slice_get l n) is ∙ slice_get_front old.shots.items next n (omega (arith, past, some))

    last : (n : ℕ) → length old.shots.items - 1 < n → n ≤ length new.shots.items - 1 → slice_get new.shots.items n ≡ Some next
    last n after until = ap (λ (l : List Shot). slice_get l n) is ∙ slice_get_last old.shots.items next n (omega (arith, after, until, some, ap length is, length_push old.shots.items next))

-- where none is, no time went on
pub passes_same : (old new : MemoryDisk) (text : List ℕ) (told : List ℕ → Type 0) → new.shots.items ≡ old.shots.items → DiskPasses memory_moment memory_written memory_left memory_nameless old new text told
passes_same old new text told is = record {
  bytes = record {
    later = omega (arith, ap length is);
    texts = λ n past. ap (λ (l : List Shot). written_in (slice_get l n)) is;
    before = λ n content past left. subst (λ (l : List Shot). left_in (slice_get l n) content) is left;
    kept = λ n content past left. subst (λ (l : List Shot). left_in (slice_get l n) content) (sym is) left;
    written = λ n after until. absurd (omega (arith, after, until, ap length is));
    each = λ n content after until left. absurd (omega (arith, after, until, ap length is));
  };
  before = λ n past nameless. subst (λ (l : List Shot). nameless_in (slice_get l n)) is nameless;
  kept = λ n past nameless. subst (λ (l : List Shot). nameless_in (slice_get l n)) (sym is) nameless;
  each = λ n after until nameless. absurd (omega (arith, after, until, ap length is));
}

-- a shot more, or none where the disk failed
pub passes_on : (old new : MemoryDisk) (present next : Shot) (text : List ℕ) (told : List ℕ → Type 0) → 0 < length old.shots.items → slice_get old.shots.items (memory_moment old) ≡ Some present
    → (new.shots.items ≡ old.shots.items ++ next ∷ []) ⊎ (new.shots.items ≡ old.shots.items) → next.written.items ≡ text → ((content : List ℕ) → IsLeft next content → told content)
    → (next.is_named ≡ false → present.is_named ≡ false) → DiskPasses memory_moment memory_written memory_left memory_nameless old new text told
passes_on old new present next text told some now either written each named = ⊎_elim
    (λ pushed. passes_push old new present next text told some now pushed written each named)
    (λ same. passes_same old new text told same)
    either

-- what an append leaves
pub left_by_append : (old next : Shot) (bytes content : List ℕ) → next.synced.items ≡ old.synced.items → next.floor ≡ old.floor → next.loose ≡ old.loose + length bytes
    → IsLeft next content → StepsTo (IsLeft old) (IsTorn bytes) content
left_by_append old next bytes content synced floor loose left = (
  take left.front old.synced.items ++ take old.loose left.torn,
  record { front = left.front; torn = take old.loose left.torn; cut = omega (arith, floor, left.cut); loose = omega (arith, length-take old.loose left.torn); is = refl },
  (
    drop old.loose left.torn,
    omega (arith, loose, left.loose, length-drop old.loose left.torn),
    left.is ∙ ap (λ (l : List ℕ). take left.front l ++ left.torn) synced ∙ ap (λ (l : List ℕ). take left.front old.synced.items ++ l) (sym (take-append-drop old.loose left.torn))
        ∙ sym (append_assoc (take left.front old.synced.items) (take old.loose left.torn) (drop old.loose left.torn)),
  ),
)

-- what is left where nothing is loose
left_whole : (shot : Shot) (content : List ℕ) → shot.loose ≡ 0 → (left : IsLeft shot content) → content ≡ take left.front shot.synced.items
left_whole shot content still left =
    left.is ∙ ap (λ (l : List ℕ). take left.front shot.synced.items ++ l) (nil_from_length left.torn (omega (arith, left.loose, still))) ∙ append-nil (take left.front shot.synced.items)

-- what a cut leaves, where nothing is loose
pub left_by_cut : (old next : Shot) (least : ℕ) (content : List ℕ) → old.loose ≡ 0 → next.synced.items ≡ old.synced.items → next.floor ≡ min old.floor least → next.loose ≡ 0
    → IsLeft next content → StepsTo (IsLeft old) (IsCut least) content
left_by_cut old next least content still synced floor loose left = ⊎_elim below above (cases_lt left.front old.floor)
  where
    whole : content ≡ take left.front old.synced.items
    whole = left_whole next content loose left ∙ ap (take left.front) synced

    below : left.front < old.floor → StepsTo (IsLeft old) (IsCut least) content
    below lower = (
      take old.floor old.synced.items,
      record { front = old.floor; torn = []; cut = omega arith; loose = omega arith; is = sym (append-nil (take old.floor old.synced.items)) },
      (left.front, omega (arith, floor, left.cut, lower), whole ∙ sym (take-take left.front old.floor old.synced.items (omega (arith, lower)))),
    )

    above : old.floor ≤ left.front → StepsTo (IsLeft old) (IsCut least) content
    above higher = (
      content,
      record { front = left.front; torn = []; cut = higher; loose = omega arith; is = whole ∙ sym (append-nil (take left.front old.synced.items)) },
      (least + length content, omega arith, sym (take_all (least + length content) content (omega arith))),
    )

-- what is left of a file that was found: in front of zeros it has these bytes
pub left_found : (shot : Shot) (bytes zeros content : List ℕ) (kept : ℕ) → shot.synced.items ≡ take (length bytes) (take kept bytes) ++ zeros → shot.floor ≡ length bytes → kept ≤ length bytes
    → shot.loose ≡ 0 → IsLeft shot content → take kept content ≡ take kept bytes
left_found shot bytes zeros content kept synced floor within still left =
    ap (take kept) (left_whole shot content still left) ∙ take-take kept left.front shot.synced.items (omega (arith, floor, within, left.cut))
    ∙ ap (take kept) (synced ∙ ap (λ (l : List ℕ). l ++ zeros) (take_all (length bytes) (take kept bytes) (omega (arith, length-take kept bytes))))
    ∙ take_at (take kept bytes) zeros kept (omega (arith, length-take kept bytes, within))

-- what is left of a file that was brought to the disk
pub left_brought : (old next : Shot) (content : List ℕ) → old.own ≤ old.floor → next.synced.items ≡ take old.own old.synced.items ++ take (length old.written.items - old.own) (drop old.own old.written.items) → next.floor ≡ length old.written.items
    → old.own ≤ length old.synced.items → old.own ≤ length old.written.items → next.loose ≡ 0 → IsLeft next content → StepsTo (IsLeft old) (IsBrought old.own old.written.items) content
left_brought old next content first synced floor on_disk within still left = (
  take old.floor old.synced.items,
  record { front = old.floor; torn = []; cut = omega arith; loose = omega arith; is = sym (append-nil (take old.floor old.synced.items)) },
  left_whole next content still left ∙ ap (take left.front) (synced ∙ ap (λ (l : List ℕ). take old.own old.synced.items ++ l) (take_rest old.written.items old.own)) ∙ take_all left.front (take old.own old.synced.items ++ drop old.own old.written.items)
      (omega (arith, left.cut, floor, length-append (take old.own old.synced.items) (drop old.own old.written.items), length-take old.own old.synced.items, length-drop old.own old.written.items, on_disk, within))
      ∙ ap (λ (l : List ℕ). l ++ drop old.own old.written.items) (sym (take-take old.own old.floor old.synced.items first)),
)

-- what is left where the disk is as it was
pub left_same : (old next : Shot) (content : List ℕ) → next.synced.items ≡ old.synced.items → next.floor ≡ old.floor → next.loose ≡ old.loose → IsLeft next content → IsLeft old content
left_same old next content synced floor loose left = record {
  front = left.front;
  torn = left.torn;
  cut = omega (arith, floor, left.cut);
  loose = omega (arith, loose, left.loose);
  is = left.is ∙ ap (λ (l : List ℕ). take left.front l ++ left.torn) synced;
}

-- what was written where a shot stands last
pub written_push : (disk : MemoryDisk) (before : List Shot) (next : Shot) → disk.shots.items ≡ before ++ next ∷ [] → memory_written disk (memory_moment disk) ≡ next.written.items
written_push disk before next is = ap written_in (present_push disk before next is)

-- from where on all is this process's
pub own_push : (disk : MemoryDisk) (before : List Shot) (next : Shot) → disk.shots.items ≡ before ++ next ∷ [] → memory_own disk ≡ next.own
own_push disk before next is = ap own_in (present_push disk before next is)

-- what a crash leaves where a shot stands last
pub left_push : (disk : MemoryDisk) (before : List Shot) (next : Shot) (content : List ℕ) → disk.shots.items ≡ before ++ next ∷ [] → memory_left disk (memory_moment disk) content → IsLeft next content
left_push disk before next content is left = subst (λ (o : Option Shot). left_in o content) (present_push disk before next is) left

-- whether the name may be missing there
pub nameless_push : (disk : MemoryDisk) (before : List Shot) (next : Shot) → disk.shots.items ≡ before ++ next ∷ [] → memory_nameless disk (memory_moment disk) → next.is_named ≡ false
nameless_push disk before next is nameless = subst nameless_in (present_push disk before next is) nameless

-- one shot is the last
pub first_shot : (shots : List Shot) (shot : Shot) → shots ≡ [] ++ shot ∷ [] → slice_get shots (length shots - 1) ≡ Some shot
first_shot shots shot is = ap (λ (l : List Shot). slice_get l (length l - 1)) is

-- all but the last bytes of the first shot is on the disk
pub firm_first : (shots : List Shot) (shot : Shot) (bytes content : List ℕ) (lost : ℕ) → shots ≡ [] ++ shot ∷ [] → shot.written.items ≡ bytes
    → ((left : List ℕ) → IsLeft shot left → take (length bytes - lost) left ≡ take (length bytes - lost) bytes) → left_in (slice_get shots (length shots - 1)) content
    → take (length (written_in (slice_get shots (length shots - 1))) - lost) content
    ≡ take (length (written_in (slice_get shots (length shots - 1))) - lost) (written_in (slice_get shots (length shots - 1)))
firm_first shots shot bytes content lost is written firm left =
    let now : written_in (slice_get shots (length shots - 1)) ≡ bytes = ap written_in (first_shot shots shot is) ∙ written in
    ap (λ (l : List ℕ). take (length l - lost) content) now ∙ firm content (subst (λ (o : Option Shot). left_in o content) (first_shot shots shot is) left)
    ∙ sym (ap (λ (l : List ℕ). take (length l - lost) l) now)

-- what leads on from the present shot
pub leads_on : (present : Option Shot) (shot : Shot) (step : List ℕ → List ℕ → Type 0) (content : List ℕ) → present ≡ Some shot → StepsTo (IsLeft shot) step content → StepsTo (left_in present) step content
leads_on present shot step content is (before, left, led) = (before, subst (λ (o : Option Shot). left_in o before) (sym is) left, led)

-- what was brought to the disk of the present shot
pub brought_on : (present : Option Shot) (shot : Shot) (content : List ℕ) → present ≡ Some shot → StepsTo (IsLeft shot) (IsBrought shot.own shot.written.items) content
    → StepsTo (left_in present) (IsBrought (own_in present) (written_in present)) content
brought_on present shot content is one = subst (λ (p : Option Shot). StepsTo (left_in p) (IsBrought (own_in p) (written_in p)) content) (sym is) one

-- what `crash` makes is left
pub crash_is_left : (shot : Shot) (front : ℕ) (torn content : List ℕ) → shot.floor ≤ front → length torn ≤ shot.loose → content ≡ take front shot.synced.items ++ torn → IsLeft shot content
crash_is_left shot front torn content cut loose is = record { front = front; torn = torn; cut = cut; loose = loose; is = is }
