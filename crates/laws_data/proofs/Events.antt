-- Each event that is allowed keeps what holds.
use Rattle.std.proofs.Common.{◌≡◌, ℕ, ◌+◌, ◌<◌, ◌≤◌, ◌⊎◌, inl, inr, Bool, true, false, not, ◌&&◌, List, [], ◌∷◌, ◌++◌, Option, Some, None, is_some, length, refl, sym, ap, ◌∙◌, subst, arith, length-append, if◌then◌else◌}
use Rattle.std.proofs.lemmas.Bool.{and_from, and_parts, cases_Bool, cases_eq, false≢true, not-true, both_ways}
use Rattle.sm_placement.specs.Sums.{count_below, put}
use Rattle.sm_placement.proofs.Sums.{put-apart, put-here}
use Rattle.sm_copies.specs.declared.order.ToldCopy.{ToldCopy}
use Rattle.sm_copies.specs.Order.{IsAtLeast}
use Rattle.sm_copies.specs.Views.{Resumes}
use Rattle.sm_copies.specs.Lists.{ListEntry, begins, beginning, told_of, view_of, views_of}
use Rattle.sm_copies.proofs.Counts.{enough-before}
use Rattle.sm_copies.proofs.Lists.{begins-last, begins-length, begins-self, begins-shorter, begins-through, begins-whole, empty-or-not, view-behind}
use Rattle.sm_copies.proofs.Views.{resumes-front}
use Rattle.laws_data.specs.Shard.{Choice, Event, Acknowledges, Changes, Chooses, Copies, Ends, Executes, Follows, Goes, Hands, MayHappen, Joins, Leave, Loses, Lowers, Raises, Releases, Removes, Restarts, Shard, Stays, Succeeds, Takes, Tells, Hears, HasNoPrimary, HasPrimary, HaveNoLess, IsLater, MayTake, NOTHING_HEARD, Word, asked_copies, with_view, counted, left_by, is_copy, lacks, list_of, told}
use Rattle.laws_data.proofs.Lists.{copy-is, has-all, lacks-nothing, put-cases}
use Rattle.laws_data.proofs.Counts.{count-either, count-more, enough-more}
use Rattle.laws_data.proofs.Growth.{grows, grown-copies, grown-enough, grown-lists, grown-whole}
use Rattle.laws_data.proofs.Invariant.{IsKept, HasUpTo, IsTrueOf, IsTrueWord, IsWhole, at-least-lists, begun-below, greater-has-all, greatest-has-all, is_away, primary-front, primary-has-all, true-stays, word-is-true, words-end, words-more, words-stay}
use Rattle.laws_data.proofs.Told.{told-enough}

-- a whole copy is there
some-copy : (o : Option (List ListEntry)) → is_some o ≡ true → (copy : List ListEntry) × (o ≡ Some copy)
some-copy None h = absurd (false≢true h)
some-copy (Some copy) h = (copy, refl)

list-of : (o : Option (List ListEntry)) (copy : List ListEntry) → o ≡ Some copy → list_of o ≡ copy
list-of o copy e = ap list_of e

-- nobody was heard yet
pub unheard : (ended view : ℕ) (list : List ListEntry) (away : ℕ → Bool) (copies : ℕ → Option (List ListEntry)) (s : ℕ) →
    (ended ≤ view → 0 ≡ view → away s ≡ false) → IsTrueOf ended view list away copies s NOTHING_HEARD
unheard ended view list away copies s there = record {
  below = omega arith;
  has = λ p v. record { bound = omega arith; begun = ([], refl, omega arith, v); part = λ xs ys e b l. none ys xs l; there = there p v };
}
  where
    none : (ys xs : List ListEntry) → length ys ≤ 0 → begins ys xs ≡ true
    none [] xs l = refl
    none (y ∷ ys) xs l = absurd (omega arith)

-- who stays away of a view, if those who did before do
still-there : (view : ℕ) (list : List ListEntry) (away away' : ℕ → Bool) (copies : ℕ → Option (List ListEntry)) → ((s : ℕ) → away s ≡ false → away' s ≡ false) →
    (s position : ℕ) → HasUpTo view list away copies s position → HasUpTo view list away' copies s position
still-there view list away away' copies h s position old = record { bound = old.bound; begun = old.begun; part = old.part; there = h s old.there }

-- nothing is true beside what is false
pub and-none : (b : Bool) → (b && false) ≡ false
and-none true = refl
and-none false = refl

-- who is away when that was settled of one server
away-put : (known leaving : ℕ → Bool) (s : ℕ) (x y : Bool) → (x && y) ≡ false → (t : ℕ) → is_away known leaving t ≡ false →
    is_away (put known s x) (put leaving s y) t ≡ false
away-put known leaving s x y h t old = elim (cases_eq t s) [
  | inl q ↦ ap (λ (z : Bool). z && put leaving s y t) (put-here known s x t q) ∙ ap (λ (z : Bool). x && z) (put-here leaving s y t q) ∙ h
  | inr d ↦ ap (λ (z : Bool). z && put leaving s y t) (put-apart known s x t d) ∙ ap (λ (z : Bool). known t && z) (put-apart leaving s y t d) ∙ old
]

-- a shard with a primary has not none
ends-once : (w : Shard) → HasPrimary w → HasNoPrimary w → ⊥
ends-once w a b = (let l : w.ended ≤ w.view = a in let m : w.view < w.ended = b in absurd (omega arith))

-- who has no copy after one has got one
lost-put : (w : Shard) → IsKept w → (s : ℕ) (list : List ListEntry) (t : ℕ) → put w.copies s (Some list) t ≡ None → w.former t ≡ 0
lost-put w k s list t h = elim (put-cases w.copies s (Some list) t None h) [
  | inl p ↦ absurd (let e : Some list ≡ None = p.1 in cc)
  | inr p ↦ k.lost t p.1
]

-- A list grows in its view: the primary executes a write.
executes : (w : Shard) → IsKept w → (write : ℕ) → MayHappen w (Executes write) → IsKept (left_by w (Executes write))
executes w k write a =
    let c = some-copy (w.copies w.primary) a.0 in
    let there : HasPrimary w = a.1 in
    let g = list_of (w.copies w.primary) in
    let e : ListEntry = record { view = w.view; write = write } in
    let same : g ≡ w.lists w.view = list-of (w.copies w.primary) c.0 c.1 ∙ primary-front w k there c.0 c.1 in
    let is : w.copies w.primary ≡ Some g = c.1 ∙ ap (λ (ys : List ListEntry). Some ys) (sym (list-of (w.copies w.primary) c.0 c.1)) in
    let behind : begins (w.lists w.view) g ≡ true = subst (λ (ys : List ListEntry). begins (w.lists w.view) ys ≡ true) (sym same) (begins-self (w.lists w.view)) in
    let from : begins g (w.lists (view_of g)) ≡ true = k.copies w.primary g is in
    let old-view : view_of g ≤ w.view = k.lists.views w.view g (subst (λ (ys : List ListEntry). begins ys (w.lists w.view) ≡ true) (sym same) (begins-self (w.lists w.view))) in
    let all : begins w.acknowledged g ≡ true = subst (λ (ys : List ListEntry). begins w.acknowledged ys ≡ true) (sym same) (primary-has-all w k) in
    let now : put w.lists w.view (g ++ e ∷ []) w.view ≡ g ++ e ∷ [] = put-here w.lists w.view (g ++ e ∷ []) w.view refl in
    let n : length g ≡ length (w.lists w.view) = ap length same in
    let o : length (put w.lists w.view (g ++ e ∷ []) w.view) ≡ length (g ++ e ∷ []) = ap length now in
    let longer : (t position : ℕ) → HasUpTo w.view (w.lists w.view) (is_away w.known w.leaving) w.copies t position →
    HasUpTo w.view (put w.lists w.view (g ++ e ∷ []) w.view) (is_away w.known w.leaving) (put w.copies w.primary (Some (g ++ e ∷ []))) t position = λ t position old. record {
      there = old.there;
      begun = (let o = old.begun in (o.0, grows w.lists k.lists w.view g e refl behind from old-view w.view o.0 o.1, o.2, o.3));
      bound = (let m : position ≤ length (w.lists w.view) = old.bound in omega (arith, length-append g (e ∷ [])));
      part = λ xs ys h b l. elim (put-cases w.copies w.primary (Some (g ++ e ∷ [])) t (Some xs) h) [
        | inl p ↦ (let x : g ++ e ∷ [] ≡ xs = cc in subst (λ (zs : List ListEntry). begins ys zs ≡ true) (now ∙ x) b)
        | inr p ↦ elim (begins-last ys g e (subst (λ (zs : List ListEntry). begins ys zs ≡ true) now b)) [
          | inl c ↦ old.part xs ys p.1 (subst (λ (zs : List ListEntry). begins ys zs ≡ true) same c) l
          | inr q ↦
              let m : position ≤ length (w.lists w.view) = old.bound in
              let x : length ys ≡ length (g ++ e ∷ []) = ap length q in
              absurd (omega (arith, length-append g (e ∷ [])))
        ]
      ];
    } in
    record {
      lists = grown-lists w.lists k.lists w.view g e refl behind from old-view;
      copies = grown-copies w.lists k.lists w.view g e refl behind from old-view w.copies w.primary k.copies;
      front = λ t xs lead h. elim (put-cases w.copies w.primary (Some (g ++ e ∷ [])) t (Some xs) h) [
        | inl p ↦ (let x : g ++ e ∷ [] ≡ xs = cc in sym x ∙ sym now)
        | inr p ↦ elim lead [
          | inl q ↦ absurd (p.0 q.0)
          | inr q ↦ absurd (ends-once w there q.1)
        ]
      ];
      earlier = k.earlier;
      lost = λ t h. lost-put w k w.primary (g ++ e ∷ []) t h;
      unbegun = λ u l. put-apart w.lists w.view (g ++ e ∷ []) u (λ q. absurd (omega arith)) ∙ k.unbegun u l;
      own = ap view_of now ∙ view-behind g e;
      present = (let n : length (put w.lists w.view (g ++ e ∷ []) w.view) ≡ length (g ++ e ∷ []) = ap length now in omega (arith, length-append g (e ∷ [])));
      below = k.below;
      whole = grown-whole w.lists k.lists w.view g e refl behind from old-view w.acknowledged all k.whole;
      enough = grown-enough w.lists k.lists w.view g e refl behind from old-view w.servers w.needed w.replicas w.leaving w.acknowledged w.copies w.primary all k.enough;
      heard = λ t. true-stays w.ended w.view (w.lists w.view) (put w.lists w.view (g ++ e ∷ []) w.view) (is_away w.known w.leaving) (is_away w.known w.leaving) w.copies (put w.copies w.primary (Some (g ++ e ∷ []))) longer t (w.heard t) (k.heard t);
      words = words-stay w.ended w.view (w.lists w.view) (put w.lists w.view (g ++ e ∷ []) w.view) (is_away w.known w.leaving) (is_away w.known w.leaving) w.copies (put w.copies w.primary (Some (g ++ e ∷ []))) longer w.words k.words;
      member = k.member;
      first = k.first;
    }

-- a copy is of a view that has begun, or is empty
copy-below : (w : Shard) → IsKept w → (g : List ListEntry) → begins g (w.lists (view_of g)) ≡ true → view_of g ≤ w.view
copy-below w k g b = elim (empty-or-not g) [
  | inl e ↦ (let z : view_of g ≡ 0 = ap view_of e in omega arith)
  | inr l ↦ begun-below w k (view_of g) (let m : length g ≤ length (w.lists (view_of g)) = begins-length g (w.lists (view_of g)) b in omega arith)
]

-- A server begins a view as primary, with a copy that has all that is to stay acknowledged.
begins-view : (w : Shard) → IsKept w → (s v : ℕ) (copy : List ListEntry) → w.copies s ≡ Some copy → IsLater w v →
    (replicas leaving known : ℕ → Bool) → ((t : ℕ) → known t ≡ true → leaving t ≡ false → replicas t ≡ true) →
    (w.ended ≡ 0 → (t : ℕ) → is_away known leaving t ≡ false) →
    (needed : ℕ) (acknowledged : List ListEntry) → begins acknowledged copy ≡ true → view_of acknowledged ≤ w.view → IsWhole w.lists acknowledged →
    needed ≤ count_below w.servers (λ t. replicas t && (not (leaving t) && not (lacks acknowledged (w.copies t)))) →
    IsKept (record (with_view w s v) { replicas = replicas; leaving = leaving; known = known; needed = needed; acknowledged = acknowledged })
begins-view w k s v copy is (later, ended) replicas leaving known member first needed acknowledged all low whole enough =
    let g = list_of (w.copies s) in
    let e : ListEntry = beginning v in
    let same : g ≡ copy = list-of (w.copies s) copy is in
    let there : w.copies s ≡ Some g = is ∙ ap (λ (ys : List ListEntry). Some ys) (sym same) in
    let from : begins g (w.lists (view_of g)) ≡ true = k.copies s g there in
    let old : view_of g ≤ w.view = copy-below w k g from in
    let none : w.lists v ≡ [] = k.unbegun v later in
    let behind : begins (w.lists v) g ≡ true = rw none refl in
    let has : begins acknowledged g ≡ true = subst (λ (ys : List ListEntry). begins acknowledged ys ≡ true) (sym same) all in
    let now : put w.lists v (g ++ e ∷ []) v ≡ g ++ e ∷ [] = put-here w.lists v (g ++ e ∷ []) v refl in
    let early : view_of g ≤ v = omega arith in
    record {
      lists = grown-lists w.lists k.lists v g e refl behind from early;
      copies = grown-copies w.lists k.lists v g e refl behind from early w.copies s k.copies;
      front = λ t xs lead h. elim (put-cases w.copies s (Some (g ++ e ∷ [])) t (Some xs) h) [
        | inl p ↦ (let x : g ++ e ∷ [] ≡ xs = cc in sym x ∙ sym now)
        | inr p ↦ elim lead [
          | inl q ↦ absurd (p.0 q.0)
          | inr q ↦ (let l : v < w.ended = q.1 in absurd (omega arith))
        ]
      ];
      earlier = k.earlier;
      lost = λ t h. lost-put w k s (g ++ e ∷ []) t h;
      unbegun = λ u l. put-apart w.lists v (g ++ e ∷ []) u (λ q. absurd (omega arith)) ∙ k.unbegun u (omega arith);
      own = ap view_of now ∙ view-behind g e;
      present = (let n : length (put w.lists v (g ++ e ∷ []) v) ≡ length (g ++ e ∷ []) = ap length now in omega (arith, length-append g (e ∷ [])));
      below = omega arith;
      whole = grown-whole w.lists k.lists v g e refl behind from early acknowledged has whole;
      enough = grown-enough w.lists k.lists v g e refl behind from early w.servers needed replicas leaving acknowledged w.copies s has enough;
      heard = λ t. unheard w.ended v (put w.lists v (g ++ e ∷ []) v) (is_away known leaving) (put w.copies s (Some (g ++ e ∷ []))) t (λ p z. absurd (omega arith));
      words = words-end w.ended w.view v (w.lists w.view) (put w.lists v (g ++ e ∷ []) v) (is_away w.known w.leaving) (is_away known leaving) w.copies
          (put w.copies s (Some (g ++ e ∷ []))) later w.words k.words;
      member = member;
      first = first;
    }

-- A server has another copy of all that the primary has.
copies-anew : (w : Shard) → IsKept w → (s : ℕ) → MayHappen w (Copies s) → IsKept (left_by w (Copies s))
copies-anew w k s a =
    let more : (t position : ℕ) → HasUpTo w.view (w.lists w.view) (is_away w.known w.leaving) w.copies t position →
    HasUpTo w.view (w.lists w.view) (is_away w.known w.leaving) (put w.copies s (w.copies w.primary)) t position = λ t position old. record {
      bound = old.bound;
      begun = old.begun;
      there = old.there;
      part = λ xs ys h b l. elim (put-cases w.copies s (w.copies w.primary) t (Some xs) h) [
        | inl p ↦ subst (λ (zs : List ListEntry). begins ys zs ≡ true) (sym (primary-front w k a.1 xs p.1)) b
        | inr p ↦ old.part xs ys p.1 b l
      ];
    } in
    record {
      lists = k.lists;
      copies = λ t xs h. elim (put-cases w.copies s (w.copies w.primary) t (Some xs) h) [
        | inl p ↦ k.copies w.primary xs p.1
        | inr p ↦ k.copies t xs p.1
      ];
      front = λ t xs lead h. elim (put-cases w.copies s (w.copies w.primary) t (Some xs) h) [
        | inl p ↦ primary-front w k a.1 xs p.1
        | inr p ↦ k.front t xs lead p.1
      ];
      earlier = k.earlier;
      lost = λ t h. (let c = some-copy (w.copies w.primary) a.0 in
          lost-put w k s c.0 t (subst (λ (o : Option (List ListEntry)). put w.copies s o t ≡ None) c.1 h));
      unbegun = k.unbegun;
      present = k.present;
      own = k.own;
      below = k.below;
      whole = k.whole;
      enough = enough-more w.servers w.needed w.replicas w.leaving (λ t. not (lacks w.acknowledged (w.copies t))) w.replicas w.leaving
          (λ t. not (lacks w.acknowledged (put w.copies s (w.copies w.primary) t))) k.enough (λ t x y z. (
            x,
            y,
            lacks-nothing w.acknowledged (put w.copies s (w.copies w.primary) t) (λ copy q. elim (put-cases w.copies s (w.copies w.primary) t (Some copy) q) [
              | inl p ↦ subst (λ (ys : List ListEntry). begins w.acknowledged ys ≡ true) (sym (primary-front w k a.1 copy p.1)) (primary-has-all w k)
              | inr p ↦ has-all w.acknowledged (w.copies t) copy z p.1
            ]),
          ));
      heard = λ t. true-stays w.ended w.view (w.lists w.view) (w.lists w.view) (is_away w.known w.leaving) (is_away w.known w.leaving) w.copies (put w.copies s (w.copies w.primary)) more t (w.heard t) (k.heard t);
      words = words-stay w.ended w.view (w.lists w.view) (w.lists w.view) (is_away w.known w.leaving) (is_away w.known w.leaving) w.copies (put w.copies s (w.copies w.primary)) more w.words k.words;
      member = k.member;
      first = k.first;
    }

-- a copy that may go on behind a source of the primary's list is a beginning of what it becomes
goes-on : (w : Shard) → IsKept w → (s : ℕ) (copy source list : List ListEntry) → w.copies s ≡ Some copy → source ≡ w.lists w.view →
    Resumes (told_of copy) (views_of source) (length source) →
    begins list source ≡ true → length copy ≤ length list → begins copy list ≡ true
goes-on w k s copy source list e is goes b l =
    let resumes = resumes-front (told_of copy) source goes in
    let f = resumes.0 in
    let in-list : begins f (w.lists w.view) ≡ true = subst (λ (ys : List ListEntry). begins f ys ≡ true) is resumes.1 in
    let own : begins f (w.lists (view_of copy)) ≡ true = subst (λ (n : ℕ). begins f (w.lists n) ≡ true) resumes.2 (k.lists.matched w.view f in-list) in
    let front : begins copy f ≡ true = begins-shorter copy f (w.lists (view_of copy)) (k.copies s copy e) own resumes.3 in
    begins-shorter copy list source (begins-through copy f source front resumes.1) b l

-- A copy goes on behind the primary.
follows : (w : Shard) → IsKept w → (s : ℕ) (list : List ListEntry) → MayHappen w (Follows s list) → IsKept (left_by w (Follows s list))
follows w k s list a =
    let copy = a.0 in
    let source = a.1 in
    let is : source ≡ w.lists w.view = primary-front w k a.7 source a.3 in
    let on : begins copy list ≡ true = goes-on w k s copy source list a.2 is a.4 a.5 a.6 in
    let in-list : begins list (w.lists w.view) ≡ true = subst (λ (ys : List ListEntry). begins list ys ≡ true) is a.5 in
    let own : begins list (w.lists (view_of list)) ≡ true = k.lists.matched w.view list in-list in
    let more : (t position : ℕ) → HasUpTo w.view (w.lists w.view) (is_away w.known w.leaving) w.copies t position →
    HasUpTo w.view (w.lists w.view) (is_away w.known w.leaving) (put w.copies s (Some list)) t position = λ t position old. record {
      bound = old.bound;
      begun = old.begun;
      there = old.there;
      part = λ xs ys h b l. elim (put-cases w.copies s (Some list) t (Some xs) h) [
        | inl p ↦
            let same : list ≡ xs = cc in
            let had : begins ys copy ≡ true = old.part copy ys (ap w.copies p.0 ∙ a.2) b l in
            subst (λ (zs : List ListEntry). begins ys zs ≡ true) same (begins-through ys copy list had on)
        | inr p ↦ old.part xs ys p.1 b l
      ];
    } in
    record {
      lists = k.lists;
      copies = λ t xs h. elim (put-cases w.copies s (Some list) t (Some xs) h) [
        | inl p ↦ (let x : list ≡ xs = cc in subst (λ (ys : List ListEntry). begins ys (w.lists (view_of ys)) ≡ true) x own)
        | inr p ↦ k.copies t xs p.1
      ];
      front = λ t xs lead h. elim (put-cases w.copies s (Some list) t (Some xs) h) [
        | inl p ↦
            let x : list ≡ xs = cc in
            let had : copy ≡ w.lists w.view = k.front t copy lead (ap w.copies p.0 ∙ a.2) in
            let n : length source ≡ length copy = ap length (is ∙ sym had) in
            let l : length copy ≤ length list = a.6 in
            let m : length list ≤ length source = begins-length list source a.5 in
            sym x ∙ begins-whole list source a.5 (omega arith) ∙ is
        | inr p ↦ k.front t xs lead p.1
      ];
      earlier = k.earlier;
      lost = λ t h. lost-put w k s list t h;
      unbegun = k.unbegun;
      present = k.present;
      own = k.own;
      below = k.below;
      whole = k.whole;
      enough = enough-more w.servers w.needed w.replicas w.leaving (λ t. not (lacks w.acknowledged (w.copies t))) w.replicas w.leaving
          (λ t. not (lacks w.acknowledged (put w.copies s (Some list) t))) k.enough (λ t x y z. (
            x,
            y,
            lacks-nothing w.acknowledged (put w.copies s (Some list) t) (λ c q. elim (put-cases w.copies s (Some list) t (Some c) q) [
              | inl p ↦
                  let same : list ≡ c = cc in
                  let had : begins w.acknowledged copy ≡ true = has-all w.acknowledged (w.copies t) copy z (ap w.copies p.0 ∙ a.2) in
                  subst (λ (ys : List ListEntry). begins w.acknowledged ys ≡ true) same (begins-through w.acknowledged copy list had on)
              | inr p ↦ has-all w.acknowledged (w.copies t) c z p.1
            ]),
          ));
      heard = λ t. true-stays w.ended w.view (w.lists w.view) (w.lists w.view) (is_away w.known w.leaving) (is_away w.known w.leaving) w.copies (put w.copies s (Some list)) more t (w.heard t) (k.heard t);
      words = words-stay w.ended w.view (w.lists w.view) (w.lists w.view) (is_away w.known w.leaving) (is_away w.known w.leaving) w.copies (put w.copies s (Some list)) more w.words k.words;
      member = k.member;
      first = k.first;
    }

-- A server tells what its copy is.
tells : (w : Shard) → IsKept w → (s : ℕ) → MayHappen w (Tells s) → IsKept (left_by w (Tells s))
tells w k s a =
    let c = some-copy (w.copies s) a.0 in
    let copy = list_of (w.copies s) in
    let is : w.copies s ≡ Some copy = c.1 ∙ ap (λ (ys : List ListEntry). Some ys) (sym (list-of (w.copies s) c.0 c.1)) in
    record {
      lists = k.lists;
      copies = k.copies;
      front = k.front;
      earlier = k.earlier;
      lost = k.lost;
      unbegun = k.unbegun;
      present = k.present;
      own = k.own;
      below = k.below;
      whole = k.whole;
      enough = k.enough;
      heard = k.heard;
      words = (
        record {
          below = copy-below w k copy (k.copies s copy is);
          has = λ p e. (let in-list : begins copy (w.lists w.view) ≡ true = subst (λ (u : ℕ). begins copy (w.lists u) ≡ true) e (k.copies s copy is) in record {
            bound = begins-length copy (w.lists w.view) in-list;
            begun = (copy, in-list, omega arith, e);
            there = ap (λ (z : Bool). w.known s && z) a.1 ∙ and-none (w.known s);
            part = λ xs ys h b l. (let both : Some copy ≡ Some xs = sym is ∙ h in let same : copy ≡ xs = cc in
                subst (λ (zs : List ListEntry). begins ys zs ≡ true) same (begins-shorter ys copy (w.lists w.view) b in-list l));
          });
        },
        k.words,
      );
      member = k.member;
      first = k.first;
    }

-- what was heard of a server
heard-put : (ended view : ℕ) (list : List ListEntry) (away : ℕ → Bool) (copies : ℕ → Option (List ListEntry)) (heard : ℕ → ToldCopy) →
    ((t : ℕ) → IsTrueOf ended view list away copies t (heard t)) → (s : ℕ) (said : ToldCopy) → IsTrueOf ended view list away copies s said → (t : ℕ) →
    IsTrueOf ended view list away copies t (put heard s said t)
heard-put ended view list away copies heard all s said h t = elim (cases_eq t s) [
  | inl q ↦ subst (λ (c : ToldCopy). IsTrueOf ended view list away copies t c) (sym (put-here heard s said t q))
      (subst (λ (n : ℕ). IsTrueOf ended view list away copies n said) (sym q) h)
  | inr d ↦ subst (λ (c : ToldCopy). IsTrueOf ended view list away copies t c) (sym (put-apart heard s said t d)) (all t)
]

-- The primary hears a word.
hears-word : (w : Shard) → IsKept w → (word : Word) → IsTrueWord w.ended w.view (w.lists w.view) (is_away w.known w.leaving) w.copies word →
    IsKept (record w { heard = put w.heard word.server word.copy })
hears-word w k word h = record {
  lists = k.lists;
  copies = k.copies;
  front = k.front;
  earlier = k.earlier;
  lost = k.lost;
  unbegun = k.unbegun;
  present = k.present;
  own = k.own;
  below = k.below;
  whole = k.whole;
  enough = k.enough;
  words = k.words;
  heard = heard-put w.ended w.view (w.lists w.view) (is_away w.known w.leaving) w.copies w.heard k.heard word.server word.copy h;
  member = k.member;
  first = k.first;
}

hears : (w : Shard) → IsKept w → (which : ℕ) → MayHappen w (Hears which) → IsKept (left_by w (Hears which))
hears w k which a =
    rw a.1 (hears-word w k a.0 (word-is-true (IsTrueWord w.ended w.view (w.lists w.view) (is_away w.known w.leaving) w.copies) w.words which a.0 k.words a.1))

-- enough have a beginning of the primary's list that is acknowledged
acknowledged-enough : (w : Shard) → IsKept w → (list : List ListEntry) → MayHappen w (Acknowledges list) → w.needed ≤ counted w (λ t. not (lacks list (w.copies t)))
acknowledged-enough w k list (source, position, is, b, view, longer, acked, within, there) = elim (empty-or-not list) [
  | inl e ↦ enough-more w.servers w.needed w.replicas w.leaving (λ t. not (lacks w.acknowledged (w.copies t))) w.replicas w.leaving (λ t. not (lacks list (w.copies t)))
      k.enough (λ t x y z. (x, y, lacks-nothing list (w.copies t) (λ copy q. rw e refl)))
  | inr some ↦ told-enough w k w.leaving w.known w.needed list (subst (λ (ys : List ListEntry). begins list ys ≡ true) (primary-front w k there source is) b) (λ t h. (h, refl))
      (source, is, enough-before (asked_copies w w.needed) (told_of source) (told w) (length list) position within (acked.have (omega arith)), there)
]

-- A beginning of the primary's list is acknowledged.
acknowledges : (w : Shard) → IsKept w → (list : List ListEntry) → MayHappen w (Acknowledges list) → IsKept (left_by w (Acknowledges list))
acknowledges w k list a =
    let in-list : begins list (w.lists w.view) ≡ true = subst (λ (ys : List ListEntry). begins list ys ≡ true) (primary-front w k a.8 a.0 a.2) a.3 in
    let v : view_of list ≡ w.view = a.4 in
    record {
      lists = k.lists;
      copies = k.copies;
      front = k.front;
      earlier = k.earlier;
      lost = k.lost;
      unbegun = k.unbegun;
      present = k.present;
      own = k.own;
      below = omega arith;
      whole = λ u some low. (let top : u ≤ w.view = begun-below w k u some in let is : w.view ≡ u = omega arith in
          subst (λ (n : ℕ). begins list (w.lists n) ≡ true) is in-list);
      enough = acknowledged-enough w k list a;
      heard = k.heard;
      words = k.words;
      member = k.member;
      first = k.first;
    }

-- what a test says after it was set to an answer at one place, if it said that before or the place is that one
put-true : (f : ℕ → Bool) (s t : ℕ) → f t ≡ true → put f s true t ≡ true
put-true f s t h = elim (cases_eq t s) [ inl q ↦ put-here f s true t q | inr d ↦ put-apart f s true t d ∙ h ]

put-not : (f : ℕ → Bool) (s t : ℕ) → not (f t) ≡ true → not (put f s false t) ≡ true
put-not f s t h = elim (cases_eq t s) [ inl q ↦ ap not (put-here f s false t q) | inr d ↦ ap not (put-apart f s false t d) ∙ h ]

-- A server becomes a replica.
joins : (w : Shard) → IsKept w → (s : ℕ) → IsKept (left_by w (Joins s))
joins w k s = record {
  lists = k.lists;
  copies = k.copies;
  front = k.front;
  earlier = k.earlier;
  lost = k.lost;
  unbegun = k.unbegun;
  present = k.present;
  own = k.own;
  below = k.below;
  whole = k.whole;
  enough = enough-more w.servers w.needed w.replicas w.leaving (λ t. not (lacks w.acknowledged (w.copies t))) (put w.replicas s true) (put w.leaving s false)
      (λ t. not (lacks w.acknowledged (w.copies t))) k.enough (λ t x y z. (put-true w.replicas s t x, put-not w.leaving s t y, z));
  heard = heard-put w.ended w.view (w.lists w.view) (is_away (put w.known s true) (put w.leaving s false)) w.copies w.heard (λ t.
      true-stays w.ended w.view (w.lists w.view) (w.lists w.view) (is_away w.known w.leaving) (is_away (put w.known s true) (put w.leaving s false)) w.copies w.copies
      (still-there w.view (w.lists w.view) (is_away w.known w.leaving) (is_away (put w.known s true) (put w.leaving s false)) w.copies
      (away-put w.known w.leaving s true false refl)) t (w.heard t) (k.heard t)) s NOTHING_HEARD
      (unheard w.ended w.view (w.lists w.view) (is_away (put w.known s true) (put w.leaving s false)) w.copies s (λ p z.
      ap (λ (y : Bool). put w.known s true s && y) (put-here w.leaving s false s refl) ∙ and-none (put w.known s true s)));
  words = words-stay w.ended w.view (w.lists w.view) (w.lists w.view) (is_away w.known w.leaving) (is_away (put w.known s true) (put w.leaving s false)) w.copies w.copies
      (still-there w.view (w.lists w.view) (is_away w.known w.leaving) (is_away (put w.known s true) (put w.leaving s false)) w.copies
      (away-put w.known w.leaving s true false refl)) w.words k.words;
  member = λ t h l. elim (cases_eq t s) [
    | inl q ↦ put-here w.replicas s true t q
    | inr d ↦ put-apart w.replicas s true t d ∙ k.member t (sym (put-apart w.known s true t d) ∙ h) (sym (put-apart w.leaving s false t d) ∙ l)
  ];
  first = λ z t. away-put w.known w.leaving s true false refl t (k.first z t);
}

-- A replica stays.
stays : (w : Shard) → IsKept w → (s : ℕ) → IsKept (left_by w (Stays s))
stays w k s = record {
  lists = k.lists;
  copies = k.copies;
  front = k.front;
  earlier = k.earlier;
  lost = k.lost;
  unbegun = k.unbegun;
  present = k.present;
  own = k.own;
  below = k.below;
  whole = k.whole;
  enough = enough-more w.servers w.needed w.replicas w.leaving (λ t. not (lacks w.acknowledged (w.copies t))) w.replicas (put w.leaving s false)
      (λ t. not (lacks w.acknowledged (w.copies t))) k.enough (λ t x y z. (x, put-not w.leaving s t y, z));
  heard = heard-put w.ended w.view (w.lists w.view) (is_away (put w.known s (w.replicas s)) (put w.leaving s false)) w.copies w.heard (λ t.
      true-stays w.ended w.view (w.lists w.view) (w.lists w.view) (is_away w.known w.leaving) (is_away (put w.known s (w.replicas s)) (put w.leaving s false)) w.copies w.copies
      (still-there w.view (w.lists w.view) (is_away w.known w.leaving) (is_away (put w.known s (w.replicas s)) (put w.leaving s false)) w.copies
      (away-put w.known w.leaving s (w.replicas s) false (and-none (w.replicas s)))) t (w.heard t) (k.heard t)) s NOTHING_HEARD
      (unheard w.ended w.view (w.lists w.view) (is_away (put w.known s (w.replicas s)) (put w.leaving s false)) w.copies s (λ p z.
      ap (λ (y : Bool). put w.known s (w.replicas s) s && y) (put-here w.leaving s false s refl) ∙ and-none (put w.known s (w.replicas s) s)));
  words = words-stay w.ended w.view (w.lists w.view) (w.lists w.view) (is_away w.known w.leaving) (is_away (put w.known s (w.replicas s)) (put w.leaving s false)) w.copies w.copies
      (still-there w.view (w.lists w.view) (is_away w.known w.leaving) (is_away (put w.known s (w.replicas s)) (put w.leaving s false)) w.copies
      (away-put w.known w.leaving s (w.replicas s) false (and-none (w.replicas s)))) w.words k.words;
  member = λ t h l. elim (cases_eq t s) [
    | inl q ↦ ap w.replicas q ∙ sym (put-here w.known s (w.replicas s) t q) ∙ h
    | inr d ↦ k.member t (sym (put-apart w.known s (w.replicas s) t d) ∙ h) (sym (put-apart w.leaving s false t d) ∙ l)
  ];
  first = λ z t. away-put w.known w.leaving s (w.replicas s) false (and-none (w.replicas s)) t (k.first z t);
}

-- A replica gets leave.
leave : (w : Shard) → IsKept w → (s : ℕ) → MayHappen w (Leave s) → IsKept (left_by w (Leave s))
leave w k s a = record {
  lists = k.lists;
  copies = k.copies;
  front = k.front;
  earlier = k.earlier;
  lost = k.lost;
  unbegun = k.unbegun;
  present = k.present;
  own = k.own;
  below = k.below;
  whole = k.whole;
  enough = told-enough w k (put w.leaving s true) (put w.known s false) w.needed w.acknowledged (primary-has-all w k) (λ t h.
      elim (put-cases w.known s false t true h) [
        | inl p ↦ absurd (false≢true p.1)
        | inr p ↦ (p.1, put-apart w.leaving s true t p.0)
      ]) a;
  heard = λ t. true-stays w.ended w.view (w.lists w.view) (w.lists w.view) (is_away w.known w.leaving) (is_away (put w.known s false) (put w.leaving s true)) w.copies w.copies
      (still-there w.view (w.lists w.view) (is_away w.known w.leaving) (is_away (put w.known s false) (put w.leaving s true)) w.copies
      (away-put w.known w.leaving s false true refl)) t (w.heard t) (k.heard t);
  words = words-stay w.ended w.view (w.lists w.view) (w.lists w.view) (is_away w.known w.leaving) (is_away (put w.known s false) (put w.leaving s true)) w.copies w.copies
      (still-there w.view (w.lists w.view) (is_away w.known w.leaving) (is_away (put w.known s false) (put w.leaving s true)) w.copies
      (away-put w.known w.leaving s false true refl)) w.words k.words;
  member = λ t h l. elim (put-cases w.known s false t true h) [
    | inl p ↦ absurd (false≢true p.1)
    | inr p ↦ k.member t p.1 (sym (put-apart w.leaving s true t p.0) ∙ l)
  ];
  first = λ z t. away-put w.known w.leaving s false true refl t (k.first z t);
}

-- no copy is there where it was taken away
taken : (copies : ℕ → Option (List ListEntry)) (s t : ℕ) (xs : List ListEntry) → put copies s None t ≡ Some xs → copies t ≡ Some xs
taken copies s t xs h = elim (put-cases copies s None t (Some xs) h) [ inl p ↦ absurd (let e : None ≡ Some xs = p.1 in cc) | inr p ↦ p.1 ]

taken-lacks : (list : List ListEntry) (copies : ℕ → Option (List ListEntry)) (s t : ℕ) → not (lacks list (copies t)) ≡ true → not (lacks list (put copies s None t)) ≡ true
taken-lacks list copies s t h = lacks-nothing list (put copies s None t) (λ copy q. has-all list (copies t) copy h (taken copies s t copy q))

taken-has : (view : ℕ) (list : List ListEntry) (away : ℕ → Bool) (copies : ℕ → Option (List ListEntry)) (s t position : ℕ) →
    HasUpTo view list away copies t position → HasUpTo view list away (put copies s None) t position
taken-has view list away copies s t position old = record {
  bound = old.bound;
  begun = old.begun;
  there = old.there;
  part = λ xs ys h b l. old.part xs ys (taken copies s t xs h) b l;
}

-- who has lost its copy leads no more
taken-front : (w : Shard) → IsKept w → (s t : ℕ) (xs : List ListEntry) → ((t ≡ w.primary) × HasPrimary w) ⊎ ((put w.former s 0 t ≡ w.ended) × HasNoPrimary w) →
    put w.copies s None t ≡ Some xs → xs ≡ w.lists w.view
taken-front w k s t xs lead h = elim (put-cases w.copies s None t (Some xs) h) [
  | inl p ↦ absurd (let e : None ≡ Some xs = p.1 in cc)
  | inr p ↦ elim lead [
    | inl q ↦ k.front t xs (inl q) p.1
    | inr q ↦ k.front t xs (inr (sym (put-apart w.former s 0 t p.0) ∙ q.0, q.1)) p.1
  ]
]

taken-earlier : (w : Shard) → IsKept w → (s t : ℕ) → put w.former s 0 t ≤ w.ended
taken-earlier w k s t = elim (cases_eq t s) [
  | inl q ↦ (let e : put w.former s 0 t ≡ 0 = put-here w.former s 0 t q in omega arith)
  | inr d ↦ (let e : put w.former s 0 t ≡ w.former t = put-apart w.former s 0 t d in let l : w.former t ≤ w.ended = k.earlier t in omega arith)
]

taken-lost : (w : Shard) → IsKept w → (s t : ℕ) → put w.copies s None t ≡ None → put w.former s 0 t ≡ 0
taken-lost w k s t h = elim (cases_eq t s) [
  | inl q ↦ put-here w.former s 0 t q
  | inr d ↦ put-apart w.former s 0 t d ∙ k.lost t (sym (put-apart w.copies s None t d) ∙ h)
]

-- A server loses its copy.
loses : (w : Shard) → IsKept w → (s : ℕ) → IsKept (left_by w (Loses s))
loses w k s = record {
  lists = k.lists;
  copies = λ t xs h. k.copies t xs (taken w.copies s t xs h);
  front = λ t xs lead h. taken-front w k s t xs lead h;
  earlier = taken-earlier w k s;
  lost = taken-lost w k s;
  unbegun = k.unbegun;
  present = k.present;
  own = k.own;
  below = k.below;
  whole = k.whole;
  enough = enough-more w.servers w.needed w.replicas w.leaving (λ t. not (lacks w.acknowledged (w.copies t))) w.replicas w.leaving
      (λ t. not (lacks w.acknowledged (put w.copies s None t))) k.enough (λ t x y z. (x, y, taken-lacks w.acknowledged w.copies s t z));
  heard = λ t. true-stays w.ended w.view (w.lists w.view) (w.lists w.view) (is_away w.known w.leaving) (is_away w.known w.leaving) w.copies (put w.copies s None) (taken-has w.view (w.lists w.view) (is_away w.known w.leaving) w.copies s) t (w.heard t) (k.heard t);
  words = words-stay w.ended w.view (w.lists w.view) (w.lists w.view) (is_away w.known w.leaving) (is_away w.known w.leaving) w.copies (put w.copies s None) (taken-has w.view (w.lists w.view) (is_away w.known w.leaving) w.copies s) w.words k.words;
  member = k.member;
  first = k.first;
}

-- A replica with leave goes.
goes : (w : Shard) → IsKept w → (s : ℕ) → MayHappen w (Goes s) → IsKept (left_by w (Goes s))
goes w k s a = record {
  lists = k.lists;
  copies = λ t xs h. k.copies t xs (taken w.copies s t xs h);
  front = λ t xs lead h. taken-front w k s t xs lead h;
  earlier = taken-earlier w k s;
  lost = taken-lost w k s;
  unbegun = k.unbegun;
  present = k.present;
  own = k.own;
  below = k.below;
  whole = k.whole;
  enough = enough-more w.servers w.needed w.replicas w.leaving (λ t. not (lacks w.acknowledged (w.copies t))) (put w.replicas s false) w.leaving
      (λ t. not (lacks w.acknowledged (put w.copies s None t))) k.enough (λ t x y z.
      let apart : (t ≡ s) → ⊥ = λ (q : t ≡ s). both_ways (w.leaving t) (not-true (w.leaving t) y) (ap w.leaving q ∙ a) in
      (put-apart w.replicas s false t apart ∙ x, y, taken-lacks w.acknowledged w.copies s t z));
  heard = λ t. true-stays w.ended w.view (w.lists w.view) (w.lists w.view) (is_away w.known w.leaving) (is_away w.known w.leaving) w.copies (put w.copies s None) (taken-has w.view (w.lists w.view) (is_away w.known w.leaving) w.copies s) t (w.heard t) (k.heard t);
  words = words-stay w.ended w.view (w.lists w.view) (w.lists w.view) (is_away w.known w.leaving) (is_away w.known w.leaving) w.copies (put w.copies s None) (taken-has w.view (w.lists w.view) (is_away w.known w.leaving) w.copies s) w.words k.words;
  member = λ t h l. elim (cases_eq t s) [
    | inl q ↦ absurd (both_ways (w.leaving t) l (ap w.leaving q ∙ a))
    | inr d ↦ put-apart w.replicas s false t d ∙ k.member t h l
  ];
  first = k.first;
}

-- The shard is handed over.
hands : (w : Shard) → IsKept w → (s : ℕ) → MayHappen w (Hands s) → IsKept (left_by w (Hands s))
hands w k s a = record {
  lists = k.lists;
  copies = k.copies;
  front = λ t xs lead h. elim lead [
    | inl q ↦
        let both : Some xs ≡ Some a.0 = sym h ∙ ap w.copies q.0 ∙ a.2 in
        let same : xs ≡ a.0 = cc in
        same ∙ primary-front w k a.3 a.0 a.1
    | inr q ↦ absurd (ends-once w a.3 q.1)
  ];
  earlier = k.earlier;
  lost = k.lost;
  unbegun = k.unbegun;
  present = k.present;
  own = k.own;
  below = k.below;
  whole = k.whole;
  enough = k.enough;
  heard = λ t. unheard w.ended w.view (w.lists w.view) (is_away w.known w.leaving) w.copies t (λ p z.
      (let l : w.ended ≤ w.view = p in let e : w.ended ≡ 0 = omega arith in k.first e t));
  words = k.words;
  member = k.member;
  first = k.first;
}

-- The primary starts again.
restarts : (w : Shard) → IsKept w → (v : ℕ) → MayHappen w (Restarts v) → IsKept (left_by w (Restarts v))
restarts w k v a =
    let c = some-copy (w.copies w.primary) a.0 in
    let all : begins w.acknowledged c.0 ≡ true = subst (λ (ys : List ListEntry). begins w.acknowledged ys ≡ true) (sym (primary-front w k a.2 c.0 c.1)) (primary-has-all w k) in
    begins-view w k w.primary v c.0 c.1 a.1 w.replicas w.leaving w.known k.member k.first w.needed w.acknowledged all k.below k.whole k.enough

-- The primary asks for more replicas.
raises : (w : Shard) → IsKept w → (needed : ℕ) → MayHappen w (Raises needed) → IsKept (left_by w (Raises needed))
raises w k needed a = record {
  lists = k.lists;
  copies = k.copies;
  front = k.front;
  earlier = k.earlier;
  lost = k.lost;
  unbegun = k.unbegun;
  present = k.present;
  own = k.own;
  below = k.below;
  whole = k.whole;
  enough = told-enough w k w.leaving w.known needed w.acknowledged (primary-has-all w k) (λ t h. (h, refl)) a;
  heard = k.heard;
  words = k.words;
  member = k.member;
  first = k.first;
}

-- It asks for fewer.
lowers : (w : Shard) → IsKept w → (needed : ℕ) → MayHappen w (Lowers needed) → IsKept (left_by w (Lowers needed))
lowers w k needed a = record {
  lists = k.lists;
  copies = k.copies;
  front = k.front;
  earlier = k.earlier;
  lost = k.lost;
  unbegun = k.unbegun;
  present = k.present;
  own = k.own;
  below = k.below;
  whole = k.whole;
  enough = (let l : needed ≤ w.needed = a in let m : w.needed ≤ counted w (λ t. not (lacks w.acknowledged (w.copies t))) = k.enough in omega arith);
  heard = k.heard;
  words = k.words;
  member = k.member;
  first = k.first;
}

fewer-away : (a g l : Bool) → (a && l) ≡ false → ((a && not g) && l) ≡ false
fewer-away true true l h = refl
fewer-away true false l h = h
fewer-away false g l h = refl

-- Replicas go by a reopening, and it asks for as many fewer.
removes : (w : Shard) → IsKept w → (gone : ℕ → Bool) (needed : ℕ) → MayHappen w (Removes gone needed) → IsKept (left_by w (Removes gone needed))
removes w k gone needed a = record {
  lists = k.lists;
  copies = k.copies;
  front = k.front;
  earlier = k.earlier;
  lost = k.lost;
  unbegun = k.unbegun;
  present = k.present;
  own = k.own;
  below = k.below;
  whole = k.whole;
  enough =
      (let p = λ (t : ℕ). w.replicas t && (not (w.leaving t) && not (lacks w.acknowledged (w.copies t))) in
      let q = λ (t : ℕ). (w.replicas t && not (gone t)) && (not (w.leaving t) && not (lacks w.acknowledged (w.copies t))) in
      let r = λ (t : ℕ). w.replicas t && gone t in
      let l : count_below w.servers p ≤ count_below w.servers q + count_below w.servers r = count-either w.servers p q r (λ t h.
      let x = and_parts (w.replicas t) (not (w.leaving t) && not (lacks w.acknowledged (w.copies t))) h in
      elim (cases_Bool (gone t)) [
        | inl g ↦ inr (and_from (w.replicas t) (gone t) x.0 g)
        | inr g ↦ inl (and_from (w.replicas t && not (gone t)) (not (w.leaving t) && not (lacks w.acknowledged (w.copies t)))
            (and_from (w.replicas t) (not (gone t)) x.0 (ap not g)) x.1)
      ]) in
      let m : w.needed ≤ count_below w.servers p = k.enough in
      let n : needed + count_below w.servers r ≤ w.needed = a in
      omega arith);
  heard = λ t. true-stays w.ended w.view (w.lists w.view) (w.lists w.view) (is_away w.known w.leaving) (is_away (λ s. w.known s && not (gone s)) w.leaving) w.copies w.copies
      (still-there w.view (w.lists w.view) (is_away w.known w.leaving) (is_away (λ s. w.known s && not (gone s)) w.leaving) w.copies
      (λ s h. fewer-away (w.known s) (gone s) (w.leaving s) h)) t (w.heard t) (k.heard t);
  words = words-stay w.ended w.view (w.lists w.view) (w.lists w.view) (is_away w.known w.leaving) (is_away (λ s. w.known s && not (gone s)) w.leaving) w.copies w.copies
      (still-there w.view (w.lists w.view) (is_away w.known w.leaving) (is_away (λ s. w.known s && not (gone s)) w.leaving) w.copies
      (λ s h. fewer-away (w.known s) (gone s) (w.leaving s) h)) w.words k.words;
  member = λ t h l. (let x = and_parts (w.known t) (not (gone t)) h in and_from (w.replicas t) (not (gone t)) (k.member t x.0 l) x.1);
  first = λ z t. fewer-away (w.known t) (gone t) (w.leaving t) (k.first z t);
}

-- A replica becomes primary by an order.
changes : (w : Shard) → IsKept w → (s v : ℕ) (answered : ℕ → Bool) → MayHappen w (Changes s v answered) → IsKept (left_by w (Changes s v answered))
changes w k s v answered a =
    let all : begins w.acknowledged a.0 ≡ true = greatest-has-all w k answered s a.0 a.1 a.2 a.4 in
    begins-view w k s v a.0 a.1 a.3 w.replicas w.leaving w.known k.member k.first w.needed w.acknowledged all k.below k.whole k.enough

-- what stays acknowledged when a shard is named as lost, or is not
kept-begins : (named : Bool) (list copy : List ListEntry) → (named ≡ false → begins list copy ≡ true) → begins (if named then [] else list) copy ≡ true
kept-begins true list copy h = refl
kept-begins false list copy h = h refl

kept-below : (named : Bool) (list : List ListEntry) (v : ℕ) → view_of list ≤ v → view_of (if named then [] else list) ≤ v
kept-below true list v h = omega arith
kept-below false list v h = h

kept-whole : (named : Bool) (lists : ℕ → List ListEntry) (list : List ListEntry) → IsWhole lists list → IsWhole lists (if named then [] else list)
kept-whole true lists list h = λ u some low. refl
kept-whole false lists list h = h

-- A reopening chooses another primary.
chooses : (w : Shard) → IsKept w → (c : Choice) → MayHappen w (Chooses c) → IsKept (left_by w (Chooses c))
chooses w k c a =
    let copy = a.0 in
    let all : begins (if c.named then [] else w.acknowledged) copy ≡ true = kept-begins c.named w.acknowledged copy (λ n.
    greatest-has-all w k c.answered c.successor copy a.1.copy_is a.1.greatest (a.1.named n)) in
    let p = λ (t : ℕ). c.replicas t && is_copy copy (w.copies t) in
    let q = λ (t : ℕ). c.replicas t && (not false && not (lacks (if c.named then [] else w.acknowledged) (w.copies t))) in
    let l : count_below w.servers p ≤ count_below w.servers q = count-more w.servers p q (λ t h.
    let x = and_parts (c.replicas t) (is_copy copy (w.copies t)) h in
    let is : w.copies t ≡ Some copy = copy-is copy (w.copies t) x.1 in
    and_from (c.replicas t) (not false && not (lacks (if c.named then [] else w.acknowledged) (w.copies t))) x.0
    (lacks-nothing (if c.named then [] else w.acknowledged) (w.copies t) (λ other q.
    let both : Some copy ≡ Some other = sym is ∙ q in
    let same : copy ≡ other = cc in
    subst (λ (ys : List ListEntry). begins (if c.named then [] else w.acknowledged) ys ≡ true) same all))) in
    let n : c.needed ≤ count_below w.servers p = a.1.needed in
    begins-view w k c.successor c.view copy a.1.copy_is a.1.later c.replicas (λ _. false) c.replicas (λ t h l. h) (λ z t. and-none (c.replicas t)) c.needed (if c.named then [] else w.acknowledged) all
    (kept-below c.named w.acknowledged w.view k.below) (kept-whole c.named w.lists w.acknowledged k.whole) (omega arith)

-- without a primary nothing follows of what was told
ended-is-true : (w : Shard) (number : ℕ) → w.view < number → (s : ℕ) (told : ToldCopy) →
    IsTrueOf w.ended w.view (w.lists w.view) (is_away w.known w.leaving) w.copies s told →
    IsTrueOf number w.view (w.lists w.view) (is_away w.known w.leaving) w.copies s told
ended-is-true w number l s told t = record { below = t.below; has = λ p. (let m : number ≤ w.view = p in absurd (omega arith)) }

-- The primary ceases to be one.
ends : (w : Shard) → IsKept w → (number : ℕ) → MayHappen w (Ends number) → IsKept (left_by w (Ends number))
ends w k number a = record {
  lists = k.lists;
  copies = k.copies;
  front = λ t xs lead h. elim lead [
    | inl q ↦ (let l : w.view < number = a.1.0 in let m : number ≤ w.view = q.1 in absurd (omega arith))
    | inr q ↦ elim (cases_eq t w.primary) [
      | inl same ↦ k.front t xs (inl (same, a.2)) h
      | inr d ↦
          let e : w.former t ≡ number = sym (put-apart w.former w.primary number t d) ∙ q.0 in
          let l : w.former t ≤ w.ended = k.earlier t in
          let m : w.ended < number = a.1.1 in
          absurd (omega arith)
    ]
  ];
  earlier = λ t. elim (cases_eq t w.primary) [
    | inl q ↦ (let e : put w.former w.primary number t ≡ number = put-here w.former w.primary number t q in omega arith)
    | inr d ↦
        let e : put w.former w.primary number t ≡ w.former t = put-apart w.former w.primary number t d in
        let l : w.former t ≤ w.ended = k.earlier t in
        let m : w.ended < number = a.1.1 in
        omega arith
  ];
  lost = λ t h. elim (cases_eq t w.primary) [
    | inl q ↦ absurd (let c = some-copy (w.copies w.primary) a.0 in let e : None ≡ Some c.0 = sym h ∙ ap w.copies q ∙ c.1 in cc)
    | inr d ↦ put-apart w.former w.primary number t d ∙ k.lost t h
  ];
  unbegun = k.unbegun;
  present = k.present;
  own = k.own;
  below = k.below;
  whole = k.whole;
  enough = k.enough;
  heard = λ t. ended-is-true w number a.1.0 t (w.heard t) (k.heard t);
  words = words-more (IsTrueWord w.ended w.view (w.lists w.view) (is_away w.known w.leaving) w.copies)
      (IsTrueWord number w.view (w.lists w.view) (is_away w.known w.leaving) w.copies)
      (λ word t. ended-is-true w number a.1.0 word.server word.copy t) w.words k.words;
  member = k.member;
  first = λ z. (let l : w.view < number = a.1.0 in absurd (omega arith));
}

-- A replica becomes primary whose copy is no less than that of the former primary.
succeeds : (w : Shard) → IsKept w → (s v former : ℕ) → MayHappen w (Succeeds s v former) → IsKept (left_by w (Succeeds s v former))
succeeds w k s v former (copy, kept, is, there, last, greater, later, none) =
    let same : kept ≡ w.lists w.view = k.front former kept (inr (last, none)) there in
    let has : begins w.acknowledged kept ≡ true = subst (λ (ys : List ListEntry). begins w.acknowledged ys ≡ true) (sym same) (primary-has-all w k) in
    let all : begins w.acknowledged copy ≡ true = greater-has-all w k former s kept copy there is has greater in
    begins-view w k s v copy is later w.replicas w.leaving w.known k.member k.first w.needed w.acknowledged all k.below k.whole k.enough

-- who has a copy of no view that began after an end has told nothing in the view of a primary
not-of-the-view : (w : Shard) → IsKept w → (s : ℕ) (copy : List ListEntry) → w.copies s ≡ Some copy → view_of copy < w.ended → w.ended ≤ w.view →
    (away : ℕ → Bool) (position : ℕ) → HasUpTo w.view (w.lists w.view) away w.copies s position → ⊥
not-of-the-view w k s copy is early p away position old =
    let o = old.begun in
    let v : view_of o.0 ≡ w.view = o.3 in
    let in-copy : begins o.0 copy ≡ true = old.part copy o.0 is o.1 o.2 in
    let l : view_of o.0 ≤ view_of copy = k.lists.views (view_of copy) o.0 (begins-through o.0 copy (w.lists (view_of copy)) in-copy (k.copies s copy is)) in
    absurd (omega arith)

released-is-true : (w : Shard) → IsKept w → (s : ℕ) (copy : List ListEntry) → w.copies s ≡ Some copy → view_of copy < w.ended → (t : ℕ) (told : ToldCopy) →
    IsTrueOf w.ended w.view (w.lists w.view) (is_away w.known w.leaving) w.copies t told →
    IsTrueOf w.ended w.view (w.lists w.view) (is_away w.known (put w.leaving s true)) w.copies t told
released-is-true w k s copy is early t told old = record {
  below = old.below;
  has = λ p v. (let o = old.has p v in elim (cases_eq t s) [
    | inl q ↦ absurd (not-of-the-view w k t copy (ap w.copies q ∙ is) early p (is_away w.known w.leaving) told.position o)
    | inr d ↦ record {
      bound = o.bound;
      begun = o.begun;
      part = o.part;
      there = ap (λ (z : Bool). w.known t && z) (put-apart w.leaving s true t d) ∙ o.there;
    }
  ]);
}

-- what is no less than a copy with all that is acknowledged has it, too
others-have-all : (w : Shard) → IsKept w → (s : ℕ) (others : ℕ → Bool) (copy : List ListEntry) → w.copies s ≡ Some copy → HaveNoLess w others s copy →
    begins w.acknowledged copy ≡ true → (t : ℕ) → others t ≡ true →
    (w.replicas t && (not (put w.leaving s true t) && not (lacks w.acknowledged (w.copies t)))) ≡ true
others-have-all w k s others copy is more all t h =
    let m = more t h in
    let r = and_parts (w.replicas t) (not (w.leaving t)) m.1 in
    let has : begins w.acknowledged m.2 ≡ true = greater-has-all w k s t copy m.2 is m.3 all m.4 in
    and_from (w.replicas t) (not (put w.leaving s true t) && not (lacks w.acknowledged (w.copies t))) r.0
    (and_from (not (put w.leaving s true t)) (not (lacks w.acknowledged (w.copies t))) (ap not (put-apart w.leaving s true t m.0) ∙ r.1)
    (lacks-nothing w.acknowledged (w.copies t) (λ other q.
    let both : Some m.2 ≡ Some other = sym m.3 ∙ q in
    let same : m.2 ≡ other = cc in
    subst (λ (ys : List ListEntry). begins w.acknowledged ys ≡ true) same has)))

released-enough : (w : Shard) → IsKept w → (s : ℕ) (others : ℕ → Bool) → MayHappen w (Releases s others) →
    w.needed ≤ count_below w.servers (λ t. w.replicas t && (not (put w.leaving s true t) && not (lacks w.acknowledged (w.copies t))))
released-enough w k s others (copy, is, more, enough, early) = elim (cases_Bool (begins w.acknowledged copy)) [
  | inl all ↦
      let l : count_below w.servers others ≤ count_below w.servers (λ t. w.replicas t && (not (put w.leaving s true t) && not (lacks w.acknowledged (w.copies t)))) =
      count-more w.servers others (λ t. w.replicas t && (not (put w.leaving s true t) && not (lacks w.acknowledged (w.copies t))))
      (others-have-all w k s others copy is more all) in
      omega arith
  | inr some ↦ enough-more w.servers w.needed w.replicas w.leaving (λ t. not (lacks w.acknowledged (w.copies t))) w.replicas (put w.leaving s true)
      (λ t. not (lacks w.acknowledged (w.copies t))) k.enough (λ t x y z.
      let apart : (t ≡ s) → ⊥ = λ (q : t ≡ s). both_ways (begins w.acknowledged copy) some (has-all w.acknowledged (w.copies t) copy z (ap w.copies q ∙ is)) in
      (x, ap not (put-apart w.leaving s true t apart) ∙ y, z))
]

-- Others give a replica leave.
releases : (w : Shard) → IsKept w → (s : ℕ) (others : ℕ → Bool) → MayHappen w (Releases s others) → IsKept (left_by w (Releases s others))
releases w k s others a = record {
  lists = k.lists;
  copies = k.copies;
  front = k.front;
  earlier = k.earlier;
  lost = k.lost;
  unbegun = k.unbegun;
  present = k.present;
  own = k.own;
  below = k.below;
  whole = k.whole;
  enough = released-enough w k s others a;
  heard = λ t. released-is-true w k s a.0 a.1 a.4 t (w.heard t) (k.heard t);
  words = words-more (IsTrueWord w.ended w.view (w.lists w.view) (is_away w.known w.leaving) w.copies)
      (IsTrueWord w.ended w.view (w.lists w.view) (is_away w.known (put w.leaving s true)) w.copies)
      (λ word t. released-is-true w k s a.0 a.1 a.4 word.server word.copy t) w.words k.words;
  member = λ t h l. elim (put-cases w.leaving s true t false l) [
    | inl p ↦ absurd (false≢true (sym p.1))
    | inr p ↦ k.member t h p.1
  ];
  first = λ z. (let l : view_of a.0 < w.ended = a.4 in absurd (omega arith));
}

-- without a primary what is told says nothing of the copies
untold-is-true : (w : Shard) → HasNoPrimary w → (copies : ℕ → Option (List ListEntry)) (s : ℕ) (told : ToldCopy) →
    IsTrueOf w.ended w.view (w.lists w.view) (is_away w.known w.leaving) w.copies s told →
    IsTrueOf w.ended w.view (w.lists w.view) (is_away w.known w.leaving) copies s told
untold-is-true w none copies s told t = record { below = t.below; has = λ p. absurd (ends-once w p none) }

-- a copy that is no less than the former primary's is the same
no-less-is-front : (w : Shard) → IsKept w → (source : ℕ) (old list : List ListEntry) → w.copies source ≡ Some list → old ≡ w.lists w.view →
    IsAtLeast (told_of list) (told_of old) → list ≡ w.lists w.view
no-less-is-front w k source old list is same more =
    let in-own : begins list (w.lists (view_of list)) ≡ true = k.copies source list is in
    let low : view_of list ≤ w.view = copy-below w k list in-own in
    let v : view_of old ≡ w.view = ap view_of same ∙ k.own in
    elim (at-least-lists old list more) [
      | inl l ↦ absurd (omega arith)
      | inr q ↦
          let u : view_of list ≡ w.view = sym q.0 ∙ v in
          let in-view : begins list (w.lists w.view) ≡ true = subst (λ (n : ℕ). begins list (w.lists n) ≡ true) u in-own in
          let n : length old ≡ length (w.lists w.view) = ap length same in
          let l : length old ≤ length list = q.1 in
          let m : length list ≤ length (w.lists w.view) = begins-length list (w.lists w.view) in-view in
          begins-whole list (w.lists w.view) in-view (omega arith)
    ]

-- who was the last primary, and takes a list, has the same
takes-front : (w : Shard) → IsKept w → (s source : ℕ) (list : List ListEntry) → w.copies source ≡ Some list → MayTake w s list → HasNoPrimary w →
    w.former s ≡ w.ended → list ≡ w.lists w.view
takes-front w k s source list is (inl (old, e, more)) none last = no-less-is-front w k source old list is (k.front s old (inr (last, none)) e) more
takes-front w k s source list is (inr (e, away)) none last =
    let z : w.former s ≡ 0 = k.lost s e in
    let l : w.view < w.ended = none in
    absurd (omega arith)

-- who is a replica, has all and takes a list, has all
takes-all : (w : Shard) → IsKept w → (s source : ℕ) (list : List ListEntry) → w.copies source ≡ Some list → MayTake w s list →
    w.replicas s ≡ true → not (lacks w.acknowledged (w.copies s)) ≡ true → begins w.acknowledged list ≡ true
takes-all w k s source list is (inl (old, e, more)) r h = greater-has-all w k s source old list e is (has-all w.acknowledged (w.copies s) old h e) more
takes-all w k s source list is (inr (e, away)) r h = absurd (both_ways (w.replicas s) away r)

-- Without a primary a server takes another one's list.
takes : (w : Shard) → IsKept w → (s source : ℕ) → MayHappen w (Takes s source) → IsKept (left_by w (Takes s source))
takes w k s source (list, is, may, none) = record {
  lists = k.lists;
  copies = λ t xs h. elim (put-cases w.copies s (w.copies source) t (Some xs) h) [
    | inl p ↦ k.copies source xs p.1
    | inr p ↦ k.copies t xs p.1
  ];
  front = λ t xs lead h. elim lead [
    | inl q ↦ absurd (ends-once w q.1 none)
    | inr q ↦ elim (put-cases w.copies s (w.copies source) t (Some xs) h) [
      | inl p ↦
          let both : Some list ≡ Some xs = sym is ∙ p.1 in
          let same : list ≡ xs = cc in
          sym same ∙ takes-front w k s source list is may none (ap w.former (sym p.0) ∙ q.0)
      | inr p ↦ k.front t xs (inr q) p.1
    ]
  ];
  earlier = k.earlier;
  lost = λ t h. lost-put w k s list t (subst (λ (o : Option (List ListEntry)). put w.copies s o t ≡ None) is h);
  unbegun = k.unbegun;
  present = k.present;
  own = k.own;
  below = k.below;
  whole = k.whole;
  enough = enough-more w.servers w.needed w.replicas w.leaving (λ t. not (lacks w.acknowledged (w.copies t))) w.replicas w.leaving
      (λ t. not (lacks w.acknowledged (put w.copies s (w.copies source) t))) k.enough (λ t x y z. (
        x,
        y,
        lacks-nothing w.acknowledged (put w.copies s (w.copies source) t) (λ copy q. elim (put-cases w.copies s (w.copies source) t (Some copy) q) [
          | inl p ↦
              let both : Some list ≡ Some copy = sym is ∙ p.1 in
              let same : list ≡ copy = cc in
              subst (λ (ys : List ListEntry). begins w.acknowledged ys ≡ true) same (takes-all w k s source list is may (ap w.replicas (sym p.0) ∙ x)
              (ap (λ (n : ℕ). not (lacks w.acknowledged (w.copies n))) (sym p.0) ∙ z))
          | inr p ↦ has-all w.acknowledged (w.copies t) copy z p.1
        ]),
      ));
  heard = λ t. untold-is-true w none (put w.copies s (w.copies source)) t (w.heard t) (k.heard t);
  words = words-more (IsTrueWord w.ended w.view (w.lists w.view) (is_away w.known w.leaving) w.copies)
      (IsTrueWord w.ended w.view (w.lists w.view) (is_away w.known w.leaving) (put w.copies s (w.copies source)))
      (λ word t. untold-is-true w none (put w.copies s (w.copies source)) word.server word.copy t) w.words k.words;
  member = k.member;
  first = k.first;
}

-- Each event that may happen keeps the invariant.
pub kept : (w : Shard) → IsKept w → (e : Event) → MayHappen w e → IsKept (left_by w e)
kept w k (Executes write) a = executes w k write a
kept w k (Copies s) a = copies-anew w k s a
kept w k (Follows s list) a = follows w k s list a
kept w k (Tells s) a = tells w k s a
kept w k (Hears which) a = hears w k which a
kept w k (Acknowledges list) a = acknowledges w k list a
kept w k (Joins s) a = joins w k s
kept w k (Leave s) a = leave w k s a
kept w k (Goes s) a = goes w k s a
kept w k (Stays s) a = stays w k s
kept w k (Loses s) a = loses w k s
kept w k (Hands s) a = hands w k s a
kept w k (Restarts v) a = restarts w k v a
kept w k (Raises needed) a = raises w k needed a
kept w k (Lowers needed) a = lowers w k needed a
kept w k (Removes gone needed) a = removes w k gone needed a
kept w k (Changes s v answered) a = changes w k s v answered a
kept w k (Chooses c) a = chooses w k c a
kept w k (Ends number) a = ends w k number a
kept w k (Succeeds s v former) a = succeeds w k s v former a
kept w k (Releases s others) a = releases w k s others a
kept w k (Takes s source) a = takes w k s source a
