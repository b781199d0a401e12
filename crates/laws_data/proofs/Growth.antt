-- A list that grows by an entry, in its view or in a new one.
use Rattle.std.proofs.Common.{◌≡◌, ℕ, ◌≤◌, ◌⊎◌, inl, inr, Bool, true, not, ◌&&◌, List, [], ◌∷◌, ◌++◌, Option, Some, length, sym, ap, ◌∙◌, subst, arith}
use Rattle.std.proofs.lemmas.Bool.{cases_eq}
use Rattle.sm_placement.specs.Sums.{count_below, put}
use Rattle.sm_placement.proofs.Sums.{put-apart, put-here}
use Rattle.sm_copies.specs.Lists.{ListEntry, begins, view_of}
use Rattle.laws_data.specs.Shard.{lacks}
use Rattle.sm_copies.proofs.Lists.{begins-last, begins-more, begins-self, begins-through, view-behind}
use Rattle.laws_data.proofs.Lists.{has-all, lacks-nothing, put-cases}
use Rattle.laws_data.proofs.Counts.{enough-more}
use Rattle.laws_data.proofs.Invariant.{AreCopies, AreLists, IsWhole}

-- A list g, which begins the list of its view and begins with that of the view v, has the entry e of view v behind it from now on.
module _ (lists : ℕ → List ListEntry) (k : AreLists lists) (v : ℕ) (g : List ListEntry) (e : ListEntry) (of : e.view ≡ v)
    (behind : begins (lists v) g ≡ true) (from : begins g (lists (view_of g)) ≡ true) (old : view_of g ≤ v) where
  next : List ListEntry
  next = g ++ e ∷ []

  -- each beginning of a list stays one
  pub grows : (u : ℕ) (xs : List ListEntry) → begins xs (lists u) ≡ true → begins xs (put lists v (g ++ e ∷ []) u) ≡ true
  grows u xs b = elim (cases_eq u v) [
    | inl q ↦
        let in-old : begins xs g ≡ true = begins-through xs (lists v) g (subst (λ (n : ℕ). begins xs (lists n) ≡ true) q b) behind in
        subst (λ (ys : List ListEntry). begins xs ys ≡ true) (sym (put-here lists v (g ++ e ∷ []) u q)) (begins-more xs g (e ∷ []) in-old)
    | inr d ↦ subst (λ (ys : List ListEntry). begins xs ys ≡ true) (sym (put-apart lists v (g ++ e ∷ []) u d)) b
  ]

  view-is : view_of (g ++ e ∷ []) ≡ v
  view-is = view-behind g e ∙ of

  -- the list that has grown is that of its view
  pub here : begins (g ++ e ∷ []) (put lists v (g ++ e ∷ []) (view_of (g ++ e ∷ []))) ≡ true
  here = subst (λ (ys : List ListEntry). begins (g ++ e ∷ []) ys ≡ true) (sym (put-here lists v (g ++ e ∷ []) (view_of (g ++ e ∷ [])) view-is)) (begins-self (g ++ e ∷ []))

  -- a beginning of a list as it is now is one of what stood before, or the list that has grown
  before : (u : ℕ) (xs : List ListEntry) → begins xs (put lists v (g ++ e ∷ []) u) ≡ true →
      ((t : ℕ) × (begins xs (lists t) ≡ true) × (t ≤ u)) ⊎ ((xs ≡ g ++ e ∷ []) × (u ≡ v))
  before u xs b = elim (cases_eq u v) [
    | inl q ↦ elim (begins-last xs g e (subst (λ (ys : List ListEntry). begins xs ys ≡ true) (put-here lists v (g ++ e ∷ []) u q) b)) [
      | inl c ↦ inl (view_of g, begins-through xs g (lists (view_of g)) c from, omega arith)
      | inr s ↦ inr (s, q)
    ]
    | inr d ↦ inl (u, subst (λ (ys : List ListEntry). begins xs ys ≡ true) (put-apart lists v (g ++ e ∷ []) u d) b, omega arith)
  ]

  -- the lists stay lists
  pub grown-lists : AreLists (put lists v (g ++ e ∷ []))
  grown-lists = record {
    matched = λ u xs b. elim (before u xs b) [
      | inl o ↦ grows (view_of xs) xs (k.matched o.0 xs o.1)
      | inr s ↦ subst (λ (ys : List ListEntry). begins ys (put lists v (g ++ e ∷ []) (view_of ys)) ≡ true) (sym s.0) here
    ];
    views = λ u xs b. elim (before u xs b) [
      | inl o ↦ (let l : view_of xs ≤ o.0 = k.views o.0 xs o.1 in let m : o.0 ≤ u = o.2 in omega arith)
      | inr s ↦ (let w : view_of xs ≡ v = ap view_of s.0 ∙ view-is in let q : u ≡ v = s.1 in omega arith)
    ];
  }

  -- copies stay copies, with that of the server that has the list
  pub grown-copies : (copies : ℕ → Option (List ListEntry)) (s : ℕ) → AreCopies lists copies → AreCopies (put lists v (g ++ e ∷ [])) (put copies s (Some (g ++ e ∷ [])))
  grown-copies copies s c t xs h = elim (put-cases copies s (Some (g ++ e ∷ [])) t (Some xs) h) [
    | inl p ↦ (let same : g ++ e ∷ [] ≡ xs = cc in subst (λ (ys : List ListEntry). begins ys (put lists v (g ++ e ∷ []) (view_of ys)) ≡ true) same here)
    | inr p ↦ grows (view_of xs) xs (c t xs p.1)
  ]

  -- what is acknowledged stays a beginning of each list
  pub grown-whole : (acknowledged : List ListEntry) → begins acknowledged g ≡ true → IsWhole lists acknowledged → IsWhole (put lists v (g ++ e ∷ [])) acknowledged
  grown-whole acknowledged a w u some low = elim (cases_eq u v) [
    | inl q ↦ subst (λ (ys : List ListEntry). begins acknowledged ys ≡ true) (sym (put-here lists v (g ++ e ∷ []) u q)) (begins-more acknowledged g (e ∷ []) a)
    | inr d ↦
        let same : put lists v (g ++ e ∷ []) u ≡ lists u = put-apart lists v (g ++ e ∷ []) u d in
        subst (λ (ys : List ListEntry). begins acknowledged ys ≡ true) (sym same) (w u (let n : length (put lists v (g ++ e ∷ []) u) ≡ length (lists u) = ap length same in omega arith) low)
  ]

  -- as many replicas as before lack nothing
  pub grown-enough : (n needed : ℕ) (r l : ℕ → Bool) (acknowledged : List ListEntry) (copies : ℕ → Option (List ListEntry)) (s : ℕ) → begins acknowledged g ≡ true →
      needed ≤ count_below n (λ t. r t && (not (l t) && not (lacks acknowledged (copies t)))) →
      needed ≤ count_below n (λ t. r t && (not (l t) && not (lacks acknowledged (put copies s (Some (g ++ e ∷ [])) t))))
  grown-enough n needed r l acknowledged copies s a h =
      enough-more n needed r l (λ t. not (lacks acknowledged (copies t))) r l (λ t. not (lacks acknowledged (put copies s (Some (g ++ e ∷ [])) t))) h (λ t x y z. (
        x,
        y,
        lacks-nothing acknowledged (put copies s (Some (g ++ e ∷ [])) t) (λ copy q.
            elim (put-cases copies s (Some (g ++ e ∷ [])) t (Some copy) q) [
              | inl p ↦ (let same : g ++ e ∷ [] ≡ copy = cc in subst (λ (ys : List ListEntry). begins acknowledged ys ≡ true) same (begins-more acknowledged g (e ∷ []) a))
              | inr p ↦ has-all acknowledged (copies t) copy z p.1
            ]),
      ))
