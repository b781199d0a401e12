-- The rows of a placement, one more at a time.
use Rattle.std.proofs.Common.{◌≡◌, ◌≢◌, ◌≤◌, ◌+◌, ◌∙◌, ℕ, Bool, false, List, [], ◌∷◌, ◌++◌, refl, sym, ap, inl, inr, arith}
use Rattle.std.specs.Prelude.{◌&&◌, nat_lt, if◌then◌else◌}
use Rattle.std.proofs.Math.Path.{fun_ext}
use Rattle.std.proofs.lemmas.Bool.{cases_eq, cases_lt, lt-ltb, le-ltb, ne_eqb, eq-eqb}
use Rattle.sm_server.specs.declared.call.Cell.{Cell}
use Rattle.sm_server.specs.declared.call.Cell.TheVariants.{Absent}
use Rattle.sm_placement.specs.Sums.{put2}
use Rattle.sm_placement.proofs.Sums.{put2-here, put2-row, put2-apart}
use Rattle.sm_placement.specs.Opening.{NamedCell, put_all}
use Rattle.sm_machine.specs.Opening.{cells_of_rows, down_of_rows, is_before, AreCellsBefore}

put_all_push : (rows : List NamedCell) (x : NamedCell) (f : ℕ → ℕ → Cell) → put_all (rows ++ x ∷ []) f ≡ put2 (put_all rows f) x.0 x.1 x.2
put_all_push [] x f = refl
put_all_push (y ∷ rows) x f = put_all_push rows x (put2 f y.0 y.1 y.2)

-- ---- what comes before a pair

in_row : (s v u : ℕ) → is_before s v s u ≡ nat_lt u v
in_row s v u = rw (le-ltb s s (omega arith), eq-eqb s s refl) refl

in_other : (s v r u : ℕ) → r ≢ s → is_before s v r u ≡ nat_lt r s
in_other s v r u e = rw (ne_eqb r s e) (elim (cases_lt r s) [ inl l ↦ rw (lt-ltb r s l) refl | inr l ↦ rw (le-ltb r s l) refl ])

-- ---- cells

-- before the first pair there is no row
pub no_cells : (cells : ℕ → ℕ → Cell) → AreCellsBefore [] cells 0 0
no_cells cells s v = elim (cases_eq s 0) [
  | inl e ↦ rw (e, in_row 0 0 v, le-ltb v 0 (omega arith)) refl
  | inr e ↦ rw (in_other 0 0 s v e, le-ltb s 0 (omega arith)) refl
]

-- the cells of another row, or of a pair apart in the row, are as they were
apart : (rows : List NamedCell) (cells : ℕ → ℕ → Cell) (s v r u : ℕ) → AreCellsBefore rows cells s v → (r ≡ s → u ≢ v) →
    cells_of_rows rows r u ≡ (if is_before s (v + 1) r u then cells r u else Absent)
apart rows cells s v r u h n = h r u ∙ ap (λ b. if b then cells r u else Absent) same
  where
    same : is_before s v r u ≡ is_before s (v + 1) r u
    same = elim (cases_eq r s) [
      | inl e ↦
          let d : u ≢ v = n e in
          let f : nat_lt u v ≡ nat_lt u (v + 1) = elim (cases_lt u v) [
            | inl l ↦ lt-ltb u v l ∙ sym (lt-ltb u (v + 1) (omega arith))
            | inr l ↦ le-ltb u v l ∙ sym (le-ltb u (v + 1) (omega arith))
          ] in
          rw (e, in_row s v u, in_row s (v + 1) u) f
      | inr e ↦ in_other s v r u e ∙ sym (in_other s (v + 1) r u e)
    ]

-- the row of one pair more
cell_more : (rows : List NamedCell) (cells : ℕ → ℕ → Cell) (s v : ℕ) (x : Cell) → AreCellsBefore rows cells s v → x ≡ cells s v → AreCellsBefore (rows ++ (s, v, x) ∷ []) cells s (v + 1)
cell_more rows cells s v x h e r u = ap (λ (f : ℕ → ℕ → Cell). f r u) (put_all_push rows (s, v, x) (λ s v. Absent)) ∙ put
  where
    put : put2 (cells_of_rows rows) s v x r u ≡ (if is_before s (v + 1) r u then cells r u else Absent)
    put = elim (cases_eq r s) [
      | inl a ↦ elim (cases_eq u v) [
        | inl b ↦ rw (a, b, put2-here (cells_of_rows rows) s v x, in_row s (v + 1) v, lt-ltb v (v + 1) (omega arith)) e
        | inr b ↦ rw a (put2-row (cells_of_rows rows) s v x u b ∙ apart rows cells s v s u h (λ _. b))
      ]
      | inr a ↦ put2-apart (cells_of_rows rows) s v x r u a ∙ apart rows cells s v r u h (λ b. absurd (a b))
    ]

-- with a row for the cell of this pair, the rows name the cells before the pair behind it
pub cell_pushed : (rows more : List NamedCell) (cells : ℕ → ℕ → Cell) (s v u : ℕ) (x : Cell) → AreCellsBefore rows cells s v → u ≡ v → x ≡ cells s u → more ≡ rows ++ (s, u, x) ∷ [] →
    AreCellsBefore more cells s (v + 1)
cell_pushed rows more cells s v u x h e f m = rw (m, e) (cell_more rows cells s v x h (f ∙ ap (cells s) e))

-- a cell that is Absent needs no row
pub cell_passed : (rows : List NamedCell) (cells : ℕ → ℕ → Cell) (s v : ℕ) → AreCellsBefore rows cells s v → cells s v ≡ Absent → AreCellsBefore rows cells s (v + 1)
cell_passed rows cells s v h e r u = elim (cases_eq r s) [
  | inl a ↦ elim (cases_eq u v) [
    | inl b ↦ rw (a, b) (h s v ∙ rw (in_row s v v, in_row s (v + 1) v, le-ltb v v (omega arith), lt-ltb v (v + 1) (omega arith)) (sym e))
    | inr b ↦ rw a (apart rows cells s v s u h (λ _. b))
  ]
  | inr a ↦ apart rows cells s v r u h (λ b. absurd (a b))
]

-- beyond a row there is nothing, so the next one may follow
pub row_passed : (rows : List NamedCell) (cells : ℕ → ℕ → Cell) (s n : ℕ) → AreCellsBefore rows cells s n → ((r u : ℕ) → n ≤ u → cells r u ≡ Absent) → AreCellsBefore rows cells (s + 1) 0
row_passed rows cells s n h none r u = elim (cases_lt r s) [
  | inl a ↦
      let d : r ≢ s = omega arith in
      let f : r ≢ s + 1 = omega arith in
      h r u ∙ rw (in_other s n r u d, in_other (s + 1) 0 r u f, lt-ltb r s a, lt-ltb r (s + 1) (omega arith)) refl
  | inr a ↦ elim (cases_eq r s) [
    | inl b ↦
        let f : s ≢ s + 1 = omega arith in
        rw b (h s u ∙ rw (in_row s n u, in_other (s + 1) 0 s u f, lt-ltb s (s + 1) (omega arith)) (elim (cases_lt u n) [ inl l ↦ rw (lt-ltb u n l) refl | inr l ↦ rw (le-ltb u n l) (sym (none s u l)) ]))
    | inr b ↦ h r u ∙ rw (in_other s n r u b, le-ltb r s a) (sym (beyond a b))
  ]
]
  where
    beyond : s ≤ r → r ≢ s → (if is_before (s + 1) 0 r u then cells r u else Absent) ≡ Absent
    beyond l b = elim (cases_eq r (s + 1)) [
      | inl e ↦ rw (e, in_row (s + 1) 0 u, le-ltb u 0 (omega arith)) refl
      | inr e ↦ rw (in_other (s + 1) 0 r u e, le-ltb r (s + 1) (omega arith)) refl
    ]

-- all rows
pub all_cells : (rows : List NamedCell) (cells : ℕ → ℕ → Cell) (n : ℕ) → AreCellsBefore rows cells n 0 → ((s v : ℕ) → n ≤ s → cells s v ≡ Absent) → cells_of_rows rows ≡ cells
all_cells rows cells n h none = fun_ext (λ s. fun_ext (λ v. h s v ∙ at s v))
  where
    at : (s v : ℕ) → (if is_before n 0 s v then cells s v else Absent) ≡ cells s v
    at s v = elim (cases_eq s n) [
      | inl a ↦ rw (a, in_row n 0 v, le-ltb v 0 (omega arith)) (sym (none n v (omega arith)))
      | inr a ↦ rw (in_other n 0 s v a) (elim (cases_lt s n) [ inl l ↦ rw (lt-ltb s n l) refl | inr l ↦ rw (le-ltb s n l) (sym (none s v l)) ])
    ]

-- ---- servers that are down

-- the rows name the servers below this one that are down, and no others
abbrev pub AreDownBelow : List ℕ → (ℕ → Bool) → ℕ → Type 0
AreDownBelow rows down server = (v : ℕ) → down_of_rows rows v ≡ (nat_lt v server && down v)

-- below the first server there is none
pub none_down : (down : ℕ → Bool) → AreDownBelow [] down 0
none_down down v = rw (le-ltb v 0 (omega arith)) refl

-- all rows
pub all_down : (rows : List ℕ) (down : ℕ → Bool) (n : ℕ) → AreDownBelow rows down n → ((v : ℕ) → n ≤ v → down v ≡ false) → down_of_rows rows ≡ down
all_down rows down n h none = fun_ext (λ v. h v ∙ elim (cases_lt v n) [ inl l ↦ rw (lt-ltb v n l) refl | inr l ↦ rw (le-ltb v n l) (sym (none v l)) ])
