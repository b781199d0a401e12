-- The cells of roles as a list of those that hold something.
use Rattle.std.proofs.Common.{◌≡◌, ◌∙◌, ◌+◌, ◌≤◌, ◌||◌, ℕ, Bool, true, false, List, [], ◌∷◌, ◌++◌, Some, None, Option, is_some, sym, ap, refl, arith, subst, true≢false, ◌⊎◌, inl, inr}
use Rattle.std.specs.List.{list_any}
use Rattle.std.proofs.lemmas.List.Folds.{list_any-append}
use Rattle.std.proofs.lemmas.Bool.Decides.{nat_tests}
use Rattle.sm_server.specs.declared.call.Cell.TheVariants.{Absent}
use Rattle.sm_server.specs.declared.call.Role.{Role}
use Rattle.sm_placement.specs.Opening.{NamedCell, cell_named, is_of}
use Rattle.sm_placement.proofs.GridLemmas.{grid_of-below, grid_of-beside}
use Rattle.sm_placement.proofs.Openings.{is_of-here, is_of-true}
use Rattle.smpland_reopening.specs.declared.roles.Roles.{Roles}
use Rattle.smpland_reopening.specs.Roles.{AreOfRoles, NamesRoles, cell_by_role, is_pair_before}
use Rattle.smpland_reopening.specs.RoleGrids.{role_at}

-- nothing is named yet
pub names_nothing : (roles : ℕ → ℕ → Option Role) → NamesRoles roles 0 0 []
names_nothing roles = record { true_ones = tt; all = λ t u before held. absurd (none_before t u before) }
  where
    none_before : (t u : ℕ) → is_pair_before t u 0 0 ≡ true → ⊥
    none_before t u h = grind (arith, nat_tests)

true_more : (roles : ℕ → ℕ → Option Role) (xs : List NamedCell) (y : NamedCell) → AreOfRoles roles xs → y.2 ≡ cell_by_role (roles y.0 y.1) → AreOfRoles roles (xs ++ y ∷ [])
true_more roles [] y h e = (e, tt)
true_more roles (x ∷ xs) y h e = (h.0, true_more roles xs y h.1 e)

any_first : (t u : ℕ) (xs : List NamedCell) (y : NamedCell) → list_any (is_of t u) xs ≡ true → list_any (is_of t u) (xs ++ y ∷ []) ≡ true
any_first t u xs y h = list_any-append (is_of t u) xs (y ∷ []) ∙ ap (λ b. b || list_any (is_of t u) (y ∷ [])) h

any_last : (t u : ℕ) (xs : List NamedCell) (y : NamedCell) → is_of t u y ≡ true → list_any (is_of t u) (xs ++ y ∷ []) ≡ true
any_last t u [] y h = ap (λ b. b || false) h
any_last t u (x ∷ xs) y h = or_true (is_of t u x) (any_last t u xs y h)
  where
    or_true : (a : Bool) {b : Bool} → b ≡ true → (a || b) ≡ true
    or_true true h = refl
    or_true false h = h

-- what comes before the next server of a shard
before_next : (t u s v : ℕ) → is_pair_before t u s (v + 1) ≡ true → ((t ≡ s) × (u ≡ v)) ⊎ (is_pair_before t u s v ≡ true)
before_next t u s v h = grind (arith, nat_tests)

-- the next one has no role
pub names_none : (roles : ℕ → ℕ → Option Role) (s v : ℕ) (xs : List NamedCell) → NamesRoles roles s v xs → roles s v ≡ None → NamesRoles roles s (v + 1) xs
names_none roles s v xs is none = record {
  true_ones = is.true_ones;
  all = λ t u before held. elim (before_next t u s v before) [
    | inl here ↦ absurd (true≢false (sym held ∙ ap (λ k. is_some (roles k u)) here.0 ∙ ap (λ k. is_some (roles s k)) here.1 ∙ ap is_some none))
    | inr there ↦ is.all t u there held
  ];
}

-- the next one has a role, and is named
pub names_some : (roles : ℕ → ℕ → Option Role) (s v : ℕ) (xs ys : List NamedCell) (y : NamedCell) → NamesRoles roles s v xs → ys ≡ xs ++ y ∷ [] → y.0 ≡ s → y.1 ≡ v →
    y.2 ≡ cell_by_role (roles s v) → NamesRoles roles s (v + 1) ys
names_some roles s v xs ys y is e shard server cell = subst (λ zs. NamesRoles roles s (v + 1) zs) (sym e) (record {
  true_ones = true_more roles xs y is.true_ones (cell ∙ ap (λ k. cell_by_role (roles k v)) (sym shard) ∙ ap (λ k. cell_by_role (roles y.0 k)) (sym server));
  all = λ t u before held. elim (before_next t u s v before) [
    | inl here ↦ any_last t u xs y (ap (λ k. is_of k u y) (here.0 ∙ sym shard) ∙ ap (λ k. is_of y.0 k y) (here.1 ∙ sym server) ∙ is_of-here y)
    | inr there ↦ any_first t u xs y (is.all t u there held)
  ];
})

-- a row is done
before_row : (t u s n : ℕ) → is_pair_before t u (s + 1) 0 ≡ true → (n ≤ u) ⊎ (is_pair_before t u s n ≡ true)
before_row t u s n h = grind (arith, nat_tests)

-- and the next shard begins
pub names_row : (roles : Roles) (s n : ℕ) (xs : List NamedCell) → roles.servers ≡ n → NamesRoles (role_at roles) s n xs → NamesRoles (role_at roles) (s + 1) 0 xs
names_row roles s n xs e is = record {
  true_ones = is.true_ones;
  all = λ t u before held. elim (before_row t u s n before) [
    | inl far ↦ absurd (true≢false (sym held ∙ ap is_some (grid_of-beside roles.servers None roles.list.items t u (rw e far))))
    | inr there ↦ is.all t u there held
  ];
}

named_true : (roles : ℕ → ℕ → Option Role) (t u : ℕ) (xs : List NamedCell) → AreOfRoles roles xs → list_any (is_of t u) xs ≡ true → cell_named xs t u ≡ cell_by_role (roles t u)
named_true roles t u [] h e = absurd (true≢false (sym e))
named_true roles t u (x ∷ xs) h e = by_test (is_of t u x) refl (λ any. named_true roles t u xs h.1 any)
  where
    by_test : (b : Bool) → is_of t u x ≡ b → (list_any (is_of t u) xs ≡ true → cell_named xs t u ≡ cell_by_role (roles t u)) → cell_named (x ∷ xs) t u ≡ cell_by_role (roles t u)
    by_test true is rest =
        let pair = is_of-true t u x is in
        rw is (h.0 ∙ ap (λ k. cell_by_role (roles k x.1)) pair.0 ∙ ap (λ k. cell_by_role (roles t k)) pair.1)
    by_test false is rest = rw is (rest (ap (λ b. b || list_any (is_of t u) xs) (sym is) ∙ e))

named_none : (t u : ℕ) (xs : List NamedCell) → list_any (is_of t u) xs ≡ false → cell_named xs t u ≡ Absent
named_none t u [] e = refl
named_none t u (x ∷ xs) e = by_test (is_of t u x) refl (λ none. named_none t u xs none)
  where
    by_test : (b : Bool) → is_of t u x ≡ b → (list_any (is_of t u) xs ≡ false → cell_named xs t u ≡ Absent) → cell_named (x ∷ xs) t u ≡ Absent
    by_test true is rest = absurd (true≢false (ap (λ b. b || list_any (is_of t u) xs) (sym is) ∙ e))
    by_test false is rest = rw is (rest (ap (λ b. b || list_any (is_of t u) xs) (sym is) ∙ e))

-- all pairs are done
pub names_all : (roles : Roles) (n : ℕ) (xs : List NamedCell) → roles.shards ≡ n → NamesRoles (role_at roles) n 0 xs → (s v : ℕ) → cell_named xs s v ≡ cell_by_role (role_at roles s v)
names_all roles n xs e is s v = by_named (list_any (is_of s v) xs) refl
  where
    has_none : (r : Option Role) → (is_some r ≡ true → ⊥) → cell_by_role r ≡ Absent
    has_none None h = refl
    has_none (Some r) h = absurd (h refl)

    is_late : is_pair_before s v n 0 ≡ false → n ≤ s
    is_late h = grind (arith, nat_tests)

    is_done : (b : Bool) → is_pair_before s v n 0 ≡ b → list_any (is_of s v) xs ≡ false → is_some (role_at roles s v) ≡ true → ⊥
    is_done true before none held = true≢false (sym (is.all s v before held) ∙ none)
    is_done false late none held = true≢false (sym held ∙ ap is_some (grid_of-below roles.servers roles.shards None roles.list.items s v roles.full (rw e (is_late late))))

    by_named : (b : Bool) → list_any (is_of s v) xs ≡ b → cell_named xs s v ≡ cell_by_role (role_at roles s v)
    by_named true any = named_true (role_at roles) s v xs is.true_ones any
    by_named false none = named_none s v xs none ∙ sym (has_none (role_at roles s v) (is_done (is_pair_before s v n 0) refl none))
