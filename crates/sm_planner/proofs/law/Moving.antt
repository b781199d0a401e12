-- The instructions of one move, where its rights and the room for its load are held.
use Rattle.std.proofs.Common.{◌≡◌, ◌≢◌, ℕ, ◌+◌, ◌-◌, ◌≤◌, true, false, Option, Some, None, Ok, List, [], ◌∷◌, ◌++◌, refl, sym, ap, ◌∙◌, arith, inl, inr}
use Rattle.std.specs.Prelude.{not}
use Rattle.std.proofs.lemmas.Bool.{cases_Bool, cases_eq, eq-eqb, ne_eqb, le-leb, both_ways}
use Rattle.sm_server.specs.declared.call.Role.TheVariants as role
use Rattle.sm_server.specs.Cell.{is_primary}
use Rattle.sm_placement.specs.declared.lead.Lead.TheVariants.{At, Ready, Handing, Handed}
use Rattle.sm_placement.specs.Setup.{Sizes}
use Rattle.sm_placement.specs.Place.{Place}
use Rattle.sm_placement.specs.Sums.{put, put2}
use Rattle.sm_placement.proofs.Sums.{put-here, put-apart, put2-here, put2-row, put2-apart}
use Rattle.sm_reservation.specs.declared.right.PlainCell.{PlainCell}
use Rattle.sm_reservation.specs.declared.right.PlainCell.TheVariants.{Absent, Secondary}
use Rattle.sm_reservation.specs.Rights.{Rights}
use Rattle.sm_reservation.specs.Hold.{Hold, with_cell, with_crown, pay_room, get_room, pay_spare, get_spare}
use Rattle.sm_reservation.specs.Amounts.{same_listed}
use Rattle.sm_plan_code.specs.declared.instruction.Instr.{Instr}
use Rattle.sm_plan_code.specs.declared.instruction.Instr.TheVariants.{PrepareAdd, PrepareDrop, Add, Drop, Publish}
use Rattle.sm_plan_code.specs.After.{listed_of, is_not_listed, after}
use Rattle.sm_plan_code.specs.declared.moves.Move.{Move}
use Rattle.sm_planner.specs.Basis.{left_cell}
use Rattle.sm_planner.specs.Plan.{publication, handing_over, instructions}
use Rattle.sm_planner.proofs.law.Leading.{Leads}

-- ---- one instruction

module _ (c : Sizes) (signals : ℕ → Rights) where
  added : (s v : ℕ) (h : Hold) → h.cells s v ≡ Some Absent → c.load s ≤ h.room v → after c signals (Add s v role.Secondary) h ≡ Ok (get_spare (pay_room (with_cell h s v (Some Secondary)) v (c.load s)) s 1)
  added s v h absent room = rw (absent, le-leb (c.load s) (h.room v) room) refl

  dropped : (s u : ℕ) (h : Hold) → h.cells s u ≡ Some Secondary → 1 ≤ h.spare s → after c signals (Drop s u) h ≡ Ok (get_room (pay_spare (with_cell h s u (Some Absent)) s 1) u (c.load s))
  dropped s u h secondary spare = rw (secondary, le-leb 1 (h.spare s) spare) refl

  prepared : (s u v : ℕ) (h : Hold) (listed : Option ℕ) → h.crowns s ≡ Some (At u, listed) → h.cells s v ≡ Some Absent → c.load s ≤ h.room v → after c signals (PrepareAdd s v u) h ≡ Ok (pay_room (with_cell (with_crown h s (Ready u v) listed) s v None) v (c.load s))
  prepared s u v h listed crown absent room = rw (crown, absent, eq-eqb u u refl, le-leb (c.load s) (h.room v) room) refl

  forwarded : (s u v : ℕ) (h : Hold) (listed : Option ℕ) → h.crowns s ≡ Some (Ready u v, listed) → after c signals (PrepareDrop s u v) h ≡ Ok (with_crown h s (Handing u v) listed)
  forwarded s u v h listed crown = rw (crown, eq-eqb u u refl, eq-eqb v v refl) refl

  handed_over : (s u v : ℕ) (h : Hold) (listed : Option ℕ) → h.crowns s ≡ Some (Handing u v, listed) → after c signals (Add s v role.Primary) h ≡ Ok (with_crown h s (Handed u v) listed)
  handed_over s u v h listed crown =
      let same : listed_of (h.crowns s) ≡ listed = rw crown refl in
      rw (crown, eq-eqb v v refl) (ap (λ o. Ok (with_crown h s (Handed u v) o)) same)

  published : (s u v : ℕ) (h : Hold) (listed : Option ℕ) → h.crowns s ≡ Some (Handed u v, listed) → after c signals (Publish s) h ≡ Ok (with_crown h s (Handed u v) (Some v))
  published s u v h listed crown = rw crown refl

  given_up : (s u v : ℕ) (h : Hold) (listed : Option ℕ) → h.cells s u ≡ None → h.crowns s ≡ Some (Handed u v, listed) → not (same_listed listed (Some u)) ≡ true → after c signals (Drop s u) h ≡ Ok (get_room (with_cell (with_crown h s (At v) listed) s u (Some Absent)) u (c.load s))
  given_up s u v h listed none crown unlisted =
      let same : listed_of (h.crowns s) ≡ listed = rw crown refl in
      let passes : is_not_listed h s u ≡ true = rw crown unlisted in
      rw (none, crown, eq-eqb u u refl, passes) (ap (λ o. Ok (get_room (with_cell (with_crown h s (At v) o) s u (Some Absent)) u (c.load s))) same)

-- ---- one move

-- the rights that a move needs are held
pub record IsReady (p : Place) (m : Move) (h : Hold) : Type 0 where
  pub absent : h.cells m.shard m.to ≡ Some Absent
  pub secondary : is_primary (left_cell p m) ≡ false → h.cells m.shard m.from ≡ Some Secondary
  pub crown : is_primary (left_cell p m) ≡ true → h.crowns m.shard ≡ Some (At m.from, p.listed m.shard)
  pub no_right : is_primary (left_cell p m) ≡ true → h.cells m.shard m.from ≡ None

-- whom the map names once a primary has gone
abbrev pub named_after : Option ℕ → ℕ → Option ℕ
named_after None v = None
named_after (Some u) v = Some v

-- the rights that a move leaves
pub record IsMoved (p : Place) (m : Move) (g : Hold) : Type 0 where
  pub from : g.cells m.shard m.from ≡ Some Absent
  pub secondary : is_primary (left_cell p m) ≡ false → g.cells m.shard m.to ≡ Some Secondary
  pub crown : is_primary (left_cell p m) ≡ true → g.crowns m.shard ≡ Some (At m.to, named_after (p.listed m.shard) m.to)
  pub no_right : is_primary (left_cell p m) ≡ true → g.cells m.shard m.to ≡ None

-- what a move changes of a hold: the cells and the crown of its own, and its load's room
pub record IsStep (c : Sizes) (p : Place) (m : Move) (h g : Hold) : Type 0 where
  pub moved : IsMoved p m g
  pub apart : m.to ≢ m.from
  pub cells : (s v : ℕ) → (m.shard ≡ s → m.to ≢ v) → (m.shard ≡ s → m.from ≢ v) → g.cells s v ≡ h.cells s v
  pub crowns : (s : ℕ) → (is_primary (left_cell p m) ≡ true → m.shard ≢ s) → g.crowns s ≡ h.crowns s
  pub room : g.room ≡ put (put h.room m.to (h.room m.to - c.load m.shard)) m.from (h.room m.from + c.load m.shard)

cell_apart : (f : ℕ → ℕ → Option PlainCell) (s v : ℕ) (o : Option PlainCell) (t w : ℕ) → (s ≡ t → v ≢ w) → put2 f s v o t w ≡ f t w
cell_apart f s v o t w apart = elim (cases_eq t s) [
  | inl same ↦ elim (cases_eq w v) [
    | inl here ↦ absurd (apart (sym same) (sym here))
    | inr other ↦ rw same (put2-row f s v o w other)
  ]
  | inr other ↦ put2-apart f s v o t w other
]

two_cells_apart : (f : ℕ → ℕ → Option PlainCell) (s v u : ℕ) (o x : Option PlainCell) (t w : ℕ) → (s ≡ t → v ≢ w) → (s ≡ t → u ≢ w) → put2 (put2 f s v o) s u x t w ≡ f t w
two_cells_apart f s v u o x t w apart other = cell_apart (put2 f s v o) s u x t w other ∙ cell_apart f s v o t w apart

module _ (c : Sizes) (signals : ℕ → Rights) (p : Place) (m : Move) (h : Hold) (ready : IsReady p m h) (enough : c.load m.shard ≤ h.room m.to) where
  abbrev s : ℕ
  s = m.shard

  abbrev w : ℕ
  w = c.load m.shard

  abbrev Done : List Instr → Type 0
  Done code = (g : Hold) × Leads c signals h code g × IsStep c p m h g

  move_secondary : is_primary (left_cell p m) ≡ false → Done (Add s m.to role.Secondary ∷ Drop s m.from ∷ [])
  move_secondary other =
      let old : h.cells s m.from ≡ Some Secondary = ready.secondary other in
      let apart : m.to ≢ m.from = λ e. (let same = sym ready.absent ∙ ap (h.cells s) e ∙ old in absurd cc) in
      let g : Hold = get_spare (pay_room (with_cell h s m.to (Some Secondary)) m.to w) s 1 in
      let there : g.cells s m.from ≡ Some Secondary = put2-row h.cells s m.to (Some Secondary) m.from (λ e. apart (sym e)) ∙ old in
      let spare : g.spare s ≡ h.spare s + 1 = put-here h.spare s (h.spare s + 1) s refl in
      let room_there : g.room m.from ≡ h.room m.from = put-apart h.room m.to (h.room m.to - w) m.from (λ e. apart (sym e)) in
      let g2 : Hold = get_room (pay_spare (with_cell g s m.from (Some Absent)) s 1) m.from w in (
        g2,
        (g, added c signals s m.to h ready.absent enough, (g2, dropped c signals s m.from g there (omega arith), refl)),
        record {
          moved = record {
            from = put2-here g.cells s m.from (Some Absent);
            secondary = λ e. put2-row g.cells s m.from (Some Absent) m.to apart ∙ put2-here h.cells s m.to (Some Secondary);
            crown = λ e. absurd (both_ways (is_primary (left_cell p m)) other e);
            no_right = λ e. absurd (both_ways (is_primary (left_cell p m)) other e);
          };
          apart = apart;
          cells = λ t v one two. two_cells_apart h.cells s m.to m.from (Some Secondary) (Some Absent) t v one two;
          crowns = λ t other. refl;
          room = ap (λ n. put (put h.room m.to (h.room m.to - w)) m.from (n + w)) room_there;
        },
      )

  -- where the new primary stands and the map is told, the old one is dropped
  drop_primary : is_primary (left_cell p m) ≡ true → (before : Hold) (listed : Option ℕ) → before.cells ≡ put2 h.cells s m.to None → before.room ≡ put h.room m.to (h.room m.to - w) →
      before.crowns s ≡ Some (Handed m.from m.to, listed) → ((t : ℕ) → t ≢ s → before.crowns t ≡ h.crowns t) → not (same_listed listed (Some m.from)) ≡ true → listed ≡ named_after (p.listed s) m.to →
      (g : Hold) × (after c signals (Drop s m.from) before ≡ Ok g) × IsStep c p m h g
  drop_primary primary before listed cells room crown crowns unlisted named =
      let none : h.cells s m.from ≡ None = ready.no_right primary in
      let apart : m.to ≢ m.from = λ e. (let same = sym ready.absent ∙ ap (h.cells s) e ∙ none in absurd cc) in
      let there : before.cells s m.from ≡ None = ap (λ (f : ℕ → ℕ → Option PlainCell). f s m.from) cells ∙ put2-row h.cells s m.to None m.from (λ e. apart (sym e)) ∙ none in
      let room_there : before.room m.from ≡ h.room m.from = ap (λ (f : ℕ → ℕ). f m.from) room ∙ put-apart h.room m.to (h.room m.to - w) m.from (λ e. apart (sym e)) in
      let g : Hold = get_room (with_cell (with_crown before s (At m.to) listed) s m.from (Some Absent)) m.from w in (
        g,
        given_up c signals s m.from m.to before listed there crown unlisted,
        record {
          moved = record {
            from = put2-here before.cells s m.from (Some Absent);
            secondary = λ e. absurd (both_ways (is_primary (left_cell p m)) e primary);
            crown = λ e. put-here before.crowns s (Some (At m.to, listed)) s refl ∙ ap (λ o. Some (At m.to, o)) named;
            no_right = λ e. put2-row before.cells s m.from (Some Absent) m.to apart ∙ ap (λ (f : ℕ → ℕ → Option PlainCell). f s m.to) cells ∙ put2-here h.cells s m.to None;
          };
          apart = apart;
          cells = λ t v one two. ap (λ (f : ℕ → ℕ → Option PlainCell). put2 f s m.from (Some Absent) t v) cells ∙ two_cells_apart h.cells s m.to m.from None (Some Absent) t v one two;
          crowns = λ t other. put-apart before.crowns s (Some (At m.to, listed)) t (λ e. other primary (sym e)) ∙ crowns t (λ e. other primary (sym e));
          room = ap (λ n. put before.room m.from (n + w)) room_there ∙ ap (λ (f : ℕ → ℕ). put f m.from (h.room m.from + w)) room;
        },
      )

  move_primary : is_primary (left_cell p m) ≡ true → (o : Option ℕ) → p.listed s ≡ o → Done (handing_over o m)
  move_primary primary o is =
      let crown : h.crowns s ≡ Some (At m.from, o) = ready.crown primary ∙ ap (λ l. Some (At m.from, l)) is in
      let one : Hold = pay_room (with_cell (with_crown h s (Ready m.from m.to) o) s m.to None) m.to w in
      let two : Hold = with_crown one s (Handing m.from m.to) o in
      let three : Hold = with_crown two s (Handed m.from m.to) o in
      let first : one.crowns s ≡ Some (Ready m.from m.to, o) = put-here h.crowns s (Some (Ready m.from m.to, o)) s refl in
      let second : two.crowns s ≡ Some (Handing m.from m.to, o) = put-here one.crowns s (Some (Handing m.from m.to, o)) s refl in
      let third : three.crowns s ≡ Some (Handed m.from m.to, o) = put-here two.crowns s (Some (Handed m.from m.to, o)) s refl in
      let others : (t : ℕ) → t ≢ s → three.crowns t ≡ h.crowns t = λ t other. put-apart two.crowns s (Some (Handed m.from m.to, o)) t other ∙ put-apart one.crowns s (Some (Handing m.from m.to, o)) t other ∙ put-apart h.crowns s (Some (Ready m.from m.to, o)) t other in
      let rest = last o is three refl refl third others in (
        rest.0,
        (
          one,
          prepared c signals s m.from m.to h o crown ready.absent enough,
          (
            two,
            forwarded c signals s m.from m.to one o first,
            (three, handed_over c signals s m.from m.to two o second, rest.1),
          ),
        ),
        rest.2,
      )
    where
      apart : m.to ≢ m.from
      apart e = let same = sym ready.absent ∙ ap (h.cells s) e ∙ ready.no_right primary in absurd cc

      last : (o : Option ℕ) → p.listed s ≡ o → (before : Hold) → before.cells ≡ put2 h.cells s m.to None → before.room ≡ put h.room m.to (h.room m.to - w) →
          before.crowns s ≡ Some (Handed m.from m.to, o) → ((t : ℕ) → t ≢ s → before.crowns t ≡ h.crowns t) → (g : Hold) × Leads c signals before (publication o s ++ Drop s m.from ∷ []) g × IsStep c p m h g
      last None is before cells room crown crowns =
          let end = drop_primary primary before None cells room crown crowns refl (ap (λ l. named_after l m.to) (sym is)) in
          (end.0, (end.0, end.1, refl), end.2)
      last (Some x) is before cells room crown crowns =
          let told : Hold = with_crown before s (Handed m.from m.to) (Some m.to) in
          let end = drop_primary primary told (Some m.to) cells room
          (put-here before.crowns s (Some (Handed m.from m.to, Some m.to)) s refl)
          (λ t other. put-apart before.crowns s (Some (Handed m.from m.to, Some m.to)) t other ∙ crowns t other)
          (rw (ne_eqb m.to m.from apart) refl)
          (ap (λ l. named_after l m.to) (sym is)) in
          (end.0, (told, published c signals s m.from m.to before (Some x) crown, (end.0, end.1, refl)), end.2)

  -- the instructions of the move can all be made, and leave what is held once it is made
  pub makes_the_move : Done (instructions p m)
  makes_the_move = elim (cases_Bool (is_primary (left_cell p m))) [
    | inl primary ↦ rw primary (move_primary primary (p.listed s) refl)
    | inr other ↦ rw other (move_secondary other)
  ]
