-- The law of exchange: where a call changes one cell and the hold of its maker changes with it, what there is of each
-- right moves as what is held of it does.
use Rattle.std.proofs.Common.{◌≡◌, ◌≢◌, ℕ, ◌+◌, ◌<◌, ◌≤◌, ◌∙◌, refl, false, not, ◌&&◌, ap, arith, inl, inr, Option, Some}
use Rattle.std.proofs.lemmas.Bool.{cases_eq, cases_lt}
use Rattle.sm_server.specs.declared.call.Cell.{Cell}
use Rattle.sm_server.specs.declared.call.Cell.TheVariants.{Absent}
use Rattle.sm_server.specs.Cell.{is_secondary}
use Rattle.sm_placement.specs.declared.lead.Lead.{Lead}
use Rattle.sm_placement.specs.Sums.{put, put2, bit}
use Rattle.sm_placement.specs.Setup.{Sizes}
use Rattle.sm_placement.specs.Rows.{live_in, serves}
use Rattle.sm_placement.specs.Place.{Place, weight, live_at, set_cell}
use Rattle.sm_placement.specs.Lead.{Describes, leader}
use Rattle.sm_placement.proofs.Sums.{sum_apart, put-apart, put2-here, put2-row}
use Rattle.sm_placement.proofs.Calls.{load_of-put, load_of-apart}
use Rattle.sm_placement.proofs.Leads.{up_if, secondaries, live_by_lead, leader_serves}
use Rattle.sm_reservation.specs.Hold.{Hold}
use Rattle.sm_reservation.specs.Amounts.{Right, OfCell, OfCrown, OfRoom, OfSpare, is_cell, is_crown, count, plain_of, stock, bound}
use Rattle.sm_reservation.proofs.Changes.{Changed, Changed2, put2_changed, mapped2, count_moves}

-- the secondaries of a shard after one of its cells has changed
pub secondaries-put : (c : Sizes) (p : Place) (s v : ℕ) (y : Cell) → v < c.servers → p.down v ≡ false →
    secondaries c (set_cell p s v y) s + bit (is_secondary (p.cells s v)) ≡ secondaries c p s + bit (is_secondary y)
secondaries-put c p s v y l up =
    sum_apart c.servers (λ u. bit (not (p.down u) && is_secondary (put2 p.cells s v y s u))) (λ u. bit (not (p.down u) && is_secondary (p.cells s u))) v _ _ l
    (λ u e. ap (λ x. bit (not (p.down u) && is_secondary x)) (put2-row p.cells s v y u e))
    (rw (put2-here p.cells s v y, up) (omega arith))

-- the live replicas of another shard
pub live_at-apart : (c : Sizes) (p : Place) (s v : ℕ) (y : Cell) (r : ℕ) → r ≢ s → live_at c (set_cell p s v y) r ≡ live_at c p r
live_at-apart c p s v y r e = ap (λ row. live_in c.servers row p.down) (put-apart p.cells s (put (p.cells s) v y) r e)

-- the live replicas of the shard itself, by its lead before and after
pub live_at-put : (c : Sizes) (p : Place) (s v : ℕ) (y : Cell) (lead lead' : Lead) (n n' : ℕ) → v < c.servers → p.down v ≡ false →
    Describes lead n (p.cells s) → Describes lead' n' ((set_cell p s v y).cells s) →
    ((x : ℕ) → leader lead ≡ Some x → x < c.servers) → ((x : ℕ) → leader lead' ≡ Some x → x < c.servers) →
    live_at c (set_cell p s v y) s + (bit (is_secondary (p.cells s v)) + up_if p.down (leader lead)) ≡ live_at c p s + (bit (is_secondary y) + up_if p.down (leader lead'))
live_at-put c p s v y lead lead' n n' l up d d' w w' =
    let a : live_at c p s ≡ secondaries c p s + up_if p.down (leader lead) = live_by_lead c p s n lead d w in
    let b : live_at c (set_cell p s v y) s ≡ secondaries c (set_cell p s v y) s + up_if p.down (leader lead') = live_by_lead c (set_cell p s v y) s n' lead' d' w' in
    let e : secondaries c (set_cell p s v y) s + bit (is_secondary (p.cells s v)) ≡ secondaries c p s + bit (is_secondary y) = secondaries-put c p s v y l up in
    omega arith

-- the server that serves under a lead is one of those that have cells
pub leader_known : (lead : Lead) (n : ℕ) (row : ℕ → Cell) (servers : ℕ) → Describes lead n row → ((v : ℕ) → servers ≤ v → row v ≡ Absent) → (x : ℕ) → leader lead ≡ Some x → x < servers
leader_known lead n row servers d out x e = elim (cases_lt x servers) [
  | inl l ↦ l
  | inr l ↦ absurd (let serving = (leader_serves lead n row d x e).0 in let plain : serves row x ≡ false = rw (out x l) refl in cc)
]

-- a cell that changes below the count of servers leaves nothing beyond it
pub none_beyond-put : (c : Sizes) (p : Place) (s v : ℕ) (y : Cell) → v < c.servers → ((q : ℕ) → c.servers ≤ q → p.cells s q ≡ Absent) → (q : ℕ) → c.servers ≤ q → (set_cell p s v y).cells s q ≡ Absent
none_beyond-put c p s v y l out q m = put2-row p.cells s v y q (λ e. absurd (omega arith)) ∙ out q m

-- the shard and the server of a call are known, the server is up, and a lead describes the shard's cells
pub record Stands (c : Sizes) (p : Place) (leads : ℕ → Lead) (s v n : ℕ) : Type 0 where
  pub in_shards : s < c.shards
  pub in_servers : v < c.servers
  pub up : p.down v ≡ false
  pub was : Describes (leads s) n (p.cells s)
  pub no_server : (q : ℕ) → c.servers ≤ q → p.cells s q ≡ Absent

-- The change of a call in one shard, from the hold h to the hold h': the cell of s at v becomes y, and the lead of s
-- becomes lead'.
pub record Moves (c : Sizes) (p : Place) (leads : ℕ → Lead) (h h' : Hold) (s v : ℕ) (y : Cell) (lead' : Lead) (n n' : ℕ) : Type 0 where
  pub stands : Stands c p leads s v n
  pub is : Describes lead' n' ((set_cell p s v y).cells s)
  pub right_was : h.cells s v ≡ plain_of (p.cells s v)
  pub right_is : Changed2 h.cells h'.cells s v (plain_of y)
  pub crown_moves : (r : ℕ) (lead : Lead) (l : Option ℕ) →
      bit (is_crown lead l (Some (put leads s lead' r, p.listed r))) + bit (is_crown lead l (h.crowns r))
      ≡ bit (is_crown lead l (Some (leads r, p.listed r))) + bit (is_crown lead l (h'.crowns r))
  pub room_moves : Changed h.room h'.room v (h'.room v)
  pub room_here : h'.room v + weight y (c.load s) ≡ h.room v + weight (p.cells s v) (c.load s)
  pub spare_moves : Changed h.spare h'.spare s (h'.spare s)
  pub spare_here : h'.spare s + (bit (is_secondary (p.cells s v)) + up_if p.down (leader (leads s))) ≡ h.spare s + (bit (is_secondary y) + up_if p.down (leader lead'))

-- what there is of each right moves as what is bound of it and what is held of it do together
pub exchange : (c : Sizes) (p : Place) (leads : ℕ → Lead) (h h' : Hold) (s v : ℕ) (y : Cell) (lead' : Lead) (n n' : ℕ) → Moves c p leads h h' s v y lead' n n' →
    (r : Right) → stock c (set_cell p s v y) (put leads s lead') r + bound c p r + count h r ≡ stock c p leads r + bound c (set_cell p s v y) r + count h' r
exchange c p leads h h' s v y lead' n n' m (OfCell r q state) =
    let e : bit (is_cell state (plain_of (put2 p.cells s v y r q))) + bit (is_cell state (h.cells r q)) ≡ bit (is_cell state (plain_of (p.cells r q))) + bit (is_cell state (h'.cells r q)) =
    count_moves (is_cell state) h.cells h'.cells (λ r q. plain_of (p.cells r q)) (λ r q. plain_of (put2 p.cells s v y r q)) s v (plain_of y) m.right_was m.right_is
    (mapped2 plain_of p.cells (put2 p.cells s v y) s v y (put2_changed p.cells s v y)) r q in
    omega arith
exchange c p leads h h' s v y lead' n n' m (OfCrown r lead l) = let e = m.crown_moves r lead l in omega arith
exchange c p leads h h' s v y lead' n n' m (OfRoom q) = elim (cases_eq q v) [
  | inl e ↦ rw e (let a = load_of-put c p.cells s v y m.stands.in_shards in let b = m.room_here in omega arith)
  | inr e ↦ let a = load_of-apart c p.cells s v y q e in let b = m.room_moves.apart q e in omega arith
]
exchange c p leads h h' s v y lead' n n' m (OfSpare r) = elim (cases_eq r s) [
  | inl e ↦ rw e (let a = live_at-put c p s v y (leads s) lead' n n' m.stands.in_servers m.stands.up m.stands.was m.is
      (leader_known (leads s) n (p.cells s) c.servers m.stands.was m.stands.no_server)
      (leader_known lead' n' ((set_cell p s v y).cells s) c.servers m.is (none_beyond-put c p s v y m.stands.in_servers m.stands.no_server)) in let b = m.spare_here in omega arith)
  | inr e ↦ let a = live_at-apart c p s v y r e in let b = m.spare_moves.apart r e in omega arith
]
