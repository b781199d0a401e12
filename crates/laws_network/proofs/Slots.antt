-- Acts of servers keep the fleet as its shade: changes of a slot that nothing else sees, lost memory, and restores.
use Rattle.std.proofs.Common.{◌≡◌, ◌≢◌, ℕ, zero, suc, ◌≤◌, ◌<◌, ◌⊎◌, refl, sym, ap, ◌∙◌, inl, inr, subst, arith, not, Bool, true, false, Option, Some, None, List, [], ◌∷◌, ◌++◌, length}
use Rattle.std.specs.Prelude.{◌==◌, ◌&&◌, if◌then◌else◌, nat_lt, slice_get}
use Rattle.std.proofs.Math.Path.{fun_ext}
use Rattle.std.proofs.lemmas.Bool.{and_parts, cases_eq, eq-eqb, eqb-true, ne_eqb}
use Rattle.sm_placement.specs.Setup.{Setup}
use Rattle.sm_placement.specs.Sums.{put}
use Rattle.sm_protocol.proofs.Courses.{some_same}
use Rattle.sm_agent.specs.declared.base.Base.{Base}
use Rattle.sm_agent.specs.declared.base.Reception.{Reception}
use Rattle.sm_agent.specs.declared.base.Reception.TheVariants as reception
use Rattle.sm_agent.specs.declared.slot.Slot.{Slot}
use Rattle.sm_agent.specs.Base.{forgotten, is_meant, lacks_slots, restored}
use Rattle.sm_agent.specs.Order.{cell_load, placed, vacant}
use Rattle.laws_network.specs.Words.{Cell}
use Rattle.laws_network.specs.WorldLaws.{IsWorldReached}
use Rattle.laws_network.specs.Controller.{Controller, Restore}
use Rattle.laws_network.specs.Fleet.{Fleet, Server, after_loss, after_reception, after_restore, controller, held_cells, with_slot}
use Rattle.laws_network.specs.FleetLaws.{HasAskedUnder}
use Rattle.laws_network.proofs.Behind.{IsBehind}
use Rattle.laws_network.proofs.Lists.{all_map}
use Rattle.laws_network.proofs.Onward.{slice_get_push}
use Rattle.laws_network.proofs.Shadow.{IsKnownServer, IsRestore, IsShadow, world_by}

-- what holds of the new value, and of the old one elsewhere, holds of a function that was changed at one place
pub put_elim : {A : Type 0} (P : A → Type 0) (f : ℕ → A) (k : ℕ) (x : A) (q : ℕ) → (q ≡ k → P x) → (q ≢ k → P (f q)) → P (put f k x q)
put_elim P f k x q here there = elim (cases_eq q k) [
  | inl e ↦ subst (λ b. P (if b then x else f q)) (sym (eq-eqb q k e)) (here e)
  | inr e ↦ subst (λ b. P (if b then x else f q)) (sym (ne_eqb q k e)) (there e)
]

-- the cell that a server has, or had
abbrev pub held_by : Server → Cell → ℕ → Cell
held_by server had s = if lacks_slots server.base then had else (server.slots s).cell

-- a restore tells what it told, if its server has the same nonce or none, the same cells, and last numbers that are no higher
pub restore_kept : (c : Controller) (f new : Fleet) (last above : ℕ → ℕ → ℕ) (r : Restore) → IsRestore c f last r → ((v nonce : ℕ) → HasAskedUnder f.asks v nonce → HasAskedUnder new.asks v nonce) →
    ((server : ℕ) → HasAskedUnder f.asks server r.restoration.nonce → (new.servers server).base.nonce ≡ Some r.restoration.nonce →
    ((f.servers server).base.nonce ≡ Some r.restoration.nonce) × ((s : ℕ) → (held_cells new s server ≡ held_cells f s server) × (above s server ≤ last s server))) →
    IsRestore c new above r
restore_kept c f new last above r k more same = record {
  journal = k.journal;
  fence = k.fence;
  number = k.number;
  loads = k.loads;
  server = k.server;
  asked = more k.server r.restoration.nonce k.asked;
  behind = k.behind;
  cells = λ h s. let a = same k.server k.asked h in let b = k.cells a.0 s in let d = a.1 s in (b.0 ∙ sym d.0, (let p = b.1 in let q = d.1 in omega arith));
}

-- ---- a slot that nothing else sees

-- a server's slots have the same cells, last numbers and loads
pub record IsLike (old new : ℕ → Slot) : Type 0 where
  pub cells : (s : ℕ) → (new s).cell ≡ (old s).cell
  pub lasts : (s : ℕ) → (new s).last ≡ (old s).last
  pub loads : (s : ℕ) → (new s).load ≡ (old s).load

-- a server with other slots
abbrev pub with_slots : Fleet → ℕ → (ℕ → Slot) → Fleet
with_slots f v slots = record f { servers = put f.servers v (record { base = (f.servers v).base; slots = slots }) }

held_alike : (f : Fleet) (v : ℕ) (slots : ℕ → Slot) → IsLike (f.servers v).slots slots → (s u : ℕ) → held_cells (with_slots f v slots) s u ≡ held_cells f s u
held_alike f v slots like s u = put_elim (λ (server : Server). held_by server (f.had s u) s ≡ held_cells f s u) f.servers v (record { base = (f.servers v).base; slots = slots }) u
    (λ e. ap (λ c. if lacks_slots (f.servers v).base then f.had s u else c) (like.cells s) ∙ ap (λ w. held_by (f.servers w) (f.had s u) s) (sym e))
    (λ e. refl)

-- such slots keep the fleet as its shade
pub slots_shadow : (setup : Setup) (low : ℕ → ℕ → ℕ) (f : Fleet) (k : IsShadow setup low f) (v : ℕ) (slots : ℕ → Slot) → IsLike (f.servers v).slots slots → IsShadow setup low (with_slots f v slots)
slots_shadow setup low f k v slots like = record {
  shade = k.shade;
  reached = subst (λ cells. IsWorldReached setup (world_by (controller f) cells f.shown k.shade)) (sym (fun_ext (λ s. fun_ext (λ u. held_alike f v slots like s u)))) k.reached;
  above = k.above;
  sizes = k.sizes;
  start = k.start;
  fence = k.fence;
  owner = k.owner;
  sent = k.sent;
  answers = k.answers;
  published = k.published;
  stored = k.stored;
  passes = k.passes;
  letters = k.letters;
  notices = k.notices;
  servers = λ u. put_elim (λ (server : Server). lacks_slots server.base ≡ false → IsKnownServer (controller f) u server (λ s. k.shade.last s u)) f.servers v (record { base = (f.servers v).base; slots = slots }) u
      (λ e h. own u e h) (λ e h. k.servers u h);
  asked = λ u nonce. put_elim (λ (server : Server). server.base.nonce ≡ Some nonce → HasAskedUnder f.asks u nonce) f.servers v (record { base = (f.servers v).base; slots = slots }) u
      (λ e h. subst (λ w. HasAskedUnder f.asks w nonce) (sym e) (k.asked v nonce h)) (λ e h. k.asked u nonce h);
  restores = all_map (IsRestore (controller f) f k.shade.last) (IsRestore (controller f) (with_slots f v slots) k.shade.last) (controller f).restores
      (λ r h. restore_kept (controller f) f (with_slots f v slots) k.shade.last k.shade.last r h (λ u n a. a)
      (λ u a. put_elim (λ (server : Server). server.base.nonce ≡ Some r.restoration.nonce → ((f.servers u).base.nonce ≡ Some r.restoration.nonce) × ((s : ℕ) → (held_cells (with_slots f v slots) s u ≡ held_cells f s u) × (k.shade.last s u ≤ k.shade.last s u)))
      f.servers v (record { base = (f.servers v).base; slots = slots }) u
      (λ e q. (ap (λ w. (f.servers w).base.nonce) e ∙ q, λ s. (held_alike f v slots like s u, omega arith)))
      (λ e q. (q, λ s. (held_alike f v slots like s u, omega arith))))) k.restores;
}
  where
    own : (u : ℕ) → u ≡ v → lacks_slots (f.servers v).base ≡ false → IsKnownServer (controller f) u (record { base = (f.servers v).base; slots = slots }) (λ s. k.shade.last s u)
    own u e h = subst (λ w. IsKnownServer (controller f) w (record { base = (f.servers v).base; slots = slots }) (λ s. k.shade.last s w)) (sym e) (
        let o = k.servers v h in record {
          journal = o.journal;
          taken = o.taken;
          fence = o.fence;
          number = o.number;
          lasts = λ s. subst (λ m. ((((f.servers v).base.number < m) × (k.shade.last s v ≡ m)) ⊎ ((m ≤ (f.servers v).base.number) × (k.shade.last s v ≤ (f.servers v).base.number)))) (sym (like.lasts s)) (o.lasts s);
          loads = λ s. like.loads s ∙ (o.loads s ∙ ap (λ c. cell_load c ((controller f).w.sizes.load s)) (sym (like.cells s)));
          behind = o.behind;
        })

-- a slot that nothing else sees keeps the fleet as its shade
pub slot_shadow : (setup : Setup) (low : ℕ → ℕ → ℕ) (f : Fleet) (k : IsShadow setup low f) (s v : ℕ) (slot : Slot) → slot.cell ≡ ((f.servers v).slots s).cell → slot.last ≡ ((f.servers v).slots s).last →
    slot.load ≡ ((f.servers v).slots s).load → IsShadow setup low (with_slot f s v slot)
slot_shadow setup low f k s v slot cell last load = slots_shadow setup low f k v (put (f.servers v).slots s slot) (record {
  cells = λ r. put_elim (λ (x : Slot). x.cell ≡ ((f.servers v).slots r).cell) (f.servers v).slots s slot r (λ e. cell ∙ ap (λ q. ((f.servers v).slots q).cell) (sym e)) (λ e. refl);
  lasts = λ r. put_elim (λ (x : Slot). x.last ≡ ((f.servers v).slots r).last) (f.servers v).slots s slot r (λ e. last ∙ ap (λ q. ((f.servers v).slots q).last) (sym e)) (λ e. refl);
  loads = λ r. put_elim (λ (x : Slot). x.load ≡ ((f.servers v).slots r).load) (f.servers v).slots s slot r (λ e. load ∙ ap (λ q. ((f.servers v).slots q).load) (sym e)) (λ e. refl);
})

-- ---- memory that is lost

-- one of two servers that asked under one nonce is the other
pub one_asker : (asks : List ℕ) (u v nonce : ℕ) → HasAskedUnder asks u nonce → HasAskedUnder asks v nonce → u ≡ v
one_asker asks u v nonce a b =
    let same : a.0 ≡ b.0 = (let p = a.1 in let q = b.1 in omega arith) in
    some_same u v (sym a.2 ∙ (ap (slice_get asks) same ∙ b.2))

asked_more : (asks more : List ℕ) (v nonce : ℕ) → HasAskedUnder asks v nonce → HasAskedUnder (asks ++ more) v nonce
asked_more asks more v nonce a = (a.0, a.1, get_more asks a.0 a.2)
  where
    get_more : (zs : List ℕ) (k : ℕ) → slice_get zs k ≡ Some v → slice_get (zs ++ more) k ≡ Some v
    get_more [] k e = absurd (cc)
    get_more (z ∷ zs) zero e = e
    get_more (z ∷ zs) (suc k) e = get_more zs k e

-- no server has asked under a nonce that is made only now
never_asked : (asks : List ℕ) (v : ℕ) → HasAskedUnder asks v (suc (length asks)) → ⊥
never_asked asks v a = past asks a.0 (let p = a.1 in omega arith) a.2
  where
    past : (zs : List ℕ) (k : ℕ) → length zs ≤ k → slice_get zs k ≡ Some v → ⊥
    past [] k l e = absurd (cc)
    past (z ∷ zs) zero l e = absurd (omega arith)
    past (z ∷ zs) (suc k) l e = past zs k (omega arith) e

held_lost : (f : Fleet) (v s u : ℕ) → held_cells (after_loss f v) s u ≡ held_cells f s u
held_lost f v s u = put_elim (λ (server : Server). held_by server (held_cells f s u) s ≡ held_cells f s u) f.servers v (record { base = forgotten (suc (length f.asks)); slots = λ s. vacant }) u
    (λ e. refl)
    (λ e. go (lacks_slots (f.servers u).base) refl)
  where
    go : (b : Bool) → lacks_slots (f.servers u).base ≡ b → (if b then held_cells f s u else ((f.servers u).slots s).cell) ≡ held_cells f s u
    go true q = refl
    go false q = ap (λ b. if b then f.had s u else ((f.servers u).slots s).cell) (sym q)

-- a server that forgets leaves the shade as it is
pub loss_shadow : (setup : Setup) (low : ℕ → ℕ → ℕ) (f : Fleet) (k : IsShadow setup low f) (v : ℕ) → IsShadow setup low (after_loss f v)
loss_shadow setup low f k v = record {
  shade = k.shade;
  reached = subst (λ cells. IsWorldReached setup (world_by (controller f) cells f.shown k.shade)) (sym (fun_ext (λ s. fun_ext (λ u. held_lost f v s u)))) k.reached;
  above = k.above;
  sizes = k.sizes;
  start = k.start;
  fence = k.fence;
  owner = k.owner;
  sent = k.sent;
  answers = k.answers;
  published = k.published;
  stored = k.stored;
  passes = k.passes;
  letters = k.letters;
  notices = k.notices;
  servers = λ u. put_elim (λ (server : Server). lacks_slots server.base ≡ false → IsKnownServer (controller f) u server (λ s. k.shade.last s u)) f.servers v empty u
      (λ e h. absurd (cc)) (λ e h. k.servers u h);
  asked = λ u nonce. put_elim (λ (server : Server). server.base.nonce ≡ Some nonce → HasAskedUnder (f.asks ++ v ∷ []) u nonce) f.servers v empty u
      (λ e h. (length f.asks, sym (some_same (suc (length f.asks)) nonce h), subst (λ w. slice_get (f.asks ++ v ∷ []) (length f.asks) ≡ Some w) (sym e) (slice_get_push f.asks v)))
      (λ e h. asked_more f.asks (v ∷ []) u nonce (k.asked u nonce h));
  restores = all_map (IsRestore (controller f) f k.shade.last) (IsRestore (controller f) (after_loss f v) k.shade.last) (controller f).restores
      (λ r h. restore_kept (controller f) f (after_loss f v) k.shade.last k.shade.last r h (λ u n a. asked_more f.asks (v ∷ []) u n a)
      (λ u a. put_elim (λ (server : Server). server.base.nonce ≡ Some r.restoration.nonce → ((f.servers u).base.nonce ≡ Some r.restoration.nonce) × ((s : ℕ) → (held_cells (after_loss f v) s u ≡ held_cells f s u) × (k.shade.last s u ≤ k.shade.last s u)))
      f.servers v empty u
      (λ e q. absurd (never_asked f.asks u (subst (HasAskedUnder f.asks u) (sym (some_same (suc (length f.asks)) r.restoration.nonce q)) a)))
      (λ e q. (q, λ s. (held_lost f v s u, omega arith))))) k.restores;
}
  where
    empty : Server
    empty = record { base = forgotten (suc (length f.asks)); slots = λ s. vacant }

-- ---- restores

-- a restore that is taken is meant for the server as it stands
record IsTakenBy (base : Base) (r : Restore) (next : Base) : Type 0 where
  pub nonce : base.nonce ≡ Some r.restoration.nonce
  pub made : next ≡ record { journal = r.restoration.journal; number = r.restoration.number; fenced = false; nonce = None }

taken_is : (base : Base) (r : Restore) (next : Base) → restored base r.restoration ≡ reception.Taken next → IsTakenBy base r next
taken_is base r next e = go (is_meant base.nonce (Some r.restoration.nonce) && not (base.fenced && nat_lt r.restoration.fence base.number)) refl e
  where
    meant : (o : Option ℕ) → is_meant o (Some r.restoration.nonce) ≡ true → o ≡ Some r.restoration.nonce
    meant None q = absurd (cc)
    meant (Some n) q = ap (λ m. let z : Option ℕ = Some m in z) (eqb-true n r.restoration.nonce (and_parts (n == r.restoration.nonce) _ q).0)

    go : (b : Bool) → (is_meant base.nonce (Some r.restoration.nonce) && not (base.fenced && nat_lt r.restoration.fence base.number)) ≡ b →
        (if b then reception.Taken (record { journal = r.restoration.journal; number = r.restoration.number; fenced = false; nonce = None }) else reception.Ignored) ≡ reception.Taken next → IsTakenBy base r next
    go false t q = absurd (cc)
    go true t q = record { nonce = meant base.nonce (and_parts (is_meant base.nonce (Some r.restoration.nonce)) _ t).0; made = (let z : next ≡ record { journal = r.restoration.journal; number = r.restoration.number; fenced = false; nonce = None } = cc in z) }

-- the server that a restore brings back
abbrev brought : Restore → Server
brought r = record {
  base = record { journal = r.restoration.journal; number = r.restoration.number; fenced = false; nonce = None };
  slots = λ s. placed vacant (r.cells s) (r.loads s);
}

-- with it the server has what it had
brought_shadow : (setup : Setup) (low : ℕ → ℕ → ℕ) (f : Fleet) (k : IsShadow setup low f) (v : ℕ) (r : Restore) → IsRestore (controller f) f k.shade.last r → (f.servers v).base.nonce ≡ Some r.restoration.nonce →
    IsShadow setup low (record f { servers = put f.servers v (brought r) })
brought_shadow setup low f k v r h nonce = record {
  shade = k.shade;
  reached = subst (λ cells. IsWorldReached setup (world_by (controller f) cells f.shown k.shade)) (sym (fun_ext (λ s. fun_ext (λ u. held_same s u)))) k.reached;
  above = k.above;
  sizes = k.sizes;
  start = k.start;
  fence = k.fence;
  owner = k.owner;
  sent = k.sent;
  answers = k.answers;
  published = k.published;
  stored = k.stored;
  passes = k.passes;
  letters = k.letters;
  notices = k.notices;
  servers = λ u. put_elim (λ (server : Server). lacks_slots server.base ≡ false → IsKnownServer (controller f) u server (λ s. k.shade.last s u)) f.servers v (brought r) u
      (λ e q. subst (λ w. IsKnownServer (controller f) w (brought r) (λ s. k.shade.last s w)) (sym e) own) (λ e q. k.servers u q);
  asked = λ u n. put_elim (λ (server : Server). server.base.nonce ≡ Some n → HasAskedUnder f.asks u n) f.servers v (brought r) u (λ e q. absurd (cc)) (λ e q. k.asked u n q);
  restores = all_map (IsRestore (controller f) f k.shade.last) (IsRestore (controller f) (record f { servers = put f.servers v (brought r) }) k.shade.last) (controller f).restores
      (λ x y. restore_kept (controller f) f (record f { servers = put f.servers v (brought r) }) k.shade.last k.shade.last x y (λ u n a. a)
      (λ u a. put_elim (λ (server : Server). server.base.nonce ≡ Some x.restoration.nonce → ((f.servers u).base.nonce ≡ Some x.restoration.nonce) × ((s : ℕ) → (held_cells (record f { servers = put f.servers v (brought r) }) s u ≡ held_cells f s u) × (k.shade.last s u ≤ k.shade.last s u)))
      f.servers v (brought r) u
      (λ e q. absurd (cc))
      (λ e q. (q, λ s. (held_same s u, omega arith))))) k.restores;
}
  where
    is_v : h.server ≡ v
    is_v = one_asker f.asks h.server v r.restoration.nonce h.asked (k.asked v r.restoration.nonce nonce)

    told : (s : ℕ) → (r.cells s ≡ held_cells f s v) × (k.shade.last s v ≤ r.restoration.number)
    told s = subst (λ w. (r.cells s ≡ held_cells f s w) × (k.shade.last s w ≤ r.restoration.number)) is_v (h.cells (subst (λ w. (f.servers w).base.nonce ≡ Some r.restoration.nonce) (sym is_v) nonce) s)

    held_same : (s u : ℕ) → held_cells (record f { servers = put f.servers v (brought r) }) s u ≡ held_cells f s u
    held_same s u = put_elim (λ (server : Server). held_by server (f.had s u) s ≡ held_cells f s u) f.servers v (brought r) u
        (λ e. (told s).0 ∙ ap (held_cells f s) (sym e))
        (λ e. refl)

    own : IsKnownServer (controller f) v (brought r) (λ s. k.shade.last s v)
    own = record {
      journal = h.journal;
      taken = refl;
      fence = h.fence;
      number = h.number;
      lasts = λ s. inr ((omega arith), (told s).1);
      loads = λ s. ap (λ (z : ℕ → ℕ). cell_load (r.cells s) (z s)) h.loads;
      behind = subst (λ w. IsBehind (controller f).w (controller f).base w r.restoration.number) is_v h.behind;
    }

-- a restore that comes keeps the fleet as its shade, be it taken or not
pub restore_shadow : (setup : Setup) (low : ℕ → ℕ → ℕ) (f : Fleet) (k : IsShadow setup low f) (v : ℕ) (r : Restore) → IsRestore (controller f) f k.shade.last r → IsShadow setup low (after_restore f v r).1
restore_shadow setup low f k v r h = go (restored (f.servers v).base r.restoration) refl
  where
    go : (x : Reception) → restored (f.servers v).base r.restoration ≡ x → IsShadow setup low (after_reception f v r x)
    go (reception.Taken next) e =
        let t = taken_is (f.servers v).base r next e in
        subst (λ (b : Base). IsShadow setup low (record f { servers = put f.servers v (record { base = b; slots = λ s. placed vacant (r.cells s) (r.loads s) }) })) (sym t.made) (brought_shadow setup low f k v r h t.nonce)
    go reception.Again e = k
    go reception.Ignored e = k
