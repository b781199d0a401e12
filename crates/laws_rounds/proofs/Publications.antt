-- The publication that a stream stands before, and the one that it has.
use Rattle.std.proofs.Common.{◌≡◌, ℕ, suc, ◌+◌, refl, sym, ap, ◌∙◌, subst, not, Bool, true, false, Option, Some, None}
use Rattle.std.specs.Prelude.{if◌then◌else◌}
use Rattle.std.proofs.lemmas.Bool.{and_from, and_parts, not-true}
use Rattle.sm_reservation.specs.declared.stream_id.StreamId.{StreamId}
use Rattle.sm_plan_code.specs.declared.instruction.Instr.{Instr}
use Rattle.sm_protocol.specs.State.{State, is_begun, is_running, next_instruction, progress_of}
use Rattle.sm_protocol.proofs.Courses.{some_same}
use Rattle.laws_network.specs.World.{Publication, publication_by, publication_for, publication_now, publication_of}
use Rattle.laws_network.proofs.Publishing.{IsPublishing}

-- The publication of a stream: what it is to publish, under the next version.
pub record IsPublicationOf (base : ℕ) (w : State) (id : StreamId) (p : Publication) : Type 0 where
  pub publishing : IsPublishing w id p.shard p.entry.server
  pub version : p.entry.version ≡ base + suc (w.place.version p.shard)
  pub stream : p.stream ≡ id

-- a publication is what its stream is to publish
pub publication_parts : (base : ℕ) (w : State) (id : StreamId) (p : Publication) → publication_of base w id ≡ Some p → IsPublicationOf base w id p
publication_parts base w id p e = on_running (is_running w id) refl e
  where
    on_next : (o : Option Instr) → next_instruction w id ≡ o → is_begun w id ≡ true → (progress_of w id).done ≡ false → (x : Option (ℕ × Option ℕ)) → publication_by w o ≡ x → publication_for base w id x ≡ Some p → IsPublicationOf base w id p
    on_next None n b d x f e = absurd (let z : x ≡ None = sym f in cc)
    on_next (Some i) n b d None f e = absurd (cc)
    on_next (Some i) n b d (Some y) f e =
        let q : record { stream = id; shard = y.0; entry = record { server = y.1; version = base + suc (w.place.version y.0) } } ≡ p = some_same _ p e in
        subst (λ (z : Publication). IsPublicationOf base w id z) q
        (record { publishing = record { instr = i; before = record { begun = b; running = d; next_is = n }; now = f }; version = refl; stream = refl })

    on_running : (b : Bool) → is_running w id ≡ b → (if b then publication_for base w id (publication_now w id) else None) ≡ Some p → IsPublicationOf base w id p
    on_running true r e = let q = and_parts (is_begun w id) (not (progress_of w id).done) r in on_next (next_instruction w id) refl q.0 (not-true _ q.1) (publication_now w id) refl e
    on_running false r e = absurd (cc)

-- what a stream is to publish is its publication
pub publication_whole : (base : ℕ) (w : State) (id : StreamId) (s : ℕ) (server : Option ℕ) → IsPublishing w id s server →
    publication_of base w id ≡ Some (record { stream = id; shard = s; entry = record { server = server; version = base + suc (w.place.version s) } })
publication_whole base w id s server p =
    let runs = and_from (is_begun w id) (not (progress_of w id).done) p.before.begun (ap not p.before.running) in
    ap (λ b. if b then publication_for base w id (publication_now w id) else None) runs ∙ ap (publication_for base w id) (ap (publication_by w) p.before.next_is ∙ p.now)
