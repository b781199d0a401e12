-- An agent does what a party does in a reopening.
use Rattle.std.proofs.Common.{◌≡◌, ◌⊎◌, ℕ, refl, sym, ap, ◌∙◌, inl, inr, not, Bool, true, false, Option, Some, None}
use Rattle.std.specs.Prelude.{◌==◌, ◌&&◌, ◌||◌, is_none, is_some, nat_le, nat_lt, option_map, if◌then◌else◌}
use Rattle.std.proofs.lemmas.Bool.{and_from, and_parts, eq-eqb, eqb-true, lt-ltb, leb-false, or_parts}
use Rattle.sm_server.specs.declared.call.Cell.{Cell}
use Rattle.sm_server.specs.declared.call.Cell.TheVariants as cell
use Rattle.sm_placement.specs.Opening.{is_handing}
use Rattle.sm_agent.specs.declared.base.Base.{Base as AgentBase}
use Rattle.sm_agent.specs.declared.base.Reopening.{Reopening as AgentReopening}
use Rattle.sm_agent.specs.declared.base.Settlement.{Settlement as AgentSettlement}
use Rattle.sm_agent.specs.declared.base.Restoration.{Restoration}
use Rattle.sm_agent.specs.declared.base.Reception.TheVariants.{Taken, Again, Ignored}
use Rattle.sm_agent.specs.declared.order.Stamp.{Stamp}
use Rattle.sm_agent.specs.declared.order.Verdict.TheVariants as verdict
use Rattle.sm_agent.specs.declared.slot.Slot.{Slot}
use Rattle.sm_agent.specs.declared.request.Request.{Request}
use Rattle.sm_agent.specs.declared.request.Request.TheVariants.{Direct, Passed}
use Rattle.sm_agent.specs.declared.request.Routing.TheVariants as routing
use Rattle.sm_agent.specs.Base.{fenced, forgotten, heeded, is_at, is_meant, is_overtaken, lacks_slots, restored, settled}
use Rattle.sm_agent.specs.Order.{turned_away}
use Rattle.sm_agent.specs.Request.{passed_on, routed}
use Rattle.laws_network.specs.Reopening.{after_fence, is_fenced_at, is_settled_at, names_nonce, settled_base, takes_number, takes_settle, unknown_base}
use Rattle.laws_network.specs.FleetReopening.{AgentsDoSo, base_after, base_seen, is_answered}

taken_same : (a b : AgentBase) → Taken a ≡ Taken b → a ≡ b
taken_same a b e = cc

-- a nonce that is meant is named
meant_named : (o p : Option ℕ) → is_meant o p ≡ true → names_nonce o p ≡ true
meant_named None None e = refl
meant_named None (Some n) e = absurd (cc)
meant_named (Some n) None e = absurd (cc)
meant_named (Some n) (Some m) e = (and_parts (n == m) (not (n == 0)) e).0

module _ (base : AgentBase) where
  fence_does : (at : AgentReopening) (nonce : ℕ) →
      (base_seen (base_after base (fenced base at nonce)) ≡ after_fence (base_seen base) at.number nonce) × (is_answered (fenced base at nonce) ≡ true → is_fenced_at at.number (after_fence (base_seen base) at.number nonce) ≡ true)
  fence_does at nonce = go (nat_lt base.number at.number) (base.fenced && is_at base at) refl
    where
      new : AgentBase
      new = record { journal = at.journal; number = at.number; fenced = true; nonce = option_map (λ old. nonce) base.nonce }

      go : (b c : Bool) → (base.fenced && is_at base at) ≡ c →
          (base_seen (base_after base (if b then Taken (record { journal = at.journal; number = at.number; fenced = true; nonce = option_map (λ old. nonce) base.nonce }) else if c then Again else Ignored))
          ≡ (if b then record { number = at.number; fenced = true; nonce = option_map (λ old. nonce) base.nonce } else base_seen base))
          × (is_answered (if b then Taken (record { journal = at.journal; number = at.number; fenced = true; nonce = option_map (λ old. nonce) base.nonce }) else if c then Again else Ignored) ≡ true →
          is_fenced_at at.number (if b then record { number = at.number; fenced = true; nonce = option_map (λ old. nonce) base.nonce } else base_seen base) ≡ true)
      go true c e = (refl, λ q. eq-eqb at.number at.number refl)
      go false true e = (
        refl,
        λ q.
            let a = and_parts base.fenced (is_at base at) e in
            let b = and_parts (base.journal == at.journal) (base.number == at.number) a.1 in
            and_from base.fenced (base.number == at.number) a.0 b.1,
      )
      go false false e = (refl, λ q. absurd (cc))

  settle_does : (new : AgentBase) (s : AgentSettlement) → settled base s ≡ Taken new → (takes_settle s.reopening.number s.nonce (base_seen base) ≡ true) × (base_seen new ≡ settled_base s.reopening.number)
  settle_does new s e = go (is_at base s.reopening) refl (base.fenced && is_meant base.nonce s.nonce) refl (base.fenced || lacks_slots base) e
    where
      go : (a : Bool) → is_at base s.reopening ≡ a → (b : Bool) → (base.fenced && is_meant base.nonce s.nonce) ≡ b → (c : Bool) →
          (if not a then Ignored else if b then Taken (record base { fenced = false; nonce = None }) else if c then Ignored else Again) ≡ Taken new →
          (takes_settle s.reopening.number s.nonce (base_seen base) ≡ true) × (base_seen new ≡ settled_base s.reopening.number)
      go false p b q c e = absurd (cc)
      go true p true q c e =
          let at = eqb-true base.number s.reopening.number (and_parts (base.journal == s.reopening.journal) (base.number == s.reopening.number) p).1 in
          let m = and_parts base.fenced (is_meant base.nonce s.nonce) q in (
            and_from (is_fenced_at s.reopening.number (base_seen base)) (names_nonce base.nonce s.nonce) (and_from base.fenced (base.number == s.reopening.number) m.0 (eq-eqb base.number s.reopening.number at)) (meant_named base.nonce s.nonce m.1),
            ap base_seen (sym (taken_same (record base { fenced = false; nonce = None }) new e)) ∙ ap settled_base at,
          )
      go true p false q true e = absurd (cc)
      go true p false q false e = absurd (cc)

  again_does : (s : AgentSettlement) → settled base s ≡ Again → is_settled_at s.reopening.number (base_seen base) ≡ true
  again_does s e = go (is_at base s.reopening) refl (base.fenced && is_meant base.nonce s.nonce) (base.fenced || lacks_slots base) refl e
    where
      none_is : (o : Option ℕ) → is_some o ≡ false → is_none o ≡ true
      none_is None e = refl
      none_is (Some n) e = absurd (cc)

      go : (a : Bool) → is_at base s.reopening ≡ a → (b c : Bool) → (base.fenced || lacks_slots base) ≡ c →
          (if not a then Ignored else if b then Taken (record base { fenced = false; nonce = None }) else if c then Ignored else Again) ≡ Again → is_settled_at s.reopening.number (base_seen base) ≡ true
      go false p b c q e = absurd (cc)
      go true p true c q e = absurd (cc)
      go true p false true q e = absurd (cc)
      go true p false false q e =
          let o = or_parts base.fenced (lacks_slots base) q in
          and_from (base.number == s.reopening.number) (not base.fenced && is_none base.nonce) (and_parts (base.journal == s.reopening.journal) (base.number == s.reopening.number) p).1
          (and_from (not base.fenced) (is_none base.nonce) (ap not o.0) (none_is base.nonce o.1))

  restore_does : (new : AgentBase) (r : Restoration) → restored base r ≡ Taken new → (names_nonce base.nonce (Some r.nonce) ≡ true) × (base_seen new ≡ settled_base r.number)
  restore_does new r e = go (is_meant base.nonce (Some r.nonce)) refl (not (base.fenced && nat_lt r.fence base.number)) e
    where
      go : (a : Bool) → is_meant base.nonce (Some r.nonce) ≡ a → (b : Bool) → (if a && b then Taken (record { journal = r.journal; number = r.number; fenced = false; nonce = None }) else Ignored) ≡ Taken new →
          (names_nonce base.nonce (Some r.nonce) ≡ true) × (base_seen new ≡ settled_base r.number)
      go false p b e = absurd (cc)
      go true p false e = absurd (cc)
      go true p true e = (meant_named base.nonce (Some r.nonce) p, ap base_seen (sym (taken_same (record { journal = r.journal; number = r.number; fenced = false; nonce = None }) new e)))

  heed_does : (last : AgentReopening) (nonce : ℕ) → (heeded base last nonce ≡ base) ⊎ (base_seen (heeded base last nonce) ≡ unknown_base nonce)
  heed_does last nonce = go (not (lacks_slots base) && is_overtaken base last)
    where
      go : (b : Bool) → ((if b then forgotten nonce else base) ≡ base) ⊎ (base_seen (if b then forgotten nonce else base) ≡ unknown_base nonce)
      go true = inr refl
      go false = inl refl

  order_does : (stamp : Stamp) → turned_away base stamp ≡ None → takes_number (base_seen base) stamp.number ≡ true
  order_does stamp e = go base.nonce refl (stamp.journal == base.journal) (base.fenced || nat_lt base.number stamp.fence) refl (nat_le stamp.number base.number) refl e
    where
      go : (o : Option ℕ) → base.nonce ≡ o → (a b : Bool) → (base.fenced || nat_lt base.number stamp.fence) ≡ b → (c : Bool) → nat_le stamp.number base.number ≡ c →
          (if is_some o then Some verdict.NotReady else if not a then Some verdict.Foreign else if b then Some verdict.NotReady else if c then Some verdict.Old else None) ≡ None → takes_number (base_seen base) stamp.number ≡ true
      go (Some n) q a b p c s e = absurd (cc)
      go None q false b p c s e = absurd (cc)
      go None q true true p c s e = absurd (cc)
      go None q true false p true s e = absurd (cc)
      go None q true false p false s e =
          and_from (is_none base.nonce) (not base.fenced && nat_lt base.number stamp.number) (ap is_none q)
          (and_from (not base.fenced) (nat_lt base.number stamp.number) (ap not (or_parts base.fenced (nat_lt base.number stamp.fence) p).0) (lt-ltb base.number stamp.number (leb-false stamp.number base.number s)))

  -- what is executed or passed on
  abbrev IsTold : Option ℕ → Bool → Cell → Type 0
  IsTold o b c = (is_none o && not (b && is_handing c)) ≡ true

  free : (b : Bool) → not (b && false) ≡ true
  free true = refl
  free false = refl

  execute_does : (slot : Slot) (applied : ℕ) (request : Request) (o : Option ℕ) (b : Bool) (c : Cell) → routed (record base { nonce = o; fenced = b }) (record slot { cell = c }) applied request ≡ routing.Execute → IsTold o b c
  execute_does slot applied request (Some n) b c e = absurd (cc)
  execute_does slot applied request None b cell.Absent e = absurd (cc)
  execute_does slot applied request None b cell.Secondary e = absurd (cc)
  execute_does slot applied request None b cell.Primary e = free b
  execute_does slot applied request None b (cell.Forwarding to number) e = absurd (go slot.cut b e)
    where
      go : (cut : Option ℕ) (b : Bool) → passed_on to number b cut ≡ routing.Execute → ⊥
      go None b e = absurd (cc)
      go (Some k) true e = absurd (cc)
      go (Some k) false e = absurd (cc)
  execute_does slot applied Direct None b (cell.Prepared from number) e = absurd (cc)
  execute_does slot applied (Passed pass) None true (cell.Prepared from number) e = absurd (go (pass.from == from && pass.handover == number) e)
    where
      go : (t : Bool) → (if not t then routing.NotHere else routing.NotYet) ≡ routing.Execute → ⊥
      go true e = absurd (cc)
      go false e = absurd (cc)
  execute_does slot applied (Passed pass) None false (cell.Prepared from number) e = refl

  pass_does : (slot : Slot) (applied : ℕ) (request : Request) (t h k : ℕ) (o : Option ℕ) (b : Bool) (c : Cell) →
      routed (record base { nonce = o; fenced = b }) (record slot { cell = c }) applied request ≡ routing.PassOn t h k → IsTold o b c
  pass_does slot applied request t h k (Some n) b c e = absurd (cc)
  pass_does slot applied request t h k None b cell.Absent e = absurd (cc)
  pass_does slot applied request t h k None b cell.Secondary e = absurd (cc)
  pass_does slot applied request t h k None b cell.Primary e = free b
  pass_does slot applied request t h k None true (cell.Forwarding to number) e = absurd (go slot.cut e)
    where
      go : (cut : Option ℕ) → passed_on to number true cut ≡ routing.PassOn t h k → ⊥
      go None e = absurd (cc)
      go (Some j) e = absurd (cc)
  pass_does slot applied request t h k None false (cell.Forwarding to number) e = refl
  pass_does slot applied Direct t h k None b (cell.Prepared from number) e = absurd (cc)
  pass_does slot applied (Passed pass) t h k None true (cell.Prepared from number) e = absurd (go (pass.from == from && pass.handover == number) e)
    where
      go : (b : Bool) → (if not b then routing.NotHere else routing.NotYet) ≡ routing.PassOn t h k → ⊥
      go true e = absurd (cc)
      go false e = absurd (cc)
  pass_does slot applied (Passed pass) t h k None false (cell.Prepared from number) e = refl

-- an agent does what a party does
pub agents_do_so : AgentsDoSo
agents_do_so = record {
  fence = fence_does;
  settle = settle_does;
  settle_again = again_does;
  restore = restore_does;
  heed = heed_does;
  order = order_does;
  execute = λ base slot applied request e. execute_does base slot applied request base.nonce base.fenced slot.cell e;
  pass_on = λ base slot applied request t h k e. pass_does base slot applied request t h k base.nonce base.fenced slot.cell e;
}
