-- The hops that an ask has made so far lead on.
use Rattle.std.proofs.Common.{◌≡◌, ◌≤◌, ◌<◌, ◌+◌, ℕ, List, [], ◌∷◌, length, refl, arith, inr}
use Rattle.sm_placement.specs.declared.entry.Entry.{Entry}
use Rattle.sm_protocol.specs.Ticket.{Ticket}
use Rattle.sm_machine.specs.declared.answer.Answer.{Answer}
use Rattle.sm_machine.specs.declared.answer.Answer.TheVariants as answer
use Rattle.sm_router.specs.declared.asking.Asked.{Asked}
use Rattle.sm_router.specs.declared.asking.Asked.TheVariants as asked
use Rattle.sm_router.specs.declared.asking.Next.{Next}
use Rattle.sm_router.specs.declared.asking.Next.TheVariants.{Look, PassOn, End}
use Rattle.sm_router.specs.Asking.{after_answer, asked_after, Hop, IsHop, IsEnd, LeadsTo, HasAsked}

-- no answer is TooManyHops, or NotListed
abbrev pub IsProper : Next → Type 0
IsProper (End asked.TooManyHops) = ⊥
IsProper (End asked.NotListed) = ⊥
IsProper _ = Unit {0}

pub proper : (a : Answer) → IsProper (after_answer a)
proper (answer.Executed server) = tt
proper (answer.Passed ticket) = tt
proper answer.NotOwner = tt
proper answer.Unavailable = tt
proper (answer.LogFull back) = tt
proper (answer.Unknown back) = tt

-- so many hops were made, and whatever comes from here on is what the ask does behind them
pub record HasCome {C : Type 0} (looked : C → ℕ → Entry → C → Type 0) (arrived : C → ℕ → ℕ → Answer → C → Type 0) (passed_on : C → Ticket → Answer → C → Type 0) (shard : ℕ) (old : C) (n : ℕ) (next : Next) (now : C) : Type 0 where
  pub proper : IsProper next
  pub leads : (hops : List (Hop C)) (said : Asked) (new : C) → LeadsTo looked arrived passed_on shard next now hops said new →
      (all : List (Hop C)) × (length all ≡ n + length hops) × LeadsTo looked arrived passed_on shard Look old all said new

module _ {C : Type 0} (looked : C → ℕ → Entry → C → Type 0) (arrived : C → ℕ → ℕ → Answer → C → Type 0) (passed_on : C → Ticket → Answer → C → Type 0) (shard : ℕ) (old : C) where
  -- behind one more hop, one more was made
  pub one_made : (n : ℕ) (next : Next) (now : C) (said : Answer) (new : C) → HasCome looked arrived passed_on shard old n next now →
      IsHop looked arrived passed_on shard next now (record { said = said; caller = new }) → HasCome looked arrived passed_on shard old (n + 1) (after_answer said) new
  one_made n next now said new come hop = record {
    proper = proper said;
    leads = λ hops end last m.
        let r = come.leads (record { said = said; caller = new } ∷ hops) end last (hop, m) in
        (r.0, omega (arith, r.1), r.2);
  }

  -- the ask ends: after eight hops, or with another answer than TooManyHops; and after fewer, or with another than NotListed
  pub all_made : (n : ℕ) (next : Next) (now : C) (said : Asked) (new : C) → HasCome looked arrived passed_on shard old n next now → n ≤ 8 → (said ≡ asked.TooManyHops → n ≡ 8) → (said ≡ asked.NotListed → n < 8) →
      IsEnd looked shard next now said new → HasAsked looked arrived passed_on shard old said new
  all_made n next now said new come few enough listed end =
      let r = come.leads [] said new end in
      record { hops = r.0; few = omega (arith, r.1); made = r.2; all = λ e. let m = enough e in omega (arith, r.1, m); none = λ e. let m = listed e in omega (arith, r.1, m) }

  -- after the last hop
  pub at_end : (next : Next) (now : C) → IsEnd looked shard next now (asked_after next) now
  at_end Look now = inr (refl, refl)
  at_end (PassOn ticket) now = (refl, refl)
  at_end (End said) now = (refl, refl)

-- an ask that ends by an answer of a server doesn't end by TooManyHops
pub end_proper : (said : Asked) → IsProper (End said) → said ≡ asked.TooManyHops → (n : ℕ) → n ≡ 8
end_proper asked.TooManyHops p e n = absurd p
end_proper _ p e n = absurd (cc)

-- the same of NotListed
pub end_listed : (said : Asked) → IsProper (End said) → said ≡ asked.NotListed → (n : ℕ) → n < 8
end_listed asked.NotListed p e n = absurd p
end_listed _ p e n = absurd (cc)

-- what is answered after all hops is no NotListed
pub after_listed : (next : Next) → IsProper next → asked_after next ≡ asked.NotListed → (n : ℕ) → n < 8
after_listed Look p e n = absurd (cc)
after_listed (PassOn ticket) p e n = absurd (cc)
after_listed (End said) p e n = end_listed said p e n
