-- The highest numbers of orders that were sent, wherever the network leads: what a reopening has to know of the epoch that it ends.
use Rattle.std.proofs.Common.{◌≤◌, ℕ, ◌+◌, inl, inr, sym, subst, arith, List, [], ◌∷◌, length}
use Rattle.std.specs.List.{AllByRecursion}
use Rattle.sm_placement.specs.Setup.{Setup}
use Rattle.sm_protocol.specs.Laws.{MOST_PLACES}
use Rattle.laws_network.specs.Net.{Net, Order}
use Rattle.laws_network.specs.Laws.{EachNet}
use Rattle.laws_network.proofs.Traced as traced
use Rattle.laws_network.proofs.CountedLaws as low
use Rattle.laws_network.proofs.Commands.{log_fits}
use Rattle.laws_network.proofs.Events.{net_sound}
use Rattle.laws_network.proofs.Lists.{all_map}
use Rattle.laws_network.proofs.Raised.{AreRaised, by_counts}
use Rattle.laws_network.proofs.Sound.{IsKnown, IsSound, last_had}
use Rattle.laws_network.proofs.Untraced.{by_traces}

-- no order has a higher number than this
abbrev pub top : Net → ℕ
top n = n.base + length n.w.log + 1

-- orders, and the last ones that had an effect
pub record AreLow (n : Net) : Type 0 where
  pub log : length n.w.log ≤ MOST_PLACES
  pub sent : AllByRecursion (λ (o : Order). o.number ≤ top n) n.sent
  pub lasts : (s v : ℕ) → n.last s v ≤ top n

-- so it is of the network that counts from 0
low_numbers : (setup : Setup) (n : traced.Net) → IsSound setup n → AreLow (record { w = n.w; base = n.base; cells = n.cells; last = n.last; sent = n.sent; answers = n.answers; passes = n.passes })
low_numbers setup n sound = record {
  log = log_fits setup n.w sound.reached;
  sent = all_map (IsKnown n) (λ (o : Order). o.number ≤ n.base + length n.w.log + 1) n.sent low_order sound.sent;
  lasts = λ s v. elim (sound.lasts s v) [ inl l ↦ omega arith | inr h ↦ (let a = last_had sound s v h in let b = sound.sinces h.stream in omega arith) ];
}
  where
    low_order : (o : Order) → IsKnown n o → o.number ≤ n.base + length n.w.log + 1
    low_order o (inl c) = let a = c.number in let b = sound.sinces o.stream in omega arith
    low_order o (inr p) = let a = p.since in let b = sound.sinces o.stream in omega arith

counted_numbers : low.EachNet (λ setup n. AreLow n)
counted_numbers = by_traces (λ setup n. AreLow n) (λ setup n r h. low_numbers setup n (net_sound setup n r))

-- an order of this controller with the base added, or an old one
raised_low : (base bound : ℕ) (last : ℕ → ℕ → ℕ) (ps os : List Order) → ((s v : ℕ) → last s v ≤ bound) → AreRaised base last ps os → AllByRecursion (λ (o : Order). o.number ≤ bound) os → AllByRecursion (λ (o : Order). o.number ≤ bound) ps
raised_low base bound last [] [] l r all = tt
raised_low base bound last (p ∷ ps) (o ∷ os) l (inl e, r) all = (subst (λ (q : Order). q.number ≤ bound) (sym e.0) all.0, raised_low base bound last ps os l r all.1)
raised_low base bound last (p ∷ ps) (o ∷ os) l (inr e, r) all = (subst (λ (q : Order). q.number ≤ bound) (sym e.0) all.0, raised_low base bound last ps os l r all.1)
raised_low base bound last [] (o ∷ os) l r all = absurd r
raised_low base bound last (p ∷ ps) [] l r all = absurd r

-- and of each network
pub low_orders : EachNet (λ setup n. AreLow n)
low_orders = by_counts (λ setup n. AreLow n) (λ setup n S A Q r b. let k = counted_numbers setup n r in record {
  log = k.log;
  sent = raised_low n.base (n.base + length n.w.log + 1) n.last S n.sent k.lasts b.sent k.sent;
  lasts = k.lasts;
})
