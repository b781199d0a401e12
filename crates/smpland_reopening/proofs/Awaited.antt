-- Parties whose answers are awaited.
use Rattle.std.proofs.Common.{◌≡◌, ◌∙◌, ◌+◌, ◌++◌, ◌∷◌, [], ℕ, Bool, List, ap, arith, sym}
use Rattle.std.specs.List.{filter}
use Rattle.std.proofs.lemmas.List.Elements.{filter-append}
use Rattle.std.proofs.lemmas.List.FromFn.{map-range_with_len_more}
use Rattle.sm_reopening.specs.declared.party.Party.{Party}
use Rattle.sm_reopening.specs.declared.party.Party.TheVariants.{MapOwner, Server}
use Rattle.smpland_reopening.specs.Waiting.{parties_in_order}

-- the parties with one more server
in_order_more : (n : ℕ) → parties_in_order (n + 1) ≡ parties_in_order n ++ Server n ∷ []
in_order_more n = ap (λ (ps : List Party). MapOwner ∷ ps) (map-range_with_len_more Server 0 n n (omega arith))

-- those of them that are awaited, and the next server if it is
pub awaited_more : (p : Party → Bool) (n : ℕ) → filter p (parties_in_order n) ++ filter p (Server n ∷ []) ≡ filter p (parties_in_order (n + 1))
awaited_more p n = sym (filter-append p (parties_in_order n) (Server n ∷ [])) ∙ ap (filter p) (sym (in_order_more n))
