-- Tokens that are written one after another.
use Rattle.std.proofs.Common.{◌≡◌, ◌∙◌, ◌++◌, List, ap}
use Rattle.std.proofs.lemmas.List.{append_assoc}

-- what is written behind what was written
pub next : {A : Type 0} {mid new : List A} (old ts us : List A) → mid ≡ old ++ ts → new ≡ mid ++ us → new ≡ old ++ (ts ++ us)
next old ts us e f = f ∙ ap (λ xs. xs ++ us) e ∙ append_assoc old ts us
