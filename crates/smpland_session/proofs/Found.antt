-- What holds of what was found, by its name.
use Rattle.std.proofs.Common.{◌≡◌, ◌∙◌, ◌++◌, Bool, false, true, List, Option, None, Some, Result, Ok, Err, IfOk, OnOk, refl, subst, sym}
use Rattle.std.specs.Prelude.{IfErr, IfSome, is_some}
use Rattle.json.specs.Token.{Token}
use Rattle.smpland_lines.specs.BadLines.{told_bad}
use Rattle.smpland_lines.specs.declared.bad_line.BadLine.{BadLine}
use Rattle.smpland_session.specs.Declines.{Bad, Declines}

-- what holds of what was found holds of it by its name
pub found_is : {A : Type 0} (P : A → Type 0) (found : Option A) (x : A) → found ≡ Some x → IfSome found P → P x
found_is P found x is holds = subst (λ o. IfSome o P) is holds

-- so it is with what was read
pub read_is : {A E : Type 0} (P : A → Type 0) (r : Result A E) (x : A) → r ≡ Ok x → IfOk r P → P x
read_is P r x is holds = subst (λ (it : Result _ _). IfOk it P) is holds

-- and with what could not be read
pub not_read_is : {A E : Type 0} (P : E → Type 0) (r : Result A E) (x : E) → r ≡ Err x → IfErr r P → P x
not_read_is P r x is holds = subst (λ (it : Result _ _). IfErr it P) is holds

-- what follows from what holds of a result holds of it
pub on_ok : {A E : Type 0} (P Q : A → Type 0) (r : Result A E) → ((x : A) → P x → Q x) → IfOk r P → IfOk r Q
on_ok P Q (Ok x) f holds = f x holds
on_ok P Q (Err _) f holds = tt

-- of nothing that is there, there is none
pub nothing : {A : Type 0} (found : Option A) (some : Bool) → some ≡ is_some found → some ≡ false → found ≡ None
nothing None some is none = refl
nothing (Some _) some is none = absurd (let z : true ≡ false = sym is ∙ none in cc)

-- what is wrong with a line is told, and declines it
pub bad_declines : {A E : Type 0} (r : Result A E) (fault : BadLine) (before after : List Token) → OnOk r (after ≡ before ++ told_bad fault) →
    OnOk r (Declines before after)
bad_declines (Ok _) fault before after told = Bad (fault, told)
bad_declines (Err _) fault before after told = tt
