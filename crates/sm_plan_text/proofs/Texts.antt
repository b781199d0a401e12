-- The JSON value of bytes that are a text, and of those that are none.
use Rattle.std.proofs.Common.{◌≡◌, ℕ, Bool, true, false, cond, List, None, ap, refl}
use Rattle.std.specs.Str.{IsUtf8, is_utf8}
use Rattle.std.proofs.lemmas.Str.{IsUtf8-from_is_utf8, is_utf8-from_IsUtf8}
use Rattle.serde_json.specs.Read.{read}
use Rattle.sm_plan_text.specs.Reading.{data_of}

-- of bytes that are UTF-8 the value is what is read
pub data_of_text : (bytes : List ℕ) → IsUtf8 bytes → data_of bytes ≡ read bytes
data_of_text bytes h = ap (λ b. cond b (read bytes) None) (is_utf8-from_IsUtf8 bytes h)

no_text : (bytes : List ℕ) (b : Bool) → is_utf8 bytes ≡ b → (IsUtf8 bytes → ⊥) → cond b (read bytes) None ≡ None
no_text bytes true e h = absurd (h (IsUtf8-from_is_utf8 bytes e))
no_text bytes false e h = refl

-- and of others there is none
pub data_of_none : (bytes : List ℕ) → (IsUtf8 bytes → ⊥) → data_of bytes ≡ None
data_of_none bytes h = no_text bytes (is_utf8 bytes) refl h
