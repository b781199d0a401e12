-- Copies of JSON.
use Rattle.std.specs.Prelude.{List, [], ◌∷◌, Bool, true, false, if◌then◌else◌}
use Rattle.json.specs.Token.{Token, bad}

-- the token says that a text is no JSON from there on
abbrev pub is_bad : Token → Bool
is_bad bad = true
is_bad _ = false

-- the tokens before the first that is bad
abbrev pub good_tokens : List Token → List Token
good_tokens [] = []
good_tokens (t ∷ ts) = if is_bad t then [] else t ∷ good_tokens ts
