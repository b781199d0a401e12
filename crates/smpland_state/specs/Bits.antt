-- Journals and nonces: 64 bits, told in hexadecimal digits.
use Rattle.std.specs.Prelude.{ℕ, List, false}
use Rattle.std.specs.Fmt.{digits}
use Rattle.json.specs.Token.{Token}
use Rattle.smpland_lines.specs.Members.{text_member}

-- the digits of a number, in lower case
abbrev pub hexadecimal : ℕ → List ℕ
hexadecimal bits = digits 16 false bits

-- a member that is such a number
abbrev pub bits_member : List ℕ → ℕ → List Token
bits_member name bits = text_member name (hexadecimal bits)
