use Rattle.std.proofs.Common.{◌≡◌, ◌++◌, length}
use Rattle.smpland_state.specs.Copies.{good_tokens}
use Rattle.smpland_state.proofs.copying.copy_tokens.Given as goal

-- The tokens so far, and the good ones that are left to copy, are those that were there before, and all good ones.
abbrev pub invariant-tokens : goal.invariant-tokens
invariant-tokens l = l.writer.tokens ++ good_tokens l.reader ≡ l.initial.writer.tokens ++ good_tokens l.initial.reader

abbrev pub decreases-tokens : goal.decreases-tokens
decreases-tokens l = length l.reader
