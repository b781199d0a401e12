use Rattle.std.proofs.Common.{◌≡◌, ◌≤◌, length, take, map, vec_capacity}
use Rattle.sm_map.specs.Entry.{word_for}
use Rattle.sm_map.proofs.map.words_of.Given as goal

-- the words of the entries so far, in a list with room for those of all, and for one where there is none
abbrev pub invariant-loop-entry : goal.invariant-loop-entry
invariant-loop-entry l =
    (l.words.items ≡ map word_for (take l.entry-index l.entries))
    × (length l.entries ≤ vec_capacity l.words)
    × (1 ≤ vec_capacity l.words)
