use Rattle.std.proofs.Common.{◌≡◌, take}
use Rattle.smpland_state.specs.Notes.{with_moves}
use Rattle.smpland_state.proofs.noting.note_moves.Given as goal

-- the streams so far
abbrev pub invariant-loop-id : goal.invariant-loop-id
invariant-loop-id l = l.history ≡ with_moves l.initial.history l.place (take l.id-index l.gone_on)
