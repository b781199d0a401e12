-- The codes of a plan's streams, as far as the first so many placed moves go.
use Rattle.std.proofs.Common.{◌≡◌, ℕ, ◌<◌, List, length, get_or, ap, arith}
use Rattle.std.specs.Prelude.{min}
use Rattle.std.proofs.lemmas.List.FromFn.{length-map-range_with_len, get_or-map-range_with_len}
use Rattle.sm_plan_code.specs.declared.instruction.Instr.{Instr}
use Rattle.sm_plan_code.specs.declared.limits.TheConstants.{MOST_STREAMS}
use Rattle.sm_plan_code.specs.Plan.{StreamModel}
use Rattle.sm_plan_code.specs.declared.moves.Move.{Move}
use Rattle.sm_verifier.specs.Stream.{no_stream}
use Rattle.sm_verifier.specs.Order.{code_at}
use Rattle.sm_planner.specs.Basis.{Basis}
use Rattle.sm_planner.specs.Payment.{stream_of}
use Rattle.sm_planner.specs.Plan.{move_code, stream, streams_of, planned}
use Rattle.sm_planner.proofs.law.Gathered.{gathered}

-- the code of a stream, as far as the first n placed moves go
abbrev pub code_to : Basis → List Move → ℕ → ℕ → List Instr
code_to b order n i = gathered stream_of (move_code b order) n i

-- how many streams there are
abbrev pub width : List Move → ℕ
width order = min (length order) MOST_STREAMS

-- the plan has so many streams
pub stream_count : (b : Basis) (order : List Move) → length (streams_of b order) ≡ width order
stream_count b order = length-map-range_with_len (stream b order) 0 (width order)

-- the stream at a number is that of the moves of this number
pub stream_is : (b : Basis) (order : List Move) (i : ℕ) → i < width order → get_or (streams_of b order) i no_stream ≡ stream b order i
stream_is b order i l = get_or-map-range_with_len (stream b order) 0 (width order) i i no_stream l (omega arith)

-- the stream's code is that as far as all moves go
pub code_is : (b : Basis) (order : List Move) (i : ℕ) → i < width order → code_at (planned b order) i ≡ code_to b order (length order) i
code_is b order i l = ap (λ (s : StreamModel). s.code) (stream_is b order i l)

-- the stream of a placed move is one of the plan
pub stream_known : (order : List Move) (n : ℕ) → n < length order → stream_of n < width order
stream_known order n l = omega arith
