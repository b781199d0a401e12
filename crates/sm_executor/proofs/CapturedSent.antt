-- Values that a closure captures may go to another thread if each captured value may.
use Prim.Native.Nat.{ℕ}
use mathlib.Core.List.{List, [], ◌∷◌}
use mir.Syntax.{Sym, Ty}
use denote.Exit.{Kept}
use denote.RattleType.{RattleType}
use denote.Struct.Field.{row_field}
use denote.Struct.Tuple.{TupleAt, parts, type_at}
use denote.Param.{arg, param}
use denote.Param.Send.{IsSend, IsSync, arg_send, param_send, sendable}
use denote.Param.SendFields.{FieldsHave, as_row_send, declared_send}
use Rattle.std.specs.contracts.option.Option as Option
use Rattle.std.specs.contracts.sync.Mutex as Mutex
use Rattle.std.proofs.Crossing.{crosses}

-- the types of captured values, each of which may go to another thread
abbrev pub types_of : List ((T : RattleType) × IsSend T) → List RattleType
types_of [] = []
types_of (x ∷ xs) = x.0 ∷ types_of xs

parts_send : (xs : List ((T : RattleType) × IsSend T)) → FieldsHave IsSend (parts (types_of xs))
parts_send [] = tt
parts_send (x ∷ xs) = (as_row_send (row_field x.0) x.1, parts_send xs)

-- captured values may go to another thread together, where each of them may
pub captured_send : {i : ℕ} {δ : Ty} (k : Kept) (ν : Sym) (xs : List ((T : RattleType) × IsSend T)) → IsSend (param i (arg δ k (TupleAt ν (types_of xs))))
captured_send {i} {δ} k ν xs = param_send i (arg δ k (TupleAt ν (types_of xs))) (arg_send δ k (TupleAt ν (types_of xs)) (declared_send (type_at ν (types_of xs)) (parts_send xs)))

-- and so may what may be there
pub option_send : (T : RattleType) → IsSend T → IsSend (Option.the_row T)
option_send T s = search sendable depth 12

-- and threads may share what lies behind a lock
pub mutex_sync : (T : RattleType) → IsSend T → IsSync (Mutex.the_row T)
mutex_sync T s = search (crosses, sendable) depth 10
