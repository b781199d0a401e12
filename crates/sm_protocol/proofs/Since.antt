-- When a stream came to its position, in a log with one line more.
use Rattle.sm_protocol.proofs.Below.{◌≡◌, ℕ, ◌+◌, true, false, refl, arith, List, [], ◌∷◌, ◌++◌, length, if◌then◌else◌, StreamId}
use Rattle.sm_protocol.proofs.Words.{Logged, is_step_of}
use Rattle.sm_protocol.specs.Next.{since_in}

-- behind a step of the stream it came there at the log's new length
pub since_step : (id : StreamId) (start n : ℕ) (xs : List Logged) (x : Logged) → is_step_of id x.event ≡ true → since_in id start n (xs ++ x ∷ []) ≡ n + length xs + 1
since_step id start n [] x e = let a : (if is_step_of id x.event then n + 1 else start) ≡ n + 1 = rw e refl in omega arith
since_step id start n (y ∷ ys) x e = let a = since_step id (if is_step_of id y.event then n + 1 else start) (n + 1) ys x e in omega arith

-- any other line changes nothing of it
pub since_other : (id : StreamId) (start n : ℕ) (xs : List Logged) (x : Logged) → is_step_of id x.event ≡ false → since_in id start n (xs ++ x ∷ []) ≡ since_in id start n xs
since_other id start n [] x e = rw e refl
since_other id start n (y ∷ ys) x e = since_other id (if is_step_of id y.event then n + 1 else start) (n + 1) ys x e
