use Rattle.std.specs.Prelude.{vec_len}
use Rattle.sm_machine.proofs.token.close_tokens.Given as goal

abbrev pub decreases-loop-token : goal.decreases-loop-token
decreases-loop-token l = vec_len l.tokens
