use Rattle.std.proofs.Common.{ℕ, ◌<◌, List, [], ◌∷◌, length, arith}
use Rattle.json.specs.Lex.{lex, punctuate, tokens}
use Rattle.json_tree.proofs.tree.Tree.read.Goals as goal

some_text : (text : List ℕ) → 0 < length (tokens text) → 0 < length text
unfolding lex punctuate
some_text [] h = h
some_text (x ∷ xs) h = omega arith

pub returns-in_err-tree-clause-no_memory : goal.returns-in_err-tree-clause-no_memory
returns-in_err-tree-clause-no_memory c full = some_text c.args.text.now (rw c.in_ok-reader.ensures.ok at (c.read_value.ensures.no_memory (grind arith)))
