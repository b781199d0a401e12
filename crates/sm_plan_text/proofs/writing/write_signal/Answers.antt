use Rattle.sm_plan_text.proofs.writing.write_signal.Goals as goal

pub returns-clause-tokens : goal.returns-clause-tokens
returns-clause-tokens c = rw c.from.ensures at c.write_object.ensures.tokens
