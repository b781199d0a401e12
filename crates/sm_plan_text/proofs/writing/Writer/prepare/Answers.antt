use Rattle.sm_plan_text.proofs.writing.Writer.prepare.Goals as goal

pub returns-clause-tokens : goal.returns-clause-tokens
returns-clause-tokens c = rw (c.server.ensures, c.server-2.ensures, c.shard.ensures) at c.write_object.ensures.tokens
