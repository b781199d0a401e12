use Rattle.sm_plan_text.proofs.writing.InstrPlanPart.write.Goals as goal

pub returns-in-PrepareAdd-clause-tokens : goal.returns-in-PrepareAdd-clause-tokens
returns-in-PrepareAdd-clause-tokens c = rw c.in-PrepareAdd.is c.prepare.ensures.tokens

pub returns-in-PrepareDrop-clause-tokens : goal.returns-in-PrepareDrop-clause-tokens
returns-in-PrepareDrop-clause-tokens c = rw c.in-PrepareDrop.is c.prepare-in-PrepareDrop.ensures.tokens

pub returns-in-Signal-clause-tokens : goal.returns-in-Signal-clause-tokens
returns-in-Signal-clause-tokens c = rw c.in-Signal.is c.write_signal.ensures.tokens
