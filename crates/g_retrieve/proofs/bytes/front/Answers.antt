use Rattle.g_retrieve.proofs.bytes.front.Goals as goal

pub returns-clause-whole : goal.returns-clause-whole
returns-clause-whole c = c.told-block
