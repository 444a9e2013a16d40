use Rattle.std.proofs.Common.{rules}
use Rattle.g_base.proofs.FieldLemmas.{begun_again}
use Rattle.g_base.proofs.writer.BlockWriter.restart.Goals as goal

pub invariant_of-self : goal.invariant_of-self
invariant_of-self c = begun_again c.self.inside.at c.self.inside.block c.fill.new.self (c.fill.ensures.after (λ y is. search rules)) c.self.invariant
