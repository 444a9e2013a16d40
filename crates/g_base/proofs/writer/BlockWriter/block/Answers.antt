use Rattle.std.proofs.Common.{◌∙◌, ap}
use Rattle.g_base.proofs.FieldLemmas.{block_is_padded}
use Rattle.g_base.specs.Fields.{padded}
use Rattle.g_base.proofs.writer.BlockWriter.block.Goals as goal

pub returns : goal.returns
returns c = block_is_padded _ _ c.self.invariant ∙ ap (padded 512) c.self.view_is
