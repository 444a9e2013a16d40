use Rattle.g_files.proofs.DurableBlocksLemmas.{blocks_bytes}
use Rattle.g_files.proofs.laws.blocks_are_their_bytes.Goals as goal

pub returns : goal.returns
returns c = blocks_bytes
