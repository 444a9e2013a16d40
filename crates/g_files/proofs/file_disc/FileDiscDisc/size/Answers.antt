use Rattle.std.proofs.Common.{◌*◌, length}
use Rattle.g_files.specs.Image.{durability_seen, seen}
use Rattle.g_files.proofs.DiscLemmas.{are_blocks}
use Rattle.g_files.proofs.DurabilityLemmas.{seen_sound}
use Rattle.g_files.proofs.DurableBlocksLemmas.{blocks_sound}
use Rattle.g_files.proofs.ImageLemmas.{seen_bytes, seen_sized}
use Rattle.g_files.proofs.file_disc.FileDiscDisc.size.Goals as goal

pub returns-clause-blocks : goal.returns-clause-blocks
returns-clause-blocks g c =
    let i = c.args.self.now.image in
    let file = g.F.RawFile.content i.file in
    are_blocks i.size (seen i) (seen_sized i.buffered.at (512 * i.size) i.buffered.bytes file i.sized i.within)
    (seen_bytes i.buffered.at (512 * i.size) i.buffered.bytes file i.sized i.bytes i.within i.buffered_bytes)

pub returns-clause-syncable : goal.returns-clause-syncable
returns-clause-syncable g c =
    let i = c.args.self.now.image in
    λ k. blocks_sound i.size k (durability_seen i) (seen_sound i.buffered.at (length i.buffered.bytes) (g.F.RawFile.durability i.file) i.sound)
