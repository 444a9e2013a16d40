use Rattle.std.proofs.Common.{◌*◌, arith, length-take, take}
use Rattle.g_base.specs.declared.fault.WriteFailed.{WriteFailed}
use Rattle.g_files.specs.Image.{durability_seen, seen}
use Rattle.g_files.proofs.BytesLemmas.{AreBytes-take}
use Rattle.g_files.proofs.DiscLemmas.{block_torn, torn_err, written_ok}
use Rattle.g_files.proofs.DurabilityLemmas.{torn_write}
use Rattle.g_files.proofs.ImageLemmas.{seen_bytes, seen_sized}
use Rattle.g_files.proofs.file_disc.write_block.Goals as goal

pub write_through-torn-requires-clause-bytes : goal.write_through-torn-requires-clause-bytes
write_through-torn-requires-clause-bytes g c = AreBytes-take 256 c.args.from.now (λ j. c.fits-from j)

pub returns-then-fires-clause-torn : goal.returns-then-fires-clause-torn
returns-then-fires-clause-torn g c =
    let i = c.args.image.now in
    let file = g.F.RawFile.content i.file in
    let from = c.args.from.now in
    let size = c.write_through-torn.ensures.size in
    rw size (block_torn i.size c.args.k (take 256 from) c.write_through-torn.result (seen i) (seen c.write_through-torn.new.self) c.requires
    (omega (arith, length-take 256 from)) (AreBytes-take 256 from (λ j. c.fits-from j))
    (seen_sized i.buffered.at (512 * i.size) i.buffered.bytes file i.sized i.within)
    (seen_bytes i.buffered.at (512 * i.size) i.buffered.bytes file i.sized i.bytes i.within i.buffered_bytes)
    c.write_through-torn.ensures.written)

pub returns-clause-block : goal.returns-clause-block
returns-clause-block g c =
    let i = c.args.image.now in
    let size = c.write.ensures.size in
    rw size (written_ok i.size c.args.k c.args.from.now c.write.result (seen i) (seen c.write.new.self) c.requires c.told-from
    (seen_sized i.buffered.at (512 * i.size) i.buffered.bytes (g.F.RawFile.content i.file) i.sized i.within) c.write.ensures.written)

pub returns-clause-torn : goal.returns-clause-torn
returns-clause-torn g c =
    let i = c.args.image.now in
    let file = g.F.RawFile.content i.file in
    let size = c.write.ensures.size in
    let whole = c.told-from in
    rw size (torn_err i.size c.args.k c.args.from.now c.write.result (seen i) (seen c.write.new.self) c.requires (omega (arith, whole)) (λ j. c.fits-from j)
    (seen_sized i.buffered.at (512 * i.size) i.buffered.bytes file i.sized i.within)
    (seen_bytes i.buffered.at (512 * i.size) i.buffered.bytes file i.sized i.bytes i.within i.buffered_bytes) c.write.ensures.written)

pub returns-then-fires-clause-durability : goal.returns-then-fires-clause-durability
returns-then-fires-clause-durability g c =
    let i = c.args.image.now in
    let new = c.write_through-torn.new.self in
    let e : WriteFailed = record {} in
    torn_write c.args.k c.args.from.now (take 256 c.args.from.now) (seen i) (seen new) (durability_seen i) (durability_seen new) c.write_through-torn.result e
    c.write_through-torn.ensures.durability
