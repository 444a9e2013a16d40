use Rattle.std.proofs.Common.{arith}
use Rattle.g_look.proofs.CompareLemmas.{owner_in}
use Rattle.g_look.proofs.ReadLemmas.{compared_step, files_step, ok_not_err}
use Rattle.g_look.proofs.bytes.compare_files.Goals as goal

pub full_of-requires : goal.full_of-requires
full_of-requires g c = owner_in _ _ c.requires.sound _ _ c.as_slice-file-items.ensures.value c.as_slice.ensures.value _ _ (omega arith) c.file-item.is

pub loop-file-preserved : goal.loop-file-preserved
loop-file-preserved g c = (
  compared_step _ _ (g.D.Disc.state c.args.disc.now) (g.D.Disc.state c.loop-file.disc) _ _ _ _ _ _ _ _ _ _ c.as_slice-file-items.ensures.value (omega arith) c.file-item.is c.loop-file.invariant.0 c.in-Ok-None.ensures.disc (ok_not_err _ _)
      c.in-Ok-None.ensures.tapes (ok_not_err _ _) (rw c.in-Ok-None.field-0-is at c.in-Ok-None.ensures.none),
  files_step _ _ _ _ _ _ _ _ c.as_slice-file-items.ensures.value (omega arith) c.file-item.is c.loop-file.invariant.0.tape_reads.only c.in-Ok-None.ensures.tapes.only c.loop-file.invariant.1 c.in-Ok-None.ensures.read,
)
