use Rattle.std.proofs.Common.{◌≡◌, ◌⊎◌, ◌≤◌, length, take, Ok}
use Rattle.std.specs.declared.io.Error.{Error}
use Rattle.g_files.specs.Bytes.{put}
use Rattle.g_files.specs.Durability.{HasSyncable, WritesDurability}
use Rattle.g_base.specs.Counts.{Rose}
use Rattle.g_base.specs.ToldContent.{Changes}
use Rattle.g_files.proofs.whole.write_whole.Given as goal

abbrev pub invariant-loop-call : goal.invariant-loop-call
invariant-loop-call g l = record {
  within : l.done ≤ length l.from;
  told : Changes (λ old new. new ≡ put l.at (take l.done l.from) old) (g.F.RawFile.content l.fn.file) (g.F.RawFile.content l.file);
  durability : WritesDurability {T = Unit {0}} {E = Error} l.at l.from (g.F.RawFile.content l.fn.file) (g.F.RawFile.durability l.fn.file)
      (g.F.RawFile.durability l.file) (Ok tt);
  syncable : HasSyncable l.at l.done (g.F.RawFile.durability l.file);
  later : g.F.RawFile.faults l.fn.file ≤ g.F.RawFile.faults l.file;
  tried : (l._call ≤ l.done) ⊎ Rose (g.F.RawFile.faults l.fn.file) (g.F.RawFile.faults l.file);
}
