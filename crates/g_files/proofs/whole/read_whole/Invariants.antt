use Rattle.std.proofs.Common.{◌≡◌, ◌≤◌, length, take}
use Rattle.std.specs.Option.{ForSome}
use Rattle.g_files.specs.Bytes.{part}
use Rattle.g_files.proofs.whole.read_whole.Given as goal

abbrev pub invariant-loop-call : goal.invariant-loop-call
invariant-loop-call g l = record {
  within : l.done ≤ length l.into;
  same : g.F.RawFile.content l.file ≡ g.F.RawFile.content l.fn.file;
  as_durable : g.F.RawFile.durability l.file ≡ g.F.RawFile.durability l.fn.file;
  told : ForSome (g.F.RawFile.content l.fn.file) (λ bytes. take l.done l.into ≡ part l.at l.done bytes);
}
