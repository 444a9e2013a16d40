use Rattle.std.proofs.Common.{◌≡◌, replicate, take}
use Rattle.std.specs.Option.{ForSome}
use Rattle.g_files.proofs.blank.is_blank.Given as goal

abbrev pub invariant-loop-read : goal.invariant-loop-read
invariant-loop-read g l = record {
  same : g.F.RawFile.content l.file ≡ g.F.RawFile.content l.fn.file;
  zeros : ForSome (g.F.RawFile.content l.fn.file) (λ bytes. take l.at bytes ≡ replicate l.at 0);
}
