use Rattle.std.proofs.Common.{◌≡◌, length}
use Rattle.std.specs.Option.{ForSome}
use Rattle.g_files.proofs.streams.read_some.Given as goal

abbrev pub invariant-loop-call : goal.invariant-loop-call
invariant-loop-call g l = record {
  long : length l.into ≡ length l.fn.into;
  same : g.I.RawInput.left l.input ≡ g.I.RawInput.left l.fn.input;
  kept : ForSome (g.I.RawInput.left l.fn.input) (λ _. l.into ≡ l.fn.into);
}
