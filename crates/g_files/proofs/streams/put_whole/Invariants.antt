use Rattle.std.proofs.Common.{◌≡◌, ◌≤◌, length, take}
use Rattle.g_io.specs.Streams.{with_more}
use Rattle.g_files.proofs.streams.put_whole.Given as goal

abbrev pub invariant-loop-call : goal.invariant-loop-call
invariant-loop-call g l = record {
  within : l.done ≤ length l.piece;
  put : g.O.RawOutput.written l.output ≡ with_more (g.O.RawOutput.written l.fn.output) (take l.done l.piece);
}
