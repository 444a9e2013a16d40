-- The lines so far.
use Rattle.std.proofs.Common.{◌≡◌, ◌+◌, ◌<◌, ◌++◌, All, List, None, length}
use Rattle.g_script.specs.declared.operator.Timed.{Timed}
use Rattle.g_ticks.specs.Parts.{DidLines, IsTimedWithin}
use Rattle.g_run.proofs.script.do_lines.Given as goal

abbrev pub invariant-lines : goal.invariant-lines
invariant-lines g l = record {
  none : l.ended.failure ≡ None;
  within : All IsTimedWithin l.lines.items;
  numbers : l.ended.day.crew.next_job + length l.lines.items < 18446744073709551616;
  did : (done : List Timed) × (l.fn.lines ≡ done ++ l.lines.items) × DidLines g.F.Fn l.rules.tariff.now g.U.Fn l.rules.weigh.now done l.fn.day None
      l.ended.day
      (g.K.Sink.written l.fn.out) (g.K.Sink.written l.out) (g.K.Sink.faults l.fn.out) (g.K.Sink.faults l.out);
}

abbrev pub decreases-lines : goal.decreases-lines
decreases-lines g l = length l.lines.items
