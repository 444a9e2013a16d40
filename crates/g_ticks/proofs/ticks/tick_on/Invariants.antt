-- The ticks so far.
use Rattle.std.proofs.Common.{◌≡◌, None, false}
use Rattle.g_job_table.specs.Weights.{AreWeights}
use Rattle.g_day.specs.Parts.{seen}
use Rattle.g_day.specs.System.{Up}
use Rattle.g_ticks.specs.Tick.{left}
use Rattle.g_ticks.specs.Turning.{left_of}
use Rattle.g_ticks.specs.Parts.{Anything, DidTicks, HasRoom}
use Rattle.g_ticks.specs.Watch.{HaveAll}
use Rattle.g_ticks.proofs.UntilLemmas.{ticks_left}
use Rattle.g_ticks.proofs.ticks.tick_on.Given as goal

abbrev pub invariant-ticks : goal.invariant-ticks
invariant-ticks g l = record {
  did : DidTicks g.F.Fn l.rules.tariff.now g.U.Fn l.rules.weigh.now Anything l.limit (seen (Up l.fn.up.store.running) l.fn.up.crew l.fn.up.count) l.failure (seen (left_of l.up.store.running) l.up.crew l.up.count)
      (g.K.Sink.written l.fn.out) (g.K.Sink.written l.out) (g.K.Sink.faults l.fn.out) (g.K.Sink.faults l.out);
  room : l.failure ≡ None → HasRoom l.limit (seen (left_of l.up.store.running) l.up.crew l.up.count);
  weighed : l.failure ≡ None → l.up.store.running.spent ≡ false → AreWeights g.U.Fn l.rules.weigh.now l.up.crew.jobs l.weights;
  accounts : l.failure ≡ None → l.up.store.running.spent ≡ false → HaveAll l.up.store l.up.crew;
}

abbrev pub decreases-ticks : goal.decreases-ticks
decreases-ticks g l = ticks_left l.failure (left (seen (left_of l.up.store.running) l.up.crew l.up.count))
