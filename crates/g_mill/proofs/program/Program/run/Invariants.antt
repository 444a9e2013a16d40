use Rattle.std.proofs.Common.{◌<◌, ◌^◌}
use Rattle.g_mill.specs.Machine.{going_to}
use Rattle.g_mill.specs.Running.{RunsTo}
use Rattle.g_mill.proofs.program.Program.run.Given as goal

abbrev pub invariant-loop-done : goal.invariant-loop-done
invariant-loop-done l = record {
  ran : RunsTo l.done l.fn.self (going_to l.self l.at);
  in_range : l.at < 2 ^ 15;
}
