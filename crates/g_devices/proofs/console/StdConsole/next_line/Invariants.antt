-- The line so far.
use Rattle.std.proofs.Common.{◌≡◌, ◌≢◌, ◌≤◌, All, length, take}
use Rattle.g_devices.proofs.console.StdConsole.next_line.Given as goal

abbrev pub invariant-pieces : goal.invariant-pieces
invariant-pieces g l = record {
  within : l.moved.count ≤ length l.into;
  one_line : All (λ byte. byte ≢ 10) (take l.moved.count l.into);
  faults : l.self.faults ≡ l.fn.self.faults;
}
