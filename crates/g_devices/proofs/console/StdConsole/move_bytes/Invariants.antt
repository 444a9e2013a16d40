-- The line so far.
use Rattle.std.proofs.Common.{◌≡◌, ◌≢◌, ◌≤◌, ◌-◌, All, length, take}
use Rattle.g_devices.proofs.console.StdConsole.move_bytes.Given as goal

abbrev pub invariant-bytes : goal.invariant-bytes
invariant-bytes g l = record {
  within : l.moved.count ≤ length l.into;
  one_line : All (λ byte. byte ≢ 10) (take l.moved.count l.into);
  faults : l.self.faults ≡ l.fn.self.faults;
}

abbrev pub decreases-bytes : goal.decreases-bytes
decreases-bytes g l = 4096 - l.self.from
