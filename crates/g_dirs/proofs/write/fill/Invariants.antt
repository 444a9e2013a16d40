use Rattle.std.proofs.Common.{◌-◌, ◌≤◌, Ok}
use Rattle.g_dirs.specs.Pages.{KeepsMarks}
use Rattle.g_dirs.specs.declared.fault.DirsFault.{DirsFault}
use Rattle.g_dirs.specs.Writing.{DirtiesSlot, WroteFirst}
use Rattle.g_dirs.proofs.write.fill.Given as goal

abbrev pub invariant-loop-k : goal.invariant-loop-k
invariant-loop-k g l = record {
  within : l.k ≤ 1088;
  wrote : WroteFirst l.slots l.fn.listing l.k (g.D.Disc.state l.initial.disc) (g.D.Disc.state l.disc) l.initial.last l.last;
  marks : KeepsMarks l.initial.last l.last;
  dirties : DirtiesSlot {T = Unit {0}} {E = DirsFault} l.slots (g.D.Disc.state l.initial.disc) (g.D.Disc.state l.disc) l.initial.last l.last (Ok tt);
}

abbrev pub decreases-loop-k : goal.decreases-loop-k
decreases-loop-k g l = 1088 - l.k
