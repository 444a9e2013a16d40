use Rattle.std.proofs.Common.{◌≡◌, drop, find}
use Rattle.g_macro.specs.Questions.{cond_holds}
use Rattle.g_macro.specs.Levels.{entry_that_holds}
use Rattle.g_macro.proofs.level.Level.entry_that_holds.Given as goal

abbrev pub invariant-loop-entry : goal.invariant-loop-entry
invariant-loop-entry l = entry_that_holds l.self l.outcome ≡ find (λ entry. cond_holds l.self.params l.outcome entry.cond) (drop l.entry-index l.entry-items)
