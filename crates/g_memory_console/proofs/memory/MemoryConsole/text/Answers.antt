use Rattle.std.proofs.Common.{◌≡◌, Some, drop, subst}
use Rattle.g_memory_console.specs.Memory.{AreFirst, ConsoleView}
use Rattle.g_memory_console.proofs.MemoryLemmas.{shown_first}
use Rattle.g_memory_console.proofs.memory.MemoryConsole.text.Goals as goal

pub returns-clause-lines : goal.returns-clause-lines
returns-clause-lines c = λ t.
    subst (λ (v : ConsoleView). v.transcript ≡ Some t → AreFirst v.input v.left t.requests) c.self.view_is
    (λ shows. shown_first c.self.inside.exposed c.self.inside.input.items (drop c.self.inside.at c.self.inside.input.items) c.self.inside.text c.self.inside.requests.items t shows c.self.invariant.1)
