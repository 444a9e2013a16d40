use Rattle.std.proofs.Common.{◌≡◌, ◌-◌, List, ℕ, ◌∷◌, drop, length, subst, sym, ap, ◌∙◌, arith}
use Rattle.g_lines.specs.Lines.{lines_of}
use Rattle.g_memory_console.specs.Memory.{ConsoleView}
use Rattle.g_memory_console.proofs.MemoryLemmas.{line_leaves}
use Rattle.g_memory_console.proofs.memory.MemoryConsoleConsole.take_line.Goals as goal

pub note-requires-in-Ok-clause-leaves : goal.note-requires-in-Ok-clause-leaves
note-requires-in-Ok-clause-leaves c =
    let (front, e) = c.first_line.ensures.after in
    let whole : c.len.result ≡ length c.args.self.now.input = omega (arith, c.len.ensures, c.deref.ensures.len, ap length c.deref.ensures.value, ap (λ (v : ConsoleView). length v.input) c.self.view_is) in
    let leaves = line_leaves c.deref.result.now c.first_line.result.0.now c.first_line.result.1.now c.self.inside.at c.first_line.ensures.lines front e in
    subst (λ (n : ℕ). lines_of c.args.self.now.left ≡ c.in-Ok.line ∷ lines_of (drop (n - length c.first_line.result.1.now) c.args.self.now.input)) (sym whole)
    (subst (λ (v : ConsoleView). lines_of v.left ≡ c.in-Ok.line ∷ lines_of (drop (length v.input - length c.first_line.result.1.now) v.input)) c.self.view_is
    (subst (λ (bytes : List ℕ). lines_of (drop c.self.inside.at bytes) ≡ c.in-Ok.line ∷ lines_of (drop (length bytes - length c.first_line.result.1.now) bytes)) c.deref.ensures.value
    (leaves ∙ ap (λ (line : List ℕ). line ∷ lines_of (drop (length c.deref.result.now - length c.first_line.result.1.now) c.deref.result.now)) (sym c.in-Ok.ensures))))
