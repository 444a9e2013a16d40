use Rattle.std.proofs.Common.{List, drop, length, subst, sym, ap, ◌∙◌, arith}
use Rattle.std.specs.Prelude.{option_map}
use Rattle.g_console.specs.Transcript.{requesting}
use Rattle.g_memory_console.specs.Memory.{AreFirstWhile, ConsoleView, Leaves, shown, typed_of}
use Rattle.g_memory_console.specs.declared.memory.Noted.{Noted}
use Rattle.g_memory_console.proofs.MemoryLemmas.{first_while, shown_noted}
use Rattle.g_memory_console.proofs.memory.MemoryConsole.note.Goals as goal

pub invariant_of-self-2 : goal.invariant_of-self-2
invariant_of-self-2 c =
    let leaves = subst (λ (v : ConsoleView). Leaves (typed_of c.args.line) v.left (drop c.args.at v.input)) (sym c.self.view_is) c.requires.leaves in (
      omega (arith, c.requires.within, ap (λ (v : ConsoleView). length v.input) c.self.view_is),
      subst (λ (rs : List Noted). AreFirstWhile c.self.inside.exposed c.self.inside.input.items (drop c.args.at c.self.inside.input.items) rs) (sym c.in-Ok.ensures.items)
          (first_while c.self.inside.exposed c.self.inside.input.items (drop c.self.inside.at c.self.inside.input.items) (drop c.args.at c.self.inside.input.items) c.self.inside.requests.items _ leaves c.self.invariant.1),
    )

pub returns-clause-noted : goal.returns-clause-noted
returns-clause-noted c =
    ap (λ (rs : List Noted). shown c.self.inside.exposed rs c.self.inside.text) c.in-Ok.ensures.items
    ∙ shown_noted c.self.inside.exposed c.self.inside.requests.items c.self.inside.text _ (ap length c.as_slice-printed.ensures)
    ∙ ap (λ (v : ConsoleView). option_map (requesting (typed_of c.args.line)) v.transcript) c.self.view_is
