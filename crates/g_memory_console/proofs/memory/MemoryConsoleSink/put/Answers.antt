use Rattle.std.proofs.Common.{List, ℕ, ap, ◌∙◌}
use Rattle.std.specs.Prelude.{option_map}
use Rattle.g_console.specs.Transcript.{written_of}
use Rattle.g_io.specs.Streams.{with_more}
use Rattle.g_memory_console.specs.Memory.{ConsoleView, shown}
use Rattle.g_memory_console.proofs.MemoryLemmas.{shown_more}
use Rattle.g_memory_console.proofs.memory.MemoryConsoleSink.put.Goals as goal

pub returns-in-Ok-clause-put : goal.returns-in-Ok-clause-put
returns-in-Ok-clause-put c =
    ap (λ (text : List ℕ). option_map written_of (shown c.self.inside.exposed c.self.inside.requests.items text)) c.in-Ok.ensures.ok
    ∙ shown_more c.self.inside.exposed c.self.inside.requests.items c.self.inside.text c.args.piece.now
    ∙ ap (λ (v : ConsoleView). with_more (option_map written_of v.transcript) c.args.piece.now) c.self.view_is
