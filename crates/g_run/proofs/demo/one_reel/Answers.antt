use Rattle.std.proofs.Common.{[], subst, sym, ◌∷◌}
use Rattle.g_tape.specs.Memory.{IsEmptyRack, memory_of}
use Rattle.g_tape.specs.declared.memory.MemoryTapes.{MemoryTapes}
use Rattle.g_run.proofs.demo.one_reel.Goals as goal

pub returns-in-Ok : goal.returns-in-Ok
returns-in-Ok c = subst (λ (tapes : MemoryTapes). IsEmptyRack ((1, 8192) ∷ []) (memory_of tapes)) (sym c.in-Ok.ensures.ok) c.in_ok-tapes.ensures
