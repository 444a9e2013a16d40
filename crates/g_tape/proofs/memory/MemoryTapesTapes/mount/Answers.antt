-- The reel that was found is changed at its place.
use Rattle.std.proofs.Common.{true, refl}
use Rattle.g_tape.specs.Rack.{refuses_mount}
use Rattle.g_tape.specs.Memory.{rack_of}
use Rattle.g_tape.proofs.RackLemmas.{mounted-there, well-mounted}
use Rattle.g_tape.proofs.memory.MemoryTapesTapes.mount.Goals as goal

pub invariant_of-self : goal.invariant_of-self
invariant_of-self c = record {
  well_formed = well-mounted true c.args.serial c.in-Some.place (rack_of c.args.self.now) _ _ _ c.deref.ensures.value c.in-Some.ensures c.index_mut.ensures.value
      c.set_mounted.ensures.value c.args.self.now.well_formed;
  fused = c.args.self.now.fused;
}

pub returns-clause-mounting : goal.returns-clause-mounting
returns-clause-mounting c =
    mounted-there true c.args.serial c.in-Some.place (rack_of c.args.self.now) _ _ _ c.deref.ensures.value c.in-Some.ensures c.index_mut.ensures.value
    c.set_mounted.ensures.value refuses_mount refl
