-- The reel that was found is changed at its place.
use Rattle.std.proofs.Common.{List, Some, false, ap, subst, ◌∙◌}
use Rattle.g_tape.specs.Reel.{Reel}
use Rattle.g_tape.specs.Rack.{refuses_unmount}
use Rattle.g_tape.specs.Place.{IsPlaceOf}
use Rattle.g_tape.specs.Memory.{rack_of}
use Rattle.g_tape.proofs.RackLemmas.{mounted-there, still-free, well-mounted}
use Rattle.g_tape.proofs.memory.MemoryTapesTapes.unmount.Goals as goal

pub invariant_of-self : goal.invariant_of-self
invariant_of-self c = record {
  well_formed = well-mounted false c.args.serial c.in-Some.place (rack_of c.args.self.now) _ _ _ c.deref.ensures.value c.in-Some.ensures c.index_mut.ensures.value
      c.set_mounted.ensures.value c.args.self.now.well_formed;
  fused = c.args.self.now.fused;
}

pub returns-clause-mounting : goal.returns-clause-mounting
returns-clause-mounting c =
    let place = subst (λ (rs : List Reel). IsPlaceOf c.args.serial rs c.in-Some.place) c.deref.ensures.value c.in-Some.ensures in
    let free = still-free refuses_unmount _ _ _ _ _ place.within c.index.ensures c.index_mut.ensures.value
    (c.refuses_unmount.ensures ∙ ap (λ (r : Reel). refuses_unmount (Some r)) c.state.ensures) c.in_default-refuses_unmount.is in
    mounted-there false c.args.serial c.in-Some.place (rack_of c.args.self.now) _ _ _ c.deref.ensures.value c.in-Some.ensures c.index_mut.ensures.value
    c.set_mounted.ensures.value refuses_unmount free
