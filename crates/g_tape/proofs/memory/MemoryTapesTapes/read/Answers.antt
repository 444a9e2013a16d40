-- The reel that was found is read at its place.
use Rattle.std.proofs.Common.{List, Some, subst, ap, ◌∙◌}
use Rattle.g_tape.specs.Reel.{Reel}
use Rattle.g_tape.specs.Rack.{refuses_read}
use Rattle.g_tape.specs.Place.{IsPlaceOf}
use Rattle.g_tape.proofs.MemoryLemmas.{not-among, reads-done}
use Rattle.g_tape.proofs.RackLemmas.{AreReels-set, still-free}
use Rattle.g_tape.proofs.memory.MemoryTapesTapes.read.Goals as goal

pub invariant_of-self-2 : goal.invariant_of-self-2
invariant_of-self-2 c =
    let place = subst (λ (rs : List Reel). IsPlaceOf c.args.serial rs c.in-Some.place) c.deref.ensures.value c.in-Some.ensures in
    record {
      well_formed = AreReels-set _ _ _ _ c.args.self.now.well_formed place.within c.index_mut.ensures.value c.read.ensures.keeps
          (ap (λ (r : Reel). r.serial) c.read.ensures.value);
      fused = c.args.self.now.fused;
    }

pub returns : goal.returns
returns c =
    let place = subst (λ (rs : List Reel). IsPlaceOf c.args.serial rs c.in-Some.place) c.deref.ensures.value c.in-Some.ensures in
    let free = still-free (refuses_read c.args.k) _ _ _ _ _ place.within c.index.ensures c.index_mut.ensures.value
    (c.refuses_read.ensures ∙ ap (λ (r : Reel). refuses_read c.args.k (Some r)) c.state.ensures) c.in_default-refuses_read.is in
    reads-done c.args.serial c.args.k c.in-Some.place _ c.raised-self.result c.index_mut.result.now c.read.new.self c.read.new.into place c.index_mut.ensures.value free
    c.read.ensures.block c.read.ensures.value c.raised-self.ensures
    (not-among _ _ _ c.deref-2.ensures.value c.if-contains.ensures.cases)
