-- The reel that was found is written, or torn, at its place.
use Rattle.std.proofs.Common.{◌≡◌, List, Some, true, refl, subst, ap, ◌∙◌}
use Rattle.g_base.proofs.FuseLemmas.{fused_failed, fused_well}
use Rattle.g_tape.specs.Reel.{Reel}
use Rattle.g_tape.specs.Rack.{refuses_write}
use Rattle.g_tape.specs.Place.{IsPlaceOf}
use Rattle.g_tape.proofs.MemoryLemmas.{writes-done, writes-torn}
use Rattle.g_tape.proofs.RackLemmas.{AreReels-set, still-free}
use Rattle.g_tape.proofs.memory.MemoryTapesTapes.write.Goals as goal

pub invariant_of-self-then-burn : goal.invariant_of-self-then-burn
invariant_of-self-then-burn c =
    let place = subst (λ (rs : List Reel). IsPlaceOf c.args.serial rs c.in-Some.place) c.deref.ensures.value c.in-Some.ensures in
    record {
      well_formed = AreReels-set _ _ _ _ c.args.self.now.well_formed place.within c.index_mut.ensures.value c.tear.ensures.keeps c.tear.ensures.serial;
      fused = fused_failed c.args.self.now.write_faults c.raised-self.result c.args.self.now.arms c.args.self.now.fuse c.burn.new.self c.burn.ensures.left c.raised-self.ensures c.args.self.now.fused;
    }

pub invariant_of-self-2 : goal.invariant_of-self-2
invariant_of-self-2 c =
    let place = subst (λ (rs : List Reel). IsPlaceOf c.args.serial rs c.in-Some.place) c.deref.ensures.value c.in-Some.ensures in
    record {
      well_formed = AreReels-set _ _ _ _ c.args.self.now.well_formed place.within c.index_mut-2.ensures.value c.end_with.ensures.keeps
          (ap (λ (r : Reel). r.serial) c.end_with.ensures.value);
      fused = fused_well c.args.self.now.write_faults c.args.self.now.arms c.args.self.now.fuse c.burn.new.self c.burn.ensures.left
          (λ one. let fires : c.burn.result ≡ true = c.burn.ensures.fires.1 one in cc) c.args.self.now.fused;
    }

pub returns-then-burn : goal.returns-then-burn
returns-then-burn c =
    let place = subst (λ (rs : List Reel). IsPlaceOf c.args.serial rs c.in-Some.place) c.deref.ensures.value c.in-Some.ensures in
    let free = still-free (refuses_write c.args.k) _ _ _ _ _ place.within c.index.ensures c.index_mut.ensures.value
    (c.refuses_write.ensures ∙ ap (λ (r : Reel). refuses_write c.args.k (Some r)) c.state.ensures) c.in_default-refuses_write.is in
    let fired : c.args.self.now.fuse ≡ Some 1 = c.burn.ensures.fires.0 c.if-burn.true in
    writes-torn c.args.serial c.args.k c.in-Some.place c.args.from.now _ c.burn.new.self c.raised-self.result c.index_mut.result.now c.tear.new.self place c.index_mut.ensures.value free
    c.tear.ensures.value c.burn.ensures.left c.raised-self.ensures fired refl c.args.self.now.well_formed

pub returns : goal.returns
returns c =
    let place = subst (λ (rs : List Reel). IsPlaceOf c.args.serial rs c.in-Some.place) c.deref.ensures.value c.in-Some.ensures in
    let free = still-free (refuses_write c.args.k) _ _ _ _ _ place.within c.index.ensures c.index_mut-2.ensures.value
    (c.refuses_write.ensures ∙ ap (λ (r : Reel). refuses_write c.args.k (Some r)) c.state.ensures) c.in_default-refuses_write.is in
    writes-done c.args.serial c.args.k c.in-Some.place c.args.from.now _ c.burn.new.self c.index_mut-2.result.now c.end_with.new.self place c.index_mut-2.ensures.value free
    c.end_with.ensures.value c.burn.ensures.left (λ one'. let fires : c.burn.result ≡ true = c.burn.ensures.fires.1 one' in cc)
    refl c.args.self.now.well_formed
