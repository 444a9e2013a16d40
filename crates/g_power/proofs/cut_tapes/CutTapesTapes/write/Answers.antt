use Rattle.std.proofs.Common.{◌≡◌, Some, Ok, Err, true, map, refl, subst, sym, ap, ◌∙◌}
use Rattle.g_base.proofs.FuseLemmas.{fused_failed, fused_well}
use Rattle.g_files.proofs.FileRackLemmas.{free_at, left_any, reels_set, refused_at, serial_left, write_refused}
use Rattle.g_tape.specs.Place.{IsPlaceOf}
use Rattle.g_tape.specs.Rack.{refuses_write}
use Rattle.g_tape.specs.Reel.{Reel}
use Rattle.g_tape.specs.declared.fault.TapeFault.TheVariants.{WriteFailed}
use Rattle.g_tape.proofs.DurableLemmas.{writes_durably}
use Rattle.g_power.specs.CutReel.{reel_of}
use Rattle.g_power.specs.CutTapes.{rack_of}
use Rattle.g_power.proofs.RackLemmas.{ok_holds, write_done, write_failed}
use Rattle.g_power.proofs.ReelLemmas.{is_reel}
use Rattle.g_power.proofs.cut_tapes.CutTapesTapes.write.Goals as goal

pub invariant_of-self-then-is_err : goal.invariant_of-self-then-is_err
invariant_of-self-then-is_err c =
    let t = c.args.self.now in
    let i = c.in-Some.place in
    let k = c.args.k in
    let place = subst (λ rs. IsPlaceOf c.args.serial (map reel_of rs) i) c.deref.ensures.value c.in-Some.ensures in
    let was = c.index_mut.result.now in
    let now = c.end_with.new.self in
    record {
      well_formed = reels_set reel_of c.args.serial 0 i t.reels.items was now place c.index_mut.ensures.value t.well_formed (is_reel now)
          (serial_left k (reel_of was) (reel_of now) (left_any k c.args.from.now (reel_of was) (reel_of now) c.end_with.result c.end_with.ensures.done c.end_with.ensures.left));
      fused = fused_failed t.write_faults c.raised-self.result t.arms t.fuse c.burn-fires.new.self c.burn-fires.ensures.left c.raised-self.ensures t.fused;
    }

pub invariant_of-self-else-is_err : goal.invariant_of-self-else-is_err
invariant_of-self-else-is_err c =
    let t = c.args.self.now in
    let i = c.in-Some.place in
    let k = c.args.k in
    let place = subst (λ rs. IsPlaceOf c.args.serial (map reel_of rs) i) c.deref.ensures.value c.in-Some.ensures in
    let was = c.index_mut.result.now in
    let now = c.end_with.new.self in
    record {
      well_formed = reels_set reel_of c.args.serial 0 i t.reels.items was now place c.index_mut.ensures.value t.well_formed (is_reel now)
          (serial_left k (reel_of was) (reel_of now) (left_any k c.args.from.now (reel_of was) (reel_of now) c.end_with.result c.end_with.ensures.done c.end_with.ensures.left));
      fused = fused_well t.write_faults t.arms t.fuse c.burn-fires.new.self c.burn-fires.ensures.left
          (λ one. ok_holds c.end_with.result (sym c.is_err.ensures.value ∙ c.if-is_err.false) (c.end_with.ensures.fired (c.burn-fires.ensures.fires.1 one))) t.fused;
    }

pub returns-then-is_err : goal.returns-then-is_err
returns-then-is_err c =
    let t = c.args.self.now in
    let i = c.in-Some.place in
    let k = c.args.k in
    let place = subst (λ rs. IsPlaceOf c.args.serial (map reel_of rs) i) c.deref.ensures.value c.in-Some.ensures in
    let was = c.index_mut.result.now in
    let free = free_at reel_of c.args.serial 0 i t.reels.items was was place c.index_mut.ensures.value (refuses_write k) c.index.result.now
    c.refuses_write.result c.index.ensures (c.refuses_write.ensures ∙ ap (λ (r : Reel). refuses_write k (Some r)) c.state.ensures.value)
    c.in_default-refuses_write.is in
    let written = write_failed c.args.serial k i t.reels.items was c.end_with.new.self place c.index_mut.ensures.value t.read_faults t.write_faults t.fuse t.arms
    c.args.from.now c.burn-fires.new.self c.raised-self.result free
    (left_any k c.args.from.now (reel_of was) (reel_of c.end_with.new.self) c.end_with.result c.end_with.ensures.done c.end_with.ensures.left)
    c.burn-fires.ensures.left c.raised-self.ensures in record {
      written = written;
      durable = writes_durably c.args.serial k c.args.from.now (rack_of t) _ refl refl t.well_formed (Err WriteFailed) written;
    }

pub returns : goal.returns
returns c =
    let t = c.args.self.now in
    let i = c.in-Some.place in
    let k = c.args.k in
    let place = subst (λ rs. IsPlaceOf c.args.serial (map reel_of rs) i) c.deref.ensures.value c.in-Some.ensures in
    let was = c.index_mut.result.now in
    let free = free_at reel_of c.args.serial 0 i t.reels.items was was place c.index_mut.ensures.value (refuses_write k) c.index.result.now
    c.refuses_write.result c.index.ensures (c.refuses_write.ensures ∙ ap (λ (r : Reel). refuses_write k (Some r)) c.state.ensures.value)
    c.in_default-refuses_write.is in
    let written = write_done c.args.serial k i t.reels.items was c.end_with.new.self place c.index_mut.ensures.value t.read_faults t.write_faults t.fuse t.arms
    c.args.from.now c.burn-fires.new.self free (ok_holds c.end_with.result (sym c.is_err.ensures.value ∙ c.if-is_err.false) c.end_with.ensures.done)
    c.burn-fires.ensures.left (λ armed. ok_holds c.end_with.result (sym c.is_err.ensures.value ∙ c.if-is_err.false) (c.end_with.ensures.fired (c.burn-fires.ensures.fires.1 armed))) in record {
      written = written;
      durable = writes_durably c.args.serial k c.args.from.now (rack_of t) _ refl refl t.well_formed (Ok tt) written;
    }

pub returns-in-Some-refuses_write : goal.returns-in-Some-refuses_write
returns-in-Some-refuses_write c =
    let t = c.args.self.now in
    let i = c.in-Some.place in
    let k = c.args.k in
    let place = subst (λ rs. IsPlaceOf c.args.serial (map reel_of rs) i) c.deref.ensures.value c.in-Some.ensures in
    let here = c.index.result.now in
    let refused = refused_at reel_of c.args.serial 0 i t.reels.items here here place c.index.ensures (refuses_write k) c.refuses_write.result
    c.in-Some-refuses_write.fault (c.refuses_write.ensures ∙ ap (λ (r : Reel). refuses_write k (Some r)) c.state.ensures.value) c.in-Some-refuses_write.is in
    let written = write_refused c.args.serial k c.args.from.now (rack_of t) c.in-Some-refuses_write.fault refused in record {
      written = written;
      durable = writes_durably c.args.serial k c.args.from.now (rack_of t) _ refl refl t.well_formed (Err c.in-Some-refuses_write.fault) written;
    }
