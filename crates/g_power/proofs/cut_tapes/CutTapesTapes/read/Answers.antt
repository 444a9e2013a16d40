use Rattle.std.proofs.Common.{Some, map, refl, subst, sym, ap, ◌∙◌}
use Rattle.g_files.proofs.FileRackLemmas.{free_at, read_refused, reels_set, refused_at}
use Rattle.g_tape.specs.Place.{IsPlaceOf}
use Rattle.g_tape.specs.Rack.{refuses_read}
use Rattle.g_tape.specs.Reel.{Reel}
use Rattle.g_power.specs.CutReel.{reel_of}
use Rattle.g_power.specs.CutTapes.{rack_of}
use Rattle.g_power.proofs.RackLemmas.{read_done, read_failed}
use Rattle.g_power.proofs.ReelLemmas.{is_reel}
use Rattle.g_power.proofs.cut_tapes.CutTapesTapes.read.Goals as goal

pub invariant_of-self-then-is_err : goal.invariant_of-self-then-is_err
invariant_of-self-then-is_err c =
    let t = c.args.self.now in
    let i = c.in-Some.place in
    let place = subst (λ rs. IsPlaceOf c.args.serial (map reel_of rs) i) c.deref.ensures.value c.in-Some.ensures in
    let was = c.index_mut.result.now in
    let now = c.read.new.self in record {
      well_formed = reels_set reel_of c.args.serial 0 i t.reels.items was now place c.index_mut.ensures.value t.well_formed (is_reel now)
          (ap (λ (r : Reel). r.serial) c.read.ensures.same);
      fused = t.fused;
    }

pub invariant_of-self-else-is_err : goal.invariant_of-self-else-is_err
invariant_of-self-else-is_err c =
    let t = c.args.self.now in
    let i = c.in-Some.place in
    let place = subst (λ rs. IsPlaceOf c.args.serial (map reel_of rs) i) c.deref.ensures.value c.in-Some.ensures in
    let was = c.index_mut.result.now in
    let now = c.read.new.self in record {
      well_formed = reels_set reel_of c.args.serial 0 i t.reels.items was now place c.index_mut.ensures.value t.well_formed (is_reel now)
          (ap (λ (r : Reel). r.serial) c.read.ensures.same);
      fused = t.fused;
    }

pub returns-then-is_err : goal.returns-then-is_err
returns-then-is_err c =
    let t = c.args.self.now in
    let i = c.in-Some.place in
    let place = subst (λ rs. IsPlaceOf c.args.serial (map reel_of rs) i) c.deref.ensures.value c.in-Some.ensures in
    let was = c.index_mut.result.now in
    let free = free_at reel_of c.args.serial 0 i t.reels.items was was place c.index_mut.ensures.value (refuses_read c.args.k) c.index.result.now
    c.refuses_read.result c.index.ensures (c.refuses_read.ensures ∙ ap (λ (r : Reel). refuses_read c.args.k (Some r)) c.state.ensures.value)
    c.in_default-refuses_read.is in
    read_failed c.args.serial c.args.k i t.reels.items was c.read.new.self place c.index_mut.ensures.value t.read_faults t.write_faults t.fuse t.arms
    c.read.new.into c.raised-self.result free c.read.ensures.same c.raised-self.ensures

pub returns : goal.returns
returns c =
    let t = c.args.self.now in
    let i = c.in-Some.place in
    let place = subst (λ rs. IsPlaceOf c.args.serial (map reel_of rs) i) c.deref.ensures.value c.in-Some.ensures in
    let was = c.index_mut.result.now in
    let free = free_at reel_of c.args.serial 0 i t.reels.items was was place c.index_mut.ensures.value (refuses_read c.args.k) c.index.result.now
    c.refuses_read.result c.index.ensures (c.refuses_read.ensures ∙ ap (λ (r : Reel). refuses_read c.args.k (Some r)) c.state.ensures.value)
    c.in_default-refuses_read.is in
    read_done c.args.serial c.args.k i t.reels.items was c.read.new.self place c.index_mut.ensures.value t.read_faults t.write_faults t.fuse t.arms
    c.read.new.into free c.read.ensures.same

pub returns-in-Some-refuses_read : goal.returns-in-Some-refuses_read
returns-in-Some-refuses_read c =
    let t = c.args.self.now in
    let i = c.in-Some.place in
    let k = c.args.k in
    let place = subst (λ rs. IsPlaceOf c.args.serial (map reel_of rs) i) c.deref.ensures.value c.in-Some.ensures in
    let here = c.index.result.now in
    let refused = refused_at reel_of c.args.serial 0 i t.reels.items here here place c.index.ensures (refuses_read k) c.refuses_read.result
    c.in-Some-refuses_read.fault (c.refuses_read.ensures ∙ ap (λ (r : Reel). refuses_read k (Some r)) c.state.ensures.value) c.in-Some-refuses_read.is in
    read_refused c.args.serial k (rack_of t) c.args.into.now c.in-Some-refuses_read.fault refused
