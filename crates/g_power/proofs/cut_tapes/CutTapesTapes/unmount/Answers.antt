use Rattle.std.proofs.Common.{Some, false, map, subst, ap, ◌∙◌}
use Rattle.g_files.proofs.FileRackLemmas.{free_at, reels_set}
use Rattle.g_tape.specs.Place.{IsPlaceOf}
use Rattle.g_tape.specs.Rack.{refuses_unmount}
use Rattle.g_tape.specs.Reel.{Reel}
use Rattle.g_power.specs.CutReel.{reel_of}
use Rattle.g_power.proofs.RackLemmas.{mount_done}
use Rattle.g_power.proofs.ReelLemmas.{is_reel}
use Rattle.g_power.proofs.cut_tapes.CutTapesTapes.unmount.Goals as goal

pub invariant_of-self : goal.invariant_of-self
invariant_of-self c =
    let t = c.args.self.now in
    let i = c.in-Some.place in
    let place = subst (λ rs. IsPlaceOf c.args.serial (map reel_of rs) i) c.deref.ensures.value c.in-Some.ensures in
    let was = c.index_mut.result.now in
    let now = c.set_mounted.new.self in record {
      well_formed = reels_set reel_of c.args.serial 0 i t.reels.items was now place c.index_mut.ensures.value t.well_formed (is_reel now)
          (ap (λ (r : Reel). r.serial) c.set_mounted.ensures.value);
      fused = t.fused;
    }

pub returns : goal.returns
returns c =
    let t = c.args.self.now in
    let i = c.in-Some.place in
    let place = subst (λ rs. IsPlaceOf c.args.serial (map reel_of rs) i) c.deref.ensures.value c.in-Some.ensures in
    let was = c.index_mut.result.now in
    let free = free_at reel_of c.args.serial 0 i t.reels.items was was place c.index_mut.ensures.value refuses_unmount c.index.result.now
    (c.refuses_unmount.result) c.index.ensures (c.refuses_unmount.ensures ∙ ap (λ (r : Reel). refuses_unmount (Some r)) c.state.ensures.value)
    c.in_default-refuses_unmount.is in
    mount_done c.args.serial 0 i t.reels.items was c.set_mounted.new.self place c.index_mut.ensures.value t.read_faults t.write_faults
    t.fuse t.arms false refuses_unmount free c.set_mounted.ensures.value
