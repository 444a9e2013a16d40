use Rattle.std.proofs.Common.{Ok, Err, map, refl, subst, ap}
use Rattle.g_files.proofs.FileRackLemmas.{reels_set}
use Rattle.g_tape.specs.Place.{IsPlaceOf}
use Rattle.g_tape.specs.Rack.{Rack}
use Rattle.g_tape.specs.Reads.{unread}
use Rattle.g_tape.specs.Reel.{Reel}
use Rattle.g_tape.specs.declared.fault.TapeFault.TheVariants.{ReadFailed}
use Rattle.g_tape.proofs.DurableLemmas.{secures_durably}
use Rattle.g_tape.proofs.ReadLemmas.{same_risks}
use Rattle.g_power.specs.CutReel.{reel_of}
use Rattle.g_power.specs.CutTapes.{rack_of}
use Rattle.g_power.proofs.RackLemmas.{secure_done, secure_failed}
use Rattle.g_power.proofs.ReelLemmas.{is_reel}
use Rattle.g_power.proofs.cut_tapes.CutTapesTapes.secure.Goals as goal

pub invariant_of-self-then-is_err : goal.invariant_of-self-then-is_err
invariant_of-self-then-is_err c =
    let t = c.args.self.now in
    let i = c.in-Some.place in
    let place = subst (λ rs. IsPlaceOf c.args.serial (map reel_of rs) i) c.deref.ensures.value c.in-Some.ensures in
    let was = c.index_mut.result.now in
    let now = c.secure.new.self in
    record {
      well_formed = reels_set reel_of c.args.serial 0 i t.reels.items was now place c.index_mut.ensures.value t.well_formed (is_reel now)
          (ap (λ (r : Reel). r.serial) c.secure.ensures.same);
      fused = t.fused;
    }

pub invariant_of-self-else-is_err : goal.invariant_of-self-else-is_err
invariant_of-self-else-is_err c =
    let t = c.args.self.now in
    let i = c.in-Some.place in
    let place = subst (λ rs. IsPlaceOf c.args.serial (map reel_of rs) i) c.deref.ensures.value c.in-Some.ensures in
    let was = c.index_mut.result.now in
    let now = c.secure.new.self in
    record {
      well_formed = reels_set reel_of c.args.serial 0 i t.reels.items was now place c.index_mut.ensures.value t.well_formed (is_reel now)
          (ap (λ (r : Reel). r.serial) c.secure.ensures.same);
      fused = t.fused;
    }

pub returns-then-is_err : goal.returns-then-is_err
returns-then-is_err c =
    let t = c.args.self.now in
    let i = c.in-Some.place in
    let place = subst (λ rs. IsPlaceOf c.args.serial (map reel_of rs) i) c.deref.ensures.value c.in-Some.ensures in
    let secured = secure_failed c.args.serial 0 i t.reels.items c.index_mut.result.now c.secure.new.self place c.index_mut.ensures.value t.read_faults t.write_faults
    t.fuse t.arms c.raised-self.result c.secure.ensures.same c.raised-self.ensures in record {
      secured = secured;
      durable = secures_durably c.args.serial (rack_of t) _ refl refl (same_risks (rack_of t) _ (ap (λ (r : Rack). map unread r.reels) secured.2) refl) (Err ReadFailed);
    }

pub returns : goal.returns
returns c =
    let t = c.args.self.now in
    let i = c.in-Some.place in
    let place = subst (λ rs. IsPlaceOf c.args.serial (map reel_of rs) i) c.deref.ensures.value c.in-Some.ensures in
    let secured = secure_done c.args.serial 0 i t.reels.items c.index_mut.result.now c.secure.new.self place c.index_mut.ensures.value t.read_faults t.write_faults
    t.fuse t.arms c.secure.ensures.same in record {
      secured = secured;
      durable = secures_durably c.args.serial (rack_of t) _ refl refl (same_risks (rack_of t) _ (ap (λ (r : Rack). map unread r.reels) secured.1) refl) (Ok tt);
    }
