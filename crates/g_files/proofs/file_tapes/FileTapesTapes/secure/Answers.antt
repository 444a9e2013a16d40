use Rattle.std.proofs.Common.{◌≡◌, ℕ, ◌*◌, ◌-◌, take, map, Ok, Err, refl, subst, sym, ap, ◌∙◌, arith}
use Rattle.g_files.specs.FileReel.{reel_file, reel_of}
use Rattle.g_files.specs.ReelRisk.{risk_of}
use Rattle.g_files.specs.Ahead.{IsFresh, IsPartOf, owner_of, window_of}
use Rattle.g_files.specs.Window.{Window, window}
use Rattle.std.proofs.lemmas.List.{get_or_default, length-map}
use Rattle.g_files.proofs.FileReelLemmas.{is_reel}
use Rattle.g_tape.specs.Place.{IsPlaceOf}
use Rattle.g_tape.specs.Reel.{Reel}
use Rattle.g_files.proofs.FileRackLemmas.{fresh_set, reels_set, secure_done, secure_failed, written_fresh}
use Rattle.std.specs.Option.{ForSome}
use Rattle.g_files.proofs.RackRiskLemmas.{is_done, is_failed, rack_secures, secures_as}
use Rattle.g_files.specs.FileTapes.{rack_of}
use Rattle.g_tape.specs.declared.fault.TapeFault.TheVariants.{ReadFailed}
use Rattle.g_files.proofs.file_tapes.FileTapesTapes.secure.Goals as goal

pub invariant_of-self-then-is_err : goal.invariant_of-self-then-is_err
invariant_of-self-then-is_err g c =
    let t = c.args.self.now in
    let i = c.in-Some.place in
    let place = subst (λ rs. IsPlaceOf c.args.serial (map reel_of rs) i) c.deref.ensures.value c.in-Some.ensures in
    let was = c.index_mut.result.now in
    let now = c.secure.new.self in
    let here = c.index.ensures ∙ get_or_default t.reels.items i c.index.result.now was (omega (arith, place.within, length-map t.reels.items reel_of)) ∙ sym c.index_mut.ensures.value in
    let len : c.len.result ≡ (reel_of was).len = c.len.ensures ∙ ap (λ (r : Reel). r.len) c.state.ensures.value ∙ ap (λ r. (reel_of r).len) here in
    record {
      well_formed = reels_set reel_of c.args.serial 0 i t.reels.items was now place c.index_mut.ensures.value t.well_formed (is_reel now)
          (ap (λ (r : Reel). r.serial) c.secure.ensures.same);
      fresh = fresh_set reel_file t.reels.items i now (IsFresh t.ahead) (owner_of t.ahead) t.fresh (IsFresh c.forget_of.new.self) was c.index_mut.ensures.value
          (owner_of c.forget_of.new.self) c.forget_of.ensures.owner
          (λ same old. subst (λ (w : Window). ForSome (reel_file now) (IsPartOf w)) (sym (c.forget_of.ensures.window same))
          (subst (λ (n : ℕ). ForSome (reel_file now) (IsPartOf (window (window_of t.ahead).at (take (512 * n - (window_of t.ahead).at) (window_of t.ahead).bytes)))) (sym len)
          (written_fresh (512 * (reel_of was).len) (window_of t.ahead) (reel_file was) (reel_file now) was.blocks.long old c.secure.ensures.front)))
          (λ apart b is. subst (λ (w : Window). IsPartOf w b) (sym (c.forget_of.ensures.other apart)) is);
      fused = t.fused;
    }

pub invariant_of-self-else-is_err : goal.invariant_of-self-else-is_err
invariant_of-self-else-is_err g c =
    let t = c.args.self.now in
    let i = c.in-Some.place in
    let place = subst (λ rs. IsPlaceOf c.args.serial (map reel_of rs) i) c.deref.ensures.value c.in-Some.ensures in
    let was = c.index_mut.result.now in
    let now = c.secure.new.self in
    let here = c.index.ensures ∙ get_or_default t.reels.items i c.index.result.now was (omega (arith, place.within, length-map t.reels.items reel_of)) ∙ sym c.index_mut.ensures.value in
    let len : c.len.result ≡ (reel_of was).len = c.len.ensures ∙ ap (λ (r : Reel). r.len) c.state.ensures.value ∙ ap (λ r. (reel_of r).len) here in
    record {
      well_formed = reels_set reel_of c.args.serial 0 i t.reels.items was now place c.index_mut.ensures.value t.well_formed (is_reel now)
          (ap (λ (r : Reel). r.serial) c.secure.ensures.same);
      fresh = fresh_set reel_file t.reels.items i now (IsFresh t.ahead) (owner_of t.ahead) t.fresh (IsFresh c.forget_of.new.self) was c.index_mut.ensures.value
          (owner_of c.forget_of.new.self) c.forget_of.ensures.owner
          (λ same old. subst (λ (w : Window). ForSome (reel_file now) (IsPartOf w)) (sym (c.forget_of.ensures.window same))
          (subst (λ (n : ℕ). ForSome (reel_file now) (IsPartOf (window (window_of t.ahead).at (take (512 * n - (window_of t.ahead).at) (window_of t.ahead).bytes)))) (sym len)
          (written_fresh (512 * (reel_of was).len) (window_of t.ahead) (reel_file was) (reel_file now) was.blocks.long old c.secure.ensures.front)))
          (λ apart b is. subst (λ (w : Window). IsPartOf w b) (sym (c.forget_of.ensures.other apart)) is);
      fused = t.fused;
    }

pub returns-then-is_err : goal.returns-then-is_err
returns-then-is_err g c =
    let t = c.args.self.now in
    let i = c.in-Some.place in
    let place = subst (λ rs. IsPlaceOf c.args.serial (map reel_of rs) i) c.deref.ensures.value c.in-Some.ensures in
    let was = c.index_mut.result.now in
    let now = c.secure.new.self in
    let secured = secure_failed reel_of c.args.serial 0 i t.reels.items was now place c.index_mut.ensures.value risk_of t.read_faults t.write_faults
    t.fuse t.arms c.raised-self.result c.secure.ensures.same c.raised-self.ensures in record {
      secured = secured;
      durable = rack_secures reel_of risk_of (λ x. refl) c.args.serial i t.reels.items was now t.well_formed place c.index_mut.ensures.value c.secure.ensures.serial
          (rack_of t) _ refl refl refl refl (Err ReadFailed) (secures_as (reel_of was) (reel_of now) (risk_of was) (risk_of now) c.secure.result (Err ReadFailed)
          (is_failed c.secure.result (sym c.is_err.ensures.value ∙ c.if-is_err.true)) c.secure.ensures.durable);
    }

pub returns : goal.returns
returns g c =
    let t = c.args.self.now in
    let i = c.in-Some.place in
    let place = subst (λ rs. IsPlaceOf c.args.serial (map reel_of rs) i) c.deref.ensures.value c.in-Some.ensures in
    let was = c.index_mut.result.now in
    let now = c.secure.new.self in
    let secured = secure_done reel_of c.args.serial 0 i t.reels.items was now place c.index_mut.ensures.value risk_of t.read_faults t.write_faults
    t.fuse t.arms c.secure.ensures.same in record {
      secured = secured;
      durable = rack_secures reel_of risk_of (λ x. refl) c.args.serial i t.reels.items was now t.well_formed place c.index_mut.ensures.value c.secure.ensures.serial
          (rack_of t) _ refl refl refl refl (Ok tt) (secures_as (reel_of was) (reel_of now) (risk_of was) (risk_of now) c.secure.result (Ok tt)
          (is_done c.secure.result (sym c.is_err.ensures.value ∙ c.if-is_err.false)) c.secure.ensures.durable);
    }
