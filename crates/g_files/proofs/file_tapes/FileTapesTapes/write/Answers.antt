use Rattle.std.proofs.Common.{◌≡◌, ℕ, ◌*◌, ◌≤◌, List, Some, Ok, Err, OnOk, true, length, map, refl, subst, sym, ap, ◌∙◌, arith}
use Rattle.g_files.specs.FileReel.{reel_file, reel_of}
use Rattle.g_files.specs.ReelRisk.{WritesReel, risk_of}
use Rattle.g_files.specs.Ahead.{IsFresh, IsPartOf, owner_of, window_of}
use Rattle.g_files.specs.FileTapes.{rack_of}
use Rattle.g_files.specs.Window.{Window}
use Rattle.g_files.proofs.CallLemmas.{on_ok_at}
use Rattle.g_files.proofs.FileReelLemmas.{is_reel}
use Rattle.g_tape.specs.Place.{IsPlaceOf}
use Rattle.g_tape.specs.Reel.{Reel, ending}
use Rattle.std.specs.Option.{ForSome}
use Rattle.g_base.proofs.FuseLemmas.{fused_failed, fused_well}
use Rattle.g_files.proofs.FileRackLemmas.{free_at, fresh_set, left_any, reels_set, refused_at, serial_left, window_cut, write_done, write_failed, write_refused, written_fresh}
use Rattle.g_tape.specs.Rack.{refuses_write}
use Rattle.g_tape.proofs.ReelLemmas.{allowed-write}
use Rattle.g_files.proofs.RackRiskLemmas.{armed_writes, is_done, is_failed, rack_writes, refused_durably, writes_as}
use Rattle.g_tape.specs.declared.fault.TapeFault.TheVariants.{WriteFailed}
use Rattle.g_files.proofs.file_tapes.FileTapesTapes.write.Goals as goal

pub invariant_of-self : goal.invariant_of-self
invariant_of-self g c =
    let t = c.args.self.now in
    let i = c.in-Some.place in
    let k = c.args.k in
    let place = subst (λ rs. IsPlaceOf c.args.serial (map reel_of rs) i) c.deref.ensures.value c.in-Some.ensures in
    let was = c.index_mut.result.now in
    let now = c.end_with-left.new.self in
    let free = free_at reel_of c.args.serial 0 i t.reels.items was was place c.index_mut.ensures.value (refuses_write k) c.index.result.now
    c.refuses_write.result c.index.ensures (c.refuses_write.ensures ∙ ap (λ (r : Reel). refuses_write k (Some r)) c.state.ensures.value)
    c.in_default-refuses_write.is in
    let room = allowed-write k (reel_of was) free in
    let long : ForSome (reel_file was) (λ (b : List ℕ). 512 * k ≤ length b) = λ b is. let all = was.blocks.long b is in let few = room.0 in omega (arith, all, few) in
    record {
      well_formed = reels_set reel_of c.args.serial 0 i t.reels.items was now place c.index_mut.ensures.value t.well_formed (is_reel now)
          (serial_left k (reel_of was) (reel_of now) (left_any k _ (reel_of was) (reel_of now) c.end_with-left.result c.end_with-left.ensures.done c.end_with-left.ensures.left));
      fresh = fresh_set reel_file t.reels.items i now (IsFresh t.ahead) (owner_of t.ahead) t.fresh (IsFresh c.forget.new.self) was c.index_mut.ensures.value
          (owner_of c.forget.new.self) c.forget.ensures.owner
          (λ same old. subst (λ (w : Window). ForSome (reel_file now) (IsPartOf w)) (sym c.forget.ensures.window)
          (written_fresh (512 * k) (window_of t.ahead) (reel_file was) (reel_file now) long old c.end_with-left.ensures.front))
          (λ apart b is. subst (λ (w : Window). IsPartOf w b) (sym c.forget.ensures.window) (window_cut (512 * k) (window_of t.ahead) b is));
      fused = fused_failed t.write_faults c.raised-self.result t.arms t.fuse c.burn.new.self c.burn.ensures.left c.raised-self.ensures t.fused;
    }

pub invariant_of-self-then-is_err : goal.invariant_of-self-then-is_err
invariant_of-self-then-is_err g c =
    let t = c.args.self.now in
    let i = c.in-Some.place in
    let k = c.args.k in
    let place = subst (λ rs. IsPlaceOf c.args.serial (map reel_of rs) i) c.deref.ensures.value c.in-Some.ensures in
    let was = c.index_mut-2.result.now in
    let now = c.end_with.new.self in
    let free = free_at reel_of c.args.serial 0 i t.reels.items was was place c.index_mut-2.ensures.value (refuses_write k) c.index.result.now
    c.refuses_write.result c.index.ensures (c.refuses_write.ensures ∙ ap (λ (r : Reel). refuses_write k (Some r)) c.state.ensures.value)
    c.in_default-refuses_write.is in
    let room = allowed-write k (reel_of was) free in
    let long : ForSome (reel_file was) (λ (b : List ℕ). 512 * k ≤ length b) = λ b is. let all = was.blocks.long b is in let few = room.0 in omega (arith, all, few) in
    record {
      well_formed = reels_set reel_of c.args.serial 0 i t.reels.items was now place c.index_mut-2.ensures.value t.well_formed (is_reel now)
          (serial_left k (reel_of was) (reel_of now) (left_any k _ (reel_of was) (reel_of now) c.end_with.result c.end_with.ensures.done c.end_with.ensures.left));
      fresh = fresh_set reel_file t.reels.items i now (IsFresh t.ahead) (owner_of t.ahead) t.fresh (IsFresh c.forget.new.self) was c.index_mut-2.ensures.value
          (owner_of c.forget.new.self) c.forget.ensures.owner
          (λ same old. subst (λ (w : Window). ForSome (reel_file now) (IsPartOf w)) (sym c.forget.ensures.window)
          (written_fresh (512 * k) (window_of t.ahead) (reel_file was) (reel_file now) long old c.end_with.ensures.front))
          (λ apart b is. subst (λ (w : Window). IsPartOf w b) (sym c.forget.ensures.window) (window_cut (512 * k) (window_of t.ahead) b is));
      fused = fused_failed t.write_faults c.raised-self-then-is_err.result t.arms t.fuse c.burn.new.self c.burn.ensures.left c.raised-self-then-is_err.ensures t.fused;
    }

pub invariant_of-self-else-is_err : goal.invariant_of-self-else-is_err
invariant_of-self-else-is_err g c =
    let t = c.args.self.now in
    let i = c.in-Some.place in
    let k = c.args.k in
    let place = subst (λ rs. IsPlaceOf c.args.serial (map reel_of rs) i) c.deref.ensures.value c.in-Some.ensures in
    let was = c.index_mut-2.result.now in
    let now = c.end_with.new.self in
    let free = free_at reel_of c.args.serial 0 i t.reels.items was was place c.index_mut-2.ensures.value (refuses_write k) c.index.result.now
    c.refuses_write.result c.index.ensures (c.refuses_write.ensures ∙ ap (λ (r : Reel). refuses_write k (Some r)) c.state.ensures.value)
    c.in_default-refuses_write.is in
    let room = allowed-write k (reel_of was) free in
    let long : ForSome (reel_file was) (λ (b : List ℕ). 512 * k ≤ length b) = λ b is. let all = was.blocks.long b is in let few = room.0 in omega (arith, all, few) in
    record {
      well_formed = reels_set reel_of c.args.serial 0 i t.reels.items was now place c.index_mut-2.ensures.value t.well_formed (is_reel now)
          (serial_left k (reel_of was) (reel_of now) (left_any k _ (reel_of was) (reel_of now) c.end_with.result c.end_with.ensures.done c.end_with.ensures.left));
      fresh = fresh_set reel_file t.reels.items i now (IsFresh t.ahead) (owner_of t.ahead) t.fresh (IsFresh c.forget.new.self) was c.index_mut-2.ensures.value
          (owner_of c.forget.new.self) c.forget.ensures.owner
          (λ same old. subst (λ (w : Window). ForSome (reel_file now) (IsPartOf w)) (sym c.forget.ensures.window)
          (written_fresh (512 * k) (window_of t.ahead) (reel_file was) (reel_file now) long old c.end_with.ensures.front))
          (λ apart b is. subst (λ (w : Window). IsPartOf w b) (sym c.forget.ensures.window) (window_cut (512 * k) (window_of t.ahead) b is));
      fused = fused_well t.write_faults t.arms t.fuse c.burn.new.self c.burn.ensures.left
          (λ one. let fires : c.burn.result ≡ true = c.burn.ensures.fires.1 one in cc) t.fused;
    }

pub returns-then-burn : goal.returns-then-burn
returns-then-burn g c =
    let t = c.args.self.now in
    let i = c.in-Some.place in
    let k = c.args.k in
    let place = subst (λ rs. IsPlaceOf c.args.serial (map reel_of rs) i) c.deref.ensures.value c.in-Some.ensures in
    let was = c.index_mut.result.now in
    let free = free_at reel_of c.args.serial 0 i t.reels.items was was place c.index_mut.ensures.value (refuses_write k) c.index.result.now
    c.refuses_write.result c.index.ensures (c.refuses_write.ensures ∙ ap (λ (r : Reel). refuses_write k (Some r)) c.state.ensures.value)
    c.in_default-refuses_write.is in
    let written = write_failed reel_of c.args.serial k i t.reels.items was c.end_with-left.new.self place c.index_mut.ensures.value risk_of t.read_faults t.write_faults t.fuse t.arms
    c.args.from.now c.burn.new.self c.raised-self.result free
    (left_any k _ (reel_of was) (reel_of c.end_with-left.new.self) c.end_with-left.result c.end_with-left.ensures.done c.end_with-left.ensures.left)
    c.burn.ensures.left c.raised-self.ensures in record {
      written = written;
      durable = rack_writes reel_of risk_of (λ x. refl) c.args.serial i t.reels.items was c.end_with-left.new.self t.well_formed place c.index_mut.ensures.value
          c.end_with-left.ensures.serial (rack_of t) _ refl refl refl refl k c.args.from.now (Err WriteFailed)
          (armed_writes k c.args.from.now (reel_of was) (reel_of c.end_with-left.new.self) (risk_of was) (risk_of c.end_with-left.new.self) c.end_with-left.result WriteFailed
          (subst (λ (b : List ℕ). OnOk c.end_with-left.result (reel_of c.end_with-left.new.self ≡ ending k b (reel_of was))) c.half_of.ensures c.end_with-left.ensures.done)
          (λ bs at. let long = (is_reel was).told bs at in let few = (allowed-write k (reel_of was) free).0 in omega (arith, long, few))
          (subst (λ (b : List ℕ). WritesReel k b (reel_of was) (reel_of c.end_with-left.new.self) (risk_of was) (risk_of c.end_with-left.new.self) c.end_with-left.result)
          c.half_of.ensures c.end_with-left.ensures.durable));
    }

pub returns-then-is_err : goal.returns-then-is_err
returns-then-is_err g c =
    let t = c.args.self.now in
    let i = c.in-Some.place in
    let k = c.args.k in
    let place = subst (λ rs. IsPlaceOf c.args.serial (map reel_of rs) i) c.deref.ensures.value c.in-Some.ensures in
    let was = c.index_mut-2.result.now in
    let free = free_at reel_of c.args.serial 0 i t.reels.items was was place c.index_mut-2.ensures.value (refuses_write k) c.index.result.now
    c.refuses_write.result c.index.ensures (c.refuses_write.ensures ∙ ap (λ (r : Reel). refuses_write k (Some r)) c.state.ensures.value)
    c.in_default-refuses_write.is in
    let written = write_failed reel_of c.args.serial k i t.reels.items was c.end_with.new.self place c.index_mut-2.ensures.value risk_of t.read_faults t.write_faults t.fuse t.arms
    c.args.from.now c.burn.new.self c.raised-self-then-is_err.result free
    (left_any k _ (reel_of was) (reel_of c.end_with.new.self) c.end_with.result c.end_with.ensures.done c.end_with.ensures.left)
    c.burn.ensures.left c.raised-self-then-is_err.ensures in record {
      written = written;
      durable = rack_writes reel_of risk_of (λ x. refl) c.args.serial i t.reels.items was c.end_with.new.self t.well_formed place c.index_mut-2.ensures.value c.end_with.ensures.serial
          (rack_of t) _ refl refl refl refl k c.args.from.now (Err WriteFailed) (writes_as k c.args.from.now (reel_of was) (reel_of c.end_with.new.self) (risk_of was)
          (risk_of c.end_with.new.self) c.end_with.result (Err WriteFailed) (is_failed c.end_with.result (sym c.is_err.ensures.value ∙ c.if-is_err.true)) c.end_with.ensures.durable);
    }

pub returns : goal.returns
returns g c =
    let t = c.args.self.now in
    let i = c.in-Some.place in
    let k = c.args.k in
    let place = subst (λ rs. IsPlaceOf c.args.serial (map reel_of rs) i) c.deref.ensures.value c.in-Some.ensures in
    let was = c.index_mut-2.result.now in
    let free = free_at reel_of c.args.serial 0 i t.reels.items was was place c.index_mut-2.ensures.value (refuses_write k) c.index.result.now
    c.refuses_write.result c.index.ensures (c.refuses_write.ensures ∙ ap (λ (r : Reel). refuses_write k (Some r)) c.state.ensures.value)
    c.in_default-refuses_write.is in
    let written = write_done reel_of c.args.serial k i t.reels.items was c.end_with.new.self place c.index_mut-2.ensures.value risk_of t.read_faults t.write_faults t.fuse t.arms
    c.args.from.now c.burn.new.self free (on_ok_at c.end_with.result (sym c.is_err.ensures.value ∙ c.if-is_err.false) c.end_with.ensures.done)
    c.burn.ensures.left (λ armed. let fires : c.burn.result ≡ true = c.burn.ensures.fires.1 armed in cc) in record {
      written = written;
      durable = rack_writes reel_of risk_of (λ x. refl) c.args.serial i t.reels.items was c.end_with.new.self t.well_formed place c.index_mut-2.ensures.value c.end_with.ensures.serial
          (rack_of t) _ refl refl refl refl k c.args.from.now (Ok tt) (writes_as k c.args.from.now (reel_of was) (reel_of c.end_with.new.self) (risk_of was)
          (risk_of c.end_with.new.self) c.end_with.result (Ok tt) (is_done c.end_with.result (sym c.is_err.ensures.value ∙ c.if-is_err.false)) c.end_with.ensures.durable);
    }

pub returns-in-Some-refuses_write : goal.returns-in-Some-refuses_write
returns-in-Some-refuses_write g c =
    let t = c.args.self.now in
    let i = c.in-Some.place in
    let k = c.args.k in
    let place = subst (λ rs. IsPlaceOf c.args.serial (map reel_of rs) i) c.deref.ensures.value c.in-Some.ensures in
    let here = c.index.result.now in
    let refused = refused_at reel_of c.args.serial 0 i t.reels.items here here place c.index.ensures (refuses_write k) c.refuses_write.result
    c.in-Some-refuses_write.fault (c.refuses_write.ensures ∙ ap (λ (r : Reel). refuses_write k (Some r)) c.state.ensures.value) c.in-Some-refuses_write.is in
    let written = write_refused c.args.serial k c.args.from.now (rack_of t) c.in-Some-refuses_write.fault refused in record {
      written = written;
      durable = refused_durably c.args.serial k c.args.from.now (rack_of t) c.in-Some-refuses_write.fault refused;
    }
