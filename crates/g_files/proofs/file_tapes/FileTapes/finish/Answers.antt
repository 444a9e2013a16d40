use Rattle.std.proofs.Common.{◌≡◌, List, ap, length, map, refl, subst, sym, arith}
use Rattle.g_files.specs.FileReel.{reel_of}
use Rattle.g_files.specs.FileTapes.{rack_of}
use Rattle.g_files.specs.ReelRisk.{risk_of}
use Rattle.g_files.specs.Reels.{LeaveNoMore}
use Rattle.g_files.specs.declared.file_reel.FileReel.{FileReel}
use Rattle.g_files.proofs.RackRiskLemmas.{alike_leave, alike_refilled}
use Rattle.g_files.proofs.file_tapes.FileTapes.finish.Goals as goal

pub returns-clause-no_more : goal.returns-clause-no_more
returns-clause-no_more g c =
    let v = c.args.self.now.reels in
    let all : LeaveNoMore v.items c.finish_all.new.reels =
    subst (λ (xs : List (FileReel g.row.F.Denot g.F.RawFile)). LeaveNoMore xs c.finish_all.new.reels) c.deref_mut.ensures.value c.finish_all.ensures.no_more in
    let long : length v.items ≡ v.len = let ok = v.ok.0 in omega (arith, ok) in
    let same = alike_refilled reel_of risk_of (λ x. refl) v.len v.items c.finish_all.new.reels _ long all in
    alike_leave reel_of risk_of (λ x. refl) v.items c.finish_all.new.reels (rack_of c.args.self.now) _ refl refl (ap (map reel_of) same) (ap (map risk_of) same) all
