use Rattle.std.proofs.Common.{◌∙◌, ◌<◌, ap, arith, length, refl, subst, sym, length-set}
use Rattle.g_files.specs.Faults.{FailsByFault}
use Rattle.g_files.specs.FileReel.{IsSaved, reel_faults, reel_file, reel_of}
use Rattle.g_files.specs.declared.file_reel.FileReel.{FileReel}
use Rattle.g_files.specs.ReelRisk.{risk_of}
use Rattle.g_files.specs.Reels.{IsLeftAlike}
use Rattle.g_files.proofs.FaultLemmas.{and_fails, fails_among}
use Rattle.g_files.proofs.FileRackLemmas.{finished_same, saved_more}
use Rattle.g_files.proofs.RackRiskLemmas.{alike_set, all_alike}
use Rattle.g_files.proofs.file_tapes.finish_all.Goals as goal

pub loop-i-preserved : goal.loop-i-preserved
loop-i-preserved g c =
    let reels = c.loop-i.reels in
    let i = c.loop-i.i in
    let now = c.finish.new.self in
    let same = c.loop-i.invariant.1 in
    let within : i < length reels = omega (arith, c.loop-i-test.true, same) in (
      finished_same reel_of reels i c.index-reels-i.result now c.index-reels-i.is (c.finish.ensures.same ∙ ap reel_of (sym c.index-reels-i.is))
          ∙ c.loop-i.invariant.0,
      length-set reels i now ∙ same,
      rw c.and-finished.ensures (saved_more (λ (r : FileReel g.row.F.Denot g.F.RawFile). IsSaved (reel_of r) (reel_file r)) reels i now
          c.loop-i.finished c.finish.result within c.loop-i.invariant.2 c.finish.ensures.saved),
      alike_set reel_of risk_of (λ x. refl) c.args.reels.now reels i c.index-reels-i.result now within c.index-reels-i.is c.loop-i.invariant.3
          (subst (λ (r : FileReel g.row.F.Denot g.F.RawFile). IsLeftAlike r now) (sym c.index-reels-i.is) (c.finish.ensures.same, c.finish.ensures.serial, c.finish.ensures.no_more)),
      rw c.and-finished.ensures (and_fails c.loop-i.finished c.finish.result _ _ _ c.loop-i.invariant.4
          (fails_among reel_faults reels i c.index-reels-i.result now within c.index-reels-i.is c.finish.result
          (subst (λ (r : FileReel g.row.F.Denot g.F.RawFile). FailsByFault c.finish.result (reel_faults r) (reel_faults now)) (sym c.index-reels-i.is)
          c.finish.ensures.cause))),
    )

pub loop-i-init : goal.loop-i-init
loop-i-init g c = (refl, refl, λ k d below. absurd (omega (arith, below)), all_alike reel_of risk_of (λ x. refl) c.args.reels.now, record { later = omega arith; rose = tt })
