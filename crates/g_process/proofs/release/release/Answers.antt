use Rattle.std.proofs.Common.{◌∙◌, ◌+◌, List, arith, subst, sym, take}
use Rattle.std.proofs.lemmas.List.{take_all}
use Rattle.g_shelf.specs.declared.rack.Listed.{Listed}
use Rattle.g_process.specs.Releases.{AreReleased, AreReleasedDurably, taken, zeros}
use Rattle.g_process.proofs.BecomeLemmas.{apart_of}
use Rattle.g_process.proofs.ReleaseLemmas.{durably_goes, durably_none, durably_skips, listed_free, none_released, release_cuts, release_goes, release_skips}
use Rattle.g_process.proofs.SourceLemmas.{it_failed, write_fails, wrote}
use Rattle.g_process.proofs.WriteLemmas.{placed}
use Rattle.g_process.proofs.release.release.Goals.{then-is_taken+in-Ok, else-is_taken}
use Rattle.g_process.proofs.release.release.Goals as goal

pub loop-list-init : goal.loop-list-init
loop-list-init g c = record { done = none_released c.args.serial _; durably = durably_none c.args.serial _ }

pub returns-in-Err-clause-cut : goal.returns-in-Err-clause-cut
returns-in-Err-clause-cut g c =
    let at = placed c.args.lists.now c.loop-list.list-index c.list-item.result c.loop-list-test.true c.list-item.is in
    let granted = listed_free c.args.serial c.args.lists.now c.loop-list.list-index c.list-item.result (g.T.Tapes.rack c.args.tapes.now) (g.T.Tapes.rack c.loop-list.tapes) (g.met.T.Tapes.well_formed _)
    c.requires.mounted c.requires.listed at c.loop-list.invariant.done in
    release_cuts c.args.serial c.args.lists.now c.loop-list.list-index c.list-item.result (g.T.Tapes.rack c.args.tapes.now) (g.T.Tapes.rack c.loop-list.tapes) (g.T.Tapes.rack c.blank.new.tapes) at
    (sym c.is_taken.ensures ∙ c.if-is_taken.true) c.loop-list.invariant.done c.loop-list.invariant.durably granted
    (it_failed c.list-item.result.serial 0 zeros (g.T.Tapes.rack c.loop-list.tapes) (g.T.Tapes.rack c.blank.new.tapes) c.in-Err.field-0 granted c.in-Err.ensures.written c.in-Err.ensures.durable)
    (write_fails c.list-item.result.serial 0 zeros (g.T.Tapes.rack c.loop-list.tapes) (g.T.Tapes.rack c.blank.new.tapes) c.in-Err.field-0 granted c.in-Err.ensures.written)

pub loop-list-preserved : goal.loop-list-preserved
loop-list-preserved g c =
    let at = placed c.args.lists.now c.loop-list.list-index c.list-item.result c.loop-list-test.true c.list-item.is in
    elim c.if-is_taken.branch [
      | then-is_taken+in-Ok w ↦
          let is = wrote c.list-item.result.serial 0 zeros (g.T.Tapes.rack c.loop-list.tapes) (g.T.Tapes.rack w.blank.new.tapes) w.in-Ok.field-0 w.in-Ok.ensures.written in
          record {
            done = subst (λ t. AreReleased (taken c.args.serial (take (c.loop-list.list-index + 1) c.args.lists.now)) (g.T.Tapes.rack c.args.tapes.now) (g.T.Tapes.rack t)) (sym w.tapes-is)
                (release_goes c.args.serial c.args.lists.now c.loop-list.list-index c.list-item.result (g.T.Tapes.rack c.args.tapes.now) (g.T.Tapes.rack c.loop-list.tapes) (g.T.Tapes.rack w.blank.new.tapes)
                (apart_of (g.T.Tapes.rack c.args.tapes.now).reels (g.met.T.Tapes.well_formed c.args.tapes.now).rising) at (sym c.is_taken.ensures ∙ w.if-is_taken.true) c.loop-list.invariant.done is);
            durably = subst (λ t. AreReleasedDurably (taken c.args.serial (take (c.loop-list.list-index + 1) c.args.lists.now)) (g.T.Tapes.rack c.args.tapes.now) (g.T.Tapes.rack t)) (sym w.tapes-is)
                (durably_goes c.args.serial c.args.lists.now c.loop-list.list-index c.list-item.result (g.T.Tapes.rack c.args.tapes.now) (g.T.Tapes.rack c.loop-list.tapes) (g.T.Tapes.rack w.blank.new.tapes)
                at (sym c.is_taken.ensures ∙ w.if-is_taken.true) c.loop-list.invariant.durably is w.in-Ok.ensures.durable);
          }
      | else-is_taken w ↦
          record {
            done = subst (λ t. AreReleased (taken c.args.serial (take (c.loop-list.list-index + 1) c.args.lists.now)) (g.T.Tapes.rack c.args.tapes.now) (g.T.Tapes.rack t)) (sym w.tapes-is)
                (release_skips c.args.serial c.args.lists.now c.loop-list.list-index c.list-item.result (g.T.Tapes.rack c.args.tapes.now) (g.T.Tapes.rack c.loop-list.tapes) at
                (sym c.is_taken.ensures ∙ w.if-is_taken.false) c.loop-list.invariant.done);
            durably = subst (λ t. AreReleasedDurably (taken c.args.serial (take (c.loop-list.list-index + 1) c.args.lists.now)) (g.T.Tapes.rack c.args.tapes.now) (g.T.Tapes.rack t)) (sym w.tapes-is)
                (durably_skips c.args.serial c.args.lists.now c.loop-list.list-index c.list-item.result (g.T.Tapes.rack c.args.tapes.now) (g.T.Tapes.rack c.loop-list.tapes) at
                (sym c.is_taken.ensures ∙ w.if-is_taken.false) c.loop-list.invariant.durably);
          }
    ]

pub returns-clause-durable : goal.returns-clause-durable
returns-clause-durable g c =
    subst (λ (ls : List Listed). AreReleasedDurably (taken c.args.serial ls) (g.T.Tapes.rack c.args.tapes.now) (g.T.Tapes.rack c.loop-list.tapes))
    (take_all c.loop-list.list-index c.args.lists.now (omega arith)) c.loop-list.invariant.durably
