use Rattle.g_shelf.proofs.ReadLemmas.{starved, went_on, went_wrong}
use Rattle.g_shelf.proofs.WalkLemmas.{all_walked, nothing_walked, one_walked}
use Rattle.g_shelf.proofs.walk.read_reel.Goals as goal

pub loop-dir-init : goal.loop-dir-init
loop-dir-init g c = nothing_walked _ _ _ _

pub loop-dir-preserved : goal.loop-dir-preserved
loop-dir-preserved g c =
    rw c.end_block-at.ensures
    (one_walked _ _ _ _ _ _ _ _ _ _ _ _ _ c.loop-dir.invariant c.in-Ok-Some.ensures.reads (rw c.in-Ok-Some.field-0-is at c.in-Ok-Some.ensures.some) c.of_dump.ensures
    (rw c.in-Ok-Some.field-0-is at c.in-Ok-Some.ensures.low) c.in-Ok.ensures.items)

pub returns-in-Err-push-clause-reads : goal.returns-in-Err-push-clause-reads
returns-in-Err-push-clause-reads g c = starved _ _ _ _ _ c.loop-dir.invariant.only c.loop-dir.invariant.kept c.in-Ok-Some.ensures.reads

pub returns-in-Ok-None-clause-reads : goal.returns-in-Ok-None-clause-reads
returns-in-Ok-None-clause-reads g c = went_on _ _ _ _ _ _ c.loop-dir.invariant.only c.loop-dir.invariant.kept c.in-Ok-None.ensures.reads

pub returns-in-Ok-None-clause-more : goal.returns-in-Ok-None-clause-more
returns-in-Ok-None-clause-more g c = all_walked _ _ _ _ _ _ _ _ _ _ c.loop-dir.invariant c.in-Ok-None.ensures.reads (rw c.in-Ok-None.field-0-is at c.in-Ok-None.ensures.none)

pub returns-in-Err-clause-reads : goal.returns-in-Err-clause-reads
returns-in-Err-clause-reads g c = went_wrong _ _ _ _ _ c.loop-dir.invariant.only c.loop-dir.invariant.kept c.in-Err.ensures.reads
