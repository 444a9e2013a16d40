use Rattle.std.proofs.Common.{Err, ap}
use Rattle.g_look.proofs.RackLemmas.{first_copy, first_directory, first_falling, first_twice, moved_as, passed_some}
use Rattle.g_look.proofs.rack.judge_rack.Goals as goal

pub returns-in-Some-clause-judged : goal.returns-in-Some-clause-judged
returns-in-Some-clause-judged c = first_twice _ _ (moved_as _ _ _ c.as_slice-dumps.ensures.value c.in-Ok.ensures.same) _ c.in-Some.ensures.some

pub returns-in-Some-falling-clause-judged : goal.returns-in-Some-falling-clause-judged
returns-in-Some-falling-clause-judged c = first_falling _ _ (moved_as _ _ _ c.as_slice-dumps.ensures.value c.in-Ok.ensures.same) c.in-None.ensures.none _ c.in-Some-falling.ensures.some

pub returns-in-Ok-fold-clause-judged : goal.returns-in-Ok-fold-clause-judged
returns-in-Ok-fold-clause-judged c =
    passed_some _ _ (moved_as _ _ _ c.as_slice-dumps.ensures.value c.in-Ok.ensures.same) c.in-None.ensures.none c.in-None-falling.ensures.none _ _ c.files_of.ensures c.in-Ok-fold.ensures.ok

pub returns-in-Err-LostDirectory-clause-judged : goal.returns-in-Err-LostDirectory-clause-judged
returns-in-Err-LostDirectory-clause-judged c =
    first_directory _ _ (moved_as _ _ _ c.as_slice-dumps.ensures.value c.in-Ok.ensures.same) c.in-None.ensures.none c.in-None-falling.ensures.none _ _ (ap Err c.in-Err-LostDirectory.field-0-is)
    c.in-Err-LostDirectory.ensures.lost

pub returns-in-Err-LostCopy-clause-judged : goal.returns-in-Err-LostCopy-clause-judged
returns-in-Err-LostCopy-clause-judged c =
    first_copy _ _ (moved_as _ _ _ c.as_slice-dumps.ensures.value c.in-Ok.ensures.same) c.in-None.ensures.none c.in-None-falling.ensures.none _ _ _ (ap Err c.in-Err-LostCopy.field-0-is) c.in-Err-LostCopy.ensures.lost
