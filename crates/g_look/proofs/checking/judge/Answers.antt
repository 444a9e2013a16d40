use Rattle.g_look.proofs.JudgeLemmas.{right_breaks, right_none, right_some}
use Rattle.g_look.proofs.NamedLemmas.{read_disc, read_nothing}
use Rattle.g_look.proofs.ReadLemmas.{others_read}
use Rattle.g_look.proofs.checking.judge.Goals as goal

pub returns-in-Ok-Breaks-clause-right : goal.returns-in-Ok-Breaks-clause-right
returns-in-Ok-Breaks-clause-right g c = λ seen told. right_breaks _ _ _ seen told _ c.in-Ok-Breaks.ensures.judged _ c.in-Ok-Breaks.field-0-is

pub returns-in-Some-clause-right : goal.returns-in-Some-clause-right
returns-in-Some-clause-right g c = λ seen told.
    right_some _ _ _ seen told _ c.in-Ok-Fits.ensures.judged _ c.in-Ok-Fits.field-0-is _ _ c.requires.standing _ c.in-Some.is _ c.as_slice.ensures.value _ c.judge_disc.ensures.judged

pub returns-in-Ok-clause-right : goal.returns-in-Ok-clause-right
returns-in-Ok-clause-right g c = λ seen told. right_none _ _ _ seen told _ c.in-Ok-Fits.ensures.judged _ c.in-Ok-Fits.field-0-is _ _ c.requires.standing c.in-None.is

pub returns-in-Some-clause-read : goal.returns-in-Some-clause-read
returns-in-Some-clause-read g c = λ seen told.
    read_disc _ (g.T.Tapes.rack c.args.tapes.now) _ (g.met.T.Tapes.well_formed _) told _ seen _ c.in-Ok-Fits.ensures.judged _ c.in-Ok-Fits.field-0-is _ c.as_slice.ensures.value _ _ c.requires.standing _ c.in-Some.is _
    c.judge_disc.ensures.judged c.judge_disc.ensures.read

pub returns-in-Ok-clause-read : goal.returns-in-Ok-clause-read
returns-in-Ok-clause-read g c = λ seen told.
    read_nothing _ (g.T.Tapes.rack c.args.tapes.now) _ (g.met.T.Tapes.well_formed _) told _ seen _ c.in-Ok-Fits.ensures.judged _ c.in-Ok-Fits.field-0-is _ c.as_slice-in-None.ensures.value _ _ c.requires.standing c.in-None.is
    (others_read _ _ _ c.in-Ok.ensures.read)
