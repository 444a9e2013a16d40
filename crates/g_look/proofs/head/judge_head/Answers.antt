use Rattle.g_look.proofs.HeadLemmas.{breaks5, breaks6, breaks7, fits_nowhere, intent_first, intent_fits}
use Rattle.g_look.proofs.head.judge_head.Goals as goal

pub returns-in-Some-clause-some : goal.returns-in-Some-clause-some
returns-in-Some-clause-some g c = λ shelf seen. breaks5 _ shelf _ seen _ c.requires _ c.in-Some.ensures.some

pub returns-in-Some-missing_last-clause-some : goal.returns-in-Some-missing_last-clause-some
returns-in-Some-missing_last-clause-some g c = λ shelf seen. breaks6 _ shelf _ seen _ c.requires c.in-None.ensures.none _ c.in-Some-missing_last.ensures.some

pub returns-in-Some-too_far-clause-some : goal.returns-in-Some-too_far-clause-some
returns-in-Some-too_far-clause-some g c = λ shelf seen. breaks7 _ shelf _ seen _ c.requires c.in-None.ensures.none c.in-None-missing_last.ensures.none _ c.in-Some-too_far.ensures.some

pub returns-in-Some-intent-clause-some : goal.returns-in-Some-intent-clause-some
returns-in-Some-intent-clause-some g c =
    intent_first _ _ c.args.head.now c.requires c.in-None.ensures.none c.in-None-missing_last.ensures.none c.in-None-too_far.ensures.none _ c.in-Some-intent.is _ c.judge_intent.ensures.some

pub returns-in-Some-intent-clause-none : goal.returns-in-Some-intent-clause-none
returns-in-Some-intent-clause-none g c =
    intent_fits _ _ c.args.head.now c.requires c.in-None.ensures.none c.in-None-missing_last.ensures.none c.in-None-too_far.ensures.none _ c.in-Some-intent.is _ c.judge_intent.ensures.none

pub returns-in-None-intent-clause-none : goal.returns-in-None-intent-clause-none
returns-in-None-intent-clause-none g c = λ shelf seen.
    fits_nowhere _ shelf _ seen _ c.requires c.in-None.ensures.none c.in-None-missing_last.ensures.none c.in-None-too_far.ensures.none c.in-None-intent.is
