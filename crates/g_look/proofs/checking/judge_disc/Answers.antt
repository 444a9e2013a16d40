use Rattle.std.proofs.Common.{refl}
use Rattle.g_restore.specs.Places.{IsHeld}
use Rattle.g_look.specs.Recs.{HasSameLengths}
use Rattle.g_look.proofs.CompareLemmas.{owners_in}
use Rattle.g_look.proofs.JudgeLemmas.{judged_ok}
use Rattle.g_look.proofs.RecLemmas.{each_as, first10, first11, gone_as, length_as}
use Rattle.g_look.proofs.checking.judge_disc.Goals as goal

pub judge_head-requires : goal.judge_head-requires
judge_head-requires g c = c.requires.sound.records.head

pub returns-in-Some-clause-judged : goal.returns-in-Some-clause-judged
returns-in-Some-clause-judged g c = λ shelf blocks seen passed told. c.in-Some.ensures.some shelf seen _ refl

pub no_copy-requires : goal.no_copy-requires
no_copy-requires g c = record { owners = owners_in _ _ c.requires.sound _ _ c.as_slice-2.ensures.value c.as_slice.ensures.value }

pub returns-in-Some-no_copy-clause-judged : goal.returns-in-Some-no_copy-clause-judged
returns-in-Some-no_copy-clause-judged g c = λ shelf blocks seen passed told.
    first10 _ shelf _ seen c.args.dumped.now passed blocks c.args.dirs.now (c.in-None.ensures.none shelf seen) _
    (gone_as _ _ _ _ _ _ c.as_slice.ensures.value c.as_slice-2.ensures.value c.in-Some-no_copy.ensures.some)

pub other_length-requires : goal.other_length-requires
other_length-requires g c = record { owners = owners_in _ _ c.requires.sound _ _ c.as_slice-4.ensures.value c.as_slice-3.ensures.value }

pub returns-in-Some-other_length-clause-judged : goal.returns-in-Some-other_length-clause-judged
returns-in-Some-other_length-clause-judged g c = λ shelf blocks seen passed told.
    first11 _ shelf _ seen c.args.dumped.now passed blocks c.args.dirs.now (c.in-None.ensures.none shelf seen)
    (each_as (IsHeld c.args.found.now) _ _ c.as_slice-2.ensures.value c.in-None-no_copy.ensures.none) _
    (length_as _ _ _ _ _ _ c.as_slice-3.ensures.value c.as_slice-4.ensures.value c.in-Some-other_length.ensures.some)

pub returns-clause-judged : goal.returns-clause-judged
returns-clause-judged g c =
    judged_ok _ _ _ c.args.dirs.now c.args.dumped.now c.in-None.ensures.none (each_as (IsHeld c.args.found.now) _ _ c.as_slice-2.ensures.value c.in-None-no_copy.ensures.none)
    (each_as (HasSameLengths c.args.dumped.now) _ _ c.as_slice-4.ensures.value c.in-None-other_length.ensures.none) _ c.judge_bytes.ensures.some c.judge_bytes.ensures.none
