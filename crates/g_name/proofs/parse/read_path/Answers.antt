use Rattle.std.proofs.Common.{◌<◌, ◌≤◌, length, take, get_or, Some, refl, ap, ◌∙◌, inr, arith}
use Rattle.std.proofs.lemmas.List.{take_more}
use Rattle.g_name.specs.Machine.{run}
use Rattle.g_name.specs.Reading.{step, start}
use Rattle.g_name.proofs.BadPlaceLemmas.{run-more}
use Rattle.g_name.proofs.PathLemmas.{has_read, wrong_name, no_name, at_end, path-ok, path-read, path-err}
use Rattle.g_name.proofs.parse.read_path.Goals as goal

pub returns-then-not-take-clause-err : goal.returns-then-not-take-clause-err
returns-then-not-take-clause-err c =
    let within : c.loop-place.place ≤ length c.args.text.now = omega arith in
    wrong_name c.args.text.now c.loop-place.place c.loop-place.reader within c.loop-place.invariant (inr c.if-not-take.ensures.refused)

pub returns-then-not-take-clause-read : goal.returns-then-not-take-clause-read
returns-then-not-take-clause-read c =
    let inside : c.loop-place.place < length c.args.text.now = omega arith in
    let within : c.loop-place.place ≤ length c.args.text.now = omega arith in
    no_name c.args.text.now c.loop-place.place (wrong_name c.args.text.now c.loop-place.place c.loop-place.reader within c.loop-place.invariant (inr c.if-not-take.ensures.refused)) inside

pub loop-place-preserved : goal.loop-place-preserved
loop-place-preserved c =
    let inside : c.loop-place.place < length c.args.text.now = omega arith in
    ap (run step (Some start)) (take_more c.args.text.now c.loop-place.place 0 inside)
    ∙ run-more step (Some start) (take c.loop-place.place c.args.text.now) (get_or c.args.text.now c.loop-place.place 0) c.loop-place.reader c.loop-place.invariant
    ∙ c.if-not-take.ensures.taken

pub path-requires : goal.path-requires
path-requires c = (has_read (take c.loop-place.place c.args.text.now) c.loop-place.reader c.loop-place.invariant).known

pub returns-clause-ok : goal.returns-clause-ok
returns-clause-ok c =
    let all = at_end c.args.text.now c.loop-place.place c.loop-place.reader c.loop-place-test.false c.loop-place.auto.place-end c.loop-place.invariant in
    rw c.ok_or.ensures.value (path-ok c.args.text.now c.loop-place.reader all c.path.result c.path.ensures.whole c.path.ensures.value _)

pub returns-clause-err : goal.returns-clause-err
returns-clause-err c =
    let all = at_end c.args.text.now c.loop-place.place c.loop-place.reader c.loop-place-test.false c.loop-place.auto.place-end c.loop-place.invariant in
    rw c.ok_or.ensures.value (path-err c.args.text.now c.loop-place.reader all c.path.result c.path.ensures.whole c.path.ensures.value _ refl)

pub returns-clause-read : goal.returns-clause-read
returns-clause-read c =
    let all = at_end c.args.text.now c.loop-place.place c.loop-place.reader c.loop-place-test.false c.loop-place.auto.place-end c.loop-place.invariant in
    rw c.ok_or.ensures.value (path-read c.args.text.now c.loop-place.reader all c.path.result c.path.ensures.whole c.path.ensures.value _)
