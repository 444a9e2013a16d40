use Rattle.std.proofs.Common.{subst, ◌<◌}
use Rattle.g_plan.proofs.PrintLemmas.{file_next}
use Rattle.g_plan.proofs.print.program_file.Goals as goal

pub loop-place-preserved : goal.loop-place-preserved
loop-place-preserved c =
    file_next c.args.size c.args.image.now c.loop-place.file c.push_line-in-loop-place.new.text c.loop-place.place c.word.result c.loop-place.invariant
    c.in_ok-push_line-2.ensures (λ most filled is. subst (λ k. c.loop-place.place < k) (c.end-place-end.ensures most filled is) c.loop-place-test.true)
    c.word.ensures
