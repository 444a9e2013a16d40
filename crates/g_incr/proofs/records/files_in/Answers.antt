use Rattle.std.proofs.Common.{arith}
use Rattle.g_incr.proofs.RecordsLemmas.{file_there, files_next}
use Rattle.g_incr.proofs.records.files_in.Goals as goal

pub returns-in-None-clause-none : goal.returns-in-None-clause-none
returns-in-None-clause-none c = λ files are.
    let (r, at, is, here) = file_there c.args.format files c.args.blocks.now c.loop-number.number are (omega arith) in
    c.in-None.ensures.none r at is (here _)

pub loop-number-preserved : goal.loop-number-preserved
loop-number-preserved c =
    let found = c.in-Some.ensures.found in
    rw (c.in-Ok.ensures.items)
    (files_next c.args.format c.loop-number.files.items c.args.blocks.now c.loop-number.number _ c.in-Some.file (omega arith) c.loop-number.invariant found.0 found.1 found.2)
