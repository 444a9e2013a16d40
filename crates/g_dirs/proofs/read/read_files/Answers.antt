use Rattle.std.proofs.Common.{◌≡◌}
use Rattle.g_disc.proofs.CallLemmas.{ReadsByCause-for}
use Rattle.g_dirs.proofs.ReadLemmas.{files_all, files_more, files_stopped}
use Rattle.g_dirs.specs.declared.fault.DirsFault.TheVariants.{NoFilestore}
use Rattle.g_dirs.proofs.read.read_files.Goals as goal

pub loop-number-preserved : goal.loop-number-preserved
loop-number-preserved g c =
    let read = rw c.from.ensures at c.in-Ok.ensures.ok in
    files_more c.args.format c.loop-number.number c.loop-number.files.items c.loop-number.online.items _ _ c.in-Ok.block _ _ _ c.loop-number.invariant
    (ReadsByCause-for (λ no_fault. cc) (λ never. absurd never) c.in-Ok.ensures.counts) read c.in-Ok-take_file.ensures.ok

pub returns-in-Err-take_file-clause-none : goal.returns-in-Err-take_file-clause-none
returns-in-Err-take_file-clause-none g c = λ stopped.
    let why : c.in-Err-take_file.fault ≡ NoFilestore = cc in
    let read = rw c.from.ensures at c.in-Ok.ensures.ok in
    files_stopped c.args.format c.loop-number.number c.loop-number.files.items c.loop-number.online.items _ _ c.in-Ok.block c.loop-number-test.true c.loop-number.invariant read
    (c.in-Err-take_file.ensures.none (cc))

pub returns-clause-ok : goal.returns-clause-ok
returns-clause-ok g c =
    files_all c.args.format c.loop-number.number c.loop-number.files.items c.loop-number.online.items _ _ c.loop-number.auto.number-end c.loop-number-test.false c.loop-number.invariant
