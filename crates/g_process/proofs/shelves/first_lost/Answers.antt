use Rattle.std.proofs.Common.{All, subst, sym}
use Rattle.std.proofs.lemmas.List.{take_all}
use Rattle.g_process.specs.Lists.{IsOfFile, IsThere}
use Rattle.g_process.proofs.JobLemmas.{lost_here, one_there}
use Rattle.g_process.proofs.WriteLemmas.{placed}
use Rattle.g_process.proofs.shelves.first_lost.Goals as goal

pub is_there-requires-clause-there : goal.is_there-requires-clause-there
is_there-requires-clause-there g c = subst (IsOfFile c.args.online.now) (sym c.file-item.is) (c.requires.there c.loop-file.file-index c.file-item.result c.loop-file-test.true)

pub lost-requires-clause-there : goal.lost-requires-clause-there
lost-requires-clause-there g c = subst (IsOfFile c.args.online.now) (sym c.file-item.is) (c.requires.there c.loop-file.file-index c.file-item.result c.loop-file-test.true)

pub lost-requires-clause-offline : goal.lost-requires-clause-offline
lost-requires-clause-offline g c = (c.is_there.ensures.no c.if-not-is_there.true).offline

pub returns-then-not-is_there-clause-some : goal.returns-then-not-is_there-clause-some
returns-then-not-is_there-clause-some g c =
    let at = placed c.args.files.now c.loop-file.file-index c.file-item.result c.loop-file-test.true c.file-item.is in
    lost_here c.args.online.now c.args.lists.now c.args.files.now c.loop-file.file-index c.file-item.result c.lost.result at (c.is_there.ensures.no c.if-not-is_there.true) c.loop-file.invariant c.lost.ensures

pub loop-file-preserved : goal.loop-file-preserved
loop-file-preserved g c =
    let at = placed c.args.files.now c.loop-file.file-index c.file-item.result c.loop-file-test.true c.file-item.is in
    one_there c.args.online.now c.args.lists.now c.args.files.now c.loop-file.file-index c.file-item.result at (c.is_there.ensures.yes c.if-not-is_there.false) c.loop-file.invariant

pub returns-clause-none : goal.returns-clause-none
returns-clause-none g c =
    subst (All (IsThere c.args.online.now c.args.lists.now)) (take_all c.loop-file.file-index c.args.files.now c.loop-file-test.false) c.loop-file.invariant
