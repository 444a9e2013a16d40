use Rattle.std.proofs.Common.{◌≡◌, true}
use Rattle.std.proofs.lemmas.Result.{err_from_is_err_and}
use Rattle.g_files.proofs.GrowthLemmas.{appends_after, appends_failed, appends_ok, err_not_ok}
use Rattle.g_files.proofs.SectorLemmas.{grows_then}
use Rattle.g_files.proofs.block_calls.put_last.Goals as goal

pub returns-then-put_once-clause-durability : goal.returns-then-put_once-clause-durability
returns-then-put_once-clause-durability g c =
    let durability = g.F.RawFile.durability in
    appends_ok c.args.k (durability c.args.file.now) (durability c.put_once.new.file) (c.put_once.result ≡ true) _ (λ ok. c.if-put_once.true) c.put_once.ensures.durability

pub returns-in_err-extend-clause-durability : goal.returns-in_err-extend-clause-durability
returns-in_err-extend-clause-durability g c =
    let durability = g.F.RawFile.durability in
    let k = c.args.k in
    let old = durability c.args.file.now in
    let mid = durability c.put_once.new.file in
    let new = durability c.extend.new.file in
    appends_failed k old new _ (let gave = err_from_is_err_and c.from_residual.result c.from_residual.ensures.1 in err_not_ok c.from_residual.result gave.0 gave.1) (grows_then k old.remnants mid.remnants new.remnants c.put_once.ensures.durability.grows c.extend.ensures.grows)
    (λ j before was. c.extend.ensures.syncable j before (c.put_once.ensures.durability.front j before was))

pub returns-clause-durability : goal.returns-clause-durability
returns-clause-durability g c =
    let durability = g.F.RawFile.durability in
    let k = c.args.k in
    let old = durability c.args.file.now in
    let mid = durability c.put_once.new.file in
    let next = durability c.extend.new.file in
    let new = durability c.fill.new.file in
    appends_after k old next new _ (grows_then k old.remnants mid.remnants next.remnants c.put_once.ensures.durability.grows c.extend.ensures.grows)
    (λ j before was. c.extend.ensures.syncable j before (c.put_once.ensures.durability.front j before was)) c.in_ok-extend.ensures.sized c.fill.ensures.durability
