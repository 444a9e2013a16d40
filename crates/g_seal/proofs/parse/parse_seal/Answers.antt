use Rattle.std.proofs.Common.{Err}
use Rattle.g_seal.proofs.EntryLemmas.{accepted}
use Rattle.g_seal.proofs.ParseLemmas.{read_seal}
use Rattle.g_seal.proofs.parse.parse_seal.Goals as goal

pub returns-in-Ok-clause-accepted : goal.returns-in-Ok-clause-accepted
returns-in-Ok-clause-accepted c = λ dumps files entries is.
    let text = c.args.text.now in
    accepted c.lines_in.result text dumps files (read_seal text _ c.lines_in.result c.in-Ok.ensures.sum c.lines_in.ensures.lines) c.lines_in.ensures.entries (c.lines_in.ensures.refused text c.in-Ok.ensures.sum) entries is

pub returns-in-Err-clause-accepted : goal.returns-in-Err-clause-accepted
returns-in-Err-clause-accepted c = λ dumps files entries is. accepted (Err c.in-Err.fault) c.args.text.now dumps files tt tt c.in-Err.ensures.refused entries is
