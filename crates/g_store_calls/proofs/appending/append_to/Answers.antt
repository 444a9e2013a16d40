use Rattle.std.proofs.Common.{false, true}
use Rattle.g_store_calls.proofs.AppendPartLemmas.{file_fits, file_on, rec_is}
use Rattle.g_store_calls.proofs.appending.append_to.Goals as goal

pub append_here-requires-clause-here : goal.append_here-requires-clause-here
append_here-requires-clause-here g c =
    file_on c.args.online.now c.args.number c.tree.result.now.files c.file_of-file.result c.tree.ensures.files c.file_of-file.ensures.value c.is_online.result true c.is_online.ensures c.if-is_online.true c.requires.used

pub append_here-requires-clause-fits : goal.append_here-requires-clause-fits
append_here-requires-clause-fits g c =
    file_fits c.args.online.now c.args.number c.tree.result.now.files c.file_of-file.result c.args.bytes.now c.tree.ensures.files c.file_of-file.ensures.value c.requires.fits c.requires.used

pub append_from_tape-requires-clause-away : goal.append_from_tape-requires-clause-away
append_from_tape-requires-clause-away g c =
    file_on c.args.online.now c.args.number c.tree.result.now.files c.file_of-file.result c.tree.ensures.files c.file_of-file.ensures.value c.is_online.result false c.is_online.ensures c.if-is_online.false c.requires.used

pub append_from_tape-requires-clause-fits : goal.append_from_tape-requires-clause-fits
append_from_tape-requires-clause-fits g c =
    file_fits c.args.online.now c.args.number c.tree.result.now.files c.file_of-file.result c.args.bytes.now c.tree.ensures.files c.file_of-file.ensures.value c.requires.fits c.requires.used

pub returns-then-is_online : goal.returns-then-is_online
returns-then-is_online g c = λ f there numbered.
    c.append_here.ensures f there (rec_is c.args.online.now c.args.number c.tree.result.now.files c.file_of-file.result c.tree.ensures.files c.file_of-file.ensures.value f there numbered) (g.T.Tapes.rack c.args.tapes.now)

pub returns-else-is_online : goal.returns-else-is_online
returns-else-is_online g c = λ f there numbered.
    c.append_from_tape.ensures f there (rec_is c.args.online.now c.args.number c.tree.result.now.files c.file_of-file.result c.tree.ensures.files c.file_of-file.ensures.value f there numbered)
