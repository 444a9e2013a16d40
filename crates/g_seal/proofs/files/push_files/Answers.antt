use Rattle.std.proofs.Common.{arith}
use Rattle.g_look.proofs.ReadLemmas.{ok_not_err}
use Rattle.g_seal.proofs.LineLemmas.{all_files_there, file_next, no_files}
use Rattle.g_seal.proofs.files.push_files.Goals as goal

pub loop-file-init : goal.loop-file-init
loop-file-init g c = no_files c.args.dirs.now.users.items c.args.dirs.now.online.items c.args.dirs.now.files.items c.args.text.now (g.D.Disc.state c.args.disc.now) (g.T.Tapes.rack c.args.tapes.now)

pub returns-clause-text : goal.returns-clause-text
returns-clause-text g c = all_files_there _ _ _ _ c.loop-file.file-index c.args.text.now _ _ _ _ _ c.as_slice-file-items.ensures.value (omega arith) c.loop-file.invariant

pub loop-file-preserved : goal.loop-file-preserved
loop-file-preserved g c =
    file_next c.args.dirs.now.users.items c.args.dirs.now.online.items c.args.dirs.now.files.items _ c.loop-file.file-index c.file-item.result c.args.text.now c.loop-file.text c.push_file.new.text (g.D.Disc.state c.args.disc.now)
    (g.D.Disc.state c.loop-file.disc) (g.D.Disc.state c.push_file.new.disc) (g.T.Tapes.rack c.args.tapes.now) (g.T.Tapes.rack c.loop-file.tapes) (g.T.Tapes.rack c.push_file.new.tapes) c.as_slice-file-items.ensures.value (omega arith) c.file-item.is
    c.loop-file.invariant (ok_not_err _ _) (ok_not_err _ _) c.in-Ok.ensures.disc c.in-Ok.ensures.tapes c.in-Ok.ensures.text
