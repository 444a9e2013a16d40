use Rattle.std.proofs.Common.{Some, ap}
use Rattle.g_entry.specs.declared.file_rec.FileRec.{FileRec}
use Rattle.g_online.proofs.CloseNoteLemmas.{made_here, made_none}
use Rattle.g_online.proofs.closing.with_copy.Goals as goal

pub returns-then-pin-file-clause-some : goal.returns-then-pin-file-clause-some
returns-then-pin-file-clause-some c =
    made_here c.args.file.now _ c.args.pin.now.stamp c.args.pin.now.copy (ap (λ (r : FileRec). let s : FileRec = record r { tape = Some c.args.pin.now.copy } in s) c.copy.ensures) c.if-pin-file.true

pub returns-else-pin-file-clause-none : goal.returns-else-pin-file-clause-none
returns-else-pin-file-clause-none c = made_none c.args.file.now c.args.pin.now.stamp c.args.pin.now.copy c.if-pin-file.false
