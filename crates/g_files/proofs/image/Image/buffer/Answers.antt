use Rattle.std.proofs.Common.{◌*◌, arith, sym, ◌∙◌}
use Rattle.g_base.specs.declared.fault.WriteFailed.{WriteFailed}
use Rattle.g_files.proofs.CallLemmas.{changes_behind, on_ok_at}
use Rattle.g_files.proofs.ImageLemmas.{seen_more}
use Rattle.g_files.proofs.image.Image.buffer.Goals as goal

pub returns-clause-written : goal.returns-clause-written
returns-clause-written g c =
    let i = c.make_room.new.self in
    let next = on_ok_at c.make_room.result (sym c.is_err.ensures.value ∙ c.if-is_err.false) c.make_room.ensures.next in
    rw c.push.ensures (changes_behind c.make_room.ensures.same
    (seen_more WriteFailed i.buffered.at (512 * c.args.k) (512 * i.size) i.buffered.bytes c.args.block.now (g.F.RawFile.content i.file) i.sized
    (omega arith) next))
