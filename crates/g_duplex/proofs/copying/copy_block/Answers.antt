use Rattle.std.proofs.Common.{subst}
use Rattle.g_tape.specs.Rack.{Reading, Writing}
use Rattle.g_duplex.specs.Calls.{Answer}
use Rattle.g_duplex.proofs.CopyLemmas.{copy_done, copy_unread, copy_unwritten}
use Rattle.g_duplex.proofs.copying.copy_block.Goals as goal

pub returns-in-Err : goal.returns-in-Err
returns-in-Err g c =
    let reading = subst (λ (x : Answer). Reading c.args.serial c.args.k (g.T.Tapes.rack c.args.from.now) x c.read.new.into (g.T.Tapes.rack c.read.new.self)) c.in-Err.is c.read.ensures in
    copy_unread c.args.serial c.args.k (g.T.Tapes.rack c.args.from.now) (g.T.Tapes.rack c.args.to.now) (g.T.Tapes.rack c.read.new.self) c.in-Err.field-0 c.read.new.into c.requires.readable reading

pub returns-in-Ok-write : goal.returns-in-Ok-write
returns-in-Ok-write g c =
    let reading = subst (λ (x : Answer). Reading c.args.serial c.args.k (g.T.Tapes.rack c.args.from.now) x c.read.new.into (g.T.Tapes.rack c.read.new.self)) c.in-Ok.is c.read.ensures in
    let writing = subst (λ (x : Answer). Writing c.args.serial c.args.k c.read.new.into (g.T.Tapes.rack c.args.to.now) x (g.T.Tapes.rack c.write.new.self)) c.in-Ok-write.is c.write.ensures.written in
    copy_done c.args.serial c.args.k (g.T.Tapes.rack c.args.from.now) (g.T.Tapes.rack c.args.to.now) (g.T.Tapes.rack c.read.new.self) (g.T.Tapes.rack c.write.new.self) c.in-Ok.field-0 c.in-Ok-write.field-0
    c.read.new.into reading writing

pub returns-in-Err-write : goal.returns-in-Err-write
returns-in-Err-write g c =
    let reading = subst (λ (x : Answer). Reading c.args.serial c.args.k (g.T.Tapes.rack c.args.from.now) x c.read.new.into (g.T.Tapes.rack c.read.new.self)) c.in-Ok.is c.read.ensures in
    let writing = subst (λ (x : Answer). Writing c.args.serial c.args.k c.read.new.into (g.T.Tapes.rack c.args.to.now) x (g.T.Tapes.rack c.write.new.self)) c.in-Err-write.is c.write.ensures.written in
    copy_unwritten c.args.serial c.args.k (g.T.Tapes.rack c.args.from.now) (g.T.Tapes.rack c.args.to.now) (g.T.Tapes.rack c.read.new.self) (g.T.Tapes.rack c.write.new.self) c.in-Ok.field-0 c.in-Err-write.field-0
    c.read.new.into c.requires.writable reading writing
