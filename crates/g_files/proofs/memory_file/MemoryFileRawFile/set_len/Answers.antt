use Rattle.std.proofs.Common.{List, ℕ, Some, subst}
use Rattle.g_files.specs.Durability.{SetsLength, stored}
use Rattle.g_files.proofs.SectorLemmas.{stored_sets}
use Rattle.g_files.proofs.memory_file.MemoryFileRawFile.set_len.Goals as goal

pub returns-then-fires-clause-durability : goal.returns-then-fires-clause-durability
returns-then-fires-clause-durability c =
    let old = c.args.self.now.bytes.items in
    stored_sets old c.fires.new.self.bytes.items c.args.self.now.each c.args.len _ tt c.fires.ensures.bytes

pub returns-clause-durability : goal.returns-clause-durability
returns-clause-durability c =
    let f = c.fires.new.self in
    let new = c.resize-set.new.bytes.items in
    subst (λ (old : List ℕ). SetsLength c.args.len (Some old) (Some new) (stored old) (stored new) c.resize-set.result) c.fires.ensures.bytes
    (stored_sets f.bytes.items new f.each c.args.len c.resize-set.result c.resize-set.ensures.cut c.resize-set.ensures.kept)
