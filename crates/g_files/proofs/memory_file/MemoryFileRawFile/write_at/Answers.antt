use Rattle.std.proofs.Common.{ℕ, List, refl, subst, take}
use Rattle.g_files.specs.Calls.{HasWritten, IsMixed}
use Rattle.g_files.proofs.BytesLemmas.{AreBytes-take}
use Rattle.g_files.proofs.MemoryLemmas.{changes_some, torn_part, written_bytes, written_part}
use Rattle.g_files.proofs.SectorLemmas.{stored_writes_at, written_first}
use Rattle.g_files.proofs.memory_file.MemoryFileRawFile.write_at.Goals as goal

pub returns-then-not-fires-clause-written : goal.returns-then-not-fires-clause-written
returns-then-not-fires-clause-written c =
    let from = c.args.from.now in
    let new = c.write_bytes-written.new.bytes.items in
    let written = c.write_bytes-written.ensures in
    changes_some c.args.self.now.bytes.items new (subst (λ (old : List ℕ). HasWritten c.args.at from c.write_bytes-written.result old new)
    c.fires.ensures.bytes (written_part c.args.at c.min-few.result from c.fires.new.self.bytes.items new c.write_bytes-written.result
    written.count written.written written.kept))

pub invariant_of-self-2 : goal.invariant_of-self-2
invariant_of-self-2 c =
    let from = c.args.from.now in
    let written = c.write_bytes-torn.ensures in record {
      each = written_bytes c.args.at (take c.min-few-2.result from) c.fires.new.self.bytes.items c.write_bytes-torn.new.bytes.items
          c.write_bytes-torn.result written.written written.kept (AreBytes-take c.min-few-2.result from c.requires.bytes) c.fires.new.self.each;
      moves = c.fires.new.self.moves;
    }

pub returns-clause-written : goal.returns-clause-written
returns-clause-written c =
    let from = c.args.from.now in
    let new = c.write_bytes-torn.new.bytes.items in
    let written = c.write_bytes-torn.ensures in
    changes_some c.args.self.now.bytes.items new (subst (λ (old : List ℕ). IsMixed c.args.at from old new)
    c.fires.ensures.bytes (torn_part c.args.at c.min-few-2.result from c.fires.new.self.bytes.items new c.write_bytes-torn.result
    written.written written.kept))

pub returns-then-not-fires-clause-durability : goal.returns-then-not-fires-clause-durability
returns-then-not-fires-clause-durability c =
    let from = c.args.from.now in
    let old = c.args.self.now.bytes.items in
    let f = c.fires.new.self in
    let new = c.write_bytes-written.new.bytes.items in
    let written = c.write_bytes-written.ensures in
    let first = written_first c.args.at c.min-few.result from f.bytes.items new c.write_bytes-written.result written.count written.written written.kept in
    stored_writes_at old f.bytes.items new c.args.at first.0 from _ f.each c.fires.ensures.bytes (c.requires.within old refl) first.1

pub returns-clause-durability : goal.returns-clause-durability
returns-clause-durability c =
    let from = c.args.from.now in
    let old = c.args.self.now.bytes.items in
    let f = c.fires.new.self in
    let new = c.write_bytes-torn.new.bytes.items in
    let written = c.write_bytes-torn.ensures in
    let first = written_first c.args.at c.min-few-2.result from f.bytes.items new c.write_bytes-torn.result written.count written.written written.kept in
    stored_writes_at old f.bytes.items new c.args.at first.0 from _ f.each c.fires.ensures.bytes (c.requires.within old refl) first.1
