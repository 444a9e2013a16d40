use Rattle.std.proofs.Common.{List, ℕ, subst, sym}
use Rattle.std.proofs.lemmas.Option.{same_Some}
use Rattle.g_files.specs.Durability.{AreSectorsSynced, stored}
use Rattle.g_files.proofs.SectorLemmas.{stored_synced, stored_syncs_at}
use Rattle.g_files.proofs.memory_file.MemoryFileRawFile.sync.Goals as goal

pub returns-then-fires-clause-durability : goal.returns-then-fires-clause-durability
returns-then-fires-clause-durability c = stored_syncs_at c.args.self.now.bytes.items c.fires.new.self.bytes.items _ c.fires.ensures.bytes

pub returns-clause-durability : goal.returns-clause-durability
returns-clause-durability c = stored_syncs_at c.args.self.now.bytes.items c.fires.new.self.bytes.items _ c.fires.ensures.bytes

pub returns-clause-synced : goal.returns-clause-synced
returns-clause-synced c = λ bytes is.
    let old = c.args.self.now.bytes.items in
    subst (λ (new : List ℕ). AreSectorsSynced bytes (stored old) (stored new)) (sym c.fires.ensures.bytes) (stored_synced old bytes (same_Some old bytes is))
