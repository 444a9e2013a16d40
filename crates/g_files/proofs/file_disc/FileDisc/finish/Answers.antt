use Rattle.std.proofs.lemmas.Result.{on_ok_weaker}
use Rattle.g_files.specs.Image.{durability_seen}
use Rattle.g_files.proofs.DurableBlocksLemmas.{blocks_synced, keeps_durable, keeps_syncable}
use Rattle.g_files.proofs.file_disc.FileDisc.finish.Goals as goal

pub returns-clause-durable : goal.returns-clause-durable
returns-clause-durable g c =
    let i = c.args.self.now.image in
    let new = c.finish.new.self in
    keeps_durable i.size new.size (durability_seen i) (durability_seen new) c.finish.result c.finish.ensures.size c.finish.ensures.durability

pub returns-clause-syncable : goal.returns-clause-syncable
returns-clause-syncable g c =
    let i = c.args.self.now.image in
    let new = c.finish.new.self in
    keeps_syncable i.size new.size (durability_seen i) (durability_seen new) c.finish.result c.finish.ensures.size c.finish.ensures.durability.kept

pub returns-clause-synced : goal.returns-clause-synced
returns-clause-synced g c =
    let new = c.finish.new.self in
    on_ok_weaker c.finish.result (λ synced is k. blocks_synced new.size k (durability_seen new) (synced is)) c.finish.ensures.synced
