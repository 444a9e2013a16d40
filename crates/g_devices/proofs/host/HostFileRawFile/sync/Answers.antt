use Rattle.g_files.proofs.UnseenLemmas.{unseen_synced, unseen_syncs}
use Rattle.g_devices.proofs.host.HostFileRawFile.sync.Goals as goal

pub returns-clause-durability : goal.returns-clause-durability
returns-clause-durability c = unseen_syncs c.sync_data-synced.result

pub returns-clause-synced : goal.returns-clause-synced
returns-clause-synced c = unseen_synced c.sync_data-synced.result
