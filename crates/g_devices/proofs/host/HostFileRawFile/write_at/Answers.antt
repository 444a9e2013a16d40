use Rattle.std.proofs.Common.{None}
use Rattle.g_files.proofs.UnseenLemmas.{unseen_writes}
use Rattle.g_devices.proofs.host.HostFileRawFile.write_at.Goals as goal

pub returns-clause-durability : goal.returns-clause-durability
returns-clause-durability c = unseen_writes c.args.at c.args.from.now None c.some_written-written.result
