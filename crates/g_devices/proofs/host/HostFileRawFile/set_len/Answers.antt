use Rattle.std.proofs.Common.{None}
use Rattle.g_files.proofs.UnseenLemmas.{unseen_sets}
use Rattle.g_devices.proofs.host.HostFileRawFile.set_len.Goals as goal

pub returns-clause-durability : goal.returns-clause-durability
returns-clause-durability c = unseen_sets c.args.len None None c.set_len-set.result
