use Rattle.g_entry.proofs.ComingLemmas.{come_one}
use Rattle.g_entry.proofs.compare.next_bytes_equal.Goals as goal

pub returns : goal.returns
returns c = come_one c.args.bytes.now c.take_bytes-taken.result.now c.args.reader.now c.take_bytes-taken.new.self c.is_same.result c.take_bytes-taken.ensures.all c.take_bytes-taken.ensures.count c.is_same.ensures
