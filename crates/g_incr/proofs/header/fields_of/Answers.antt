use Rattle.g_incr.proofs.HeaderLemmas.{header_read}
use Rattle.g_incr.proofs.header.fields_of.Goals as goal

pub returns : goal.returns
returns c = λ d is here.
    header_read d c.args.b.now c.new-reader.result c.take_bytes-letters.new.self c.take_u16-format.new.self c.take_u64-number.new.self c.take_u32-place.new.self c.take_u32-count.new.self c.take_u16-users.new.self
    c.take_u16-files.new.self c.take_u64-next_stamp.new.self c.take_bytes-letters.result.now c.take_u16-format.result _ is here c.new-reader.ensures c.take_bytes-letters.ensures.all c.take_bytes-letters.ensures.count
    c.take_u16-format.ensures.again c.take_u64-number.ensures.again c.take_u32-place.ensures.again c.take_u32-count.ensures.again c.take_u16-users.ensures.again c.take_u16-files.ensures.again c.take_u64-next_stamp.ensures.again
