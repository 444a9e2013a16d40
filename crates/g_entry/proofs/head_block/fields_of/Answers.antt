use Rattle.g_entry.proofs.RecordLemmas.{head_read}
use Rattle.g_entry.proofs.head_block.fields_of.Goals as goal

pub returns : goal.returns
returns c = λ format h is here.
    head_read format h c.args.b.now c.new-reader.result c.take_bytes-letters.new.self c.take_u16-number.new.self c.take_u64-next_stamp.new.self c.take_u64-last_dump.new.self c.take_bytes-letters.result.now
    c.take_u16-number.result c.take_u64-next_stamp.result c.take_u64-last_dump.result c.take_intent-intent.result is here c.new-reader.ensures c.take_bytes-letters.ensures.all c.take_bytes-letters.ensures.count
    c.take_u16-number.ensures.again c.take_u64-next_stamp.ensures.again c.take_u64-last_dump.ensures.again c.take_intent-intent.ensures
