use Rattle.g_entry.proofs.FieldLemmas.{word_again}
use Rattle.g_entry.proofs.take.take_user.Goals as goal

pub returns-clause-again : goal.returns-clause-again
returns-clause-again c =
    word_again c.args.reader.now c.take_u8-len.new.self c.take_bytes-field.new.self c.take_bytes-field.result.now c.front_of.result.now c.take_u8-len.result c.new.result
    c.take_u8-len.ensures c.take_bytes-field.ensures.all c.take_bytes-field.ensures.count c.front_of.ensures c.new.ensures.word.1 c.new.ensures.value
