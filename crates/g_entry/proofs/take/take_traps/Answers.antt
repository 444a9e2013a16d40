use Rattle.std.proofs.Common.{length}
use Rattle.g_entry.specs.FileFields.{pair_fields}
use Rattle.g_entry.proofs.FieldLemmas.{length-pair_fields, traps_taken}
use Rattle.g_entry.proofs.take.take_traps.Goals as goal

pub returns-clause-again : goal.returns-clause-again
returns-clause-again c = λ traps rest others sets old.
    let got = traps_taken c.args.reader.now c.take_u8-owner.new.self c.take_u8-count.new.self c.take_bytes-field.new.self c.take_bytes-field.result.now (pair_fields traps.others) rest
    c.take_u8-owner.result c.take_u8-count.result traps.owner (length traps.others) c.take_u8-owner.ensures c.take_u8-count.ensures c.take_bytes-field.ensures.all c.take_bytes-field.ensures.count
    (length-pair_fields traps.others others.few) old in
    (c.traps_of.ensures traps others sets got.0 got.1 got.2, got.3)
