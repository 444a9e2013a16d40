use Rattle.std.proofs.Common.{◌∙◌}
use Rattle.g_base.proofs.FieldLemmas.{number_taken}
use Rattle.g_base.proofs.reader.BlockReader.take_u24.Goals as goal

pub returns-clause-again : goal.returns-clause-again
returns-clause-again c = λ x rest fits is.
    let same = number_taken 3 x _ c.take_bytes.result.now c.take_bytes.new.self rest c.take_bytes.ensures.count c.take_bytes.ensures.all fits is in
    (c.read_u24.ensures ∙ same.0, same.1)
