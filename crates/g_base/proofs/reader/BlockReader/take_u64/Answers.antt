use Rattle.std.proofs.Common.{◌∙◌, ap, drop, sym}
use Rattle.std.proofs.lemmas.List.{drop_at}
use Rattle.g_base.proofs.FieldLemmas.{number_taken}
use Rattle.g_base.proofs.reader.BlockReader.take_u64.Goals as goal

pub returns-clause-again : goal.returns-clause-again
returns-clause-again c = λ x rest fits is.
    let same = number_taken 8 x _ c.take_bytes.result.now c.take_bytes.new.self rest c.take_bytes.ensures.count c.take_bytes.ensures.all fits is in
    (c.read_u64.ensures ∙ same.0, same.1)

pub returns-clause-left : goal.returns-clause-left
returns-clause-left c = sym (ap (drop 8) c.take_bytes.ensures.all ∙ drop_at _ _ 8 c.take_bytes.ensures.count)
