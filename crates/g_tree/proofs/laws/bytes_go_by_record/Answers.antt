-- A row has the bytes of its record.
use Rattle.g_tree.proofs.LawLemmas.{same_bytes, other_bytes}
use Rattle.g_tree.proofs.laws.bytes_go_by_record.Goals as goal

pub returns : goal.returns
returns c = record {
  same_bytes = λ users files old new next same. same_bytes users files old new next same;
  other_bytes = λ users files old new next r is there same. other_bytes users files old new next r is there same;
}
