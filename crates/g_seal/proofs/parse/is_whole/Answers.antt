use Rattle.g_lines.proofs.DocumentLemmas.{some_text}
use Rattle.g_seal.proofs.ParseLemmas.{ended_whole, whole_ended}
use Rattle.g_seal.proofs.parse.is_whole.Goals as goal

pub returns-else-is_empty : goal.returns-else-is_empty
returns-else-is_empty c = (
  λ yes. let ends = c.is_ended.ensures.ended yes in ended_whole c.args.text.now ends.0 ends.1,
  λ whole. whole_ended c.is_ended.result c.args.text.now c.is_ended.ensures.not (some_text c.args.text.now c.is_empty.result c.is_empty.ensures c.if-is_empty.false) whole,
)
