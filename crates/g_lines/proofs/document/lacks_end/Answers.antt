use Rattle.g_lines.proofs.DocumentLemmas.{has_end, lacks_end, some_text}
use Rattle.g_lines.proofs.document.lacks_end.Goals as goal

pub returns-clause-lacks : goal.returns-clause-lacks
returns-clause-lacks c = λ is. lacks_end c.args.text.now (some_text c.args.text.now c.is_empty.result c.is_empty.ensures c.if-is_empty.false) is

pub returns-clause-whole : goal.returns-clause-whole
returns-clause-whole c = λ is. has_end c.args.text.now (some_text c.args.text.now c.is_empty.result c.is_empty.ensures c.if-is_empty.false) is
