use Rattle.std.proofs.Common.{[], ◌∷◌, ◌++◌, append_assoc, sym, ◌∙◌}
use Rattle.std.proofs.lemmas.List.{append-nil}
use Rattle.g_lines.proofs.LineLemmas.{lines_of-split, lines_of-whole}
use Rattle.g_memory_console.proofs.memory.first_line.Goals as goal

pub returns-in-Some-clause-lines : goal.returns-in-Some-clause-lines
returns-in-Some-clause-lines c = lines_of-split c.args.text.now c.in-Some.line.now c.in-Some.after.now c.in-Some.ensures.split.0 c.in-Some.ensures.split.1

pub returns-in-Some-clause-after : goal.returns-in-Some-clause-after
returns-in-Some-clause-after c = (c.in-Some.line.now ++ 10 ∷ [], c.in-Some.ensures.split.0 ∙ sym (append_assoc c.in-Some.line.now (10 ∷ []) c.in-Some.after.now))

pub returns-in-None-clause-lines : goal.returns-in-None-clause-lines
returns-in-None-clause-lines c = lines_of-whole c.args.text.now c.requires c.in-None.ensures.split

pub returns-in-None-clause-after : goal.returns-in-None-clause-after
returns-in-None-clause-after c = (c.args.text.now, sym (append-nil c.args.text.now))
