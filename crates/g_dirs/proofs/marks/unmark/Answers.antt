use Rattle.std.proofs.Common.{rules}
use Rattle.g_dirs.proofs.MarkLemmas.{unmarked}
use Rattle.g_dirs.proofs.marks.unmark.Goals as goal

pub returns : goal.returns
returns c = unmarked c.args.end c.args.blocks.now c.fill.new.self (c.fill.ensures.after (λ y is. search rules)) c.requires.within c.requires.behind
