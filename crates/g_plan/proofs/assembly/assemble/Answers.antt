use Rattle.g_lines.specs.Lines.{lines_of}
use Rattle.g_plan.proofs.FinishLemmas.{answer-of, source-fits}
use Rattle.g_plan.proofs.assembly.assemble.Goals as goal

pub fill-requires : goal.fill-requires
fill-requires c = source-fits (lines_of c.args.text.now) c.in_ok-source.source c.in_ok-source.ensures

pub returns-clause-answer : goal.returns-clause-answer
returns-clause-answer c = answer-of c.args.text.now c.in_ok-source.source c.in-Err.fault c.in_ok-source.ensures c.in-Err.ensures
