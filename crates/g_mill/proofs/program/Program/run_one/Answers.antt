use Rattle.std.proofs.Common.{sym, ◌∙◌}
use Rattle.g_mill.proofs.RunningLaws.{runs_one}
use Rattle.g_mill.proofs.program.Program.run_one.Goals as goal

pub returns : goal.returns
returns c = runs_one c.quick.result c.args.at c.args.self.now c.quick.new.self c.in-Some.word (sym c.operand_at.ensures ∙ c.in-Some.is) c.quick.ensures
