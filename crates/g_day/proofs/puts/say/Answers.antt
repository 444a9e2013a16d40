use Rattle.g_run_model.specs.Texts.{operator_line}
use Rattle.g_day.proofs.puts.say.Goals as goal

pub returns : goal.returns
returns g c = c.put_made.ensures (operator_line c.args.count c.args.what.now) c.line-made.ensures
