use Rattle.std.proofs.Common.{subst}
use Rattle.g_plan.specs.SecondPass.{MayFit}
use Rattle.g_plan.proofs.FinishLemmas.{line-placed, line-refused}
use Rattle.g_plan.proofs.assembly.place_line.Goals as goal

pub returns-in-Some : goal.returns-in-Some
returns-in-Some c =
    line-placed c.args.source.now c.args.size c.args.line.now c.in-Some.form c.args.image.now c.place_form.new.image c.place_form.result c.in-Some.is c.place_form.ensures

pub returns-in-None : goal.returns-in-None
returns-in-None c = line-refused c.args.source.now c.args.size c.args.line.now c.args.image.now c.in-None.is

pub place_form-requires : goal.place_form-requires
place_form-requires c = subst MayFit c.in-Some.is c.requires
