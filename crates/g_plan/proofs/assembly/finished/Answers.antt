use Rattle.std.proofs.Common.{sym, ◌∙◌}
use Rattle.g_plan.proofs.FinishLemmas.{finish, finish-none}
use Rattle.g_plan.proofs.assembly.finished.Goals as goal

pub returns-in_ok-program_file-in-Some : goal.returns-in_ok-program_file-in-Some
returns-in_ok-program_file-in-Some c = λ text is.
    finish text c.in_ok-program_file-in-Some.field-0 c.args.source.now c.in-Some.size c.args.image.now is (sym c.size.ensures ∙ c.in-Some.is) c.requires
    c.in_ok-program_file-in-Some.ensures

pub returns-in-None : goal.returns-in-None
returns-in-None c = λ text is. (finish-none text c.args.source.now c.args.image.now is (sym c.size.ensures ∙ c.in-None.is) c.requires, tt)
