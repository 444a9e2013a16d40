use Rattle.std.proofs.Common.{[], ◌++◌, ◌∷◌}
use Rattle.std.specs.Prelude.{codes}
use Rattle.g_monitor.specs.Refusals.{fault_line}
use Rattle.g_look.proofs.PushLemmas.{last_more, then_more}
use Rattle.g_outlook.proofs.warning.push_fault_line.Goals as goal

pub returns : goal.returns
returns c =
    last_more _ c.args.text.now (codes "george: a RESTORE would be refused: " ++ fault_line c.args.fault.now) (10 ∷ []) _ _
    (then_more c.args.text.now (codes "george: a RESTORE would be refused: ") (fault_line c.args.fault.now) _ _ c.in_ok-extend.ensures.ok c.in_ok-push_fault.ensures) c.extend-2.ensures.ok
