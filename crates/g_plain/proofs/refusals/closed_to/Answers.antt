-- Missing users and files are checked before closed modes.
use Rattle.std.proofs.Common.{[], ◌∷◌, not, sym, ◌∙◌}
use Rattle.g_plain.specs.declared.faults.StoreFault.TheVariants.{Trapped}
use Rattle.g_plain.specs.PlainTree.{is_allowed, file_row, input_name}
use Rattle.g_plain.specs.PlainStep.{input_checks}
use Rattle.g_plain.proofs.Fronts.{front_fault}
use Rattle.g_plain.proofs.refusals.closed_to.Goals as goal

pub returns-then-is_some : goal.returns-then-is_some
returns-then-is_some g c =
    let t = g.Q.Questions.tree c.args.questions.now in
    let who = c.args.who.now in
    let full = input_name t who c.args.path.now in
    front_fault (input_checks t who c.args.path.now) ((not (is_allowed (file_row t full) full who c.args.mode), Trapped c.args.mode) ∷ []) c.missing-absent.result c.missing-absent.ensures (sym c.is_some.ensures ∙ c.if-is_some.true)
