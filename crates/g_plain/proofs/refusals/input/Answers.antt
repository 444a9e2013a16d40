-- The file that the path names is what a call without a fault is granted.
use Rattle.std.proofs.Common.{sym, ap, ◌∙◌}
use Rattle.g_plain.specs.declared.refusals.CallName.TheVariants.{Input}
use Rattle.g_plain.specs.PlainTree.{input_name}
use Rattle.g_plain.proofs.Fronts.{input_granted}
use Rattle.g_plain.proofs.refusals.input.Goals as goal

pub input_fault-requires-clause-named : goal.input_fault-requires-clause-named
input_fault-requires-clause-named g c = ap (λ f. Input f.full) c.input-file.ensures.named ∙ c.requires.path

pub returns-in-None : goal.returns-in-None
returns-in-None g c =
    let t = g.Q.Questions.tree c.args.questions.now in
    let who = c.args.who.now in
    input_granted (g.Q.Questions.numbers c.args.questions.now) t who c.args.call.now c.input-file.result (input_name t who c.args.path.now) c.input-file.ensures.named (sym c.in-None.is ∙ c.input_fault.ensures) c.requires.path
