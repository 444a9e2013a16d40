-- The file that the path names is what a call without a fault is granted.
use Rattle.std.proofs.Common.{refl, sym, ◌∙◌}
use Rattle.g_plain.specs.declared.calls.StoreCall.TheVariants.{Put}
use Rattle.g_plain.specs.PlainTree.{output_name}
use Rattle.g_plain.proofs.Fronts.{output_granted}
use Rattle.g_plain.proofs.refusals.output.Goals as goal

pub returns-in-None : goal.returns-in-None
returns-in-None g c =
    let t = g.Q.Questions.tree c.args.questions.now in
    let who = c.args.who.now in
    let path = c.args.path.now in
    output_granted (g.Q.Questions.numbers c.args.questions.now) t who (Put path c.args.bytes.now) c.output-file.result (output_name t who path) c.output-file.ensures.named (sym c.in-None.is ∙ c.put_fault.ensures) refl
