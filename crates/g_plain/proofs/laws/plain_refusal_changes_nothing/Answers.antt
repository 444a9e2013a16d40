-- With a fault the tree after the call is the tree before it.
use Rattle.g_plain.proofs.StepAnswers.{refused_same}
use Rattle.g_plain.proofs.laws.plain_refusal_changes_nothing.Goals as goal

pub returns : goal.returns
returns c = refused_same
