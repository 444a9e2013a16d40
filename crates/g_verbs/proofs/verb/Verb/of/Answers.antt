use Rattle.g_verbs.proofs.NameLemmas.{verb_behind}
use Rattle.g_verbs.proofs.verb.Verb.of.Goals as goal

pub returns-in-Some : goal.returns-in-Some
returns-in-Some c = verb_behind c.args.name.now c.in-Some.field-0-1.now c.in-Some.letter.now c.verbs_at.result.now c.named.result c.in-Some.ensures.cases.0 c.verbs_at.ensures c.named.ensures
