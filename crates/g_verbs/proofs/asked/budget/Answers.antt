use Rattle.std.proofs.Common.{arith, refl}
use Rattle.g_lang.specs.LineReader.{params_read}
use Rattle.g_verbs.proofs.WalkLemmas.{wanted}
use Rattle.g_verbs.specs.Verbs.{verb_forms}
use Rattle.g_verbs.specs.declared.form.Form.TheVariants as form
use Rattle.g_verbs.specs.declared.verb.Verb.TheVariants as verb
use Rattle.g_verbs.proofs.asked.budget.Goals as goal

pub budget_at-kind-requires : goal.budget_at-kind-requires
budget_at-kind-requires c = wanted (verb_forms verb.Budget) (params_read c.args.params.now) 1 form.AnyAmount refl (omega arith) c.requires

pub user_at-requires : goal.user_at-requires
user_at-requires c = wanted (verb_forms verb.Budget) (params_read c.args.params.now) 0 form.User refl (omega arith) c.requires
