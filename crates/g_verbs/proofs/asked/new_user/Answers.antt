use Rattle.std.proofs.Common.{arith, refl}
use Rattle.g_plain.specs.declared.calls.BudgetKind.TheVariants as kind
use Rattle.g_lang.specs.LineReader.{params_read}
use Rattle.g_verbs.proofs.WalkLemmas.{given, wanted}
use Rattle.g_verbs.specs.Verbs.{verb_forms}
use Rattle.g_verbs.specs.declared.form.Form.TheVariants as form
use Rattle.g_verbs.specs.declared.verb.Verb.TheVariants as verb
use Rattle.g_verbs.proofs.asked.new_user.Goals as goal

pub user_at-requires : goal.user_at-requires
user_at-requires c = wanted (verb_forms verb.NewUser) (params_read c.args.params.now) 0 form.User refl (omega arith) c.requires

pub amount_at-requires : goal.amount_at-requires
amount_at-requires c = wanted (verb_forms verb.NewUser) (params_read c.args.params.now) 1 (form.Amount kind.Space) refl (omega arith) c.requires

pub amount_at-requires-2 : goal.amount_at-requires-2
amount_at-requires-2 c = wanted (verb_forms verb.NewUser) (params_read c.args.params.now) 2 (form.Amount kind.Time) refl (omega arith) c.requires

pub money_if_at-requires : goal.money_if_at-requires
money_if_at-requires c = given (verb_forms verb.NewUser) (params_read c.args.params.now) 3 (form.Amount kind.Money) refl c.requires
