use Rattle.std.proofs.Common.{arith, refl}
use Rattle.g_lang.specs.LineReader.{params_read}
use Rattle.g_verbs.proofs.WalkLemmas.{wanted}
use Rattle.g_verbs.specs.Verbs.{verb_forms}
use Rattle.g_verbs.specs.declared.form.Form.TheVariants as form
use Rattle.g_verbs.specs.declared.verb.Verb.TheVariants as verb
use Rattle.g_verbs.proofs.asked.file_user_modes.Goals as goal

pub file_at-requires : goal.file_at-requires
file_at-requires c = wanted (verb_forms verb.TrapGo) (params_read c.args.params.now) 0 form.File refl (omega arith) c.requires

pub user_at-requires : goal.user_at-requires
user_at-requires c = wanted (verb_forms verb.TrapGo) (params_read c.args.params.now) 1 form.User refl (omega arith) c.requires
