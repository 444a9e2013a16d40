use Rattle.std.proofs.Common.{[], arith, refl, ◌∷◌}
use Rattle.g_lang.specs.LineReader.{params_read}
use Rattle.g_verbs.proofs.WalkLemmas.{wanted}
use Rattle.g_verbs.specs.Forms.{just}
use Rattle.g_verbs.specs.declared.form.Form.TheVariants as form
use Rattle.g_verbs.proofs.asked.file_and_local.Goals as goal

pub file_at-requires : goal.file_at-requires
file_at-requires c = wanted (just (form.File ∷ form.Local ∷ [])) (params_read c.args.params.now) 0 form.File refl (omega arith) c.requires

pub local_at-requires : goal.local_at-requires
local_at-requires c = wanted (just (form.File ∷ form.Local ∷ [])) (params_read c.args.params.now) 1 form.Local refl (omega arith) c.requires
