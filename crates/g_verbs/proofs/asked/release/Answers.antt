use Rattle.std.proofs.Common.{arith, refl}
use Rattle.g_lang.specs.LineReader.{params_read}
use Rattle.g_verbs.proofs.WalkLemmas.{wanted}
use Rattle.g_verbs.specs.Verbs.{verb_forms}
use Rattle.g_verbs.specs.declared.form.Form.TheVariants as form
use Rattle.g_verbs.specs.declared.verb.Verb.TheVariants as verb
use Rattle.g_verbs.proofs.asked.release.Goals as goal

pub unit_at-requires : goal.unit_at-requires
unit_at-requires c = wanted (verb_forms verb.Release) (params_read c.args.params.now) 0 form.Unit refl (omega arith) c.requires
