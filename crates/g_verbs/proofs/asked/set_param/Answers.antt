use Rattle.std.proofs.Common.{List, arith, refl, subst, sym, ℕ}
use Rattle.g_lang.specs.LineReader.{params_read}
use Rattle.g_verbs.proofs.WalkLemmas.{wanted}
use Rattle.g_verbs.specs.Tables.{IsThere}
use Rattle.g_verbs.specs.Verbs.{verb_forms}
use Rattle.g_verbs.specs.declared.form.Form.TheVariants as form
use Rattle.g_verbs.specs.declared.verb.Verb.TheVariants as verb
use Rattle.g_verbs.proofs.asked.set_param.Goals as goal

pub letter_at-letter-requires : goal.letter_at-letter-requires
letter_at-letter-requires c =
    subst (λ (ts : List ℕ). IsThere form.Letter (params_read ts) 0) (sym c.as_slice.ensures)
    (wanted (verb_forms verb.SetParam) (params_read c.args.params) 0 form.Letter refl (omega arith) c.requires)
