use Rattle.std.proofs.Common.{ℕ, ◌<◌}
use Rattle.std.specs.List.{slice_get}
use Rattle.g_lang.specs.LineReader.{params_read}
use Rattle.g_verbs.specs.Forms.{IsGoodPlace}
use Rattle.g_verbs.specs.Tables.{forms_said}
use Rattle.g_verbs.proofs.form.Forms.first_wrong.Given as goal

-- the places so far are good
abbrev pub invariant-loop-place : goal.invariant-loop-place
invariant-loop-place l = (k : ℕ) → k < l.place → IsGoodPlace (forms_said l.self) k (slice_get (params_read l.text) k)
