use Rattle.std.proofs.Common.{sym, ◌∙◌}
use Rattle.g_lang.specs.LineReader.{params_read}
use Rattle.g_verbs.proofs.AloneLemmas.{file_and_local}
use Rattle.g_verbs.proofs.read.file_and_local.Goals as goal

pub returns-in-Some-local : goal.returns-in-Some-local
returns-in-Some-local c =
    file_and_local (params_read c.args.rest.now) c.in-Some.both.0.now c.in-Some.both.1.now c.in-Some-file.file c.in-Some-local.to c.in-Some.ensures (sym c.in-Some-file.is ∙ c.file.ensures)
    (sym c.in-Some-local.is ∙ c.local.ensures)
