use Rattle.std.proofs.Common.{sym, ◌∙◌}
use Rattle.g_lang.specs.LineReader.{params_read}
use Rattle.g_verbs.proofs.AloneLemmas.{two_files}
use Rattle.g_verbs.proofs.read.two_files.Goals as goal

pub returns-in-Some-file-2 : goal.returns-in-Some-file-2
returns-in-Some-file-2 c =
    two_files (params_read c.args.rest.now) c.in-Some.both.0.now c.in-Some.both.1.now c.in-Some-file.from c.in-Some-file-2.to c.in-Some.ensures (sym c.in-Some-file.is ∙ c.file.ensures)
    (sym c.in-Some-file-2.is ∙ c.file-in-Some-file.ensures)
